-- Laws of formats: reading finds exactly what bytes spell, and fails exactly where the first field is broken.
use Rattle.std.proofs.Common.{◌≡◌, ◌⊎◌, ⊎_elim, inl, inr, ℕ, zero, suc, ◌+◌, ◌-◌, ◌≤◌, Bool, true, false, cond, eqb, List, [], ◌∷◌, ◌++◌, length, take, drop, Result, Ok, Err, refl, sym, ap, subst, ◌∙◌, arith}
use Rattle.std.specs.Prelude.{IsTrue}
use Rattle.std.specs.Int.{w64, from_be_bytes, to_be_bytes}
use Rattle.std.proofs.lemmas.Bool.{cases_lt, lt-ltb, le-ltb}
use Rattle.std.proofs.lemmas.List.{take_at, drop_at, take-append-drop, length-append, length-take, get_or-take, get_or-drop, get_or_past, nil_from_length}
use Rattle.std.proofs.lemmas.Nat.{be_bytes_8, from_be_bytes-to_be_bytes_8}
use Rattle.std.proofs.Math.Dec.{eqb-suc-zero}
use Rattle.alta_codec.specs.declared.number.CodeFault.{CodeFault}
use Rattle.alta_codec.specs.Numbers.{number_bytes, number_from}
use Rattle.alta_format.specs.Format.{Kind, packed, byte, wide, Format, ends, end_field, number_field, text_field, spelled, HasNumber, HasText, Spells, IsBroken, ◌>>=◌, packed_from, number_of, text_of, read, followed_by, AreBytes, FirstBroken, placed, part}
use Rattle.alta_codec.proofs.Numerals.{number_read, reads_number}
pub use Rattle.alta_codec.proofs.ByteLaws.{AreBytes-rest, AreBytes-take, AreBytes-drop}

-- ---- small tools

abbrev pub done : {A : Type 0} → A → Result A ℕ
done x = Ok x

abbrev pub failed : {A : Type 0} → ℕ → Result A ℕ
failed left = Err left

pub ok_is : {A : Type 0} (x y : A) → done x ≡ done y → x ≡ y
ok_is x y e = cc

pub err_is : {A : Type 0} (a b : ℕ) → failed {A = A} a ≡ failed b → a ≡ b
err_is a b e = cc

pub ok_err : {A : Type 0} (r : Result A ℕ) (x : A) (left : ℕ) → r ≡ done x → r ≡ failed left → ⊥
ok_err (Ok y) x left e f = absurd cc
ok_err (Err l) x left e f = absurd cc

seen : {A : Type 0} (r : Result A ℕ) → ((x : A) × (r ≡ done x)) ⊎ ((left : ℕ) × (r ≡ failed left))
seen (Ok x) = inl (x, refl)
seen (Err left) = inr (left, refl)

pub tested : (b : Bool) → IsTrue b ⊎ (b ≡ false)
tested true = inl refl
tested false = inr refl

pub if_yes : {A : Type 0} (b : Bool) (x y : A) → IsTrue b → cond b x y ≡ x
if_yes true x y h = refl
if_yes false x y h = absurd cc

pub if_no : {A : Type 0} (b : Bool) (x y : A) → b ≡ false → cond b x y ≡ y
if_no true x y h = absurd cc
if_no false x y h = refl

cases_eqb : (n : ℕ) → (n ≡ 0) ⊎ (eqb n 0 ≡ false)
cases_eqb zero = inl refl
cases_eqb (suc n) = inr (eqb-suc-zero n)

pub not_both : (b : Bool) → IsTrue b → b ≡ false → ⊥
not_both b h e = absurd cc

eqb_is : (n : ℕ) → IsTrue (eqb n 0) → n ≡ 0
eqb_is n holds = ⊎_elim (λ e. e) (λ fails. absurd (not_both (eqb n 0) holds fails)) (cases_eqb n)

-- ---- one field: what was taken stands there, what stands there is taken, and a fault is at its front

record IsField {U : Type 0} (bytes : List ℕ) (found : Result (U × List ℕ) ℕ) (Has : U → List ℕ → Type 0) : Type 0 where
  takes : (v : U) (rest : List ℕ) → found ≡ done (v, rest) → Has v rest
  again : (v : U) (rest : List ℕ) → Has v rest → found ≡ done (v, rest)
  fails : (left : ℕ) → found ≡ failed left → left ≡ length bytes
  behind : (v : U) (rest : List ℕ) → Has v rest → AreBytes rest

packed_ok : (bytes : List ℕ) (r : Result (ℕ × ℕ) CodeFault) (n : ℕ) (rest : List ℕ) → packed_from bytes r ≡ done (n, rest) → (next : ℕ) × (r ≡ Ok (n, next)) × (drop next bytes ≡ rest)
packed_ok bytes (Ok x) n rest e =
    let f = ok_is (x.0, drop x.1 bytes) (n, rest) e in
    let first : x.0 ≡ n = ap (λ (p : ℕ × List ℕ). p.0) f in
    (x.1, ap (λ (k : ℕ). Ok (k, x.1)) first, ap (λ (p : ℕ × List ℕ). p.1) f)
packed_ok bytes (Err d) n rest e = absurd cc

packed_err : (bytes : List ℕ) (r : Result (ℕ × ℕ) CodeFault) (left : ℕ) → packed_from bytes r ≡ failed left → left ≡ length bytes
packed_err bytes (Ok x) left e = absurd cc
packed_err bytes (Err d) left e = cc

number_of_takes : (kind : Kind) (bytes : List ℕ) (n : ℕ) (rest : List ℕ) → AreBytes bytes → number_of kind bytes ≡ done (n, rest) → HasNumber kind bytes n rest
unfolding number_of
number_of_takes packed bytes n rest fits e =
    let (next, got, behind) = packed_ok bytes (number_from 9 0 bytes) n rest e in
    let found = number_read 0 bytes n next (λ i within. fits i) got in
    let from : next - 0 ≡ next = omega arith in
    record { below = found.small; parts = found.spelled ∙ ap (λ (k : ℕ). number_bytes n ++ drop k bytes) from ∙ ap (λ (r : List ℕ). number_bytes n ++ r) behind }
number_of_takes byte [] n rest fits e = absurd cc
number_of_takes byte (b ∷ bytes) n rest fits e =
    let f = ok_is (b, bytes) (n, rest) e in
    subst (λ (p : ℕ × List ℕ). HasNumber byte (b ∷ bytes) p.0 p.1) f (record { below = fits 0; parts = refl })
number_of_takes wide bytes n rest fits e =
    ⊎_elim (λ short. let f = rw (lt-ltb (length bytes) 8 short) at e in absurd cc)
    (λ long.
    let f = rw (le-ltb (length bytes) 8 long) at e in
    let g = ok_is (from_be_bytes w64 (take 8 bytes), drop 8 bytes) (n, rest) f in
    let front = AreBytes-take 8 bytes fits in
    let len : length (take 8 bytes) ≡ 8 = omega (arith, length-take 8 bytes, long) in
    subst (λ (p : ℕ × List ℕ). HasNumber wide bytes p.0 p.1) g
    (record {
      below = omega (arith, front 0, front 1, front 2, front 3, front 4, front 5, front 6, front 7);
      parts = sym (ap (λ (x : List ℕ). x ++ drop 8 bytes) (be_bytes_8 (take 8 bytes) _ len front refl) ∙ take-append-drop 8 bytes);
    }))
    (cases_lt (length bytes) 8)

number_of_again : (kind : Kind) (bytes : List ℕ) (n : ℕ) (rest : List ℕ) → HasNumber kind bytes n rest → number_of kind bytes ≡ done (n, rest)
unfolding number_of
number_of_again packed bytes n rest has =
    let got : number_from 9 0 bytes ≡ Ok (n, 0 + length (number_bytes n)) = ap (number_from 9 0) has.parts ∙ reads_number 0 n rest has.below in
    let behind : drop (0 + length (number_bytes n)) bytes ≡ rest = ap (drop (0 + length (number_bytes n))) has.parts ∙ drop_at (number_bytes n) rest (0 + length (number_bytes n)) (omega arith) in
    rw got (ap (λ (r : List ℕ). done (n, r)) behind)
number_of_again byte bytes n rest has = ap (number_of byte) has.parts
number_of_again wide bytes n rest has =
    let len : length (to_be_bytes w64 n) ≡ 8 = refl in
    let long : 8 ≤ length bytes = omega (arith, ap length has.parts, length-append (to_be_bytes w64 n) rest, len) in
    let front : take 8 bytes ≡ to_be_bytes w64 n = ap (take 8) has.parts ∙ take_at (to_be_bytes w64 n) rest 8 len in
    let behind : drop 8 bytes ≡ rest = ap (drop 8) has.parts ∙ drop_at (to_be_bytes w64 n) rest 8 len in
    rw (le-ltb (length bytes) 8 long) (ap (λ (x : List ℕ). done (from_be_bytes w64 x, drop 8 bytes)) front ∙ ap (λ (r : List ℕ). done (from_be_bytes w64 (to_be_bytes w64 n), r)) behind ∙ ap (λ (k : ℕ). done (k, rest)) (from_be_bytes-to_be_bytes_8 n has.below))

number_of_fails : (kind : Kind) (bytes : List ℕ) (left : ℕ) → number_of kind bytes ≡ failed left → left ≡ length bytes
unfolding number_of
number_of_fails packed bytes left e = packed_err bytes (number_from 9 0 bytes) left e
number_of_fails byte [] left e = cc
number_of_fails byte (b ∷ bytes) left e = absurd cc
number_of_fails wide bytes left e =
    ⊎_elim (λ short. let f = rw (lt-ltb (length bytes) 8 short) at e in cc) (λ long. let f = rw (le-ltb (length bytes) 8 long) at e in absurd cc) (cases_lt (length bytes) 8)

is_number : (kind : Kind) (bytes : List ℕ) → AreBytes bytes → IsField bytes (number_of kind bytes) (HasNumber kind bytes)
is_number kind bytes fits = record {
  takes = λ n rest e. number_of_takes kind bytes n rest fits e;
  again = λ n rest has. number_of_again kind bytes n rest has;
  fails = λ left e. number_of_fails kind bytes left e;
  behind = λ n rest has. AreBytes-rest bytes (spelled kind n) rest fits has.parts;
}

text_of_takes : (len : ℕ) (bytes text rest : List ℕ) → text_of len bytes ≡ done (text, rest) → HasText len bytes text rest
unfolding text_of
text_of_takes len bytes text rest e =
    ⊎_elim (λ short. let f = rw (lt-ltb (length bytes) len short) at e in absurd cc)
    (λ long.
    let f = rw (le-ltb (length bytes) len long) at e in
    subst (λ (p : List ℕ × List ℕ). HasText len bytes p.0 p.1) (ok_is (take len bytes, drop len bytes) (text, rest) f)
    (record { len_is = omega (arith, length-take len bytes, long); parts = sym (take-append-drop len bytes) }))
    (cases_lt (length bytes) len)

text_of_again : (len : ℕ) (bytes text rest : List ℕ) → HasText len bytes text rest → text_of len bytes ≡ done (text, rest)
unfolding text_of
text_of_again len bytes text rest has =
    let long : len ≤ length bytes = omega (arith, ap length has.parts, length-append text rest, has.len_is) in
    let front : take len bytes ≡ text = ap (take len) has.parts ∙ take_at text rest len has.len_is in
    let behind : drop len bytes ≡ rest = ap (drop len) has.parts ∙ drop_at text rest len has.len_is in
    rw (le-ltb (length bytes) len long) (ap (λ (x : List ℕ). done (x, drop len bytes)) front ∙ ap (λ (r : List ℕ). done (text, r)) behind)

text_of_fails : (len : ℕ) (bytes : List ℕ) (left : ℕ) → text_of len bytes ≡ failed left → left ≡ length bytes
unfolding text_of
text_of_fails len bytes left e =
    ⊎_elim (λ short. let f = rw (lt-ltb (length bytes) len short) at e in cc) (λ long. let f = rw (le-ltb (length bytes) len long) at e in absurd cc) (cases_lt (length bytes) len)

is_text : (len : ℕ) (bytes : List ℕ) → AreBytes bytes → IsField bytes (text_of len bytes) (HasText len bytes)
is_text len bytes fits = record {
  takes = λ text rest e. text_of_takes len bytes text rest e;
  again = λ text rest has. text_of_again len bytes text rest has;
  fails = λ left e. text_of_fails len bytes left e;
  behind = λ text rest has. AreBytes-rest bytes text rest fits has.parts;
}

-- ---- a field with its rule

abbrev pub with_rule : {U A : Type 0} → List ℕ → (U → Bool) → (U → List ℕ → Result A ℕ) → U × List ℕ → Result A ℕ
with_rule bytes rule next x = cond (rule x.0) (next x.0 x.1) (Err (length bytes))

-- a field that was read and keeps its rule, and what is read behind it
pub record Kept {U A : Type 0} (found : Result (U × List ℕ) ℕ) (rule : U → Bool) (next : U → List ℕ → Result A ℕ) (y : A) : Type 0 where
  pub value : U
  pub rest : List ℕ
  pub was : found ≡ done (value, rest)
  pub holds : IsTrue (rule value)
  pub more : next value rest ≡ done y

pub field_kept : {U A : Type 0} (bytes : List ℕ) (found : Result (U × List ℕ) ℕ) (rule : U → Bool) (next : U → List ℕ → Result A ℕ) (y : A) → (found >>= with_rule bytes rule next) ≡ done y → Kept found rule next y
field_kept bytes (Ok x) rule next y e =
    ⊎_elim (λ holds. record { value = x.0; rest = x.1; was = refl; holds = holds; more = sym (if_yes (rule x.0) (next x.0 x.1) (Err (length bytes)) holds) ∙ e })
    (λ refused. let f = sym (if_no (rule x.0) (next x.0 x.1) (failed (length bytes)) refused) ∙ e in absurd cc)
    (tested (rule x.0))
field_kept bytes (Err left) rule next y e = absurd cc

pub field_passes : {U A : Type 0} (bytes : List ℕ) (found : Result (U × List ℕ) ℕ) (rule : U → Bool) (next : U → List ℕ → Result A ℕ) (value : U) (rest : List ℕ) (r : Result A ℕ) → found ≡ done (value, rest) → IsTrue (rule value)
    → next value rest ≡ r → (found >>= with_rule bytes rule next) ≡ r
field_passes {U = U} bytes found rule next value rest r was holds more =
    ap (λ (f : Result (U × List ℕ) ℕ). f >>= with_rule bytes rule next) was ∙ if_yes (rule value) (next value rest) (Err (length bytes)) holds ∙ more

-- a number or a text in front, where the fields are read
pub number_kept : {A : Type 0} (kind : Kind) (rule : ℕ → Bool) (next : ℕ → Format A) (bytes : List ℕ) (y : A × List ℕ) → read (number_field kind rule next) bytes ≡ done y → Kept (number_of kind bytes) rule (λ n behind. read (next n) behind) y
unfolding read
number_kept kind rule next bytes y e = field_kept bytes (number_of kind bytes) rule (λ n behind. read (next n) behind) y e

pub text_kept : {A : Type 0} (len : ℕ) (rule : List ℕ → Bool) (next : List ℕ → Format A) (bytes : List ℕ) (y : A × List ℕ) → read (text_field len rule next) bytes ≡ done y → Kept (text_of len bytes) rule (λ t behind. read (next t) behind) y
unfolding read
text_kept len rule next bytes y e = field_kept bytes (text_of len bytes) rule (λ t behind. read (next t) behind) y e

pub number_passes : {A : Type 0} (kind : Kind) (rule : ℕ → Bool) (next : ℕ → Format A) (bytes : List ℕ) (n : ℕ) (behind : List ℕ) (y : A × List ℕ) → number_of kind bytes ≡ done (n, behind) → IsTrue (rule n) → read (next n) behind ≡ done y
    → read (number_field kind rule next) bytes ≡ done y
unfolding read
number_passes kind rule next bytes n behind y was holds more = field_passes bytes (number_of kind bytes) rule (λ n behind. read (next n) behind) n behind (done y) was holds more

pub text_passes : {A : Type 0} (len : ℕ) (rule : List ℕ → Bool) (next : List ℕ → Format A) (bytes : List ℕ) (t behind : List ℕ) (y : A × List ℕ) → text_of len bytes ≡ done (t, behind) → IsTrue (rule t) → read (next t) behind ≡ done y
    → read (text_field len rule next) bytes ≡ done y
unfolding read
text_passes len rule next bytes t behind y was holds more = field_passes bytes (text_of len bytes) rule (λ t behind. read (next t) behind) t behind (done y) was holds more

pub field_spells : {U A : Type 0} (bytes : List ℕ) (found : Result (U × List ℕ) ℕ) (Has : U → List ℕ → Type 0) (rule : U → Bool) (next : U → List ℕ → Result A ℕ) (y : A) → ((v : U) → (rest : List ℕ) → found ≡ done (v, rest) → Has v rest)
    → (found >>= with_rule bytes rule next) ≡ done y → (v : U) × (behind : List ℕ) × Has v behind × IsTrue (rule v) × (next v behind ≡ done y)
field_spells bytes found Has rule next y takes e =
    let kept = field_kept bytes found rule next y e in (kept.value, kept.rest, takes kept.value kept.rest kept.was, kept.holds, kept.more)

pub spells_field : {U A : Type 0} (bytes : List ℕ) (found : Result (U × List ℕ) ℕ) (Has : U → List ℕ → Type 0) (rule : U → Bool) (next : U → List ℕ → Result A ℕ) (v : U) (behind : List ℕ) (r : Result A ℕ)
    → ((v : U) → (rest : List ℕ) → Has v rest → found ≡ done (v, rest)) → Has v behind → IsTrue (rule v) → next v behind ≡ r → (found >>= with_rule bytes rule next) ≡ r
spells_field bytes found Has rule next v behind r again has kept deeper = field_passes bytes found rule next v behind r (again v behind has) kept deeper

field_broken : {U A : Type 0} (bytes : List ℕ) (found : Result (U × List ℕ) ℕ) (Has : U → List ℕ → Type 0) (rule : U → Bool) (next : U → List ℕ → Result A ℕ) (left : ℕ) → IsField bytes found Has
    → (found >>= with_rule bytes rule next) ≡ failed left
    → ((left ≡ length bytes) × ((v : U) → (behind : List ℕ) → Has v behind → IsTrue (rule v) → ⊥))
    ⊎ ((v : U) × (behind : List ℕ) × Has v behind × IsTrue (rule v) × (next v behind ≡ failed left))
field_broken {U = U} bytes (Ok x) Has rule next left field e =
    ⊎_elim (λ kept. inr (x.0, x.1, field.takes x.0 x.1 refl, kept, sym (if_yes (rule x.0) (next x.0 x.1) (Err (length bytes)) kept) ∙ e))
    (λ refused. inl (
      err_is left (length bytes) (sym e ∙ if_no (rule x.0) (next x.0 x.1) (failed (length bytes)) refused),
      λ v behind has kept. not_both (rule v) kept (subst (λ (w : U). rule w ≡ false) (ap (λ (p : U × List ℕ). p.0) (ok_is x (v, behind) (field.again v behind has))) refused),
    ))
    (tested (rule x.0))
field_broken bytes (Err l) Has rule next left field e =
    inl (sym (err_is l left e) ∙ field.fails l refl, λ v behind has kept. ok_err (Err l) (v, behind) l (field.again v behind has) refl)

broken_field : {U A : Type 0} (bytes : List ℕ) (found : Result (U × List ℕ) ℕ) (Has : U → List ℕ → Type 0) (rule : U → Bool) (next : U → List ℕ → Result A ℕ) (left : ℕ) → IsField bytes found Has
    → (left ≡ length bytes) → ((v : U) → (behind : List ℕ) → Has v behind → IsTrue (rule v) → ⊥) → (found >>= with_rule bytes rule next) ≡ failed left
broken_field bytes (Ok x) Has rule next left field at none =
    ⊎_elim (λ kept. absurd (none x.0 x.1 (field.takes x.0 x.1 refl) kept))
    (λ refused. if_no (rule x.0) (next x.0 x.1) (failed (length bytes)) refused ∙ ap (λ (k : ℕ). failed k) (sym at))
    (tested (rule x.0))
broken_field bytes (Err l) Has rule next left field at none = ap (λ (k : ℕ). failed k) (field.fails l refl ∙ sym at)

-- ---- whole formats

-- What is read is spelled so.
pub read_spells : {A : Type 0} (format : Format A) (bytes : List ℕ) (x : A) (rest : List ℕ) → AreBytes bytes → read format bytes ≡ done (x, rest) → Spells format bytes x rest
unfolding read Spells
read_spells {A = A} (ends a) bytes x rest fits e =
    let f = ok_is (a, bytes) (x, rest) e in (ap (λ (p : A × List ℕ). p.0) f, ap (λ (p : A × List ℕ). p.1) f)
read_spells (end_field next) bytes x rest fits e =
    ⊎_elim (λ holds. (nil_from_length bytes (eqb_is (length bytes) holds), read_spells next bytes x rest fits (sym (if_yes (eqb (length bytes) 0) (read next bytes) (Err (length bytes)) holds) ∙ e)))
    (λ fails. let f = sym (if_no (eqb (length bytes) 0) (read next bytes) (failed (length bytes)) fails) ∙ e in absurd cc)
    (tested (eqb (length bytes) 0))
read_spells (number_field kind rule next) bytes x rest fits e =
    let field = is_number kind bytes fits in
    let (n, behind, has, kept, deeper) = field_spells bytes (number_of kind bytes) (HasNumber kind bytes) rule (λ (v : ℕ) (r : List ℕ). read (next v) r) (x, rest) field.takes e in
    (n, behind, has, kept, read_spells (next n) behind x rest (field.behind n behind has) deeper)
read_spells (text_field len rule next) bytes x rest fits e =
    let field = is_text len bytes fits in
    let (t, behind, has, kept, deeper) = field_spells bytes (text_of len bytes) (HasText len bytes) rule (λ (v : List ℕ) (r : List ℕ). read (next v) r) (x, rest) field.takes e in
    (t, behind, has, kept, read_spells (next t) behind x rest (field.behind t behind has) deeper)

-- What is spelled so is read.
pub spells_read : {A : Type 0} (format : Format A) (bytes : List ℕ) (x : A) (rest : List ℕ) → Spells format bytes x rest → read format bytes ≡ done (x, rest)
unfolding read Spells
spells_read {A = A} (ends a) bytes x rest (same, behind) = ap (λ (y : A). done (y, bytes)) same ∙ ap (λ (r : List ℕ). done (x, r)) behind
spells_read {A = A} (end_field next) bytes x rest (none, more) =
    let tail = spells_read next bytes x rest more in
    subst (λ (b : List ℕ). read (end_field next) b ≡ done (x, rest)) (sym none) (rw none at tail)
spells_read (number_field kind rule next) bytes x rest (n, behind, has, kept, more) =
    field_passes bytes (number_of kind bytes) rule (λ (v : ℕ) (r : List ℕ). read (next v) r) n behind (done (x, rest)) (number_of_again kind bytes n behind has) kept (spells_read (next n) behind x rest more)
spells_read (text_field len rule next) bytes x rest (t, behind, has, kept, more) =
    field_passes bytes (text_of len bytes) rule (λ (v : List ℕ) (r : List ℕ). read (next v) r) t behind (done (x, rest)) (text_of_again len bytes t behind has) kept (spells_read (next t) behind x rest more)

-- A fault is where the first field is broken.
pub read_broken : {A : Type 0} (format : Format A) (bytes : List ℕ) (left : ℕ) → AreBytes bytes → read format bytes ≡ failed left → IsBroken format bytes left
unfolding read IsBroken
read_broken (ends a) bytes left fits e = absurd cc
read_broken {A = A} (end_field next) bytes left fits e =
    ⊎_elim (λ holds. inr (nil_from_length bytes (eqb_is (length bytes) holds), read_broken next bytes left fits (sym (if_yes (eqb (length bytes) 0) (read next bytes) (failed (length bytes)) holds) ∙ e)))
    (λ fails. inl (
      err_is {A = A × List ℕ} left (length bytes) (sym e ∙ if_no (eqb (length bytes) 0) (read next bytes) (failed (length bytes)) fails),
      λ none. not_both (eqb (length bytes) 0) (ap (λ (b : List ℕ). eqb (length b) 0) none) fails,
    ))
    (tested (eqb (length bytes) 0))
read_broken (number_field kind rule next) bytes left fits e =
    let field = is_number kind bytes fits in
    ⊎_elim (λ here. inl here) (λ (n, behind, has, kept, deeper). inr (n, behind, has, kept, read_broken (next n) behind left (field.behind n behind has) deeper))
    (field_broken bytes (number_of kind bytes) (HasNumber kind bytes) rule (λ (v : ℕ) (r : List ℕ). read (next v) r) left field e)
read_broken (text_field len rule next) bytes left fits e =
    let field = is_text len bytes fits in
    ⊎_elim (λ here. inl here) (λ (t, behind, has, kept, deeper). inr (t, behind, has, kept, read_broken (next t) behind left (field.behind t behind has) deeper))
    (field_broken bytes (text_of len bytes) (HasText len bytes) rule (λ (v : List ℕ) (r : List ℕ). read (next v) r) left field e)

-- Where the first field is broken, there is the fault.
pub broken_read : {A : Type 0} (format : Format A) (bytes : List ℕ) (left : ℕ) → AreBytes bytes → IsBroken format bytes left → read format bytes ≡ failed left
unfolding read IsBroken
broken_read (ends a) bytes left fits broken = absurd broken
broken_read {A = A} (end_field next) bytes left fits broken =
    ⊎_elim (λ (at, some). ⊎_elim (λ none. absurd (some (nil_from_length bytes none)))
    (λ fails. if_no (eqb (length bytes) 0) (read next bytes) (failed (length bytes)) fails ∙ ap (λ (k : ℕ). failed {A = A × List ℕ} k) (sym at)) (cases_eqb (length bytes)))
    (λ (none, more). let tail = broken_read next bytes left fits more in
    subst (λ (b : List ℕ). read (end_field next) b ≡ failed left) (sym none) (rw none at tail))
    broken
broken_read {A = A} (number_field kind rule next) bytes left fits broken =
    let field = is_number kind bytes fits in
    ⊎_elim (λ (at, none). broken_field bytes (number_of kind bytes) (HasNumber kind bytes) rule (λ (v : ℕ) (r : List ℕ). read (next v) r) left field at none)
    (λ (n, behind, has, kept, more). spells_field bytes (number_of kind bytes) (HasNumber kind bytes) rule (λ (v : ℕ) (r : List ℕ). read (next v) r) n behind (failed {A = A × List ℕ} left) field.again has kept (broken_read (next n) behind left (field.behind n behind has) more))
    broken
broken_read {A = A} (text_field len rule next) bytes left fits broken =
    let field = is_text len bytes fits in
    ⊎_elim (λ (at, none). broken_field bytes (text_of len bytes) (HasText len bytes) rule (λ (v : List ℕ) (r : List ℕ). read (next v) r) left field at none)
    (λ (t, behind, has, kept, more). spells_field bytes (text_of len bytes) (HasText len bytes) rule (λ (v : List ℕ) (r : List ℕ). read (next v) r) t behind (failed {A = A × List ℕ} left) field.again has kept (broken_read (next t) behind left (field.behind t behind has) more))
    broken

-- ---- one format behind another

bind_more : {U A B : Type 0} (found : Result (U × List ℕ) ℕ) (bytes : List ℕ) (rule : U → Bool) (next : U → List ℕ → Result A ℕ) (more : U → List ℕ → Result B ℕ) (then : A → Result B ℕ)
    → ((v : U) (r : List ℕ) → more v r ≡ (next v r >>= then)) → (found >>= with_rule bytes rule more) ≡ ((found >>= with_rule bytes rule next) >>= then)
bind_more (Ok x) bytes rule next more then e = ⊎_elim (λ holds. if_yes (rule x.0) (more x.0 x.1) (Err (length bytes)) holds ∙ e x.0 x.1 ∙ ap (λ r. r >>= then) (sym (if_yes (rule x.0) (next x.0 x.1) (Err (length bytes)) holds)))
    (λ fails. if_no (rule x.0) (more x.0 x.1) (failed (length bytes)) fails ∙ ap (λ r. r >>= then) (sym (if_no (rule x.0) (next x.0 x.1) (failed (length bytes)) fails))) (tested (rule x.0))
bind_more (Err left) bytes rule next more then e = refl

pub read_followed : {A B : Type 0} (format : Format A) (f : A → Format B) (bytes : List ℕ) → read (followed_by format f) bytes ≡ (read format bytes >>= λ x. read (f x.0) x.1)
unfolding read followed_by
read_followed (ends a) f bytes = refl
read_followed (end_field next) f bytes = ⊎_elim
    (λ holds. if_yes (eqb (length bytes) 0) (read (followed_by next f) bytes) (Err (length bytes)) holds ∙ read_followed next f bytes ∙ ap (λ r. r >>= λ x. read (f x.0) x.1) (sym (if_yes (eqb (length bytes) 0) (read next bytes) (Err (length bytes)) holds)))
    (λ fails. if_no (eqb (length bytes) 0) (read (followed_by next f) bytes) (failed (length bytes)) fails ∙ ap (λ r. r >>= λ x. read (f x.0) x.1) (sym (if_no (eqb (length bytes) 0) (read next bytes) (failed (length bytes)) fails)))
    (tested (eqb (length bytes) 0))
read_followed (number_field kind rule next) f bytes =
    bind_more (number_of kind bytes) bytes rule (λ (v : ℕ) (r : List ℕ). read (next v) r) (λ (v : ℕ) (r : List ℕ). read (followed_by (next v) f) r) (λ x. read (f x.0) x.1) (λ v r. read_followed (next v) f r)
read_followed (text_field len rule next) f bytes =
    bind_more (text_of len bytes) bytes rule (λ (v : List ℕ) (r : List ℕ). read (next v) r) (λ (v : List ℕ) (r : List ℕ). read (followed_by (next v) f) r) (λ x. read (f x.0) x.1) (λ v r. read_followed (next v) f r)

pub followed_spells : {A B : Type 0} (format : Format A) (f : A → Format B) (bytes : List ℕ) (y : B) (rest : List ℕ) → Spells (followed_by format f) bytes y rest
    → (x : A) × (mid : List ℕ) × Spells format bytes x mid × Spells (f x) mid y rest
unfolding Spells followed_by
followed_spells (ends a) f bytes y rest s = (a, bytes, (refl, refl), s)
followed_spells (end_field next) f bytes y rest (none, s) = let (x, mid, first, second) = followed_spells next f bytes y rest s in (x, mid, (none, first), second)
followed_spells (number_field kind rule next) f bytes y rest (n, behind, has, kept, s) =
    let (x, mid, first, second) = followed_spells (next n) f behind y rest s in (x, mid, (n, behind, has, kept, first), second)
followed_spells (text_field len rule next) f bytes y rest (t, behind, has, kept, s) =
    let (x, mid, first, second) = followed_spells (next t) f behind y rest s in (x, mid, (t, behind, has, kept, first), second)

pub spells_followed : {A B : Type 0} (format : Format A) (f : A → Format B) (bytes : List ℕ) (x : A) (mid : List ℕ) (y : B) (rest : List ℕ) → Spells format bytes x mid → Spells (f x) mid y rest
    → Spells (followed_by format f) bytes y rest
unfolding Spells followed_by
spells_followed {A = A} (ends a) f bytes x mid y rest (same, behind) second =
    subst (λ (z : A). Spells (f z) bytes y rest) (sym same) (subst (λ (m : List ℕ). Spells (f x) m y rest) (sym behind) second)
spells_followed (end_field next) f bytes x mid y rest (none, first) second = (none, spells_followed next f bytes x mid y rest first second)
spells_followed (number_field kind rule next) f bytes x mid y rest (n, behind, has, kept, first) second =
    (n, behind, has, kept, spells_followed (next n) f behind x mid y rest first second)
spells_followed (text_field len rule next) f bytes x mid y rest (t, behind, has, kept, first) second =
    (t, behind, has, kept, spells_followed (next t) f behind x mid y rest first second)

-- ---- the place of a fault

pub broken-left : {A : Type 0} (format : Format A) (bytes : List ℕ) (left : ℕ) → IsBroken format bytes left → left ≤ length bytes
unfolding IsBroken
broken-left (ends a) bytes left b = absurd b
broken-left (end_field next) bytes left b = ⊎_elim (λ (at, some). omega (arith, at)) (λ (none, more). broken-left next bytes left more) b
broken-left (number_field kind rule next) bytes left b =
    ⊎_elim (λ (at, none). omega (arith, at)) (λ (n, behind, has, kept, more). omega (arith, broken-left (next n) behind left more, ap length has.parts, length-append (spelled kind n) behind)) b
broken-left (text_field len rule next) bytes left b =
    ⊎_elim (λ (at, none). omega (arith, at)) (λ (t, behind, has, kept, more). omega (arith, broken-left (next t) behind left more, ap length has.parts, length-append t behind)) b

-- ---- a part's value is what its bytes spell, and its fault is at the first broken field

pub placed_ok : {A : Type 0} (start : ℕ) (bytes : List ℕ) (r : Result (A × List ℕ) ℕ) (y : A) → placed start bytes r ≡ done y → (rest : List ℕ) × (r ≡ done (y, rest))
placed_ok start bytes (Ok x) y e = (x.1, ap (λ a. done (a, x.1)) (ok_is x.0 y e))
placed_ok start bytes (Err left) y e = absurd cc

pub placed_err : {A : Type 0} (start : ℕ) (bytes : List ℕ) (r : Result (A × List ℕ) ℕ) (p : ℕ) → placed start bytes r ≡ failed p → (left : ℕ) × (r ≡ failed left) × (start + (length bytes - left) ≡ p)
placed_err start bytes (Ok x) p e = absurd cc
placed_err {A = A} start bytes (Err left) p e = (left, refl, err_is {A = A} (start + (length bytes - left)) p e)

pub part_found : {A : Type 0} (format : Format A) (bytes : List ℕ) (start : ℕ) (y : A) → AreBytes bytes → part format bytes start ≡ done y → (rest : List ℕ) × Spells format bytes y rest
part_found format bytes start y fits e =
    let (rest, got) = placed_ok start bytes (read format bytes) y e in (rest, read_spells format bytes y rest fits got)

pub part_reads : {A : Type 0} (format : Format A) (bytes : List ℕ) (start : ℕ) (y : A) (rest : List ℕ) → Spells format bytes y rest → part format bytes start ≡ done y
part_reads format bytes start y rest s = ap (placed start bytes) (spells_read format bytes y rest s)

pub part_spelled : {A : Type 0} (format : Format A) (bytes : List ℕ) (start : ℕ) (y : A) (rest : List ℕ) → AreBytes bytes → Spells format bytes y rest → part format bytes start ≡ done y
part_spelled format bytes start y rest fits s = part_reads format bytes start y rest s

pub part_first : {A : Type 0} (format : Format A) (bytes : List ℕ) (start p : ℕ) → AreBytes bytes → part format bytes start ≡ failed p → FirstBroken format bytes start p
part_first format bytes start p fits e =
    let (left, got, at) = placed_err start bytes (read format bytes) p e in
    let broken = read_broken format bytes left fits got in
    record { left = left; at = omega (arith, at, broken-left format bytes left broken); broken = broken }

pub part_broken : {A : Type 0} (format : Format A) (bytes : List ℕ) (start p : ℕ) → AreBytes bytes → FirstBroken format bytes start p → part format bytes start ≡ failed p
part_broken {A = A} format bytes start p fits first =
    let at : start + (length bytes - first.left) ≡ p = omega (arith, first.at, broken-left format bytes first.left first.broken) in
    ap (placed start bytes) (broken_read format bytes first.left fits first.broken) ∙ ap (λ (k : ℕ). failed {A = A} k) at

pub left_fits : {A : Type 0} (format : Format A) (bytes : List ℕ) (left : ℕ) → AreBytes bytes → read format bytes ≡ failed left → left ≤ length bytes
left_fits format bytes left fits e = broken-left format bytes left (read_broken format bytes left fits e)
