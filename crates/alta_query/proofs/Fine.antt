-- The tokens of a text can be spelled, and so can those of the query that they spell.
use Rattle.std.proofs.Common.{◌≡◌, ℕ, zero, suc, ◌+◌, ◌-◌, ◌*◌, ◌^◌, ◌≤◌, ◌<◌, List, [], ◌∷◌, ◌++◌, length, take, drop, refl, sym, ap, ◌∙◌, subst, Bool, true, false, ◌&&◌, Option, Some, None, arith}
use Rattle.std.specs.Prelude.{not, ◌==◌, nat_eq, nat_le, nat_lt, if◌then◌else◌, codes, slice_index}
use Rattle.std.specs.List.{list_all, prefix_len, take_while, position_or_len, before_first, starts_with, ends_with, fold}
use Rattle.std.specs.Char.{is_ascii_digit}
use Rattle.std.specs.Str.{bytes_eq}
use Rattle.std.proofs.lemmas.Bool.{leb-true}
use Rattle.std.proofs.lemmas.Bool.Decides.{nat_tests, Decides-eqb}
use Rattle.std.proofs.lemmas.Slice.Eq.{starts_is, bytes_eq-Decides}
use Rattle.std.proofs.lemmas.List.{length-append, take-append-drop}
use Rattle.alta_machine.specs.Words.{has_words, tests_of, is_stem}
use Rattle.alta_machine.specs.Shape.{Side, word, stem, Lone, words, prefix, name, value, Atom, lone, near, Shape, Shapes, atom, all, any, negated, none, more, shapes_of, all_of, any_of}
use Rattle.alta_machine.specs.Token.{Token, open_paren, close_paren, and_word, or_word, not_word, near_word, operand, faulty, Spot, at, tokens_of, side_of}
use Rattle.alta_codec.specs.Decimal.{value_of}
use Rattle.alta_codec.specs.Name.{is_name}
use Rattle.alta_machine.specs.Numbers.{number_in}
use Rattle.alta_machine.proofs.Numerals.{are_read}
use Rattle.alta_machine.specs.Spots.{is_blank, is_solid, is_quote, is_run, first_token, first_len, run_token, plain_token, prefix_token, words_token, name_token, near_token, is_undotted, ordered, dotted, value_token, quoted_token, is_quoted_title, spots_from, spots}
use Rattle.alta_machine.specs.Grammar.{IsUnary, alone, two_sides, behind_not, in_parens, IsAnd, first_unary, beside_and, behind_and, IsOr, first_and, behind_or, ReadsQuery}
use Rattle.alta_machine.specs.Canon.{is_any, is_compound, parens_if, of_side, atom_tokens, canon, canon_all, canon_any, canon_behind_or}
use Rattle.alta_machine.specs.Spelling.{title_text, spelled, with_tokens, canonical}
use Rattle.alta_query.proofs.Reread.{Spells, AllSpell, no_tokens, token_and, cut_written, open_spells, close_spells, or_spells, not_spells}
use Rattle.alta_query.proofs.Quoted.{no_quote, both, words_spell}
use Rattle.alta_machine.specs.Matches.{HasOrderedValues, HaveOrderedValues}
use Rattle.alta_query.proofs.Unquoted.{all_weaker, run_spells, name_spells, near_spells, value_spells}
use Rattle.alta_query.proofs.Canonical.{canon_reads}

-- the bytes are a run that is this token, behind no `name:`
abbrev pub IsRunOf : List ℕ → Token → Type 0
IsRunOf s t = (0 < length s) × (list_all is_run s ≡ true) × (starts_with nat_eq s (codes "name:") ≡ false) × (run_token s ≡ t)

-- what a token of a text is
abbrev pub IsFineLone : Lone → Type 0
IsFineLone (words title text tests) = (no_quote text ≡ true) × (has_words text ≡ true) × (tests ≡ tests_of text)
IsFineLone (prefix title front test) = IsRunOf (spelled (operand (prefix title front test))) (operand (prefix title front test))
IsFineLone (name text) = is_name text ≡ true
IsFineLone (value low high) = (low ≤ high) × (high < 2 ^ 32)

abbrev IsFine : Token → Type 0
IsFine open_paren = Unit {0}
IsFine close_paren = Unit {0}
IsFine and_word = Unit {0}
IsFine or_word = Unit {0}
IsFine not_word = Unit {0}
IsFine (near_word k) = (1 ≤ k) × (k ≤ 1000)
IsFine (operand a) = IsFineLone a
IsFine (faulty c) = Unit {0}

lone_spells : (a : Lone) → IsFineLone a → Spells (spelled (operand a)) (operand a)
lone_spells (words title text tests) f =
    subst (λ x. Spells (spelled (operand (words title text x))) (operand (words title text x))) (sym f.2) (words_spell title text f.0 f.1)
lone_spells (prefix title front test) f = run_spells (spelled (operand (prefix title front test))) (operand (prefix title front test)) f.0 f.1 f.2 f.3
lone_spells (name text) f = name_spells text f
lone_spells (value low high) f = value_spells low high f.0 f.1

-- cutting
token_if : (P : Token → Type 0) (b : Bool) (x y : Token) → (b ≡ true → P x) → (b ≡ false → P y) → P (if b then x else y)
token_if P true x y f g = f refl
token_if P false x y f g = g refl

fine_if : (b : Bool) (x y : Token) → (b ≡ true → IsFine x) → (b ≡ false → IsFine y) → IsFine (if b then x else y)
fine_if = token_if IsFine

words_fine : (title : Bool) (text : List ℕ) → no_quote text ≡ true → IsFine (words_token title text)
unfolding words_token
words_fine title text h = fine_if (has_words text) _ _ (λ e. (h, e, refl)) (λ e. tt)

-- what a run is: a prefix is spelled as the run
abbrev IsOwn : List ℕ → Token → Type 0
IsOwn run open_paren = Unit {0}
IsOwn run close_paren = Unit {0}
IsOwn run and_word = Unit {0}
IsOwn run or_word = Unit {0}
IsOwn run not_word = Unit {0}
IsOwn run (near_word k) = (1 ≤ k) × (k ≤ 1000)
IsOwn run (operand (words title text tests)) = IsFineLone (words title text tests)
IsOwn run (operand (prefix title front test)) = spelled (operand (prefix title front test)) ≡ run
IsOwn run (operand (name text)) = IsFineLone (name text)
IsOwn run (operand (value low high)) = IsFineLone (value low high)
IsOwn run (faulty c) = Unit {0}

words_own : (run : List ℕ) (title : Bool) (text : List ℕ) → no_quote text ≡ true → IsOwn run (words_token title text)
unfolding words_token
words_own run title text h = token_if (IsOwn run) (has_words text) _ _ (λ e. (h, e, refl)) (λ e. tt)

prefix_own : (run : List ℕ) (title : Bool) (front : List ℕ) → title_text title ++ (front ++ codes "*") ≡ run → IsOwn run (prefix_token title front)
unfolding prefix_token
prefix_own run title front same = token_if (IsOwn run) (is_stem front) _ _ (λ e. same) (λ e. tt)

star_split : (text : List ℕ) → ends_with nat_eq text (codes "*") ≡ true → take (length text - 1) text ++ codes "*" ≡ text
star_split text h =
    let k : codes "*" ≡ drop (length text - 1) text = (bytes_eq-Decides (codes "*") (drop (length text - 1) text)).0 h in
    ap (λ x. take (length text - 1) text ++ x) k ∙ take-append-drop (length text - 1) text

all_drop : (p : ℕ → Bool) (n : ℕ) (s : List ℕ) → list_all p s ≡ true → list_all p (drop n s) ≡ true
all_drop p zero s h = h
all_drop p (suc n) [] h = refl
all_drop p (suc n) (b ∷ bs) h = let k = both (p b) (list_all p bs) h in all_drop p n bs k.1

plain_own : (run : List ℕ) (title : Bool) (text : List ℕ) → no_quote text ≡ true → title_text title ++ text ≡ run → IsOwn run (plain_token title text)
unfolding plain_token
plain_own run title text h same =
    token_if (IsOwn run) (ends_with nat_eq text (codes "*")) _ _
    (λ e. prefix_own run title (take (length text - 1) text) (ap (λ x. title_text title ++ x) (star_split text e) ∙ same)) (λ e. words_own run title text h)

name_fine : (text : List ℕ) → IsFine (name_token text)
unfolding name_token
name_fine text = fine_if (is_name text) _ _ (λ e. e) (λ e. tt)

fold_low : (ds : List ℕ) (a : ℕ) → a ≤ fold (λ n b. n * 10 + (b - 48)) a ds
fold_low [] a = omega arith
fold_low (d ∷ ds) a = omega (arith, fold_low ds (a * 10 + (d - 48)))

digit_low : (d : ℕ) → is_ascii_digit d ≡ true → not (d == 48) ≡ true → 49 ≤ d
digit_low d h k = grind (arith, nat_tests)

value_low : (ds : List ℕ) → 1 ≤ length ds → list_all is_ascii_digit ds ≡ true → not (slice_index ds 0 == 48) ≡ true → 1 ≤ value_of ds
value_low [] some h k = absurd (omega arith)
value_low (d ∷ ds) some h k =
    let l = both (is_ascii_digit d) (list_all is_ascii_digit ds) h in
    omega (arith, digit_low d l.0 k, fold_low ds (0 * 10 + (d - 48)))

near_own : (run digits : List ℕ) → IsOwn run (near_token digits)
unfolding near_token
near_own run digits =
    token_if (IsOwn run) (nat_le 1 (length digits) && nat_le (length digits) 4 && list_all is_ascii_digit digits && not (slice_index digits 0 == 48) && nat_le (value_of digits) 1000) _ _
    (λ e.
    let k = both (nat_le 1 (length digits) && nat_le (length digits) 4 && list_all is_ascii_digit digits && not (slice_index digits 0 == 48)) (nat_le (value_of digits) 1000) e in
    let l = both (nat_le 1 (length digits) && nat_le (length digits) 4 && list_all is_ascii_digit digits) (not (slice_index digits 0 == 48)) k.0 in
    let m = both (nat_le 1 (length digits) && nat_le (length digits) 4) (list_all is_ascii_digit digits) l.0 in
    let n = both (nat_le 1 (length digits)) (nat_le (length digits) 4) m.0 in
    (value_low digits (leb-true 1 (length digits) n.0) m.1 l.1, leb-true (value_of digits) 1000 k.1))
    (λ e. tt)

ordered_own : (run : List ℕ) (low high : Option ℕ) → ((n : ℕ) → high ≡ Some n → n < 2 ^ 32) → IsOwn run (ordered low high)
ordered_own run None high small = tt
ordered_own run (Some low) None small = tt
ordered_own run (Some low) (Some high) small = token_if (IsOwn run) (nat_le low high) _ _ (λ e. (leb-true low high e, small high refl)) (λ e. tt)

dotted_own : (run low rest : List ℕ) → IsOwn run (dotted low rest)
dotted_own run low rest =
    token_if (IsOwn run) (starts_with nat_eq rest (codes "..")) _ _
    (λ e. ordered_own run (number_in low) (number_in (drop 2 rest)) (λ n is. ((are_read (drop 2 rest) n).0 is).1)) (λ e. tt)

value_own : (run text : List ℕ) → IsOwn run (value_token text)
unfolding value_token
value_own run text = dotted_own run (take_while is_undotted text) (drop (prefix_len is_undotted text) text)

title_split : (text : List ℕ) → starts_with nat_eq text (codes "title:") ≡ true → title_text true ++ drop 6 text ≡ text
title_split text h = sym ((starts_is Decides-eqb text (codes "title:") (starts_with nat_eq text (codes "title:")) refl).0 h)

run_own : (text : List ℕ) → no_quote text ≡ true → IsOwn text (run_token text)
unfolding run_token
run_own text h =
    token_if (IsOwn text) (bytes_eq text (codes "AND")) _ _ (λ e. tt) (λ e. token_if (IsOwn text) (bytes_eq text (codes "OR")) _ _ (λ e. tt) (λ e. token_if (IsOwn text) (bytes_eq text (codes "NOT")) _ _ (λ e. tt)
    (λ e. token_if (IsOwn text) (starts_with nat_eq text (codes "NEAR/")) _ _ (λ e. near_own text (drop 5 text))
    (λ e. token_if (IsOwn text) (starts_with nat_eq text (codes "value:")) _ _ (λ e. value_own text (drop 6 text))
    (λ e. token_if (IsOwn text) (starts_with nat_eq text (codes "title:")) _ _ (λ e. plain_own text true (drop 6 text) (all_drop (λ b. not (is_quote b)) 6 text h) (title_split text e)) (λ e. plain_own text false text h refl))))))

star_some : (title : Bool) (front : List ℕ) → 0 < length (title_text title ++ (front ++ codes "*"))
star_some true front = omega arith
star_some false front = omega (arith, length-append front (codes "*"))

fine_own : (run : List ℕ) (t : Token) → list_all is_run run ≡ true → starts_with nat_eq run (codes "name:") ≡ false → run_token run ≡ t → IsOwn run t → IsFine t
fine_own run open_paren runs n is own = tt
fine_own run close_paren runs n is own = tt
fine_own run and_word runs n is own = tt
fine_own run or_word runs n is own = tt
fine_own run not_word runs n is own = tt
fine_own run (near_word k) runs n is own = own
fine_own run (operand (words title text tests)) runs n is own = own
fine_own run (operand (prefix title front test)) runs n is own =
    let e = sym own in
    (star_some title front, subst (λ s. list_all is_run s ≡ true) e runs, subst (λ s. starts_with nat_eq s (codes "name:") ≡ false) e n, subst (λ s. run_token s ≡ operand (prefix title front test)) e is)
fine_own run (operand (name text)) runs n is own = own
fine_own run (operand (value low high)) runs n is own = own
fine_own run (faulty c) runs n is own = tt

run_fine : (text : List ℕ) → list_all is_run text ≡ true → starts_with nat_eq text (codes "name:") ≡ false → no_quote text ≡ true → IsFine (run_token text)
run_fine text runs n h = fine_own text (run_token text) runs n refl (run_own text h)

and_less : (b x y : Bool) → (x ≡ false → y ≡ false) → (b && x) ≡ false → (b && y) ≡ false
and_less true x y f h = f h
and_less false x y f h = refl

-- what a text doesn't begin with its front doesn't
front_begins : (needle s : List ℕ) (n : ℕ) → starts_with nat_eq s needle ≡ false → starts_with nat_eq (take n s) needle ≡ false
front_begins [] s n h = absurd (cc)
front_begins (m ∷ ms) [] zero h = refl
front_begins (m ∷ ms) [] (suc n) h = refl
front_begins (m ∷ ms) (c ∷ cs) zero h = refl
front_begins (m ∷ ms) (c ∷ cs) (suc n) h = and_less (nat_eq m c) (starts_with nat_eq cs ms) (starts_with nat_eq (take n cs) ms) (front_begins ms cs n) h

passes_by : (p : ℕ → Bool) (c : Bool) (b n : ℕ) (bs : List ℕ) → p b ≡ c → list_all p (take n bs) ≡ true → list_all p (take (if c then 1 + n else 0) (b ∷ bs)) ≡ true
passes_by p true b n bs h k =
    let e : 1 + n ≡ suc n = omega arith in ap (λ m. list_all p (take m (b ∷ bs))) e ∙ rw (h, k) refl
passes_by p false b n bs h k = refl

while_passes : (p : ℕ → Bool) (s : List ℕ) → list_all p (take (prefix_len p s) s) ≡ true
while_passes p [] = refl
while_passes p (b ∷ bs) = passes_by p (p b) b (prefix_len p bs) bs refl (while_passes p bs)

before_no_quote : (text : List ℕ) → no_quote (before_first is_quote text) ≡ true
before_no_quote text = while_passes (λ b. not (is_quote b)) text

run_not_quote : (b : ℕ) → is_run b ≡ true → not (is_quote b) ≡ true
run_not_quote b h = grind (arith, nat_tests)

run_no_quote : (text : List ℕ) → no_quote (take_while is_run text) ≡ true
run_no_quote text = all_weaker is_run (λ b. not (is_quote b)) run_not_quote (take_while is_run text) (while_passes is_run text)

quoted_fine : (title : Bool) (rest : List ℕ) → IsFine (quoted_token title rest)
unfolding quoted_token
quoted_fine title rest = fine_if (nat_lt (position_or_len is_quote rest) (length rest)) _ _ (λ e. words_fine title (before_first is_quote rest) (before_no_quote rest)) (λ e. tt)

first_fine : (text : List ℕ) → IsFine (first_token text)
first_fine [] = tt
first_fine (b ∷ bs) =
    fine_if (b == 40) _ _ (λ e. tt) (λ e. fine_if (b == 41) _ _ (λ e. tt) (λ e. fine_if (is_quote b) _ _ (λ e. quoted_fine false bs)
    (λ e. fine_if (starts_with nat_eq (b ∷ bs) (codes "name:")) _ _ (λ e. name_fine (take_while is_solid (drop 5 (b ∷ bs))))
    (λ n. fine_if (is_quoted_title (b ∷ bs)) _ _ (λ e. quoted_fine true (drop 7 (b ∷ bs)))
    (λ e. run_fine (take_while is_run (b ∷ bs)) (while_passes is_run (b ∷ bs)) (front_begins (codes "name:") (b ∷ bs) (prefix_len is_run (b ∷ bs)) n) (run_no_quote (b ∷ bs)))))))

abbrev AllFine : List Token → Type 0
AllFine [] = Unit {0}
AllFine (t ∷ ts) = IsFine t × AllFine ts

all_if : (b : Bool) (x y : List Spot) → AllFine (tokens_of x) → AllFine (tokens_of y) → AllFine (tokens_of (if b then x else y))
all_if true x y f g = f
all_if false x y f g = g

spots_fine : (text : List ℕ) (p k : ℕ) → AllFine (tokens_of (spots_from p k text))
spots_fine [] p k = tt
spots_fine (b ∷ bs) p zero =
    all_if (is_blank b) (spots_from (p + 1) 0 bs) (at p (first_token (b ∷ bs)) ∷ spots_from (p + 1) (first_len (b ∷ bs) - 1) bs)
    (spots_fine bs (p + 1) 0) (first_fine (b ∷ bs), spots_fine bs (p + 1) (first_len (b ∷ bs) - 1))
spots_fine (b ∷ bs) p (suc k) = spots_fine bs (p + 1) k

-- the query that they spell
abbrev pub IsFineSide : Side → Type 0
IsFineSide s = IsFineLone (of_side s)

abbrev pub IsFineAtom : Atom → Type 0
IsFineAtom (lone a) = IsFineLone a
IsFineAtom (near l k r) = IsFineSide l × (1 ≤ k) × (k ≤ 1000) × IsFineSide r

abbrev mutual
  pub IsFineShape : Shape → Type 0
  IsFineShape (atom a) = IsFineAtom a
  IsFineShape (all qs) = AreFineShapes qs
  IsFineShape (any qs) = AreFineShapes qs
  IsFineShape (negated q) = IsFineShape q

  pub AreFineShapes : Shapes → Type 0
  AreFineShapes none = Unit {0}
  AreFineShapes (more q qs) = IsFineShape q × AreFineShapes qs

fine_left : (ts us : List Token) → AllFine (ts ++ us) → AllFine ts
fine_left [] us f = tt
fine_left (t ∷ ts) us f = (f.0, fine_left ts us f.1)

fine_right : (ts us : List Token) → AllFine (ts ++ us) → AllFine us
fine_right [] us f = f
fine_right (t ∷ ts) us f = fine_right ts us f.1

shapes_push : (qs : List Shape) (q : Shape) → AreFineShapes (shapes_of qs) → IsFineShape q → AreFineShapes (shapes_of (qs ++ q ∷ []))
shapes_push [] q f g = (g, tt)
shapes_push (r ∷ qs) q f g = (f.0, shapes_push qs q f.1 g)

all_fine : (qs : List Shape) → AreFineShapes (shapes_of qs) → IsFineShape (all_of qs)
all_fine [] f = tt
all_fine (q ∷ []) f = f.0
all_fine (q ∷ r ∷ qs) f = f

any_fine : (qs : List Shape) → AreFineShapes (shapes_of qs) → IsFineShape (any_of qs)
any_fine [] f = tt
any_fine (q ∷ []) f = f.0
any_fine (q ∷ r ∷ qs) f = f

side_fine : (a : Lone) (l : Side) → side_of a ≡ Some l → IsFineLone a → IsFineSide l
side_fine (words true text tests) l h f = absurd (cc)
side_fine (words false text []) l h f = absurd (cc)
side_fine (words false text (test ∷ [])) l h f = let e : word text test ≡ l = cc in subst IsFineSide e f
side_fine (words false text (test ∷ second ∷ tests)) l h f = absurd (cc)
side_fine (prefix true text test) l h f = absurd (cc)
side_fine (prefix false text test) l h f = let e : stem text test ≡ l = cc in subst IsFineSide e f
side_fine (name text) l h f = absurd (cc)
side_fine (value low high) l h f = absurd (cc)

mutual
  unary_fine : {d : ℕ} {ts : List Token} {q : Shape} → IsUnary d ts q → AllFine ts → IsFineShape q
  unary_fine alone f = f.0
  unary_fine (two_sides {a = a} {b = b} {l = l} {r = r} x y) f = (side_fine a l x f.0, f.1.0.0, f.1.0.1, side_fine b r y f.1.1.0)
  unary_fine (behind_not x) f = unary_fine x f.1
  unary_fine (in_parens {ts = ts} {qs = qs} x) f = any_fine qs (or_fine x (fine_left ts (close_paren ∷ []) f.1))

  and_fine : {d : ℕ} {ts : List Token} {qs : List Shape} → IsAnd d ts qs → AllFine ts → AreFineShapes (shapes_of qs)
  and_fine (first_unary x) f = (unary_fine x f, tt)
  and_fine (beside_and {ts = ts} {us = us} {qs = qs} {q = q} x y) f = shapes_push qs q (and_fine x (fine_left ts us f)) (unary_fine y (fine_right ts us f))
  and_fine (behind_and {ts = ts} {us = us} {qs = qs} {q = q} x y) f =
      shapes_push qs q (and_fine x (fine_left ts (and_word ∷ us) f)) (unary_fine y (fine_right ts (and_word ∷ us) f).1)

  or_fine : {d : ℕ} {ts : List Token} {qs : List Shape} → IsOr d ts qs → AllFine ts → AreFineShapes (shapes_of qs)
  or_fine (first_and {rs = rs} x) f = (all_fine rs (and_fine x f), tt)
  or_fine (behind_or {ts = ts} {us = us} {qs = qs} {rs = rs} x y) f =
      shapes_push qs (all_of rs) (or_fine x (fine_left ts (or_word ∷ us) f)) (all_fine rs (and_fine y (fine_right ts (or_word ∷ us) f).1))

spell_append : (ts us : List Token) → AllSpell ts → AllSpell us → AllSpell (ts ++ us)
spell_append [] us no_tokens g = g
spell_append (t ∷ ts) us (token_and s f) g = token_and s (spell_append ts us f g)

parens_spell : (b : Bool) (ts : List Token) → AllSpell ts → AllSpell (parens_if b ts)
parens_spell true ts f = token_and open_spells (spell_append ts (close_paren ∷ []) f (token_and close_spells no_tokens))
parens_spell false ts f = f

atom_spell : (a : Atom) → IsFineAtom a → AllSpell (atom_tokens a)
atom_spell (lone a) f = token_and (lone_spells a f) no_tokens
atom_spell (near l k r) f = token_and (lone_spells (of_side l) f.0) (token_and (near_spells k f.1 f.2) (token_and (lone_spells (of_side r) f.3) no_tokens))

mutual
  canon_spell : (q : Shape) → IsFineShape q → AllSpell (canon q)
  canon_spell (atom a) f = atom_spell a f
  canon_spell (all qs) f = canon_all_spell qs f
  canon_spell (any qs) f = canon_any_spell qs f
  canon_spell (negated q) f = token_and not_spells (parens_spell (is_compound q) (canon q) (canon_spell q f))

  canon_all_spell : (qs : Shapes) → AreFineShapes qs → AllSpell (canon_all qs)
  canon_all_spell none f = no_tokens
  canon_all_spell (more q qs) f = spell_append (parens_if (is_compound q) (canon q)) (canon_all qs) (parens_spell (is_compound q) (canon q) (canon_spell q f.0)) (canon_all_spell qs f.1)

  canon_any_spell : (qs : Shapes) → AreFineShapes qs → AllSpell (canon_any qs)
  canon_any_spell none f = no_tokens
  canon_any_spell (more q qs) f = spell_append (parens_if (is_any q) (canon q)) (canon_behind_or qs) (parens_spell (is_any q) (canon q) (canon_spell q f.0)) (canon_or_spell qs f.1)

  canon_or_spell : (qs : Shapes) → AreFineShapes qs → AllSpell (canon_behind_or qs)
  canon_or_spell none f = no_tokens
  canon_or_spell (more q qs) f = token_and or_spells (spell_append (parens_if (is_any q) (canon q)) (canon_behind_or qs) (parens_spell (is_any q) (canon q) (canon_spell q f.0)) (canon_or_spell qs f.1))

pub read_fine : (text : List ℕ) (q : Shape) → ReadsQuery (tokens_of (spots text)) q → IsFineShape q
unfolding spots
read_fine text q r = subst IsFineShape (sym r.is_any) (any_fine r.members (or_fine r.spelled (spots_fine text 0 0)))

-- the canonical spelling of a query that some text spells
pub reads_again : (text : List ℕ) (q : Shape) → ReadsQuery (tokens_of (spots text)) q → ReadsQuery (tokens_of (spots (canonical q))) q
unfolding spots canonical
reads_again text q r =
    let fine : IsFineShape q = read_fine text q r in
    let cut : tokens_of (spots (with_tokens [] (canon q))) ≡ canon q = cut_written (canon q) (canon_spell q fine) in
    subst (λ ts. ReadsQuery ts q) (sym cut) (canon_reads (tokens_of (spots text)) q r)

-- the values of a query that some text spells
fine_lone : (a : Lone) → IsFineLone a → HasOrderedValues (atom (lone a))
fine_lone (words title text tests) f = tt
fine_lone (prefix title front test) f = tt
fine_lone (name text) f = tt
fine_lone (value low high) f = f

fine_atom : (a : Atom) → IsFineAtom a → HasOrderedValues (atom a)
fine_atom (lone a) f = fine_lone a f
fine_atom (near l k r) f = tt

mutual
  fine_values : (q : Shape) → IsFineShape q → HasOrderedValues q
  fine_values (atom a) f = fine_atom a f
  fine_values (all qs) f = fine_each qs f
  fine_values (any qs) f = fine_each qs f
  fine_values (negated q) f = fine_values q f

  fine_each : (qs : Shapes) → AreFineShapes qs → HaveOrderedValues qs
  fine_each none f = tt
  fine_each (more q qs) f = (fine_values q f.0, fine_each qs f.1)

pub read_values : (text : List ℕ) (q : Shape) → ReadsQuery (tokens_of (spots text)) q → HasOrderedValues q
read_values text q r = fine_values q (read_fine text q r)
