-- Laws of what is kept of a line.
use Rattle.std.proofs.Common.{◌≡◌, ◌≢◌, ℕ, zero, suc, ◌+◌, ◌<◌, ◌≤◌, ◌-◌, ◌==◌, lit<, inl, inr, true, Some, None, List, [], ◌∷◌, ◌++◌, length, take, drop, map, min, slice_index, ap, sym, ◌∙◌, append-nil, arith}
use Rattle.std.proofs.lemmas.Grind.{common_steps}
use Rattle.std.proofs.lemmas.Bool.{cases_lt}
use Rattle.std.proofs.lemmas.List.{length-take, take_all}
use Rattle.std.proofs.Math.Seq.{take-append-add}
use Rattle.std.proofs.lemmas.List.Elements.{All-nil, All-cons, All-append, All-take}
use Rattle.alta_codec.specs.Bytes.{Lacks}
use Rattle.alta_console.specs.Lines.{whole_from, begun_from, last_piece}
use Rattle.alta_console.proofs.LineLaws.{take_take, take_grow, whole_from_take, begun_from_take, last_piece_take, whole_from_none, begun_from_none}
use Rattle.alta_machine.specs.declared.line.TheConstants.{LINE_LIMIT}
use Rattle.alta_session.specs.Keeping.{clip}
use Rattle.memchr.specs.Find.{IsFirstByte, is_byte}

-- with another beginning that is the same up to a clip, so is what follows
pub clip_grow : (p q x : List ℕ) → clip p ≡ clip q → clip (p ++ x) ≡ clip (q ++ x)
unfolding clip
clip_grow p q x same = take_grow (LINE_LIMIT + 1) p q x same

pub whole_from_clip : (p q xs : List ℕ) → clip p ≡ clip q → map clip (whole_from p xs) ≡ map clip (whole_from q xs)
unfolding clip
whole_from_clip p q xs same = whole_from_take (LINE_LIMIT + 1) p q xs same

pub begun_from_clip : (p q xs : List ℕ) → clip p ≡ clip q → clip (begun_from p xs) ≡ clip (begun_from q xs)
unfolding clip
begun_from_clip p q xs same = begun_from_take (LINE_LIMIT + 1) p q xs same

pub last_piece_clip : (line : List ℕ) → map clip (last_piece (clip line)) ≡ map clip (last_piece line)
unfolding clip
last_piece_clip line = last_piece_take (LINE_LIMIT + 1) line (lit< tt)

-- a clipped line is its own clip
pub clip_clip : (p : List ℕ) → clip (clip p) ≡ clip p
unfolding clip
clip_clip p = ap (λ (l : List ℕ). take (LINE_LIMIT + 1) l) (sym (append-nil (take (LINE_LIMIT + 1) p))) ∙ take_take (LINE_LIMIT + 1) p [] ∙ ap (λ (l : List ℕ). take (LINE_LIMIT + 1) l) (append-nil p)

pub clip_short : (p : List ℕ) → length (clip p) ≤ LINE_LIMIT + 1
unfolding clip
clip_short p = omega (arith, length-take (LINE_LIMIT + 1) p)

-- no line that is kept has a newline
abbrev IsOther : ℕ → Type 0
IsOther byte = byte ≢ 10

free_take : (n : ℕ) (xs : List ℕ) → Lacks 10 xs → Lacks 10 (take n xs)
free_take n xs free = All-take IsOther n xs free

pub free_clip : (xs : List ℕ) → Lacks 10 xs → Lacks 10 (clip xs)
unfolding clip
free_clip xs free = free_take (LINE_LIMIT + 1) xs free

pub free_append : (xs ys : List ℕ) → Lacks 10 xs → Lacks 10 ys → Lacks 10 (xs ++ ys)
free_append xs ys one two = All-append IsOther xs ys one two

-- bytes up to the first newline
ten : (x : ℕ) → (x == 10) ≡ true → x ≡ 10
ten x test = grind (arith, common_steps)

none_found : (xs : List ℕ) → ((k : ℕ) → 0 ≤ k → k < length xs → (slice_index xs k == 10) ≡ true → ⊥) → Lacks 10 xs
none_found [] none = All-nil IsOther
none_found (x ∷ xs) none = All-cons IsOther x xs first (none_found xs rest)
  where
    first : x ≡ 10 → ⊥
    first is = none 0 (omega arith) (omega arith) (ap (λ (n : ℕ). n == 10) is)

    rest : (k : ℕ) → 0 ≤ k → k < length xs → (slice_index xs k == 10) ≡ true → ⊥
    rest k le l is = none (suc k) (omega arith) (omega arith) is

pub no_newline_found : (xs : List ℕ) → IsFirstByte (is_byte 10) xs None → Lacks 10 xs
no_newline_found xs none = none_found xs none

drop_next : (k x : ℕ) (xs : List ℕ) → drop (k + 1) xs ≡ drop (suc k + 1) (x ∷ xs)
drop_next k x xs = let n : suc k + 1 ≡ suc (k + 1) = omega arith in sym (ap (λ (m : ℕ). drop m (x ∷ xs)) n)

take_next : (k x : ℕ) (xs : List ℕ) → take (suc k + 1) (x ∷ xs) ≡ x ∷ take (k + 1) xs
take_next k x xs = let n : suc k + 1 ≡ suc (k + 1) = omega arith in ap (λ (m : ℕ). take m (x ∷ xs)) n

-- the first newline cuts the bytes in two
pub record IsCutAt (k : ℕ) (xs : List ℕ) : Type 0 where
  pub within : k < length xs
  pub free : Lacks 10 (take k xs)
  pub line : take (k + 1) xs ≡ take k xs ++ 10 ∷ []
  pub all : xs ≡ take k xs ++ 10 ∷ drop (k + 1) xs

found_at : (k : ℕ) (xs : List ℕ) → k < length xs → ((j : ℕ) → 0 ≤ j → j < k → (slice_index xs j == 10) ≡ true → ⊥) → (slice_index xs k == 10) ≡ true → IsCutAt k xs
found_at k [] l none is = absurd (omega arith)
found_at zero (x ∷ xs) l none is = record { within = l; free = All-nil IsOther; line = ap (λ (n : ℕ). n ∷ []) (ten x is); all = ap (λ (n : ℕ). n ∷ xs) (ten x is) }
found_at (suc k) (x ∷ xs) l none is =
    let rest : IsCutAt k xs = found_at k xs (omega arith) (λ j le less at. none (suc j) (omega arith) (omega arith) at) is in
    record {
      within = l;
      free = All-cons IsOther x (take k xs) (λ at. none 0 (omega arith) (omega arith) (ap (λ (n : ℕ). n == 10) at)) rest.free;
      line = take_next k x xs ∙ ap (λ (l : List ℕ). x ∷ l) rest.line;
      all = ap (λ (l : List ℕ). x ∷ l) (rest.all ∙ ap (λ (l : List ℕ). take k xs ++ 10 ∷ l) (drop_next k x xs));
    }

pub newline_found : (k : ℕ) (xs : List ℕ) → IsFirstByte (is_byte 10) xs (Some k) → IsCutAt k xs
newline_found k xs found = found_at k xs found.0.high found.0.before found.1

-- as much more as fits
take_min : (k : ℕ) (bytes : List ℕ) → take (min k (length bytes)) bytes ≡ take k bytes
take_min k bytes =
    elim (cases_lt k (length bytes)) [
      | inl less ↦ let is : min k (length bytes) ≡ k = omega arith in ap (λ (n : ℕ). take n bytes) is
      | inr more ↦ take_all (min k (length bytes)) bytes (omega arith) ∙ sym (take_all k bytes more)
    ]

take_keep : (n m : ℕ) (line bytes : List ℕ) → length line ≤ n → m ≡ min (n - length line) (length bytes) → line ++ take m bytes ≡ take n (line ++ bytes)
take_keep n m line bytes short is =
    let sum : length line + (n - length line) ≡ n = omega arith in
    ap (λ (k : ℕ). line ++ take k bytes) is ∙ ap (λ (l : List ℕ). line ++ l) (take_min (n - length line) bytes) ∙ sym (take-append-add line bytes (n - length line)) ∙ ap (λ (k : ℕ). take k (line ++ bytes)) sum

pub clip_keep : (m : ℕ) (line bytes : List ℕ) → length line ≤ LINE_LIMIT + 1 → m ≡ min (LINE_LIMIT + 1 - length line) (length bytes) → line ++ take m bytes ≡ clip (line ++ bytes)
unfolding clip
clip_keep m line bytes short is = take_keep (LINE_LIMIT + 1) m line bytes short is

-- a line of bytes without a newline, and one that ends at a newline
pub whole_free : (p xs : List ℕ) → Lacks 10 xs → whole_from p xs ≡ []
whole_free p xs free = ap (λ (l : List ℕ). whole_from p l) (sym (append-nil xs)) ∙ whole_from_none p xs [] free

pub begun_free : (p xs : List ℕ) → Lacks 10 xs → begun_from p xs ≡ p ++ xs
begun_free p xs free = ap (λ (l : List ℕ). begun_from p l) (sym (append-nil xs)) ∙ begun_from_none p xs [] free

pub whole_ended : (p xs ys : List ℕ) → Lacks 10 xs → whole_from p (xs ++ 10 ∷ ys) ≡ (p ++ xs) ∷ whole_from [] ys
whole_ended p xs ys free = whole_from_none p xs (10 ∷ ys) free

pub begun_ended : (p xs ys : List ℕ) → Lacks 10 xs → begun_from p (xs ++ 10 ∷ ys) ≡ begun_from [] ys
begun_ended p xs ys free = begun_from_none p xs (10 ∷ ys) free
