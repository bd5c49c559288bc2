-- Where a query's text may be cut.
use Rattle.std.proofs.Common.{◌≡◌, ℕ, ◌+◌, ◌-◌, ◌≤◌, ◌<◌, List, [], ◌∷◌, ◌++◌, length, drop, get_or, false, Bool, arith, sym, ap, ◌∙◌, subst, IsTrue}
use Rattle.std.specs.Prelude.{nat_eq, codes, not}
use Rattle.std.specs.List.{prefix_len, position_or_len, starts_with, ends_with}
use Rattle.std.specs.Str.{IsCharBoundary, IsUtf8}
use Rattle.std.proofs.lemmas.Bool.Decides.{nat_tests, Decides-eqb}
use Rattle.std.proofs.lemmas.List.{length-append, length-drop, get_or-drop}
use Rattle.std.proofs.Math.Seq.{take-append_seam}
use Rattle.std.proofs.lemmas.List.Sums.{prefix_len_stops}
use Rattle.std.proofs.lemmas.Slice.Eq.{starts_is, bytes_eq-Decides}
use Rattle.std.proofs.lemmas.Str.{IsCharBoundary-from_rest, IsCharBoundary-after_ascii, IsCharBoundary-before_ascii, IsCharBoundary-end, IsCharBoundary-from_take}
use Rattle.alta_machine.specs.Spots.{is_run, is_solid, is_quote, is_undotted}

stop_boundary : (p : ℕ → Bool) → ((b : ℕ) → p b ≡ false → b < 128) → (text : List ℕ) (n : ℕ) → n ≡ prefix_len p text → n ≤ length text → IsCharBoundary text n
stop_boundary p low text n e within =
    (within, λ before high. let l : get_or text n 0 < 128 = low (get_or text n 0) (rw e (prefix_len_stops p text 0 (rw e at before))) in absurd (omega arith))

run_low : (b : ℕ) → is_run b ≡ false → b < 128
run_low b h = grind (arith, nat_tests)

solid_low : (b : ℕ) → is_solid b ≡ false → b < 128
solid_low b h = grind (arith, nat_tests)

pub run_boundary : (text : List ℕ) (n : ℕ) → n ≡ prefix_len is_run text → n ≤ length text → IsCharBoundary text n
run_boundary = stop_boundary is_run run_low

pub solid_boundary : (text : List ℕ) (n : ℕ) → n ≡ prefix_len is_solid text → n ≤ length text → IsCharBoundary text n
solid_boundary = stop_boundary is_solid solid_low

undotted_low : (b : ℕ) → is_undotted b ≡ false → b < 128
undotted_low b h = grind (arith, nat_tests)

pub undotted_boundary : (text : List ℕ) (n : ℕ) → n ≡ prefix_len is_undotted text → n ≤ length text → IsCharBoundary text n
undotted_boundary = stop_boundary is_undotted undotted_low

not_quote_low : (b : ℕ) → (not (is_quote b) ≡ false) → b < 128
not_quote_low b h = grind (arith, nat_tests)

pub quote_boundary : (text : List ℕ) (n : ℕ) → n ≡ position_or_len is_quote text → n ≤ length text → IsCharBoundary text n
quote_boundary = stop_boundary (λ b. not (is_quote b)) not_quote_low

pub quote_past : (text : List ℕ) (n : ℕ) → IsUtf8 text → n ≡ position_or_len is_quote text → n < length text → IsCharBoundary text (n + 1)
quote_past text n u e within =
    let low : get_or text n 0 < 128 = not_quote_low (get_or text n 0) (rw e (prefix_len_stops (λ b. not (is_quote b)) text 0 (rw e at within))) in
    IsCharBoundary-after_ascii text n u within low

-- behind the bytes with which a text begins
pub head_boundary : (text head : List ℕ) (r : Bool) → IsUtf8 text → IsUtf8 head → r ≡ starts_with nat_eq text head → IsTrue r → IsCharBoundary text (length head)
head_boundary text head r u v e h =
    let k : text ≡ head ++ drop (length head) text = (starts_is Decides-eqb text head r e).0 h in
    subst (λ t. IsCharBoundary t (length head)) (sym k)
    (IsCharBoundary-from_take (head ++ drop (length head) text) (length head) (subst IsUtf8 k u) (omega (arith, length-append head (drop (length head) text)))
    (subst IsUtf8 (sym (take-append_seam head (drop (length head) text))) v))

-- before the star with which a text ends
pub star_boundary : (text : List ℕ) (r : Bool) → r ≡ ends_with nat_eq text (codes "*") → IsTrue r → IsCharBoundary text (length text - 1)
star_boundary text r e h =
    let k : drop (length text - 1) text ≡ 42 ∷ [] = sym ((bytes_eq-Decides (codes "*") (drop (length text - 1) text)).0 (sym e ∙ h)) in
    let n : length (drop (length text - 1) text) ≡ 1 = ap length k in
    let within : length text - 1 < length text = omega (arith, length-drop (length text - 1) text) in
    let i : length text - 1 + 0 ≡ length text - 1 = omega arith in
    let b : get_or text (length text - 1) 0 ≡ 42 = ap (λ m. get_or text m 0) (sym i) ∙ sym (get_or-drop (length text - 1) text 0 0) ∙ ap (λ x. get_or x 0 0) k in
    IsCharBoundary-before_ascii text (length text - 1) within (omega arith)

-- behind the first byte, where that is ASCII
pub first_boundary : (text : List ℕ) (b : ℕ) → IsUtf8 text → 0 < length text → get_or text 0 0 ≡ b → b < 128 → IsCharBoundary text 1
first_boundary text b u some e low = IsCharBoundary-after_ascii text 0 u some (rw e low)

pub ruleset laws = (IsCharBoundary-from_rest, IsCharBoundary-end)
