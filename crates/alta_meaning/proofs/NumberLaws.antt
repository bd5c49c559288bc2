-- Rows that rise, searched by halves for a number.
use Rattle.std.proofs.Common.{◌≡◌, ⊎_elim, ℕ, zero, suc, ◌<◌, ◌≤◌, false, List, [], ◌∷◌, length, get_or, sym, ◌∙◌, ap, arith}
use Rattle.std.specs.Prelude.{◌==◌, Ok, Err}
use Rattle.std.specs.List.{All}
use Rattle.std.specs.List.Sorted.{IsBinarySearchResult, IsNonDecreasingBy}
use Rattle.std.specs.Ordering.{nat_cmp, ordering_index}
use Rattle.std.proofs.lemmas.Bool.{cases_lt}
use Rattle.std.proofs.lemmas.Bool.Decides.{nat_tests}
use Rattle.std.proofs.lemmas.Cmp.{ranked}
use Rattle.alta_content.specs.Rows.{AreDocumentsBehind, Before, behind_row}
use Rattle.alta_content.specs.declared.document.DocRow.{DocRow}
use Rattle.alta_meaning.proofs.Tests.{apart_test}

pub at_least : (before : Before) (rows : List DocRow) → AreDocumentsBehind before rows → (j : ℕ) (e : DocRow) → j < length rows → before.number < (get_or rows j e).number
unfolding AreDocumentsBehind
at_least before [] are j e inside = absurd (omega (arith, inside))
at_least before (row ∷ rows) are zero e inside = are.0.rises
at_least before (row ∷ rows) are (suc j) e inside = omega (arith, are.0.rises, at_least (behind_row before row) rows are.1 j e (omega (arith, inside)))

numbers_rise : (before : Before) (rows : List DocRow) → AreDocumentsBehind before rows → (i j : ℕ) (e : DocRow) → i ≤ j → j < length rows → (get_or rows i e).number ≤ (get_or rows j e).number
unfolding AreDocumentsBehind
numbers_rise before [] are i j e le inside = absurd (omega (arith, inside))
numbers_rise before (row ∷ rows) are zero zero e le inside = omega arith
numbers_rise before (row ∷ rows) are zero (suc j) e le inside = omega (arith, at_least (behind_row before row) rows are.1 j e (omega (arith, inside)))
numbers_rise before (row ∷ rows) are (suc i) zero e le inside = absurd (omega (arith, le))
numbers_rise before (row ∷ rows) are (suc i) (suc j) e le inside = numbers_rise (behind_row before row) rows are.1 i j e (omega (arith, le)) (omega (arith, inside))

comparisons_rise : (n : ℕ) (before : Before) (rows : List DocRow) → AreDocumentsBehind before rows → IsNonDecreasingBy (λ (row : DocRow). ordering_index (nat_cmp row.number n)) rows
comparisons_rise n before rows are i j e le inside =
    let rises = numbers_rise before rows are i j e le inside in
    grind (arith, nat_tests)

-- what is found has the number
pub found_here : (n : ℕ) (rows : List DocRow) (i : ℕ) (row : DocRow) → IsBinarySearchResult (λ (r : DocRow). nat_cmp r.number n) rows (Ok i) → row ≡ get_or rows i row → row.number ≡ n
found_here n rows i row equal is = ap (λ (r : DocRow). r.number) is ∙ ranked (get_or rows i row).number n _ (sym (equal row))

-- where nothing is found no row has it
pub none_here : (n : ℕ) (before : Before) (rows : List DocRow) → AreDocumentsBehind before rows → (i : ℕ) → IsBinarySearchResult (λ (r : DocRow). nat_cmp r.number n) rows (Err i) → All (λ (row : DocRow). (row.number == n) ≡ false) rows
none_here n before rows are i parted = λ j d inside.
    let split = parted (comparisons_rise n before rows are) in
    apart_test (get_or rows j d).number n
    (λ e. ⊎_elim
    (λ lies. let less : (get_or rows j d).number < n = ranked (get_or rows j d).number n _ (sym (split.0 j d (omega arith) lies)) in absurd (omega (arith, less, e)))
    (λ behind. let more : n < (get_or rows j d).number = ranked (get_or rows j d).number n _ (sym (split.1 j d behind inside)) in absurd (omega (arith, more, e)))
    (cases_lt j i))
