-- The row of a number, and whether its document is live and has a name.
use Rattle.std.proofs.Common.{◌≡◌, ℕ, zero, suc, ◌<◌, Bool, true, false, List, [], ◌∷◌, ◌++◌, length, take, get_or, refl, sym, ap, ap₂, ◌∙◌, arith}
use Rattle.std.specs.Prelude.{◌&&◌, ◌||◌, ◌==◌}
use Rattle.std.specs.List.{All}
use Rattle.std.proofs.lemmas.List.Elements.{All-head, All-tail}
use Rattle.std.proofs.lemmas.List.Folds.{list_any-append}
use Rattle.std.specs.Str.{bytes_eq}
use Rattle.alta_content.specs.Rows.{AreDocuments, AreDocumentsBehind, Before, behind_row, ends_among, start}
use Rattle.alta_content.specs.declared.document.DocRow.{DocRow}
use Rattle.alta_meaning.specs.Known.{Named, is_taken, is_taken_by}
use Rattle.alta_meaning.specs.Opened.{live_in}
use Rattle.alta_meaning.proofs.NumberLaws.{at_least}
use Rattle.alta_meaning.proofs.OrderLaws.{live_append, live_drop, live_keep}
use Rattle.alta_meaning.proofs.Tests.{apart_test, by_test, equal_test}

-- one of two lists has it
pub either_by : (name : List ℕ) (number : ℕ) (first second : List Named) → is_taken_by name number (first ++ second) ≡ (is_taken_by name number first || is_taken_by name number second)
either_by name number first second = list_any-append (λ (row : Named). bytes_eq name row.name && row.number == number) first second

pub split_by : (deleted name : List ℕ) (number : ℕ) (rows more : List DocRow)
    → is_taken_by name number (live_in deleted (rows ++ more)) ≡ (is_taken_by name number (live_in deleted rows) || is_taken_by name number (live_in deleted more))
split_by deleted name number rows more = ap (is_taken_by name number) (live_append deleted rows more) ∙ either_by name number (live_in deleted rows) (live_in deleted more)

module _ (deleted name : List ℕ) where
  -- a row with another number
  other_free : (number : ℕ) (row : DocRow) → (row.number == number) ≡ false → is_taken_by name number (live_in deleted (row ∷ [])) ≡ false
  other_free number row differs =
      by_test (ends_among deleted row)
      (λ dead. ap (is_taken_by name number) (live_drop deleted row [] dead))
      (λ lives. ap (is_taken_by name number) (live_keep deleted row [] lives) ∙ ap (λ (b : Bool). (bytes_eq name row.name && b) || false) differs ∙ none (bytes_eq name row.name))
    where
      none : (b : Bool) → ((b && false) || false) ≡ false
      none true = refl
      none false = refl

  -- and its own
  own_taken : (row : DocRow) → is_taken_by name row.number (live_in deleted (row ∷ [])) ≡ is_taken name (live_in deleted (row ∷ []))
  own_taken row =
      by_test (ends_among deleted row)
      (λ dead. ap (is_taken_by name row.number) (live_drop deleted row [] dead) ∙ sym (ap (is_taken name) (live_drop deleted row [] dead)))
      (λ lives. ap (is_taken_by name row.number) (live_keep deleted row [] lives) ∙ ap (λ (b : Bool). (bytes_eq name row.name && b) || false) (equal_test row.number row.number refl)
      ∙ same (bytes_eq name row.name) ∙ sym (ap (is_taken name) (live_keep deleted row [] lives)))
    where
      same : (b : Bool) → ((b && true) || false) ≡ (b || false)
      same true = refl
      same false = refl

  -- where each row has another number
  pub others_free : (number : ℕ) (rows : List DocRow) → All (λ (row : DocRow). (row.number == number) ≡ false) rows → is_taken_by name number (live_in deleted rows) ≡ false
  others_free number [] others = refl
  others_free number (row ∷ rows) others =
      split_by deleted name number (row ∷ []) rows
      ∙ ap₂ (λ (a b : Bool). a || b) (other_free number row (All-head (λ (r : DocRow). (r.number == number) ≡ false) row rows others))
      (others_free number rows (All-tail (λ (r : DocRow). (r.number == number) ≡ false) row rows others))

  -- of rows that rise one alone has its number
  row_taken : (before : Before) (rows : List DocRow) → AreDocumentsBehind before rows → (i : ℕ) (d : DocRow) → i < length rows
      → is_taken_by name (get_or rows i d).number (live_in deleted rows) ≡ is_taken name (live_in deleted (get_or rows i d ∷ []))
  unfolding AreDocumentsBehind
  row_taken before [] are i d inside = absurd (omega (arith, inside))
  row_taken before (row ∷ rows) are zero d inside =
      split_by deleted name row.number (row ∷ []) rows
      ∙ ap₂ (λ (a b : Bool). a || b) (own_taken row)
      (others_free row.number rows (λ j e within.
      let above = at_least (behind_row before row) rows are.1 j e within in
      apart_test (get_or rows j e).number row.number (λ same. absurd (omega (arith, same, above)))))
      ∙ or_none (is_taken name (live_in deleted (row ∷ [])))
    where
      or_none : (b : Bool) → (b || false) ≡ b
      or_none true = refl
      or_none false = refl
  row_taken before (row ∷ rows) are (suc i) d inside =
      let within : i < length rows = omega (arith, inside) in
      let above = at_least (behind_row before row) rows are.1 i d within in
      split_by deleted name (get_or rows i d).number (row ∷ []) rows
      ∙ ap (λ (b : Bool). b || is_taken_by name (get_or rows i d).number (live_in deleted rows))
      (other_free (get_or rows i d).number row (apart_test row.number (get_or rows i d).number (λ same. absurd (omega (arith, same, above)))))
      ∙ row_taken (behind_row before row) rows are.1 i d within

  -- what the row with a number says of the name
  pub taken_there : (rows : List DocRow) → AreDocuments rows → (i : ℕ) (row : DocRow) → i < length rows → row ≡ get_or rows i row → (number : ℕ) → row.number ≡ number
      → is_taken name (live_in deleted (row ∷ [])) ≡ is_taken_by name number (live_in deleted rows)
  taken_there rows are i row inside is number numbered =
      ap (λ (r : DocRow). is_taken name (live_in deleted (r ∷ []))) is ∙ sym (row_taken start rows are i row inside)
      ∙ ap (λ (n : ℕ). is_taken_by name n (live_in deleted rows)) (sym (ap (λ (r : DocRow). r.number) is) ∙ numbered)

-- the first of such rows
pub first_stand : (before : Before) (rows : List DocRow) → AreDocumentsBehind before rows → (i : ℕ) → AreDocumentsBehind before (take i rows)
unfolding AreDocumentsBehind
first_stand before rows are zero = tt
first_stand before [] are (suc i) = tt
first_stand before (row ∷ rows) are (suc i) = (are.0, first_stand (behind_row before row) rows are.1 i)
