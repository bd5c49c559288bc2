-- What the loop over the rows leaves, and where a search ends.
use Rattle.std.proofs.Common.{◌≡◌, ⊎_elim, ℕ, ◌+◌, ◌<◌, ◌≤◌, ◌==◌, true, false, not, cond, nat_eq, List, [], ◌∷◌, ◌++◌, length, map, take, get_or, refl, sym, ap, ◌∙◌, arith}
use Rattle.std.specs.declared.result.Result.{Result}
use Rattle.std.specs.List.{filter, list_any}
use Rattle.std.specs.List.Sorted.{IsSorted, IsBinarySearchResult}
use Rattle.std.specs.Ordering.{nat_cmp}
use Rattle.std.specs.Result.{MatchResult, is_ok}
use Rattle.std.specs.declared.result.Result.TheVariants.{Ok, Err}
use Rattle.std.proofs.lemmas.Bool.{cases_Bool, eq-eqb, ne_eqb, eqb-true, cases_lt}
use Rattle.std.proofs.lemmas.List.{get_or_default, map-append}
use Rattle.std.proofs.lemmas.List.Elements.{filter_more}
use Rattle.std.proofs.lemmas.List.Folds.{list_any_at, list_any_none}
use Rattle.std.proofs.lemmas.List.Sorted.{searched, IsNonDecreasingBy-from_sort}
use Rattle.alta_content.specs.declared.document.DocRow.{DocRow}
use Rattle.alta_content.specs.declared.spans.Span.{Span}
use Rattle.alta_content.specs.Rows.{ends_among}
use Rattle.alta_content.specs.Spans.{span_of, is_within, deleted_spans}
use Rattle.alta_content.proofs.Outside.{filter_all}

at_any : (xs : List ℕ) (k x d : ℕ) → k < length xs → (get_or xs k 0 ≡ x → ⊥) → nat_eq (get_or xs k d) x ≡ false
at_any xs k x d l h = rw (get_or_default xs k d 0 l) (ne_eqb (get_or xs k 0) x h)

-- a search in a sorted list finds a location exactly where the list has it
found : (xs : List ℕ) (x : ℕ) (r : Result ℕ ℕ)
    → MatchResult r (λ i. (i < length xs) × (get_or xs i 0 ≡ x)) (λ i. (i ≤ length xs) × ((k : ℕ) → k < i → get_or xs k 0 < x) × ((k : ℕ) → i ≤ k → k < length xs → x < get_or xs k 0))
    → is_ok r ≡ list_any (λ y. nat_eq y x) xs
found xs x (Ok i) h = sym (list_any_at (λ y. nat_eq y x) xs i 0 h.0 (eq-eqb (get_or xs i 0) x h.1))
found xs x (Err i) h =
    sym (list_any_none (λ y. nat_eq y x) xs
    (λ k d l.
    ⊎_elim
    (λ m. let lt : get_or xs k 0 < x = h.1 k m in at_any xs k x d l (λ e. absurd (omega (arith, lt, e))))
    (λ m. let lt : x < get_or xs k 0 = h.2 k m l in at_any xs k x d l (λ e. absurd (omega (arith, lt, e))))
    (cases_lt k i)))

pub found-searched : (xs : List ℕ) (x : ℕ) (r : Result ℕ ℕ) → IsSorted nat_cmp xs → IsBinarySearchResult (λ y. nat_cmp y x) xs r → is_ok r ≡ list_any (λ y. nat_eq y x) xs
found-searched xs x r s h =
    found xs x r (searched xs x r h (λ i j l m. IsNonDecreasingBy-from_sort (λ y. y) xs s i j 0 l m))

-- the spans of one row more
pub spans-more : (deleted : List ℕ) (rows : List DocRow) (i : ℕ) (row : DocRow) → i < length rows → row ≡ get_or rows i row
    → deleted_spans deleted (take (i + 1) rows) ≡ deleted_spans deleted (take i rows) ++ cond (ends_among deleted row) (span_of row ∷ []) []
spans-more deleted rows i row l at =
    let more = filter_more (ends_among deleted) rows i row l in
    let tail : map span_of (cond (ends_among deleted row) (row ∷ []) []) ≡ cond (ends_among deleted row) (span_of row ∷ []) [] =
    ⊎_elim (λ y. rw y refl) (λ n. rw n refl) (cases_Bool (ends_among deleted row)) in
    ap (map span_of) more ∙ map-append span_of (filter (ends_among deleted) (take i rows)) (cond (ends_among deleted (get_or rows i row)) (get_or rows i row ∷ []) [])
    ∙ ap (λ l. deleted_spans deleted (take i rows) ++ l) (ap (λ r. map span_of (cond (ends_among deleted r) (r ∷ []) [])) (sym at) ∙ tail)

-- where there is no span, nothing is left out
pub nothing_out : {X : Type 0} (place : X → ℕ) (spans : List Span) (xs : List X) → (length spans == 0) ≡ true → xs ≡ filter (λ x. not (is_within spans (place x))) xs
nothing_out place [] xs h = sym (filter_all xs)
nothing_out place (s ∷ ss) xs h = absurd (omega (arith, eqb-true (length (s ∷ ss)) 0 h))
