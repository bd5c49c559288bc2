-- No term of a cell stands in it before.
use Rattle.std.proofs.Common.{◌≡◌, ℕ, zero, suc, false, ◌||◌, List, [], ◌∷◌, Option, Some, None, refl, sym, ap, ◌∙◌, subst, take, rules}
use Rattle.std.specs.Prelude.{slice_get, IfSome}
use Rattle.std.specs.Borrow.{Bor}
use Rattle.std.specs.Option.{option_copied}
use Rattle.std.specs.Ordering.{is_eq}
use Rattle.std.specs.Str.{bytes_eq}
use Rattle.std.proofs.lemmas.Cmp.{nat_list_cmp_total}
use Rattle.std.proofs.lemmas.Map.Text.{is_eq-slice_cmp}
use Rattle.alta_codec.specs.Order.{Precedes}
use Rattle.alta_machine.specs.Cells.{AreInOrder, IsCell, cell_holds}

-- a term behind the first stands after it
after_first : (first : List ℕ) (terms : List (List ℕ)) (i : ℕ) (term : List ℕ) → AreInOrder (first ∷ terms) → slice_get terms i ≡ Some term → Precedes first term
after_first first [] i term ordered at = absurd (search rules)
after_first first (next ∷ terms) zero term ordered at = subst (λ t. Precedes first t) (search rules) ordered.0
after_first first (next ∷ terms) (suc i) term ordered at =
    nat_list_cmp_total.trans first next term ordered.0 (after_first next terms i term ordered.1 (search rules))

differs : (first term : List ℕ) → Precedes first term → bytes_eq first term ≡ false
differs first term before = sym (is_eq-slice_cmp first term) ∙ ap is_eq before

behind : (first : List ℕ) (terms : List (List ℕ)) → AreInOrder (first ∷ terms) → AreInOrder terms
behind first [] ordered = tt
behind first (next ∷ terms) ordered = ordered.1

none_in_order : (terms : List (List ℕ)) (i : ℕ) (term : List ℕ) → AreInOrder terms → slice_get terms i ≡ Some term → cell_holds term (take i terms) ≡ false
none_in_order [] zero term ordered at = refl
none_in_order [] (suc i) term ordered at = refl
none_in_order (first ∷ terms) zero term ordered at = refl
none_in_order (first ∷ terms) (suc i) term ordered at =
    ap (λ b. b || cell_holds term (take i terms)) (differs first term (after_first first terms i term ordered (search rules)))
    ∙ none_in_order terms i term (behind first terms ordered) (search rules)

none_before : (cell : List (List ℕ)) (i : ℕ) (term : List ℕ) → IsCell cell → slice_get cell i ≡ Some term → cell_holds term (take i cell) ≡ false
none_before cell i term is at = none_in_order cell i term is.ordered at

-- what is found at an index is none of the terms before it
pub alone : (cell : List (List ℕ)) (i : ℕ) (found : Option (Bor (List ℕ))) → IsCell cell → option_copied found ≡ slice_get cell i → IfSome found (λ term. cell_holds term.now (take i cell) ≡ false)
alone cell i None is at = tt
alone cell i (Some term) is at = none_before cell i term.now is (sym at)
