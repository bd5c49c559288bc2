-- What a cell holds of one kind depends on its terms of that kind alone.
use Rattle.std.proofs.Common.{◌≡◌, ℕ, List, [], ◌∷◌, Bool, true, false, cond, refl, sym, ap, ◌∙◌}
use Rattle.std.specs.Prelude.{◌||◌, nat_eq}
use Rattle.std.specs.List.{AllByRecursion, list_any, starts_with}
use Rattle.std.specs.Str.{bytes_eq}
use Rattle.std.proofs.lemmas.Bool.{and_left, eqb-false, ne_eqb}
use Rattle.alta_machine.specs.Cells.{cell_holds, cell_begins}
use Rattle.alta_machine.specs.Plain.{is_kind, of_kind}

-- a test that no term of another kind passes
abbrev IsOfKind : ℕ → (List ℕ → Bool) → Type 0
IsOfKind kind test = (term : List ℕ) → is_kind kind term ≡ false → test term ≡ false

any_step : (kind : ℕ) (test : List ℕ → Bool) (term : List ℕ) (cell : List (List ℕ)) (b : Bool) → IsOfKind kind test → is_kind kind term ≡ b
    → list_any test cell ≡ list_any test (of_kind kind cell) → list_any test (term ∷ cell) ≡ list_any test (cond b (term ∷ of_kind kind cell) (of_kind kind cell))
any_step kind test term cell true of e rest = ap (λ b. test term || b) rest
any_step kind test term cell false of e rest = ap (λ b. b || list_any test cell) (of term e) ∙ rest

any_of_kind : (kind : ℕ) (test : List ℕ → Bool) → IsOfKind kind test → (cell : List (List ℕ)) → list_any test cell ≡ list_any test (of_kind kind cell)
any_of_kind kind test of [] = refl
any_of_kind kind test of (term ∷ cell) = any_step kind test term cell (is_kind kind term) of refl (any_of_kind kind test of cell)

any_same : (kind : ℕ) (test : List ℕ → Bool) → IsOfKind kind test → (a b : List (List ℕ)) → of_kind kind a ≡ of_kind kind b → list_any test a ≡ list_any test b
any_same kind test of a b e = any_of_kind kind test of a ∙ ap (λ cell. list_any test cell) e ∙ sym (any_of_kind kind test of b)

is_other : (kind : ℕ) (rest term : List ℕ) → is_kind kind term ≡ false → bytes_eq term (kind ∷ rest) ≡ false
is_other kind rest [] e = refl
is_other kind rest (byte ∷ bytes) e = and_left (nat_eq byte kind) (bytes_eq bytes rest) e

pub begins_other : (kind : ℕ) (rest term : List ℕ) → is_kind kind term ≡ false → starts_with nat_eq term (kind ∷ rest) ≡ false
begins_other kind rest [] e = refl
begins_other kind rest (byte ∷ bytes) e =
    and_left (nat_eq kind byte) (starts_with nat_eq bytes rest) (ne_eqb kind byte (λ same. eqb-false byte kind e (sym same)))

-- cells with the same terms of a kind hold the same term of it
pub holds_same : (kind : ℕ) (rest : List ℕ) (a b : List (List ℕ)) → of_kind kind a ≡ of_kind kind b → cell_holds (kind ∷ rest) a ≡ cell_holds (kind ∷ rest) b
holds_same kind rest a b e = any_same kind (λ held. bytes_eq held (kind ∷ rest)) (is_other kind rest) a b e

-- and a term of it that begins so
pub begins_same : (kind : ℕ) (rest : List ℕ) (a b : List (List ℕ)) → of_kind kind a ≡ of_kind kind b → cell_begins (kind ∷ rest) a ≡ cell_begins (kind ∷ rest) b
begins_same kind rest a b e = any_same kind (λ held. starts_with nat_eq held (kind ∷ rest)) (begins_other kind rest) a b e

-- what it holds of a kind is among its terms of the kind
pub holds_among : (kind : ℕ) (rest : List ℕ) (cell : List (List ℕ)) → cell_holds (kind ∷ rest) cell ≡ list_any (λ held. bytes_eq held (kind ∷ rest)) (of_kind kind cell)
holds_among kind rest cell = any_of_kind kind (λ held. bytes_eq held (kind ∷ rest)) (is_other kind rest) cell

pub begins_among : (kind : ℕ) (rest : List ℕ) (cell : List (List ℕ)) → cell_begins (kind ∷ rest) cell ≡ list_any (λ held. starts_with nat_eq held (kind ∷ rest)) (of_kind kind cell)
begins_among kind rest cell = any_of_kind kind (λ held. starts_with nat_eq held (kind ∷ rest)) (begins_other kind rest) cell

-- a cell whose terms are all of other kinds has none
pub none_of_kind : (kind : ℕ) (cell : List (List ℕ)) → AllByRecursion (λ term. is_kind kind term ≡ false) cell → of_kind kind cell ≡ []
none_of_kind kind [] others = refl
none_of_kind kind (term ∷ cell) others = ap (λ b. cond b (term ∷ of_kind kind cell) (of_kind kind cell)) others.0 ∙ none_of_kind kind cell others.1
