-- The row of a term, where it is looked for by halves.
use Rattle.std.proofs.Common.{◌≡◌, ℕ, zero, suc, ◌+◌, ◌<◌, length, Bool, true, false, cond, List, [], ◌∷◌, get_or, refl, sym, subst, ap, ◌∙◌, arith}
use Rattle.std.specs.Prelude.{Option, Some, None, MatchOption, slice_get}
use Rattle.std.specs.Str.{bytes_eq}
use Rattle.alta_codec.specs.Order.{Precedes}
use Rattle.alta_content.proofs.Order.{itself, less_differs, less_on, same_term}
use Rattle.alta_meaning.proofs.Tests.{by_test}
use Rattle.alta_level.specs.Stored.{Stored}
use Rattle.alta_loading.specs.Lists.{stored_as}
use Rattle.alta_loading.specs.Loads.{row_from}
use Rattle.alta_table.specs.Places.{TermAt}
use Rattle.alta_table.specs.Tables.{Tables}
use Rattle.alta_table.specs.Terms.{AreTerms, AreTermsBehind, counts_of, terms_of}
use Rattle.alta_table.specs.declared.term.TermRow.{TermRow}

-- a term of these rows comes behind the term before them
pub behind : (before : List ℕ) (rows : List TermRow) (term : List ℕ) (k : ℕ) → AreTermsBehind before rows → slice_get (terms_of rows) k ≡ Some term → Precedes before term
unfolding AreTermsBehind
behind before [] term k a e = absurd (cc)
behind before (row ∷ rows) term zero (m, more) e =
    let same : row.term ≡ term = cc in subst (Precedes before) same m.rises
behind before (row ∷ rows) term (suc k) (m, more) e = less_on before row.term term m.rises (behind row.term rows term k more e)

first : (i : ℕ) (row : TermRow) (rows : List TermRow) (term : List ℕ) → bytes_eq row.term term ≡ true → row_from i (row ∷ rows) term ≡ Some i
first i row rows term e = ap (λ (b : Bool). cond b (Some i) (row_from (i + 1) rows term)) e

later : (i : ℕ) (row : TermRow) (rows : List TermRow) (term : List ℕ) → bytes_eq row.term term ≡ false → row_from i (row ∷ rows) term ≡ row_from (i + 1) rows term
later i row rows term e = ap (λ (b : Bool). cond b (Some i) (row_from (i + 1) rows term)) e

found : (before : List ℕ) (i : ℕ) (rows : List TermRow) (term : List ℕ) (k : ℕ) → AreTermsBehind before rows → slice_get (terms_of rows) k ≡ Some term → row_from i rows term ≡ Some (i + k)
unfolding AreTermsBehind
found before i [] term k a e = absurd (cc)
found before i (row ∷ rows) term zero (m, more) e =
    let same : row.term ≡ term = cc in
    let here : i ≡ i + 0 = omega arith in
    first i row rows term (subst (λ t. bytes_eq t term ≡ true) (sym same) (itself term)) ∙ ap Some here
found before i (row ∷ rows) term (suc k) (m, more) e =
    let there : i + 1 + k ≡ i + suc k = omega arith in
    later i row rows term (less_differs row.term term (behind row.term rows term k more e)) ∙ found row.term (i + 1) rows term k more e ∙ ap Some there

-- a term that no row has
pub no_row : (i : ℕ) (rows : List TermRow) (term : List ℕ) → ((k : ℕ) → slice_get (terms_of rows) k ≡ Some term → ⊥) → row_from i rows term ≡ None
no_row i [] term none = refl
no_row i (row ∷ rows) term none =
    by_test (bytes_eq row.term term) (λ yes. absurd (none 0 (ap Some (same_term row.term term yes)))) (λ no. later i row rows term no ∙ no_row (i + 1) rows term (λ k e. none (suc k) e))

-- what a look-up finds is the row
pub row_found : (rows : List TermRow) (term : List ℕ) (r : Option ℕ) → AreTerms rows
    → MatchOption r ((i : ℕ) → slice_get (terms_of rows) i ≡ Some term → ⊥) (λ i. slice_get (terms_of rows) i ≡ Some term) → r ≡ row_from 0 rows term
row_found rows term None a h = sym (no_row 0 rows term h)
row_found rows term (Some i) a h = let here : i ≡ 0 + i = omega arith in ap Some here ∙ sym (found [] 0 rows term i a h)

pub row_within : (rows : List TermRow) (term : List ℕ) (r : Option ℕ) → MatchOption r ((i : ℕ) → slice_get (terms_of rows) i ≡ Some term → ⊥) (λ i. slice_get (terms_of rows) i ≡ Some term)
    → MatchOption r (Unit {0}) (λ i. i < length rows)
row_within rows term None h = tt
row_within rows term (Some i) h = index_within rows term i h
  where
    index_within : (rows : List TermRow) (term : List ℕ) (i : ℕ) → slice_get (terms_of rows) i ≡ Some term → i < length rows
    index_within [] term i e = absurd (cc)
    index_within (row ∷ rows) term zero e = omega arith
    index_within (row ∷ rows) term (suc i) e = omega (arith, index_within rows term i e)

-- a row counts a location at least
counted_behind : (before : List ℕ) (rows : List TermRow) (i : ℕ) → AreTermsBehind before rows → i < length rows → 0 < get_or (counts_of rows) i 0
unfolding AreTermsBehind
counted_behind before [] i a l = absurd (omega (arith, l))
counted_behind before (row ∷ rows) zero (m, more) l = m.some
counted_behind before (row ∷ rows) (suc i) (m, more) l = counted_behind row.term rows i more (omega (arith, l))

pub row_counted : (rows : List TermRow) (i : ℕ) → AreTerms rows → i < length rows → 0 < get_or (counts_of rows) i 0
row_counted rows i a l = counted_behind [] rows i a l

-- the list of a row by its bytes
pub stored_same : (level : Tables) (row : ℕ) (s : Stored) (x y stream summary : List ℕ) → s ≡ stored_as level row x y → x ≡ stream → y ≡ summary → s ≡ stored_as level row stream summary
stored_same level row s x y stream summary is a b = is ∙ ap (λ z. stored_as level row z y) a ∙ ap (λ z. stored_as level row stream z) b

-- the term of the row at which a cursor stands
pub term_at : (at : TermAt) (level : Tables) (row : ℕ) (term : List ℕ) → at.tables ≡ level → at.row ≡ row → slice_get (terms_of at.tables.terms) at.row ≡ Some term → slice_get (terms_of level.terms) row ≡ Some term
term_at at level row term tables here is =
    ap (λ (t : Tables). slice_get (terms_of t.terms) row) (sym tables) ∙ ap (λ (k : ℕ). slice_get (terms_of at.tables.terms) k) (sym here) ∙ is

-- and it has the term
pub row_has : (rows : List TermRow) (term : List ℕ) (r : Option ℕ) → MatchOption r ((i : ℕ) → slice_get (terms_of rows) i ≡ Some term → ⊥) (λ i. slice_get (terms_of rows) i ≡ Some term)
    → MatchOption r (Unit {0}) (λ i. slice_get (terms_of rows) i ≡ Some term)
row_has rows term None h = tt
row_has rows term (Some i) h = h
