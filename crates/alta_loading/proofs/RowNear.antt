-- What the rows beside a place say of a term, in rows whose terms rise.
use Rattle.std.proofs.Common.{◌≡◌, length, get_or, ◌⊎◌, ⊎_elim, ℕ, zero, suc, ◌≤◌, ◌<◌, true, List, [], ◌∷◌, refl, sym, ap, subst, ◌∙◌, arith}
use Rattle.std.specs.Prelude.{◌-◌, IfSome, Option, Some, None, MatchOption, slice_get}
use Rattle.std.proofs.lemmas.List.{get_or_default}
use Rattle.std.specs.Cmp.Lexicographic.{slice_cmp}
use Rattle.std.specs.FinMap.{slice_cmp-IsAntisymmetric, nat_cmp-IsAntisymmetric}
use Rattle.std.specs.Ordering.{nat_cmp, is_lt}
use Rattle.std.specs.declared.cmp.Ordering.{Ordering}
use Rattle.std.specs.declared.cmp.Ordering.TheVariants.{Less, Equal, Greater}
use Rattle.std.proofs.lemmas.Bool.{cases_lt}
use Rattle.std.proofs.lemmas.Cmp.{nat_list_cmp_total, tied_itself}
use Rattle.alta_codec.specs.Order.{Precedes}
use Rattle.alta_content.proofs.Order.{less_on}
use Rattle.alta_loading.proofs.RowOf.{behind}
use Rattle.alta_loading.specs.Met.{level_terms}
use Rattle.alta_loading.specs.Near.{AreNear, IsBeside, order_to}
use Rattle.alta_loading.specs.declared.near.Beside.{Beside}
use Rattle.alta_table.specs.Tables.{Tables}
use Rattle.alta_table.specs.Terms.{AreTerms, AreTermsBehind, terms_of}
use Rattle.alta_table.specs.declared.term.TermRow.{TermRow}

abbrev order : List ℕ → List ℕ → Ordering
order a b = slice_cmp nat_cmp a b

-- the term of a row precedes those of later rows
rises : (before : List ℕ) (rows : List TermRow) (i j : ℕ) (a b : List ℕ) → AreTermsBehind before rows → slice_get (terms_of rows) i ≡ Some a → slice_get (terms_of rows) j ≡ Some b → i < j → Precedes a b
unfolding AreTermsBehind
rises before [] i j a b m e f l = absurd (cc)
rises before (row ∷ rows) zero zero a b m e f l = absurd (omega (arith, l))
rises before (row ∷ rows) zero (suc j) a b (m, more) e f l =
    let same : row.term ≡ a = cc in subst (λ (t : List ℕ). Precedes t b) same (behind row.term rows b j more f)
rises before (row ∷ rows) (suc i) zero a b m e f l = absurd (omega (arith, l))
rises before (row ∷ rows) (suc i) (suc j) a b (m, more) e f l = rises row.term rows i j a b more e f (omega (arith, l))

-- before a row there is a row at each place
some_before : (ts : List (List ℕ)) (k i : ℕ) (term : List ℕ) → k ≤ i → slice_get ts i ≡ Some term → (b : List ℕ) × (slice_get ts k ≡ Some b)
some_before [] k i term le e = absurd (cc)
some_before (b ∷ ts) zero i term le e = (b, refl)
some_before (b ∷ ts) (suc k) zero term le e = absurd (omega (arith, le))
some_before (b ∷ ts) (suc k) (suc i) term le e = some_before ts k i term (omega (arith, le)) e

-- the same term at the same place
same_place : (ts : List (List ℕ)) (i j : ℕ) (a b : List ℕ) → i ≡ j → slice_get ts i ≡ Some a → slice_get ts j ≡ Some b → a ≡ b
same_place ts i j a b same e f =
    let there : slice_get ts i ≡ Some b = ap (slice_get ts) same ∙ f in
    cc

pub less_is : (r : Ordering) → is_lt r ≡ true → r ≡ Less
less_is Less h = refl
less_is Equal h = absurd (cc)
less_is Greater h = absurd (cc)

-- what stands to a term as its equal is the term
pub found_at : (ts : List (List ℕ)) (term : List ℕ) (i : ℕ) → order_to term (slice_get ts i) ≡ Equal → slice_get ts i ≡ Some term
found_at ts term i h = by (slice_get ts i) refl h
  where
    by : (o : Option (List ℕ)) → slice_get ts i ≡ o → order_to term o ≡ Equal → slice_get ts i ≡ Some term
    by None is e = absurd (cc)
    by (Some b) is e = is ∙ ap (λ (t : List ℕ). Some t) (slice_cmp-IsAntisymmetric nat_cmp-IsAntisymmetric b term e)

-- a term that is lower than what stands at a place stands before it
lower : (rows : List TermRow) (term b : List ℕ) (i at : ℕ) → AreTerms rows → slice_get (terms_of rows) i ≡ Some term → slice_get (terms_of rows) at ≡ Some b → at ≤ i → order b term ≡ Greater → ⊥
lower rows term b i at m e f le h =
    ⊎_elim
    (λ before. let less : order b term ≡ Less = rises [] rows at i b term m f e before in absurd (let clash : Less ≡ Greater = sym less ∙ h in cc))
    (λ ge.
    let here : at ≡ i = omega (arith, le, ge) in
    let same : b ≡ term = same_place (terms_of rows) at i b term here f e in
    let tied : order b term ≡ Equal = ap (λ (t : List ℕ). order t term) same ∙ tied_itself nat_list_cmp_total term in
    absurd (let clash : Equal ≡ Greater = sym tied ∙ h in cc))
    (cases_lt at i)

-- and one that is greater stands behind it
greater : (rows : List TermRow) (term b : List ℕ) (i at : ℕ) → AreTerms rows → slice_get (terms_of rows) i ≡ Some term → slice_get (terms_of rows) at ≡ Some b → i ≤ at → order b term ≡ Less → ⊥
greater rows term b i at m e f le h =
    let never : order term term ≡ Less → ⊥ = λ less. absurd (let clash : Less ≡ Equal = sym less ∙ tied_itself nat_list_cmp_total term in cc) in
    ⊎_elim
    (λ before. never (less_on term b term (rises [] rows i at term b m e f before) h))
    (λ ge.
    let here : i ≡ at = omega (arith, le, ge) in
    let same : term ≡ b = same_place (terms_of rows) i at term b here e f in
    never (ap (λ (t : List ℕ). order t term) same ∙ h))
    (cases_lt i at)

-- A term stands nowhere, where what stands before a place is lower and what stands at it is greater.
pub absent_at : (rows : List TermRow) (term : List ℕ) (at : ℕ) → AreTerms rows → (at ≡ 0) ⊎ (order_to term (slice_get (terms_of rows) (at - 1)) ≡ Less)
    → order_to term (slice_get (terms_of rows) at) ≡ Greater → (i : ℕ) → slice_get (terms_of rows) i ≡ Some term → ⊥
absent_at rows term at m low high i e =
    ⊎_elim
    (λ before. ⊎_elim (λ none. absurd (omega (arith, before, none))) (λ less. last (slice_get (terms_of rows) (at - 1)) refl before less) low)
    (λ from.
    let (b, is) = some_before (terms_of rows) at i term from e in
    lower rows term b i at m e is from (sym (ap (order_to term) is) ∙ high))
    (cases_lt i at)
  where
    last : (o : Option (List ℕ)) → slice_get (terms_of rows) (at - 1) ≡ o → i < at → order_to term o ≡ Less → ⊥
    last None is before less = absurd (cc)
    last (Some b) is before less = greater rows term b i (at - 1) m e is (omega (arith, before)) less

-- ---- two rows beside each other

pub beside_is : (level : Tables) (o : Option Beside) (b : Beside) → IfSome o (λ b. IsBeside level b) → o ≡ Some b → IsBeside level b
beside_is level o b h is = subst (λ (x : Option Beside). IfSome x (λ b. IsBeside level b)) is h

-- how the second stands to a term
pub here_order : (level : Tables) (b : Beside) (term : List ℕ) (o : Ordering) → IsBeside level b → o ≡ order_to term (slice_get (level_terms b.here.tables) b.here.row)
    → order_to term (slice_get (level_terms level) b.here.row) ≡ o
here_order level b term o is e = sym (e
    ∙ ap (λ (t : Tables). order_to term (slice_get (level_terms t) b.here.row)) is.here)

-- and the first
pub before_order : (level : Tables) (b : Beside) (term : List ℕ) (o : Ordering) → IsBeside level b → order_to term (slice_get (level_terms b.before.tables) b.before.row) ≡ o
    → order_to term (slice_get (level_terms level) (b.here.row - 1)) ≡ o
before_order level b term o is e =
    let at : b.here.row - 1 ≡ b.before.row = omega (arith, is.row) in
    ap (λ (k : ℕ). order_to term (slice_get (level_terms level) k)) at ∙ sym (ap (λ (t : Tables). order_to term (slice_get (level_terms t) b.before.row)) is.before) ∙ e

-- ---- levels in which terms are looked up

-- what a look-up in one of them finds
pub among : (r : Option ℕ) (t level : Tables) (term : List ℕ) → t ≡ level
    → MatchOption r ((i : ℕ) → slice_get (level_terms t) i ≡ Some term → ⊥) (λ i. slice_get (level_terms t) i ≡ Some term)
    → MatchOption r ((i : ℕ) → slice_get (level_terms level) i ≡ Some term → ⊥) (λ i. slice_get (level_terms level) i ≡ Some term)
among r t level term is h =
    subst (λ (t : Tables). MatchOption r ((i : ℕ) → slice_get (level_terms t) i ≡ Some term → ⊥) (λ i. slice_get (level_terms t) i ≡ Some term)) is h

-- the one of a number is the level of that number
pub near_at : (levels nears now : List Tables) (i : ℕ) (x d : Tables) → AreNear levels nears → now ≡ nears → x ≡ get_or levels i x → i < length now → get_or now i d ≡ x
near_at levels nears now i x d are same is within =
    ⊎_elim
    (λ none. let empty : now ≡ [] = same ∙ none in let many : length now ≡ 0 = ap length empty in absurd (omega (arith, many, within)))
    (λ all.
    let equal : now ≡ levels = same ∙ all in
    get_or_default now i d x within ∙ ap (λ (l : List Tables). get_or l i x) equal ∙ sym is)
    are
