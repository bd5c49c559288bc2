-- Looking for terms by halves, in rows whose terms rise.
use Rattle.std.proofs.Common.{◌≡◌, ◌⊎◌, ⊎_elim, inl, inr, ℕ, zero, suc, ◌+◌, ◌-◌, ◌*◌, ◌≤◌, ◌<◌, Bool, true, false, ◌||◌, List, [], ◌∷◌, length, get_or, Some, refl, sym, ap, subst, ◌∙◌, arith}
use Rattle.std.specs.Prelude.{Option, None, MatchOption, is_some, nat_eq, slice_get}
use Rattle.std.specs.List.{list_any, starts_with}
use Rattle.std.specs.Str.{bytes_eq}
use Rattle.std.specs.List.Sorted.{IsPartitionedBy, IsPartitionPoint}
use Rattle.std.specs.Ordering.{nat_cmp, is_lt}
use Rattle.std.specs.Cmp.{IsTotalOrder, nat_cmp_total}
use Rattle.std.specs.Cmp.Lexicographic.{slice_cmp, lists_total}
use Rattle.std.specs.declared.cmp.Ordering.{Ordering}
use Rattle.std.specs.declared.cmp.Ordering.TheVariants.{Less, Equal, Greater}
use Rattle.std.proofs.lemmas.Cmp.{tied_itself}
use Rattle.std.proofs.lemmas.List.{get_or_default}
use Rattle.std.proofs.lemmas.Bool.{cases_lt, and_parts, eqb-true, eq-eqb}
use Rattle.alta_codec.specs.Order.{Precedes}
use Rattle.alta_table.specs.declared.walk.Walk.{Walk}
use Rattle.alta_table.specs.declared.marks.Mark.{Mark}
use Rattle.alta_table.specs.declared.term.TermRow.{TermRow}
use Rattle.alta_table.specs.declared.terms.HeldTerms.{HeldTerms}
use Rattle.alta_table.specs.Marks.{IsHeld, head_of, rows_in}
use Rattle.alta_table.specs.Terms.{AreTermsBehind, AreTerms, HasEnd, is_end, terms_of}
use Rattle.alta_content.proofs.Order.{itself, same_term}
use Rattle.alta_table.specs.Search.{StartsWith, IsPrefixRange, stands_by}
use Rattle.alta_table.proofs.Order.{cmp_less, cmp_equal, cmp_greater}

abbrev order : List ℕ → List ℕ → Ordering
order a b = slice_cmp nat_cmp a b

bytes_total : IsTotalOrder order
bytes_total = lists_total nat_cmp_total

precedes-trans : (a b c : List ℕ) → Precedes a b → Precedes b c → Precedes a c
precedes-trans a b c h g = bytes_total.trans a b c h g

-- ---- each row's term stands before those of the rows behind it

above : (before : List ℕ) (rows : List TermRow) → AreTermsBehind before rows → (j : ℕ) (d : TermRow) → j < length rows → Precedes before (get_or rows j d).term
unfolding AreTermsBehind
above before [] m j d lt = absurd (omega (arith, lt))
above before (row ∷ rows) (m, more) zero d lt = m.rises
above before (row ∷ rows) (m, more) (suc j) d lt = precedes-trans before row.term (get_or rows j d).term m.rises (above row.term rows more j d (omega (arith, lt)))

rising : (before : List ℕ) (rows : List TermRow) → AreTermsBehind before rows → (i j : ℕ) (d : TermRow) → i < j → j < length rows → Precedes (get_or rows i d).term (get_or rows j d).term
unfolding AreTermsBehind
rising before [] m i j d less lt = absurd (omega (arith, lt))
rising before (row ∷ rows) (m, more) zero zero d less lt = absurd (omega (arith, less))
rising before (row ∷ rows) (m, more) zero (suc j) d less lt = above row.term rows more j d (omega (arith, lt))
rising before (row ∷ rows) (m, more) (suc i) zero d less lt = absurd (omega (arith, less))
rising before (row ∷ rows) (m, more) (suc i) (suc j) d less lt = rising row.term rows more i j d (omega (arith, less)) (omega (arith, lt))

-- what holds of the earlier of two rows, or of the same
at_or_before : (rows : List TermRow) (P : List ℕ → List ℕ → Type 0) → AreTerms rows → ((a : List ℕ) → P a a) → ((a b : List ℕ) → Precedes a b → P a b)
    → (i j : ℕ) (d : TermRow) → i ≤ j → j < length rows → P (get_or rows i d).term (get_or rows j d).term
at_or_before rows P m same less i j d le lt =
    ⊎_elim (λ h. less _ _ (rising [] rows m i j d h lt))
    (λ ge. let e : i ≡ j = omega (arith, le, ge) in subst (λ (k : ℕ). P (get_or rows i d).term (get_or rows k d).term) e (same (get_or rows i d).term))
    (cases_lt i j)

-- ---- a term

row_at : (rows : List TermRow) (i : ℕ) (term : List ℕ) → slice_get (terms_of rows) i ≡ Some term → (d : TermRow) × (i < length rows) × (get_or rows i d ≡ d) × (d.term ≡ term)
row_at [] i term e = absurd cc
row_at (row ∷ rows) zero term e = (row, omega arith, refl, cc)
row_at (row ∷ rows) (suc i) term e = let (d, lt, is, same) = row_at rows i term e in (d, omega (arith, lt), is, same)

-- ---- a prefix

-- the row's term stands before the prefix; it stands before it or begins with it
abbrev is_before : List ℕ → TermRow → Bool
is_before prefix row = is_lt (slice_cmp nat_cmp row.term prefix)

abbrev is_upto : List ℕ → TermRow → Bool
is_upto prefix row = is_lt (slice_cmp nat_cmp row.term prefix) || starts_with nat_eq row.term prefix

less_is : (r : Ordering) → is_lt r ≡ true → r ≡ Less
less_is Less h = refl
less_is Equal h = absurd cc
less_is Greater h = absurd cc

or_true : (a b : Bool) → (a || b) ≡ true → (a ≡ true) ⊎ (b ≡ true)
or_true true b h = inl refl
or_true false b h = inr h

or_left : (a b : Bool) → a ≡ true → (a || b) ≡ true
or_left true b h = refl
or_left false b h = absurd cc

or_right : (a b : Bool) → b ≡ true → (a || b) ≡ true
or_right true b h = refl
or_right false b h = h

cases_bool : (b : Bool) → (b ≡ true) ⊎ (b ≡ false)
cases_bool true = inl refl
cases_bool false = inr refl

nat_eq_is : (x y : ℕ) → nat_eq x y ≡ true → x ≡ y
nat_eq_is x y h = eqb-true x y h

-- what begins with a prefix does not stand before it
begins_not_before : (a p : List ℕ) → StartsWith p a → is_lt (order a p) ≡ false
begins_not_before [] [] h = refl
begins_not_before (y ∷ a) [] h = refl
begins_not_before [] (x ∷ p) h = absurd cc
begins_not_before (y ∷ a) (x ∷ p) h =
    let (first, more) = and_parts _ _ h in
    let e : y ≡ x = sym (nat_eq_is x y first) in
    rw (cmp_equal y x e) (begins_not_before a p more)

-- what stands before a term that begins with a prefix stands before the prefix or begins with it
between : (a b p : List ℕ) → Precedes a b → StartsWith p b → (is_lt (order a p) || starts_with nat_eq a p) ≡ true
between a b [] h s = or_right (is_lt (order a [])) true refl
between [] b (x ∷ p) h s = refl
between (y ∷ a) [] (x ∷ p) h s = absurd cc
between (y ∷ a) (z ∷ b) (x ∷ p) h s =
    let (first, more) = and_parts _ _ s in
    let e : z ≡ x = sym (nat_eq_is x z first) in
    ⊎_elim (λ less. rw (cmp_less y x (omega (arith, less, e))) refl)
    (λ ge. ⊎_elim (λ over. let f = rw (cmp_greater y z over) at h in absurd cc)
    (λ le. let same : y ≡ z = omega (arith, ge, le) in
    let f = rw (cmp_equal y z same) at h in
    let both : y ≡ x = same ∙ e in
    let back : x ≡ y = sym both in
    rw (cmp_equal y x both, eq-eqb x y back) (between a b p f more))
    (cases_lt z y))
    (cases_lt y z)

before_parts : (rows : List TermRow) (prefix : List ℕ) → AreTerms rows → IsPartitionedBy (is_before prefix) rows
before_parts rows prefix m i j d le lt =
    at_or_before rows (λ a b. is_lt (order b prefix) ≡ true → is_lt (order a prefix) ≡ true) m (λ a h. h)
    (λ a b less h. let f : order a prefix ≡ Less = precedes-trans a b prefix less (less_is (order b prefix) h) in ap is_lt f) i j d le lt

upto_parts : (rows : List TermRow) (prefix : List ℕ) → AreTerms rows → IsPartitionedBy (is_upto prefix) rows
upto_parts rows prefix m i j d le lt =
    at_or_before rows (λ a b. (is_lt (order b prefix) || starts_with nat_eq b prefix) ≡ true → (is_lt (order a prefix) || starts_with nat_eq a prefix) ≡ true) m (λ a h. h)
    (λ a b less h. ⊎_elim
    (λ below. let f : order a prefix ≡ Less = precedes-trans a b prefix less (less_is (order b prefix) below) in or_left _ _ (ap is_lt f))
    (λ begins. between a b prefix less begins)
    (or_true _ _ h)) i j d le lt

abbrev IsSplit : (TermRow → Bool) → List TermRow → ℕ → Type 0
IsSplit p rows at = IsPartitionPoint (λ row. p row ≡ true) (λ row. p row ≡ false) rows at

not_both : (b : Bool) → b ≡ true → b ≡ false → ⊥
not_both b h e = absurd cc

some_row : (rows : List TermRow) → 0 < length rows → TermRow
some_row [] lt = absurd (omega (arith, lt))
some_row (row ∷ rows) lt = row

-- what is not before a prefix, but before it or begins with it, begins with it
begins_is : (a b : Bool) → (a || b) ≡ true → a ≡ false → b ≡ true
begins_is true b h e = absurd cc
begins_is false b h e = h

range_is : (rows : List TermRow) (prefix : List ℕ) (first behind : ℕ) → first ≤ length rows → behind ≤ length rows
    → IsSplit (is_before prefix) rows first → IsSplit (is_upto prefix) rows behind → IsPrefixRange (terms_of rows) prefix first behind
range_is rows prefix first behind within1 within2 (low1, high1) (low2, high2) = record {
  ordered = ⊎_elim (λ crossed. absurd (clash crossed)) (λ le. le) (cases_lt behind first);
  within = omega (arith, within2, len rows);
  inside = λ i term e from upto.
      let (d, lt, is, same) = row_at rows i term e in
      subst (λ (t : List ℕ). StartsWith prefix t) (ap (λ (row : TermRow). row.term) is ∙ same)
      (begins_is (is_before prefix (get_or rows i d)) (starts_with nat_eq (get_or rows i d).term prefix) (low2 i d (omega arith) upto) (high1 i d from lt));
  only = λ i term e begins.
      let (d, lt, is, same) = row_at rows i term e in
      let here : StartsWith prefix (get_or rows i d).term = subst (λ (t : List ℕ). StartsWith prefix t) (sym (ap (λ (row : TermRow). row.term) is ∙ same)) begins in (
        ⊎_elim (λ before. absurd (not_both (is_before prefix (get_or rows i d)) (low1 i d (omega arith) before) (begins_not_before (get_or rows i d).term prefix here))) (λ le. le) (cases_lt i first),
        ⊎_elim (λ less. less) (λ le. absurd (not_both (is_upto prefix (get_or rows i d)) (or_right _ _ here) (high2 i d le lt))) (cases_lt i behind),
      );
}
  where
    len : (l : List TermRow) → length (terms_of l) ≡ length l
    len [] = refl
    len (row ∷ l) = ap suc (len l)

    clash : behind < first → ⊥
    clash crossed =
        let d : TermRow = some_row rows (omega (arith, crossed, within1)) in
        let before : is_before prefix (get_or rows behind d) ≡ true = low1 behind d (omega arith) crossed in
        not_both (is_upto prefix (get_or rows behind d)) (or_left _ _ before) (high2 behind d (omega arith) (omega (arith, crossed, within1)))

-- ---- a point among rows

abbrev pub stands_at : List ℕ → Bool → TermRow → Bool
stands_at prefix begun row = stands_by prefix begun row.term

-- either is one test, by whether what begins with the prefix counts too
parted_by : (rows : List TermRow) (prefix : List ℕ) (begun : Bool) → AreTerms rows → IsPartitionedBy (stands_at prefix begun) rows
parted_by rows prefix true m = upto_parts rows prefix m
parted_by rows prefix false m = before_parts rows prefix m

-- what one row says of those before it, and of those behind it
pub low_side : (rows : List TermRow) (prefix : List ℕ) (begun : Bool) (row : ℕ) → AreTerms rows → row < length rows → ((d : TermRow) → stands_at prefix begun (get_or rows row d) ≡ true)
    → (i : ℕ) (d : TermRow) → i ≤ row → stands_at prefix begun (get_or rows i d) ≡ true
low_side rows prefix begun row m lt holds i d le = parted_by rows prefix begun m i row d le lt (holds d)

pub high_side : (rows : List TermRow) (prefix : List ℕ) (begun : Bool) (row : ℕ) → AreTerms rows → row < length rows → ((d : TermRow) → stands_at prefix begun (get_or rows row d) ≡ false)
    → (i : ℕ) (d : TermRow) → row ≤ i → i < length rows → stands_at prefix begun (get_or rows i d) ≡ false
high_side rows prefix begun row m lt fails i d le within =
    ⊎_elim (λ holds. absurd (not_both (stands_at prefix begun (get_or rows row d)) (parted_by rows prefix begun m row i d le within holds) (fails d))) (λ no. no) (cases_bool (stands_at prefix begun (get_or rows i d)))

-- ---- a mark whose head stands so

-- the mark of this number, or the first, and the head of the last stands so
abbrev pub IsFirstOr : List ℕ → List Mark → List ℕ → Bool → ℕ → Type 0
IsFirstOr heads marks prefix begun k = (k ≡ 0) ⊎ ((k < length marks) × ((d : Mark) → stands_by prefix begun (head_of heads (get_or marks k d)) ≡ true))

pub mark_within : (heads : List ℕ) (marks : List Mark) (prefix : List ℕ) (begun : Bool) (k : ℕ) → IsFirstOr heads marks prefix begun k → (k ≡ 0) ⊎ (k < length marks)
mark_within heads marks prefix begun k found = ⊎_elim (λ (none : k ≡ 0). inl none) (λ some. inr some.0) found

-- the rows before that of such a mark stand so
pub first_rows : (t : HeldTerms) (left : ℕ) (prefix : List ℕ) (begun : Bool) (k : ℕ) → IsHeld t left → IsFirstOr t.marks.heads.items t.marks.marks.items prefix begun k
    → (i : ℕ) (d : TermRow) → i < k * 16 → stands_at prefix begun (get_or (rows_in t) i d) ≡ true
first_rows t left prefix begun k held found i d lt =
    ⊎_elim (λ (none : k ≡ 0). absurd (omega (arith, none, lt)))
    (λ (within, stands). let m = held.marked.are k no_mark within in
    low_side (rows_in t) prefix begun (k * 16 - 1) held.stand (omega (arith, lt, m.stands.within))
    (λ e. subst (λ (term : List ℕ). stands_by prefix begun term ≡ true) (m.stands.last e (omega (arith, lt))) (stands no_mark)) i d (omega (arith, lt)))
    found
  where
    no_mark : Mark
    no_mark = record { at = 0; left = 0; start = 0; len = 0 }

-- a row at which those that stand so end
pub point_at : (rows : List TermRow) (prefix : List ℕ) (begun : Bool) (row : ℕ) (d : TermRow) → AreTerms rows → row < length rows → d ≡ get_or rows row d → stands_at prefix begun d ≡ false
    → ((i : ℕ) → (e : TermRow) → i < row → stands_at prefix begun (get_or rows i e) ≡ true) → IsPartitionPoint (λ r. stands_by prefix begun r.term ≡ true) (λ r. stands_by prefix begun r.term ≡ false) rows row
point_at rows prefix begun row d m lt is fails before = (
  λ i e from upto. before i e upto,
  λ i e from upto. high_side rows prefix begun row m lt (λ f. subst (λ (r : TermRow). stands_at prefix begun r ≡ false) (is ∙ get_or_default rows row d f lt) fails) i e from upto,
)

-- a row that stands so, behind such rows
pub stands_more : (rows : List TermRow) (prefix : List ℕ) (begun : Bool) (row : ℕ) (d : TermRow) → AreTerms rows → row < length rows → d ≡ get_or rows row d → stands_at prefix begun d ≡ true
    → (i : ℕ) (e : TermRow) → i < row + 1 → stands_at prefix begun (get_or rows i e) ≡ true
stands_more rows prefix begun row d m lt is holds i e upto =
    low_side rows prefix begun row m lt (λ f. subst (λ (r : TermRow). stands_at prefix begun r ≡ true) (is ∙ get_or_default rows row d f lt) holds) i e (omega (arith, upto))

abbrev pub IsPoint : List ℕ → Bool → List TermRow → ℕ → Type 0
IsPoint prefix begun rows at = IsPartitionPoint (λ row. stands_by prefix begun row.term ≡ true) (λ row. stands_by prefix begun row.term ≡ false) rows at

pub range_in : (rows : List TermRow) (prefix : List ℕ) (first behind : ℕ) → first ≤ length rows → behind ≤ length rows
    → IsPoint prefix false rows first → IsPoint prefix true rows behind → IsPrefixRange (terms_of rows) prefix first behind
range_in rows prefix first behind within1 within2 point1 point2 = range_is rows prefix first behind within1 within2 point1 point2

pub found_in : (rows : List TermRow) (term : List ℕ) (i : ℕ) (d : TermRow) → i < length rows → d ≡ get_or rows i d → d.term ≡ term → slice_get (terms_of rows) i ≡ Some term
found_in [] term i d lt is same = absurd (omega (arith, lt))
found_in (row ∷ rows) term zero d lt is same = ap (λ (r : TermRow). Some r.term) (sym is) ∙ ap (λ (t : List ℕ). Some t) same
found_in (row ∷ rows) term (suc i) d lt is same = found_in rows term i d (omega (arith, lt)) is same

-- the first row that does not stand before a term is not that term, so none is
absent_at : (rows : List TermRow) (term : List ℕ) (at : ℕ) → AreTerms rows → IsSplit (is_before term) rows at → ((d : TermRow) → at < length rows → (get_or rows at d).term ≡ term → ⊥)
    → (i : ℕ) → slice_get (terms_of rows) i ≡ Some term → ⊥
absent_at rows term at m (low, high) other i e =
    let (d, lt, is, same) = row_at rows i term e in
    let here : (get_or rows i d).term ≡ term = ap (λ (row : TermRow). row.term) is ∙ same in
    let tied : order (get_or rows i d).term term ≡ Equal = ap (λ (t : List ℕ). order t term) here ∙ tied_itself bytes_total term in
    ⊎_elim (λ before. let f : order (get_or rows i d).term term ≡ Less = less_is _ (low i d (omega arith) before) in absurd (let clash : Less ≡ Equal = sym f ∙ tied in cc))
    (λ from. ⊎_elim
    (λ above. let f : order (get_or rows at d).term term ≡ Less = subst (λ (t : List ℕ). Precedes (get_or rows at d).term t) here (rising [] rows m at i d above lt) in
    not_both (is_before term (get_or rows at d)) (ap is_lt f) (high at d (omega arith) (omega (arith, above, lt))))
    (λ le. let e : i ≡ at = omega (arith, from, le) in other d (omega (arith, from, le, lt)) (subst (λ (k : ℕ). (get_or rows k d).term ≡ term) e here))
    (cases_lt at i))
    (cases_lt i at)

pub absent_in : (rows : List TermRow) (term : List ℕ) (at : ℕ) → AreTerms rows → IsPoint term false rows at → ((d : TermRow) → at < length rows → (get_or rows at d).term ≡ term → ⊥)
    → (i : ℕ) → slice_get (terms_of rows) i ≡ Some term → ⊥
absent_in rows term at m point other = absent_at rows term at m point other

pub differs : (a t : List ℕ) → bytes_eq a t ≡ false → a ≡ t → ⊥
differs a t other same = not_both (bytes_eq a t) (ap (λ (x : List ℕ). bytes_eq x t) same ∙ itself t) other

-- ---- the term of ends

any_at : (rows : List TermRow) (i : ℕ) → slice_get (terms_of rows) i ≡ Some (68 ∷ []) → list_any is_end rows ≡ true
any_at [] i e = absurd cc
any_at (row ∷ rows) zero e = let same : row.term ≡ 68 ∷ [] = cc in rw same refl
any_at (row ∷ rows) (suc i) e = or_right (is_end row) (list_any is_end rows) (any_at rows i e)

none_at : (rows : List TermRow) → ((i : ℕ) → slice_get (terms_of rows) i ≡ Some (68 ∷ []) → ⊥) → list_any is_end rows ≡ false
none_at [] none = refl
none_at (row ∷ rows) none =
    ⊎_elim (λ (ends : is_end row ≡ true). absurd (none 0 (ap (λ (t : List ℕ). Some t) (same_term row.term (68 ∷ []) ends))))
    (λ (other : is_end row ≡ false). rw other (none_at rows (λ i. none (suc i))))
    (cases_bool (is_end row))

pub has_end_is : (rows : List TermRow) (found : Option (ℕ × Walk)) → MatchOption found ((i : ℕ) → slice_get (terms_of rows) i ≡ Some (68 ∷ []) → ⊥) (λ x. slice_get (terms_of rows) x.0 ≡ Some (68 ∷ [])) → is_some found ≡ list_any is_end rows
has_end_is rows None none = sym (none_at rows none)
has_end_is rows (Some x) here = sym (any_at rows x.0 here)

pub some_term : (rows : List TermRow) → HasEnd rows → 0 < length rows
some_term [] h = absurd cc
some_term (row ∷ rows) h = omega arith
