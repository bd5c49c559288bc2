-- The two bounds that hold a reader to the first one: the raise that mends the one that does not hold.
use Rattle.std.proofs.Common.{◌≡◌, ◌≢◌, ⊎_elim, ℕ, ◌+◌, ◌*◌, ◌<◌, ◌≤◌, true, Some, List, length, get_or, set, refl, sym, subst, ap, inl, inr, ◌∙◌, arith}
use Rattle.std.proofs.lemmas.Bool.{cases_lt}
use Rattle.std.proofs.lemmas.List.{get_or-set_same}
use Rattle.std.specs.Prelude.{slice_index}
use Rattle.alta_codec.specs.declared.location.TheConstants.{TOP}
use Rattle.alta_codec.specs.Rising.{first_from, pred_of}
use Rattle.alta_codec.proofs.Places.{first_from-above, first_from-least, pred_of-below, pred_of-place}
use Rattle.alta_codec.specs.declared.form.Form.TheVariants.{LocLoc, PrevLoc}
use Rattle.alta_solver.specs.declared.least.Outcome.TheVariants.{Moved}
use Rattle.alta_codec.specs.Inequality.{Inequality, upper, lower}
use Rattle.alta_solver.specs.Bounds.{IsBehindBounds, IsNamed, IsPair}
use Rattle.alta_solver.specs.Repair.{IsRepaired}
use Rattle.alta_solver.specs.Settling.{HoldFrom, IsTried}
use Rattle.alta_solver.specs.Solution.{list_at, MeetsBound, IsRaised}
use Rattle.alta_solver.proofs.Raised.{raised_loc, same_or_not}
use Rattle.alta_solver.proofs.Repaired.{repaired_moved}
use Rattle.alta_solver.proofs.Settling.{holds_on, keeps_on}

-- the element before the first at or above a number is below the number
pub before_first_from : (xs : List ℕ) (to : ℕ) → 0 < to → to ≤ TOP → pred_of xs (first_from xs to) < to
before_first_from xs to some top =
    let f = first_from xs to in
    let above : to ≤ f = first_from-above xs to top in
    ⊎_elim
    (λ m. ⊎_elim (λ lt. lt) (λ ge. absurd (omega (arith, first_from-least xs to (pred_of xs f) m ge, pred_of-below xs f (omega (arith, some, above)))))
    (cases_lt (pred_of xs f) to))
    (λ z. omega (arith, z, some))
    (pred_of-place xs f)

-- the first reader brought on to where reader `m + 1` stands
pub led_repaired : (lists : List (List ℕ)) (old new : List ℕ) (m to : ℕ) → m + 1 < length old → slice_index old (m + 1) ≡ to → slice_index old 0 < to → to ≤ TOP
    → new ≡ set old 0 (first_from (list_at lists 0) to) → IsRepaired lists (upper (m + 1)) old new Moved
led_repaired lists old new m to within there short top e =
    let raised : IsRaised (list_at lists 0) LocLoc to old 0 new true =
    raised_loc (list_at lists 0) LocLoc to old 0 new (inl refl) top (omega (arith, within)) short e in
    repaired_moved lists (upper (m + 1)) old new to within (omega (arith, there)) (omega (arith, there)) raised

-- then the element before it is below that place
pub led_lower : (lists : List (List ℕ)) (old new : List ℕ) (m to : ℕ) → m + 1 < length old → slice_index old (m + 1) ≡ to → slice_index old 0 < to → to ≤ TOP
    → new ≡ set old 0 (first_from (list_at lists 0) to) → MeetsBound lists new (lower (m + 1))
led_lower lists old new m to within there short top e =
    let r = led_repaired lists old new m to within there short top e in
    let first : slice_index new 0 ≡ first_from (list_at lists 0) to =
    ap (λ xs. slice_index xs 0) e ∙ get_or-set_same old 0 (first_from (list_at lists 0) to) 0 (omega (arith, within)) in
    let same : slice_index new (m + 1) ≡ slice_index old (m + 1) = r.others (m + 1) (λ z. omega (arith, z)) in
    omega (
      arith,
      ap (λ x. pred_of (list_at lists 0) x) first,
      before_first_from (list_at lists 0) to (omega (arith, short)) top,
      same,
      there,
    )

-- reader `m + 1` brought on behind the element before the first one's place
pub followed_repaired : (lists : List (List ℕ)) (old new : List ℕ) (m to : ℕ) → m + 1 < length old → pred_of (list_at lists 0) (slice_index old 0) + 1 ≡ to
    → slice_index old (m + 1) < to → to ≤ TOP → new ≡ set old (m + 1) (first_from (list_at lists (m + 1)) to) → IsRepaired lists (lower (m + 1)) old new Moved
followed_repaired lists old new m to within there short top e =
    let raised : IsRaised (list_at lists (m + 1)) PrevLoc to old (m + 1) new true =
    raised_loc (list_at lists (m + 1)) PrevLoc to old (m + 1) new (inr refl) top within short e in
    repaired_moved lists (lower (m + 1)) old new to (omega (arith, within)) (omega (arith, there)) (omega (arith, there)) raised

module _ (lists : List (List ℕ)) (bounds : List Inequality) (old new : List ℕ) (at : ℕ) (b : Inequality)
    (within : at < length bounds) (is : (d : Inequality) → get_or bounds at d ≡ b) (named : IsNamed (length lists) bounds) (sized : length old ≡ length lists)
    (next : ℕ) (inside : next ≤ length bounds) (free : (k : ℕ) (d : Inequality) → next ≤ k → k < length bounds → (get_or bounds k d).i ≢ b.j)
    (m : IsRepaired lists b old new Moved) where
  -- bounds in which the reader that was moved is not bounded hold on
  hold_behind : (from : ℕ) → from ≤ next → HoldFrom lists bounds from old → HoldFrom lists bounds next new
  hold_behind from le h k d l w =
      holds_on lists (get_or bounds k d) old new (m.others (get_or bounds k d).i (free k d w l))
      (m.forward (get_or bounds k d).j (omega (arith, (named k d l).1, sized))) (h k d l (omega (arith, le, w)))

  -- the bounds from `first` on hold, where those in front of `next` do
  pub tried_from : (from first : ℕ) → from ≤ next → first ≤ next
      → ((k : ℕ) (d : Inequality) → first ≤ k → k < next → k < length bounds → MeetsBound lists new (get_or bounds k d))
      → IsTried lists bounds old new from (Some first)
  tried_from from first le lower here =
      record {
        forward = m.forward;
        sized = m.sized;
        keeps = keeps_on lists bounds old new at b within is named sized Moved m;
        hold = λ h k d l w. ⊎_elim (λ lt. here k d w lt l) (λ ge. hold_behind from le h k d l ge) (cases_lt k next);
        within = omega (arith, lower, inside);
        none = λ e. absurd cc;
      }

-- the two bounds of a pair, where no other stands between them and what holds behind them
pub pair_holds : (lists : List (List ℕ)) (bounds : List Inequality) (new : List ℕ) (m next : ℕ) → next ≡ 2 * m + 2 → IsPair bounds m
    → MeetsBound lists new (upper (m + 1)) → MeetsBound lists new (lower (m + 1))
    → (k : ℕ) (d : Inequality) → 2 * m ≤ k → k < next → k < length bounds → MeetsBound lists new (get_or bounds k d)
pair_holds lists bounds new m next e pair first second k d w l inside =
    ⊎_elim
    (λ same. subst (λ c. MeetsBound lists new c) (sym (ap (λ n. get_or bounds n d) same ∙ pair.above d)) first)
    (λ n. let same : k ≡ 2 * m + 1 = omega (arith, n, w, l, e) in
    subst (λ c. MeetsBound lists new c) (sym (ap (λ i. get_or bounds i d) same ∙ pair.below d)) second)
    (same_or_not k (2 * m))

-- in the second bound of a pair the first reader is bounded
pub behind_pair : (bounds : List Inequality) (m at : ℕ) → IsPair bounds m → IsBehindBounds 0 bounds at → 2 * m + 2 ≤ at
behind_pair bounds m at pair behind =
    ⊎_elim
    (λ lt. let d : Inequality = lower (m + 1) in
    absurd (behind.free (2 * m + 1) d (omega (arith, lt)) pair.within (ap (λ (b : Inequality). b.i) (pair.below d))))
    (λ ge. ge)
    (cases_lt at (2 * m + 2))

-- where both bounds of a pair hold, nothing has to move
pub pair_settled : (lists : List (List ℕ)) (bounds : List Inequality) (xs : List ℕ) (m : ℕ) → IsPair bounds m
    → MeetsBound lists xs (upper (m + 1)) → MeetsBound lists xs (lower (m + 1))
    → IsTried lists bounds xs xs (2 * m + 2) (Some (2 * m))
pair_settled lists bounds xs m pair first second =
    record {
      forward = λ i l. omega arith;
      sized = refl;
      keeps = λ x s h. h;
      hold = λ h k d l w. ⊎_elim (λ lt. pair_holds lists bounds xs m (2 * m + 2) refl pair first second k d w lt l) (λ ge. h k d l ge) (cases_lt k (2 * m + 2));
      within = omega (arith, pair.within);
      none = λ e. absurd cc;
    }
