-- A step of a walk over the solutions.
use Rattle.std.proofs.Common.{◌≡◌, ⊎_elim, inl, inr, ℕ, ◌+◌, ◌<◌, ◌≤◌, List, length, get_or, set, refl, sym, subst, ap, ◌∙◌, arith}
use Rattle.std.specs.Prelude.{slice_index, Contains}
use Rattle.std.specs.List.{concat}
use Rattle.std.proofs.lemmas.List.{get_or-set_same}
use Rattle.alta_codec.specs.declared.location.TheConstants.{TOP}
use Rattle.alta_codec.specs.Rising.{IsRising, first_from, count_from}
use Rattle.alta_codec.proofs.Places.{first_from-above, first_from-is, first_from-le_top}
use Rattle.alta_codec.specs.Inequality.{Inequality}
use Rattle.alta_solver.specs.Solution.{list_at, IsSolution, IsAtLeast, IsLeast}
use Rattle.alta_solver.proofs.Raised.{set_at_least, first_from-le_place}
use Rattle.alta_docread.specs.Solutions.{found_list, IsHeld, IsReadyFrom, Walk, IsWalking, IsSoundWalk, IsWalked}
use Rattle.alta_docread.specs.SolutionLaws.{leads-found}
use Rattle.alta_docread.proofs.Solved.{found-leads, solution_below, solution_above}

-- the first place after a raise
pub raised_to : (xs old new : List ℕ) (to : ℕ) → 0 < length old → to ≤ TOP → new ≡ set old 0 (first_from xs to) → to ≤ get_or new 0 0
raised_to xs old new to some top e =
    omega (arith, first_from-above xs to top, ap (λ ps. get_or ps 0 0) e, get_or-set_same old 0 (first_from xs to) 0 some)

-- a raise of the first place passes no solution whose first place is at or above the goal
pub raised_keeps : (lists : List (List ℕ)) (bounds : List Inequality) (old new x : List ℕ) (to : ℕ) → 0 < length lists → 0 < length old
    → new ≡ set old 0 (first_from (list_at lists 0) to) → IsSolution lists bounds x → to ≤ slice_index x 0 → IsAtLeast old x → IsAtLeast new x
raised_keeps lists bounds old new x to some here e s above h =
    set_at_least old new x 0 (first_from (list_at lists 0) to) here e h (first_from-le_place (list_at lists 0) to (slice_index x 0) (s.places 0 some) above)

-- a raise of the second place from a solution's first place to the one behind it passes no solution that is led from there
pub raised_second : (lists : List (List ℕ)) (bounds : List Inequality) (old new x : List ℕ) (at to : ℕ) → IsHeld (length lists) bounds → 1 < length lists → 1 < length old
    → new ≡ set old 1 (first_from (list_at lists 1) to) → Contains (list_at lists 0) at → to ≡ at + 1
    → IsSolution lists bounds x → to ≤ slice_index x 0 → IsAtLeast old x → IsAtLeast new x
raised_second lists bounds old new x at to held some here e m behind s above h =
    let low : at < slice_index x 1 = solution_above lists bounds x 1 at held s (omega arith) some m (omega (arith, behind, above)) in
    set_at_least old new x 1 (first_from (list_at lists 1) to) here e h
    (first_from-le_place (list_at lists 1) to (slice_index x 1) (s.places 1 some) (omega (arith, low, behind)))

module _ (lists : List (List ℕ)) (bounds : List Inequality) (mid new : List ℕ) (to : ℕ) (some : 0 < length lists) (here : 0 < length mid) (top : to ≤ TOP)
    (held : IsHeld (length lists) bounds) (sized : length mid ≡ length lists) (reached : IsReadyFrom to mid)
    (keeps : (x : List ℕ) → IsSolution lists bounds x → to ≤ slice_index x 0 → IsAtLeast mid x) where
  -- the least solution from there on leads to the first place of the list
  pub walk_settled : IsLeast lists bounds mid new → IsWalking lists bounds new (get_or new 0 0) × (get_or new 0 0 ≡ first_from (found_list lists bounds) to)
  walk_settled l =
      let on : to ≤ get_or new 0 0 =
      ⊎_elim (λ r. omega (arith, l.above 0 here, r))
      (λ r. omega (arith, l.above 1 r.0, r.1, solution_below lists bounds new 1 held l.solution (omega (arith, r.0, sized)))) reached in
      let size : 0 < length new = omega (arith, l.solution.sized, some) in (
        record {
          ahead = λ x s h. l.least x s (keeps x s (omega (arith, on, h)));
          stands = λ p q. (l.solution, refl);
        },
        first_from-is (found_list lists bounds) to (get_or new 0 0) (inl (leads-found lists bounds new some l.solution)) (omega (arith, l.solution.led)) on
            (λ z m h. let (x, s, e) = found-leads lists bounds z m in
            omega (arith, l.least x s (keeps x s (omega (arith, e, h))) 0 size, e)),
      )

  pub walk_ended : ((x : List ℕ) → IsSolution lists bounds x → IsAtLeast mid x → ⊥) → IsWalking lists bounds new TOP × (TOP ≡ first_from (found_list lists bounds) to)
  walk_ended none = (
    record {
      ahead = λ x s h. absurd (omega (arith, h, s.led));
      stands = λ p q. absurd (omega arith);
    },
    first_from-is (found_list lists bounds) to TOP (inr refl) (omega arith) top
        (λ z m h. let (x, s, e) = found-leads lists bounds z m in absurd (none x s (keeps x s (omega (arith, e, h))))),
  )

pub walked : (old new : Walk) (to before after : ℕ) → IsSoundWalk old → old.at < to → to ≤ TOP
    → new.lists ≡ old.lists → new.alls ≡ old.alls → new.bounds ≡ old.bounds
    → IsWalking old.lists old.bounds new.places new.at → new.at ≡ first_from (found_list old.lists old.bounds) to
    → (new.at < TOP → count_from (concat new.alls) new.at ≤ new.left)
    → new.left ≤ old.left → (0 < old.at → new.left < old.left) → after + new.left ≤ before + old.left
    → IsWalked old new to before after
walked old new to before after s above top lists alls bounds walking place unpassed left falls steps =
    record {
      sound = record {
        walking = subst (λ x. IsWalking x new.bounds new.places new.at) (sym lists) (subst (λ x. IsWalking old.lists x new.places new.at) (sym bounds) walking);
        some = subst (λ x. 0 < length x) (sym lists) s.some;
        rising = subst (λ x. IsRising (list_at x 0)) (sym lists) s.rising;
        held = subst (λ x. IsHeld (length x) new.bounds) (sym lists) (subst (λ x. IsHeld (length old.lists) x) (sym bounds) s.held);
        top = omega (arith, place, first_from-le_top (found_list old.lists old.bounds) to);
        unpassed = λ _. unpassed;
      };
      list = ap (λ l. found_list l new.bounds) lists ∙ ap (λ b. found_list old.lists b) bounds;
      all = ap concat alls;
      place = place;
      begun = omega (arith, place, first_from-above (found_list old.lists old.bounds) to top, above);
      left = left;
      falls = falls;
      steps = steps;
    }
