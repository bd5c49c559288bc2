-- Readers that stand in step, where they go on, and the least of their places.
use Rattle.std.proofs.Common.{◌≡◌, ⊎_elim, ℕ, ◌<◌, ◌≤◌, List, [], ◌∷◌, map, get_or, sym, ap, ◌∙◌, arith}
use Rattle.std.specs.Prelude.{Contains, All}
use Rattle.std.proofs.lemmas.List.{get_or_default}
use Rattle.alta_codec.specs.declared.location.TheConstants.{TOP}
use Rattle.alta_codec.specs.Rising.{IsRising, IsPlace, first_from}
use Rattle.alta_codec.proofs.Places.{Contains-cases, not-Contains-nil, first_from-above}
use Rattle.alta_compound.specs.Union.{union_of, least_of, IsInStep}
use Rattle.alta_compound.proofs.Staying.{first_stays}
use Rattle.alta_compound.specs.OverReaders.{has_place, map_agree, union_of-first}

pub least_of-le : (xs : List ℕ) (x : ℕ) → Contains xs x → least_of xs ≤ x
least_of-le [] x m = absurd (not-Contains-nil x m)
least_of-le (y ∷ ys) x m = ⊎_elim (λ e. omega (arith, e)) (λ n. omega (arith, least_of-le ys x n)) (Contains-cases y ys x m)

-- readers that each went to the first from a place are in step
pub in_step_after : {R : Type 0} (f : R → List ℕ) (h : R → ℕ) (rs : List R) (to m : ℕ) → to ≤ TOP
    → All (λ r. h r ≡ first_from (f r) to) rs → m ≡ least_of (map h rs)
    → IsInStep f h rs m × (m ≡ first_from (union_of (map f rs)) to)
in_step_after f h rs to m top each least =
    let e : m ≡ first_from (union_of (map f rs)) to = least ∙ ap least_of (map_agree h (λ r. first_from (f r) to) rs each) ∙ sym (union_of-first f rs to) in
    let low : to ≤ m = omega (arith, e, first_from-above (union_of (map f rs)) to top) in (
      record {
        each = λ k d l. first_stays (f (get_or rs k d)) to m (h (get_or rs k d)) (each k d l) low
            (omega (arith, least, least_of-le (map h rs) (h (get_or rs k d)) (has_place h rs k d l)));
        least = least;
      },
      e,
    )

-- readers in step, of which none is to pass an element when they go on to a higher place
pub in_step_first : {R : Type 0} (f : R → List ℕ) (h : R → ℕ) (rs : List R) (m to : ℕ) → IsInStep f h rs m → m < to
    → All (λ r. to ≤ h r → h r ≡ first_from (f r) to) rs
in_step_first f h rs m to s lt k d l = λ le. first_stays (f (get_or rs k d)) m to (h (get_or rs k d)) (s.each k d l) (omega arith) le

pub place-positive : (xs : List ℕ) (x : ℕ) → IsRising xs → IsPlace xs x → 0 < x
place-positive xs x r p = ⊎_elim (λ (k, l, e). omega (arith, r.positive k l, get_or_default xs k x 0 l, e)) (λ t. omega (arith, t)) p
