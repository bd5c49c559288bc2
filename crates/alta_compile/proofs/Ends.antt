-- The list of a plan rises, and holds ends of documents alone.
use Rattle.std.proofs.Common.{ℕ, zero, suc, ◌<◌, List, [], ◌∷◌, map, length, get_or, ⊎_elim, subst, arith}
use Rattle.std.specs.Prelude.{All, Contains}
use Rattle.std.proofs.lemmas.List.Elements.{All-nil, All-cons, All-head}
use Rattle.alta_codec.specs.Rising.{IsRising}
use Rattle.alta_codec.proofs.Places.{not-Contains-nil}
use Rattle.alta_compound.proofs.Permuted.{in_union}
use Rattle.alta_docread.specs.Kept.{common}
use Rattle.alta_docread.specs.KeptLaws.{less-has, less-rises, common-has, common-rises}
use Rattle.alta_docread.specs.SolutionLaws.{found-rises}
use Rattle.alta_docread.proofs.Solved.{found-leads}
use Rattle.alta_docread.specs.TreeLaws.{union-all-rises}
use Rattle.alta_compile.specs.Space.{Placed, IsSpace, document_end, list_of, ends_of}
use Rattle.alta_machine.specs.Plans.{Tree, found, all_of, any_of, without, Trees, no_more, also}
use Rattle.alta_compile.specs.Listing.{plan_list, plan_lists}
use Rattle.alta_compile.proofs.Spaces.{list-rises}

common_none : (z : ℕ) → Contains (common []) z → ⊥
unfolding common
common_none z m = not-Contains-nil z m

module _ (space : List Placed) (s : IsSpace space) where
  ends_rise : IsRising (ends_of space)
  ends_rise = list-rises document_end space s.apart

  mutual
    pub plan_rises : (t : Tree) → IsRising (plan_list space t)
    plan_rises (found f) = found-rises (ends_of space ∷ map (list_of space) f.tests) f.bounds ends_rise
    plan_rises (all_of ts) = common-rises (plan_lists space ts) (plans_rise ts)
    plan_rises (any_of ts) = union-all-rises (plan_lists space ts) (plans_rise ts)
    plan_rises (without t) = less-rises (ends_of space) (plan_list space t) ends_rise

    plans_rise : (ts : Trees) → All (λ l. IsRising l) (plan_lists space ts)
    plans_rise no_more = All-nil (λ l. IsRising l)
    plans_rise (also t ts) = All-cons (λ l. IsRising l) (plan_list space t) (plan_lists space ts) (plan_rises t) (plans_rise ts)

  mutual
    pub plan_ends : (t : Tree) (e : ℕ) → Contains (plan_list space t) e → Contains (ends_of space) e
    plan_ends (found f) e m =
        let (x, solution, at) = found-leads (ends_of space ∷ map (list_of space) f.tests) f.bounds e m in
        subst (λ v. Contains (ends_of space) v) at (⊎_elim (λ n. n) (λ top. absurd (omega (arith, top, solution.led))) (solution.places 0 (omega arith)))
    plan_ends (all_of no_more) e m = absurd (common_none e m)
    plan_ends (all_of (also t ts)) e m =
        plan_ends t e (All-head (λ l. Contains l e) (plan_list space t) (plan_lists space ts) (common-has (plan_list space t ∷ plan_lists space ts) e m))
    plan_ends (any_of ts) e m = let (k, w, h) = in_union (plan_lists space ts) e m in plans_ends ts k e w h
    plan_ends (without t) e m = ((less-has (ends_of space) (plan_list space t) e).0 m).0

    plans_ends : (ts : Trees) (k e : ℕ) → k < length (plan_lists space ts) → Contains (get_or (plan_lists space ts) k []) e → Contains (ends_of space) e
    plans_ends no_more k e w m = absurd (omega arith)
    plans_ends (also t ts) zero e w m = plan_ends t e m
    plans_ends (also t ts) (suc k) e w m = plans_ends ts k e (omega arith) m
