-- A join that goes on is that of a store's job.
use Rattle.std.proofs.Common.{◌≡◌, ℕ, ◌+◌, ◌-◌, ◌<◌, Bool, true, false, List, [], ◌∷◌, length, drop, refl, sym, ap, ◌∙◌, arith, length-drop}
use Rattle.std.specs.Prelude.{nat_le, ◌↔◌, IfOk, IsTrue, OnOk, Result, Ok, Err}
use Rattle.std.specs.declared.alloc.AllocError.{AllocError}
use Rattle.std.proofs.lemmas.Bool.{leb-true, le-leb, false≢true}
use Rattle.std.proofs.lemmas.List.{drop-drop}
use Rattle.alta_content.specs.declared.content.Content.{Content}
use Rattle.alta_content.specs.Joining.{joined, joined_in, terms_in}
use Rattle.alta_meaning.specs.Work.{Job}
use Rattle.alta_joins.specs.Jobs.{IsMerging, begun_job, moved_by}
use Rattle.alta_joins.proofs.RowSteps.{drop-all}
use Rattle.alta_merge.specs.Merging.{Merging}

-- the terms of a job's contents
abbrev pub terms_of_job : Job → List (List ℕ)
terms_of_job job = terms_in (job.older ∷ job.newer ∷ [])

pub merging_begun : (merging : Merging) (older newer : Content) (dead : List ℕ) → merging.whole ≡ joined older newer dead → merging.left ≡ terms_in (older ∷ newer ∷ []) → IsMerging merging (begun_job older newer dead)
merging_begun merging older newer dead whole left = record {
  whole = whole;
  left = left;
}

-- a join of two contents that begins
pub begun_over : (contents : List Content) (older newer : Content) (dead : List ℕ) (r : Result Merging AllocError) → contents ≡ older ∷ newer ∷ [] → IfOk r (λ m. m.whole ≡ joined_in contents dead)
    → IfOk r (λ m. m.left ≡ terms_in contents) → IfOk r (λ m. IsMerging m (begun_job older newer dead))
begun_over contents older newer dead (Ok m) e whole left = merging_begun m older newer dead (whole ∙ ap (λ (cs : List Content). joined_in cs dead) e) (left ∙ ap terms_in e)
begun_over contents older newer dead (Err x) e whole left = tt

module _ (old : Merging) (job : Job) (is : IsMerging old job) where
  pub merging_moved : (new : Merging) (n : ℕ) → new.whole ≡ old.whole → new.left ≡ drop n old.left → IsMerging new (moved_by job n)
  merging_moved new n whole left =
      record {
        whole = whole ∙ is.whole;
        left = left ∙ ap (drop n) is.left ∙ drop-drop n job.merged (terms_of_job job);
      }

  pub left_long : length old.left ≡ length (terms_of_job job) - job.merged
  left_long = ap (λ (l : List (List ℕ)). length l) is.left ∙ length-drop job.merged (terms_of_job job)

  -- a term is left exactly where not all are merged
  pub some_left : (k : ℕ) → k < length old.left → job.merged + k < length (terms_of_job job)
  some_left k less = omega (arith, left_long, less)

-- none is left exactly where all are merged
pub merging_done : (new : Merging) (job : Job) (n : ℕ) (done : Bool) → IsMerging new (moved_by job n) → (IsTrue done → new.left ≡ []) → (new.left ≡ [] → IsTrue done) → done ≡ nat_le (length (terms_of_job job)) (job.merged + n)
merging_done new job n true is there back =
    let e = there refl in
    sym (le-leb (length (terms_of_job job)) (job.merged + n) (omega (arith, length-drop (job.merged + n) (terms_of_job job), ap (λ (l : List (List ℕ)). length l) (sym is.left ∙ e))))
merging_done new job n false is there back =
    by_room (nat_le (length (terms_of_job job)) (job.merged + n)) refl
  where
    by_room : (b : Bool) → nat_le (length (terms_of_job job)) (job.merged + n) ≡ b → false ≡ b
    by_room true e = absurd (false≢true (back (is.left ∙ drop-all (job.merged + n) (terms_of_job job) (leb-true (length (terms_of_job job)) (job.merged + n) e))))
    by_room false e = refl

-- what a step answers is whether all are merged
pub step_done : (old new : Merging) (job : Job) (n : ℕ) (r : Result Bool AllocError) → IsMerging old job → new.whole ≡ old.whole → OnOk r (new.left ≡ drop n old.left) → IfOk r (λ done. IsTrue done ↔ (new.left ≡ []))
    → IfOk r (λ done. done ≡ nat_le (length (terms_of_job job)) (job.merged + n))
step_done old new job n (Ok done) is whole left iff = merging_done new job n done (merging_moved old job is new n whole left) iff.0 iff.1
step_done old new job n (Err e) is whole left iff = tt

-- a list that is not empty
pub some_of : {X : Type 0} (xs : List X) → (xs ≡ [] → ⊥) → 0 < length xs
some_of [] other = absurd (other refl)
some_of (x ∷ xs) other = omega arith
