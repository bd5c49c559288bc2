use Rattle.std.proofs.Common.{ap, sym, subst, ◌∙◌, insert}
use Rattle.std.specs.Prelude.{Contains, ◌⊎◌, ◌↔◌, ◌≡◌}
use Rattle.alta_codec.specs.Rising.{IsRising}
use Rattle.alta_catalog.specs.Ends.{with_end}
use Rattle.alta_catalog.proofs.Places.{with_end-rises, with_end-has}
use Rattle.alta_catalog.proofs.deletions.Deletions.delete.Goals as goal

-- the new items are the list with the end in its place
new_ends : (c : goal.In_ok-insert-in-Err) → with_end c.args.end c.args.self.now ≡ c.insert.new.self.items
new_ends c =
    let same = c.deref.ensures.value ∙ c.self.view_is in
    ap (with_end c.args.end) (sym same) ∙ c.in-Err.ensures.place ∙ ap (λ l. insert l c.in-Err.place c.args.end) c.deref.ensures.value ∙ sym c.in_ok-insert-in-Err.ensures.items

rises : (c : goal.In_ok-insert-in-Err) → IsRising c.insert.new.self.items
rises c =
    subst IsRising (new_ends c)
    (with_end-rises c.args.end c.args.self.now (subst IsRising c.self.view_is c.self.invariant) c.requires.positive c.requires.below)

pub invariant_of-self-in-Err : goal.invariant_of-self-in-Err
invariant_of-self-in-Err c = rises c

pub returns-in-Ok-clause-members : goal.returns-in-Ok-clause-members
returns-in-Ok-clause-members c =
    let same = c.deref.ensures.value ∙ c.self.view_is in
    let held = subst (λ l. with_end c.args.end l ≡ l) same c.in-Ok.ensures.held in
    λ x. subst (λ l. Contains l x ↔ (Contains c.args.self.now x ⊎ (x ≡ c.args.end))) held (with_end-has c.args.end c.args.self.now x)

pub returns-in_ok-insert-in-Err-clause-members : goal.returns-in_ok-insert-in-Err-clause-members
returns-in_ok-insert-in-Err-clause-members c = λ x. subst (λ l. Contains l x ↔ (Contains c.args.self.now x ⊎ (x ≡ c.args.end))) (new_ends c) (with_end-has c.args.end c.args.self.now x)

pub returns-in_ok-insert-in-Err-clause-rising : goal.returns-in_ok-insert-in-Err-clause-rising
returns-in_ok-insert-in-Err-clause-rising c = rises c
