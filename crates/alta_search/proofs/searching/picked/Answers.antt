use Rattle.std.proofs.Common.{◌≡◌, ◌+◌, ◌<◌, ◌≤◌, ℕ, List, sym, subst}
use Rattle.std.specs.Prelude.{IfOk, IsTrue, Result, Ok, Err}
use Rattle.alta_codec.specs.Rising.{count_from}
use Rattle.alta_codec.specs.declared.location.TheConstants.{TOP}
use Rattle.alta_compile.specs.Space.{Placed}
use Rattle.alta_compile.specs.View.{tree}
use Rattle.alta_search.specs.Answers.{answers_in, coming}
use Rattle.alta_search.specs.Plans.{IsOneFound, lists, locations_below}
use Rattle.alta_search.specs.Told.{rows_at}
use Rattle.alta_search.specs.View.{Shows}
use Rattle.alta_search.specs.Walks.{IsPart}
use Rattle.alta_search.specs.declared.walk.Picked.{Picked}
use Rattle.alta_search.proofs.Paging.{page_lazy, page_most, part_is, rarest_onward}
use Rattle.alta_search.proofs.searching.picked.Goals as goal

-- of an answer that is there, what follows from three facts of it
on_three : {A E : Type 0} (r : Result A E) (P Q S R : A → Type 0) → ((a : A) → P a → Q a → S a → R a) → IfOk r P → IfOk r Q → IfOk r S → IfOk r R
on_three (Ok a) P Q S R f p q s = f a p q s
on_three (Err e) P Q S R f p q s = tt

pub returns-clause-part : goal.returns-clause-part
returns-clause-part g c =
    let s = c.args.section.now in let p = tree c.args.plan.now in let u = c.in_ok-reader.reader in let v = c.next_picks-picks.new.reader in
    on_three c.next_picks-picks.result
    (λ (r : Picked × ℕ). IsPart (answers_in u.list s.gone u.place s.rows) (answers_in u.list s.gone v.place s.rows) c.args.count (rows_at s.rows r.0.picks.items) r.0.more v.place)
    (λ (r : Picked × ℕ). r.1 ≡ v.place) (λ (r : Picked × ℕ). r.1 ≡ v.place)
    (λ (r : Picked × ℕ). (space : List Placed) → Shows space s → IsPart (coming space p s c.args.from) (coming space p s r.1) c.args.count (rows_at s.rows r.0.picks.items) r.0.more r.1)
    (λ r part here _. λ space shows.
    part_is p s u v c.args.from c.args.steps.now c.begin.new.steps c.next_picks-picks.new.steps c.in_ok-reader.ensures.begun c.next_picks-picks.ensures.picks.onward c.requires.top space shows
    c.args.count (rows_at s.rows r.0.picks.items) r.0.more r.1 here part)
    c.next_picks-picks.ensures.picks.part c.next_picks-picks.ensures.place c.next_picks-picks.ensures.place

pub returns-clause-lazy : goal.returns-clause-lazy
returns-clause-lazy g c =
    let s = c.args.section.now in let p = tree c.args.plan.now in let u = c.in_ok-reader.reader in let v = c.next_picks-picks.new.reader in
    on_three c.next_picks-picks.result
    (λ (r : Picked × ℕ). IsPart (answers_in u.list s.gone u.place s.rows) (answers_in u.list s.gone v.place s.rows) c.args.count (rows_at s.rows r.0.picks.items) r.0.more v.place)
    (λ (r : Picked × ℕ). r.1 ≡ v.place) (λ (r : Picked × ℕ). IsTrue v.one → v.place < TOP → count_from v.all v.place ≤ v.left)
    (λ (r : Picked × ℕ). IsOneFound p → IsTrue r.0.more → c.next_picks-picks.new.steps ≤ c.args.steps.now + lists s.cuts + locations_below r.1 s.cuts)
    (λ r part here unpassed. λ found some.
    subst (λ (n : ℕ). c.next_picks-picks.new.steps ≤ c.args.steps.now + lists s.cuts + locations_below n s.cuts) (sym here)
    (page_lazy p s u v c.args.from c.args.steps.now c.begin.new.steps c.next_picks-picks.new.steps c.in_ok-reader.ensures.begun c.next_picks-picks.ensures.picks.onward c.requires.top unpassed found (part.below some)))
    c.next_picks-picks.ensures.picks.part c.next_picks-picks.ensures.place c.next_picks-picks.ensures.unpassed

pub returns-clause-steps : goal.returns-clause-steps
returns-clause-steps g c =
    let v = c.args.section.now in let u = c.in_ok-reader.reader in let w = c.next_picks-picks.new.reader in let before = c.args.steps.now in let begun = c.begin.new.steps in let after = c.next_picks-picks.new.steps in
    record {
      most = page_most (tree c.args.plan.now) v u w c.args.from before begun after c.in_ok-reader.ensures.begun c.next_picks-picks.ensures.picks.onward c.requires.top;
      rarest = rarest_onward c.args.found.now v u w before begun after c.in_ok-reader.ensures.moves c.next_picks-picks.ensures.picks.onward;
    }
