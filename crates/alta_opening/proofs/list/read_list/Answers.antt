use Rattle.std.proofs.Common.{◌∙◌, sym, ap, subst, Ok, List, ℕ}
use Rattle.alta_meaning.specs.Opened.{deleted_in, list_at}
use Rattle.alta_postings.specs.Deltas.{first_fault}
use Rattle.alta_opening.specs.Steps.{Answers}
use Rattle.alta_opening.proofs.ListLaws.{list_missing}
use Rattle.alta_opening.proofs.list.read_list.Goals as goal

pub returns-clause-exact : goal.returns-clause-exact
unfolding deleted_in
returns-clause-exact g c = λ told.
    subst (λ (bytes : List ℕ). Answers (λ ends. ends.items) c.ends_in.result (list_at c.args.root.now.deletions.place bytes (first_fault bytes)))
    (c.deref.ensures.value ∙ c.in_ok-bytes.ensures.read told) c.ends_in.ensures.exact

pub returns-then-extent-eq0-clause-exact : goal.returns-then-extent-eq0-clause-exact
returns-then-extent-eq0-clause-exact g c = λ told. list_missing c.args.root.now (g.D.Disk.state c.args.disk.now).content c.if-extent-eq0.true ∙ ap (λ (l : List ℕ). Ok l) (sym c.new.ensures.items)
