use Rattle.std.proofs.Common.{◌≡◌, sym, subst, ◌∙◌}
use Rattle.alta_content.specs.Lists.{locations_of}
use Rattle.alta_memlevel.proofs.Contents.{content_rises, locations_of-term_lists}
use Rattle.alta_memlevel.proofs.level.MemLevel.get.Goals as goal

pub returns-clause-value : goal.returns-clause-value
returns-clause-value c =
    subst (λ v. c.list_of.result.now ≡ locations_of v.content.lists c.args.term.now) c.self.view_is
    (c.list_of.ensures ∙ sym (locations_of-term_lists c.self.inside.lists.entries c.args.term.now))

pub returns-clause-rising : goal.returns-clause-rising
returns-clause-rising c =
    λ added h. content_rises added c.args.self.now.content c.args.term.now c.list_of.result.now h (returns-clause-value c)
