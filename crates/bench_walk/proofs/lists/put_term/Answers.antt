use Rattle.std.proofs.Common.{rules}
use Rattle.std.specs.Prelude.{All, IsTrue}
use Rattle.alta_codec.specs.Order.{Precedes}
use Rattle.alta_search.specs.Lists.{term_lists}
use Rattle.alta_search.specs.Newest.{term_meets}
use Rattle.alta_search.specs.declared.lists.TermLists.{TermLists}
use Rattle.alta_search.proofs.Cuts.{cut_push}
use Rattle.bench_walk.proofs.Keys.{put_keyed, put_met}
use Rattle.bench_walk.proofs.lists.put_term.Goals as goal

pub returns-clause-cut : goal.returns-clause-cut
returns-clause-cut c = cut_push term_lists c.args.terms.now.items c.push.new.self.items c.in_ok-term.term c.in_ok-push.ensures.items c.requires.cut c.in_ok-term.ensures.cut

pub returns-clause-keyed : goal.returns-clause-keyed
returns-clause-keyed c =
    let behind : All (λ (q : TermLists). Precedes q.term c.args.files.term.items) c.args.terms.now.items = search rules in
    put_keyed c.args.terms.now.items c.push.new.self.items c.in_ok-term.term c.args.files.term.items
    c.in_ok-push.ensures.items c.requires.keyed behind c.in_ok-term.ensures.term c.in_ok-term.ensures.levels

pub returns-clause-met : goal.returns-clause-met
returns-clause-met c =
    let is : IsTrue (term_meets c.args.test.now c.args.files.term.items) = search rules in
    put_met c.args.test.now c.args.terms.now.items c.push.new.self.items c.in_ok-term.term c.args.files.term.items
    c.in_ok-push.ensures.items c.requires.met c.in_ok-term.ensures.term is
