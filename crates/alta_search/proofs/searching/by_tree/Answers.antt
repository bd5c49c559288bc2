use Rattle.std.proofs.Common.{◌+◌, map, sym, ap, arith, rules}
use Rattle.alta_compile.specs.View.{tree}
use Rattle.alta_docread.specs.View.{tree_of}
use Rattle.alta_search.specs.Lists.{lists_at}
use Rattle.alta_search.specs.Plans.{lists}
use Rattle.alta_search.specs.Words.{reader_list, reader_all, reader_place, reader_left}
use Rattle.alta_search.proofs.Paging.{begun_by_tree, rarest_none}
use Rattle.alta_search.proofs.searching.by_tree.Goals as goal

pub returns-in_err-node : goal.returns-in_err-node
returns-in_err-node g c = record {
  begun = search rules;
  moves = search rules;
  steps = record {
    most = omega (arith, c.node.ensures.plants.most, ap lists c.uses.ensures.cuts);
    rarest = rarest_none c.args.snapshot.now c.args.steps.now c.node.new.steps;
  };
}

pub returns : goal.returns
returns g c =
    let begun = begun_by_tree (tree c.args.plan.now) c.args.snapshot.now (map (lists_at c.uses.result.0.now) c.uses.result.1.now) (map (lists_at c.uses.result.0.now) c.in_ok-node._rest.now)
    (tree_of reader_list reader_all reader_place reader_left c.in_ok-node.node) c.by_tree.result c.args.from
    c.args.steps.now c.node.new.steps c.by_tree.new.steps c.in_ok-node.ensures.plants.planted c.by_tree.ensures
    (sym c.uses.ensures.cuts) c.requires.tests c.in_ok-node.ensures.one in
    record {
      begun = begun;
      moves = rarest_none c.args.snapshot.now c.args.steps.now (c.by_tree.new.steps + c.by_tree.result.moves);
      steps = record { most = omega (arith, begun.steps); rarest = rarest_none c.args.snapshot.now c.args.steps.now c.by_tree.new.steps };
    }
