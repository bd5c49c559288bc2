use Rattle.std.proofs.Common.{◌<◌, map, length, take_all, ap, arith}
use Rattle.std.specs.Prelude.{sum_by}
use Rattle.std.specs.List.{concat}
use Rattle.alta_codec.specs.declared.location.TheConstants.{TOP}
use Rattle.alta_content.proofs.Levels.{rising_fits}
use Rattle.alta_search.specs.Lists.{level_list}
use Rattle.alta_search.proofs.LeadReaders.{size, sizes}
use Rattle.alta_search.proofs.Unions.{more_of, most_of}
use Rattle.alta_search.proofs.leading.term_len.Goals as goal

pub overflow_add-sum : goal.overflow_add-sum
overflow_add-sum c =
    let fits : length (concat (map level_list c.args.levels.now)) < TOP = rising_fits (concat (map level_list c.args.levels.now)) c.requires in
    omega (
      arith,
      fits,
      c.loop-list.invariant,
      c.list_len-sum.ensures,
      sizes c.args.levels.now,
      most_of size c.args.levels.now c.loop-list.list-index c.list-item.result c.loop-list-test.true c.list-item.is,
    )

pub loop-list-preserved : goal.loop-list-preserved
loop-list-preserved c =
    omega (
      arith,
      c.loop-list.invariant,
      c.list_len-sum.ensures,
      more_of size c.args.levels.now c.loop-list.list-index c.list-item.result c.loop-list-test.true c.list-item.is,
    )

pub returns : goal.returns
returns c =
    omega (arith, c.loop-list.invariant, sizes c.args.levels.now, ap (sum_by size) (take_all c.loop-list.list-index c.args.levels.now c.loop-list-test.false))
