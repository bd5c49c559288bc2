use Rattle.std.proofs.Common.{◌≡◌, ◌+◌, arith}
use Rattle.alta_counts.specs.Live.{count_live}
use Rattle.alta_counts.proofs.Tallying.{live_fits, tally_fits, tally_end}
use Rattle.alta_counts.proofs.tallies.tally_each.Goals as goal

pub overflow_add-live : goal.overflow_add-live
overflow_add-live g c =
    let gone = c.args.gone.now in let new = c.pass_gone-live.new.reader in
    omega (
      arith,
      tally_fits c.args.reader c.gone.walk gone c.gone.live c.gone.at c.args.steps.now c.gone.steps c.gone.invariant c.pass_gone-live.result
          (count_live c.gone.walk.list gone new.place) c.requires.stands.rising c.pass_gone-live.ensures.count,
    )

pub returns-clause-count : goal.returns-clause-count
returns-clause-count g c =
    tally_end c.args.reader c.gone.walk c.args.gone.now c.gone.live c.gone.at c.args.steps.now c.gone.steps c.gone.invariant
    c.pass.new.reader c.pass.result c.pass.new.steps c.gone-test.false c.pass.ensures.onward c.pass.ensures.reached (c.pass.ensures.count c.args.gone.now)

pub overflow_add-result : goal.overflow_add-result
overflow_add-result g c =
    let all : c.gone.live + c.pass.result ≡ count_live c.args.reader.list c.args.gone.now c.args.reader.place =
    tally_end c.args.reader c.gone.walk c.args.gone.now c.gone.live c.gone.at c.args.steps.now c.gone.steps c.gone.invariant
    c.pass.new.reader c.pass.result c.pass.new.steps c.gone-test.false c.pass.ensures.onward c.pass.ensures.reached (c.pass.ensures.count c.args.gone.now) in
    omega (arith, all, live_fits c.args.reader.list c.args.gone.now c.args.reader.place c.requires.stands.rising)
