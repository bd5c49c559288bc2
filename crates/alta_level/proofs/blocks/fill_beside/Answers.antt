use Rattle.std.proofs.Common.{ℕ, List, length, get_or, ap, sym, subst, ◌∙◌, arith}
use Rattle.alta_codec.specs.Rising.{IsRising}
use Rattle.alta_level.specs.Meeting.{block_at}
use Rattle.alta_level.proofs.Walks.{block_end, met_held, met_passed, met_within, passed_each}
use Rattle.alta_level.proofs.blocks.fill_beside.Goals as goal

pub ranges_from-run-requires-clause-passed : goal.ranges_from-run-requires-clause-passed
ranges_from-run-requires-clause-passed c =
    passed_each c.args.runs.now.ends.items c.as_slice.result.now c.args.from c.args.read.now.last c.requires.passed
    (subst (λ (l : List ℕ). IsRising l) (sym c.as_slice.ensures.value) c.in-Ok.ensures.rising) (omega (arith, c.in-Ok.ensures.above, ap (λ l. get_or l 0 0) c.as_slice.ensures.value))

pub returns-in-Ok : goal.returns-in-Ok
returns-in-Ok c =
    let stream = c.args.stream.now in
    let read = c.args.read.now in
    let runs = c.args.runs.now in
    let span = c.in-Ok.span in
    let out = c.as_slice.result.now in
    let filled = c.as_slice.ensures.value ∙ c.in-Ok.ensures.filled in
    let size = ap length c.as_slice.ensures.value ∙ c.in-Ok.ensures.counted in
    let block = block_at stream read.at read.last span.count in
    record {
      read = record {
        read = c.in-Ok.ensures.reads.read;
        within = met_within runs.firsts.items runs.ends.items out block filled c.ranges_from-run.result c.ranges_from-run.ensures;
        passed = met_passed runs.firsts.items runs.ends.items out block filled c.ranges_from-run.result span.last (omega (arith, size, c.in-Ok.ensures.reads.read.some))
            (block_end stream out read.at read.last span.first span.last span.count span.next c.in-Ok.ensures.reads.read filled size) c.ranges_from-run.ensures;
        held = λ rises. met_held runs.firsts.items runs.ends.items out block filled c.ranges_from-run.result c.ranges_from-run.ensures;
      };
      fault = tt;
    }
