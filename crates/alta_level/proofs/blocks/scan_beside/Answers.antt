use Rattle.std.proofs.Common.{refl, arith}
use Rattle.alta_level.specs.Meeting.{block_at}
use Rattle.alta_level.proofs.Walks.{block_size, span_held}
use Rattle.alta_level.proofs.blocks.scan_beside.Goals as goal

pub returns-then-has_block : goal.returns-then-has_block
returns-then-has_block c =
    let stream = c.args.stream.now in
    let read = c.args.read.now in
    let runs = c.args.runs.now in
    let span = c.in-Ok.span in
    let from = c.args.from in
    let holds = c.has_block.ensures in
    let yes = c.if-has_block.true in
    record {
      read = record {
        read = c.in-Ok.ensures.read;
        within = omega (arith, c.requires.within);
        passed = λ i l. omega (arith, c.requires.rise.apart i from l c.requires.within, holds.behind yes);
        held = λ rises.
            span_held stream (block_at stream read.at read.last span.count) read.at read.last span.first span.last span.count span.next c.in-Ok.ensures.read refl
            (block_size stream read.at read.last span.first span.last span.count span.next c.in-Ok.ensures.read)
            runs.firsts.items runs.ends.items from rises c.requires.within (holds.first yes) (holds.last yes);
      };
      fault = tt;
    }
