use Rattle.std.proofs.Common.{ℕ, ◌<◌, get_or, refl, sym, subst, arith}
use Rattle.std.specs.Prelude.{IfSome}
use Rattle.alta_postings.specs.Deltas.{decoded_list}
use Rattle.alta_words.proofs.Walk.{all_read}
use Rattle.alta_level.specs.Meeting.{block_at}
use Rattle.alta_level.proofs.Walks.{block_runs, block_size, runs_are, runs_none}
use Rattle.alta_level.proofs.walking.walk_runs.Goals as goal

pub whole-init : goal.whole-init
whole-init c = record {
  read = c.none-read.ensures.read c.args.stream.now c.args.table.now.bytes c.args.table.now.count;
  within = omega arith;
  passed = λ i l. absurd (omega (arith, l));
  held = λ rises. runs_none c.args.runs.now.firsts.items c.args.runs.now.ends.items (decoded_list c.args.stream.now) c.none-read.result.count c.none-read.ensures.count;
}

pub next_block-requires-clause-within : goal.next_block-requires-clause-within
next_block-requires-clause-within c = c.whole.invariant.within

pub next_block-requires-clause-passed : goal.next_block-requires-clause-passed
next_block-requires-clause-passed c = c.whole.invariant.passed

pub with-read-requires-clause-block : goal.with-read-requires-clause-block
with-read-requires-clause-block c = c.in-Ok.ensures.read.read

pub whole-preserved : goal.whole-preserved
whole-preserved c =
    let stream = c.args.stream.now in
    let runs = c.args.runs.now in
    let read = c.whole.read in
    let w = c.whole.invariant.read in
    let run = c.in-Ok.met.run in
    let span = c.in-Ok.met.span in
    let is = c.in-Ok.ensures.read in
    record {
      read = c.with-read.ensures.read;
      within = is.within;
      passed = subst (λ (last : ℕ). IfSome run (λ (next : ℕ). (i : ℕ) → i < next → get_or runs.ends.items i 0 < last)) (sym c.with-read.ensures.last) is.passed;
      held = λ rises.
          block_runs stream (block_at stream read.at read.last span.count) read.at read.last span.first span.last span.count span.next is.read refl
          (block_size stream read.at read.last span.first span.last span.count span.next is.read) (decoded_list stream) read.count w.list w.counted
          runs.firsts.items runs.ends.items c.whole.run run c.with-read.result.count c.with-read.ensures.count rises (c.whole.invariant.held rises) is.held;
    }

pub returns-in-Ok-end : goal.returns-in-Ok-end
returns-in-Ok-end c =
    let s = c.whole.read in
    let table = c.args.table.now in
    let runs = c.args.runs.now in
    record {
      posting = c.in-Ok-end.ensures.posting;
      bounds = c.in-Ok-end.ensures.bounds;
      fits = runs_are runs.firsts.items runs.ends.items (decoded_list c.args.stream.now) s.count c.are_all_held.result
          (all_read c.args.stream.now table.bytes table.count s.at s.last s.first s.count s.blocks s.same c.whole.invariant.read (omega (arith, c.whole-test.false)))
          c.whole.run (c.whole.invariant.held c.in-Ok-end.ensures.posting.spelled.rising) c.are_all_held.ensures;
      fault = tt;
    }

pub whole-smaller : goal.whole-smaller
whole-smaller c = let read = c.in-Ok.ensures.read.read in omega (arith, read.long, read.some, c.with-read.ensures.at, c.whole-test.true)
