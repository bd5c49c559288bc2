use Rattle.std.proofs.Common.{◌∙◌, length, ap, arith}
use Rattle.alta_postings.specs.Deltas.{decoded_list}
use Rattle.alta_words.proofs.Walk.{all_read}
use Rattle.alta_level.proofs.Apart.{apart_from}
use Rattle.alta_level.proofs.Walks.{block_ends, ends_fit, ends_none, ends_within}
use Rattle.alta_level.proofs.walking.walk_ends.Goals as goal

pub whole-init : goal.whole-init
whole-init c = record {
  read = c.none-read.ensures.read c.args.stream.now c.args.table.now.bytes c.args.table.now.count;
  ends = ends_none c.args.documents.now (decoded_list c.args.stream.now) c.none-read.result.count c.none-read.ensures.count;
}

pub ends_after-row-requires-clause-apart : goal.ends_after-row-requires-clause-apart
ends_after-row-requires-clause-apart c = apart_from c.args.documents.now c.requires.documents

pub ends_after-row-requires-clause-within : goal.ends_after-row-requires-clause-within
ends_after-row-requires-clause-within c = ends_within c.args.documents.now (decoded_list c.args.stream.now) c.whole.read.count c.whole.row c.whole.invariant.ends

pub whole-preserved : goal.whole-preserved
whole-preserved c =
    let w = c.whole.invariant.read in
    let read = c.whole.read in
    let span = c.in-Ok.span in
    record {
      read = c.with-read.ensures.read;
      ends = block_ends c.args.stream.now c.as_slice.result.now read.at read.last span.first span.last span.count span.next c.in-Ok.ensures.reads.read (c.as_slice.ensures.value ∙ c.in-Ok.ensures.filled)
          (ap length c.as_slice.ensures.value ∙ c.in-Ok.ensures.counted) (decoded_list c.args.stream.now) read.count w.list w.counted
          c.args.documents.now c.whole.row c.ends_after-row.result c.with-read.result.count c.with-read.ensures.count c.whole.invariant.ends c.ends_after-row.ensures.none c.ends_after-row.ensures.ends;
    }

pub returns-in-Ok-end : goal.returns-in-Ok-end
returns-in-Ok-end c =
    let s = c.whole.read in
    let table = c.args.table.now in
    record {
      posting = c.in-Ok-end.ensures.posting;
      bounds = c.in-Ok-end.ensures.bounds;
      fits = ends_fit c.args.documents.now (decoded_list c.args.stream.now) s.count c.are_all_ends.result c.requires.documents
          (all_read c.args.stream.now table.bytes table.count s.at s.last s.first s.count s.blocks s.same c.whole.invariant.read (omega (arith, c.whole-test.false)))
          c.whole.row c.whole.invariant.ends c.are_all_ends.ensures;
      fault = tt;
    }
