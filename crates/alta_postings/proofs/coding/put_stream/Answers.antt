use Rattle.std.proofs.Common.{ℕ, List, length, take, refl, ap, subst, sym, arith, length-append}
use Rattle.alta_postings.specs.Deltas.{stream_bytes, HasPlaces}
use Rattle.alta_postings.proofs.Encoding.{stream_none, append_more, last_more, no_places, mark_more}
use Rattle.alta_postings.proofs.coding.put_stream.Goals as goal

pub loop-i-init : goal.loop-i-init
loop-i-init c = record {
  spelled = stream_none c.args.locs.now c.args.out.now.items;
  start = omega (arith, c.len-start.ensures, c.args.out.now.ok.0);
  last = refl;
  marked = subst (λ (ps : List ℕ). HasPlaces c.args.locs.now 0 ps) (sym c.clear.ensures.items) (no_places c.args.locs.now);
}

pub loop-i-preserved : goal.loop-i-preserved
loop-i-preserved c =
    let start = c.args.out.now.items in
    let here = stream_bytes 0 (take c.loop-i.i c.args.locs.now) in
    record {
      spelled = append_more c.loop-i.i c.loop-i.before c.args.locs.now start c.loop-i.out.items c.put_number.new.out.items c.loop-i-test.true c.loop-i.invariant.spelled c.loop-i.invariant.last c.in_ok-put_number.ensures;
      start = c.loop-i.invariant.start;
      last = last_more c.loop-i.i c.args.locs.now;
      marked = mark_more c.args.locs.now c.loop-i.places.items c.mark.new.places.items c.loop-i.i _ c.loop-i.invariant.marked
          (omega (arith, ap length c.loop-i.invariant.spelled, length-append start here, c.loop-i.invariant.start, c.len.ensures, c.len-start.ensures, c.loop-i.out.ok.0))
          c.in_ok-mark.ensures.first c.in_ok-mark.ensures.later;
    }
