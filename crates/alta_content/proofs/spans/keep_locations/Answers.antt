use Rattle.std.proofs.Common.{◌≡◌, ◌<◌, length, get_or, refl, sym, ap, ◌∙◌, arith}
use Rattle.std.proofs.lemmas.List.{get_or_default}
use Rattle.alta_content.specs.Spans.{is_within}
use Rattle.alta_content.proofs.Searches.{nothing_out}
use Rattle.alta_content.proofs.Walks.{left_out, taken_on}
use Rattle.alta_content.proofs.spans.keep_locations.Goals as goal
use Rattle.alta_content.proofs.spans.keep_locations.Goals.{then-not-has_at, else-not-has_at}

pub returns-then-is_empty : goal.returns-then-is_empty
returns-then-is_empty c = nothing_out (λ x. x) c.args.spans.now c.args.locations.now.items (sym c.is_empty.ensures ∙ c.if-is_empty.true)

pub loop-i-preserved : goal.loop-i-preserved
loop-i-preserved c = record {
  at = c.walk-at.ensures.within;
  kept =
      let spans = c.args.spans.now in
      let old = c.args.locations.now.items in
      let now = c.loop-i.locations.items in
      let i = c.loop-i.i in
      let x = c.index-location.result.now in
      let l : i < length now = omega (arith, c.loop-i.invariant.kept.long) in
      let at : x ≡ get_or now i 0 = c.index-location.ensures ∙ get_or_default now i x 0 l in
      elim c.if-not-has_at.branch [
        | then-not-has_at w ↦ rw (w.locations-is, w.kept-is, w.put_back.ensures) (taken_on spans old now c.loop-i.kept i (get_or now i 0) c.loop-i.invariant.kept l refl (sym w.if-not-has_at.true ∙ c.has_at.ensures ∙ ap (is_within spans) at))
        | else-not-has_at w ↦ rw (w.locations-is, w.kept-is) (left_out spans old now c.loop-i.kept i x c.loop-i.invariant.kept l at (sym w.if-not-has_at.false ∙ c.has_at.ensures))
      ];
}
