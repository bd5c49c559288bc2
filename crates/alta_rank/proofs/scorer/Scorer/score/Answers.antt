use Rattle.std.proofs.Common.{◌+◌, ◌-◌, ◌*◌, ◌^◌, map, length, sym, ap, ◌∙◌, arith}
use Rattle.std.specs.Prelude.{All}
use Rattle.std.proofs.lemmas.List.Elements.{All-map}
use Rattle.alta_codec.specs.Rising.{IsRising}
use Rattle.alta_rank.specs.Counted.{counted_each}
use Rattle.alta_rank.specs.Locations.{range_score}
use Rattle.alta_rank.proofs.Scores.{each-fits, range-counted}
use Rattle.alta_rank.proofs.scorer.Scorer.score.Goals as goal

pub score_each-score-requires-clause-fits : goal.score_each-score-requires-clause-fits
score_each-score-requires-clause-fits g c =
    let list = g.R.Reader.list in let us = c.self.inside.uses in let rs = c.self.inside.readers.items in
    let same = ap (λ u. counted_each u (map list c.deref_mut.result.now) c.last_to-last.result c.args.end c.args.first) c.as_slice.ensures
    ∙ ap (λ r. counted_each us (map list r) c.last_to-last.result c.args.end c.args.first) c.deref_mut.ensures.value in
    let rise : All IsRising (map list rs) = All-map IsRising list rs (λ k d l. g.met.R.Reader.rises _ (c.self.invariant.sound_readers k d l)) in
    omega (
      arith,
      same,
      each-fits us (map list rs) c.last_to-last.result c.args.end c.args.first (2 ^ 64) rise c.requires.order
          (omega (arith, c.requires.fits, ap (λ s. 4 * length s.uses * (c.args.end - c.args.first + 1)) c.self.view_is)),
    )

pub returns-clause-score : goal.returns-clause-score
returns-clause-score g c =
    let list = g.R.Reader.list in let us = c.self.inside.uses in let rs = c.self.inside.readers.items in
    let titles = list c.self.inside.titles in
    c.score_each-score.ensures.score
    ∙ ap (λ u. counted_each u (map list c.deref_mut.result.now) c.last_to-last.result c.args.end c.args.first) c.as_slice.ensures
    ∙ ap (λ r. counted_each us (map list r) c.last_to-last.result c.args.end c.args.first) c.deref_mut.ensures.value
    ∙ ap (λ l. counted_each us (map list rs) l c.args.end c.args.first) c.last_to-last.ensures.last
    ∙ sym (range-counted us (map list rs) titles c.args.first c.args.end)
    ∙ ap (λ s. range_score s.uses (map list s.readers) (list s.titles) c.args.first c.args.end) c.self.view_is
