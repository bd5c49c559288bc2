use Rattle.std.proofs.Common.{[], map, get_or, refl, sym, ◌∙◌, arith}
use Rattle.std.proofs.lemmas.List.{length-map}
use Rattle.alta_rank.specs.Counted.{counted}
use Rattle.alta_rank.proofs.Scores.{each-next, each-end}
use Rattle.alta_rank.proofs.scoring.score_each.Goals as goal

pub score_at-score-requires-clause-fits : goal.score_at-score-requires-clause-fits
score_at-score-requires-clause-fits g c =
    let us = c.args.uses.now in let list = g.R.Reader.list in let ms = map list c.uses.readers in
    let here = counted (get_or us c.uses.i c.index-uses-i.result).title c.args.last c.args.end (get_or ms c.uses.i []) c.args.first in
    omega (
      arith,
      each-next us (map list c.args.readers.now) ms c.uses.i c.index-uses-i.result c.args.last c.args.end c.args.first here
          c.uses-test.true (c.requires.paired ∙ sym (length-map c.args.readers.now list)) c.uses.invariant.lists refl,
      c.uses.invariant.total,
      c.requires.fits,
    )

pub overflow_add-score : goal.overflow_add-score
overflow_add-score g c =
    let list = g.R.Reader.list in
    omega (
      arith,
      each-next c.args.uses.now (map list c.args.readers.now) (map list c.uses.readers) c.uses.i c.index-uses-i.result c.args.last c.args.end c.args.first c.score_at-score.result
          c.uses-test.true (c.requires.paired ∙ sym (length-map c.args.readers.now list)) c.uses.invariant.lists c.score_at-score.ensures.score,
      c.uses.invariant.total,
      c.requires.fits,
    )

pub uses-preserved : goal.uses-preserved
uses-preserved g c =
    let list = g.R.Reader.list in let inv = c.uses.invariant in
    record {
      sound = c.score_at-score.ensures.sound;
      lists = c.score_at-score.ensures.lists ∙ inv.lists;
      behind = c.score_at-score.ensures.behind;
      total = omega (
        arith,
        each-next c.args.uses.now (map list c.args.readers.now) (map list c.uses.readers) c.uses.i c.index-uses-i.result c.args.last c.args.end c.args.first c.score_at-score.result
            c.uses-test.true (c.requires.paired ∙ sym (length-map c.args.readers.now list)) inv.lists c.score_at-score.ensures.score,
        inv.total,
      );
      steps = omega (arith, c.score_at-score.ensures.steps, inv.steps);
    }

pub returns-clause-score : goal.returns-clause-score
returns-clause-score g c =
    omega (arith, each-end c.args.uses.now (map g.R.Reader.list c.args.readers.now) c.uses.i c.args.last c.args.end c.args.first c.uses-test.false, c.uses.invariant.total)
