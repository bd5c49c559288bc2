use Rattle.std.proofs.Common.{arith}
use Rattle.alta_rank.proofs.Passed.{pred_of-unmoved}
use Rattle.alta_rank.proofs.scorer.Scorer.new.Goals as goal

pub invariant_of-result : goal.invariant_of-result
invariant_of-result g c = record {
  sound_readers = c.requires.sound;
  sound_titles = c.requires.sound_titles;
  paired = omega (arith, c.if-len.false, c.len.ensures, c.len-2.ensures, c.args.readers.ok.0);
  behind = λ k d l. pred_of-unmoved (g.R.Reader.list _) (g.R.Reader.location _) (g.met.R.Reader.rises _ (c.requires.sound k d l)) (c.requires.unmoved k d l);
  titles_behind = pred_of-unmoved (g.R.Reader.list c.args.titles) (g.R.Reader.location c.args.titles) (g.met.R.Reader.rises c.args.titles c.requires.sound_titles) c.requires.unmoved_titles;
}
