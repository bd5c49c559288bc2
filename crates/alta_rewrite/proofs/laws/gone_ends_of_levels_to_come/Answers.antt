use Rattle.alta_rewrite.proofs.JoinedLaws.{all_none, gone_append, gone_same, oldest_none}
use Rattle.alta_rewrite.proofs.laws.gone_ends_of_levels_to_come.Goals as goal

pub returns : goal.returns
returns c = record {
  beside = gone_append;
  newest = λ view levels n content spaced is. gone_same view spaced levels n content is;
  oldest = λ view n spaced. oldest_none view spaced n;
  all = λ view levels spaced is. all_none view spaced levels is;
}
