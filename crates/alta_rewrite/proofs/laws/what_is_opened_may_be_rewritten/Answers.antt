use Rattle.alta_rewrite.proofs.BeginLaws.{opened_all, opened_oldest, opened_stay}
use Rattle.alta_rewrite.proofs.laws.what_is_opened_may_be_rewritten.Goals as goal

pub returns : goal.returns
returns c = record { stay = opened_stay; oldest = opened_oldest; all = opened_all }
