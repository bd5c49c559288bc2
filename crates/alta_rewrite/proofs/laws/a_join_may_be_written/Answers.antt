use Rattle.alta_rewrite.proofs.JoinedLaws.{all_given, oldest_given, stay_given}
use Rattle.alta_rewrite.proofs.laws.a_join_may_be_written.Goals as goal

pub returns : goal.returns
returns c = record { oldest = oldest_given; all = all_given; stay = stay_given }
