use Rattle.std.proofs.Common.{◌-◌}
use Rattle.alta_postings.specs.Deltas.{decoded_list}
use Rattle.alta_words.specs.Word.{IsOnWay}
use Rattle.alta_words.proofs.standing.first_at.Given as goal

abbrev pub invariant-numbers : goal.invariant-numbers
invariant-numbers l = IsOnWay (decoded_list l.stream) l.to l.standing.before l.standing.place l.standing.at

abbrev pub decreases-numbers : goal.decreases-numbers
decreases-numbers l = l.to - l.standing.at
