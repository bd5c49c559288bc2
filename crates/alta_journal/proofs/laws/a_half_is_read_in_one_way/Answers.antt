use Rattle.alta_journal.proofs.Unique.{one_reading, one_fault, not_both}
use Rattle.alta_journal.proofs.laws.a_half_is_read_in_one_way.Goals as goal

pub returns : goal.returns
returns c = record {
  reading = one_reading;
  fault = one_fault;
  not_both = not_both;
}
