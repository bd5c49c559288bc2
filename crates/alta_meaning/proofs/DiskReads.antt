-- Calls that read, one behind the other.
use Rattle.std.proofs.Common.{◌≡◌, ℕ, ◌+◌, ◌≤◌, refl, ◌∙◌, arith}
use Rattle.alta_disk.specs.Calls.{Reads}
use Rattle.alta_disk.specs.Disk.{DiskState, IsLawful, Same}
use Rattle.alta_disk.proofs.Moments.{passes_same, passes_start}

pub reads_none : (tells : Type 0) (s : DiskState) → IsLawful tells s → Reads tells 0 s s
reads_none tells s lawful = record {
  content = λ told. refl;
  images = passes_start tells s Same lawful (λ c. refl);
  costs = record { faults = omega arith; taken_up = omega arith; taken = omega arith; limit = refl };
}

pub reads_then : (tells : Type 0) (m n total : ℕ) (a b c : DiskState) → total ≡ m + n → Reads tells m a b → Reads tells n b c → Reads tells total a c
reads_then tells m n total a b c sum first second = record {
  content = λ told. second.content told ∙ first.content told;
  images = passes_same a b c Same first.images second.images;
  costs = record {
    faults = omega (arith, first.costs.faults, second.costs.faults);
    taken_up = omega (arith, first.costs.taken_up, second.costs.taken_up);
    taken = omega (arith, first.costs.taken, second.costs.taken, sum);
    limit = second.costs.limit ∙ first.costs.limit;
  };
}

pub reads_within : (tells : Type 0) (m n : ℕ) (a b : DiskState) → m ≤ n → Reads tells m a b → Reads tells n a b
reads_within tells m n a b le reads = record {
  content = reads.content;
  images = reads.images;
  costs = record { faults = reads.costs.faults; taken_up = reads.costs.taken_up; taken = omega (arith, reads.costs.taken, le); limit = reads.costs.limit };
}
