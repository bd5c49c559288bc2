-- A disk that tells nothing but its counts and its limit.
use Rattle.std.specs.Prelude.{ℕ, List, []}
use Rattle.alta_disk.specs.Disk.{DiskState, IsLawful}

abbrev pub no_image : List ℕ → Type 0
no_image c = ⊥

abbrev pub untold : ℕ → ℕ → ℕ → DiskState
untold faults taken limit = record {
  content = [];
  images = no_image;
  clock = 0;
  since = λ t. no_image;
  faults = faults;
  taken = taken;
  limit = limit;
}

pub untold_lawful : (faults taken limit : ℕ) → IsLawful ⊥ (untold faults taken limit)
untold_lawful faults taken limit = record {
  fits = λ told. absurd told;
  present = λ told. absurd told;
  told = λ c here. absurd here;
  counts_now = λ t c le here. here;
  only_now = λ c here. here;
  bytes = λ t c here. absurd here;
}
