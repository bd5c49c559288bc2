use Rattle.alta_meaning.proofs.OneReading.{one_place, one_opened, opened_unbroken, opened_rooted, broken_rooted}
use Rattle.alta_meaning.proofs.laws.an_image_is_read_one_way.Goals as goal

pub returns : goal.returns
returns c = record {
  opened = one_opened;
  place = one_place;
  unbroken = opened_unbroken;
  rooted = opened_rooted;
  broken = broken_rooted;
}
