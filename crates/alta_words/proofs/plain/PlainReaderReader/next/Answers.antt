use Rattle.std.proofs.Common.{◌≡◌, ◌+◌, ◌<◌, List, ℕ, get_or, refl, arith}
use Rattle.alta_codec.specs.Rising.{IsRising, count_from, first_from}
use Rattle.alta_codec.specs.declared.location.TheConstants.{TOP}
use Rattle.alta_codec.proofs.ByIndex.{next_at, within_at, at_place}
use Rattle.alta_codec.proofs.Places.{move_falls}
use Rattle.alta_words.proofs.plain.PlainReaderReader.next.Goals as goal

moves : (xs : List ℕ) (n : ℕ) → IsRising xs → get_or xs n TOP < TOP
    → (get_or xs (n + 1) TOP ≡ first_from xs (get_or xs n TOP + 1)) × (count_from xs (get_or xs (n + 1) TOP) < count_from xs (get_or xs n TOP))
moves xs n r h =
    let e = next_at xs n r (within_at xs n h) in
    (e, rw e (move_falls xs (get_or xs n TOP) (get_or xs n TOP + 1) (at_place xs n r).0 (omega arith) (omega arith)))

pub returns : goal.returns
returns g c =
    let m = moves c.args.self.now.list.now c.args.self.now.at c.requires.sound.0 c.requires.below in
    record {
      sound = (c.requires.sound.0, omega (arith, within_at c.args.self.now.list.now c.args.self.now.at c.requires.below));
      same_list = refl;
      stands = m.0;
      falls = m.1;
      steps = omega (arith, c.tick.ensures, m.1);
      cost = omega (arith, c.tick.ensures);
      one = c.tick.ensures;
    }
