use Rattle.std.proofs.Common.{◌≡◌, ℕ, List, ◌<◌, ◌≤◌, get_or, refl, arith}
use Rattle.alta_codec.specs.Rising.{IsRising, count_from, first_from}
use Rattle.alta_codec.specs.declared.location.TheConstants.{TOP}
use Rattle.alta_codec.proofs.ByIndex.{first_from-at, before_at, at_place}
use Rattle.alta_codec.proofs.Places.{move_falls}
use Rattle.alta_words.proofs.plain.PlainReaderReader.seek.Goals as goal

falls : (xs : List ℕ) (n m to : ℕ) → IsRising xs → get_or xs n TOP < to → to ≤ TOP → get_or xs m TOP ≡ first_from xs to
    → count_from xs (get_or xs m TOP) < count_from xs (get_or xs n TOP)
falls xs n m to r h top e = rw e (move_falls xs (get_or xs n TOP) to (at_place xs n r).0 h top)

pub index_from-self-requires-clause-passed : goal.index_from-self-requires-clause-passed
index_from-self-requires-clause-passed g c =
    λ k h. omega (arith, before_at c.args.self.now.list.now c.args.self.now.at k c.requires.sound.0 h (omega arith), c.requires.above)

pub returns : goal.returns
returns g c =
    let xs = c.args.self.now.list.now in let rising = c.requires.sound.0 in
    let at = first_from-at xs c.index_from-self.result c.args.to rising c.requires.top c.index_from-self.ensures.before c.index_from-self.ensures.found in
    let less = falls xs c.args.self.now.at c.index_from-self.result c.args.to rising c.requires.above c.requires.top at in
    record {
      sound = (rising, c.index_from-self.ensures.within);
      same_list = refl;
      stands = at;
      falls = less;
      steps = omega (arith, c.tick.ensures, less);
      cost = omega (arith, c.tick.ensures);
      one = c.tick.ensures;
    }
