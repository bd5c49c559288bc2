use Rattle.std.proofs.Common.{get_or, refl, arith}
use Rattle.alta_codec.specs.declared.location.TheConstants.{TOP}
use Rattle.alta_codec.proofs.ByIndex.{first_from-at, at_le}
use Rattle.alta_codec.proofs.Places.{count_from-all}
use Rattle.alta_words.proofs.plain.PlainReader.new.Goals as goal

pub returns : goal.returns
returns g c =
    record {
      sound = (c.requires, omega arith);
      reads = refl;
      holds = refl;
      unmoved = first_from-at c.args.list.now 0 0 c.requires (omega arith) (λ k l. absurd (omega arith)) (λ l. omega arith);
      rest = count_from-all c.args.list.now (get_or c.args.list.now 0 TOP) (λ i l. at_le c.args.list.now 0 i c.requires (omega arith) l);
      one = c.tick.ensures;
    }
