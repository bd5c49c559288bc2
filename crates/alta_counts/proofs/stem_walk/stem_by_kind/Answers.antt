use Rattle.std.proofs.Common.{map, refl, sym, subst, ap}
use Rattle.std.specs.Prelude.{All}
use Rattle.std.proofs.lemmas.List.Elements.{All-nil}
use Rattle.alta_search.specs.Words.{IsSoundReader, reader_list, reader_place, IsUnmovedReader}
use Rattle.alta_counts.proofs.CodedReaders.{places_are}
use Rattle.alta_counts.proofs.stem_walk.stem_by_kind.Goals as goal

pub walked-requires-clause-negated : goal.walked-requires-clause-negated
walked-requires-clause-negated g c = subst (All IsSoundReader) (sym c.new-negated.ensures.items) (All-nil IsSoundReader)

pub walked-requires-clause-stand : goal.walked-requires-clause-stand
walked-requires-clause-stand g c =
    record {
      start = refl;
      none = ap (map reader_list) c.new-negated.ensures.items;
      pair = λ yes. absurd cc;
      end_is = subst IsUnmovedReader c.in-Plain.is c.requires.ends_unmoved;
      places_are = places_are reader_list reader_place c.args.words.items c.requires.words_unmoved;
    }

pub walked-requires-in_default : goal.walked-requires-in_default
walked-requires-in_default g c =
    record {
      ends = c.requires.ends;
      words = c.requires.words;
      negated = subst (All IsSoundReader) (sym c.new-negated.ensures.items) (All-nil IsSoundReader);
      stand = record {
        start = refl;
        none = ap (map reader_list) c.new-negated.ensures.items;
        pair = λ yes. absurd cc;
        end_is = c.requires.ends_unmoved;
        places_are = places_are reader_list reader_place c.args.words.items c.requires.words_unmoved;
      };
      cost = λ led. absurd led;
      gone = c.requires.gone;
    }
