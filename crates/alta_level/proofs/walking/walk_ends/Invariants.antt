use Rattle.std.proofs.Common.{◌-◌, length}
use Rattle.alta_postings.specs.Deltas.{decoded_list}
use Rattle.alta_words.specs.Compared.{IsComparedTo}
use Rattle.alta_level.proofs.Walks.{MeetsEnds}
use Rattle.alta_level.proofs.walking.walk_ends.Given as goal

abbrev pub invariant-whole : goal.invariant-whole
invariant-whole l =
    record {
      read : IsComparedTo l.stream l.table.bytes l.table.count l.read;
      ends : MeetsEnds l.documents (decoded_list l.stream) l.read.count l.row;
    }

abbrev pub decreases-whole : goal.decreases-whole
decreases-whole l = length l.stream - l.read.at
