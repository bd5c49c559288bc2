use Rattle.std.proofs.Common.{◌≡◌, ℕ, List, drop, true}
use Rattle.std.specs.List.{list_all}
use Rattle.alta_machine.specs.DumpLines.{are_alike}
use Rattle.alta_dump.specs.Seen.{AreSeen, is_word, terms_of}
use Rattle.alta_dump.proofs.alike.are_alike.Given as goal

abbrev pub invariant-cells : goal.invariant-cells
invariant-cells l = (seen : List (List (List ℕ))) → list_all (is_word (terms_of l.terms)) l.words ≡ true → AreSeen (terms_of l.terms) l.words l.titles seen
    → are_alike l.again seen ≡ are_alike (drop l.i l.again) (drop l.i seen)
