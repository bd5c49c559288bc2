-- The definitions at two documents: `Red Fox` with the body `the quick red fox`, and `Fox` with the body `quick brown dog`.
use Rattle.std.proofs.Common.{◌≡◌, ℕ, true, false, List, [], ◌∷◌, refl}
use Rattle.std.specs.Prelude.{codes}
use Rattle.alta_machine.specs.Shape.{words, lone, atom, all, negated, shapes_of}
use Rattle.alta_machine.specs.declared.test.Test.TheVariants.{Is}
use Rattle.alta_machine.specs.Scores.{use_score, score_of}
use Rattle.alta_rank.specs.Locations.{range_score}
use Rattle.alta_machine.specs.Ranked.{placed, ranked}
use Rattle.alta_machine.specs.Uses.{use_of, uses_of}
use Rattle.alta_machine.specs.declared.scored.Scored.{Scored}
use Rattle.alta_machine.specs.declared.usage.Use.{Use}

abbrev red_fox : List (List (List ℕ))
red_fox =
    (codes "Na" ∷ codes "S" ∷ []) ∷ (codes "Wred" ∷ codes "XRed" ∷ []) ∷ (codes "Wfox" ∷ codes "XFox" ∷ []) ∷ (codes "T" ∷ [])
    ∷ (codes "Wthe" ∷ []) ∷ (codes "Wquick" ∷ []) ∷ (codes "Wred" ∷ []) ∷ (codes "Wfox" ∷ []) ∷ (codes "D" ∷ []) ∷ []

abbrev fox : List (List (List ℕ))
fox =
    (codes "Nb" ∷ codes "S" ∷ []) ∷ (codes "Wfox" ∷ codes "XFox" ∷ []) ∷ (codes "T" ∷ []) ∷ (codes "Wquick" ∷ []) ∷ (codes "Wbrown" ∷ [])
    ∷ (codes "Wdog" ∷ []) ∷ (codes "D" ∷ []) ∷ []

abbrev for_fox : Use
for_fox = use_of false (Is (codes "Wfox"))

abbrev for_quick : Use
for_quick = use_of false (Is (codes "Wquick"))

fox_in_red_fox : score_of (for_fox ∷ []) red_fox ≡ 5
unfolding use_score
fox_in_red_fox = refl

either_in_red_fox : score_of (for_quick ∷ for_fox ∷ []) red_fox ≡ 6
unfolding use_score
either_in_red_fox = refl

either_in_fox : score_of (for_quick ∷ for_fox ∷ []) fox ≡ 5
unfolding use_score
either_in_fox = refl

quick_in_fox : score_of (for_quick ∷ []) fox ≡ 1
unfolding use_score
quick_in_fox = refl

-- in the title a place of the body counts nothing
title_in_red_fox : score_of (use_of true (Is (codes "Wfox")) ∷ []) red_fox ≡ 4
unfolding use_score
title_in_red_fox = refl

-- the same by locations, of which the documents have 1 to 9 and 10 to 16
by_locations : range_score (for_quick ∷ for_fox ∷ []) ((6 ∷ 13 ∷ []) ∷ (3 ∷ 8 ∷ 11 ∷ []) ∷ []) (4 ∷ 12 ∷ []) 1 9 ≡ 6
by_locations = refl

by_later_locations : range_score (for_quick ∷ for_fox ∷ []) ((6 ∷ 13 ∷ []) ∷ (3 ∷ 8 ∷ 11 ∷ []) ∷ []) (4 ∷ 12 ∷ []) 10 16 ≡ 5
by_later_locations = refl

-- the query `quick NOT red`
negated_word : uses_of (all (shapes_of (atom (lone (words false [] (Is (codes "Wquick") ∷ []))) ∷ negated (atom (lone (words false [] (Is (codes "Wred") ∷ [])))) ∷ [])))
    ≡ for_quick ∷ []
negated_word = refl

abbrev answer : ℕ → ℕ → Scored
answer number score = record { number = number; name = []; score = score }

ties : ranked (answer 1 5 ∷ answer 3 7 ∷ answer 2 5 ∷ answer 4 9 ∷ []) ≡ answer 4 9 ∷ answer 3 7 ∷ answer 1 5 ∷ answer 2 5 ∷ []
unfolding ranked placed
ties = refl
