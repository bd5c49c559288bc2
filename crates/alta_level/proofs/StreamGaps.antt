-- A stream spells the gaps of its locations, and the gaps of a list that rises are its stream.
use Rattle.std.proofs.Common.{◌≡◌, ℕ, ◌-◌, ◌^◌, ◌<◌, List, [], ◌∷◌, ◌++◌, length, refl, sym, ap, ◌∙◌, arith}
use Rattle.std.specs.List.{All}
use Rattle.std.proofs.lemmas.List.Elements.{All-cons, All-nil}
use Rattle.alta_codec.specs.Numbers.{number_bytes}
use Rattle.alta_codec.specs.Rising.{IsRising}
use Rattle.alta_content.specs.Packed.{AreGaps, gap, gaps_bytes}
use Rattle.alta_postings.specs.Deltas.{Spells, stream_bytes}
use Rattle.alta_postings.proofs.Above.{RisesAbove, above_from_rising}

same_gaps : (before : ℕ) (xs : List ℕ) → RisesAbove before xs → stream_bytes before xs ≡ gaps_bytes before xs
unfolding stream_bytes
same_gaps before [] rises = refl
same_gaps before (x ∷ xs) (above, below, rises) =
    let near : x - before ≡ gap before x = omega (arith, above, below) in
    ap (λ n. number_bytes n ++ stream_bytes x xs) near ∙ ap (λ b. number_bytes (gap before x) ++ b) (same_gaps x xs rises)

are_small : (before : ℕ) (xs : List ℕ) → RisesAbove before xs → All (λ x. x < 2 ^ 64) xs
are_small before [] rises = All-nil (λ x. x < 2 ^ 64)
are_small before (x ∷ xs) (above, below, rises) = All-cons (λ x. x < 2 ^ 64) x xs (omega (arith, below)) (are_small x xs rises)

pub stream_gaps : (stream list : List ℕ) (count : ℕ) → IsRising list → stream ≡ stream_bytes 0 list → length list ≡ count → AreGaps stream count list
stream_gaps stream list count rising spelled counted =
    let above = above_from_rising list rising in
    record { spelled = spelled ∙ same_gaps 0 list above; counted = counted; small = are_small 0 list above }

pub gaps_spell : (gaps list : List ℕ) (count : ℕ) → IsRising list → AreGaps gaps count list → Spells gaps list
gaps_spell gaps list count rising are = record { rising = rising; spelled = are.spelled ∙ sym (same_gaps 0 list (above_from_rising list rising)) }
