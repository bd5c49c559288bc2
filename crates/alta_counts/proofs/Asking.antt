-- What is asked of the words of a document, over the lists of several levels that are cut at places where a level ends.
use Rattle.std.proofs.Common.{◌≡◌, ◌⊎◌, ℕ, zero, suc, ◌+◌, ◌≤◌, Bool, true, false, List, [], ◌∷◌, map, get_or, refl, ap, ◌∙◌}
use Rattle.std.specs.Prelude.{All, Contains}
use Rattle.std.specs.List.{concat}
use Rattle.std.proofs.lemmas.List.Elements.{All-head, All-tail}
use Rattle.alta_codec.specs.Rising.{IsRising}
use Rattle.alta_compound.specs.Union.{union_of}
use Rattle.alta_lead.proofs.AnyLaws.{with_any-rises}
use Rattle.alta_lead.proofs.FollowedLaws.{followed-rises}
use Rattle.alta_lead.specs.Followed.{ends_followed}
use Rattle.alta_lead.specs.Having.{ends_having}
use Rattle.alta_lead.specs.HavingLaws.{having-rises}
use Rattle.alta_counts.specs.Live.{count_live}
use Rattle.alta_counts.specs.Asked.{ends_asked}
use Rattle.alta_counts.specs.ByLevel.{window, between, IsCleft}
use Rattle.alta_counts.specs.Walking.{ends_for}
use Rattle.alta_counts.specs.declared.walk.Asking.{Asking}
use Rattle.alta_counts.specs.declared.walk.Asking.TheVariants.{Led, Walked}
use Rattle.alta_counts.proofs.Cutting.{between_window}
use Rattle.alta_counts.proofs.Levels.{whole, parts_are}
use Rattle.alta_counts.proofs.Windows.{all_into, live_window, union_window, having_window, followed_window}

walked_rises : (followed : Bool) (ends : List ℕ) (words : List (List ℕ)) → IsRising ends → IsRising (ends_asked followed ends words)
walked_rises true ends words r = followed-rises ends (get_or words 0 []) (get_or words 1 []) r
walked_rises false ends words r = with_any-rises ends words r

pub found_rises : (asking : Asking) (ends : List ℕ) (words negated : List (List ℕ)) → IsRising ends → IsRising (ends_for asking ends words negated)
found_rises (Led lead) ends words negated r = having-rises ends words negated r
found_rises (Walked followed) ends words negated r = walked_rises followed ends words r

read_window : (low high : ℕ) (ls : List (List ℕ)) (k : ℕ) → get_or (map (window low high) ls) k [] ≡ window low high (get_or ls k [])
read_window low high [] k = refl
read_window low high (l ∷ ls) zero = refl
read_window low high (l ∷ ls) (suc k) = read_window low high ls k

walked_window : (followed : Bool) (ends : List ℕ) (words : List (List ℕ)) (low high : ℕ) → IsRising ends → All IsRising words → (low ≡ 0) ⊎ Contains ends low
    → ends_asked followed (window low high ends) (map (window low high) words) ≡ window low high (ends_asked followed ends words)
walked_window true ends words low high r each starts =
    ap (λ l. ends_followed (window low high ends) l (get_or (map (window low high) words) 1 [])) (read_window low high words 0)
    ∙ ap (ends_followed (window low high ends) (window low high (get_or words 0 []))) (read_window low high words 1)
    ∙ followed_window ends [] [] low high r starts (get_or words 0 []) (get_or words 1 [])
walked_window false ends words low high r each starts =
    ap (λ l. ends_having (window low high ends) (l ∷ []) []) (union_window low high words each)
    ∙ having_window ends (union_of words ∷ []) [] low high r starts

module _ (lists : ℕ → List (List ℕ)) (low high : ℕ) (le : low ≤ high) (ends : ℕ) (words : List ℕ) (rises : All (λ u. IsRising (whole lists u)) (ends ∷ words))
    (from : All (λ u. IsCleft low (lists u)) (ends ∷ words)) (until : All (λ u. IsCleft high (lists u)) (ends ∷ words)) (starts : (low ≡ 0) ⊎ Contains (whole lists ends) low) where
  abbrev part : ℕ → List ℕ
  part u = concat (between low high (lists u))

  abbrev found : Bool → List ℕ
  found followed = ends_asked followed (whole lists ends) (map (whole lists) words)

  ends_rise : IsRising (whole lists ends)
  ends_rise = All-head (λ u. IsRising (whole lists u)) ends words rises

  words_rise : All (λ u. IsRising (whole lists u)) words
  words_rise = All-tail (λ u. IsRising (whole lists u)) ends words rises

  found_is : (followed : Bool) → ends_asked followed (part ends) (map part words) ≡ window low high (found followed)
  found_is followed =
      ap (λ l. ends_asked followed l (map part words))
      (between_window low high (lists ends) le ends_rise (All-head (λ u. IsCleft low (lists u)) ends words from) (All-head (λ u. IsCleft high (lists u)) ends words until))
      ∙ ap (ends_asked followed (window low high (whole lists ends)))
      (parts_are lists low high le words words_rise (All-tail (λ u. IsCleft low (lists u)) ends words from) (All-tail (λ u. IsCleft high (lists u)) ends words until))
      ∙ walked_window followed (whole lists ends) (map (whole lists) words) low high ends_rise (all_into (λ u. IsRising (whole lists u)) IsRising (whole lists) words (λ u h. h) words_rise) starts

  -- so many were counted there
  pub walked_counts : (followed : Bool) (gone : List ℕ) (n : ℕ) → n ≡ count_live (ends_asked followed (part ends) (map part words)) gone 0
      → n + count_live (found followed) gone (high + 1) ≡ count_live (found followed) gone (low + 1)
  walked_counts followed gone n is =
      ap (λ k. k + count_live (found followed) gone (high + 1)) (is ∙ ap (λ l. count_live l gone 0) (found_is followed))
      ∙ live_window low high (found followed) gone (walked_rises followed (whole lists ends) (map (whole lists) words) ends_rise) le
