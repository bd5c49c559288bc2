-- The lists of terms, one term more at a time.
use Rattle.std.proofs.Common.{◌≡◌, ℕ, ◌+◌, ◌<◌, ◌≤◌, List, [], length, map, take, get_or, ap, subst, ◌∙◌, arith}
use Rattle.std.specs.List.{concat, All}
use Rattle.std.proofs.lemmas.List.{get_or-map, length-map}
use Rattle.std.proofs.lemmas.List.Elements.{All-get_or}
use Rattle.std.proofs.lemmas.List.Sums.{sum_by-take-le, sum_by_more}
use Rattle.alta_codec.specs.Rising.{IsRising}
use Rattle.alta_search.specs.Lists.{IsCut, count_lists, count_locations, term_lists}
use Rattle.alta_search.specs.declared.lists.TermLists.{TermLists}

-- how many lists the first terms have, with their locations
abbrev pub counted : ℕ → List (List (List ℕ)) → ℕ
counted i terms = count_lists (take i terms) + count_locations (take i terms)

pub counted_more : (terms : List (List (List ℕ))) (i : ℕ) → i < length terms → counted (i + 1) terms ≡ counted i terms + (length (get_or terms i []) + length (concat (get_or terms i [])))
counted_more terms i l =
    let lists = sum_by_more (λ (levels : List (List ℕ)). length levels) terms i [] l in
    let places = sum_by_more (λ (levels : List (List ℕ)). length (concat levels)) terms i [] l in
    omega (arith, lists, places)

pub counted_all : (terms : List (List (List ℕ))) (i : ℕ) → counted i terms ≤ count_lists terms + count_locations terms
counted_all terms i =
    let lists = sum_by-take-le (λ (levels : List (List ℕ)). length levels) terms i in
    let places = sum_by-take-le (λ (levels : List (List ℕ)). length (concat levels)) terms i in
    omega (arith, lists, places)

-- the lists of the term with an index
module _ (terms : List TermLists) (i : ℕ) (d : TermLists) (within : i < length terms) where
  pub term_at : get_or (map term_lists terms) i [] ≡ term_lists (get_or terms i d)
  term_at = get_or-map term_lists terms i d [] within

  long : length (map term_lists terms) ≡ length terms
  long = length-map terms term_lists

  pub locations_at : get_or (map concat (map term_lists terms)) i [] ≡ concat (term_lists (get_or terms i d))
  locations_at = get_or-map concat (map term_lists terms) i [] [] (omega (arith, within, long)) ∙ ap concat term_at

  pub cut_at : IsCut (map term_lists terms) → IsRising (concat (term_lists (get_or terms i d)))
  cut_at cut =
      subst (λ (levels : List (List ℕ)). IsRising (concat levels)) term_at
      (All-get_or (λ (levels : List (List ℕ)). All (λ (list : List ℕ). 0 < length list) levels × IsRising (concat levels)) (map term_lists terms) i [] (omega (arith, within, long)) cut).1

  pub steps_at : (before between after : ℕ) → between ≤ before + counted i (map term_lists terms)
      → after ≤ between + (length (term_lists (get_or terms i d)) + length (concat (term_lists (get_or terms i d)))) → after ≤ before + counted (i + 1) (map term_lists terms)
  steps_at before between after so_far more =
      let here = counted_more (map term_lists terms) i (omega (arith, within, long)) in
      let lists : length (get_or (map term_lists terms) i []) ≡ length (term_lists (get_or terms i d)) = ap length term_at in
      let places : length (concat (get_or (map term_lists terms) i [])) ≡ length (concat (term_lists (get_or terms i d))) = ap (λ (levels : List (List ℕ)). length (concat levels)) term_at in
      omega (arith, here, lists, places, so_far, more)
