-- The lists of levels that are the segments of contents.
use Rattle.std.specs.Prelude.{◌≡◌, ℕ, List, map, flat_map, All}
use Rattle.alta_content.specs.Lists.{locations_of}
use Rattle.alta_content.specs.declared.content.Content.{Content}
use Rattle.alta_meaning.specs.Levels.{Level}
use Rattle.alta_loading.specs.Loads.{IsWhole, Load, list_at}
use Rattle.alta_loading.specs.Terms.{if_some}

-- What these loads find on the image is whole, and is the list of the term in the content, or none where that is empty.
pub record AreListsIn (content : Content) (image term : List ℕ) (loads : List Load) : Type 0 where
  pub whole : All (IsWhole image) loads
  pub are : map (list_at image) loads ≡ if_some (locations_of content.lists term)

-- the lists of a term in the contents of levels, in their order, without those that are empty
abbrev pub lists_in : List Level → List ℕ → List (List ℕ)
lists_in levels term = flat_map (λ (l : Level). if_some (locations_of l.content.lists term)) levels

-- What these loads find on the image is whole, and is the lists of the term in the contents of levels.
pub record AreListsAmong (levels : List Level) (image term : List ℕ) (loads : List Load) : Type 0 where
  pub whole : All (IsWhole image) loads
  pub are : map (list_at image) loads ≡ lists_in levels term
