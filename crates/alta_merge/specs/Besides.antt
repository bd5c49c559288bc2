-- Parts of which the fronts alone are at hand, and what merging the next term does to these.
use Rattle.std.specs.Prelude.{◌≡◌, ℕ, suc, List, [], ◌∷◌, ◌++◌, length, slice_index_or}
use Rattle.alta_content.specs.TermList.{TermList}
use Rattle.alta_content.specs.declared.spans.Span.{Span}
use Rattle.alta_merge.specs.Fronts.{AreNext, behind_next, if_some, next_list}

-- each part, with what stands behind it
abbrev pub beside : List (List TermList) → (ℕ → List TermList) → List (List TermList)
beside [] backs = []
beside (part ∷ parts) backs = (part ++ backs 0) ∷ beside parts (λ i. backs (suc i))

-- nothing stands behind a part without a list
abbrev pub AreFronts : List (List TermList) → (ℕ → List TermList) → Type 0
AreFronts parts backs = (i : ℕ) → slice_index_or parts i [] ≡ [] → backs i ≡ []

-- The next term was merged: appended with its locations outside of the spans, unless there are none, and dropped from the parts.
pub record IsMerged (spans : List Span) (made : List TermList) (parts : List (List TermList))
    (now : List TermList) (left : List (List TermList)) : Type 0 where
  pub first : ℕ
  pub last : ℕ
  pub next : AreNext parts (length parts) first last
  pub put : now ≡ made ++ if_some (next_list spans parts first)
  pub taken : left ≡ behind_next parts first
