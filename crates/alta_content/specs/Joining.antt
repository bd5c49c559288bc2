-- The content that several contents make up.
use Rattle.std.specs.Prelude.{ℕ, List, [], ◌∷◌, map}
use Rattle.std.specs.Cmp.Lexicographic.{slice_cmp}
use Rattle.std.specs.List.{flat_map}
use Rattle.std.specs.Ordering.{match_ordering, nat_cmp}
use Rattle.alta_content.specs.declared.content.Content.{Content}
use Rattle.alta_content.specs.TermList.{TermList}
use Rattle.alta_content.specs.declared.document.DocRow.{DocRow}
use Rattle.alta_content.specs.Lists.{locations_of, terms_of}
use Rattle.alta_content.specs.Rows.{live_rows}
use Rattle.alta_content.specs.Spans.{deleted_spans, lists_outside}

-- the term in its place among terms in collating order, unless it is there
abbrev pub with_term : List ℕ → List (List ℕ) → List (List ℕ)
with_term term [] = term ∷ []
with_term term (t ∷ ts) = match_ordering (slice_cmp nat_cmp term t) (term ∷ t ∷ ts) (t ∷ ts) (t ∷ with_term term ts)

-- the terms in collating order, each once
abbrev pub in_order : List (List ℕ) → List (List ℕ)
in_order [] = []
in_order (term ∷ terms) = with_term term (in_order terms)

-- the terms of these parts, in collating order, each once
abbrev pub terms_among : List (List TermList) → List (List ℕ)
terms_among parts = in_order (flat_map terms_of parts)

-- where the term stands in these parts, one behind the other
abbrev pub locations_among : List (List TermList) → List ℕ → List ℕ
locations_among parts term = flat_map (λ lists. locations_of lists term) parts

-- each term of these parts, with its locations
abbrev pub gathered : List (List TermList) → List TermList
gathered parts = map (λ term. record { term = term; locations = locations_among parts term }) (terms_among parts)

-- the lists of contents
abbrev pub parts_of : List Content → List (List TermList)
parts_of contents = map (λ (c : Content). c.lists) contents

-- the rows of contents, one content behind the other
abbrev pub rows_in : List Content → List DocRow
rows_in contents = flat_map (λ (c : Content). c.documents) contents

-- the terms of contents, in collating order, each once; one that keeps no location in a join counts too
abbrev pub terms_in : List Content → List (List ℕ)
terms_in contents = terms_among (parts_of contents)

-- The content of contents that stand one behind the other, without what is dead: the rows whose end is not dead, and for each
-- term its locations outside of the ranges of dead rows. A term that keeps no location is left out.
abbrev pub joined_in : List Content → List ℕ → Content
joined_in contents dead = record {
  documents = live_rows dead (rows_in contents);
  lists = lists_outside (deleted_spans dead (rows_in contents)) (gathered (parts_of contents));
}

-- of two contents, the first before the second
abbrev pub joined : Content → Content → List ℕ → Content
joined a b dead = joined_in (a ∷ b ∷ []) dead
