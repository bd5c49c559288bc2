-- What is written anew, and the root to come.
use Rattle.std.specs.Prelude.{◌≡◌, ◌==◌, ℕ, cond, List, [], ◌∷◌, ◌++◌, length, drop, map, Option, Some, None, Result, Ok, Err}
use Rattle.std.specs.Str.{bytes_eq}
use Rattle.alta_codec.specs.declared.extent.Extent.{Extent}
use Rattle.alta_content.specs.Parts.{IsPart}
use Rattle.alta_content.specs.declared.content.Content.{Content}
use Rattle.alta_meaning.specs.Working.{Full}
use Rattle.alta_level.specs.Segments.{rows_of, segment_bytes}
use Rattle.alta_postings.specs.Deltas.{stream_bytes}
use Rattle.alta_root.specs.Root.{next_sequence, no_extent}
use Rattle.alta_root.specs.declared.places.TheConstants.{VERSION}
use Rattle.alta_root.specs.declared.root.Root.{Root}
use Rattle.alta_rewrite.specs.declared.piece.Piece.{Piece}
use Rattle.alta_table.specs.Tables.{Tables}
use Rattle.alta_rewrite.specs.Places.{as_list, places_for}
use Rattle.alta_rewrite.specs.declared.draft.Draft.{Draft}
use Rattle.alta_rewrite.specs.declared.ends.Ends.{Ends}
use Rattle.alta_rewrite.specs.declared.fault.RewriteFault.{RewriteFault}
use Rattle.alta_rewrite.specs.declared.fault.RewriteFault.TheVariants as faults
use Rattle.alta_rewrite.specs.declared.levels.NextLevels.{NextLevels}
use Rattle.alta_rewrite.specs.declared.places.Places.{Places}

-- ---- bytes

-- the segment of a content, and no bytes where it has no documents
abbrev pub segment_of : Content → List ℕ
segment_of content = cond (length content.documents == 0) [] (segment_bytes content)

-- the deletion list, and no bytes where it stays the same or is empty
abbrev pub list_of : Ends → List ℕ
list_of ends = cond (bytes_eq ends.deleted.now ends.listed.now) [] (stream_bytes 0 ends.deleted.now)

-- ---- the root to come

-- where the deletion list stands then: at its new place, or where it did if it stays the same, or nowhere
abbrev pub list_to_come : Root → Ends → Option Extent → Extent
list_to_come root ends (Some extent) = extent
list_to_come root ends None = cond (bytes_eq ends.deleted.now ends.listed.now) root.deletions no_extent

-- the extents that stay, between the new ones
abbrev pub extents_to_come : Root → ℕ → Places → List Extent
extents_to_come root stay_from places =
    as_list places.oldest ++ (drop stay_from root.levels.items ++ as_list places.newest)

-- the last version, the next sequence, number and location, and the levels to come
abbrev pub root_to_come : Root → Ends → ℕ → ℕ → ℕ → Places → Root
root_to_come root ends stay_from next location places = record {
  version = VERSION;
  sequence = next_sequence root.sequence;
  next_number = next;
  next_location = location;
  levels = record { items = extents_to_come root stay_from places };
  deletions = list_to_come root ends places.list;
}

-- the tables of a level at its place
abbrev pub table_to_come : Option Extent → Content → Option Tables
table_to_come None content = None
table_to_come (Some extent) content = Some
    (record { place = extent.place; documents = content.documents; terms = rows_of content.lists })

-- ---- what is to be written

-- the places of what is written anew
abbrev pub rewrite_places : ℕ → Root → NextLevels → Ends → Result Places Full
rewrite_places limit root levels ends =
    places_for limit root (length (segment_of levels.oldest)) (length (segment_of levels.newest))
    (length (list_of ends))

-- what is written anew, and the root to come
pub record IsDraft (limit : ℕ) (root : Root) (levels : NextLevels) (ends : Ends) (next location : ℕ)
    (draft : Draft) : Type 0 where
  pub parts : IsPart levels.oldest × IsPart levels.newest
  pub oldest : draft.oldest.items ≡ segment_of levels.oldest
  pub newest : draft.newest.items ≡ segment_of levels.newest
  pub list : draft.list ≡ list_of ends
  pub places : rewrite_places limit root levels ends ≡ Ok draft.places
  pub root_is : draft.root ≡ root_to_come root ends levels.stay_from next location draft.places
  pub oldest_level : draft.oldest_level ≡ table_to_come draft.places.oldest levels.oldest
  pub newest_level : draft.newest_level ≡ table_to_come draft.places.newest levels.newest

-- the draft, or why there is none
abbrev pub Drafts : ℕ → Root → NextLevels → Ends → ℕ → ℕ → Result Draft RewriteFault → Type 0
Drafts limit root levels ends next location (Ok draft) = IsDraft limit root levels ends next location draft
Drafts limit root levels ends next location (Err faults.Disk) = ⊥
Drafts limit root levels ends next location (Err faults.Memory) = Unit {0}
Drafts limit root levels ends next location (Err (faults.Full need gap)) =
    rewrite_places limit root levels ends ≡ Err (record { need = need; gap = gap })

-- ---- pieces

-- the bytes at their place, where they have one
abbrev pub piece_of : Option Extent → List ℕ → List (Extent × List ℕ)
piece_of None bytes = []
piece_of (Some extent) bytes = (extent, bytes) ∷ []

abbrev pub pairs_in : List Piece → List (Extent × List ℕ)
pairs_in pieces = map (λ (p : Piece). (p.extent, p.bytes.now)) pieces

-- the segments and the list of a draft
abbrev pub pieces_of : Draft → List (Extent × List ℕ)
pieces_of draft = piece_of draft.places.oldest draft.oldest.items
    ++ (piece_of draft.places.newest draft.newest.items ++ piece_of draft.places.list draft.list)
