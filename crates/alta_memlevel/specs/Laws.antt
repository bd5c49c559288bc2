-- What the content of added documents keeps of them.
use Rattle.std.specs.Prelude.{◌≡◌, ℕ, ◌<◌, ◌≤◌, List, [], ◌∷◌, ◌++◌, length, map}
use Rattle.std.specs.List.{All}
use Rattle.alta_content.specs.declared.content.Content.{Content}
use Rattle.alta_content.specs.Joining.{joined_in, rows_in}
use Rattle.alta_content.specs.Lists.{IsContent}
use Rattle.alta_content.specs.Parts.{IsPart, MayJoin}
use Rattle.alta_content.specs.Rows.{live_rows}
use Rattle.alta_memlevel.specs.Added.{Added, HasContent, IsSpace, live_of}
use Rattle.alta_memlevel.specs.Documents.{AreAdded, AreMade, IsBefore, content_of, document_in, document_of}

-- documents that stand one behind the other have a content
abbrev pub HaveContent : Type 0
HaveContent = (added : List Added) → IsSpace added → HasContent added (content_of added)

-- and have it alone
abbrev pub HaveOneContent : Type 0
HaveOneContent = (added : List Added) → (content : Content) → HasContent added content → content ≡ content_of added

-- read back from the rows and lists of their content, the documents are those that were added
abbrev pub ReadBack : Type 0
ReadBack = (added : List Added) → (content : Content) → HasContent added content → AreMade added
    → map (document_of content.lists) content.documents ≡ map document_in added

-- so are those of them that are not deleted
abbrev pub LiveReadBack : Type 0
LiveReadBack = (added : List Added) → (content : Content) → (deleted : List ℕ)
    → HasContent added content → AreMade added
    → map (document_of content.lists) (live_rows deleted content.documents) ≡ map document_in (live_of deleted added)

-- their content is a level's, or empty
abbrev pub HavePart : Type 0
HavePart = (added : List Added) → (content : Content) → HasContent added content → AreMade added → IsPart content

-- where there is a document it is a level's
abbrev pub HaveLevel : Type 0
HaveLevel = (added : List Added) → (content : Content) → HasContent added content → AreMade added
    → 0 < length added → IsContent content

-- the content of documents that stand behind those of contents may be joined with these
abbrev pub MayJoinBehind : Type 0
MayJoinBehind = (number location : ℕ) → (contents : List Content) → (added : List Added) → (content : Content)
    → 1 ≤ number → 1 ≤ location
    → MayJoin contents → All (IsBefore number location) (rows_in contents) → AreAdded number location added
    → HasContent added content
    → MayJoin (contents ++ content ∷ [])

-- to leave documents out before is to join without them
abbrev pub LiveAreJoined : Type 0
LiveAreJoined = (added : List Added) → (gone : List ℕ) → IsSpace added
    → content_of (live_of gone added) ≡ joined_in (content_of added ∷ []) gone

-- those that are left keep what the laws ask for
abbrev pub LiveAreAdded : Type 0
LiveAreAdded = (number location : ℕ) → (added : List Added) → (gone : List ℕ) → AreAdded number location added
    → AreAdded number location (live_of gone added)
