-- The terms of a content, each with the locations at which it stands, and the rules of a content.
use Rattle.std.specs.Prelude.{◌≡◌, ℕ, ◌<◌, ◌≤◌, nat_eq, ◌||◌, cond, Bool, List, [], ◌∷◌, length, map, slice_index, IsTrue}
use Rattle.std.specs.Cmp.Lexicographic.{slice_cmp}
use Rattle.std.specs.List.{list_any}
use Rattle.std.specs.List.Sorted.{IsStrictlySortedBy}
use Rattle.std.specs.Ordering.{nat_cmp}
use Rattle.std.specs.Str.{bytes_eq}
use Rattle.alta_codec.specs.Order.{Precedes}
use Rattle.alta_codec.specs.Rising.{IsRising}
use Rattle.alta_content.specs.declared.content.Content.{Content}
use Rattle.alta_content.specs.TermList.{TermList}
use Rattle.alta_content.specs.declared.document.DocRow.{DocRow}
use Rattle.alta_content.specs.Rows.{AreDocuments, ends_of, firsts_of}

-- the terms that stand in the lists, in order
abbrev pub terms_of : List TermList → List (List ℕ)
terms_of lists = map (λ l. l.term) lists

-- where the term stands by the lists: nowhere if it is not among them
abbrev pub locations_of : List TermList → List ℕ → List ℕ
locations_of [] term = []
locations_of (l ∷ ls) term = cond (bytes_eq term l.term) l.locations (locations_of ls term)

-- the terms rise
abbrev pub TermsRise : List TermList → Type 0
TermsRise lists = IsStrictlySortedBy (slice_cmp nat_cmp) (terms_of lists)

-- ---- the rules

-- the byte with which a term begins: W, X, N, S, T or D
abbrev pub is_kind : ℕ → Bool
is_kind b = nat_eq b 87 || nat_eq b 88 || nat_eq b 78 || nat_eq b 83 || nat_eq b 84 || nat_eq b 68

-- the term that stands at the end of each document
abbrev pub end_term : List ℕ
end_term = 68 ∷ []

abbrev pub is_end_list : TermList → Bool
is_end_list l = bytes_eq l.term end_term

-- the location lies in the range of a document
pub record IsInRange (documents : List DocRow) (location : ℕ) : Type 0 where
  pub row : ℕ
  pub within : row < length documents
  pub from : slice_index (firsts_of documents) row ≤ location
  pub to : location ≤ slice_index (ends_of documents) row

abbrev pub AreInRanges : List DocRow → List ℕ → Type 0
AreInRanges documents list = (k : ℕ) → k < length list → IsInRange documents (slice_index list k)

-- a term's list may stand behind that of the term `before`
pub record MayFollowList (documents : List DocRow) (before : List ℕ) (l : TermList) : Type 0 where
  pub rises : Precedes before l.term
  pub kind : IsTrue (is_kind (slice_index l.term 0))
  pub short : length l.term ≤ 129
  pub some : 0 < length l.locations
  pub rising : IsRising l.locations
  pub within : AreInRanges documents l.locations
  pub ends : l.term ≡ end_term → l.locations ≡ ends_of documents

-- lists that may stand one behind the other, behind the term `before`
unfoldable pub AreListsBehind : List DocRow → List ℕ → List TermList → Type 0
AreListsBehind documents before [] = Unit {0}
AreListsBehind documents before (l ∷ ls) = MayFollowList documents before l × AreListsBehind documents l.term ls

-- The documents rise, and there is at least one. The terms rise, each with a list that is not empty and lies in the
-- documents' ranges. The term `D` is there, with the documents' ends.
pub record IsContent (content : Content) : Type 0 where
  pub some : 0 < length content.documents
  pub documents_stand : AreDocuments content.documents
  pub lists_stand : AreListsBehind content.documents [] content.lists
  pub has_end : IsTrue (list_any is_end_list content.lists)
