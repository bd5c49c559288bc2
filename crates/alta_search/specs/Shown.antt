-- The documents that a snapshot shows, with the terms of their cells.
use Rattle.std.specs.Prelude.{◌≡◌, ◌↔◌, ℕ, ◌+◌, ◌<◌, IsTrue, List, [], map, length, Contains, slice_index_or}
use Rattle.std.specs.Cmp.Lexicographic.{slice_cmp}
use Rattle.std.specs.List.{All, concat}
use Rattle.std.specs.List.Sorted.{IsStrictlySortedBy}
use Rattle.std.specs.Ordering.{nat_cmp}
use Rattle.alta_codec.specs.Name.{IsName}
use Rattle.alta_compile.specs.Space.{document_end}
use Rattle.alta_memlevel.specs.Added.{Added, IsSpace, list_of, live_of}
use Rattle.alta_memlevel.specs.Documents.{document_in}
use Rattle.alta_machine.specs.declared.document.Document.{Document}
use Rattle.alta_machine.specs.Patterns.{IsMet}
use Rattle.alta_machine.specs.declared.test.Test.{Test}
use Rattle.alta_search.specs.Lists.{TermKey, term_in}
use Rattle.alta_search.specs.Newest.{term_meets}
use Rattle.alta_search.specs.View.{View}

-- The document has a name, the terms of each of its cells rise, and it ends at its last cell alone.
pub record IsKept (a : Added) : Type 0 where
  pub named : IsName a.row.name
  pub sorted : All (IsStrictlySortedBy (slice_cmp nat_cmp)) a.cells
  pub ended : (place : ℕ) → IsMet a.cells document_end place ↔ (place + 1 ≡ length a.cells)

-- These terms are all that meet the test in the documents, each with its locations, cut by level.
pub record AreTermsOf (added : List Added) (test : Test) (keys : List TermKey)
    (cuts : List (List (List ℕ))) : Type 0 where
  pub lists : map concat cuts ≡ map (λ key. list_of added (term_in key)) keys
  pub all : (term : List ℕ) → IsTrue (term_meets test term) → 0 < length (list_of added term)
      → Contains (map term_in keys) term

-- The rows are those of documents, and the terms of each test are theirs; these are the documents that were not deleted.
pub record ShowsDocuments (v : View) (documents : List Document) : Type 0 where
  pub added : List Added
  pub space : IsSpace added
  pub kept : All IsKept added
  pub rows : v.rows ≡ map (λ a. a.row) added
  pub terms : (at : ℕ) → at < length v.tests
      → AreTermsOf added (slice_index_or v.tests at document_end) (slice_index_or v.keys at [])
      (slice_index_or v.cuts at [])
  pub live : map document_in (live_of v.gone added) ≡ documents
