-- The dump of the documents that a snapshot shows.
use Rattle.std.proofs.Common.{◌≡◌, ℕ, suc, ◌+◌, ◌-◌, ◌<◌, ◌≤◌, true, List, [], ◌∷◌, length, map, get_or, refl, sym, ap, subst, ◌∙◌, arith}
use Rattle.std.specs.Prelude.{Contains, IsTrue, Some, None, slice_get, sum_by}
use Rattle.std.proofs.lemmas.Option.{get_or_from_slice_get, slice_get-get_or, slice_get_within}
use Rattle.alta_codec.specs.Rising.{IsRising}
use Rattle.std.specs.List.{All, concat}
use Rattle.std.proofs.lemmas.List.Elements.{All-nil, All-cons, All-head}
use Rattle.std.proofs.lemmas.List.Sums.{sum_by-cons}
use Rattle.alta_compile.specs.Space.{document_end}
use Rattle.alta_content.specs.Rows.{RowsRise, end_of, live_rows}
use Rattle.alta_content.specs.declared.document.DocRow.{DocRow}
use Rattle.std.proofs.lemmas.Bool.{true≢false}
use Rattle.alta_content.proofs.Order as contains
use Rattle.alta_content.proofs.Order.{itself, same_term}
use Rattle.alta_docread.specs.Kept.{has}
use Rattle.alta_docread.specs.KeptLaws.{Contains-has}
use Rattle.alta_gather.specs.Holding.{held_in}
use Rattle.alta_gather.specs.declared.held.Held.{Held}
use Rattle.alta_memlevel.specs.Added.{Added, IsInSpace, IsSpace, list_of, live_of}
use Rattle.alta_memlevel.specs.Documents.{document_in}
use Rattle.alta_machine.specs.declared.document.Document.{Document}
use Rattle.alta_machine.specs.declared.kinds.TheConstants.{DOCUMENT_END, TITLE_END, WORD}
use Rattle.alta_machine.specs.declared.test.Test.{Test}
use Rattle.alta_machine.specs.declared.test.Test.TheVariants.{Is, Begins}
use Rattle.alta_search.specs.Answers.{answers_in}
use Rattle.alta_search.specs.Lists.{AreKeys, IsCut, count_lists, count_locations, key_of, term_lists}
use Rattle.alta_search.specs.Met.{MeetTest}
use Rattle.alta_search.specs.Newest.{term_meets}
use Rattle.alta_search.specs.Plans.{lists, locations}
use Rattle.alta_search.specs.Shown.{IsKept, ShowsDocuments}
use Rattle.alta_search.specs.Told.{rows_at}
use Rattle.alta_search.specs.View.{View}
use Rattle.alta_search.specs.declared.lists.TermLists.{TermLists}
use Rattle.alta_machine.specs.Dumps.{dumped}
use Rattle.alta_dump.specs.Seen.{IsRowSeen, terms_of}
use Rattle.alta_dump.specs.Shown.{dump_tests, places_of, row_in}
use Rattle.alta_dump.proofs.Cells.{is_in}
use Rattle.alta_dump.proofs.Places.{all_end, live_added, live_rise, rows_rise}
use Rattle.alta_dump.proofs.Walked.{HasTerms, in_space, placed_at, rows_seen, terms_shown}

-- ---- the ends of documents

-- each document ends in the list of ends
ends_in : (added : List Added) (space : IsSpace added) (k : ℕ) (d : Added) → k < length added → IsKept (get_or added k d) → IsInSpace (get_or added k d)
    → Contains (list_of added (DOCUMENT_END ∷ [])) (end_of (get_or added k d).row)
ends_in added space k d l kept inside =
    let a = get_or added k d in let p = length a.cells - 1 in
    let counted = inside.counted in let some = inside.some in
    let last : p + 1 ≡ length a.cells = omega (arith, counted, some) in
    let met = (kept.ended p).1 last in
    let here : a.row.first + p ≡ end_of a.row = omega (arith, counted, some) in
    subst (Contains (list_of added (DOCUMENT_END ∷ []))) here (is_in added space a (placed_at added k d l) p (DOCUMENT_END ∷ []) met.0 met.1)

all_rows : (P : DocRow → Type 0) (added : List Added) → ((k : ℕ) (d : Added) → k < length added → P (get_or added k d).row) → All P (map row_in added)
all_rows P [] each = All-nil P
all_rows P (a ∷ more) each = All-cons P a.row (map row_in more) (each 0 a (omega arith)) (all_rows P more (λ k d l. each (suc k) d (omega (arith, l))))

module _ (v : View) (documents : List Document) (shows : ShowsDocuments v documents) (ends : List TermLists) (e : HasTerms shows.added (Is (DOCUMENT_END ∷ [])) ends) where
  every_end : All (λ row. has (list_of shows.added (DOCUMENT_END ∷ [])) (end_of row) ≡ true) (map row_in shows.added)
  every_end =
      all_rows (λ (row : DocRow). has (list_of shows.added (DOCUMENT_END ∷ [])) (end_of row) ≡ true) shows.added
      (λ k d l. Contains-has (list_of shows.added (DOCUMENT_END ∷ [])) (end_of (get_or shows.added k d).row) (ends_in shows.added shows.space k d l (shows.kept k d l) (in_space shows.added shows.space k d l)))

  -- the first of the terms is that of ends
  pub first_ends : (first : TermLists) (others : List TermLists) → ends ≡ first ∷ others → concat (term_lists first) ≡ list_of shows.added (DOCUMENT_END ∷ [])
  first_ends first others is =
      let head : concat (term_lists first) ≡ list_of shows.added first.term =
      ap (λ (ls : List (List ℕ)). get_or ls 0 []) (subst (λ (ts : List TermLists). map concat (map term_lists ts) ≡ map (list_of shows.added) (terms_of ts)) is e.lists) in
      let met = subst (λ (ts : List TermLists). All (λ t. IsTrue (term_meets (Is (DOCUMENT_END ∷ [])) t)) (terms_of ts)) is e.met in
      head ∙ ap (list_of shows.added) (same_term first.term (DOCUMENT_END ∷ []) (All-head (λ t. IsTrue (term_meets (Is (DOCUMENT_END ∷ [])) t)) first.term (terms_of others) met))

  -- the rows that end in that list and are not deleted are the live ones
  pub live_are : (first : TermLists) (others : List TermLists) → ends ≡ first ∷ others → answers_in (concat (term_lists first)) v.gone 0 v.rows ≡ live_rows v.gone v.rows
  live_are first others is =
      ap (λ (list : List ℕ). answers_in list v.gone 0 v.rows) (first_ends first others is)
      ∙ all_end (list_of shows.added (DOCUMENT_END ∷ [])) v.gone v.rows
      (subst (All (λ row. has (list_of shows.added (DOCUMENT_END ∷ [])) (end_of row) ≡ true)) (sym shows.rows) every_end)

  -- where there is no such term there are no rows
  pub none_live : ends ≡ [] → live_rows v.gone v.rows ≡ []
  none_live is = ap (live_rows v.gone) (shows.rows ∙ ap (map row_in) (no_documents shows.added (λ k d l. ends_in shows.added shows.space k d l (shows.kept k d l) (in_space shows.added shows.space k d l))))
    where
      no_documents : (added : List Added) → ((k : ℕ) (d : Added) → k < length added → Contains (list_of shows.added (DOCUMENT_END ∷ [])) (end_of (get_or added k d).row)) → added ≡ []
      no_documents [] each = refl
      no_documents (a ∷ more) each =
          let there = each 0 a (omega arith) in
          let among : contains.has (DOCUMENT_END ∷ []) (terms_of ends) ≡ true = e.all (DOCUMENT_END ∷ []) (itself (DOCUMENT_END ∷ [])) (omega (arith, there.1)) in
          absurd (true≢false (sym among ∙ ap (λ (ts : List TermLists). contains.has (DOCUMENT_END ∷ []) (terms_of ts)) is))

-- ---- the dump

-- what is written of the rows of documents by what was seen at their places
abbrev pub Writes : List DocRow → List (List ℕ) → List Held → List Held → List ℕ → Type 0
Writes rows terms words titles text =
    (documents : List Added) (f g : ℕ → Held) → rows ≡ map row_in documents → words ≡ map f (places_of rows) → titles ≡ map g (places_of rows)
    → All (IsRowSeen terms f g) documents → text ≡ dumped (map document_in documents)

module _ (v : View) (documents : List Document) (shows : ShowsDocuments v documents) (titles words : List TermLists)
    (t : HasTerms shows.added (Is (TITLE_END ∷ [])) titles) (w : HasTerms shows.added (Begins (WORD ∷ [])) words) where
  pub dump_is : (rows : List DocRow) (live places : List ℕ) (seen_words seen_titles : List Held) (text : List ℕ) → rows ≡ v.rows → rows_at v.rows live ≡ live_rows v.gone v.rows
      → (RowsRise (rows_at rows live) → places ≡ places_of (rows_at rows live)) → seen_words ≡ map (held_in (map concat (map term_lists words))) places
      → seen_titles ≡ map (held_in (map concat (map term_lists titles))) places → Writes (rows_at rows live) (terms_of words) seen_words seen_titles text → text ≡ dumped documents
  dump_is rows live places seen_words seen_titles text are live_is places_are words_are titles_are writes =
      let f = held_in (map concat (map term_lists words)) in let g = held_in (map concat (map term_lists titles)) in
      let these = rows_at rows live in
      let is : these ≡ live_rows v.gone v.rows = ap (λ (rs : List DocRow). rows_at rs live) are ∙ live_is in
      let rise : RowsRise these = subst RowsRise (sym is) (live_rise v.gone v.rows (subst RowsRise (sym shows.rows) (rows_rise shows.added shows.space))) in
      let all = places_are rise in
      writes (live_of v.gone shows.added) f g (is ∙ ap (live_rows v.gone) shows.rows ∙ live_added v.gone shows.added) (words_are ∙ ap (map f) all) (titles_are ∙ ap (map g) all)
      (rows_seen shows.added shows.space titles words t w v.gone shows.kept)
      ∙ ap dumped shows.live

-- ---- the terms of the tests of a dump

-- what a snapshot gives of the terms of a use
pub record AreGiven (v : View) (at : ℕ) (terms : List TermLists) : Type 0 where
  pub keys : map key_of terms ≡ get_or v.keys at []
  pub cuts : map term_lists terms ≡ get_or v.cuts at []
  pub met : MeetTest (get_or v.tests at document_end) (map key_of terms)
  pub keyed : AreKeys (map key_of terms)

module _ (v : View) (documents : List Document) (tests : v.tests ≡ dump_tests) (shows : ShowsDocuments v documents) (terms : List TermLists) where
  given_at : (at : ℕ) (test : Test) → at < 3 → get_or dump_tests at document_end ≡ test → AreGiven v at terms → HasTerms shows.added test terms
  given_at at test within is given =
      terms_shown v documents shows at test terms (omega (arith, within, ap length tests)) (ap (λ (ts : List Test). get_or ts at document_end) tests ∙ is) given.keys given.cuts given.met given.keyed

  pub ends_given : AreGiven v 0 terms → HasTerms shows.added (Is (DOCUMENT_END ∷ [])) terms
  ends_given given = given_at 0 (Is (DOCUMENT_END ∷ [])) (omega arith) refl given

  pub titles_given : AreGiven v 1 terms → HasTerms shows.added (Is (TITLE_END ∷ [])) terms
  titles_given given = given_at 1 (Is (TITLE_END ∷ [])) (omega arith) refl given

  pub words_given : AreGiven v 2 terms → HasTerms shows.added (Begins (WORD ∷ [])) terms
  words_given given = given_at 2 (Begins (WORD ∷ [])) (omega arith) refl given

-- ---- the steps

three : (f : List (List (List ℕ)) → ℕ) (cuts : List (List (List (List ℕ)))) → f [] ≡ 0 → f (get_or cuts 0 []) + f (get_or cuts 1 []) + f (get_or cuts 2 []) ≤ sum_by f cuts
three f [] none = omega (arith, none)
three f (a ∷ []) none = omega (arith, none, sum_by-cons f a [])
three f (a ∷ b ∷ []) none = omega (arith, none, sum_by-cons f a (b ∷ []), sum_by-cons f b [])
three f (a ∷ b ∷ c ∷ cuts) none = omega (arith, sum_by-cons f a (b ∷ c ∷ cuts), sum_by-cons f b (c ∷ cuts), sum_by-cons f c cuts)

-- each of three walks adds no more than its lists are and have locations
pub three_walks : (cuts : List (List (List (List ℕ)))) → count_lists (get_or cuts 0 []) + count_locations (get_or cuts 0 []) + (count_lists (get_or cuts 1 []) + count_locations (get_or cuts 1 []))
    + (count_lists (get_or cuts 2 []) + count_locations (get_or cuts 2 [])) ≤ lists cuts + locations cuts
three_walks cuts = let l = three count_lists cuts refl in let p = three count_locations cuts refl in omega (arith, l, p)

-- ---- the first of the terms

pub first_given : (terms : List TermLists) (first : TermLists) → slice_get terms 0 ≡ Some first → (others : List TermLists) × (terms ≡ first ∷ others)
first_given [] first e = absurd (omega (arith, slice_get_within [] 0 first e))
first_given (t ∷ ts) first e = (ts, ap (λ (x : TermLists). x ∷ ts) (get_or_from_slice_get (t ∷ ts) 0 first t e))

pub none_given : (terms : List TermLists) → slice_get terms 0 ≡ None → terms ≡ []
none_given [] e = refl
none_given (t ∷ ts) e = let h : None ≡ Some t = sym e ∙ slice_get-get_or (t ∷ ts) 0 t (omega arith) in absurd (cc)

pub first_rising : (terms : List TermLists) (first : TermLists) → slice_get terms 0 ≡ Some first → IsCut (map term_lists terms) → IsRising (concat (term_lists first))
first_rising terms first e cut =
    let (others, is) = first_given terms first e in
    (All-head (λ (levels : List (List ℕ)). All (λ (list : List ℕ). 0 < length list) levels × IsRising (concat levels)) (term_lists first) (map term_lists others)
    (subst (λ (ts : List TermLists). IsCut (map term_lists ts)) is cut)).1
