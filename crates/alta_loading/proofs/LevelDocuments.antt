-- What is loaded of levels and of the newest documents shows the documents of both.
use Rattle.std.proofs.Common.{◌≡◌, ⊎_elim, ℕ, ◌+◌, ◌<◌, Bool, true, ◌&&◌, List, [], ◌∷◌, ◌++◌, map, length, get_or, refl, sym, subst, ap, ◌∙◌, arith}
use Rattle.std.specs.Prelude.{◌↔◌, All, IsTrue, flat_map}
use Rattle.std.specs.List.{concat}
use Rattle.std.specs.List.Sorted.{IsStrictlySortedBy}
use Rattle.std.proofs.lemmas.Bool.{cases_Bool}
use Rattle.std.proofs.lemmas.List.{get_or-map, length-map}
use Rattle.std.proofs.lemmas.List.Elements.{All-nil, All-cons, All-head, All-tail, All-append, All-map, All-weaker}
use Rattle.alta_codec.specs.Name.{IsName}
use Rattle.alta_compile.specs.Space.{document_end}
use Rattle.alta_content.specs.Lists.{TermsRise}
use Rattle.alta_content.specs.Rows.{AreDocumentsBehind, Before, behind_row, start}
use Rattle.alta_content.specs.TermList.{TermList}
use Rattle.alta_content.specs.declared.content.Content.{Content}
use Rattle.alta_content.specs.declared.document.DocRow.{DocRow}
use Rattle.alta_content.proofs.Contents.{lists_rise}
use Rattle.alta_content.proofs.Order.{Sorted, has, has_in_order}
use Rattle.alta_content.proofs.Ranges.{among}
use Rattle.alta_content.specs.Joining.{in_order}
use Rattle.alta_meaning.specs.Levels.{Level, cell_at, documents_of, locations_from}
use Rattle.alta_meaning.specs.Ordered.{RowsPrecede}
use Rattle.alta_meaning.specs.Standing.{tables_by}
use Rattle.alta_loading.specs.Met.{all_terms, keys_met, lists_met, terms_met}
use Rattle.alta_loading.specs.Snapshots.{all_rows, loaded_view}
use Rattle.alta_loading.specs.Terms.{lists_of_term, term_key}
use Rattle.alta_loading.proofs.LevelAnswers.{live_append, live_levels}
use Rattle.alta_loading.proofs.LevelEnds.{whole_space}
use Rattle.alta_loading.proofs.LevelSpaces.{IsWritten, all_space, joined, none_all, of_levels, rows_are}
use Rattle.alta_loading.proofs.ReadOff.{added_in, cell_after, cell_of, read_off}
use Rattle.alta_loading.proofs.TermSets.{has_contains, has_filter}
use Rattle.alta_memlevel.specs.Added.{Added}
use Rattle.alta_memlevel.specs.Added as mem
use Rattle.alta_memlevel.specs.Documents.{HasDocuments, IsMade, document_in}
use Rattle.alta_memlevel.proofs.Cells.{IsGood, cells_good}
use Rattle.alta_machine.specs.Cells.{cells_of}
use Rattle.alta_machine.specs.declared.document.Document.{Document}
use Rattle.alta_machine.specs.Patterns.{IsMet}
use Rattle.alta_machine.specs.declared.test.Test.{Test}
use Rattle.alta_search.specs.Lists.{TermKey, term_in}
use Rattle.alta_search.specs.Newest.{term_meets}
use Rattle.alta_search.specs.Shown.{AreTermsOf, IsKept, ShowsDocuments}
use Rattle.alta_search.proofs.NewestLists.{placed_of, space_of}
use Rattle.alta_table.specs.Tables.{Tables}

-- ---- names, and cells in order

-- a name, and cells whose terms rise
abbrev IsFine : Added → Type 0
IsFine a = IsName a.row.name × All Sorted a.cells

cell_sorted : (lists : List TermList) (x : ℕ) → TermsRise lists → Sorted (cell_at lists x)
unfolding IsStrictlySortedBy
cell_sorted [] x s = tt
cell_sorted (l ∷ ls) x s =
    let rest = cell_sorted ls x s.1 in
    ⊎_elim
    (λ y. subst (λ b. Sorted (cell_of b l ls x)) (sym y) (cell_after l.term ls x s.0, rest))
    (λ n. subst (λ b. Sorted (cell_of b l ls x)) (sym n) rest)
    (cases_Bool (among x l.locations))

rows_fine : (before : Before) (lists : List TermList) (rows : List DocRow) → TermsRise lists → AreDocumentsBehind before rows → All IsFine (map (read_off lists) rows)
unfolding AreDocumentsBehind
rows_fine before lists [] s h = All-nil IsFine
rows_fine before lists (row ∷ rows) s (m, more) =
    All-cons IsFine (read_off lists row) (map (read_off lists) rows)
    (m.named, All-map Sorted (cell_at lists) (locations_from row.first row.cells) (λ k d l. cell_sorted lists (get_or (locations_from row.first row.cells) k d) s))
    (rows_fine (behind_row before row) lists rows s more)

levels_fine : (levels : List Level) (image : List ℕ) → All (IsWritten image) levels → All IsFine (of_levels levels)
levels_fine [] image s = All-nil IsFine
levels_fine (l ∷ ls) image s =
    let is = (All-head (IsWritten image) l ls s).stands in
    All-append IsFine (added_in l.content) (of_levels ls) (rows_fine start l.content.lists l.content.documents (lists_rise l.content.documents [] l.content.lists is.lists_stand) is.documents_stand)
    (levels_fine ls image (All-tail (IsWritten image) l ls s))

made_fine : (a : Added) → IsMade a → IsFine a
made_fine a made = (
  made.named,
  subst (All Sorted) (sym made.made) (All-weaker IsGood Sorted (λ cell good. good.sorted) (cells_of a.row.name made.title made.body) (cells_good a.row.name made.title made.body made.named)),
)

-- ---- the terms of a test

terms_of_keys : (levels : List Tables) (newest : Content) (ts : List (List ℕ)) → map term_in (map (term_key levels newest) ts) ≡ ts
terms_of_keys levels newest [] = refl
terms_of_keys levels newest (t ∷ ts) = ap (λ (us : List (List ℕ)). t ∷ us) (terms_of_keys levels newest ts)

-- ---- the documents

module _ (levels : List Level) (image gone : List ℕ) (documents : List Document) (newest : mem.LevelView) (tests : List Test)
    (s : All (IsWritten image) levels) (h : HasDocuments gone documents newest) (rise : RowsPrecede (all_rows (map tables_by levels) newest.content)) where
  abbrev all : List Added
  all = of_levels levels ++ h.added

  abbrev tables : List Tables
  tables = map tables_by levels

  spaced : mem.IsSpace all
  spaced = all_space levels image h.added newest.content s h.content rise

  all_fine : All IsFine all
  all_fine = All-append IsFine (of_levels levels) h.added (levels_fine levels image s) (All-weaker IsMade IsFine made_fine h.added h.made)

  ended : (k : ℕ) (d : Added) → k < length all → (place : ℕ) → IsMet (get_or all k d).cells document_end place ↔ (place + 1 ≡ length (get_or all k d).cells)
  ended k d l =
      let a = get_or all k d in
      let long : k < length (space_of all) = omega (arith, l, length-map all placed_of) in
      (whole_space levels image h.added s h.content.space h.made spaced).ended (placed_of a) (k, long, get_or-map placed_of all k d (placed_of a) l)

  each_kept : All IsKept all
  each_kept k d l = let fine = all_fine k d l in record { named = fine.0; sorted = fine.1; ended = ended k d l }

  lists_each : (ts : List (List ℕ)) → map concat (map (lists_of_term tables newest.content image) ts) ≡ map (λ (key : TermKey). mem.list_of all (term_in key)) (map (term_key tables newest.content) ts)
  lists_each [] = refl
  lists_each (t ∷ ts) =
      ap (λ (l : List ℕ). l ∷ map concat (map (lists_of_term tables newest.content image) ts)) (joined levels image h.added newest.content s h.content rise t)
      ∙ ap (λ (ls : List (List ℕ)). mem.list_of all t ∷ ls) (lists_each ts)

  is_met : (test : Test) (t : List ℕ) → IsTrue (term_meets test t) → 0 < length (mem.list_of all t) → has t (terms_met tables newest.content test) ≡ true
  is_met test t meets some =
      let terms = all_terms tables newest.content in
      let there : has t terms ≡ true =
      ⊎_elim (λ y. y) (λ n. let none : length (mem.list_of all t) ≡ 0 = ap length (none_all levels image h.added newest.content s h.content rise t n) in absurd (omega (arith, none, some))) (cases_Bool (has t terms)) in
      has_filter (term_meets test) t (in_order terms) ∙ ap (λ (b : Bool). b && has t (in_order terms)) meets ∙ has_in_order t terms ∙ there

  terms_are : (test : Test) → AreTermsOf all test (keys_met tables newest.content test) (lists_met tables newest.content image test)
  terms_are test = record {
    lists = lists_each (terms_met tables newest.content test);
    all = λ t meets some. has_contains t _ (ap (has t) (terms_of_keys tables newest.content (terms_met tables newest.content test)) ∙ is_met test t meets some);
  }

  pub levels_shown : ShowsDocuments (loaded_view (map tables_by levels) newest.content image tests gone) (flat_map (documents_of gone) levels ++ documents)
  levels_shown = record {
    added = all;
    space = spaced;
    kept = each_kept;
    rows = sym (rows_are levels image h.added newest.content s h.content rise);
    terms = λ at within.
        let test = get_or tests at document_end in
        subst (λ (keys : List TermKey). AreTermsOf all test keys (get_or (map (lists_met tables newest.content image) tests) at [])) (sym (get_or-map (keys_met tables newest.content) tests at document_end [] within))
        (subst (λ (cuts : List (List (List ℕ))). AreTermsOf all test (keys_met tables newest.content test) cuts) (sym (get_or-map (lists_met tables newest.content image) tests at document_end [] within)) (terms_are test));
    live = live_append gone (of_levels levels) h.added
        ∙ ap (λ ds. ds ++ map document_in (mem.live_of gone h.added)) (live_levels gone levels)
        ∙ ap (λ ds. flat_map (documents_of gone) levels ++ ds) h.live;
  }
