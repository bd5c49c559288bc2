-- The documents of levels and the newest ones as one space, and the lists of tests in it.
use Rattle.std.proofs.Common.{◌≡◌, ⊎_elim, ℕ, false, cond, List, [], ◌∷◌, ◌++◌, map, refl, sym, ap, subst, ◌∙◌, append-nil, append_assoc}
use Rattle.std.specs.Prelude.{All, flat_map}
use Rattle.std.specs.List.{concat, filter}
use Rattle.std.specs.Str.{bytes_eq}
use Rattle.std.proofs.lemmas.Bool.{cases_Bool, or_parts}
use Rattle.std.proofs.lemmas.List.{map-append}
use Rattle.std.proofs.lemmas.List.Elements.{All-nil, All-cons, All-head, All-tail, All-append}
use Rattle.std.proofs.lemmas.List.Folds.{concat-append}
use Rattle.alta_compile.specs.Space.{list_of}
use Rattle.alta_compound.specs.Union.{union_of}
use Rattle.alta_content.specs.Joining.{in_order}
use Rattle.alta_content.specs.Lists.{locations_of}
use Rattle.alta_content.specs.Lists as content
use Rattle.alta_content.specs.declared.content.Content.{Content}
use Rattle.alta_content.specs.TermList.{TermList}
use Rattle.alta_content.specs.declared.document.DocRow.{DocRow}
use Rattle.alta_content.proofs.Contents.{rows_rise}
use Rattle.alta_content.proofs.Elements.{all_left}
use Rattle.alta_content.proofs.Order.{has, has_append, has_in_order}
use Rattle.alta_meaning.specs.Levels.{Level}
use Rattle.alta_meaning.specs.Opened.{bytes_at, table_rows}
use Rattle.alta_meaning.specs.Ordered.{Precedes, RowsPrecede}
use Rattle.alta_meaning.specs.Standing.{tables_by}
use Rattle.alta_level.specs.Segments.{IsSegment, rows_of}
use Rattle.alta_loading.specs.Contents.{lists_in}
use Rattle.alta_loading.specs.Loads.{list_at, loads_from}
use Rattle.alta_loading.specs.Met.{all_terms, level_terms, lists_met, terms_met}
use Rattle.alta_loading.specs.Snapshots.{all_rows}
use Rattle.alta_loading.specs.Terms.{if_some, lists_of_term}
use Rattle.alta_loading.proofs.Contents.{levels_loaded}
use Rattle.alta_loading.proofs.Cuts.{concat_some}
use Rattle.alta_loading.proofs.ReadOff.{added_in, documents_each, list_read_off, rows_back, space_from}
use Rattle.alta_memlevel.specs.Added.{Added, HasContent, IsInSpace, IsSpace, places_of}
use Rattle.alta_memlevel.specs.Added as mem
use Rattle.alta_memlevel.proofs.One.{listed, listed_at, listed_terms}
use Rattle.alta_machine.specs.declared.test.Test.{Test}
use Rattle.alta_search.specs.Lists.{test_list}
use Rattle.alta_search.specs.Newest.{newest_list, term_meets}
use Rattle.alta_search.proofs.NewestAnswers.{added-apart}
use Rattle.alta_search.proofs.NewestLists.{newest-list, space_of}
use Rattle.alta_table.specs.Tables.{Tables}
use Rattle.alta_table.specs.Terms.{terms_of}

-- the level's bytes are the segment of its content
abbrev pub IsWritten : List ℕ → Level → Type 0
IsWritten image l = IsSegment (bytes_at l.extent image) l.content

abbrev pub rows_added : List Added → List DocRow
rows_added added = map (λ (a : Added). a.row) added

-- the documents of levels, as they are read off them
abbrev pub of_levels : List Level → List Added
of_levels levels = flat_map (λ (l : Level). added_in l.content) levels

-- ---- rows

rows_added_of : (levels : List Level) → rows_added (of_levels levels) ≡ table_rows (map tables_by levels)
rows_added_of [] = refl
rows_added_of (l ∷ ls) =
    map-append (λ (a : Added). a.row) (added_in l.content) (of_levels ls)
    ∙ ap (λ r. r ++ rows_added (of_levels ls)) (rows_back l.content.lists l.content.documents)
    ∙ ap (λ r. l.content.documents ++ r) (rows_added_of ls)

rise_left : (rows others : List DocRow) → RowsPrecede (rows ++ others) → RowsPrecede rows
rise_left [] others r = tt
rise_left (row ∷ rows) others r = (all_left (Precedes row) rows others r.0, rise_left rows others r.1)

rise_right : (rows others : List DocRow) → RowsPrecede (rows ++ others) → RowsPrecede others
rise_right [] others r = r
rise_right (row ∷ rows) others r = rise_right rows others r.1

levels_each : (levels : List Level) (image : List ℕ) → All (IsWritten image) levels → All IsInSpace (of_levels levels)
levels_each [] image s = All-nil IsInSpace
levels_each (l ∷ ls) image s =
    let is = All-head (IsWritten image) l ls s in
    All-append IsInSpace (added_in l.content) (of_levels ls) (documents_each l.content.lists l.content.documents (rows_rise l.content.documents is.stands.documents_stand))
    (levels_each ls image (All-tail (IsWritten image) l ls s))

pub space_each : (added : List Added) → IsSpace added → All IsInSpace added
space_each [] s = All-nil IsInSpace
space_each (a ∷ more) s = All-cons IsInSpace a more s.0 (space_each more s.3)

-- ---- lists

list_append : (a b : List Added) (t : List ℕ) → mem.list_of (a ++ b) t ≡ mem.list_of a t ++ mem.list_of b t
list_append [] b t = refl
list_append (x ∷ xs) b t =
    let own = places_of x.row.first t x.cells in
    ap (λ l. own ++ l) (list_append xs b t) ∙ sym (append_assoc own (mem.list_of xs t) (mem.list_of b t))

-- where the term stands in levels, one behind the other
abbrev located_in : List Level → List ℕ → List ℕ
located_in levels t = flat_map (λ (l : Level). locations_of l.content.lists t) levels

lists_of_levels : (levels : List Level) (image t : List ℕ) → All (IsWritten image) levels → RowsPrecede (table_rows (map tables_by levels)) → located_in levels t ≡ mem.list_of (of_levels levels) t
lists_of_levels [] image t s rise = refl
lists_of_levels (l ∷ ls) image t s rise =
    let rest = table_rows (map tables_by ls) in
    ap (λ xs. xs ++ located_in ls t) (list_read_off l.content (All-head (IsWritten image) l ls s).stands (rise_left l.content.documents rest rise) t)
    ∙ ap (λ xs. mem.list_of (added_in l.content) t ++ xs) (lists_of_levels ls image t (All-tail (IsWritten image) l ls s) (rise_right l.content.documents rest rise))
    ∙ sym (list_append (added_in l.content) (of_levels ls) t)

concat_lists : (levels : List Level) (t : List ℕ) → concat (lists_in levels t) ≡ located_in levels t
concat_lists [] t = refl
concat_lists (l ∷ ls) t =
    let list = locations_of l.content.lists t in
    concat-append (if_some list) (lists_in ls t) ∙ ap (λ xs. xs ++ concat (lists_in ls t)) (concat_some list) ∙ ap (λ xs. list ++ xs) (concat_lists ls t)

-- ---- terms that have no list

absent : (lists : List TermList) (t : List ℕ) → has t (content.terms_of lists) ≡ false → locations_of lists t ≡ []
absent [] t h = refl
absent (l ∷ ls) t h =
    let p = or_parts (bytes_eq t l.term) (has t (content.terms_of ls)) h in
    ap (λ b. cond b l.locations (locations_of ls t)) p.0 ∙ absent ls t p.1

row_terms : (lists : List TermList) → terms_of (rows_of lists) ≡ content.terms_of lists
row_terms [] = refl
row_terms (l ∷ ls) = ap (λ ts. l.term ∷ ts) (row_terms ls)

absent_levels : (levels : List Level) (t : List ℕ) → has t (flat_map level_terms (map tables_by levels)) ≡ false → located_in levels t ≡ []
absent_levels [] t h = refl
absent_levels (l ∷ ls) t h =
    let rest = flat_map level_terms (map tables_by ls) in
    let p = or_parts (has t (level_terms (tables_by l))) (has t rest) (sym (has_append t (level_terms (tables_by l)) rest) ∙ h) in
    ap (λ xs. xs ++ located_in ls t) (absent l.content.lists t (ap (has t) (sym (row_terms l.content.lists)) ∙ p.0)) ∙ absent_levels ls t p.1

-- ---- the space

module _ (levels : List Level) (image : List ℕ) (added : List Added) (newest : Content) (s : All (IsWritten image) levels) (h : HasContent added newest)
    (rise : RowsPrecede (all_rows (map tables_by levels) newest)) where
  abbrev pub all : List Added
  all = of_levels levels ++ added

  abbrev tables : List Tables
  tables = map tables_by levels

  pub rows_are : rows_added all ≡ all_rows (map tables_by levels) newest
  rows_are =
      map-append (λ (a : Added). a.row) (of_levels levels) added
      ∙ ap (λ r. r ++ rows_added added) (rows_added_of levels)
      ∙ ap (λ r. table_rows tables ++ r) (sym h.documents)

  pub all_space : IsSpace all
  all_space =
      space_from all (subst RowsPrecede (sym rows_are) rise) (All-append IsInSpace (of_levels levels) added (levels_each levels image s) (space_each added h.space))

  levels_part : (t : List ℕ) → located_in levels t ≡ mem.list_of (of_levels levels) t
  levels_part t = lists_of_levels levels image t s (rise_left (table_rows tables) newest.documents rise)

  -- the lists of a term make up its list
  pub joined : (t : List ℕ) → concat (lists_of_term (map tables_by levels) newest image t) ≡ mem.list_of all t
  joined t =
      let coded = map (list_at image) (loads_from 0 tables t) in
      let last = locations_of newest.lists t in
      concat-append coded (if_some last)
      ∙ ap (λ xs. xs ++ concat (if_some last)) (ap concat (levels_loaded levels image t s).are ∙ concat_lists levels t ∙ levels_part t)
      ∙ ap (λ xs. mem.list_of (of_levels levels) t ++ xs) (concat_some last ∙ h.lists t)
      ∙ sym (list_append (of_levels levels) added t)

  abbrev terms : List (List ℕ)
  terms = all_terms tables newest

  -- a term of no level and of none of the newest documents has none
  pub none_all : (t : List ℕ) → has t (all_terms (map tables_by levels) newest) ≡ false → mem.list_of all t ≡ []
  none_all t none =
      let front = flat_map level_terms tables in let back = content.terms_of newest.lists in
      let p = or_parts (has t front) (has t back) (sym (has_append t front back) ∙ none) in
      list_append (of_levels levels) added t
      ∙ ap (λ xs. xs ++ mem.list_of added t) (sym (levels_part t) ∙ absent_levels levels t p.0)
      ∙ sym (h.lists t) ∙ absent newest.lists t p.1

  -- all terms, each with its list
  abbrev whole : List TermList
  whole = listed (mem.list_of all) (in_order terms)

  located : (t : List ℕ) → locations_of whole t ≡ mem.list_of all t
  located t =
      listed_at (mem.list_of all) (in_order terms) t ∙ ap (λ b. cond b (mem.list_of all t) []) (has_in_order t terms)
      ∙ ⊎_elim
      (λ y. ap (λ b. cond b (mem.list_of all t) []) y)
      (λ n. ap (λ b. cond b (mem.list_of all t) []) n ∙ sym (none_all t n))
      (cases_Bool (has t terms))

  same_joined : (ts : List (List ℕ)) → map concat (map (lists_of_term tables newest image) ts) ≡ map concat (map (newest_list whole) ts)
  same_joined [] = refl
  same_joined (t ∷ ts) =
      ap (λ l. l ∷ map concat (map (lists_of_term tables newest image) ts)) (joined t ∙ sym (append-nil (locations_of whole t) ∙ located t))
      ∙ ap (λ ls. concat (newest_list whole t) ∷ ls) (same_joined ts)

  list_met : (test : Test) → test_list (lists_met tables newest image test) ≡ list_of (space_of all) test
  list_met test =
      ap union_of (same_joined (terms_met tables newest test))
      ∙ ap (λ ts. union_of (map concat (map (newest_list whole) (filter (term_meets test) ts)))) (sym (listed_terms (mem.list_of all) (in_order terms)))
      ∙ newest-list all whole located test (added-apart all all_space)

  -- the lists of tests are those that the tests have in the space
  pub lists_are : (tests : List Test) → map test_list (map (lists_met (map tables_by levels) newest image) tests) ≡ map (list_of (space_of all)) tests
  lists_are [] = refl
  lists_are (t ∷ ts) =
      ap (λ l. l ∷ map test_list (map (lists_met tables newest image) ts)) (list_met t) ∙ ap (λ ls. list_of (space_of all) t ∷ ls) (lists_are ts)
