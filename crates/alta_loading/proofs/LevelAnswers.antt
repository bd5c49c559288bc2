-- The answers over the snapshot of levels and of the newest documents.
use Rattle.std.proofs.Common.{◌≡◌, ◌≢◌, ⊎_elim, ℕ, Bool, true, false, not, cond, ◌&&◌, ◌||◌, List, [], ◌∷◌, ◌++◌, map, length, get_or, refl, sym, subst, ap, ◌∙◌, arith}
use Rattle.std.specs.Prelude.{◌↔◌, All, AllPairs, Contains, IsTrue, flat_map, nat_eq}
use Rattle.std.specs.List.{list_any}
use Rattle.std.proofs.lemmas.Bool.{cases_Bool, true≢false}
use Rattle.std.proofs.lemmas.List.{get_or-map, length-map, map-append}
use Rattle.std.proofs.lemmas.List.Elements.{filter-append}
use Rattle.alta_compile.specs.Space.{Placed}
use Rattle.alta_compile.specs.Space as space
use Rattle.alta_machine.specs.PlanOf.{plan_of}
use Rattle.alta_compile.specs.Listing.{plan_list}
use Rattle.alta_content.specs.Rows.{end_of, ends_among}
use Rattle.alta_content.specs.TermList.{TermList}
use Rattle.alta_content.specs.declared.document.DocRow.{DocRow}
use Rattle.alta_content.proofs.Order.{iff_same}
use Rattle.alta_meaning.specs.Levels.{Level, document_of, documents_of, live_rows}
use Rattle.alta_meaning.specs.Ordered.{RowsPrecede}
use Rattle.alta_meaning.specs.Standing.{tables_by}
use Rattle.alta_loading.specs.Snapshots.{all_rows, loaded_view}
use Rattle.alta_loading.proofs.LevelRanks.{all_short, answers_are, cells_found, is_left, numbers_differ}
use Rattle.alta_loading.proofs.LevelEnds.{whole_space}
use Rattle.alta_loading.proofs.LevelSpaces.{IsWritten, all_space, lists_are, of_levels, rows_added, rows_are, space_each}
use Rattle.alta_loading.proofs.ReadOff.{added_in, among_contains, contains_among, read_off}
use Rattle.alta_memlevel.specs.Added.{Added, IsInSpace, IsSpace, live_of}
use Rattle.alta_memlevel.specs.Added as mem
use Rattle.alta_memlevel.specs.Documents.{HasDocuments, document_in}
use Rattle.alta_machine.specs.declared.document.Document.{Document}
use Rattle.alta_machine.specs.Deciding.{answers, is_match}
use Rattle.alta_machine.specs.Matches.{Matches}
use Rattle.alta_machine.specs.Shape.{Shape}
use Rattle.alta_machine.specs.declared.test.Test.{Test}
use Rattle.alta_search.specs.Answers.{answers_in, is_answer}
use Rattle.alta_search.specs.Documents.{AreToCome}
use Rattle.alta_machine.specs.Searching.{told}
use Rattle.alta_search.specs.Readers.{Each}
use Rattle.alta_search.specs.Told.{answer_of}
use Rattle.alta_search.specs.Tops.{AreToRank, number_of, document_of as document_of_row}
use Rattle.alta_search.specs.View.{IsRowOf, Shows, View}
use Rattle.alta_search.proofs.NewestAnswers.{AnswersMatch, MatchesAreDecided, answers-all}
use Rattle.alta_search.proofs.NewestLists.{placed_of, space_of}

-- ---- the documents that are left

abbrev chosen : Bool → DocRow → List DocRow → List DocRow
chosen b row rows = cond b (row ∷ rows) rows

live_read_off : (gone : List ℕ) (lists : List TermList) (rows : List DocRow) → map document_in (live_of gone (map (read_off lists) rows)) ≡ map (document_of lists) (live_rows gone rows)
live_read_off gone lists [] = refl
live_read_off gone lists (row ∷ rows) =
    let more = live_of gone (map (read_off lists) rows) in let others = live_rows gone rows in
    let rest = live_read_off gone lists rows in
    ⊎_elim
    (λ y. ap (λ b. map document_in (cond b (read_off lists row ∷ more) more)) y ∙ ap (λ ds. document_of lists row ∷ ds) rest ∙ sym (ap (λ b. map (document_of lists) (chosen b row others)) y))
    (λ n. ap (λ b. map document_in (cond b (read_off lists row ∷ more) more)) n ∙ rest ∙ sym (ap (λ b. map (document_of lists) (chosen b row others)) n))
    (cases_Bool (not (ends_among gone row)))

pub live_append : (gone : List ℕ) (a b : List Added) → map document_in (live_of gone (a ++ b)) ≡ map document_in (live_of gone a) ++ map document_in (live_of gone b)
live_append gone a b =
    ap (map document_in) (filter-append (λ (x : Added). not (ends_among gone x.row)) a b) ∙ map-append document_in (live_of gone a) (live_of gone b)

pub live_levels : (gone : List ℕ) (levels : List Level) → map document_in (live_of gone (of_levels levels)) ≡ flat_map (documents_of gone) levels
live_levels gone [] = refl
live_levels gone (l ∷ ls) =
    live_append gone (added_in l.content) (of_levels ls)
    ∙ ap (λ ds. ds ++ map document_in (live_of gone (of_levels ls))) (live_read_off gone l.content.lists l.content.documents)
    ∙ ap (λ ds. documents_of gone l ++ ds) (live_levels gone ls)

-- ---- which documents are answers

turned : (x y : ℕ) → nat_eq x y ≡ nat_eq y x
turned x y = grind arith

gone_among : (gone : List ℕ) (row : DocRow) → (ends_among gone row ≡ true) ↔ Contains gone (end_of row)
gone_among gone row = (λ h. among_contains (end_of row) gone (sym (same gone) ∙ h), λ m. same gone ∙ contains_among (end_of row) gone m)
  where
    same : (ends : List ℕ) → ends_among ends row ≡ list_any (nat_eq (end_of row)) ends
    same [] = refl
    same (e ∷ es) = ap (λ b. b || ends_among es row) (turned e (end_of row)) ∙ ap (λ b. nat_eq (end_of row) e || b) (same es)

left_is : (gone : List ℕ) (q : Shape) (a : Added) → (is_match a.cells q ≡ true) ↔ Matches a.cells q → (b : Bool)
    → IsTrue b ↔ (Matches a.cells q × (Contains gone (end_of a.row) → ⊥)) → b ≡ is_left gone q a
left_is gone q a decided b is =
    let ends = gone_among gone a.row in
    iff_same b (is_left gone q a)
    (λ h. let (m, n) = is.0 h in
    let free : ends_among gone a.row ≡ false = ⊎_elim (λ yes. absurd (n (ends.0 yes))) (λ no. no) (cases_Bool (ends_among gone a.row)) in
    ap (λ e. not e && is_match a.cells q) free ∙ decided.1 m)
    (λ h. ⊎_elim
    (λ yes. absurd (true≢false (sym h ∙ ap (λ e. not e && is_match a.cells q) yes)))
    (λ no. is.1 (decided.0 (sym (ap (λ e. not e && is_match a.cells q) no) ∙ h), λ m. absurd (true≢false (sym (ends.1 m) ∙ no))))
    (cases_Bool (ends_among gone a.row)))

rows_each : (added : List Added) → IsSpace added → Each IsRowOf (rows_added added) (space_of added)
rows_each [] s = tt
rows_each (a ∷ more) (d, numbers, behind, rest) = ((refl, d.counted), rows_each more rest)

-- ---- the law

module _ (answers_match : AnswersMatch) (decided : MatchesAreDecided) (levels : List Level) (image gone : List ℕ) (documents : List Document) (newest : mem.LevelView) (tests : List Test) (q : Shape)
    (s : All (IsWritten image) levels) (h : HasDocuments gone documents newest) (rise : RowsPrecede (all_rows (map tables_by levels) newest.content)) where
  abbrev all : List Added
  all = of_levels levels ++ h.added

  abbrev view : View
  view = loaded_view (map tables_by levels) newest.content image tests gone

  abbrev list : List ℕ
  list = plan_list (space_of all) (plan_of q)

  spaced : IsSpace all
  spaced = all_space levels image h.added newest.content s h.content rise

  rows_same : rows_added all ≡ view.rows
  rows_same = rows_are levels image h.added newest.content s h.content rise

  shows : Shows (space_of all) view
  shows = record {
    lawful = whole_space levels image h.added s h.content.space h.made spaced;
    lists = lists_are levels image h.added newest.content s h.content rise tests;
    rows = subst (λ (rows : List DocRow). Each IsRowOf rows (space_of all)) rows_same (rows_each all spaced);
  }

  each_left : All (λ (a : Added). is_answer list gone 0 a.row ≡ is_left gone q a) all
  each_left k d l =
      let a = get_or all k d in
      let row : get_or view.rows k d.row ≡ a.row = ap (λ (rs : List DocRow). get_or rs k d.row) (sym rows_same) ∙ get_or-map (λ (b : Added). b.row) all k d d.row l in
      let document : get_or (space_of all) k (placed_of d) ≡ placed_of a = get_or-map placed_of all k d (placed_of d) l in
      let counted : a.row.cells ≡ length a.cells = (space_each all spaced k d l).counted in
      let ends : space.end_of (placed_of a) ≡ end_of a.row = omega (arith, counted) in
      let is = answers_match (space_of all) view q k d.row (placed_of d) shows (omega (arith, l, length-map all placed_of)) in
      left_is gone q a (decided a.cells q) (is_answer list gone 0 a.row)
      (subst (λ (e : ℕ). IsTrue (is_answer list gone 0 a.row) ↔ (Matches a.cells q × (Contains gone e → ⊥))) ends
      (subst (λ (r : DocRow). IsTrue (is_answer list gone 0 r) ↔ (Matches a.cells q × (Contains gone (space.end_of (placed_of a)) → ⊥))) row
      (subst (λ (y : Placed). IsTrue (is_answer list gone 0 (get_or view.rows k d.row)) ↔ (Matches y.cells q × (Contains gone (space.end_of y) → ⊥))) document is)))

  live_all : map document_in (live_of gone all) ≡ flat_map (documents_of gone) levels ++ documents
  live_all =
      live_append gone (of_levels levels) h.added
      ∙ ap (λ ds. ds ++ map document_in (live_of gone h.added)) (live_levels gone levels)
      ∙ ap (λ ds. flat_map (documents_of gone) levels ++ ds) h.live

  pub levels_answer : AreToCome (plan_of q) (loaded_view (map tables_by levels) newest.content image tests gone) 0 (answers (flat_map (documents_of gone) levels ++ documents) q)
  levels_answer = record {
    space = space_of all;
    shows = shows;
    answers = ap (λ (rs : List DocRow). map answer_of (answers_in list gone 0 rs)) (sym rows_same) ∙ answers-all (is_answer list gone 0) gone q all each_left ∙ ap (λ ds. map told (answers ds q)) live_all;
  }

  each_read : All (λ (a : Added). document_of_row (space_of all) a.row ≡ document_in a) all
  each_read k d l = ap (λ cells. record { number = (get_or all k d).row.number; name = (get_or all k d).row.name; cells = cells }) (cells_found all spaced k d l)

  pub levels_rank : AreToRank (plan_of q) (loaded_view (map tables_by levels) newest.content image tests gone) (answers (flat_map (documents_of gone) levels ++ documents) q)
  levels_rank = record {
    space = space_of all;
    shows = shows;
    short = all_short levels image h.added s h.made;
    answers = ap (λ (rs : List DocRow). map (document_of_row (space_of all)) (answers_in list gone 0 rs)) (sym rows_same)
        ∙ answers_are (is_answer list gone 0) gone q (document_of_row (space_of all)) all each_left each_read ∙ ap (λ ds. answers ds q) live_all;
    numbered = subst (λ (ds : List Document). AllPairs ◌≢◌ (map number_of (answers ds q))) live_all (numbers_differ gone q all spaced);
  }
