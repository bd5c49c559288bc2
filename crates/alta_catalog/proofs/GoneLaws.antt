-- What is gone of a catalog that follows an opened image.
use Rattle.std.proofs.Common.{◌≡◌, ⊎_elim, ℕ, ◌<◌, ◌≤◌, Bool, true, false, not, nat_lt, List, [], ◌∷◌, ◌++◌, map, refl, sym, ◌∙◌, ap, subst, arith, Ok}
use Rattle.std.specs.Prelude.{◌&&◌, ◌||◌, Contains}
use Rattle.std.specs.List.{All, filter, list_all}
use Rattle.std.proofs.lemmas.List.{map-append}
use Rattle.std.proofs.lemmas.List.Elements.{All-append, All-contains, All-filter, All-head, All-map, All-nil, All-cons}
use Rattle.alta_layout.specs.Places.{half_start}
use Rattle.alta_codec.specs.Rising.{IsRising}
use Rattle.alta_codec.specs.declared.extent.Extent.{Extent}
use Rattle.alta_content.specs.Rows.{end_of, ends_among, live_rows}
use Rattle.alta_content.specs.declared.document.DocRow.{DocRow}
use Rattle.alta_content.proofs.Outside.{filter_alike, filter_all}
use Rattle.alta_content.proofs.Rises.{Contains-head, Contains-tail, above_from_rising, filter-has, filter-keeps, filter-rises}
use Rattle.alta_meaning.specs.Entries.{AllowsAll}
use Rattle.alta_meaning.specs.Levels.{Level}
use Rattle.alta_meaning.specs.Opened.{IsOpened, Opened, are_in_order, comes_behind, is_below, levels_from, table_rows, with_level}
use Rattle.alta_meaning.specs.Known.{Known, replayed}
use Rattle.alta_meaning.specs.Ordered.{AreBelow, Precedes, RowsPrecede}
use Rattle.alta_meaning.specs.Standing.{view_of}
use Rattle.alta_meaning.specs.Views.{View}
use Rattle.alta_meaning.specs.Work.{added_from, gone, gone_among, is_gone, newest, level_rows}
use Rattle.alta_meaning.proofs.CellLaws.{doc_of}
use Rattle.alta_meaning.proofs.KeptStates.{added_behind, after_documents, left_out, map_filter, stay}
use Rattle.alta_meaning.proofs.KnownLaws.{all_both, all_weaker, allows_replayed}
use Rattle.alta_meaning.proofs.OrderLaws.{all_from, first_of_levels, is_more, rows_more}
use Rattle.alta_meaning.proofs.Steps.{one_value}
use Rattle.alta_meaning.proofs.Tests.{by_test, filter_drop, filter_keep, and_left, and_right, below_from}
use Rattle.alta_journal.specs.Placed.{placed}
use Rattle.alta_journal.specs.declared.entry.Entry.{Entry}
use Rattle.alta_memlevel.specs.Added.{Added, IsInSpace, live_of}
use Rattle.alta_memlevel.specs.Documents.{document_in}
use Rattle.alta_machine.specs.declared.document.Document.{Document}
use Rattle.alta_machine.specs.declared.document.State.{State}
use Rattle.alta_root.specs.declared.root.Root.{Root}
use Rattle.alta_table.specs.Tables.{Tables}
use Rattle.alta_catalog.specs.Knowing.{Follows, Knows, KnowsBy, gone_of, levels_of, newest_of}
use Rattle.alta_catalog.specs.Replacing.{ends_in}
use Rattle.alta_catalog.specs.Rows.{MayBe, documents_left}
use Rattle.alta_catalog.specs.declared.catalog.Catalog.{Catalog}
use Rattle.alta_catalog.proofs.EndLaws.{among, here_or_there, is_among, member, no_member, not_among, space_all}
use Rattle.alta_catalog.proofs.KnowingLaws.{row_among, rows_of_all}
use Rattle.alta_catalog.proofs.KnownLaws.{start_known}
use Rattle.alta_catalog.proofs.RisingLaws.{one_from}
use Rattle.alta_catalog.proofs.SharingLaws.{space_ends, space_precedes}
use Rattle.alta_catalog.proofs.SpaceLaws.{left_alive, left_append, left_dead}
use Rattle.alta_catalog.proofs.StartLaws.{all_rows, ends_there, row_of}

-- ---- rising lists

-- ends of rows that rise are those that are left of all ends
ends_are : (ends : List ℕ) (rows : List DocRow) → IsRising ends → IsRising (map end_of rows) → ((end : ℕ) → Contains ends end → Contains (map end_of rows) end) → ends ≡ map end_of (filter (ends_among ends) rows)
ends_are ends rows rising rise inside =
    one_from 0 ends (filter (is_among ends) (map end_of rows)) (above_from_rising ends rising) (above_from_rising (filter (is_among ends) (map end_of rows)) (filter-rises (is_among ends) (map end_of rows) rise))
    (λ z has. filter-keeps (is_among ends) (map end_of rows) z (inside z has) (among ends z has))
    (λ z has. member ends z (filter-has (is_among ends) (map end_of rows) z has).1)
    ∙ sym (map_filter end_of (is_among ends) rows)

-- ---- rows by their numbers

abbrev numbers_in : List DocRow → List ℕ
numbers_in rows = map (λ (row : DocRow). row.number) rows

abbrev numbers_of : List Document → List ℕ
numbers_of ds = map (λ (d : Document). d.number) ds

not_first : (n : ℕ) (rest : List ℕ) (rows : List DocRow) → All (λ (row : DocRow). n < row.number) rows → n ∷ rest ≡ numbers_in rows → ⊥
not_first n rest [] all e = absurd cc
not_first n rest (row ∷ rows) all e =
    let same : n ≡ row.number = cc in
    absurd (omega (arith, same, All-head (λ (r : DocRow). n < r.number) row rows all))

-- of rows with rising numbers those are left that pass
same_tests : (p q : DocRow → Bool) (rows : List DocRow) → RowsPrecede rows → numbers_in (filter p rows) ≡ numbers_in (filter q rows) → All (λ (row : DocRow). p row ≡ q row) rows
same_tests p q [] rise e = All-nil (λ (row : DocRow). p row ≡ q row)
same_tests p q (row ∷ rows) rise e =
    let above : All (λ (r : DocRow). row.number < r.number) rows = all_weaker (Precedes row) (λ (r : DocRow). row.number < r.number) rows (λ r precedes. precedes.0) rise.0 in
    let here : p row ≡ q row → numbers_in (filter p rows) ≡ numbers_in (filter q rows) → All (λ (r : DocRow). p r ≡ q r) (row ∷ rows) =
    λ same rest. All-cons (λ (r : DocRow). p r ≡ q r) row rows same (same_tests p q rows rise.1 rest) in
    by_test (p row)
    (λ first. by_test (q row)
    (λ second. here (first ∙ sym second) (tails row.number (numbers_in (filter p rows)) (numbers_in (filter q rows)) (sym (ap numbers_in (filter_keep p row rows first)) ∙ e ∙ ap numbers_in (filter_keep q row rows second))))
    (λ fails. absurd (not_first row.number (numbers_in (filter p rows)) (filter q rows) (All-filter q (λ (r : DocRow). row.number < r.number) rows above)
    (sym (ap numbers_in (filter_keep p row rows first)) ∙ e ∙ ap numbers_in (filter_drop q row rows fails)))))
    (λ fails. by_test (q row)
    (λ second. absurd (not_first row.number (numbers_in (filter q rows)) (filter p rows) (All-filter p (λ (r : DocRow). row.number < r.number) rows above)
    (sym (ap numbers_in (filter_keep q row rows second)) ∙ sym e ∙ ap numbers_in (filter_drop p row rows fails))))
    (λ other. here (fails ∙ sym other) (sym (ap numbers_in (filter_drop p row rows fails)) ∙ e ∙ ap numbers_in (filter_drop q row rows other))))
  where
    tails : (n : ℕ) (xs ys : List ℕ) → n ∷ xs ≡ n ∷ ys → xs ≡ ys
    tails n xs ys e = cc

-- the numbers of documents are those of their rows
numbers_same : (xs : List Added) → numbers_of (map document_in xs) ≡ numbers_in (map row_of xs)
numbers_same [] = refl
numbers_same (a ∷ xs) = ap (λ (ns : List ℕ). a.row.number ∷ ns) (numbers_same xs)

numbers_left : (ends : List ℕ) (xs : List Added) → numbers_of (documents_left ends xs) ≡ numbers_in (live_rows ends (map row_of xs))
numbers_left ends xs = numbers_same (live_of ends xs) ∙ ap numbers_in (map_filter row_of (λ (row : DocRow). not (ends_among ends row)) xs)

-- a row whose end is not deleted, and which no entry leaves out
abbrev is_live : List ℕ → List Entry → DocRow → Bool
is_live deleted entries row = not (ends_among deleted row || left_out entries row.number)

numbers_stay : (deleted : List ℕ) (entries : List Entry) (xs : List Added) → numbers_of (filter (stay entries) (documents_left deleted xs)) ≡ numbers_in (filter (is_live deleted entries) (map row_of xs))
numbers_stay deleted entries [] = refl
numbers_stay deleted entries (a ∷ xs) =
    let rest = numbers_stay deleted entries xs in
    let test : Bool → Bool = λ b. not (b || left_out entries a.row.number) in
    by_test (ends_among deleted a.row)
    (λ dead. ap (λ (ds : List Document). numbers_of (filter (stay entries) ds)) (left_dead deleted a xs dead) ∙ rest
    ∙ sym (ap numbers_in (filter_drop (is_live deleted entries) a.row (map row_of xs) (ap test dead))))
    (λ alive. ap (λ (ds : List Document). numbers_of (filter (stay entries) ds)) (left_alive deleted a xs alive)
    ∙ by_test (left_out entries a.row.number)
    (λ out. ap numbers_of (filter_drop (stay entries) (document_in a) (documents_left deleted xs) (ap not out)) ∙ rest
    ∙ sym (ap numbers_in (filter_drop (is_live deleted entries) a.row (map row_of xs) (ap test alive ∙ ap not out))))
    (λ stays. ap numbers_of (filter_keep (stay entries) (document_in a) (documents_left deleted xs) (ap not stays)) ∙ ap (λ (ns : List ℕ). a.row.number ∷ ns) rest
    ∙ sym (ap numbers_in (filter_keep (is_live deleted entries) a.row (map row_of xs) (ap test alive ∙ ap not stays)))))

not_one : (a b : Bool) → not a ≡ not b → a ≡ b
not_one true true e = refl
not_one true false e = absurd cc
not_one false true e = absurd cc
not_one false false e = refl

-- ---- the levels of an opened image

abbrev Below : Root → DocRow → Type 0
Below root row = (row.number < root.next_number) × (end_of row < root.next_location)

level_below : (root : Root) (levels : List Tables) (rows : List DocRow) → are_in_order root levels rows ≡ true → AreBelow root rows
level_below root levels rows ordered =
    all_weaker (λ (row : DocRow). (is_below root row && list_all (λ (earlier : DocRow). comes_behind earlier row) (table_rows levels)) ≡ true) (Below root) rows
    (λ row e.
    let below : is_below root row ≡ true = and_left (is_below root row) (list_all (λ (earlier : DocRow). comes_behind earlier row) (table_rows levels)) e in (
      below_from row.number root.next_number (and_left (nat_lt row.number root.next_number) (nat_lt (end_of row) root.next_location) below),
      below_from (end_of row) root.next_location (and_right (nat_lt row.number root.next_number) (nat_lt (end_of row) root.next_location) below),
    ))
    (all_from (λ (row : DocRow). is_below root row && list_all (λ (earlier : DocRow). comes_behind earlier row) (table_rows levels)) rows ordered)

levels_below : (root : Root) (deleted : List ℕ) (levels : List Tables) (extents : List Extent) (image : List ℕ) (final : List Tables) → levels_from root deleted levels extents image ≡ Ok final
    → AreBelow root (table_rows levels) → AreBelow root (table_rows final)
levels_below root deleted levels [] image final e so_far = subst (λ (ls : List Tables). AreBelow root (table_rows ls)) (one_value {E = ℕ} (Ok levels) levels final refl e) so_far
levels_below root deleted levels (extent ∷ more) image final e so_far =
    let first = first_of_levels root deleted levels extent more image final (with_level root deleted levels extent image) refl e in
    let step = is_more root deleted levels first.longer extent image first.here in
    levels_below root deleted first.longer more image final first.rest
    (subst (λ (ls : List Tables). AreBelow root (table_rows ls)) (sym step.longer_is)
    (subst (AreBelow root) (sym (rows_more levels step.level)) (All-append (Below root) (table_rows levels) step.level.documents so_far (level_below root levels step.level.documents step.ordered))))

pub rows_below : (o : Opened) (image : List ℕ) → IsOpened o image → AreBelow o.root (table_rows o.levels)
rows_below o image is = levels_below o.root o.deleted [] o.root.levels.items image o.levels is.named.tables (All-nil (Below o.root))

pub ends_before : (o : Opened) (image : List ℕ) → IsOpened o image → All (λ (row : DocRow). end_of row < o.root.next_location) (table_rows o.levels)
ends_before o image is = all_weaker (Below o.root) (λ (row : DocRow). end_of row < o.root.next_location) (table_rows o.levels) (λ row both. both.1) (rows_below o image is)

-- ---- the newest documents

pub newest_behind : (c : Catalog) (root : Root) (entries : List Entry) → Follows c root entries → All (λ (row : DocRow). root.next_location ≤ row.first) c.memory.content.documents
newest_behind c root entries f =
    subst (All (λ (row : DocRow). root.next_location ≤ row.first)) (sym f.content.documents)
    (All-map (λ (row : DocRow). root.next_location ≤ row.first) row_of (newest_of root entries) (added_behind root.next_number root.next_location entries))

-- ---- a catalog

module _ (c : Catalog) (s : State) (o : Opened) (image : List ℕ) (levels : List Level) (is : IsOpened o image) (may : MayBe s o) (knows : KnowsBy c may.starts.olds s) (f : Follows c o.root o.entries)
    (tables : levels_of c ≡ o.levels) (rows : level_rows levels ≡ table_rows o.levels) where
  abbrev k : Knows c s
  k = knows.0

  abbrev view : View
  view = view_of o levels

  abbrev news : List Added
  news = newest view

  abbrev all : List DocRow
  all = table_rows o.levels ++ map row_of news

  all_are : map row_of (k.olds ++ k.added) ≡ all
  all_are =
      rows_of_all c s k ∙ ap (λ (ls : List Tables). table_rows ls ++ c.memory.content.documents) tables ∙ ap (λ (rs : List DocRow). table_rows o.levels ++ rs) f.content.documents

  below : AreBelow o.root (table_rows o.levels)
  below = rows_below o image is

  olds_below : All (λ (a : Added). Below o.root a.row) may.starts.olds
  olds_below = all_rows (Below o.root) may.starts.olds (subst (AreBelow o.root) (sym may.starts.rows.rows_are) below)

  -- no newest document is deleted by the list
  deleted_before : (end : ℕ) → Contains o.deleted end → end < o.root.next_location
  deleted_before end has =
      let (a, inside, end_is) = ends_there o.levels may.starts.olds may.starts.rows.rows_are o.deleted is.named.ends end has in
      omega (arith, end_is, (All-contains (λ (x : Added). Below o.root x.row) may.starts.olds a olds_below inside).1)

  news_far : All (λ (a : Added). o.root.next_location ≤ end_of a.row) news
  news_far =
      all_weaker (λ (a : Added). (o.root.next_location ≤ a.row.first) × IsInSpace a) (λ (a : Added). o.root.next_location ≤ end_of a.row) news (λ a both. omega (arith, both.0, both.1.some))
      (all_both (λ (a : Added). o.root.next_location ≤ a.row.first) IsInSpace news (added_behind o.root.next_number o.root.next_location o.entries) (space_all news f.content.space))

  news_live : live_of o.deleted news ≡ news
  news_live =
      filter_alike (λ (a : Added). not (ends_among o.deleted a.row)) (λ (a : Added). true) news
      (all_weaker (λ (a : Added). o.root.next_location ≤ end_of a.row) (λ (a : Added). not (ends_among o.deleted a.row) ≡ true) news
      (λ a lies. ap not (not_among o.deleted (end_of a.row) (λ has. absurd (omega (arith, lies, deleted_before (end_of a.row) has))))) news_far)
      ∙ filter_all news

  -- what the entries leave
  start_below : All (λ (d : Document). d.number < may.start.next) may.start.documents
  start_below =
      subst (λ (t : State). All (λ (d : Document). d.number < t.next) t.documents) (sym may.starts.state_is)
      (All-map (λ (d : Document). d.number < o.root.next_number) document_in (live_of o.deleted may.starts.olds)
      (All-filter (λ (a : Added). not (ends_among o.deleted a.row)) (λ (a : Added). a.row.number < o.root.next_number) may.starts.olds
      (all_weaker (λ (a : Added). Below o.root a.row) (λ (a : Added). a.row.number < o.root.next_number) may.starts.olds (λ a both. both.0) olds_below)))

  allowed : AllowsAll may.start o.entries
  allowed =
      (allows_replayed may.start (half_start o.slot) o.entries is.named.known
      (ap (λ (known : Known). replayed known (placed (half_start o.slot) o.entries)) (start_known may.start o.root o.deleted o.levels may.starts) ∙ is.named.admitted)).0

  abbrev started : List Added
  started = may.starts.olds ++ news

  started_left : may.start.documents ++ map doc_of (added_from may.start.next o.root.next_location o.entries) ≡ documents_left o.deleted started
  started_left =
      ap (λ (t : State). t.documents ++ map doc_of (added_from t.next o.root.next_location o.entries)) may.starts.state_is
      ∙ sym (left_append o.deleted may.starts.olds news ∙ ap (λ (xs : List Added). documents_left o.deleted may.starts.olds ++ map document_in xs) news_live)

  started_rows : map row_of started ≡ all
  started_rows = map-append row_of may.starts.olds news ∙ ap (λ (rs : List DocRow). rs ++ map row_of news) may.starts.rows.rows_are

  left_is : s.documents ≡ filter (stay o.entries) (documents_left o.deleted started)
  left_is = ap (λ (t : State). t.documents) may.state_is ∙ after_documents may.start o.entries o.root.next_location start_below allowed ∙ ap (filter (stay o.entries)) started_left

  numbers_are : numbers_in (filter (λ (row : DocRow). not (ends_among c.gone row)) all) ≡ numbers_in (filter (λ (row : DocRow). not (is_gone view row)) all)
  numbers_are =
      ap (λ (rs : List DocRow). numbers_in (live_rows c.gone rs)) (sym all_are) ∙ sym (numbers_left c.gone (k.olds ++ k.added)) ∙ ap numbers_of (k.notes.documents ∙ left_is)
      ∙ numbers_stay o.deleted o.entries started ∙ ap (λ (rs : List DocRow). numbers_in (filter (is_live o.deleted o.entries) rs)) started_rows

  -- a row is gone where its end is
  tests : All (λ (row : DocRow). ends_among c.gone row ≡ is_gone view row) all
  tests =
      all_weaker (λ (row : DocRow). not (ends_among c.gone row) ≡ not (is_gone view row)) (λ (row : DocRow). ends_among c.gone row ≡ is_gone view row) all (λ row e. not_one (ends_among c.gone row) (is_gone view row) e)
      (same_tests (λ (row : DocRow). not (ends_among c.gone row)) (λ (row : DocRow). not (is_gone view row)) all (subst RowsPrecede all_are (space_precedes (k.olds ++ k.added) k.space)) numbers_are)

  gone_rows : c.gone ≡ gone_among view all
  gone_rows =
      ends_are c.gone all k.rising (subst (λ (rs : List DocRow). IsRising (map end_of rs)) all_are (space_ends (k.olds ++ k.added) k.space))
      (λ end has.
      let (a, inside, end_is) = k.ends end has in
      subst (λ (e : ℕ). Contains (map end_of all) e) end_is (end_among all a.row (subst (λ (rs : List DocRow). Contains rs a.row) all_are (row_among (k.olds ++ k.added) a inside))))
      ∙ ap (map end_of) (filter_alike (ends_among c.gone) (is_gone view) all tests)
    where
      end_among : (rs : List DocRow) (row : DocRow) → Contains rs row → Contains (map end_of rs) (end_of row)
      end_among [] row has = absurd (no_member row has)
      end_among (r ∷ rs) row has = ⊎_elim (λ (same : r ≡ row). subst (λ (x : DocRow). Contains (map end_of (r ∷ rs)) (end_of x)) same (Contains-head (end_of r) (map end_of rs)))
          (λ more. Contains-tail (end_of r) (map end_of rs) (end_of row) (end_among rs row more)) (here_or_there r rs row has)

  pub gone_is : gone_of c ≡ gone view
  gone_is = gone_rows ∙ ap (λ (rs : List DocRow). gone_among view (rs ++ map row_of news)) (sym rows)

  -- and so are they among any of the rows
  pub among_is : (some : List DocRow) → All (Contains (level_rows levels ++ map row_of news)) some → ends_in (gone_of c) some ≡ gone_among view some
  among_is some among =
      ap (map end_of)
      (filter_alike (ends_among c.gone) (is_gone view) some
      (all_weaker (Contains all) (λ (row : DocRow). ends_among c.gone row ≡ is_gone view row) some
      (λ row has. All-contains (λ (r : DocRow). ends_among c.gone r ≡ is_gone view r) all row tests has)
      (subst (λ (rs : List DocRow). All (Contains (rs ++ map row_of news)) some) rows among)))
