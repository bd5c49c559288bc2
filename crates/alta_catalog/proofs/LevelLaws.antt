-- What a catalog knows once other levels stand in place of its own.
use Rattle.std.proofs.Common.{◌≡◌, ⊎_elim, ℕ, ◌≤◌, Bool, true, false, not, IsTrue, Global, List, [], ◌∷◌, ◌++◌, drop, length, get_or, map, refl, sym, ◌∙◌, ap, ap₂, subst, arith}
use Rattle.std.specs.Prelude.{Contains, Option, Vec}
use Rattle.std.specs.List.{All, filter, sum_by}
use Rattle.std.proofs.lemmas.Bool.{false≢true}
use Rattle.std.proofs.lemmas.Grind.{flat_map-append}
use Rattle.std.proofs.lemmas.List.Elements.{All-filter, All-head, All-tail, Contains-get_or}
use Rattle.alta_codec.specs.Rising.{IsRising}
use Rattle.alta_content.specs.Rows.{IsPlaced, RowsRise, end_of, ends_among, live_rows}
use Rattle.alta_content.specs.declared.document.DocRow.{DocRow}
use Rattle.alta_content.proofs.Outside.{filter_alike}
use Rattle.alta_content.proofs.Rises.{filter-rises}
use Rattle.alta_meaning.specs.Known.{named, named_of}
use Rattle.alta_meaning.specs.Opened.{live_in, table_rows}
use Rattle.alta_meaning.specs.Ordered.{RowsPrecede}
use Rattle.alta_machine.specs.Changes.{word_count}
use Rattle.alta_meaning.proofs.KeptStates.{map_filter}
use Rattle.alta_meaning.proofs.KnownLaws.{all_weaker}
use Rattle.alta_meaning.proofs.Tests.{by_test, filter_drop, filter_keep}
use Rattle.alta_memlevel.specs.Added.{Added, HasContent, IsInSpace, IsSpace, LevelView}
use Rattle.alta_memlevel.specs.Documents.{IsBefore, document_in}
use Rattle.alta_machine.specs.declared.document.Document.{Document}
use Rattle.alta_machine.specs.declared.document.State.{State}
use Rattle.alta_table.specs.Tables.{Tables}
use Rattle.alta_catalog.specs.Counting.{row_words}
use Rattle.alta_catalog.specs.Knowing.{IsEndIn, Knows, KnowsBy, Notes}
use Rattle.alta_names.specs.declared.table.NameTable.{NameTable}
use Rattle.alta_catalog.specs.Replacing.{IsEmptied, IsLeft, IsPrepared, MayReplace, ends_in, level_in, rows_between, tables_between}
use Rattle.alta_catalog.specs.Rows.{AreRowsOf, documents_left}
use Rattle.alta_catalog.specs.declared.catalog.Catalog.{Catalog}
use Rattle.alta_catalog.specs.declared.replacing.PreparedLevels.{PreparedLevels}
use Rattle.alta_catalog.proofs.ComingLaws.{ranges_rise}
use Rattle.alta_catalog.proofs.EndLaws.{among, here_or_there, is_among, no_member, not_among, space_all, there}
use Rattle.alta_catalog.proofs.KnowingLaws.{document_among, rows_of_all}
use Rattle.alta_catalog.proofs.PartLaws.{notes_same}
use Rattle.alta_catalog.proofs.SettledLaws.{AreSettled, settled_knows, settled_part, settled_space, space_settled}
use Rattle.alta_catalog.proofs.SharingLaws.{space_ends}
use Rattle.alta_catalog.proofs.StartLaws.{IsCounted, all_rows, live_long, live_named, live_words, row_of}

-- ---- levels in place of others

rows_more : (xs ys : List Tables) → table_rows (xs ++ ys) ≡ table_rows xs ++ table_rows ys
rows_more xs ys = flat_map-append (λ (t : Tables). t.documents) xs ys

-- the rows of levels between two others
pub between : (oldest : Option Tables) (n : ℕ) (levels : List Tables) (newest : Option Tables)
    → table_rows (tables_between oldest n levels newest) ≡ rows_between (table_rows (level_in oldest)) n levels (table_rows (level_in newest))
between oldest n levels newest =
    rows_more (level_in oldest) (drop n levels ++ level_in newest) ∙ ap (λ (rs : List DocRow). table_rows (level_in oldest) ++ rs) (rows_more (drop n levels) (level_in newest))

-- A catalog that goes on over levels from an index on between two others, and without newest documents.
pub record IsPut (before : Catalog) (oldest : Option Tables) (n : ℕ) (newest : Option Tables) (new : Catalog) : Type 0 where
  pub levels : new.levels.items ≡ tables_between oldest n before.levels.items newest
  pub sound : IsTrue new.memory.sound
  pub content : HasContent [] new.memory.content
  pub gone : new.gone ≡ ends_in before.gone (table_rows (tables_between oldest n before.levels.items newest))
  pub first : new.first ≡ before.next
  pub next : new.next ≡ before.next
  pub location : new.location ≡ before.location
  pub count : new.count ≡ before.count
  pub words : new.words ≡ before.words
  pub names : new.names ≡ before.names

-- what stays of a catalog whose levels are others
pub record Stays (now new : Catalog) : Type 0 where
  pub memory : new.memory ≡ now.memory
  pub first : new.first ≡ now.next
  pub next : new.next ≡ now.next
  pub location : new.location ≡ now.location
  pub count : new.count ≡ now.count
  pub words : new.words ≡ now.words
  pub names : new.names ≡ now.names

-- what was put in place
pub record PutsIn (now : Catalog) (prepared : PreparedLevels) (oldest newest : Option Tables) (new : Catalog) : Type 0 where
  pub levels : new.levels.items ≡ level_in oldest ++ (now.levels.items ++ level_in newest)
  pub gone : new.gone ≡ prepared.deleted

pub put_is : (b emptied now new : Catalog) (s : State) (prepared : PreparedLevels) (oldest : Option Tables) (n : ℕ) (newest : Option Tables) → IsEmptied b emptied → Knows b s
    → IsLeft n emptied now → IsPrepared emptied (table_rows (level_in oldest)) n (table_rows (level_in newest)) prepared → PutsIn now prepared oldest newest new → Stays now new → IsPut b oldest n newest new
put_is b emptied now new s prepared oldest n newest was f left is puts stays =
    let levels : new.levels.items ≡ tables_between oldest n b.levels.items newest =
    puts.levels ∙ ap (λ (ls : List Tables). level_in oldest ++ (ls ++ level_in newest)) left.levels ∙ ap (λ (ls : Vec Tables Global). tables_between oldest n ls.items newest) was.levels in
    record {
      levels = levels;
      sound = subst (λ (m : LevelView). IsTrue m.sound) (sym (stays.memory ∙ left.memory)) was.sound;
      content = subst (λ (m : LevelView). HasContent [] m.content) (sym (stays.memory ∙ left.memory)) was.empty;
      gone =
          puts.gone ∙ is.deleted
          ∙ ap₂ (λ (es : List ℕ) (ls : Vec Tables Global). ends_in es (rows_between (table_rows (level_in oldest)) n ls.items (table_rows (level_in newest)))) was.gone was.levels
          ∙ ap (ends_in b.gone) (sym (between oldest n b.levels.items newest));
      first = stays.first ∙ left.next ∙ was.next;
      next = stays.next ∙ left.next ∙ was.next;
      location = stays.location ∙ left.location ∙ was.location;
      count = stays.count ∙ left.count ∙ was.count;
      words = stays.words ∙ left.words ∙ was.words;
      names = stays.names ∙ left.names ∙ was.names;
    }

-- ---- what is left

-- a test keeps what it kept, where another leaves out only what it does not keep
filter_within : {X : Type 0} (p q : X → Bool) (xs : List X) → All (λ x. q x ≡ false → p x ≡ false) xs → filter p (filter q xs) ≡ filter p xs
filter_within p q [] all = refl
filter_within {X} p q (x ∷ xs) all =
    let rest = filter_within p q xs (All-tail (λ x. q x ≡ false → p x ≡ false) x xs all) in
    by_test (q x)
    (λ keeps. ap (filter p) (filter_keep q x xs keeps)
    ∙ by_test (p x)
    (λ holds. filter_keep p x (filter q xs) holds ∙ ap (λ (ys : List X). x ∷ ys) rest ∙ sym (filter_keep p x xs holds))
    (λ fails. filter_drop p x (filter q xs) fails ∙ rest ∙ sym (filter_drop p x xs fails)))
    (λ drops. ap (filter p) (filter_drop q x xs drops) ∙ rest ∙ sym (filter_drop p x xs (All-head (λ x. q x ≡ false → p x ≡ false) x xs all drops)))

-- the row of an end
row_at : (rows : List DocRow) (end : ℕ) → Contains (map end_of rows) end → (row : DocRow) × Contains rows row × (end_of row ≡ end)
row_at [] end has = absurd (no_member end has)
row_at (r ∷ rows) end has =
    ⊎_elim (λ (same : end_of r ≡ end). (r, (0, omega arith, refl), same))
    (λ more. let (row, inside, is) = row_at rows end more in (row, there r rows row inside, is))
    (here_or_there (end_of r) (map end_of rows) end has)

end_among : (rows : List DocRow) (row : DocRow) → Contains rows row → Contains (map end_of rows) (end_of row)
end_among [] row has = absurd (no_member row has)
end_among (r ∷ rows) row has =
    ⊎_elim (λ (same : r ≡ row). (0, omega arith, ap end_of same))
    (λ more. there (end_of r) (map end_of rows) (end_of row) (end_among rows row more))
    (here_or_there r rows row has)

-- what passes a test
kept_one : (p : DocRow → Bool) (rows : List DocRow) (row : DocRow) → Contains rows row → p row ≡ true → Contains (filter p rows) row
kept_one p [] row has holds = absurd (no_member row has)
kept_one p (r ∷ rows) row has holds =
    by_test (p r)
    (λ keeps. subst (λ (rs : List DocRow). Contains rs row) (sym (filter_keep p r rows keeps))
    (⊎_elim (λ (same : r ≡ row). (0, omega arith, same)) (λ more. there r (filter p rows) row (kept_one p rows row more holds)) (here_or_there r rows row has)))
    (λ drops. subst (λ (rs : List DocRow). Contains rs row) (sym (filter_drop p r rows drops))
    (⊎_elim (λ (same : r ≡ row). absurd (false≢true (sym drops ∙ ap p same ∙ holds))) (λ more. kept_one p rows row more holds) (here_or_there r rows row has)))

one_kept : (p : DocRow → Bool) (rows : List DocRow) (row : DocRow) → Contains (filter p rows) row → Contains rows row × (p row ≡ true)
one_kept p [] row has = absurd (no_member row has)
one_kept p (r ∷ rows) row has =
    by_test (p r)
    (λ keeps. ⊎_elim
    (λ (same : r ≡ row). ((0, omega arith, same), ap p (sym same) ∙ keeps))
    (λ more. let rest = one_kept p rows row more in (there r rows row rest.0, rest.1))
    (here_or_there r (filter p rows) row (subst (λ (rs : List DocRow). Contains rs row) (filter_keep p r rows keeps) has)))
    (λ drops. let rest = one_kept p rows row (subst (λ (rs : List DocRow). Contains rs row) (filter_drop p r rows drops) has) in (there r rows row rest.0, rest.1))

-- the ends of rows that are gone tell of each row what all tell
ends_tell : (gone : List ℕ) (rows : List DocRow) → All (λ (row : DocRow). ends_among (ends_in gone rows) row ≡ ends_among gone row) rows
ends_tell gone rows = λ k d inside.
    let row = get_or rows k d in
    let has : Contains rows row = Contains-get_or rows k d inside in
    by_test (ends_among gone row)
    (λ is. among (ends_in gone rows) (end_of row) (end_among (filter (ends_among gone) rows) row (kept_one (ends_among gone) rows row has is)) ∙ sym is)
    (λ alive.
    not_among (ends_in gone rows) (end_of row) (λ there.
    let (other, inside_there, same) = row_at (filter (ends_among gone) rows) (end_of row) there in
    absurd (false≢true (sym alive ∙ ap (is_among gone) (sym same) ∙ (one_kept (ends_among gone) rows other inside_there).1)))
    ∙ sym alive)

-- some rows of levels and of newest documents, in order
pub kept_settled : (c : Catalog) (s : State) → Knows c s → (kept : DocRow → Bool) → AreSettled c.next c.location (filter kept (table_rows c.levels.items ++ c.memory.content.documents))
kept_settled c s f kept =
    settled_part c.next c.location kept [] (table_rows c.levels.items ++ c.memory.content.documents)
    (subst (AreSettled c.next c.location) (rows_of_all c s f) (space_settled c.next c.location (f.olds ++ f.added) f.space f.filled f.behind))

pub kept_rise : (c : Catalog) (s : State) (kept : DocRow → Bool) → Knows c s → RowsRise (filter kept (table_rows c.levels.items ++ c.memory.content.documents))
kept_rise c s kept f =
    let are = kept_settled c s f kept in
    ranges_rise (filter kept (table_rows c.levels.items ++ c.memory.content.documents)) are.rise are.placed

module _ (b : Catalog) (s : State) (f : Knows b s) (oldest : Option Tables) (n : ℕ) (newest : Option Tables) (may : MayReplace b oldest n newest) where
  abbrev all : List Added
  all = f.olds ++ f.added

  abbrev every : List DocRow
  every = table_rows b.levels.items ++ b.memory.content.documents

  abbrev rows_then : List DocRow
  rows_then = table_rows (tables_between oldest n b.levels.items newest)

  abbrev ends : List ℕ
  ends = ends_in b.gone rows_then

  settled : AreSettled b.next b.location rows_then
  settled = subst (AreSettled b.next b.location) (sym may.rows) (kept_settled b s f may.kept)

  -- what is not kept is gone
  not_kept : All (λ (row : DocRow). may.kept row ≡ false → not (ends_among b.gone row) ≡ false) every
  not_kept = all_weaker (λ (row : DocRow). may.kept row ≡ false → ends_among b.gone row ≡ true) (λ (row : DocRow). may.kept row ≡ false → not (ends_among b.gone row) ≡ false) every (λ row is drops. ap not (is drops)) may.gone

  -- of the rows then the same are live
  tell : All (λ (row : DocRow). not (ends_among ends row) ≡ not (ends_among b.gone row)) rows_then
  tell =
      all_weaker (λ (row : DocRow). ends_among ends row ≡ ends_among b.gone row) (λ (row : DocRow). not (ends_among ends row) ≡ not (ends_among b.gone row)) rows_then (λ row e. ap not e) (ends_tell b.gone rows_then)

  live_then : live_rows ends rows_then ≡ live_rows b.gone every
  live_then =
      filter_alike (λ (row : DocRow). not (ends_among ends row)) (λ (row : DocRow). not (ends_among b.gone row)) rows_then tell
      ∙ ap (live_rows b.gone) may.rows ∙ filter_within (λ (row : DocRow). not (ends_among b.gone row)) may.kept every not_kept

  counted : All IsCounted all
  counted = all_weaker IsInSpace IsCounted all (λ a is. sym is.counted) (space_all all f.space)

  module _ (olds : List Added) (of : AreRowsOf rows_then olds) where
    named_then : map named_of (documents_left b.gone all) ≡ map named_of (documents_left ends olds)
    named_then =
        sym (live_named b.gone all) ∙ ap (live_in b.gone) (rows_of_all b s f)
        ∙ ap (λ (rs : List DocRow). map (λ (row : DocRow). named row.name row.number) rs) (sym live_then)
        ∙ ap (live_in ends) (sym of.rows_are) ∙ live_named ends olds

    long_then : length s.documents ≡ length (documents_left ends olds)
    long_then =
        ap (λ (ds : List Document). length ds) (sym f.notes.documents) ∙ sym (live_long b.gone all) ∙ ap (λ (rs : List DocRow). length (live_rows b.gone rs)) (rows_of_all b s f)
        ∙ ap (λ (rs : List DocRow). length rs) (sym live_then) ∙ ap (λ (rs : List DocRow). length (live_rows ends rs)) (sym of.rows_are) ∙ live_long ends olds

    words_then : sum_by word_count s.documents ≡ sum_by word_count (documents_left ends olds)
    words_then =
        ap (λ (ds : List Document). sum_by word_count ds) (sym f.notes.documents) ∙ sym (live_words b.gone all counted) ∙ ap (λ (rs : List DocRow). sum_by row_words (live_rows b.gone rs)) (rows_of_all b s f)
        ∙ ap (λ (rs : List DocRow). sum_by row_words rs) (sym live_then) ∙ ap (λ (rs : List DocRow). sum_by row_words (live_rows ends rs)) (sym of.rows_are) ∙ live_words ends olds of.counted

    abbrev then_state : State
    then_state = record { next = s.next; documents = documents_left ends olds }

    ends_then : (end : ℕ) → Contains ends end → IsEndIn olds end
    ends_then end has =
        let (row, inside, is) = row_at (filter (ends_among b.gone) rows_then) end has in
        let in_rows : Contains rows_then row = (one_kept (ends_among b.gone) rows_then row inside).0 in
        let (d, member, same) = document_among olds row (subst (λ (rs : List DocRow). Contains rs row) (sym of.rows_are) in_rows) in
        (d, member, ap end_of same ∙ is)

    abbrev space_then : IsSpace olds
    space_then = settled_space olds (subst RowsPrecede (sym of.rows_are) settled.rise) (subst (All IsPlaced) (sym of.rows_are) settled.placed) of.counted

    -- the ends rise as the rows do
    rising_then : IsRising ends
    rising_then =
        subst IsRising (sym (map_filter end_of (is_among b.gone) rows_then))
        (filter-rises (is_among b.gone) (map end_of rows_then) (subst (λ (rs : List DocRow). IsRising (map end_of rs)) of.rows_are (space_ends olds space_then)))

    knows_then : (new : Catalog) → IsPut b oldest n newest new → AreRowsOf (table_rows new.levels.items) olds → KnowsBy new olds then_state
    knows_then new put rows = settled_knows new olds then_state (record {
      rows = rows;
      sound = put.sound;
      content = put.content;
      space = space_then;
      filled = all_rows (λ (row : DocRow). 3 ≤ row.cells) olds (subst (All (λ (row : DocRow). 3 ≤ row.cells)) (sym of.rows_are) settled.filled);
      behind = all_weaker (λ (a : Added). IsBefore b.next b.location a.row) (λ (a : Added). IsBefore new.next new.location a.row) olds
          (λ a before. (omega (arith, before.0, put.next), omega (arith, before.1, put.location)))
          (all_rows (IsBefore b.next b.location) olds (subst (All (IsBefore b.next b.location)) (sym of.rows_are) settled.before));
      rising = subst IsRising (sym put.gone) rising_then;
      ends = λ end has. ends_then end (subst (λ (es : List ℕ). Contains es end) put.gone has);
      notes = subst (λ (n : ℕ). Notes n new.names (documents_left new.gone olds) then_state) (sym put.next)
          (subst (λ (table : NameTable). Notes b.next table (documents_left new.gone olds) then_state) (sym put.names)
          (subst (λ (es : List ℕ). Notes b.next b.names (documents_left es olds) then_state) (sym put.gone)
          (notes_same b.next b.names (documents_left b.gone all) s f.notes (documents_left ends olds) named_then)));
      first = put.first ∙ sym put.next;
      from = (omega (arith, put.next, f.next, f.from.0), omega (arith, put.location, f.from.1));
      fits = (omega (arith, put.next, f.fits.0), omega (arith, put.next, put.location, f.fits.1));
      count = put.count ∙ f.count ∙ long_then;
      words = put.words ∙ f.words ∙ words_then;
    })

  rows_put : (new : Catalog) → IsPut b oldest n newest new → table_rows new.levels.items ≡ rows_then
  rows_put new put = ap table_rows put.levels

  pub put_knows : (new : Catalog) → IsPut b oldest n newest new → (olds : List Added) → AreRowsOf (table_rows new.levels.items) olds
      → KnowsBy new olds (record { next = s.next; documents = documents_left new.gone olds })
  put_knows new put olds of =
      subst (λ (es : List ℕ). KnowsBy new olds (record { next = s.next; documents = documents_left es olds })) (sym put.gone)
      (knows_then olds (subst (λ (rs : List DocRow). AreRowsOf rs olds) (rows_put new put) of) new put of)

  -- with the cells that they had, the documents that are left stay the same
  abbrev pub kept : List Added
  kept = filter (λ (a : Added). may.kept a.row) all

  pub kept_are : AreRowsOf rows_then kept
  kept_are = record {
    rows_are = map_filter row_of may.kept all ∙ ap (filter may.kept) (rows_of_all b s f) ∙ sym may.rows;
    counted = All-filter (λ (a : Added). may.kept a.row) IsCounted all counted;
  }

  pub left_same : documents_left ends kept ≡ s.documents
  left_same =
      ap (map document_in)
      (filter_alike (λ (a : Added). not (ends_among ends a.row)) (λ (a : Added). not (ends_among b.gone a.row)) kept
      (all_rows (λ (row : DocRow). not (ends_among ends row) ≡ not (ends_among b.gone row)) kept (subst (All (λ (row : DocRow). not (ends_among ends row) ≡ not (ends_among b.gone row))) (sym kept_are.rows_are) tell))
      ∙ filter_within (λ (a : Added). not (ends_among b.gone a.row)) (λ (a : Added). may.kept a.row) all
      (all_rows (λ (row : DocRow). may.kept row ≡ false → not (ends_among b.gone row) ≡ false) all
      (subst (All (λ (row : DocRow). may.kept row ≡ false → not (ends_among b.gone row) ≡ false)) (sym (rows_of_all b s f)) not_kept)))
      ∙ f.notes.documents

  pub put_same : (new : Catalog) → IsPut b oldest n newest new → Knows new s
  put_same new put =
      subst (λ (ds : List Document). Knows new (record { next = s.next; documents = ds })) left_same
      (knows_then kept kept_are new put (subst (λ (rs : List DocRow). AreRowsOf rs kept) (sym (rows_put new put)) kept_are)).0
