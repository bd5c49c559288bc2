-- The rows of a store: of its levels, and of its newest documents behind them.
use Rattle.std.proofs.Common.{◌≡◌, ℕ, ◌<◌, ◌≤◌, Bool, true, false, List, [], ◌∷◌, ◌++◌, map, refl, sym, ◌∙◌, ap, ap₂, subst, arith, append_assoc}
use Rattle.std.specs.Prelude.{get_or, not}
use Rattle.std.specs.List.{All, filter}
use Rattle.std.proofs.lemmas.Bool.{false≢true}
use Rattle.std.proofs.lemmas.List.{map-append}
use Rattle.std.proofs.lemmas.List.Elements.{All-append, All-cons, All-head, All-nil, All-tail, All-weaker, filter-append}
use Rattle.alta_catalog.specs.Knowing.{gone_of, memory_of, newest_of}
use Rattle.alta_catalog.proofs.GoneLaws.{newest_behind}
use Rattle.alta_catalog.proofs.SharingLaws.{space_precedes}
use Rattle.alta_codec.specs.declared.extent.Extent.{Extent}
use Rattle.alta_content.specs.Rows.{AreDocuments, end_of, ends_among, live_rows, start}
use Rattle.alta_content.specs.declared.content.Content.{Content}
use Rattle.alta_content.specs.declared.document.DocRow.{DocRow}
use Rattle.alta_meaning.specs.Levels.{Level}
use Rattle.alta_meaning.specs.Opened.{Opened, table_rows, extent_of}
use Rattle.alta_meaning.specs.Ordered.{Precedes, RowsPrecede}
use Rattle.alta_meaning.proofs.KeptStates.{map_filter}
use Rattle.alta_joins.specs.Jobs.{IsJoining}
use Rattle.alta_joins.proofs.SpaceLaws.{IsRow, each_row, part_rows, rows_documents}
use Rattle.alta_memlevel.specs.Added.{Added, HasContent, live_of}
use Rattle.alta_memlevel.specs.Documents.{AreMade, content_of}
use Rattle.alta_memlevel.proofs.Part.{have_part}
use Rattle.alta_merge.specs.Merging.{Merging}
use Rattle.alta_rewrite.specs.Rewrites.{HaveRows}
use Rattle.alta_store.specs.Agreement.{IsIntact, Keeps, levels_of}
use Rattle.alta_store.specs.Putting.{rows_of}
use Rattle.alta_store.specs.declared.store.Store.{Store}
use Rattle.alta_store.proofs.Kept.{kept_by, kept_three, left_three}
use Rattle.alta_table.specs.Tables.{Tables}
use Rattle.alta_content.proofs.Elements.{all_left, all_right, filter_again}

-- ---- levels of which the rows alone are known

pub bare : List Tables → List Level
bare [] = []
bare (t ∷ tables) = record { extent = extent_of t; content = record { documents = t.documents; lists = [] } } ∷ bare tables

pub bare_extents : (tables : List Tables) → map extent_of tables ≡ map (λ (l : Level). l.extent) (bare tables)
unfolding bare
bare_extents [] = refl
bare_extents (t ∷ tables) = ap (λ (es : List Extent). extent_of t ∷ es) (bare_extents tables)

pub bare_rows : (tables : List Tables) → map (λ (t : Tables). t.documents) tables ≡ map (λ (l : Level). l.content.documents) (bare tables)
unfolding bare
bare_rows [] = refl
bare_rows (t ∷ tables) = ap (λ (rows : List (List DocRow)). t.documents ∷ rows) (bare_rows tables)

pub bare_have : (store : Store) (o : Opened) → Keeps store o → HaveRows o (bare o.levels)
bare_have store o keeps = record { extents = sym keeps.extents ∙ bare_extents o.levels; rows = bare_rows o.levels }

-- ---- live rows

-- to leave out what is gone behind, and then everywhere, is to leave it out everywhere
pub live_twice : (store : Store) (es bs : List DocRow) → live_rows (gone_of store.catalog) (es ++ filter (λ row. not (ends_among (gone_of store.catalog) row)) bs) ≡ filter (λ row. not (ends_among (gone_of store.catalog) row)) (es ++ bs)
live_twice store es bs =
    let p : DocRow → Bool = λ row. not (ends_among (gone_of store.catalog) row) in
    filter-append p es (filter p bs) ∙ ap (λ (rows : List DocRow). filter p es ++ rows) (filter_again p bs) ∙ sym (filter-append p es bs)

-- ---- the rules

module _ (store : Store) (intact : IsIntact store) where
  abbrev memory_rows : List DocRow
  memory_rows = (memory_of store.catalog).content.documents

  added_rows : map (λ (a : Added). a.row) (intact.knows.olds ++ intact.knows.added) ≡ rows_of store
  added_rows =
      map-append (λ (a : Added). a.row) intact.knows.olds intact.knows.added ∙ ap₂ (λ (xs ys : List DocRow). xs ++ ys) intact.knows.rows.rows_are (sym intact.knows.content.documents)

  pub rows_rise : RowsPrecede (rows_of store)
  rows_rise = subst RowsPrecede added_rows (space_precedes (intact.knows.olds ++ intact.knows.added) intact.knows.space)

  pub all_documents : AreDocuments (rows_of store)
  all_documents =
      rows_documents (rows_of store)
      (All-append IsRow (table_rows (levels_of store)) memory_rows (each_row start (table_rows (levels_of store)) intact.documents)
      (part_rows (memory_of store.catalog).content (have_part (newest_of store.root intact.entries) (memory_of store.catalog).content intact.follows.content intact.follows.made))) rows_rise

  each : All IsRow (rows_of store)
  each = each_row start (rows_of store) all_documents

  -- the newest documents end at or behind the root's next location
  high : All (λ (row : DocRow). store.root.next_location ≤ end_of row) memory_rows
  high =
      let first = newest_behind store.catalog store.root intact.entries intact.follows in
      let rows = all_right IsRow (table_rows (levels_of store)) memory_rows each in
      λ k d within. omega (arith, first k d within, (rows k d within).some_cells)

  low : All (λ (row : DocRow). end_of row < store.root.next_location) (table_rows (levels_of store))
  low = All-weaker (λ (row : DocRow). (row.number < store.root.next_number) × (end_of row < store.root.next_location)) (λ (row : DocRow). end_of row < store.root.next_location) (λ row both. both.1) (table_rows (levels_of store)) intact.below

  -- ---- all rows of levels stay, and of the newest those that are not gone

  abbrev is_live : DocRow → Bool
  is_live row = not (ends_among (gone_of store.catalog) row)

  not_false : (b : Bool) → not b ≡ false → b ≡ true
  not_false true e = refl
  not_false false e = absurd (false≢true (sym e))

  abbrev IsGone : DocRow → Type 0
  IsGone row = ends_among (gone_of store.catalog) row ≡ true

  live_gone : (rows : List DocRow) → All (λ (row : DocRow). is_live row ≡ false → IsGone row) rows
  live_gone [] = All-nil (λ (row : DocRow). is_live row ≡ false → IsGone row)
  live_gone (row ∷ rows) = All-cons (λ (row : DocRow). is_live row ≡ false → IsGone row) row rows (λ e. not_false (ends_among (gone_of store.catalog) row) e) (live_gone rows)

  from_zero : All (λ (row : DocRow). (0 ≤ end_of row) × (end_of row < store.root.next_location)) (table_rows (levels_of store))
  from_zero = All-weaker (λ (row : DocRow). end_of row < store.root.next_location) (λ (row : DocRow). (0 ≤ end_of row) × (end_of row < store.root.next_location)) (λ row less. (omega arith, less)) (table_rows (levels_of store)) low

  abbrev pub flush_kept : DocRow → Bool
  flush_kept = kept_by (λ row. true) is_live 0 store.root.next_location

  pub flush_rows : table_rows (levels_of store) ++ filter is_live memory_rows ≡ filter flush_kept (rows_of store)
  flush_rows = sym (kept_three (λ row. true) is_live 0 store.root.next_location [] (table_rows (levels_of store)) memory_rows (omega arith) (All-nil (λ (row : DocRow). end_of row < 0)) from_zero high)

  pub flush_left : All (λ (row : DocRow). flush_kept row ≡ false → IsGone row) (rows_of store)
  flush_left =
      left_three (λ row. true) is_live 0 store.root.next_location [] (table_rows (levels_of store)) memory_rows (omega arith) (All-nil (λ (row : DocRow). end_of row < 0)) from_zero high IsGone
      (All-nil (λ (row : DocRow). true ≡ false → IsGone row)) (live_gone memory_rows)

  -- ---- of the two oldest levels those stay that were not dead as a join began

  module _ (merging : Merging) (joining : IsJoining (levels_of store) (gone_of store.catalog) merging) where
    abbrev both : List DocRow
    both = joining.older.documents ++ joining.newer.documents

    abbrev rest : List DocRow
    rest = table_rows joining.more

    split : rows_of store ≡ both ++ (rest ++ memory_rows)
    split =
        ap (λ (ls : List Tables). table_rows ls ++ memory_rows) joining.oldest
        ∙ ap (λ (rows : List DocRow). rows ++ memory_rows) (sym (append_assoc joining.older.documents joining.newer.documents rest)) ∙ append_assoc both rest memory_rows

    levels_split : table_rows (levels_of store) ≡ both ++ rest
    levels_split = ap table_rows joining.oldest ∙ sym (append_assoc joining.older.documents joining.newer.documents rest)

    -- where the rows of the other levels begin
    pub bound : List DocRow → ℕ
    bound [] = store.root.next_location
    bound (row ∷ rows) = row.first

    before_all : (es : List DocRow) (b : DocRow) (bs : List DocRow) → RowsPrecede (es ++ (b ∷ bs)) → All (λ (row : DocRow). end_of row < b.first) es
    before_all [] b bs rise = All-nil (λ (row : DocRow). end_of row < b.first)
    before_all (a ∷ es) b bs rise =
        All-cons (λ (row : DocRow). end_of row < b.first) a es (All-head (Precedes a) b bs (all_right (Precedes a) es (b ∷ bs) rise.0)).1 (before_all es b bs rise.1)

    rise_right : (es bs : List DocRow) → RowsPrecede (es ++ bs) → RowsPrecede bs
    rise_right [] bs rise = rise
    rise_right (a ∷ es) bs rise = rise_right es bs rise.1

    low_both : (bs : List DocRow) → RowsPrecede (both ++ (bs ++ memory_rows)) → All (λ (row : DocRow). end_of row < store.root.next_location) both → All (λ (row : DocRow). end_of row < bound bs) both
    unfolding bound
    low_both [] rise below = below
    low_both (b ∷ bs) rise below = before_all both b (bs ++ memory_rows) rise

    between : (bs : List DocRow) → RowsPrecede bs → All IsRow bs → All (λ (row : DocRow). end_of row < store.root.next_location) bs → All (λ (row : DocRow). (bound bs ≤ end_of row) × (end_of row < store.root.next_location)) bs
    unfolding bound
    between [] rise rows below = All-nil (λ (row : DocRow). (store.root.next_location ≤ end_of row) × (end_of row < store.root.next_location))
    between (b ∷ bs) rise rows below =
        let P : DocRow → Type 0 = λ row. (b.first ≤ end_of row) × (end_of row < store.root.next_location) in
        let here = All-head IsRow b bs rows in
        let later = All-tail IsRow b bs rows in
        let tail = All-tail (λ (row : DocRow). end_of row < store.root.next_location) b bs below in
        All-cons P b bs (omega (arith, here.some_cells), All-head (λ (row : DocRow). end_of row < store.root.next_location) b bs below)
        (λ k d within. (omega (arith, here.some_cells, (rise.0 k d within).1, (later k d within).some_cells), tail k d within))

    bound_low : (bs : List DocRow) → All IsRow bs → All (λ (row : DocRow). end_of row < store.root.next_location) bs → bound bs ≤ store.root.next_location
    unfolding bound
    bound_low [] rows below = omega arith
    bound_low (b ∷ bs) rows below =
        omega (arith, (All-head IsRow b bs rows).some_cells, All-head (λ (row : DocRow). end_of row < store.root.next_location) b bs below)

    split_rise : RowsPrecede (both ++ (rest ++ memory_rows))
    split_rise = subst RowsPrecede split rows_rise

    split_each : All IsRow (both ++ (rest ++ memory_rows))
    split_each = subst (All IsRow) split each

    rest_each : All IsRow rest
    rest_each = all_left IsRow rest memory_rows (all_right IsRow both (rest ++ memory_rows) split_each)

    low_split : All (λ (row : DocRow). end_of row < store.root.next_location) (both ++ rest)
    low_split = subst (All (λ (row : DocRow). end_of row < store.root.next_location)) levels_split low

    rest_low : All (λ (row : DocRow). end_of row < store.root.next_location) rest
    rest_low = all_right (λ (row : DocRow). end_of row < store.root.next_location) both rest low_split

    rest_rise : RowsPrecede rest
    rest_rise = rise_left rest memory_rows (rise_right both (rest ++ memory_rows) split_rise)
      where
        rise_left : (es bs : List DocRow) → RowsPrecede (es ++ bs) → RowsPrecede es
        rise_left [] bs rise = tt
        rise_left (a ∷ es) bs rise = (all_left (Precedes a) es bs rise.0, rise_left es bs rise.1)

    abbrev is_left : DocRow → Bool
    is_left row = not (ends_among joining.job.dead row)

    abbrev pub join_kept : DocRow → Bool
    join_kept = kept_by is_left is_live (bound rest) store.root.next_location

    both_low : All (λ (row : DocRow). end_of row < bound rest) both
    both_low = low_both rest split_rise (all_left (λ (row : DocRow). end_of row < store.root.next_location) both rest low_split)

    rest_between : All (λ (row : DocRow). (bound rest ≤ end_of row) × (end_of row < store.root.next_location)) rest
    rest_between = between rest rest_rise rest_each rest_low

    pub join_rows : filter is_left both ++ (rest ++ filter is_live memory_rows) ≡ filter join_kept (rows_of store)
    join_rows = sym (ap (filter join_kept) split ∙ kept_three is_left is_live (bound rest) store.root.next_location both rest memory_rows (bound_low rest rest_each rest_low) both_low rest_between high)

    same_documents : both ≡ joining.job.older.documents ++ joining.job.newer.documents
    same_documents =
        sym (ap₂ (λ (xs ys : List DocRow). xs ++ ys) (ap (λ (t : Tables). t.documents) joining.contents.0.tables) (ap (λ (t : Tables). t.documents) joining.contents.1.tables))

    dead_gone : All (λ (row : DocRow). is_left row ≡ false → IsGone row) both
    dead_gone =
        let dead = subst (All (λ (row : DocRow). ends_among joining.job.dead row ≡ true → IsGone row)) (sym same_documents) joining.dead in
        λ k d within no. dead k d within (not_false (ends_among joining.job.dead (get_or both k d)) no)

    pub join_left : All (λ (row : DocRow). join_kept row ≡ false → IsGone row) (rows_of store)
    join_left =
        subst (All (λ (row : DocRow). join_kept row ≡ false → IsGone row)) (sym split)
        (left_three is_left is_live (bound rest) store.root.next_location both rest memory_rows (bound_low rest rest_each rest_low) both_low rest_between high IsGone dead_gone (live_gone memory_rows))

  -- ---- of all rows those stay that are not gone

  pub merge_left : All (λ (row : DocRow). is_live row ≡ false → IsGone row) (rows_of store)
  merge_left = live_gone (rows_of store)

  -- ---- the newest content

  -- the rows of the live newest documents
  pub live_newest : (newest : Content) → ((added : List Added) → HasContent added (memory_of store.catalog).content → AreMade added → newest ≡ content_of (live_of (gone_of store.catalog) added))
      → newest.documents ≡ filter is_live memory_rows
  live_newest newest drained =
      let added = newest_of store.root intact.entries in
      ap (λ (c : Content). c.documents) (drained added intact.follows.content intact.follows.made)
      ∙ map_filter (λ (a : Added). a.row) is_live added ∙ ap (filter is_live) (sym intact.follows.content.documents)
