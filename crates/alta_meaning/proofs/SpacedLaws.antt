-- The rows of what is opened rise, and a root that was written may stand.
use Rattle.std.proofs.Common.{◌≡◌, ℕ, ◌<◌, ◌≤◌, ◌^◌, Bool, true, false, List, [], ◌∷◌, ◌++◌, length, map, refl, sym, ap, subst, ◌∙◌, arith, Ok, append_assoc}
use Rattle.std.specs.Prelude.{◌&&◌, ◌||◌, nat_lt, nat_eq}
use Rattle.std.specs.List.{All, list_all, list_any}
use Rattle.std.proofs.lemmas.Bool.{false≢true, eqb-true}
use Rattle.std.proofs.lemmas.List.Elements.{All-nil, All-cons, All-head, All-tail, All-append, All-map}
use Rattle.std.proofs.lemmas.List.Folds.{flat_map-map}
use Rattle.alta_layout.specs.Places.{half_start}
use Rattle.alta_codec.specs.declared.extent.Extent.{Extent}
use Rattle.alta_codec.specs.Bytes.{AreBytes}
use Rattle.alta_journal.specs.Journal.{EndsAt}
use Rattle.alta_journal.specs.Placed.{placed}
use Rattle.alta_journal.specs.declared.entry.Entry.{Entry}
use Rattle.alta_level.specs.Segments.{IsSegment}
use Rattle.alta_memlevel.specs.Added.{Added, IsSpace}
use Rattle.alta_content.specs.Rows.{AreDocuments, AreDocumentsBehind, Before, behind_row, end_of, ends_among, start}
use Rattle.alta_machine.specs.declared.document.Document.{Document}
use Rattle.alta_machine.specs.declared.document.State.{State}
use Rattle.alta_root.specs.declared.root.Root.{Root}
use Rattle.alta_meaning.specs.Entries.{after_entries}
use Rattle.alta_meaning.specs.Levels.{Level}
use Rattle.alta_meaning.specs.Views.{View, rooted, state_of}
use Rattle.alta_meaning.specs.Work.{newest, level_rows}
use Rattle.alta_meaning.proofs.Tests.{by_test, below_from, and_left, and_right}
use Rattle.alta_table.specs.Tables.{Tables}
use Rattle.alta_content.specs.declared.document.DocRow.{DocRow}
use Rattle.alta_meaning.specs.Holding.{Holding, IsHeld, IsSpaced}
use Rattle.alta_meaning.specs.Known.{Known, known_of, replayed}
use Rattle.alta_meaning.specs.Opened.{Opened, IsNamed, bytes_at, comes_behind, is_below, are_in_order, with_level, levels_from, table_rows, live_in, have_ends, known_at}
use Rattle.alta_meaning.specs.Ordered.{AreBelow, AreOrdered, IsOrdered, Precedes, RowsPrecede}
use Rattle.alta_meaning.specs.Standing.{AreLevels, tables_by, view_of}
use Rattle.alta_meaning.specs.Switching.{IsWritten, MayStand}
use Rattle.alta_meaning.proofs.KnownLaws.{IsWithin, all_weaker, all_both, allows_replayed}
use Rattle.alta_meaning.proofs.OrderLaws.{HasDocuments, all_from, all_middle, first_of_levels, has_documents, in_front, is_more, known_ordered, rooted_known, rows_more, all_before}
use Rattle.alta_meaning.proofs.KeptStates.{IsFilled, added_behind, added_high}
use Rattle.alta_meaning.proofs.Steps.{one_value}
use Rattle.alta_meaning.proofs.WrittenLaws.{IsRead, level_read, levels_read, list_read}
use Rattle.alta_meaning.proofs.ReadLaws.{IsBehindAll}

-- ---- rows of a level

IsFrom : Before → DocRow → Type 0
IsFrom before row = (before.number < row.number) × (before.end < row.first)

rows_from : (before : Before) (rows : List DocRow) → AreDocumentsBehind before rows → RowsPrecede rows × All (IsFrom before) rows
unfolding AreDocumentsBehind IsFrom
rows_from before [] are = (tt, All-nil (IsFrom before))
rows_from before (row ∷ rows) are =
    let rest = rows_from (behind_row before row) rows are.1 in
    let first = are.0 in (
      (rest.1, rest.0),
      All-cons (IsFrom before) row rows (first.rises, first.starts_behind)
          (all_weaker (IsFrom (behind_row before row)) (IsFrom before) rows (λ r from. (omega (arith, first.rises, from.0), omega (arith, first.starts_behind, first.some_cells, from.1))) rest.1),
    )

rows_filled : (before : Before) (rows : List DocRow) → AreDocumentsBehind before rows → All IsFilled rows
unfolding AreDocumentsBehind
rows_filled before [] are = All-nil IsFilled
rows_filled before (row ∷ rows) are = All-cons IsFilled row rows (omega (arith, are.0.some_cells)) (rows_filled (behind_row before row) rows are.1)

rise_append : (xs ys : List DocRow) → RowsPrecede xs → RowsPrecede ys → All (IsBehindAll xs) ys → RowsPrecede (xs ++ ys)
rise_append [] ys first second behind = second
rise_append (x ∷ xs) ys first second behind = (
  All-append (Precedes x) xs ys first.0 (all_weaker (IsBehindAll (x ∷ xs)) (Precedes x) ys (λ y all. All-head (λ (row : DocRow). Precedes row y) x xs all) behind),
  rise_append xs ys first.1 second (all_weaker (IsBehindAll (x ∷ xs)) (IsBehindAll xs) ys (λ y all. All-tail (λ (row : DocRow). Precedes row y) x xs all) behind),
)

-- ---- a level behind others

behind_levels : (root : Root) (levels : List Tables) (rows : List DocRow) → are_in_order root levels rows ≡ true → All (IsBehindAll (table_rows levels)) rows × AreBelow root rows
behind_levels root levels rows ordered =
    let test : DocRow → Bool = λ row. is_below root row && list_all (λ (earlier : DocRow). comes_behind earlier row) (table_rows levels) in
    let all : All (λ (row : DocRow). test row ≡ true) rows = all_from test rows ordered in (
      all_weaker (λ (row : DocRow). test row ≡ true) (IsBehindAll (table_rows levels)) rows
          (λ row e. all_weaker (λ (earlier : DocRow). comes_behind earlier row ≡ true) (λ (earlier : DocRow). Precedes earlier row) (table_rows levels)
          (λ earlier behind. (
            below_from earlier.number row.number (and_left (nat_lt earlier.number row.number) (nat_lt (end_of earlier) row.first) behind),
            below_from (end_of earlier) row.first (and_right (nat_lt earlier.number row.number) (nat_lt (end_of earlier) row.first) behind),
          ))
          (all_from (λ (earlier : DocRow). comes_behind earlier row) (table_rows levels) (and_right (is_below root row) (list_all (λ (earlier : DocRow). comes_behind earlier row) (table_rows levels)) e)))
          all,
      all_weaker (λ (row : DocRow). test row ≡ true) (λ (row : DocRow). (row.number < root.next_number) × (end_of row < root.next_location)) rows
          (λ row e.
          let below : is_below root row ≡ true = and_left (is_below root row) (list_all (λ (earlier : DocRow). comes_behind earlier row) (table_rows levels)) e in (
            below_from row.number root.next_number (and_left (nat_lt row.number root.next_number) (nat_lt (end_of row) root.next_location) below),
            below_from (end_of row) root.next_location (and_right (nat_lt row.number root.next_number) (nat_lt (end_of row) root.next_location) below),
          ))
          all,
    )

abbrev Below : Root → DocRow → Type 0
Below root row = (row.number < root.next_number) × (end_of row < root.next_location)

-- rows of levels rise, lie below the root's next, and have cells
record AreSpaced (root : Root) (rows : List DocRow) : Type 0 where
  rise : RowsPrecede rows
  below : AreBelow root rows
  filled : All IsFilled rows

level_spaced : (root : Root) (levels : List Tables) (level : Tables) → AreDocuments level.documents → are_in_order root levels level.documents ≡ true → AreSpaced root (table_rows levels) → AreSpaced root (table_rows (levels ++ level ∷ []))
level_spaced root levels level are ordered so_far =
    let behind = behind_levels root levels level.documents ordered in
    subst (AreSpaced root) (sym (rows_more levels level)) (record {
      rise = rise_append (table_rows levels) level.documents so_far.rise (rows_from start level.documents are).0 behind.0;
      below = All-append (Below root) (table_rows levels) level.documents so_far.below behind.1;
      filled = All-append IsFilled (table_rows levels) level.documents so_far.filled (rows_filled start level.documents are);
    })

levels_spaced : (root : Root) (deleted : List ℕ) (levels : List Tables) (extents : List Extent) (image : List ℕ) (final : List Tables) → levels_from root deleted levels extents image ≡ Ok final → All HasDocuments final
    → AreSpaced root (table_rows levels) → AreSpaced root (table_rows final)
levels_spaced root deleted levels [] image final e all so_far = subst (λ (ls : List Tables). AreSpaced root (table_rows ls)) (one_value {E = ℕ} (Ok levels) levels final refl e) so_far
levels_spaced root deleted levels (extent ∷ more) image final e all so_far =
    let first = first_of_levels root deleted levels extent more image final (with_level root deleted levels extent image) refl e in
    let step = is_more root deleted levels first.longer extent image first.here in
    let rest = in_front root deleted first.longer more image final first.rest in
    let split : final ≡ levels ++ step.level ∷ rest.0 = rest.1 ∙ ap (λ (l : List Tables). l ++ rest.0) step.longer_is ∙ append_assoc levels (step.level ∷ []) rest.0 in
    levels_spaced root deleted first.longer more image final first.rest all
    (subst (λ (ls : List Tables). AreSpaced root (table_rows ls)) (sym step.longer_is)
    (level_spaced root levels step.level (all_middle HasDocuments levels step.level rest.0 (subst (All HasDocuments) split all)) step.ordered so_far))

-- ---- what is held is spaced

space_rise : (added : List Added) → IsSpace added → RowsPrecede (map (λ (a : Added). a.row) added)
space_rise [] space = tt
space_rise (a ∷ more) space =
    (All-map (Precedes a.row) (λ (b : Added). b.row) more (all_both (λ (b : Added). a.row.number < b.row.number) (λ (b : Added). end_of a.row < b.row.first) more space.1 space.2), space_rise more space.3)

space_filled : (added : List Added) → IsSpace added → All IsFilled (map (λ (a : Added). a.row) added)
space_filled [] space = All-nil IsFilled
space_filled (a ∷ more) space = All-cons IsFilled a.row (map (λ (b : Added). b.row) more) space.0.some (space_filled more space.3)

end_below : (end location : ℕ) (rows : List DocRow) → list_any (λ (row : DocRow). ends_among (end ∷ []) row) rows ≡ true → All (λ (row : DocRow). end_of row < location) rows → end < location
end_below end location [] has all = absurd (false≢true has)
end_below end location (row ∷ rows) has all =
    by_test (nat_eq end (end_of row))
    (λ same. let is : end ≡ end_of row = eqb-true end (end_of row) same in omega (arith, is, All-head (λ (row : DocRow). end_of row < location) row rows all))
    (λ other. end_below end location rows (or_behind (nat_eq end (end_of row)) (list_any (λ (row : DocRow). ends_among (end ∷ []) row) rows) other has) (All-tail (λ (row : DocRow). end_of row < location) row rows all))
  where
    or_behind : (a b : Bool) → a ≡ false → ((a || false) || b) ≡ true → b ≡ true
    or_behind true b e has = absurd (false≢true (sym e))
    or_behind false b e has = has

ends_below : (root : Root) (levels : List Tables) (deleted : List ℕ) → have_ends levels deleted ≡ true → AreBelow root (table_rows levels) → All (λ end. end < root.next_location) deleted
ends_below root levels deleted ends below =
    all_weaker (λ end. list_any (λ (row : DocRow). ends_among (end ∷ []) row) (table_rows levels) ≡ true) (λ end. end < root.next_location) deleted
    (λ end has. end_below end root.next_location (table_rows levels) has (all_weaker (Below root) (λ (row : DocRow). end_of row < root.next_location) (table_rows levels) (λ row both. both.1) below))
    (all_from (λ end. list_any (λ (row : DocRow). ends_among (end ∷ []) row) (table_rows levels)) deleted ends)

-- levels with the rows of what is opened, whatever their lists are
pub rows_spaced : (o : Opened) (levels : List Level) (image : List ℕ) → IsNamed o image → All HasDocuments o.levels → table_rows o.levels ≡ level_rows levels → known_at o.root o.deleted o.levels ≡ known_of (rooted (view_of o levels))
    → IsSpace (newest (view_of o levels)) → IsSpaced (view_of o levels)
rows_spaced o levels image named documents rows known space =
    let here : AreSpaced o.root (table_rows o.levels) =
    levels_spaced o.root o.deleted [] o.root.levels.items image o.levels named.tables documents (record { rise = tt; below = All-nil (Below o.root); filled = All-nil IsFilled }) in
    let spaced : AreSpaced o.root (level_rows levels) = subst (AreSpaced o.root) rows here in
    let view = view_of o levels in
    let ordered : IsOrdered (known_of (rooted view)) = subst IsOrdered known (known_ordered o image named documents) in
    let news = map (λ (a : Added). a.row) (newest view) in
    record {
      rise =
          rise_append (level_rows levels) news spaced.rise (space_rise (newest view) space)
          (All-map (IsBehindAll (level_rows levels)) (λ (a : Added). a.row) (newest view)
          (all_weaker (λ (a : Added). (o.root.next_number ≤ a.row.number) × (o.root.next_location ≤ a.row.first)) (λ (a : Added). IsBehindAll (level_rows levels) a.row) (newest view)
          (λ a high. all_weaker (Below o.root) (λ (row : DocRow). Precedes row a.row) (level_rows levels) (λ row below. (omega (arith, below.0, high.0), omega (arith, below.1, high.1))) spaced.below)
          (all_both (λ (a : Added). o.root.next_number ≤ a.row.number) (λ (a : Added). o.root.next_location ≤ a.row.first) (newest view)
          (added_high o.root.next_number o.root.next_location o.entries) (added_behind o.root.next_number o.root.next_location o.entries))));
      filled = All-append IsFilled (level_rows levels) news spaced.filled (space_filled (newest view) space);
      below = spaced.below;
      deleted = ends_below o.root o.levels o.deleted named.ends here.below;
      numbers =
          all_weaker (λ (d : Document). (1 ≤ d.number) × (d.number < o.root.next_number)) (λ (d : Document). d.number < o.root.next_number) (rooted view).documents (λ d both. both.1)
          (all_before (IsWithin o.root.next_number) (rooted view).documents ordered.within);
      space = space;
      allowed = (allows_replayed (rooted view) (half_start o.slot) o.entries named.known (subst (λ (k : Known). replayed k (placed (half_start o.slot) o.entries) ≡ Ok named.known) known named.admitted)).0;
    }

view_spaced : (o : Opened) (levels : List Level) (image : List ℕ) → IsNamed o image → AreLevels o levels image → IsSpace (newest (view_of o levels)) → IsSpaced (view_of o levels)
view_spaced o levels image named are space =
    rows_spaced o levels image named (subst (All HasDocuments) (sym are.tables) (has_documents levels image are.segments)) (ap table_rows are.tables ∙ flat_map-map (λ (t : Tables). t.documents) tables_by levels)
    (rooted_known o levels are.tables) space

pub held_spaced : (held : Holding) (image : List ℕ) → IsHeld held image → IsSpace (newest held.view) → IsSpaced held.view
held_spaced held image is space =
    subst IsSpaced (sym is.view_is) (view_spaced is.opened held.view.levels image is.is.named is.are (subst (λ (v : View). IsSpace (newest v)) is.view_is space))

-- ---- a root that was written

read_levels : (coming : Opened) (levels : List Level) (image : List ℕ) → IsWritten coming levels image → All (IsRead image) levels
read_levels coming levels image is =
    all_weaker (λ (l : Level). IsSegment (bytes_at l.extent image) l.content × (AreBytes (bytes_at l.extent image) × (length (bytes_at l.extent image) ≡ l.extent.bytes) × (l.extent.bytes < 2 ^ 64))) (IsRead image) levels
    (λ l both. level_read l image both.1.0 both.1.1 both.1.2 both.0)
    (all_both (λ (l : Level). IsSegment (bytes_at l.extent image) l.content) (λ (l : Level). AreBytes (bytes_at l.extent image) × (length (bytes_at l.extent image) ≡ l.extent.bytes) × (l.extent.bytes < 2 ^ 64)) levels
    is.put.are.segments is.put.bytes)

-- A root that was written may stand for the state of its levels, where that is in order.
pub written_stands : (s : State) (coming : Opened) (levels : List Level) (image : List ℕ) → IsWritten coming levels image → state_of (view_of coming levels) ≡ s → IsOrdered (known_of s) → MayStand s coming image
written_stands s coming levels image is state_is ordered =
    let rows : table_rows coming.levels ≡ table_rows (map tables_by levels) = ap table_rows is.put.are.tables in
    let known = rooted_known coming levels is.put.are.tables in
    let same : state_of (view_of coming levels) ≡ rooted (view_of coming levels) = ap (λ (es : List Entry). after_entries (rooted (view_of coming levels)) es) is.put.empty in
    let here : IsOrdered (known_at coming.root coming.deleted coming.levels) = subst IsOrdered (sym known) (subst (λ (t : State). IsOrdered (known_of t)) (sym state_is ∙ same) ordered) in
    record {
      follows = is.put.follows;
      means = record {
        named = record {
          list = list_read coming.root coming.deleted image is.put.list;
          tables =
              levels_read coming.root coming.deleted levels image is.put.are.extents (read_levels coming levels image is) (subst RowsPrecede rows is.place.rise) (subst (AreBelow coming.root) rows is.place.below)
              (subst (λ (ts : List Tables). AreOrdered (live_in coming.deleted (table_rows ts))) is.put.are.tables here.ordered)
              ∙ ap (λ (ts : List Tables). Ok ts) (sym is.put.are.tables);
          ends = is.place.ends;
          journal = subst (λ (es : List Entry). EndsAt coming.root.version (half_start coming.slot) coming.tail es image) (sym is.put.empty) is.put.journal;
          known = known_at coming.root coming.deleted coming.levels;
          admitted = ap (λ (es : List Entry). replayed (known_at coming.root coming.deleted coming.levels) (placed (half_start coming.slot) es)) is.put.empty;
        };
        levels = levels;
        are = is.put.are;
        state_is = state_is;
      };
    }
