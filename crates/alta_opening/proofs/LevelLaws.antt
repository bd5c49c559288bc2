-- A level behind those that were opened.
use Rattle.std.proofs.Common.{◌≡◌, ℕ, suc, ◌+◌, ◌<◌, ◌≤◌, true, List, [], ◌∷◌, ◌++◌, length, take, drop, get_or, drop-cons, refl, sym, ap, subst, ◌∙◌, Result, Ok, Err, arith}
use Rattle.std.specs.Prelude.{nat_lt, ◌&&◌}
use Rattle.std.proofs.lemmas.List.{get_or_default, take-append-drop, take_more}
use Rattle.std.proofs.lemmas.List.Sums.{sum_by_more, sum_by_more_le}
use Rattle.std.specs.List.{sum_by, list_all}
use Rattle.std.proofs.lemmas.List.Elements.{All-nil, All-append}
use Rattle.alta_content.specs.Rows.{end_of, AreDocuments, AreDocumentsBehind, start}
use Rattle.alta_content.specs.declared.document.DocRow.{DocRow}
use Rattle.alta_meaning.specs.Ordered.{AreBelow, IsOrdered}
use Rattle.alta_codec.specs.declared.extent.Extent.{Extent}
use Rattle.alta_meaning.specs.Known.{Named}
use Rattle.alta_meaning.specs.Opened.{are_in_order, comes_behind, is_below, known_at, levels_from, live_in, names_in, table_rows, tables_at, with_level}
use Rattle.alta_meaning.proofs.KnownLaws.{all_weaker}
use Rattle.alta_meaning.proofs.OrderLaws.{all_from, level_ordered, live_append, rows_more}
use Rattle.alta_meaning.proofs.Steps.{levels_append}
use Rattle.alta_root.specs.declared.root.Root.{Root}
use Rattle.alta_table.specs.Tables.{Tables}
use Rattle.alta_meaning.specs.Names.{AreNames}
use Rattle.alta_opening.specs.Reached.{HasReached}
use Rattle.alta_opening.specs.Rows.{behind_rows, left_by}
use Rattle.alta_opening.specs.Steps.{Answers, admitted}
use Rattle.alta_disk.specs.declared.fault.LoadFault.{LoadFault}
use Rattle.alta_disk.specs.declared.fault.LoadFault.TheVariants as faults
use Rattle.alta_opening.specs.declared.levels.Levels.{Levels}
use Rattle.alta_opening.proofs.RowLaws.{behind_any, behind_append, order_extends, rows_append}
use Rattle.alta_meaning.proofs.Tests.{and_left, and_right, below_from}

-- a row lies below the next number and location of the root
abbrev IsBelow : Root → DocRow → Type 0
IsBelow root row = (row.number < root.next_number) × (end_of row < root.next_location)

pub reached_none : (root : Root) (deleted : List ℕ) (found : Levels) → found.levels.items ≡ [] → left_by found.last ≡ start → AreNames found.names [] → HasReached root deleted found
unfolding AreDocumentsBehind
reached_none root deleted found none last names = record {
  rows = subst (λ (ls : List Tables). AreDocuments (table_rows ls)) (sym none) tt;
  below = subst (λ (ls : List Tables). AreBelow root (table_rows ls)) (sym none) (All-nil (IsBelow root));
  ordered = subst (λ (ls : List Tables). IsOrdered (known_at root deleted ls)) (sym none) (record { ordered = tt; within = All-nil (λ (row : Named). (1 ≤ row.number) × (row.number < root.next_number)) });
  last = last ∙ ap (λ (ls : List Tables). behind_rows start (table_rows ls)) (sym none);
  names = subst (λ (ls : List Tables). AreNames found.names (live_in deleted (table_rows ls))) (sym none) names;
}

-- ---- the steps of one level

module _ (root : Root) (deleted : List ℕ) (levels : List Tables) (extent : Extent) (level : Tables) where
  pub tables_first : (image : List ℕ) → tables_at extent image ≡ Ok level → with_level root deleted levels extent image ≡ admitted root deleted levels extent level
  tables_first image found = rw found refl

-- ---- what is kept behind one more

-- rows that are in order do
all_below : (root : Root) (levels : List Tables) (rows : List DocRow) → are_in_order root levels rows ≡ true → AreBelow root rows
all_below root levels rows ordered =
    all_weaker (λ (row : DocRow). (is_below root row && list_all (λ (earlier : DocRow). comes_behind earlier row) (table_rows levels)) ≡ true) (IsBelow root) rows
    (λ row e.
    let below = and_left (is_below root row) (list_all (λ (earlier : DocRow). comes_behind earlier row) (table_rows levels)) e in (
      below_from row.number root.next_number (and_left (nat_lt row.number root.next_number) (nat_lt (end_of row) root.next_location) below),
      below_from (end_of row) root.next_location (and_right (nat_lt row.number root.next_number) (nat_lt (end_of row) root.next_location) below),
    ))
    (all_from (λ (row : DocRow). is_below root row && list_all (λ (earlier : DocRow). comes_behind earlier row) (table_rows levels)) rows ordered)

pub reached_more : (root : Root) (deleted : List ℕ) (old new : Levels) (level : Tables) → HasReached root deleted old → AreDocuments level.documents → 0 < length level.documents
    → are_in_order root old.levels.items level.documents ≡ true → new.levels.items ≡ old.levels.items ++ level ∷ [] → left_by new.last ≡ behind_rows start level.documents
    → names_in deleted old.levels.items level ≡ Ok (live_in deleted (table_rows old.levels.items) ++ live_in deleted level.documents)
    → AreNames new.names (live_in deleted (table_rows old.levels.items) ++ live_in deleted level.documents) → HasReached root deleted new
reached_more root deleted old new level reached are some ordered levels last differ names =
    let before = behind_rows start (table_rows old.levels.items) in
    let rows : table_rows new.levels.items ≡ table_rows old.levels.items ++ level.documents = ap table_rows levels ∙ rows_more old.levels.items level in
    record {
      rows = subst AreDocuments (sym rows) (rows_append start (table_rows old.levels.items) level.documents reached.rows (order_extends root old.levels.items level.documents reached.rows are ordered));
      below = subst (AreBelow root) (sym rows) (All-append (IsBelow root) (table_rows old.levels.items) level.documents reached.below (all_below root old.levels.items level.documents ordered));
      ordered = subst (λ (ls : List Tables). IsOrdered (known_at root deleted ls)) (sym levels)
          (level_ordered root deleted old.levels.items level (live_in deleted (table_rows old.levels.items) ++ live_in deleted level.documents) are ordered differ reached.ordered);
      last = last ∙ behind_any start before level.documents some ∙ sym (behind_append start (table_rows old.levels.items) level.documents) ∙ ap (behind_rows start) (sym rows);
      names = subst (AreNames new.names) (sym (ap (live_in deleted) rows ∙ live_append deleted (table_rows old.levels.items) level.documents)) names;
    }

-- ---- levels one behind the other

-- the extents up to one, that one, and those behind it
module _ (root : Root) (deleted image : List ℕ) (extents : List Extent) (i : ℕ) (extent : Extent) (inside : i < length extents) (is : extent ≡ get_or extents i extent) (levels : List Tables)
    (so_far : levels_from root deleted [] (take i extents) image ≡ Ok levels) where
  pub levels_more : (longer : List Tables) → with_level root deleted levels extent image ≡ Ok longer → levels_from root deleted [] (take (i + 1) extents) image ≡ Ok longer
  levels_more longer found =
      ap (λ (es : List Extent). levels_from root deleted [] es image) (take_more extents i extent inside ∙ ap (λ (e : Extent). take i extents ++ e ∷ []) (sym is))
      ∙ levels_append root deleted image [] (take i extents) (extent ∷ []) ∙ (rw so_far rw found refl)

  pub levels_stop : (place : ℕ) → with_level root deleted levels extent image ≡ Err place → levels_from root deleted [] extents image ≡ Err place
  levels_stop place fails =
      let next : suc i ≡ i + 1 = omega arith in
      let rest : drop i extents ≡ extent ∷ drop (i + 1) extents =
      drop-cons extents i extent inside ∙ ap (λ (e : Extent). e ∷ drop (suc i) extents) (sym is) ∙ ap (λ (k : ℕ). extent ∷ drop k extents) next in
      ap (λ (es : List Extent). levels_from root deleted [] es image) (sym (take-append-drop i extents) ∙ ap (λ (es : List Extent). take i extents ++ es) rest)
      ∙ levels_append root deleted image [] (take i extents) (extent ∷ drop (i + 1) extents) ∙ (rw so_far rw fails refl)

-- an answer that is an error
pub error_answers : {X Y : Type 0} (view : X → Y) (fault : LoadFault) (found : Result Y ℕ) → ((place : ℕ) → fault ≡ faults.Damaged place → found ≡ Err place) → Answers view (Err fault) found
error_answers view faults.Disk found damaged = tt
error_answers view faults.Memory found damaged = tt
error_answers view (faults.Damaged place) found damaged = damaged place refl

-- ---- an extent among those of a root

pub record IsAt (extents : List Extent) (i : ℕ) (extent : Extent) : Type 0 where
  pub inside : i < length extents
  pub is : extent ≡ get_or extents i extent

pub extent_at : (extents same : List Extent) (i : ℕ) (d : Extent) → same ≡ extents → i < length same → IsAt extents i (get_or same i d)
extent_at extents same i d is inside =
    let here : i < length extents = subst (λ (es : List Extent). i < length es) is inside in
    record { inside = here; is = ap (λ (es : List Extent). get_or es i d) is ∙ get_or_default extents i d (get_or same i d) here }

-- the extents up to behind one
pub extents_more : (extents : List Extent) (i : ℕ) (extent : Extent) → IsAt extents i extent → take i extents ++ extent ∷ [] ≡ take (i + 1) extents
extents_more extents i extent at = ap (λ (e : Extent). take i extents ++ e ∷ []) at.is ∙ sym (take_more extents i extent at.inside)

-- what is counted of the extents up to behind one
pub counted_more : (f : Extent → ℕ) (extents : List Extent) (i : ℕ) (extent : Extent) → IsAt extents i extent → sum_by f (take (i + 1) extents) ≡ sum_by f (take i extents) + f extent
counted_more f extents i extent at = sum_by_more f extents i extent at.inside ∙ ap (λ (e : Extent). sum_by f (take i extents) + f e) (sym at.is)

-- and of all
pub counted_all : (f : Extent → ℕ) (extents : List Extent) (i : ℕ) (extent : Extent) → IsAt extents i extent → sum_by f (take i extents) + f extent ≤ sum_by f extents
counted_all f extents i extent at = omega (arith, sum_by_more_le f extents i extent at.inside, ap f at.is)
