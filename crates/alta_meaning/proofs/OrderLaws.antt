-- The numbers of live documents rise, and their names differ, in what an image is opened as and stands for.
use Rattle.std.proofs.Common.{◌≡◌, ◌≢◌, ℕ, ◌+◌, ◌<◌, ◌≤◌, Bool, true, false, List, [], ◌∷◌, ◌++◌, map, refl, sym, ap, subst, ◌∙◌, arith, Result, Ok, Err, append_assoc}
use Rattle.std.specs.Prelude.{not, ◌&&◌, nat_lt}
use Rattle.std.specs.List.{All, flat_map, list_all}
use Rattle.std.proofs.lemmas.Grind.{flat_map-append}
use Rattle.std.proofs.lemmas.List.{map-append, append-nil}
use Rattle.std.proofs.lemmas.List.Elements.{All-nil, All-cons, All-head, All-tail, All-append, All-map, All-filter, filter-append}
use Rattle.alta_layout.specs.Places.{half_start}
use Rattle.alta_codec.specs.declared.extent.Extent.{Extent}
use Rattle.alta_journal.specs.Placed.{placed}
use Rattle.alta_level.specs.Segments.{IsSegment}
use Rattle.alta_content.specs.Rows.{AreDocuments, AreDocumentsBehind, Before, behind_row, end_of, ends_among, start}
use Rattle.alta_journal.specs.declared.entry.Entry.{Entry}
use Rattle.alta_journal.specs.declared.entry.Entry.TheVariants.{Add, Delete, Replace}
use Rattle.alta_machine.specs.States.{IsState, AllDiffer, name_of, number_of, Rise as StateRise}
use Rattle.alta_machine.specs.declared.document.Document.{Document}
use Rattle.alta_machine.specs.declared.document.State.{State}
use Rattle.alta_root.specs.declared.root.Root.{Root}
use Rattle.alta_root.proofs.Frames.{counts_sound}
use Rattle.alta_meaning.specs.Entries.{after_entry, after_entries}
use Rattle.alta_meaning.specs.Levels.{Level, document_of, documents_of, live_rows}
use Rattle.alta_meaning.specs.Views.{rooted}
use Rattle.alta_meaning.proofs.Tests.{by_test, filter_keep, filter_drop, and_left, and_right, below_from}
use Rattle.alta_table.specs.Places.{name_place}
use Rattle.alta_table.specs.Tables.{Tables}
use Rattle.alta_content.specs.declared.document.DocRow.{DocRow}
use Rattle.alta_meaning.specs.Chain.{◌>>=◌}
use Rattle.alta_meaning.specs.Known.{Named, Known, named, is_taken, named_of, known_of, replayed}
use Rattle.alta_meaning.specs.Opened.{Opened, IsNamed, bytes_at, tables_at, comes_behind, is_below, are_in_order, names_from, names_in, with_level, levels_from, table_rows, live_in, known_at}
use Rattle.alta_meaning.specs.Ordered.{IsBefore, AreOrdered, IsOrdered}
use Rattle.alta_meaning.specs.Standing.{Means, StandsFor, tables_by, view_of}
use Rattle.alta_meaning.proofs.KnownLaws.{IsWithin, all_weaker, all_both, all_others, ordered_snoc, ordered_all, allows_replayed}
use Rattle.alta_meaning.proofs.Steps.{not_failed, one_value}

-- ---- live rows

pub live_keep : (deleted : List ℕ) (row : DocRow) (rows : List DocRow) → ends_among deleted row ≡ false → live_in deleted (row ∷ rows) ≡ named row.name row.number ∷ live_in deleted rows
live_keep deleted row rows lives = ap (λ (rs : List DocRow). map (λ (r : DocRow). named r.name r.number) rs) (filter_keep (λ (r : DocRow). not (ends_among deleted r)) row rows (ap not lives))

pub live_drop : (deleted : List ℕ) (row : DocRow) (rows : List DocRow) → ends_among deleted row ≡ true → live_in deleted (row ∷ rows) ≡ live_in deleted rows
live_drop deleted row rows dead = ap (λ (rs : List DocRow). map (λ (r : DocRow). named r.name r.number) rs) (filter_drop (λ (r : DocRow). not (ends_among deleted r)) row rows (ap not dead))

pub live_append : (deleted : List ℕ) (xs ys : List DocRow) → live_in deleted (xs ++ ys) ≡ live_in deleted xs ++ live_in deleted ys
live_append deleted xs ys =
    ap (λ (rs : List DocRow). map (λ (r : DocRow). named r.name r.number) rs) (filter-append (λ (r : DocRow). not (ends_among deleted r)) xs ys)
    ∙ map-append (λ (r : DocRow). named r.name r.number) (live_rows deleted xs) (live_rows deleted ys)

pub rows_more : (levels : List Tables) (level : Tables) → table_rows (levels ++ level ∷ []) ≡ table_rows levels ++ level.documents
rows_more levels level = flat_map-append (λ (t : Tables). t.documents) levels (level ∷ []) ∙ ap (λ (rs : List DocRow). table_rows levels ++ rs) (append-nil level.documents)

-- what each row has each live document has
all_live : (deleted : List ℕ) (P : ℕ → Type 0) (rows : List DocRow) → All (λ (r : DocRow). P r.number) rows → All (λ (x : Named). P x.number) (live_in deleted rows)
all_live deleted P rows all =
    All-map (λ (x : Named). P x.number) (λ (r : DocRow). named r.name r.number) (live_rows deleted rows) (All-filter (λ (r : DocRow). not (ends_among deleted r)) (λ (r : DocRow). P r.number) rows all)

-- ---- tests

pub all_from : {X : Type 0} (p : X → Bool) (xs : List X) → list_all p xs ≡ true → All (λ x. p x ≡ true) xs
all_from p [] e = All-nil (λ x. p x ≡ true)
all_from p (x ∷ xs) e = All-cons (λ x. p x ≡ true) x xs (and_left (p x) (list_all p xs) e) (all_from p xs (and_right (p x) (list_all p xs) e))

-- ---- rows of a level

-- each row has a higher number than those before it, and a first one than `low`
abbrev Rise : ℕ → List DocRow → Type 0
Rise low [] = Unit {0}
Rise low (row ∷ rows) = (low < row.number) × Rise row.number rows

rise_from : (before : Before) (rows : List DocRow) → AreDocumentsBehind before rows → Rise before.number rows
unfolding AreDocumentsBehind
rise_from before [] are = tt
rise_from before (row ∷ rows) are = (are.0.rises, rise_from (behind_row before row) rows are.1)

rise_lower : (low lower : ℕ) (rows : List DocRow) → lower ≤ low → Rise low rows → Rise lower rows
rise_lower low lower [] le rise = tt
rise_lower low lower (row ∷ rows) le rise = (omega (arith, le, rise.0), rise.1)

rise_above : (low : ℕ) (rows : List DocRow) → Rise low rows → All (λ (r : DocRow). low < r.number) rows
rise_above low [] rise = All-nil (λ (r : DocRow). low < r.number)
rise_above low (row ∷ rows) rise = All-cons (λ (r : DocRow). low < r.number) row rows rise.0 (rise_above low rows (rise_lower row.number low rows (omega (arith, rise.0)) rise.1))

-- the row has a higher number than all these
abbrev IsAbove : List Named → DocRow → Type 0
IsAbove live row = All (λ (x : Named). x.number < row.number) live

above_more : (live : List Named) (row : DocRow) (rows : List DocRow) → All (IsAbove live) rows → Rise row.number rows → All (IsAbove (live ++ named row.name row.number ∷ [])) rows
above_more live row rows all rise =
    all_weaker (λ (r : DocRow). IsAbove live r × (row.number < r.number)) (IsAbove (live ++ named row.name row.number ∷ [])) rows
    (λ r both. All-append (λ (x : Named). x.number < r.number) live (named row.name row.number ∷ []) both.0
    (All-cons (λ (x : Named). x.number < r.number) (named row.name row.number) [] both.1 (All-nil (λ (x : Named). x.number < r.number))))
    (all_both (IsAbove live) (λ (r : DocRow). row.number < r.number) rows all (rise_above row.number rows rise))

-- live documents whose names were tested one by one, and whose numbers rise
rows_ordered : (deleted : List ℕ) (level : Tables) (live : List Named) (i low : ℕ) (rows : List DocRow) (out : List Named) → names_from deleted level live i rows ≡ Ok out
    → AreOrdered live → Rise low rows → All (IsAbove live) rows → AreOrdered (live ++ live_in deleted rows)
rows_ordered deleted level live i low [] out e ordered rise above = subst AreOrdered (sym (append-nil live)) ordered
rows_ordered deleted level live i low (row ∷ rows) out e ordered rise above =
    by_test (ends_among deleted row)
    (λ dead. subst (λ (l : List Named). AreOrdered (live ++ l)) (sym (live_drop deleted row rows dead))
    (rows_ordered deleted level live (i + 1) row.number rows out
    (sym (passed deleted level live i row rows dead) ∙ e)
    ordered rise.1 (All-tail (IsAbove live) row rows above)))
    (λ lives. by_test (is_taken row.name live)
    (λ taken. absurd (not_failed (names_from deleted level live i (row ∷ rows)) out (name_place level i) e (second deleted level live i row rows lives taken)))
    (λ free.
    let more : names_from deleted level (live ++ named row.name row.number ∷ []) (i + 1) rows ≡ Ok out =
    sym (step deleted level live i row rows lives free) ∙ e in
    subst AreOrdered
    (append_assoc live (named row.name row.number ∷ []) (live_in deleted rows) ∙ ap (λ (l : List Named). live ++ l) (sym (live_keep deleted row rows lives)))
    (rows_ordered deleted level (live ++ named row.name row.number ∷ []) (i + 1) row.number rows out more
    (ordered_snoc live (named row.name row.number) ordered
    (all_both (λ (x : Named). x.number < row.number) (λ (x : Named). x.name ≢ row.name) live (All-head (IsAbove live) row rows above) (all_others row.name live free)))
    rise.1 (above_more live row rows (All-tail (IsAbove live) row rows above) rise.1))))
  where
    step : (deleted : List ℕ) (level : Tables) (live : List Named) (i : ℕ) (row : DocRow) (rows : List DocRow) → ends_among deleted row ≡ false → is_taken row.name live ≡ false
        → names_from deleted level live i (row ∷ rows) ≡ names_from deleted level (live ++ named row.name row.number ∷ []) (i + 1) rows
    step deleted level live i row rows lives free = rw lives rw free refl

    passed : (deleted : List ℕ) (level : Tables) (live : List Named) (i : ℕ) (row : DocRow) (rows : List DocRow) → ends_among deleted row ≡ true
        → names_from deleted level live i (row ∷ rows) ≡ names_from deleted level live (i + 1) rows
    passed deleted level live i row rows dead = rw dead refl

    second : (deleted : List ℕ) (level : Tables) (live : List Named) (i : ℕ) (row : DocRow) (rows : List DocRow) → ends_among deleted row ≡ false → is_taken row.name live ≡ true
        → names_from deleted level live i (row ∷ rows) ≡ Err (name_place level i)
    second deleted level live i row rows lives taken = rw lives rw taken refl

-- ---- a level behind others

-- the level's numbers lie above those of the live documents before it
above_before : (root : Root) (deleted : List ℕ) (levels : List Tables) (rows : List DocRow) → are_in_order root levels rows ≡ true → All (IsAbove (live_in deleted (table_rows levels))) rows
above_before root deleted levels rows ordered =
    all_weaker (λ (row : DocRow). (is_below root row && list_all (λ (earlier : DocRow). comes_behind earlier row) (table_rows levels)) ≡ true) (IsAbove (live_in deleted (table_rows levels))) rows
    (λ row e. all_live deleted (λ (n : ℕ). n < row.number) (table_rows levels)
    (all_weaker (λ (earlier : DocRow). comes_behind earlier row ≡ true) (λ (earlier : DocRow). earlier.number < row.number) (table_rows levels)
    (λ earlier behind. below_from earlier.number row.number (and_left (nat_lt earlier.number row.number) (nat_lt (end_of earlier) row.first) behind))
    (all_from (λ (earlier : DocRow). comes_behind earlier row) (table_rows levels) (and_right (is_below root row) (list_all (λ (earlier : DocRow). comes_behind earlier row) (table_rows levels)) e))))
    (all_from (λ (row : DocRow). is_below root row && list_all (λ (earlier : DocRow). comes_behind earlier row) (table_rows levels)) rows ordered)

-- and below the next number of the root
below_root : (root : Root) (levels : List Tables) (rows : List DocRow) → are_in_order root levels rows ≡ true → All (λ (r : DocRow). r.number < root.next_number) rows
below_root root levels rows ordered =
    all_weaker (λ (row : DocRow). (is_below root row && list_all (λ (earlier : DocRow). comes_behind earlier row) (table_rows levels)) ≡ true) (λ (r : DocRow). r.number < root.next_number) rows
    (λ row e. below_from row.number root.next_number
    (and_left (nat_lt row.number root.next_number) (nat_lt (end_of row) root.next_location) (and_left (is_below root row) (list_all (λ (earlier : DocRow). comes_behind earlier row) (table_rows levels)) e)))
    (all_from (λ (row : DocRow). is_below root row && list_all (λ (earlier : DocRow). comes_behind earlier row) (table_rows levels)) rows ordered)

pub level_ordered : (root : Root) (deleted : List ℕ) (levels : List Tables) (level : Tables) (live : List Named) → AreDocuments level.documents → are_in_order root levels level.documents ≡ true
    → names_in deleted levels level ≡ Ok live → IsOrdered (known_at root deleted levels) → IsOrdered (known_at root deleted (levels ++ level ∷ []))
level_ordered root deleted levels level live are ordered names known =
    let rise : Rise 0 level.documents = rise_from start level.documents are in
    let all_rows : live_in deleted (table_rows (levels ++ level ∷ [])) ≡ live_in deleted (table_rows levels) ++ live_in deleted level.documents =
    ap (λ (rows : List DocRow). live_in deleted rows) (rows_more levels level) ∙ live_append deleted (table_rows levels) level.documents in
    record {
      ordered =
          subst AreOrdered (sym all_rows)
          (rows_ordered deleted level (live_in deleted (table_rows levels)) 0 0 level.documents live names known.ordered rise (above_before root deleted levels level.documents ordered));
      within =
          subst (All (IsWithin root.next_number)) (sym all_rows)
          (All-append (IsWithin root.next_number) (live_in deleted (table_rows levels)) (live_in deleted level.documents) known.within
          (all_live deleted (λ (n : ℕ). (1 ≤ n) × (n < root.next_number)) level.documents
          (all_both (λ (r : DocRow). 1 ≤ r.number) (λ (r : DocRow). r.number < root.next_number) level.documents
          (all_weaker (λ (r : DocRow). 0 < r.number) (λ (r : DocRow). 1 ≤ r.number) level.documents (λ r some. omega (arith, some)) (rise_above 0 level.documents rise))
          (below_root root levels level.documents ordered))));
    }

-- ---- all levels

abbrev pub HasDocuments : Tables → Type 0
HasDocuments t = AreDocuments t.documents

-- what one level more is
pub record IsMore (root : Root) (deleted : List ℕ) (levels longer : List Tables) : Type 0 where
  pub level : Tables
  pub live : List Named
  pub ordered : are_in_order root levels level.documents ≡ true
  pub names : names_in deleted levels level ≡ Ok live
  pub longer_is : longer ≡ levels ++ level ∷ []

module _ (root : Root) (deleted : List ℕ) (levels longer : List Tables) (extent : Extent) (image : List ℕ) (e : with_level root deleted levels extent image ≡ Ok longer) where
  by_names : (level : Tables) → tables_at extent image ≡ Ok level → are_in_order root levels level.documents ≡ true → (r : Result (List Named) ℕ) → names_in deleted levels level ≡ r → IsMore root deleted levels longer
  by_names level found ordered (Ok live) names = record {
    level = level;
    live = live;
    ordered = ordered;
    names = names;
    longer_is = one_value (with_level root deleted levels extent image) longer (levels ++ level ∷ []) e (rw found rw ordered rw names refl);
  }
  by_names level found ordered (Err place) names = absurd (not_failed (with_level root deleted levels extent image) longer place e (rw found rw ordered rw names refl))

  by_tables : (r : Result Tables ℕ) → tables_at extent image ≡ r → IsMore root deleted levels longer
  by_tables (Ok level) found =
      by_test (are_in_order root levels level.documents) (λ ordered. by_names level found ordered (names_in deleted levels level) refl)
      (λ wrong. absurd (not_failed (with_level root deleted levels extent image) longer extent.place e (rw found rw wrong refl)))
  by_tables (Err place) found = absurd (not_failed (with_level root deleted levels extent image) longer place e (rw found refl))

  pub is_more : IsMore root deleted levels longer
  is_more = by_tables (tables_at extent image) refl

-- the first step of levels
pub record IsFirst (root : Root) (deleted : List ℕ) (levels : List Tables) (extent : Extent) (more : List Extent) (image : List ℕ) (final : List Tables) : Type 0 where
  pub longer : List Tables
  pub here : with_level root deleted levels extent image ≡ Ok longer
  pub rest : levels_from root deleted longer more image ≡ Ok final

pub first_of_levels : (root : Root) (deleted : List ℕ) (levels : List Tables) (extent : Extent) (more : List Extent) (image : List ℕ) (final : List Tables) (r : Result (List Tables) ℕ) → with_level root deleted levels extent image ≡ r
    → levels_from root deleted levels (extent ∷ more) image ≡ Ok final → IsFirst root deleted levels extent more image final
first_of_levels root deleted levels extent more image final (Ok longer) here e = record {
  longer = longer;
  here = here;
  rest = sym (ap (λ (r : Result (List Tables) ℕ). r >>= λ longer. levels_from root deleted longer more image) here) ∙ e;
}
first_of_levels root deleted levels extent more image final (Err place) here e =
    absurd (not_failed (levels_from root deleted levels (extent ∷ more) image) final place e (ap (λ (r : Result (List Tables) ℕ). r >>= λ longer. levels_from root deleted longer more image) here))

-- the levels before stand in front
pub in_front : (root : Root) (deleted : List ℕ) (levels : List Tables) (extents : List Extent) (image : List ℕ) (final : List Tables) → levels_from root deleted levels extents image ≡ Ok final
    → (behind : List Tables) × (final ≡ levels ++ behind)
in_front root deleted levels [] image final e = ([], sym (one_value {E = ℕ} (Ok levels) levels final refl e) ∙ sym (append-nil levels))
in_front root deleted levels (extent ∷ more) image final e =
    let first = first_of_levels root deleted levels extent more image final (with_level root deleted levels extent image) refl e in
    let step = is_more root deleted levels first.longer extent image first.here in
    let rest = in_front root deleted first.longer more image final first.rest in
    (step.level ∷ rest.0, rest.1 ∙ ap (λ (l : List Tables). l ++ rest.0) step.longer_is ∙ append_assoc levels (step.level ∷ []) rest.0)

pub all_middle : (P : Tables → Type 0) (xs : List Tables) (x : Tables) (ys : List Tables) → All P (xs ++ x ∷ ys) → P x
all_middle P [] x ys all = All-head P x ys all
all_middle P (z ∷ xs) x ys all = all_middle P xs x ys (All-tail P z (xs ++ x ∷ ys) all)

levels_ordered : (root : Root) (deleted : List ℕ) (levels : List Tables) (extents : List Extent) (image : List ℕ) (final : List Tables) → levels_from root deleted levels extents image ≡ Ok final
    → All HasDocuments final → IsOrdered (known_at root deleted levels) → IsOrdered (known_at root deleted final)
levels_ordered root deleted levels [] image final e all known = subst (λ (ls : List Tables). IsOrdered (known_at root deleted ls)) (one_value {E = ℕ} (Ok levels) levels final refl e) known
levels_ordered root deleted levels (extent ∷ more) image final e all known =
    let first = first_of_levels root deleted levels extent more image final (with_level root deleted levels extent image) refl e in
    let step = is_more root deleted levels first.longer extent image first.here in
    let rest = in_front root deleted first.longer more image final first.rest in
    let split : final ≡ levels ++ step.level ∷ rest.0 = rest.1 ∙ ap (λ (l : List Tables). l ++ rest.0) step.longer_is ∙ append_assoc levels (step.level ∷ []) rest.0 in
    levels_ordered root deleted first.longer more image final first.rest all
    (subst (λ (ls : List Tables). IsOrdered (known_at root deleted ls)) (sym step.longer_is)
    (level_ordered root deleted levels step.level step.live (all_middle HasDocuments levels step.level rest.0 (subst (All HasDocuments) split all)) step.ordered step.names known))

-- what is known before the entries is in order
pub known_ordered : (o : Opened) (image : List ℕ) → IsNamed o image → All HasDocuments o.levels → IsOrdered (known_at o.root o.deleted o.levels)
known_ordered o image named all =
    levels_ordered o.root o.deleted [] o.root.levels.items image o.levels named.tables all (record { ordered = tt; within = All-nil (IsWithin o.root.next_number) })

-- ---- of a view

pub documents_named : (deleted : List ℕ) (level : Level) → map named_of (documents_of deleted level) ≡ live_in deleted level.content.documents
documents_named deleted level = twice (live_rows deleted level.content.documents)
  where
    twice : (rows : List DocRow) → map named_of (map (document_of level.content.lists) rows) ≡ map (λ (r : DocRow). named r.name r.number) rows
    twice [] = refl
    twice (row ∷ rows) = ap (λ (l : List Named). named row.name row.number ∷ l) (twice rows)

pub levels_named : (deleted : List ℕ) (levels : List Level) → map named_of (flat_map (documents_of deleted) levels) ≡ live_in deleted (table_rows (map tables_by levels))
levels_named deleted [] = refl
levels_named deleted (level ∷ levels) =
    map-append named_of (documents_of deleted level) (flat_map (documents_of deleted) levels)
    ∙ ap (λ (l : List Named). l ++ map named_of (flat_map (documents_of deleted) levels)) (documents_named deleted level)
    ∙ ap (λ (l : List Named). live_in deleted level.content.documents ++ l) (levels_named deleted levels)
    ∙ sym (live_append deleted level.content.documents (table_rows (map tables_by levels)))

known_with : ℕ → List Named → Known
known_with next live = record { next = next; live = live }

-- what is known of a view's root is what is known of the state that it speaks of
pub rooted_known : (o : Opened) (levels : List Level) → o.levels ≡ map tables_by levels → known_at o.root o.deleted o.levels ≡ known_of (rooted (view_of o levels))
unfolding known_with
rooted_known o levels tables =
    ap (known_with o.root.next_number) (ap (λ (ts : List Tables). live_in o.deleted (table_rows ts)) tables ∙ sym (levels_named o.deleted levels))

pub has_documents : (levels : List Level) (image : List ℕ) → All (λ (l : Level). IsSegment (bytes_at l.extent image) l.content) levels → All HasDocuments (map tables_by levels)
has_documents levels image segments =
    All-map HasDocuments tables_by levels (all_weaker (λ (l : Level). IsSegment (bytes_at l.extent image) l.content) (λ (l : Level). AreDocuments l.content.documents) levels (λ l segment. segment.stands.documents_stand) segments)

-- what an image is known to have behind the entries is what its state has
pub means_known : (s : State) (o : Opened) (image : List ℕ) → (means : Means s o image) → means.named.known ≡ known_of s
means_known s o image means =
    let e = means.named.admitted in
    let here = rooted_known o means.levels means.are.tables in
    (allows_replayed (rooted (view_of o means.levels)) _ o.entries means.named.known (subst (λ (k : Known). replayed k (placed (half_start o.slot) o.entries) ≡ Ok means.named.known) here e)).1
    ∙ ap known_of means.state_is

-- the state that an image stands for has numbers that rise from 1 to below the next, and different names
pub means_ordered : (s : State) (o : Opened) (image : List ℕ) → 1 ≤ o.root.next_number → Means s o image → IsOrdered (known_of s)
means_ordered s o image some means =
    let here = rooted_known o means.levels means.are.tables in
    let first : IsOrdered (known_of (rooted (view_of o means.levels))) =
    subst IsOrdered here (known_ordered o image means.named (subst (All HasDocuments) (sym means.are.tables) (has_documents means.levels image means.are.segments))) in
    let allows = allows_replayed (rooted (view_of o means.levels)) (half_start o.slot) o.entries means.named.known (subst (λ (k : Known). replayed k (placed (half_start o.slot) o.entries) ≡ Ok means.named.known) here means.named.admitted) in
    subst (λ (t : State). IsOrdered (known_of t)) means.state_is (ordered_all (rooted (view_of o means.levels)) o.entries first some allows.0)

pub stands_ordered : (s : State) (image : List ℕ) → StandsFor s image → IsOrdered (known_of s)
stands_ordered s image stands = means_ordered s stands.opened image (counts_sound stands.opened.slot stands.opened.root image stands.counts).number.0 stands.means

-- ---- the state is well formed

pub all_before : (P : Named → Type 0) (ds : List Document) → All P (map named_of ds) → All (λ (d : Document). P (named_of d)) ds
all_before P [] all = All-nil (λ (d : Document). P (named_of d))
all_before P (d ∷ ds) all = All-cons (λ (d : Document). P (named_of d)) d ds (All-head P (named_of d) (map named_of ds) all) (all_before P ds (All-tail P (named_of d) (map named_of ds) all))

numbers_rise : (ds : List Document) → AreOrdered (map named_of ds) → StateRise (map number_of ds)
numbers_rise [] ordered = tt
numbers_rise (d ∷ ds) ordered = (
  All-map (λ n. d.number < n) number_of ds (all_weaker (λ (e : Document). IsBefore (named_of d) (named_of e)) (λ (e : Document). d.number < e.number) ds (λ e before. before.0) (all_before (IsBefore (named_of d)) ds ordered.0)),
  numbers_rise ds ordered.1,
)

names_differ : (ds : List Document) → AreOrdered (map named_of ds) → AllDiffer (map name_of ds)
names_differ [] ordered = tt
names_differ (d ∷ ds) ordered = (
  All-map (λ n. d.name ≢ n) name_of ds (all_weaker (λ (e : Document). IsBefore (named_of d) (named_of e)) (λ (e : Document). d.name ≢ e.name) ds (λ e before. before.1) (all_before (IsBefore (named_of d)) ds ordered.0)),
  names_differ ds ordered.1,
)

pub is_state : (s : State) → IsOrdered (known_of s) → 1 ≤ s.next → IsState s
is_state s ordered some = record {
  next = some;
  numbered = all_before (IsWithin s.next) s.documents ordered.within;
  rising = numbers_rise s.documents ordered.ordered;
  distinct = names_differ s.documents ordered.ordered;
}

next_stays : (s : State) (entries : List Entry) → 1 ≤ s.next → 1 ≤ (after_entries s entries).next
next_stays s [] some = some
next_stays s (Add name title body ∷ entries) some = next_stays (after_entry s (Add name title body)) entries (omega (arith, some))
next_stays s (Delete number ∷ entries) some = next_stays (after_entry s (Delete number)) entries some
next_stays s (Replace number name title body ∷ entries) some = next_stays (after_entry s (Replace number name title body)) entries (omega (arith, some))

pub stands_well : (s : State) (image : List ℕ) → StandsFor s image → IsState s
stands_well s image stands =
    let o = stands.opened in
    let some : 1 ≤ o.root.next_number = (counts_sound o.slot o.root image stands.counts).number.0 in
    is_state s (stands_ordered s image stands) (subst (λ (t : State). 1 ≤ t.next) stands.means.state_is (next_stays (rooted (view_of o stands.means.levels)) o.entries some))
