-- What work leaves is in place, if it switches the root.
use Rattle.std.proofs.Common.{◌≡◌, ◌⊎◌, inl, inr, ℕ, ◌+◌, ◌<◌, ◌≤◌, List, [], ◌∷◌, ◌++◌, length, map, take, drop, refl, sym, ap, subst, ◌∙◌, arith, Ok, take-append-drop}
use Rattle.std.specs.Prelude.{◌&&◌, ◌==◌, nat_le, Option, None, Some}
use Rattle.std.specs.List.{All, filter}
use Rattle.std.proofs.lemmas.List.Elements.{All-append, All-filter, All-map}
use Rattle.std.proofs.lemmas.List.Folds.{flat_map-map}
use Rattle.alta_content.specs.declared.content.Content.{Content}
use Rattle.alta_memlevel.specs.Added.{Added}
use Rattle.alta_meaning.specs.Views.{View, state_of}
use Rattle.alta_meaning.specs.Work.{Job, Coming, coming, newest, newest_content, gone, gone_among, is_merged, job_of, oldest_joined, with_oldest, whole_of, level_rows, steps}
use Rattle.alta_meaning.proofs.Tests.{by_test}
use Rattle.alta_content.specs.Rows.{end_of}
use Rattle.alta_table.specs.Tables.{Tables}
use Rattle.alta_content.specs.declared.document.DocRow.{DocRow}
use Rattle.alta_meaning.specs.Holding.{Holding, IsHeld, IsSpaced, all_rows, taken_by_held}
use Rattle.alta_meaning.specs.Opened.{Opened, table_rows}
use Rattle.alta_meaning.specs.Ordered.{AreBelow, RowsPrecede}
use Rattle.alta_meaning.specs.Standing.{tables_by, view_of}
use Rattle.alta_meaning.specs.Switching.{InPlace, IsInPlace, IsPut, IsWritten, MayStand}
use Rattle.alta_meaning.specs.Working.{switched, written, flushed, merged, moved, worked, content_to_come, AreJoins, IsJoin, oldest_contents, all_contents}
use Rattle.alta_content.specs.Joining.{rows_in, joined_in, terms_in}
use Rattle.alta_meaning.proofs.JoinLaws.{coming_rows, rise_now, all_now}
use Rattle.alta_meaning.proofs.KnownLaws.{all_weaker}
use Rattle.alta_meaning.proofs.OrderLaws.{stands_ordered}
use Rattle.alta_meaning.proofs.PlaceLaws.{LiesBelow, cells_in, added_low, gone_ends, written_in_place}
use Rattle.alta_meaning.proofs.SpacedLaws.{written_stands}
use Rattle.alta_meaning.proofs.KeptStates.{by_levels, by_entries, contents_of, ok_is, placed_contents, rise_left, rows_append, rows_by_levels, switched_is}
use Rattle.alta_meaning.proofs.WellLaws.{by_merged, by_terms}
use Rattle.alta_meaning.proofs.WrittenLaws.{held_stands}
use Rattle.alta_memlevel.specs.Documents.{content_of}

-- all rows lie below what comes behind the newest documents
pub all_low : (view : View) → IsSpaced view → 1 ≤ view.location → All (LiesBelow (view.next + length (newest view)) (view.location + cells_in (newest view))) (all_rows view)
all_low view spaced positive =
    let P : DocRow → Type 0 = LiesBelow (view.next + length (newest view)) (view.location + cells_in (newest view)) in
    All-append P (level_rows view.levels) (map (λ (a : Added). a.row) (newest view))
    (all_weaker (LiesBelow view.next view.location) P (level_rows view.levels) (λ row low. (omega (arith, low.0), omega (arith, low.1))) spaced.below)
    (All-map P (λ (a : Added). a.row) (newest view) (added_low view.next view.location view.entries positive))

-- a switch whose contents have rows that rise and lie below
switch_in_place : (limit : ℕ) (held : Holding) (levels : List Coming) (job : Option Job) (then : Holding) → switched limit held levels job ≡ Ok then → RowsPrecede (rows_in (map content_to_come levels))
    → All (LiesBelow (held.view.next + length (newest held.view)) (held.view.location + cells_in (newest held.view))) (rows_in (map content_to_come levels)) → IsInPlace then.view
switch_in_place limit held levels job then e rise below root number location =
    let view = held.view in
    let is = switched_is limit held levels job then e in
    let now = is.now.levels in
    let rows : table_rows (map tables_by now) ≡ level_rows now = flat_map-map (λ (t : Tables). t.documents) tables_by now in
    let all : table_rows (map tables_by now) ≡ rows_in (map content_to_come levels) = rows ∙ sym (rows_by_levels now) ∙ ap rows_in (placed_contents limit (taken_by_held held) levels is.now is.placed_is) in
    let next : root.next_number ≡ view.next + length (newest view) = number ∙ ap (λ (h : Holding). h.view.next) is.then_is in
    let place : root.next_location ≡ view.location + cells_in (newest view) = location ∙ ap (λ (h : Holding). h.view.location) is.then_is in
    let deleted : gone_among view (table_rows (map tables_by now)) ≡ then.view.deleted = ap (gone_among view) rows ∙ ap (λ (h : Holding). h.view.deleted) (sym is.then_is) in
    subst (InPlace root then.view.deleted) (ap (λ (h : Holding). map tables_by h.view.levels) (sym is.then_is))
    (subst (λ (ds : List ℕ). InPlace root ds (map tables_by now)) deleted (record {
      rise = subst RowsPrecede (sym all) rise;
      below =
          subst (AreBelow root) (sym all)
          (all_weaker (LiesBelow (view.next + length (newest view)) (view.location + cells_in (newest view))) (λ (row : DocRow). (row.number < root.next_number) × (end_of row < root.next_location)) (rows_in (map content_to_come levels))
          (λ row low. (omega (arith, low.0, next), omega (arith, low.1, place))) below);
      ends = gone_ends view (map tables_by now);
    }))

join_in_place : (limit : ℕ) (held then : Holding) (c : Content) → IsSpaced held.view → 1 ≤ held.view.location → IsJoin held.view (oldest_contents held.view) c → switched limit held (with_oldest c held.view) None ≡ Ok then → IsInPlace then.view
join_in_place limit held then c spaced positive is e =
    let view = held.view in
    let levels = sym (take-append-drop 2 view.levels) in
    switch_in_place limit held (with_oldest c view) None then e (rise_now view spaced (take 2 view.levels) (drop 2 view.levels) levels c is)
    (all_now view spaced (take 2 view.levels) (drop 2 view.levels) levels c is (LiesBelow (view.next + length (newest view)) (view.location + cells_in (newest view))) (all_low view spaced positive))

merge_in_place : (limit : ℕ) (held then : Holding) (c : Content) → IsSpaced held.view → 1 ≤ held.view.location → IsJoin held.view (all_contents held.view) c → switched limit held (coming c) None ≡ Ok then → IsInPlace then.view
merge_in_place limit held then c spaced positive is e =
    let view = held.view in
    let P : DocRow → Type 0 = LiesBelow (view.next + length (newest view)) (view.location + cells_in (newest view)) in
    let rows : rows_in (map content_to_come (coming c)) ≡ filter is.keeps (all_rows view) =
    coming_rows c ∙ is.rows ∙ ap (filter is.keeps) (rows_append (contents_of view.levels) (content_of (newest view)) ∙ ap (λ (rs : List DocRow). rs ++ map (λ (a : Added). a.row) (newest view)) (rows_by_levels view.levels)) in
    switch_in_place limit held (coming c) None then e (subst RowsPrecede (sym rows) (rise_left is.keeps (all_rows view) spaced.rise)) (subst (All P) (sym rows) (All-filter is.keeps P (all_rows view) (all_low view spaced positive)))

-- ---- work

-- the root was not switched, or what is held then is in place
abbrev IsPlaced : Holding → Holding → Type 0
IsPlaced held then = (then.view ≡ held.view) ⊎ IsInPlace then.view

same_view : (held then : Holding) → held ≡ then → IsPlaced held then
same_view held then e = inl (ap (λ (h : Holding). h.view) (sym e))

written_placed : (limit : ℕ) (held then : Holding) → IsSpaced held.view → AreJoins held → 1 ≤ held.view.location → written limit held ≡ Ok then → IsInPlace then.view
written_placed limit held then spaced joins positive e =
    by_test (length held.view.levels == 16 && nat_le 1 (length (newest_content held.view).documents))
    (λ many. join_in_place limit held then (oldest_joined held.job held.view) spaced positive joins.oldest (sym (ap (by_levels limit held) many) ∙ e))
    (λ few root number location. written_in_place limit held then root spaced positive few e number location)

flush_placed : (limit : ℕ) (held then : Holding) → IsSpaced held.view → AreJoins held → 1 ≤ held.view.location → flushed limit held ≡ Ok then → IsPlaced held then
flush_placed limit held then spaced joins positive e =
    by_test (length held.view.entries == 0) (λ none. same_view held then (ok_is held then (sym (ap (by_entries limit held) none) ∙ e)))
    (λ some. inr (written_placed limit held then spaced joins positive (sym (ap (by_entries limit held) some) ∙ e)))

merge_placed : (limit : ℕ) (held then : Holding) → IsSpaced held.view → AreJoins held → 1 ≤ held.view.location → merged limit held ≡ Ok then → IsPlaced held then
merge_placed limit held then spaced joins positive e =
    by_test (is_merged held.view) (λ none. same_view held then (ok_is held then (sym (ap (by_merged limit held) none) ∙ e)))
    (λ some. inr (merge_in_place limit held then (joined_in (all_contents held.view) (gone held.view)) spaced positive joins.all (sym (ap (by_merged limit held) some) ∙ e)))

move_placed : (limit : ℕ) (held : Holding) (n : ℕ) (job : Option Job) (then : Holding) → IsSpaced held.view → 1 ≤ held.view.location → ((j : Job) → job ≡ Some j → IsJoin held.view (oldest_contents held.view) (whole_of j))
    → moved limit held n job ≡ Ok then → IsPlaced held then
move_placed limit held n None then spaced positive joins e = same_view held then (ok_is held then e)
move_placed limit held n (Some job) then spaced positive joins e =
    by_test (nat_le (length (terms_in (job.older ∷ job.newer ∷ []))) (job.merged + n))
    (λ ends. inr (join_in_place limit held then (whole_of job) spaced positive (joins job refl) (sym (ap (by_terms limit held n job) ends) ∙ e)))
    (λ goes_on. inl (ap (λ (h : Holding). h.view)
    (sym (ok_is (record { view = held.view; list = held.list; job = Some (record { older = job.older; newer = job.newer; dead = job.dead; merged = job.merged + n }) }) then (sym (ap (by_terms limit held n job) goes_on) ∙ e)))))

pub work_placed : (limit : ℕ) (held then : Holding) → IsSpaced held.view → AreJoins held → 1 ≤ held.view.location
    → (written limit held ≡ Ok then → IsInPlace then.view) × (flushed limit held ≡ Ok then → IsPlaced held then) × (merged limit held ≡ Ok then → IsPlaced held then) × ((n : ℕ) → worked limit held (steps n) ≡ Ok then → IsPlaced held then)
work_placed limit held then spaced joins positive = (
  written_placed limit held then spaced joins positive,
  flush_placed limit held then spaced joins positive,
  merge_placed limit held then spaced joins positive,
  λ n e. move_placed limit held n (job_of held.job held.view) then spaced positive joins.whole e,
)

-- Where the state stays, what was put on the disk may stand for it.
pub placed_may_stand : (held then : Holding) (coming : Opened) (old image : List ℕ) → IsHeld held old → state_of then.view ≡ state_of held.view → IsInPlace then.view → then.view ≡ view_of coming then.view.levels
    → IsPut coming then.view.levels image → IsWritten coming then.view.levels image × MayStand (state_of held.view) coming image
placed_may_stand held then coming old image is same in_place view_is put =
    let here : InPlace coming.root then.view.deleted (map tables_by then.view.levels) = in_place coming.root (ap (λ (v : View). v.next) (sym view_is)) (ap (λ (v : View). v.location) (sym view_is)) in
    let place : InPlace coming.root coming.deleted coming.levels =
    subst (InPlace coming.root coming.deleted) (sym put.are.tables) (subst (λ (ds : List ℕ). InPlace coming.root ds (map tables_by then.view.levels)) (ap (λ (v : View). v.deleted) view_is) here) in
    let written : IsWritten coming then.view.levels image = record { put = put; place = place } in (
      written,
      written_stands (state_of held.view) coming then.view.levels image written (ap state_of (sym view_is) ∙ same) (stands_ordered (state_of held.view) old (held_stands held old is)),
    )
