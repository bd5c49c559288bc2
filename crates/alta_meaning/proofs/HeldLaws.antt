-- What is held goes on with the image.
use Rattle.std.proofs.Common.{◌≡◌, ℕ, ◌≤◌, false, List, length, map, sym, ap, subst, ◌∙◌, Ok}
use Rattle.std.specs.Prelude.{◌==◌, ◌&&◌, nat_le}
use Rattle.std.specs.List.{All}
use Rattle.std.proofs.lemmas.List.Elements.{All-tail}
use Rattle.alta_layout.specs.Places.{half_start}
use Rattle.alta_disk.specs.Parts.{Touches}
use Rattle.alta_journal.specs.Journal.{Appended, Appends}
use Rattle.alta_journal.specs.declared.entry.Entry.{Entry}
use Rattle.alta_journal.proofs.Frames.{appends_touch}
use Rattle.alta_memlevel.specs.Added.{IsSpace}
use Rattle.alta_root.specs.Root.{extents_of}
use Rattle.alta_root.specs.Switches.{Switched, slot_range}
use Rattle.alta_root.proofs.Frames.{counts_sound}
use Rattle.alta_meaning.specs.Levels.{Level}
use Rattle.alta_meaning.specs.Views.{View, state_of, with_entry as view_with}
use Rattle.alta_meaning.specs.Work.{newest, newest_content}
use Rattle.alta_meaning.specs.Holding.{Holding, IsHeld}
use Rattle.alta_meaning.specs.Known.{known_of}
use Rattle.alta_meaning.specs.Opened.{Opened}
use Rattle.alta_meaning.specs.Ordered.{IsOrdered}
use Rattle.alta_meaning.specs.Standing.{AreLevels, tables_by, view_of}
use Rattle.alta_meaning.specs.Switching.{InPlace, IsPut, IsWritten, MayAppend, MayStand, with_entry}
use Rattle.alta_meaning.specs.Working.{entered, written}
use Rattle.alta_meaning.proofs.AppendLaws.{are_more, opened_appended}
use Rattle.alta_meaning.proofs.OrderLaws.{stands_ordered}
use Rattle.alta_meaning.proofs.PlaceLaws.{written_in_place}
use Rattle.alta_meaning.proofs.SpacedLaws.{held_spaced, written_stands}
use Rattle.alta_meaning.proofs.KeptStates.{written_keeps}
use Rattle.alta_meaning.proofs.SwitchLaws.{opened_switched, slot_spares}
use Rattle.alta_meaning.proofs.Untouched.{IsSame, extents_same, segments_on}
use Rattle.alta_meaning.proofs.WrittenLaws.{held_stands}

pub held_appended : (held : Holding) (entry : Entry) (old new : List ℕ) (is : IsHeld held old) → MayAppend entry is.opened is.is.named.known → Appends is.opened.root.version (half_start is.opened.slot) is.opened.tail entry old new
    → Appended is.opened.root.version (half_start is.opened.slot) is.opened.tail entry old new → IsHeld (entered held entry) new
held_appended held entry old new is may appends appended =
    let o = is.opened in
    record {
      opened = with_entry o entry;
      is = opened_appended o entry old new is.is may appends appended;
      are = are_more o entry old new (counts_sound o.slot o.root old is.is.counts) is.is.named may (appends_touch o.root.version (half_start o.slot) o.tail entry old new appends) held.view.levels is.are;
      view_is = ap (λ (v : View). view_with v entry) is.view_is;
      list_is = is.list_is;
    }

are_switched : (coming : Opened) (levels : List Level) (old new : List ℕ) → IsPut coming levels old → Touches (slot_range coming.slot) old new → AreLevels coming levels new
are_switched coming levels old new put touches = record {
  extents = put.are.extents;
  tables = put.are.tables;
  segments =
      segments_on levels old new
      (subst (All (IsSame old new)) put.are.extents
      (All-tail (IsSame old new) coming.root.deletions coming.root.levels.items
      (extents_same (slot_range coming.slot) old new (extents_of coming.root) touches (slot_spares coming.slot coming.slot coming.root (length old) put.follows.sound).extents)))
      put.are.segments;
}

pub held_switched : (then : Holding) (coming : Opened) (old new : List ℕ) → IsWritten coming then.view.levels old → IsOrdered (known_of (state_of then.view)) → Switched coming.slot coming.root old new
    → then.view ≡ view_of coming then.view.levels → then.list ≡ coming.root.deletions → IsHeld then new
held_switched then coming old new is ordered switched view_is list_is =
    let may = written_stands (state_of then.view) coming then.view.levels old is (ap state_of (sym view_is)) ordered in
    record {
      opened = coming;
      is = opened_switched coming old new (record { follows = may.follows; named = may.means.named }) switched;
      are = are_switched coming then.view.levels old new is.put switched.touches;
      view_is = view_is;
      list_is = list_is;
    }

pub written_may_stand : (limit : ℕ) (held then : Holding) (coming : Opened) (old image : List ℕ) → IsHeld held old → IsSpace (newest held.view)
    → (length held.view.levels == 16 && nat_le 1 (length (newest_content held.view).documents)) ≡ false → written limit held ≡ Ok then → then.view ≡ view_of coming then.view.levels
    → IsPut coming then.view.levels image → IsWritten coming then.view.levels image × MayStand (state_of held.view) coming image
written_may_stand limit held then coming old image is space few e view_is put =
    let spaced = held_spaced held old is space in
    let location : is.opened.root.next_location ≡ held.view.location = ap (λ (v : View). v.location) (sym is.view_is) in
    let positive : 1 ≤ held.view.location = subst (λ n. 1 ≤ n) location (counts_sound is.opened.slot is.opened.root old is.is.counts).location.0 in
    let here : InPlace coming.root then.view.deleted (map tables_by then.view.levels) =
    written_in_place limit held then coming.root spaced positive few e (ap (λ (v : View). v.next) (sym view_is)) (ap (λ (v : View). v.location) (sym view_is)) in
    let place : InPlace coming.root coming.deleted coming.levels =
    subst (InPlace coming.root coming.deleted) (sym put.are.tables) (subst (λ (ds : List ℕ). InPlace coming.root ds (map tables_by then.view.levels)) (ap (λ (v : View). v.deleted) view_is) here) in
    let written : IsWritten coming then.view.levels image = record { put = put; place = place } in (
      written,
      written_stands (state_of held.view) coming then.view.levels image written (ap state_of (sym view_is) ∙ written_keeps limit held then spaced few e) (stands_ordered (state_of held.view) old (held_stands held old is)),
    )
