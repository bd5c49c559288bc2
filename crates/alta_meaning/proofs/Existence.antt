-- Each image has no root, breaks a rule at a place, or is opened.
use Rattle.std.proofs.Common.{◌≡◌, ◌⊎◌, ⊎_elim, inl, inr, ℕ, Bool, true, false, List, [], ◌∷◌, ◌++◌, refl, sym, ap, ◌∙◌, Result, Ok, Err, append_assoc}
use Rattle.std.proofs.lemmas.List.{append-nil}
use Rattle.alta_layout.specs.Places.{half_start}
use Rattle.alta_layout.specs.declared.slot.Slot.{Slot}
use Rattle.alta_codec.specs.declared.extent.Extent.{Extent}
use Rattle.alta_journal.specs.Journal.{EndsAt}
use Rattle.alta_journal.specs.Placed.{placed}
use Rattle.alta_journal.specs.declared.entry.Entry.{Entry}
use Rattle.alta_journal.proofs.Total.{read_or_broken}
use Rattle.alta_root.specs.Slots.{Counts, HasNoRoot, Shows}
use Rattle.alta_root.specs.declared.fault.RootFault.{RootFault}
use Rattle.alta_root.specs.declared.fault.RootFault.TheVariants as faults
use Rattle.alta_root.specs.declared.root.Root.{Root}
use Rattle.alta_root.specs.declared.root.Roots.{Roots}
use Rattle.alta_root.proofs.SlotLaws.{some_answer}
use Rattle.alta_table.specs.Tables.{Tables}
use Rattle.alta_meaning.specs.Broken.{ComesTo, HasLevels, IsBrokenAt, in_slots, in_list, in_tables, out_of_order, in_names, without_end, in_records, in_entries}
use Rattle.alta_meaning.specs.Known.{Named, Known, replayed}
use Rattle.alta_meaning.specs.Opened.{Opened, IsOpened, deleted_in, tables_at, are_in_order, names_in, with_level, levels_from, levels_in, have_ends, known_at}
use Rattle.alta_meaning.proofs.Steps.{levels_append}

abbrev pub IsShown : List ℕ → Type 0
IsShown image = HasNoRoot image ⊎ (((place : ℕ) × IsBrokenAt image place) ⊎ ((opened : Opened) × IsOpened opened image))

-- a level whose steps are fine
pub level_found : (root : Root) (deleted : List ℕ) (levels : List Tables) (extent : Extent) (image : List ℕ) (level : Tables) (live : List Named) → tables_at extent image ≡ Ok level → are_in_order root levels level.documents ≡ true
    → names_in deleted levels level ≡ Ok live → with_level root deleted levels extent image ≡ Ok (levels ++ level ∷ [])
level_found root deleted levels extent image level live found ordered named = rw found rw ordered rw named refl

module _ (image : List ℕ) (slot : Slot) (root : Root) (counts : Counts slot root image) where
  broken : (place : ℕ) → IsBrokenAt image place → IsShown image
  broken place b = inr (inl (place, b))

  module _ (deleted : List ℕ) (list : deleted_in root image ≡ Ok deleted) where
    module _ (levels : List Tables) (tables : levels_in root deleted image ≡ Ok levels) where
      has : HasLevels slot root deleted levels image
      has = record { counts = counts; list = list; tables = tables }

      by_entries : have_ends levels deleted ≡ true → (entries : List Entry) (tail : ℕ) → EndsAt root.version (half_start slot) tail entries image → (r : Result Known ℕ)
          → replayed (known_at root deleted levels) (placed (half_start slot) entries) ≡ r → IsShown image
      by_entries ends entries tail journal (Ok known) e =
          inr (inr (
            record { slot = slot; root = root; deleted = deleted; levels = levels; entries = entries; tail = tail },
            record { counts = counts; named = record { list = list; tables = tables; ends = ends; journal = journal; known = known; admitted = e } },
          ))
      by_entries ends entries tail journal (Err place) e = broken place (in_entries slot root deleted levels entries tail place has ends journal e)

      by_ends : (b : Bool) → have_ends levels deleted ≡ b → IsShown image
      by_ends true ends =
          ⊎_elim (λ (tail, entries, journal). by_entries ends entries tail journal (replayed (known_at root deleted levels) (placed (half_start slot) entries)) refl)
          (λ (place, bad). broken place (in_records slot root deleted levels place has ends bad)) (read_or_broken root.version slot image counts.whole)
      by_ends false ends = broken root.deletions.place (without_end slot root deleted levels has ends)

    module _ (before : List Extent) (levels : List Tables) (extent : Extent) (rest : List Extent) (split : root.levels.items ≡ before ++ extent ∷ rest)
        (so_far : levels_from root deleted [] before image ≡ Ok levels) (go_on : (longer : List Tables) → with_level root deleted levels extent image ≡ Ok longer → IsShown image) where
      comes : ComesTo root deleted levels extent image
      comes = record { slot = slot; counts = counts; list = list; before = before; behind = rest; split = split; tables = so_far }

      by_names : (level : Tables) → tables_at extent image ≡ Ok level → are_in_order root levels level.documents ≡ true → (r : Result (List Named) ℕ) → names_in deleted levels level ≡ r → IsShown image
      by_names level found ordered (Ok live) named = go_on (levels ++ level ∷ []) (level_found root deleted levels extent image level live found ordered named)
      by_names level found ordered (Err place) named = broken place (in_names root deleted levels extent level place comes found ordered named)

      by_order : (level : Tables) → tables_at extent image ≡ Ok level → (b : Bool) → are_in_order root levels level.documents ≡ b → IsShown image
      by_order level found true ordered = by_names level found ordered (names_in deleted levels level) refl
      by_order level found false ordered = broken extent.place (out_of_order root deleted levels extent level comes found ordered)

      by_tables : (r : Result Tables ℕ) → tables_at extent image ≡ r → IsShown image
      by_tables (Ok level) found = by_order level found (are_in_order root levels level.documents) refl
      by_tables (Err place) found = broken place (in_tables root deleted levels extent place comes found)

    by_levels : (rest before : List Extent) (levels : List Tables) → root.levels.items ≡ before ++ rest → levels_from root deleted [] before image ≡ Ok levels → IsShown image
    by_levels [] before levels split so_far =
        by_ends levels (ap (λ (es : List Extent). levels_from root deleted [] es image) (split ∙ append-nil before) ∙ so_far) (have_ends levels deleted) refl
    by_levels (extent ∷ rest) before levels split so_far =
        by_tables before levels extent rest split so_far
        (λ longer e. by_levels rest (before ++ extent ∷ []) longer (split ∙ sym (append_assoc before (extent ∷ []) rest)) (levels_more before levels extent so_far longer e))
        (tables_at extent image) refl
      where
        levels_more : (before : List Extent) (levels : List Tables) (extent : Extent) → levels_from root deleted [] before image ≡ Ok levels → (longer : List Tables) → with_level root deleted levels extent image ≡ Ok longer
            → levels_from root deleted [] (before ++ extent ∷ []) image ≡ Ok longer
        levels_more before levels extent so_far longer e = levels_append root deleted image [] before (extent ∷ []) ∙ (rw so_far rw e refl)

  by_list : (r : Result (List ℕ) ℕ) → deleted_in root image ≡ r → IsShown image
  by_list (Ok deleted) list = by_levels deleted list root.levels.items [] [] refl refl
  by_list (Err place) list = broken place (in_list slot root place counts list)

by_root : (image : List ℕ) (answer : Result Roots RootFault) → Shows image answer → IsShown image
by_root image (Ok roots) counts = by_list image roots.slot roots.root counts (deleted_in roots.root image) refl
by_root image (Err faults.Disk) shows = absurd shows
by_root image (Err faults.NoRoot) none = inl none
by_root image (Err (faults.Damaged place)) damaged = inr (inl (place, in_slots place damaged))

-- an image has no root, breaks a rule at a place, or is opened
pub is_shown : (image : List ℕ) → IsShown image
is_shown image = let answer = some_answer image in by_root image answer.0 answer.1
