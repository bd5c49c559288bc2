-- What a store that agrees with its disk has of the image.
use Rattle.std.proofs.Common.{◌≡◌, ⊎_elim, ℕ, List, [], ◌∷◌, ◌++◌, length, map, drop, refl, sym, ◌∙◌, ap, subst, arith, Ok, length-drop}
use Rattle.std.specs.Prelude.{Option, Some, None}
use Rattle.std.proofs.lemmas.List.{length-take-le}
use Rattle.alta_catalog.specs.Knowing.{gone_of}
use Rattle.alta_catalog.proofs.GoneLaws.{gone_is}
use Rattle.alta_catalog.proofs.MayLaws.{may_be}
use Rattle.alta_codec.specs.Bytes.{AreBytes}
use Rattle.alta_content.specs.declared.document.DocRow.{DocRow}
use Rattle.alta_disk.specs.Disk.{DiskState, IsLawful}
use Rattle.alta_meaning.specs.Holding.{Holding, IsHeld, IsJobOf, IsWell}
use Rattle.alta_meaning.specs.Levels.{Level}
use Rattle.alta_meaning.specs.Opened.{Opened, IsOpened, bytes_at, deleted_in, list_at, table_rows}
use Rattle.alta_meaning.specs.Standing.{StandsFor, tables_by, view_of}
use Rattle.alta_meaning.specs.Views.{View, state_of}
use Rattle.alta_meaning.specs.Work.{Job, gone, level_rows}
use Rattle.alta_meaning.proofs.WrittenLaws.{held_without}
use Rattle.alta_joins.proofs.JoiningLaws.{joining_job}
use Rattle.alta_merge.specs.Merging.{Merging}
use Rattle.alta_machine.specs.declared.document.State.{State}
use Rattle.alta_postings.specs.Deltas.{first_fault, decoded_list, stream_bytes}
use Rattle.alta_postings.specs.declared.fault.StreamFault.{StreamFault}
use Rattle.alta_postings.proofs.Reading.{reading_spells}
use Rattle.alta_root.specs.Root.{IsSound, no_extent}
use Rattle.alta_root.specs.declared.root.Root.{Root}
use Rattle.alta_root.proofs.Frames.{counts_sound}
use Rattle.alta_store.specs.Agreement.{Agrees, GoesOnOver, Has, IsJobIn, MayGoOn, levels_of}
use Rattle.alta_store.specs.declared.store.Store.{Store}
use Rattle.alta_store.proofs.Agreements.{kept, opened_of}
use Rattle.alta_rewrite.proofs.ComeLaws.{bytes_fit}

-- ---- levels by their rows

pub rows_by_tables : (levels : List Level) → level_rows levels ≡ table_rows (map tables_by levels)
rows_by_tables [] = refl
rows_by_tables (level ∷ levels) = ap (λ (rows : List DocRow). level.content.documents ++ rows) (rows_by_tables levels)

-- ---- a deletion list exactly where ends are deleted

list_read : (place : ℕ) (stream : List ℕ) (f : Option StreamFault) (ends : List ℕ) → first_fault stream ≡ f → list_at place stream f ≡ Ok ends → (first_fault stream ≡ None) × (decoded_list stream ≡ ends)
list_read place stream None ends is e = (is, cc)
list_read place stream (Some fault) ends is e = absurd cc

no_bytes : (bytes : List ℕ) → AreBytes bytes → first_fault bytes ≡ None → decoded_list bytes ≡ [] → bytes ≡ []
unfolding stream_bytes
no_bytes bytes are sound none = (reading_spells bytes (λ i within. are i) sound).spelled ∙ ap (stream_bytes 0) none

no_list : (root : Root) (image : List ℕ) → IsSound (length image) root → AreBytes image → deleted_in root image ≡ Ok [] → root.deletions ≡ no_extent
unfolding deleted_in
no_list root image sound are e =
    let bytes = bytes_at root.deletions image in
    let read = list_read root.deletions.place bytes (first_fault bytes) [] refl e in
    let none : bytes ≡ [] = no_bytes bytes (bytes_fit root.deletions image are) read.0 read.1 in
    ⊎_elim (λ is. is)
    (λ extent. absurd (omega (arith, ap length none, extent.long, length-take-le root.deletions.bytes (drop root.deletions.place image) (omega (arith, length-drop root.deletions.place image, extent.inside)))))
    sound.deletions

-- what is held is well formed, where its job is one over its view
pub well_held : (held : Holding) (image : List ℕ) → AreBytes image → IsHeld held image → IsJobOf held.job held.view → IsWell held
well_held held image are has job = record {
  listed = (
    λ none. held_without held image has none,
    λ empty. has.list_is ∙ no_list has.opened.root image (counts_sound has.opened.slot has.opened.root image has.is.counts) are
        (has.is.named.list ∙ ap (λ (ends : List ℕ). Ok ends) (sym (ap (λ (view : View). view.deleted) has.view_is) ∙ empty)),
  );
  job = job;
}

-- ---- what is held of a content that stands for a state

-- an image at hand is bytes
pub content_bytes : (tells : Type 0) (disk : DiskState) → IsLawful tells disk → tells → AreBytes disk.content
content_bytes tells disk lawful told = lawful.bytes disk.clock disk.content (lawful.counts_now disk.clock disk.content (omega arith) (lawful.present told))

module _ (tells : Type 0) (disk : DiskState) (lawful : IsLawful tells disk) (store : Store) (agrees : Agrees tells disk store) where
  -- what is gone in the catalog is gone from what is opened
  pub gone_opened : (told : tells) (o : Opened) → IsOpened o disk.content → (levels : List Level) → level_rows levels ≡ table_rows o.levels → gone_of store.catalog ≡ gone (view_of o levels)
  gone_opened told o is levels rows =
      let keeps = kept store disk.content (agrees.content told) o is in
      let s = may_be o in
      gone_is store.catalog s.0 o disk.content levels is s.1 (keeps.knows s.0 s.1) keeps.follows keeps.levels rows

  pub gone_held : (told : tells) (held : Holding) → IsHeld held disk.content → gone_of store.catalog ≡ gone held.view
  gone_held told held has =
      gone_opened told has.opened has.is held.view.levels (rows_by_tables held.view.levels ∙ ap table_rows (sym has.are.tables)) ∙ ap gone (sym has.view_is)

  pub levels_held : (told : tells) (held : Holding) → IsHeld held disk.content → levels_of store ≡ map tables_by held.view.levels
  levels_held told held has = (kept store disk.content (agrees.content told) has.opened has.is).levels ∙ has.are.tables

  with_job : (view : View) → Opened → Option Job → Holding
  with_job view o job = record { view = view; list = o.root.deletions; job = job }

  pub has_of : tells → (s : State) → StandsFor s disk.content → (held : Holding) × Has store held disk.content × (state_of held.view ≡ s)
  unfolding with_job
  has_of told s stands = by_job store.job refl agrees.intact.joining (agrees.joins told)
    where
      bytes : AreBytes disk.content
      bytes = content_bytes tells disk lawful told

      is_held : (job : Option Job) → IsHeld (with_job (view_of stands.opened stands.means.levels) stands.opened job) disk.content
      is_held job = record { opened = stands.opened; is = opened_of s disk.content stands; are = stands.means.are; view_is = refl; list_is = refl }

      by_job : (j : Option Merging) → store.job ≡ j → (joining : MayGoOn (levels_of store) (gone_of store.catalog) j) → GoesOnOver disk.content (levels_of store) (gone_of store.catalog) j joining
          → (held : Holding) × Has store held disk.content × (state_of held.view ≡ s)
      by_job None e joining over = (
        with_job (view_of stands.opened stands.means.levels) stands.opened None,
        record { is = is_held None; job = subst (λ (m : Option Merging). IsJobIn m None) (sym e) tt; well = well_held (with_job (view_of stands.opened stands.means.levels) stands.opened None) disk.content bytes (is_held None) tt },
        stands.means.state_is,
      )
      by_job (Some merging) e joining over =
          let none = with_job (view_of stands.opened stands.means.levels) stands.opened None in
          let held = with_job (view_of stands.opened stands.means.levels) stands.opened (Some joining.job) in
          let has = is_held (Some joining.job) in (
            held,
            record {
              is = has;
              job = subst (λ (m : Option Merging). IsJobIn m (Some joining.job)) (sym e) joining.is;
              well = well_held held disk.content bytes has
                  (joining_job (levels_of store) (gone_of store.catalog) merging joining none disk.content bytes (is_held None) (levels_held told none (is_held None)) (gone_held told none (is_held None)) over);
            },
            stands.means.state_is,
          )
