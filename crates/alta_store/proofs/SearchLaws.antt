-- What a search of a store finds.
use Rattle.std.proofs.Common.{ℕ, ◌+◌, ◌≤◌, List, [], ◌∷◌, ◌++◌, length, map, sym, ◌∙◌, ap, subst, arith}
use Rattle.std.specs.List.{All, flat_map}
use Rattle.std.proofs.lemmas.List.Elements.{All-nil, All-cons, All-head, All-tail, All-weaker}
use Rattle.alta_catalog.specs.Knowing.{AreParts}
use Rattle.alta_catalog.proofs.KnowingLaws.{parts_are}
use Rattle.alta_catalog.proofs.MayLaws.{levels_left, means_by, whole_of}
use Rattle.alta_content.specs.declared.document.DocRow.{DocRow}
use Rattle.alta_disk.specs.Disk.{DiskState}
use Rattle.alta_meaning.specs.Levels.{documents_of}
use Rattle.alta_meaning.specs.Standing.{StandsFor}
use Rattle.alta_memlevel.specs.Added.{Added, LevelView}
use Rattle.alta_memlevel.specs.Documents.{HasDocuments}
use Rattle.alta_machine.specs.declared.document.Document.{Document}
use Rattle.alta_machine.specs.declared.document.State.{State}
use Rattle.alta_opening.proofs.OpeningLaws.{IsFit, levels_within}
use Rattle.alta_codec.specs.declared.extent.Extent.{Extent}
use Rattle.alta_store.specs.Agreement.{Agrees, levels_of}
use Rattle.alta_store.specs.Searched.{FindsDocuments, IsSearched}
use Rattle.alta_store.specs.declared.store.Store.{Store}
use Rattle.alta_store.proofs.Agreements.{kept, opened_of}
use Rattle.alta_table.specs.Tables.{Tables, total_of}
use Rattle.alta_meaning.specs.Opened.{extent_of}

pub finds : (tells : Type 0) (disk : DiskState) (store : Store) → Agrees tells disk store → (s : State) → tells → StandsFor s disk.content
    → (levels : List Tables) (newest : LevelView) (gone : List ℕ) (rows : List DocRow) → IsSearched store levels newest gone rows → FindsDocuments levels newest gone s disk.content
finds tells disk store agrees s told stands levels newest gone rows searched =
    let keeps = kept store disk.content (agrees.content told) stands.opened (opened_of s disk.content stands) in
    let by = means_by s stands.opened disk.content stands.means in
    let knows = keeps.knows s by.0 in
    let parts : AreParts store.catalog.levels.items store.catalog.gone store.catalog.memory (flat_map whole_of stands.means.levels) s =
    subst (λ (olds : List Added). AreParts store.catalog.levels.items store.catalog.gone store.catalog.memory olds s) (knows.1 ∙ by.1) (parts_are store.catalog s knows.0) in
    record {
      contents = stands.means.levels;
      tables = searched.levels_are ∙ keeps.levels ∙ stands.means.are.tables;
      segments = stands.means.are.segments;
      behind = parts.newest;
      has = subst (λ (g : List ℕ). HasDocuments g parts.newest newest) (sym searched.gone_are) (subst (HasDocuments store.catalog.gone parts.newest) (sym searched.newest_is) parts.has);
      documents =
          parts.split
          ∙ ap (λ (ds : List Document). ds ++ parts.newest) (levels_left store.catalog.gone stands.means.levels ∙ ap (λ (g : List ℕ). flat_map (documents_of g) stands.means.levels) (sym searched.gone_are));
    }

all_extents : (size : ℕ) (levels : List Tables) → All (λ (e : Extent). e.place + e.bytes ≤ size) (map extent_of levels) → All (λ (t : Tables). t.place + total_of t.documents t.terms ≤ size) levels
all_extents size [] all = All-nil (λ (t : Tables). t.place + total_of t.documents t.terms ≤ size)
all_extents size (t ∷ levels) all =
    All-cons (λ (u : Tables). u.place + total_of u.documents u.terms ≤ size) t levels (All-head (λ (e : Extent). e.place + e.bytes ≤ size) (extent_of t) (map extent_of levels) all)
    (all_extents size levels (All-tail (λ (e : Extent). e.place + e.bytes ≤ size) (extent_of t) (map extent_of levels) all))

-- the levels of a store that agrees with its disk lie on it
pub within : (tells : Type 0) (disk : DiskState) (store : Store) → Agrees tells disk store → tells
    → All (λ (level : Tables). level.place + total_of level.documents level.terms ≤ length disk.content) (levels_of store)
within tells disk store agrees told =
    let held = agrees.content told in
    let size = length disk.content in
    let fit = levels_within held.opened.root disk.content size (held.opened.slot, held.is.counts) (omega arith) in
    let extents : All (λ (e : Extent). e.place + e.bytes ≤ size) held.opened.root.levels.items =
    All-weaker (IsFit size size) (λ (e : Extent). e.place + e.bytes ≤ size) (λ e fits. fits.1.0) held.opened.root.levels.items fit in
    subst (All (λ (t : Tables). t.place + total_of t.documents t.terms ≤ size)) (sym held.keeps.levels)
    (all_extents size held.opened.levels (subst (All (λ (e : Extent). e.place + e.bytes ≤ size)) (sym held.keeps.extents) extents))
