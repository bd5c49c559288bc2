use Rattle.std.proofs.Common.{arith, ◌≡◌, ◌<◌, List, ℕ, ap, map, refl, subst, ◌∙◌, sym}
use Rattle.std.specs.List.{All}
use Rattle.alta_layout.specs.Places.{half_start}
use Rattle.alta_layout.specs.declared.slot.Slot.{Slot}
use Rattle.alta_catalog.specs.Rows.{MayStart}
use Rattle.alta_content.specs.Rows.{AreDocuments, end_of}
use Rattle.alta_content.specs.declared.document.DocRow.{DocRow}
use Rattle.alta_meaning.specs.Entries.{after_entries, entries_in}
use Rattle.alta_table.specs.Tables.{Tables}
use Rattle.std.specs.Prelude.{Err}
use Rattle.alta_catalog.proofs.MayLaws.{may_start}
use Rattle.alta_meaning.specs.Broken.{IsBrokenAt}
use Rattle.alta_meaning.specs.Opened.{table_rows, extent_of}
use Rattle.alta_journal.specs.Journal.{HasBrokenHalf}
use Rattle.alta_journal.specs.Placed.{IsReplay}
use Rattle.alta_journal.specs.declared.placed.Placed.{Placed}
use Rattle.alta_root.specs.Slots.{Counts}
use Rattle.alta_store.specs.Agreement.{KeepsOpened}
use Rattle.alta_store.proofs.Loads.{KnowsAll, damaged_record, loads, of_catalog_damaged, of_damaged, of_levels_damaged, of_root_damaged, refused_entry, same_error, small_places}
use Rattle.alta_store.proofs.Reading.{shown_broken}
use Rattle.alta_opening.specs.Costs.{named_bytes}
use Rattle.alta_root.proofs.SlotLaws.{one_counts}
use Rattle.alta_root.specs.declared.root.Root.{Root}
use Rattle.alta_root.specs.declared.root.Roots.{Roots}
use Rattle.alta_store.proofs.store.load.Goals as goal

pub returns-in-Err-clause-damaged : goal.returns-in-Err-clause-damaged
returns-in-Err-clause-damaged g c = λ told place e.
    shown_broken (g.D.Disk.state c.args.disk.now).content c.in-Err.fault place (of_root_damaged c.in-Err.fault place (sym c.root_fault.ensures ∙ same_error _ _ e)) (c.in-Err.ensures.answer told)

pub returns-in-Err-open_levels-clause-damaged : goal.returns-in-Err-open_levels-clause-damaged
returns-in-Err-open_levels-clause-damaged g c = λ told place e.
    let counts = subst (Counts c.in-Ok.roots.slot c.in-Ok.roots.root) (sym (c.read_roots.ensures.reads.content told)) (c.in-Ok.ensures.counts told) in
    subst (λ (image : List ℕ). IsBrokenAt image place) (c.read_roots.ensures.reads.content told)
    (c.in-Err-open_levels.ensures.damaged told c.in-Ok.roots.slot counts place
    (ap Err (of_levels_damaged c.in-Err-open_levels.fault place (sym c.load_fault.ensures ∙ same_error _ _ e))))

pub returns-in-Err-replay-clause-damaged : goal.returns-in-Err-replay-clause-damaged
returns-in-Err-replay-clause-damaged g c = λ told place e.
    let slot = c.in-Ok.roots.slot in
    let root = c.in-Ok.roots.root in
    let middle = (g.D.Disk.state c.read_roots.new.disk).content in
    let counts = subst (Counts slot root) (sym (c.read_roots.ensures.reads.content told)) (c.in-Ok.ensures.counts told) in
    let has = c.in-Ok-open_levels.ensures.levels told slot counts in
    subst (λ (image : List ℕ). IsBrokenAt image place) (c.read_roots.ensures.reads.content told)
    (damaged_record middle slot root _ _ has c.in-Ok-open_levels.ensures.ends place
    (subst (λ (image : List ℕ). HasBrokenHalf root.version (half_start slot) place image) (c.open_levels.ensures.retrieves.reads.content told)
    (c.in-Err-replay.ensures.damaged told place (of_damaged c.in-Err-replay.fault place (sym c.load_fault-in-Err-replay.ensures ∙ same_error _ _ e)))))

pub returns-in-Ok-catalog_of-clause-loaded : goal.returns-in-Ok-catalog_of-clause-loaded
returns-in-Ok-catalog_of-clause-loaded g c = λ told.
    let slot = c.in-Ok.roots.slot in
    let root = c.in-Ok.roots.root in
    let found = c.deref-2.result.now in
    let middle = (g.D.Disk.state c.read_roots.new.disk).content in
    let counts = subst (Counts slot root) (sym (c.read_roots.ensures.reads.content told)) (c.in-Ok.ensures.counts told) in
    let has = c.in-Ok-open_levels.ensures.levels told slot counts in
    subst (KeepsOpened _) (c.read_roots.ensures.reads.content told)
    (loads middle slot root _ _ has c.in-Ok-open_levels.ensures.ends _ found refl refl refl c.in-Ok-catalog_of.ensures.follows c.in-Ok-replay.ensures.slot c.in-Ok-catalog_of.ensures.levels
    c.in-Ok-open_levels.ensures.extents
    (subst (λ (image : List ℕ). IsReplay root.version (half_start slot) found c.in-Ok-replay.read.1.place image) (c.open_levels.ensures.retrieves.reads.content told)
    (subst (λ (xs : List Placed). IsReplay root.version (half_start slot) xs c.in-Ok-replay.read.1.place (g.D.Disk.state c.open_levels.new.disk).content) (sym c.deref-2.ensures.value) (c.in-Ok-replay.ensures.read told)))
    (subst (KnowsAll _ root c.in-Ok-open_levels.opened.levels.items found) c.deref.ensures.value c.in-Ok-catalog_of.ensures.knows))

pub returns-in-Ok-catalog_of-clause-intact : goal.returns-in-Ok-catalog_of-clause-intact
returns-in-Ok-catalog_of-clause-intact g c =
    let root = c.in-Ok.roots.root in
    let some = may_start root c.deref.result.now c.in-Ok-open_levels.opened.levels.items in
    record {
      state = after_entries some.0 (entries_in c.deref-2.result.now);
      knows = (c.in-Ok-catalog_of.ensures.knows some.0 some.1).1.0;
      entries = entries_in c.deref-2.result.now;
      follows = c.in-Ok-catalog_of.ensures.follows;
      below = subst (λ (levels : List Tables). All (λ (row : DocRow). (row.number < root.next_number) × (end_of row < root.next_location)) (table_rows levels)) (sym c.in-Ok-catalog_of.ensures.levels)
          c.in-Ok-open_levels.ensures.below;
      documents = subst (λ (levels : List Tables). AreDocuments (table_rows levels)) (sym c.in-Ok-catalog_of.ensures.levels) c.in-Ok-open_levels.ensures.rows;
      extents = ap (map extent_of) c.in-Ok-catalog_of.ensures.levels ∙ c.in-Ok-open_levels.ensures.extents;
      joining = tt;
    }

pub returns-in-Err-catalog_of-clause-damaged : goal.returns-in-Err-catalog_of-clause-damaged
returns-in-Err-catalog_of-clause-damaged g c = λ told place e.
    let slot = c.in-Ok.roots.slot in
    let root = c.in-Ok.roots.root in
    let found = c.deref-2.result.now in
    let middle = (g.D.Disk.state c.read_roots.new.disk).content in
    let counts = subst (Counts slot root) (sym (c.read_roots.ensures.reads.content told)) (c.in-Ok.ensures.counts told) in
    let has = c.in-Ok-open_levels.ensures.levels told slot counts in
    let replay : IsReplay root.version (half_start slot) found c.in-Ok-replay.read.1.place middle =
    subst (λ (image : List ℕ). IsReplay root.version (half_start slot) found c.in-Ok-replay.read.1.place image) (c.open_levels.ensures.retrieves.reads.content told)
    (subst (λ (xs : List Placed). IsReplay root.version (half_start slot) xs c.in-Ok-replay.read.1.place (g.D.Disk.state c.open_levels.new.disk).content) (sym c.deref-2.ensures.value) (c.in-Ok-replay.ensures.read told)) in
    let some = may_start root c.in-Ok-open_levels.opened.deleted.items c.in-Ok-open_levels.opened.levels.items in
    subst (λ (image : List ℕ). IsBrokenAt image place) (c.read_roots.ensures.reads.content told)
    (refused_entry middle slot root _ _ has c.in-Ok-open_levels.ensures.ends found place c.in-Ok-replay.read.1.place replay some.0 some.1
    (c.in-Err-catalog_of.ensures.damaged some.0
    (subst (λ (ends : List ℕ). MayStart some.0 root ends c.in-Ok-open_levels.opened.levels.items) (sym c.deref.ensures.value) some.1)
    (small_places root.version slot found c.in-Ok-replay.read.1.place middle replay) place
    (ap Err (of_catalog_damaged c.in-Err-catalog_of.fault place (sym c.catalog_fault.ensures ∙ same_error _ _ e)))))

pub returns-in-Ok-catalog_of-clause-read : goal.returns-in-Ok-catalog_of-clause-read
returns-in-Ok-catalog_of-clause-read g c = λ told slot root counts.
    let before = (g.D.Disk.state c.args.disk.now).content in
    let found = c.in-Ok.roots.root in
    let same : found ≡ root = ap (λ (r : Roots). r.root) (one_counts before c.in-Ok.roots.slot slot found root (c.in-Ok.ensures.counts told) counts) in
    omega (
      arith,
      c.read_roots.ensures.reads.costs.taken,
      c.open_levels.ensures.taken told,
      c.replay.ensures.retrieves.reads.costs.taken,
      ap (λ (image : List ℕ). named_bytes found image) (c.read_roots.ensures.reads.content told),
      ap (λ (r : Root). named_bytes r before) same,
    )

pub returns-in-Err-catalog_of-clause-read : goal.returns-in-Err-catalog_of-clause-read
returns-in-Err-catalog_of-clause-read g c = λ told slot root counts.
    let before = (g.D.Disk.state c.args.disk.now).content in
    let found = c.in-Ok.roots.root in
    let same : found ≡ root = ap (λ (r : Roots). r.root) (one_counts before c.in-Ok.roots.slot slot found root (c.in-Ok.ensures.counts told) counts) in
    omega (
      arith,
      c.read_roots.ensures.reads.costs.taken,
      c.open_levels.ensures.taken told,
      c.replay.ensures.retrieves.reads.costs.taken,
      ap (λ (image : List ℕ). named_bytes found image) (c.read_roots.ensures.reads.content told),
      ap (λ (r : Root). named_bytes r before) same,
    )
