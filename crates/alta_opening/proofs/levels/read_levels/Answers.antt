use Rattle.std.proofs.Common.{rules, ◌+◌, ◌++◌, ◌∷◌, [], ◌∙◌, take, get_or, List, ℕ, Err, refl, sym, ap, arith}
use Rattle.std.specs.List.{sum_by}
use Rattle.alta_codec.specs.declared.extent.Extent.{Extent}
use Rattle.alta_meaning.specs.Opened.{levels_in, with_level}
use Rattle.alta_root.specs.Root.{no_extent}
use Rattle.alta_opening.specs.Costs.{level_bytes}
use Rattle.alta_disk.specs.declared.fault.LoadFault.{LoadFault}
use Rattle.alta_opening.specs.declared.levels.Levels.{Levels}
use Rattle.alta_opening.proofs.LevelLaws.{extents_more, counted_all, counted_more, error_answers, extent_at, levels_more, levels_stop}
use Rattle.alta_meaning.proofs.DiskReads.{reads_then, reads_within}
use Rattle.alta_opening.proofs.levels.read_levels.Goals as goal

pub returns-in-Err-clause-exact : goal.returns-in-Err-clause-exact
returns-in-Err-clause-exact g c = λ told.
    let image = (g.D.Disk.state c.args.disk.now).content in
    let i = c.loop-extent.extent-index in
    let extents = c.args.root.now.levels.items in
    let extent = get_or c.as_slice-extents.result.now i no_extent in
    let at = extent_at extents c.as_slice-extents.result.now i no_extent c.as_slice-extents.ensures.value c.loop-extent-test.true in
    let levels = c.loop-extent.found.levels.items in
    error_answers (λ (found : Levels). found.levels.items) c.in-Err.fault (levels_in c.args.root.now c.args.deleted.now image)
    (λ place is. levels_stop c.args.root.now c.args.deleted.now image extents i extent at.inside at.is levels (c.loop-extent.invariant.levels told) place
    (ap (with_level c.args.root.now c.args.deleted.now levels extent) (sym (c.loop-extent.invariant.reads.content told))
    ∙ c.add_level.ensures.damaged told place (c.in-Err.is ∙ ap (λ (f : LoadFault). Err f) is)))

pub returns-in-Err-clause-retrieves : goal.returns-in-Err-clause-retrieves
returns-in-Err-clause-retrieves g c = record {
  reads =
      let i = c.loop-extent.extent-index in
      let extents = c.args.root.now.levels.items in
      let extent = get_or c.as_slice-extents.result.now i no_extent in
      let at = extent_at extents c.as_slice-extents.result.now i no_extent c.as_slice-extents.ensures.value c.loop-extent-test.true in
      let so_far : ℕ = sum_by (λ (e : Extent). e.bytes) (take i extents) in
      reads_within g.D.Disk.tells (so_far + extent.bytes) _ _ _ (counted_all (λ (e : Extent). e.bytes) extents i extent at)
      (reads_then g.D.Disk.tells so_far extent.bytes (so_far + extent.bytes) _ _ _ refl c.loop-extent.invariant.reads c.add_level.ensures.retrieves.reads);
  cause = search rules;
}

pub returns-in-Err-clause-taken : goal.returns-in-Err-clause-taken
returns-in-Err-clause-taken g c = λ told.
    let image = (g.D.Disk.state c.args.disk.now).content in
    let i = c.loop-extent.extent-index in
    let extents = c.args.root.now.levels.items in
    let extent = get_or c.as_slice-extents.result.now i no_extent in
    let at = extent_at extents c.as_slice-extents.result.now i no_extent c.as_slice-extents.ensures.value c.loop-extent-test.true in
    let same = ap (λ (im : List ℕ). level_bytes im extent) (c.loop-extent.invariant.reads.content told) in
    omega (arith, c.loop-extent.invariant.taken told, c.add_level.ensures.taken told, same, counted_all (level_bytes image) extents i extent at)

pub loop-extent-preserved : goal.loop-extent-preserved
loop-extent-preserved g c =
    let image = (g.D.Disk.state c.args.disk.now).content in
    let i = c.loop-extent.extent-index in
    let extents = c.args.root.now.levels.items in
    let extent = get_or c.as_slice-extents.result.now i no_extent in
    let at = extent_at extents c.as_slice-extents.result.now i no_extent c.as_slice-extents.ensures.value c.loop-extent-test.true in
    let levels = c.loop-extent.found.levels.items in
    let so_far : ℕ = sum_by (λ (e : Extent). e.bytes) (take i extents) in
    record {
      reached = c.in-Ok.ensures.reached;
      extents = c.in-Ok.ensures.extents ∙ ap (λ (es : List Extent). es ++ extent ∷ []) c.loop-extent.invariant.extents ∙ extents_more extents i extent at;
      levels = λ told. levels_more c.args.root.now c.args.deleted.now image extents i extent at.inside at.is levels (c.loop-extent.invariant.levels told) _
          (ap (with_level c.args.root.now c.args.deleted.now levels extent) (sym (c.loop-extent.invariant.reads.content told)) ∙ c.in-Ok.ensures.levels told);
      reads = reads_then g.D.Disk.tells so_far extent.bytes _ _ _ _ (counted_more (λ (e : Extent). e.bytes) extents i extent at) c.loop-extent.invariant.reads c.add_level.ensures.retrieves.reads;
      taken = λ told.
          let same = ap (λ (im : List ℕ). level_bytes im extent) (c.loop-extent.invariant.reads.content told) in
          omega (arith, c.loop-extent.invariant.taken told, c.add_level.ensures.taken told, same, counted_more (level_bytes image) extents i extent at);
    }
