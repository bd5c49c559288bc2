use Rattle.std.proofs.Common.{ℕ, ◌<◌, ◌^◌, [], ◌∷◌, drop, length, subst, arith, rules, ◌≡◌, ◌+◌}
use Rattle.std.proofs.lemmas.List.{length-take}
use Rattle.alta_loading.specs.Kept.{HasKept}
use Rattle.alta_loading.specs.Lists.{stream_size, summary_size}
use Rattle.alta_loading.specs.Loads.{Load, load_sizes, stored_by}
use Rattle.alta_loading.proofs.Runs.{loads_value, reads_most, reads_none, retrieves_fault, tells_list}
use Rattle.alta_loading.proofs.TestedEnds.{tells_whole}
use Rattle.alta_search.specs.declared.lists.LevelList.{LevelList}
use Rattle.alta_table.specs.Places.{stream_place}
use Rattle.alta_loading.proofs.KeptLaws.{has_tested, keeps_row, row_loaded}
use Rattle.std.specs.Prelude.{Err}
use Rattle.alta_disk.specs.Calls.{Retrieves}
use Rattle.alta_loading.proofs.term.load_row.Goals as goal

pub returns-then-is_tested-clause-loads : goal.returns-then-is_tested-clause-loads
returns-then-is_tested-clause-loads g c = record {
  retrieves = record {
    reads =
        let load : Load = record { number = c.args.number; level = c.args.level.now; row = c.args.row.now.row } in
        let old = g.D.Disk.state c.args.disk.now in
        reads_most g.D.Disk.tells 0 (load_sizes (load ∷ [])) old old (omega arith) (reads_none g.D.Disk.tells old);
    cause = search rules;
  };
  told = λ told.
      let image = (g.D.Disk.state c.args.disk.now).content in
      let load : Load = record { number = c.args.number; level = c.args.level.now; row = c.args.row.now.row } in
      let some = length-take (stream_size load.level load.row) (drop (stream_place load.level load.row) image) in
      let short : length (stored_by image load).stream < 2 ^ 64 = omega (arith, c.is_tested.ensures.small c.if-is_tested.true, some) in
      tells_whole image load c.in_ok-list.list short (c.is_tested.ensures.ends c.if-is_tested.true image (c.requires.ends told)).whole;
}

pub returns-in_ok-clone-in-Some-clause-loads : goal.returns-in_ok-clone-in-Some-clause-loads
returns-in_ok-clone-in-Some-clause-loads g c =
    let load : Load = record { number = c.args.number; level = c.args.level.now; row = c.args.row.now.row } in
    let old = g.D.Disk.state c.args.disk.now in
    let kept = subst (λ (k : ℕ). HasKept c.args.kept.now c.args.number k c.in-Some.posting.now.value) c.row.ensures.row c.in-Some.ensures in
    let tested = has_tested g.D.Disk.tells old.content c.args.number c.args.row.now.row c.args.level.now c.in-Some.posting.now.value c.args.kept.now c.requires.tested kept in
    loads_value {X = Unit {0}} {Y = LevelList} g.D.Disk.tells (load ∷ []) old old tt _ (reads_most g.D.Disk.tells 0 (load_sizes (load ∷ [])) old old (omega arith) (reads_none g.D.Disk.tells old)) tested.told

-- a list that was read
pub returns-in-Err-clause-loads : goal.returns-in-Err-clause-loads
returns-in-Err-clause-loads g c = record {
  retrieves =
      let bytes : ℕ = stream_size c.args.level.now c.args.row.now.row + summary_size c.args.level.now c.args.row.now.row in
      let old = g.D.Disk.state c.args.disk.now in let new = g.D.Disk.state c.load_list.new.disk in
      let same : bytes ≡ 0 + bytes = omega arith in
      subst (λ (n : ℕ). Retrieves {X = LevelList} g.D.Disk.tells n old new (Err c.in-Err.fault)) same
      (retrieves_fault g.D.Disk.tells bytes old new c.in-Err.fault c.in-Err.ensures.retrieves);
  told = λ told.
      tells_list (g.D.Disk.state c.args.disk.now).content (record { number = c.args.number; level = c.args.level.now; row = c.args.row.now.row }) c.in-Err.fault
      (c.in-Err.ensures.first told) (c.in-Err.ensures.only told) (c.in-Err.ensures.damaged told);
}

pub returns-in_err-held-in-Ok-clause-keeps : goal.returns-in_err-held-in-Ok-clause-keeps
returns-in_err-held-in-Ok-clause-keeps g c =
    let image = (g.D.Disk.state c.args.disk.now).content in let e = c.in-Ok.ensures in
    keeps_row g.D.Disk.tells image c.args.number c.args.row.now.row c.args.level.now c.in-Ok.posting c.args.kept.now c.held.new.kept
    (row_loaded g.D.Disk.tells image (record { number = c.args.number; level = c.args.level.now; row = c.args.row.now.row }) c.in-Ok.posting e.kept e.list e.damaged) c.held.ensures.kept

pub returns-in_ok-held-in-Ok-clause-keeps : goal.returns-in_ok-held-in-Ok-clause-keeps
returns-in_ok-held-in-Ok-clause-keeps g c =
    let image = (g.D.Disk.state c.args.disk.now).content in let e = c.in-Ok.ensures in
    keeps_row g.D.Disk.tells image c.args.number c.args.row.now.row c.args.level.now c.in-Ok.posting c.args.kept.now c.held.new.kept
    (row_loaded g.D.Disk.tells image (record { number = c.args.number; level = c.args.level.now; row = c.args.row.now.row }) c.in-Ok.posting e.kept e.list e.damaged) c.held.ensures.kept
