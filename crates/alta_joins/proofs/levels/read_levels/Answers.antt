use Rattle.std.proofs.Common.{List, ℕ, Vec, Global, sym, subst, arith, rules}
use Rattle.std.proofs.lemmas.List.Elements.{All-get_or}
use Rattle.alta_content.specs.declared.content.Content.{Content}
use Rattle.alta_joins.specs.Contents.{AreContentsOf, StandsOn}
use Rattle.alta_joins.proofs.LevelRuns.{all_of, run_broken, run_cost, run_ended, run_on}
use Rattle.alta_joins.proofs.SpaceLaws.{contents_join}
use Rattle.alta_table.specs.Tables.{Tables}
use Rattle.alta_joins.proofs.levels.read_levels.Goals as goal

pub read_level-requires : goal.read_level-requires
read_level-requires g c = λ told.
    let x : Tables = c.level-item.result in let i = c.loop-level.level-index in
    let image = (g.D.Disk.state c.args.disk.now).content in
    subst (λ (s : List ℕ). StandsOn s x) (sym (c.loop-level.invariant.reads.content told))
    (subst (StandsOn image) (sym c.level-item.is) (All-get_or (StandsOn image) c.args.levels.now i x c.loop-level-test.true (c.requires told)))

pub returns-in-Err-clause-tells : goal.returns-in-Err-clause-tells
returns-in-Err-clause-tells g c = λ told.
    let x : Tables = c.level-item.result in let i = c.loop-level.level-index in
    run_ended g.D.Disk.tells c.args.levels.now i x c.loop-level-test.true c.level-item.is c.loop-level.contents.items (g.D.Disk.state c.args.disk.now) (g.D.Disk.state c.loop-level.disk)
    (g.D.Disk.state c.read_level.new.disk) c.loop-level.invariant c.read_level.ensures.retrieves.reads {X = Vec Content Global} (λ contents. contents.items) c.in-Err.fault told
    (λ t. record { segment = c.in-Err.ensures.segment t; only = c.in-Err.ensures.only t; first = c.in-Err.ensures.first t; damaged = c.in-Err.ensures.damaged t })

pub returns-in-Err-clause-broken : goal.returns-in-Err-clause-broken
returns-in-Err-clause-broken g c = λ told.
    let x : Tables = c.level-item.result in let i = c.loop-level.level-index in
    run_broken g.D.Disk.tells c.args.levels.now i x c.loop-level-test.true c.level-item.is c.loop-level.contents.items (g.D.Disk.state c.args.disk.now) (g.D.Disk.state c.loop-level.disk)
    (g.D.Disk.state c.read_level.new.disk) c.loop-level.invariant c.read_level.ensures.retrieves.reads (Vec Content Global) c.in-Err.fault told c.in-Err.ensures.broken

pub returns-in-Err-clause-retrieves : goal.returns-in-Err-clause-retrieves
returns-in-Err-clause-retrieves g c =
    let x : Tables = c.level-item.result in let i = c.loop-level.level-index in
    record {
      reads = run_cost g.D.Disk.tells c.args.levels.now i x c.loop-level-test.true c.level-item.is c.loop-level.contents.items (g.D.Disk.state c.args.disk.now) (g.D.Disk.state c.loop-level.disk)
          (g.D.Disk.state c.read_level.new.disk) c.loop-level.invariant c.read_level.ensures.retrieves.reads;
      cause = search rules;
    }

pub returns-in_default-clause-retrieves : goal.returns-in_default-clause-retrieves
returns-in_default-clause-retrieves g c =
    let x : Tables = c.level-item.result in let i = c.loop-level.level-index in
    record {
      reads = run_cost g.D.Disk.tells c.args.levels.now i x c.loop-level-test.true c.level-item.is c.loop-level.contents.items (g.D.Disk.state c.args.disk.now) (g.D.Disk.state c.loop-level.disk)
          (g.D.Disk.state c.read_level.new.disk) c.loop-level.invariant c.read_level.ensures.retrieves.reads;
      cause = search rules;
    }

pub loop-level-preserved : goal.loop-level-preserved
loop-level-preserved g c =
    let x : Tables = c.level-item.result in let i = c.loop-level.level-index in
    run_on g.D.Disk.tells c.args.levels.now i x c.loop-level-test.true c.level-item.is c.loop-level.contents.items (g.D.Disk.state c.args.disk.now) (g.D.Disk.state c.loop-level.disk)
    (g.D.Disk.state c.read_level.new.disk) c.loop-level.invariant c.read_level.ensures.retrieves.reads c.in-Ok.content c.push.new.self.items c.in-Ok-push.ensures.items
    (λ t. record { segment = c.in-Ok.ensures.segment t; only = c.in-Ok.ensures.only t; first = c.in-Ok.ensures.first t; damaged = c.in-Ok.ensures.damaged t }) c.in-Ok.ensures.kept

pub returns-clause-joined : goal.returns-clause-joined
returns-clause-joined g c = λ rows.
    contents_join c.args.levels.now c.loop-level.contents.items
    (subst (λ (ls : List Tables). AreContentsOf ls c.loop-level.contents.items) (all_of c.args.levels.now c.loop-level.level-index (omega arith)) c.loop-level.invariant.kept) rows
