use Rattle.std.proofs.Common.{ℕ, List, sym, subst, arith, rules}
use Rattle.alta_joins.proofs.FaultLaws.{fault_goes}
use Rattle.alta_joins.proofs.MergeRuns.{from_all, from_begins, from_cost, from_ends, from_fault, from_on}
use Rattle.alta_joins.specs.Contents.{StandsOn}
use Rattle.alta_joins.specs.Reading.{IsFaultFrom}
use Rattle.alta_joins.specs.declared.window.Window.{Window}
use Rattle.alta_table.specs.Tables.{Tables}
use Rattle.alta_joins.proofs.window.test_from.Goals as goal

pub loop-row-init : goal.loop-row-init
loop-row-init g c = from_begins g.D.Disk.tells c.args.level.now c.args.from (g.D.Disk.state c.args.disk.now) (g.met.D.Disk.lawful c.args.disk.now) c.requires.within

pub read_window-requires-clause-stands : goal.read_window-requires-clause-stands
read_window-requires-clause-stands g c = λ told. subst (λ (image : List ℕ). StandsOn image c.args.level.now) (sym (c.loop-row.invariant.reads.content told)) (c.requires.stands told)

pub loop-row-preserved : goal.loop-row-preserved
loop-row-preserved g c =
    from_on g.D.Disk.tells c.args.level.now c.args.from c.loop-row.row (g.D.Disk.state c.args.disk.now) (g.D.Disk.state c.loop-row.disk) c.loop-row.invariant c.in-Ok.window.end c.in-Ok.window.lists
    (g.D.Disk.state c.read_window.new.disk) c.in-Ok.ensures.read c.in-Ok.ensures.on c.in-Ok.ensures.within c.in-Ok.ensures.cost

pub returns-in-Err-clause-first : goal.returns-in-Err-clause-first
returns-in-Err-clause-first g c = λ told.
    let level : Tables = c.args.level.now in
    let old = g.D.Disk.state c.args.disk.now in
    let mid = g.D.Disk.state c.loop-row.disk in
    fault_goes Window Unit c.in-Err.fault (IsFaultFrom mid.content level c.loop-row.row) (IsFaultFrom old.content level c.args.from)
    (λ p fault. from_fault g.D.Disk.tells level c.args.from c.loop-row.row old mid c.loop-row.invariant p told fault) (c.in-Err.ensures.first told)

pub returns-in-Err-clause-retrieves : goal.returns-in-Err-clause-retrieves
returns-in-Err-clause-retrieves g c = record {
  reads = from_cost g.D.Disk.tells c.args.level.now c.args.from c.loop-row.row (g.D.Disk.state c.args.disk.now) (g.D.Disk.state c.loop-row.disk) c.loop-row.invariant
      (g.D.Disk.state c.read_window.new.disk) c.read_window.ensures.retrieves.reads;
  cause = search rules;
}

pub returns-clause-read : goal.returns-clause-read
returns-clause-read g c =
    let run = from_ends g.D.Disk.tells c.args.level.now c.args.from c.loop-row.row (g.D.Disk.state c.args.disk.now) (g.D.Disk.state c.loop-row.disk) c.loop-row.invariant (omega arith) in
    (run.lists, run.read)

pub returns-clause-retrieves : goal.returns-clause-retrieves
returns-clause-retrieves g c = record {
  reads = from_all g.D.Disk.tells c.args.level.now c.args.from c.loop-row.row (g.D.Disk.state c.args.disk.now) (g.D.Disk.state c.loop-row.disk) c.loop-row.invariant;
  cause = search rules;
}
