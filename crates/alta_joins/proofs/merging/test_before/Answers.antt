use Rattle.std.proofs.Common.{◌≡◌, ◌+◌, ◌<◌, ◌≤◌, ℕ, List, length, drop, get_or, take, sym, subst, arith, rules}
use Rattle.std.proofs.lemmas.List.Elements.{All-get_or}
use Rattle.std.specs.Prelude.{Ok}
use Rattle.alta_content.specs.declared.content.Content.{Content}
use Rattle.alta_joins.specs.Damages.{Tells}
use Rattle.alta_disk.specs.Calls.{Reads}
use Rattle.alta_joins.proofs.FaultLaws.{fault_goes}
use Rattle.alta_joins.proofs.MergeRuns.{test_begins, test_cost, test_front}
use Rattle.alta_joins.proofs.MergeSteps.{item_level, level_at, read_at, read_rows}
use Rattle.alta_joins.proofs.MergedLaws.{AreReadBack, breaks_here, finds_here, whole_here}
use Rattle.alta_joins.proofs.ReadRows.{read_on}
use Rattle.alta_joins.specs.Contents.{StandsOn}
use Rattle.alta_joins.specs.Reading.{AreRead, IsFaultFrom, left_of}
use Rattle.alta_table.specs.Tables.{Tables}
use Rattle.alta_table.specs.Terms.{data_bytes}
use Rattle.alta_joins.proofs.merging.test_before.Goals as goal

pub loop-i-init : goal.loop-i-init
loop-i-init g c = test_begins g.D.Disk.tells c.args.levels.now c.args.rows.now (g.D.Disk.state c.args.disk.now) (g.met.D.Disk.lawful c.args.disk.now)

pub test_from-requires-clause-stands : goal.test_from-requires-clause-stands
test_from-requires-clause-stands g c = λ told.
    let x : Tables = c.index-levels-i.result in
    let i = c.loop-i.i in
    let levels : List Tables = c.args.levels.now in
    let inside : i < length levels = omega (arith, c.requires.within, c.loop-i-test.true) in
    let image = (g.D.Disk.state c.args.disk.now).content in
    subst (λ (s : List ℕ). StandsOn s x) (sym (c.loop-i.invariant.reads.content told))
    (subst (StandsOn image) (sym c.index-levels-i.is) (All-get_or (StandsOn image) levels i x inside (c.requires.stands told)))

pub test_from-requires-clause-within : goal.test_from-requires-clause-within
test_from-requires-clause-within g c =
    let x : Tables = c.index-levels-i.result in
    let i = c.loop-i.i in
    let levels : List Tables = c.args.levels.now in
    let inside : i < length levels = omega (arith, c.requires.within, c.loop-i-test.true) in
    let read = c.requires.read in
    subst (λ (level : Tables). get_or c.args.rows.now i 0 ≤ length level.terms) (sym (item_level levels i x inside c.index-levels-i.is))
    (read_at g.D.Disk.tells (g.D.Disk.state c.args.disk.now).content read.0 levels c.args.rows.now read.1 i read.2 inside).0

pub loop-i-preserved : goal.loop-i-preserved
loop-i-preserved g c =
    let tells = g.D.Disk.tells in
    let x : Tables = c.index-levels-i.result in
    let i = c.loop-i.i in
    let levels : List Tables = c.args.levels.now in
    let rows : List ℕ = c.args.rows.now in
    let row = get_or rows i 0 in
    let inside : i < length levels = omega (arith, c.requires.within, c.loop-i-test.true) in
    let same : x ≡ level_at levels i = item_level levels i x inside c.index-levels-i.is in
    let old = g.D.Disk.state c.args.disk.now in
    let mid = g.D.Disk.state c.loop-i.disk in
    let now = g.D.Disk.state c.test_from.new.disk in
    let run = c.loop-i.invariant in
    let read = c.requires.read in
    let laws : AreReadBack = record { once = c.segments_read_back.ensures.once; apart = c.segments_read_back.ensures.apart; alone = c.segments_read_back.ensures.first } in
    let rest = c.in-Ok.ensures.read in
    record {
      told = λ told.
          let w = run.told told in
          whole_here tells old (g.met.D.Disk.lawful c.args.disk.now) laws levels rows read.0 read.1 c.requires.opened c.requires.stands read.2 i inside w.0 w.1 rest.0 told
          (subst (λ (level : Tables). AreRead tells old.content level row (length level.terms) rest.0) same (read_on tells mid.content old.content x row (length x.terms) rest.0 run.reads.content rest.1));
      reads = test_cost tells levels rows i inside (read_rows tells old.content read.0 levels rows read.1 read.2) old mid now run
          (subst (λ (level : Tables). Reads tells (data_bytes (drop row level.terms)) mid now) same c.test_from.ensures.retrieves.reads);
    }

pub returns-in-Err-clause-damage : goal.returns-in-Err-clause-damage
returns-in-Err-clause-damage g c = λ told.
    let tells = g.D.Disk.tells in
    let x : Tables = c.index-levels-i.result in
    let i = c.loop-i.i in
    let levels : List Tables = c.args.levels.now in
    let rows : List ℕ = c.args.rows.now in
    let row = get_or rows i 0 in
    let inside : i < length levels = omega (arith, c.requires.within, c.loop-i-test.true) in
    let same : x ≡ level_at levels i = item_level levels i x inside c.index-levels-i.is in
    let old = g.D.Disk.state c.args.disk.now in
    let mid = g.D.Disk.state c.loop-i.disk in
    let run = c.loop-i.invariant in
    let read = c.requires.read in
    let laws : AreReadBack = record { once = c.segments_read_back.ensures.once; apart = c.segments_read_back.ensures.apart; alone = c.segments_read_back.ensures.first } in
    finds_here tells old (g.met.D.Disk.lawful c.args.disk.now) laws levels rows read.0 read.1 c.requires.opened c.requires.stands read.2 i inside c.in-Err.fault told (run.told told)
    (fault_goes Unit Unit c.in-Err.fault (IsFaultFrom mid.content x row) (IsFaultFrom old.content (level_at levels i) row)
    (λ p fault. subst (λ (level : Tables). IsFaultFrom old.content level row p) same (subst (λ (image : List ℕ). IsFaultFrom image x row p) (run.reads.content told) fault)) (c.in-Err.ensures.first told))

pub returns-in-Err-clause-broken : goal.returns-in-Err-clause-broken
returns-in-Err-clause-broken g c = λ told.
    let tells = g.D.Disk.tells in
    let x : Tables = c.index-levels-i.result in
    let i = c.loop-i.i in
    let levels : List Tables = c.args.levels.now in
    let rows : List ℕ = c.args.rows.now in
    let row = get_or rows i 0 in
    let inside : i < length levels = omega (arith, c.requires.within, c.loop-i-test.true) in
    let same : x ≡ level_at levels i = item_level levels i x inside c.index-levels-i.is in
    let old = g.D.Disk.state c.args.disk.now in
    let mid = g.D.Disk.state c.loop-i.disk in
    let run = c.loop-i.invariant in
    let read = c.requires.read in
    let laws : AreReadBack = record { once = c.segments_read_back.ensures.once; apart = c.segments_read_back.ensures.apart; alone = c.segments_read_back.ensures.first } in
    breaks_here tells old (g.met.D.Disk.lawful c.args.disk.now) laws levels rows read.0 read.1 c.requires.opened c.requires.stands read.2 i inside c.in-Err.fault told
    (fault_goes Unit Unit c.in-Err.fault (IsFaultFrom mid.content x row) (IsFaultFrom old.content (level_at levels i) row)
    (λ p fault. subst (λ (level : Tables). IsFaultFrom old.content level row p) same (subst (λ (image : List ℕ). IsFaultFrom image x row p) (run.reads.content told) fault)) (c.in-Err.ensures.first told))

pub returns-in-Err-clause-retrieves : goal.returns-in-Err-clause-retrieves
returns-in-Err-clause-retrieves g c =
    let tells = g.D.Disk.tells in
    let x : Tables = c.index-levels-i.result in
    let i = c.loop-i.i in
    let levels : List Tables = c.args.levels.now in
    let rows : List ℕ = c.args.rows.now in
    let row = get_or rows i 0 in
    let inside : i < length levels = omega (arith, c.requires.within, c.loop-i-test.true) in
    let same : x ≡ level_at levels i = item_level levels i x inside c.index-levels-i.is in
    let old = g.D.Disk.state c.args.disk.now in
    let mid = g.D.Disk.state c.loop-i.disk in
    let now = g.D.Disk.state c.test_from.new.disk in
    let read = c.requires.read in
    record {
      reads = test_front tells levels rows (i + 1) c.args.n (omega (arith, c.loop-i-test.true)) old now
          (test_cost tells levels rows i inside (read_rows tells old.content read.0 levels rows read.1 read.2) old mid now c.loop-i.invariant
          (subst (λ (level : Tables). Reads tells (data_bytes (drop row level.terms)) mid now) same c.test_from.ensures.retrieves.reads));
      cause = search rules;
    }

pub bounds-rows-i : goal.bounds-rows-i
bounds-rows-i g c =
    let read = c.requires.read in
    omega (arith, c.requires.within, c.loop-i-test.true, read_rows g.D.Disk.tells (g.D.Disk.state c.args.disk.now).content read.0 c.args.levels.now c.args.rows.now read.1 read.2)

pub returns-clause-whole : goal.returns-clause-whole
returns-clause-whole g c = λ told.
    let same : c.loop-i.i ≡ c.args.n = omega (arith, c.loop-i-test.false, c.loop-i.auto.i-end) in
    subst (λ (k : ℕ). (contents : List Content) × Tells {X = List Content} (λ x. x) (g.D.Disk.state c.args.disk.now).content (take k c.args.levels.now) (Ok contents)) same (c.loop-i.invariant.told told)

pub returns-clause-retrieves : goal.returns-clause-retrieves
returns-clause-retrieves g c =
    let same : c.loop-i.i ≡ c.args.n = omega (arith, c.loop-i-test.false, c.loop-i.auto.i-end) in
    record {
      reads = subst (λ (k : ℕ). Reads g.D.Disk.tells (left_of (take k c.args.levels.now) c.args.rows.now) (g.D.Disk.state c.args.disk.now) (g.D.Disk.state c.loop-i.disk)) same c.loop-i.invariant.reads;
      cause = search rules;
    }
