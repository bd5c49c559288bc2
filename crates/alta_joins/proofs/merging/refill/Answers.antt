use Rattle.std.proofs.Common.{◌≡◌, ◌+◌, ◌<◌, ◌≤◌, ℕ, List, length, length-drop, drop, get_or, take, refl, sym, subst, ap, ◌∙◌, arith, rules}
use Rattle.std.proofs.lemmas.List.{length-take}
use Rattle.std.specs.Prelude.{Ok, Err}
use Rattle.alta_content.specs.declared.content.Content.{Content}
use Rattle.alta_disk.specs.Answers.{IfDamaged}
use Rattle.alta_disk.specs.Calls.{Reads}
use Rattle.alta_disk.specs.declared.fault.LoadFault.{LoadFault}
use Rattle.alta_joins.proofs.MergeRuns.{refill_cost}
use Rattle.alta_joins.proofs.MergeSteps.{item_level, left_front, left_more, left_set, level_at, read_image, rows_many, window_taken}
use Rattle.alta_joins.proofs.MergedLaws.{AreReadBack, broken_here, damage_here}
use Rattle.alta_joins.proofs.ReadRows.{lists_many, read_on}
use Rattle.alta_joins.specs.Damages.{FindsDamage, Tells}
use Rattle.alta_meaning.specs.Broken.{IsBrokenAmong}
use Rattle.alta_joins.specs.Reading.{AreRead, IsFaultFrom, left_of, rows_between}
use Rattle.alta_joins.specs.declared.window.Window.{Window}
use Rattle.alta_meaning.proofs.DiskReads.{reads_within}
use Rattle.alta_table.specs.Places.{stream_place}
use Rattle.alta_table.specs.Tables.{Tables}
use Rattle.alta_table.specs.Terms.{data_bytes}
use Rattle.alta_joins.proofs.merging.refill.Goals as goal

pub bounds-rows-i : goal.bounds-rows-i
bounds-rows-i g c =
    let m = c.requires.merged in
    omega (arith, c.requires.within, rows_many g.D.Disk.tells m.0 (g.D.Disk.state c.args.disk.now).content m.1 m.2 c.args.levels.now c.args.rows.now c.args.hand.now m.3 m.4)

pub bounds-rows-i-in-Ok : goal.bounds-rows-i-in-Ok
bounds-rows-i-in-Ok g c =
    let m = c.requires.merged in
    omega (arith, c.requires.within, rows_many g.D.Disk.tells m.0 (g.D.Disk.state c.args.disk.now).content m.1 m.2 c.args.levels.now c.args.rows.now c.args.hand.now m.3 m.4)

pub test_before-requires-clause-read : goal.test_before-requires-clause-read
test_before-requires-clause-read g c =
    let tells = g.D.Disk.tells in
    let x : Tables = c.index-levels-i.result in
    let i = c.args.i in
    let levels : List Tables = c.args.levels.now in
    let rows : List ℕ = c.args.rows.now in
    let row = get_or rows i 0 in
    let inside : i < length levels = c.requires.within in
    let same : x ≡ level_at levels i = item_level levels i x inside c.index-levels-i.is in
    let old = g.D.Disk.state c.args.disk.now in
    let mid = g.D.Disk.state c.read_window.new.disk in
    let m = c.requires.merged in
    let many : length rows ≡ length levels = rows_many tells m.0 old.content m.1 m.2 levels rows c.args.hand.now m.3 m.4 in
    (m.1, m.4.read, read_image tells m.0 mid.content m.1 levels rows m.4.read (λ t. sym (c.read_window.ensures.retrieves.reads.content t ∙ m.4.here t)) m.4.are)

pub returns-in-Ok-clause-filled : goal.returns-in-Ok-clause-filled
returns-in-Ok-clause-filled g c =
    let x : Tables = c.index-levels-i.result in
    let row = get_or c.args.rows.now c.args.i 0 in
    let window : Window = c.in-Ok.window in
    let read = c.in-Ok.ensures.read in
    record {
      end = window.end;
      lists = window.lists;
      some = omega (
        arith,
        lists_many x.documents (rows_between x row window.end) read.bytes (stream_place x row) window.lists read.are,
        length-drop row (take window.end x.terms),
        length-take window.end x.terms,
        c.in-Ok.ensures.on,
        c.in-Ok.ensures.within,
      );
      rows_are = refl;
      hand_is = refl;
    }

pub returns-in-Ok-clause-fills : goal.returns-in-Ok-clause-fills
returns-in-Ok-clause-fills g c = record {
  merged = λ image newest spans made n.
      let tells = g.D.Disk.tells in
      let x : Tables = c.index-levels-i.result in
      let i = c.args.i in
      let levels : List Tables = c.args.levels.now in
      let rows : List ℕ = c.args.rows.now in
      let row = get_or rows i 0 in
      let inside : i < length levels = c.requires.within in
      let same : x ≡ level_at levels i = item_level levels i x inside c.index-levels-i.is in
      let old = g.D.Disk.state c.args.disk.now in
      let mid = g.D.Disk.state c.read_window.new.disk in
      let m = c.requires.merged in
      let many : length rows ≡ length levels = rows_many tells m.0 old.content m.1 m.2 levels rows c.args.hand.now m.3 m.4 in
      let window : Window = c.in-Ok.window in
      let is : AreRead tells image (level_at levels i) row window.end window.lists =
      subst (λ (level : Tables). AreRead tells image level row window.end window.lists) same (read_on tells old.content image x row window.end window.lists n.here c.in-Ok.ensures.read) in
      window_taken tells image old.content newest spans levels rows c.args.hand.now made n i window.end window.lists mid.content inside c.in-Ok.ensures.on
      (subst (λ (level : Tables). window.end ≤ length level.terms) same c.in-Ok.ensures.within) is c.requires.none (λ t. c.read_window.ensures.retrieves.reads.content t ∙ n.here t);
  reads = record {
    cost =
        let tells = g.D.Disk.tells in
        let x : Tables = c.index-levels-i.result in
        let i = c.args.i in
        let levels : List Tables = c.args.levels.now in
        let rows : List ℕ = c.args.rows.now in
        let row = get_or rows i 0 in
        let inside : i < length levels = c.requires.within in
        let same : x ≡ level_at levels i = item_level levels i x inside c.index-levels-i.is in
        let old = g.D.Disk.state c.args.disk.now in
        let mid = g.D.Disk.state c.read_window.new.disk in
        let m = c.requires.merged in
        let many : length rows ≡ length levels = rows_many tells m.0 old.content m.1 m.2 levels rows c.args.hand.now m.3 m.4 in
        let end = c.in-Ok.window.end in
        let within : end ≤ length (level_at levels i).terms = subst (λ (level : Tables). end ≤ length level.terms) same c.in-Ok.ensures.within in
        let less = left_set levels rows i end many inside (omega (arith, c.in-Ok.ensures.on)) within in
        let size : data_bytes (rows_between x row end) ≡ data_bytes (rows_between (level_at levels i) row end) = ap (λ (level : Tables). data_bytes (rows_between level row end)) same in
        (data_bytes (rows_between x row end), c.in-Ok.ensures.cost, omega (arith, less, size));
    damage = λ told. tt;
    broken = λ told. tt;
    retrieves =
        let tells = g.D.Disk.tells in
        let x : Tables = c.index-levels-i.result in
        let i = c.args.i in
        let levels : List Tables = c.args.levels.now in
        let rows : List ℕ = c.args.rows.now in
        let row = get_or rows i 0 in
        let inside : i < length levels = c.requires.within in
        let same : x ≡ level_at levels i = item_level levels i x inside c.index-levels-i.is in
        let old = g.D.Disk.state c.args.disk.now in
        let mid = g.D.Disk.state c.read_window.new.disk in
        let m = c.requires.merged in
        let many : length rows ≡ length levels = rows_many tells m.0 old.content m.1 m.2 levels rows c.args.hand.now m.3 m.4 in
        let end = c.in-Ok.window.end in
        let within : end ≤ length (level_at levels i).terms = subst (λ (level : Tables). end ≤ length level.terms) same c.in-Ok.ensures.within in
        let less = left_set levels rows i end many inside (omega (arith, c.in-Ok.ensures.on)) within in
        let size : data_bytes (rows_between x row end) ≡ data_bytes (rows_between (level_at levels i) row end) = ap (λ (level : Tables). data_bytes (rows_between level row end)) same in
        record {
          reads = reads_within tells (data_bytes (rows_between x row end)) (left_of levels rows) old mid (omega (arith, less, size)) c.in-Ok.ensures.cost;
          cause = search rules;
        };
  };
}

pub returns-in-Ok-test_before-clause-fills : goal.returns-in-Ok-test_before-clause-fills
returns-in-Ok-test_before-clause-fills g c = record {
  merged = λ image newest spans made m. tt;
  reads = record {
    cost = tt;
    damage = λ told.
        let tells = g.D.Disk.tells in
        let x : Tables = c.index-levels-i.result in
        let i = c.args.i in
        let levels : List Tables = c.args.levels.now in
        let rows : List ℕ = c.args.rows.now in
        let row = get_or rows i 0 in
        let inside : i < length levels = c.requires.within in
        let same : x ≡ level_at levels i = item_level levels i x inside c.index-levels-i.is in
        let old = g.D.Disk.state c.args.disk.now in
        let mid = g.D.Disk.state c.read_window.new.disk in
        let m = c.requires.merged in
        let many : length rows ≡ length levels = rows_many tells m.0 old.content m.1 m.2 levels rows c.args.hand.now m.3 m.4 in
        let now = g.D.Disk.state c.test_before.new.disk in
        let laws : AreReadBack = record { once = c.segments_read_back.ensures.once; apart = c.segments_read_back.ensures.apart; alone = c.segments_read_back.ensures.first } in
        let are = read_image tells m.0 old.content m.1 levels rows m.4.read (λ t. sym (m.4.here t)) m.4.are in
        let place = c.in-Err-Damaged.place in
        let fault : IsFaultFrom old.content x row place =
        subst (λ (f : LoadFault). IfDamaged {X = Window} (Err f) (IsFaultFrom old.content x row)) c.in-Err-Damaged.field-0-is (c.in-Err-Damaged.ensures.first told) in
        let own : IsFaultFrom old.content (level_at levels i) row place = subst (λ (level : Tables). IsFaultFrom old.content level row place) same fault in
        let whole = subst (λ (image : List ℕ). (contents : List Content) × Tells {X = List Content} (λ y. y) image (take i levels) (Ok contents)) (c.read_window.ensures.retrieves.reads.content told)
        (c.in-Ok-test_before.ensures.whole told) in
        damage_here tells old (g.met.D.Disk.lawful c.args.disk.now) laws levels rows m.1 m.4.read c.requires.opened c.requires.stands are i inside whole.0 whole.1 place told own;
    broken = λ told.
        let tells = g.D.Disk.tells in
        let x : Tables = c.index-levels-i.result in
        let i = c.args.i in
        let levels : List Tables = c.args.levels.now in
        let rows : List ℕ = c.args.rows.now in
        let row = get_or rows i 0 in
        let inside : i < length levels = c.requires.within in
        let same : x ≡ level_at levels i = item_level levels i x inside c.index-levels-i.is in
        let old = g.D.Disk.state c.args.disk.now in
        let mid = g.D.Disk.state c.read_window.new.disk in
        let m = c.requires.merged in
        let many : length rows ≡ length levels = rows_many tells m.0 old.content m.1 m.2 levels rows c.args.hand.now m.3 m.4 in
        let now = g.D.Disk.state c.test_before.new.disk in
        let laws : AreReadBack = record { once = c.segments_read_back.ensures.once; apart = c.segments_read_back.ensures.apart; alone = c.segments_read_back.ensures.first } in
        let are = read_image tells m.0 old.content m.1 levels rows m.4.read (λ t. sym (m.4.here t)) m.4.are in
        let place = c.in-Err-Damaged.place in
        let fault : IsFaultFrom old.content x row place =
        subst (λ (f : LoadFault). IfDamaged {X = Window} (Err f) (IsFaultFrom old.content x row)) c.in-Err-Damaged.field-0-is (c.in-Err-Damaged.ensures.first told) in
        let own : IsFaultFrom old.content (level_at levels i) row place = subst (λ (level : Tables). IsFaultFrom old.content level row place) same fault in
        broken_here tells old (g.met.D.Disk.lawful c.args.disk.now) laws levels rows m.1 m.4.read c.requires.opened c.requires.stands are i inside place told own;
    retrieves =
        let tells = g.D.Disk.tells in
        let x : Tables = c.index-levels-i.result in
        let i = c.args.i in
        let levels : List Tables = c.args.levels.now in
        let rows : List ℕ = c.args.rows.now in
        let row = get_or rows i 0 in
        let inside : i < length levels = c.requires.within in
        let same : x ≡ level_at levels i = item_level levels i x inside c.index-levels-i.is in
        let old = g.D.Disk.state c.args.disk.now in
        let mid = g.D.Disk.state c.read_window.new.disk in
        let m = c.requires.merged in
        let many : length rows ≡ length levels = rows_many tells m.0 old.content m.1 m.2 levels rows c.args.hand.now m.3 m.4 in
        let now = g.D.Disk.state c.test_before.new.disk in
        record {
          reads = refill_cost tells levels rows i many inside old mid now (subst (λ (level : Tables). Reads tells (data_bytes (drop row level.terms)) old mid) same c.read_window.ensures.retrieves.reads)
              c.test_before.ensures.retrieves.reads;
          cause = search rules;
        };
  };
}

pub returns-in-Err-clause-fills : goal.returns-in-Err-clause-fills
returns-in-Err-clause-fills g c = record {
  merged = λ image newest spans made m. tt;
  reads = record {
    cost = tt;
    damage = λ told.
        subst (λ (image : List ℕ). FindsDamage {X = Unit {0}} image c.args.levels.now (Err c.in-Err.fault)) (c.read_window.ensures.retrieves.reads.content told) (c.in-Err.ensures.damage told);
    broken = λ told.
        subst (λ (image : List ℕ). IfDamaged {X = Unit {0}} (Err c.in-Err.fault) (IsBrokenAmong c.args.levels.now image)) (c.read_window.ensures.retrieves.reads.content told) (c.in-Err.ensures.broken told);
    retrieves =
        let tells = g.D.Disk.tells in
        let x : Tables = c.index-levels-i.result in
        let i = c.args.i in
        let levels : List Tables = c.args.levels.now in
        let rows : List ℕ = c.args.rows.now in
        let row = get_or rows i 0 in
        let inside : i < length levels = c.requires.within in
        let same : x ≡ level_at levels i = item_level levels i x inside c.index-levels-i.is in
        let old = g.D.Disk.state c.args.disk.now in
        let mid = g.D.Disk.state c.read_window.new.disk in
        let m = c.requires.merged in
        let many : length rows ≡ length levels = rows_many tells m.0 old.content m.1 m.2 levels rows c.args.hand.now m.3 m.4 in
        let now = g.D.Disk.state c.test_before.new.disk in
        record {
          reads = refill_cost tells levels rows i many inside old mid now (subst (λ (level : Tables). Reads tells (data_bytes (drop row level.terms)) old mid) same c.read_window.ensures.retrieves.reads)
              c.test_before.ensures.retrieves.reads;
          cause = search rules;
        };
  };
}

pub returns-in-Err-Disk-clause-fills : goal.returns-in-Err-Disk-clause-fills
returns-in-Err-Disk-clause-fills g c = record {
  merged = λ image newest spans made m. tt;
  reads = record {
    cost = tt;
    damage = λ told. record { undamaged = λ contents are. tt; first = tt; damaged = λ p damage. tt };
    broken = λ told. tt;
    retrieves =
        let tells = g.D.Disk.tells in
        let x : Tables = c.index-levels-i.result in
        let i = c.args.i in
        let levels : List Tables = c.args.levels.now in
        let rows : List ℕ = c.args.rows.now in
        let row = get_or rows i 0 in
        let inside : i < length levels = c.requires.within in
        let same : x ≡ level_at levels i = item_level levels i x inside c.index-levels-i.is in
        let old = g.D.Disk.state c.args.disk.now in
        let mid = g.D.Disk.state c.read_window.new.disk in
        let m = c.requires.merged in
        let many : length rows ≡ length levels = rows_many tells m.0 old.content m.1 m.2 levels rows c.args.hand.now m.3 m.4 in
        record {
          reads = reads_within tells (data_bytes (drop row x.terms)) (left_of levels rows) old mid
              (omega (arith, left_more levels rows i many inside, left_front levels rows (i + 1), ap (λ (level : Tables). data_bytes (drop row level.terms)) same)) c.read_window.ensures.retrieves.reads;
          cause = search rules;
        };
  };
}

pub returns-in-Err-Memory-clause-fills : goal.returns-in-Err-Memory-clause-fills
returns-in-Err-Memory-clause-fills g c = record {
  merged = λ image newest spans made m. tt;
  reads = record {
    cost = tt;
    damage = λ told. record { undamaged = λ contents are. tt; first = tt; damaged = λ p damage. tt };
    broken = λ told. tt;
    retrieves =
        let tells = g.D.Disk.tells in
        let x : Tables = c.index-levels-i.result in
        let i = c.args.i in
        let levels : List Tables = c.args.levels.now in
        let rows : List ℕ = c.args.rows.now in
        let row = get_or rows i 0 in
        let inside : i < length levels = c.requires.within in
        let same : x ≡ level_at levels i = item_level levels i x inside c.index-levels-i.is in
        let old = g.D.Disk.state c.args.disk.now in
        let mid = g.D.Disk.state c.read_window.new.disk in
        let m = c.requires.merged in
        let many : length rows ≡ length levels = rows_many tells m.0 old.content m.1 m.2 levels rows c.args.hand.now m.3 m.4 in
        record {
          reads = reads_within tells (data_bytes (drop row x.terms)) (left_of levels rows) old mid
              (omega (arith, left_more levels rows i many inside, left_front levels rows (i + 1), ap (λ (level : Tables). data_bytes (drop row level.terms)) same)) c.read_window.ensures.retrieves.reads;
          cause = search rules;
        };
  };
}
