use Rattle.std.proofs.Common.{arith, sym, ◌∙◌, ap, [], ◌∷◌, length, length-append}
use Rattle.alta_format.specs.Format.{read}
use Rattle.alta_root.specs.Root.{levels_format}
use Rattle.alta_root.proofs.ReadLaws.{level_cut, level_refused, level_read, levels_done}
use Rattle.alta_root.proofs.fields.levels_at.Goals as goal

pub returns-in-Err-clause-gives : goal.returns-in-Err-clause-gives
returns-in-Err-clause-gives c =
    level_cut c.args.size c.args.count c.loop.counter c.loop.root c.loop.rest.now c.in-Err.fault (read (levels_format c.args.size c.args.root c.args.count) c.args.bytes.now) c.loop-test.true c.in-Err.ensures.reads.gives c.loop.invariant.reads

pub returns-then-not-is_level-clause-gives : goal.returns-then-not-is_level-clause-gives
returns-then-not-is_level-clause-gives c =
    level_refused c.args.size c.args.count c.loop.counter c.loop.root c.loop.rest.now c.in-Ok.text.now c.in-Ok.behind.now c.extent_of-level.result (read (levels_format c.args.size c.args.root c.args.count) c.args.bytes.now)
    c.loop-test.true c.in-Ok.ensures.reads.gives c.extent_of-level.ensures (sym c.is_level.ensures ∙ c.if-not-is_level.true) c.loop.invariant.reads

pub loop-preserved : goal.loop-preserved
loop-preserved c = record {
  reads = level_read c.args.size c.args.count c.loop.counter c.loop.root c.push.new.self c.loop.rest.now c.in-Ok.text.now c.in-Ok.behind.now c.extent_of-level.result (read (levels_format c.args.size c.args.root c.args.count) c.args.bytes.now)
      c.loop-test.true c.in-Ok.ensures.reads.gives c.extent_of-level.ensures (sym c.is_level.ensures ∙ c.if-not-is_level.false) c.push.ensures.items c.loop.invariant.reads;
  few = omega (arith, ap length c.push.ensures.items, length-append c.loop.root.levels.items (c.extent_of-level.result ∷ []), c.loop.invariant.few);
}

pub returns-clause-gives : goal.returns-clause-gives
returns-clause-gives c = levels_done c.args.size c.args.count c.loop.counter c.loop.root c.loop.rest.now (read (levels_format c.args.size c.args.root c.args.count) c.args.bytes.now) c.loop-test.false c.loop.invariant.reads
