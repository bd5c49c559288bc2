use Rattle.std.proofs.Common.{rules, ◌≡◌, [], ◌∷◌, ◌++◌, length, ap, ◌∙◌}
use Rattle.alta_disk.specs.Disk.{Torn}
use Rattle.alta_disk.specs.declared.event.Event.TheVariants.{Wrote}
use Rattle.alta_disk.specs.declared.memory.MemoryDisk.{MemoryDisk}
use Rattle.alta_disk.proofs.Pushed.{passes_pushed, wrote_moves, wrote_pends}
use Rattle.alta_disk.proofs.memory.MemoryDiskDisk.write.Goals as goal

pub returns-in-Ok-clause-exactly : goal.returns-in-Ok-clause-exactly
returns-in-Ok-clause-exactly c =
    let old = c.args.self.now.written in
    let done = c.in-Ok.ensures.ok in
    let first : c.write.new.self.first.items ≡ old.first.items = cc (c.write.ensures.first, c.fails_now.ensures.new) in
    let events : c.write.new.self.events.items ≡ old.events.items ++ Wrote c.args.at done.0 ∷ [] = cc (done.2, c.fails_now.ensures.new) in
    record {
      counts = (ap (λ (m : MemoryDisk). m.calls) c.fails_now.ensures.new, ap (λ (m : MemoryDisk). m.fail.items) c.fails_now.ensures.new);
      refused = λ yes. c.if-fails_now.ensures.fails ∙ yes;
      done = wrote_pends old.first.items _ old.events.items _ first c.args.at done.0 c.args.bytes.now events done.1;
      failed = tt;
    }

pub returns-in-Ok-clause-call : goal.returns-in-Ok-clause-call
returns-in-Ok-clause-call c =
    let old = c.args.self.now.written in
    let done = c.in-Ok.ensures.ok in
    let first : c.write.new.self.first.items ≡ old.first.items = cc (c.write.ensures.first, c.fails_now.ensures.new) in
    let events : c.write.new.self.events.items ≡ old.events.items ++ Wrote c.args.at done.0 ∷ [] = cc (done.2, c.fails_now.ensures.new) in
    record {
      images = passes_pushed old.first.items _ old.events.items _ (Wrote c.args.at done.0) (Torn c.args.at (length c.args.bytes.now)) _ _ _ _ _ _ first events (wrote_moves old.first.items old.events.items c.args.at done.0 c.args.bytes.now done.1);
      charges = search rules;
      faults = search rules;
    }
