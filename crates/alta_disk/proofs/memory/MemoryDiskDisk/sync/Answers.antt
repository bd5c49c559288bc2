use Rattle.std.proofs.Common.{rules, ◌≡◌, [], ◌∷◌, ◌++◌, ap, ◌∙◌}
use Rattle.alta_disk.specs.Disk.{Same}
use Rattle.alta_disk.specs.declared.event.Event.TheVariants.{Synced}
use Rattle.alta_disk.specs.declared.memory.MemoryDisk.{MemoryDisk}
use Rattle.alta_disk.proofs.Pushed.{passes_pushed, synced_only, synced_moves, synced_firms}
use Rattle.alta_disk.proofs.memory.MemoryDiskDisk.sync.Goals as goal

pub returns-in-Ok-clause-exactly : goal.returns-in-Ok-clause-exactly
returns-in-Ok-clause-exactly c =
    let old = c.args.self.now.written in
    let first : c.sync.new.self.first.items ≡ old.first.items = cc (c.sync.ensures.first, c.fails_now.ensures.new) in
    let events : c.sync.new.self.events.items ≡ old.events.items ++ Synced ∷ [] = cc (c.in-Ok.ensures.ok, c.fails_now.ensures.new) in
    record {
      counts = (ap (λ (m : MemoryDisk). m.calls) c.fails_now.ensures.new, ap (λ (m : MemoryDisk). m.fail.items) c.fails_now.ensures.new);
      refused = λ yes. c.if-fails_now.ensures.fails ∙ yes;
      done = synced_firms old.first.items _ old.events.items _ first events;
      failed = tt;
    }

pub returns-in-Ok-clause-durable : goal.returns-in-Ok-clause-durable
returns-in-Ok-clause-durable c =
    let old = c.args.self.now.written in
    let first : c.sync.new.self.first.items ≡ old.first.items = cc (c.sync.ensures.first, c.fails_now.ensures.new) in
    let events : c.sync.new.self.events.items ≡ old.events.items ++ Synced ∷ [] = cc (c.in-Ok.ensures.ok, c.fails_now.ensures.new) in
    synced_only old.first.items _ old.events.items _ first events

pub returns-in-Ok-clause-call : goal.returns-in-Ok-clause-call
returns-in-Ok-clause-call c =
    let old = c.args.self.now.written in
    let first : c.sync.new.self.first.items ≡ old.first.items = cc (c.sync.ensures.first, c.fails_now.ensures.new) in
    let events : c.sync.new.self.events.items ≡ old.events.items ++ Synced ∷ [] = cc (c.in-Ok.ensures.ok, c.fails_now.ensures.new) in
    record {
      images = passes_pushed old.first.items _ old.events.items _ Synced Same _ _ _ _ _ _ first events (synced_moves old.first.items old.events.items old.kept.sound old.kept.bytes);
      charges = search rules;
      faults = search rules;
    }
