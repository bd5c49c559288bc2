use Rattle.std.proofs.Common.{◌≡◌, inl, [], ◌∷◌, ◌++◌, ap, ◌∙◌}
use Rattle.alta_disk.specs.Disk.{Torn}
use Rattle.alta_disk.specs.declared.event.Event.TheVariants.{Tore}
use Rattle.alta_disk.specs.declared.memory.MemoryDisk.{MemoryDisk}
use Rattle.alta_disk.proofs.Pushed.{passes_pushed, tore_moves, tore_tears}
use Rattle.alta_disk.proofs.memory.MemoryDisk.fail_write.Goals as goal

pub returns-in-Ok-clause-left : goal.returns-in-Ok-clause-left
returns-in-Ok-clause-left c =
    let old = c.args.self.now.written in
    let first : c.tear.new.self.first.items ≡ old.first.items = c.tear.ensures.first ∙ ap (λ (m : MemoryDisk). m.written.first.items) c.count_fault-failed.ensures.same in
    let events : c.tear.new.self.events.items ≡ old.events.items ++ Tore c.args.at c.args.n ∷ [] = c.in-Ok.ensures.events ∙ ap (λ (m : MemoryDisk). m.written.events.items ++ Tore c.args.at c.args.n ∷ []) c.count_fault-failed.ensures.same in
    inl (tore_tears old.first.items _ old.events.items _ first c.args.at c.args.n events)

pub returns-in-Ok-clause-images : goal.returns-in-Ok-clause-images
returns-in-Ok-clause-images c =
    let old = c.args.self.now.written in
    let first : c.tear.new.self.first.items ≡ old.first.items = c.tear.ensures.first ∙ ap (λ (m : MemoryDisk). m.written.first.items) c.count_fault-failed.ensures.same in
    let events : c.tear.new.self.events.items ≡ old.events.items ++ Tore c.args.at c.args.n ∷ [] = c.in-Ok.ensures.events ∙ ap (λ (m : MemoryDisk). m.written.events.items ++ Tore c.args.at c.args.n ∷ []) c.count_fault-failed.ensures.same in
    passes_pushed old.first.items _ old.events.items _ (Tore c.args.at c.args.n) (Torn c.args.at c.args.n) _ _ _ _ _ _ first events (tore_moves old.first.items old.events.items c.args.at c.args.n)
