use Rattle.alta_disk.proofs.Pushed.{sound_front_of}
use Rattle.alta_disk.proofs.written.Written.firm.Goals as goal

pub replayed-requires : goal.replayed-requires
replayed-requires c =
    let self = c.args.self.now in
    sound_front_of self.first.items self.events.items c.deref.result.now c.deref-2.result.now self.synced c.deref.ensures.value c.deref-2.ensures.value self.kept.sound
