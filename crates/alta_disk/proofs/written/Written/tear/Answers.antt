use Rattle.std.specs.Prelude.{is_ok}
use Rattle.std.proofs.Common.{refl}
use Rattle.alta_disk.specs.Media.{content_of}
use Rattle.alta_disk.proofs.Pushed.{kept_tore}
use Rattle.alta_disk.proofs.written.Written.tear.Goals as goal

pub invariant_of-self : goal.invariant_of-self
invariant_of-self c =
    let self = c.args.self.now in
    record { kept = kept_tore self.first.items (content_of self.content self.first.items) self.events.items self.synced self.kept _ _ c.args.at c.args.n (is_ok c.push.result) c.push.ensures.items c.requires refl }
