use Rattle.alta_session.proofs.ServeLaws.{holds_answered}
use Rattle.alta_machine.specs.Machine.{started_at}
use Rattle.alta_session.proofs.laws.what_was_answered_is_kept.Goals as goal

pub returns : goal.returns
returns g c = λ console console_now disk disk_now limit status s stands serves image here.
    let told : g.D.Disk.tells = (g.met.D.Disk.lawful disk_now).told image here in
    holds_answered limit (started_at s) serves.run image ((serves.throughout.keeps s told stands).now image here)
