use Rattle.alta_session.proofs.ServeLaws.{holds_changes, holds_replied}
use Rattle.alta_session.proofs.laws.what_was_answered_is_kept_beside_damage.Goals as goal

pub returns-clause-replied : goal.returns-clause-replied
returns-clause-replied g c = λ console console_now disk disk_now limit status s stands serves image here.
    let told : g.D.Disk.tells = (g.met.D.Disk.lawful disk_now).told image here in
    holds_replied g.D.Disk.tells limit _ _ _ _ _ _ status s told stands serves image here

pub returns-clause-changed : goal.returns-clause-changed
returns-clause-changed g c = λ console console_now disk disk_now limit status s stands serves changes image here.
    let told : g.D.Disk.tells = (g.met.D.Disk.lawful disk_now).told image here in
    holds_changes g.D.Disk.tells limit _ _ _ _ _ _ status s told stands serves changes image here
