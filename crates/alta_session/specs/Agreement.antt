-- What a session means.
use Rattle.std.specs.Prelude.{◌≡◌, true}
use Rattle.alta_disk.specs.Disk.{DiskState}
use Rattle.alta_cursors.specs.Open.{AreOpen}
use Rattle.alta_machine.specs.Machine.{Machine}
use Rattle.alta_session.specs.declared.session.Session.{Session}
use Rattle.alta_store.specs.Agreement.{Agrees, MaySpeakOf, is_sound}
use Rattle.alta_meaning.specs.Standing.{StandsFor}

-- Session and disk agree on this machine: the store and its disk agree, the disk stands for the machine's state where it tells, and
-- the cursors that are open have the answers to come that the machine's have.
pub record AgreesOn (tells : Type 0) (disk : DiskState) (session : Session) (m : Machine) : Type 0 where
  pub store : Agrees tells disk session.store
  pub stands : tells → StandsFor m.state disk.content
  pub cursors : AreOpen session.cursors m.cursors

-- Session and disk agree, and the disk may speak of the machine's state, whatever the lists of its levels are.
pub record SpeaksOn (tells : Type 0) (disk : DiskState) (session : Session) (m : Machine) : Type 0 where
  pub store : Agrees tells disk session.store
  pub speaks : tells → MaySpeakOf m.state disk.content

-- no call of the session has failed
abbrev pub HasNotFailed : Session → Type 0
HasNotFailed session = (session.sound ≡ true) × (is_sound session.store ≡ true)
