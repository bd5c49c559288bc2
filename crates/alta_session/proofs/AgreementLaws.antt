-- Laws of what a session means.
use Rattle.std.proofs.Common.{◌≡◌, ℕ, List, [], subst, sym}
use Rattle.alta_disk.specs.Disk.{DiskState}
use Rattle.alta_machine.specs.declared.document.State.{State}
use Rattle.alta_cursors.specs.Open.{AreOpen}
use Rattle.alta_cursors.specs.declared.cursors.OpenCursor.{OpenCursor}
use Rattle.alta_session.specs.Agreement.{AgreesOn}
use Rattle.alta_machine.specs.Machine.{Machine, started_at, changed_by}
use Rattle.alta_session.specs.declared.session.Session.{Session}
use Rattle.alta_store.specs.Agreement.{Agrees, Knows}
use Rattle.alta_meaning.specs.Standing.{StandsFor}
use Rattle.alta_store.proofs.Agreements.{knows_of}

-- where nothing was answered yet
pub agrees_started : (tells : Type 0) (d : DiskState) (session : Session) (s : State) → session.cursors ≡ [] → Agrees tells d session.store → (tells → StandsFor s d.content) → AgreesOn tells d session (started_at s)
agrees_started tells d session s none store stands = record { store = store; stands = stands; cursors = subst (λ (l : List OpenCursor). AreOpen l []) (sym none) tt }

-- after a change of the state
pub agrees_changed : (tells : Type 0) (d : DiskState) (session : Session) (m : Machine) (change : State × List ℕ) → AreOpen session.cursors m.cursors → Agrees tells d session.store → (tells → StandsFor change.0 d.content)
    → AgreesOn tells d session (changed_by m change).0
agrees_changed tells d session m change open_still store stands = record { store = store; stands = stands; cursors = open_still }

-- the store knows the machine's state
pub knows_state : (tells : Type 0) (d : DiskState) (session : Session) (m : Machine) → AgreesOn tells d session m → tells → Knows session.store m.state
knows_state tells d session m agrees told = knows_of tells d session.store agrees.store m.state told (agrees.stands told)
