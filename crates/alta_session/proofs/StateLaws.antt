-- Laws of well-formed states.
use Rattle.std.proofs.Common.{◌≡◌, ℕ, Bool, true, false, Option, Some, None, List, refl, nat_le, if◌then◌else◌}
use Rattle.alta_machine.specs.States.{IsState}
use Rattle.alta_machine.specs.declared.document.State.{State}
use Rattle.alta_machine.specs.Command.{Command, adds, deletes, searches, counts, explains, opens, fetches, closes, ranks, flushes, merges, steps, asks_stats, dumps}
use Rattle.alta_machine.specs.Lines.{Reading, asks, refuses, reading_of}
use Rattle.alta_codec.specs.Name.{is_name}
use Rattle.alta_meaning.proofs.StateLaws.{added_state, deleted_state, replaced_state}
use Rattle.alta_machine.specs.Machine.{Machine, adding, put_as, deleted_as, deleting, obeyed, answered, step}
use Rattle.alta_session.proofs.DeletingLaws.{unnamed}
use Rattle.alta_machine.specs.Changes.{number_of as number_named}

-- what a line makes of it
if_state : (b : Bool) (x y : State × List ℕ) → (b ≡ true → IsState x.0) → (b ≡ false → IsState y.0) → IsState (if b then x else y).0
if_state true x y holds fails = holds refl
if_state false x y holds fails = fails refl

put_as_state : (number : Option ℕ) (name title body : List ℕ) (s : State) → number_named name s ≡ number → IsState s → IsState (put_as number name title body s).0
put_as_state None name title body s none is = added_state name title body s (unnamed name s none) is
put_as_state (Some n) name title body s some is = replaced_state name title body s is

adding_state : (name title body : List ℕ) (s : State) → IsState s → IsState (adding name title body s).0
unfolding adding
adding_state name title body s is =
    if_state (is_name name) _ _ (λ named. if_state (nat_le 4294967296 s.next) _ _ (λ full. is) (λ room. put_as_state (number_named name s) name title body s refl is)) (λ bad. is)

deleted_as_state : (number : Option ℕ) (name : List ℕ) (s : State) → IsState s → IsState (deleted_as number name s).0
deleted_as_state None name s is = is
deleted_as_state (Some n) name s is = deleted_state name s is

deleting_state : (name : List ℕ) (s : State) → IsState s → IsState (deleting name s).0
unfolding deleting
deleting_state name s is = if_state (is_name name) _ _ (λ named. deleted_as_state (number_named name s) name s is) (λ bad. is)

obeyed_state : (m : Machine) (command : Command) → IsState m.state → IsState (obeyed m command).0.state
obeyed_state m (adds name title body) is = adding_state name title body m.state is
obeyed_state m (deletes name) is = deleting_state name m.state is
obeyed_state m (searches text) is = is
obeyed_state m (counts text) is = is
obeyed_state m (explains text) is = is
obeyed_state m (opens text) is = is
obeyed_state m (fetches cursor count) is = is
obeyed_state m (closes cursor) is = is
obeyed_state m (ranks count text) is = is
obeyed_state m flushes is = is
obeyed_state m merges is = is
obeyed_state m (steps count) is = is
obeyed_state m asks_stats is = is
obeyed_state m dumps is = is

answered_state : (m : Machine) (reading : Reading) → IsState m.state → IsState (answered m reading).0.state
answered_state m (asks command) is = obeyed_state m command is
answered_state m (refuses fault) is = is

pub step_state : (m : Machine) (line : List ℕ) → IsState m.state → IsState (step m line).0.state
unfolding step
step_state m line is = answered_state m (reading_of line) is
