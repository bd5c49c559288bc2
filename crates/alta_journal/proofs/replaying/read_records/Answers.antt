use Rattle.std.proofs.Common.{◌≡◌, ℕ, ◌+◌, List, [], ◌∷◌, ◌++◌, length, get_or, Option, Some, None, sym, ◌∙◌, ap, subst, arith, rules}
use Rattle.std.proofs.lemmas.List.{take_rest}
use Rattle.alta_layout.specs.declared.places.TheConstants.{GATE_OPEN}
use Rattle.alta_layout.specs.Places.{half_start}
use Rattle.alta_journal.specs.Found.{IsFound}
use Rattle.alta_journal.specs.Placed.{IsReading}
use Rattle.alta_journal.specs.Reading.{entry_in}
use Rattle.alta_journal.specs.declared.entry.Entry.{Entry}
use Rattle.alta_journal.specs.declared.placed.Placed.{Placed}
use Rattle.alta_journal.proofs.ReadingSteps.{Stands, stands, read_more, damaged_here, damage_at}
use Rattle.alta_journal.proofs.SoundLaws.{reading_sound}
use Rattle.alta_journal.proofs.replaying.read_records.Goals as goal

pub returns-in_default-2-clause-damaged : goal.returns-in_default-2-clause-damaged
returns-in_default-2-clause-damaged c = λ place is.
    let bytes = c.args.bytes.now in
    let some = rw (take_rest bytes c.loop-at.at) at c.in-Some.ensures in
    let here : Stands c.loop-at.at bytes c.in-Some.payload.now = stands c.loop-at.at bytes c.in-Some.payload.now some.0 some.1 some.2 in
    let is_open : get_or bytes c.loop-at.at 0 ≡ GATE_OPEN = search rules in
    let none : IsFound c.args.version (entry_in c.in-Some.payload.now) None = subst (λ (o : Option Entry). IsFound c.args.version (entry_in c.in-Some.payload.now) o) c.in_default-2.is c.in_ok-entry.ensures in
    damage_at c.args.version (half_start c.args.slot) c.half_start-start.result c.loop-at.at place bytes c.half_start-start.ensures
    (damaged_here c.args.version (half_start c.args.slot) c.loop-at.at bytes c.in-Some.payload.now c.loop-at.entries.items c.loop-at.invariant is_open (λ i. omega (arith, c.type_inv.bytes i)) here none) is

pub loop-at-preserved : goal.loop-at-preserved
loop-at-preserved c =
    let bytes = c.args.bytes.now in
    let start = half_start c.args.slot in
    let payload = c.in-Some.payload.now in
    let some = rw (take_rest bytes c.loop-at.at) at c.in-Some.ensures in
    let here : Stands c.loop-at.at bytes payload = stands c.loop-at.at bytes payload some.0 some.1 some.2 in
    let is_open : get_or bytes c.loop-at.at 0 ≡ GATE_OPEN = search rules in
    let found : IsFound c.args.version (entry_in payload) (Some c.in-Some-2.entry) = subst (λ (o : Option Entry). IsFound c.args.version (entry_in payload) o) c.in-Some-2.is c.in_ok-entry.ensures in
    let more : IsReading c.args.version start (c.loop-at.entries.items ++ (record { place = start + c.loop-at.at; entry = c.in-Some-2.entry }) ∷ []) (c.loop-at.at + 5 + length payload) bytes =
    read_more c.args.version start c.loop-at.at bytes payload c.loop-at.entries.items c.loop-at.invariant is_open (λ i. omega (arith, c.type_inv.bytes i)) here c.in-Some-2.entry found in
    let items : c.loop-at.entries.items ++ (record { place = start + c.loop-at.at; entry = c.in-Some-2.entry }) ∷ [] ≡ c.push.new.self.items =
    ap (λ (k : ℕ). c.loop-at.entries.items ++ (record { place = k + c.loop-at.at; entry = c.in-Some-2.entry }) ∷ []) (sym c.half_start-start.ensures) ∙ sym c.in_ok-push.ensures.items in
    let end : c.loop-at.at + 5 + length payload ≡ c.loop-at.at + (5 + length payload) = omega arith in
    subst (λ (k : ℕ). IsReading c.args.version start c.push.new.self.items k bytes) end (subst (λ (l : List Placed). IsReading c.args.version start l (c.loop-at.at + 5 + length payload) bytes) items more)

pub returns-clause-rules : goal.returns-clause-rules
returns-clause-rules c = reading_sound c.args.version (half_start c.args.slot) c.loop-at.at c.loop-at.entries.items c.args.bytes.now c.loop-at.invariant
