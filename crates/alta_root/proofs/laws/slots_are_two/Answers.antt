use Rattle.alta_root.proofs.SwitchLaws.{slot_low, other_twice}
use Rattle.alta_root.proofs.laws.slots_are_two.Goals as goal

pub returns-clause-front : goal.returns-clause-front
returns-clause-front c = λ slot. slot_low slot

pub returns-clause-twice : goal.returns-clause-twice
returns-clause-twice c = λ slot. other_twice slot
