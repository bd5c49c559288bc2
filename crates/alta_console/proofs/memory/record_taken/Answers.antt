use Rattle.std.proofs.Common.{◌∙◌, append-nil, [], ◌∷◌}
use Rattle.alta_console.proofs.MemoryLaws.{given_in_grown}
use Rattle.alta_console.proofs.memory.record_taken.Goals as goal

pub returns-clause-given : goal.returns-clause-given
returns-clause-given c = given_in_grown c.args.events.now.items c.push.new.self.items (c.in_ok-event.event ∷ []) [] c.in_ok-push.ensures.items c.in_ok-event.ensures.none_given ∙ append-nil _
