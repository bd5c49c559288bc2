use Rattle.std.proofs.Common.{◌∙◌, sym, ap, [], ◌∷◌, ◌++◌, List, ℕ, append-nil}
use Rattle.alta_console.proofs.MemoryLaws.{given_in_grown}
use Rattle.alta_console.specs.declared.event.Event.TheVariants.{Given}
use Rattle.alta_console.proofs.memory.record_given.Goals as goal

pub returns-clause-given : goal.returns-clause-given
returns-clause-given c same =
    let piece : List ℕ = c.args.piece.now in
    c.in_ok-extend_from_slice.ensures.items ∙ ap (λ (l : List ℕ). l ++ piece) (c.reserve.ensures.items ∙ same)
    ∙ sym (given_in_grown c.args.events.now.items c.push.new.self.items (Given c.from_vec.result ∷ []) piece c.in_ok-push.ensures.items (append-nil _ ∙ c.from_vec.ensures ∙ c.in_ok-from_slice.ensures.items))
