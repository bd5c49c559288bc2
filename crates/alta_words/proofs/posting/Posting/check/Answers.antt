use Rattle.std.proofs.Common.{ℕ, List, subst}
use Rattle.alta_words.specs.Fault.{IsPostingFault}
use Rattle.alta_words.proofs.Walk.{fault_refuses}
use Rattle.alta_words.proofs.posting.Posting.check.Goals as goal

pub returns-in_err-bounds-clause-never : goal.returns-in_err-bounds-clause-never
returns-in_err-bounds-clause-never c = λ b p. absurd (
    fault_refuses c.args.stream.items c.args.summary.items c.in_err-bounds.field-0.0 b
    (subst (λ (s : List ℕ). IsPostingFault s c.args.summary.items c.in_err-bounds.field-0.0) c.deref.ensures.value
    (subst (λ (s : List ℕ). IsPostingFault c.deref.result.now s c.in_err-bounds.field-0.0) c.deref-2.ensures.value c.in_err-bounds.ensures.fault))
    p
    )
