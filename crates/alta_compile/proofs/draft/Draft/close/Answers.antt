use Rattle.std.proofs.Common.{◌≡◌, ◌++◌, suc, length, sym, subst, rules}
use Rattle.alta_docread.specs.Solutions.{IsHeld}
use Rattle.alta_solver.specs.Bounds.{IsNamed}
use Rattle.alta_machine.specs.PlanOf.{held}
use Rattle.alta_compile.proofs.Drafts.{held_named, held_is}
use Rattle.alta_compile.proofs.draft.Draft.close.Goals as goal

pub new-requires-2-clause-named : goal.new-requires-2-clause-named
new-requires-2-clause-named c =
    let e : c.new.result ≡ held (length c.from_vec.result) ++ c.args.self.bounds.items = search rules in
    let n : IsNamed (suc (length c.from_vec.result)) c.args.self.bounds.items = search rules in
    subst (λ bs. IsNamed (suc (length c.from_vec.result)) bs) (sym e) (held_named (length c.from_vec.result) c.args.self.bounds.items n)

pub new-requires-2-clause-held : goal.new-requires-2-clause-held
new-requires-2-clause-held c =
    let e : c.new.result ≡ held (length c.from_vec.result) ++ c.args.self.bounds.items = search rules in
    subst (λ bs. IsHeld (suc (length c.from_vec.result)) bs) (sym e) (held_is (length c.from_vec.result) c.args.self.bounds.items)
