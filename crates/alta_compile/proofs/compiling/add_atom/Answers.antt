use Rattle.std.proofs.Common.{◌≡◌, ℕ, Option, refl, subst}
use Rattle.std.specs.Prelude.{MatchOption, OnOk}
use Rattle.alta_machine.specs.Patterns.{pattern_of}
use Rattle.alta_query.specs.View.{atom_view}
use Rattle.alta_compile.specs.Drafted.{IsAdded}
use Rattle.alta_compile.proofs.compiling.add_atom.Goals as goal

pub returns-in-Some : goal.returns-in-Some
returns-in-Some c =
    subst (λ (o : Option (ℕ × ℕ)). MatchOption o (IsAdded c.args.draft.now c.args.draft.now (pattern_of (atom_view c.args.atom.now))) (λ n. c.args.draft.now ≡ c.args.draft.now)) c.in-Some.ensures refl

pub returns-in-None : goal.returns-in-None
returns-in-None c =
    subst (λ (o : Option (ℕ × ℕ)). OnOk c.add.result (MatchOption o (IsAdded c.args.draft.now c.add.new.self (pattern_of (atom_view c.args.atom.now))) (λ n. c.add.new.self ≡ c.args.draft.now)))
    c.in-None.ensures c.add.ensures
