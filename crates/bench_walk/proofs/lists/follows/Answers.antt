use Rattle.std.proofs.Common.{◌≡◌, ◌++◌, ◌∷◌, [], rules}
use Rattle.std.specs.Prelude.{IsTrue}
use Rattle.alta_codec.specs.Order.{Precedes}
use Rattle.bench_walk.proofs.Keys.{behind_last}
use Rattle.bench_walk.proofs.lists.follows.Goals as goal

pub returns-in-Some : goal.returns-in-Some
returns-in-Some c =
    let split : c.args.terms.now ≡ c.in-Some._front.now ++ c.in-Some.last.now ∷ [] = search rules in
    let precede : IsTrue c.precedes.result → Precedes c.in-Some.last.now.term c.args.term.now = search rules in
    λ yes. behind_last c.args.terms.now c.in-Some._front.now c.in-Some.last.now c.args.term.now split c.requires (precede yes)
