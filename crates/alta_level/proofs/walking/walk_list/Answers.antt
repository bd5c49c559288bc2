use Rattle.std.proofs.Common.{List, ℕ, subst, arith}
use Rattle.std.specs.Prelude.{IfOk}
use Rattle.alta_postings.specs.Deltas.{decoded_list}
use Rattle.alta_words.specs.Word.{IsPosting}
use Rattle.alta_level.specs.Fitting.{AreFitting}
use Rattle.alta_level.specs.Walks.{Walks}
use Rattle.alta_level.proofs.Coded.{read_coded}
use Rattle.alta_level.proofs.walking.walk_list.Goals as goal

pub returns-in-Ok-clause-coded : goal.returns-in-Ok-clause-coded
returns-in-Ok-clause-coded c =
    read_coded c.args.stream.now c.args.summary.now c.walk.result (λ i l. omega (arith, c.type_inv.summary i)) (subst (λ (t : List ℕ). IfOk c.walk.result (λ w. IsPosting c.args.stream.now t w.bounds.rows)) c.in-Ok.ensures.found.0 c.walk.ensures.posting)

pub returns-in-Ok-clause-walks : goal.returns-in-Ok-clause-walks
returns-in-Ok-clause-walks c =
    subst (λ (t : List ℕ). Walks c.args.stream.now t (AreFitting c.args.documents.now c.args.ends (decoded_list c.args.stream.now)) c.walk.result) c.in-Ok.ensures.found.0 c.walk.ensures
