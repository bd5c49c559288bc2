use Rattle.std.proofs.Common.{◌≤◌, subst, sym, arith}
use Rattle.std.specs.Prelude.{All, IsTrue}
use Rattle.alta_docread.specs.DocView.{DocView}
use Rattle.alta_docread.specs.Tree.{reader_places}
use Rattle.alta_docread.proofs.Tops.{tree_within}
use Rattle.alta_docread.specs.View.{tree_of}
use Rattle.alta_docread.proofs.Views.{one_seen}
use Rattle.alta_docread.proofs.reader.DocReaderReader.loc.Goals as goal

pub returns-clause-within : goal.returns-clause-within
returns-clause-within g c = λ one below.
    let inside = c.self.inside in let keeps = c.self.invariant in
    let tree = tree_of g.R.Reader.list g.R.Reader.all g.R.Reader.location g.R.Reader.left inside.node in
    subst (λ (d : DocView). IsTrue d.one → All (λ x. x ≤ inside.at) d.places) c.self.view_is
    (λ found. subst (λ v. All (λ x. x ≤ v) (reader_places tree)) (sym keeps.2)
    (tree_within tree keeps.0 (one_seen tree found) (omega (arith, keeps.1, keeps.2)) (omega (arith, below, keeps.2)))) one
