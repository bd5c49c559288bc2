use Rattle.std.proofs.Common.{sym, subst}
use Rattle.std.specs.Prelude.{Contains, ◌↔◌}
use Rattle.alta_docread.specs.Kept.{less}
use Rattle.alta_docread.specs.KeptLaws.{less-has}
use Rattle.alta_docread.specs.Tree.{tree_list}
use Rattle.alta_docread.specs.View.{tree_of}
use Rattle.alta_docread.proofs.node.Without.new.Goals as goal

pub returns-clause-members : goal.returns-clause-members
returns-clause-members g c = λ z.
    let child = tree_list (tree_of g.R.Reader.list g.R.Reader.all g.R.Reader.location g.R.Reader.left c.args.child) in let list = g.R.Reader.list in
    subst (λ e. Contains (less (list e.inner) child) z ↔ (Contains (list c.args.ends.inner) z × (Contains child z → ⊥))) (sym c.new.ensures)
    (less-has (list c.args.ends.inner) child z)
