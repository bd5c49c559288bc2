use Rattle.std.proofs.Common.{◌<◌, length, sym, subst}
use Rattle.std.specs.Prelude.{All, Contains, ◌↔◌}
use Rattle.alta_docread.specs.Tree.{Tree, tree_list, IsUnmoved}
use Rattle.alta_docread.specs.View.{tree_of}
use Rattle.alta_docread.specs.declared.node.Node.{Node}
use Rattle.alta_docread.proofs.Members.{all_members, all_unmoved}
use Rattle.alta_docread.proofs.node.Node.all_of.Goals as goal

pub returns-clause-members : goal.returns-clause-members
returns-clause-members g c = λ z.
    let tree : Node g.row.R.Denot → Tree = tree_of g.R.Reader.list g.R.Reader.all g.R.Reader.location g.R.Reader.left in let ns = c.args.nodes.items in
    subst (λ t. Contains (tree_list t) z ↔ ((0 < length ns) × All (λ n. Contains (tree_list (tree n)) z) ns)) (sym c.joint.ensures) (all_members tree ns z)

pub returns-clause-unmoved : goal.returns-clause-unmoved
returns-clause-unmoved g c = λ some h.
    subst (λ t. IsUnmoved t) (sym c.joint.ensures) (all_unmoved (tree_of g.R.Reader.list g.R.Reader.all g.R.Reader.location g.R.Reader.left) c.args.nodes.items some h)
