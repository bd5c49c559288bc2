use Rattle.std.proofs.Common.{sym, subst}
use Rattle.std.specs.Prelude.{Any, Contains, ◌↔◌}
use Rattle.alta_docread.specs.Tree.{Tree, tree_list, IsUnmoved}
use Rattle.alta_docread.specs.View.{tree_of}
use Rattle.alta_docread.specs.declared.node.Node.{Node}
use Rattle.alta_docread.proofs.Members.{any_members, any_unmoved}
use Rattle.alta_docread.proofs.node.Node.any_of.Goals as goal

pub returns-clause-members : goal.returns-clause-members
returns-clause-members g c = λ z.
    let tree : Node g.row.R.Denot → Tree = tree_of g.R.Reader.list g.R.Reader.all g.R.Reader.location g.R.Reader.left in let ns = c.args.nodes.items in
    subst (λ t. Contains (tree_list t) z ↔ Any (λ n. Contains (tree_list (tree n)) z) ns) (sym c.united.ensures) (any_members tree ns z)

pub returns-clause-unmoved : goal.returns-clause-unmoved
returns-clause-unmoved g c = λ h.
    subst (λ t. IsUnmoved t) (sym c.united.ensures) (any_unmoved (tree_of g.R.Reader.list g.R.Reader.all g.R.Reader.location g.R.Reader.left) c.args.nodes.items h)
