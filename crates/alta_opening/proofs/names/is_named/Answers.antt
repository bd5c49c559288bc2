use Rattle.std.proofs.Common.{◌∙◌, List, ℕ, sym, ap}
use Rattle.std.specs.Str.{bytes_eq}
use Rattle.alta_opening.proofs.Naming.{dead_free, live_named}
use Rattle.alta_opening.proofs.names.is_named.Goals as goal

pub returns-then-is_deleted : goal.returns-then-is_deleted
returns-then-is_deleted c = sym (dead_free c.args.deleted.now c.args.name.now c.args.row.now (sym c.is_deleted.ensures ∙ c.if-is_deleted.true))

pub returns : goal.returns
returns c =
    c.eq.ensures ∙ ap (λ (bytes : List ℕ). bytes_eq bytes c.args.name.now) c.as_str.ensures
    ∙ sym (live_named c.args.deleted.now c.args.name.now c.args.row.now (sym c.is_deleted.ensures ∙ c.if-is_deleted.false))
