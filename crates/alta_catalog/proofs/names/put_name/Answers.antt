use Rattle.std.proofs.Common.{◌++◌, ◌∷◌, [], ℕ, List, map, refl, sym, ap, subst, ◌∙◌}
use Rattle.std.specs.Prelude.{Contains}
use Rattle.std.proofs.lemmas.Bool.{false≢true}
use Rattle.std.proofs.lemmas.List.{append-nil}
use Rattle.alta_content.specs.Rows.{end_of}
use Rattle.alta_meaning.specs.Known.{Named}
use Rattle.alta_meaning.proofs.OrderLaws.{live_drop, live_keep}
use Rattle.alta_catalog.specs.Names.{name_row}
use Rattle.alta_catalog.specs.declared.lists.NameRow.{NameRow}
use Rattle.alta_catalog.proofs.EndLaws.{among, not_among}
use Rattle.alta_catalog.proofs.names.put_name.Goals as goal

pub returns-then-holds : goal.returns-then-holds
returns-then-holds c =
    let row = c.args.row.now in
    let dead = among c.args.gone.now (end_of row) (subst (Contains c.args.gone.now) c.requires (c.if-holds.ensures.0 refl)) in
    sym (ap (λ (live : List Named). c.args.names.now.items ++ map name_row live) (live_drop c.args.gone.now row [] dead) ∙ append-nil c.args.names.now.items)

pub returns : goal.returns
returns c =
    let row = c.args.row.now in
    let lives = not_among c.args.gone.now (end_of row) (λ has. false≢true (c.if-holds.ensures.1 (subst (Contains c.args.gone.now) (sym c.requires) has))) in
    c.in_ok-push.ensures.items
    ∙ ap (λ (r : NameRow). c.args.names.now.items ++ r ∷ [])
    (c.in_ok-named.ensures ∙ ap (λ (name : List ℕ). record { name = name; number = row.number }) c.as_str.ensures)
    ∙ sym (ap (λ (live : List Named). c.args.names.now.items ++ map name_row live) (live_keep c.args.gone.now row [] lives))
