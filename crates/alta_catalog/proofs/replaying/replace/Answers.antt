use Rattle.std.proofs.Common.{refl, sym, ◌∙◌}
use Rattle.std.proofs.lemmas.Bool.{false≢true}
use Rattle.alta_journal.specs.declared.entry.Entry.TheVariants.{Replace}
use Rattle.alta_catalog.proofs.EntryLaws.{applied, not_applied}
use Rattle.alta_catalog.proofs.replaying.replace.Goals as goal

pub returns-then-not-has_room : goal.returns-then-not-has_room
returns-then-not-has_room c =
    not_applied (Replace c.args.number c.args.name.now c.args.title.now c.args.body.now) c.args.catalog.now (λ s knows both. false≢true ((c.if-not-has_room.ensures s knows).1 both.1))

pub returns-then-not-has_name_with : goal.returns-then-not-has_name_with
returns-then-not-has_name_with c =
    not_applied (Replace c.args.number c.args.name.now c.args.title.now c.args.body.now) c.args.catalog.now (λ s knows both. false≢true (c.if-not-has_name_with.ensures s knows ∙ both.0))

pub put_again-requires-clause-allowed : goal.put_again-requires-clause-allowed
put_again-requires-clause-allowed c = λ s knows. (sym (c.if-not-has_name_with.ensures s knows), (c.if-not-has_room.ensures s knows).0 refl)

pub returns : goal.returns
returns c =
    let entered = c.in_ok-put_again.ensures in
    applied (Replace c.args.number c.args.name.now c.args.title.now c.args.body.now) c.args.catalog.now c.put_again.new.catalog
    (λ s knows. ((sym (c.if-not-has_name_with.ensures s knows), (c.if-not-has_room.ensures s knows).0 refl), entered.knows s knows)) entered.still entered.levels entered.follows
