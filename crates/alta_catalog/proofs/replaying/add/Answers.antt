use Rattle.std.proofs.Common.{◌≡◌, ◌<◌, List, ℕ, arith, false, true, refl, rules, sym, subst}
use Rattle.std.proofs.lemmas.Bool.{false≢true}
use Rattle.alta_content.specs.Rows.{ends_among}
use Rattle.alta_journal.specs.declared.entry.Entry.TheVariants.{Add}
use Rattle.alta_machine.specs.Changes.{has_name}
use Rattle.alta_catalog.proofs.EntryLaws.{applied, not_applied}
use Rattle.alta_catalog.proofs.replaying.add.Goals as goal

pub returns-then-not-has_room-clause-applies : goal.returns-then-not-has_room-clause-applies
returns-then-not-has_room-clause-applies c =
    not_applied (Add c.args.name.now c.args.title.now c.args.body.now) c.args.catalog.now (λ s knows both. false≢true ((c.if-not-has_room.ensures s knows).1 both.1))

pub returns-then-is_some-clause-applies : goal.returns-then-is_some-clause-applies
returns-then-is_some-clause-applies c = not_applied (Add c.args.name.now c.args.title.now c.args.body.now) c.args.catalog.now (λ s knows both. search rules)

pub add-requires-clause-short : goal.add-requires-clause-short
add-requires-clause-short c = omega (arith, c.requires.sound.4)

pub add-requires-clause-left : goal.add-requires-clause-left
add-requires-clause-left c = λ s knows. (c.if-not-has_room.ensures s knows).0 refl

pub returns-clause-applies : goal.returns-clause-applies
returns-clause-applies c =
    applied (Add c.args.name.now c.args.title.now c.args.body.now) c.args.catalog.now c.add.new.self
    (λ s knows.
    let free : has_name c.args.name.now s ≡ false = search rules in
    let left : s.next < 4294967296 = (c.if-not-has_room.ensures s knows).0 refl in
    ((free, left), c.in_ok-add.ensures.added s knows))
    (λ row gone. subst (λ (ends : List ℕ). ends_among ends row ≡ true) (sym c.in_ok-add.ensures.gone) gone) c.in_ok-add.ensures.levels c.in_ok-add.ensures.follows
