use Rattle.std.proofs.Common.{◌≡◌, true, ap, subst, sym, Ok}
use Rattle.alta_meaning.specs.Entries.{Allows}
use Rattle.alta_journal.specs.Lent.{entry_of}
use Rattle.alta_journal.specs.declared.entry.Entry.{Entry}
use Rattle.alta_catalog.specs.Applying.{IsEntered}
use Rattle.alta_catalog.specs.Knowing.{Knows}
use Rattle.alta_machine.specs.declared.document.State.{State}
use Rattle.alta_catalog.proofs.EntryLaws.{add_entered, was_there}
use Rattle.alta_catalog.proofs.replaying.enter_allowed.Goals as goal

pub returns-in-Add : goal.returns-in-Add
returns-in-Add c =
    subst (λ (e : Entry). IsEntered e c.args.catalog.now c.add.new.self c.add.result) (sym (ap entry_of c.in-Add.is))
    (add_entered c.in-Add.name.now c.in-Add.title.now c.in-Add.body.now c.args.catalog.now c.add.new.self c.add.result c.add.ensures.added c.add.ensures.levels c.add.ensures.gone c.add.ensures.follows)

pub returns-in-Replace : goal.returns-in-Replace
returns-in-Replace c = subst (λ (e : Entry). IsEntered e c.args.catalog.now c.put_again.new.catalog c.put_again.result) (sym (ap entry_of c.in-Replace.is)) c.put_again.ensures

pub add-requires-clause-free : goal.add-requires-clause-free
add-requires-clause-free c = λ s knows. (subst (Allows s) (ap entry_of c.in-Add.is) (c.requires.allowed s knows)).0

pub add-requires-clause-left : goal.add-requires-clause-left
add-requires-clause-left c = λ s knows. (subst (Allows s) (ap entry_of c.in-Add.is) (c.requires.allowed s knows)).1

pub put_again-requires-clause-allowed : goal.put_again-requires-clause-allowed
put_again-requires-clause-allowed c = λ s knows. subst (Allows s) (ap entry_of c.in-Replace.is) (c.requires.allowed s knows)

pub returns-in_ok-_there-in-Delete : goal.returns-in_ok-_there-in-Delete
returns-in_ok-_there-in-Delete c =
    let deleted = c.in_ok-_there-in-Delete.ensures in
    let there : (s : State) → Knows c.args.catalog.now s → c.in_ok-_there-in-Delete._there ≡ true =
    λ s knows. was_there c.in-Delete.number s c.in_ok-_there-in-Delete._there (subst (Allows s) (ap entry_of c.in-Delete.is) (c.requires.allowed s knows)) (λ e. deleted.missing e s knows) in
    subst (λ (e : Entry). IsEntered e c.args.catalog.now c.delete.new.self (Ok (tt {0}))) (sym (ap entry_of c.in-Delete.is))
    (record {
      knows = λ s knows. (deleted.deleted (there s knows) s knows).1;
      still = deleted.still;
      levels = deleted.levels;
      follows = λ root entries follows. deleted.follows root entries follows (there c.requires.knows.0 c.requires.knows.1);
    })
