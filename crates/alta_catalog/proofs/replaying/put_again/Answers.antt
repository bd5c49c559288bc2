use Rattle.std.proofs.Common.{◌≡◌, ◌<◌, ℕ, List, true, sym, subst, ◌∙◌, arith}
use Rattle.alta_meaning.proofs.KeptStates.{by_number}
use Rattle.alta_meaning.proofs.OrderLaws.{is_state}
use Rattle.alta_meaning.proofs.StateLaws.{named_free}
use Rattle.alta_machine.specs.Changes.{without}
use Rattle.alta_content.specs.Rows.{ends_among}
use Rattle.alta_catalog.proofs.EntryLaws.{was_there}
use Rattle.alta_catalog.proofs.FollowLaws.{follows_replaced}
use Rattle.alta_catalog.proofs.KnownLaws.{name_alike}
use Rattle.alta_catalog.proofs.replaying.put_again.Goals as goal

-- the name is free in each state that the catalog knows then
pub add-requires-clause-free : goal.add-requires-clause-free
add-requires-clause-free c = λ other known.
    let (s, knows) = c.requires.knows in
    let then = (c.in_ok-_there.ensures.deleted (was_there c.args.number s c.in_ok-_there._there (by_number c.args.name.now c.args.number s.documents (c.requires.allowed s knows).0) (λ e. c.in_ok-_there.ensures.missing e s knows)) s knows).1.0 in
    name_alike _ other (without c.args.number s) known then c.args.name.now
    ∙ named_free c.args.name.now c.args.number s (is_state s knows.notes.ordered (omega (arith, knows.next, knows.from.0, knows.notes.next))) (c.requires.allowed s knows).0

pub add-requires-clause-left : goal.add-requires-clause-left
add-requires-clause-left c = λ other known.
    let (s, knows) = c.requires.knows in
    let then = (c.in_ok-_there.ensures.deleted (was_there c.args.number s c.in_ok-_there._there (by_number c.args.name.now c.args.number s.documents (c.requires.allowed s knows).0) (λ e. c.in_ok-_there.ensures.missing e s knows)) s knows).1.0 in
    let left : s.next < 4294967296 = (c.requires.allowed s knows).1 in
    omega (arith, left, known.notes.next, then.notes.next)

pub add-requires-clause-knows : goal.add-requires-clause-knows
add-requires-clause-knows c =
    let (s, knows) = c.requires.knows in (without c.args.number s, (c.in_ok-_there.ensures.deleted (was_there c.args.number s c.in_ok-_there._there (by_number c.args.name.now c.args.number s.documents (c.requires.allowed s knows).0) (λ e. c.in_ok-_there.ensures.missing e s knows)) s knows).1.0)

pub add-requires-clause-short : goal.add-requires-clause-short
add-requires-clause-short c = omega (arith, c.requires.sound.4)

-- what was gone is gone still, since an add changes nothing of that
pub returns : goal.returns
returns c = record {
  knows = λ s knows.
      let then = (c.in_ok-_there.ensures.deleted (was_there c.args.number s c.in_ok-_there._there (by_number c.args.name.now c.args.number s.documents (c.requires.allowed s knows).0) (λ e. c.in_ok-_there.ensures.missing e s knows)) s knows).1 in
      let more = c.in_ok-add.ensures.added (without c.args.number s) then.0 in
      (more.0, more.1 ∙ then.1);
  still = λ row gone. subst (λ (ends : List ℕ). ends_among ends row ≡ true) (sym c.in_ok-add.ensures.gone) (c.in_ok-_there.ensures.still row gone);
  levels = c.in_ok-add.ensures.levels ∙ c.in_ok-_there.ensures.levels;
  follows = λ root entries follows.
      follows_replaced _ root entries c.args.number c.args.name.now c.args.title.now c.args.body.now
      (c.in_ok-add.ensures.follows root _ (c.in_ok-_there.ensures.follows root entries follows (let (s, knows) = c.requires.knows in was_there c.args.number s c.in_ok-_there._there (by_number c.args.name.now c.args.number s.documents (c.requires.allowed s knows).0) (λ e. c.in_ok-_there.ensures.missing e s knows))));
}
