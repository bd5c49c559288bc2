use Rattle.std.proofs.Common.{◌<◌, ◌++◌, List, refl, sym, subst, ◌∙◌, take_all, arith}
use Rattle.std.proofs.lemmas.List.{append-nil}
use Rattle.alta_meaning.specs.Entries.{AllowsAll, after_entries, entries_in}
use Rattle.alta_catalog.specs.Knowing.{Follows, KnowsBy}
use Rattle.alta_journal.specs.declared.placed.Placed.{Placed}
use Rattle.alta_catalog.proofs.EntryLaws.{applied_step, follows_step, refused_step, same_place}
use Rattle.alta_catalog.proofs.replaying.apply_entries.Goals as goal

pub returns-in-Ok-false-clause-damaged : goal.returns-in-Ok-false-clause-damaged
returns-in-Ok-false-clause-damaged c = λ s knows small place e.
    let so_far = c.loop-placed.invariant.knows s knows in
    refused_step s c.args.found.now c.loop-placed.placed-index c.placed-item.result c.loop-placed-test.true c.placed-item.is place so_far.0
    (c.in-Ok-false.ensures.refused _ so_far.1.0 c.in-Ok-false.field-0-test)
    (sym (same_place _ place e) ∙ c.payload_place.ensures (subst (λ (p : Placed). p.place < 4294967296) (sym c.placed-item.is) (small c.loop-placed.placed-index c.placed-item.result c.loop-placed-test.true)))

pub loop-placed-preserved : goal.loop-placed-preserved
loop-placed-preserved c = record {
  knows = λ s knows.
      let so_far = c.loop-placed.invariant.knows s knows in
      let more = c.in-Ok-true.ensures.allowed _ so_far.1.0 c.in-Ok-true.field-0-test in
      applied_step s c.args.found.now c.loop-placed.placed-index c.placed-item.result c.loop-placed-test.true c.placed-item.is _ knows.olds so_far.0 more.0 (more.1.0, more.1.1 ∙ so_far.1.1);
  follows = λ root entries follows.
      follows_step c.args.found.now c.loop-placed.placed-index c.placed-item.result c.loop-placed-test.true c.placed-item.is _ root entries
      (c.in-Ok-true.ensures.follows root _ (c.loop-placed.invariant.follows root entries follows) c.in-Ok-true.field-0-test);
  levels = c.in-Ok-true.ensures.levels ∙ c.loop-placed.invariant.levels;
}

pub apply_entry-requires-clause-knows : goal.apply_entry-requires-clause-knows
apply_entry-requires-clause-knows c = (_, (c.loop-placed.invariant.knows c.requires.knows.0 c.requires.knows.1).1.0)

pub loop-placed-init : goal.loop-placed-init
loop-placed-init c = record { knows = λ s knows. (tt, (knows, refl)); follows = λ root entries follows. subst (Follows _ root) (sym (append-nil entries)) follows; levels = refl }

pub returns-clause-applied : goal.returns-clause-applied
returns-clause-applied c = λ s knows.
    subst (λ (found : List Placed). AllowsAll s (entries_in found) × KnowsBy c.loop-placed.catalog knows.olds (after_entries s (entries_in found)))
    (take_all c.loop-placed.placed-index c.args.found.now (omega (arith, c.loop-placed-test.false))) (c.loop-placed.invariant.knows s knows)

pub returns-clause-follows : goal.returns-clause-follows
returns-clause-follows c = λ root entries follows.
    subst (λ (found : List Placed). Follows c.loop-placed.catalog root (entries ++ entries_in found))
    (take_all c.loop-placed.placed-index c.args.found.now (omega (arith, c.loop-placed-test.false))) (c.loop-placed.invariant.follows root entries follows)
