use Rattle.std.proofs.Common.{[], ap, ◌∙◌}
use Rattle.std.specs.Prelude.{Err}
use Rattle.alta_catalog.proofs.MayLaws.{may_start}
use Rattle.alta_store.proofs.Loads.{same_catalog}
use Rattle.alta_store.proofs.store.catalog_of.Goals as goal

pub apply_entries-requires-clause-knows : goal.apply_entries-requires-clause-knows
apply_entries-requires-clause-knows c =
    let some = may_start c.args.root.now c.args.deleted.now c.args.levels.items in
    (some.0, (c.in-Ok.ensures.knows some.0 some.1).0)

pub apply_entries-requires-clause-sound : goal.apply_entries-requires-clause-sound
apply_entries-requires-clause-sound c = (c.args.root.now.version, c.requires.entries)

pub returns-in-Ok-apply_entries-clause-knows : goal.returns-in-Ok-apply_entries-clause-knows
returns-in-Ok-apply_entries-clause-knows c = λ s may.
    let was = c.in-Ok.ensures.knows s may in
    let now = c.in-Ok-apply_entries.ensures.applied s was.0 in
    (now.0, (now.1.0, now.1.1 ∙ was.1))

pub returns-in-Ok-apply_entries-clause-follows : goal.returns-in-Ok-apply_entries-clause-follows
returns-in-Ok-apply_entries-clause-follows c = c.in-Ok-apply_entries.ensures.follows c.args.root.now [] c.in-Ok.ensures.follows

pub returns-in-Err-clause-damaged : goal.returns-in-Err-clause-damaged
returns-in-Err-clause-damaged c = λ s may small place e. c.in-Err.ensures.damaged s (c.in-Ok.ensures.knows s may).0 small place (ap Err (same_catalog _ _ e))
