use Rattle.std.proofs.Common.{◌≢◌, ◌+◌, ◌-◌, ◌<◌, ◌≤◌, ℕ, List, length, get_or, ap, ◌∙◌, arith}
use Rattle.alta_gather.specs.Holding.{with_list}
use Rattle.alta_gather.specs.Runs.{AreRuns, places_in}
use Rattle.alta_gather.specs.declared.places.Run.{Run}
use Rattle.alta_gather.proofs.Marking.{not_noted, noted_set}
use Rattle.alta_gather.proofs.Runs.{IsAt, as_many, first_found, found_there, lasts_rising, none_there, places_rising}
use Rattle.alta_gather.proofs.gathering.note.Goals as goal

abbrev no_run : Run
no_run = record { first = 0; before = 0 }

found : (lasts : List ℕ) (runs : List Run) (k at : ℕ) → AreRuns 0 0 lasts runs → k ≤ length lasts → k ≢ length lasts → (get_or runs k no_run).first ≤ at → (k < length lasts → at ≤ get_or lasts k 0)
    → IsAt (places_in lasts runs) at ((get_or runs k no_run).before + (at - (get_or runs k no_run).first))
found lasts runs k at are le other from to = let lt : k < length lasts = omega (arith, le, other) in first_found (places_in lasts runs) at _ (found_there 0 0 lasts runs k at no_run are lt from (to lt))

pub index_from-at_run-requires-clause-rising : goal.index_from-at_run-requires-clause-rising
index_from-at_run-requires-clause-rising c = lasts_rising c.args.lasts.now c.args.runs.now c.requires.runs

pub returns-then-at_run-lasts-clause-noted : goal.returns-then-at_run-lasts-clause-noted
returns-then-at_run-lasts-clause-noted c =
    let at_run = c.index_from-at_run.result in
    not_noted (places_in c.args.lasts.now c.args.runs.now) c.args.held.now c.args.at c.args.list
    (none_there 0 0 c.args.lasts.now c.args.runs.now at_run c.args.at no_run c.requires.runs c.index_from-at_run.ensures.before (λ l. absurd (omega (arith, l, c.if-at_run-lasts.true))))

pub bounds-runs-at_run : goal.bounds-runs-at_run
bounds-runs-at_run c = omega (arith, as_many 0 0 c.args.lasts.now c.args.runs.now c.requires.runs, c.index_from-at_run.ensures.within, c.if-at_run-lasts.false)

pub returns-then-at-run-clause-noted : goal.returns-then-at-run-clause-noted
returns-then-at-run-clause-noted c =
    let at_run = c.index_from-at_run.result in
    not_noted (places_in c.args.lasts.now c.args.runs.now) c.args.held.now c.args.at c.args.list
    (none_there 0 0 c.args.lasts.now c.args.runs.now at_run c.args.at no_run c.requires.runs c.index_from-at_run.ensures.before (λ l. c.if-at-run.true))

pub overflow_add-index : goal.overflow_add-index
overflow_add-index c =
    let found_at = found c.args.lasts.now c.args.runs.now c.index_from-at_run.result c.args.at c.requires.runs c.index_from-at_run.ensures.within c.if-at_run-lasts.false
    (omega (arith, c.if-at-run.false)) c.index_from-at_run.ensures.found in
    omega (arith, found_at.within, c.requires.paired)

pub bounds-held-index : goal.bounds-held-index
bounds-held-index c =
    let found_at = found c.args.lasts.now c.args.runs.now c.index_from-at_run.result c.args.at c.requires.runs c.index_from-at_run.ensures.within c.if-at_run-lasts.false
    (omega (arith, c.if-at-run.false)) c.index_from-at_run.ensures.found in
    omega (arith, found_at.within, c.requires.paired)

pub offset_bounds-held-index : goal.offset_bounds-held-index
offset_bounds-held-index c =
    let found_at = found c.args.lasts.now c.args.runs.now c.index_from-at_run.result c.args.at c.requires.runs c.index_from-at_run.ensures.within c.if-at_run-lasts.false
    (omega (arith, c.if-at-run.false)) c.index_from-at_run.ensures.found in
    omega (arith, found_at.within, c.requires.paired)

pub bounds-held-index-2 : goal.bounds-held-index-2
bounds-held-index-2 c =
    let found_at = found c.args.lasts.now c.args.runs.now c.index_from-at_run.result c.args.at c.requires.runs c.index_from-at_run.ensures.within c.if-at_run-lasts.false
    (omega (arith, c.if-at-run.false)) c.index_from-at_run.ensures.found in
    omega (arith, found_at.within, c.requires.paired)

pub offset_bounds-held-index-2 : goal.offset_bounds-held-index-2
offset_bounds-held-index-2 c =
    let found_at = found c.args.lasts.now c.args.runs.now c.index_from-at_run.result c.args.at c.requires.runs c.index_from-at_run.ensures.within c.if-at_run-lasts.false
    (omega (arith, c.if-at-run.false)) c.index_from-at_run.ensures.found in
    omega (arith, found_at.within, c.requires.paired)

pub returns-clause-noted : goal.returns-clause-noted
returns-clause-noted c =
    let places = places_in c.args.lasts.now c.args.runs.now in
    let found_at = found c.args.lasts.now c.args.runs.now c.index_from-at_run.result c.args.at c.requires.runs c.index_from-at_run.ensures.within c.if-at_run-lasts.false
    (omega (arith, c.if-at-run.false)) c.index_from-at_run.ensures.found in
    noted_set places c.args.held.now _ c.args.at c.args.list c.with.result _ (places_rising c.args.lasts.now c.args.runs.now c.requires.runs) c.requires.paired found_at.within found_at.is (c.with.ensures ∙ ap (with_list c.args.list) c.index-held-index.is)
