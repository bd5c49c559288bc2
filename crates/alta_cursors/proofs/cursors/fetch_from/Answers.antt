use Rattle.std.proofs.Common.{refl, sym, arith}
use Rattle.std.proofs.Math.Seq.{map-set_same}
use Rattle.alta_cursors.specs.Open.{AreLazySteps, cursor_number}
use Rattle.alta_search.specs.Walked.{AreSearchSteps}
use Rattle.alta_cursors.specs.declared.cursors.OpenCursor.{OpenCursor}
use Rattle.alta_cursors.proofs.CursorAnswers.{IsAt, all_at, any_at, any_none, fetch_none, fetch_some, work_at}
use Rattle.alta_cursors.proofs.cursors.fetch_from.Goals as goal

pub returns-in_err-page-in-Some-clause-most : goal.returns-in_err-page-in-Some-clause-most
returns-in_err-page-in-Some-clause-most g c =
    let held = c.args.cursors.now in let d = c.index-cursors-place.result in
    let at : IsAt c.args.number held c.in-Some.place d = record { within = c.in-Some.ensures.inside; number = c.in-Some.ensures.there d } in
    let work = work_at c.args.number held c.in-Some.place d c.requires at in
    omega (arith, work, c.page_of.ensures.most)

pub returns-in-None-clause-fetched : goal.returns-in-None-clause-fetched
returns-in-None-clause-fetched g c = fetch_none c.args.number c.args.count c.args.cursors.now c.in-None.ensures.none

pub returns-in_ok-page-in-Some-clause-fetched : goal.returns-in_ok-page-in-Some-clause-fetched
returns-in_ok-page-in-Some-clause-fetched g c =
    let held = c.args.cursors.now in let d = c.index-cursors-place.result in
    let at : IsAt c.args.number held c.in-Some.place d = record { within = c.in-Some.ensures.inside; number = c.in-Some.ensures.there d } in
    fetch_some c.args.number c.args.count held c.in-Some.place d _ c.in_ok-page-in-Some.page c.requires at refl c.in_ok-page-in-Some.ensures.page

pub returns-in_ok-page-in-Some-clause-numbers : goal.returns-in_ok-page-in-Some-clause-numbers
returns-in_ok-page-in-Some-clause-numbers g c = map-set_same cursor_number c.args.cursors.now c.in-Some.place _ c.index-cursors-place.result refl

pub returns-in_ok-page-in-Some-clause-most : goal.returns-in_ok-page-in-Some-clause-most
returns-in_ok-page-in-Some-clause-most g c =
    let held = c.args.cursors.now in let d = c.index-cursors-place.result in
    let at : IsAt c.args.number held c.in-Some.place d = record { within = c.in-Some.ensures.inside; number = c.in-Some.ensures.there d } in
    let work = work_at c.args.number held c.in-Some.place d c.requires at in
    omega (arith, work, c.page_of.ensures.most)

pub returns-in_err-page-in-Some-clause-steps : goal.returns-in_err-page-in-Some-clause-steps
returns-in_err-page-in-Some-clause-steps g c =
    let held = c.args.cursors.now in let d = c.index-cursors-place.result in
    let at : IsAt c.args.number held c.in-Some.place d = record { within = c.in-Some.ensures.inside; number = c.in-Some.ensures.there d } in
    all_at c.args.number held c.in-Some.place d (λ (o : OpenCursor). AreSearchSteps o.cursor.found o.cursor.snapshot c.args.steps.now c.page_of.new.steps) c.requires at c.page_of.ensures.steps

pub returns-in-None-clause-there : goal.returns-in-None-clause-there
returns-in-None-clause-there g c = sym (any_none c.args.number c.args.cursors.now c.in-None.ensures.none)

pub returns-in-None-clause-steps : goal.returns-in-None-clause-steps
returns-in-None-clause-steps g c = λ k d l is. absurd (c.in-None.ensures.none k d l is)

pub returns-in_ok-page-in-Some-clause-there : goal.returns-in_ok-page-in-Some-clause-there
returns-in_ok-page-in-Some-clause-there g c =
    let held = c.args.cursors.now in let d = c.index-cursors-place.result in
    let at : IsAt c.args.number held c.in-Some.place d = record { within = c.in-Some.ensures.inside; number = c.in-Some.ensures.there d } in
    sym (any_at c.args.number held c.in-Some.place d at)

pub returns-in_ok-page-in-Some-clause-steps : goal.returns-in_ok-page-in-Some-clause-steps
returns-in_ok-page-in-Some-clause-steps g c =
    let held = c.args.cursors.now in let d = c.index-cursors-place.result in
    let at : IsAt c.args.number held c.in-Some.place d = record { within = c.in-Some.ensures.inside; number = c.in-Some.ensures.there d } in
    all_at c.args.number held c.in-Some.place d (λ (o : OpenCursor). AreSearchSteps o.cursor.found o.cursor.snapshot c.args.steps.now c.page_of.new.steps) c.requires at c.page_of.ensures.steps

pub returns-in_ok-page-in-Some-clause-lazy : goal.returns-in_ok-page-in-Some-clause-lazy
returns-in_ok-page-in-Some-clause-lazy g c =
    let held = c.args.cursors.now in let d = c.index-cursors-place.result in
    let at : IsAt c.args.number held c.in-Some.place d = record { within = c.in-Some.ensures.inside; number = c.in-Some.ensures.there d } in
    all_at c.args.number held c.in-Some.place d
    (λ (o : OpenCursor). AreLazySteps c.args.count o.cursor c.in_ok-page-in-Some.page c.args.steps.now c.page_of.new.steps) c.requires at c.in_ok-page-in-Some.ensures.lazy
