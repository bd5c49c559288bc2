use Rattle.std.proofs.Common.{◌≡◌, ℕ, ◌-◌, ◌++◌, List, sym, ap, subst, ◌∙◌, arith}
use Rattle.std.specs.List.{range_with_len}
use Rattle.alta_codec.specs.Rising.{IsRising}
use Rattle.alta_gather.specs.Runs.{last_above}
use Rattle.alta_gather.proofs.Runs.{few_places, first_kept, lasts_rising, none_more, with_run}
use Rattle.alta_gather.proofs.places.Places.with.Goals as goal

pub above-requires : goal.above-requires
above-requires c = subst IsRising (sym c.deref.ensures.value) (lasts_rising c.places.inside.lasts.items c.places.inside.runs.items c.places.invariant.0)

pub returns-then-end-first : goal.returns-then-end-first
returns-then-end-first c = λ positive below.
    let lasts = c.places.inside.lasts.items in
    let low = first_kept lasts c.places.inside.runs.items c.args.self c.args.first c.places.invariant.0 c.places.view_is positive below in
    none_more c.args.first c.args.end c.args.self (omega (arith, c.if-end-first.true, c.max-first.ensures, c.above.ensures, ap (last_above 0) c.deref.ensures.value, low))

pub overflow_add-places : goal.overflow_add-places
overflow_add-places c =
    let lasts = c.places.inside.lasts.items in let runs = c.places.inside.runs.items in
    omega (arith, few_places 0 0 lasts runs c.places.invariant.0 (omega arith), c.places.invariant.1, c.above.ensures, ap (last_above 0) c.deref.ensures.value, c.max-first.ensures)

pub invariant_of-places : goal.invariant_of-places
invariant_of-places c =
    let lasts = c.places.inside.lasts.items in let runs = c.places.inside.runs.items in
    let more = with_run lasts runs c.places.inside.count c.max-first.result c.args.end c.places.invariant.0 c.places.invariant.1
    (omega (arith, c.max-first.ensures, c.above.ensures, ap (last_above 0) c.deref.ensures.value)) (omega (arith, c.if-end-first.false)) c.requires in
    rw (c.in_ok-push.ensures.items, c.in_ok-push-2.ensures.items) (more.0, more.1)

pub returns : goal.returns
returns c = λ positive below.
    let lasts = c.places.inside.lasts.items in let runs = c.places.inside.runs.items in
    let low = first_kept lasts runs c.args.self c.args.first c.places.invariant.0 c.places.view_is positive below in
    let more = with_run lasts runs c.places.inside.count c.max-first.result c.args.end c.places.invariant.0 c.places.invariant.1
    (omega (arith, c.max-first.ensures, c.above.ensures, ap (last_above 0) c.deref.ensures.value)) (omega (arith, c.if-end-first.false)) c.requires in
    let first : c.max-first.result ≡ c.args.first = omega (arith, c.max-first.ensures, c.above.ensures, ap (last_above 0) c.deref.ensures.value, low) in
    rw (c.in_ok-push.ensures.items, c.in_ok-push-2.ensures.items)
    (more.2 ∙ ap (λ (xs : List ℕ). xs ++ range_with_len c.max-first.result (c.args.end - c.max-first.result)) c.places.view_is ∙ ap (λ (n : ℕ). c.args.self ++ range_with_len n (c.args.end - n)) first)
