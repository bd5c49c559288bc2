use Rattle.std.proofs.Common.{List, ℕ, ap, sym, ◌∙◌}
use Rattle.std.specs.List.{concat}
use Rattle.alta_content.specs.declared.document.DocRow.{DocRow}
use Rattle.alta_search.specs.Answers.{answers_in}
use Rattle.alta_search.specs.Lists.{term_lists}
use Rattle.alta_search.specs.Told.{rows_at}
use Rattle.alta_dump.proofs.Whole.{ends_given, first_given, first_rising, live_are, none_given, none_live}
use Rattle.alta_dump.proofs.live.live.Goals as goal

pub live_of-requires-clause-rising : goal.live_of-requires-clause-rising
live_of-requires-clause-rising g c = first_rising c.terms-ends.result.now c.in-Some.first.now (sym c.in-Some.ensures.value) c.terms-ends.ensures.cut

pub returns-in_ok-live-in-Some-clause-rows : goal.returns-in_ok-live-in-Some-clause-rows
returns-in_ok-live-in-Some-clause-rows g c = λ documents tests shows.
    let v = c.args.snapshot.now in let terms = c.terms-ends.result.now in let live = c.in_ok-live-in-Some.live.items in let list = concat (term_lists c.in-Some.first.now) in
    let e = ends_given v documents tests shows terms (record { keys = c.terms-ends.ensures.keys; cuts = c.terms-ends.ensures.cuts; met = c.terms-ends.ensures.met; keyed = c.terms-ends.ensures.keyed }) in
    let (others, is) = first_given terms c.in-Some.first.now (sym c.in-Some.ensures.value) in
    ap (λ (rs : List DocRow). rows_at rs live) (sym c.rows-rows.ensures.value)
    ∙ c.in_ok-live-in-Some.ensures.rows
    ∙ ap (λ (rs : List DocRow). answers_in list c.gone-gone.result.now 0 rs) c.rows-rows.ensures.value
    ∙ ap (λ (gs : List ℕ). answers_in list gs 0 v.rows) c.gone-gone.ensures.value
    ∙ live_are v documents shows terms e c.in-Some.first.now others is

pub returns-in-None-clause-rows : goal.returns-in-None-clause-rows
returns-in-None-clause-rows g c = λ documents tests shows.
    let v = c.args.snapshot.now in let terms = c.terms-ends.result.now in
    let e = ends_given v documents tests shows terms (record { keys = c.terms-ends.ensures.keys; cuts = c.terms-ends.ensures.cuts; met = c.terms-ends.ensures.met; keyed = c.terms-ends.ensures.keyed }) in
    ap (rows_at v.rows) c.new.ensures.items ∙ sym (none_live v documents shows terms e (none_given terms (sym c.in-None.ensures.value)))
