use Rattle.std.proofs.Common.{◌<◌, length, refl, sym, subst}
use Rattle.std.specs.List.{All}
use Rattle.std.proofs.lemmas.List.Elements.{All-push}
use Rattle.alta_search.specs.Told.{no_row}
use Rattle.alta_dump.proofs.Lives.{taken_dead, taken_live}
use Rattle.alta_dump.proofs.live.put_live.Goals as goal

pub returns-in_ok-push-in-Some-clause-inside : goal.returns-in_ok-push-in-Some-clause-inside
returns-in_ok-push-in-Some-clause-inside c = λ all.
    subst (All (λ i. i < length c.args.rows.now.rows)) (sym c.in_ok-push-in-Some.ensures.items)
    (All-push (λ i. i < length c.args.rows.now.rows) c.args.live.now.items c.in-Some.index all c.in-Some.ensures.inside)

pub returns-in_ok-push-in-Some-clause-taken : goal.returns-in_ok-push-in-Some-clause-taken
returns-in_ok-push-in-Some-clause-taken c = λ list held rising.
    taken_live list c.args.gone.now c.args.rows.now.rows c.args.live.now.items c.push.new.self.items c.in-Some.index c.args.end rising held c.in-Some.ensures.inside
    (c.in-Some.ensures.row no_row) c.in-Some.ensures.live c.in_ok-push-in-Some.ensures.items

pub returns-in-None-clause-taken : goal.returns-in-None-clause-taken
returns-in-None-clause-taken c = λ list held rising.
    taken_dead list c.args.gone.now c.args.rows.now.rows c.args.live.now.items c.args.end (c.in-None.ensures.none refl)
