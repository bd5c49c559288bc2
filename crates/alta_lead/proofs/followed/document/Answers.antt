use Rattle.std.proofs.Common.{◌≡◌, ◌+◌, [], map, length, get_or, refl, sym, subst, ap, ◌∙◌, arith}
use Rattle.std.proofs.lemmas.List.{length-map}
use Rattle.alta_codec.specs.declared.location.TheConstants.{TOP}
use Rattle.alta_codec.specs.Rising.{first_from}
use Rattle.alta_codec.proofs.Places.{first_from-above}
use Rattle.alta_lead.specs.Moves.{AreAhead}
use Rattle.alta_lead.proofs.Following.{followed_ended, followed_asked}
use Rattle.alta_lead.proofs.Rounding.{all_ahead_later}
use Rattle.alta_lead.proofs.Tallying.{led_bounds}
use Rattle.alta_lead.proofs.followed.document.Goals as goal

pub reach-end-requires-clause-ahead : goal.reach-end-requires-clause-ahead
reach-end-requires-clause-ahead g c = λ z m h.
    let E = g.E.Reader.list c.args.ends.now.inner in let first = get_or (map g.R.Reader.list c.args.words.now) 0 [] in
    let b = led_bounds E first c.args.from c.bring-at.result (first_from E c.bring-at.result) c.requires.top c.requires.begins c.bring-at.ensures.place refl in
    c.requires.ends_ahead z m (omega (arith, h, b.0))

pub reach-end-requires-clause-top : goal.reach-end-requires-clause-top
reach-end-requires-clause-top g c =
    let E = g.E.Reader.list c.args.ends.now.inner in let first = get_or (map g.R.Reader.list c.args.words.now) 0 [] in
    (led_bounds E first c.args.from c.bring-at.result (first_from E c.bring-at.result) c.requires.top c.requires.begins c.bring-at.ensures.place refl).1

pub returns-then-end-eq-TOP : goal.returns-then-end-eq-TOP
returns-then-end-eq-TOP g c =
    let X = g.E.Reader in let R = g.R.Reader in let w = c.bring-at in let r = c.reach-end in
    let ended : r.result ≡ TOP = omega (arith, c.if-end-eq-TOP.true) in
    followed_ended X.sound X.list X.all X.location X.left X.cost R.sound R.list R.all R.location R.left R.cost c.args.ends.now.inner r.new.ends.inner c.args.words.now w.new.readers
    c.args.from w.result r.result c.args.steps.now w.new.steps r.new.steps (g.met.E.Reader.rises c.args.ends.now.inner c.requires.ends) c.requires.top c.requires.begins
    w.ensures.place w.ensures.moved r.ensures.place r.ensures.location r.ensures.moved ended

pub overflow_add-at : goal.overflow_add-at
overflow_add-at g c =
    let E = g.E.Reader.list c.args.ends.now.inner in let first = get_or (map g.R.Reader.list c.args.words.now) 0 [] in
    omega (arith, (led_bounds E first c.args.from c.bring-at.result c.reach-end.result c.requires.top c.requires.begins c.bring-at.ensures.place c.reach-end.ensures.place).1)

pub bring-next-requires-clause-within : goal.bring-next-requires-clause-within
bring-next-requires-clause-within g c =
    let list = g.R.Reader.list in
    omega (arith, c.requires.pair, ap length c.bring-at.ensures.moved.lists, length-map c.bring-at.new.readers list, length-map c.args.words.now list)

pub bring-next-requires-clause-ahead : goal.bring-next-requires-clause-ahead
bring-next-requires-clause-ahead g c =
    let R = g.R.Reader in let E = g.E.Reader.list c.args.ends.now.inner in let w = c.bring-at in let first = get_or (map R.list c.args.words.now) 0 [] in
    let b = led_bounds E first c.args.from w.result c.reach-end.result c.requires.top c.requires.begins w.ensures.place c.reach-end.ensures.place in
    subst (λ ls. AreAhead (w.result + 1) ls (map R.location w.new.readers)) (sym w.ensures.moved.lists)
    (all_ahead_later (map R.list c.args.words.now) (map R.location w.new.readers) c.args.from (w.result + 1) (omega (arith, b.0)) w.ensures.ahead)

pub bring-next-requires-clause-top : goal.bring-next-requires-clause-top
bring-next-requires-clause-top g c =
    let E = g.E.Reader.list c.args.ends.now.inner in let first = get_or (map g.R.Reader.list c.args.words.now) 0 [] in
    let b = led_bounds E first c.args.from c.bring-at.result c.reach-end.result c.requires.top c.requires.begins c.bring-at.ensures.place c.reach-end.ensures.place in
    omega (arith, b.3, c.if-end-eq-TOP.false, c.reach-end.ensures.place, first_from-above E c.bring-at.result b.1)

pub returns : goal.returns
returns g c =
    let X = g.E.Reader in let R = g.R.Reader in let w = c.bring-at in let r = c.reach-end in let n = c.bring-next in
    followed_asked X.sound X.list X.all X.location X.left X.cost R.sound R.list R.all R.location R.left R.cost c.args.ends.now.inner r.new.ends.inner c.args.words.now w.new.readers
    c.args.from w.result r.result c.args.steps.now w.new.steps r.new.steps (g.met.E.Reader.rises c.args.ends.now.inner c.requires.ends) c.requires.top c.requires.begins
    w.ensures.place w.ensures.moved r.ensures.place r.ensures.location r.ensures.moved n.new.readers n.result n.new.steps
    (n.ensures.place ∙ ap (λ ls. first_from (get_or ls 1 []) (w.result + 1)) w.ensures.moved.lists) n.ensures.moved n.ensures.ahead
