use Rattle.std.proofs.Common.{◌≡◌, ◌+◌, map, refl, sym, subst, ap, ◌∙◌, arith}
use Rattle.alta_codec.specs.Rising.{pred_of}
use Rattle.alta_codec.proofs.Places.{pred_of-below, pred_of-mono}
use Rattle.alta_lead.specs.Moves.{AreAhead}
use Rattle.alta_lead.proofs.Going.{round_ended, round_asked}
use Rattle.alta_lead.proofs.Rounding.{all_ahead_later}
use Rattle.alta_lead.proofs.rounds.round.Goals as goal

pub returns-then-end-eq-TOP : goal.returns-then-end-eq-TOP
returns-then-end-eq-TOP g c =
    let R = g.R.Reader in
    round_ended R.sound R.list R.all R.location R.left R.cost c.args.lead
    (record { ends = c.args.ends.now.inner; words = c.args.words.now; negated = c.args.negated.now })
    (record { ends = c.led-end.new.ends.inner; words = c.led-end.new.words; negated = c.args.negated.now })
    c.args.to c.led-end.result c.args.steps.now c.led-end.new.steps (g.met.R.Reader.rises c.args.ends.now.inner c.requires.ends) c.requires.lead c.requires.negated refl
    (omega (arith, c.if-end-eq-TOP.true)) c.led-end.ensures

pub told-next-requires-clause-top : goal.told-next-requires-clause-top
told-next-requires-clause-top g c =
    let R = g.R.Reader in let l = c.led-end.ensures in let E = R.list c.args.ends.now.inner in
    omega (
      arith,
      c.start.ensures,
      ap (λ xs. pred_of xs (R.location c.led-end.new.ends.inner)) l.ends_moved.same_list,
      ap (λ y. pred_of E y) l.place,
      pred_of-below E c.led-end.result (omega (arith, c.requires.some, l.later)),
      l.top,
    )

pub told-next-requires-clause-words_ahead : goal.told-next-requires-clause-words_ahead
told-next-requires-clause-words_ahead g c =
    let R = g.R.Reader in let l = c.led-end.ensures in let E = R.list c.args.ends.now.inner in let words = c.led-end.new.words in
    let start : c.start.result ≡ pred_of E c.led-end.result + 1 =
    c.start.ensures ∙ ap (λ xs. pred_of xs (R.location c.led-end.new.ends.inner) + 1) l.ends_moved.same_list ∙ ap (λ y. pred_of E y + 1) l.place in
    subst (λ ls. AreAhead c.start.result ls (map R.location words)) (sym l.words_moved.lists)
    (all_ahead_later (map R.list c.args.words.now) (map R.location words) (pred_of E c.args.to + 1) c.start.result
    (omega (arith, start, pred_of-mono E c.args.to c.led-end.result l.later)) (l.ahead (omega (arith, l.top, c.if-end-eq-TOP.false))))

pub told-next-requires-clause-negated_ahead : goal.told-next-requires-clause-negated_ahead
told-next-requires-clause-negated_ahead g c =
    let R = g.R.Reader in let l = c.led-end.ensures in let E = R.list c.args.ends.now.inner in let negated = c.args.negated.now in
    let start : c.start.result ≡ pred_of E c.led-end.result + 1 =
    c.start.ensures ∙ ap (λ xs. pred_of xs (R.location c.led-end.new.ends.inner) + 1) l.ends_moved.same_list ∙ ap (λ y. pred_of E y + 1) l.place in
    all_ahead_later (map R.list negated) (map R.location negated) (pred_of E c.args.to + 1) c.start.result
    (omega (arith, start, pred_of-mono E c.args.to c.led-end.result l.later)) c.requires.unpassed.negated

pub returns : goal.returns
returns g c =
    let R = g.R.Reader in let l = c.led-end.ensures in let E = R.list c.args.ends.now.inner in let t = c.told-next.ensures in
    let start : c.start.result ≡ pred_of E c.led-end.result + 1 =
    c.start.ensures ∙ ap (λ xs. pred_of xs (R.location c.led-end.new.ends.inner) + 1) l.ends_moved.same_list ∙ ap (λ y. pred_of E y + 1) l.place in
    round_asked R.sound R.list R.all R.location R.left R.cost c.args.lead
    (record { ends = c.args.ends.now.inner; words = c.args.words.now; negated = c.args.negated.now })
    (record { ends = c.led-end.new.ends.inner; words = c.led-end.new.words; negated = c.args.negated.now })
    (record { ends = c.led-end.new.ends.inner; words = c.told-next.new.words; negated = c.told-next.new.negated })
    c.args.to c.start.result c.led-end.result c.told-next.result c.args.steps.now c.led-end.new.steps c.told-next.new.steps t.words.0 t.words.2
    (g.met.R.Reader.rises c.args.ends.now.inner c.requires.ends) c.requires.lead c.requires.some c.requires.top refl refl
    (λ e. omega (arith, e, c.if-end-eq-TOP.false)) l start t.told t.words.1 t.words.3 t.words.4 t.words_ahead t.negated_ahead
