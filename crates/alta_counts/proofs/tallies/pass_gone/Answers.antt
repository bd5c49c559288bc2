use Rattle.std.proofs.Common.{◌≡◌, ◌+◌, get_or, sym, subst, ap, ◌∙◌, arith}
use Rattle.std.specs.Prelude.{Contains}
use Rattle.std.proofs.lemmas.List.Elements.{Contains-get_or}
use Rattle.alta_codec.specs.Rising.{first_from}
use Rattle.alta_codec.proofs.Places.{first_from-above}
use Rattle.alta_counts.proofs.Tallying.{first_gone, live_step}
use Rattle.alta_counts.proofs.tallies.pass_gone.Goals as goal

pub returns-then-loc-gone-clause-past : goal.returns-then-loc-gone-clause-past
returns-then-loc-gone-clause-past g c =
    let here = c.pass-live.new.reader.place in
    omega (
      arith,
      c.if-loc-gone.true,
      c.loc.ensures.location,
      c.requires.gone.below c.args.at c.requires.at,
      c.next.ensures.location,
      first_from-above c.pass-live.new.reader.list (here + 1),
    )

pub returns-then-loc-gone-clause-count : goal.returns-then-loc-gone-clause-count
returns-then-loc-gone-clause-count g c =
    let list = c.args.reader.now.list in let gone = c.args.gone.now in let here = c.pass-live.new.reader.place in let r = c.requires in
    let at : get_or gone c.args.at 0 ≡ here = sym c.if-loc-gone.true ∙ c.loc.ensures.location in
    let is : c.next.new.self.place ≡ first_from list (here + 1) = omega (arith, c.next.ensures.location, ap (λ l. first_from l (here + 1)) c.pass-live.ensures.onward.list) in
    omega (
      arith,
      c.pass-live.ensures.count gone (first_gone gone c.args.at c.args.reader.now.place r.gone r.at r.before),
      live_step list gone here c.next.new.self.place (subst (Contains gone) at (Contains-get_or gone c.args.at 0 r.at)) (omega (arith, at, r.gone.below c.args.at r.at)) is,
    )

pub returns-else-loc-gone-clause-count : goal.returns-else-loc-gone-clause-count
returns-else-loc-gone-clause-count g c =
    let r = c.requires in
    c.pass-live.ensures.count c.args.gone.now (first_gone c.args.gone.now c.args.at c.args.reader.now.place r.gone r.at r.before)
