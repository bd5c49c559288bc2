use Rattle.std.proofs.Common.{◌≡◌, ◌<◌, ◌≤◌, ℕ, length, get_or, refl, subst, ap, ◌∙◌, arith}
use Rattle.std.proofs.lemmas.Option.{get_or_from_slice_get}
use Rattle.alta_content.specs.Rows.{end_of}
use Rattle.alta_top.specs.Ranking.{TakesIn}
use Rattle.alta_top.specs.Scoring.{HasScored}
use Rattle.alta_search.specs.Told.{no_row}
use Rattle.alta_top.proofs.Ranks.{has_more}
use Rattle.alta_top.proofs.ScoredRows.{all_taken, at_row, end_read, may, past_below, row_more}
use Rattle.alta_top.proofs.scored_walk.best_scored.Goals as goal

pub returns-in-None-clause-ranked : goal.returns-in-None-clause-ranked
returns-in-None-clause-ranked g c = λ few scorable.
    let inv = c.rows.invariant in let rows = c.args.rows.now in let old = c.args.scorer.now in let gone = c.args.gone.now in
    let same = c.reach.ensures.rows ∙ inv.rows in
    let whole : length rows ≤ c.reach.new.self.at = omega (arith, c.in-None.ensures.none refl, ap length inv.rows) in
    all_taken old c.next-at.new.self gone rows c.args.count c.rows.best.kept c.rows.total (length rows)
    (at_row old c.rows.scorer c.next-at.new.self gone rows c.args.count c.rows.best.kept c.rows.total c.args.steps.now c.rows.steps c.next-at.result (length rows)
    inv.scored c.next-at.ensures.on.asked (inv.ranks few scorable) c.next-at.ensures.above c.next-at.ensures.least (omega arith)
    (λ k l. past_below c.reach.new.self.rows rows same c.reach.new.self.at c.next-at.result c.reach.ensures.past k (omega (arith, l, whole)) l)
    (λ l. absurd (omega (arith, l))))
    (omega arith)

pub returns-then-not-may_be_scored-clause-ranked : goal.returns-then-not-may_be_scored-clause-ranked
returns-then-not-may_be_scored-clause-ranked g c = λ few scorable.
    let inv = c.rows.invariant in let rows = c.args.rows.now in let old = c.args.scorer.now in let gone = c.args.gone.now in let i = c.in-Some.index in
    let same = c.reach.ensures.rows ∙ inv.rows in let (at, inside, high) = c.in-Some.ensures.some in
    let within : i < length rows = omega (arith, inside, ap length inv.rows) in
    let it = at_row old c.rows.scorer c.next-at.new.self gone rows c.args.count c.rows.best.kept c.rows.total c.args.steps.now c.rows.steps c.next-at.result i
    inv.scored c.next-at.ensures.on.asked (inv.ranks few scorable) c.next-at.ensures.above c.next-at.ensures.least (omega (arith, within))
    (λ k l. past_below c.reach.new.self.rows rows same c.reach.new.self.at c.next-at.result c.reach.ensures.past k (omega (arith, l, at)) (omega (arith, l, within)))
    (λ l. omega (arith, high, end_read c.rows.walk.rows rows inv.rows i within)) in
    let row = get_or_from_slice_get rows i c.row-row.result.now no_row c.row-row.ensures in
    let yes = c.may_be_scored.ensures.1 (
      omega (arith, few, ap length inv.scored.uses, ap length c.next-at.ensures.on.uses),
      may old c.next-at.new.self gone rows c.args.count c.rows.best.kept c.rows.total i it c.row-row.result.now within row,
    ) in
    absurd cc

pub rows-preserved : goal.rows-preserved
rows-preserved g c =
    let inv = c.rows.invariant in let rows = c.args.rows.now in let old = c.args.scorer.now in let gone = c.args.gone.now in let i = c.in-Some.index in
    let same = c.reach.ensures.rows ∙ inv.rows in let (at, inside, high) = c.in-Some.ensures.some in
    let now = c.rows.scorer in let next = c.next-at.new.self in let row = c.row-row.result.now in
    let within : i < length rows = omega (arith, inside, ap length inv.rows) in
    let is : get_or rows i no_row ≡ row = get_or_from_slice_get rows i row no_row c.row-row.ensures in
    let ending : c.next-at.result ≤ end_of row = omega (arith, high, end_read c.rows.walk.rows rows inv.rows i within, ap end_of is) in
    let on : HasScored now next c.rows.steps c.next-at.new.steps =
    record { uses = c.next-at.ensures.on.uses; reads = c.next-at.ensures.on.lists; titles = c.next-at.ensures.on.titles; steps = c.next-at.ensures.on.steps } in
    let past : HasScored old next c.args.steps.now c.next-at.new.steps = has_more old now next c.args.steps.now c.rows.steps c.next-at.new.steps inv.scored on in
    let told = c.take_in.ensures in let (many, scorable_now) = c.may_be_scored.ensures.0 c.if-not-may_be_scored.false in
    record {
      scored = has_more old next c.take_in.new.scorer c.args.steps.now c.next-at.new.steps c.take_in.new.steps past told.has;
      count = told.count ∙ inv.count;
      rows = same;
      past = λ k l. omega (arith, c.reach.ensures.past k l, ending, told.asked);
      below = omega (arith, told.asked, scorable_now.below);
      most = omega (arith, inv.most, c.in_ok-total.ensures.most, told.asked, c.next-at.ensures.on.asked, scorable_now.behind, scorable_now.some);
      ranks = λ few scorable.
          let below = λ (k : ℕ) (l : k < i). past_below c.reach.new.self.rows rows same c.reach.new.self.at c.next-at.result c.reach.ensures.past k
          (omega (arith, l, at)) (omega (arith, l, within)) in
          let it = at_row old now next gone rows c.args.count c.rows.best.kept c.rows.total c.args.steps.now c.rows.steps c.next-at.result i
          inv.scored c.next-at.ensures.on.asked (inv.ranks few scorable) c.next-at.ensures.above c.next-at.ensures.least (omega (arith, within)) below
          (λ l. omega (arith, high, end_read c.rows.walk.rows rows inv.rows i within)) in
          row_more old next gone rows c.args.count c.rows.best.kept c.rows.total i it row within is c.args.steps.now c.next-at.new.steps c.take_in.new.scorer c.take_in.new.best.kept
          c.in_ok-total.field-0 c.next-at.result past told.asked
          (subst (λ (n : ℕ). TakesIn next gone row n c.rows.best.kept c.take_in.new.best.kept c.in_ok-total.field-0) inv.count c.in_ok-total.ensures.takes) ending below;
    }
