use Rattle.std.proofs.Common.{◌+◌, ◌*◌, ◌≤◌, [], map, get_or, arith}
use Rattle.std.proofs.Math.Nat.{mul-le-mul_right}
use Rattle.std.proofs.lemmas.List.{length-map}
use Rattle.std.specs.Prelude.{sum_by}
use Rattle.alta_codec.specs.Rising.{pred_of, count_from}
use Rattle.alta_lead.specs.Having.{ends_having}
use Rattle.alta_lead.specs.HavingLaws.{having-answers, having-rises, element_within}
use Rattle.alta_lead.proofs.Counting.{live_over, live_fits}
use Rattle.alta_lead.proofs.Rounding.{ahead_later, all_ahead_later}
use Rattle.alta_lead.proofs.Tallying.{behind_end, answer_rest}
use Rattle.alta_lead.proofs.walk.tally.Goals as goal

pub tally_from-behind-requires-clause-top : goal.tally_from-behind-requires-clause-top
tally_from-behind-requires-clause-top g c =
    let E = g.E.Reader.list c.args.ends.now.inner in let W = map g.R.Reader.list c.args.words.now in let N = map g.R.Reader.list c.args.negated.now in
    let rising = g.met.E.Reader.rises c.args.ends.now.inner c.requires.ends in
    omega (arith, (element_within E c.args.at rising ((having-answers E W N c.args.at rising).0 c.requires.answer).is_end).1)

pub tally_from-behind-requires-clause-begins : goal.tally_from-behind-requires-clause-begins
tally_from-behind-requires-clause-begins g c =
    let E = g.E.Reader.list c.args.ends.now.inner in let W = map g.R.Reader.list c.args.words.now in let N = map g.R.Reader.list c.args.negated.now in
    let rising = g.met.E.Reader.rises c.args.ends.now.inner c.requires.ends in
    behind_end E c.args.at rising ((having-answers E W N c.args.at rising).0 c.requires.answer).is_end

pub tally_from-behind-requires-clause-ends_ahead : goal.tally_from-behind-requires-clause-ends_ahead
tally_from-behind-requires-clause-ends_ahead g c =
    let X = g.E.Reader in
    ahead_later (X.list c.args.ends.now.inner) c.args.at (c.args.at + 1) (X.location c.args.ends.now.inner) (omega arith) c.requires.ends_ahead

pub tally_from-behind-requires-clause-words_ahead : goal.tally_from-behind-requires-clause-words_ahead
tally_from-behind-requires-clause-words_ahead g c =
    let R = g.R.Reader in
    all_ahead_later (map R.list c.args.words.now) (map R.location c.args.words.now) c.args.at (c.args.at + 1) (omega arith) c.requires.words_ahead

pub tally_from-behind-requires-clause-negated_ahead : goal.tally_from-behind-requires-clause-negated_ahead
tally_from-behind-requires-clause-negated_ahead g c =
    let R = g.R.Reader in
    all_ahead_later (map R.list c.args.negated.now) (map R.location c.args.negated.now) c.args.at (c.args.at + 1) (omega arith) c.requires.negated_ahead

pub returns-clause-count : goal.returns-clause-count
returns-clause-count g c =
    let E = g.E.Reader.list c.args.ends.now.inner in let W = map g.R.Reader.list c.args.words.now in let N = map g.R.Reader.list c.args.negated.now in
    let rising = g.met.E.Reader.rises c.args.ends.now.inner c.requires.ends in let n = c.counted-passed in
    let over = live_over (ends_having E W N) c.args.gone.now c.args.at c.args.at n.result.1 (having-rises E W N rising) (omega arith) (λ z m h. h)
    (λ m live. n.ensures.one live) (λ out. absurd (out c.requires.answer)) n.ensures.dead in
    omega (arith, c.tally_from-behind.ensures.count, over)

pub returns-clause-moves : goal.returns-clause-moves
returns-clause-moves g c = λ of p q.
    let E = g.E.Reader.list c.args.ends.now.inner in let W = map g.R.Reader.list c.args.words.now in let N = map g.R.Reader.list c.args.negated.now in
    let rising = g.met.E.Reader.rises c.args.ends.now.inner c.requires.ends in
    let rest = answer_rest E W N c.args.lead c.args.at (omega (arith, c.requires.lead, length-map c.args.words.now g.R.Reader.list)) ((having-answers E W N c.args.at rising).0 c.requires.answer) in
    let few : 2 * count_from (get_or W c.args.lead []) (c.args.at + 1) + 2 ≤ 2 * count_from (get_or W c.args.lead []) (pred_of E c.args.at + 1) = omega (arith, rest) in
    omega (arith, c.tally_from-behind.ensures.moves of p q, mul-le-mul_right (of E + sum_by of W + sum_by of N) few)

pub overflow_add-at : goal.overflow_add-at
overflow_add-at g c =
    let E = g.E.Reader.list c.args.ends.now.inner in let W = map g.R.Reader.list c.args.words.now in let N = map g.R.Reader.list c.args.negated.now in
    let rising = g.met.E.Reader.rises c.args.ends.now.inner c.requires.ends in
    omega (arith, (element_within E c.args.at rising ((having-answers E W N c.args.at rising).0 c.requires.answer).is_end).1)

pub overflow_add-result : goal.overflow_add-result
overflow_add-result g c =
    let E = g.E.Reader.list c.args.ends.now.inner in let W = map g.R.Reader.list c.args.words.now in let N = map g.R.Reader.list c.args.negated.now in
    let rising = g.met.E.Reader.rises c.args.ends.now.inner c.requires.ends in
    omega (arith, c.tally_from-behind.ensures.count, live_fits (ends_having E W N) c.args.gone.now (c.args.at + 1) (having-rises E W N rising), c.counted-passed.ensures.most)
