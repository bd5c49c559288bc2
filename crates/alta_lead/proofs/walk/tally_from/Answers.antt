use Rattle.std.proofs.Common.{◌+◌, [], map, length, get_or, sym, subst, ap, ◌∙◌, arith}
use Rattle.std.proofs.lemmas.List.{length-map}
use Rattle.alta_codec.specs.Rising.{pred_of}
use Rattle.alta_docread.specs.Tree.{IsAhead}
use Rattle.alta_lead.specs.Having.{ends_having}
use Rattle.alta_lead.specs.HavingLaws.{having-rises}
use Rattle.alta_lead.specs.Moves.{AreAhead}
use Rattle.alta_lead.proofs.Counting.{live_fits}
use Rattle.alta_lead.proofs.Tallying.{tallying_starts, tallying_on, tallied, tallied_steps, tallied_moves}
use Rattle.alta_lead.proofs.walk.tally_from.Goals as goal

pub documents-init : goal.documents-init
documents-init g c =
    let X = g.E.Reader in let R = g.R.Reader in
    tallying_starts X.sound X.list X.all X.location X.left X.cost R.sound R.list R.all R.location R.left R.cost (get_or (map R.list c.args.words.now) c.args.lead [])
    (ends_having (X.list c.args.ends.now.inner) (map R.list c.args.words.now) (map R.list c.args.negated.now)) c.args.ends.now.inner c.args.words.now c.args.negated.now
    c.args.gone.now c.args.start c.args.steps.now c.requires.ends c.requires.words c.requires.negated c.requires.top c.requires.begins c.requires.ends_ahead c.requires.words_ahead c.requires.negated_ahead

pub document-end-requires-clause-lead : goal.document-end-requires-clause-lead
document-end-requires-clause-lead g c =
    let list = g.R.Reader.list in
    omega (arith, c.requires.lead, ap length c.documents.invariant.words_moved.lists, length-map c.documents.words list, length-map c.args.words.now list)

pub document-end-requires-clause-begins : goal.document-end-requires-clause-begins
document-end-requires-clause-begins g c =
    let i = c.documents.invariant in ap (λ l. pred_of l c.documents.from + 1) i.ends_moved.same_list ∙ i.begins

pub document-end-requires-clause-ends_ahead : goal.document-end-requires-clause-ends_ahead
document-end-requires-clause-ends_ahead g c =
    let i = c.documents.invariant in subst (λ l. IsAhead c.documents.from l (g.E.Reader.location c.documents.ends.inner)) (sym i.ends_moved.same_list) i.ends_ahead

pub document-end-requires-clause-words_ahead : goal.document-end-requires-clause-words_ahead
document-end-requires-clause-words_ahead g c =
    let i = c.documents.invariant in subst (λ ls. AreAhead c.documents.from ls (map g.R.Reader.location c.documents.words)) (sym i.words_moved.lists) i.words_ahead

pub document-end-requires-clause-negated_ahead : goal.document-end-requires-clause-negated_ahead
document-end-requires-clause-negated_ahead g c =
    let i = c.documents.invariant in subst (λ ls. AreAhead c.documents.from ls (map g.R.Reader.location c.documents.negated)) (sym i.negated_moved.lists) i.negated_ahead

pub returns-then-end-eq-TOP-clause-count : goal.returns-then-end-eq-TOP-clause-count
returns-then-end-eq-TOP-clause-count g c =
    let X = g.E.Reader in let R = g.R.Reader in let s = c.documents in let d = c.document-end in
    let rising = g.met.E.Reader.rises c.args.ends.now.inner c.requires.ends in
    tallied X.sound X.list X.all X.location X.left X.cost R.sound R.list R.all R.location R.left R.cost (λ ws. get_or ws c.args.lead []) ends_having c.args.ends.now.inner s.ends.inner d.new.ends.inner
    c.args.words.now s.words d.new.words c.args.negated.now s.negated d.new.negated c.args.gone.now c.args.start s.from s.live s.passed c.args.steps.now s.steps d.new.steps d.result.1 d.result.0
    rising (having-rises (X.list c.args.ends.now.inner) (map R.list c.args.words.now) (map R.list c.args.negated.now) rising) s.invariant d.ensures (omega (arith, c.if-end-eq-TOP.true))

pub returns-then-end-eq-TOP-clause-steps : goal.returns-then-end-eq-TOP-clause-steps
returns-then-end-eq-TOP-clause-steps g c =
    let X = g.E.Reader in let R = g.R.Reader in let s = c.documents in let d = c.document-end in
    let rising = g.met.E.Reader.rises c.args.ends.now.inner c.requires.ends in
    tallied_steps X.sound X.list X.all X.location X.left X.cost R.sound R.list R.all R.location R.left R.cost (λ ws. get_or ws c.args.lead []) ends_having c.args.ends.now.inner s.ends.inner d.new.ends.inner
    c.args.words.now s.words d.new.words c.args.negated.now s.negated d.new.negated c.args.gone.now c.args.start s.from s.live s.passed c.args.steps.now s.steps d.new.steps d.result.1 d.result.0
    rising (having-rises (X.list c.args.ends.now.inner) (map R.list c.args.words.now) (map R.list c.args.negated.now) rising) s.invariant d.ensures

pub returns-then-end-eq-TOP-clause-moves : goal.returns-then-end-eq-TOP-clause-moves
returns-then-end-eq-TOP-clause-moves g c =
    let X = g.E.Reader in let R = g.R.Reader in let s = c.documents in let d = c.document-end in
    let rising = g.met.E.Reader.rises c.args.ends.now.inner c.requires.ends in
    tallied_moves X.sound X.list X.all X.location X.left X.cost R.sound R.list R.all R.location R.left R.cost (λ ws. get_or ws c.args.lead []) ends_having c.args.ends.now.inner s.ends.inner d.new.ends.inner
    c.args.words.now s.words d.new.words c.args.negated.now s.negated d.new.negated c.args.gone.now c.args.start s.from s.live s.passed c.args.steps.now s.steps d.new.steps d.result.1 d.result.0
    rising (having-rises (X.list c.args.ends.now.inner) (map R.list c.args.words.now) (map R.list c.args.negated.now) rising) s.invariant d.ensures

pub counted-at-requires-clause-before : goal.counted-at-requires-clause-before
counted-at-requires-clause-before g c = λ k l. omega (arith, c.documents.invariant.gone_before k l, c.document-end.ensures.later)

pub overflow_add-live : goal.overflow_add-live
overflow_add-live g c =
    let X = g.E.Reader in let R = g.R.Reader in let i = c.documents.invariant in
    let rising = g.met.E.Reader.rises c.args.ends.now.inner c.requires.ends in
    let E = X.list c.args.ends.now.inner in let W = map R.list c.args.words.now in let N = map R.list c.args.negated.now in
    omega (arith, i.count, live_fits (ends_having E W N) c.args.gone.now c.args.start (having-rises E W N rising), c.counted-at.ensures.most)

pub documents-preserved : goal.documents-preserved
documents-preserved g c =
    let X = g.E.Reader in let R = g.R.Reader in let s = c.documents in let d = c.document-end in let n = c.counted-at in
    let rising = g.met.E.Reader.rises c.args.ends.now.inner c.requires.ends in
    tallying_on X.sound X.list X.all X.location X.left X.cost R.sound R.list R.all R.location R.left R.cost (λ ws. get_or ws c.args.lead []) ends_having c.args.ends.now.inner s.ends.inner d.new.ends.inner
    c.args.words.now s.words d.new.words c.args.negated.now s.negated d.new.negated c.args.gone.now c.args.start s.from s.live s.passed c.args.steps.now s.steps d.new.steps d.result.1 d.result.0
    rising (having-rises (X.list c.args.ends.now.inner) (map R.list c.args.words.now) (map R.list c.args.negated.now) rising) s.invariant d.ensures n.result.1 n.result.0 (omega (arith, d.ensures.top, c.if-end-eq-TOP.false))
    n.ensures.one n.ensures.none n.ensures.dead n.ensures.within n.ensures.before
