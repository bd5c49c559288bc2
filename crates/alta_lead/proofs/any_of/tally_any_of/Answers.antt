use Rattle.std.proofs.Common.{◌≡◌, ◌+◌, ◌*◌, ◌≤◌, true, [], map, refl, sym, subst, ap, ◌∙◌, arith}
use Rattle.std.specs.Prelude.{sum_by}
use Rattle.std.proofs.lemmas.List.Elements.{All-nil}
use Rattle.alta_codec.specs.Rising.{pred_of, count_from}
use Rattle.alta_compound.specs.Union.{union_of}
use Rattle.alta_docread.specs.Tree.{IsAhead}
use Rattle.alta_lead.proofs.AnyLaws.{with_any-rises}
use Rattle.alta_lead.specs.Having.{ends_with_any}
use Rattle.alta_lead.specs.Moves.{AreAhead}
use Rattle.alta_lead.proofs.AnyOf.{from_first, begins_first}
use Rattle.alta_lead.proofs.Counting.{live_fits}
use Rattle.alta_lead.proofs.Leading.{unmoved_ahead, all_unmoved_ahead}
use Rattle.alta_lead.proofs.Tallying.{tallying_starts, tallying_on, tallied, tallied_steps, tallied_moves}
use Rattle.alta_lead.proofs.any_of.tally_any_of.Goals as goal

pub documents-init : goal.documents-init
documents-init g c =
    let X = g.E.Reader in let R = g.R.Reader in let e = c.args.ends.now.inner in let ws = c.args.words.now in
    tallying_starts X.sound X.list X.all X.location X.left X.cost R.sound R.list R.all R.location R.left R.cost (union_of (map R.list ws))
    (ends_with_any (X.list e) (map R.list ws)) e ws [] c.args.gone.now 1 c.args.steps.now c.requires.ends c.requires.words (All-nil R.sound) (omega arith) (begins_first (X.list e))
    (unmoved_ahead (X.list e) (X.location e) 1 c.requires.ends_unmoved) (all_unmoved_ahead R.list R.location ws 1 c.requires.words_unmoved) (λ k l z m h. absurd (omega (arith, l)))

pub document-end-requires-clause-begins : goal.document-end-requires-clause-begins
document-end-requires-clause-begins g c =
    let i = c.documents.invariant in ap (λ l. pred_of l c.documents.from + 1) i.ends_moved.same_list ∙ i.begins

pub document-end-requires-clause-ends_ahead : goal.document-end-requires-clause-ends_ahead
document-end-requires-clause-ends_ahead g c =
    let i = c.documents.invariant in subst (λ l. IsAhead c.documents.from l (g.E.Reader.location c.documents.ends.inner)) (sym i.ends_moved.same_list) i.ends_ahead

pub document-end-requires-clause-words_ahead : goal.document-end-requires-clause-words_ahead
document-end-requires-clause-words_ahead g c =
    let i = c.documents.invariant in subst (λ ls. AreAhead c.documents.from ls (map g.R.Reader.location c.documents.words)) (sym i.words_moved.lists) i.words_ahead

pub returns-then-end-eq-TOP-clause-count : goal.returns-then-end-eq-TOP-clause-count
returns-then-end-eq-TOP-clause-count g c =
    let X = g.E.Reader in let R = g.R.Reader in let s = c.documents in let d = c.document-end in let e = c.args.ends.now.inner in let ws = c.args.words.now in
    let rising = g.met.E.Reader.rises e c.requires.ends in
    tallied X.sound X.list X.all X.location X.left X.cost R.sound R.list R.all R.location R.left R.cost union_of (λ es vs ns. ends_with_any es vs) e s.ends.inner d.new.ends.inner
    ws s.words d.new.words [] [] [] c.args.gone.now 1 s.from s.live s.passed c.args.steps.now s.steps d.new.steps true d.result
    rising (with_any-rises (X.list e) (map R.list ws) rising) s.invariant d.ensures (omega (arith, c.if-end-eq-TOP.true))
    ∙ from_first (ends_with_any (X.list e) (map R.list ws)) c.args.gone.now (with_any-rises (X.list e) (map R.list ws) rising)

pub returns-then-end-eq-TOP-clause-steps : goal.returns-then-end-eq-TOP-clause-steps
returns-then-end-eq-TOP-clause-steps g c =
    let X = g.E.Reader in let R = g.R.Reader in let s = c.documents in let d = c.document-end in let e = c.args.ends.now.inner in let ws = c.args.words.now in
    let rising = g.met.E.Reader.rises e c.requires.ends in
    omega (
      arith,
      tallied_steps X.sound X.list X.all X.location X.left X.cost R.sound R.list R.all R.location R.left R.cost union_of (λ es vs ns. ends_with_any es vs) e s.ends.inner d.new.ends.inner
          ws s.words d.new.words [] [] [] c.args.gone.now 1 s.from s.live s.passed c.args.steps.now s.steps d.new.steps true d.result
          rising (with_any-rises (X.list e) (map R.list ws) rising) s.invariant d.ensures,
    )

pub returns-then-end-eq-TOP-clause-moves : goal.returns-then-end-eq-TOP-clause-moves
returns-then-end-eq-TOP-clause-moves g c = λ of p q.
    let X = g.E.Reader in let R = g.R.Reader in let s = c.documents in let d = c.document-end in let e = c.args.ends.now.inner in let ws = c.args.words.now in
    let rising = g.met.E.Reader.rises e c.requires.ends in
    let none : sum_by of [] ≡ 0 = refl in
    let same : of (X.list e) + sum_by of (map R.list ws) + sum_by of [] ≡ of (X.list e) + sum_by of (map R.list ws) = omega (arith, none) in
    subst (λ m. d.new.steps ≤ c.args.steps.now + (2 * count_from (union_of (map R.list ws)) 1 + 2) * m) same
    (tallied_moves X.sound X.list X.all X.location X.left X.cost R.sound R.list R.all R.location R.left R.cost union_of (λ es vs ns. ends_with_any es vs) e s.ends.inner d.new.ends.inner
    ws s.words d.new.words [] [] [] c.args.gone.now 1 s.from s.live s.passed c.args.steps.now s.steps d.new.steps true d.result
    rising (with_any-rises (X.list e) (map R.list ws) rising) s.invariant d.ensures of p q)

pub counted-at-requires-clause-before : goal.counted-at-requires-clause-before
counted-at-requires-clause-before g c = λ k l. omega (arith, c.documents.invariant.gone_before k l, c.document-end.ensures.later)

pub overflow_add-live : goal.overflow_add-live
overflow_add-live g c =
    let X = g.E.Reader in let R = g.R.Reader in let i = c.documents.invariant in let e = c.args.ends.now.inner in let ws = c.args.words.now in
    let rising = g.met.E.Reader.rises e c.requires.ends in
    omega (arith, i.count, live_fits (ends_with_any (X.list e) (map R.list ws)) c.args.gone.now 1 (with_any-rises (X.list e) (map R.list ws) rising), c.counted-at.ensures.most)

pub documents-preserved : goal.documents-preserved
documents-preserved g c =
    let X = g.E.Reader in let R = g.R.Reader in let s = c.documents in let d = c.document-end in let n = c.counted-at in let e = c.args.ends.now.inner in let ws = c.args.words.now in
    let rising = g.met.E.Reader.rises e c.requires.ends in
    tallying_on X.sound X.list X.all X.location X.left X.cost R.sound R.list R.all R.location R.left R.cost union_of (λ es vs ns. ends_with_any es vs) e s.ends.inner d.new.ends.inner
    ws s.words d.new.words [] [] [] c.args.gone.now 1 s.from s.live s.passed c.args.steps.now s.steps d.new.steps true d.result
    rising (with_any-rises (X.list e) (map R.list ws) rising) s.invariant d.ensures n.result.1 n.result.0 (omega (arith, d.ensures.top, c.if-end-eq-TOP.false))
    n.ensures.one n.ensures.none n.ensures.dead n.ensures.within n.ensures.before
