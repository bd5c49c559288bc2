use Rattle.std.proofs.Common.{◌≡◌, ◌+◌, ◌++◌, length, take, drop, sym, ap, arith}
use Rattle.std.proofs.lemmas.List.{take_at}
use Rattle.alta_codec.specs.Rising.{pred_of}
use Rattle.alta_lead.specs.Moves.{IsUnpassed}
use Rattle.alta_lead.specs.Rounds.{IsGone}
use Rattle.alta_lead.proofs.Leading.{of_equal}
use Rattle.alta_lead.proofs.reader.LeadReader.bring.Goals as goal

pub go-self-requires-clause-unpassed : goal.go-self-requires-clause-unpassed
go-self-requires-clause-unpassed g c =
    let R = g.R.Reader in let s = c.args.self.now in
    of_equal (λ k. IsUnpassed R.list R.location k (pred_of (R.list s.ends.inner) c.args.to + 1)) s.ends.inner c.deref_mut.result.now s.words.items c.deref_mut-2.result.now s.negated.items
    c.deref_mut.ensures.value c.deref_mut-2.ensures.value c.requires.unpassed

pub returns-clause-gone : goal.returns-clause-gone
returns-clause-gone g c =
    let R = g.R.Reader in let s = c.args.self.now in let d = c.go-self.new in
    let words : take s.words.len (d.words ++ drop (length d.words) s.words.items) ≡ d.words =
    take_at d.words (drop (length d.words) s.words.items) s.words.len (omega (arith, s.words.ok.0, c.go-self.auto.words, ap length c.deref_mut.ensures.value)) in
    let negated : take s.negated.len (d.negated ++ drop (length d.negated) s.negated.items) ≡ d.negated =
    take_at d.negated (drop (length d.negated) s.negated.items) s.negated.len (omega (arith, s.negated.ok.0, c.go-self.auto.negated, ap length c.deref_mut-2.ensures.value)) in
    of_equal (λ k. IsGone R.sound R.list R.all R.location R.left R.cost s.lead k
    (record { ends = d.ends.inner; words = take s.words.len (d.words ++ drop (length d.words) s.words.items); negated = take s.negated.len (d.negated ++ drop (length d.negated) s.negated.items) })
    c.args.to c.go-self.result c.args.steps.now d.steps) s.ends.inner
    s.words.items c.deref_mut.result.now s.negated.items c.deref_mut-2.result.now (sym c.deref_mut.ensures.value) (sym c.deref_mut-2.ensures.value)
    (of_equal (λ k. IsGone R.sound R.list R.all R.location R.left R.cost s.lead (record { ends = s.ends.inner; words = c.deref_mut.result.now; negated = c.deref_mut-2.result.now }) k
    c.args.to c.go-self.result c.args.steps.now d.steps) d.ends.inner
    (take s.words.len (d.words ++ drop (length d.words) s.words.items)) d.words (take s.negated.len (d.negated ++ drop (length d.negated) s.negated.items)) d.negated words negated c.go-self.ensures)
