use Rattle.std.proofs.Common.{◌≡◌, ◌∷◌, ◌++◌, ℕ, ◌<◌, [], ◌≤◌, List, length, false, eqb, ltb, refl, sym, subst, ◌∙◌, arith}
use Rattle.std.specs.BinaryHeap.{heap_items}
use Rattle.std.proofs.lemmas.Bool.{false≢true, ne_eqb}
use Rattle.std.proofs.lemmas.List.Elements.{All-from_recursion}
use Rattle.alta_rank.specs.Kept.{IsBest, KeptOf, has_place}
use Rattle.alta_machine.specs.declared.scored.Scored.{Scored}
use Rattle.alta_rank.proofs.Keeping.{after_number, after_score, best-left_out, best-none_kept, lt, no_place, place_by_number}
use Rattle.alta_rank.proofs.best.Best.has_place.Goals as goal

-- what is kept is the best of one answer more
abbrev Stays : ℕ → ℕ → KeptOf → Type 0
Stays number score s = (every : List Scored) (name : List ℕ) → IsBest s.count every s.kept → IsBest s.count (every ++ record { number = number; name = name; score = score } ∷ []) s.kept

pub returns-then-last-score-2-clause-left_out : goal.returns-then-last-score-2-clause-left_out
returns-then-last-score-2-clause-left_out c = λ behind.
    let old = c.self.inside in let last = c.in-Some.last.now in let kept = heap_items old.kept in
    subst (Stays c.args.number c.args.score) c.self.view_is
    (λ every name best. best-left_out old.count every kept (record { number = c.args.number; name = name; score = c.args.score }) last best
    (omega (arith, c.if-len-self.false, c.len.ensures, old.kept.data.ok.0))
    (after_number (record { number = c.args.number; name = name; score = c.args.score }) last c.if-last-score-2.true behind)
    (All-from_recursion (λ b. lt last b ≡ false) kept (c.in-Some.ensures.greatest c.self.invariant)))

pub returns-else-last-score-2-clause-left_out : goal.returns-else-last-score-2-clause-left_out
returns-else-last-score-2-clause-left_out c = λ differs.
    let old = c.self.inside in let last = c.in-Some.last.now in let kept = heap_items old.kept in
    subst (Stays c.args.number c.args.score) c.self.view_is
    (λ every name best. best-left_out old.count every kept (record { number = c.args.number; name = name; score = c.args.score }) last best
    (omega (arith, c.if-len-self.false, c.len.ensures, old.kept.data.ok.0))
    (after_score (record { number = c.args.number; name = name; score = c.args.score }) last (omega (arith, c.if-last-score.false)) differs)
    (All-from_recursion (λ b. lt last b ≡ false) kept (c.in-Some.ensures.greatest c.self.invariant)))

pub returns-in-None-clause-left_out : goal.returns-in-None-clause-left_out
returns-in-None-clause-left_out c = λ same.
    let old = c.self.inside in let kept = heap_items old.kept in
    let none : 0 < length kept → ⊥ = λ some. false≢true (c.in-None.ensures.variant.1 (omega (arith, some, old.kept.data.ok.0))) in
    subst (Stays c.args.number c.args.score) c.self.view_is
    (λ every name best. best-none_kept old.count every kept (record { number = c.args.number; name = name; score = c.args.score }) best
    (omega (arith, c.if-len-self.false, c.len.ensures, old.kept.data.ok.0)) none)

pub returns-then-last-score-2-clause-place : goal.returns-then-last-score-2-clause-place
returns-then-last-score-2-clause-place c =
    let old = c.self.inside in let last = c.in-Some.last.now in let kept = heap_items old.kept in
    let some : 0 < length kept = omega (arith, c.in-Some.ensures.variant.0 refl, old.kept.data.ok.0) in
    let full : old.count ≤ length kept = omega (arith, c.if-len-self.false, c.len.ensures, old.kept.data.ok.0) in
    subst (λ (s : KeptOf). ltb c.args.number last.number ≡ has_place s c.args.number c.args.score) c.self.view_is
    (place_by_number old.count c.args.number c.args.score kept last some full c.in-Some.ensures.lookup c.if-last-score-2.true (All-from_recursion (λ b. lt last b ≡ false) kept (c.in-Some.ensures.greatest c.self.invariant)))

pub returns-else-last-score-2-clause-place : goal.returns-else-last-score-2-clause-place
returns-else-last-score-2-clause-place c =
    let old = c.self.inside in let last = c.in-Some.last.now in let kept = heap_items old.kept in
    let full : old.count ≤ length kept = omega (arith, c.if-len-self.false, c.len.ensures, old.kept.data.ok.0) in
    let differs : eqb last.score c.args.score ≡ false = ne_eqb last.score c.args.score c.if-last-score-2.false in
    let after = after_score (record { number = c.args.number; name = []; score = c.args.score }) last (omega (arith, c.if-last-score.false)) differs in
    subst (λ (s : KeptOf). eqb last.score c.args.score ≡ has_place s c.args.number c.args.score) c.self.view_is
    (differs ∙ sym (no_place old.count c.args.number c.args.score kept last full after (All-from_recursion (λ b. lt last b ≡ false) kept (c.in-Some.ensures.greatest c.self.invariant))))
