use Rattle.std.proofs.Common.{◌≡◌, ◌+◌, ◌<◌, ◌≤◌, List, [], ℕ, length, get_or, map, sym, ap, subst, ◌∙◌, arith}
use Rattle.std.specs.List.{concat}
use Rattle.std.proofs.lemmas.List.{length-map, take_at}
use Rattle.alta_codec.specs.Rising.{IsRising}
use Rattle.alta_gather.specs.Holding.{IsMarked}
use Rattle.alta_gather.specs.declared.held.Held.{Held}
use Rattle.alta_gather.proofs.Lists.{IsHeldTo, held_all, held_next, held_none}
use Rattle.alta_search.specs.Lists.{term_lists}
use Rattle.alta_search.specs.declared.lists.TermLists.{TermLists}
use Rattle.alta_dump.proofs.Counting.{counted_all, cut_at, locations_at, steps_at}
use Rattle.alta_dump.proofs.gathering.gather.Goals as goal

pub loop-i-init : goal.loop-i-init
loop-i-init g c = record {
  held = held_none c.args.places.now (map concat (map term_lists c.args.terms.now)) c.in_ok-held.held.items (c.in_ok-held.ensures.long ∙ c.len.ensures.count) c.in_ok-held.ensures.never;
  steps = omega arith;
}

pub walk-requires-clause-rising : goal.walk-requires-clause-rising
walk-requires-clause-rising g c =
    subst (λ (t : TermLists). IsRising (concat (term_lists t))) (sym c.index-terms-i.is) (cut_at c.args.terms.now c.loop-i.i c.index-terms-i.result (omega arith) c.requires.cut)

pub walk-requires-clause-paired : goal.walk-requires-clause-paired
walk-requires-clause-paired g c = ap length c.deref_mut.ensures.value ∙ c.loop-i.invariant.held.long

pub loop-i-preserved : goal.loop-i-preserved
loop-i-preserved g c =
    let terms = c.args.terms.now in let i = c.loop-i.i in let inv = c.loop-i.invariant in let d = c.index-terms-i.result in
    let lists = map concat (map term_lists terms) in
    let within : i < length terms = omega arith in
    let inside : i < length lists = omega (arith, within, length-map terms term_lists, length-map (map term_lists terms) concat) in
    let own : concat (term_lists d) ≡ get_or lists i [] = ap (λ (t : TermLists). concat (term_lists t)) c.index-terms-i.is ∙ sym (locations_at terms i d within) in
    let more : c.walk.new.steps ≤ c.loop-i.steps + (length (term_lists (get_or terms i d)) + length (concat (term_lists (get_or terms i d)))) =
    subst (λ (t : TermLists). c.walk.new.steps ≤ c.loop-i.steps + (length (term_lists t) + length (concat (term_lists t)))) c.index-terms-i.is c.walk.ensures.steps in
    let next : IsHeldTo c.args.places.now lists (i + 1) c.walk.new.held =
    held_next c.args.places.now lists i c.loop-i.held.items c.walk.new.held inside inv.held
    (subst (λ (hs : List Held). IsMarked c.args.places.now (get_or lists i []) i hs c.walk.new.held) c.deref_mut.ensures.value
    (subst (λ (l : List ℕ). IsMarked c.args.places.now l i c.deref_mut.result.now c.walk.new.held) own
    (subst (λ (n : ℕ). IsMarked c.args.places.now (concat (term_lists d)) n c.deref_mut.result.now c.walk.new.held) c.in_ok-index.ensures c.in_ok-walk.ensures.marked))) in
    let long : length c.walk.new.held ≡ c.loop-i.held.len = omega (arith, next.long, inv.held.long) in
    record {
      held = subst (IsHeldTo c.args.places.now lists (i + 1)) (sym (take_at c.walk.new.held _ _ long)) next;
      steps = steps_at terms i d within c.args.steps.now c.loop-i.steps c.walk.new.steps inv.steps more;
    }

pub returns-in_err-walk-clause-steps : goal.returns-in_err-walk-clause-steps
returns-in_err-walk-clause-steps g c =
    let terms = c.args.terms.now in let i = c.loop-i.i in let d = c.index-terms-i.result in
    let within : i < length terms = omega arith in
    let more : c.walk.new.steps ≤ c.loop-i.steps + (length (term_lists (get_or terms i d)) + length (concat (term_lists (get_or terms i d)))) =
    subst (λ (t : TermLists). c.walk.new.steps ≤ c.loop-i.steps + (length (term_lists t) + length (concat (term_lists t)))) c.index-terms-i.is c.walk.ensures.steps in
    let here = steps_at terms i d within c.args.steps.now c.loop-i.steps c.walk.new.steps c.loop-i.invariant.steps more in
    omega (arith, here, counted_all (map term_lists terms) (i + 1))

pub returns-clause-held : goal.returns-clause-held
returns-clause-held g c =
    let terms = c.args.terms.now in let lists = map concat (map term_lists terms) in
    held_all c.args.places.now lists c.loop-i.i c.loop-i.held.items (omega (arith, length-map terms term_lists, length-map (map term_lists terms) concat)) c.loop-i.invariant.held

pub returns-clause-steps : goal.returns-clause-steps
returns-clause-steps g c = omega (arith, c.loop-i.invariant.steps, counted_all (map term_lists c.args.terms.now) c.loop-i.i)
