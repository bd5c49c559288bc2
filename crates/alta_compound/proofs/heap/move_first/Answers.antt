use Rattle.std.proofs.Common.{◌≡◌, [], map, get_or, set, sym, subst, ap, ◌∙◌, arith}
use Rattle.std.proofs.lemmas.List.{map-set, get_or-map, get_or_default, get_or-set_same}
use Rattle.std.proofs.lemmas.List.Elements.{All-set}
use Rattle.std.proofs.lemmas.List.Sorted.{All-permutation}
use Rattle.alta_codec.specs.Rising.{first_from, pred_of}
use Rattle.alta_codec.proofs.Places.{first_from-above}
use Rattle.alta_compound.specs.Heap.{IsHeapFrom}
use Rattle.alta_compound.proofs.Staying.{pred_same}
use Rattle.alta_compound.proofs.Costs.{cost_after}
use Rattle.alta_compound.proofs.Heaps.{heap_but_first, left_after}
use Rattle.alta_compound.proofs.heap.move_first.Goals as goal

pub sift_down-requires-clause-heap : goal.sift_down-requires-clause-heap
sift_down-requires-clause-heap g c =
    let h = g.R.Reader.location in let rs = c.args.readers.now in let r = c.seek.new.self in
    subst (λ l. IsHeapFrom 1 l) (sym (map-set h rs 0 r)) (heap_but_first (map h rs) (h r) c.requires.heap)

pub returns-clause-last : goal.returns-clause-last
returns-clause-last g c =
    let f = g.R.Reader.list in let h = g.R.Reader.location in let rs = c.args.readers.now in let r = c.seek.new.self in
    let same : get_or (map f rs) 0 [] ≡ f (get_or rs 0 c.index-readers-0.result) = get_or-map f rs 0 c.index-readers-0.result [] c.requires.some in
    c.prev-last.ensures
    ∙ ap (λ x. pred_of (f x) (h x)) (get_or-set_same rs 0 r c.index-readers-0-2.result c.requires.some)
    ∙ ap (λ l. pred_of l (h r)) (c.seek.ensures.list ∙ sym same)
    ∙ pred_same (get_or (map f rs) 0 []) c.args.to (h r) (c.seek.ensures.location ∙ ap (λ l. first_from l c.args.to) (sym same))
    (omega (arith, c.requires.before)) c.requires.top

pub returns-clause-moves : goal.returns-clause-moves
returns-clause-moves g c =
    let rs = c.args.readers.now in let r = c.seek.new.self in
    let first = c.index-readers-0.result in
    let left = left_after g.R.Reader.left rs c.sift_down.new.readers r first c.requires.some c.sift_down.ensures.permutation in
    let same : (d : g.row.R.Denot) → get_or rs 0 first ≡ get_or rs 0 d = λ d. get_or_default rs 0 first d c.requires.some in
    record {
      sound = All-permutation g.R.Reader.sound (set rs 0 r) c.sift_down.new.readers c.sift_down.ensures.permutation
          (All-set g.R.Reader.sound rs 0 r c.seek.ensures.sound c.requires.sound);
      moved = record {
        moved = r;
        goes = λ d. record {
          same_list = c.seek.ensures.list ∙ ap g.R.Reader.list (same d);
          same_all = c.seek.ensures.all ∙ ap g.R.Reader.all (same d);
          place = c.seek.ensures.location ∙ ap (λ x. first_from (g.R.Reader.list x) c.args.to) (same d);
        };
        ordered = c.sift_down.ensures.permutation;
      };
      falls = omega (arith, left, c.seek.ensures.falls);
      steps = omega (arith, left, c.seek.ensures.steps);
    }

pub returns-clause-cost : goal.returns-clause-cost
returns-clause-cost g c =
    let h = g.R.Reader.location in let rs = c.args.readers.now in let r = c.seek.new.self in let first = c.index-readers-0.result in
    let after = cost_after g.R.Reader.cost h c.args.to rs c.sift_down.new.readers r first c.requires.some c.sift_down.ensures.permutation
    (omega (arith, c.requires.before, get_or-map h rs 0 first 0 c.requires.some))
    (omega (arith, c.seek.ensures.location, first_from-above (g.R.Reader.list (get_or rs 0 first)) c.args.to c.requires.top)) in
    omega (arith, after, c.seek.ensures.cost)
