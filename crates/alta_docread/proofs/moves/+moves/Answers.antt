use Rattle.std.proofs.Common.{◌≡◌, ◌+◌, ◌<◌, min, true, false, map, length, set, refl, sym, subst, ap, ◌∙◌, arith}
use Rattle.std.proofs.lemmas.List.{get_or-set_other, length-set}
use Rattle.alta_codec.specs.Rising.{first_from}
use Rattle.alta_compound.proofs.InStep.{place-positive}
use Rattle.alta_compound.specs.Union.{least_of}
use Rattle.alta_docread.specs.Moves.{IsAsked, IsSkipped}
use Rattle.alta_codec.specs.Lists.{greatest_of}
use Rattle.alta_docread.specs.Tree.{Tree, trees_of, tree_place, places_of, tree_depth, IsSoundTree}
use Rattle.alta_docread.specs.View.{reading_of, tree_of}
use Rattle.alta_docread.specs.declared.node.Node.{Node}
use Rattle.alta_docread.proofs.Each.{sound_each, places_each, depth_at, kept_length}
use Rattle.alta_docread.proofs.Passing.{IsPassing, passing_step, passing_end, agreeing_on, agreed, agreed_some, joined_place_is, moved_all}
use Rattle.alta_docread.proofs.Reaching.{IsReaching, reaching_step, reaching_end, moved_any}
use Rattle.alta_docread.proofs.Skipping.{below_top, asked_top, asked_moved, skipping_start, skipping_step, skipping_end, moved_without, ends_ahead, tree_ahead, eq_answers}
use Rattle.alta_docread.proofs.moves.+moves.Goals as goal

-- unions
pub seek_any-seek_each-requires : goal.seek_any-seek_each-requires
seek_any-seek_each-requires g t c κs within =
    let tree = tree_of g.R.Reader.list g.R.Reader.all g.R.Reader.location g.R.Reader.left in (
      omega arith,
      (within.0, (within.1, (sound_each tree c.args.nodes.now.items c.requires.sound.0, (c.requires.some, c.requires.top)))),
    )

pub seek_any-returns : goal.seek_any-returns
seek_any-returns g t c =
    let tree = tree_of g.R.Reader.list g.R.Reader.all g.R.Reader.location g.R.Reader.left in let e = c.seek_each.ensures in
    record {
      place = e.lowest ∙ ap least_of (sym (places_each tree c.seek_each.new.nodes.items));
      moved = moved_any tree c.args.nodes.now.items c.seek_each.new.nodes.items c.args.to c.seek_each.result
          c.args.steps.now c.seek_each.new.steps c.requires.some c.requires.top c.requires.sound e;
    }

pub seek_each-seek-requires : goal.seek_each-seek-requires
seek_each-seek-requires g t c κs within =
    let tree : Node g.row.R.Denot → Tree = tree_of g.R.Reader.list g.R.Reader.all g.R.Reader.location g.R.Reader.left in
    let i = c.loop-i.i in let rs = c.loop-i.nodes.items in let inv = c.loop-i.invariant in let d = c.index_mut.result.now in
    let value = c.index_mut.ensures.value in let lt : i < length rs = omega (arith, inv.unvisited.0) in (
      omega (arith, ap (λ n. tree_depth (tree n)) value, depth_at tree rs i d lt, inv.reaching.kept.depth),
      (
        within.0,
        (
          within.1,
          (
            subst (λ n. IsSoundTree (tree n)) (sym value) (inv.reaching.kept.sound i d lt),
            (c.requires.some, c.requires.top),
          ),
        ),
      ),
    )

pub seek_each-loop-i-preserved : goal.seek_each-loop-i-preserved
seek_each-loop-i-preserved g t c =
    let tree : Node g.row.R.Denot → Tree = tree_of g.R.Reader.list g.R.Reader.all g.R.Reader.location g.R.Reader.left in
    let i = c.loop-i.i in let rs = c.loop-i.nodes.items in let os = c.args.nodes.now.items in let inv = c.loop-i.invariant in
    let r = c.seek.new.node in let d = c.index_mut.result.now in let value = c.index_mut.ensures.value in
    let lt : i < length rs = omega (arith, inv.unvisited.0) in let first : i < length os = omega (arith, inv.unvisited.0) in
    let least : c.min-least.result ≡ min c.loop-i.least (tree_place (tree r)) = c.min-least.ensures ∙ ap (λ x. min c.loop-i.least x) c.seek.ensures.place in
    record {
      unvisited = (length-set rs i r ∙ inv.unvisited.0, λ k e l. get_or-set_other rs i k r e (λ q. omega arith) ∙ inv.unvisited.1 k e (omega arith));
      reaching = subst (λ v. IsReaching tree os (set rs i r) c.args.to v (i + 1) c.args.steps.now c.seek.new.steps) (sym least)
          (reaching_step tree os rs c.args.to c.loop-i.least i r d c.args.steps.now c.loop-i.steps c.seek.new.steps lt first value
          (value ∙ inv.unvisited.1 i d (omega arith)) inv.reaching c.seek.ensures.moved);
    }

pub seek_each-returns : goal.seek_each-returns
seek_each-returns g t c =
    let tree = tree_of g.R.Reader.list g.R.Reader.all g.R.Reader.location g.R.Reader.left in let inv = c.loop-i.invariant in
    reaching_end tree c.args.nodes.now.items c.loop-i.nodes.items c.args.to c.loop-i.least c.loop-i.i c.args.steps.now c.loop-i.steps c.requires.top
    (omega (arith, inv.unvisited.0)) (omega (arith, inv.unvisited.0)) inv.reaching

-- intersections
pub seek_all-agree-requires : goal.seek_all-agree-requires
seek_all-agree-requires g t c κs within =
    let tree = tree_of g.R.Reader.list g.R.Reader.all g.R.Reader.location g.R.Reader.left in
    let os = c.args.nodes.now.items in let s = c.requires.sound in (
      omega arith,
      (within.0, (within.1, (sound_each tree os s.0, (agreed_some tree os (greatest_of (places_of (trees_of (map tree os)))) s.1, (c.requires.some, c.requires.top))))),
    )

pub seek_all-returns : goal.seek_all-returns
seek_all-returns g t c =
    let tree = tree_of g.R.Reader.list g.R.Reader.all g.R.Reader.location g.R.Reader.left in
    let os = c.args.nodes.now.items in let ns = c.agree.new.nodes.items in
    record {
      place = joined_place_is tree os ns c.args.to c.agree.result c.args.steps.now c.agree.new.steps c.requires.some c.requires.top c.requires.sound c.agree.ensures;
      moved = moved_all tree os ns c.args.to c.agree.result c.args.steps.now c.agree.new.steps c.requires.some c.requires.top c.requires.sound c.agree.ensures;
    }

pub agree-pass-least-requires : goal.agree-pass-least-requires
agree-pass-least-requires g t c κs within =
    let tree = tree_of g.R.Reader.list g.R.Reader.all g.R.Reader.location g.R.Reader.left in let inv = c.agree.invariant in (
      omega (arith, inv.kept.depth),
      (
        within.0,
        (
          within.1,
          (
            inv.kept.sound,
            (
              omega (arith, c.requires.nodes, kept_length tree c.args.nodes.now.items c.agree.nodes.items c.args.steps.now c.agree.steps inv.kept),
              (omega (arith, c.requires.some, inv.above), inv.top),
            ),
          ),
        ),
      ),
    )

pub agree-returns-then-least-last : goal.agree-returns-then-least-last
agree-returns-then-least-last g t c =
    let tree = tree_of g.R.Reader.list g.R.Reader.all g.R.Reader.location g.R.Reader.left in
    agreed tree c.args.nodes.now.items c.agree.nodes.items c.pass-least.new.nodes.items c.args.to c.agree.goal c.pass-least.result.0 c.pass-least.result.1
    c.args.steps.now c.agree.steps c.pass-least.new.steps c.agree.invariant c.pass-least.ensures (omega (arith, c.if-least-last.true))

pub agree-agree-preserved : goal.agree-agree-preserved
agree-agree-preserved g t c =
    let tree = tree_of g.R.Reader.list g.R.Reader.all g.R.Reader.location g.R.Reader.left in
    agreeing_on tree c.args.nodes.now.items c.agree.nodes.items c.pass-least.new.nodes.items c.args.to c.agree.goal c.pass-least.result.0 c.pass-least.result.1
    c.args.steps.now c.agree.steps c.pass-least.new.steps c.agree.invariant c.pass-least.ensures

pub agree-agree-smaller : goal.agree-agree-smaller
agree-agree-smaller g t c = omega (arith, c.if-least-last.false, c.pass-least.ensures.above, c.pass-least.ensures.order, c.pass-least.ensures.top)

pub pass-seek-last-requires : goal.pass-seek-last-requires
pass-seek-last-requires g t c κs within =
    let tree : Node g.row.R.Denot → Tree = tree_of g.R.Reader.list g.R.Reader.all g.R.Reader.location g.R.Reader.left in
    let i = c.loop-i.i in let rs = c.loop-i.nodes.items in let inv = c.loop-i.invariant in let d = c.index_mut.result.now in
    let value = c.index_mut.ensures.value in let lt : i < length rs = omega (arith, inv.unvisited.0) in (
      omega (arith, ap (λ n. tree_depth (tree n)) value, depth_at tree rs i d lt, inv.passing.kept.depth),
      (
        within.0,
        (
          within.1,
          (
            subst (λ n. IsSoundTree (tree n)) (sym value) (inv.passing.kept.sound i d lt),
            (omega (arith, c.requires.some, inv.passing.from), inv.passing.top),
          ),
        ),
      ),
    )

pub pass-loop-i-preserved : goal.pass-loop-i-preserved
pass-loop-i-preserved g t c =
    let tree : Node g.row.R.Denot → Tree = tree_of g.R.Reader.list g.R.Reader.all g.R.Reader.location g.R.Reader.left in
    let i = c.loop-i.i in let rs = c.loop-i.nodes.items in let os = c.args.nodes.now.items in let inv = c.loop-i.invariant in
    let r = c.seek-last.new.node in let d = c.index_mut.result.now in let value = c.index_mut.ensures.value in
    let lt : i < length rs = omega (arith, inv.unvisited.0) in let first : i < length os = omega (arith, inv.unvisited.0) in
    let last : c.seek-last.result ≡ tree_place (tree r) = c.seek-last.ensures.place in
    let least : c.min-least.result ≡ min c.loop-i.least (tree_place (tree r)) = c.min-least.ensures ∙ ap (λ x. min c.loop-i.least x) last in
    record {
      unvisited = (length-set rs i r ∙ inv.unvisited.0, λ k e l. get_or-set_other rs i k r e (λ q. omega arith) ∙ inv.unvisited.1 k e (omega arith));
      passing = subst (λ v. IsPassing tree os (set rs i r) c.args.goal v c.seek-last.result (i + 1) c.args.steps.now c.seek-last.new.steps) (sym least)
          (subst (λ v. IsPassing tree os (set rs i r) c.args.goal (min c.loop-i.least (tree_place (tree r))) v (i + 1) c.args.steps.now c.seek-last.new.steps) (sym last)
          (passing_step tree os rs c.args.goal c.loop-i.least c.loop-i.last i r d c.args.steps.now c.loop-i.steps c.seek-last.new.steps lt first value
          (value ∙ inv.unvisited.1 i d (omega arith)) inv.passing c.seek-last.ensures.moved));
    }

pub pass-returns : goal.pass-returns
pass-returns g t c =
    let tree = tree_of g.R.Reader.list g.R.Reader.all g.R.Reader.location g.R.Reader.left in let inv = c.loop-i.invariant in
    passing_end tree c.args.nodes.now.items c.loop-i.nodes.items c.args.goal c.loop-i.least c.loop-i.last c.loop-i.i c.args.steps.now c.loop-i.steps
    (omega (arith, c.requires.nodes, inv.unvisited.0)) (omega (arith, inv.unvisited.0)) (omega (arith, inv.unvisited.0)) inv.passing

-- differences
pub go_without-skip-reader-requires : goal.go_without-skip-reader-requires
go_without-skip-reader-requires g t c κs within =
    let tree : Node g.row.R.Denot → Tree = tree_of g.R.Reader.list g.R.Reader.all g.R.Reader.location g.R.Reader.left in
    let reading = reading_of g.R.Reader.list g.R.Reader.all g.R.Reader.location g.R.Reader.left in
    let w = c.args.reader.now in let s = c.requires.sound in let above = c.requires.above in (
      omega arith,
      (
        within.0,
        (
          within.1,
          (
            s.0,
            (
              ends_ahead (reading w.ends) (tree w.child) w.at c.args.to above s.1,
              (tree_ahead (reading w.ends) (tree w.child) w.at c.args.to above s.1, (omega (arith, above), c.requires.top)),
            ),
          ),
        ),
      ),
    )

pub go_without-returns : goal.go_without-returns
go_without-returns g t c =
    let tree : Node g.row.R.Denot → Tree = tree_of g.R.Reader.list g.R.Reader.all g.R.Reader.location g.R.Reader.left in
    let reading = reading_of g.R.Reader.list g.R.Reader.all g.R.Reader.location g.R.Reader.left in
    let w = c.args.reader.now in
    moved_without (reading w.ends) (reading c.skip-reader.new.ends) (tree w.child) (tree c.skip-reader.new.child) w.at c.args.to c.skip-reader.result
    c.args.steps.now c.skip-reader.new.steps c.requires.above c.requires.sound c.skip-reader.ensures

pub skip-ends-init : goal.skip-ends-init
skip-ends-init g t c =
    let tree = tree_of g.R.Reader.list g.R.Reader.all g.R.Reader.location g.R.Reader.left in
    let reading = reading_of g.R.Reader.list g.R.Reader.all g.R.Reader.location g.R.Reader.left in let e = c.reach.ensures in
    skipping_start (reading c.args.ends.now) (reading c.reach.new.self) (tree c.args.child.now) c.args.to c.args.steps.now c.reach.new.steps
    c.requires.sound c.requires.ahead c.requires.top e.list e.all e.rising e.location e.left e.falls e.steps

pub skip-has-requires : goal.skip-has-requires
skip-has-requires g t c κs within =
    let inv = c.ends.invariant in let p = c.place.ensures in (
      omega (arith, inv.depth),
      (
        within.0,
        (
          within.1,
          (
            inv.sound,
            (
              λ z m h. inv.ahead z m (omega (arith, p.value, h)),
              (place-positive (g.R.Reader.list c.ends.ends.inner) c.place.result p.rising p.place, p.top),
            ),
          ),
        ),
      ),
    )

pub skip-reach-requires-in-ends-clause-top : goal.skip-reach-requires-in-ends-clause-top
skip-reach-requires-in-ends-clause-top g t c =
    let tree = tree_of g.R.Reader.list g.R.Reader.all g.R.Reader.location g.R.Reader.left in
    omega (
      arith,
      c.place.ensures.value,
      c.place-in-ends.ensures.value,
      below_top (tree c.ends.child) c.place.result c.ends.invariant.sound (c.ends-test.ensures.which.0 refl),
    )

pub skip-ends-preserved : goal.skip-ends-preserved
skip-ends-preserved g t c =
    let tree = tree_of g.R.Reader.list g.R.Reader.all g.R.Reader.location g.R.Reader.left in
    let reading = reading_of g.R.Reader.list g.R.Reader.all g.R.Reader.location g.R.Reader.left in
    let e = c.reach-in-ends.ensures in let same : c.place-in-ends.result ≡ g.R.Reader.location c.ends.ends.inner = c.place-in-ends.ensures.value in
    skipping_step (reading c.args.ends.now) (reading c.ends.ends) (reading c.reach-in-ends.new.self) (tree c.args.child.now) (tree c.ends.child) (tree c.has.new.child)
    c.args.to c.args.steps.now c.ends.steps c.has.new.steps c.reach-in-ends.new.steps c.ends.invariant
    (subst (λ v. IsAsked (tree c.ends.child) (tree c.has.new.child) v true c.ends.steps c.has.new.steps) c.place.ensures.value c.ends-test.ensures)
    e.list e.all e.rising (e.location ∙ ap (λ v. first_from (g.R.Reader.list c.ends.ends.inner) (v + 1)) same) (λ l. e.falls (omega (arith, same))) e.steps

pub skip-returns : goal.skip-returns
skip-returns g t c =
    let tree = tree_of g.R.Reader.list g.R.Reader.all g.R.Reader.location g.R.Reader.left in
    let reading = reading_of g.R.Reader.list g.R.Reader.all g.R.Reader.location g.R.Reader.left in
    subst (λ v. IsSkipped (reading c.args.ends.now) (reading c.ends.ends) (tree c.args.child.now) (tree c.has.new.child) c.args.to v c.args.steps.now c.has.new.steps)
    (sym c.place-2.ensures.value)
    (skipping_end (reading c.args.ends.now) (reading c.ends.ends) (tree c.args.child.now) c.args.to c.args.steps.now c.has.new.steps (tree c.ends.child) (tree c.has.new.child)
    c.ends.steps c.ends.invariant (subst (λ v. IsAsked (tree c.ends.child) (tree c.has.new.child) v false c.ends.steps c.has.new.steps) c.place.ensures.value c.ends-test.ensures))

pub has-returns-then-end-eq-TOP : goal.has-returns-then-end-eq-TOP
has-returns-then-end-eq-TOP g t c =
    asked_top (tree_of g.R.Reader.list g.R.Reader.all g.R.Reader.location g.R.Reader.left c.args.child.now) c.args.end c.args.steps.now
    (omega (arith, c.if-end-eq-TOP.true)) c.requires.sound c.requires.ahead

pub has-returns : goal.has-returns
has-returns g t c =
    let tree = tree_of g.R.Reader.list g.R.Reader.all g.R.Reader.location g.R.Reader.left in
    asked_moved (tree c.args.child.now) (tree c.seek.new.node) c.args.end _ c.args.steps.now c.seek.new.steps
    c.requires.sound c.requires.some (omega (arith, c.if-end-eq-TOP.false, c.requires.top)) c.requires.ahead (eq_answers c.seek.result (tree_place (tree c.seek.new.node)) c.args.end c.seek.ensures.place) c.seek.ensures.moved
