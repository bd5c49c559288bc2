-- The ends of a difference, which go on past those that the tree's list has.
use Rattle.std.proofs.Common.{◌≡◌, ⊎_elim, inl, inr, ℕ, ◌+◌, ◌<◌, ◌≤◌, nat_eq, Bool, true, false, List, ◌++◌, refl, sym, subst, ap, ◌∙◌, arith}
use Rattle.std.specs.Prelude.{Contains, IsTrue, ◌↔◌}
use Rattle.std.proofs.lemmas.List.{get_or_default}
use Rattle.std.proofs.lemmas.Bool.{cases_lt}
use Rattle.alta_codec.specs.declared.location.TheConstants.{TOP}
use Rattle.alta_codec.specs.Rising.{IsRising, IsPlace, first_from}
use Rattle.alta_codec.proofs.Places.{first_from-is, first_from-above, first_from-least, first_from-place, first_from-le_top, place-le_top}
use Rattle.alta_docread.specs.Kept.{less}
use Rattle.alta_docread.specs.KeptLaws.{less-has}
use Rattle.alta_docread.specs.Moves.{IsAsked, IsSkipped}
use Rattle.alta_docread.specs.Tree.{Reading, Tree, without, tree_list, tree_place, tree_all, tree_left, tree_depth, IsAhead, IsApart, IsSoundTree, IsMoved}
use Rattle.alta_docread.specs.TreeLaws.{tree_rises}
use Rattle.alta_docread.proofs.Each.{brought_ahead}

-- The ends have gone on to some end at or above `to`, and each below it from `to` on is in the tree's list.
pub record IsSkipping (r s : Reading) (old new : Tree) (to before after : ℕ) : Type 0 where
  pub sound : IsSoundTree new
  pub ends : s.list ≡ r.list
  pub list : tree_list new ≡ tree_list old
  pub ends_all : s.all ≡ r.all
  pub all : tree_all new ≡ tree_all old
  pub depth : tree_depth new ≡ tree_depth old
  pub rising : IsRising s.list
  pub place : IsPlace s.list s.place
  pub above : to ≤ s.place
  pub skipped : IsAhead to (less r.list (tree_list old)) s.place
  pub ahead : IsAhead s.place (tree_list new) (tree_place new)
  pub left : s.left + tree_left new ≤ r.left + tree_left old
  pub falls : r.place < to → s.left + tree_left new < r.left + tree_left old
  pub steps : after + (s.left + tree_left new) ≤ before + (r.left + tree_left old)

-- an element of the tree's list is below TOP
pub below_top : (t : Tree) (z : ℕ) → IsSoundTree t → Contains (tree_list t) z → z < TOP
below_top t z s (k, l, e) = omega (arith, (tree_rises t s).below k l, get_or_default (tree_list t) k z 0 l, e)

pub asked_top : (t : Tree) (end steps : ℕ) → end ≡ TOP → IsSoundTree t → IsAhead end (tree_list t) (tree_place t) → IsAsked t t end false steps steps
asked_top t end steps e s a =
    record {
      sound = s;
      list = refl;
      all = refl;
      depth = refl;
      ahead = a;
      which = (λ f. absurd cc, λ m. absurd (omega (arith, e, below_top t end s m)));
      left = omega arith;
      steps = omega arith;
    }

pub asked_moved : (old new : Tree) (end : ℕ) (answer : Bool) (before after : ℕ) → IsSoundTree old → 0 < end → end < TOP → IsAhead end (tree_list old) (tree_place old)
    → (IsTrue answer ↔ (tree_place new ≡ end)) → IsMoved old new end before after → IsAsked old new end answer before after
asked_moved old new end answer before after s some lt low w m =
    let list = tree_list old in let place = brought_ahead old new end s some low m.place in
    record {
      sound = m.sound;
      list = m.list;
      all = m.all;
      depth = m.depth;
      ahead = λ z n h. omega (arith, place, first_from-least list end z (subst (λ l. Contains l z) m.list n) h);
      which = (
        λ t. let e : first_from list end ≡ end = sym place ∙ w.0 t in
            ⊎_elim (λ n. subst (λ v. Contains list v) e n) (λ top. absurd (omega (arith, top, e, lt))) (first_from-place list end),
        λ n. w.1 (omega (arith, place, first_from-least list end end n (omega arith), first_from-above list end (omega arith))),
      );
      left = m.left;
      steps = m.steps;
    }

module _ (r s : Reading) (old : Tree) (to before after : ℕ) where
  pub skipping_start : IsSoundTree old → IsAhead to (tree_list old) (tree_place old) → to ≤ TOP
      → s.list ≡ r.list → s.all ≡ r.all → IsRising s.list → s.place ≡ first_from r.list to
      → s.left ≤ r.left → (r.place < to → s.left < r.left) → after + s.left ≤ before + r.left
      → IsSkipping r s old old to before after
  skipping_start sound ahead top list all rising place left falls steps =
      let on : to ≤ s.place = omega (arith, place, first_from-above r.list to top) in
      record {
        sound = sound;
        ends = list;
        list = refl;
        ends_all = all;
        all = refl;
        depth = refl;
        rising = rising;
        place = subst (λ l. IsPlace l s.place) (sym list) (subst (λ v. IsPlace r.list v) (sym place) (first_from-place r.list to));
        above = on;
        skipped = λ z m h. omega (arith, place, first_from-least r.list to z ((less-has r.list (tree_list old) z).0 m).0 h);
        ahead = λ z m h. ahead z m (omega (arith, on, h));
        left = omega (arith, left);
        falls = λ lt. omega (arith, falls lt);
        steps = omega (arith, steps);
      }

  pub skipping_end : (t u : Tree) (mid : ℕ) → IsSkipping r s old t to before mid → IsAsked t u s.place false mid after → IsSkipped r s old u to s.place before after
  skipping_end t u mid inv asked =
      let top : s.place ≤ TOP = place-le_top s.list s.place inv.rising inv.place in
      let place : IsPlace (less r.list (tree_list old)) s.place =
      ⊎_elim
      (λ m. inl ((less-has r.list (tree_list old) s.place).1
      (subst (λ l. Contains l s.place) inv.ends m, λ n. let f : IsTrue false = asked.which.1 (subst (λ l. Contains l s.place) (sym inv.list) n) in cc)))
      (λ e. inr e) inv.place in
      record {
        sound = asked.sound;
        ends = inv.ends;
        list = asked.list ∙ inv.list;
        ends_all = inv.ends_all;
        all = asked.all ∙ inv.all;
        depth = asked.depth ∙ inv.depth;
        rising = inv.rising;
        here = refl;
        place = first_from-is (less r.list (tree_list old)) to s.place place top inv.above inv.skipped;
        ahead = asked.ahead;
        left = omega (arith, inv.left, asked.left);
        falls = λ lt. omega (arith, inv.falls lt, asked.left);
        steps = omega (arith, inv.steps, asked.steps);
      }

-- where the ends stand at one that the tree's list has, one more end is passed over
pub skipping_step : (r s e : Reading) (old t u : Tree) (to before m n after : ℕ) → IsSkipping r s old t to before m → IsAsked t u s.place true m n
    → e.list ≡ s.list → e.all ≡ s.all → IsRising e.list → e.place ≡ first_from s.list (s.place + 1)
    → (s.place < s.place + 1 → e.left < s.left) → after + e.left ≤ n + s.left
    → IsSkipping r e old u to before after
skipping_step r s e old t u to before m n after inv asked list all rising place falls steps =
    let here : Contains (tree_list t) s.place = asked.which.0 refl in
    let lt : s.place < TOP = below_top t s.place inv.sound here in
    let on : s.place + 1 ≤ e.place = omega (arith, place, first_from-above s.list (s.place + 1) (omega (arith, lt))) in
    let fell : e.left < s.left = falls (omega arith) in
    record {
      sound = asked.sound;
      ends = list ∙ inv.ends;
      list = asked.list ∙ inv.list;
      ends_all = all ∙ inv.ends_all;
      all = asked.all ∙ inv.all;
      depth = asked.depth ∙ inv.depth;
      rising = rising;
      place = subst (λ l. IsPlace l e.place) (sym list) (subst (λ v. IsPlace s.list v) (sym place) (first_from-place s.list (s.place + 1)));
      above = omega (arith, inv.above, on);
      skipped = λ z k h.
          let d = (less-has r.list (tree_list old) z).0 k in
          let le : s.place ≤ z = inv.skipped z k h in
          ⊎_elim
          (λ l. omega (arith, place, first_from-least s.list (s.place + 1) z (subst (λ x. Contains x z) (sym inv.ends) d.0) (omega (arith, l))))
          (λ ge. let same : s.place ≡ z = omega (arith, le, ge) in
          absurd (d.1 (subst (λ x. Contains x z) inv.list (subst (λ v. Contains (tree_list t) v) same here))))
          (cases_lt s.place z);
      ahead = λ z k h. asked.ahead z k (omega (arith, on, h));
      left = omega (arith, inv.left, asked.left, fell);
      falls = λ l. omega (arith, inv.left, asked.left, fell);
      steps = omega (arith, inv.steps, asked.steps, steps);
    }

place_first : (list : List ℕ) (at : ℕ) → IsPlace list at → at ≤ TOP → at ≡ first_from list at
place_first list at p top = first_from-is list at at p top (omega arith) (λ z m h. h)

-- ends that went on have moved as their difference
pub moved_without : (r s : Reading) (old new : Tree) (at to next before after : ℕ) → at < to → IsSoundTree (without at r old) → IsSkipped r s old new to next before after
    → IsMoved (without at r old) (without next s new) to before after
moved_without r s old new at to next before after above sound m =
    let lists : less s.list (tree_list new) ≡ less r.list (tree_list old) = ap (λ l. less l (tree_list new)) m.ends ∙ ap (λ l. less r.list l) m.list in
    let stands : IsPlace (less s.list (tree_list new)) next =
    subst (λ l. IsPlace l next) (sym lists) (subst (λ v. IsPlace (less r.list (tree_list old)) v) (sym m.place) (first_from-place (less r.list (tree_list old)) to)) in
    let top : next ≤ TOP = omega (arith, m.place, first_from-le_top (less r.list (tree_list old)) to) in
    let among : IsPlace s.list next = ⊎_elim (λ n. inl ((less-has s.list (tree_list new) next).0 n).0) (λ e. inr e) stands in
    record {
      sound = (
        m.sound,
        record {
          standing = record { stands = λ _. stands; top = top };
          rising = m.rising;
          first = m.here ∙ place_first s.list next among top;
          here = λ _. m.here;
          ahead = m.ahead;
        },
      );
      list = lists;
      all = ap (λ l. l ++ tree_all new) m.ends_all ∙ ap (λ l. r.all ++ l) m.all;
      depth = ap (λ n. 1 + n) m.depth;
      one = λ o. absurd o;
      place = record { goes = λ _. m.place; stays = λ ge. absurd (omega (arith, ge, above)) };
      left = m.left;
      falls = λ b lt. m.falls (omega (arith, sound.1.here b, lt));
      steps = m.steps;
    }

-- what a difference that is sound has of its ends and its tree, from a goal above it
pub ends_ahead : (r : Reading) (t : Tree) (at to : ℕ) → at < to → IsApart r t at → IsAhead to r.list r.place
ends_ahead r t at to above a z m h = omega (arith, a.first, first_from-least r.list at z m (omega (arith, above, h)))

pub tree_ahead : (r : Reading) (t : Tree) (at to : ℕ) → at < to → IsApart r t at → IsAhead to (tree_list t) (tree_place t)
tree_ahead r t at to above a z m h = a.ahead z m (omega (arith, above, h))

pub eq_answers : (x y end : ℕ) → x ≡ y → IsTrue (nat_eq x end) ↔ (y ≡ end)
eq_answers x y end e = (λ t. grind (arith, t, e), λ f. grind (arith, e, f))
