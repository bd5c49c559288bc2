-- Several trees as a list of trees, and what a move of one of them keeps.
use Rattle.std.proofs.Common.{◌≡◌, ⊎_elim, ℕ, zero, suc, ◌+◌, ◌<◌, ◌≤◌, max, List, [], ◌∷◌, ◌++◌, map, length, get_or, set, refl, sym, ap, ◌∙◌, arith}
use Rattle.std.specs.Prelude.{All, Contains, sum_by}
use Rattle.std.specs.List.{concat}
use Rattle.std.proofs.Math.Seq.{map-set_same}
use Rattle.std.proofs.lemmas.List.{length-map, get_or-map}
use Rattle.std.proofs.lemmas.Bool.{cases_lt}
use Rattle.std.proofs.lemmas.List.Elements.{All-nil, All-cons, All-head, All-tail, All-set}
use Rattle.std.proofs.lemmas.List.Sums.{sum_by-cons, sum_by-set}
use Rattle.alta_codec.specs.declared.location.TheConstants.{TOP}
use Rattle.alta_codec.proofs.Places.{first_from-is, first_from-above, first_from-least}
use Rattle.alta_codec.specs.Rising.{first_from}
use Rattle.alta_docread.specs.Moves.{IsKept}
use Rattle.alta_docread.specs.Tree.{Tree, trees_of, tree_list, lists_of, tree_place, places_of, tree_all, all_in, tree_left, left_in, tree_depth, depth_in, IsAhead, AreAhead, IsSoundTree, AreSoundTrees, IsBrought, IsMoved}
use Rattle.alta_docread.specs.TreeLaws.{tree_stands}
use Rattle.alta_docread.proofs.Tops.{tree_top}

-- what holds of each list holds of what is read at each tree, and the other way round
pub of_each : {N : Type 0} {A : Type 0} (f : N → A) (P : A → Type 0) (ns : List N) → All (λ n. P (f n)) ns → All (λ a. P a) (map f ns)
of_each f P [] h = All-nil (λ a. P a)
of_each f P (n ∷ ns) h = All-cons (λ a. P a) (f n) (map f ns) (All-head (λ n. P (f n)) n ns h) (of_each f P ns (All-tail (λ n. P (f n)) n ns h))

pub at_each : {N : Type 0} {A : Type 0} (f : N → A) (P : A → Type 0) (ns : List N) → All (λ a. P a) (map f ns) → All (λ n. P (f n)) ns
at_each f P [] h = All-nil (λ n. P (f n))
at_each f P (n ∷ ns) h = All-cons (λ n. P (f n)) n ns (All-head (λ a. P a) (f n) (map f ns) h) (at_each f P ns (All-tail (λ a. P a) (f n) (map f ns) h))

module _ {N : Type 0} (tree : N → Tree) where
  pub sound_each : (ns : List N) → AreSoundTrees (trees_of (map tree ns)) → All (λ n. IsSoundTree (tree n)) ns
  sound_each [] h = All-nil (λ n. IsSoundTree (tree n))
  sound_each (n ∷ ns) (h, r) = All-cons (λ n. IsSoundTree (tree n)) n ns h (sound_each ns r)

  pub each_sound : (ns : List N) → All (λ n. IsSoundTree (tree n)) ns → AreSoundTrees (trees_of (map tree ns))
  each_sound [] h = tt
  each_sound (n ∷ ns) h = (All-head (λ n. IsSoundTree (tree n)) n ns h, each_sound ns (All-tail (λ n. IsSoundTree (tree n)) n ns h))

  pub ahead_each : (at : ℕ) (ns : List N) → AreAhead at (trees_of (map tree ns)) → All (λ n. IsAhead at (tree_list (tree n)) (tree_place (tree n))) ns
  ahead_each at [] h = All-nil (λ n. IsAhead at (tree_list (tree n)) (tree_place (tree n)))
  ahead_each at (n ∷ ns) (h, r) = All-cons (λ n. IsAhead at (tree_list (tree n)) (tree_place (tree n))) n ns h (ahead_each at ns r)

  pub each_ahead : (at : ℕ) (ns : List N) → All (λ n. IsAhead at (tree_list (tree n)) (tree_place (tree n))) ns → AreAhead at (trees_of (map tree ns))
  each_ahead at [] h = tt
  each_ahead at (n ∷ ns) h = (
    All-head (λ n. IsAhead at (tree_list (tree n)) (tree_place (tree n))) n ns h,
    each_ahead at ns (All-tail (λ n. IsAhead at (tree_list (tree n)) (tree_place (tree n))) n ns h),
  )

  pub lists_each : (ns : List N) → lists_of (trees_of (map tree ns)) ≡ map (λ n. tree_list (tree n)) ns
  lists_each [] = refl
  lists_each (n ∷ ns) = ap (λ l. tree_list (tree n) ∷ l) (lists_each ns)

  pub places_each : (ns : List N) → places_of (trees_of (map tree ns)) ≡ map (λ n. tree_place (tree n)) ns
  places_each [] = refl
  places_each (n ∷ ns) = ap (λ l. tree_place (tree n) ∷ l) (places_each ns)

  pub all_each : (ns : List N) → all_in (trees_of (map tree ns)) ≡ concat (map (λ n. tree_all (tree n)) ns)
  all_each [] = refl
  all_each (n ∷ ns) = ap (λ l. tree_all (tree n) ++ l) (all_each ns)

  pub left_each : (ns : List N) → left_in (trees_of (map tree ns)) ≡ sum_by (λ n. tree_left (tree n)) ns
  left_each [] = refl
  left_each (n ∷ ns) = omega (arith, left_each ns, sum_by-cons (λ n. tree_left (tree n)) n ns)

  -- one tree in the place of another as deep
  depth_set : (ns : List N) (k : ℕ) (x d : N) → k < length ns → tree_depth (tree x) ≡ tree_depth (tree (get_or ns k d))
      → depth_in (trees_of (map tree (set ns k x))) ≡ depth_in (trees_of (map tree ns))
  depth_set [] k x d l e = absurd (omega arith)
  depth_set (n ∷ ns) zero x d l e = ap (λ m. max m (depth_in (trees_of (map tree ns)))) e
  depth_set (n ∷ ns) (suc k) x d l e = ap (λ m. max (tree_depth (tree n)) m) (depth_set ns k x d (omega arith) e)

  pub depth_at : (ns : List N) (k : ℕ) (d : N) → k < length ns → tree_depth (tree (get_or ns k d)) ≤ depth_in (trees_of (map tree ns))
  depth_at [] k d l = absurd (omega arith)
  depth_at (n ∷ ns) zero d l = omega arith
  depth_at (n ∷ ns) (suc k) d l = omega (arith, depth_at ns k d (omega arith))

  pub kept_start : (ns : List N) (steps : ℕ) → All (λ n. IsSoundTree (tree n)) ns → IsKept tree ns ns steps steps
  kept_start ns steps s = record { sound = s; lists = refl; alls = refl; depth = refl; left = omega arith; steps = omega arith }

  pub kept_on : (os ms ns : List N) (before mid after : ℕ) → IsKept tree os ms before mid → IsKept tree ms ns mid after → IsKept tree os ns before after
  kept_on os ms ns before mid after a b =
      record {
        sound = b.sound;
        lists = b.lists ∙ a.lists;
        alls = b.alls ∙ a.alls;
        depth = b.depth ∙ a.depth;
        left = omega (arith, a.left, b.left);
        steps = omega (arith, a.steps, b.steps);
      }

  pub left_set : (ns : List N) (i : ℕ) (r d : N) → i < length ns → d ≡ get_or ns i d
      → sum_by (λ n. tree_left (tree n)) (set ns i r) + tree_left (tree d) ≡ sum_by (λ n. tree_left (tree n)) ns + tree_left (tree r)
  left_set ns i r d w e = omega (arith, sum_by-set (λ n. tree_left (tree n)) ns i r d w, ap (λ n. tree_left (tree n)) e)

  pub kept_set : (ns : List N) (i : ℕ) (r d : N) (to before after : ℕ) → i < length ns → d ≡ get_or ns i d → All (λ n. IsSoundTree (tree n)) ns
      → IsMoved (tree d) (tree r) to before after → IsKept tree ns (set ns i r) before after
  kept_set ns i r d to before after w e s m =
      record {
        sound = All-set (λ n. IsSoundTree (tree n)) ns i r m.sound s;
        lists = map-set_same (λ n. tree_list (tree n)) ns i r d (m.list ∙ ap (λ n. tree_list (tree n)) e);
        alls = map-set_same (λ n. tree_all (tree n)) ns i r d (m.all ∙ ap (λ n. tree_all (tree n)) e);
        depth = depth_set ns i r d w (m.depth ∙ ap (λ n. tree_depth (tree n)) e);
        left = omega (arith, left_set ns i r d w e, m.left);
        steps = omega (arith, left_set ns i r d w e, m.steps);
      }

  pub kept_length : (os ns : List N) (before after : ℕ) → IsKept tree os ns before after → length ns ≡ length os
  kept_length os ns before after k =
      omega (arith, ap length k.lists, length-map os (λ n. tree_list (tree n)), length-map ns (λ n. tree_list (tree n)))

-- a tree that was brought to a place stands there or behind it, and no less far than before
pub brought_on : (old new : Tree) (to : ℕ) → to ≤ TOP → IsBrought old new to → to ≤ tree_place new
brought_on old new to top b =
    ⊎_elim (λ lt. omega (arith, b.goes lt, first_from-above (tree_list old) to top)) (λ ge. omega (arith, b.stays ge, ge)) (cases_lt (tree_place old) to)

pub brought_later : (old new : Tree) (to : ℕ) → to ≤ TOP → IsBrought old new to → tree_place old ≤ tree_place new
brought_later old new to top b =
    ⊎_elim (λ lt. omega (arith, b.goes lt, first_from-above (tree_list old) to top, lt)) (λ ge. omega (arith, b.stays ge)) (cases_lt (tree_place old) to)

-- it passed no element of its list from there on
pub brought_upto : (old new : Tree) (to z : ℕ) → IsBrought old new to → Contains (tree_list old) z → tree_place old ≤ z → to ≤ z → tree_place new ≤ z
brought_upto old new to z b m low h =
    ⊎_elim (λ lt. omega (arith, b.goes lt, first_from-least (tree_list old) to z m h)) (λ ge. omega (arith, b.stays ge, low)) (cases_lt (tree_place old) to)

-- one that had passed none before stands at the first
pub brought_ahead : (old new : Tree) (to : ℕ) → IsSoundTree old → 0 < to → IsAhead to (tree_list old) (tree_place old) → IsBrought old new to
    → tree_place new ≡ first_from (tree_list old) to
brought_ahead old new to s some ahead b =
    ⊎_elim (λ lt. b.goes lt)
    (λ ge. b.stays ge ∙ first_from-is (tree_list old) to (tree_place old) (tree_stands old s (omega (arith, some, ge))) (tree_top old s) ge ahead)
    (cases_lt (tree_place old) to)

pub moved_begun : (old new : Tree) (to before after : ℕ) → IsMoved old new to before after → 0 < to → to ≤ TOP → IsSoundTree new × (0 < tree_place new)
moved_begun old new to before after m some top = (m.sound, omega (arith, brought_on old new to top m.place, some))

-- what is the same in two lists of trees is the same at each index
pub same_at : {N A : Type 0} (f : N → A) (os ns : List N) (k : ℕ) (d : N) → map f ns ≡ map f os → k < length os → f (get_or ns k d) ≡ f (get_or os k d)
same_at f os ns k d e l =
    let size : length ns ≡ length os = sym (length-map ns f) ∙ ap length e ∙ length-map os f in
    sym (get_or-map f ns k d (f d) (omega (arith, size, l))) ∙ ap (λ xs. get_or xs k (f d)) e ∙ get_or-map f os k d (f d) l
