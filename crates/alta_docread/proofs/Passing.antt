-- The trees of an intersection, which go on in turn until they stand at one place.
use Rattle.std.proofs.Common.{◌≡◌, ◌⊎◌, ⊎_elim, inl, inr, ℕ, ◌+◌, ◌<◌, ◌≤◌, min, List, [], ◌∷◌, map, length, get_or, set, take, refl, sym, subst, ap, ◌∙◌, arith}
use Rattle.std.specs.Prelude.{All, Contains, sum_by}
use Rattle.std.specs.List.{concat}
use Rattle.std.proofs.lemmas.Bool.{cases_lt}
use Rattle.std.proofs.lemmas.List.{take_more_set, take_all, get_or-map, length-map}
use Rattle.std.proofs.lemmas.List.Elements.{All-nil, All-cons, All-head, All-tail, All-push, All-more}
use Rattle.alta_codec.specs.declared.location.TheConstants.{TOP}
use Rattle.alta_codec.specs.Rising.{IsPlace, first_from}
use Rattle.alta_codec.proofs.Places.{first_from-is}
use Rattle.alta_docread.specs.Kept.{common}
use Rattle.alta_docread.specs.KeptLaws.{common-has, common-keeps}
use Rattle.alta_docread.specs.Moves.{IsKept, IsPassed, IsJoined}
use Rattle.alta_codec.specs.Lists.{greatest_of}
use Rattle.alta_docread.specs.Tree.{Tree, trees_of, all_of, tree_list, lists_of, tree_place, places_of, tree_left, IsSoundTree, IsAgreed, IsMoved}
use Rattle.alta_docread.specs.TreeLaws.{tree_stands}
use Rattle.alta_docread.proofs.Tops.{tree_top}
use Rattle.alta_docread.proofs.Each.{of_each, at_each, each_sound, lists_each, places_each, all_each, left_each, kept_start, kept_on, kept_set, kept_length, left_set, brought_on, brought_later, brought_upto}

greatest_of-le : (xs : List ℕ) (m : ℕ) → All (λ x. x ≤ m) xs → greatest_of xs ≤ m
greatest_of-le [] m h = omega arith
greatest_of-le (x ∷ xs) m h = omega (arith, All-head (λ x. x ≤ m) x xs h, greatest_of-le xs m (All-tail (λ x. x ≤ m) x xs h))

le_greatest_of : (xs : List ℕ) (m : ℕ) → greatest_of xs ≤ m → All (λ x. x ≤ m) xs
le_greatest_of [] m h = All-nil (λ x. x ≤ m)
le_greatest_of (x ∷ xs) m h = All-cons (λ x. x ≤ m) x xs (omega (arith, h)) (le_greatest_of xs m (omega (arith, h)))

greatest_of-same : (xs : List ℕ) (m : ℕ) → 0 < length xs → All (λ x. x ≡ m) xs → greatest_of xs ≡ m
greatest_of-same [] m some h = absurd (omega arith)
greatest_of-same (x ∷ xs) m some h =
    omega (
      arith,
      All-head (λ x. x ≡ m) x xs h,
      greatest_of-le xs m (λ k d l. omega (arith, All-tail (λ x. x ≡ m) x xs h k d l)),
    )

module _ {N : Type 0} (tree : N → Tree) where
  -- The trees below index i have gone on in turn: they stand from `least` to `last`, which is where the last of them
  -- stands.
  pub record IsPassing (os ns : List N) (goal least last i before after : ℕ) : Type 0 where
    pub kept : IsKept tree os ns before after
    pub above : goal ≤ least
    pub from : goal ≤ last
    pub top : last ≤ TOP
    pub order : (i ≡ 0) ⊎ (least ≤ last)
    pub lower : All (λ n. least ≤ tree_place (tree n)) (take i ns)
    pub upper : All (λ n. tree_place (tree n) ≤ last) (take i ns)
    pub later : All (λ n. tree_place (tree n) ≤ last) (take i os)
    pub ahead : (z : ℕ) → All (λ l. Contains l z) (map (λ n. tree_list (tree n)) os) → All (λ n. tree_place (tree n) ≤ z) os → goal ≤ z → last ≤ z
    pub falls : (i ≡ 0) ⊎ (All (λ n. 0 < tree_place (tree n)) os → All (λ n. tree_place (tree n) < goal) os
        → sum_by (λ n. tree_left (tree n)) ns < sum_by (λ n. tree_left (tree n)) os)

  pub passing_start : (ns : List N) (goal steps : ℕ) → goal ≤ TOP → All (λ n. IsSoundTree (tree n)) ns → IsPassing ns ns goal TOP goal 0 steps steps
  passing_start ns goal steps top s =
      record {
        kept = kept_start tree ns steps s;
        above = top;
        from = omega arith;
        top = top;
        order = inl refl;
        lower = λ k d l. absurd (omega arith);
        upper = λ k d l. absurd (omega arith);
        later = λ k d l. absurd (omega arith);
        ahead = λ z m p h. h;
        falls = inl refl;
      }

  pub passing_step : (os ns : List N) (goal least last i : ℕ) (r d : N) (before mid after : ℕ) → i < length ns → i < length os → d ≡ get_or ns i d → d ≡ get_or os i d
      → IsPassing os ns goal least last i before mid → IsMoved (tree d) (tree r) last mid after
      → IsPassing os (set ns i r) goal (min least (tree_place (tree r))) (tree_place (tree r)) (i + 1) before after
  passing_step os ns goal least last i r d before mid after w v e o inv m =
      let place = λ (n : N). tree_place (tree n) in let list = λ (n : N). tree_list (tree n) in
      let total = left_set tree ns i r d w e in
      let on : last ≤ place r = brought_on (tree d) (tree r) last inv.top m.place in
      let later : place (get_or os i d) ≤ place r = omega (arith, brought_later (tree d) (tree r) last inv.top m.place, ap place o) in
      let each : (P : N → Type 0) → All P (take i ns) → P r → All P (take (i + 1) (set ns i r)) =
      λ P h p. subst (λ xs. All P xs) (sym (take_more_set ns i r w)) (All-push P (take i ns) r h p) in
      record {
        kept = kept_on tree os ns (set ns i r) before mid after inv.kept (kept_set tree ns i r d last mid after w e inv.kept.sound m);
        above = omega (arith, inv.above, inv.from, on);
        from = omega (arith, inv.from, on);
        top = tree_top (tree r) m.sound;
        order = inr (omega arith);
        lower = each (λ n. min least (place r) ≤ place n) (λ k b l. omega (arith, inv.lower k b l)) (omega arith);
        upper = each (λ n. place n ≤ place r) (λ k b l. omega (arith, on, inv.upper k b l)) (omega arith);
        later = All-more (λ n. place n ≤ place r) os i d v (λ k b l. omega (arith, on, inv.later k b l)) later;
        ahead = λ z all low h.
            let here : Contains (list d) z =
            subst (λ l. Contains l z) (get_or-map list os i d [] v ∙ ap list (sym o)) (all i [] (omega (arith, v, length-map os list))) in
            brought_upto (tree d) (tree r) last z m.place here (omega (arith, ap place o, low i d v)) (inv.ahead z all low h);
        falls = inr (λ begun below. omega (
          arith,
          total,
          inv.kept.left,
          m.falls (omega (arith, begun i d v, ap place o)) (omega (arith, below i d v, ap place o, inv.from)),
        ));
      }

  pub passing_end : (os ns : List N) (goal least last i before after : ℕ) → 0 < length ns → length ns ≤ i → length os ≤ i
      → IsPassing os ns goal least last i before after → IsPassed tree os ns goal least last before after
  passing_end os ns goal least last i before after some w v inv =
      record {
        kept = inv.kept;
        above = inv.above;
        from = inv.from;
        top = inv.top;
        order = ⊎_elim (λ z. absurd (omega (arith, z, some, w))) (λ o. o) inv.order;
        lower = subst (λ xs. All (λ n. least ≤ tree_place (tree n)) xs) (take_all i ns w) inv.lower;
        upper = subst (λ xs. All (λ n. tree_place (tree n) ≤ last) xs) (take_all i ns w) inv.upper;
        later = subst (λ xs. All (λ n. tree_place (tree n) ≤ last) xs) (take_all i os v) inv.later;
        ahead = inv.ahead;
        falls = ⊎_elim (λ z. absurd (omega (arith, z, some, w))) (λ f. f) inv.falls;
      }

  -- passes have been made, and all trees stand and stood at or below `goal`; or none has been made
  pub record IsAgreeing (os ns : List N) (to goal before after : ℕ) : Type 0 where
    pub kept : IsKept tree os ns before after
    pub above : to ≤ goal
    pub top : goal ≤ TOP
    pub ahead : (z : ℕ) → All (λ l. Contains l z) (map (λ n. tree_list (tree n)) os) → All (λ n. tree_place (tree n) ≤ z) os → to ≤ z → goal ≤ z
    pub passed : ((ns ≡ os) × (goal ≡ to))
        ⊎ (All (λ n. tree_place (tree n) ≤ goal) ns
        × All (λ n. tree_place (tree n) ≤ goal) os
        × (All (λ n. 0 < tree_place (tree n)) os → All (λ n. tree_place (tree n) < to) os
        → sum_by (λ n. tree_left (tree n)) ns < sum_by (λ n. tree_left (tree n)) os))

  pub agreeing_start : (ns : List N) (to steps : ℕ) → to ≤ TOP → All (λ n. IsSoundTree (tree n)) ns → IsAgreeing ns ns to to steps steps
  agreeing_start ns to steps top s =
      record {
        kept = kept_start tree ns steps s;
        above = omega arith;
        top = top;
        ahead = λ z m p h. h;
        passed = inl (refl, refl);
      }

  module _ (os ms ns : List N) (to goal least last before mid after : ℕ) (a : IsAgreeing os ms to goal before mid)
      (p : IsPassed tree ms ns goal least last mid after) where
    on_ahead : (z : ℕ) → All (λ l. Contains l z) (map (λ n. tree_list (tree n)) os) → All (λ n. tree_place (tree n) ≤ z) os → to ≤ z → last ≤ z
    on_ahead z m low h =
        let on : goal ≤ z = a.ahead z m low h in
        p.ahead z (subst (λ ls. All (λ l. Contains l z) ls) (sym a.kept.lists) m)
        (⊎_elim (λ e. subst (λ xs. All (λ n. tree_place (tree n) ≤ z) xs) (sym e.0) low) (λ t k d l. omega (arith, t.0 k d l, on)) a.passed) on

    on_later : All (λ n. tree_place (tree n) ≤ last) os
    on_later =
        ⊎_elim (λ e. subst (λ xs. All (λ n. tree_place (tree n) ≤ last) xs) e.0 p.later)
        (λ t k d l. omega (arith, t.1 k d l, p.from)) a.passed

    on_falls : All (λ n. 0 < tree_place (tree n)) os → All (λ n. tree_place (tree n) < to) os
        → sum_by (λ n. tree_left (tree n)) ns < sum_by (λ n. tree_left (tree n)) os
    on_falls begun below =
        ⊎_elim
        (λ e. let fell = p.falls (subst (λ xs. All (λ n. 0 < tree_place (tree n)) xs) (sym e.0) begun)
        (subst (λ xs. All (λ n. tree_place (tree n) < goal) xs) (sym e.0) (λ k d l. omega (arith, e.1, below k d l))) in
        omega (arith, fell, a.kept.left))
        (λ t. omega (arith, t.2 begun below, p.kept.left)) a.passed

    pub agreeing_on : IsAgreeing os ns to last before after
    agreeing_on =
        record {
          kept = kept_on tree os ms ns before mid after a.kept p.kept;
          above = omega (arith, a.above, p.from);
          top = p.top;
          ahead = on_ahead;
          passed = inr (p.upper, on_later, on_falls);
        }

    -- trees that stand at one place after a pass
    pub agreed : least ≡ last → IsJoined tree os ns to last before after
    agreed e =
        record {
          kept = kept_on tree os ms ns before mid after a.kept p.kept;
          above = omega (arith, a.above, p.from);
          top = p.top;
          same = λ k d l. omega (arith, e, p.lower k d l, p.upper k d l);
          later = on_later;
          ahead = on_ahead;
          falls = on_falls;
        }

  all_here : (ns : List N) (at : ℕ) → 0 < at → at < TOP → All (λ n. IsSoundTree (tree n)) ns → All (λ n. tree_place (tree n) ≡ at) ns
      → All (λ l. Contains l at) (map (λ n. tree_list (tree n)) ns)
  all_here ns at begun lt s same =
      of_each (λ n. tree_list (tree n)) (λ l. Contains l at) ns
      (λ k d l. let t = tree (get_or ns k d) in let e : tree_place t ≡ at = same k d l in
      ⊎_elim (λ m. subst (λ v. Contains (tree_list t) v) e m) (λ top. absurd (omega (arith, top, e, lt))) (tree_stands t (s k d l) (omega (arith, e, begun))))

  -- trees that stand at one place have moved there as their intersection
  module _ (os ns : List N) (to at before after : ℕ) (some : 0 < to) (top : to ≤ TOP) (s : IsSoundTree (all_of (trees_of (map tree os))))
      (m : IsJoined tree os ns to at before after) where
    -- where the intersection stood
    abbrev stood : ℕ
    stood = greatest_of (places_of (trees_of (map tree os)))

    joined_lists : lists_of (trees_of (map tree ns)) ≡ lists_of (trees_of (map tree os))
    joined_lists = lists_each tree ns ∙ m.kept.lists ∙ sym (lists_each tree os)

    joined_many : 0 < length ns
    joined_many =
        omega (arith, s.1.some, ap length (lists_each tree os), length-map os (λ n. tree_list (tree n)), kept_length tree os ns before after m.kept)

    joined_place : IsPlace (common (lists_of (trees_of (map tree ns)))) at
    joined_place =
        let lists = map (λ n. tree_list (tree n)) ns in
        ⊎_elim
        (λ lt. inl (subst (λ ls. Contains (common ls) at) (sym (lists_each tree ns)) (common-keeps lists at (omega (arith, joined_many, length-map ns (λ n. tree_list (tree n))))
        (all_here ns at (omega (arith, m.above, some)) lt m.kept.sound m.same))))
        (λ ge. let e : at ≡ TOP = omega (arith, ge, m.top) in inr e) (cases_lt at TOP)

    joined_goes : stood < to → at ≡ first_from (common (lists_of (trees_of (map tree os)))) to
    joined_goes lt =
        let list = common (lists_of (trees_of (map tree os))) in
        first_from-is list to at (subst (λ ls. IsPlace (common ls) at) joined_lists joined_place) m.top m.above
        (λ z h le. m.ahead z (subst (λ ls. All (λ l. Contains l z) ls) (lists_each tree os) (common-has (lists_of (trees_of (map tree os))) z h))
        (at_each (λ n. tree_place (tree n)) (λ p. p ≤ z) os
        (subst (λ ps. All (λ p. p ≤ z) ps) (places_each tree os) (le_greatest_of (places_of (trees_of (map tree os))) z (omega (arith, lt, le)))))
        le)

    -- the trees stood where it stood
    joined_same : stood < TOP → All (λ n. tree_place (tree n) ≡ stood) os
    joined_same lt = at_each (λ n. tree_place (tree n)) (λ p. p ≡ stood) os (subst (λ ps. All (λ p. p ≡ stood) ps) (places_each tree os) (s.1.same lt))

    joined_stays : to ≤ stood → at ≡ stood
    joined_stays ge =
        let lists = lists_of (trees_of (map tree os)) in
        let low : stood ≤ at = greatest_of-le (places_of (trees_of (map tree os))) at
        (subst (λ ps. All (λ p. p ≤ at) ps) (sym (places_each tree os)) (of_each (λ n. tree_place (tree n)) (λ p. p ≤ at) os m.later)) in
        ⊎_elim
        (λ lt. let here : Contains (common lists) stood =
        ⊎_elim (λ h. h) (λ t. absurd (omega (arith, t, lt))) (s.1.standing.stands (omega (arith, ge, some))) in
        omega (
          arith,
          low,
          m.ahead stood (subst (λ ls. All (λ l. Contains l stood) ls) (lists_each tree os) (common-has lists stood here))
              (λ k d l. omega (arith, joined_same lt k d l)) ge,
        ))
        (λ past. omega (arith, past, m.top, low)) (cases_lt stood TOP)

    joined_at : greatest_of (places_of (trees_of (map tree ns))) ≡ at
    joined_at =
        ap greatest_of (places_each tree ns)
        ∙ greatest_of-same (map (λ n. tree_place (tree n)) ns) at (omega (arith, joined_many, length-map ns (λ n. tree_place (tree n))))
        (of_each (λ n. tree_place (tree n)) (λ p. p ≡ at) ns m.same)

    joined_agreed : IsAgreed (trees_of (map tree ns)) at
    joined_agreed =
        record {
          some = subst (λ l. 0 < length l) (sym joined_lists) s.1.some;
          standing = record { stands = λ _. joined_place; top = m.top };
          same = λ lt. subst (λ ps. All (λ p. p ≡ at) ps) (sym (places_each tree ns)) (of_each (λ n. tree_place (tree n)) (λ p. p ≡ at) ns m.same);
        }

    pub moved_all : IsMoved (all_of (trees_of (map tree os))) (all_of (trees_of (map tree ns))) to before after
    moved_all =
        record {
          sound = (each_sound tree ns m.kept.sound, subst (λ v. IsAgreed (trees_of (map tree ns)) v) (sym joined_at) joined_agreed);
          list = ap common joined_lists;
          all = all_each tree ns ∙ ap concat m.kept.alls ∙ sym (all_each tree os);
          depth = ap (λ n. 1 + n) m.kept.depth;
          one = λ o. absurd o;
          place = record { goes = λ lt. joined_at ∙ joined_goes lt; stays = λ ge. joined_at ∙ joined_stays ge };
          left = omega (arith, left_each tree ns, left_each tree os, m.kept.left);
          falls = λ b lt.
              let same = joined_same (omega (arith, lt, top)) in
              omega (arith, left_each tree ns, left_each tree os, m.falls (λ k d l. omega (arith, b, same k d l)) (λ k d l. omega (arith, lt, same k d l)));
          steps = omega (arith, left_each tree ns, left_each tree os, m.kept.steps);
        }

    pub joined_place_is : at ≡ tree_place (all_of (trees_of (map tree ns)))
    joined_place_is = sym joined_at

  -- an intersection that is sound has a tree
  pub agreed_some : (ns : List N) (at : ℕ) → IsAgreed (trees_of (map tree ns)) at → 0 < length ns
  agreed_some ns at a = omega (arith, a.some, ap length (lists_each tree ns), length-map ns (λ n. tree_list (tree n)))
