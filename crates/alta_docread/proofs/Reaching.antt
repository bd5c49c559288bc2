-- The trees of a union, each of which goes on in turn.
use Rattle.std.proofs.Common.{◌≡◌, ◌⊎◌, ⊎_elim, inl, inr, ℕ, ◌+◌, ◌<◌, ◌≤◌, min, List, [], ◌∷◌, ◌++◌, map, length, get_or, set, take, refl, sym, subst, ap, ◌∙◌, arith}
use Rattle.std.specs.Prelude.{All, Contains, sum_by}
use Rattle.std.specs.List.{concat}
use Rattle.std.proofs.lemmas.Bool.{cases_lt}
use Rattle.std.proofs.lemmas.List.{take_more_set, take_all, map-append, get_or_default, get_or-set_same, get_or-set_other}
use Rattle.std.proofs.lemmas.List.Elements.{All-head, All-tail, All-more}
use Rattle.alta_codec.specs.declared.location.TheConstants.{TOP}
use Rattle.alta_codec.specs.Rising.{IsPlace, first_from}
use Rattle.alta_codec.proofs.Places.{first_from-above, first_from-least, first_from-place, first_from-le_top}
use Rattle.alta_compound.specs.Union.{union_of, least_of}
use Rattle.alta_compound.specs.OverReaders.{has_place}
use Rattle.alta_compound.proofs.InStep.{in_step_after, least_of-le}
use Rattle.alta_compound.proofs.Moving.{same_map}
use Rattle.alta_docread.specs.Moves.{IsKept, IsReached}
use Rattle.alta_docread.specs.Tree.{Tree, trees_of, any_of, tree_list, lists_of, tree_place, places_of, tree_left, IsAhead, AreAhead, IsStanding, IsSoundTree, IsBrought, IsMoved}
use Rattle.alta_docread.proofs.Each.{of_each, sound_each, each_sound, ahead_each, each_ahead, lists_each, places_each, all_each, left_each, kept_start, kept_on, kept_set, kept_length, left_set, brought_ahead, same_at}

least_of-push : (xs : List ℕ) (x : ℕ) → least_of (xs ++ x ∷ []) ≡ min (least_of xs) x
least_of-push [] x = omega arith
least_of-push (y ∷ ys) x = omega (arith, least_of-push ys x)

least_of-above : (xs : List ℕ) (to : ℕ) → to ≤ TOP → All (λ x. to ≤ x) xs → to ≤ least_of xs
least_of-above [] to top h = top
least_of-above (x ∷ xs) to top h = omega (arith, All-head (λ x. to ≤ x) x xs h, least_of-above xs to top (All-tail (λ x. to ≤ x) x xs h))

first_ahead : (to at : ℕ) (list : List ℕ) (place : ℕ) → place ≡ first_from list to → to ≤ at → IsAhead at list place
first_ahead to at list place e h z m le = omega (arith, e, first_from-least list to z m (omega arith))

module _ {N : Type 0} (tree : N → Tree) where
  -- the trees below index i have been brought to `to`, and `least` is their least place
  pub record IsReaching (os ns : List N) (to least i before after : ℕ) : Type 0 where
    pub kept : IsKept tree os ns before after
    pub brought : (k : ℕ) (d : N) → k < i → IsBrought (tree (get_or os k d)) (tree (get_or ns k d)) to
    pub lowest : least ≡ least_of (map (λ n. tree_place (tree n)) (take i ns))
    pub falls : 0 < least_of (map (λ n. tree_place (tree n)) os)
        → All (λ n. to ≤ tree_place (tree n)) (take i os) ⊎ (sum_by (λ n. tree_left (tree n)) ns < sum_by (λ n. tree_left (tree n)) os)

  pub reaching_start : (ns : List N) (to steps : ℕ) → All (λ n. IsSoundTree (tree n)) ns → IsReaching ns ns to TOP 0 steps steps
  reaching_start ns to steps s =
      record {
        kept = kept_start tree ns steps s;
        brought = λ k d l. absurd (omega (arith, l));
        lowest = refl;
        falls = λ _. inl (λ k d l. absurd (omega arith));
      }

  pub reaching_step : (os ns : List N) (to least i : ℕ) (r d : N) (before mid after : ℕ) → i < length ns → i < length os
      → d ≡ get_or ns i d → d ≡ get_or os i d
      → IsReaching os ns to least i before mid → IsMoved (tree d) (tree r) to mid after
      → IsReaching os (set ns i r) to (min least (tree_place (tree r))) (i + 1) before after
  reaching_step os ns to least i r d before mid after w v e o inv m =
      let place = λ (n : N). tree_place (tree n) in
      let total = left_set tree ns i r d w e in
      record {
        kept = kept_on tree os ns (set ns i r) before mid after inv.kept (kept_set tree ns i r d to mid after w e inv.kept.sound m);
        brought = λ k b l.
            ⊎_elim
            (λ lt. subst (λ n. IsBrought (tree (get_or os k b)) (tree n) to) (sym (get_or-set_other ns i k r b (λ q. omega (arith, q, lt)))) (inv.brought k b lt))
            (λ ge. let here : k ≡ i = omega (arith, ge, l) in
            let from : d ≡ get_or os k b = o ∙ get_or_default os i d b v ∙ ap (λ j. get_or os j b) (sym here) in
            let is : r ≡ get_or (set ns i r) k b = sym (get_or-set_same ns i r b w) ∙ ap (λ j. get_or (set ns i r) j b) (sym here) in
            subst (λ n. IsBrought (tree n) (tree (get_or (set ns i r) k b)) to) from (subst (λ n. IsBrought (tree d) (tree n) to) is m.place))
            (cases_lt k i);
        lowest = omega (
          arith,
          inv.lowest,
          ap (λ xs. least_of (map place xs)) (take_more_set ns i r w),
          ap least_of (map-append place (take i ns) (r ∷ [])),
          least_of-push (map place (take i ns)) (place r),
        );
        falls = λ b. ⊎_elim
            (λ passed. ⊎_elim
            (λ lt. let begun : 0 < place d = omega (arith, b, ap place o, least_of-le (map place os) (place (get_or os i d)) (has_place place os i d v)) in
            inr (omega (arith, total, m.falls begun lt, inv.kept.left)))
            (λ ge. inl (All-more (λ n. to ≤ place n) os i d v passed (omega (arith, ge, ap place o))))
            (cases_lt (place d) to))
            (λ fell. inr (omega (arith, total, m.left, fell))) (inv.falls b);
      }

  pub reaching_end : (os ns : List N) (to least i before after : ℕ) → to ≤ TOP → length ns ≤ i → length os ≤ i → IsReaching os ns to least i before after
      → IsReached tree os ns to least before after
  reaching_end os ns to least i before after top w v inv =
      let place = λ (n : N). tree_place (tree n) in
      record {
        kept = inv.kept;
        brought = λ k d l. inv.brought k d (omega (arith, l, v));
        lowest = inv.lowest ∙ ap (λ xs. least_of (map place xs)) (take_all i ns w);
        falls = λ b lt. ⊎_elim
            (λ passed. absurd (omega (arith, lt, least_of-above (map place os) to top (of_each place (λ p. to ≤ p) os (subst (λ xs. All (λ n. to ≤ place n) xs) (take_all i os v) passed)))))
            (λ fell. fell) (inv.falls b);
      }

  -- what a union that stands at `at` has after its trees were brought to `to`
  record IsRisen (os ns : List N) (to at : ℕ) : Type 0 where
    pub standing : IsStanding (union_of (map (λ n. tree_list (tree n)) ns)) (least_of (map (λ n. tree_place (tree n)) ns))
    pub ahead : All (λ n. IsAhead (least_of (map (λ n. tree_place (tree n)) ns)) (tree_list (tree n)) (tree_place (tree n))) ns
    pub goes : at < to → least_of (map (λ n. tree_place (tree n)) ns) ≡ first_from (union_of (map (λ n. tree_list (tree n)) os)) to
    pub stays : to ≤ at → least_of (map (λ n. tree_place (tree n)) ns) ≡ at

  risen_below : (os ns : List N) (to at least before after : ℕ) → 0 < to → to ≤ TOP → at < to → All (λ n. IsSoundTree (tree n)) os
      → All (λ n. IsAhead at (tree_list (tree n)) (tree_place (tree n))) os → IsReached tree os ns to least before after → IsRisen os ns to at
  risen_below os ns to at least before after some top lt s a m =
      let place = λ (n : N). tree_place (tree n) in let list = λ (n : N). tree_list (tree n) in
      let size = kept_length tree os ns before after m.kept in
      let first : All (λ n. place n ≡ first_from (list n) to) ns =
      λ k d l. let w : k < length os = omega (arith, l, size) in
      brought_ahead (tree (get_or os k d)) (tree (get_or ns k d)) to (s k d w) some (λ z h le. a k d w z h (omega (arith, le, lt))) (m.brought k d w)
      ∙ ap (λ l. first_from l to) (sym (same_at list os ns k d m.kept.lists w)) in
      let here : least_of (map place ns) ≡ first_from (union_of (map list ns)) to = (in_step_after list place ns to (least_of (map place ns)) top first refl).1 in
      let low : to ≤ least_of (map place ns) = omega (arith, here, first_from-above (union_of (map list ns)) to top) in
      record {
        standing = record {
          stands = λ _. subst (λ v. IsPlace (union_of (map list ns)) v) (sym here) (first_from-place (union_of (map list ns)) to);
          top = omega (arith, here, first_from-le_top (union_of (map list ns)) to);
        };
        ahead = λ k d l. first_ahead to (least_of (map place ns)) (list (get_or ns k d)) (place (get_or ns k d)) (first k d l) low;
        goes = λ _. here ∙ ap (λ ls. first_from (union_of ls) to) m.kept.lists;
        stays = λ ge. absurd (omega (arith, ge, lt));
      }

  risen_still : (os ns : List N) (to at least before after : ℕ) → to ≤ at → at ≡ least_of (map (λ n. tree_place (tree n)) os)
      → IsStanding (union_of (map (λ n. tree_list (tree n)) os)) at
      → All (λ n. IsAhead at (tree_list (tree n)) (tree_place (tree n))) os → IsReached tree os ns to least before after → IsRisen os ns to at
  risen_still os ns to at least before after ge is standing a m =
      let place = λ (n : N). tree_place (tree n) in let list = λ (n : N). tree_list (tree n) in
      let size = kept_length tree os ns before after m.kept in
      let stayed : (k : ℕ) (d : N) → k < length os → place (get_or ns k d) ≡ place (get_or os k d) =
      λ k d w. (m.brought k d w).stays (omega (arith, ge, is, least_of-le (map place os) (place (get_or os k d)) (has_place place os k d w))) in
      let same : map place ns ≡ map place os = same_map place ns os size stayed in
      let here : least_of (map place ns) ≡ at = ap least_of same ∙ sym is in
      record {
        standing = subst (λ v. IsStanding (union_of (map list ns)) v) (sym here) (subst (λ ls. IsStanding (union_of ls) at) (sym m.kept.lists) standing);
        ahead = λ k d l z h le. let w : k < length os = omega (arith, l, size) in
            omega (arith, stayed k d w, a k d w z (subst (λ xs. Contains xs z) (same_at list os ns k d m.kept.lists w) h) (omega (arith, le, here)));
        goes = λ lt. absurd (omega (arith, ge, lt));
        stays = λ _. here;
      }

  -- trees that were each brought to a place have moved there as their union
  pub moved_any : (os ns : List N) (to least before after : ℕ) → 0 < to → to ≤ TOP → IsSoundTree (any_of (trees_of (map tree os))) → IsReached tree os ns to least before after
      → IsMoved (any_of (trees_of (map tree os))) (any_of (trees_of (map tree ns))) to before after
  moved_any os ns to least before after some top s m =
      let place = λ (n : N). tree_place (tree n) in let list = λ (n : N). tree_list (tree n) in
      let at = least_of (places_of (trees_of (map tree os))) in
      let is : at ≡ least_of (map place os) = ap least_of (places_each tree os) in
      let now : least_of (places_of (trees_of (map tree ns))) ≡ least_of (map place ns) = ap least_of (places_each tree ns) in
      let ahead = ahead_each tree at os s.1.ahead in
      let standing : IsStanding (union_of (map list os)) at = subst (λ ls. IsStanding (union_of ls) at) (lists_each tree os) s.1.standing in
      let risen : IsRisen os ns to at =
      ⊎_elim (λ lt. risen_below os ns to at least before after some top lt (sound_each tree os s.0) ahead m)
      (λ ge. risen_still os ns to at least before after ge is standing ahead m) (cases_lt at to) in
      let lists : lists_of (trees_of (map tree ns)) ≡ lists_of (trees_of (map tree os)) = lists_each tree ns ∙ m.kept.lists ∙ sym (lists_each tree os) in
      record {
        sound = (
          each_sound tree ns m.kept.sound,
          record {
            standing = subst (λ v. IsStanding (union_of (lists_of (trees_of (map tree ns)))) v) (sym now)
                (subst (λ ls. IsStanding (union_of ls) (least_of (map place ns))) (sym (lists_each tree ns)) risen.standing);
            ahead = subst (λ v. AreAhead v (trees_of (map tree ns))) (sym now) (each_ahead tree (least_of (map place ns)) ns risen.ahead);
          },
        );
        list = ap union_of lists;
        all = all_each tree ns ∙ ap concat m.kept.alls ∙ sym (all_each tree os);
        depth = ap (λ n. 1 + n) m.kept.depth;
        one = λ o. absurd o;
        place = record {
          goes = λ lt. now ∙ risen.goes lt ∙ ap (λ ls. first_from (union_of ls) to) (sym (lists_each tree os));
          stays = λ ge. now ∙ risen.stays ge;
        };
        left = omega (arith, left_each tree ns, left_each tree os, m.kept.left);
        falls = λ b lt. omega (arith, left_each tree ns, left_each tree os, m.falls (omega (arith, is, b)) (omega (arith, is, lt)));
        steps = omega (arith, left_each tree ns, left_each tree os, m.kept.steps);
      }
