-- What the list of several trees has, from what each tree's has.
use Rattle.std.proofs.Common.{◌≡◌, ℕ, ◌<◌, List, [], ◌∷◌, map, length, get_or, sym, subst, ap, ◌∙◌, arith}
use Rattle.std.specs.Prelude.{All, Any, Contains, ◌↔◌}
use Rattle.std.proofs.lemmas.List.{get_or-map, get_or_default, length-map}
use Rattle.std.proofs.lemmas.List.Elements.{All-head, All-tail}
use Rattle.alta_compound.proofs.Permuted.{in_union, of_union}
use Rattle.alta_docread.specs.KeptLaws.{common-has, common-keeps}
use Rattle.alta_docread.specs.Tree.{Tree, trees_of, all_of, any_of, tree_list, lists_of, IsUnmoved, AreUnmoved}
use Rattle.alta_docread.proofs.Each.{of_each, at_each, lists_each}

module _ {N : Type 0} (tree : N → Tree) where
  lists_length : (ns : List N) → length (lists_of (trees_of (map tree ns))) ≡ length ns
  lists_length ns = ap length (lists_each tree ns) ∙ length-map ns (λ n. tree_list (tree n))

  has_first : (ns : List N) (z : ℕ) → Contains (tree_list (all_of (trees_of (map tree ns)))) z → 0 < length ns
  unfolding Rattle.alta_docread.specs.Kept.common
  has_first [] z (k, l, e) = absurd (omega arith)
  has_first (n ∷ ns) z m = omega arith

  pub all_members : (ns : List N) (z : ℕ) → Contains (tree_list (all_of (trees_of (map tree ns)))) z
      ↔ ((0 < length ns) × All (λ n. Contains (tree_list (tree n)) z) ns)
  all_members ns z =
      let list = λ (n : N). tree_list (tree n) in let e = lists_each tree ns in (
        λ m. (
          has_first ns z m,
          at_each list (λ l. Contains l z) ns (subst (λ ls. All (λ l. Contains l z) ls) e (common-has (lists_of (trees_of (map tree ns))) z m)),
        ),
        λ (some, h). common-keeps (lists_of (trees_of (map tree ns))) z (omega (arith, some, lists_length ns))
            (subst (λ ls. All (λ l. Contains l z) ls) (sym e) (of_each list (λ l. Contains l z) ns h)),
      )

  at_index : (ns : List N) (k : ℕ) (z : ℕ) → k < length ns → Contains (get_or (map (λ n. tree_list (tree n)) ns) k []) z → Any (λ n. Contains (tree_list (tree n)) z) ns
  at_index [] k z l m = absurd (omega arith)
  at_index (n ∷ ns) k z l m =
      let d = get_or (n ∷ ns) k n in
      (k, d, l, get_or_default (n ∷ ns) k d n l, subst (λ x. Contains x z) (get_or-map (λ n. tree_list (tree n)) (n ∷ ns) k n [] l) m)

  pub any_members : (ns : List N) (z : ℕ) → Contains (tree_list (any_of (trees_of (map tree ns)))) z ↔ Any (λ n. Contains (tree_list (tree n)) z) ns
  any_members ns z =
      let list = λ (n : N). tree_list (tree n) in let e = lists_each tree ns in (
        λ m. let (k, l, h) = in_union (lists_of (trees_of (map tree ns))) z m in
            at_index ns k z (omega (arith, l, lists_length ns)) (subst (λ ls. Contains (get_or ls k []) z) e h),
        λ (k, x, l, is, h). of_union (lists_of (trees_of (map tree ns))) k z (omega (arith, l, lists_length ns))
            (subst (λ ls. Contains (get_or ls k []) z) (sym e) (subst (λ xs. Contains xs z) (sym (get_or-map list ns k x [] l ∙ ap list is)) h)),
      )

  each_unmoved : (ns : List N) → All (λ n. IsUnmoved (tree n)) ns → AreUnmoved (trees_of (map tree ns))
  each_unmoved [] h = tt
  each_unmoved (n ∷ ns) h = (All-head (λ n. IsUnmoved (tree n)) n ns h, each_unmoved ns (All-tail (λ n. IsUnmoved (tree n)) n ns h))

  pub any_unmoved : (ns : List N) → All (λ n. IsUnmoved (tree n)) ns → IsUnmoved (any_of (trees_of (map tree ns)))
  any_unmoved ns h = each_unmoved ns h

  pub all_unmoved : (ns : List N) → 0 < length ns → All (λ n. IsUnmoved (tree n)) ns → IsUnmoved (all_of (trees_of (map tree ns)))
  all_unmoved ns some h = (omega (arith, some, lists_length ns), each_unmoved ns h)
