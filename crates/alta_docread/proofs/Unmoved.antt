-- A tree whose readers were not moved is sound, and stands nowhere, or at TOP where it reads nothing.
use Rattle.std.proofs.Common.{◌≡◌, ◌⊎◌, ⊎_elim, inl, inr, ℕ, ◌<◌, List, [], ◌∷◌, map, length, get_or, refl, sym, subst, ap, ◌∙◌, arith}
use Rattle.std.specs.Prelude.{All, Contains, slice_index}
use Rattle.std.proofs.lemmas.List.{get_or-map, length-map}
use Rattle.std.proofs.lemmas.List.Elements.{All-nil, All-cons, All-head, All-tail}
use Rattle.alta_codec.specs.declared.location.TheConstants.{TOP}
use Rattle.alta_codec.specs.Rising.{first_from}
use Rattle.alta_compound.proofs.Permuted.{in_union}
use Rattle.alta_compound.specs.Union.{union_of, least_of}
use Rattle.alta_codec.specs.Inequality.{Inequality}
use Rattle.alta_solver.specs.Solution.{list_at}
use Rattle.alta_solver.proofs.Raised.{first_from-le_place}
use Rattle.alta_docread.specs.Kept.{less, common}
use Rattle.alta_docread.specs.KeptLaws.{common-has}
use Rattle.alta_docread.specs.Solutions.{IsWalking}
use Rattle.alta_codec.specs.Lists.{greatest_of}
use Rattle.alta_docread.specs.Tree.{Tree, Trees, found, all_of, any_of, without, none, more, tree_list, lists_of, tree_place, places_of, IsAhead, AreAhead, IsStanding, IsSoundTree, AreSoundTrees, IsUnmoved, AreUnmoved}

-- no solution lies below the first places
walking_first : (lists : List (List ℕ)) (bounds : List Inequality) (places : List ℕ) (at : ℕ) → at ≡ 0 → places ≡ map (λ l. first_from l 0) lists
    → IsWalking lists bounds places at
walking_first lists bounds places at z e =
    record {
      ahead = λ x s h i l.
          let within : i < length lists = omega (arith, l, ap length e, length-map lists (λ l. first_from l 0)) in
          let is : get_or places i 0 ≡ first_from (list_at lists i) 0 = ap (λ ps. get_or ps i 0) e ∙ get_or-map (λ l. first_from l 0) lists i [] 0 within in
          omega (arith, is, first_from-le_place (list_at lists i) 0 (slice_index x i) (s.places i within) (omega arith));
      stands = λ b. absurd (omega (arith, b, z));
    }

-- a place before the first move: nowhere, or TOP where there is no element
abbrev pub IsNowhere : ℕ → List ℕ → Type 0
IsNowhere place list = (place ≡ 0) ⊎ ((place ≡ TOP) × ((z : ℕ) → Contains list z → ⊥))

standing_nowhere : (list : List ℕ) (at : ℕ) → IsNowhere at list → IsStanding list at
standing_nowhere list at n =
    record {
      stands = λ b. ⊎_elim (λ z. absurd (omega (arith, b, z))) (λ t. inr t.0) n;
      top = ⊎_elim (λ z. omega (arith, z)) (λ t. omega (arith, t.0)) n;
    }

pub ahead_nowhere : (at : ℕ) (list : List ℕ) (place : ℕ) → IsNowhere place list → IsAhead at list place
ahead_nowhere at list place n z m h = ⊎_elim (λ e. omega (arith, e)) (λ t. absurd (t.1 z m)) n

mutual
  pub unmoved_sound : (t : Tree) → IsUnmoved t → IsSoundTree t × IsNowhere (tree_place t) (tree_list t)
  unmoved_sound (found w) (z, e, some, r, held) = (
    record {
      walking = walking_first w.lists w.bounds w.places w.at z e;
      some = some;
      rising = r;
      held = held;
      top = omega (arith, z);
      unpassed = λ b. absurd (omega (arith, b, z));
    },
    inl z,
  )
  unmoved_sound (all_of ts) (some, u) =
      let n = all_nowhere ts u in
      let nowhere : IsNowhere (greatest_of (places_of ts)) (common (lists_of ts)) =
      ⊎_elim (λ z. inl z.0) (λ t. inr (t.0, λ z m. t.1 z (common-has (lists_of ts) z m))) n in (
        (
          unmoved_each ts u,
          record {
            some = some;
            standing = standing_nowhere (common (lists_of ts)) (greatest_of (places_of ts)) nowhere;
            same = λ lt. ⊎_elim (λ z. subst (λ v. All (λ p. p ≡ v) (places_of ts)) (sym z.0) z.1) (λ t. absurd (omega (arith, lt, t.0))) n;
          },
        ),
        nowhere,
      )
  unmoved_sound (any_of ts) u =
      let nowhere : IsNowhere (least_of (places_of ts)) (union_of (lists_of ts)) =
      ⊎_elim (λ z. inl z)
      (λ t. inr (t.0, λ z m. let (k, l, h) = in_union (lists_of ts) z m in t.1 k [] l z h)) (any_nowhere ts u) in (
        (
          unmoved_each ts u,
          record {
            standing = standing_nowhere (union_of (lists_of ts)) (least_of (places_of ts)) nowhere;
            ahead = unmoved_ahead (least_of (places_of ts)) ts u;
          },
        ),
        nowhere,
      )
  unmoved_sound (without at r t) (z, u, first, rising) = (
    (
      (unmoved_sound t u).0,
      record {
        standing = standing_nowhere (less r.list (tree_list t)) at (inl z);
        rising = rising;
        first = subst (λ v. r.place ≡ first_from r.list v) (sym z) first;
        here = λ b. absurd (omega (arith, b, z));
        ahead = ahead_nowhere at (tree_list t) (tree_place t) (unmoved_sound t u).1;
      },
    ),
    inl z,
  )

  unmoved_each : (ts : Trees) → AreUnmoved ts → AreSoundTrees ts
  unmoved_each none u = tt
  unmoved_each (more t ts) (u, us) = ((unmoved_sound t u).0, unmoved_each ts us)

  -- all stand nowhere, or one stands at TOP and has no element
  all_nowhere : (ts : Trees) → AreUnmoved ts
      → ((greatest_of (places_of ts) ≡ 0) × All (λ p. p ≡ 0) (places_of ts))
      ⊎ ((greatest_of (places_of ts) ≡ TOP) × ((z : ℕ) → All (λ l. Contains l z) (lists_of ts) → ⊥))
  all_nowhere none u = inl (refl, All-nil (λ p. p ≡ 0))
  all_nowhere (more t ts) (u, us) =
      ⊎_elim
      (λ here. ⊎_elim
      (λ rest. inl (omega (arith, here, rest.0), All-cons (λ p. p ≡ 0) (tree_place t) (places_of ts) here rest.1))
      (λ rest. inr (omega (arith, here, rest.0), λ z m. rest.1 z (All-tail (λ l. Contains l z) (tree_list t) (lists_of ts) m)))
      (all_nowhere ts us))
      (λ here. inr (
        ⊎_elim (λ rest. omega (arith, here.0, rest.0)) (λ rest. omega (arith, here.0, rest.0)) (all_nowhere ts us),
        λ z m. here.1 z (All-head (λ l. Contains l z) (tree_list t) (lists_of ts) m),
      ))
      (unmoved_sound t u).1

  -- one stands nowhere, or all stand at TOP and have no element
  any_nowhere : (ts : Trees) → AreUnmoved ts
      → (least_of (places_of ts) ≡ 0) ⊎ ((least_of (places_of ts) ≡ TOP) × All (λ l. (z : ℕ) → Contains l z → ⊥) (lists_of ts))
  any_nowhere none u = inr (refl, All-nil (λ l. (z : ℕ) → Contains l z → ⊥))
  any_nowhere (more t ts) (u, us) =
      ⊎_elim
      (λ here. inl (omega (arith, here)))
      (λ here. ⊎_elim
      (λ rest. inl (omega (arith, rest)))
      (λ rest. inr (omega (arith, here.0, rest.0), All-cons (λ l. (z : ℕ) → Contains l z → ⊥) (tree_list t) (lists_of ts) here.1 rest.1))
      (any_nowhere ts us))
      (unmoved_sound t u).1

  unmoved_ahead : (at : ℕ) (ts : Trees) → AreUnmoved ts → AreAhead at ts
  unmoved_ahead at none u = tt
  unmoved_ahead at (more t ts) (u, us) = (ahead_nowhere at (tree_list t) (tree_place t) (unmoved_sound t u).1, unmoved_ahead at ts us)

-- readers that each stand at their first element
pub places_first : {R : Type 0} (list : R → List ℕ) (location : R → ℕ) (rs : List R) → All (λ r. location r ≡ first_from (list r) 0) rs
    → map location rs ≡ map (λ l. first_from l 0) (map list rs)
places_first list location [] h = refl
places_first list location (r ∷ rs) h =
    ap (λ x. x ∷ map location rs) (All-head (λ r. location r ≡ first_from (list r) 0) r rs h)
    ∙ ap (λ l. first_from (list r) 0 ∷ l) (places_first list location rs (All-tail (λ r. location r ≡ first_from (list r) 0) r rs h))
