-- Laws of the ends of the documents that have each word and none of the negated words.
use Rattle.std.proofs.Common.{◌≡◌, ⊎_elim, ℕ, ◌+◌, ◌<◌, ◌≤◌, Bool, true, false, ◌&&◌, not, List, [], ◌∷◌, refl, sym, ◌∙◌, ap, arith}
use Rattle.std.specs.Prelude.{◌↔◌, All, Contains, nat_le}
use Rattle.std.proofs.lemmas.List.Elements.{All-nil, All-cons, All-head, All-tail}
use Rattle.alta_codec.specs.declared.location.TheConstants.{TOP}
use Rattle.alta_codec.specs.Rising.{IsRising, first_from, pred_of}
use Rattle.alta_codec.proofs.ByIndex.{element}
use Rattle.alta_codec.proofs.Places.{first_from-above, first_from-least, first_from-place, pred_of-below}
use Rattle.alta_docread.specs.KeptLaws.{true_or_false, filter-has, filter-keeps, filter-rises}
use Rattle.alta_lead.specs.Having.{HasWithin, IsAnswer, has_within, each_within, none_within, is_answer, ends_having}

-- an element lies from 1 to below TOP
pub element_within : (xs : List ℕ) (z : ℕ) → IsRising xs → Contains xs z → (0 < z) × (z < TOP)
element_within xs z r m =
    let (k, l, e) = element xs z m in (omega (arith, r.positive k l, e), omega (arith, r.below k l, e))

pub having-rises : (ends : List ℕ) (words negated : List (List ℕ)) → IsRising ends
    → IsRising (ends_having ends words negated)
unfolding ends_having
having-rises ends words negated r = filter-rises (is_answer ends words negated) ends r

le_true : (x y : ℕ) → nat_le x y ≡ true → x ≤ y
le_true x y h = grind (arith, h)

true_le : (x y : ℕ) → x ≤ y → nat_le x y ≡ true
true_le x y h = grind (arith, h)

-- the first element above a place is at most a place, where one is
pub first_within : (low high : ℕ) (xs : List ℕ) → low < high → high < TOP → first_from xs (low + 1) ≤ high
    → HasWithin low high xs
first_within low high xs l t h = (
  first_from xs (low + 1),
  ⊎_elim (λ m. m) (λ e. absurd (omega (arith, e, h))) (first_from-place xs (low + 1)),
  omega (arith, first_from-above xs (low + 1) (omega arith)),
  h,
)

pub within_first : (low high : ℕ) (xs : List ℕ) → HasWithin low high xs → first_from xs (low + 1) ≤ high
within_first low high xs (x, m, l, u) = omega (arith, first_from-least xs (low + 1) x m (omega arith))

has-HasWithin : (low high : ℕ) (xs : List ℕ) → low < high → high < TOP → has_within low high xs ≡ true
    → HasWithin low high xs
has-HasWithin low high xs l t h = first_within low high xs l t (le_true (first_from xs (low + 1)) high h)

HasWithin-has : (low high : ℕ) (xs : List ℕ) → HasWithin low high xs → has_within low high xs ≡ true
HasWithin-has low high xs h = true_le (first_from xs (low + 1)) high (within_first low high xs h)

both_left : (a b : Bool) → a && b ≡ true → a ≡ true
both_left true b h = refl
both_left false b h = absurd cc

both_right : (a b : Bool) → a && b ≡ true → b ≡ true
both_right true b h = h
both_right false b h = absurd cc

both : (a b : Bool) → a ≡ true → b ≡ true → a && b ≡ true
both true b h k = k
both false b h k = absurd cc

each-All : (low high : ℕ) (ws : List (List ℕ)) → low < high → high < TOP → each_within low high ws ≡ true
    → All (HasWithin low high) ws
unfolding each_within
each-All low high [] l t h = All-nil (HasWithin low high)
each-All low high (w ∷ ws) l t h =
    All-cons (HasWithin low high) w ws (has-HasWithin low high w l t
    (both_left (has_within low high w) (each_within low high ws) h))
    (each-All low high ws l t (both_right (has_within low high w) (each_within low high ws) h))

All-each : (low high : ℕ) (ws : List (List ℕ)) → All (HasWithin low high) ws → each_within low high ws ≡ true
unfolding each_within
All-each low high [] a = refl
All-each low high (w ∷ ws) a =
    both (has_within low high w) (each_within low high ws)
    (HasWithin-has low high w (All-head (HasWithin low high) w ws a))
    (All-each low high ws (All-tail (HasWithin low high) w ws a))

none-All : (low high : ℕ) (ws : List (List ℕ)) → none_within low high ws ≡ true → All (λ w. HasWithin low high w → ⊥) ws
unfolding none_within
none-All low high [] h = All-nil (λ w. HasWithin low high w → ⊥)
none-All low high (w ∷ ws) h =
    All-cons (λ w. HasWithin low high w → ⊥) w ws
    (λ m. let yes : has_within low high w ≡ true = HasWithin-has low high w m in
    let no : not (has_within low high w) ≡ true = both_left (not (has_within low high w)) (none_within low high ws) h in
    let c : false ≡ true = sym (ap not yes) ∙ no in cc)
    (none-All low high ws (both_right (not (has_within low high w)) (none_within low high ws) h))

All-none : (low high : ℕ) (ws : List (List ℕ)) → low < high → high < TOP → All (λ w. HasWithin low high w → ⊥) ws
    → none_within low high ws ≡ true
unfolding none_within
All-none low high [] l t a = refl
All-none low high (w ∷ ws) l t a =
    both (not (has_within low high w)) (none_within low high ws)
    (⊎_elim (λ yes. absurd (All-head (λ w. HasWithin low high w → ⊥) w ws a (has-HasWithin low high w l t yes)))
    (λ no. ap not no)
    (true_or_false (has_within low high w)))
    (All-none low high ws l t (All-tail (λ w. HasWithin low high w → ⊥) w ws a))

-- what the list has is what the words say of each end
pub having-answers : (ends : List ℕ) (words negated : List (List ℕ)) (e : ℕ) → IsRising ends
    → Contains (ends_having ends words negated) e ↔ IsAnswer ends words negated e
unfolding ends_having
having-answers ends words negated e r = (
  λ m. let k = filter-has (is_answer ends words negated) ends e m in
      let low = pred_of ends e in let b = element_within ends e r k.0 in let l : low < e = pred_of-below ends e b.0 in
      record {
        is_end = k.0;
        each = each-All low e words l b.1 (both_left (each_within low e words) (none_within low e negated) k.1);
        none = none-All low e negated (both_right (each_within low e words) (none_within low e negated) k.1);
      },
  λ a. let low = pred_of ends e in let b = element_within ends e r a.is_end
      in let l : low < e = pred_of-below ends e b.0 in
      filter-keeps (is_answer ends words negated) ends e a.is_end
      (both (each_within low e words) (none_within low e negated) (All-each low e words a.each)
      (All-none low e negated l b.1 a.none)),
)
