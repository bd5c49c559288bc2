-- The elements of a list above one place and up to another, and the ends of the documents there.
use Rattle.std.proofs.Common.{◌≡◌, ◌⊎◌, ⊎_elim, inl, inr, ℕ, ◌+◌, ◌<◌, ◌≤◌, List, [], ◌∷◌, map, refl, subst, ap, ◌∙◌, arith}
use Rattle.std.specs.Prelude.{Contains, All, nat_lt, nat_le}
use Rattle.std.proofs.lemmas.Bool.{cases_lt, and_parts, and_from, ltb-true, lt-ltb, leb-true, le-leb}
use Rattle.std.proofs.lemmas.List.Elements.{All-nil, All-cons, All-head, All-tail}
use Rattle.alta_codec.specs.Rising.{IsRising, pred_of, count_from}
use Rattle.alta_codec.proofs.Places.{Contains-head, Contains-tail, Contains-cases, not-Contains-nil, pred_of-place, pred_of-below, pred_of-greatest}
use Rattle.alta_compound.specs.Union.{union, union_of}
use Rattle.alta_compound.specs.Unions.{RisesAbove, rising_from_above, above_from_rising, union-rises, union-has, union-keeps}
use Rattle.alta_docread.specs.Kept.{less}
use Rattle.alta_docread.specs.KeptLaws.{filter-has, filter-keeps, filter-rises, less-has, less-rises}
use Rattle.alta_lead.specs.Followed.{ends_followed}
use Rattle.alta_lead.proofs.FollowedLaws.{followed-rises, followed-answers}
use Rattle.alta_lead.specs.Having.{HasWithin, ends_having}
use Rattle.alta_lead.specs.HavingLaws.{having-rises, having-answers}
use Rattle.alta_counts.specs.ByLevel.{is_inside, window}

-- ---- rising lists of the same elements

above_each : (low : ℕ) (ys : List ℕ) (z : ℕ) → RisesAbove low ys → Contains ys z → low < z
above_each low [] z r m = absurd (not-Contains-nil z m)
above_each low (y ∷ ys) z (a, b, r) m = ⊎_elim (λ e. omega (arith, e)) (λ n. omega (arith, above_each y ys z r n)) (Contains-cases y ys z m)

same_above : (low : ℕ) (xs ys : List ℕ) → RisesAbove low xs → RisesAbove low ys
    → ((z : ℕ) → Contains xs z → Contains ys z) → ((z : ℕ) → Contains ys z → Contains xs z) → xs ≡ ys
same_above low [] [] a b f g = refl
same_above low [] (y ∷ ys) a b f g = absurd (not-Contains-nil y (g y (Contains-head y ys)))
same_above low (x ∷ xs) [] a b f g = absurd (not-Contains-nil x (f x (Contains-head x xs)))
same_above low (x ∷ xs) (y ∷ ys) (a, t, r) (b, u, s) f g =
    let le : x ≤ y = ⊎_elim (λ e. omega (arith, e)) (λ n. omega (arith, above_each x xs y r n)) (Contains-cases x xs y (g y (Contains-head y ys))) in
    let ge : y ≤ x = ⊎_elim (λ e. omega (arith, e)) (λ n. omega (arith, above_each y ys x s n)) (Contains-cases y ys x (f x (Contains-head x xs))) in
    let e : x ≡ y = omega arith in
    let rest : xs ≡ ys = same_above y xs ys (subst (λ v. RisesAbove v xs) e r) s
    (λ z m. ⊎_elim (λ h. absurd (omega (arith, h, e, above_each x xs z r m))) (λ n. n) (Contains-cases y ys z (f z (Contains-tail x xs z m))))
    (λ z m. ⊎_elim (λ h. absurd (omega (arith, h, e, above_each y ys z s m))) (λ n. n) (Contains-cases x xs z (g z (Contains-tail y ys z m)))) in
    ap (λ v. v ∷ xs) e ∙ ap (λ l. y ∷ l) rest

pub same_rising : (xs ys : List ℕ) → IsRising xs → IsRising ys → ((z : ℕ) → Contains xs z → Contains ys z) → ((z : ℕ) → Contains ys z → Contains xs z) → xs ≡ ys
same_rising xs ys a b f g = same_above 0 xs ys (above_from_rising xs a) (above_from_rising ys b) f g

-- ---- unions of rising lists rise

two_rise : (xs ys : List ℕ) → IsRising xs → IsRising ys → IsRising (union xs ys)
two_rise xs ys r s = rising_from_above (union xs ys) (union-rises xs ys 0 (above_from_rising xs r) (above_from_rising ys s))

union_rises : (ls : List (List ℕ)) → All IsRising ls → IsRising (union_of ls)
unfolding union_of
union_rises [] r = rising_from_above [] tt
union_rises (l ∷ ls) r = two_rise l (union_of ls) (All-head IsRising l ls r) (union_rises ls (All-tail IsRising l ls r))

-- ---- what a window has

module _ (low high : ℕ) where
  pub window-has : (xs : List ℕ) (z : ℕ) → Contains (window low high xs) z → Contains xs z × (low < z) × (z ≤ high)
  window-has xs z m =
      let k = filter-has (is_inside low high) xs z m in let t = and_parts (nat_lt low z) (nat_le z high) k.1 in
      (k.0, ltb-true low z t.0, leb-true z high t.1)

  pub window-keeps : (xs : List ℕ) (z : ℕ) → Contains xs z → low < z → z ≤ high → Contains (window low high xs) z
  window-keeps xs z m a b = filter-keeps (is_inside low high) xs z m (and_from (nat_lt low z) (nat_le z high) (lt-ltb low z a) (le-leb z high b))

  pub window-rises : (xs : List ℕ) → IsRising xs → IsRising (window low high xs)
  window-rises xs r = filter-rises (is_inside low high) xs r

  -- a rising list of the elements there is the window
  pub window_is : (part xs : List ℕ) → IsRising part → IsRising xs → ((z : ℕ) → Contains part z → Contains xs z × (low < z) × (z ≤ high))
      → ((z : ℕ) → Contains xs z → low < z → z ≤ high → Contains part z) → part ≡ window low high xs
  window_is part xs p r f g =
      same_rising part (window low high xs) p (window-rises xs r)
      (λ z m. let k = f z m in window-keeps xs z k.0 k.1 k.2) (λ z m. let k = window-has xs z m in g z k.0 k.1 k.2)

  -- ---- windows of unions

  union_two : (xs ys : List ℕ) → IsRising xs → IsRising ys → union (window low high xs) (window low high ys) ≡ window low high (union xs ys)
  union_two xs ys r s =
      window_is (union (window low high xs) (window low high ys)) (union xs ys)
      (two_rise (window low high xs) (window low high ys) (window-rises xs r) (window-rises ys s)) (two_rise xs ys r s)
      (λ z m. ⊎_elim (λ n. let k = window-has xs z n in (union-keeps xs ys z (inl k.0), k.1, k.2)) (λ n. let k = window-has ys z n in (union-keeps xs ys z (inr k.0), k.1, k.2))
      (union-has (window low high xs) (window low high ys) z m))
      (λ z m a b. union-keeps (window low high xs) (window low high ys) z
      (⊎_elim (λ n. inl (window-keeps xs z n a b)) (λ n. inr (window-keeps ys z n a b)) (union-has xs ys z m)))

  pub union_window : (ls : List (List ℕ)) → All IsRising ls → union_of (map (window low high) ls) ≡ window low high (union_of ls)
  unfolding union_of
  union_window [] r = refl
  union_window (l ∷ ls) r =
      ap (union (window low high l)) (union_window ls (All-tail IsRising l ls r))
      ∙ union_two l (union_of ls) (All-head IsRising l ls r) (union_rises ls (All-tail IsRising l ls r))

  -- ---- how many of them another list does not have

  less_window : (xs gone : List ℕ) → IsRising xs → less (window low high xs) gone ≡ window low high (less xs gone)
  less_window xs gone r =
      window_is (less (window low high xs) gone) (less xs gone) (less-rises (window low high xs) gone (window-rises xs r)) (less-rises xs gone r)
      (λ z m. let k = (less-has (window low high xs) gone z).0 m in let w = window-has xs z k.0 in ((less-has xs gone z).1 (w.0, k.1), w.1, w.2))
      (λ z m a b. let k = (less-has xs gone z).0 m in (less-has (window low high xs) gone z).1 (window-keeps xs z k.0 a b, k.1))

  count_one : (x : ℕ) (xs : List ℕ) → low ≤ high
      → count_from (window low high xs) 0 + count_from xs (high + 1) ≡ count_from xs (low + 1)
      → count_from (window low high (x ∷ xs)) 0 + count_from (x ∷ xs) (high + 1) ≡ count_from (x ∷ xs) (low + 1)
  unfolding count_from
  count_one x xs le rest =
      ⊎_elim (λ below. ⊎_elim (λ over. grind (arith, rest, below, over)) (λ up. grind (arith, rest, below, up)) (cases_lt high x))
      (λ under. grind (arith, rest, under, le)) (cases_lt low x)

  count_window : (xs : List ℕ) → low ≤ high → count_from (window low high xs) 0 + count_from xs (high + 1) ≡ count_from xs (low + 1)
  unfolding count_from
  count_window [] le = refl
  count_window (x ∷ xs) le = count_one x xs le (count_window xs le)

  pub live_window : (xs gone : List ℕ) → IsRising xs → low ≤ high
      → count_from (less (window low high xs) gone) 0 + count_from (less xs gone) (high + 1) ≡ count_from (less xs gone) (low + 1)
  live_window xs gone r le =
      ap (λ l. count_from l 0 + count_from (less xs gone) (high + 1)) (less_window xs gone r) ∙ count_window (less xs gone) le

-- ---- the ends of the documents there

pub all_into : {X Y : Type 0} (P : X → Type 0) (Q : Y → Type 0) (f : X → Y) (xs : List X) → ((x : X) → P x → Q (f x)) → All P xs → All Q (map f xs)
all_into P Q f [] h a = All-nil Q
all_into P Q f (x ∷ xs) h a = All-cons Q (f x) (map f xs) (h x (All-head P x xs a)) (all_into P Q f xs h (All-tail P x xs a))

all_out : {X Y : Type 0} (P : X → Type 0) (Q : Y → Type 0) (f : X → Y) (xs : List X) → ((x : X) → Q (f x) → P x) → All Q (map f xs) → All P xs
all_out P Q f [] h a = All-nil P
all_out P Q f (x ∷ xs) h a = All-cons P x xs (h x (All-head Q (f x) (map f xs) a)) (all_out P Q f xs h (All-tail Q (f x) (map f xs) a))

module _ (ends : List ℕ) (words negated : List (List ℕ)) (low high : ℕ) (rising : IsRising ends) (starts : (low ≡ 0) ⊎ Contains ends low) where
  abbrev part : List ℕ
  part = window low high ends

  low_before : (e : ℕ) → low < e → low ≤ pred_of ends e
  low_before e l = ⊎_elim (λ z. omega (arith, z)) (λ m. pred_of-greatest ends e low m l) starts

  pred_less : (e : ℕ) → 0 < e → pred_of part e ≤ pred_of ends e
  pred_less e p =
      ⊎_elim (λ m. pred_of-greatest ends e (pred_of part e) (window-has low high ends (pred_of part e) m).0 (pred_of-below part e p))
      (λ z. omega (arith, z)) (pred_of-place part e)

  -- the end before is one of the window's, or at or below where the window starts
  pred_more : (e : ℕ) → 0 < e → e ≤ high → (pred_of ends e ≤ low) ⊎ (pred_of ends e ≤ pred_of part e)
  pred_more e p up =
      ⊎_elim
      (λ above. ⊎_elim
      (λ m. inr (pred_of-greatest part e (pred_of ends e) (window-keeps low high ends (pred_of ends e) m above (omega (arith, up, pred_of-below ends e p))) (pred_of-below ends e p)))
      (λ z. inl (omega (arith, z))) (pred_of-place ends e))
      (λ under. inl under) (cases_lt low (pred_of ends e))

  within_into : (e : ℕ) (w : List ℕ) → low < e → e ≤ high → HasWithin (pred_of ends e) e w → HasWithin (pred_of part e) e (window low high w)
  within_into e w l up (x, n, a, b) =
      (x, window-keeps low high w x n (omega (arith, low_before e l, a)) (omega (arith, b, up)), omega (arith, pred_less e (omega (arith, l)), a), b)

  within_out : (e : ℕ) (w : List ℕ) → low < e → e ≤ high → HasWithin (pred_of part e) e (window low high w) → HasWithin (pred_of ends e) e w
  within_out e w l up (x, n, a, b) =
      let k = window-has low high w x n in
      (x, k.0, ⊎_elim (λ under. omega (arith, under, k.1)) (λ more. omega (arith, more, a)) (pred_more e (omega (arith, l)) up), b)

  pub having_window : ends_having part (map (window low high) words) (map (window low high) negated) ≡ window low high (ends_having ends words negated)
  having_window =
      let here : IsRising part = window-rises low high ends rising in
      let whole = having-answers ends words negated in
      let there = having-answers part (map (window low high) words) (map (window low high) negated) in
      window_is low high (ends_having part (map (window low high) words) (map (window low high) negated)) (ends_having ends words negated)
      (having-rises part (map (window low high) words) (map (window low high) negated) here) (having-rises ends words negated rising)
      (λ z m. let a = (there z here).0 m in let k = window-has low high ends z a.is_end in (
        (whole z rising).1 (record {
          is_end = k.0;
          each = all_out (HasWithin (pred_of ends z) z) (HasWithin (pred_of part z) z) (window low high) words (λ w h. within_out z w k.1 k.2 h) a.each;
          none = all_out (λ w. HasWithin (pred_of ends z) z w → ⊥) (λ w. HasWithin (pred_of part z) z w → ⊥) (window low high) negated (λ w h n. h (within_into z w k.1 k.2 n)) a.none;
        }),
        k.1,
        k.2,
      ))
      (λ z m l up. let a = (whole z rising).0 m in
      (there z here).1 (record {
        is_end = window-keeps low high ends z a.is_end l up;
        each = all_into (HasWithin (pred_of ends z) z) (HasWithin (pred_of part z) z) (window low high) words (λ w h. within_into z w l up h) a.each;
        none = all_into (λ w. HasWithin (pred_of ends z) z w → ⊥) (λ w. HasWithin (pred_of part z) z w → ⊥) (window low high) negated (λ w h n. h (within_out z w l up n)) a.none;
      }))

  -- the first word stands before the second there where it does
  pub followed_window : (first second : List ℕ) → ends_followed part (window low high first) (window low high second) ≡ window low high (ends_followed ends first second)
  followed_window first second =
      let here : IsRising part = window-rises low high ends rising in let a = window low high first in let b = window low high second in
      window_is low high (ends_followed part a b) (ends_followed ends first second) (followed-rises part a b here) (followed-rises ends first second rising)
      (λ z m. let f = (followed-answers part a b z here).0 m in let k = window-has low high ends z f.is_end in
      let p = window-has low high first f.place f.there in let q = window-has low high second f.next f.behind in (
        (followed-answers ends first second z rising).1 (record {
          is_end = k.0;
          place = f.place;
          there = p.0;
          inside = ⊎_elim (λ under. omega (arith, under, p.1)) (λ more. omega (arith, more, f.inside)) (pred_more z (omega (arith, k.1)) k.2);
          next = f.next;
          behind = q.0;
          later = f.later;
          within = f.within;
        }),
        k.1,
        k.2,
      ))
      (λ z m l up. let f = (followed-answers ends first second z rising).0 m in
      (followed-answers part a b z here).1 (record {
        is_end = window-keeps low high ends z f.is_end l up;
        place = f.place;
        there = window-keeps low high first f.place f.there (omega (arith, low_before z l, f.inside)) (omega (arith, f.later, f.within, up));
        inside = omega (arith, pred_less z (omega (arith, l)), f.inside);
        next = f.next;
        behind = window-keeps low high second f.next f.behind (omega (arith, low_before z l, f.inside, f.later)) (omega (arith, f.within, up));
        later = f.later;
        within = f.within;
      }))
