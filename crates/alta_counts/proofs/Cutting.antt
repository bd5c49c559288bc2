-- Lists of several levels that are cut where a level ends.
use Rattle.std.proofs.Common.{◌≡◌, ⊎_elim, ℕ, zero, suc, ◌+◌, ◌<◌, ◌≤◌, List, [], ◌∷◌, ◌++◌, length, get_or, take, drop, take-append-drop, refl, sym, subst, ap, ◌∙◌, arith}
use Rattle.std.specs.Prelude.{Contains}
use Rattle.std.specs.List.{concat}
use Rattle.std.proofs.lemmas.Bool.{cases_lt}
use Rattle.std.proofs.lemmas.List.{length-append, length-take-le, take-take, drop_all, drop-append-le, get_or_default}
use Rattle.std.proofs.lemmas.List.Elements.{Contains-append_cases, Contains-append_left, Contains-append_right}
use Rattle.std.proofs.lemmas.List.Folds.{concat-append}
use Rattle.alta_codec.specs.declared.location.TheConstants.{TOP}
use Rattle.alta_codec.specs.Rising.{IsRising, pred_of}
use Rattle.alta_codec.proofs.Places.{not-Contains-nil, pred_of-greatest, pred_of-place, pred_of-below_top}
use Rattle.alta_compound.specs.Unions.{RisesAbove, rising_from_above, above_from_rising}
use Rattle.alta_lead.specs.HavingLaws.{element_within}
use Rattle.alta_counts.specs.ByLevel.{window, cut_at, between, IsCleft}
use Rattle.alta_counts.proofs.Windows.{window_is}

rises-lower : (low high : ℕ) (xs : List ℕ) → low ≤ high → RisesAbove high xs → RisesAbove low xs
rises-lower low high [] h r = tt
rises-lower low high (x ∷ xs) h (a, b, r) = (omega arith, b, r)

front_above : (low : ℕ) (xs ys : List ℕ) → RisesAbove low (xs ++ ys) → RisesAbove low xs
front_above low [] ys r = tt
front_above low (x ∷ xs) ys (a, b, r) = (a, b, front_above x xs ys r)

back_above : (low : ℕ) (xs ys : List ℕ) → RisesAbove low (xs ++ ys) → RisesAbove low ys
back_above low [] ys r = r
back_above low (x ∷ xs) ys (a, b, r) = rises-lower low x ys (omega arith) (back_above x xs ys r)

pub front_rises : (xs ys : List ℕ) → IsRising (xs ++ ys) → IsRising xs
front_rises xs ys r = rising_from_above xs (front_above 0 xs ys (above_from_rising (xs ++ ys) r))

pub back_rises : (xs ys : List ℕ) → IsRising (xs ++ ys) → IsRising ys
back_rises xs ys r = rising_from_above ys (back_above 0 xs ys (above_from_rising (xs ++ ys) r))

-- ---- how many lists there are up to a place

cut_yes : (place : ℕ) (l : List ℕ) (ls : List (List ℕ)) → pred_of l TOP ≤ place → cut_at place (l ∷ ls) ≡ suc (cut_at place ls)
unfolding cut_at
cut_yes place l ls h = grind (arith, h)

cut_no : (place : ℕ) (l : List ℕ) (ls : List (List ℕ)) → place < pred_of l TOP → cut_at place (l ∷ ls) ≡ 0
unfolding cut_at
cut_no place l ls h = grind (arith, h)

cut_none : (place : ℕ) → cut_at place [] ≡ 0
unfolding cut_at
cut_none place = refl

pub cut_le : (place : ℕ) (ls : List (List ℕ)) → cut_at place ls ≤ length ls
cut_le place [] = omega (arith, cut_none place)
cut_le place (l ∷ ls) =
    ⊎_elim (λ over. omega (arith, cut_no place l ls over)) (λ under. omega (arith, cut_yes place l ls under, cut_le place ls)) (cases_lt place (pred_of l TOP))

pub cut_mono : (low high : ℕ) (ls : List (List ℕ)) → low ≤ high → cut_at low ls ≤ cut_at high ls
cut_mono low high [] h = omega (arith, cut_none low)
cut_mono low high (l ∷ ls) h =
    ⊎_elim (λ over. omega (arith, cut_no low l ls over))
    (λ under. omega (arith, cut_yes low l ls under, cut_yes high l ls (omega (arith, under, h)), cut_mono low high ls h)) (cases_lt low (pred_of l TOP))

-- all lists lie below TOP
pub cut_top : (ls : List (List ℕ)) → IsRising (concat ls) → cut_at TOP ls ≡ length ls
cut_top [] r = cut_none TOP
cut_top (l ∷ ls) r =
    omega (arith, cut_yes TOP l ls (omega (arith, pred_of-below_top l TOP (front_rises l (concat ls) r))), cut_top ls (back_rises l (concat ls) r))

-- what stands up to the place
pub front_below : (place : ℕ) (ls : List (List ℕ)) (z : ℕ) → IsRising (concat ls) → Contains (concat (take (cut_at place ls) ls)) z → z ≤ place
front_below place [] z r m = absurd (not-Contains-nil z (subst (λ n. Contains (concat (take n [])) z) (cut_none place) m))
front_below place (l ∷ ls) z r m =
    ⊎_elim
    (λ over. absurd (not-Contains-nil z (subst (λ n. Contains (concat (take n (l ∷ ls))) z) (cut_no place l ls over) m)))
    (λ under. let n : Contains (l ++ concat (take (cut_at place ls) ls)) z = subst (λ n. Contains (concat (take n (l ∷ ls))) z) (cut_yes place l ls under) m in
    ⊎_elim (λ here. omega (arith, under, pred_of-greatest l TOP z here (element_within l z (front_rises l (concat ls) r) here).1))
    (λ there. front_below place ls z (back_rises l (concat ls) r) there)
    (Contains-append_cases l (concat (take (cut_at place ls) ls)) z n))
    (cases_lt place (pred_of l TOP))

pub cleft_start : (ls : List (List ℕ)) → IsRising (concat ls) → IsCleft 0 ls
cleft_start ls r z m =
    (element_within (concat ls) z r
    (subst (λ l. Contains l z) (sym (concat-append (take (cut_at 0 ls) ls) (drop (cut_at 0 ls) ls)) ∙ ap concat (take-append-drop (cut_at 0 ls) ls))
    (Contains-append_right (concat (take (cut_at 0 ls) ls)) (concat (drop (cut_at 0 ls) ls)) z m))).0

pub cleft_top : (ls : List (List ℕ)) → IsRising (concat ls) → IsCleft TOP ls
cleft_top ls r z m =
    absurd (not-Contains-nil z (subst (λ l. Contains (concat l) z) (drop_all (cut_at TOP ls) ls (omega (arith, cut_top ls r))) m))

-- ---- what stands between two places

module _ (low high : ℕ) (ls : List (List ℕ)) (le : low ≤ high) where
  abbrev a : ℕ
  a = cut_at low ls

  abbrev b : ℕ
  b = cut_at high ls

  up_to : take b ls ≡ take a ls ++ between low high ls
  up_to =
      sym (take-append-drop a (take b ls)) ∙ ap (λ l. l ++ drop a (take b ls)) (take-take a b ls (cut_mono low high ls le))

  behind : drop a ls ≡ between low high ls ++ drop b ls
  behind =
      ap (drop a) (sym (take-append-drop b ls))
      ∙ drop-append-le a (take b ls) (drop b ls) (omega (arith, cut_mono low high ls le, cut_le high ls, length-take-le b ls (cut_le high ls)))

  joined : concat (take b ls) ≡ concat (take a ls) ++ concat (between low high ls)
  joined = ap concat up_to ∙ concat-append (take a ls) (between low high ls)

  left : concat (drop a ls) ≡ concat (between low high ls) ++ concat (drop b ls)
  left = ap concat behind ∙ concat-append (between low high ls) (drop b ls)

  all : concat ls ≡ concat (take b ls) ++ concat (drop b ls)
  all = ap concat (sym (take-append-drop b ls)) ∙ concat-append (take b ls) (drop b ls)

  -- so many lists, and so many locations
  pub between_lists : length (between low high ls) + cut_at low ls ≡ cut_at high ls
  between_lists = omega (arith, ap length up_to, length-append (take a ls) (between low high ls), length-take-le a ls (cut_le low ls), length-take-le b ls (cut_le high ls))

  pub between_size : length (concat (between low high ls)) + length (concat (take (cut_at low ls) ls)) ≡ length (concat (take (cut_at high ls) ls))
  between_size = omega (arith, ap length joined, length-append (concat (take a ls)) (concat (between low high ls)))

  pub between_less : length (concat (between low high ls)) ≤ length (concat ls)
  between_less = omega (arith, between_size, ap length all, length-append (concat (take b ls)) (concat (drop b ls)))

  module _ (rising : IsRising (concat ls)) where
    pub between_rises : IsRising (concat (between low high ls))
    between_rises =
        back_rises (concat (take a ls)) (concat (between low high ls))
        (subst IsRising joined (front_rises (concat (take b ls)) (concat (drop b ls)) (subst IsRising all rising)))

    pub between_window : IsCleft low ls → IsCleft high ls → concat (between low high ls) ≡ window low high (concat ls)
    between_window from until =
        window_is low high (concat (between low high ls)) (concat ls) between_rises rising
        (λ z m. let there : Contains (concat (take b ls)) z = subst (λ l. Contains l z) (sym joined) (Contains-append_right (concat (take a ls)) (concat (between low high ls)) z m) in (
          subst (λ l. Contains l z) (sym all) (Contains-append_left (concat (take b ls)) (concat (drop b ls)) z there),
          from z (subst (λ l. Contains l z) (sym left) (Contains-append_left (concat (between low high ls)) (concat (drop b ls)) z m)),
          front_below high ls z rising there,
        ))
        (λ z m over under.
        ⊎_elim
        (λ front. ⊎_elim (λ first. absurd (omega (arith, front_below low ls z rising first, over))) (λ here. here)
        (Contains-append_cases (concat (take a ls)) (concat (between low high ls)) z (subst (λ l. Contains l z) joined front)))
        (λ back. absurd (omega (arith, until z back, under)))
        (Contains-append_cases (concat (take b ls)) (concat (drop b ls)) z (subst (λ l. Contains l z) all m)))

-- ---- how a place to cut at is found

pub cut_is : (place : ℕ) (ls : List (List ℕ)) (at : ℕ) → at ≤ length ls → ((k : ℕ) → k < at → pred_of (get_or ls k []) TOP ≤ place)
    → (at < length ls → place < pred_of (get_or ls at []) TOP) → at ≡ cut_at place ls
cut_is place [] at within below over = omega (arith, within, cut_none place)
cut_is place (l ∷ ls) zero within below over = sym (cut_no place l ls (over (omega arith)))
cut_is place (l ∷ ls) (suc at) within below over =
    omega (
      arith,
      cut_yes place l ls (below zero (omega arith)),
      cut_is place ls at (omega (arith, within)) (λ k h. below (suc k) (omega (arith, h))) (λ h. over (omega (arith, h))),
    )

-- all have nothing above the place
pub cleft_none : (place : ℕ) (ls : List (List ℕ)) (at : ℕ) → at ≡ cut_at place ls → length ls ≤ at → IsCleft place ls
cleft_none place ls at is past z m = absurd (not-Contains-nil z (subst (λ l. Contains (concat l) z) (drop_all (cut_at place ls) ls (omega (arith, is, past))) m))

first_behind : (ls : List (List ℕ)) (at : ℕ) → 0 < get_or (get_or ls at []) 0 0 → get_or (concat (drop at ls)) 0 0 ≡ get_or (get_or ls at []) 0 0
first_behind [] at h = absurd (omega (arith, h))
first_behind ([] ∷ ls) zero h = absurd (omega (arith, h))
first_behind ((x ∷ l) ∷ ls) zero h = refl
first_behind (l ∷ ls) (suc at) h = first_behind ls at h

first_least : (place : ℕ) (xs : List ℕ) (z : ℕ) → IsRising xs → place < get_or xs 0 0 → Contains xs z → place < z
first_least place xs z r h (zero, l, e) = omega (arith, h, e, get_or_default xs 0 z 0 l)
first_least place xs z r h (suc k, l, e) = omega (arith, h, r.rising 0 (suc k) (omega arith) l, e, get_or_default xs (suc k) z 0 l)

-- the first of the others begins above it
pub cleft_here : (place : ℕ) (ls : List (List ℕ)) (at : ℕ) → at ≡ cut_at place ls → IsRising (concat ls) → place < get_or (get_or ls at []) 0 0 → IsCleft place ls
cleft_here place ls at is r over z m =
    let n : Contains (concat (drop at ls)) z = subst (λ i. Contains (concat (drop i ls)) z) (sym is) m in
    let whole : concat ls ≡ concat (take at ls) ++ concat (drop at ls) = ap concat (sym (take-append-drop at ls)) ∙ concat-append (take at ls) (drop at ls) in
    first_least place (concat (drop at ls)) z (back_rises (concat (take at ls)) (concat (drop at ls)) (subst IsRising whole r))
    (omega (arith, over, first_behind ls at (omega (arith, over)))) n

-- where a place is the end of a list that has something, it is one of its elements
pub last_in_whole : (ls : List (List ℕ)) (at : ℕ) → at < length ls → 0 < pred_of (get_or ls at []) TOP → Contains (concat ls) (pred_of (get_or ls at []) TOP)
last_in_whole [] at l h = absurd (omega (arith, l))
last_in_whole (x ∷ ls) zero l h =
    ⊎_elim (λ m. Contains-append_left x (concat ls) (pred_of x TOP) m) (λ z. absurd (omega (arith, h, z))) (pred_of-place x TOP)
last_in_whole (x ∷ ls) (suc at) l h = Contains-append_right x (concat ls) (pred_of (get_or ls at []) TOP) (last_in_whole ls at (omega (arith, l)) h)
