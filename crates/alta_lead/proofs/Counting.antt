-- How many elements of a list another list does not have.
use Rattle.std.proofs.Common.{◌≡◌, ⊎_elim, ℕ, ◌+◌, ◌<◌, ◌≤◌, true, false, List, [], ◌∷◌, refl, sym, subst, ◌∙◌, arith}
use Rattle.std.specs.Prelude.{Contains}
use Rattle.std.proofs.lemmas.Bool.{cases_lt}
use Rattle.alta_codec.specs.declared.location.TheConstants.{TOP}
use Rattle.alta_codec.specs.Rising.{IsRising, count_from}
use Rattle.alta_codec.proofs.Places.{Contains-cases, not-Contains-nil}
use Rattle.alta_compound.specs.Unions.{RisesAbove, above_from_rising, count_same}
use Rattle.alta_docread.specs.Kept.{has, less}
use Rattle.alta_docread.specs.KeptLaws.{true_or_false, has-Contains, Contains-has, less-has, less-rises}

above_each : (low : ℕ) (xs : List ℕ) (z : ℕ) → RisesAbove low xs → Contains xs z → low < z
above_each low [] z r m = absurd (not-Contains-nil z m)
above_each low (x ∷ xs) z (a, b, r) m =
    ⊎_elim (λ e. omega (arith, a, e)) (λ n. omega (arith, a, above_each x xs z r n)) (Contains-cases x xs z m)

-- an element is counted once
count_here : (low at : ℕ) (xs : List ℕ) → RisesAbove low xs → Contains xs at → count_from xs at ≡ 1 + count_from xs (at + 1)
unfolding count_from
count_here low at [] r m = absurd (not-Contains-nil at m)
count_here low at (x ∷ xs) (a, b, r) m =
    ⊎_elim
    (λ e. let same : count_from xs (at + 1) ≡ count_from xs at = count_same xs at (at + 1) (omega arith) (λ z n h. omega (arith, above_each x xs z r n, e)) in grind (arith, e, same))
    (λ n. let under : x < at = above_each x xs at r n in grind (arith, under, count_here x at xs r n)) (Contains-cases x xs at m)

-- from TOP on there are none
count_past : (low place : ℕ) (xs : List ℕ) → RisesAbove low xs → TOP ≤ place → count_from xs place ≡ 0
unfolding count_from
count_past low place [] r past = refl
count_past low place (x ∷ xs) (a, b, r) past = grind (arith, past, b, count_past x place xs r past)

-- a rising list has fewer elements than there are locations
count_fits : (low place : ℕ) (xs : List ℕ) → RisesAbove low xs → low ≤ TOP → count_from xs place + low ≤ TOP
unfolding count_from
count_fits low place [] r l = omega (arith, l)
count_fits low place (x ∷ xs) (a, b, r) l = grind (arith, a, b, count_fits x place xs r (omega (arith, b)))

module _ (list gone : List ℕ) where
  held : (z : ℕ) → Contains (less list gone) z → Contains list z × (Contains gone z → ⊥)
  held z m = (less-has list gone z).0 m

  rises : IsRising list → RisesAbove 0 (less list gone)
  rises rising = above_from_rising (less list gone) (less-rises list gone rising)

  -- from two places between which the list has nothing, there are as many
  pub live_same : (from place : ℕ) → from ≤ place → ((z : ℕ) → Contains list z → from ≤ z → place ≤ z) → count_from (less list gone) place ≡ count_from (less list gone) from
  live_same from place le gap = count_same (less list gone) from place le (λ z m h. gap z (held z m).0 h)

  -- behind a deleted end there are as many, and behind another one fewer
  pub live_dead : (at : ℕ) → Contains gone at → count_from (less list gone) (at + 1) ≡ count_from (less list gone) at
  live_dead at m =
      count_same (less list gone) at (at + 1) (omega arith)
      (λ z n h. ⊎_elim (λ l. omega (arith, l)) (λ le. let e : at ≡ z = omega arith in absurd ((held z n).1 (subst (Contains gone) e m))) (cases_lt at z))

  pub live_one : (at : ℕ) → IsRising list → Contains list at → (Contains gone at → ⊥) → count_from (less list gone) at ≡ 1 + count_from (less list gone) (at + 1)
  live_one at rising m live = count_here 0 at (less list gone) (rises rising) ((less-has list gone at).1 (m, live))

  -- past the last there are none
  pub live_past : (place : ℕ) → IsRising list → TOP ≤ place → count_from (less list gone) place ≡ 0
  live_past place rising past = count_past 0 place (less list gone) (rises rising) past

  pub live_fits : (place : ℕ) → IsRising list → count_from (less list gone) place ≤ TOP
  live_fits place rising = omega (arith, count_fits 0 place (less list gone) (rises rising) (omega arith))

  -- What was counted of a document, 1 or 0: up to its end there is no other element.
  pub live_over : (from end more : ℕ) → IsRising list → from ≤ end → ((z : ℕ) → Contains list z → from ≤ z → end ≤ z)
      → (Contains list end → (Contains gone end → ⊥) → more ≡ 1) → ((Contains list end → ⊥) → more ≡ 0) → (Contains gone end → more ≡ 0)
      → more + count_from (less list gone) (end + 1) ≡ count_from (less list gone) from
  live_over from end more rising le gap one none dead =
      let here = live_same from end le gap in
      ⊎_elim
      (λ yes. let m = has-Contains gone end yes in omega (arith, here, live_dead end m, dead m))
      (λ no. let live : Contains gone end → ⊥ = λ m. let c : true ≡ false = sym (Contains-has gone end m) ∙ no in cc in
      ⊎_elim
      (λ there. let m = has-Contains list end there in omega (arith, here, live_one end rising m live, one m live))
      (λ away. let out : Contains list end → ⊥ = λ m. let c : true ≡ false = sym (Contains-has list end m) ∙ away in cc in
      omega (
        arith,
        here,
        none out,
        live_same end (end + 1) (omega arith) (λ z m h. ⊎_elim (λ l. omega (arith, l)) (λ ge. let e : z ≡ end = omega arith in absurd (out (subst (Contains list) e m))) (cases_lt end z)),
      ))
      (true_or_false (has list end)))
      (true_or_false (has gone end))
