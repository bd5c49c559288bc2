-- What was read of a block, with its locations.
use Rattle.std.proofs.Common.{◌≡◌, ⊎_elim, ℕ, zero, suc, ◌+◌, ◌-◌, ◌<◌, List, [], ◌∷◌, ◌++◌, length, take, drop, get_or, refl, sym, subst, ap, ◌∙◌, arith, length-append}
use Rattle.std.proofs.lemmas.Bool.{cases_lt}
use Rattle.std.proofs.lemmas.List.{get_or-take}
use Rattle.alta_codec.specs.declared.location.TheConstants.{TOP}
use Rattle.alta_codec.specs.Rising.{IsRising}
use Rattle.alta_postings.specs.Deltas.{IsStep, list_from}
use Rattle.alta_postings.specs.Short.{IsReadTo, IsFilled}
use Rattle.alta_postings.proofs.Reading.{read_one, read_more}

take_more : (n : ℕ) (xs ys : List ℕ) (y : ℕ) → drop n xs ≡ y ∷ ys → take (suc n) xs ≡ take n xs ++ (y ∷ [])
take_more zero xs ys y e = ap (λ l. take 1 l) e
take_more (suc n) [] ys y e = absurd (omega (arith, ap length e))
take_more (suc n) (x ∷ xs) ys y e = ap (λ l. x ∷ l) (take_more n xs ys y e)

at_front : (xs : List ℕ) (y i : ℕ) → i < length xs → get_or (xs ++ (y ∷ [])) i 0 ≡ get_or xs i 0
at_front [] y i l = absurd (omega arith)
at_front (x ∷ xs) y zero l = refl
at_front (x ∷ xs) y (suc i) l = at_front xs y i (omega arith)

at_end : (xs : List ℕ) (y i : ℕ) → i ≡ length xs → get_or (xs ++ (y ∷ [])) i 0 ≡ y
at_end [] y i e = ap (λ j. get_or (y ∷ []) j 0) e
at_end (x ∷ xs) y i e = ap (λ j. get_or (x ∷ (xs ++ (y ∷ []))) j 0) e ∙ at_end xs y (length xs) refl

-- a list that rises, and one location more
rises_more : (xs new : List ℕ) (y : ℕ) → new ≡ xs ++ (y ∷ []) → IsRising xs → 0 < length xs → get_or xs (length xs - 1) 0 < y → y < TOP → IsRising new
rises_more xs new y e r some more low =
    let size : length new ≡ length xs + 1 = ap length e ∙ length-append xs (y ∷ []) in
    let old : (i : ℕ) → i < length xs → get_or new i 0 ≡ get_or xs i 0 = λ i l. ap (λ n. get_or n i 0) e ∙ at_front xs y i l in
    let end : (i : ℕ) → i ≡ length xs → get_or new i 0 ≡ y = λ i l. ap (λ n. get_or n i 0) e ∙ at_end xs y i l in
    let up : (i : ℕ) → i < length xs → get_or xs i 0 < y = λ i l. ⊎_elim
    (λ before. omega (arith, r.rising i (length xs - 1) before (omega arith)))
    (λ ge. let same : i ≡ length xs - 1 = omega arith in omega (arith, ap (λ j. get_or xs j 0) same))
    (cases_lt i (length xs - 1)) in
    record {
      rising = λ i j lt l. ⊎_elim
          (λ w. omega (arith, old i (omega arith), old j w, r.rising i j lt w))
          (λ ge. omega (arith, old i (omega arith), end j (omega arith), up i (omega arith)))
          (cases_lt j (length xs));
      positive = λ i l. ⊎_elim (λ w. omega (arith, old i w, r.positive i w)) (λ ge. omega (arith, end i (omega arith))) (cases_lt i (length xs));
      below = λ i l. ⊎_elim (λ w. omega (arith, old i w, r.below i w)) (λ ge. omega (arith, end i (omega arith))) (cases_lt i (length xs));
    }

pub fill_one : (s out : List ℕ) (at before y e : ℕ) → IsStep s at before y e → out ≡ y ∷ [] → IsFilled s at before y y e out
fill_one s out at before y e x is =
    let n : length out ≡ 1 = ap length is in
    record {
      read = subst (λ (k : ℕ). IsReadTo s at before y k e) (sym n) (read_one s at before y e x);
      some = omega arith;
      first_is = sym (ap (λ l. get_or l 0 0) x.list);
      filled = is ∙ sym (ap (λ l. take 1 l) x.list) ∙ ap (λ k. take k (list_from at 0 before (drop at s))) (sym n);
      rising = subst (λ l. IsRising l) (sym is) (record {
        rising = λ i j lt l. absurd (omega arith);
        positive = λ i l. let z : i ≡ 0 = omega arith in omega (arith, x.above, ap (λ j. get_or (y ∷ []) j 0) z);
        below = λ i l. let z : i ≡ 0 = omega arith in omega (arith, x.low, ap (λ j. get_or (y ∷ []) j 0) z);
      });
      above = omega (arith, x.above, ap (λ l. get_or l 0 0) is);
    }

pub fill_more : (s out new : List ℕ) (at before first last next y e : ℕ) → IsFilled s at before first last next out → IsStep s next last y e → new ≡ out ++ (y ∷ []) → IsFilled s at before first y e new
fill_more s out new at before first last next y e f x is =
    let whole = list_from at 0 before (drop at s) in
    let n : length new ≡ length out + 1 = ap length is ∙ length-append out (y ∷ []) in
    let more : length new ≡ suc (length out) = omega arith in
    let here : drop (length out) whole ≡ y ∷ list_from e 0 y (drop e s) = sym f.read.list ∙ x.list in
    let k : suc (length out - 1) ≡ length out = omega (arith, f.some) in
    let old : get_or out (length out - 1) 0 ≡ last =
    ap (λ l. get_or l (length out - 1) 0) f.filled ∙ get_or-take (length out) whole (length out - 1) 0 (omega (arith, f.some))
    ∙ ap (λ i. get_or (before ∷ whole) i 0) k ∙ sym f.read.last_is in
    record {
      read = subst (λ (k : ℕ). IsReadTo s at before y k e) (sym n) (read_more s at before last (length out) next y e f.read x);
      some = omega arith;
      first_is = f.first_is;
      filled = is ∙ ap (λ l. l ++ (y ∷ [])) f.filled ∙ sym (take_more (length out) whole (list_from e 0 y (drop e s)) y here) ∙ ap (λ k. take k whole) (sym more);
      rising = rises_more out new y is f.rising f.some (omega (arith, old, x.above)) x.low;
      above = omega (arith, f.above, ap (λ l. get_or l 0 0) is, at_front out y 0 f.some);
    }
