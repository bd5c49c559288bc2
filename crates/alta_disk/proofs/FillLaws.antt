-- Bytes put over a range, as far as the list goes.
use Rattle.std.proofs.Common.{◌≡◌, ◌⊎◌, ⊎_elim, inl, inr, ℕ, ◌+◌, ◌-◌, ◌<◌, ◌≤◌, min, Vec, Global, List, [], ◌∷◌, ◌++◌, length, take, drop, get_or, replicate, sym, ◌∙◌, ap, subst, arith, length-append, length-drop}
use Rattle.std.proofs.lemmas.Bool.{cases_lt}
use Rattle.std.proofs.lemmas.List.{get_or_append_left, get_or-append_right, get_or-take, get_or-drop, get_or-replicate, length-take-le, length-replicate}
use Rattle.alta_disk.specs.Images.{IsPending, IsFilled}
use Rattle.alta_disk.specs.Media.{ranges_after}
use Rattle.alta_disk.specs.declared.event.Event.{Event}
use Rattle.alta_disk.specs.declared.event.Event.TheVariants.{Wrote, Tore}

-- one byte between two places of a list
module _ (byte from to : ℕ) (old : List ℕ) (ordered : from ≤ to) (inside : to ≤ length old) where
  filled : List ℕ
  filled = take from old ++ replicate (to - from) byte ++ drop to old

  front : length (take from old) ≡ from
  front = length-take-le from old (omega arith)

  middle : length (take from old ++ replicate (to - from) byte) ≡ to
  middle = omega (arith, front, length-append (take from old) (replicate (to - from) byte), length-replicate (to - from) byte)

  length-filled : length filled ≡ length old
  unfolding filled
  length-filled = omega (arith, middle, length-append (take from old ++ replicate (to - from) byte) (drop to old), length-drop to old)

  filled_below : (i : ℕ) → i < from → get_or filled i 0 ≡ get_or old i 0
  unfolding filled
  filled_below i low = get_or_append_left (take from old ++ replicate (to - from) byte) (drop to old) 0 i (omega (arith, middle))
      ∙ get_or_append_left (take from old) (replicate (to - from) byte) 0 i (omega (arith, front)) ∙ get_or-take from old i 0 low

  filled_between : (i : ℕ) → from ≤ i → i < to → get_or filled i 0 ≡ byte
  unfolding filled
  filled_between i low high = get_or_append_left (take from old ++ replicate (to - from) byte) (drop to old) 0 i (omega (arith, middle))
      ∙ get_or-append_right (take from old) (replicate (to - from) byte) from i 0 front low ∙ get_or-replicate (to - from) (i - from) byte 0 (omega arith)

  filled_above : (i : ℕ) → to ≤ i → get_or filled i 0 ≡ get_or old i 0
  unfolding filled
  filled_above i high = let split : to + (i - to) ≡ i = omega arith in
      get_or-append_right (take from old ++ replicate (to - from) byte) (drop to old) to i 0 middle high ∙ get_or-drop to old (i - to) 0 ∙ ap (λ (k : ℕ). get_or old k 0) split

-- one range more is filled
pub filled_more : (byte at n : ℕ) (ranges : List (ℕ × ℕ)) (content old new : List ℕ) → IsFilled byte ranges content old
    → new ≡ take (min at (length old)) old ++ replicate (min (at + n) (length old) - min at (length old)) byte ++ drop (min (at + n) (length old)) old
    → IsFilled byte ((at, n) ∷ ranges) content new
unfolding filled
filled_more byte at n ranges content old new so_far is = subst (λ (l : List ℕ). IsFilled byte ((at, n) ∷ ranges) content l) (sym is) more
  where
    more : IsFilled byte ((at, n) ∷ ranges) content (take (min at (length old)) old ++ replicate (min (at + n) (length old) - min at (length old)) byte ++ drop (min (at + n) (length old)) old)
    more = record {
      size = length-filled byte (min at (length old)) (min (at + n) (length old)) old (omega arith) (omega arith) ∙ so_far.size;
      filled = λ i inside pending. in_range i inside pending (cases_lt i at) (cases_lt i (at + n));
      others = λ i inside clear. out_of_range i inside clear (cases_lt i at) (cases_lt i (at + n));
    }
      where
        below : (i : ℕ) → i < length content → i < at → get_or (take (min at (length old)) old ++ replicate (min (at + n) (length old) - min at (length old)) byte ++ drop (min (at + n) (length old)) old) i 0 ≡ get_or old i 0
        below i inside low = filled_below byte (min at (length old)) (min (at + n) (length old)) old (omega arith) (omega arith) i (omega (arith, so_far.size))

        between : (i : ℕ) → i < length content → at ≤ i → i < at + n → get_or (take (min at (length old)) old ++ replicate (min (at + n) (length old) - min at (length old)) byte ++ drop (min (at + n) (length old)) old) i 0 ≡ byte
        between i inside low high = filled_between byte (min at (length old)) (min (at + n) (length old)) old (omega arith) (omega arith) i (omega arith) (omega (arith, so_far.size))

        above : (i : ℕ) → i < length content → at + n ≤ i → get_or (take (min at (length old)) old ++ replicate (min (at + n) (length old) - min at (length old)) byte ++ drop (min (at + n) (length old)) old) i 0 ≡ get_or old i 0
        above i inside high = filled_above byte (min at (length old)) (min (at + n) (length old)) old (omega arith) (omega arith) i (omega arith)

        in_range : (i : ℕ) → i < length content → IsPending ((at, n) ∷ ranges) i → (i < at) ⊎ (at ≤ i) → (i < at + n) ⊎ (at + n ≤ i)
            → get_or (take (min at (length old)) old ++ replicate (min (at + n) (length old) - min at (length old)) byte ++ drop (min (at + n) (length old)) old) i 0 ≡ byte
        in_range i inside pending (inl low) high = below i inside low ∙ so_far.filled i inside (⊎_elim (λ here. absurd (omega (arith, here.0))) (λ older. older) pending)
        in_range i inside pending (inr low) (inl high) = between i inside low high
        in_range i inside pending (inr low) (inr past) = above i inside past ∙ so_far.filled i inside (⊎_elim (λ here. absurd (omega (arith, here.1))) (λ older. older) pending)

        out_of_range : (i : ℕ) → i < length content → ¬ (IsPending ((at, n) ∷ ranges) i) → (i < at) ⊎ (at ≤ i) → (i < at + n) ⊎ (at + n ≤ i)
            → get_or (take (min at (length old)) old ++ replicate (min (at + n) (length old) - min at (length old)) byte ++ drop (min (at + n) (length old)) old) i 0 ≡ get_or content i 0
        out_of_range i inside clear (inl low) high = below i inside low ∙ so_far.others i inside (λ older. clear (inr older))
        out_of_range i inside clear (inr low) (inl high) = absurd (clear (inl (low, high)))
        out_of_range i inside clear (inr low) (inr past) = above i inside past ∙ so_far.others i inside (λ older. clear (inr older))

-- before the first range
pub filled_none : (byte : ℕ) (content image : List ℕ) → image ≡ content → IsFilled byte [] content image
filled_none byte content image same = record { size = ap length same; filled = λ i inside pending. absurd pending; others = λ i inside clear. ap (λ (l : List ℕ). get_or l i 0) same }

-- the range of a write that was done
pub wrote_filled : (byte : ℕ) (ranges : List (ℕ × ℕ)) (content image : List ℕ) (e : Event) (at n : ℕ) (v : Vec ℕ Global) → e ≡ Wrote at v → n ≡ length v.items → IsFilled byte ((at, n) ∷ ranges) content image
    → IsFilled byte (ranges_after ranges (e ∷ [])) content image
wrote_filled byte ranges content image e at n v is size filled =
    subst (λ (x : Event). IsFilled byte (ranges_after ranges (x ∷ [])) content image) (sym is) (subst (λ (k : ℕ). IsFilled byte ((at, k) ∷ ranges) content image) size filled)

-- that of a write that failed
pub tore_filled : (byte : ℕ) (ranges : List (ℕ × ℕ)) (content image : List ℕ) (e : Event) (at n : ℕ) → e ≡ Tore at n → IsFilled byte ((at, n) ∷ ranges) content image → IsFilled byte (ranges_after ranges (e ∷ [])) content image
tore_filled byte ranges content image e at n is filled = subst (λ (x : Event). IsFilled byte (ranges_after ranges (x ∷ [])) content image) (sym is) filled
