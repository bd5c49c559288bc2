-- The images of a disk in memory, as a chain of torn writes and byte by byte.
use Rattle.std.proofs.Common.{◌≡◌, ◌⊎◌, ⊎_elim, inl, inr, ℕ, zero, suc, ◌+◌, ◌-◌, ◌<◌, ◌≤◌, max, min, true, List, [], ◌∷◌, length, take, drop, get_or, refl, sym, ◌∙◌, ap, subst, arith, length-drop}
use Rattle.std.specs.Prelude.{if◌then◌else◌, ◌&&◌, nat_le, nat_lt}
use Rattle.std.proofs.lemmas.Bool.{cases_lt, and_parts}
use Rattle.std.proofs.lemmas.Bool.Decides.{nat_tests}
use Rattle.std.proofs.lemmas.List.{ext_get_or, get_or-take, get_or-drop, length-take}
use Rattle.alta_codec.specs.Bytes.{AreBytes}
use Rattle.alta_codec.proofs.ByteLaws.{AreBytes-within}
use Rattle.alta_disk.specs.Disk.{Torn}
use Rattle.alta_disk.specs.MediaLaws.{begins, image_after, firm_after}
use Rattle.alta_disk.specs.Writes.{length-holds}
use Rattle.alta_disk.specs.Media.{Media, start, put, step, after, begins_inside, is_sound, IsImage, MayLeave}
use Rattle.alta_disk.specs.Images.{end_of, IsPending, IsLeft, IsFilled}
use Rattle.alta_disk.specs.declared.event.Event.{Event}
use Rattle.alta_disk.specs.declared.event.Event.TheVariants.{Wrote, Tore, Synced}

torn_below : (at n i : ℕ) (old new : List ℕ) → Torn at n old new → i < at → get_or new i 0 ≡ get_or old i 0
torn_below at n i old new torn below = sym (get_or-take at new i 0 below) ∙ ap (λ (l : List ℕ). get_or l i 0) torn.before ∙ get_or-take at old i 0 below

torn_above : (at n i : ℕ) (old new : List ℕ) → Torn at n old new → at + n ≤ i → get_or new i 0 ≡ get_or old i 0
torn_above at n i old new torn above =
    let split : (at + n) + (i - (at + n)) ≡ i = omega arith in
    ap (λ (k : ℕ). get_or new k 0) (sym split) ∙ sym (get_or-drop (at + n) new (i - (at + n)) 0) ∙ ap (λ (l : List ℕ). get_or l (i - (at + n)) 0) torn.after
    ∙ get_or-drop (at + n) old (i - (at + n)) 0 ∙ ap (λ (k : ℕ). get_or old k 0) split

-- each image of the chain is left, said byte by byte
pub image_left : (firm : List ℕ) (pending : List (ℕ × ℕ)) (c : List ℕ) → AreBytes firm → IsImage firm pending c → IsLeft firm pending c
image_left firm [] c fits same = subst (λ (l : List ℕ). IsLeft firm [] l) (sym same) (record { outside = λ i inside clear. refl; no_shorter = omega arith; no_longer = omega arith; bytes = fits })
image_left firm (range ∷ ranges) c fits (d, older, (torn, bytes)) =
    let left = image_left firm ranges d fits older in
    record {
      outside = λ i inside clear. ⊎_elim (λ low. torn_below range.0 range.1 i d c torn low) (λ high. ⊎_elim (λ in_range. absurd (clear (inl (high, in_range)))) (λ past. torn_above range.0 range.1 i d c torn past) (cases_lt i (range.0 + range.1))) (cases_lt i range.0)
          ∙ left.outside i inside (λ older_range. clear (inr older_range));
      no_shorter = omega (arith, left.no_shorter, torn.no_shorter);
      no_longer = omega (arith, left.no_longer, torn.no_longer);
      bytes = bytes;
    }

-- the first n values of a function
tabulate : ℕ → (ℕ → ℕ) → List ℕ
tabulate zero f = []
tabulate (suc n) f = f zero ∷ tabulate n (λ i. f (suc i))

length-tabulate : (n : ℕ) (f : ℕ → ℕ) → length (tabulate n f) ≡ n
unfolding tabulate
length-tabulate zero f = refl
length-tabulate (suc n) f = ap suc (length-tabulate n (λ i. f (suc i)))

get_or-tabulate : (n : ℕ) (f : ℕ → ℕ) (i : ℕ) → i < n → get_or (tabulate n f) i 0 ≡ f i
unfolding tabulate
get_or-tabulate zero f i inside = absurd (omega arith)
get_or-tabulate (suc n) f zero inside = refl
get_or-tabulate (suc n) f (suc i) inside = get_or-tabulate n (λ k. f (suc k)) i (omega arith)

-- The image before the newest range was torn: in that range the firm bytes.
module _ (firm : List ℕ) (at n : ℕ) (c : List ℕ) where
  byte_before : ℕ → ℕ
  byte_before i = if nat_le at i && nat_lt i (at + n) then get_or firm i 0 else get_or c i 0

  byte_inside : (i : ℕ) → at ≤ i → i < at + n → byte_before i ≡ get_or firm i 0
  unfolding byte_before
  byte_inside i low high = grind (arith, nat_tests)

  byte_below : (i : ℕ) → i < at → byte_before i ≡ get_or c i 0
  unfolding byte_before
  byte_below i low = grind (arith, nat_tests)

  byte_above : (i : ℕ) → at + n ≤ i → byte_before i ≡ get_or c i 0
  unfolding byte_before
  byte_above i high = grind (arith, nat_tests)

  byte_small : AreBytes firm → AreBytes c → (i : ℕ) → byte_before i < 256
  byte_small firm_fits c_fits i =
      ⊎_elim (λ low. subst (λ (b : ℕ). b < 256) (sym (byte_below i low)) (c_fits i))
      (λ high. ⊎_elim (λ in_range. subst (λ (b : ℕ). b < 256) (sym (byte_inside i high in_range)) (firm_fits i)) (λ past. subst (λ (b : ℕ). b < 256) (sym (byte_above i past)) (c_fits i)) (cases_lt i (at + n))) (cases_lt i at)

  module _ (m : ℕ) (rooted : at ≤ m) (fits : length c ≤ max m (at + n)) where
    image_before : List ℕ
    image_before = tabulate (min (length c) m) byte_before

    size_before : length image_before ≡ min (length c) m
    unfolding image_before
    size_before = length-tabulate (min (length c) m) byte_before

    at_before : (i : ℕ) → i < length image_before → get_or image_before i 0 ≡ byte_before i
    unfolding image_before
    at_before i inside = get_or-tabulate (min (length c) m) byte_before i (omega (arith, size_before))

    torn_before : Torn at n image_before c
    torn_before = record {
      before = ext_get_or 0 (take at c) (take at image_before) (omega (arith, length-take at c, length-take at image_before, size_before)) below;
      after = ext_get_or 0 (drop (at + n) c) (drop (at + n) image_before) (omega (arith, length-drop (at + n) c, length-drop (at + n) image_before, size_before)) above;
      no_shorter = omega (arith, size_before);
      no_longer = omega (arith, size_before);
    }
      where
        below : (i : ℕ) → i < length (take at c) → get_or (take at c) i 0 ≡ get_or (take at image_before) i 0
        below i inside =
            let low : i < at = omega (arith, length-take at c) in
            let within : i < length image_before = omega (arith, length-take at c, size_before) in
            get_or-take at c i 0 low ∙ sym (byte_below i low) ∙ sym (at_before i within) ∙ sym (get_or-take at image_before i 0 low)

        above : (i : ℕ) → i < length (drop (at + n) c) → get_or (drop (at + n) c) i 0 ≡ get_or (drop (at + n) image_before) i 0
        above i inside =
            let within : at + n + i < length image_before = omega (arith, length-drop (at + n) c, size_before) in
            get_or-drop (at + n) c i 0 ∙ sym (byte_above (at + n + i) (omega arith)) ∙ sym (at_before (at + n + i) within) ∙ sym (get_or-drop (at + n) image_before i 0)

    left_before : (ranges : List (ℕ × ℕ)) → m ≡ end_of (length firm) ranges → IsLeft firm ((at, n) ∷ ranges) c → length firm ≤ m → AreBytes firm → IsLeft firm ranges image_before
    left_before ranges m_is left long fits = record {
      outside = λ i inside clear. let within : i < length image_before = omega (arith, size_before, left.no_shorter) in
          at_before i within ∙ ⊎_elim (λ low. byte_below i low ∙ left.outside i inside (λ pending. ⊎_elim (λ here. absurd (omega (arith, here.0))) clear pending))
          (λ high. ⊎_elim (λ in_range. byte_inside i high in_range) (λ past. byte_above i past ∙ left.outside i inside (λ pending. ⊎_elim (λ here. absurd (omega (arith, here.1))) clear pending)) (cases_lt i (at + n))) (cases_lt i at);
      no_shorter = omega (arith, size_before, left.no_shorter);
      no_longer = omega (arith, size_before, m_is);
      bytes = AreBytes-within image_before (λ i inside. subst (λ (b : ℕ). b < 256) (sym (at_before i inside)) (byte_small fits left.bytes i));
    }

-- each range begins at most at the greatest end before it
pub IsRooted : ℕ → List (ℕ × ℕ) → Type 0
IsRooted n [] = Unit {0}
IsRooted n (range ∷ ranges) = (range.0 ≤ end_of n ranges) × IsRooted n ranges

end_of-le : (n : ℕ) (ranges : List (ℕ × ℕ)) → n ≤ end_of n ranges
end_of-le n [] = omega arith
end_of-le n (range ∷ ranges) = omega (arith, end_of-le n ranges)

-- what is left, said byte by byte, is an image of the chain
pub left_image : (firm : List ℕ) (pending : List (ℕ × ℕ)) (c : List ℕ) → IsRooted (length firm) pending → AreBytes firm → IsLeft firm pending c → IsImage firm pending c
unfolding IsRooted
left_image firm [] c rooted fits left = ext_get_or 0 c firm (omega (arith, left.no_shorter, left.no_longer)) (λ i inside. left.outside i (omega (arith, left.no_longer)) (λ pending. pending))
left_image firm (range ∷ ranges) c rooted fits left =
    let m = end_of (length firm) ranges in (
      image_before firm range.0 range.1 c m rooted.0 left.no_longer,
      left_image firm ranges (image_before firm range.0 range.1 c m rooted.0 left.no_longer) rooted.1 fits (left_before firm range.0 range.1 c m rooted.0 left.no_longer ranges refl left (end_of-le (length firm) ranges) fits),
      (torn_before firm range.0 range.1 c m rooted.0 left.no_longer, left.bytes),
    )

-- the pending ranges are rooted, and the content ends at the last of their ends
pub record IsRootedAt (m : Media) : Type 0 where
  pub rooted : IsRooted (length m.firm) m.pending
  pub short : length m.content ≤ end_of (length m.firm) m.pending

rooted_step : (m : Media) (e : Event) → IsRootedAt m → begins_inside m e ≡ true → IsRootedAt (step m e)
unfolding IsRooted
rooted_step m (Wrote at bytes) r inside = record {
  rooted = (omega (arith, begins m at inside, r.short), r.rooted);
  short = omega (arith, r.short, begins m at inside, length-holds m.content at bytes.items (put m.content at bytes.items) (begins m at inside) refl);
}
rooted_step m (Tore at n) r inside = record { rooted = (omega (arith, begins m at inside, r.short), r.rooted); short = omega (arith, r.short) }
rooted_step m Synced r inside = record { rooted = tt; short = omega arith }

rooted_after : (m : Media) (es : List Event) → IsRootedAt m → is_sound m es ≡ true → IsRootedAt (after m es)
rooted_after m [] r sound = r
rooted_after m (e ∷ es) r sound = let parts = and_parts (begins_inside m e) (is_sound (step m e) es) sound in rooted_after (step m e) es (rooted_step m e r parts.0) parts.1

pub rooted : (first : List ℕ) (events : List Event) → is_sound (start first) events ≡ true → IsRooted (length (after (start first) events).firm) (after (start first) events).pending
unfolding IsRooted
rooted first events sound = (rooted_after (start first) events (record { rooted = tt; short = omega arith }) sound).rooted

-- a byte is pending, or it is not
pending_or : (ranges : List (ℕ × ℕ)) (i : ℕ) → IsPending ranges i ⊎ (IsPending ranges i → ⊥)
pending_or [] i = inr (λ none. none)
pending_or (range ∷ ranges) i =
    ⊎_elim (λ older. inl (inr older))
    (λ clear. ⊎_elim (λ low. inr (λ pending. ⊎_elim (λ here. omega (arith, here.0, low)) clear pending))
    (λ high. ⊎_elim (λ inside. inl (inl (high, inside))) (λ past. inr (λ pending. ⊎_elim (λ here. omega (arith, here.1, past)) clear pending)) (cases_lt i (range.0 + range.1))) (cases_lt i range.0))
    (pending_or ranges i)

-- pending bytes may be any: filled content is left where the content is
pub filled_left : (firm content image : List ℕ) (pending : List (ℕ × ℕ)) (byte : ℕ) → byte < 256 → IsLeft firm pending content → IsFilled byte pending content image → IsLeft firm pending image
filled_left firm content image pending byte small left filled = record {
  outside = λ i inside clear. filled.others i (omega (arith, left.no_shorter)) clear ∙ left.outside i inside clear;
  no_shorter = omega (arith, filled.size, left.no_shorter);
  no_longer = omega (arith, filled.size, left.no_longer);
  bytes = AreBytes-within image each;
}
  where
    each : (i : ℕ) → i < length image → get_or image i 0 < 256
    each i inside =
        let within : i < length content = omega (arith, filled.size, inside) in
        ⊎_elim (λ pending_here. subst (λ (b : ℕ). b < 256) (sym (filled.filled i within pending_here)) small) (λ clear. subst (λ (b : ℕ). b < 256) (sym (filled.others i within clear)) (left.bytes i)) (pending_or pending i)

-- filled content is an image
pub filled_image : (first : List ℕ) (events : List Event) (byte : ℕ) (image : List ℕ) → is_sound (start first) events ≡ true → ((k : ℕ) → AreBytes (after (start first) (take k events)).content) → byte < 256
    → IsFilled byte (after (start first) events).pending (after (start first) events).content image → MayLeave (after (start first) events) image
filled_image first events byte image sound fits small filled =
    let m = after (start first) events in
    let firm = firm_after (start first) events (fits 0) fits in
    left_image m.firm m.pending image (rooted first events sound) firm (filled_left m.firm m.content image m.pending byte small (image_left m.firm m.pending m.content firm (image_after (start first) events refl sound fits)) filled)
