-- What a write does to the parts of an image.
use Rattle.std.proofs.Common.{◌≡◌, inl, inr, ⊎_elim, ℕ, ◌+◌, ◌≤◌, List, [], ◌∷◌, ◌++◌, length, take, drop, refl, sym, ◌∙◌, ap, arith, append_assoc}
use Rattle.std.proofs.lemmas.List.{take_at, drop_at, drop-take, drop-drop, take-append-drop, length-take-le}
use Rattle.alta_disk.specs.Disk.{Holds, Torn}
use Rattle.alta_disk.specs.Writes.{take_less, drop_less, holds_torn}
use Rattle.alta_disk.specs.Parts.{part, Apart, Clear, Touches}

-- a part outside the range of a torn write
pub part_torn : (at n a m : ℕ) (old new : List ℕ) → Torn at n old new → Apart a m at n → part a m new ≡ part a m old
part_torn at n a m old new torn apart = ⊎_elim below above apart
  where
    below : a + m ≤ at → part a m new ≡ part a m old
    below le = sym (drop-take a m new) ∙ ap (λ (l : List ℕ). drop a l) (take_less (a + m) at new old le torn.before) ∙ drop-take a m old

    above : at + n ≤ a → part a m new ≡ part a m old
    above le = ap (λ (l : List ℕ). take m l) (drop_less (at + n) a new old le torn.after)

-- the part that was written
pub part_written : (at : ℕ) (bytes old new : List ℕ) → at ≤ length old → Holds old at bytes new → part at (length bytes) new ≡ bytes
part_written at bytes old new inside holds =
    let R = drop (at + length bytes) old in
    ap (λ (l : List ℕ). part at (length bytes) l) (holds ∙ append_assoc (take at old) bytes R)
    ∙ ap (λ (l : List ℕ). take (length bytes) l) (drop_at (take at old) (bytes ++ R) at (length-take-le at old inside)) ∙ take_at bytes R (length bytes) refl

pub touches_torn : (at n : ℕ) (ranges : List (ℕ × ℕ)) (old new : List ℕ) → Torn at n old new → ((a m : ℕ) → Clear a m ranges → Apart a m at n) → Touches ranges old new
touches_torn at n ranges old new torn inside = record { parts = λ a m clear. part_torn at n a m old new torn (inside a m clear); no_shorter = torn.no_shorter }

pub touches_then : (ranges : List (ℕ × ℕ)) (a b c : List ℕ) → Touches ranges a b → Touches ranges b c → Touches ranges a c
touches_then ranges a b c one two = record { parts = λ at m clear. two.parts at m clear ∙ one.parts at m clear; no_shorter = omega (arith, one.no_shorter, two.no_shorter) }

-- a range inside another
pub apart_inside : (a m at n wide_at wide : ℕ) → wide_at ≤ at → at + n ≤ wide_at + wide → Apart a m wide_at wide → Apart a m at n
apart_inside a m at n wide_at wide from to apart = ⊎_elim (λ le. inl (omega arith)) (λ le. inr (omega arith)) apart

-- a write touches its range alone
pub touches_write : (at n : ℕ) (old new : List ℕ) → Torn at n old new → Touches ((at, n) ∷ []) old new
touches_write at n old new torn = touches_torn at n ((at, n) ∷ []) old new torn (λ a m clear. clear.0)

pub touches_written : (at : ℕ) (bytes old new : List ℕ) → at ≤ length old → Holds old at bytes new → Touches ((at, length bytes) ∷ []) old new
touches_written at bytes old new inside holds = touches_write at (length bytes) old new (holds_torn old at bytes new inside holds)

-- what touches one list of ranges touches each that leaves no more parts clear
pub touches_as : (few many : List (ℕ × ℕ)) (old new : List ℕ) → Touches few old new → ((a m : ℕ) → Clear a m many → Clear a m few) → Touches many old new
touches_as few many old new touches clearer = record { parts = λ a m clear. touches.parts a m (clearer a m clear); no_shorter = touches.no_shorter }

pub split_at_part : (start n : ℕ) (image : List ℕ) → image ≡ take start image ++ part start n image ++ drop (start + n) image
split_at_part start n image =
    sym (append_assoc (take start image) (part start n image) (drop (start + n) image) ∙ ap (λ (l : List ℕ). take start image ++ l) (ap (λ (l : List ℕ). part start n image ++ l) (sym (drop-drop n start image)) ∙ take-append-drop n (drop start image)) ∙ take-append-drop start image)
