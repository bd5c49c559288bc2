-- The bytes of a half as parts of the image.
use Rattle.std.proofs.Common.{◌≡◌, ℕ, ◌+◌, ◌<◌, ◌≤◌, List, length, get_or, take, drop, sym, ◌∙◌, ap, arith, length-drop}
use Rattle.std.proofs.lemmas.List.{take-take, drop-take, drop-drop, length-take-le, get_or-take, get_or-drop}
use Rattle.alta_layout.specs.declared.places.TheConstants.{HALF_BYTES, HEAD_BYTES}
use Rattle.alta_layout.specs.Places.{half_start}
use Rattle.alta_layout.specs.declared.slot.Slot.{Slot}
use Rattle.alta_layout.specs.declared.slot.Slot.TheVariants.{A, B}
use Rattle.alta_disk.specs.Parts.{part}
use Rattle.alta_journal.specs.Places.{half_at}

pub start_fits : (half : Slot) → half_start half + HALF_BYTES ≤ HEAD_BYTES
start_fits A = omega arith
start_fits B = omega arith

pub half_stays : (start : ℕ) (old new : List ℕ) → part start HALF_BYTES new ≡ part start HALF_BYTES old → half_at start new ≡ half_at start old
unfolding half_at
half_stays start old new same = same

pub half_long : (start : ℕ) (image : List ℕ) → start + HALF_BYTES ≤ length image → length (half_at start image) ≡ HALF_BYTES
unfolding half_at
half_long start image inside = length-take-le HALF_BYTES (drop start image) (omega (arith, length-drop start image))

pub half_take : (start n : ℕ) (image : List ℕ) → n ≤ HALF_BYTES → take n (half_at start image) ≡ part start n image
unfolding half_at
half_take start n image inside = take-take n HALF_BYTES (drop start image) inside

part_of_part : (a m n : ℕ) (xs : List ℕ) → a + m ≤ n → take m (drop a (take n xs)) ≡ take m (drop a xs)
part_of_part a m n xs inside = sym (drop-take a m (take n xs)) ∙ ap (λ (l : List ℕ). drop a l) (take-take (a + m) n xs inside) ∙ drop-take a m xs

pub half_part : (start a m : ℕ) (image : List ℕ) → a + m ≤ HALF_BYTES → part a m (half_at start image) ≡ part (start + a) m image
unfolding half_at
half_part start a m image inside = part_of_part a m HALF_BYTES (drop start image) inside ∙ ap (λ (l : List ℕ). take m l) (drop-drop a start image)

pub half_byte : (start at : ℕ) (image : List ℕ) → at < HALF_BYTES → get_or (half_at start image) at 0 ≡ get_or image (start + at) 0
unfolding half_at
half_byte start at image inside = get_or-take HALF_BYTES (drop start image) at 0 inside ∙ get_or-drop start image at 0
