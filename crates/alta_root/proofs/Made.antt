-- What was read of two slots is what some image has, whatever the disk tells: so a root that is answered keeps its rules.
use Rattle.std.proofs.Common.{◌≡◌, inr, ℕ, ◌+◌, ◌-◌, ◌≤◌, List, ◌++◌, length, take, drop, replicate, sym, ap, ◌∙◌, arith}
use Rattle.std.specs.Prelude.{Result, IfOk}
use Rattle.std.proofs.Math.Seq.{take-append_seam, drop-append_seam, drop-append-add}
use Rattle.std.proofs.lemmas.List.{length-append, length-replicate}
use Rattle.std.proofs.lemmas.Result.{IfOk-weaker}
use Rattle.alta_layout.specs.declared.places.TheConstants.{SLOTS_BYTES, SLOT_BYTES}
use Rattle.alta_root.specs.Answers.{AreRead}
use Rattle.alta_root.specs.Root.{IsSound}
use Rattle.alta_root.specs.Slots.{Shows}
use Rattle.alta_root.specs.declared.fault.RootFault.{RootFault}
use Rattle.alta_root.specs.declared.places.TheConstants.{READ_BYTES}
use Rattle.alta_root.specs.declared.root.Roots.{Roots}
use Rattle.alta_root.proofs.Frames.{answered_sound}

front : (xs ys : List ℕ) (n : ℕ) → length xs ≡ n → take n (xs ++ ys) ≡ xs
front xs ys n long = ap (λ (k : ℕ). take k (xs ++ ys)) (sym long) ∙ take-append_seam xs ys

-- an image with these bytes in its slots, and others between and behind them
module _ (first second between behind : List ℕ) (size : ℕ) (first_long : length first ≡ READ_BYTES) (second_long : length second ≡ READ_BYTES) (between_long : READ_BYTES + length between ≡ SLOT_BYTES) (whole : size ≡ SLOT_BYTES + (READ_BYTES + length behind)) where
  made : List ℕ
  made = first ++ (between ++ (second ++ behind))

  second_starts : drop SLOT_BYTES made ≡ second ++ behind
  unfolding made
  second_starts =
      let at : SLOT_BYTES ≡ length first + length between = omega (arith, first_long, between_long) in
      ap (λ (k : ℕ). drop k (first ++ (between ++ (second ++ behind)))) at
      ∙ drop-append-add first (between ++ (second ++ behind)) (length between) ∙ drop-append_seam between (second ++ behind)

  are_read : AreRead first second size made
  unfolding made
  are_read = record {
    first_is = sym (front first (between ++ (second ++ behind)) READ_BYTES first_long);
    second_is = sym (ap (λ (l : List ℕ). take READ_BYTES l) second_starts ∙ front second behind READ_BYTES second_long);
    size_is = omega (arith, whole, first_long, second_long, between_long, length-append first (between ++ (second ++ behind)), length-append between (second ++ behind), length-append second behind);
  }

-- a root that is answered of such bytes keeps the rules, on a disk of some length
pub kept_of : (first second : List ℕ) (size : ℕ) (answer : Result Roots RootFault) → length first ≡ READ_BYTES → length second ≡ READ_BYTES → SLOTS_BYTES ≤ size
    → ((image : List ℕ) → AreRead first second size image → Shows image answer) → IfOk answer (λ roots. (size : ℕ) × IsSound size roots.root)
kept_of first second size answer first_long second_long large shows =
    let zero_byte : ℕ = 0 in
    let between : List ℕ = replicate (SLOT_BYTES - READ_BYTES) zero_byte in
    let behind : List ℕ = replicate (size - (SLOT_BYTES + READ_BYTES)) zero_byte in
    let between_long : READ_BYTES + length between ≡ SLOT_BYTES = omega (arith, length-replicate (SLOT_BYTES - READ_BYTES) zero_byte) in
    let whole : size ≡ SLOT_BYTES + (READ_BYTES + length behind) = omega (arith, large, length-replicate (size - (SLOT_BYTES + READ_BYTES)) zero_byte) in
    let image = made first second between behind size first_long second_long between_long whole in
    IfOk-weaker answer (λ roots. IsSound (length image) roots.root) (λ roots. (size : ℕ) × IsSound size roots.root) (λ roots sound. (length image, sound))
    (answered_sound image answer (inr (shows image (are_read first second between behind size first_long second_long between_long whole))))
