-- A disk that was formatted.
use Rattle.std.proofs.Common.{◌≡◌, inr, ℕ, ◌+◌, ◌<◌, ◌≤◌, List, [], ◌∷◌, ◌++◌, length, get_or, take, drop, refl, sym, ◌∙◌, ap, ap₂, subst, arith, ◌-◌, append_assoc, length-append, replicate}
use Rattle.std.proofs.Math.Seq.{take-append-add}
use Rattle.std.proofs.lemmas.List.{get_or-take, get_or-drop, drop_at, take_at, take-append-drop, take-take, drop-take, drop-drop, length-take-le, length-drop, take-replicate}
use Rattle.std.proofs.lemmas.List.Elements.{All-cons, All-head, All-tail, All-take, All-drop, All-get_or}
use Rattle.alta_layout.specs.declared.places.TheConstants.{HEAD_BYTES, START_A}
use Rattle.alta_layout.specs.declared.slot.Slot.TheVariants.{A}
use Rattle.alta_disk.specs.Disk.{Holds}
use Rattle.alta_disk.specs.Parts.{part}
use Rattle.alta_disk.specs.Writes.{drop_less, holds_torn, length-holds}
use Rattle.alta_disk.proofs.PartLaws.{part_torn, part_written}
use Rattle.alta_journal.proofs.HalfLaws.{half_long, half_byte}
use Rattle.alta_meaning.specs.Switching.{empty_root, IsFormatted}
use Rattle.alta_root.specs.Places.{fields_at, gate_of}
use Rattle.alta_layout.specs.Wide.{eight_bytes}
use Rattle.alta_root.specs.Root.{body_of, fields_of}
use Rattle.alta_root.specs.declared.places.TheConstants.{VERSION}
use Rattle.alta_store.specs.Clearing.{AreZero, IsClear, empty_head}
use Rattle.alta_journal.proofs.Steps.{take_sum}

-- the byte at a place
abbrev byte_at : ℕ → List ℕ → ℕ
byte_at at image = get_or image at 0

-- a byte is read off its part
byte_in_part : (at : ℕ) (image : List ℕ) → byte_at at image ≡ get_or (part at 1 image) 0 0
byte_in_part at image =
    let here : at + 0 ≡ at = omega arith in
    ap (λ (k : ℕ). get_or image k 0) (sym here) ∙ sym (get_or-drop at image 0 0) ∙ sym (get_or-take 1 (drop at image) 0 0 (omega arith))

byte_same : (at : ℕ) (old new : List ℕ) → part at 1 new ≡ part at 1 old → byte_at at new ≡ byte_at at old
byte_same at old new same = byte_in_part at new ∙ ap (λ (l : List ℕ). get_or l 0 0) same ∙ sym (byte_in_part at old)

clear_byte : (n at : ℕ) (image : List ℕ) → IsClear n image → at < n → byte_at at image ≡ 0
clear_byte n at image clear inside =
    sym (get_or-take n image at 0 inside)
    ∙ All-get_or (λ b. b ≡ 0) (take n image) at 0 (omega (arith, length-take-le n image clear.long)) clear.zeros

zeros_are : (bytes : List ℕ) → AreZero bytes → bytes ≡ replicate (length bytes) 0
zeros_are [] all = refl
zeros_are (b ∷ bytes) all = ap (λ (n : ℕ). n ∷ bytes) (All-head (λ b. b ≡ 0) b bytes all) ∙ ap (λ (l : List ℕ). 0 ∷ l) (zeros_are bytes (All-tail (λ b. b ≡ 0) b bytes all))

zeros_long : (n : ℕ) (bytes : List ℕ) → length bytes ≡ n → AreZero bytes → bytes ≡ replicate n 0
zeros_long n bytes long all = zeros_are bytes all ∙ ap (λ (m : ℕ). replicate m 0) long

-- a part of zeros
zero_part : (at n m : ℕ) (image : List ℕ) → at + n ≤ m → AreZero (take m image) → AreZero (part at n image)
zero_part at n m image fits zeros =
    let k = m - at in
    let split : m ≡ at + k = omega (arith, fits) in
    subst AreZero (take-take n k (drop at image) (omega (arith, fits)))
    (All-take (λ b. b ≡ 0) n (take k (drop at image)) (subst AreZero (ap (λ (j : ℕ). drop at (take j image)) split ∙ drop-take at k image) (All-drop (λ b. b ≡ 0) at (take m image) zeros)))

-- the fields behind the gate of a root without documents, byte by byte
abbrev empty_fields : List ℕ
empty_fields = VERSION ∷ 0 ∷ 0 ∷ 0 ∷ 0 ∷ 0 ∷ 0 ∷ 0 ∷ 0 ∷ 0 ∷ 0 ∷ 0 ∷ 0 ∷ 0 ∷ 1 ∷ 0 ∷ 0 ∷ 0 ∷ 0 ∷ 0 ∷ 0 ∷ 0 ∷ 1 ∷ 0 ∷ 0 ∷ 0 ∷ 0 ∷ 0 ∷ 0 ∷ 0 ∷ 0 ∷ 0 ∷ 0 ∷ 0 ∷ 0 ∷ 0 ∷ 0 ∷ 0 ∷ 0 ∷ []

spelled : fields_of empty_root ≡ empty_fields
unfolding fields_of eight_bytes
spelled = refl

-- the body of the root without documents starts with the fields, and then there are zeros
body_starts : take 295 (body_of empty_root) ≡ empty_fields ++ replicate 256 0
unfolding body_of
body_starts =
    ap (λ (l : List ℕ). take 295 (l ++ replicate (4095 - length l) 0)) spelled
    ∙ take-append-add empty_fields (replicate 4056 0) 256 ∙ ap (λ (l : List ℕ). empty_fields ++ l) (take-replicate 256 4056 0 (omega arith))

module _ (c0 c1 c2 : List ℕ) (clear : IsClear HEAD_BYTES c0) (body : Holds c0 1 empty_fields c1) (gate : Holds c1 0 (165 ∷ []) c2) where
  longer : (HEAD_BYTES ≤ length c1) × (HEAD_BYTES ≤ length c2)
  longer =
      let first = holds_torn c0 1 empty_fields c1 (omega (arith, clear.long)) body in
      let second = holds_torn c1 0 (165 ∷ []) c2 (omega arith) gate in
      (omega (arith, clear.long, first.no_shorter), omega (arith, clear.long, first.no_shorter, second.no_shorter))

  -- what stands behind the fields is as it was
  behind : (at m : ℕ) → 40 ≤ at → part at m c2 ≡ part at m c0
  behind at m far =
      part_torn 0 1 at m c1 c2 (holds_torn c1 0 (165 ∷ []) c2 (omega arith) gate) (inr (omega arith))
      ∙ part_torn 1 39 at m c0 c1 (holds_torn c0 1 empty_fields c1 (omega (arith, clear.long)) body) (inr (omega arith))

  byte_behind : (at : ℕ) → 40 ≤ at → at < HEAD_BYTES → byte_at at c2 ≡ 0
  byte_behind at far inside = byte_same at c0 c2 (behind at 1 far) ∙ clear_byte HEAD_BYTES at c0 clear inside

  -- behind the gate stand the fields, and zeros
  zeros_behind : part 40 256 c2 ≡ replicate 256 0
  zeros_behind =
      behind 40 256 (omega arith)
      ∙ zeros_long 256 (part 40 256 c0) (length-take-le 256 (drop 40 c0) (omega (arith, clear.long, length-drop 40 c0)))
      (zero_part 40 256 HEAD_BYTES c0 (omega arith) clear.zeros)

  fields_are : fields_at A c2 ≡ empty_fields ++ replicate 256 0
  fields_are =
      take_sum 39 256 (drop 1 c2)
      ∙ ap₂ (λ (a b : List ℕ). a ++ b)
      (part_torn 0 1 1 39 c1 c2 (holds_torn c1 0 (165 ∷ []) c2 (omega arith) gate) (inr (omega arith)) ∙ part_written 1 empty_fields c0 c1 (omega (arith, clear.long)) body)
      (ap (λ (l : List ℕ). take 256 l) (drop-drop 39 1 c2) ∙ zeros_behind)

  long : length (fields_at A c2) ≡ 295
  long = length-take-le 295 (drop 1 c2) (omega (arith, longer.1, length-drop 1 c2))

  gate_byte : gate_of A c2 ≡ 165
  gate_byte = ap (λ (l : List ℕ). get_or l 0 0) (part_written 0 (165 ∷ []) c1 c2 (omega arith) gate)

  pub is_formatted : IsFormatted c2
  is_formatted = record {
    whole = longer.1;
    first = gate_byte;
    fields = fields_are ∙ sym (ap (λ (n : ℕ). take n (body_of empty_root)) long ∙ body_starts);
    long = long;
    second = λ is_open. absurd (omega (arith, byte_in_part 4096 c2 ∙ is_open, byte_behind 4096 (omega arith) (omega arith)));
    closed = (
      omega (arith, half_long START_A c2 (omega (arith, longer.1))),
      λ is_open. absurd (omega (arith, half_byte START_A 0 c2 (omega arith) ∙ byte_behind START_A (omega arith) (omega arith), is_open)),
    );
  }

-- ---- all bytes

all_append : (xs ys : List ℕ) → AreZero xs → AreZero ys → AreZero (xs ++ ys)
all_append [] ys first last = last
all_append (x ∷ xs) ys first last = All-cons (λ b. b ≡ 0) x (xs ++ ys) (All-head (λ b. b ≡ 0) x xs first) (all_append xs ys (All-tail (λ b. b ≡ 0) x xs first) last)

-- zeros behind zeros
pub clear_write : (at : ℕ) (bytes old new : List ℕ) → AreZero bytes → IsClear at old → Holds old at bytes new → IsClear (at + length bytes) new
clear_write at bytes old new zeros clear holds = record {
  long = omega (arith, length-holds old at bytes new clear.long holds);
  zeros = subst AreZero
      (sym (ap (take (at + length bytes)) holds ∙ take_at (take at old ++ bytes) (drop (at + length bytes) old) (at + length bytes) (omega (arith, length-append (take at old) bytes, length-take-le at old clear.long))))
      (all_append (take at old) bytes clear.zeros zeros);
}

-- a write before a place leaves what stands behind it
pub behind_write : (at n : ℕ) (bytes old new : List ℕ) → at ≤ length old → Holds old at bytes new → at + length bytes ≤ n → drop n new ≡ drop n old
behind_write at n bytes old new inside holds le = drop_less (at + length bytes) n new old le (holds_torn old at bytes new inside holds).after

module _ (old c0 c1 c2 : List ℕ) (clear : IsClear HEAD_BYTES c0) (still : drop HEAD_BYTES c0 ≡ drop HEAD_BYTES old) (body : Holds c0 1 empty_fields c1) (gate : Holds c1 0 (165 ∷ []) c2) where
  zeros_then : drop 40 c0 ≡ replicate (HEAD_BYTES - 40) 0 ++ drop HEAD_BYTES old
  zeros_then =
      sym (take-append-drop (HEAD_BYTES - 40) (drop 40 c0))
      ∙ ap₂ (λ (xs ys : List ℕ). xs ++ ys)
      (zeros_long (HEAD_BYTES - 40) (part 40 (HEAD_BYTES - 40) c0) (length-take-le (HEAD_BYTES - 40) (drop 40 c0) (omega (arith, clear.long, length-drop 40 c0))) (zero_part 40 (HEAD_BYTES - 40) HEAD_BYTES c0 (omega arith) clear.zeros))
      (drop-drop (HEAD_BYTES - 40) 40 c0 ∙ still)

  fields_then : drop 1 c1 ≡ empty_fields ++ drop 40 c0
  fields_then =
      ap (drop 1) (body ∙ append_assoc (take 1 c0) empty_fields (drop 40 c0))
      ∙ drop_at (take 1 c0) (empty_fields ++ drop 40 c0) 1 (length-take-le 1 c0 (omega (arith, clear.long)))

  pub whole_written : c2 ≡ empty_head ++ drop HEAD_BYTES old
  unfolding empty_head
  whole_written =
      gate
      ∙ ap (λ (l : List ℕ). 165 ∷ l)
      (fields_then ∙ ap (λ (l : List ℕ). empty_fields ++ l) zeros_then ∙ sym (append_assoc empty_fields (replicate (HEAD_BYTES - 40) 0) (drop HEAD_BYTES old)))
      ∙ ap (λ (l : List ℕ). (165 ∷ l ++ replicate (HEAD_BYTES - 40) 0) ++ drop HEAD_BYTES old) (sym spelled)
