-- Bytes as fields of eight bytes, and back.
use Rattle.std.proofs.Common.{◌≡◌, ⊎_elim, ℕ, zero, suc, ◌+◌, ◌*◌, ◌^◌, ◌<◌, ◌≤◌, List, [], ◌∷◌, ◌++◌, length, take, drop, get_or, refl, sym, ap, ◌∙◌, arith, length-append, length-drop}
use Rattle.std.specs.Prelude.{flat_map}
use Rattle.std.specs.Int.{w64, from_be_bytes, to_be_bytes}
use Rattle.std.proofs.Math.Seq.{drop-append-add}
use Rattle.std.proofs.lemmas.Bool.{cases_lt}
use Rattle.std.proofs.lemmas.List.{drop-drop, get_or-drop, get_or-take, get_or_past, length-take, take-append-drop}
use Rattle.std.proofs.lemmas.Nat.{from_be_bytes-to_be_bytes_8, be_bytes_8}
use Rattle.alta_codec.proofs.Numerals.{AreBytes}
use Rattle.alta_postings.specs.Table.{field_at}

abbrev pub fields_bytes : List ℕ → List ℕ
fields_bytes fields = flat_map (to_be_bytes w64) fields

eight_long : (n : ℕ) → length (to_be_bytes w64 n) ≡ 8
eight_long n = refl

pub fields_long : (fields : List ℕ) → length (fields_bytes fields) ≡ 8 * length fields
fields_long [] = refl
fields_long (f ∷ fs) = omega (arith, length-append (to_be_bytes w64 f) (fields_bytes fs), eight_long f, fields_long fs)

eight_front : (n : ℕ) (rest : List ℕ) → take 8 (to_be_bytes w64 n ++ rest) ≡ to_be_bytes w64 n
eight_front n rest = refl

pub field_of_fields : (fs : List ℕ) (k : ℕ) → ((i : ℕ) → i < length fs → get_or fs i 0 < 2 ^ 64) → k < length fs → field_at (fields_bytes fs) k ≡ get_or fs k 0
unfolding field_at
field_of_fields [] k small l = absurd (omega arith)
field_of_fields (f ∷ fs) zero small l = ap (from_be_bytes w64) (eight_front f (fields_bytes fs)) ∙ from_be_bytes-to_be_bytes_8 f (small 0 (omega arith))
field_of_fields (f ∷ fs) (suc k) small l =
    let e : 8 * suc k ≡ length (to_be_bytes w64 f) + 8 * k = omega (arith, eight_long f) in
    ap (λ i. from_be_bytes w64 (take 8 (drop i (to_be_bytes w64 f ++ fields_bytes fs)))) e
    ∙ ap (λ s. from_be_bytes w64 (take 8 s)) (drop-append-add (to_be_bytes w64 f) (fields_bytes fs) (8 * k))
    ∙ field_of_fields fs k (λ i w. small (suc i) (omega arith)) (omega arith)

none_left : (bytes : List ℕ) → length bytes ≡ 0 → bytes ≡ []
none_left [] z = refl
none_left (b ∷ bs) z = absurd (omega arith)

bytes_front : (bytes : List ℕ) → AreBytes bytes → 8 ≤ length bytes → (i : ℕ) → get_or (take 8 bytes) i 0 < 256
bytes_front bytes are l i =
    ⊎_elim (λ w. omega (arith, get_or-take 8 bytes i 0 w, are i (omega arith)))
    (λ g. omega (arith, get_or_past (take 8 bytes) i 0 (omega (arith, length-take 8 bytes))))
    (cases_lt i 8)

bytes_rest : (bytes : List ℕ) → AreBytes bytes → AreBytes (drop 8 bytes)
bytes_rest bytes are i l = omega (arith, get_or-drop 8 bytes i 0, are (8 + i) (omega (arith, length-drop 8 bytes)))

field_rest : (bytes : List ℕ) (k : ℕ) → field_at (drop 8 bytes) k ≡ field_at bytes (suc k)
unfolding field_at
field_rest bytes k =
    let e : 8 + 8 * k ≡ 8 * suc k = omega arith in
    ap (λ s. from_be_bytes w64 (take 8 s)) (drop-drop (8 * k) 8 bytes ∙ ap (λ i. drop i bytes) e)

field_front : (bytes : List ℕ) → field_at bytes 0 ≡ from_be_bytes w64 (take 8 bytes)
unfolding field_at
field_front bytes = refl

-- bytes that have these fields and no more are their spelling
pub bytes_of_fields : (fs bytes : List ℕ) → length bytes ≡ 8 * length fs → AreBytes bytes → ((k : ℕ) → k < length fs → field_at bytes k ≡ get_or fs k 0) → bytes ≡ fields_bytes fs
bytes_of_fields [] bytes sized are each = none_left bytes (omega arith)
bytes_of_fields (f ∷ fs) bytes sized are each =
    let long : 8 ≤ length bytes = omega arith in
    let front : to_be_bytes w64 f ≡ take 8 bytes =
    be_bytes_8 (take 8 bytes) f (omega (arith, length-take 8 bytes)) (bytes_front bytes are long) (sym (each 0 (omega arith)) ∙ field_front bytes) in
    let rest = bytes_of_fields fs (drop 8 bytes) (omega (arith, length-drop 8 bytes)) (bytes_rest bytes are) (λ k l. field_rest bytes k ∙ each (suc k) (omega arith)) in
    sym (take-append-drop 8 bytes) ∙ ap (λ s. s ++ drop 8 bytes) (sym front) ∙ ap (λ s. to_be_bytes w64 f ++ s) rest
