-- One location more in a stream, and the place of its block.
use Rattle.std.proofs.Common.{◌≡◌, ⊎_elim, ℕ, zero, suc, ◌+◌, ◌-◌, ◌*◌, ◌%◌, ◌<◌, List, [], ◌∷◌, ◌++◌, length, take, get_or, refl, sym, subst, ap, ◌∙◌, arith, length-append, append_assoc, append-nil}
use Rattle.std.proofs.lemmas.Bool.{cases_lt}
use Rattle.std.proofs.lemmas.List.{get_or_append_left, get_or-append-add}
use Rattle.alta_codec.specs.Numbers.{number_bytes}
use Rattle.alta_postings.specs.Deltas.{stream_bytes, HasPlaces}

stream_suc : (b k : ℕ) (xs : List ℕ) → k < length xs
    → stream_bytes b (take (suc k) xs) ≡ stream_bytes b (take k xs) ++ number_bytes (get_or xs k 0 - get_or (b ∷ xs) k 0)
unfolding stream_bytes
stream_suc b k [] l = absurd (omega arith)
stream_suc b zero (x ∷ xs) l = append-nil (number_bytes (x - b))
stream_suc b (suc k) (x ∷ xs) l =
    let a = number_bytes (x - b) in
    ap (λ t. a ++ t) (stream_suc x k xs (omega arith)) ∙ sym (append_assoc a (stream_bytes x (take k xs)) (number_bytes (get_or xs k 0 - get_or (x ∷ xs) k 0)))

pub stream_more : (k before x : ℕ) (xs old new : List ℕ) → k < length xs → old ≡ stream_bytes 0 (take k xs) → before ≡ get_or (0 ∷ xs) k 0
    → new ≡ old ++ number_bytes (get_or xs k 0 - before) → new ≡ stream_bytes 0 (take (k + 1) xs)
stream_more k before x xs old new l o b n =
    let e : suc k ≡ k + 1 = omega arith in
    n ∙ ap (λ t. t ++ number_bytes (get_or xs k 0 - before)) o ∙ ap (λ (y : ℕ). stream_bytes 0 (take k xs) ++ number_bytes (get_or xs k 0 - y)) b
    ∙ sym (stream_suc 0 k xs l) ∙ ap (λ i. stream_bytes 0 (take i xs)) e

pub stream_none : (xs old : List ℕ) → old ≡ old ++ stream_bytes 0 (take 0 xs)
unfolding stream_bytes
stream_none xs old = sym (append-nil old)

-- the same behind bytes that stand already
pub append_more : (k before : ℕ) (xs start old new : List ℕ) → k < length xs → old ≡ start ++ stream_bytes 0 (take k xs) → before ≡ get_or (0 ∷ xs) k 0
    → new ≡ old ++ number_bytes (get_or xs k 0 - before) → new ≡ start ++ stream_bytes 0 (take (k + 1) xs)
append_more k before xs start old new l o b n =
    let s = stream_bytes 0 (take k xs) in
    let e = number_bytes (get_or xs k 0 - before) in
    n ∙ ap (λ t. t ++ e) o ∙ append_assoc start s e ∙ ap (λ t. start ++ t) (stream_more k before 0 xs s (s ++ e) l refl b refl)

pub last_more : (k : ℕ) (xs : List ℕ) → get_or xs k 0 ≡ get_or (0 ∷ xs) (k + 1) 0
last_more k xs = let e : suc k ≡ k + 1 = omega arith in ap (λ i. get_or (0 ∷ xs) i 0) e

pub no_places : (xs : List ℕ) → HasPlaces xs 0 []
no_places xs = record { counted = omega arith; each = λ i l. absurd (omega arith) }

pub mark_more : (xs places new : List ℕ) (n at : ℕ) → HasPlaces xs n places → at ≡ length (stream_bytes 0 (take n xs))
    → (n % 64 ≡ 0 → new ≡ places ++ (at ∷ [])) → (0 < n % 64 → new ≡ places) → HasPlaces xs (n + 1) new
mark_more xs places new n at h a first later =
    ⊎_elim
    (λ z. let e = first (omega arith) in
    subst (λ ps. HasPlaces xs (n + 1) ps) (sym e) (record {
      counted = omega (arith, length-append places (at ∷ []), h.counted);
      each = λ i l. ⊎_elim (λ lt. get_or_append_left places (at ∷ []) 0 i lt ∙ h.each i lt)
          (λ ge. let same : i ≡ length places + 0 = omega (arith, length-append places (at ∷ [])) in
          let k : n ≡ 64 * i = omega (arith, h.counted) in
          ap (λ j. get_or (places ++ (at ∷ [])) j 0) same ∙ get_or-append-add places (at ∷ []) 0 0 ∙ a ∙ ap (λ j. length (stream_bytes 0 (take j xs))) k)
          (cases_lt i (length places));
    }))
    (λ g. subst (λ ps. HasPlaces xs (n + 1) ps) (sym (later (omega arith))) (record { counted = omega (arith, h.counted); each = h.each }))
    (cases_lt (n % 64) 1)
