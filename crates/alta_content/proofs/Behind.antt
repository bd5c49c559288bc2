-- Rows in runs: those at the end of rising rows rise too.
use Rattle.std.proofs.Common.{◌≡◌, ℕ, ◌+◌, ◌<◌, ⊎_elim, List, ◌∷◌, [], ◌++◌, map, length, get_or, sym, subst, arith}
use Rattle.std.proofs.lemmas.Bool.{cases_lt}
use Rattle.alta_codec.specs.declared.location.TheConstants.{TOP}
use Rattle.std.proofs.lemmas.List.{get_or-append-add, get_or_append_left, get_or_push, length-append, map-append}
use Rattle.alta_codec.specs.Rising.{IsRising}
use Rattle.alta_content.specs.Rows.{end_of}
use Rattle.alta_content.specs.declared.document.DocRow.{DocRow}

rising_behind : (xs ys : List ℕ) → IsRising (xs ++ ys) → IsRising ys
rising_behind xs ys r =
    let n = length xs in
    record {
      rising = λ i j l m. omega (arith, r.rising (n + i) (n + j) (omega arith) (omega (arith, length-append xs ys)), get_or-append-add xs ys i 0, get_or-append-add xs ys j 0);
      positive = λ i l. omega (arith, r.positive (n + i) (omega (arith, length-append xs ys)), get_or-append-add xs ys i 0);
      below = λ i l. omega (arith, r.below (n + i) (omega (arith, length-append xs ys)), get_or-append-add xs ys i 0);
    }

pub ends_behind : (front rows : List DocRow) → IsRising (map end_of (front ++ rows)) → IsRising (map end_of rows)
ends_behind front rows r = rising_behind (map end_of front) (map end_of rows) (subst IsRising (map-append end_of front rows) r)

-- what holds of each place, and of one more
pub each_more : (xs : List ℕ) (x : ℕ) (P : ℕ → Type 0) → ((k : ℕ) → k < length xs → P (get_or xs k 0)) → P x → (k : ℕ) → k < length (xs ++ x ∷ []) → P (get_or (xs ++ x ∷ []) k 0)
each_more xs x P each one k l =
    ⊎_elim (λ lt. subst P (sym (get_or_append_left xs (x ∷ []) 0 k lt)) (each k lt))
    (λ ge. subst P (sym (get_or_push xs x 0 k (omega (arith, ge, l, length-append xs (x ∷ []))))) one)
    (cases_lt k (length xs))

-- one place more, behind all others
pub rising_more : (xs : List ℕ) (x : ℕ) → IsRising xs → ((k : ℕ) → k < length xs → get_or xs k 0 < x) → 0 < x → x < TOP → IsRising (xs ++ x ∷ [])
rising_more xs x r below positive top = record {
  rising = λ i j l m.
      ⊎_elim
      (λ lt. omega (arith, r.rising i j l lt, get_or_append_left xs (x ∷ []) 0 i (omega (arith, l, lt)), get_or_append_left xs (x ∷ []) 0 j lt))
      (λ ge. let at : length xs ≡ j = omega (arith, ge, m, length-append xs (x ∷ [])) in
      omega (arith, below i (omega (arith, l, at)), get_or_append_left xs (x ∷ []) 0 i (omega (arith, l, at)), get_or_push xs x 0 j at))
      (cases_lt j (length xs));
  positive = λ i l. each_more xs x (λ y. 0 < y) (λ k h. r.positive k h) positive i l;
  below = λ i l. each_more xs x (λ y. y < TOP) (λ k h. r.below k h) top i l;
}
