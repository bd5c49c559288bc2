-- How far a seek reads: to the end of one block.
use Rattle.std.proofs.Common.{◌≡◌, ⊎_elim, ℕ, zero, suc, ◌+◌, ◌-◌, ◌*◌, ◌<◌, ◌≤◌, min, List, [], ◌∷◌, length, take, get_or, ap, ◌∙◌, arith, length-append}
use Rattle.std.proofs.lemmas.Bool.{cases_lt}
use Rattle.std.proofs.lemmas.List.{get_or_default, get_or_past}
use Rattle.alta_codec.specs.declared.location.TheConstants.{TOP}
use Rattle.alta_codec.specs.Numbers.{number_bytes}
use Rattle.alta_codec.proofs.ByIndex.{at_le}
use Rattle.alta_codec.proofs.Numerals.{number_size}
use Rattle.alta_postings.specs.Deltas.{IsBehind, decoded_list, stream_bytes}
use Rattle.alta_postings.specs.Table.{field_at}
use Rattle.alta_words.specs.declared.standing.Standing.{Standing}
use Rattle.alta_words.specs.Word.{IsPosting, IsNear, ReachesTo, StandsAt}
use Rattle.alta_words.proofs.Stands.{behind_low, row_within}

-- each location takes a byte or more
stream_rises : (before k j : ℕ) (xs : List ℕ) → k < j → j ≤ length xs → length (stream_bytes before (take k xs)) < length (stream_bytes before (take j xs))
unfolding stream_bytes
stream_rises before k zero xs l h = absurd (omega arith)
stream_rises before k (suc j) [] l h = absurd (omega arith)
stream_rises before zero (suc j) (x ∷ xs) l h = omega (arith, length-append (number_bytes (x - before)) (stream_bytes x (take j xs)), (number_size (x - before)).0)
stream_rises before (suc k) (suc j) (x ∷ xs) l h =
    let a = number_bytes (x - before) in
    omega (arith, length-append a (stream_bytes x (take k xs)), length-append a (stream_bytes x (take j xs)), stream_rises x k j xs (omega arith) (omega arith))

-- what was read up to an earlier place is no more
read_before : (list : List ℕ) (i j place other last : ℕ) → i ≤ length list → place ≡ length (stream_bytes 0 (take i list)) → IsBehind list j other last → place ≤ other → i ≤ j
read_before list i j place other last within is y le =
    ⊎_elim (λ lt. absurd (omega (arith, is, y.place_is, stream_rises 0 j i list lt within))) (λ ge. omega arith) (cases_lt j i)

module _ (stream summary : List ℕ) (b : ℕ) (p : IsPosting stream summary b) where
  -- the block of a row has the first location at or above a place that the row reaches
  near_row : (row i to : ℕ) → row < b → 64 * row ≤ i → to ≤ field_at summary (3 * row + 1) → to ≤ TOP → IsNear (decoded_list stream) i to
  near_row row i to l behind reached top =
      let list = decoded_list stream in
      ⊎_elim
      (λ lt. let k : min (64 * row + 63) (length list - 1) ≡ 64 * row + 63 = omega arith in
      let last = (p.rows row l).last ∙ ap (λ n. get_or list n 0) k in
      omega (
        arith,
        last,
        get_or_default list (64 * row + 63) TOP 0 (omega arith),
        at_le list (64 * row + 63) (i + 63) p.spelled.rising (omega arith) lt,
        get_or_default list (i + 63) TOP 0 lt,
      ))
      (λ past. omega (arith, get_or_past list (i + 63) TOP past))
      (cases_lt (i + 63) (length list))

  -- so has the whole list, where there are no rows
  near_short : (i to : ℕ) → b ≡ 0 → 0 < i → to ≤ TOP → IsNear (decoded_list stream) i to
  near_short i to none some top =
      let list = decoded_list stream in
      let few : length list ≤ 64 = ⊎_elim (λ lt. omega arith) (λ ge. omega (arith, p.long (omega arith))) (cases_lt (length list) 65) in
      omega (arith, get_or_past list (i + 63) TOP (omega arith))

  -- a reader that has passed the rows before one stands in that row's block or behind it
  passed_rows : (row i : ℕ) (s : Standing) → row < b → StandsAt (decoded_list stream) i s → (0 < row → field_at summary (3 * (row - 1) + 1) < s.at) → 64 * row ≤ i
  passed_rows row i s l x passed =
      let list = decoded_list stream in
      ⊎_elim
      (λ first. omega arith)
      (λ later.
      let w = row_within stream summary b p row l in
      let k : min (64 * (row - 1) + 63) (length list - 1) ≡ 64 * row - 1 = omega (arith, w) in
      let last = (p.rows (row - 1) (omega arith)).last ∙ ap (λ n. get_or list n 0) k in
      ⊎_elim
      (λ lt. absurd (omega (arith, passed later, last, x.at_is, at_le list i (64 * row - 1) p.spelled.rising (omega arith) (omega (arith, w)))))
      (λ ge. ge)
      (cases_lt i (64 * row)))
      (cases_lt row 1)

  -- from where a reader stands, to a place that the row which it keeps reaches
  pub near_here : (row reach end to : ℕ) (s : Standing) → (i : ℕ) × StandsAt (decoded_list stream) i s → ReachesTo summary b row reach end
      → (0 < row → field_at summary (3 * (row - 1) + 1) < s.at) → s.at < to → to ≤ reach → to ≤ TOP
      → (j : ℕ) → IsBehind (decoded_list stream) j s.place s.at → IsNear (decoded_list stream) j to
  near_here row reach end to s (i, x) h passed above reached top j y =
      let list = decoded_list stream in
      let read = behind_low list i s x (omega arith) in
      let here = read_before list (i + 1) j s.place s.place s.at read.within read.place_is y (omega arith) in
      ⊎_elim
      (λ none. near_short j to (omega arith) (omega (arith, here)) top)
      (λ some.
      let (l, is) = h.some (omega arith) in
      near_row row j to l (omega (arith, here, passed_rows row i s l x passed)) (omega (arith, is)) top)
      (cases_lt b 1)

  -- from the start of the block of a row, or from behind it
  pub near_from : (row to start place at : ℕ) → row < b → to ≤ field_at summary (3 * row + 1) → to ≤ TOP → start ≡ field_at summary (3 * row + 2) → start ≤ place
      → (j : ℕ) → IsBehind (decoded_list stream) j place at → IsNear (decoded_list stream) j to
  near_from row to start place at l reached top is le j y =
      let list = decoded_list stream in
      near_row row j to l (read_before list (64 * row) j start place at (omega (arith, row_within stream summary b p row l)) (is ∙ (p.rows row l).place) y le) reached top
