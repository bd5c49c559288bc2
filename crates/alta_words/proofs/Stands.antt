-- Where a reader stands in a coded list, and where its rows begin.
use Rattle.std.proofs.Common.{◌≡◌, ⊎_elim, ℕ, zero, suc, ◌+◌, ◌-◌, ◌*◌, ◌<◌, ◌≤◌, min, List, ◌∷◌, length, take, get_or, refl, sym, subst, ap, ◌∙◌, arith}
use Rattle.std.proofs.lemmas.Bool.{cases_lt}
use Rattle.std.proofs.lemmas.List.{get_or_default, get_or_past}
use Rattle.alta_codec.specs.declared.location.TheConstants.{TOP}
use Rattle.alta_codec.specs.Rising.{IsRising, first_from, pred_of, count_from}
use Rattle.alta_codec.proofs.ByIndex.{first_from-at, next_at, within_at, at_place, at_le, pred_of-at, pred_of-at_start, below_up_to}
use Rattle.alta_codec.proofs.Places.{move_falls, count_from-all}
use Rattle.alta_postings.specs.Deltas.{IsBehind, IsNextOf, decoded_list, stream_bytes}
use Rattle.alta_postings.specs.Table.{field_at}
use Rattle.alta_words.specs.declared.standing.Standing.{Standing}
use Rattle.alta_words.specs.Word.{IsPosting, IsOnWay, ReachesTo, StandsAt}

-- the location before one that is not the first
before_is : (list : List ℕ) (k : ℕ) → 0 < k → get_or (0 ∷ list) k 0 ≡ get_or list (k - 1) 0
before_is list zero h = absurd (omega arith)
before_is list (suc k) h = let e : k ≡ suc k - 1 = omega arith in ap (λ i. get_or list i 0) e

-- the greatest location
pub last_is : (list : List ℕ) → IsRising list → 0 < length list → get_or list (length list - 1) 0 ≡ pred_of list TOP
last_is list r some =
    let e : length list - 1 + 1 ≡ length list = omega arith in
    sym (ap (λ x. pred_of list x) (sym (get_or_past list (length list) TOP (omega arith)) ∙ ap (λ i. get_or list i TOP) (sym e)) ∙ pred_of-at list (length list - 1) r (omega arith))

last_none : (list : List ℕ) → IsRising list → length list ≡ 0 → 0 ≡ pred_of list TOP
last_none list r none = sym (ap (λ x. pred_of list x) (sym (get_or_past list 0 TOP (omega arith))) ∙ pred_of-at_start list r)

pub last_of : (list : List ℕ) → IsRising list → get_or (0 ∷ list) (length list) 0 ≡ pred_of list TOP
last_of list r =
    ⊎_elim (λ z. let e : length list ≡ 0 = omega arith in ap (λ i. get_or (0 ∷ list) i 0) e ∙ last_none list r e)
    (λ some. before_is list (length list) some ∙ last_is list r some) (cases_lt (length list) 1)

-- no location is above the last
rises_to : (list : List ℕ) (n : ℕ) → IsRising list → n < length list → get_or list n 0 ≤ get_or list (length list - 1) 0
rises_to list n r l =
    ⊎_elim (λ lt. omega (arith, r.rising n (length list - 1) lt (omega arith)))
    (λ ge. let e : n ≡ length list - 1 = omega arith in omega (arith, ap (λ i. get_or list i 0) e))
    (cases_lt n (length list - 1))

-- nothing was read
pub read_none : (list : List ℕ) → IsBehind list 0 0 0
unfolding stream_bytes
read_none list = record { within = omega arith; place_is = refl; last_is = refl }

-- a reader stands at the location that was read behind some others, or behind the last
pub stands_at : (list : List ℕ) (i last at place : ℕ) → last ≡ get_or (0 ∷ list) i 0 → IsNextOf list i last at place → StandsAt list i (record { place = place; before = last; at = at })
stands_at list i last at place e n = record {
  within = omega (arith, n.within);
  at_is = n.is ∙ sym (get_or_default list i TOP 0 n.within);
  before_is = e;
  behind = λ _. n.behind;
}

pub stands_past : (list : List ℕ) (i last place : ℕ) → last ≡ get_or (0 ∷ list) i 0 → i ≡ length list → StandsAt list i (record { place = place; before = last; at = TOP })
stands_past list i last place e past = record {
  within = omega arith;
  at_is = sym (get_or_past list i TOP (omega arith));
  before_is = e;
  behind = λ l. absurd (omega arith);
}

-- what is behind a reader that stands below TOP
pub behind_low : (list : List ℕ) (i : ℕ) (s : Standing) → StandsAt list i s → s.at < TOP → IsBehind list (i + 1) s.place s.at
behind_low list i s x low = x.behind (within_at list i (omega (arith, x.at_is)))

module _ (list : List ℕ) (i : ℕ) (s : Standing) (r : IsRising list) (x : StandsAt list i s) where
  -- the location before it
  pub prev_is : s.before ≡ pred_of list s.at
  prev_is =
      ⊎_elim
      (λ first. let z : i ≡ 0 = omega arith in
      x.before_is ∙ ap (λ k. get_or (0 ∷ list) k 0) z ∙ sym (ap (λ n. pred_of list n) (x.at_is ∙ ap (λ k. get_or list k TOP) z) ∙ pred_of-at_start list r))
      (λ later. let k : i ≡ i - 1 + 1 = omega arith in
      x.before_is ∙ before_is list i (omega arith)
      ∙ sym (ap (λ n. pred_of list n) (x.at_is ∙ ap (λ j. get_or list j TOP) k) ∙ pred_of-at list (i - 1) r (omega (arith, x.within))))
      (cases_lt i 1)

  -- on to the first location at or above a place
  pub seek_falls : (new : Standing) (to : ℕ) → new.at ≡ first_from list to → s.at < to → to ≤ TOP → count_from list new.at < count_from list s.at
  seek_falls new to e above top =
      let here = move_falls list (get_or list i TOP) to (at_place list i r).0 (omega (arith, x.at_is)) top in
      subst (λ (n : ℕ). count_from list new.at < count_from list n) (sym x.at_is) (subst (λ (n : ℕ). count_from list n < count_from list (get_or list i TOP)) (sym e) here)

  -- one location on
  pub next_moves : (new : Standing) → StandsAt list (i + 1) new → s.at < TOP → (new.at ≡ first_from list (s.at + 1)) × (count_from list new.at < count_from list s.at)
  next_moves new y low =
      let l = within_at list i (omega (arith, x.at_is)) in
      let e : new.at ≡ first_from list (s.at + 1) = y.at_is ∙ next_at list i r l ∙ ap (λ n. first_from list (n + 1)) (sym x.at_is) in
      (e, seek_falls new (s.at + 1) e (omega arith) (omega arith))

-- at the start
pub starts_first : (list : List ℕ) (s : Standing) → IsRising list → StandsAt list 0 s → (s.at ≡ first_from list 0) × (count_from list s.at ≡ length list)
starts_first list s r x =
    let first = first_from-at list 0 0 r (omega arith) (λ k l. absurd (omega arith)) (λ l. omega arith) in
    let all = count_from-all list (get_or list 0 TOP) (λ i l. at_le list 0 i r (omega arith) l) in
    (x.at_is ∙ first, ap (λ n. count_from list n) x.at_is ∙ all)

-- no way ends before a location that the list has
pub way_has_more : (list : List ℕ) (to before place at : ℕ) (w : IsOnWay list to before place at) → IsRising list → at < to → to ≤ pred_of list TOP → w.read ≡ length list → 1 ≤ 0
way_has_more list to before place at w r low there all =
    omega (arith, w.behind.last_is ∙ ap (λ k. get_or (0 ∷ list) k 0) all ∙ last_of list r)

pub way_ends : (list : List ℕ) (to : ℕ) (s : Standing) → IsOnWay list to s.before s.place s.at → IsRising list → to ≤ s.at → to ≤ TOP
    → ((i : ℕ) × StandsAt list i s) × (s.at ≡ first_from list to)
way_ends list to s w r reached top =
    let (some, before) = w.before_is reached in
    let i = w.read - 1 in
    let k : w.read ≡ i + 1 = omega arith in
    let l : i < length list = omega (arith, w.behind.within) in
    let here : s.at ≡ get_or list i 0 = w.behind.last_is ∙ before_is list w.read some in
    let at : s.at ≡ get_or list i TOP = here ∙ sym (get_or_default list i TOP 0 l) in
    let passed : (j : ℕ) → j < i → get_or list j 0 < to =
    λ j lt. below_up_to list (i - 1) to r (omega arith) (omega (arith, w.low, before, before_is list i (omega arith))) j (omega arith) in (
      (i, record { within = omega arith; at_is = at; before_is = before; behind = λ _. subst (λ (n : ℕ). IsBehind list n s.place s.at) k w.behind }),
      at ∙ first_from-at list i to r top passed (λ _. omega (arith, here)),
    )

-- behind all locations
pub stands_behind : (list : List ℕ) (place end to : ℕ) → IsRising list → end ≡ pred_of list TOP → end < to → to ≤ TOP
    → StandsAt list (length list) (record { place = place; before = end; at = TOP }) × (TOP ≡ first_from list to)
stands_behind list place end to r e low top =
    let n = length list in
    let below : (k : ℕ) → k < n → get_or list k 0 < to = λ k l. below_up_to list (n - 1) to r (omega arith) (omega (arith, e, last_is list r (omega arith))) k (omega arith) in (
      stands_past list n end place (e ∙ sym (last_of list r)) refl,
      sym (get_or_past list n TOP (omega arith)) ∙ first_from-at list n to r top below (λ l. absurd (omega arith)),
    )

module _ (stream summary : List ℕ) (b : ℕ) (p : IsPosting stream summary b) where
  pub row_within : (row : ℕ) → row < b → 64 * row < length (decoded_list stream)
  row_within row l =
      ⊎_elim (λ short. absurd (omega (arith, p.short (omega arith)))) (λ ge. omega (arith, p.long (omega arith))) (cases_lt (length (decoded_list stream)) 65)

  -- a row that begins behind a place is not the first
  pub row_later : (row place from : ℕ) → row < b → place ≡ field_at summary (3 * row + 2) → from < place → 0 < row
  unfolding stream_bytes
  row_later row place from l e far =
      ⊎_elim
      (λ first. let z : row ≡ 0 = omega arith in
      let none : field_at summary (3 * row + 2) ≡ 0 = (p.rows row l).place ∙ ap (λ i. length (stream_bytes 0 (take (64 * i) (decoded_list stream)))) z in
      absurd (omega (arith, none)))
      (λ later. omega arith)
      (cases_lt row 1)

  -- what was read where a later row begins
  pub row_begins : (row place last : ℕ) → row < b → 0 < row → place ≡ field_at summary (3 * row + 2) → last ≡ field_at summary (3 * (row - 1) + 1)
      → IsBehind (decoded_list stream) (64 * row) place last
  row_begins row place last l some e before =
      let list = decoded_list stream in
      let w = row_within row l in
      let k : min (64 * (row - 1) + 63) (length list - 1) ≡ 64 * row - 1 = omega arith in
      record {
        within = omega arith;
        place_is = e ∙ (p.rows row l).place;
        last_is = before ∙ (p.rows (row - 1) (omega arith)).last ∙ ap (λ i. get_or list i 0) k ∙ sym (before_is list (64 * row) (omega arith));
      }

  -- the last row reaches to the end of the list
  pub last_by_row : 0 < b → field_at summary (3 * (b - 1) + 1) ≡ pred_of (decoded_list stream) TOP
  last_by_row some =
      let list = decoded_list stream in
      let w = row_within (b - 1) (omega arith) in
      let full : length list ≤ 64 * (b - 1) + 64 = ⊎_elim (λ short. absurd (omega (arith, p.short (omega arith)))) (λ ge. omega (arith, p.long (omega arith))) (cases_lt (length list) 65) in
      let e : min (64 * (b - 1) + 63) (length list - 1) ≡ length list - 1 = omega arith in
      (p.rows (b - 1) (omega arith)).last ∙ ap (λ i. get_or list i 0) e ∙ last_is list p.spelled.rising (omega arith)

  -- where the row that was looked at last does not reach a place, and the list does, there is a later row
  pub row_follows : (row reach end to : ℕ) → ReachesTo summary b row reach end → end ≡ pred_of (decoded_list stream) TOP → reach < to → to ≤ end
      → (row + 1 < b) × (field_at summary (3 * row + 1) < to) × (to ≤ field_at summary (3 * (b - 1) + 1))
  row_follows row reach end to h e far there =
      ⊎_elim
      (λ none. absurd (omega (arith, h.none (omega arith))))
      (λ some.
      let (l, is) = h.some (omega arith) in
      let last = last_by_row (omega arith) in
      let follows : row + 1 < b = ⊎_elim
      (λ lt. lt)
      (λ ge. let k : row ≡ b - 1 = omega arith in absurd (omega (arith, is, ap (λ i. field_at summary (3 * i + 1)) k, last, e)))
      (cases_lt (row + 1) b) in
      (follows, omega (arith, is), omega (arith, last, e)))
      (cases_lt b 1)

  -- no row reaches behind the end of the list
  pub reach_low : (row reach end : ℕ) → ReachesTo summary b row reach end → end ≡ pred_of (decoded_list stream) TOP → reach ≤ end
  reach_low row reach end h e =
      ⊎_elim
      (λ none. omega (arith, h.none (omega arith)))
      (λ some.
      let list = decoded_list stream in
      let (l, is) = h.some (omega arith) in
      let w = row_within row l in
      let n = min (64 * row + 63) (length list - 1) in
      omega (arith, is, (p.rows row l).last, rises_to list n p.spelled.rising (omega arith), last_is list p.spelled.rising (omega arith), e))
      (cases_lt b 1)
