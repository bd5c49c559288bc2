-- Places in runs.
use Rattle.std.proofs.Common.{◌≡◌, ◌≢◌, ℕ, zero, suc, ◌+◌, ◌-◌, ◌<◌, ◌≤◌, List, [], ◌∷◌, ◌++◌, length, get_or, refl, sym, ap, subst, ◌∙◌, arith, ⊎_elim, append-nil, append_assoc}
use Rattle.std.specs.List.{All, range_with_len, slice_get}
use Rattle.std.specs.Prelude.{Some}
use Rattle.std.proofs.lemmas.Option.{get_or_from_slice_get, none-some}
use Rattle.std.proofs.lemmas.Bool.{cases_lt}
use Rattle.std.proofs.lemmas.List.{length-append, get_or_append_left, get_or-append_right}
use Rattle.std.proofs.lemmas.List.FromFn.{length-range_with_len, get_or-range_with_len}
use Rattle.alta_codec.specs.Rising.{IsRising}
use Rattle.alta_codec.specs.declared.location.TheConstants.{TOP}
use Rattle.alta_gather.specs.Runs.{AreRuns, last_above, places_in}
use Rattle.alta_gather.specs.declared.places.Run.{Run}

-- ---- a place of the first run, and one behind it

here_at : (first n i : ℕ) (rest : List ℕ) → i < n → get_or (range_with_len first n ++ rest) i 0 ≡ first + i
here_at first n i rest lt =
    get_or_append_left (range_with_len first n) rest 0 i (omega (arith, lt, length-range_with_len first n)) ∙ get_or-range_with_len first n i 0 lt

there_at : (first n i : ℕ) (rest : List ℕ) → n ≤ i → get_or (range_with_len first n ++ rest) i 0 ≡ get_or rest (i - n) 0
there_at first n i rest le = get_or-append_right (range_with_len first n) rest n i 0 (length-range_with_len first n) le

long : (first n : ℕ) (rest : List ℕ) → length (range_with_len first n ++ rest) ≡ n + length rest
long first n rest = length-append (range_with_len first n) rest ∙ ap (λ (k : ℕ). k + length rest) (length-range_with_len first n)

-- ---- places rise

-- each place lies above a lower one and below TOP
pub place_above : (low before : ℕ) (lasts : List ℕ) (runs : List Run) → AreRuns low before lasts runs → (i : ℕ) → i < length (places_in lasts runs)
    → (low < get_or (places_in lasts runs) i 0) × (get_or (places_in lasts runs) i 0 < TOP)
place_above low before [] [] are i lt = absurd (omega (arith, lt))
place_above low before [] (run ∷ runs) are i lt = absurd are
place_above low before (last ∷ lasts) [] are i lt = absurd are
place_above low before (last ∷ lasts) (run ∷ runs) (is, are) i lt =
    let n = last + 1 - run.first in let rest = places_in lasts runs in
    ⊎_elim
    (λ here. let e = here_at run.first n i rest here in (omega (arith, e, is.above), omega (arith, e, here, is.some, is.below)))
    (λ there.
    let e = there_at run.first n i rest there in
    let (above, below) = place_above last (before + n) lasts runs are (i - n) (omega (arith, lt, long run.first n rest, there)) in
    (omega (arith, e, above, is.above, is.some), omega (arith, e, below)))
    (cases_lt i n)

places_rise : (low before : ℕ) (lasts : List ℕ) (runs : List Run) → AreRuns low before lasts runs → (i j : ℕ) → i < j → j < length (places_in lasts runs)
    → get_or (places_in lasts runs) i 0 < get_or (places_in lasts runs) j 0
places_rise low before [] [] are i j lt within = absurd (omega (arith, within))
places_rise low before [] (run ∷ runs) are i j lt within = absurd are
places_rise low before (last ∷ lasts) [] are i j lt within = absurd are
places_rise low before (last ∷ lasts) (run ∷ runs) (is, are) i j lt within =
    let n = last + 1 - run.first in let rest = places_in lasts runs in
    let size = long run.first n rest in
    ⊎_elim
    (λ here.
    let e = here_at run.first n i rest here in
    ⊎_elim (λ both. let f = here_at run.first n j rest both in omega (arith, e, f, lt))
    (λ one.
    let f = there_at run.first n j rest one in
    let (above, below) = place_above last (before + n) lasts runs are (j - n) (omega (arith, within, size, one)) in
    omega (arith, e, f, above, here, is.some))
    (cases_lt j n))
    (λ there.
    let e = there_at run.first n i rest there in let f = there_at run.first n j rest (omega (arith, there, lt)) in
    omega (arith, e, f, places_rise last (before + n) lasts runs are (i - n) (j - n) (omega (arith, lt, there)) (omega (arith, within, size, there, lt))))
    (cases_lt i n)

pub places_rising : (lasts : List ℕ) (runs : List Run) → AreRuns 0 0 lasts runs → IsRising (places_in lasts runs)
places_rising lasts runs are = record {
  rising = places_rise 0 0 lasts runs are;
  positive = λ i lt. (place_above 0 0 lasts runs are i lt).0;
  below = λ i lt. (place_above 0 0 lasts runs are i lt).1;
}

-- ---- the last places rise

last_above_low : (low before : ℕ) (lasts : List ℕ) (runs : List Run) → AreRuns low before lasts runs → (i : ℕ) → i < length lasts → (low < get_or lasts i 0) × (get_or lasts i 0 < TOP)
last_above_low low before [] runs are i lt = absurd (omega (arith, lt))
last_above_low low before (last ∷ lasts) [] are i lt = absurd are
last_above_low low before (last ∷ lasts) (run ∷ runs) (is, are) zero lt = (omega (arith, is.above, is.some), is.below)
last_above_low low before (last ∷ lasts) (run ∷ runs) (is, are) (suc i) lt =
    let (above, below) = last_above_low last (before + (last + 1 - run.first)) lasts runs are i (omega (arith, lt)) in (omega (arith, above, is.above, is.some), below)

lasts_rise : (low before : ℕ) (lasts : List ℕ) (runs : List Run) → AreRuns low before lasts runs → (i j : ℕ) → i < j → j < length lasts → get_or lasts i 0 < get_or lasts j 0
lasts_rise low before [] runs are i j lt within = absurd (omega (arith, within))
lasts_rise low before (last ∷ lasts) [] are i j lt within = absurd are
lasts_rise low before (last ∷ lasts) (run ∷ runs) (is, are) i zero lt within = absurd (omega (arith, lt))
lasts_rise low before (last ∷ lasts) (run ∷ runs) (is, are) zero (suc j) lt within = (last_above_low last (before + (last + 1 - run.first)) lasts runs are j (omega (arith, within))).0
lasts_rise low before (last ∷ lasts) (run ∷ runs) (is, are) (suc i) (suc j) lt within =
    lasts_rise last (before + (last + 1 - run.first)) lasts runs are i j (omega (arith, lt)) (omega (arith, within))

pub lasts_rising : (lasts : List ℕ) (runs : List Run) → AreRuns 0 0 lasts runs → IsRising lasts
lasts_rising lasts runs are = record {
  rising = lasts_rise 0 0 lasts runs are;
  positive = λ i lt. (last_above_low 0 0 lasts runs are i lt).0;
  below = λ i lt. (last_above_low 0 0 lasts runs are i lt).1;
}

pub as_many : (low before : ℕ) (lasts : List ℕ) (runs : List Run) → AreRuns low before lasts runs → length runs ≡ length lasts
as_many low before [] [] are = refl
as_many low before [] (run ∷ runs) are = absurd are
as_many low before (last ∷ lasts) [] are = absurd are
as_many low before (last ∷ lasts) (run ∷ runs) (is, are) = ap suc (as_many last (before + (last + 1 - run.first)) lasts runs are)

-- ---- the run of a place

-- runs that end below a place, and the one behind them that begins above it, do not have it
pub none_there : (low before : ℕ) (lasts : List ℕ) (runs : List Run) (k at : ℕ) (d : Run) → AreRuns low before lasts runs → ((j : ℕ) → j < k → get_or lasts j 0 < at)
    → (k < length lasts → at < (get_or runs k d).first) → (i : ℕ) → i < length (places_in lasts runs) → get_or (places_in lasts runs) i 0 ≢ at
none_there low before [] [] k at d are passed behind i lt = λ e. absurd (omega (arith, lt))
none_there low before [] (run ∷ runs) k at d are passed behind i lt = absurd are
none_there low before (last ∷ lasts) [] k at d are passed behind i lt = absurd are
none_there low before (last ∷ lasts) (run ∷ runs) zero at d (is, are) passed behind i lt = λ e.
    let low_place : (run.first - 1 < get_or (places_in (last ∷ lasts) (run ∷ runs)) i 0) × (get_or (places_in (last ∷ lasts) (run ∷ runs)) i 0 < TOP) =
    place_above (run.first - 1) before (last ∷ lasts) (run ∷ runs) (record { above = omega (arith, is.above); some = is.some; below = is.below; behind = is.behind }, are) i lt in
    omega (arith, low_place.0, e, behind (omega arith))
none_there low before (last ∷ lasts) (run ∷ runs) (suc k) at d (is, are) passed behind i lt =
    let n = last + 1 - run.first in let rest = places_in lasts runs in
    ⊎_elim
    (λ here. λ e. omega (arith, here_at run.first n i rest here, e, here, passed 0 (omega arith)))
    (λ there.
    let f = there_at run.first n i rest there in
    let more = none_there last (before + n) lasts runs k at d are (λ j l. passed (suc j) (omega (arith, l))) (λ l. behind (omega (arith, l))) (i - n) (omega (arith, lt, long run.first n rest, there)) in
    λ e. more (sym f ∙ e))
    (cases_lt i n)

-- what it is to find a place of a run
pub record IsFound (before : ℕ) (places : List ℕ) (at index : ℕ) : Type 0 where
  pub behind : before ≤ index
  pub within : index < before + length places
  pub is : get_or places (index - before) 0 ≡ at

-- the place stands in its run as far behind the run's first as it is above it
pub found_there : (low before : ℕ) (lasts : List ℕ) (runs : List Run) (k at : ℕ) (d : Run) → AreRuns low before lasts runs → k < length lasts → (get_or runs k d).first ≤ at → at ≤ get_or lasts k 0
    → IsFound before (places_in lasts runs) at ((get_or runs k d).before + (at - (get_or runs k d).first))
found_there low before [] runs k at d are lt from to = absurd (omega (arith, lt))
found_there low before (last ∷ lasts) [] k at d are lt from to = absurd are
found_there low before (last ∷ lasts) (run ∷ runs) zero at d (is, are) lt from to =
    let n = last + 1 - run.first in let rest = places_in lasts runs in
    let index = run.before + (at - run.first) in
    let here : index - before < n = omega (arith, is.behind, from, to) in
    record {
      behind = omega (arith, is.behind);
      within = omega (arith, is.behind, from, to, long run.first n rest);
      is = here_at run.first n (index - before) rest here ∙ (let e : run.first + (index - before) ≡ at = omega (arith, is.behind, from) in e);
    }
found_there low before (last ∷ lasts) (run ∷ runs) (suc k) at d (is, are) lt from to =
    let n = last + 1 - run.first in let rest = places_in lasts runs in
    let index = (get_or runs k d).before + (at - (get_or runs k d).first) in
    let more = found_there last (before + n) lasts runs k at d are (omega (arith, lt)) from to in
    record {
      behind = omega (arith, more.behind);
      within = omega (arith, more.within, long run.first n rest);
      is = there_at run.first n (index - before) rest (omega (arith, more.behind))
          ∙ ap (λ (i : ℕ). get_or rest i 0) (let e : index - before - n ≡ index - (before + n) = omega arith in e)
          ∙ more.is;
    }

-- the place stands at this index
pub record IsAt (places : List ℕ) (at index : ℕ) : Type 0 where
  pub within : index < length places
  pub is : get_or places index 0 ≡ at

pub first_found : (places : List ℕ) (at index : ℕ) → IsFound 0 places at index → IsAt places at index
first_found places at index found = record {
  within = omega (arith, found.within);
  is = ap (λ (i : ℕ). get_or places i 0) (let e : index ≡ index - 0 = omega arith in e) ∙ found.is;
}

-- ---- one run more

pub runs_more : (low before : ℕ) (lasts : List ℕ) (runs : List Run) (last : ℕ) (run : Run) → AreRuns low before lasts runs → last_above low lasts < run.first → run.first ≤ last → last < TOP
    → run.before ≡ before + length (places_in lasts runs) → AreRuns low before (lasts ++ last ∷ []) (runs ++ run ∷ [])
runs_more low before [] [] last run are above some below behind = (record { above = above; some = some; below = below; behind = omega (arith, behind) }, tt)
runs_more low before [] (first ∷ runs) last run are above some below behind = absurd are
runs_more low before (other ∷ lasts) [] last run are above some below behind = absurd are
runs_more low before (other ∷ lasts) (first ∷ runs) last run (is, are) above some below behind =
    let n = other + 1 - first.first in
    (is, runs_more other (before + n) lasts runs last run are above some below (omega (arith, behind, long first.first n (places_in lasts runs))))

pub places_more : (low before : ℕ) (lasts : List ℕ) (runs : List Run) (last : ℕ) (run : Run) → AreRuns low before lasts runs
    → places_in (lasts ++ last ∷ []) (runs ++ run ∷ []) ≡ places_in lasts runs ++ range_with_len run.first (last + 1 - run.first)
places_more low before [] [] last run are = append-nil (range_with_len run.first (last + 1 - run.first))
places_more low before [] (first ∷ runs) last run are = absurd are
places_more low before (other ∷ lasts) [] last run are = absurd are
places_more low before (other ∷ lasts) (first ∷ runs) last run (is, are) =
    let own = range_with_len first.first (other + 1 - first.first) in
    ap (λ (xs : List ℕ). own ++ xs) (places_more other (before + (other + 1 - first.first)) lasts runs last run are)
    ∙ sym (append_assoc own (places_in lasts runs) (range_with_len run.first (last + 1 - run.first)))

-- there are no more places than the last of them tells
pub few_places : (low before : ℕ) (lasts : List ℕ) (runs : List Run) → AreRuns low before lasts runs → before ≤ low → before + length (places_in lasts runs) ≤ last_above low lasts
few_places low before [] [] are le = omega (arith, le)
few_places low before [] (run ∷ runs) are le = absurd are
few_places low before (last ∷ lasts) [] are le = absurd are
few_places low before (last ∷ lasts) (run ∷ runs) (is, are) le =
    let n = last + 1 - run.first in
    omega (arith, long run.first n (places_in lasts runs), few_places last (before + n) lasts runs are (omega (arith, le, is.above, is.some)))

-- the last place is one of them
pub last_below : (low before : ℕ) (lasts : List ℕ) (runs : List Run) (x : ℕ) → AreRuns low before lasts runs → low < x
    → ((i : ℕ) → i < length (places_in lasts runs) → get_or (places_in lasts runs) i 0 < x) → last_above low lasts < x
last_below low before [] [] x are lt below = lt
last_below low before [] (run ∷ runs) x are lt below = absurd are
last_below low before (last ∷ lasts) [] x are lt below = absurd are
last_below low before (last ∷ lasts) (run ∷ runs) x (is, are) lt below =
    let n = last + 1 - run.first in let rest = places_in lasts runs in let size = long run.first n rest in
    let mine : get_or (range_with_len run.first n ++ rest) (n - 1) 0 < x = below (n - 1) (omega (arith, size, is.some)) in
    let here : last < x = omega (arith, mine, here_at run.first n (n - 1) rest (omega (arith, is.some)), is.some) in
    last_below last (before + n) lasts runs x are here
    (λ i l. omega (arith, below (n + i) (omega (arith, size, l)), there_at run.first n (n + i) rest (omega arith), ap (λ (k : ℕ). get_or rest k 0) (let e : n + i - n ≡ i = omega arith in e)))

last_at : (low last : ℕ) (lasts : List ℕ) → last_above low (last ∷ lasts) ≡ get_or (last ∷ lasts) (length lasts) 0
last_at low last [] = refl
last_at low last (next ∷ lasts) = last_at last next lasts

pub last_is : (lasts : List ℕ) (last : ℕ) → Some last ≡ slice_get lasts (length lasts - 1) → last ≡ last_above 0 lasts
last_is [] last is = absurd (none-some last (sym is))
last_is (first ∷ lasts) last is =
    let size : length (first ∷ lasts) - 1 ≡ length lasts = omega arith in
    sym (last_at 0 first lasts ∙ get_or_from_slice_get (first ∷ lasts) (length lasts) last 0 (ap (slice_get (first ∷ lasts)) (sym size) ∙ sym is))

-- a run more
pub with_run : (lasts : List ℕ) (runs : List Run) (count first end : ℕ) → AreRuns 0 0 lasts runs → count ≡ length (places_in lasts runs) → last_above 0 lasts < first → first < end → end ≤ TOP
    → let more = lasts ++ (end - 1) ∷ [] in let run : Run = record { first = first; before = count } in
    AreRuns 0 0 more (runs ++ run ∷ []) × (count + (end - first) ≡ length (places_in more (runs ++ run ∷ []))) × (places_in more (runs ++ run ∷ []) ≡ places_in lasts runs ++ range_with_len first (end - first))
with_run lasts runs count first end are counted above some top =
    let run : Run = record { first = first; before = count } in
    let size : end - 1 + 1 - first ≡ end - first = omega (arith, some) in
    let is = places_more 0 0 lasts runs (end - 1) run are ∙ ap (λ (n : ℕ). places_in lasts runs ++ range_with_len first n) size in (
      runs_more 0 0 lasts runs (end - 1) run are above (omega (arith, some)) (omega (arith, some, top)) (omega (arith, counted)),
      omega (arith, counted, ap length is, length-append (places_in lasts runs) (range_with_len first (end - first)), length-range_with_len first (end - first)),
      is,
    )

-- where all places lie below a place, their last does
pub first_kept : (lasts : List ℕ) (runs : List Run) (places : List ℕ) (first : ℕ) → AreRuns 0 0 lasts runs → places_in lasts runs ≡ places → 1 ≤ first → All (λ p. p < first) places → last_above 0 lasts < first
first_kept lasts runs places first are is positive below =
    let each = subst (All (λ p. p < first)) (sym is) below in last_below 0 0 lasts runs first are (omega (arith, positive)) (λ i l. each i 0 l)

pub none_more : (first end : ℕ) (places : List ℕ) → end ≤ first → places ≡ places ++ range_with_len first (end - first)
none_more first end places le =
    let none : 0 ≡ end - first = omega (arith, le) in sym (append-nil places) ∙ ap (λ (n : ℕ). places ++ range_with_len first n) none
