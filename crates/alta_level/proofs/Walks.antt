-- Locations beside the documents and their runs, as a stream is read block by block.
use Rattle.std.proofs.Common.{◌≡◌, ◌↔◌, ⊎_elim, inl, inr, ℕ, zero, suc, ◌+◌, ◌-◌, ◌<◌, ◌≤◌, Bool, true, false, List, [], ◌∷◌, length, drop, take, get_or, Option, Some, None, refl, sym, subst, ap, ◌∙◌, arith, length-drop}
use Rattle.std.specs.Prelude.{Result, Ok, Err, IfOk, IfSome, IsTrue, MatchOption}
use Rattle.std.proofs.lemmas.Bool.{cases_lt}
use Rattle.std.proofs.lemmas.List.{get_or-drop, get_or-take, length-take-le}
use Rattle.alta_codec.specs.Rising.{IsRising}
use Rattle.alta_postings.specs.Deltas.{IsBlockRead, list_from}
use Rattle.alta_words.specs.declared.checking.PostingFault.{PostingFault}
use Rattle.alta_content.specs.declared.document.DocRow.{DocRow}
use Rattle.alta_content.specs.Lists.{AreInRanges, end_term}
use Rattle.alta_content.specs.Rows.{AreDocuments, AreDocumentsBehind, Before, behind_row, ends_of, firsts_of, start}
use Rattle.alta_content.specs.Runs.{AreInRuns, AreRunsOf, IsInRun}
use Rattle.alta_level.specs.Stored.{Fits}
use Rattle.alta_level.specs.Fitting.{AreEndsTo, AreFitting, AreInRunsTo, HasOther, HasOutside}
use Rattle.alta_level.specs.Meeting.{block_at}
use Rattle.alta_level.specs.declared.walking.Walked.{Walked}

-- what was found of so many locations of a list beside the ends of the documents
abbrev pub MeetsEnds : List DocRow → List ℕ → ℕ → Option ℕ → Type 0
MeetsEnds documents list count row = MatchOption row (list ≡ ends_of documents → ⊥)
    (λ r. (r ≡ count) × (r ≤ length documents) × ((k : ℕ) → k < count → get_or list k 0 ≡ get_or (ends_of documents) k 0))

-- what was found of so many locations of a list beside the runs of documents
abbrev pub MeetsRuns : List ℕ → List ℕ → List ℕ → ℕ → Option ℕ → Type 0
MeetsRuns firsts ends list count run = MatchOption run (AreInRuns firsts ends list → ⊥) (λ r. (k : ℕ) → k < count → IsInRun firsts ends (get_or list k 0))

pub ends_none : (documents : List DocRow) (list : List ℕ) (count : ℕ) → count ≡ 0 → MeetsEnds documents list count (Some 0)
ends_none documents list count none = (sym none, omega arith, λ k l. absurd (omega (arith, l, none)))

pub runs_none : (firsts ends list : List ℕ) (count : ℕ) → count ≡ 0 → MeetsRuns firsts ends list count (Some 0)
runs_none firsts ends list count none = λ k l. absurd (omega (arith, l, none))

pub ends_within : (documents : List DocRow) (list : List ℕ) (count : ℕ) (row : Option ℕ) → MeetsEnds documents list count row → IfSome row (λ r. r ≤ length documents)
ends_within documents list count None f = tt
ends_within documents list count (Some r) f = f.1

-- the runs before one end before what comes behind
pub passed_each : (ends out : List ℕ) (from last : ℕ) → ((i : ℕ) → i < from → get_or ends i 0 < last) → IsRising out → last < get_or out 0 0
    → (i k : ℕ) → i < from → k < length out → get_or ends i 0 < get_or out k 0
passed_each ends out from last p r a i k l w =
    ⊎_elim (λ first. let e : k ≡ 0 = omega (arith, first) in omega (arith, p i l, a, ap (λ j. get_or out j 0) e)) (λ later. omega (arith, p i l, a, r.rising 0 k (omega (arith, later)) w))
    (cases_lt k 1)

pub ends_many : (documents : List DocRow) → length (ends_of documents) ≡ length documents
ends_many [] = refl
ends_many (d ∷ ds) = ap (λ n. suc n) (ends_many ds)

up_to : (xs : List ℕ) (i j : ℕ) → IsRising xs → i ≤ j → j < length xs → get_or xs i 0 ≤ get_or xs j 0
up_to xs i j r le l =
    ⊎_elim (λ w. omega (arith, r.rising i j w l)) (λ g. let e : i ≡ j = omega (arith, le, g) in omega (arith, ap (λ k. get_or xs k 0) e)) (cases_lt i j)

-- ---- one block more

module _ (list out : List ℕ) (count : ℕ) (elem : (k : ℕ) → k < length out → get_or out k 0 ≡ get_or list (count + k) 0) (room : count + length out ≤ length list) where
  elem_at : (k : ℕ) → count ≤ k → k < count + length out → get_or out (k - count) 0 ≡ get_or list k 0
  elem_at k ge l = let e : count + (k - count) ≡ k = omega arith in elem (k - count) (omega arith) ∙ ap (λ i. get_or list i 0) e

  -- it rises where the list does
  out_rises : IsRising list → IsRising out
  out_rises r = record {
    rising = λ i j lt l. omega (arith, elem i (omega (arith, lt, l)), elem j l, r.rising (count + i) (count + j) (omega (arith, lt)) (omega (arith, l, room)));
    positive = λ i l. omega (arith, elem i l, r.positive (count + i) (omega (arith, l, room)));
    below = λ i l. omega (arith, elem i l, r.below (count + i) (omega (arith, l, room)));
  }

  module _ (documents : List DocRow) where
    other_list : (from : ℕ) → from ≡ count → HasOther documents from out → list ≡ ends_of documents → ⊥
    other_list from is (inl many) same = omega (arith, many, room, ap length same, ends_many documents)
    other_list from is (inr (k, l, differs)) same =
        let e : count + k ≡ from + k = omega arith in
        differs (elem k l ∙ ap (λ xs. get_or xs (count + k) 0) same ∙ ap (λ i. get_or (ends_of documents) i 0) e)

    same_more : (from r : ℕ) → from ≡ count → ((k : ℕ) → k < count → get_or list k 0 ≡ get_or (ends_of documents) k 0) → AreEndsTo documents from out r
        → (k : ℕ) → k < count + length out → get_or list k 0 ≡ get_or (ends_of documents) k 0
    same_more from r is before here k l =
        ⊎_elim (λ w. before k w)
        (λ ge. let e : from + (k - count) ≡ k = omega arith in sym (elem_at k (omega arith) l) ∙ here.same (k - count) (omega arith) ∙ ap (λ i. get_or (ends_of documents) i 0) e)
        (cases_lt k count)

    ends_more : (row new : Option ℕ) → MeetsEnds documents list count row → (row ≡ None → new ≡ None) → IfSome row (λ from. MatchOption new (HasOther documents from out) (AreEndsTo documents from out))
        → MeetsEnds documents list (count + length out) new
    ends_more None None f none are = f
    ends_more None (Some r) f none are = absurd (let e = none refl in cc)
    ends_more (Some from) None f none are = other_list from f.0 are
    ends_more (Some from) (Some r) f none are = (omega (arith, are.row_is, f.0), are.within, same_more from r f.0 f.2 are)

  module _ (firsts ends : List ℕ) where
    outside_list : HasOutside firsts ends out → AreInRuns firsts ends list → ⊥
    outside_list o all = o.outside (subst (λ x. IsInRun firsts ends x) (sym (elem o.at o.within)) (all (count + o.at) (omega (arith, o.within, room))))

    held_more : ((k : ℕ) → k < count → IsInRun firsts ends (get_or list k 0)) → AreInRuns firsts ends out → (k : ℕ) → k < count + length out → IsInRun firsts ends (get_or list k 0)
    held_more before here k l =
        ⊎_elim (λ w. before k w) (λ ge. subst (λ x. IsInRun firsts ends x) (elem_at k (omega arith) l) (here (k - count) (omega arith))) (cases_lt k count)

    runs_more : (run new : Option ℕ) → MeetsRuns firsts ends list count run → MatchOption run (new ≡ None) (λ from. MatchOption new (HasOutside firsts ends out) (λ r. AreInRuns firsts ends out))
        → MeetsRuns firsts ends list (count + length out) new
    runs_more None None f met = f
    runs_more None (Some r) f met = absurd (let e : Some r ≡ None = met in cc)
    runs_more (Some from) None f met = outside_list met
    runs_more (Some from) (Some r) f met = held_more f met

-- a block of a stream
module _ (bytes out : List ℕ) (at last first end n next : ℕ) (r : IsBlockRead bytes at last first end n next) (filled : out ≡ take n (list_from at 0 last (drop at bytes))) (size : length out ≡ n) where
  block_elem : (k : ℕ) → k < length out → get_or out k 0 ≡ get_or (list_from at 0 last (drop at bytes)) k 0
  block_elem k l = ap (λ xs. get_or xs k 0) filled ∙ get_or-take n (list_from at 0 last (drop at bytes)) k 0 (omega (arith, size))

  block_some : 0 < length out
  block_some = omega (arith, size, r.some)

  block_first : first ≡ get_or out 0 0
  block_first = r.first_is ∙ sym (block_elem 0 block_some)

  pub block_end : end ≡ get_or out (length out - 1) 0
  block_end = let e : n - 1 ≡ length out - 1 = omega (arith, size) in r.last_is ∙ ap (λ i. get_or (list_from at 0 last (drop at bytes)) i 0) e ∙ sym (block_elem (length out - 1) (omega (arith, block_some)))

  -- a run that holds its first and its last location holds each
  pub span_held : (firsts ends : List ℕ) (run : ℕ) → IsRising out → run < length ends → get_or firsts run 0 ≤ first → end ≤ get_or ends run 0 → AreInRuns firsts ends out
  span_held firsts ends run rises inside from to k l = record {
    run = run;
    within = inside;
    from = omega (arith, from, block_first, up_to out 0 k rises (omega arith) l);
    to = omega (arith, to, block_end, up_to out k (length out - 1) rises (omega (arith, l)) (omega (arith, l)));
  }

  module _ (whole : List ℕ) (count : ℕ) (rest : list_from at 0 last (drop at bytes) ≡ drop count whole) (counted : count ≤ length whole) where
    list_elem : (k : ℕ) → k < length out → get_or out k 0 ≡ get_or whole (count + k) 0
    list_elem k l = block_elem k l ∙ ap (λ xs. get_or xs k 0) rest ∙ get_or-drop count whole k 0

    list_room : count + length out ≤ length whole
    list_room = omega (arith, size, counted, r.counted, ap length rest, length-drop count whole)

    pub block_ends : (documents : List DocRow) (row new : Option ℕ) (total : ℕ) → total ≡ count + n → MeetsEnds documents whole count row → (row ≡ None → new ≡ None)
        → IfSome row (λ from. MatchOption new (HasOther documents from out) (AreEndsTo documents from out)) → MeetsEnds documents whole total new
    block_ends documents row new total sum f none are =
        let e : count + length out ≡ total = omega (arith, size, sum) in
        subst (λ (m : ℕ). MeetsEnds documents whole m new) e (ends_more whole out count list_elem list_room documents row new f none are)

    pub block_runs : (firsts ends : List ℕ) (run new : Option ℕ) (total : ℕ) → total ≡ count + n → IsRising whole → MeetsRuns firsts ends whole count run
        → (IsRising out → MatchOption run (new ≡ None) (λ from. MatchOption new (HasOutside firsts ends out) (λ r. AreInRuns firsts ends out))) → MeetsRuns firsts ends whole total new
    block_runs firsts ends run new total sum rises f met =
        let e : count + length out ≡ total = omega (arith, size, sum) in
        subst (λ (m : ℕ). MeetsRuns firsts ends whole m new) e (runs_more whole out count list_elem list_room firsts ends run new f (met (out_rises whole out count list_elem list_room rises)))

-- as many locations as were read are a block
pub block_size : (bytes : List ℕ) (at last first end n next : ℕ) → IsBlockRead bytes at last first end n next → length (block_at bytes at last n) ≡ n
block_size bytes at last first end n next r = length-take-le n (list_from at 0 last (drop at bytes)) r.counted

-- what is known of a block beside the runs, from what is known of its locations
module _ (firsts ends out block : List ℕ) (same : out ≡ block) where
  pub met_within : (run : Option ℕ) → MatchOption run (HasOutside firsts ends out) (AreInRunsTo firsts ends out) → IfSome run (λ r. r ≤ length ends)
  met_within None m = tt
  met_within (Some r) m = m.within

  pub met_passed : (run : Option ℕ) (last : ℕ) → 0 < length out → last ≡ get_or out (length out - 1) 0 → MatchOption run (HasOutside firsts ends out) (AreInRunsTo firsts ends out)
      → IfSome run (λ r. (i : ℕ) → i < r → get_or ends i 0 < last)
  met_passed None last some is m = tt
  met_passed (Some r) last some is m = λ i l. omega (arith, m.passed some i l, is)

  pub met_held : (run : Option ℕ) → MatchOption run (HasOutside firsts ends out) (AreInRunsTo firsts ends out) → MatchOption run (HasOutside firsts ends block) (λ r. AreInRuns firsts ends block)
  met_held None m = subst (λ (l : List ℕ). HasOutside firsts ends l) same m
  met_held (Some r) m = subst (λ (l : List ℕ). AreInRuns firsts ends l) same m.held

at_zero : (xs : List ℕ) (k : ℕ) → get_or xs k 0 ≡ get_or xs (0 + k) 0
at_zero xs k = let e : k ≡ 0 + k = omega arith in ap (λ i. get_or xs i 0) e

-- ---- at the end

pub ordered : (before : Before) (rows : List DocRow) → AreDocumentsBehind before rows → (i : ℕ) → i < length rows → get_or (firsts_of rows) i 0 ≤ get_or (ends_of rows) i 0
unfolding AreDocumentsBehind
ordered before [] h i l = absurd (omega arith)
ordered before (row ∷ rows) h zero l = omega (arith, h.0.some_cells)
ordered before (row ∷ rows) h (suc i) l = ordered (behind_row before row) rows h.1 i (omega arith)

-- the ends of documents lie in their ranges
ends_in_ranges : (documents : List DocRow) → AreDocuments documents → AreInRanges documents (ends_of documents)
ends_in_ranges documents d k l = record {
  row = k;
  within = omega (arith, ends_many documents);
  from = ordered start documents d k (omega (arith, ends_many documents));
  to = omega arith;
}

list_same : (xs ys : List ℕ) → length xs ≡ length ys → ((k : ℕ) → k < length xs → get_or xs k 0 ≡ get_or ys k 0) → xs ≡ ys
list_same [] [] n h = refl
list_same [] (y ∷ ys) n h = absurd (omega arith)
list_same (x ∷ xs) [] n h = absurd (omega arith)
list_same (x ∷ xs) (y ∷ ys) n h =
    ap (λ z. z ∷ xs) (h zero (omega arith)) ∙ ap (λ z. y ∷ z) (list_same xs ys (omega arith) (λ k l. h (suc k) (omega arith)))

module _ (documents : List DocRow) (list : List ℕ) (count : ℕ) (fits : Bool) (d : AreDocuments documents) (all : count ≡ length list) where
  all_ends : (r : ℕ) → r ≡ count → r ≡ length documents → ((k : ℕ) → k < count → get_or list k 0 ≡ get_or (ends_of documents) k 0) → list ≡ ends_of documents
  all_ends r is n same = list_same list (ends_of documents) (omega (arith, ends_many documents)) (λ k l. same k (omega arith))

  pub ends_fit : (row : Option ℕ) → MeetsEnds documents list count row → MatchOption row (fits ≡ false) (λ at. (fits ≡ true) ↔ (at ≡ length documents)) → IsTrue fits ↔ AreFitting documents true list
  ends_fit None f is = (λ t. absurd (let e : fits ≡ false = is in cc), λ a. absurd (f (a.ends_are refl)))
  ends_fit (Some r) f is =
      let (to, from) = is in
      let (x, y, same) = f in (
        λ t. let e = all_ends r x (to t) same in record { within = subst (λ l. AreInRanges documents l) (sym e) (ends_in_ranges documents d); ends_are = λ _. e },
        λ a. from (omega (arith, x, all, ap length (a.ends_are refl), ends_many documents)),
      )

-- ---- and what its row says

module _ (documents : List DocRow) (ends : Bool) (term list : List ℕ) (count : ℕ) (is : (ends ≡ true) ↔ (term ≡ end_term)) where
  pub row_fits : AreFitting documents ends list → length list ≡ count → Fits documents term count list
  row_fits a n = record { counted = n; within = a.within; ends = λ e. a.ends_are (is.1 e) }

  pub fits_row : Fits documents term count list → AreFitting documents ends list
  fits_row f = record { within = f.within; ends_are = λ e. f.ends (is.0 e) }

-- ---- beside the runs

-- all locations lie in runs where the last run that was found says so
pub runs_are : (firsts ends list : List ℕ) (count : ℕ) (fits : Bool) → count ≡ length list → (run : Option ℕ) → MeetsRuns firsts ends list count run → MatchOption run (fits ≡ false) (λ r. fits ≡ true)
    → IsTrue fits ↔ AreInRuns firsts ends list
runs_are firsts ends list count fits all None f is = (λ t. absurd (let e : fits ≡ false = is in cc), λ a. absurd (f a))
runs_are firsts ends list count fits all (Some r) f is = (λ t k l. f k (omega (arith, l, all)), λ a. is)

-- runs hold what the ranges of documents hold
module _ (documents : List DocRow) (firsts ends list : List ℕ) (runs : AreRunsOf documents firsts ends) where
  pub runs_fit : AreInRuns firsts ends list → AreFitting documents false list
  runs_fit held = record { within = λ k l. (runs.same (get_or list k 0)).1 (held k l); ends_are = λ e. absurd cc }

  pub fit_runs : AreFitting documents false list → AreInRuns firsts ends list
  fit_runs f = λ k l. (runs.same (get_or list k 0)).0 (f.within k l)

  pub walked_fits : (ends_asked : Bool) → ends_asked ≡ false → (result : Result Walked PostingFault) → IfOk result (λ w. IsTrue w.fits ↔ AreInRuns firsts ends list)
      → IfOk result (λ w. IsTrue w.fits ↔ AreFitting documents ends_asked list)
  walked_fits asked same (Err fault) h = h
  walked_fits asked same (Ok w) h =
      subst (λ (b : Bool). IsTrue w.fits ↔ AreFitting documents b list) (sym same) (λ t. runs_fit (h.0 t), λ f. h.1 (fit_runs f))

-- ---- a list that was taken whole

pub all_are_ends : (documents : List DocRow) (list : List ℕ) (row : Option ℕ) (fits : Bool) → AreDocuments documents → MatchOption row (HasOther documents 0 list) (AreEndsTo documents 0 list)
    → MatchOption row (fits ≡ false) (λ at. (fits ≡ true) ↔ (at ≡ length documents)) → IsTrue fits ↔ AreFitting documents true list
all_are_ends documents list None fits d are is =
    (λ t. absurd (let e : fits ≡ false = is in cc), λ a. absurd (other_list list list 0 (λ k l. at_zero list k) (omega arith) documents 0 refl are (a.ends_are refl)))
all_are_ends documents list (Some r) fits d are is =
    let same : (k : ℕ) → k < length list → get_or list k 0 ≡ get_or (ends_of documents) k 0 = λ k l. are.same k l ∙ sym (at_zero (ends_of documents) k) in
    ends_fit documents list (length list) fits d refl (Some r) (omega (arith, are.row_is), are.within, same) is

pub all_are_held : (documents : List DocRow) (firsts ends list : List ℕ) (run : Option ℕ) (fits : Bool) → AreRunsOf documents firsts ends
    → MatchOption run (HasOutside firsts ends list) (AreInRunsTo firsts ends list) → MatchOption run (fits ≡ false) (λ r. fits ≡ true) → IsTrue fits ↔ AreFitting documents false list
all_are_held documents firsts ends list None fits runs are is =
    (λ t. absurd (let e : fits ≡ false = is in cc), λ f. absurd (are.outside (fit_runs documents firsts ends list runs f are.at are.within)))
all_are_held documents firsts ends list (Some r) fits runs are is = (λ t. runs_fit documents firsts ends list runs are.held, λ f. is)

-- a list that fits as its term asks
pub fits_by : (documents : List DocRow) (asked : Bool) (term list : List ℕ) (count : ℕ) → ((asked ≡ true) ↔ (term ≡ end_term)) → length list ≡ count
    → (ends : Bool) → asked ≡ ends → (fits : Bool) → IsTrue fits ↔ AreFitting documents ends list → IsTrue fits ↔ Fits documents term count list
fits_by documents asked term list count is many ends same fits h = (
  λ t. row_fits documents asked term list count is (subst (λ (b : Bool). AreFitting documents b list) (sym same) (h.0 t)) many,
  λ f. h.1 (subst (λ (b : Bool). AreFitting documents b list) same (fits_row documents asked term list count is f)),
)
