-- Rows that are scored where the next location of a use leads.
use Rattle.std.proofs.Common.{◌≡◌, ⊎_elim, ℕ, zero, suc, ◌+◌, ◌-◌, ◌<◌, ◌≤◌, ltb, Bool, false, not, ◌&&◌, List, [], ◌∷◌, ◌++◌, map, take, drop, take-append-drop, length, get_or, refl, sym, subst, ap, ◌∙◌, arith, length-append}
use Rattle.std.specs.Prelude.{All, filter}
use Rattle.std.proofs.lemmas.Bool.{cases_lt}
use Rattle.std.proofs.lemmas.List.{append-nil, drop-drop, drop-take, drop_more, get_or-drop, get_or-map, length-drop, map-append, take-take, take_all, take_more}
use Rattle.std.proofs.lemmas.List.Elements.{All-head, All-tail, filter-append}
use Rattle.alta_codec.specs.Rising.{first_from}
use Rattle.alta_codec.proofs.Places.{first_from-least}
use Rattle.alta_content.specs.Rows.{end_of, ends_of}
use Rattle.alta_content.specs.declared.document.DocRow.{DocRow}
use Rattle.alta_docread.specs.Kept.{has}
use Rattle.alta_machine.specs.Scores.{weight}
use Rattle.alta_machine.specs.declared.scored.Scored.{Scored}
use Rattle.alta_machine.specs.declared.usage.Use.{Use}
use Rattle.alta_rank.proofs.Counting.{within, within-past, within-skip}
use Rattle.alta_rank.proofs.Keeping.{best-none}
use Rattle.alta_rank.proofs.Scores.{range-cons}
use Rattle.alta_rank.specs.Kept.{IsBest}
use Rattle.alta_rank.specs.Locations.{ends_behind, list_score, range_score}
use Rattle.alta_rank.specs.Scoring.{Scoring}
use Rattle.alta_top.specs.Ranking.{AreRanked, TakesIn, is_scored, scored_rows}
use Rattle.alta_top.specs.Scoring.{AreScorable, HasScored, IsScorable, scored_by}
use Rattle.alta_search.specs.Told.{no_row}
use Rattle.alta_search.specs.Words.{reader_list}
use Rattle.alta_search.specs.declared.test_reader.TestReader.{TestReader}
use Rattle.alta_search.proofs.Rows.{filter_no}

-- ---- a range in which no list has a location

list_none : (title : Bool) (list titles : List ℕ) (first end asked at : ℕ) → asked < first → first ≤ end → end < at → at ≤ first_from list (asked + 1)
    → list_score title list titles first end ≡ 0
unfolding within
list_none title list titles first end asked at low le high least =
    let f : ℕ → ℕ = λ x. weight title (ends_behind titles end x) in
    within-skip f end list first (end + 1) (λ z m from. omega (arith, first_from-least list (asked + 1) z m (omega (arith, low, from)), least, high)) (omega (arith, le))
    ∙ within-past f end list (end + 1) (omega arith)

range_none : (us : List Use) (lists : List (List ℕ)) (titles : List ℕ) (first end asked at : ℕ) → asked < first → first ≤ end → end < at
    → All (λ list. at ≤ first_from list (asked + 1)) lists → range_score us lists titles first end ≡ 0
range_none [] lists titles first end asked at low le high least = refl
range_none (u ∷ us) [] titles first end asked at low le high least = refl
range_none (u ∷ us) (l ∷ ls) titles first end asked at low le high least =
    let P : List ℕ → Type 0 = λ list. at ≤ first_from list (asked + 1) in
    omega (
      arith,
      range-cons u us l ls titles first end,
      list_none u.title l titles first end asked at low le high (All-head P l ls least),
      range_none us ls titles first end asked at low le high (All-tail P l ls least),
    )

-- ---- rows that are passed

lower : (asked higher : ℕ) (rows : List DocRow) → asked ≤ higher → AreScorable higher rows → AreScorable asked rows
lower asked higher [] le h = tt
lower asked higher (row ∷ rows) le (may, rest) = (record { behind = omega (arith, le, may.behind); some = may.some; few = may.few; below = may.below }, rest)

row_end : (asked : ℕ) (row : DocRow) → IsScorable asked row → (asked < row.first) × (row.first ≤ end_of row)
row_end asked row may = (may.behind, omega (arith, may.some))

module _ (s : Scoring TestReader) (gone : List ℕ) (asked at : ℕ) (least : All (λ list. at ≤ first_from list (asked + 1)) (map reader_list s.readers)) where
  unscored : (row : DocRow) → IsScorable asked row → end_of row < at → is_scored s gone row ≡ false
  unscored row may high =
      let (low, le) = row_end asked row may in
      ap (λ n. ltb 0 n && not (has gone (end_of row)))
      (range_none s.uses (map reader_list s.readers) (reader_list s.titles) row.first (end_of row) asked at low le high least)

  pub skipped : (n : ℕ) (rows : List DocRow) → AreScorable asked rows → n ≤ length rows → ((k : ℕ) → k < n → end_of (get_or rows k no_row) < at)
      → (scored_rows s gone (take n rows) ≡ []) × AreScorable asked (drop n rows)
  skipped zero rows may few high = (refl, may)
  skipped (suc n) [] may few high = absurd (omega (arith, few))
  skipped (suc n) (row ∷ rows) (may, rest) few high =
      let (low, le) = row_end asked row may in
      let (none, left) = skipped n rows (lower asked (end_of row) rows (omega (arith, low, le)) rest) (omega (arith, few)) (λ k l. high (suc k) (omega (arith, l))) in
      (filter_no (is_scored s gone) row (take n rows) (unscored row may (high 0 (omega arith))) ∙ none, left)

take_on : {X : Type 0} (p n : ℕ) (xs : List X) → take (p + n) xs ≡ take p xs ++ take n (drop p xs)
take_on p n xs =
    sym (take-append-drop p (take (p + n) xs))
    ∙ ap (λ l. l ++ drop p (take (p + n) xs)) (take-take p (p + n) xs (omega arith))
    ∙ ap (λ l. take p xs ++ l) (drop-take p n xs)

-- ---- what a walk that passed rows says of them

module _ (ws rows : List DocRow) (same : ws ≡ rows) where
  pub end_read : (k : ℕ) → k < length rows → get_or (ends_of ws) k 0 ≡ end_of (get_or rows k no_row)
  end_read k l = ap (λ rs. get_or (ends_of rs) k 0) same ∙ get_or-map end_of rows k no_row 0 l

  pub past_below : (passed at : ℕ) → ((k : ℕ) → k < passed → get_or (ends_of ws) k 0 < at) → (k : ℕ) → k < passed → k < length rows
      → end_of (get_or rows k no_row) < at
  past_below passed at past k l inside = omega (arith, past k l, end_read k inside)

  -- where all were passed
  pub all_below : (passed at : ℕ) → ((k : ℕ) → k < passed → get_or (ends_of ws) k 0 < at) → length ws ≤ passed → All (λ r. end_of r < at) rows
  all_below passed at past whole = λ k d l.
      omega (arith, past k (omega (arith, whole, l, ap length same)), ap (λ rs. get_or (ends_of rs) k 0) same, get_or-map end_of rows k d 0 l)

-- ---- what does not change while documents are scored

module _ (old now : Scoring TestReader) (gone : List ℕ) (before after : ℕ) (has_scored : HasScored old now before after) where
  abbrev test_by : List Use → List (List ℕ) → List ℕ → DocRow → Bool
  test_by us ls ts row = ltb 0 (range_score us ls ts row.first (end_of row)) && not (has gone (end_of row))

  abbrev told_by : List Use → List (List ℕ) → List ℕ → DocRow → Scored
  told_by us ls ts row = record { number = row.number; name = row.name; score = range_score us ls ts row.first (end_of row) }

  pub same_rows : (rows : List DocRow) → scored_rows now gone rows ≡ scored_rows old gone rows
  same_rows rows =
      ap (λ us. filter (test_by us (map reader_list now.readers) (reader_list now.titles)) rows) has_scored.uses
      ∙ ap (λ ls. filter (test_by old.uses ls (reader_list now.titles)) rows) has_scored.reads
      ∙ ap (λ ts. filter (test_by old.uses (map reader_list old.readers) ts) rows) has_scored.titles

  pub same_told : (rows : List DocRow) → map (scored_by now) rows ≡ map (scored_by old) rows
  same_told rows =
      ap (λ us. map (told_by us (map reader_list now.readers) (reader_list now.titles)) rows) has_scored.uses
      ∙ ap (λ ls. map (told_by old.uses ls (reader_list now.titles)) rows) has_scored.reads
      ∙ ap (λ ts. map (told_by old.uses (map reader_list old.readers) ts) rows) has_scored.titles

-- ---- the walk

-- The rows to a place were taken in, and those behind it may still be scored; they end behind the last end asked.
pub record IsUpTo (old now : Scoring TestReader) (gone : List ℕ) (rows : List DocRow) (count : ℕ) (kept : List Scored) (found : ℕ) : Type 0 where
  pub passed : ℕ
  pub few : passed ≤ length rows
  pub ranked : AreRanked old gone (take passed rows) count kept found
  pub left : AreScorable now.asked (drop passed rows)
  pub behind : (k : ℕ) → k < passed → end_of (get_or rows k no_row) ≤ now.asked

-- The rows to this one were taken in, and it may be scored.
pub record IsAtRow (old now : Scoring TestReader) (gone : List ℕ) (rows : List DocRow) (count : ℕ) (kept : List Scored) (found i : ℕ) : Type 0 where
  pub ranked : AreRanked old gone (take i rows) count kept found
  pub left : AreScorable now.asked (drop i rows)

pub up_to_none : (old : Scoring TestReader) (gone : List ℕ) (rows : List DocRow) (count : ℕ) (kept : List Scored) → kept ≡ [] → AreScorable old.asked rows
    → IsUpTo old old gone rows count kept 0
up_to_none old gone rows count kept none may = record {
  passed = 0;
  few = omega arith;
  ranked = record { best = subst (IsBest count []) (sym none) (best-none count); size = refl };
  left = may;
  behind = λ k l. absurd (omega (arith, l));
}

module _ (old now next : Scoring TestReader) (gone : List ℕ) (rows : List DocRow) (count : ℕ) (kept : List Scored) (found : ℕ) where
  -- it goes on to a row, where all before end below the next location
  pub at_row : (before after at i : ℕ) → HasScored old now before after → next.asked ≡ now.asked
      → IsUpTo old now gone rows count kept found → now.asked < at
      → All (λ list. at ≤ first_from list (now.asked + 1)) (map reader_list now.readers) → i ≤ length rows
      → ((k : ℕ) → k < i → end_of (get_or rows k no_row) < at) → (i < length rows → at ≤ end_of (get_or rows i no_row))
      → IsAtRow old next gone rows count kept found i
  at_row before after at i past same up above least inside below here =
      let p = up.passed in
      let up_to : p ≤ i = ⊎_elim (λ less. absurd (omega (arith, up.behind i less, here (omega (arith, less, up.few)), above))) (λ le. le) (cases_lt i p) in
      let n = i - p in let whole : p + n ≡ i = omega (arith, up_to) in
      let (none, left) = skipped now gone now.asked at least n (drop p rows) up.left (omega (arith, length-drop p rows, inside, up_to))
      (λ k l. omega (arith, below (p + k) (omega (arith, l)), ap end_of (get_or-drop p rows k no_row))) in
      let front : scored_rows old gone (take i rows) ≡ scored_rows old gone (take p rows) =
      ap (λ k. scored_rows old gone (take k rows)) (sym whole)
      ∙ ap (scored_rows old gone) (take_on p n rows)
      ∙ filter-append (is_scored old gone) (take p rows) (take n (drop p rows))
      ∙ ap (λ l. scored_rows old gone (take p rows) ++ l) (sym (same_rows old now gone before after past (take n (drop p rows))) ∙ none)
      ∙ append-nil (scored_rows old gone (take p rows)) in
      record {
        ranked = record {
          best = subst (λ l. IsBest count (map (scored_by old) l) kept) (sym front) up.ranked.best;
          size = up.ranked.size ∙ ap length (sym front);
        };
        left = subst (λ a. AreScorable a (drop i rows)) (sym same) (subst (λ k. AreScorable now.asked (drop k rows)) whole (subst (AreScorable now.asked) (drop-drop n p rows) left));
      }

module _ (old now : Scoring TestReader) (gone : List ℕ) (rows : List DocRow) (count : ℕ) (kept : List Scored) (found i : ℕ) (at_it : IsAtRow old now gone rows count kept found i) where
  -- behind all rows
  pub all_taken : length rows ≤ i → AreRanked old gone rows count kept found
  all_taken past = subst (λ l. AreRanked old gone l count kept found) (take_all i rows past) at_it.ranked

  module _ (row : DocRow) (within : i < length rows) (is : get_or rows i no_row ≡ row) where
    here : AreScorable now.asked (row ∷ drop (i + 1) rows)
    here = subst (λ (r : DocRow). AreScorable now.asked (r ∷ drop (i + 1) rows)) is (subst (AreScorable now.asked) (drop_more rows i no_row within) at_it.left)

    pub may : IsScorable now.asked row
    may = here.0

    -- the row is taken in
    pub row_more : (before after : ℕ) (new : Scoring TestReader) (taken : List Scored) (one at : ℕ) → HasScored old now before after → new.asked ≡ end_of row
        → TakesIn now gone row count kept taken one → at ≤ end_of row → ((k : ℕ) → k < i → end_of (get_or rows k no_row) < at)
        → IsUpTo old new gone rows count taken (found + one)
    row_more before after new taken one at past asks takes high below =
        let old_rows = scored_rows old gone (take i rows) in let more = scored_rows old gone (row ∷ []) in
        let same : scored_rows now gone (row ∷ []) ≡ more = same_rows old now gone before after past (row ∷ []) in
        let told : map (scored_by now) (scored_rows now gone (row ∷ [])) ≡ map (scored_by old) more =
        ap (map (scored_by now)) same ∙ same_told old now gone before after past more in
        let front : scored_rows old gone (take (i + 1) rows) ≡ old_rows ++ more =
        ap (scored_rows old gone) (take_more rows i no_row within)
        ∙ filter-append (is_scored old gone) (take i rows) (get_or rows i no_row ∷ [])
        ∙ ap (λ (r : DocRow). old_rows ++ scored_rows old gone (r ∷ [])) is in
        record {
          passed = i + 1;
          few = omega (arith, within);
          ranked = record {
            best = subst (λ l. IsBest count l taken)
                (ap (λ l. map (scored_by old) old_rows ++ l) told ∙ sym (map-append (scored_by old) old_rows more) ∙ ap (map (scored_by old)) (sym front))
                (takes.best (map (scored_by old) old_rows) at_it.ranked.best);
            size = omega (arith, at_it.ranked.size, takes.size, ap length same, length-append old_rows more, ap length front);
          };
          left = subst (λ a. AreScorable a (drop (i + 1) rows)) (sym asks) here.1;
          behind = λ k l. ⊎_elim
              (λ less. omega (arith, below k less, high, asks))
              (λ ge. let last : k ≡ i = omega (arith, l, ge) in omega (arith, ap (λ m. end_of (get_or rows m no_row)) last, ap end_of is, asks))
              (cases_lt k i);
        }
