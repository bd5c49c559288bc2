-- The best of rows that are scored one after the other, and what all of it costs.
use Rattle.std.proofs.Common.{◌≡◌, ℕ, zero, suc, ◌+◌, ◌<◌, ◌≤◌, List, [], ◌∷◌, ◌++◌, map, take, drop, length, get_or, refl, sym, subst, ap, ◌∙◌, arith}
use Rattle.std.specs.Prelude.{sum_by}
use Rattle.std.proofs.lemmas.List.{length-map, map_push, take_all, take_more}
use Rattle.std.proofs.lemmas.List.Sums.{sum_by-cons}
use Rattle.alta_content.specs.Rows.{end_of}
use Rattle.alta_content.specs.declared.document.DocRow.{DocRow}
use Rattle.alta_rank.specs.Kept.{IsBest}
use Rattle.alta_rank.specs.Locations.{range_score}
use Rattle.alta_rank.specs.Scoring.{Scoring}
use Rattle.alta_machine.specs.declared.scored.Scored.{Scored}
use Rattle.alta_rank.proofs.Keeping.{best-none}
use Rattle.alta_top.specs.Scoring.{AreScorable, HasScored, IsScorable, scored_by}
use Rattle.alta_search.specs.Told.{no_row, rows_at}
use Rattle.alta_search.specs.Words.{reader_list}
use Rattle.alta_search.specs.declared.test_reader.TestReader.{TestReader}

pub has_none : (s : Scoring TestReader) (steps : ℕ) → HasScored s s steps steps
has_none s steps = record { uses = refl; reads = refl; titles = refl; steps = omega arith }

pub has_more : (old now new : Scoring TestReader) (before steps after : ℕ) → HasScored old now before steps → HasScored now new steps after → HasScored old new before after
has_more old now new before steps after h k = record {
  uses = k.uses ∙ h.uses;
  reads = k.reads ∙ h.reads;
  titles = k.titles ∙ h.titles;
  steps = omega (arith, h.steps, k.steps);
}

-- the first of the rows were taken in, and the others may still be scored
pub record IsRanking (old now : Scoring TestReader) (rows : List DocRow) (picks : List ℕ) (i count : ℕ) (kept : List Scored) : Type 0 where
  pub best : IsBest count (map (scored_by old) (rows_at rows (take i picks))) kept
  pub left : AreScorable now.asked (rows_at rows (drop i picks))

drop_more : (xs : List ℕ) (i d : ℕ) → i < length xs → drop i xs ≡ get_or xs i d ∷ drop (i + 1) xs
drop_more [] i d l = absurd (omega (arith, l))
drop_more (x ∷ xs) zero d l = refl
drop_more (x ∷ xs) (suc i) d l = let e : suc i + 1 ≡ suc (i + 1) = omega arith in drop_more xs i d (omega (arith, l)) ∙ ap (λ n. get_or xs i d ∷ drop n (x ∷ xs)) (sym e)

module _ (old now new : Scoring TestReader) (rows : List DocRow) (picks : List ℕ) (i d count before steps : ℕ) (kept more : List Scored) (row : DocRow) (score : ℕ)
    (is : IsRanking old now rows picks i count kept) (few : length old.uses ≤ 64) (has : HasScored old now before steps) (within : i < length picks)
    (row_is : get_or rows (get_or picks i d) no_row ≡ row)
    (scores : length now.uses ≤ 64 → IsScorable now.asked row → score ≡ range_score now.uses (map reader_list now.readers) (reader_list now.titles) row.first (end_of row))
    (asks : length now.uses ≤ 64 → IsScorable now.asked row → new.asked ≡ end_of row)
    (takes : (every : List Scored) → IsBest count every kept → IsBest count (every ++ record { number = row.number; name = row.name; score = score } ∷ []) more) where
  left_now : AreScorable now.asked (row ∷ rows_at rows (drop (i + 1) picks))
  left_now =
      subst (λ (r : DocRow). AreScorable now.asked (r ∷ rows_at rows (drop (i + 1) picks))) row_is
      (subst (λ xs. AreScorable now.asked (rows_at rows xs)) (drop_more picks i d within) is.left)

  few_now : length now.uses ≤ 64
  few_now = omega (arith, few, ap length has.uses)

  same : scored_by now row ≡ scored_by old row
  same =
      ap (λ us. record { number = row.number; name = row.name; score = range_score us (map reader_list now.readers) (reader_list now.titles) row.first (end_of row) }) has.uses
      ∙ ap (λ ls. record { number = row.number; name = row.name; score = range_score old.uses ls (reader_list now.titles) row.first (end_of row) }) has.reads
      ∙ ap (λ ts. record { number = row.number; name = row.name; score = range_score old.uses (map reader_list old.readers) ts row.first (end_of row) }) has.titles

  taken : record { number = row.number; name = row.name; score = score } ≡ scored_by old row
  taken = ap (λ x. record { number = row.number; name = row.name; score = x }) (scores few_now left_now.0) ∙ same

  rows_more : map (scored_by old) (rows_at rows (take (i + 1) picks)) ≡ map (scored_by old) (rows_at rows (take i picks)) ++ scored_by old row ∷ []
  rows_more =
      ap (λ xs. map (scored_by old) (rows_at rows xs)) (take_more picks i d within)
      ∙ ap (map (scored_by old)) (map_push (λ k. get_or rows k no_row) (take i picks) (get_or picks i d))
      ∙ map_push (scored_by old) (rows_at rows (take i picks)) (get_or rows (get_or picks i d) no_row)
      ∙ ap (λ (r : DocRow). map (scored_by old) (rows_at rows (take i picks)) ++ scored_by old r ∷ []) row_is

  pub ranking_more : IsRanking old new rows picks (i + 1) count more
  ranking_more = record {
    best = subst (λ every. IsBest count every more) (sym rows_more)
        (subst (λ (a : Scored). IsBest count (map (scored_by old) (rows_at rows (take i picks)) ++ a ∷ []) more) taken
        (takes (map (scored_by old) (rows_at rows (take i picks))) is.best));
    left = subst (λ n. AreScorable n (rows_at rows (drop (i + 1) picks))) (sym (asks few_now left_now.0)) left_now.1;
  }

pub rows_size : (rows : List DocRow) (picks : List ℕ) → length (rows_at rows picks) ≡ length picks
rows_size rows picks = length-map picks (λ k. get_or rows k no_row)

-- none was taken in
pub ranking_none : (old : Scoring TestReader) (rows : List DocRow) (picks : List ℕ) (count : ℕ) (kept : List Scored) → kept ≡ [] → AreScorable old.asked (rows_at rows picks)
    → IsRanking old old rows picks 0 count kept
ranking_none old rows [] count kept none may = record { best = subst (IsBest count []) (sym none) (best-none count); left = may }
ranking_none old rows (p ∷ ps) count kept none may = record { best = subst (IsBest count []) (sym none) (best-none count); left = may }

-- all were taken in
pub ranking_all : (old now : Scoring TestReader) (rows : List DocRow) (picks : List ℕ) (i count : ℕ) (kept : List Scored) → IsRanking old now rows picks i count kept → length picks ≤ i
    → IsBest count (map (scored_by old) (rows_at rows picks)) kept
ranking_all old now rows picks i count kept is l = subst (λ xs. IsBest count (map (scored_by old) (rows_at rows xs)) kept) (take_all i picks l) is.best

-- ---- all but the last

pub sum_taken : {X : Type 0} (f : X → ℕ) (xs : List X) (d : X) (n : ℕ) → n + 1 ≡ length xs → sum_by f (take n xs) + f (get_or xs n d) ≡ sum_by f xs
sum_taken f [] d n e = absurd (omega (arith, e))
sum_taken f (x ∷ []) d zero e = omega (arith, sum_by-cons f x [])
sum_taken f (x ∷ y ∷ ys) d zero e = absurd (omega (arith, e))
sum_taken f (x ∷ xs) d (suc n) e = omega (arith, sum_by-cons f x xs, sum_by-cons f x (take n xs), sum_taken f xs d n (omega (arith, e)))
