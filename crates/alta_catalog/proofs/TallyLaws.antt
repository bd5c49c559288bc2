-- What is counted of live documents, row by row and level by level.
use Rattle.std.proofs.Common.{◌≡◌, ℕ, zero, suc, ◌+◌, ◌-◌, ◌<◌, ◌≤◌, true, false, not, List, [], ◌∷◌, ◌++◌, length, drop, get_or, take, sym, ◌∙◌, ap, subst, arith, append_assoc, length-append}
use Rattle.std.specs.List.{sum_by}
use Rattle.std.proofs.lemmas.List.{append-nil, drop_more, take_more}
use Rattle.std.proofs.lemmas.List.Elements.{filter-append}
use Rattle.std.proofs.lemmas.List.Sums.{sum_by-append, sum_by-cons}
use Rattle.alta_codec.specs.declared.location.TheConstants.{TOP}
use Rattle.alta_content.specs.Rows.{AreDocumentsBehind, Before, behind_row, end_of, ends_among, live_rows}
use Rattle.alta_content.specs.declared.document.DocRow.{DocRow}
use Rattle.alta_meaning.specs.Opened.{table_rows}
use Rattle.alta_meaning.proofs.Tests.{filter_drop, filter_keep}
use Rattle.alta_table.specs.Tables.{Tables}
use Rattle.alta_catalog.specs.Counting.{IsTally, cells_in, row_words}
use Rattle.alta_catalog.specs.declared.starting.Tally.{Tally}
use Rattle.alta_catalog.proofs.FindingLaws.{rows_next}

live_append : (gone : List ℕ) (xs ys : List DocRow) → live_rows gone (xs ++ ys) ≡ live_rows gone xs ++ live_rows gone ys
live_append gone xs ys = filter-append (λ (row : DocRow). not (ends_among gone row)) xs ys

-- a row whose document is not live
pub tally_dead : (gone : List ℕ) (before : List DocRow) (row : DocRow) (tally : Tally) → ends_among gone row ≡ true → IsTally gone before tally → IsTally gone (before ++ row ∷ []) tally
tally_dead gone before row tally dead is =
    let same : live_rows gone (before ++ row ∷ []) ≡ live_rows gone before =
    live_append gone before (row ∷ []) ∙ ap (λ (rs : List DocRow). live_rows gone before ++ rs) (filter_drop (λ (r : DocRow). not (ends_among gone r)) row [] (ap not dead)) ∙ append-nil (live_rows gone before) in
    record { documents = is.documents ∙ ap (λ (rs : List DocRow). length rs) (sym same); words = is.words ∙ ap (λ (rs : List DocRow). sum_by row_words rs) (sym same) }

-- and one whose document is
pub tally_live : (gone : List ℕ) (before : List DocRow) (row : DocRow) (tally new : Tally) → ends_among gone row ≡ false → IsTally gone before tally
    → new.documents ≡ tally.documents + 1 → new.words ≡ tally.words + (row.cells - 3) → IsTally gone (before ++ row ∷ []) new
tally_live gone before row tally new alive is documents words =
    let same : live_rows gone (before ++ row ∷ []) ≡ live_rows gone before ++ row ∷ [] =
    live_append gone before (row ∷ []) ∙ ap (λ (rs : List DocRow). live_rows gone before ++ rs) (filter_keep (λ (r : DocRow). not (ends_among gone r)) row [] (ap not alive)) in
    record {
      documents = omega (arith, documents, is.documents, ap (λ (rs : List DocRow). length rs) same, length-append (live_rows gone before) (row ∷ []));
      words = omega (arith, words, is.words, ap (λ (rs : List DocRow). sum_by row_words rs) same, sum_by-append row_words (live_rows gone before) (row ∷ []), sum_by-cons row_words row []);
    }

-- ---- rows
stands_at : (before : Before) (rows : List DocRow) → AreDocumentsBehind before rows → (i : ℕ) (d : DocRow) → i < length rows → (3 ≤ (get_or rows i d).cells) × (end_of (get_or rows i d) < TOP)
unfolding AreDocumentsBehind
stands_at before [] are i d inside = absurd (omega (arith, inside))
stands_at before (row ∷ rows) are zero d inside = (are.0.some_cells, are.0.end_below)
stands_at before (row ∷ rows) are (suc i) d inside = stands_at (behind_row before row) rows are.1 i d (omega (arith, inside))

module _ (rows : List DocRow) (i : ℕ) (row : DocRow) (inside : i < length rows) (is : row ≡ get_or rows i row) where
  pub row_stands : (before : Before) → AreDocumentsBehind before rows → (3 ≤ row.cells) × (end_of row < TOP)
  row_stands before are = subst (λ (r : DocRow). (3 ≤ r.cells) × (end_of r < TOP)) (sym is) (stands_at before rows are i row inside)

  pub cells_next : cells_in (drop i rows) ≡ row.cells + cells_in (drop (i + 1) rows)
  cells_next =
      ap cells_in (drop_more rows i row inside ∙ ap (λ (r : DocRow). r ∷ drop (i + 1) rows) (sym is))
      ∙ sum_by-cons (λ (r : DocRow). r.cells) row (drop (i + 1) rows)

  pub tally_next : (gone : List ℕ) (before : List DocRow) (tally : Tally) → IsTally gone ((before ++ take i rows) ++ row ∷ []) tally → IsTally gone (before ++ take (i + 1) rows) tally
  tally_next gone before tally counted =
      subst (λ (rs : List DocRow). IsTally gone rs tally)
      (append_assoc before (take i rows) (row ∷ []) ∙ ap (λ (rs : List DocRow). before ++ rs) (sym (take_more rows i row inside ∙ ap (λ (r : DocRow). take i rows ++ r ∷ []) (sym is)))) counted

-- ---- levels
module _ (levels : List Tables) (i : ℕ) (level : Tables) (inside : i < length levels) (is : level ≡ get_or levels i level) where
  pub level_cells : cells_in (table_rows (drop i levels)) ≡ cells_in level.documents + cells_in (table_rows (drop (i + 1) levels))
  level_cells =
      ap (λ (ls : List Tables). cells_in (table_rows ls)) (drop_more levels i level inside ∙ ap (λ (l : Tables). l ∷ drop (i + 1) levels) (sym is))
      ∙ sum_by-append (λ (r : DocRow). r.cells) level.documents (table_rows (drop (i + 1) levels))

  pub tally_level : (gone : List ℕ) (tally : Tally) → IsTally gone (table_rows (take i levels) ++ level.documents) tally → IsTally gone (table_rows (take (i + 1) levels)) tally
  tally_level gone tally counted = subst (λ (rs : List DocRow). IsTally gone rs tally) (sym (rows_next levels i level inside is)) counted
