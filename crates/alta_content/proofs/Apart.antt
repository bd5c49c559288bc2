-- Documents that rise stand apart, and so do their ends.
use Rattle.std.proofs.Common.{ℕ, ◌<◌, List, length, get_or, arith, zero, suc, [], ◌∷◌}
use Rattle.std.proofs.lemmas.List.{length-map}
use Rattle.alta_codec.specs.Rising.{IsRising}
use Rattle.alta_codec.specs.declared.location.TheConstants.{TOP}
use Rattle.alta_content.specs.Rows.{AreDocuments, AreDocumentsBehind, Before, behind_row, end_of, ends_of, firsts_of, start}
use Rattle.alta_content.specs.declared.document.DocRow.{DocRow}

above : (before : Before) (rows : List DocRow) → AreDocumentsBehind before rows → (i : ℕ) → i < length rows
    → (before.end < get_or (firsts_of rows) i 0) × (before.end < get_or (ends_of rows) i 0) × (get_or (ends_of rows) i 0 < TOP)
unfolding AreDocumentsBehind
above before [] h i l = absurd (omega arith)
above before (row ∷ rows) h zero l =
    let f = h.0 in (f.starts_behind, omega (arith, f.starts_behind, f.some_cells), f.end_below)
above before (row ∷ rows) h (suc i) l =
    let f = h.0 in
    let (a, b, c) = above (behind_row before row) rows h.1 i (omega arith) in
    (omega (arith, f.starts_behind, f.some_cells, a), omega (arith, f.starts_behind, f.some_cells, b), c)

pairs : (before : Before) (rows : List DocRow) → AreDocumentsBehind before rows → (i j : ℕ) → i < j → j < length rows
    → (get_or (ends_of rows) i 0 < get_or (firsts_of rows) j 0) × (get_or (ends_of rows) i 0 < get_or (ends_of rows) j 0)
unfolding AreDocumentsBehind
pairs before [] h i j lt l = absurd (omega arith)
pairs before (row ∷ rows) h i zero lt l = absurd (omega arith)
pairs before (row ∷ rows) h zero (suc j) lt l = let (a, b, c) = above (behind_row before row) rows h.1 j (omega arith) in (a, b)
pairs before (row ∷ rows) h (suc i) (suc j) lt l = pairs (behind_row before row) rows h.1 i j (omega arith) (omega arith)

-- the end of a document stands below the first cell of each later one
pub behind : (rows : List DocRow) → AreDocuments rows → (i j : ℕ) → i < j → j < length rows → get_or (ends_of rows) i 0 < get_or (firsts_of rows) j 0
behind rows h i j lt l = (pairs start rows h i j lt l).0

pub ends_rise : (rows : List DocRow) → AreDocuments rows → IsRising (ends_of rows)
ends_rise rows h =
    let n = length-map rows end_of in
    record {
      rising = λ i j lt l. (pairs start rows h i j lt (omega arith)).1;
      positive = λ i l. let (a, b, c) = above start rows h i (omega arith) in omega (arith, b);
      below = λ i l. let (a, b, c) = above start rows h i (omega arith) in c;
    }
