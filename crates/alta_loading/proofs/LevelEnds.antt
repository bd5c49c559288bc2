-- Exactly the last cell of each document of a level is an end.
use Rattle.std.proofs.Common.{◌≡◌, ◌⊎◌, ⊎_elim, inl, inr, ℕ, ◌+◌, ◌<◌, ◌||◌, true, false, cond, List, [], ◌∷◌, ◌++◌, length, map, sym, ap, subst, ◌∙◌, arith}
use Rattle.std.specs.Prelude.{◌↔◌, All, Contains, IsTrue}
use Rattle.std.specs.List.{list_any}
use Rattle.std.specs.Str.{bytes_eq}
use Rattle.std.proofs.lemmas.Bool.{cases_Bool, true≢false}
use Rattle.std.proofs.lemmas.List.Elements.{All-nil, All-cons, All-head, All-tail, All-weaker}
use Rattle.alta_codec.proofs.Places.{Contains-head, Contains-tail, Contains-cases, not-Contains-nil}
use Rattle.alta_compile.specs.Space.{Placed, IsSpace, document_end}
use Rattle.alta_compile.proofs.Spaces.{Has, at_met, contains_has, has_contains, met_at}
use Rattle.alta_content.specs.Lists.{AreListsBehind, IsContent, end_term, is_end_list, locations_of}
use Rattle.alta_content.specs.Rows.{RowsRise, end_of, ends_of}
use Rattle.alta_content.specs.declared.content.Content.{Content}
use Rattle.alta_content.specs.TermList.{TermList}
use Rattle.alta_content.specs.declared.document.DocRow.{DocRow}
use Rattle.alta_content.proofs.Contents.{lists_rise, rows_rise}
use Rattle.alta_content.proofs.Order.{itself, same_term}
use Rattle.alta_meaning.specs.Levels.{Level, cell_at}
use Rattle.alta_meaning.proofs.KnownLaws.{all_both}
use Rattle.alta_loading.proofs.LevelSpaces.{IsWritten, of_levels}
use Rattle.alta_loading.proofs.ReadOff.{added_in, among_contains, cell_meets, cell_met, cells_long, contains_among, has_row, met_cell, read_off}
use Rattle.alta_memlevel.specs.Added.{Added}
use Rattle.alta_memlevel.specs.Added as mem
use Rattle.alta_memlevel.specs.Documents.{AreMade}
use Rattle.alta_machine.specs.Patterns.{IsMet}
use Rattle.alta_search.proofs.NewestAnswers.{added-apart, added-space}
use Rattle.alta_search.proofs.NewestLists.{placed_of, space_of}

-- ---- the list of ends

flipped : (t u : List ℕ) → bytes_eq t u ≡ false → bytes_eq u t ≡ false
flipped t u differs = ⊎_elim (λ y. absurd (true≢false (sym (itself t) ∙ ap (bytes_eq t) (sym (same_term u t y)) ∙ differs))) (λ n. n) (cases_Bool (bytes_eq u t))

ends_behind : (documents : List DocRow) (before : List ℕ) (lists : List TermList) → AreListsBehind documents before lists → IsTrue (list_any is_end_list lists) → locations_of lists end_term ≡ ends_of documents
unfolding AreListsBehind
ends_behind documents before [] h some = absurd (true≢false (sym some))
ends_behind documents before (l ∷ ls) (m, more) some =
    ⊎_elim
    (λ y. ap (λ b. cond b l.locations (locations_of ls end_term)) y ∙ m.ends (sym (same_term end_term l.term y)))
    (λ n. ap (λ b. cond b l.locations (locations_of ls end_term)) n
    ∙ ends_behind documents l.term ls more (subst (λ b. (b || list_any is_end_list ls) ≡ true) (flipped end_term l.term n) some))
    (cases_Bool (bytes_eq end_term l.term))

-- ---- the ends of rows

later_end : (low : ℕ) (rows : List DocRow) (z : ℕ) → All (λ (r : DocRow). low < r.first) rows → RowsRise rows → Contains (map end_of rows) z → low < z
later_end low [] z h r m = absurd (not-Contains-nil z m)
later_end low (row ∷ rows) z h (placed, behind, rest) m =
    let First : DocRow → Type 0 = λ r. low < r.first in
    ⊎_elim
    (λ e. omega (arith, e, All-head First row rows h, placed.some))
    (λ n. later_end low rows z (All-tail First row rows h) rest n)
    (Contains-cases (end_of row) (map end_of rows) z m)

-- in the range of a row its end alone is one of the ends
abbrev HasOwnEnd : List DocRow → DocRow → Type 0
HasOwnEnd rows r = ((p : ℕ) → p < r.cells → Contains (map end_of rows) (r.first + p) → p + 1 ≡ r.cells) × Contains (map end_of rows) (end_of r)

own_ends : (rows : List DocRow) → RowsRise rows → All (HasOwnEnd rows) rows
own_ends [] r = All-nil (HasOwnEnd [])
own_ends (row ∷ rows) (placed, behind, rest) =
    let ends = map end_of rows in
    let some = placed.some in
    All-cons (HasOwnEnd (row ∷ rows)) row rows (
      λ p l m. ⊎_elim
          (λ e. omega (arith, e, some, l))
          (λ n. absurd (omega (arith, l, some, later_end (end_of row) rows (row.first + p) behind rest n)))
          (Contains-cases (end_of row) ends (row.first + p) m),
      Contains-head (end_of row) ends,
    )
    (All-weaker (λ (r : DocRow). HasOwnEnd rows r × (end_of row < r.first)) (HasOwnEnd (row ∷ rows))
    (λ r both. (
      λ p l m. ⊎_elim
          (λ e. absurd (omega (arith, e, both.1)))
          (λ n. both.0.0 p l n)
          (Contains-cases (end_of row) ends (r.first + p) m),
      Contains-tail (end_of row) ends (end_of r) both.0.1,
    ))
    rows (all_both (HasOwnEnd rows) (λ (r : DocRow). end_of row < r.first) rows (own_ends rows rest) behind))

-- ---- the documents of a level

abbrev IsEnded : Placed → Type 0
IsEnded d = (place : ℕ) → IsMet d.cells document_end place ↔ (place + 1 ≡ length d.cells)

module _ (c : Content) (is : IsContent c) where
  ends_are : locations_of c.lists end_term ≡ ends_of c.documents
  ends_are = ends_behind c.documents [] c.lists is.lists_stand is.has_end

  row_ended : (row : DocRow) → HasOwnEnd c.documents row → 0 < row.cells → IsEnded (placed_of (read_off c.lists row))
  row_ended row own some place =
      let cells = (read_off c.lists row).cells in
      let long : length cells ≡ row.cells = cells_long (cell_at c.lists) row.first row.cells in
      let sorted = lists_rise c.documents [] c.lists is.lists_stand in (
        λ met.
            let at = cell_met document_end (cell_at c.lists) row.first row.cells place (at_met document_end cells place met) in
            let there = among_contains (row.first + place) (locations_of c.lists end_term) (sym (cell_meets c.lists (row.first + place) end_term sorted) ∙ at.1) in
            own.0 place at.0 (subst (λ (xs : List ℕ). Contains xs (row.first + place)) ends_are there) ∙ sym long,
        λ last.
            let within : place < row.cells = omega (arith, last, long) in
            let here : end_of row ≡ row.first + place = omega (arith, last, long, some) in
            let there = contains_among (row.first + place) (locations_of c.lists end_term) (subst (λ (xs : List ℕ). Contains xs (row.first + place)) (sym ends_are) (subst (Contains (ends_of c.documents)) here own.1)) in
            met_at document_end cells place (met_cell document_end (cell_at c.lists) row.first row.cells place within (cell_meets c.lists (row.first + place) end_term sorted ∙ there)),
      )

  level_ended : (d : Placed) → Has (space_of (added_in c)) d → IsEnded d
  level_ended d m =
      let rise = rows_rise c.documents is.documents_stand in
      let Keeps : DocRow → Type 0 = λ r. HasOwnEnd c.documents r × (0 < r.cells) in
      let (row, same, keeps) = has_row Keeps c.lists c.documents d (all_both (HasOwnEnd c.documents) (λ (r : DocRow). 0 < r.cells) c.documents (own_ends c.documents rise) (some_each c.documents rise)) m in
      subst IsEnded same (row_ended row keeps.0 keeps.1)
    where
      some_each : (rows : List DocRow) → RowsRise rows → All (λ (r : DocRow). 0 < r.cells) rows
      some_each [] r = All-nil (λ (r : DocRow). 0 < r.cells)
      some_each (row ∷ rows) (placed, behind, rest) = All-cons (λ (r : DocRow). 0 < r.cells) row rows (omega (arith, placed.some)) (some_each rows rest)

-- ---- all documents

has_parts : (a b : List Added) (d : Placed) → Has (space_of (a ++ b)) d → Has (space_of a) d ⊎ Has (space_of b) d
has_parts [] b d m = inr m
has_parts (x ∷ xs) b d m =
    ⊎_elim (λ e. inl (inl e)) (λ n. ⊎_elim (λ k. inl (inr k)) (λ k. inr k) (has_parts xs b d n)) m

levels_ended : (levels : List Level) (image : List ℕ) (d : Placed) → All (IsWritten image) levels → Has (space_of (of_levels levels)) d → IsEnded d
levels_ended [] image d s m = absurd m
levels_ended (l ∷ ls) image d s m =
    ⊎_elim
    (λ here. level_ended l.content (All-head (IsWritten image) l ls s).stands d here)
    (λ later. levels_ended ls image d (All-tail (IsWritten image) l ls s) later)
    (has_parts (added_in l.content) (of_levels ls) d m)

-- the documents of levels and behind them the newest ones are a space
pub whole_space : (levels : List Level) (image : List ℕ) (added : List Added) → All (IsWritten image) levels → mem.IsSpace added → AreMade added → mem.IsSpace (of_levels levels ++ added)
    → IsSpace (space_of (of_levels levels ++ added))
whole_space levels image added s space made all = record {
  apart = added-apart (of_levels levels ++ added) all;
  ended = λ d c place.
      ⊎_elim
      (λ old. levels_ended levels image d s old place)
      (λ new. (added-space added space made).ended d (contains_has (space_of added) d new) place)
      (has_parts (of_levels levels) added d (has_contains (space_of (of_levels levels ++ added)) d c));
}
