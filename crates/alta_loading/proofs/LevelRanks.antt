-- Documents as they are ranked: read off levels and the newest ones, with their cells, of which there are not too many, and with numbers that differ.
use Rattle.std.proofs.Common.{◌≡◌, ◌≢◌, ℕ, suc, ◌<◌, ◌≤◌, Bool, true, false, not, cond, ◌&&◌, List, [], ◌∷◌, ◌++◌, map, length, get_or, refl, sym, ap, ◌∙◌, arith}
use Rattle.std.specs.Prelude.{All, AllPairs, nat_eq}
use Rattle.std.specs.List.{filter}
use Rattle.std.proofs.lemmas.Bool.{eq-eqb}
use Rattle.std.proofs.lemmas.Bool.Decides.{nat_tests}
use Rattle.std.proofs.lemmas.List.Elements.{All-nil, All-cons, All-head, All-tail, All-append, All-map, All-weaker}
use Rattle.std.proofs.lemmas.List.Kept.{AllPairs-cons, AllPairs-filter}
use Rattle.alta_content.specs.Rows.{AreDocumentsBehind, Before, behind_row, end_of, ends_among, start}
use Rattle.alta_content.specs.Cells.{cell_at}
use Rattle.alta_content.specs.TermList.{TermList}
use Rattle.alta_content.specs.declared.document.DocRow.{DocRow}
use Rattle.alta_meaning.specs.Levels.{Level}
use Rattle.alta_loading.proofs.LevelSpaces.{IsWritten, of_levels, rows_added}
use Rattle.alta_loading.proofs.ReadOff.{added_in, cells_long, read_off}
use Rattle.alta_memlevel.specs.Added.{Added, IsSpace, live_of}
use Rattle.alta_memlevel.specs.Documents.{AreMade, IsMade, document_in}
use Rattle.alta_machine.specs.declared.document.Document.{Document}
use Rattle.alta_machine.specs.Deciding.{answers, is_match}
use Rattle.alta_machine.specs.Shape.{Shape}
use Rattle.alta_search.specs.Tops.{IsShort, cells_from, number_of}
use Rattle.alta_search.proofs.NewestLists.{placed_of, space_of}

-- ---- the documents that are answers

-- whether a document is left and matches
abbrev pub is_left : List ℕ → Shape → Added → Bool
is_left gone q a = not (ends_among gone a.row) && is_match a.cells q

module _ (p : DocRow → Bool) (gone : List ℕ) (q : Shape) (f : DocRow → Document) where
  abbrev AnswersAre : List Added → Type 0
  AnswersAre added = map f (filter p (rows_added added)) ≡ answers (map document_in (live_of gone added)) q

  -- a document more, which is an answer or is none
  module _ (a : Added) (more : List Added) (rest : AnswersAre more) (same : f a.row ≡ document_in a) where
    abbrev rows : List DocRow
    rows = filter p (rows_added more)

    abbrev later : List Document
    later = answers (map document_in (live_of gone more)) q

    one_more : (e m : Bool) → is_match a.cells q ≡ m
        → map f (cond (not e && m) (a.row ∷ rows) rows) ≡ answers (map document_in (cond (not e) (a ∷ live_of gone more) (live_of gone more))) q
    one_more true m is = rest
    one_more false true is = ap (λ d. d ∷ map f rows) same ∙ ap (λ l. document_in a ∷ l) rest ∙ sym (ap (λ b. cond b (document_in a ∷ later) later) is)
    one_more false false is = rest ∙ sym (ap (λ b. cond b (document_in a ∷ later) later) is)

    answers_more : p a.row ≡ is_left gone q a → AnswersAre (a ∷ more)
    answers_more is = ap (λ b. map f (cond b (a.row ∷ rows) rows)) is ∙ one_more (ends_among gone a.row) (is_match a.cells q) refl

  -- of rows of which the answers are taken, each read as its document, these are the documents that are left and match
  pub answers_are : (added : List Added) → All (λ (a : Added). p a.row ≡ is_left gone q a) added → All (λ (a : Added). f a.row ≡ document_in a) added → AnswersAre added
  answers_are [] left same = refl
  answers_are (a ∷ more) left same =
      let Left : Added → Type 0 = λ b. p b.row ≡ is_left gone q b in
      let Same : Added → Type 0 = λ b. f b.row ≡ document_in b in
      answers_more a more (answers_are more (All-tail Left a more left) (All-tail Same a more same)) (All-head Same a more same) (All-head Left a more left)

-- ---- their cells are found by their first locations

apart : (x y : ℕ) → x < y → nat_eq x y ≡ false
apart x y l = grind (arith, nat_tests)

found_behind : (a b : Added) (more : List Added) → 1 ≤ a.row.cells → end_of a.row < b.row.first → cells_from (space_of more) b.row.first ≡ b.cells → cells_from (space_of (a ∷ more)) b.row.first ≡ b.cells
found_behind a b more some behind found =
    ap (λ t. cond t a.cells (cells_from (space_of more) b.row.first)) (apart a.row.first b.row.first (omega (arith, some, behind))) ∙ found

pub cells_found : (added : List Added) → IsSpace added → All (λ (a : Added). cells_from (space_of added) a.row.first ≡ a.cells) added
cells_found [] s = All-nil (λ (a : Added). cells_from [] a.row.first ≡ a.cells)
cells_found (a ∷ more) (d, numbers, behind, rest) =
    let Found : Added → Type 0 = λ b. cells_from (space_of (a ∷ more)) b.row.first ≡ b.cells in
    All-cons Found a more
    (ap (λ t. cond t a.cells (cells_from (space_of more) a.row.first)) (eq-eqb a.row.first a.row.first refl))
    (λ k b l. found_behind a (get_or more k b) more d.some (behind k b l) (cells_found more rest k b l))

-- ---- they have not too many

abbrev IsFew : Added → Type 0
IsFew a = length a.cells ≤ 262146

few_rows : (lists : List TermList) (before : Before) (rows : List DocRow) → AreDocumentsBehind before rows → All IsFew (map (read_off lists) rows)
unfolding AreDocumentsBehind
few_rows lists before [] stand = All-nil IsFew
few_rows lists before (row ∷ rows) (f, stand) =
    let few = f.few_cells in let long = cells_long (cell_at lists) row.first row.cells in
    All-cons IsFew (read_off lists row) (map (read_off lists) rows) (omega (arith, few, long)) (few_rows lists (behind_row before row) rows stand)

few_levels : (levels : List Level) (image : List ℕ) → All (IsWritten image) levels → All IsFew (of_levels levels)
few_levels [] image s = All-nil IsFew
few_levels (l ∷ ls) image s =
    All-append IsFew (added_in l.content) (of_levels ls) (few_rows l.content.lists start l.content.documents (All-head (IsWritten image) l ls s).stands.documents_stand)
    (few_levels ls image (All-tail (IsWritten image) l ls s))

pub all_short : (levels : List Level) (image : List ℕ) (added : List Added) → All (IsWritten image) levels → AreMade added → All IsShort (space_of (of_levels levels ++ added))
all_short levels image added s made =
    All-map IsShort placed_of (of_levels levels ++ added)
    (All-append IsFew (of_levels levels) added (few_levels levels image s) (All-weaker IsMade IsFew (λ a m. m.few) added made))

-- ---- their numbers differ

pairs_map : {X Y : Type 0} (f : X → Y) (R : Y → Y → Type 0) (xs : List X) → AllPairs (λ a b. R (f a) (f b)) xs → AllPairs R (map f xs)
pairs_map f R [] h = λ i j d l m. absurd (omega (arith, m))
pairs_map f R (x ∷ xs) h =
    AllPairs-cons R (f x) (map f xs) (All-map (R (f x)) f xs (λ k d l. h 0 (suc k) d (omega arith) (omega (arith, l))))
    (pairs_map f R xs (λ i j d l m. h (suc i) (suc j) d (omega (arith, l)) (omega (arith, m))))

abbrev Precede : Added → Added → Type 0
Precede a b = a.row.number < b.row.number

numbers_rise : (added : List Added) → IsSpace added → AllPairs Precede added
numbers_rise [] s = λ i j d l m. absurd (omega (arith, m))
numbers_rise (a ∷ more) (d, numbers, behind, rest) = AllPairs-cons Precede a more numbers (numbers_rise more rest)

abbrev IsBelow : Document → Document → Type 0
IsBelow d e = number_of d < number_of e

pub numbers_differ : (gone : List ℕ) (q : Shape) (added : List Added) → IsSpace added → AllPairs ◌≢◌ (map number_of (answers (map document_in (live_of gone added)) q))
numbers_differ gone q added s =
    let live = AllPairs-filter Precede (λ (a : Added). not (ends_among gone a.row)) added (numbers_rise added s) in
    let left = AllPairs-filter IsBelow (λ (d : Document). is_match d.cells q) (map document_in (live_of gone added)) (pairs_map document_in IsBelow (live_of gone added) live) in
    let rise = pairs_map number_of ◌<◌ (answers (map document_in (live_of gone added)) q) left in
    λ i j d l m e. let below = rise i j d l m in absurd (omega (arith, below, e))
