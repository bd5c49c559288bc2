-- The lines of documents, one after the other.
use Rattle.std.proofs.Common.{◌≡◌, ℕ, zero, suc, ◌+◌, ◌<◌, ◌≤◌, false, cond, List, [], ◌∷◌, ◌++◌, length, map, take, drop, get_or, refl, sym, ap, subst, ◌∙◌, arith, append-nil, append_assoc, length-append, length-drop}
use Rattle.std.specs.Prelude.{codes, is_some, nat_eq}
use Rattle.std.specs.List.{All, starts_with}
use Rattle.std.proofs.lemmas.Bool.{and_left, ne_eqb}
use Rattle.std.proofs.lemmas.List.{length-map, length-take}
use Rattle.std.proofs.lemmas.List.Elements.{All-get_or}
use Rattle.alta_codec.specs.Name.{IsName}
use Rattle.std.proofs.lemmas.List.Sums.{sum_by-cons}
use Rattle.alta_content.specs.Cells.{locations_from}
use Rattle.alta_content.specs.declared.document.DocRow.{DocRow}
use Rattle.alta_gather.specs.declared.held.Held.{Held}
use Rattle.alta_memlevel.specs.Added.{Added}
use Rattle.alta_memlevel.specs.Documents.{document_in}
use Rattle.alta_machine.specs.declared.document.Document.{Document}
use Rattle.alta_search.specs.Told.{no_row}
use Rattle.alta_machine.specs.Dumps.{count_lines, line_or_skipped, lines_for}
use Rattle.alta_machine.specs.DumpLines.{line_of}
use Rattle.alta_dump.specs.Seen.{AreSeen, IsRowSeen}
use Rattle.alta_dump.specs.Shown.{places_of, row_in}
use Rattle.alta_dump.proofs.Places.{places_more}

-- ---- the places of one row among those of all

locations_long : (first n : ℕ) → length (locations_from first n) ≡ n
unfolding locations_from
locations_long first zero = refl
locations_long first (suc n) = omega (arith, locations_long (first + 1) n)

drop_front : {X : Type 0} (xs ys : List X) → drop (length xs) (xs ++ ys) ≡ ys
drop_front [] ys = refl
drop_front (x ∷ xs) ys = drop_front xs ys

take_front : {X : Type 0} (xs ys : List X) (n : ℕ) → length xs ≡ n → take n (xs ++ ys) ≡ xs
take_front [] ys zero e = refl
take_front [] ys (suc n) e = absurd (omega (arith, e))
take_front (x ∷ xs) ys zero e = absurd (omega (arith, e))
take_front (x ∷ xs) ys (suc n) e = ap (λ zs. x ∷ zs) (take_front xs ys n (omega (arith, e)))

split_at : (rows : List DocRow) (i : ℕ) (d : DocRow) → i < length rows
    → places_of rows ≡ places_of (take i rows) ++ (locations_from (get_or rows i d).first (get_or rows i d).cells ++ places_of (drop (suc i) rows))
split_at [] i d l = absurd (omega (arith, l))
split_at (row ∷ rows) zero d l = refl
split_at (row ∷ rows) (suc i) d l =
    let own = locations_from row.first row.cells in
    ap (λ (xs : List ℕ). own ++ xs) (split_at rows i d (omega (arith, l)))
    ∙ sym (append_assoc own (places_of (take i rows)) (locations_from (get_or rows i d).first (get_or rows i d).cells ++ places_of (drop (suc i) rows)))

map_append : (f : ℕ → Held) (xs ys : List ℕ) → map f (xs ++ ys) ≡ map f xs ++ map f ys
map_append f [] ys = refl
map_append f (x ∷ xs) ys = ap (λ (hs : List Held). f x ∷ hs) (map_append f xs ys)

-- what was seen at the places of one row
pub own_seen : (f : ℕ → Held) (seen : List Held) (rows : List DocRow) (i from : ℕ) (d : DocRow) → i < length rows → seen ≡ map f (places_of rows) → from ≡ length (places_of (take i rows))
    → take (get_or rows i d).cells (drop from seen) ≡ map f (locations_from (get_or rows i d).first (get_or rows i d).cells)
own_seen f seen rows i from d l is at =
    let row = get_or rows i d in let before = places_of (take i rows) in let own = locations_from row.first row.cells in let behind = places_of (drop (suc i) rows) in
    let parts : seen ≡ map f before ++ (map f own ++ map f behind) =
    is ∙ ap (map f) (split_at rows i d l) ∙ map_append f before (own ++ behind) ∙ ap (λ (hs : List Held). map f before ++ hs) (map_append f own behind) in
    let count : from ≡ length (map f before) = at ∙ sym (length-map before f) in
    ap (λ (n : ℕ). take row.cells (drop n seen)) count
    ∙ ap (λ (hs : List Held). take row.cells (drop (length (map f before)) hs)) parts
    ∙ ap (take row.cells) (drop_front (map f before) (map f own ++ map f behind))
    ∙ take_front (map f own) (map f behind) row.cells (length-map own f ∙ locations_long row.first row.cells)

-- as many places more
pub from_more : (f : ℕ → Held) (rows : List DocRow) (i from : ℕ) (d : DocRow) (own : List Held) → i < length rows → from ≡ length (places_of (take i rows))
    → own ≡ map f (locations_from (get_or rows i d).first (get_or rows i d).cells) → from + length own ≡ length (places_of (take (suc i) rows))
from_more f rows i from d own l at is =
    let row = get_or rows i d in let places = locations_from row.first row.cells in
    omega (arith, at, ap length is, length-map places f, ap length (places_more rows i d l), length-append (places_of (take i rows)) places)

-- ---- one line more

take_added : (documents : List Added) (i : ℕ) (d : Added) → i < length documents → take (suc i) documents ≡ take i documents ++ get_or documents i d ∷ []
take_added [] i d l = absurd (omega (arith, l))
take_added (a ∷ more) zero d l = refl
take_added (a ∷ more) (suc i) d l = ap (λ (xs : List Added). a ∷ xs) (take_added more i d (omega (arith, l)))

lines_push : (documents : List Added) (a : Added) → lines_for (map document_in (documents ++ a ∷ [])) ≡ lines_for (map document_in documents) ++ line_or_skipped (document_in a) (line_of (document_in a))
lines_push [] a = append-nil (line_or_skipped (document_in a) (line_of (document_in a)))
lines_push (b ∷ more) a =
    let first = line_or_skipped (document_in b) (line_of (document_in b)) in
    ap (λ (bytes : List ℕ). first ++ bytes) (lines_push more a)
    ∙ sym (append_assoc first (lines_for (map document_in more)) (line_or_skipped (document_in a) (line_of (document_in a))))

pub lines_more : (documents : List Added) (i : ℕ) (d : Added) → i < length documents
    → lines_for (map document_in (take (suc i) documents)) ≡ lines_for (map document_in (take i documents)) ++ line_or_skipped (document_in (get_or documents i d)) (line_of (document_in (get_or documents i d)))
lines_more documents i d l = ap (λ (xs : List Added). lines_for (map document_in xs)) (take_added documents i d l) ∙ lines_push (take i documents) (get_or documents i d)

counts : (d : Document) (ds : List Document) → count_lines (d ∷ ds) ≡ cond (is_some (line_of d)) 1 0 + count_lines ds
counts d ds = sum_by-cons (λ (x : Document). cond (is_some (line_of x)) 1 0) d ds

counts_push : (documents : List Added) (a : Added) → count_lines (map document_in (documents ++ a ∷ [])) ≡ count_lines (map document_in documents) + cond (is_some (line_of (document_in a))) 1 0
counts_push [] a = omega (arith, counts (document_in a) [])
counts_push (b ∷ more) a = omega (arith, counts (document_in b) (map document_in (more ++ a ∷ [])), counts (document_in b) (map document_in more), counts_push more a)

pub counts_more : (documents : List Added) (i : ℕ) (d : Added) → i < length documents
    → count_lines (map document_in (take (suc i) documents)) ≡ count_lines (map document_in (take i documents)) + cond (is_some (line_of (document_in (get_or documents i d)))) 1 0
counts_more documents i d l = ap (λ (xs : List Added). count_lines (map document_in xs)) (take_added documents i d l) ∙ counts_push (take i documents) (get_or documents i d)

-- what stands past the last document
abbrev pub no_added : Added
no_added = record { row = no_row; cells = [] }

pub row_of : (documents : List Added) (i : ℕ) → get_or (map row_in documents) i no_row ≡ (get_or documents i no_added).row
row_of [] i = refl
row_of (a ∷ more) zero = refl
row_of (a ∷ more) (suc i) = row_of more i

-- ---- a document more

module _ (terms : List (List ℕ)) (rows : List DocRow) (words titles : List Held) (documents : List Added) (f g : ℕ → Held) (rows_is : rows ≡ map row_in documents)
    (words_is : words ≡ map f (places_of rows)) (titles_is : titles ≡ map g (places_of rows)) (seen : All (IsRowSeen terms f g) documents)
    (i from count lines : ℕ) (old new : List ℕ) (row : DocRow) (own ends : List Held) (within : i < length rows) (row_is : row ≡ get_or rows i no_row)
    (own_is : own ≡ take row.cells (drop from words)) (ends_is : ends ≡ take row.cells (drop from titles))
    (writes : (d : Document) → d.number ≡ row.number → d.name ≡ row.name → IsName d.name → AreSeen terms own ends d.cells
    → (new ≡ old ++ line_or_skipped d (line_of d)) × (lines ≡ cond (is_some (line_of d)) 1 0))
    (so_far : (old ≡ lines_for (map document_in (take i documents))) × (count ≡ count_lines (map document_in (take i documents))) × (from ≡ length (places_of (take i rows)))) where
  is_row : row ≡ (get_or documents i no_added).row
  is_row = row_is ∙ ap (λ (rs : List DocRow). get_or rs i no_row) rows_is ∙ row_of documents i

  inside : i < length documents
  inside = omega (arith, within, ap length rows_is, length-map documents row_in)

  own_row : own ≡ map f (locations_from row.first row.cells)
  own_row =
      own_is ∙ subst (λ (r : DocRow). take r.cells (drop from words) ≡ map f (locations_from r.first r.cells)) (sym row_is) (own_seen f words rows i from no_row within words_is so_far.2)

  ends_row : ends ≡ map g (locations_from row.first row.cells)
  ends_row =
      ends_is ∙ subst (λ (r : DocRow). take r.cells (drop from titles) ≡ map g (locations_from r.first r.cells)) (sym row_is) (own_seen g titles rows i from no_row within titles_is so_far.2)

  this_seen : IsRowSeen terms f g (get_or documents i no_added)
  this_seen = All-get_or (IsRowSeen terms f g) documents i no_added inside seen

  are_seen : AreSeen terms own ends (get_or documents i no_added).cells
  are_seen =
      subst (λ (hs : List Held). AreSeen terms hs ends (get_or documents i no_added).cells) (sym own_row)
      (subst (λ (hs : List Held). AreSeen terms (map f (locations_from row.first row.cells)) hs (get_or documents i no_added).cells) (sym ends_row)
      (subst (λ (r : DocRow). AreSeen terms (map f (locations_from r.first r.cells)) (map g (locations_from r.first r.cells)) (get_or documents i no_added).cells) (sym is_row) this_seen.seen))

  wrote : (new ≡ old ++ line_or_skipped (document_in (get_or documents i no_added)) (line_of (document_in (get_or documents i no_added))))
      × (lines ≡ cond (is_some (line_of (document_in (get_or documents i no_added)))) 1 0)
  wrote = writes (document_in (get_or documents i no_added)) (ap (λ (r : DocRow). r.number) (sym is_row)) (ap (λ (r : DocRow). r.name) (sym is_row)) this_seen.named are_seen

  pub lines_next : (new ≡ lines_for (map document_in (take (i + 1) documents))) × (count + lines ≡ count_lines (map document_in (take (i + 1) documents)))
      × (from + length own ≡ length (places_of (take (i + 1) rows)))
  lines_next =
      let next : suc i ≡ i + 1 = omega arith in
      let line = line_or_skipped (document_in (get_or documents i no_added)) (line_of (document_in (get_or documents i no_added))) in
      let more : count + lines ≡ count_lines (map document_in (take (suc i) documents)) = omega (arith, so_far.1, wrote.1, counts_more documents i no_added inside) in
      let own_at : own ≡ map f (locations_from (get_or rows i no_row).first (get_or rows i no_row).cells) = own_row ∙ ap (λ (r : DocRow). map f (locations_from r.first r.cells)) row_is in (
        wrote.0 ∙ ap (λ (bytes : List ℕ). bytes ++ line) so_far.0 ∙ sym (lines_more documents i no_added inside) ∙ ap (λ (n : ℕ). lines_for (map document_in (take n documents))) next,
        more ∙ ap (λ (n : ℕ). count_lines (map document_in (take n documents))) next,
        from_more f rows i from no_row own within so_far.2 own_at ∙ ap (λ (n : ℕ). length (places_of (take n rows))) next,
      )

-- cuts of lists that are as long are as long
pub same_cut : (n m : ℕ) (xs ys : List Held) → length xs ≡ length ys → length (take n (drop m xs)) ≡ length (take n (drop m ys))
same_cut n m xs ys long = omega (arith, length-take n (drop m xs), length-take n (drop m ys), length-drop m xs, length-drop m ys, long)

pub cut_within : (n m : ℕ) (xs : List Held) → m ≤ length xs → m + length (take n (drop m xs)) ≤ length xs
cut_within n m xs le = omega (arith, length-take n (drop m xs), length-drop m xs, le)

-- ---- a text behind another

pub behind_three : (a b c d : List ℕ) → a ++ b ++ c ++ d ≡ a ++ (b ++ c ++ d)
behind_three a b c d = ap (λ (bytes : List ℕ). bytes ++ d) (append_assoc a b c) ∙ append_assoc a (b ++ c) d

pub behind_five : (a b c d e f : List ℕ) → a ++ b ++ c ++ d ++ e ++ f ≡ a ++ (b ++ c ++ d ++ e ++ f)
behind_five a b c d e f =
    ap (λ (bytes : List ℕ). bytes ++ e ++ f) (behind_three a b c d)
    ∙ ap (λ (bytes : List ℕ). bytes ++ f) (append_assoc a (b ++ c ++ d) e)
    ∙ append_assoc a (b ++ c ++ d ++ e) f

-- ---- no refusal

-- a text begins with no exclamation mark where neither of its parts does
pub kept_first : (old more : List ℕ) → (get_or old 0 0 ≡ 33 → ⊥) → (get_or more 0 0 ≡ 33 → ⊥) → get_or (old ++ more) 0 0 ≡ 33 → ⊥
kept_first [] more first other = other
kept_first (x ∷ old) more first other = first

pub first_byte : (line more : List ℕ) → get_or line 0 0 ≡ 97 → get_or (line ++ more) 0 0 ≡ 33 → ⊥
first_byte [] more is = λ e. absurd (omega (arith, is))
first_byte (x ∷ line) more is = λ e. omega (arith, is, e)

pub no_refusal : (text : List ℕ) → (get_or text 0 0 ≡ 33 → ⊥) → starts_with nat_eq text (codes "! ") ≡ false
no_refusal [] first = refl
no_refusal (x ∷ text) first = and_left (nat_eq 33 x) (starts_with nat_eq text (32 ∷ [])) (ne_eqb 33 x (λ e. first (sym e)))
