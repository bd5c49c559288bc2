-- The content without the documents whose end is deleted.
use Rattle.std.proofs.Common.{◌≡◌, ⊎_elim, ℕ, ◌+◌, ◌<◌, ◌≤◌, Bool, true, false, not, List, [], ◌∷◌, ◌++◌, length, map, get_or, refl, sym, ap, subst, ◌∙◌, arith}
use Rattle.std.specs.Cmp.Lexicographic.{slice_cmp}
use Rattle.std.specs.List.{All, filter}
use Rattle.std.specs.List.Sorted.{IsStrictlySortedBy}
use Rattle.std.specs.Ordering.{nat_cmp}
use Rattle.std.proofs.lemmas.Bool.{cases_Bool}
use Rattle.std.proofs.lemmas.List.Elements.{All-head, All-tail, All-filter, filter-append}
use Rattle.alta_codec.specs.Rising.{IsRising}
use Rattle.alta_content.specs.declared.content.Content.{Content}
use Rattle.alta_content.specs.Lists.{locations_of, terms_of}
use Rattle.alta_content.specs.Rows.{RowsRise, end_of, ends_among}
use Rattle.alta_content.specs.Spans.{is_within, deleted_spans, outside_of, lists_outside}
use Rattle.alta_content.proofs.Outside.{Tells, spans_tell, rows_outside, locations_outside, some_outside, sorted_outside, own_locations}
use Rattle.alta_machine.specs.Cells.{cell_holds}
use Rattle.alta_memlevel.specs.Added.{Added, places_of, list_of, IsSpace, HasContent, live_of}
use Rattle.alta_memlevel.proofs.Contents.{list_of_rises}

-- ---- rows
pub rows_live : (deleted : List ℕ) (added : List Added) → map (λ a. a.row) (live_of deleted added) ≡ filter (λ r. not (ends_among deleted r)) (map (λ a. a.row) added)
rows_live deleted [] = refl
rows_live deleted (a ∷ more) =
    ⊎_elim
    (λ y. rw y (rows_live deleted more))
    (λ n. rw n (ap (λ l. a.row ∷ l) (rows_live deleted more)))
    (cases_Bool (ends_among deleted a.row))

-- ---- the locations of a term
places_kept : (p : ℕ → Bool) (first : ℕ) (t : List ℕ) (cells : List (List (List ℕ))) → ((x : ℕ) → first ≤ x → x < first + length cells → p x ≡ false)
    → filter (λ x. not (p x)) (places_of first t cells) ≡ places_of first t cells
places_kept p first t [] h = refl
places_kept p first t (c ∷ cs) h =
    let rest = places_kept p (first + 1) t cs (λ x l m. h x (omega arith) (omega arith)) in
    ⊎_elim
    (λ y. rw y (rw (h first (omega arith) (omega arith)) (ap (λ l. first ∷ l) rest)))
    (λ n. rw n rest)
    (cases_Bool (cell_holds t c))

places_gone : (p : ℕ → Bool) (first : ℕ) (t : List ℕ) (cells : List (List (List ℕ))) → ((x : ℕ) → first ≤ x → x < first + length cells → p x ≡ true)
    → filter (λ x. not (p x)) (places_of first t cells) ≡ []
places_gone p first t [] h = refl
places_gone p first t (c ∷ cs) h =
    let rest = places_gone p (first + 1) t cs (λ x l m. h x (omega arith) (omega arith)) in
    ⊎_elim
    (λ y. rw y (rw (h first (omega arith) (omega arith)) rest))
    (λ n. rw n rest)
    (cases_Bool (cell_holds t c))

pub list_outside : (p : ℕ → Bool) (deleted : List ℕ) (added : List Added) (t : List ℕ) → IsSpace added → All (Tells p deleted) (map (λ a. a.row) added)
    → list_of (live_of deleted added) t ≡ filter (λ x. not (p x)) (list_of added t)
list_outside p deleted [] t s h = refl
list_outside p deleted (a ∷ more) t s h =
    let rows = map (λ b. b.row) more in
    let rest = list_outside p deleted more t s.3 (All-tail (Tells p deleted) a.row rows h) in
    let own : Tells p deleted a.row = All-head (Tells p deleted) a.row rows h in
    let d = s.0 in
    let in_row : (x : ℕ) → a.row.first ≤ x → x < a.row.first + length a.cells → p x ≡ ends_among deleted a.row =
    λ x l m. own x l (omega (arith, m, d.counted, d.some)) in
    let split = filter-append (λ x. not (p x)) (places_of a.row.first t a.cells) (list_of more t) in
    ⊎_elim
    (λ y. rw y (rest ∙ sym (split ∙ ap (λ l. l ++ filter (λ x. not (p x)) (list_of more t)) (places_gone p a.row.first t a.cells (λ x l m. in_row x l m ∙ y)))))
    (λ n. rw n (ap (λ l. places_of a.row.first t a.cells ++ l) rest
    ∙ sym (split ∙ ap (λ l. l ++ filter (λ x. not (p x)) (list_of more t)) (places_kept p a.row.first t a.cells (λ x l m. in_row x l m ∙ n)))))
    (cases_Bool (ends_among deleted a.row))

-- ---- the content
space_live : (deleted : List ℕ) (added : List Added) → IsSpace added → IsSpace (live_of deleted added)
space_live deleted [] s = tt
space_live deleted (a ∷ more) s =
    let live : Added → Bool = λ b. not (ends_among deleted b.row) in
    let rest = space_live deleted more s.3 in
    ⊎_elim
    (λ y. rw y rest)
    (λ n. rw n (s.0, All-filter live (λ b. a.row.number < b.row.number) more s.1, All-filter live (λ b. end_of a.row < b.row.first) more s.2, rest))
    (cases_Bool (ends_among deleted a.row))

pub content_live : (deleted : List ℕ) (added : List Added) (old new : Content) → HasContent added old → RowsRise old.documents
    → new.documents ≡ filter (λ r. not (is_within (deleted_spans deleted old.documents) r.first)) old.documents
    → new.lists ≡ lists_outside (deleted_spans deleted old.documents) old.lists
    → HasContent (live_of deleted added) new
content_live deleted added old new h rise documents lists =
    let spans = deleted_spans deleted old.documents in
    let tell : All (Tells (is_within spans) deleted) (map (λ a. a.row) added) =
    subst (λ rs. All (Tells (is_within spans) deleted) rs) h.documents (spans_tell deleted old.documents rise) in
    record {
      space = space_live deleted added h.space;
      documents = documents ∙ rows_outside deleted old.documents rise ∙ ap (filter (λ r. not (ends_among deleted r))) h.documents ∙ sym (rows_live deleted added);
      lists = λ t. ap (λ l. locations_of l t) lists ∙ locations_outside spans old.lists t h.sorted ∙ ap (outside_of spans) (h.lists t) ∙ sym (list_outside (is_within spans) deleted added t h.space tell);
      some = subst (λ l. All (λ k. 0 < length k.locations) l) (sym lists) (some_outside spans old.lists);
      sorted = subst (λ l. IsStrictlySortedBy (slice_cmp nat_cmp) (terms_of l)) (sym lists) (sorted_outside spans old.lists h.sorted);
    }

pub lists_rise : (added : List Added) (content : Content) → HasContent added content → All (λ l. IsRising l.locations) content.lists
lists_rise added content h = λ k d m.
    let l = get_or content.lists k d in
    subst IsRising (sym (h.lists l.term) ∙ own_locations content.lists h.sorted k d m) (list_of_rises added l.term h.space)
