-- Over levels that are the segments of contents, the list of each row is that of the content.
use Rattle.std.proofs.Common.{◌≡◌, ◌⊎◌, ⊎_elim, inl, inr, ℕ, zero, suc, ◌+◌, ◌-◌, ◌<◌, ◌≤◌, Bool, true, false, cond, List, [], ◌∷◌, ◌++◌, length, map, take, drop, get_or, refl, sym, subst, ap, ◌∙◌, arith, length-append}
use Rattle.std.specs.Prelude.{All, Option, Some, None, flat_map}
use Rattle.std.specs.List.{sum_by}
use Rattle.std.specs.Str.{bytes_eq}
use Rattle.std.proofs.lemmas.Bool.{true≢false}
use Rattle.std.proofs.lemmas.List.{drop-drop, drop-take, length-map, length-take, map-append, take-take}
use Rattle.std.proofs.lemmas.List.Elements.{All-nil, All-cons, All-head, All-tail}
use Rattle.std.proofs.lemmas.List.Sums.{sum_by-cons}
use Rattle.alta_content.specs.Lists.{AreListsBehind}
use Rattle.alta_content.specs.Lists as content
use Rattle.alta_content.specs.declared.content.Content.{Content}
use Rattle.alta_content.specs.TermList.{TermList}
use Rattle.alta_content.specs.declared.document.DocRow.{DocRow}
use Rattle.alta_content.proofs.Order.{itself, same_term}
use Rattle.alta_disk.specs.Parts.{part}
use Rattle.alta_meaning.specs.Levels.{Level}
use Rattle.alta_meaning.specs.Opened.{bytes_at}
use Rattle.alta_meaning.specs.Standing.{tables_by}
use Rattle.alta_meaning.proofs.Tests.{by_test}
use Rattle.alta_level.specs.Damage.{AreListsOf, stored_at}
use Rattle.alta_level.specs.Segments.{IsSegment, list_bytes, row_of, rows_of, segment_bytes}
use Rattle.alta_level.specs.Stored.{IsListOf, Stored}
use Rattle.alta_level.proofs.Spelled.{lists_long, segment_lists, tables_at}
use Rattle.alta_loading.specs.Loads.{IsWhole, Load, list_at, load_at, load_in, loads_from, row_from}
use Rattle.alta_loading.specs.Contents.{AreListsAmong, AreListsIn}
use Rattle.alta_loading.specs.Terms.{if_some}
use Rattle.alta_loading.proofs.Places.{standing, standing_row}
use Rattle.alta_loading.proofs.Runs.{all_join}
use Rattle.alta_postings.specs.Deltas.{decoded_list}
use Rattle.alta_postings.proofs.Reading.{spelling_reads}
use Rattle.alta_table.specs.Tables.{tables_bytes}
use Rattle.alta_table.specs.Terms.{data_bytes, data_of}
use Rattle.alta_table.specs.declared.term.TermRow.{TermRow}

abbrev lists_in : List TermList → List (List ℕ)
lists_in lists = map (λ (l : TermList). l.locations) lists

-- ---- a list, seen in its segment and on the image

pub window : (place n k a : ℕ) (image : List ℕ) → k + a ≤ n → take a (drop k (take n (drop place image))) ≡ part (place + k) a image
window place n k a image le =
    let e : n ≡ k + (n - k) = omega (arith, le) in
    ap (λ (j : ℕ). take a (drop k (take j (drop place image)))) e ∙ ap (take a) (drop-take k (n - k) (drop place image)) ∙ take-take a (n - k) (drop k (drop place image)) (omega (arith, le))
    ∙ ap (take a) (drop-drop k place image)

here : (documents : List DocRow) (row : TermRow) (list : List ℕ) (place n k : ℕ) (image : List ℕ) → k + data_of row ≤ n
    → IsListOf documents (stored_at row (drop k (take n (drop place image))) (place + k)) list → IsListOf documents (standing row image (place + k)) list
here documents row list place n k image le h =
    let bytes = drop k (take n (drop place image)) in
    let one : take row.stream bytes ≡ part (place + k) row.stream image = window place n k row.stream image (omega (arith, le)) in
    let there : place + (k + row.stream) ≡ place + k + row.stream = omega arith in
    let two : take row.summary (drop row.stream bytes) ≡ part (place + k + row.stream) row.summary image =
    ap (take row.summary) (drop-drop row.stream k (take n (drop place image))) ∙ window place n (k + row.stream) row.summary image (omega (arith, le)) ∙ ap (λ (j : ℕ). part j row.summary image) there in
    let f : List ℕ → List ℕ → Stored = λ s t. record { stream = s; stream_place = place + k; summary = t; summary_place = place + k + row.stream; term = row.term; count = row.count } in
    subst (λ (s : Stored). IsListOf documents s list) (ap (λ (s : List ℕ). f s (take row.summary (drop row.stream bytes))) one ∙ ap (λ (t : List ℕ). f (part (place + k) row.stream image) t) two) h

at_rows : (documents : List DocRow) (rows : List TermRow) (lists : List TermList) (place n k : ℕ) (image : List ℕ) → AreListsOf documents rows (drop k (take n (drop place image))) (place + k) lists
    → k + data_bytes rows ≤ n → (i : ℕ) → i < length rows → IsListOf documents (standing_row rows image i (place + k + sum_by data_of (take i rows))) (get_or (lists_in lists) i [])
unfolding AreListsOf
at_rows documents [] lists place n k image h le i l = absurd (omega (arith, l))
at_rows documents (row ∷ rows) [] place n k image h le i l = absurd h
at_rows documents (row ∷ rows) (x ∷ xs) place n k image (t, is, more) le zero l =
    let w = here documents row x.locations place n k image (omega (arith, le, sum_by-cons data_of row rows)) is in
    let first : place + k ≡ place + k + 0 = omega arith in
    subst (λ (p : ℕ). IsListOf documents (standing row image p) x.locations) first w
at_rows documents (row ∷ rows) (x ∷ xs) place n k image (t, is, more) le (suc i) l =
    let at : place + k + data_of row ≡ place + (k + data_of row) = omega arith in
    let next = subst (λ (q : ℕ). AreListsOf documents rows (drop (k + data_of row) (take n (drop place image))) q xs) at
    (subst (λ (w : List ℕ). AreListsOf documents rows w (place + k + data_of row) xs) (drop-drop (data_of row) k (take n (drop place image))) more) in
    let ih = at_rows documents rows xs place n (k + data_of row) image next (omega (arith, le, sum_by-cons data_of row rows)) i (omega (arith, l)) in
    let there : place + (k + data_of row) + sum_by data_of (take i rows) ≡ place + k + sum_by data_of (row ∷ take i rows) = omega (arith, sum_by-cons data_of row (take i rows)) in
    subst (λ (p : ℕ). IsListOf documents (standing_row rows image i p) (get_or (lists_in xs) i [])) there ih

-- ---- a term among the rows

flipped : (t u : List ℕ) → bytes_eq t u ≡ false → bytes_eq u t ≡ false
flipped t u differs =
    by_test (bytes_eq u t) (λ same. absurd (true≢false (sym (subst (λ x. bytes_eq x u ≡ true) (same_term u t same) (itself u)) ∙ differs))) (λ h. h)

record IsAt (i : ℕ) (lists : List TermList) (term : List ℕ) (j : ℕ) : Type 0 where
  found : row_from i (rows_of lists) term ≡ Some (i + j)
  within : j < length lists
  list_is : content.locations_of lists term ≡ get_or (lists_in lists) j []

looked_up : (i : ℕ) (lists : List TermList) (term : List ℕ) → ((row_from i (rows_of lists) term ≡ None) × (content.locations_of lists term ≡ [])) ⊎ ((j : ℕ) × IsAt i lists term j)
looked_up i [] term = inl (refl, refl)
looked_up i (l ∷ ls) term =
    by_test (bytes_eq l.term term)
    (λ yes.
    let first : i ≡ i + 0 = omega arith in
    let back : bytes_eq term l.term ≡ true = subst (λ x. bytes_eq x l.term ≡ true) (same_term l.term term yes) (itself l.term) in
    inr (
      0,
      record {
        found = ap (λ (b : Bool). cond b (Some i) (row_from (i + 1) (rows_of ls) term)) yes ∙ ap Some first;
        within = omega arith;
        list_is = ap (λ (b : Bool). cond b l.locations (content.locations_of ls term)) back;
      },
    ))
    (λ no.
    let skip : row_from i (rows_of (l ∷ ls)) term ≡ row_from (i + 1) (rows_of ls) term = ap (λ (b : Bool). cond b (Some i) (row_from (i + 1) (rows_of ls) term)) no in
    let on : content.locations_of (l ∷ ls) term ≡ content.locations_of ls term = ap (λ (b : Bool). cond b l.locations (content.locations_of ls term)) (flipped l.term term no) in
    ⊎_elim (λ n. inl (skip ∙ n.0, on ∙ n.1))
    (λ (j, at). let there : i + 1 + j ≡ i + suc j = omega arith in inr (suc j, record { found = skip ∙ at.found ∙ ap Some there; within = omega (arith, at.within); list_is = on ∙ at.list_is }))
    (looked_up (i + 1) ls term))

some_at : (documents : List DocRow) (before : List ℕ) (lists : List TermList) → AreListsBehind documents before lists → (j : ℕ) → j < length lists → 0 < length (get_or (lists_in lists) j [])
unfolding AreListsBehind
some_at documents before [] h j l = absurd (omega (arith, l))
some_at documents before (x ∷ xs) (m, more) zero l = m.some
some_at documents before (x ∷ xs) (m, more) (suc j) l = some_at documents x.term xs more j (omega (arith, l))

if_some_is : (xs : List ℕ) → 0 < length xs → if_some xs ≡ xs ∷ []
if_some_is [] some = absurd (omega (arith, some))
if_some_is (x ∷ xs) some = refl

-- ---- the law

pub spelled_is : (documents : List DocRow) (s : Stored) (list : List ℕ) → IsListOf documents s list → decoded_list s.stream ≡ list
spelled_is documents s list h = (spelling_reads s.stream list (record { rising = h.coded.rising; spelled = h.coded.stream_is })).1

segment_fits : (place n : ℕ) (image : List ℕ) (c : Content) → IsSegment (part place n image) c → length (tables_bytes c.documents (rows_of c.lists)) + data_bytes (rows_of c.lists) ≤ n
unfolding segment_bytes
segment_fits place n image c s =
    omega (arith, ap length s.spelled, length-append (tables_bytes c.documents (rows_of c.lists)) (flat_map list_bytes c.lists), lists_long c.lists, length-take n (drop place image))

pub content_loaded : (c : Content) (place n number : ℕ) (image term : List ℕ) → IsSegment (part place n image) c → AreListsIn c image term (load_in number (tables_at place c) term)
content_loaded c place n number image term s =
    let level = tables_at place c in let rows = rows_of c.lists in let k = length (tables_bytes c.documents rows) in
    ⊎_elim
    (λ none. subst (λ (r : Option ℕ). AreListsIn c image term (load_at number level r)) (sym none.0) (record { whole = All-nil (IsWhole image); are = sym (ap if_some none.1) }))
    (λ (j, at).
    let list = get_or (lists_in c.lists) j [] in
    let first : 0 + j ≡ j = omega arith in
    let load : Load = record { number = number; level = level; row = j } in
    let is = at_rows c.documents rows c.lists place n k image (segment_lists (part place n image) place c s) (segment_fits place n image c s) j (omega (arith, at.within, length-map c.lists row_of)) in
    let same : list_at image load ≡ list = spelled_is c.documents _ list is in
    subst (λ (r : Option ℕ). AreListsIn c image term (load_at number level r)) (sym (at.found ∙ ap Some first))
    (record {
      whole = All-cons (IsWhole image) load [] (subst (IsListOf c.documents _) (sym same) is) (All-nil (IsWhole image));
      are = ap (λ (l : List ℕ). l ∷ []) (same ∙ sym at.list_is) ∙ sym (if_some_is (content.locations_of c.lists term) (subst (λ (l : List ℕ). 0 < length l) (sym at.list_is) (some_at c.documents [] c.lists s.stands.lists_stand j at.within)));
    }))
    (looked_up 0 c.lists term)

-- ---- several levels

levels_from : (number : ℕ) (levels : List Level) (image term : List ℕ) → All (λ (l : Level). IsSegment (bytes_at l.extent image) l.content) levels
    → AreListsAmong levels image term (loads_from number (map tables_by levels) term)
levels_from number [] image term s = record { whole = All-nil (IsWhole image); are = refl }
levels_from number (l ∷ ls) image term s =
    let Has : Level → Type 0 = λ x. IsSegment (bytes_at x.extent image) x.content in
    let first = load_in number (tables_by l) term in let rest = loads_from (number + 1) (map tables_by ls) term in
    let one = content_loaded l.content l.extent.place l.extent.bytes number image term (All-head Has l ls s) in
    let more = levels_from (number + 1) ls image term (All-tail Has l ls s) in
    record {
      whole = all_join image first rest one.whole more.whole;
      are = map-append (list_at image) first rest ∙ ap (λ (x : List (List ℕ)). x ++ map (list_at image) rest) one.are ∙ ap (λ (x : List (List ℕ)). if_some (content.locations_of l.content.lists term) ++ x) more.are;
    }

pub levels_loaded : (levels : List Level) (image term : List ℕ) → All (λ (l : Level). IsSegment (bytes_at l.extent image) l.content) levels → AreListsAmong levels image term (loads_from 0 (map tables_by levels) term)
levels_loaded levels image term s = levels_from 0 levels image term s
