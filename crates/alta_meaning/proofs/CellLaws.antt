-- The documents of the content of documents are those documents.
use Rattle.std.proofs.Common.{◌≡◌, ⊎_elim, ℕ, zero, suc, ◌+◌, ◌<◌, ◌≤◌, Bool, true, false, ◌||◌, cond, List, [], ◌∷◌, ◌++◌, length, map, get_or, refl, sym, ap, subst, ◌∙◌, arith, Option}
use Rattle.std.specs.Prelude.{nat_eq, nat_lt}
use Rattle.std.specs.Cmp.Lexicographic.{slice_cmp}
use Rattle.std.specs.List.{All, filter, list_any}
use Rattle.std.specs.List.Sorted.{IsStrictlySortedBy}
use Rattle.std.specs.Ordering.{nat_cmp}
use Rattle.std.specs.Str.{bytes_eq}
use Rattle.std.proofs.lemmas.Bool.{cases_Bool, eq-eqb, ne_eqb}
use Rattle.std.proofs.lemmas.List.Elements.{All-nil, All-cons, All-head, All-tail, All-append, All-get_or}
use Rattle.std.proofs.lemmas.List.Folds.{list_any-append}
use Rattle.alta_content.specs.Lists.{locations_of, terms_of}
use Rattle.alta_content.specs.Rows.{end_of}
use Rattle.alta_content.specs.TermList.{TermList}
use Rattle.alta_memlevel.specs.Added.{Added, IsInSpace, IsSpace, list_of, places_of}
use Rattle.alta_machine.specs.Cells.{cell_holds, cells_of, numbered, word_cell}
use Rattle.alta_machine.proofs.Ranges.{numbered_sorted}
use Rattle.alta_machine.specs.Numbers.{number_in}
use Rattle.alta_machine.specs.declared.document.Document.{Document}
use Rattle.alta_meaning.specs.Levels.{cell_at, document_of, locations_from}
use Rattle.alta_meaning.proofs.NameLaws.{bytes_eq-swap}
use Rattle.alta_content.specs.declared.document.DocRow.{DocRow}
use Rattle.alta_text.specs.Words.{words_of}
use Rattle.alta_meaning.proofs.KnownLaws.{all_weaker, all_both}
use Rattle.alta_content.proofs.Order.{After, Sorted, has, none_of, one_list, same_term}
use Rattle.alta_memlevel.proofs.One.{content_has}
use Rattle.alta_memlevel.specs.Documents.{content_of}
use Rattle.alta_meaning.proofs.Tests.{or_last, or_neither}

abbrev pub among : ℕ → List ℕ → Bool
among x xs = list_any (nat_eq x) xs

-- ---- the cell at a location, by the lists

abbrev TermsRise : List TermList → Type 0
TermsRise lists = IsStrictlySortedBy (slice_cmp nat_cmp) (terms_of lists)

abbrev cell_of : Bool → TermList → List TermList → ℕ → List (List ℕ)
cell_of b l ls x = map (λ (k : TermList). k.term) (cond b (l ∷ filter (λ (k : TermList). among x k.locations) ls) (filter (λ (k : TermList). among x k.locations) ls))

cell_after : (t : List ℕ) (lists : List TermList) (x : ℕ) → After t (terms_of lists) → After t (cell_at lists x)
cell_after t [] x a = tt
cell_after t (l ∷ ls) x a =
    let rest = cell_after t ls x a.1 in
    ⊎_elim
    (λ y. subst (λ b. After t (cell_of b l ls x)) (sym y) (a.0, rest))
    (λ n. subst (λ b. After t (cell_of b l ls x)) (sym n) rest)
    (cases_Bool (among x l.locations))

cell_sorted : (lists : List TermList) (x : ℕ) → TermsRise lists → Sorted (cell_at lists x)
unfolding IsStrictlySortedBy
cell_sorted [] x s = tt
cell_sorted (l ∷ ls) x s =
    let rest = cell_sorted ls x s.1 in
    ⊎_elim
    (λ y. subst (λ b. Sorted (cell_of b l ls x)) (sym y) (cell_after l.term ls x s.0, rest))
    (λ n. subst (λ b. Sorted (cell_of b l ls x)) (sym n) rest)
    (cases_Bool (among x l.locations))

-- a term is in the cell exactly where its list has the location
cell_has : (lists : List TermList) (x : ℕ) (t : List ℕ) → TermsRise lists → has t (cell_at lists x) ≡ among x (locations_of lists t)
unfolding IsStrictlySortedBy
cell_has [] x t s = refl
cell_has (l ∷ ls) x t s =
    let rest = cell_has ls x t s.1 in
    ⊎_elim
    (λ e.
    let none : has t (cell_at ls x) ≡ false = ap (λ u. has u (cell_at ls x)) (same_term t l.term e) ∙ none_of l.term (cell_at ls x) (cell_after l.term ls x s.0) in
    ⊎_elim
    (λ y. ap (λ b. has t (cell_of b l ls x)) y ∙ ap (λ b. b || has t (cell_at ls x)) e ∙ sym (ap (λ b. among x (cond b l.locations (locations_of ls t))) e ∙ y))
    (λ n. ap (λ b. has t (cell_of b l ls x)) n ∙ none ∙ sym (ap (λ b. among x (cond b l.locations (locations_of ls t))) e ∙ n))
    (cases_Bool (among x l.locations)))
    (λ o. ⊎_elim
    (λ y. ap (λ b. has t (cell_of b l ls x)) y ∙ ap (λ b. b || has t (cell_at ls x)) o ∙ rest ∙ sym (ap (λ b. among x (cond b l.locations (locations_of ls t))) o))
    (λ n. ap (λ b. has t (cell_of b l ls x)) n ∙ rest ∙ sym (ap (λ b. among x (cond b l.locations (locations_of ls t))) o))
    (cases_Bool (among x l.locations)))
    (cases_Bool (bytes_eq t l.term))

-- ---- the places of a term in cells

among_first : (x y : ℕ) (b : Bool) (rest : List ℕ) → among x (cond b (y ∷ []) [] ++ rest) ≡ (among x (cond b (y ∷ []) []) || among x rest)
among_first x y b rest = list_any-append (nat_eq x) (cond b (y ∷ []) []) rest

not_there : (x y : ℕ) (b : Bool) → (x ≡ y → ⊥) → among x (cond b (y ∷ []) []) ≡ false
not_there x y true other = ap (λ b. b || false) (ne_eqb x y other)
not_there x y false other = refl

or_front : (a b : Bool) → b ≡ false → (a || b) ≡ a
or_front true b e = refl
or_front false b e = e

below_places : (x first : ℕ) (t : List ℕ) (cells : List (List (List ℕ))) → x < first → among x (places_of first t cells) ≡ false
below_places x first t [] less = refl
below_places x first t (c ∷ cs) less =
    among_first x first (cell_holds t c) (places_of (first + 1) t cs)
    ∙ or_neither (among x (cond (cell_holds t c) (first ∷ []) [])) (among x (places_of (first + 1) t cs)) (not_there x first (cell_holds t c) (λ e. omega (arith, e, less))) (below_places x (first + 1) t cs (omega (arith, less)))

above_places : (x first : ℕ) (t : List ℕ) (cells : List (List (List ℕ))) → first + length cells ≤ x → among x (places_of first t cells) ≡ false
above_places x first t [] past = refl
above_places x first t (c ∷ cs) past =
    among_first x first (cell_holds t c) (places_of (first + 1) t cs)
    ∙ or_neither (among x (cond (cell_holds t c) (first ∷ []) [])) (among x (places_of (first + 1) t cs)) (not_there x first (cell_holds t c) (λ e. omega (arith, e, past))) (above_places x (first + 1) t cs (omega (arith, past)))

here_place : (x y : ℕ) (b : Bool) → x ≡ y → among x (cond b (y ∷ []) []) ≡ b
here_place x y true e = ap (λ b. b || false) (eq-eqb x y e)
here_place x y false e = refl

-- the term is at a place of cells where the cell there holds it
at_place : (x first p : ℕ) (t : List ℕ) (cells : List (List (List ℕ))) → x ≡ first + p → p < length cells → among x (places_of first t cells) ≡ cell_holds t (get_or cells p [])
at_place x first p t [] is inside = absurd (omega (arith, inside))
at_place x first zero t (c ∷ cs) is inside =
    among_first x first (cell_holds t c) (places_of (first + 1) t cs)
    ∙ or_front (among x (cond (cell_holds t c) (first ∷ []) [])) (among x (places_of (first + 1) t cs)) (below_places x (first + 1) t cs (omega (arith, is)))
    ∙ here_place x first (cell_holds t c) (omega (arith, is))
at_place x first (suc p) t (c ∷ cs) is inside =
    among_first x first (cell_holds t c) (places_of (first + 1) t cs)
    ∙ or_last (among x (cond (cell_holds t c) (first ∷ []) [])) (among x (places_of (first + 1) t cs)) (not_there x first (cell_holds t c) (λ e. omega (arith, is, e)))
    ∙ at_place x (first + 1) p t cs (omega (arith, is)) (omega (arith, inside))

-- ---- in a space of documents

abbrev IsHere : ℕ → Added → Type 0
IsHere x a = (a.row.first ≤ x) × (x ≤ end_of a.row)

none_behind : (x : ℕ) (t : List ℕ) (added : List Added) → All (λ (b : Added). x < b.row.first) added → among x (list_of added t) ≡ false
none_behind x t [] all = refl
none_behind x t (b ∷ more) all =
    list_any-append (nat_eq x) (places_of b.row.first t b.cells) (list_of more t)
    ∙ or_neither (among x (places_of b.row.first t b.cells)) (among x (list_of more t)) (below_places x b.row.first t b.cells (All-head (λ (b : Added). x < b.row.first) b more all))
    (none_behind x t more (All-tail (λ (b : Added). x < b.row.first) b more all))

-- at the locations of a document the lists are those of its cells alone
abbrev IsAlone : List Added → Added → Type 0
IsAlone added a = (x : ℕ) → IsHere x a → (t : List ℕ) → among x (list_of added t) ≡ among x (places_of a.row.first t a.cells)

alone : (added : List Added) → IsSpace added → All (IsAlone added) added
alone [] space = All-nil (IsAlone [])
alone (a ∷ more) space =
    All-cons (IsAlone (a ∷ more)) a more
    (λ x here t.
    list_any-append (nat_eq x) (places_of a.row.first t a.cells) (list_of more t)
    ∙ or_front (among x (places_of a.row.first t a.cells)) (among x (list_of more t))
    (none_behind x t more (all_weaker (λ (b : Added). end_of a.row < b.row.first) (λ (b : Added). x < b.row.first) more (λ b above. omega (arith, above, here.1)) space.2)))
    (all_weaker (λ (b : Added). IsAlone more b × (end_of a.row < b.row.first)) (IsAlone (a ∷ more)) more
    (λ b both x here t.
    list_any-append (nat_eq x) (places_of a.row.first t a.cells) (list_of more t)
    ∙ or_last (among x (places_of a.row.first t a.cells)) (among x (list_of more t)) (above_places x a.row.first t a.cells (omega (arith, both.1, here.0, space.0.counted, space.0.some)))
    ∙ both.0 x here t)
    (all_both (IsAlone more) (λ (b : Added). end_of a.row < b.row.first) more (alone more space.3) space.2))

-- ---- documents

abbrev pub doc_of : Added → Document
doc_of a = record { number = a.row.number; name = a.row.name; cells = a.cells }

has_holds : (t : List ℕ) (cell : List (List ℕ)) → has t cell ≡ cell_holds t cell
has_holds t [] = refl
has_holds t (u ∷ us) = ap (λ b. b || has t us) (bytes_eq-swap t u) ∙ ap (λ b. bytes_eq u t || b) (has_holds t us)

cells_are : (f : ℕ → List (List ℕ)) (first : ℕ) (cells : List (List (List ℕ))) → ((p : ℕ) → p < length cells → f (first + p) ≡ get_or cells p []) → map f (locations_from first (length cells)) ≡ cells
unfolding locations_from
cells_are f first [] each = refl
cells_are f first (c ∷ cs) each =
    let at_first : first + 0 ≡ first = omega arith in
    ap (λ (d : List (List ℕ)). d ∷ map f (locations_from (first + 1) (length cs))) (ap f (sym at_first) ∙ each 0 (omega arith))
    ∙ ap (λ (ds : List (List (List ℕ))). c ∷ ds)
    (cells_are f (first + 1) cs (λ p inside. let next : (first + 1) + p ≡ first + suc p = omega arith in ap f next ∙ each (suc p) (omega (arith, inside))))

abbrev pub AreSorted : Added → Type 0
AreSorted a = All Sorted a.cells

cell_is : (added : List Added) (a : Added) (p : ℕ) → IsSpace added → IsAlone added a → IsInSpace a → AreSorted a → p < length a.cells → cell_at (content_of added).lists (a.row.first + p) ≡ get_or a.cells p []
cell_is added a p space alone_here document sorted inside =
    let content = content_has added space in
    let x = a.row.first + p in
    one_list (cell_at (content_of added).lists x) (get_or a.cells p []) (cell_sorted (content_of added).lists x content.sorted) (All-get_or Sorted a.cells p [] inside sorted)
    (λ t. cell_has (content_of added).lists x t content.sorted ∙ ap (among x) (content.lists t) ∙ alone_here x (omega arith, omega (arith, document.counted, inside)) t
    ∙ at_place x a.row.first p t a.cells refl inside ∙ sym (has_holds t (get_or a.cells p [])))

document_with : ℕ → List ℕ → List (List (List ℕ)) → Document
document_with number name cells = record { number = number; name = name; cells = cells }

document_is : (added : List Added) (a : Added) → IsSpace added → IsAlone added a → IsInSpace a → AreSorted a → document_of (content_of added).lists a.row ≡ doc_of a
unfolding document_with
document_is added a space alone_here document sorted =
    ap (document_with a.row.number a.row.name)
    (ap (λ n. map (cell_at (content_of added).lists) (locations_from a.row.first n)) document.counted
    ∙ cells_are (cell_at (content_of added).lists) a.row.first a.cells (λ p inside. cell_is added a p space alone_here document sorted inside))

all_documents : (added : List Added) → IsSpace added → All IsInSpace added
all_documents [] space = All-nil IsInSpace
all_documents (a ∷ more) space = All-cons IsInSpace a more space.0 (all_documents more space.3)

map_same : (f g : Added → Document) (xs : List Added) → All (λ (a : Added). f a ≡ g a) xs → map f xs ≡ map g xs
map_same f g [] all = refl
map_same f g (a ∷ xs) all =
    ap (λ (d : Document). d ∷ map f xs) (All-head (λ (a : Added). f a ≡ g a) a xs all) ∙ ap (λ (ds : List Document). g a ∷ ds) (map_same f g xs (All-tail (λ (a : Added). f a ≡ g a) a xs all))

map_twice : (f : DocRow → Document) (xs : List Added) → map f (map (λ (a : Added). a.row) xs) ≡ map (λ (a : Added). f a.row) xs
map_twice f [] = refl
map_twice f (a ∷ xs) = ap (λ (ds : List Document). f a.row ∷ ds) (map_twice f xs)

-- the content of documents has these documents
pub content_documents : (added : List Added) → IsSpace added → All AreSorted added → map (document_of (content_of added).lists) (map (λ (a : Added). a.row) added) ≡ map doc_of added
content_documents added space sorted =
    map_twice (document_of (content_of added).lists) added
    ∙ map_same (λ (a : Added). document_of (content_of added).lists a.row) doc_of added
    (all_weaker (λ (a : Added). IsAlone added a × (IsInSpace a × AreSorted a)) (λ (a : Added). document_of (content_of added).lists a.row ≡ doc_of a) added
    (λ a all. document_is added a space all.0 all.1.0 all.1.1)
    (all_both (IsAlone added) (λ (a : Added). IsInSpace a × AreSorted a) added (alone added space) (all_both IsInSpace AreSorted added (all_documents added space) sorted)))

-- ---- cells of a document are sorted

one_sorted : (t : List ℕ) → Sorted (t ∷ [])
unfolding IsStrictlySortedBy
one_sorted t = (tt, tt)

none_sorted : Sorted []
unfolding IsStrictlySortedBy
none_sorted = tt

word_two : (written folded : List ℕ) → Sorted ((87 ∷ folded) ∷ (88 ∷ written) ∷ [])
unfolding IsStrictlySortedBy
word_two written folded = ((refl, tt), (tt, tt))

name_two : (name : List ℕ) → Sorted ((78 ∷ name) ∷ (83 ∷ []) ∷ [])
unfolding IsStrictlySortedBy
name_two name = ((refl, tt), (tt, tt))

word_sorted : (w : List ℕ × List ℕ) → Sorted (word_cell w)
word_sorted (written, folded) =
    by_cases (nat_lt 128 (length written) || nat_lt 128 (length folded)) (bytes_eq written folded) (number_in written)
  where
    by_cases : (a b : Bool) (number : Option ℕ) → Sorted (cond a [] (cond b ((87 ∷ folded) ∷ numbered number) ((87 ∷ folded) ∷ (88 ∷ written) ∷ [])))
    by_cases true b number = none_sorted
    by_cases false true number = numbered_sorted folded number
    by_cases false false number = word_two written folded

words_sorted : (ws : List (List ℕ × List ℕ)) → All Sorted (map word_cell ws)
words_sorted [] = All-nil Sorted
words_sorted (w ∷ ws) = All-cons Sorted (word_cell w) (map word_cell ws) (word_sorted w) (words_sorted ws)

pub cells_sorted : (name title body : List ℕ) → All Sorted (cells_of name title body)
cells_sorted name title body =
    All-append Sorted (((78 ∷ name) ∷ (83 ∷ []) ∷ []) ∷ map word_cell (words_of title) ++ ((84 ∷ []) ∷ []) ∷ map word_cell (words_of body)) (((68 ∷ []) ∷ []) ∷ [])
    (All-append Sorted (((78 ∷ name) ∷ (83 ∷ []) ∷ []) ∷ map word_cell (words_of title)) (((84 ∷ []) ∷ []) ∷ map word_cell (words_of body))
    (All-cons Sorted ((78 ∷ name) ∷ (83 ∷ []) ∷ []) (map word_cell (words_of title)) (name_two name) (words_sorted (words_of title)))
    (All-cons Sorted ((84 ∷ []) ∷ []) (map word_cell (words_of body)) (one_sorted (84 ∷ [])) (words_sorted (words_of body))))
    (All-cons Sorted ((68 ∷ []) ∷ []) [] (one_sorted (68 ∷ [])) (All-nil Sorted))
