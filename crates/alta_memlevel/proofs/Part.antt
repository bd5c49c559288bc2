-- The content of documents of a name, a title and a body keeps the rules of a level.
use Rattle.std.proofs.Common.{◌≡◌, ⊎_elim, inl, inr, ℕ, suc, ◌+◌, ◌-◌, ◌<◌, true, IsTrue, List, [], ◌∷◌, ◌++◌, length, get_or, refl, sym, ap, subst, ◌∙◌, arith}
use Rattle.std.specs.Prelude.{nat_le}
use Rattle.std.specs.List.{All, AllByRecursion, list_any}
use Rattle.std.specs.List.Sorted.{IsStrictlySortedBy}
use Rattle.std.specs.Str.{bytes_eq}
use Rattle.std.specs.Cmp.Lexicographic.{nat_list_eq_equiv}
use Rattle.std.proofs.lemmas.Bool.{cases_Bool, or_cases, or_left, or_right, cond-false, true≢false, and_parts, leb-true}
use Rattle.std.proofs.lemmas.List.{length-map}
use Rattle.std.proofs.lemmas.List.Elements.{All-nil, All-cons, All-head, All-tail, All-map, All-weaker, All-from_recursion}
use Rattle.alta_codec.specs.declared.location.TheConstants.{TOP}
use Rattle.alta_codec.specs.Rising.{IsRising}
use Rattle.alta_content.specs.declared.document.DocRow.{DocRow}
use Rattle.alta_content.specs.Joining.{in_order, with_term}
use Rattle.alta_content.specs.Lists.{AreInRanges, AreListsBehind, IsContent, IsInRange, TermsRise, end_term, is_end_list, locations_of, terms_of}
use Rattle.alta_content.specs.Parts.{IsEmpty, IsPart}
use Rattle.alta_content.specs.Rows.{AreDocuments, AreDocumentsBehind, Before, MayFollow, behind_row, end_of, ends_of, start}
use Rattle.alta_content.specs.declared.content.Content.{Content}
use Rattle.alta_content.specs.TermList.{TermList}
use Rattle.alta_memlevel.specs.Added.{Added, HasContent, IsSpace, list_of, places_of}
use Rattle.alta_memlevel.proofs.Contents.{list_of_rises}
use Rattle.alta_machine.specs.Cells.{cells_of}
use Rattle.alta_content.proofs.Order.{After, by_order, cmp}
use Rattle.alta_content.proofs.Elements.{among_at}
use Rattle.alta_content.proofs.Folds.{HasSome}
use Rattle.alta_content.proofs.Ranges.{in_row, in_rows}
use Rattle.alta_memlevel.specs.Documents.{AreMade, IsMade, content_of, terms_added}
use Rattle.alta_memlevel.proofs.Cells.{IsGood, IsTerm, cells_long, end_places}
use Rattle.alta_memlevel.proofs.Made.{made_good}
use Rattle.alta_memlevel.proofs.One.{content_locations, content_rises, content_some, one_content, terms_in_cells}
use Rattle.alta_memlevel.proofs.Read.{list_within, rows_added}

-- ---- the rows

row_follows : (before : Before) (a : Added) → IsMade a → a.row.cells ≡ length a.cells → end_of a.row < TOP → before.number < a.row.number → before.end < a.row.first → MayFollow before a.row
row_follows before a m counted below n e =
    let long = cells_long a.row.name m.title m.body in
    let same = ap length m.made in
    record {
      rises = n;
      number_below = m.number_below;
      starts_behind = e;
      first_below = omega (arith, below, counted, same, long);
      some_cells = omega (arith, counted, same, long);
      few_cells = omega (arith, counted, m.few);
      end_below = below;
      named = m.named;
    }

pub rows_follow : (before : Before) (added : List Added) → IsSpace added → AreMade added → All (λ (a : Added). before.number < a.row.number) added → All (λ (a : Added). before.end < a.row.first) added
    → AreDocumentsBehind before (rows_added added)
unfolding AreDocumentsBehind
rows_follow before [] s m n e = tt
rows_follow before (a ∷ more) s m n e = (
  row_follows before a (All-head IsMade a more m) s.0.counted s.0.below (All-head (λ (b : Added). before.number < b.row.number) a more n) (All-head (λ (b : Added). before.end < b.row.first) a more e),
  rows_follow (behind_row before a.row) more s.3 (All-tail IsMade a more m) s.1 s.2,
)

firsts_positive : (added : List Added) → IsSpace added → All (λ (a : Added). 0 < a.row.first) added
firsts_positive [] s = All-nil (λ (a : Added). 0 < a.row.first)
firsts_positive (a ∷ more) s = All-cons (λ (b : Added). 0 < b.row.first) a more (omega (arith, s.0.positive)) (firsts_positive more s.3)

rows_stand : (added : List Added) → IsSpace added → AreMade added → AreDocuments (rows_added added)
rows_stand added s m =
    rows_follow start added s m
    (All-weaker IsMade (λ (a : Added). 0 < a.row.number) (λ a n. omega (arith, n.numbered)) added m)
    (firsts_positive added s)

-- ---- the terms

all_append : (P : List ℕ → Type 0) (ts us : List (List ℕ)) → AllByRecursion P ts → AllByRecursion P us → AllByRecursion P (ts ++ us)
all_append P [] us h k = k
all_append P (t ∷ ts) us h k = (h.0, all_append P ts us h.1 k)

cells_terms : (cells : List (List (List ℕ))) → All IsGood cells → AllByRecursion IsTerm (terms_in_cells cells)
cells_terms [] h = tt
cells_terms (c ∷ cs) h = all_append IsTerm c (terms_in_cells cs) (All-head IsGood c cs h).terms (cells_terms cs (All-tail IsGood c cs h))

added_terms : (added : List Added) → AreMade added → AllByRecursion IsTerm (terms_added added)
added_terms [] m = tt
added_terms (a ∷ more) m =
    all_append IsTerm (terms_in_cells a.cells) (terms_added more) (cells_terms a.cells (made_good a (All-head IsMade a more m))) (added_terms more (All-tail IsMade a more m))

with_all : (P : List ℕ → Type 0) (t : List ℕ) (ts : List (List ℕ)) → P t → AllByRecursion P ts → AllByRecursion P (with_term t ts)
with_all P t [] p h = (p, tt)
with_all P t (u ∷ us) p h =
    by_order (cmp t u)
    (λ e. rw e (p, h))
    (λ e. rw e h)
    (λ e. rw e (h.0, with_all P t us p h.1))

order_all : (P : List ℕ → Type 0) (ts : List (List ℕ)) → AllByRecursion P ts → AllByRecursion P (in_order ts)
order_all P [] h = tt
order_all P (t ∷ ts) h = with_all P t (in_order ts) h.0 (order_all P ts h.1)

-- ---- the ends

ends_listed : (added : List Added) → IsSpace added → AreMade added → list_of added end_term ≡ ends_of (rows_added added)
ends_listed [] s m = refl
ends_listed (a ∷ more) s m =
    let own : IsMade a = All-head IsMade a more m in
    let cells = cells_of a.row.name own.title own.body in
    ap (λ l. l ++ list_of more end_term)
    (ap (places_of a.row.first end_term) own.made ∙ end_places a.row.first a.row.name own.title own.body
    ∙ ap (λ n. n ∷ []) (ap (λ n. a.row.first + n - 1) (sym (s.0.counted ∙ ap length own.made))))
    ∙ ap (λ l. end_of a.row ∷ l) (ends_listed more s.3 (All-tail IsMade a more m))

found_end : (lists : List TermList) → 0 < length (locations_of lists end_term) → IsTrue (list_any is_end_list lists)
found_end [] h = absurd (omega (arith, h))
found_end (l ∷ ls) h =
    let swap : bytes_eq end_term l.term ≡ bytes_eq l.term end_term = nat_list_eq_equiv.symm end_term l.term in
    ⊎_elim
    (λ y. or_left (is_end_list l) (list_any is_end_list ls) y)
    (λ n. or_right (is_end_list l) (list_any is_end_list ls)
    (found_end ls (subst (λ (x : List ℕ). 0 < length x) (cond-false (bytes_eq end_term l.term) l.locations (locations_of ls end_term) (swap ∙ n)) h)))
    (cases_Bool (bytes_eq l.term end_term))

-- ---- the lists

range_from : (rows : List DocRow) (x : ℕ) → in_rows rows x ≡ true → IsInRange rows x
range_from [] x h = absurd (true≢false (sym h))
range_from (r ∷ rs) x h =
    ⊎_elim
    (λ here. let p = and_parts (nat_le r.first x) (nat_le x (end_of r)) here in
    record { row = 0; within = omega arith; from = leb-true r.first x p.0; to = leb-true x (end_of r) p.1 })
    (λ later. let q = range_from rs x later in
    record { row = suc q.row; within = omega (arith, q.within); from = q.from; to = q.to })
    (or_cases (in_row x r) (in_rows rs x) h)

-- what is asked of a list, but for its place and that it is not empty
record Fits (rows : List DocRow) (l : TermList) : Type 0 where
  term : IsTerm l.term
  rising : IsRising l.locations
  within : AreInRanges rows l.locations
  ends : l.term ≡ end_term → l.locations ≡ ends_of rows

stand : (rows : List DocRow) (before : List ℕ) (lists : List TermList) → After before (terms_of lists) → TermsRise lists → All (Fits rows) lists → All HasSome lists → AreListsBehind rows before lists
unfolding AreListsBehind IsStrictlySortedBy
stand rows before [] a s f g = tt
stand rows before (l ∷ ls) a s f g =
    let own : Fits rows l = All-head (Fits rows) l ls f in (
      record {
        rises = a.0;
        kind = own.term.1;
        short = own.term.2;
        some = All-head HasSome l ls g;
        rising = own.rising;
        within = own.within;
        ends = own.ends;
      },
      stand rows l.term ls s.0 s.1 (All-tail (Fits rows) l ls f) (All-tail HasSome l ls g),
    )

after_none : (rows : List DocRow) (lists : List TermList) → All (Fits rows) lists → After [] (terms_of lists)
after_none rows [] f = tt
after_none rows (l ∷ ls) f =
    let own : Fits rows l = All-head (Fits rows) l ls f in (own.term.0, after_none rows ls (All-tail (Fits rows) l ls f))

-- ---- the content

module _ (added : List Added) (s : IsSpace added) (m : AreMade added) where
  abbrev rows : List DocRow
  rows = rows_added added

  abbrev lists : List TermList
  lists = (content_of added).lists

  abbrev list_at : List ℕ → TermList
  list_at t = record { term = t; locations = list_of added t }

  fits_at : (t : List ℕ) → IsTerm t → Fits rows (list_at t)
  fits_at t is = record {
    term = is;
    rising = list_of_rises added t s;
    within = λ k l. range_from rows (get_or (list_of added t) k 0) (list_within added t (get_or (list_of added t) k 0) s (among_at (list_of added t) k l));
    ends = λ e. ap (list_of added) e ∙ ends_listed added s m;
  }

  terms_fit : All IsTerm (in_order (terms_added added))
  terms_fit = All-from_recursion IsTerm (in_order (terms_added added)) (order_all IsTerm (terms_added added) (added_terms added m))

  all_fit : All (Fits rows) lists
  all_fit =
      All-map (Fits rows) list_at (in_order (terms_added added))
      (All-weaker IsTerm (λ t. Fits rows (list_at t)) fits_at (in_order (terms_added added)) terms_fit)

  is_level : 0 < length added → IsContent (content_of added)
  is_level some = record {
    some = omega (arith, some, length-map added (λ (a : Added). a.row));
    documents_stand = rows_stand added s m;
    lists_stand = stand rows [] lists (after_none rows lists all_fit) (content_rises added) all_fit (content_some added);
    has_end = found_end lists
        (subst (λ (x : List ℕ). 0 < length x) (sym (content_locations added end_term ∙ ends_listed added s m))
        (omega (arith, some, length-map added (λ (a : Added). a.row), length-map rows end_of)));
  }

pub have_level : (added : List Added) (content : Content) → HasContent added content → AreMade added → 0 < length added → IsContent content
have_level added content h m some = subst IsContent (sym (one_content added content h)) (is_level added h.space m some)

pub have_part : (added : List Added) (content : Content) → HasContent added content → AreMade added → IsPart content
have_part [] content h m =
    inr (subst IsEmpty (sym (one_content [] content h)) (record { documents = refl; lists = refl }))
have_part (a ∷ more) content h m = inl (have_level (a ∷ more) content h m (omega arith))
