-- What walks over the lists of a snapshot see of the documents that it shows.
use Rattle.std.proofs.Common.{◌≡◌, ⊎_elim, inl, inr, ℕ, zero, suc, ◌+◌, ◌<◌, true, List, [], ◌∷◌, length, map, get_or, refl, sym, ap, subst, ◌∙◌, arith}
use Rattle.std.specs.Prelude.{Contains, IsTrue, nat_eq}
use Rattle.std.specs.List.{All, concat, starts_with}
use Rattle.std.specs.Str.{bytes_eq}
use Rattle.std.proofs.lemmas.Bool.{cases_Bool, eqb-true, eq-eqb, or_cases, true≢false}
use Rattle.std.proofs.lemmas.List.Elements.{All-nil, All-cons, All-filter, All-get_or, All-head, All-tail}
use Rattle.alta_compile.specs.Space.{document_end}
use Rattle.alta_compile.proofs.Spaces.{Has}
use Rattle.alta_content.specs.Cells.{locations_from}
use Rattle.alta_content.proofs.Order.{Sorted, has, has_head, has_more, iff_same, itself, same_term}
use Rattle.alta_gather.specs.Holding.{held_in}
use Rattle.alta_gather.specs.declared.held.Held.{Held}
use Rattle.alta_memlevel.specs.Added.{Added, IsInSpace, IsSpace, list_of, live_of}
use Rattle.alta_memlevel.proofs.One.{holds_has}
use Rattle.alta_machine.specs.Cells.{cell_holds}
use Rattle.alta_machine.specs.declared.document.Document.{Document}
use Rattle.alta_machine.specs.declared.kinds.TheConstants.{WORD, TITLE_END}
use Rattle.alta_machine.specs.declared.test.Test.{Test}
use Rattle.alta_machine.specs.declared.test.Test.TheVariants.{Is, Begins}
use Rattle.alta_search.specs.Lists.{AreKeys, TermKey, key_of, term_in, term_lists}
use Rattle.alta_search.specs.Met.{MeetTest}
use Rattle.alta_search.specs.Newest.{term_meets}
use Rattle.alta_search.specs.Shown.{IsKept, ShowsDocuments}
use Rattle.alta_search.specs.View.{View}
use Rattle.alta_search.specs.declared.lists.TermLists.{TermLists}
use Rattle.alta_search.proofs.NewestLists.{placed_of, space_of}
use Rattle.alta_machine.specs.Plain.{ends_document, ends_title, is_kind, of_kind}
use Rattle.alta_dump.specs.Seen.{AreFolded, AreFoldings, EndAtLast, IsRowSeen, is_held, terms_of}
use Rattle.alta_dump.proofs.Cells.{held_terms, is_in, list_tells, tells_foldings, tells_one}
use Rattle.alta_dump.proofs.Folds.{begins_kind}
use Rattle.alta_dump.proofs.OfKind.{begins_other}

-- ---- the terms of a test

-- These terms are all that meet the test in the documents, in order, each with its locations.
pub record HasTerms (added : List Added) (test : Test) (terms : List TermLists) : Type 0 where
  pub lists : map concat (map term_lists terms) ≡ map (list_of added) (terms_of terms)
  pub all : (t : List ℕ) → IsTrue (term_meets test t) → 0 < length (list_of added t) → has t (terms_of terms) ≡ true
  pub met : All (λ t. IsTrue (term_meets test t)) (terms_of terms)
  pub sorted : Sorted (terms_of terms)

terms_keys : (terms : List TermLists) → map term_in (map key_of terms) ≡ terms_of terms
terms_keys [] = refl
terms_keys (t ∷ ts) = ap (λ (us : List (List ℕ)). t.term ∷ us) (terms_keys ts)

lists_keys : (added : List Added) (terms : List TermLists) → map (λ (key : TermKey). list_of added (term_in key)) (map key_of terms) ≡ map (list_of added) (terms_of terms)
lists_keys added [] = refl
lists_keys added (t ∷ ts) = ap (λ (ls : List (List ℕ)). list_of added t.term ∷ ls) (lists_keys added ts)

all_keys : (P : List ℕ → Type 0) (terms : List TermLists) → All (λ (key : TermKey). P (term_in key)) (map key_of terms) → All P (terms_of terms)
all_keys P [] all = All-nil P
all_keys P (t ∷ ts) all =
    let Of : TermKey → Type 0 = λ key. P (term_in key) in
    All-cons P t.term (terms_of ts) (All-head Of (key_of t) (map key_of ts) all) (all_keys P ts (All-tail Of (key_of t) (map key_of ts) all))

contains_term : (ts : List (List ℕ)) (t : List ℕ) → Contains ts t → has t ts ≡ true
contains_term [] t (k, l, e) = absurd (omega (arith, l))
contains_term (u ∷ us) t (zero, l, e) = subst (λ (v : List ℕ). has v (u ∷ us) ≡ true) e (has_head u us)
contains_term (u ∷ us) t (suc k, l, e) = has_more t u us (contains_term us t (k, omega (arith, l), e))

pub terms_shown : (v : View) (documents : List Document) (shows : ShowsDocuments v documents) (at : ℕ) (test : Test) (terms : List TermLists) → at < length v.tests
    → get_or v.tests at document_end ≡ test → map key_of terms ≡ get_or v.keys at [] → map term_lists terms ≡ get_or v.cuts at []
    → MeetTest (get_or v.tests at document_end) (map key_of terms) → AreKeys (map key_of terms) → HasTerms shows.added test terms
terms_shown v documents shows at test terms within is keys cuts met keyed =
    let told = shows.terms at within in
    record {
      lists = ap (map concat) cuts ∙ told.lists ∙ ap (map (λ (key : TermKey). list_of shows.added (term_in key))) (sym keys) ∙ lists_keys shows.added terms;
      all = λ t meets some.
          ap (has t) (sym (ap (map term_in) (sym keys) ∙ terms_keys terms))
          ∙ contains_term (map term_in (get_or v.keys at [])) t (told.all t (subst (λ (x : Test). IsTrue (term_meets x t)) (sym is) meets) some);
      met = all_keys (λ (t : List ℕ). IsTrue (term_meets test t)) terms (subst (λ (x : Test). MeetTest x (map key_of terms)) is met);
      sorted = subst Sorted (terms_keys terms) keyed.terms;
    }

-- ---- the kind of folded words

begins_is : (t : List ℕ) → starts_with nat_eq t (WORD ∷ []) ≡ true → is_kind WORD t ≡ true
begins_is t begins = ⊎_elim (λ yes. yes) (λ no. absurd (true≢false (sym begins ∙ begins_other WORD [] t no))) (cases_Bool (is_kind WORD t))

all_has : (P : List ℕ → Type 0) (ts : List (List ℕ)) (t : List ℕ) → All P ts → has t ts ≡ true → P t
all_has P [] t all there = absurd (true≢false (sym there))
all_has P (u ∷ us) t all there =
    ⊎_elim (λ here. subst P (sym (same_term t u here)) (All-head P u us all)) (λ later. all_has P us t (All-tail P u us all) later) (or_cases (bytes_eq t u) (has t us) there)

some_located : (xs : List ℕ) (x : ℕ) → Contains xs x → 0 < length xs
some_located xs x (k, l, e) = omega (arith, l)

-- ---- the cells of a row, one after the other

folded_row : (terms : List (List ℕ)) (f : ℕ → Held) (first : ℕ) (cells : List (List (List ℕ)))
    → ((p : ℕ) → p < length cells → AreFoldings terms (f (first + p)) (of_kind WORD (get_or cells p []))) → AreFolded terms (map f (locations_from first (length cells))) cells
unfolding locations_from
folded_row terms f first [] each = tt
folded_row terms f first (cell ∷ cells) each = (
  subst (λ (n : ℕ). AreFoldings terms (f n) (of_kind WORD cell)) (let e : first + 0 ≡ first = omega arith in e) (each 0 (omega arith)),
  folded_row terms f (first + 1) cells
      (λ p l. subst (λ (n : ℕ). AreFoldings terms (f n) (of_kind WORD (get_or cells p []))) (let e : first + suc p ≡ first + 1 + p = omega arith in e) (each (suc p) (omega (arith, l)))),
)

ends_row : (g : ℕ → Held) (first : ℕ) (cells : List (List (List ℕ))) → ((p : ℕ) → p < length cells → is_held (g (first + p)) ≡ ends_title (get_or cells p []))
    → map is_held (map g (locations_from first (length cells))) ≡ map ends_title cells
unfolding locations_from
ends_row g first [] each = refl
ends_row g first (cell ∷ cells) each =
    let here : is_held (g first) ≡ ends_title cell = ap (λ (n : ℕ). is_held (g n)) (let e : first ≡ first + 0 = omega arith in e) ∙ each 0 (omega arith) in
    let rest = ends_row g (first + 1) cells (λ p l. ap (λ (n : ℕ). is_held (g n)) (let e : first + 1 + p ≡ first + suc p = omega arith in e) ∙ each (suc p) (omega (arith, l))) in
    λ i. here i ∷ rest i

-- ---- the documents

pub in_space : (added : List Added) → IsSpace added → All IsInSpace added
in_space [] s = All-nil IsInSpace
in_space (a ∷ more) s = All-cons IsInSpace a more s.0 (in_space more s.3)

pub placed_at : (added : List Added) (k : ℕ) (d : Added) → k < length added → Has (space_of added) (placed_of (get_or added k d))
placed_at [] k d l = absurd (omega (arith, l))
placed_at (a ∷ more) zero d l = inl refl
placed_at (a ∷ more) (suc k) d l = inr (placed_at more k d (omega (arith, l)))

module _ (added : List Added) (space : IsSpace added) (titles words : List TermLists) (t : HasTerms added (Is (TITLE_END ∷ [])) titles) (w : HasTerms added (Begins (WORD ∷ [])) words) where
  abbrev seen_words : ℕ → Held
  seen_words = held_in (map concat (map term_lists words))

  abbrev seen_titles : ℕ → Held
  seen_titles = held_in (map concat (map term_lists titles))

  module _ (a : Added) (m : Has (space_of added) (placed_of a)) (kept : IsKept a) (inside : IsInSpace a) where
    word_here : (p : ℕ) → p < length a.cells → AreFoldings (terms_of words) (seen_words (a.row.first + p)) (of_kind WORD (get_or a.cells p []))
    word_here p within =
        let cell = get_or a.cells p [] in let x = a.row.first + p in
        subst (λ (ls : List (List ℕ)). AreFoldings (terms_of words) (held_in ls x) (of_kind WORD cell)) (sym w.lists)
        (tells_foldings (list_of added) x (λ (u : List ℕ). cell_holds u cell) (terms_of words) (of_kind WORD cell) (λ u. list_tells added space a m p u within)
        (held_terms (terms_of words) cell (is_kind WORD) w.sorted (All-get_or Sorted a.cells p [] within kept.sorted)
        (λ u there. iff_same (has u (terms_of words)) (is_kind WORD u)
        (λ among. begins_is u (all_has (λ (v : List ℕ). IsTrue (term_meets (Begins (WORD ∷ [])) v)) (terms_of words) u w.met among))
        (λ kind. w.all u (begins_kind WORD u kind) (some_located (list_of added u) x (is_in added space a m p u within (holds_has u cell ∙ there)))))))

    title_here : (p : ℕ) → p < length a.cells → is_held (seen_titles (a.row.first + p)) ≡ ends_title (get_or a.cells p [])
    title_here p within =
        let cell = get_or a.cells p [] in let x = a.row.first + p in let only = TITLE_END ∷ [] in
        ap (λ (ls : List (List ℕ)). is_held (held_in ls x)) t.lists
        ∙ tells_one (list_of added) x (λ (u : List ℕ). cell_holds u cell) only (terms_of titles) (λ u. list_tells added space a m p u within) t.met
        (λ holds. t.all only (itself only) (some_located (list_of added only) x (is_in added space a m p only within holds)))

    end_here : EndAtLast a.cells
    end_here place within =
        iff_same (ends_document (get_or a.cells place [])) (nat_eq (place + 1) (length a.cells))
        (λ holds. eq-eqb (place + 1) (length a.cells) ((kept.ended place).0 (within, holds)))
        (λ last. ((kept.ended place).1 (eqb-true (place + 1) (length a.cells) last)).1)

    pub row_seen : IsRowSeen (terms_of words) (held_in (map concat (map term_lists words))) (held_in (map concat (map term_lists titles))) a
    row_seen = record {
      named = kept.named;
      seen = record {
        folded = subst (λ (n : ℕ). AreFolded (terms_of words) (map seen_words (locations_from a.row.first n)) a.cells) (sym inside.counted) (folded_row (terms_of words) seen_words a.row.first a.cells word_here);
        title_ends = ap (λ (n : ℕ). map is_held (map seen_titles (locations_from a.row.first n))) inside.counted ∙ ends_row seen_titles a.row.first a.cells title_here;
        document_end = end_here;
      };
    }

  -- each of the documents that are not deleted
  pub rows_seen : (gone : List ℕ) → All IsKept added → All (IsRowSeen (terms_of words) (held_in (map concat (map term_lists words))) (held_in (map concat (map term_lists titles)))) (live_of gone added)
  rows_seen gone kept =
      All-filter _ (IsRowSeen (terms_of words) seen_words seen_titles) added
      (λ k d l. row_seen (get_or added k d) (placed_at added k d l) (kept k d l) (in_space added space k d l))
