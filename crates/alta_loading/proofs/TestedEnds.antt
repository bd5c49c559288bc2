-- The lists of all ends, once they were tested.
use Rattle.std.proofs.Common.{◌≡◌, ◌⊎◌, ⊎_elim, inl, inr, ℕ, zero, suc, ◌+◌, ◌<◌, ◌^◌, ◌||◌, Bool, true, false, List, [], ◌∷◌, length, get_or, refl, sym, subst, ◌∙◌, arith}
use Rattle.std.specs.Prelude.{All, Contains, Ok, Option, None, Some, flat_map, slice_get}
use Rattle.std.specs.List.{filter, list_any}
use Rattle.std.specs.Str.{bytes_eq}
use Rattle.std.proofs.lemmas.Bool.{true≢false}
use Rattle.std.proofs.lemmas.List.Elements.{All-nil, All-cons, All-head, All-get_or}
use Rattle.alta_compile.specs.Space.{document_end}
use Rattle.alta_content.specs.Joining.{in_order}
use Rattle.alta_content.specs.Lists.{AreInRanges, end_term, terms_of}
use Rattle.alta_content.specs.Rows.{AreDocuments, ends_of, start}
use Rattle.alta_content.specs.declared.content.Content.{Content}
use Rattle.alta_content.specs.declared.document.DocRow.{DocRow}
use Rattle.alta_meaning.proofs.Tests.{by_test}
use Rattle.alta_level.proofs.Faults.{list_or_fault}
use Rattle.alta_level.proofs.Walks.{ends_many, ordered}
use Rattle.alta_loading.specs.Loads.{IsWhole, Load, Tells, list_at, load_at, load_in, loads_from, row_from, stored_by}
use Rattle.alta_loading.specs.Met.{all_terms, is_among, level_terms, loads_met, loads_of_tests}
use Rattle.alta_loading.specs.Terms.{loads_of}
use Rattle.alta_loading.specs.Tested.{AreEndsWhole, HasWholeEnds}
use Rattle.alta_loading.specs.declared.kept.Ends.{Ends}
use Rattle.alta_loading.specs.declared.kept.Ends.TheVariants.{Tested, Untested}
use Rattle.alta_loading.proofs.PrefixRows.{found_is}
use Rattle.alta_loading.proofs.RowOf.{no_row, row_found}
use Rattle.alta_loading.proofs.Runs.{all_back, all_front}
use Rattle.alta_loading.proofs.TermSets.{any_parts, one_met}
use Rattle.alta_machine.specs.declared.test.Test.{Test}
use Rattle.alta_search.specs.Newest.{term_meets}
use Rattle.alta_table.specs.Tables.{Tables}
use Rattle.alta_table.specs.Terms.{AreTerms, terms_of as row_terms}

-- ---- of one level

-- one of these levels
pub one_tested : (ends : Ends) (image : List ℕ) (levels : List Tables) (i : ℕ) (x : Tables) → i < length levels → x ≡ get_or levels i x → AreEndsWhole ends image levels → AreEndsWhole ends image (x ∷ [])
one_tested Untested image levels i x l e h = tt
one_tested Tested image levels i x l e h =
    All-cons (HasWholeEnds image) x [] (subst (HasWholeEnds image) (sym e) (All-get_or (HasWholeEnds image) levels i x l h)) (All-nil (HasWholeEnds image))

-- the row of the term of ends is whole
pub row_tested : (image : List ℕ) (level : Tables) (row : ℕ) → AreTerms level.terms → slice_get (row_terms level.terms) row ≡ Some end_term → AreEndsWhole Tested image (level ∷ [])
    → IsWhole image (record { number = 0; level = level; row = row })
row_tested image level row stand is h =
    let at : Some row ≡ row_from 0 level.terms end_term = row_found level.terms end_term (Some row) stand is in
    All-head (IsWhole image) (record { number = 0; level = level; row = row }) []
    (subst (λ (r : Option ℕ). All (IsWhole image) (load_at 0 level r)) (sym at) (All-head (HasWholeEnds image) level [] h))

-- the ends of documents lie in their ranges
pub ends_in_ranges : (documents : List DocRow) → AreDocuments documents → AreInRanges documents (ends_of documents)
ends_in_ranges documents stand k l = record {
  row = k;
  within = omega (arith, ends_many documents);
  from = ordered start documents stand k (omega (arith, ends_many documents));
  to = omega arith;
}

-- a whole list is told so
pub tells_whole : {X : Type 0} (image : List ℕ) (load : Load) (x : X) → length (stored_by image load).stream < 2 ^ 64 → IsWhole image load → Tells {X = X} image (load ∷ []) (Ok x)
tells_whole image load x small whole = record {
  whole = All-cons (IsWhole image) load [] whole (All-nil (IsWhole image));
  first = tt;
  only = λ w. tt;
  damaged = λ p f. ⊎_elim (λ g. list_or_fault load.level.documents (stored_by image load) (list_at image load) p small whole g) (λ g. absurd g.1) f;
}

-- ---- of all levels

-- the number of a level is free
renumbered : (image : List ℕ) (n : ℕ) (level : Tables) (row : Option ℕ) → All (IsWhole image) (load_at n level row) → All (IsWhole image) (load_at 0 level row)
renumbered image n level None h = h
renumbered image n level (Some row) h =
    All-cons (IsWhole image) (record { number = 0; level = level; row = row }) [] (All-head (IsWhole image) (record { number = n; level = level; row = row }) [] h) (All-nil (IsWhole image))

each_whole : (image : List ℕ) (n : ℕ) (levels : List Tables) → All (IsWhole image) (loads_from n levels end_term) → All (HasWholeEnds image) levels
each_whole image n [] h = All-nil (HasWholeEnds image)
each_whole image n (level ∷ levels) h =
    All-cons (HasWholeEnds image) level levels
    (renumbered image n level (row_from 0 level.terms end_term) (all_front image (load_in n level end_term) (loads_from (n + 1) levels end_term) h))
    (each_whole image (n + 1) levels (all_back image (load_in n level end_term) (loads_from (n + 1) levels end_term) h))

first_false : (a b : Bool) → (a || b) ≡ false → a ≡ false
first_false true b e = absurd (true≢false e)
first_false false b e = refl

last_false : (a b : Bool) → (a || b) ≡ false → b ≡ false
last_false true b e = absurd (true≢false e)
last_false false b e = e

-- levels without the term
none_whole : (image : List ℕ) (levels : List Tables) → list_any (λ level. is_among end_term (level_terms level)) levels ≡ false → All (HasWholeEnds image) levels
none_whole image [] none = All-nil (HasWholeEnds image)
none_whole image (level ∷ levels) none =
    let here = first_false (is_among end_term (level_terms level)) (list_any (λ l. is_among end_term (level_terms l)) levels) none in
    let absent : row_from 0 level.terms end_term ≡ None = no_row 0 level.terms end_term (λ k e. true≢false (sym (found_is (level_terms level) end_term k e) ∙ here)) in
    All-cons (HasWholeEnds image) level levels
    (subst (λ (r : Option ℕ). All (IsWhole image) (load_at 0 level r)) (sym absent) (All-nil (IsWhole image)))
    (none_whole image levels (last_false (is_among end_term (level_terms level)) (list_any (λ l. is_among end_term (level_terms l)) levels) none))

-- what was loaded of one of these tests
one_of : (image : List ℕ) (f : Test → List Load) (test : Test) (tests : List Test) → Contains tests test → All (IsWhole image) (flat_map f tests) → All (IsWhole image) (f test)
one_of image f test [] (k, l, e) h = absurd (omega (arith, l))
one_of image f test (t ∷ ts) (zero, l, e) h = subst (λ (u : Test). All (IsWhole image) (f u)) e (all_front image (f t) (flat_map f ts) h)
one_of image f test (t ∷ ts) (suc k, l, e) h = one_of image f test ts (k, omega (arith, l), e) (all_back image (f t) (flat_map f ts) h)

-- where the lists of these tests are whole, and one of them is that of document ends, the ends of all levels are
pub all_tested : (image : List ℕ) (levels : List Tables) (newest : Content) (tests : List Test) → Contains tests document_end → All (IsWhole image) (loads_of_tests levels newest tests) → AreEndsWhole Tested image levels
all_tested image levels newest tests is h =
    let all = all_terms levels newest in
    let met : All (IsWhole image) (loads_of levels (filter (term_meets document_end) (in_order all))) = one_of image (loads_met levels newest) document_end tests is h in
    by_test (is_among end_term all)
    (λ yes. each_whole image 0 levels
    (all_front image (loads_from 0 levels end_term) [] (subst (λ (ts : List (List ℕ)). All (IsWhole image) (loads_of levels ts)) (sym (one_met end_term all yes)) met)))
    (λ no. none_whole image levels
    (first_false (list_any (λ level. is_among end_term (level_terms level)) levels) (is_among end_term (terms_of newest.lists))
    (sym (any_parts level_terms (bytes_eq end_term) levels (terms_of newest.lists)) ∙ no)))

-- the mark behind a load of these tests is right
pub mark_right : (image : List ℕ) (levels : List Tables) (newest : Content) (tests : List Test) (ends mark : Ends) → (mark ≡ ends) ⊎ ((mark ≡ Tested) × Contains tests document_end)
    → AreEndsWhole ends image levels → All (IsWhole image) (loads_of_tests levels newest tests) → AreEndsWhole mark image levels
mark_right image levels newest tests ends mark (inl same) before loaded = subst (λ (m : Ends). AreEndsWhole m image levels) (sym same) before
mark_right image levels newest tests ends mark (inr (is, one)) before loaded = subst (λ (m : Ends). AreEndsWhole m image levels) (sym is) (all_tested image levels newest tests one loaded)
