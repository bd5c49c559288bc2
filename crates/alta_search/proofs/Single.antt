-- A use of a test that asks for one term has one at most.
use Rattle.std.proofs.Common.{◌≡◌, ℕ, zero, suc, ◌≤◌, true, false, List, [], ◌∷◌, map, length, refl, sym, ap, ◌∙◌, arith}
use Rattle.std.specs.Prelude.{All, IsTrue}
use Rattle.std.specs.List.Sorted.{IsStrictlySortedBy}
use Rattle.std.specs.Str.{bytes_eq}
use Rattle.std.proofs.lemmas.List.{length-map}
use Rattle.std.proofs.lemmas.List.Elements.{All-nil, All-cons, All-head, All-tail}
use Rattle.alta_compile.specs.Space.{document_end}
use Rattle.alta_content.proofs.Order.{itself, less_differs, same_term}
use Rattle.alta_machine.specs.declared.test.Test.{Test}
use Rattle.alta_machine.specs.declared.test.Test.TheVariants.{Is, Begins}
use Rattle.alta_search.specs.Lists.{TermKey, AreKeys, key_of, term_in, term_lists, test_at, keys_at, lists_at}
use Rattle.alta_search.specs.Met.{MeetTest, MeetsTest, IsExact, IsSingle}
use Rattle.alta_search.specs.Newest.{term_meets}
use Rattle.alta_search.specs.Readers.{Each}
use Rattle.alta_search.specs.declared.lists.TestLists.{TestLists}

-- the terms of the test at an index meet it
met_at : (ts : List TestLists) (i : ℕ) → All MeetsTest ts → MeetTest (test_at ts i) (keys_at ts i)
met_at [] i h = All-nil (λ (key : TermKey). IsTrue (term_meets document_end (term_in key)))
met_at (t ∷ ts) zero h = All-head MeetsTest t ts h
met_at (t ∷ ts) (suc i) h = met_at ts i (All-tail MeetsTest t ts h)

pub met_uses : (ts : List TestLists) (is : List ℕ) → All MeetsTest ts → Each MeetTest (map (test_at ts) is) (map (keys_at ts) is)
met_uses ts [] h = tt
met_uses ts (i ∷ is) h = (met_at ts i h, met_uses ts is h)

-- a test has as many terms with lists as it has terms
as_many : (ts : List TestLists) (i : ℕ) → length (lists_at ts i) ≡ length (keys_at ts i)
as_many [] i = refl
as_many (t ∷ ts) zero = length-map t.terms.items term_lists ∙ sym (length-map t.terms.items key_of)
as_many (t ∷ ts) (suc i) = as_many ts i

exact_one : (test : Test) (keys : List TermKey) → IsExact test → MeetTest test keys → AreKeys keys → length keys ≤ 1
unfolding IsStrictlySortedBy
exact_one test [] e m k = omega arith
exact_one test (a ∷ []) e m k = omega arith
exact_one (Begins start) (a ∷ b ∷ ks) e m k = absurd e
exact_one (Is w) (a ∷ b ∷ ks) e m k =
    let P : TermKey → Type 0 = λ key. IsTrue (term_meets (Is w) (term_in key)) in
    let first : bytes_eq a.term w ≡ true = All-head P a (b ∷ ks) m in
    let second : bytes_eq b.term w ≡ true = All-head P b ks (All-tail P a (b ∷ ks) m) in
    let same : a.term ≡ b.term = same_term a.term w first ∙ sym (same_term b.term w second) in
    let differ : bytes_eq a.term b.term ≡ false = less_differs a.term b.term k.terms.0.0 in
    let c : true ≡ false = sym (itself a.term) ∙ ap (bytes_eq a.term) same ∙ differ in
    absurd cc

pub single_uses : (ts : List TestLists) (is : List ℕ) → Each MeetTest (map (test_at ts) is) (map (keys_at ts) is) → All AreKeys (map (keys_at ts) is) → All IsExact (map (test_at ts) is)
    → All IsSingle (map (lists_at ts) is)
single_uses ts [] m k e = All-nil IsSingle
single_uses ts (i ∷ is) (m, ms) k e =
    let one : length (keys_at ts i) ≤ 1 =
    exact_one (test_at ts i) (keys_at ts i) (All-head IsExact (test_at ts i) (map (test_at ts) is) e) m (All-head AreKeys (keys_at ts i) (map (keys_at ts) is) k) in
    All-cons IsSingle (lists_at ts i) (map (lists_at ts) is) (omega (arith, one, as_many ts i))
    (single_uses ts is ms (All-tail AreKeys (keys_at ts i) (map (keys_at ts) is) k) (All-tail IsExact (test_at ts i) (map (test_at ts) is) e))
