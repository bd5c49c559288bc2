-- The plan of an or of words: its tests, the list that it reads, and the lists of the uses of its tests.
use Rattle.std.proofs.Common.{◌≡◌, ⊎_elim, inl, inr, ℕ, zero, suc, ◌+◌, ◌*◌, ◌<◌, ◌≤◌, true, false, ◌&&◌, ◌||◌, cond, List, [], ◌∷◌, ◌++◌, map, length, get_or, refl, sym, subst, ap, ◌∙◌, arith}
use Rattle.std.specs.Prelude.{◌↔◌, All, Contains, sum_by, Option, Some, None, is_some, IfSome}
use Rattle.std.proofs.lemmas.Bool.{and_parts}
use Rattle.std.proofs.lemmas.List.Elements.{All-nil, All-cons, All-head, All-tail}
use Rattle.std.proofs.lemmas.List.Sums.{sum_by-cons}
use Rattle.alta_codec.specs.Rising.{IsRising, pred_of}
use Rattle.alta_compile.specs.Conjoined.{atom_word, listed, words_in, is_some_word, conjunction_of, each_word, is_either, either_words}
use Rattle.alta_machine.specs.PlanOf.{plan_of, plans_of}
use Rattle.alta_compile.specs.Space.{Placed, IsSpace, document_end, ends_of, list_of}
use Rattle.alta_machine.specs.Plans.{Tree}
use Rattle.alta_compile.specs.Listing.{plan_list, plan_lists}
use Rattle.alta_compile.specs.declared.asked.Conjunction.{Conjunction}
use Rattle.alta_compile.proofs.Spaces.{list-rises}
use Rattle.alta_compound.specs.Union.{union, union_of}
use Rattle.alta_compound.specs.Unions.{rising_from_above, above_from_rising, union-has, union-keeps, union-rises}
use Rattle.alta_lead.proofs.AnyLaws.{within_either, any-answers}
use Rattle.alta_lead.specs.Having.{HasWithin, HasAny, ends_having, ends_with_any}
use Rattle.alta_lead.specs.HavingLaws.{having-rises, having-answers}
use Rattle.alta_machine.specs.Shape.{Atom, Shape, Shapes, atom, all, any, negated, none, more}
use Rattle.alta_machine.specs.declared.test.Test.{Test}
use Rattle.alta_counts.specs.Either.{either_tests, seconds, IsEither}
use Rattle.alta_search.specs.Lists.{test_list}
use Rattle.alta_search.specs.Met.{IsExact}
use Rattle.alta_search.specs.Plans.{tests_of, tests_in}
use Rattle.alta_search.proofs.Conjoined.{some_is, word_plan, words_exact, conjoined_list}
use Rattle.alta_search.proofs.LeadReaders.{no_word_having}
use Rattle.alta_search.proofs.Rising.{one_rising}

-- ---- its tests

either_tests_are : (qs : Shapes) → each_word qs ≡ true → tests_in (plans_of qs) ≡ either_tests (words_in qs)
either_tests_are none h = refl
either_tests_are (more (atom a) qs) h =
    let (m, r) = and_parts (is_some (atom_word a)) (each_word qs) h in
    let (t, e) = some_is (atom_word a) m in
    ap (λ ts. ts ++ tests_in (plans_of qs)) (ap tests_of (word_plan a t e))
    ∙ ap (λ ts. document_end ∷ t ∷ ts) (either_tests_are qs r)
    ∙ ap (λ o. either_tests (listed o ++ words_in qs)) (sym e)
either_tests_are (more (all rs) qs) h = absurd cc
either_tests_are (more (any rs) qs) h = absurd cc
either_tests_are (more (negated q) qs) h = absurd cc

either_exact : (ts : List Test) → All IsExact ts → All IsExact (either_tests ts)
either_exact [] h = All-nil IsExact
either_exact (t ∷ ts) h =
    All-cons IsExact document_end (t ∷ either_tests ts) tt
    (All-cons IsExact t (either_tests ts) (All-head IsExact t ts h) (either_exact ts (All-tail IsExact t ts h)))

-- ---- its list

-- a word is the conjunction of itself
abbrev alone : Test → Conjunction
alone t = record { words = t ∷ []; negated = [] }

abbrev alone_in : Option Test → Option Conjunction
alone_in o = cond (((is_some o || false) && true) && is_some_word (listed o ++ [])) (Some (record { words = listed o ++ []; negated = [] })) None

one_word : (a : Atom) (t : Test) → atom_word a ≡ Some t → conjunction_of (atom a) ≡ Some (alone t)
one_word a t e = ap alone_in e

word_list_is : (space : List Placed) (a : Atom) (t : Test) → IsSpace space → atom_word a ≡ Some t
    → plan_list space (plan_of (atom a)) ≡ ends_having (ends_of space) (list_of space t ∷ []) []
word_list_is space a t s e = conjoined_list space (atom a) (alone t) s (one_word a t e)

module _ (ends : List ℕ) (rising : IsRising ends) where
  -- the ends of the documents that have a word
  abbrev Having : List ℕ → List ℕ
  Having word = ends_having ends (word ∷ []) []

  pub having_one : (word : List ℕ) (z : ℕ) → Contains (Having word) z ↔ (Contains ends z × HasWithin (pred_of ends z) z word)
  having_one word z =
      let P : List ℕ → Type 0 = HasWithin (pred_of ends z) z in let law = having-answers ends (word ∷ []) [] z rising in (
        λ m. let a = law.0 m in (a.is_end, All-head P word [] a.each),
        λ (m, h). law.1 (record { is_end = m; each = All-cons P word [] h (All-nil P); none = All-nil (λ w. P w → ⊥) }),
      )

  -- those that have one word or another
  pub having_either : (xs ys : List ℕ) → union (Having xs) (Having ys) ≡ Having (union xs ys)
  having_either xs ys =
      let left = having-rises ends (xs ∷ []) [] rising in let right = having-rises ends (ys ∷ []) [] rising in
      one_rising (union (Having xs) (Having ys)) (Having (union xs ys))
      (rising_from_above (union (Having xs) (Having ys)) (union-rises (Having xs) (Having ys) 0 (above_from_rising (Having xs) left) (above_from_rising (Having ys) right)))
      (having-rises ends (union xs ys ∷ []) [] rising)
      (λ z m. let law = within_either (pred_of ends z) z xs ys in
      (having_one (union xs ys) z).1 (⊎_elim
      (λ n. let h = (having_one xs z).0 n in (h.0, law.1 (inl h.1)))
      (λ n. let h = (having_one ys z).0 n in (h.0, law.1 (inr h.1)))
      (union-has (Having xs) (Having ys) z m)))
      (λ z m. let law = within_either (pred_of ends z) z xs ys in let h = (having_one (union xs ys) z).0 m in
      union-keeps (Having xs) (Having ys) z (⊎_elim
      (λ w. inl ((having_one xs z).1 (h.0, w)))
      (λ w. inr ((having_one ys z).1 (h.0, w)))
      (law.0 h.1)))

pub either_list : (space : List Placed) (qs : Shapes) → IsSpace space → each_word qs ≡ true
    → union_of (plan_lists space (plans_of qs)) ≡ ends_with_any (ends_of space) (map (list_of space) (words_in qs))
unfolding union_of
either_list space none s h = sym (no_word_having (ends_of space) ([] ∷ []) [] 0 (list-rises document_end space s.apart) (omega arith) refl)
either_list space (more (atom a) qs) s h =
    let (m, r) = and_parts (is_some (atom_word a)) (each_word qs) h in
    let (t, e) = some_is (atom_word a) m in
    let ends = ends_of space in let word = list_of space t in let others = union_of (map (list_of space) (words_in qs)) in
    ap (λ l. union l (union_of (plan_lists space (plans_of qs)))) (word_list_is space a t s e)
    ∙ ap (union (ends_having ends (word ∷ []) [])) (either_list space qs s r)
    ∙ having_either ends (list-rises document_end space s.apart) word others
    ∙ ap (λ o. ends_with_any ends (map (list_of space) (listed o ++ words_in qs))) (sym e)
either_list space (more (all rs) qs) s h = absurd cc
either_list space (more (any rs) qs) s h = absurd cc
either_list space (more (negated q) qs) s h = absurd cc

-- the plan of an or of words
pub either_is : (q : Shape) (p : Tree) → p ≡ plan_of q → is_either q ≡ true → IsEither p (either_words q)
either_is (atom a) p same h = absurd cc
either_is (all qs) p same h = absurd cc
either_is (any qs) p same h =
    let tests = either_tests_are qs h in
    subst (λ t. IsEither t (words_in qs)) (sym same) (record {
      tests = tests;
      exact = subst (All IsExact) (sym tests) (either_exact (words_in qs) (words_exact qs));
      finds = λ space s. either_list space qs s h;
    })
either_is (negated q) p same h = absurd cc

pub either_finds : (space : List Placed) (q : Shape) (end : ℕ) → IsSpace space → is_either q ≡ true
    → Contains (plan_list space (plan_of q)) end ↔ HasAny (ends_of space) (map (list_of space) (either_words q)) end
either_finds space q end s h =
    let ends = ends_of space in let words = map (list_of space) (either_words q) in
    subst (λ l. Contains l end ↔ HasAny ends words end) (sym ((either_is q (plan_of q) refl h).finds space s))
    (any-answers ends words end (list-rises document_end space s.apart))

-- it is no conjunction
pub either_other : (q : Shape) → is_either q ≡ true → conjunction_of q ≡ None
either_other (atom a) h = absurd cc
either_other (all qs) h = absurd cc
either_other (any qs) h = refl
either_other (negated q) h = absurd cc

-- ---- the uses of its tests

abbrev Cut : Type 0
Cut = List (List (List ℕ))

seconds_map : {X Y : Type 0} (f : X → Y) (xs : List X) → seconds (map f xs) ≡ map f (seconds xs)
seconds_map f [] = refl
seconds_map f (a ∷ []) = refl
seconds_map f (a ∷ b ∷ xs) = ap (λ ys. f b ∷ ys) (seconds_map f xs)

seconds_tests : (g : Test → List ℕ) (ts : List Test) → seconds (map g (either_tests ts)) ≡ map g ts
seconds_tests g [] = refl
seconds_tests g (t ∷ ts) = ap (λ ls. g t ∷ ls) (seconds_tests g ts)

module _ (f : ℕ → Cut) where
  seconds_all : (P : Cut → Type 0) (us : List ℕ) → All P (map f us) → All P (map f (seconds us))
  seconds_all P [] h = All-nil P
  seconds_all P (a ∷ []) h = All-nil P
  seconds_all P (a ∷ b ∷ us) h =
      let later = All-tail P (f a) (map f (b ∷ us)) h in
      All-cons P (f b) (map f (seconds us)) (All-head P (f b) (map f us) later) (seconds_all P us (All-tail P (f b) (map f us) later))

  -- what holds of all uses holds of the first and of every second
  pub used_all : (P : Cut → Type 0) (us : List ℕ) → 0 < length us → All P (map f us) → All P (map f (get_or us 0 0 ∷ seconds us))
  used_all P [] l h = absurd (omega (arith, l))
  used_all P (u ∷ us) l h = All-cons P (f u) (map f (seconds (u ∷ us))) (All-head P (f u) (map f us) h) (seconds_all P (u ∷ us) h)

  seconds_sum : (g : Cut → ℕ) (us : List ℕ) → sum_by g (map f (seconds us)) ≤ sum_by g (map f us)
  seconds_sum g [] = omega arith
  seconds_sum g (a ∷ []) = omega (arith, sum_by-cons g (f a) [])
  seconds_sum g (a ∷ b ∷ us) =
      omega (arith, seconds_sum g us, sum_by-cons g (f b) (map f (seconds us)), sum_by-cons g (f a) (map f (b ∷ us)), sum_by-cons g (f b) (map f us))

  pub used_sum : (g : Cut → ℕ) (us : List ℕ) → 0 < length us → sum_by g (map f (get_or us 0 0 ∷ seconds us)) ≤ sum_by g (map f us)
  used_sum g [] l = absurd (omega (arith, l))
  used_sum g (u ∷ []) l = omega arith
  used_sum g (u ∷ v ∷ us) l =
      omega (
        arith,
        seconds_sum g us,
        sum_by-cons g (f u) (map f (v ∷ seconds us)),
        sum_by-cons g (f v) (map f (seconds us)),
        sum_by-cons g (f u) (map f (v ∷ us)),
        sum_by-cons g (f v) (map f us),
      )

  -- over a space these are the ends and the words
  module _ (space : List Placed) (words : List Test) (us : List ℕ) (shown : map test_list (map f us) ≡ map (list_of space) (either_tests words)) where
    pub used_words : map test_list (map f (seconds us)) ≡ map (list_of space) words
    used_words =
        ap (map test_list) (sym (seconds_map f us)) ∙ sym (seconds_map test_list (map f us)) ∙ ap seconds shown ∙ seconds_tests (list_of space) words

  pub used_ends : (space : List Placed) (words : List Test) (us : List ℕ) → 0 < length us
      → map test_list (map f us) ≡ map (list_of space) (either_tests words) → test_list (f (get_or us 0 0)) ≡ ends_of space
  used_ends space words [] l shown = absurd (omega (arith, l))
  used_ends space [] (u ∷ us) l shown = absurd (omega (arith, ap length shown))
  used_ends space (w ∷ ws) (u ∷ us) l shown = ap (λ ls. get_or ls 0 []) shown

-- ---- every second index

pub second_at : (xs : List ℕ) (j : ℕ) → 2 * j + 1 < length xs → (get_or (seconds xs) j 0 ≡ get_or xs (2 * j + 1) 0) × (j < length (seconds xs))
second_at [] j l = absurd (omega (arith, l))
second_at (a ∷ []) j l = absurd (omega (arith, l))
second_at (a ∷ b ∷ xs) zero l = (refl, omega arith)
second_at (a ∷ b ∷ xs) (suc j) l =
    let (e, h) = second_at xs j (omega (arith, l)) in
    let up : suc (suc (2 * j + 1)) ≡ 2 * suc j + 1 = omega arith in
    (e ∙ ap (λ i. get_or (a ∷ b ∷ xs) i 0) up, omega (arith, h))

pub seconds_short : (xs : List ℕ) → 2 * length (seconds xs) ≤ length xs
seconds_short [] = omega arith
seconds_short (a ∷ []) = omega arith
seconds_short (a ∷ b ∷ xs) = omega (arith, seconds_short xs)

-- what an answer that was found at once is
pub at_once : (o : Option ℕ) (n : ℕ) (P : ℕ → Type 0) → o ≡ Some n → IfSome o P → P n
at_once o n P same h = subst (λ x. IfSome x P) same h
