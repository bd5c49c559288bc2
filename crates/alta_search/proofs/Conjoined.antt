-- The plan of a conjunction: its tests, and the list that it reads.
use Rattle.std.proofs.Common.{◌≡◌, ◌⊎◌, ⊎_elim, inl, inr, ℕ, ◌+◌, Bool, true, false, ◌&&◌, ◌||◌, cond, List, [], ◌∷◌, ◌++◌, map, length, ◌<◌, refl, sym, subst, ap, ◌∙◌, append-nil, arith}
use Rattle.std.specs.Prelude.{◌↔◌, All, Contains, IfSome, Option, Some, None, MatchOption, is_some}
use Rattle.std.proofs.lemmas.List.Elements.{All-nil, All-cons, All-head, All-tail, All-append}
use Rattle.alta_codec.specs.Rising.{IsRising, pred_of}
use Rattle.alta_compile.specs.Conjoined.{atom_word, word_in, word_against, listed, words_in, words_against, are_words, is_some_word, conjunction_in, conjunction_of}
use Rattle.alta_machine.specs.Joined.{joint_pattern}
use Rattle.alta_machine.specs.PlanOf.{found_of, atom_plan, with_pattern, with_value, atoms_in, all_plan, plan_of, others_of}
use Rattle.alta_compile.specs.Space.{Placed, IsSpace, document_end, end_of, ends_of, list_of}
use Rattle.alta_machine.specs.Plans.{Tree, found, Trees, no_more, also}
use Rattle.alta_compile.specs.Listing.{plan_list}
use Rattle.alta_compile.specs.declared.asked.Conjunction.{Conjunction}
use Rattle.alta_compile.proofs.Ends.{plan_rises, plan_ends}
use Rattle.alta_compile.proofs.Meaning.{plan_matches}
use Rattle.alta_compile.proofs.Spaces.{Has, at_met, met_at, at_within, has-list, list-rises, end-in, end-is, before, within}
use Rattle.alta_docread.specs.KeptLaws.{true_or_false}
use Rattle.alta_lead.specs.Having.{HasWithin, ends_having}
use Rattle.alta_lead.specs.HavingLaws.{having-rises, having-answers}
use Rattle.alta_machine.specs.Matches.{Matches, AllMatch}
use Rattle.alta_machine.specs.Patterns.{IsMet, Satisfies, SatisfiesOne, pattern_of, phrase_pattern, value_patterns, numbers_in, IsKept}
use Rattle.alta_machine.specs.Patterns as pattern
use Rattle.alta_machine.specs.Shape.{words, prefix, name, value, Atom, lone, near, Shape, Shapes, atom, all, any, negated, none, more}
use Rattle.alta_machine.specs.declared.test.Test.{Test}
use Rattle.alta_machine.specs.declared.test.Test.TheVariants.{Is, Begins}
use Rattle.alta_search.specs.Conjoined.{tests_against, conjoined_tests}
use Rattle.alta_search.specs.Leads.{IsConjunction}
use Rattle.alta_search.specs.Met.{IsExact}
use Rattle.alta_search.specs.Plans.{tests_of, tests_in}
use Rattle.alta_search.proofs.Rising.{one_rising}

-- ---- what a member is

both_true : (a b : Bool) → a && b ≡ true → (a ≡ true) × (b ≡ true)
both_true true b h = (refl, h)
both_true false b h = absurd cc

-- an atom that is a word
is_word : (a : Atom) (t : Test) → atom_word a ≡ Some t → pattern_of a ≡ phrase_pattern (t ∷ [])
is_word (lone (words true text ts)) t h = absurd cc
is_word (lone (words false text [])) t h = absurd cc
is_word (lone (words false text (Is w ∷ []))) t h = let same : Is w ≡ t = cc in ap (λ v. phrase_pattern (v ∷ [])) same
is_word (lone (words false text (Begins s ∷ []))) t h = absurd cc
is_word (lone (words false text (Is u ∷ v ∷ ts))) t h = absurd cc
is_word (lone (words false text (Begins u ∷ v ∷ ts))) t h = absurd cc
is_word (lone (prefix title text u)) t h = absurd cc
is_word (lone (name text)) t h = absurd cc
is_word (lone (value low high)) t h = absurd cc
is_word (near left distance right) t h = absurd cc

-- it is no value
no_value : (a : Atom) (t : Test) → atom_word a ≡ Some t → numbers_in a ≡ None
no_value (lone (words title text ts)) t h = refl
no_value (lone (prefix title text u)) t h = refl
no_value (lone (name text)) t h = refl
no_value (lone (value low high)) t h = absurd cc
no_value (near left distance right) t h = refl

pub word_plan : (a : Atom) (t : Test) → atom_word a ≡ Some t → plan_of (atom a) ≡ found (found_of (phrase_pattern (t ∷ [])))
word_plan a t h = ap (atom_plan (pattern_of a)) (no_value a t h) ∙ ap (λ p. found (found_of p)) (is_word a t h)

-- its test asks for one term
exact_word : (a : Atom) (t : Test) → atom_word a ≡ Some t → IsExact t
exact_word (lone (words true text ts)) t h = absurd cc
exact_word (lone (words false text [])) t h = absurd cc
exact_word (lone (words false text (Is w ∷ []))) t h = let same : Is w ≡ t = cc in subst IsExact same tt
exact_word (lone (words false text (Begins s ∷ []))) t h = absurd cc
exact_word (lone (words false text (Is u ∷ v ∷ ts))) t h = absurd cc
exact_word (lone (words false text (Begins u ∷ v ∷ ts))) t h = absurd cc
exact_word (lone (prefix title text u)) t h = absurd cc
exact_word (lone (name text)) t h = absurd cc
exact_word (lone (value low high)) t h = absurd cc
exact_word (near left distance right) t h = absurd cc

-- an option is some value or none
some_or_none : (o : Option Test) → ((t : Test) × (o ≡ Some t)) ⊎ (o ≡ None)
some_or_none (Some t) = inl (t, refl)
some_or_none None = inr refl

pub some_is : (o : Option Test) → is_some o ≡ true → (t : Test) × (o ≡ Some t)
some_is (Some t) h = (t, refl)
some_is None h = absurd cc

-- a member that is a word, or a NOT of a word
abbrev IsMember : Shape → Type 0
IsMember q = is_some (word_in q) || is_some (word_against q) ≡ true

-- a member that is an atom is a word
atom_is : (a : Atom) → IsMember (atom a) → (t : Test) × (atom_word a ≡ Some t)
atom_is a h = ⊎_elim (λ s. s) (λ n. let c : false ≡ true = sym (ap (λ o. is_some o || false) n) ∙ h in absurd cc) (some_or_none (atom_word a))

-- one under a NOT is a NOT of a word
not_is : (q : Shape) → IsMember (negated q) → (a : Atom) × (t : Test) × (q ≡ atom a) × (atom_word a ≡ Some t)
not_is (atom a) h = let (t, e) = atom_is a (subst (λ b. b ≡ true) (or_false (is_some (atom_word a))) h) in (a, t, refl, e)
  where
    or_false : (b : Bool) → (false || b) ≡ (b || false)
    or_false true = refl
    or_false false = refl
not_is (all qs) h = absurd cc
not_is (any qs) h = absurd cc
not_is (negated q) h = absurd cc

-- ---- the tests

words_tests : (qs : Shapes) → are_words qs ≡ true → (joint_pattern (atoms_in qs)).tests ≡ words_in qs
words_tests none h = refl
words_tests (more (atom a) qs) h =
    let (m, r) = both_true (is_some (atom_word a) || false) (are_words qs) h in
    let (t, e) = atom_is a m in
    let here : (pattern_of a).tests ≡ t ∷ [] = ap (λ (p : pattern.Pattern). p.tests) (is_word a t e) in
    ap (λ n. (joint_pattern (with_pattern (pattern_of a) n (atoms_in qs))).tests) (no_value a t e)
    ∙ ap (λ ts. ts ++ (joint_pattern (atoms_in qs)).tests) here ∙ ap (λ ts. t ∷ ts) (words_tests qs r) ∙ ap (λ o. listed o ++ words_in qs) (sym e)
words_tests (more (all rs) qs) h = absurd cc
words_tests (more (any rs) qs) h = absurd cc
words_tests (more (negated q) qs) h = words_tests qs (both_true (is_some (word_in q)) (are_words qs) h).1

against_tests : (qs : Shapes) → are_words qs ≡ true → tests_in (others_of qs) ≡ tests_against (words_against qs)
against_tests none h = refl
against_tests (more (atom a) qs) h =
    let (m, r) = both_true (is_some (atom_word a) || false) (are_words qs) h in
    let (t, e) = atom_is a m in
    ap (λ n. tests_in (with_value (pattern_of a) n (others_of qs))) (no_value a t e) ∙ against_tests qs r
against_tests (more (all rs) qs) h = absurd cc
against_tests (more (any rs) qs) h = absurd cc
against_tests (more (negated q) qs) h =
    let (m, r) = both_true (is_some (word_in q)) (are_words qs) h in
    let (a, t, same, e) = not_is q m in
    let here : tests_of (plan_of q) ≡ document_end ∷ t ∷ [] = ap (λ x. tests_of (plan_of x)) same ∙ ap tests_of (word_plan a t e) in
    ap (λ ts. (document_end ∷ ts) ++ tests_in (others_of qs)) here
    ∙ ap (λ ts. document_end ∷ document_end ∷ t ∷ ts) (against_tests qs r)
    ∙ ap (λ o. tests_against (listed o ++ words_against qs)) (sym (ap word_in same ∙ e))

plan_tests : (ps : List pattern.Pattern) (ts : Trees) → (ps ≡ [] → ⊥) → tests_of (all_plan ps ts) ≡ (document_end ∷ (joint_pattern ps).tests) ++ tests_in ts
plan_tests ps no_more h = sym (append-nil (document_end ∷ (joint_pattern ps).tests))
plan_tests [] (also t ts) h = absurd (h refl)
plan_tests (p ∷ ps) (also t ts) h = refl

-- the parts of a conjunction
parts_of : (qs : Shapes) (c : Conjunction) → conjunction_in qs ≡ Some c
    → (are_words qs ≡ true) × (is_some_word (words_in qs) ≡ true) × (c ≡ record { words = words_in qs; negated = words_against qs })
parts_of qs c h =
    let r : Conjunction = record { words = words_in qs; negated = words_against qs } in
    ⊎_elim
    (λ yes. let (a, b) = both_true (are_words qs) (is_some_word (words_in qs)) yes in
    let same : Some r ≡ Some c = sym (ap (λ x. cond x (Some r) None) yes) ∙ h in (a, b, cc))
    (λ no. let none : None ≡ Some c = sym (ap (λ x. cond x (Some r) None) no) ∙ h in absurd cc)
    (true_or_false (are_words qs && is_some_word (words_in qs)))

pub conjoined : (q : Shape) (c : Conjunction) → conjunction_of q ≡ Some c → tests_of (plan_of q) ≡ conjoined_tests c
conjoined (atom a) c h =
    let (each, some, is) = parts_of (more (atom a) none) c h in
    let (m, r) = both_true (is_some (atom_word a) || false) (are_words none) each in
    let (t, e) = atom_is a m in
    ap tests_of (word_plan a t e)
    ∙ ap (λ o. document_end ∷ listed o ++ []) (sym e)
    ∙ sym (append-nil (document_end ∷ words_in (more (atom a) none)))
    ∙ ap conjoined_tests (sym is)
conjoined (all qs) c h =
    let (each, some, is) = parts_of qs c h in
    plan_tests (atoms_in qs) (others_of qs)
    (λ e. let no : is_some_word (words_in qs) ≡ false = ap is_some_word (sym (words_tests qs each) ∙ ap (λ ps. (joint_pattern ps).tests) e) in
    let b : false ≡ true = sym no ∙ some in absurd cc)
    ∙ ap (λ ts. (document_end ∷ ts) ++ tests_in (others_of qs)) (words_tests qs each)
    ∙ ap (λ ts. (document_end ∷ words_in qs) ++ ts) (against_tests qs each)
    ∙ ap conjoined_tests (sym is)
conjoined (any qs) c h = absurd cc
conjoined (negated q) c h = absurd cc

-- ---- the list

one_place : (cells : List (List (List ℕ))) (t : Test) (places : List ℕ) → pattern.AreMet cells (t ∷ []) places → (p : ℕ) × IsMet cells t p
one_place cells t [] h = absurd h
one_place cells t (p ∷ ps) (h, r) = (p, h)

all_map : (P : List ℕ → Type 0) (f : Test → List ℕ) (ts : List Test) → All P (map f ts) ↔ All (λ t. P (f t)) ts
all_map P f [] = (λ h. All-nil (λ t. P (f t)), λ h. All-nil P)
all_map P f (t ∷ ts) =
    let rest = all_map P f ts in (
      λ h. All-cons (λ u. P (f u)) t ts (All-head P (f t) (map f ts) h) (rest.0 (All-tail P (f t) (map f ts) h)),
      λ h. All-cons P (f t) (map f ts) (All-head (λ u. P (f u)) t ts h) (rest.1 (All-tail (λ u. P (f u)) t ts h)),
    )

module _ (space : List Placed) (s : IsSpace space) (d : Placed) (m : Has space d) where
  -- the document has a location whose cell meets the test
  abbrev pub HasWord : Test → Type 0
  HasWord t = HasWithin (pred_of (ends_of space) (end_of d)) (end_of d) (list_of space t)

  abbrev HasNot : Test → Type 0
  HasNot t = HasWord t → ⊥

  met_within : (t : Test) (p : ℕ) → IsMet d.cells t p → HasWord t
  met_within t p h =
      let at = at_met t d.cells p h in let inside = at_within t d.cells p at in let low = before space s d m in
      (d.first + p, has-list t space d p (d.first + p) m refl at, omega (arith, low), omega (arith, inside))

  within_met : (t : Test) → HasWord t → (p : ℕ) × IsMet d.cells t p
  within_met t (x, n, low, high) =
      let (p, e, at) = within space s t d x m n (omega (arith, low)) high in (p, met_at t d.cells p at)

  pub word_law : (t : Test) → Satisfies d.cells (phrase_pattern (t ∷ [])) ↔ HasWord t
  word_law t = (
    λ (places, a). let (p, h) = one_place d.cells t places a.met in met_within t p h,
    λ h. let (p, k) = within_met t h in (p ∷ [], record { met = (k, tt); kept = All-nil (IsKept (p ∷ [])) }),
  )

  atom_law : (a : Atom) (t : Test) → atom_word a ≡ Some t → Matches d.cells (atom a) ↔ HasWord t
  atom_law a t e =
      subst (λ n. MatchOption n (Satisfies d.cells (pattern_of a)) (λ numbers. SatisfiesOne d.cells (value_patterns numbers.0 numbers.1)) ↔ HasWord t)
      (sym (no_value a t e)) (subst (λ x. Satisfies d.cells x ↔ HasWord t) (sym (is_word a t e)) (word_law t))

  members_law : (qs : Shapes) → are_words qs ≡ true → AllMatch d.cells qs ↔ (All HasWord (words_in qs) × All HasNot (words_against qs))
  members_law none h = (λ k. (All-nil HasWord, All-nil HasNot), λ k. tt)
  members_law (more (atom a) qs) h =
      let (k, r) = both_true (is_some (atom_word a) || false) (are_words qs) h in
      let (t, e) = atom_is a k in let here = atom_law a t e in let rest = members_law qs r in let ws = words_in qs in
      subst (λ o. (Matches d.cells (atom a) × AllMatch d.cells qs) ↔ (All HasWord (listed o ++ ws) × All HasNot (words_against qs))) (sym e) (
        λ (l, n). let (x, y) = rest.0 n in (All-cons HasWord t ws (here.0 l) x, y),
        λ (x, y). (here.1 (All-head HasWord t ws x), rest.1 (All-tail HasWord t ws x, y)),
      )
  members_law (more (all rs) qs) h = absurd cc
  members_law (more (any rs) qs) h = absurd cc
  members_law (more (negated q) qs) h =
      let (k, r) = both_true (is_some (word_in q)) (are_words qs) h in
      let (a, t, same, e) = not_is q k in let here = atom_law a t e in let rest = members_law qs r in let ns = words_against qs in
      subst (λ x. (Matches d.cells (negated x) × AllMatch d.cells qs) ↔ (All HasWord (words_in qs) × All HasNot (listed (word_in x) ++ ns))) (sym same)
      (subst (λ o. (Matches d.cells (negated (atom a)) × AllMatch d.cells qs) ↔ (All HasWord (words_in qs) × All HasNot (listed o ++ ns))) (sym e) (
        λ (l, n). let (x, y) = rest.0 n in (x, All-cons HasNot t ns (λ w. l (here.1 w)) y),
        λ (x, y). (λ w. All-head HasNot t ns y (here.0 w), rest.1 (x, All-tail HasNot t ns y)),
      ))

  shape_law : (q : Shape) (c : Conjunction) → conjunction_of q ≡ Some c → Matches d.cells q ↔ (All HasWord c.words × All HasNot c.negated)
  shape_law (atom a) c h =
      let (each, some, is) = parts_of (more (atom a) none) c h in let law = members_law (more (atom a) none) each in
      subst (λ (x : Conjunction). Matches d.cells (atom a) ↔ (All HasWord x.words × All HasNot x.negated)) (sym is)
      (λ k. law.0 (k, tt), λ k. (law.1 k).0)
  shape_law (all qs) c h =
      let (each, some, is) = parts_of qs c h in
      subst (λ (x : Conjunction). Matches d.cells (all qs) ↔ (All HasWord x.words × All HasNot x.negated)) (sym is) (members_law qs each)
  shape_law (any qs) c h = absurd cc
  shape_law (negated q) c h = absurd cc

pub conjoined_list : (space : List Placed) (q : Shape) (c : Conjunction) → IsSpace space → conjunction_of q ≡ Some c
    → plan_list space (plan_of q) ≡ ends_having (ends_of space) (map (list_of space) c.words) (map (list_of space) c.negated)
conjoined_list space q c s h =
    let ends = ends_of space in let ws = map (list_of space) c.words in let ns = map (list_of space) c.negated in
    let rises : IsRising ends = list-rises document_end space s.apart in
    let left = plan_list space (plan_of q) in let right = ends_having ends ws ns in
    one_rising left right (plan_rises space s (plan_of q)) (having-rises ends ws ns rises)
    (λ z n.
    let (d, m, at) = end-is space s z (plan_ends space s (plan_of q) z n) in
    let (each, bar) = (shape_law space s d m q c h).0 ((plan_matches space s d m q).0 (subst (λ e. Contains left e) at n)) in
    subst (λ e. Contains right e) (sym at) ((having-answers ends ws ns (end_of d) rises).1 (record {
      is_end = end-in space s d m;
      each = (all_map (HasWithin (pred_of ends (end_of d)) (end_of d)) (list_of space) c.words).1 each;
      none = (all_map (λ l. HasWithin (pred_of ends (end_of d)) (end_of d) l → ⊥) (list_of space) c.negated).1 bar;
    })))
    (λ z n.
    let first = (having-answers ends ws ns z rises).0 n in
    let (d, m, at) = end-is space s z first.is_end in
    let answer = (having-answers ends ws ns (end_of d) rises).0 (subst (λ e. Contains right e) at n) in
    subst (λ e. Contains left e) (sym at) ((plan_matches space s d m q).1 ((shape_law space s d m q c h).1 (
      (all_map (HasWithin (pred_of ends (end_of d)) (end_of d)) (list_of space) c.words).0 answer.each,
      (all_map (λ l. HasWithin (pred_of ends (end_of d)) (end_of d) l → ⊥) (list_of space) c.negated).0 answer.none,
    ))))

-- ---- the words

word_exact : (q : Shape) (t : Test) → word_in q ≡ Some t → IsExact t
word_exact (atom a) t h = exact_word a t h
word_exact (all qs) t h = absurd cc
word_exact (any qs) t h = absurd cc
word_exact (negated q) t h = absurd cc

not_exact : (q : Shape) (t : Test) → word_against q ≡ Some t → IsExact t
not_exact (atom a) t h = absurd cc
not_exact (all qs) t h = absurd cc
not_exact (any qs) t h = absurd cc
not_exact (negated q) t h = word_exact q t h

listed_exact : (o : Option Test) → ((t : Test) → o ≡ Some t → IsExact t) → All IsExact (listed o)
listed_exact None h = All-nil IsExact
listed_exact (Some t) h = All-cons IsExact t [] (h t refl) (All-nil IsExact)

pub words_exact : (qs : Shapes) → All IsExact (words_in qs)
words_exact none = All-nil IsExact
words_exact (more q qs) = All-append IsExact (listed (word_in q)) (words_in qs) (listed_exact (word_in q) (word_exact q)) (words_exact qs)

negated_exact : (qs : Shapes) → All IsExact (words_against qs)
negated_exact none = All-nil IsExact
negated_exact (more q qs) = All-append IsExact (listed (word_against q)) (words_against qs) (listed_exact (word_against q) (not_exact q)) (negated_exact qs)

against_exact : (ns : List Test) → All IsExact ns → All IsExact (tests_against ns)
against_exact [] h = All-nil IsExact
against_exact (n ∷ ns) h =
    All-cons IsExact document_end (document_end ∷ n ∷ tests_against ns) tt
    (All-cons IsExact document_end (n ∷ tests_against ns) tt
    (All-cons IsExact n (tests_against ns) (All-head IsExact n ns h) (against_exact ns (All-tail IsExact n ns h))))

some_length : (ts : List Test) → is_some_word ts ≡ true → 0 < length ts
some_length [] h = absurd cc
some_length (t ∷ ts) h = omega arith

-- each test of a conjunction asks for one term, and there is a word
members_exact : (qs : Shapes) (c : Conjunction) → conjunction_in qs ≡ Some c → All IsExact (conjoined_tests c) × (0 < length c.words)
members_exact qs c h =
    let (each, some, is) = parts_of qs c h in
    let all : All IsExact ((document_end ∷ words_in qs) ++ tests_against (words_against qs)) =
    All-append IsExact (document_end ∷ words_in qs) (tests_against (words_against qs)) (All-cons IsExact document_end (words_in qs) tt (words_exact qs))
    (against_exact (words_against qs) (negated_exact qs)) in
    subst (λ (x : Conjunction). All IsExact (conjoined_tests x) × (0 < length x.words)) (sym is) (all, some_length (words_in qs) some)

conjoined_exact : (q : Shape) (c : Conjunction) → conjunction_of q ≡ Some c → All IsExact (conjoined_tests c) × (0 < length c.words)
conjoined_exact (atom a) c h = members_exact (more (atom a) none) c h
conjoined_exact (all qs) c h = members_exact qs c h
conjoined_exact (any qs) c h = absurd cc
conjoined_exact (negated q) c h = absurd cc

is_conjunction : (q : Shape) (c : Conjunction) → conjunction_of q ≡ Some c → IsConjunction (plan_of q) c
is_conjunction q c h =
    let tests = conjoined q c h in let (exact, some) = conjoined_exact q c h in
    record { tests = tests; exact = subst (All IsExact) (sym tests) exact; some = some; finds = λ space s. conjoined_list space q c s h }

-- the conjunction of the plan of a query
pub asked_is : (q : Shape) (p : Tree) (o : Option Conjunction) → p ≡ plan_of q → o ≡ conjunction_of q → IfSome o (IsConjunction p)
asked_is q p None same is = tt
asked_is q p (Some c) same is = subst (λ t. IsConjunction t c) (sym same) (is_conjunction q c (sym is))
