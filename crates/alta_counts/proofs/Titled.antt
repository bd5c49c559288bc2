-- The plan of a word in titles: its tests, and the list that it reads.
use Rattle.std.proofs.Common.{◌≡◌, ℕ, ◌+◌, ◌<◌, ◌≤◌, true, false, List, [], ◌∷◌, take, drop, length, get_or, refl, sym, subst, ap, ◌∙◌, arith}
use Rattle.std.specs.Prelude.{◌↔◌, All, Contains, Some, None, MatchOption, is_some}
use Rattle.std.proofs.lemmas.List.Elements.{All-nil, All-cons, All-head}
use Rattle.alta_codec.specs.Rising.{IsRising}
use Rattle.alta_compile.specs.Conjoined.{atom_titled, titled_word, conjunction_of}
use Rattle.alta_machine.specs.PlanOf.{found_of, atom_plan, plan_of}
use Rattle.alta_compile.specs.Space.{Placed, IsSpace, document_end, end_of, ends_of, list_of}
use Rattle.alta_machine.specs.Plans.{Tree, found}
use Rattle.alta_compile.specs.Listing.{plan_list}
use Rattle.alta_compile.proofs.Ends.{plan_rises, plan_ends}
use Rattle.alta_compile.proofs.Meaning.{plan_matches}
use Rattle.alta_compile.proofs.Spaces.{Has, at_met, met_at, at_within, has-list, list-rises, end-in, end-is, before, within}
use Rattle.alta_lead.specs.Followed.{IsFollowed, ends_followed}
use Rattle.alta_lead.proofs.FollowedLaws.{followed-rises, followed-answers}
use Rattle.alta_machine.specs.Matches.{Matches}
use Rattle.alta_machine.specs.Patterns.{Bound, IsMet, Satisfies, SatisfiesOne, pattern_of, phrase_pattern, value_patterns, numbers_in, in_title, title_end, IsKept}
use Rattle.alta_machine.specs.Patterns as pattern
use Rattle.alta_machine.specs.Shape.{words, prefix, name, value, Atom, lone, near, Shape, atom, all, any, negated}
use Rattle.alta_machine.specs.declared.test.Test.{Test}
use Rattle.alta_machine.specs.declared.test.Test.TheVariants.{Is, Begins}
use Rattle.alta_search.specs.Met.{IsExact}
use Rattle.alta_search.specs.Plans.{tests_of}
use Rattle.alta_counts.specs.Titled.{IsTitled}
use Rattle.alta_search.proofs.Conjoined.{some_is}
use Rattle.alta_search.proofs.Rising.{one_rising}

-- ---- its tests

-- an atom that is a word in titles
is_titled : (a : Atom) (t : Test) → atom_titled a ≡ Some t → pattern_of a ≡ in_title (phrase_pattern (t ∷ []))
is_titled (lone (words false text ts)) t h = absurd cc
is_titled (lone (words true text [])) t h = absurd cc
is_titled (lone (words true text (Is w ∷ []))) t h = let same : Is w ≡ t = cc in ap (λ v. in_title (phrase_pattern (v ∷ []))) same
is_titled (lone (words true text (Begins s ∷ []))) t h = absurd cc
is_titled (lone (words true text (Is u ∷ v ∷ ts))) t h = absurd cc
is_titled (lone (words true text (Begins u ∷ v ∷ ts))) t h = absurd cc
is_titled (lone (prefix title text u)) t h = absurd cc
is_titled (lone (name text)) t h = absurd cc
is_titled (lone (value low high)) t h = absurd cc
is_titled (near left distance right) t h = absurd cc

-- it is no value
no_value : (a : Atom) (t : Test) → atom_titled a ≡ Some t → numbers_in a ≡ None
no_value (lone (words title text ts)) t h = refl
no_value (lone (prefix title text u)) t h = refl
no_value (lone (name text)) t h = refl
no_value (lone (value low high)) t h = absurd cc
no_value (near left distance right) t h = refl

-- its test asks for one term
exact_titled : (a : Atom) (t : Test) → atom_titled a ≡ Some t → IsExact t
exact_titled (lone (words false text ts)) t h = absurd cc
exact_titled (lone (words true text [])) t h = absurd cc
exact_titled (lone (words true text (Is w ∷ []))) t h = let same : Is w ≡ t = cc in subst IsExact same tt
exact_titled (lone (words true text (Begins s ∷ []))) t h = absurd cc
exact_titled (lone (words true text (Is u ∷ v ∷ ts))) t h = absurd cc
exact_titled (lone (words true text (Begins u ∷ v ∷ ts))) t h = absurd cc
exact_titled (lone (prefix title text u)) t h = absurd cc
exact_titled (lone (name text)) t h = absurd cc
exact_titled (lone (value low high)) t h = absurd cc
exact_titled (near left distance right) t h = absurd cc

titled_plan : (a : Atom) (t : Test) → atom_titled a ≡ Some t → plan_of (atom a) ≡ found (found_of (in_title (phrase_pattern (t ∷ []))))
titled_plan a t h = ap (atom_plan (pattern_of a)) (no_value a t h) ∙ ap (λ p. found (found_of p)) (is_titled a t h)

-- ---- its list

-- the bound between the word and the end of the title
abbrev before_it : Bound
before_it = record { first = 0; behind = 1; second = 1; ahead = 0 }

two_places : (cells : List (List (List ℕ))) (t u : Test) (places : List ℕ) → pattern.AreMet cells (t ∷ u ∷ []) places
    → (p : ℕ) × (q : ℕ) × (places ≡ p ∷ q ∷ []) × IsMet cells t p × IsMet cells u q
two_places cells t u [] h = absurd h
two_places cells t u (p ∷ []) (h, r) = absurd r
two_places cells t u (p ∷ q ∷ []) (h, (k, r)) = (p, q, refl, h, k)
two_places cells t u (p ∷ q ∷ o ∷ ps) (h, (k, r)) = absurd r

module _ (space : List Placed) (s : IsSpace space) (d : Placed) (m : Has space d) where
  abbrev IsTitleOf : Test → Type 0
  IsTitleOf t = IsFollowed (ends_of space) (list_of space t) (list_of space title_end) (end_of d)

  title_law : (t : Test) → Satisfies d.cells (in_title (phrase_pattern (t ∷ []))) ↔ IsTitleOf t
  title_law t = (
    λ (places, a). let (p, q, same, h, k) = two_places d.cells t title_end places a.met in
        let bound : p + 1 ≤ q + 0 = subst (λ ps. IsKept ps before_it) same (All-head (IsKept places) before_it [] a.kept) in
        let at = at_met t d.cells p h in let after = at_met title_end d.cells q k in
        let low = before space s d m in let inside = at_within title_end d.cells q after in
        record {
          is_end = end-in space s d m;
          place = d.first + p;
          there = has-list t space d p (d.first + p) m refl at;
          inside = omega (arith, low);
          next = d.first + q;
          behind = has-list title_end space d q (d.first + q) m refl after;
          later = omega (arith, bound);
          within = omega (arith, inside);
        },
    λ f. let (p, e, at) = within space s t d f.place m f.there (omega (arith, f.inside)) (omega (arith, f.later, f.within)) in
        let (q, g, after) = within space s title_end d f.next m f.behind (omega (arith, f.inside, f.later)) f.within in
        let bound : p + 1 ≤ q + 0 = omega (arith, e, g, f.later) in (
          p ∷ q ∷ [],
          record {
            met = (met_at t d.cells p at, (met_at title_end d.cells q after, tt));
            kept = All-cons (IsKept (p ∷ q ∷ [])) before_it [] bound (All-nil (IsKept (p ∷ q ∷ [])));
          },
        ),
  )

  titled_law : (a : Atom) (t : Test) → atom_titled a ≡ Some t → Matches d.cells (atom a) ↔ IsTitleOf t
  titled_law a t e =
      subst (λ n. MatchOption n (Satisfies d.cells (pattern_of a)) (λ numbers. SatisfiesOne d.cells (value_patterns numbers.0 numbers.1)) ↔ IsTitleOf t)
      (sym (no_value a t e)) (subst (λ x. Satisfies d.cells x ↔ IsTitleOf t) (sym (is_titled a t e)) (title_law t))

pub titled_list : (space : List Placed) (a : Atom) (t : Test) → IsSpace space → atom_titled a ≡ Some t
    → plan_list space (plan_of (atom a)) ≡ ends_followed (ends_of space) (list_of space t) (list_of space title_end)
titled_list space a t s h =
    let ends = ends_of space in let word = list_of space t in let titles = list_of space title_end in
    let rises : IsRising ends = list-rises document_end space s.apart in
    let left = plan_list space (plan_of (atom a)) in let right = ends_followed ends word titles in
    one_rising left right (plan_rises space s (plan_of (atom a))) (followed-rises ends word titles rises)
    (λ z n.
    let (d, m, at) = end-is space s z (plan_ends space s (plan_of (atom a)) z n) in
    let answer = (titled_law space s d m a t h).0 ((plan_matches space s d m (atom a)).0 (subst (λ e. Contains left e) at n)) in
    subst (λ e. Contains right e) (sym at) ((followed-answers ends word titles (end_of d) rises).1 answer))
    (λ z n.
    let first = (followed-answers ends word titles z rises).0 n in
    let (d, m, at) = end-is space s z first.is_end in
    let answer = (followed-answers ends word titles (end_of d) rises).0 (subst (λ e. Contains right e) at n) in
    subst (λ e. Contains left e) (sym at) ((plan_matches space s d m (atom a)).1 ((titled_law space s d m a t h).1 answer)))

-- the plan of a word in titles
atom_is : (a : Atom) (t : Test) → atom_titled a ≡ Some t → IsTitled (plan_of (atom a)) t
atom_is a t h =
    let tests : tests_of (plan_of (atom a)) ≡ document_end ∷ t ∷ title_end ∷ [] = ap tests_of (titled_plan a t h) in
    record {
      tests = tests;
      exact = subst (All IsExact) (sym tests)
          (All-cons IsExact document_end (t ∷ title_end ∷ []) tt
          (All-cons IsExact t (title_end ∷ []) (exact_titled a t h) (All-cons IsExact title_end [] tt (All-nil IsExact))));
      finds = λ space s. titled_list space a t s h;
    }

pub title_finds : (space : List Placed) (q : Shape) (t : Test) (end : ℕ) → IsSpace space → titled_word q ≡ Some t
    → Contains (plan_list space (plan_of q)) end ↔ IsFollowed (ends_of space) (list_of space t) (list_of space title_end) end
title_finds space (atom a) t end s h =
    let ends = ends_of space in let word = list_of space t in let titles = list_of space title_end in
    subst (λ l. Contains l end ↔ IsFollowed ends word titles end) (sym (titled_list space a t s h))
    (followed-answers ends word titles end (list-rises document_end space s.apart))
title_finds space (all qs) t end s h = absurd cc
title_finds space (any qs) t end s h = absurd cc
title_finds space (negated q) t end s h = absurd cc

pub title_is : (q : Shape) (p : Tree) → p ≡ plan_of q → is_some (titled_word q) ≡ true → (t : Test) × IsTitled p t
title_is (atom a) p same h = let (t, e) = some_is (atom_titled a) h in (t, subst (λ x. IsTitled x t) (sym same) (atom_is a t e))
title_is (all qs) p same h = absurd cc
title_is (any qs) p same h = absurd cc
title_is (negated q) p same h = absurd cc

-- it is no conjunction
atom_other : (a : Atom) (t : Test) → atom_titled a ≡ Some t → conjunction_of (atom a) ≡ None
atom_other (lone (words false text ts)) t h = absurd cc
atom_other (lone (words true text ts)) t h = refl
atom_other (lone (prefix title text u)) t h = absurd cc
atom_other (lone (name text)) t h = absurd cc
atom_other (lone (value low high)) t h = absurd cc
atom_other (near left distance right) t h = absurd cc

pub title_other : (q : Shape) → is_some (titled_word q) ≡ true → conjunction_of q ≡ None
title_other (atom a) h = let (t, e) = some_is (atom_titled a) h in atom_other a t e
title_other (all qs) h = absurd cc
title_other (any qs) h = absurd cc
title_other (negated q) h = absurd cc

-- ---- the uses of its tests

-- the first use, and those behind it
pub first_use : (us front back : List ℕ) → 0 < length us → front ≡ take 1 us → back ≡ drop 1 us → us ≡ get_or front 0 0 ∷ back
first_use [] front back l a b = absurd (omega (arith, l))
first_use (u ∷ us) front back l a b = ap (λ v. v ∷ us) (ap (λ xs. get_or xs 0 0) (sym a)) ∙ ap (λ xs. get_or front 0 0 ∷ xs) (sym b)
