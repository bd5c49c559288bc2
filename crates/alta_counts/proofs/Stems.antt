-- The plan of a stem: its tests, and the list that it reads.
use Rattle.std.proofs.Common.{◌≡◌, true, false, List, [], ◌∷◌, refl, sym, subst, ap, ◌∙◌}
use Rattle.std.specs.Prelude.{◌↔◌, Contains, Some, None, MatchOption, is_some}
use Rattle.alta_codec.specs.Rising.{IsRising}
use Rattle.alta_compile.specs.Conjoined.{atom_stem, stem_in, conjunction_of}
use Rattle.alta_machine.specs.PlanOf.{found_of, atom_plan, plan_of}
use Rattle.alta_compile.specs.Space.{Placed, IsSpace, document_end, end_of, ends_of, list_of}
use Rattle.alta_machine.specs.Plans.{Tree, found}
use Rattle.alta_compile.specs.Listing.{plan_list}
use Rattle.alta_compile.proofs.Ends.{plan_rises, plan_ends}
use Rattle.alta_compile.proofs.Meaning.{plan_matches}
use Rattle.alta_compile.proofs.Spaces.{Has, list-rises, end-in, end-is}
use Rattle.alta_compound.specs.Union.{union_of}
use Rattle.alta_compound.specs.Unions.{above_from_rising}
use Rattle.alta_lead.specs.Having.{ends_having, ends_with_any}
use Rattle.alta_lead.specs.HavingLaws.{having-rises}
use Rattle.alta_machine.specs.Matches.{Matches}
use Rattle.alta_machine.specs.Patterns.{Satisfies, SatisfiesOne, pattern_of, phrase_pattern, value_patterns, numbers_in}
use Rattle.alta_machine.specs.Shape.{words, prefix, name, value, Atom, lone, near, Shape, atom, all, any, negated}
use Rattle.alta_machine.specs.declared.test.Test.{Test}
use Rattle.alta_search.specs.Plans.{tests_of}
use Rattle.alta_counts.specs.Stems.{IsStem}
use Rattle.alta_search.proofs.Conjoined.{some_is, HasWord, word_law}
use Rattle.alta_counts.proofs.Either.{having_one}
use Rattle.alta_search.proofs.Lone.{with_none}
use Rattle.alta_search.proofs.Rising.{one_rising}

-- an atom that is a stem
stem_pattern : (a : Atom) (t : Test) → atom_stem a ≡ Some t → pattern_of a ≡ phrase_pattern (t ∷ [])
stem_pattern (lone (words title text ts)) t h = absurd cc
stem_pattern (lone (prefix true text u)) t h = absurd cc
stem_pattern (lone (prefix false text u)) t h = let same : u ≡ t = cc in ap (λ v. phrase_pattern (v ∷ [])) same
stem_pattern (lone (name text)) t h = absurd cc
stem_pattern (lone (value low high)) t h = absurd cc
stem_pattern (near left distance right) t h = absurd cc

-- it is no value
no_value : (a : Atom) (t : Test) → atom_stem a ≡ Some t → numbers_in a ≡ None
no_value (lone (words title text ts)) t h = refl
no_value (lone (prefix title text u)) t h = refl
no_value (lone (name text)) t h = refl
no_value (lone (value low high)) t h = absurd cc
no_value (near left distance right) t h = refl

stem_plan : (a : Atom) (t : Test) → atom_stem a ≡ Some t → plan_of (atom a) ≡ found (found_of (phrase_pattern (t ∷ [])))
stem_plan a t h = ap (atom_plan (pattern_of a)) (no_value a t h) ∙ ap (λ p. found (found_of p)) (stem_pattern a t h)

module _ (space : List Placed) (s : IsSpace space) (d : Placed) (m : Has space d) where
  stem_law : (a : Atom) (t : Test) → atom_stem a ≡ Some t → Matches d.cells (atom a) ↔ HasWord space s d m t
  stem_law a t e =
      subst (λ n. MatchOption n (Satisfies d.cells (pattern_of a)) (λ numbers. SatisfiesOne d.cells (value_patterns numbers.0 numbers.1)) ↔ HasWord space s d m t)
      (sym (no_value a t e)) (subst (λ x. Satisfies d.cells x ↔ HasWord space s d m t) (sym (stem_pattern a t e)) (word_law space s d m t))

stem_having : (space : List Placed) (a : Atom) (t : Test) → IsSpace space → atom_stem a ≡ Some t
    → plan_list space (plan_of (atom a)) ≡ ends_having (ends_of space) (list_of space t ∷ []) []
stem_having space a t s h =
    let ends = ends_of space in let stem = list_of space t in
    let rises : IsRising ends = list-rises document_end space s.apart in
    let left = plan_list space (plan_of (atom a)) in let right = ends_having ends (stem ∷ []) [] in
    one_rising left right (plan_rises space s (plan_of (atom a))) (having-rises ends (stem ∷ []) [] rises)
    (λ z n.
    let (d, m, at) = end-is space s z (plan_ends space s (plan_of (atom a)) z n) in
    let here = (stem_law space s d m a t h).0 ((plan_matches space s d m (atom a)).0 (subst (λ e. Contains left e) at n)) in
    subst (λ e. Contains right e) (sym at) ((having_one ends rises stem (end_of d)).1 (end-in space s d m, here)))
    (λ z n.
    let first = (having_one ends rises stem z).0 n in
    let (d, m, at) = end-is space s z first.0 in
    let here = (having_one ends rises stem (end_of d)).0 (subst (λ e. Contains right e) at n) in
    subst (λ e. Contains left e) (sym at) ((plan_matches space s d m (atom a)).1 ((stem_law space s d m a t h).1 here.1)))

-- the union of one list is that list
stem_list : (space : List Placed) (a : Atom) (t : Test) → IsSpace space → atom_stem a ≡ Some t
    → plan_list space (plan_of (atom a)) ≡ ends_with_any (ends_of space) (list_of space t ∷ [])
unfolding union_of
stem_list space a t s h =
    stem_having space a t s h
    ∙ ap (λ l. ends_having (ends_of space) (l ∷ []) []) (sym (with_none 0 (list_of space t) (above_from_rising (list_of space t) (list-rises t space s.apart))))

atom_is : (a : Atom) (t : Test) → atom_stem a ≡ Some t → IsStem (plan_of (atom a)) t
atom_is a t h = record { tests = ap tests_of (stem_plan a t h); finds = λ space s. stem_list space a t s h }

-- the plan of a stem
pub stem_is : (q : Shape) (p : Tree) → p ≡ plan_of q → is_some (stem_in q) ≡ true → (t : Test) × IsStem p t
stem_is (atom a) p same h = let (t, e) = some_is (atom_stem a) h in (t, subst (λ x. IsStem x t) (sym same) (atom_is a t e))
stem_is (all qs) p same h = absurd cc
stem_is (any qs) p same h = absurd cc
stem_is (negated q) p same h = absurd cc

-- it is no conjunction
atom_other : (a : Atom) (t : Test) → atom_stem a ≡ Some t → conjunction_of (atom a) ≡ None
atom_other (lone (words title text ts)) t h = absurd cc
atom_other (lone (prefix title text u)) t h = refl
atom_other (lone (name text)) t h = absurd cc
atom_other (lone (value low high)) t h = absurd cc
atom_other (near left distance right) t h = absurd cc

pub stem_other : (q : Shape) → is_some (stem_in q) ≡ true → conjunction_of q ≡ None
stem_other (atom a) h = let (t, e) = some_is (atom_stem a) h in atom_other a t e
stem_other (all qs) h = absurd cc
stem_other (any qs) h = absurd cc
stem_other (negated q) h = absurd cc
