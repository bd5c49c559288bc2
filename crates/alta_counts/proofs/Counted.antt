-- The answers of a query that one walk counts.
use Rattle.std.proofs.Common.{◌≡◌, ℕ, ◌<◌, List, [], ◌∷◌, map, length, sym, subst, ap, ◌∙◌, arith}
use Rattle.std.specs.Prelude.{All, IsTrue, None, Option, Result, is_some}
use Rattle.std.proofs.lemmas.Result.{IfOk-weaker}
use Rattle.alta_codec.specs.Rising.{IsRising, first_from}
use Rattle.alta_codec.proofs.Places.{first_from-least}
use Rattle.alta_compile.specs.Conjoined.{conjunction_of, titled_word, stem_in, is_either, either_words}
use Rattle.alta_compile.specs.Listing.{plan_list}
use Rattle.alta_compile.specs.Space.{Placed, document_end, ends_of, list_of}
use Rattle.alta_compile.specs.declared.asked.Conjunction.{Conjunction}
use Rattle.alta_compile.proofs.Ends.{plan_rises}
use Rattle.alta_lead.specs.Followed.{ends_followed}
use Rattle.alta_lead.specs.Having.{ends_with_any}
use Rattle.alta_lead.proofs.Counting.{live_same}
use Rattle.alta_machine.specs.Patterns.{title_end}
use Rattle.alta_machine.specs.PlanOf.{plan_of}
use Rattle.alta_machine.specs.Plans.{Tree}
use Rattle.alta_machine.specs.Shape.{Shape}
use Rattle.alta_machine.specs.declared.test.Test.{Test}
use Rattle.alta_counts.specs.Live.{count_live}
use Rattle.alta_search.specs.Answers.{coming}
use Rattle.alta_counts.specs.Either.{either_tests}
use Rattle.alta_search.specs.Leads.{AreByRarest}
use Rattle.alta_search.specs.Met.{IsExact}
use Rattle.alta_search.specs.Plans.{tests_of}
use Rattle.alta_search.specs.View.{View, Shows}
use Rattle.alta_counts.specs.Counted.{CountsAnswers}
use Rattle.alta_search.specs.Walked.{WalksOver}
use Rattle.alta_search.specs.Walks.{PlanView, IsBegun}
use Rattle.alta_counts.proofs.Either.{either_is, either_other}
use Rattle.alta_search.proofs.Paging.{rarest_none}
use Rattle.alta_counts.proofs.Stems.{stem_is, stem_other}
use Rattle.alta_counts.proofs.Tallying.{plan_live}
use Rattle.alta_counts.proofs.Titled.{title_is, title_other}

-- the ends of a list that were not deleted are the answers of a plan that finds them
pub live_is : (p : Tree) (v : View) (space : List Placed) (found : List ℕ) (n : ℕ) → Shows space v → plan_list space p ≡ found → n ≡ count_live found v.gone 0 → n ≡ length (coming space p v 0)
live_is p v space found n shows finds is = is ∙ ap (λ l. count_live l v.gone 0) (sym finds) ∙ sym (plan_live space p v shows (plan_rises space shows.lawful p))

-- the ends of a reader of the plan that were not deleted, from the first on, are its answers
pub count_is : (p : Tree) (v : View) (u : PlanView) (before begun : ℕ) → IsBegun p v u 0 before begun → (space : List Placed) → Shows space v
    → count_live u.list v.gone u.place ≡ length (coming space p v 0)
count_is p v u before begun is space shows =
    let list = plan_list space p in
    let same : u.list ≡ list = is.reads space shows in
    let here : u.place ≡ first_from list 0 = is.place ∙ ap (λ l. first_from l 0) same in
    ap (λ l. count_live l v.gone u.place) same
    ∙ live_same list v.gone 0 u.place (omega arith) (λ z m h. omega (arith, here, first_from-least list 0 z m h))
    ∙ sym (plan_live space p v shows (subst IsRising same is.stands.rising))

-- a walk over the lists of what is no conjunction counts the answers
counted : {E : Type 0} (p : Tree) (o : Option Conjunction) (v : View) (before after : ℕ) (result : Result ℕ E) (IsSo : ℕ → Type 0) → o ≡ None
    → ((n : ℕ) → IsSo n → (space : List Placed) → Shows space v → n ≡ length (coming space p v 0)) → WalksOver v before after result IsSo → CountsAnswers p o v before after result
counted p o v before after result IsSo none is walk = record {
  count = IfOk-weaker result IsSo (λ n. (space : List Placed) → Shows space v → n ≡ length (coming space p v 0)) is walk.answer;
  steps = record { most = walk.most; rarest = subst (λ (x : Option Conjunction). AreByRarest x v before after) (sym none) (rarest_none v before after) };
}

module _ (q : Shape) (p : Tree) (v : View) (query : p ≡ plan_of q) (tests : v.tests ≡ tests_of p) where
  -- a word in titles
  module _ (title : IsTrue (is_some (titled_word q))) where
    pub title_three : length v.tests ≡ 3
    title_three = let (t, is) = title_is q p query title in omega (arith, ap length (tests ∙ is.tests))

    pub title_exact : All IsExact v.tests
    title_exact = let (t, is) = title_is q p query title in subst (All IsExact) (sym tests) is.exact

    pub title_counts : {E : Type 0} (before after : ℕ) (result : Result ℕ E)
        → WalksOver v before after result (λ n. (space : List Placed) (word : Test) → Shows space v → v.tests ≡ document_end ∷ word ∷ title_end ∷ []
        → n ≡ count_live (ends_followed (ends_of space) (list_of space word) (list_of space title_end)) v.gone 0)
        → CountsAnswers p (conjunction_of q) v before after result
    title_counts before after result walk =
        let (t, is) = title_is q p query title in
        counted p (conjunction_of q) v before after result
        (λ n. (space : List Placed) (word : Test) → Shows space v → v.tests ≡ document_end ∷ word ∷ title_end ∷ [] → n ≡ count_live (ends_followed (ends_of space) (list_of space word) (list_of space title_end)) v.gone 0)
        (title_other q title)
        (λ n so space shows. live_is p v space (ends_followed (ends_of space) (list_of space t) (list_of space title_end)) n shows (is.finds space shows.lawful) (so space t shows (tests ∙ is.tests))) walk

  -- a stem
  module _ (stem : IsTrue (is_some (stem_in q))) where
    pub stem_some : 0 < length v.tests
    stem_some = let (t, is) = stem_is q p query stem in omega (arith, ap length (tests ∙ is.tests))

    pub stem_counts : {E : Type 0} (before after : ℕ) (result : Result ℕ E)
        → WalksOver v before after result (λ n. (space : List Placed) (stem : Test) → Shows space v → v.tests ≡ document_end ∷ stem ∷ []
        → n ≡ count_live (ends_with_any (ends_of space) (list_of space stem ∷ [])) v.gone 0)
        → CountsAnswers p (conjunction_of q) v before after result
    stem_counts before after result walk =
        let (t, is) = stem_is q p query stem in
        counted p (conjunction_of q) v before after result
        (λ n. (space : List Placed) (stem : Test) → Shows space v → v.tests ≡ document_end ∷ stem ∷ [] → n ≡ count_live (ends_with_any (ends_of space) (list_of space stem ∷ [])) v.gone 0)
        (stem_other q stem)
        (λ n so space shows. live_is p v space (ends_with_any (ends_of space) (list_of space t ∷ [])) n shows (is.finds space shows.lawful) (so space t shows (tests ∙ is.tests))) walk

  -- an Or of words
  module _ (either : IsTrue (is_either q)) where
    pub either_exact : All IsExact v.tests
    either_exact = subst (All IsExact) (sym tests) (either_is q p query either).exact

    pub either_counts : {E : Type 0} (before after : ℕ) (result : Result ℕ E)
        → WalksOver v before after result (λ n. (space : List Placed) (words : List Test) → Shows space v → v.tests ≡ either_tests words
        → n ≡ count_live (ends_with_any (ends_of space) (map (list_of space) words)) v.gone 0)
        → CountsAnswers p (conjunction_of q) v before after result
    either_counts before after result walk =
        let is = either_is q p query either in
        counted p (conjunction_of q) v before after result
        (λ n. (space : List Placed) (words : List Test) → Shows space v → v.tests ≡ either_tests words → n ≡ count_live (ends_with_any (ends_of space) (map (list_of space) words)) v.gone 0)
        (either_other q either)
        (λ n so space shows. live_is p v space (ends_with_any (ends_of space) (map (list_of space) (either_words q))) n shows (is.finds space shows.lawful) (so space (either_words q) shows (tests ∙ is.tests))) walk
