-- The best answers of a query over a snapshot of its plan's tests and the test of title ends.
use Rattle.std.proofs.Common.{◌≡◌, ℕ, ◌+◌, ◌-◌, ◌≤◌, List, [], ◌∷◌, ◌++◌, map, take, length, get_or, sym, subst, ap, ◌∙◌, arith, length-append}
use Rattle.std.proofs.lemmas.List.{length-map}
use Rattle.std.proofs.Math.Seq.{take-append_seam}
use Rattle.alta_machine.specs.PlanOf.{plan_of}
use Rattle.alta_compile.specs.Space.{Placed, list_of}
use Rattle.alta_machine.specs.Plans.{Tree}
use Rattle.alta_compile.specs.Listing.{plan_list}
use Rattle.alta_machine.specs.declared.document.Document.{Document}
use Rattle.alta_machine.specs.Patterns.{title_end}
use Rattle.alta_machine.specs.Shape.{Shape}
use Rattle.alta_machine.specs.declared.test.Test.{Test}
use Rattle.alta_rank.specs.Kept.{IsBest}
use Rattle.alta_rank.specs.Scoring.{Scoring}
use Rattle.alta_machine.specs.Uses.{uses_of}
use Rattle.alta_machine.specs.declared.scored.Scored.{Scored}
use Rattle.alta_search.specs.Answers.{coming, is_answer}
use Rattle.alta_search.specs.Lists.{count_lists, count_locations, test_list}
use Rattle.alta_search.specs.Plans.{lists, locations, tests_of}
use Rattle.alta_top.specs.Scoring.{AreScorable, IsScorerOf, last_lists, scored_by}
use Rattle.alta_search.specs.Told.{rows_at}
use Rattle.alta_search.specs.Tops.{AreToRank, document_of}
use Rattle.alta_machine.specs.Scores.{scored}
use Rattle.alta_search.specs.View.{Shows, View}
use Rattle.alta_search.specs.Words.{reader_list}
use Rattle.alta_search.specs.declared.test_reader.TestReader.{TestReader}
use Rattle.alta_top.proofs.Among.{AreAmong, among_front, uses_among}
use Rattle.alta_top.proofs.Ranks.{rows_size, sum_taken}
use Rattle.alta_top.proofs.RowScores.{ScoresAreOfCells, answers_scored, last_at, scorable, space_lists, uses_lists}

-- all tests but the last
pub front_of : (n : ℕ) (ts rs : List Test) (t : Test) → ts ≡ rs ++ t ∷ [] → n + 1 ≡ length ts → take n ts ≡ rs
front_of n ts rs t same e =
    let size : n ≡ length rs = omega (arith, e, ap length same, length-append rs (t ∷ [])) in
    ap (λ k. take k ts) size ∙ ap (take (length rs)) same ∙ take-append_seam rs (t ∷ [])

-- one less than all of them, and one
pub one_less : (n k : ℕ) (ts rs : List Test) (t : Test) → ts ≡ rs ++ t ∷ [] → n ≡ length ts → n ≡ k → n - 1 + 1 ≡ k
one_less n k ts rs t same all e = omega (arith, all, e, ap length same, length-append rs (t ∷ []))

-- what the scorer reads over a space
module _ (q : Shape) (p : Tree) (v : View) (space : List Placed) (shows : Shows space v) (is : p ≡ plan_of q)
    (tests : v.tests ≡ tests_of p ++ title_end ∷ []) (s : Scoring TestReader) (before after : ℕ) (scorer : IsScorerOf (uses_of q) v s before after) where
  among : AreAmong (uses_of q) v.tests
  among =
      subst (AreAmong (uses_of q)) (sym tests)
      (among_front (uses_of q) (tests_of p) (title_end ∷ []) (subst (λ t. AreAmong (uses_of q) (tests_of t)) (sym is) (uses_among q)))

  pub scorer_lists : map reader_list s.readers ≡ space_lists space (uses_of q)
  scorer_lists = scorer.reads ∙ uses_lists (uses_of q) v space among shows

  pub scorer_titles : reader_list s.titles ≡ list_of space title_end
  scorer_titles =
      let cuts : map test_list v.cuts ≡ map (list_of space) (tests_of p ++ title_end ∷ []) = shows.lists ∙ ap (map (list_of space)) tests in
      let size : length v.cuts - 1 ≡ length (tests_of p) = omega (
        arith,
        ap length cuts,
        length-map v.cuts test_list,
        length-map (tests_of p ++ title_end ∷ []) (list_of space),
        length-append (tests_of p) (title_end ∷ []),
      ) in
      scorer.titles ∙ ap (λ k. test_list (get_or v.cuts k [])) size ∙ last_at v.cuts (tests_of p) title_end space cuts

module _ (law : ScoresAreOfCells) (q : Shape) (p : Tree) (v : View) (documents : List Document) (to_rank : AreToRank p v documents) (is : p ≡ plan_of q)
    (tests : v.tests ≡ tests_of p ++ title_end ∷ []) (few : length (uses_of q) ≤ 64) (s : Scoring TestReader) (before after : ℕ) (scorer : IsScorerOf (uses_of q) v s before after) where
  lists_are : map reader_list s.readers ≡ space_lists to_rank.space (uses_of q)
  lists_are = scorer_lists q p v to_rank.space to_rank.shows is tests s before after scorer

  titles_are : reader_list s.titles ≡ list_of to_rank.space title_end
  titles_are = scorer_titles q p v to_rank.space to_rank.shows is tests s before after scorer

  pub documents_scored : map (scored_by s) (coming to_rank.space p v 0) ≡ map (scored (uses_of q)) documents
  documents_scored =
      answers_scored law to_rank.space v to_rank.shows s (uses_of q) scorer.uses lists_are titles_are p
      ∙ ap (map (scored (uses_of q))) to_rank.answers

  module _ (picks : List ℕ) (rows : rows_at v.rows picks ≡ coming to_rank.space p v 0) (count : ℕ) (kept : List Scored)
      (best : length s.uses ≤ 64 → AreScorable s.asked (rows_at v.rows picks) → IsBest count (map (scored_by s) (rows_at v.rows picks)) kept) where
    may_be : AreScorable s.asked (rows_at v.rows picks)
    may_be =
        subst (AreScorable s.asked) (sym rows)
        (scorable (is_answer (plan_list to_rank.space p) v.gone 0) v.rows to_rank.space 1 s.asked to_rank.shows.rows to_rank.shows.lawful.apart (omega (arith, scorer.unasked)) to_rank.short)

    pub best_documents : IsBest count (map (scored (uses_of q)) documents) kept
    best_documents =
        subst (λ every. IsBest count every kept) (ap (map (scored_by s)) rows ∙ documents_scored)
        (best (omega (arith, few, ap length scorer.uses)) may_be)

    pub as_many : length picks ≡ length documents
    as_many =
        omega (
          arith,
          rows_size v.rows picks,
          ap length rows,
          length-map (coming to_rank.space p v 0) (document_of to_rank.space),
          ap length to_rank.answers,
        )

-- the steps of the walk leave those of the last lists
pub walk_steps : (v : View) (n before walked : ℕ) → n + 1 ≡ length v.cuts → walked ≤ before + locations (take n v.cuts) + lists (take n v.cuts)
    → walked + (count_locations (last_lists v) + count_lists (last_lists v)) ≤ before + (locations v.cuts + lists v.cuts)
walk_steps v n before walked e walk =
    let last : length v.cuts - 1 ≡ n = omega (arith, e) in
    omega (
      arith,
      walk,
      sum_taken count_locations v.cuts [] n e,
      sum_taken count_lists v.cuts [] n e,
      ap (λ k. count_locations (get_or v.cuts k [])) last,
      ap (λ k. count_lists (get_or v.cuts k [])) last,
    )

-- the last lists are some of all
last_of : (cuts : List (List (List (List ℕ)))) → count_locations (get_or cuts (length cuts - 1) []) + count_lists (get_or cuts (length cuts - 1) []) ≤ locations cuts + lists cuts
last_of [] = omega arith
last_of (c ∷ cs) =
    let size : length cs + 1 ≡ length (c ∷ cs) = omega arith in let at : length (c ∷ cs) - 1 ≡ length cs = omega arith in
    omega (
      arith,
      sum_taken count_locations (c ∷ cs) [] (length cs) size,
      sum_taken count_lists (c ∷ cs) [] (length cs) size,
      ap (λ k. count_locations (get_or (c ∷ cs) k [])) at,
      ap (λ k. count_lists (get_or (c ∷ cs) k [])) at,
    )

pub last_most : (v : View) → count_locations (last_lists v) + count_lists (last_lists v) ≤ locations v.cuts + lists v.cuts
last_most v = last_of v.cuts
