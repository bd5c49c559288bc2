-- The answers of a query that asks for one of its uses are the rows that have a score.
use Rattle.std.proofs.Common.{◌≡◌, ⊎_elim, inl, inr, ℕ, ◌^◌, ◌<◌, ◌≤◌, leb, ltb, Bool, true, not, ◌&&◌, List, [], ◌∷◌, ◌++◌, map, length, refl, sym, subst, ap, ◌∙◌, arith}
use Rattle.std.specs.Prelude.{◌↔◌, All, Contains, filter}
use Rattle.std.proofs.lemmas.Bool.{true≢false}
use Rattle.std.proofs.lemmas.List.Elements.{All-head, All-tail}
use Rattle.alta_compile.proofs.Meaning.{plan_matches}
use Rattle.alta_compile.proofs.Spaces.{Has, apart_one}
use Rattle.alta_compile.specs.Listing.{plan_list}
use Rattle.alta_compile.specs.Space.{Placed, AreApart, end_of, past}
use Rattle.alta_content.specs.Rows as content
use Rattle.alta_content.specs.declared.document.DocRow.{DocRow}
use Rattle.alta_docread.specs.Kept.{has}
use Rattle.alta_docread.specs.KeptLaws.{true_or_false, Contains-has, has-Contains}
use Rattle.alta_machine.specs.Matches.{Matches}
use Rattle.alta_machine.specs.Patterns.{title_end}
use Rattle.alta_machine.specs.PlanOf.{plan_of}
use Rattle.alta_machine.specs.Plans.{Tree}
use Rattle.alta_machine.specs.Scores.{score_of}
use Rattle.alta_machine.specs.Shape.{Shape}
use Rattle.alta_machine.specs.Uses.{uses_of}
use Rattle.alta_machine.specs.declared.scored.Scored.{Scored}
use Rattle.alta_rank.specs.AnyUse.{asks_any_use}
use Rattle.alta_rank.specs.Kept.{IsBest}
use Rattle.alta_rank.specs.Locations.{range_score}
use Rattle.alta_rank.specs.Scoring.{Scoring}
use Rattle.alta_search.specs.Answers.{coming, is_answer}
use Rattle.alta_search.specs.Plans.{tests_of}
use Rattle.alta_top.specs.Ranking.{AreRanked, is_scored, scored_rows}
use Rattle.alta_search.specs.Readers.{Each}
use Rattle.alta_top.specs.Scoring.{AreScorable, IsScorerOf, scored_by}
use Rattle.alta_search.specs.Tops.{cells_from}
use Rattle.alta_search.specs.View.{IsRowOf, Shows, View}
use Rattle.alta_search.specs.Words.{reader_list}
use Rattle.alta_search.specs.declared.test_reader.TestReader.{TestReader}
use Rattle.alta_top.proofs.RowScores.{ScoresAreOfCells, cells_found, row_score}
use Rattle.alta_search.proofs.Rows.{filter_same}
use Rattle.alta_top.proofs.Tops.{scorer_lists, scorer_titles}

abbrev pub AnswersHaveScores : Type 0
AnswersHaveScores = (q : Shape) (cells : List (List (List ℕ))) → asks_any_use q ≡ true → Matches cells q ↔ (0 < score_of (uses_of q) cells)

-- what holds of the row of each document chooses the same rows
filters_same : (p q : DocRow → Bool) (rows : List DocRow) (ds : List Placed) → Each IsRowOf rows ds
    → ((r : DocRow) (d : Placed) → IsRowOf r d → Has ds d → p r ≡ q r) → filter p rows ≡ filter q rows
filters_same p q [] [] e h = refl
filters_same p q [] (d ∷ ds) e h = absurd e
filters_same p q (r ∷ rows) [] e h = absurd e
filters_same p q (r ∷ rows) (d ∷ ds) (row, e) h =
    filter_same p q r rows (h r d row (inl refl)) (filters_same p q rows ds e (λ x y is m. h x y is (inr m)))

-- all rows may be scored one behind the other, where they end below the limit
all_scorable : (rows : List DocRow) (ds : List Placed) (low asked : ℕ) → Each IsRowOf rows ds → AreApart low ds → asked < low
    → All (λ r. content.end_of r < 2 ^ 54) rows → AreScorable asked rows
all_scorable [] [] low asked e a l short = tt
all_scorable [] (d ∷ ds) low asked e a l short = absurd e
all_scorable (r ∷ rows) [] low asked e a l short = absurd e
all_scorable (r ∷ rows) (d ∷ ds) low asked ((f, c), e) (a, b, rest) l short =
    let (low_is, some, top) = apart_one (d ∷ ds) low d (a, b, rest) (inl refl) in
    let P : DocRow → Type 0 = λ x. content.end_of x < 2 ^ 54 in (
      record { behind = omega (arith, f, a, l); some = omega (arith, c, b); few = omega (arith, f, a, l, All-head P r rows short); below = omega (arith, f, c, b, top) },
      all_scorable rows ds (past d) (content.end_of r) e rest (omega (arith, f, c, b)) (All-tail P r rows short),
    )

more_than : (n : ℕ) → 0 < n → ltb 0 n ≡ true
more_than n h = grind (arith, h)

positive : (n : ℕ) → ltb 0 n ≡ true → 0 < n
positive n h = grind (arith, h)

module _ (score_law : ScoresAreOfCells) (answer_law : AnswersHaveScores) (q : Shape) (p : Tree) (v : View) (space : List Placed) (shows : Shows space v) (is : p ≡ plan_of q)
    (tests : v.tests ≡ tests_of p ++ title_end ∷ []) (s : Scoring TestReader) (before after : ℕ) (scorer : IsScorerOf (uses_of q) v s before after)
    (any : asks_any_use q ≡ true) where
  -- the score of the row of a document
  row_range : (r : DocRow) (d : Placed) → IsRowOf r d → Has space d
      → range_score s.uses (map reader_list s.readers) (reader_list s.titles) r.first (content.end_of r) ≡ score_of (uses_of q) d.cells
  row_range r d (f, c) m =
      ap (λ (x : Scored). x.score)
      (row_score score_law space v shows s (uses_of q) scorer.uses (scorer_lists q p v space shows is tests s before after scorer)
      (scorer_titles q p v space shows is tests s before after scorer) r d (f, c) m)
      ∙ ap (score_of (uses_of q)) (ap (cells_from space) f ∙ cells_found space 1 d shows.lawful.apart m)

  -- a document is an answer where it has one
  listed : (d : Placed) → Has space d → has (plan_list space p) (end_of d) ≡ ltb 0 (score_of (uses_of q) d.cells)
  listed d m =
      let plan = plan_matches space shows.lawful d m q in let law = answer_law q d.cells any in let list = plan_list space p in
      let same : plan_list space (plan_of q) ≡ list = ap (plan_list space) (sym is) in
      ⊎_elim
      (λ yes. yes ∙ sym (more_than (score_of (uses_of q) d.cells) (law.0 (plan.0 (subst (λ l. Contains l (end_of d)) (sym same) (has-Contains list (end_of d) yes))))))
      (λ no. no ∙ sym (⊎_elim
      (λ b. absurd (true≢false (sym (Contains-has list (end_of d) (subst (λ l. Contains l (end_of d)) same (plan.1 (law.1 (positive (score_of (uses_of q) d.cells) b))))) ∙ no)))
      (λ b. b)
      (true_or_false (ltb 0 (score_of (uses_of q) d.cells)))))
      (true_or_false (has list (end_of d)))

  row_test : (r : DocRow) (d : Placed) → IsRowOf r d → Has space d → is_answer (plan_list space p) v.gone 0 r ≡ is_scored s v.gone r
  row_test r d (f, c) m =
      let (low, some, top) = apart_one space 1 d shows.lawful.apart m in
      let at = content.end_of r in let list = plan_list space p in
      let ends : at ≡ end_of d = omega (arith, f, c) in
      let all : leb 0 at ≡ true = grind arith in
      ap (λ b. b && (has list at && not (has v.gone at))) all
      ∙ ap (λ b. b && not (has v.gone at)) (ap (has list) ends ∙ listed d m ∙ ap (λ n. ltb 0 n) (sym (row_range r d (f, c) m)))

  coming_scored : coming space p v 0 ≡ scored_rows s v.gone v.rows
  coming_scored = filters_same (is_answer (plan_list space p) v.gone 0) (is_scored s v.gone) v.rows space shows.rows row_test

  -- what the walk found
  pub coming_ranked : (count : ℕ) (kept : List Scored) (total : ℕ) → length (uses_of q) ≤ 64 → All (λ r. content.end_of r < 2 ^ 54) v.rows
      → (length s.uses ≤ 64 → AreScorable s.asked v.rows → AreRanked s v.gone v.rows count kept total)
      → IsBest count (map (scored_by s) (coming space p v 0)) kept × (total ≡ length (coming space p v 0))
  coming_ranked count kept total few low ranked =
      let found = ranked (omega (arith, few, ap length scorer.uses)) (all_scorable v.rows space 1 s.asked shows.rows shows.lawful.apart (omega (arith, scorer.unasked)) low) in
      (subst (λ rows. IsBest count (map (scored_by s) rows) kept) (sym coming_scored) found.best, found.size ∙ ap length (sym coming_scored))
