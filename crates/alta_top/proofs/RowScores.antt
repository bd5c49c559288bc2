-- The scores of rows over a snapshot of a space are those of its documents.
use Rattle.std.proofs.Common.{◌≡◌, ◌≢◌, ⊎_elim, inl, inr, ℕ, zero, suc, ◌+◌, ◌-◌, ◌<◌, eqb, Bool, true, false, cond, List, [], ◌∷◌, ◌++◌, map, length, get_or, refl, sym, subst, ap, ◌∙◌, arith}
use Rattle.std.specs.Prelude.{Contains, All, AllPairs, filter, if◌then◌else◌}
use Rattle.std.proofs.lemmas.Bool.{true≢false}
use Rattle.std.proofs.lemmas.List.Elements.{All-head, All-tail}
use Rattle.alta_compile.specs.Space.{Placed, AreApart, IsSpace, end_of, list_of, past}
use Rattle.alta_machine.specs.Plans.{Tree}
use Rattle.alta_compile.specs.Listing.{plan_list}
use Rattle.alta_compile.proofs.Spaces.{Has, HasAt, apart_one, apart_two, at_met, at_within, list-has, has-list, list-rises, met_at}
use Rattle.alta_content.specs.Rows as content
use Rattle.alta_content.specs.declared.document.DocRow.{DocRow}
use Rattle.alta_docread.specs.KeptLaws.{true_or_false}
use Rattle.alta_machine.specs.declared.document.Document.{Document}
use Rattle.alta_machine.specs.Patterns.{meets, title_end}
use Rattle.alta_machine.specs.declared.test.Test.{Test}
use Rattle.alta_machine.specs.Scores.{score_of, scored}
use Rattle.alta_rank.specs.Locations.{range_score, IsListIn, AreListsIn}
use Rattle.alta_machine.specs.Ranked as rank
use Rattle.alta_rank.specs.Scoring.{Scoring}
use Rattle.alta_machine.specs.declared.usage.Use.{Use}
use Rattle.alta_search.specs.Answers.{coming, is_answer}
use Rattle.alta_search.specs.Lists.{test_list}
use Rattle.alta_search.specs.Readers.{Each}
use Rattle.alta_top.specs.Scoring.{AreScorable, scored_by}
use Rattle.alta_search.specs.Tops.{IsShort, cells_from, document_of, number_of, same_test}
use Rattle.alta_top.specs.Best.{lists_for, scoring_lists}
use Rattle.alta_search.specs.View.{IsRowOf, Shows, View}
use Rattle.alta_search.specs.Words.{reader_list}
use Rattle.alta_search.specs.declared.test_reader.TestReader.{TestReader}
use Rattle.alta_top.proofs.Among.{AreAmong}
use Rattle.alta_search.proofs.Rows.{filter_no, filter_yes}
use Rattle.alta_top.proofs.SameTests.{same_is, same_itself}

-- ---- the lists of a test

abbrev behind_first : {X : Type 0} → List X → List X
behind_first [] = []
behind_first (x ∷ xs) = xs

not_behind : (t u : Test) (us : List Test) → same_test t u ≡ false → Contains (u ∷ us) t → Contains us t
not_behind t u us other (zero, l, e) = absurd (true≢false (sym (subst (λ x. same_test t x ≡ true) (sym e) (same_itself t)) ∙ other))
not_behind t u us other (suc k, l, e) = (k, omega (arith, l), e)

-- the lists of a test that is there are those of the space
pub list_for : (t : Test) (ts : List Test) (cuts : List (List (List (List ℕ)))) (space : List Placed) → Contains ts t → map test_list cuts ≡ map (list_of space) ts
    → test_list (lists_for t ts cuts) ≡ list_of space t
list_for t [] cuts space (k, l, e) h = absurd (omega (arith, l))
list_for t (u ∷ us) [] space m h = let e : 0 ≡ suc (length (map (list_of space) us)) = ap length h in absurd (omega (arith, e))
list_for t (u ∷ us) (c ∷ cs) space m h =
    ⊎_elim
    (λ yes. ap (λ b. test_list (if b then c else lists_for t us cs)) yes ∙ ap (λ l. get_or l 0 []) h ∙ ap (list_of space) (sym (same_is t u yes)))
    (λ no. ap (λ b. test_list (if b then c else lists_for t us cs)) no ∙ list_for t us cs space (not_behind t u us no m) (ap behind_first h))
    (true_or_false (same_test t u))

-- those of each use
abbrev pub space_lists : List Placed → List Use → List (List ℕ)
space_lists space us = map (λ (u : Use). list_of space u.test) us

pub uses_lists : (us : List Use) (v : View) (space : List Placed) → AreAmong us v.tests → Shows space v → map test_list (scoring_lists us v) ≡ space_lists space us
uses_lists [] v space a s = refl
uses_lists (u ∷ us) v space (m, a) s =
    ap (λ l. l ∷ map test_list (scoring_lists us v)) (list_for u.test v.tests v.cuts space m s.lists)
    ∙ ap (λ ls. list_of space u.test ∷ ls) (uses_lists us v space a s)

-- the last test's
at_last : (ts : List Test) (t d : Test) → get_or (ts ++ t ∷ []) (length ts) d ≡ t
at_last [] t d = refl
at_last (x ∷ xs) t d = at_last xs t d

pub last_at : (cuts : List (List (List (List ℕ)))) (ts : List Test) (t : Test) (space : List Placed) → map test_list cuts ≡ map (list_of space) (ts ++ t ∷ [])
    → test_list (get_or cuts (length ts) []) ≡ list_of space t
last_at [] [] t space h = let e : 0 ≡ 1 = ap length h in absurd (omega (arith, e))
last_at [] (x ∷ xs) t space h = let e : 0 ≡ suc (length (map (list_of space) (xs ++ t ∷ []))) = ap length h in absurd (omega (arith, e))
last_at (c ∷ cs) [] t space h = ap (λ l. get_or l 0 []) h
last_at (c ∷ cs) (x ∷ xs) t space h = last_at cs xs t space (ap behind_first h)

-- ---- the lists of a space, by its documents

module _ (space : List Placed) (s : IsSpace space) where
  -- one location in two documents
  same_place : (d e : Placed) (p k : ℕ) → Has space d → Has space e → d.first + k ≡ e.first + p → k < length d.cells → p < length e.cells → d ≡ e
  same_place d e p k m n same l o =
      ⊎_elim (λ h. h) (λ apart. ⊎_elim (λ a. absurd (omega (arith, a, same, l, o))) (λ b. absurd (omega (arith, b, same, l, o))) apart) (apart_two space 1 d e s.apart m n)

  list_in : (d : Placed) (t : Test) → Has space d → IsListIn d.first d.cells t (list_of space t)
  list_in d t m = record {
    rising = list-rises t space s.apart;
    has = λ place l. (
      λ c. let (e, n, p, same, h) = list-has t space (d.first + place) c in
          let one : d ≡ e = same_place d e p place m n same l (at_within t e.cells p h) in
          let here : place ≡ p = omega (arith, same, ap (λ (x : Placed). x.first) one) in
          subst (λ k. meets t (get_or d.cells k []) ≡ true) (sym here) (met_at t d.cells p (subst (λ (x : Placed). HasAt t x.cells p) (sym one) h)).1,
      λ h. has-list t space d place (d.first + place) m refl (at_met t d.cells place (l, h)),
    );
  }

  lists_in : (d : Placed) (us : List Use) → Has space d → AreListsIn d.first d.cells us (space_lists space us)
  lists_in d [] m = tt
  lists_in d (u ∷ us) m = (list_in d u.test m, lists_in d us m)

  -- the score of a document
  score_in : ((first : ℕ) (cells : List (List (List ℕ))) (uses : List Use) (lists : List (List ℕ)) (titles : List ℕ)
      → 0 < length cells → AreListsIn first cells uses lists → IsListIn first cells title_end titles
      → range_score uses lists titles first (first + length cells - 1) ≡ score_of uses cells)
      → (d : Placed) (us : List Use) → Has space d → range_score us (space_lists space us) (list_of space title_end) d.first (end_of d) ≡ score_of us d.cells
  score_in law d us m =
      let (low, some, top) = apart_one space 1 d s.apart m in
      law d.first d.cells us (space_lists space us) (list_of space title_end) (omega (arith, some)) (lists_in d us m) (list_in d title_end m)

-- the cells of a document are found by where it begins
cells_yes : (e : Placed) (es : List Placed) (first : ℕ) → e.first ≡ first → cells_from (e ∷ es) first ≡ e.cells
cells_yes e es first h = let b : eqb e.first first ≡ true = grind (arith, h) in ap (λ x. cond x e.cells (cells_from es first)) b

cells_no : (e : Placed) (es : List Placed) (first : ℕ) → e.first < first → cells_from (e ∷ es) first ≡ cells_from es first
cells_no e es first h = let b : eqb e.first first ≡ false = grind (arith, h) in ap (λ x. cond x e.cells (cells_from es first)) b

pub cells_found : (ds : List Placed) (low : ℕ) (d : Placed) → AreApart low ds → Has ds d → cells_from ds d.first ≡ d.cells
cells_found [] low d a m = absurd m
cells_found (e ∷ es) low d (a, b, rest) m =
    ⊎_elim
    (λ same. cells_yes e es d.first (ap (λ (x : Placed). x.first) same) ∙ ap (λ (x : Placed). x.cells) same)
    (λ n. let (c, f, g) = apart_one es (past e) d rest n in cells_no e es d.first (omega (arith, b, c)) ∙ cells_found es (past e) d rest n)
    m

-- ---- the rows of a space

-- the rows that are chosen may be scored one behind the other
pub scorable : (p : DocRow → Bool) (rows : List DocRow) (ds : List Placed) (low asked : ℕ) → Each IsRowOf rows ds → AreApart low ds → asked < low → All IsShort ds
    → AreScorable asked (filter p rows)
scorable p [] [] low asked e a l short = tt
scorable p [] (d ∷ ds) low asked e a l short = absurd e
scorable p (r ∷ rows) [] low asked e a l short = absurd e
scorable p (r ∷ rows) (d ∷ ds) low asked ((f, c), e) (a, b, rest) l short =
    let (low_is, some, top) = apart_one (d ∷ ds) low d (a, b, rest) (inl refl) in
    ⊎_elim
    (λ yes. subst (AreScorable asked) (sym (filter_yes p r rows yes)) (
      record { behind = omega (arith, f, a, l); some = omega (arith, c, b); few = omega (arith, c, All-head IsShort d ds short); below = omega (arith, f, c, b, top) },
      scorable p rows ds (past d) (content.end_of r) e rest (omega (arith, f, c, b)) (All-tail IsShort d ds short),
    ))
    (λ no. subst (AreScorable asked) (sym (filter_no p r rows no)) (scorable p rows ds (past d) asked e rest (omega (arith, a, b, l)) (All-tail IsShort d ds short)))
    (true_or_false (p r))

-- what holds of the row of each document holds of what is chosen
chosen_same : {X : Type 0} (f g : DocRow → X) (p : DocRow → Bool) (rows : List DocRow) (ds : List Placed) → Each IsRowOf rows ds
    → ((r : DocRow) (d : Placed) → IsRowOf r d → Has ds d → f r ≡ g r) → map f (filter p rows) ≡ map g (filter p rows)
chosen_same f g p [] [] e h = refl
chosen_same f g p [] (d ∷ ds) e h = absurd e
chosen_same f g p (r ∷ rows) [] e h = absurd e
chosen_same f g p (r ∷ rows) (d ∷ ds) (row, e) h =
    let rest = chosen_same f g p rows ds e (λ x y is m. h x y is (inr m)) in
    ⊎_elim
    (λ yes. ap (map f) (filter_yes p r rows yes) ∙ ap (λ x. x ∷ map f (filter p rows)) (h r d row (inl refl)) ∙ ap (λ xs. g r ∷ xs) rest ∙ sym (ap (map g) (filter_yes p r rows yes)))
    (λ no. ap (map f) (filter_no p r rows no) ∙ rest ∙ sym (ap (map g) (filter_no p r rows no)))
    (true_or_false (p r))

mapped_twice : {X Y Z : Type 0} (f : Y → Z) (g : X → Y) (xs : List X) → map f (map g xs) ≡ map (λ x. f (g x)) xs
mapped_twice f g [] = refl
mapped_twice f g (x ∷ xs) = ap (λ l. f (g x) ∷ l) (mapped_twice f g xs)

-- the numbers stay
pub numbers_stay : (uses : List Use) (documents : List Document) → AllPairs ◌≢◌ (map number_of documents) → AllPairs ◌≢◌ (map rank.number_of (map (scored uses) documents))
numbers_stay uses documents h = subst (AllPairs ◌≢◌) (sym (mapped_twice rank.number_of (scored uses) documents)) h

abbrev pub ScoresAreOfCells : Type 0
ScoresAreOfCells = (first : ℕ) (cells : List (List (List ℕ))) (uses : List Use) (lists : List (List ℕ)) (titles : List ℕ)
    → 0 < length cells → AreListsIn first cells uses lists → IsListIn first cells title_end titles
    → range_score uses lists titles first (first + length cells - 1) ≡ score_of uses cells

-- a scorer over the snapshot scores the rows of answers as their documents
module _ (law : ScoresAreOfCells) (space : List Placed) (v : View) (shows : Shows space v) (s : Scoring TestReader) (uses : List Use)
    (uses_are : s.uses ≡ uses) (lists_are : map reader_list s.readers ≡ space_lists space uses) (titles_are : reader_list s.titles ≡ list_of space title_end) where
  pub row_score : (r : DocRow) (d : Placed) → IsRowOf r d → Has space d → scored_by s r ≡ scored uses (document_of space r)
  row_score r d (f, c) m =
      let (low, some, top) = apart_one space 1 d shows.lawful.apart m in
      let ends : content.end_of r ≡ end_of d = omega (arith, f, c) in
      let score : range_score s.uses (map reader_list s.readers) (reader_list s.titles) r.first (content.end_of r) ≡ score_of uses (cells_from space r.first) =
      ap (λ us. range_score us (map reader_list s.readers) (reader_list s.titles) r.first (content.end_of r)) uses_are
      ∙ ap (λ ls. range_score uses ls (reader_list s.titles) r.first (content.end_of r)) lists_are
      ∙ ap (λ ts. range_score uses (space_lists space uses) ts r.first (content.end_of r)) titles_are
      ∙ ap (λ x. range_score uses (space_lists space uses) (list_of space title_end) x (content.end_of r)) f
      ∙ ap (λ x. range_score uses (space_lists space uses) (list_of space title_end) d.first x) ends
      ∙ score_in space shows.lawful law d uses m
      ∙ ap (score_of uses) (sym (ap (cells_from space) f ∙ cells_found space 1 d shows.lawful.apart m)) in
      ap (λ x. record { number = r.number; name = r.name; score = x }) score

  pub answers_scored : (plan : Tree) → map (scored_by s) (coming space plan v 0) ≡ map (scored uses) (map (document_of space) (coming space plan v 0))
  answers_scored plan =
      let rows = coming space plan v 0 in
      chosen_same (scored_by s) (λ r. scored uses (document_of space r)) (is_answer (plan_list space plan) v.gone 0) v.rows space shows.rows row_score
      ∙ sym (mapped_twice (scored uses) (document_of space) rows)
