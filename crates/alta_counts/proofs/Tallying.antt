-- How many ends of a list were not deleted, and the rows that end there.
use Rattle.std.proofs.Common.{◌≡◌, ⊎_elim, inl, ℕ, zero, suc, ◌+◌, ◌<◌, ◌≤◌, true, false, List, [], ◌∷◌, length, get_or, refl, sym, subst, ap, ◌∙◌, arith}
use Rattle.std.specs.Prelude.{Contains}
use Rattle.std.proofs.lemmas.Bool.{cases_lt}
use Rattle.std.proofs.lemmas.List.{get_or_default, length-map}
use Rattle.alta_codec.specs.declared.location.TheConstants.{TOP}
use Rattle.alta_codec.specs.Rising.{IsRising, first_from}
use Rattle.alta_codec.proofs.Places.{Contains-head, Contains-tail, not-Contains-nil, first_from-above, first_from-least}
use Rattle.alta_compile.specs.Space.{Placed, AreApart}
use Rattle.alta_compile.specs.Space as space
use Rattle.alta_machine.specs.Plans.{Tree}
use Rattle.alta_compile.specs.Listing.{plan_list}
use Rattle.alta_compile.proofs.Ends.{plan_ends}
use Rattle.alta_compile.proofs.Spaces.{Has, apart_one, end-is}
use Rattle.alta_compound.specs.Unions.{RisesAbove}
use Rattle.alta_docread.specs.Kept.{has, less}
use Rattle.alta_docread.specs.KeptLaws.{true_or_false, has-Contains, Contains-has, less-rises}
use Rattle.alta_lead.proofs.Counting.{live_same, live_dead, live_one, live_past}
use Rattle.alta_content.specs.Rows.{end_of, ends_of}
use Rattle.alta_content.specs.declared.document.DocRow.{DocRow}
use Rattle.alta_content.proofs.Levels.{rising_fits}
use Rattle.alta_counts.specs.Live.{count_live}
use Rattle.alta_search.specs.Answers.{answers_in}
use Rattle.alta_search.specs.Readers.{Each}
use Rattle.alta_search.specs.Told.{no_row}
use Rattle.alta_search.specs.View.{View, IsRowOf, Shows}
use Rattle.alta_search.specs.Walks.{PlanView, IsOnward}
use Rattle.alta_search.proofs.Counts.{below_or_from}
use Rattle.alta_search.proofs.Rows.{read_at, answers_from, answers_dead, answers_live, answers_past}
use Rattle.alta_search.proofs.Walking.{onward_more, goes_up}

-- ---- counts of ends that were not deleted

module _ (list gone : List ℕ) where
  live_next : (at next : ℕ) → at < TOP → next ≡ first_from list (at + 1) → count_live list gone next ≡ count_live list gone (at + 1)
  live_next at next below is =
      live_same list gone (at + 1) next (omega (arith, is, first_from-above list (at + 1) (omega (arith, below)))) (λ z m h. omega (arith, is, first_from-least list (at + 1) z m h))

  -- a step of the reader over a deleted end
  pub live_step : (at next : ℕ) → Contains gone at → at < TOP → next ≡ first_from list (at + 1) → count_live list gone next ≡ count_live list gone at
  live_step at next m below is = live_next at next below is ∙ live_dead list gone at m

  pub live_fits : (place : ℕ) → IsRising list → count_live list gone place < TOP
  live_fits place rising = omega (arith, below_or_from (less list gone) place, rising_fits (less list gone) (less-rises list gone rising))

-- ---- a walk that counts

-- The reader went past so many ends, and to none above the place.
pub record IsPassing (t u : PlanView) (to k before after : ℕ) : Type 0 where
  pub onward : IsOnward t u before after
  pub up : t.place ≤ u.place
  pub count : (gone : List ℕ) → ((z : ℕ) → Contains gone z → t.place ≤ z → to ≤ z) → k + count_live t.list gone u.place ≡ count_live t.list gone t.place

module _ (t u v : PlanView) (to k before between after : ℕ) (so_far : IsPassing t u to k before between) (on : IsOnward u v between after)
    (top : to ≤ TOP) (below : u.place < to) (is : v.place ≡ first_from u.list (u.place + 1)) where
  there : v.place ≡ first_from t.list (u.place + 1)
  there = is ∙ ap (λ l. first_from l (u.place + 1)) so_far.onward.list

  here : Contains t.list u.place
  here =
      ⊎_elim (λ m. subst (λ xs. Contains xs u.place) so_far.onward.list m) (λ end. absurd (omega (arith, end, below, top))) so_far.onward.stands.stands

  rising : IsRising t.list
  rising = subst IsRising so_far.onward.list so_far.onward.stands.rising

  pub passing_step : IsPassing t v to (k + 1) before after
  passing_step = record {
    onward = onward_more t u v before between after so_far.onward on;
    up = omega (arith, so_far.up, goes_up t.list u.place v.place (omega (arith, below, top)) there);
    count = λ gone free.
        omega (
          arith,
          so_far.count gone free,
          live_one t.list gone u.place rising here (λ m. omega (arith, free u.place m so_far.up, below)),
          live_next t.list gone u.place v.place (omega (arith, below, top)) there,
        );
  }

-- no more were passed than fit
pub passing_fits : (t u : PlanView) (to k before after : ℕ) → IsPassing t u to k before after → k < TOP
passing_fits t u to k before after p =
    omega (arith, p.count [] (λ z m h. absurd (not-Contains-nil z m)), live_fits t.list [] t.place (subst IsRising p.onward.list p.onward.stands.rising))

-- of the deleted ends from a place on this one is the first
pub first_gone : (gone : List ℕ) (at place : ℕ) → IsRising gone → at < length gone → ((i : ℕ) → i < at → get_or gone i 0 < place)
    → (z : ℕ) → Contains gone z → place ≤ z → get_or gone at 0 ≤ z
first_gone gone at place rising inside passed z (k, l, e) from =
    let there : get_or gone k 0 ≡ z = sym (get_or_default gone k z 0 l) ∙ e in
    ⊎_elim (λ before. omega (arith, passed k before, there, from))
    (λ le. ⊎_elim (λ behind. omega (arith, rising.rising at k behind l, there))
    (λ ge. let same : k ≡ at = omega arith in subst (λ i. get_or gone i 0 ≤ z) same (omega (arith, there)))
    (cases_lt at k)) (cases_lt k at)

-- The reader has so many ends behind it that were not deleted, and of the deleted ones so many.
pub record IsTallying (t u : PlanView) (gone : List ℕ) (k at before after : ℕ) : Type 0 where
  pub onward : IsOnward t u before after
  pub count : k + count_live t.list gone u.place ≡ count_live t.list gone t.place
  pub within : at ≤ length gone
  pub passed : (i : ℕ) → i < at → get_or gone i 0 < u.place

module _ (t u : PlanView) (gone : List ℕ) (k at before between : ℕ) (so_far : IsTallying t u gone k at before between) where
  -- no more are counted than fit
  pub tally_fits : (more left : ℕ) → IsRising t.list → more + left ≡ count_live u.list gone u.place → k + more < TOP
  tally_fits more left rising counted =
      omega (arith, so_far.count, counted, ap (λ l. count_live l gone u.place) so_far.onward.list, live_fits t.list gone t.place rising)

  -- all deleted ends are passed, and then all ends
  pub tally_end : (v : PlanView) (more after : ℕ) → length gone ≤ at → IsOnward u v between after → TOP ≤ v.place
      → (((z : ℕ) → Contains gone z → u.place ≤ z → TOP ≤ z) → more + count_live u.list gone v.place ≡ count_live u.list gone u.place)
      → k + more ≡ count_live t.list gone t.place
  tally_end v more after all on past counted =
      omega (
        arith,
        so_far.count,
        counted (λ z (i, l, e) h. omega (arith, so_far.passed i (omega (arith, l, all)), get_or_default gone i z 0 l, e, h)),
        live_past u.list gone v.place so_far.onward.stands.rising past,
        ap (λ l. count_live l gone u.place) so_far.onward.list,
      )

-- ---- the rows that end there

-- where a document ends, a row ends
row_ends : (rows : List DocRow) (ds : List Placed) (d : Placed) → Each IsRowOf rows ds → Has ds d → Contains (ends_of rows) (space.end_of d)
row_ends [] [] d e h = absurd h
row_ends [] (f ∷ ds) d e h = absurd e
row_ends (r ∷ rows) [] d e h = absurd e
row_ends (r ∷ rows) (f ∷ ds) d ((a, b), e) h =
    ⊎_elim
    (λ same. let at : end_of r ≡ space.end_of f = omega (arith, a, b) in
    subst (λ x. Contains (ends_of (r ∷ rows)) x) (at ∙ ap space.end_of same) (Contains-head (end_of r) (ends_of rows)))
    (λ n. Contains-tail (end_of r) (ends_of rows) (space.end_of d) (row_ends rows ds d e n)) h

-- the rows of a space rise
rows_rise : (rows : List DocRow) (ds : List Placed) (low under : ℕ) → Each IsRowOf rows ds → AreApart low ds → under < low → RisesAbove under (ends_of rows)
rows_rise [] [] low under e h l = tt
rows_rise [] (f ∷ ds) low under e h l = absurd e
rows_rise (r ∷ rows) [] low under e h l = absurd e
rows_rise (r ∷ rows) (f ∷ ds) low under ((a, b), e) (p, q, h) l =
    let top = (apart_one (f ∷ ds) low f (p, q, h) (inl refl)).2 in
    let at : end_of r + 1 ≡ space.past f = omega (arith, a, b, q) in
    (omega (arith, at, l, p, q), omega (arith, at, top), rows_rise rows ds (space.past f) (end_of r) e h (omega (arith, at)))

-- Each end of the list is that of a row, so there are as many answers as ends that were not deleted.
module _ (list gone : List ℕ) (rows : List DocRow) (rising : IsRising list) (rise : RisesAbove 0 (ends_of rows)) (ends : (z : ℕ) → Contains list z → Contains (ends_of rows) z) where
  abbrev AsMany : ℕ → Type 0
  AsMany at = length (answers_in list gone at rows) ≡ count_live list gone at

  gone_here : (at : ℕ) → Contains gone at → AsMany (at + 1) → AsMany at
  gone_here at m rest = ap length (sym (answers_dead list gone at rows (λ n _. n m))) ∙ rest ∙ live_dead list gone at m

  none_here : (at : ℕ) → (Contains list at → ⊥) → AsMany (at + 1) → AsMany at
  none_here at none rest =
      let gap : (z : ℕ) → Contains list z → at ≤ z → at + 1 ≤ z =
      λ z m h. ⊎_elim (λ l. omega (arith, l)) (λ le. let e : z ≡ at = omega arith in absurd (none (subst (Contains list) e m))) (cases_lt at z) in
      ap length (sym (answers_from list gone at (at + 1) rows (omega arith) gap)) ∙ rest ∙ live_same list gone at (at + 1) (omega arith) gap

  one_here : (at : ℕ) → Contains list at → (Contains gone at → ⊥) → AsMany (at + 1) → AsMany at
  one_here at m live rest =
      let (i, l, e) = ends at m in
      let inside : i < length rows = omega (arith, l, length-map rows end_of) in
      let there : end_of (get_or rows i no_row) ≡ at = omega (arith, read_at end_of rows i no_row inside, get_or_default (ends_of rows) i at 0 l, e) in
      let one : length (answers_in list gone at rows) ≡ suc (length (answers_in list gone (at + 1) rows)) = ap length (answers_live list gone at 0 rows i no_row rise inside there m live) in
      omega (arith, one, rest, live_one list gone at rising m live)

  as_many : (n at : ℕ) → TOP ≤ n + at → AsMany at
  as_many zero at past =
      let over : TOP ≤ at = omega (arith, past) in ap length (answers_past list gone at rows rising over) ∙ sym (live_past list gone at rising over)
  as_many (suc n) at past =
      let rest : AsMany (at + 1) = as_many n (at + 1) (omega (arith, past)) in
      ⊎_elim
      (λ dead. gone_here at (has-Contains gone at dead) rest)
      (λ live. ⊎_elim
      (λ yes. one_here at (has-Contains list at yes) (λ m. let c : true ≡ false = sym (Contains-has gone at m) ∙ live in absurd cc) rest)
      (λ no. none_here at (λ m. let c : true ≡ false = sym (Contains-has list at m) ∙ no in absurd cc) rest)
      (true_or_false (has list at)))
      (true_or_false (has gone at))

  pub as_many_rows : length (answers_in list gone 0 rows) ≡ count_live list gone 0
  as_many_rows = as_many TOP 0 (omega arith)

-- the answers of a plan are the ends of its list that were not deleted
pub plan_live : (ds : List Placed) (p : Tree) (s : View) → Shows ds s → IsRising (plan_list ds p)
    → length (answers_in (plan_list ds p) s.gone 0 s.rows) ≡ count_live (plan_list ds p) s.gone 0
plan_live ds p s shows rising =
    as_many_rows (plan_list ds p) s.gone s.rows rising (rows_rise s.rows ds 1 0 shows.rows shows.lawful.apart (omega arith))
    (λ z m. let (d, n, e) = end-is ds shows.lawful z (plan_ends ds shows.lawful p z m) in
    subst (Contains (ends_of s.rows)) (sym e) (row_ends s.rows ds d shows.rows n))
