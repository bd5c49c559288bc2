-- Walks over the lists of several levels, a level at a time.
use Rattle.std.proofs.Common.{◌≡◌, ◌⊎◌, ⊎_elim, inl, inr, Bool, cond, ℕ, ◌+◌, ◌*◌, ◌<◌, ◌≤◌, List, [], ◌∷◌, ◌++◌, map, length, get_or, refl, sym, subst, ap, ◌∙◌, arith}
use Rattle.std.specs.Prelude.{All, Contains, Option, sum_by}
use Rattle.std.specs.List.{concat, filter}
use Rattle.std.proofs.lemmas.List.{length-map}
use Rattle.std.proofs.lemmas.List.Elements.{All-nil, All-cons, All-head, All-tail}
use Rattle.std.proofs.lemmas.List.Sums.{sum_by-append, sum_by-cons}
use Rattle.alta_codec.specs.declared.location.TheConstants.{TOP}
use Rattle.alta_codec.specs.Rising.{IsRising, first_from, pred_of}
use Rattle.alta_codec.proofs.Places.{first_from-least, pred_of-below}
use Rattle.alta_docread.specs.KeptLaws.{true_or_false}
use Rattle.alta_lead.specs.Having.{ends_having}
use Rattle.alta_lead.proofs.Counting.{live_same}
use Rattle.alta_counts.specs.Live.{count_live}
use Rattle.alta_counts.specs.ByLevel.{IsCleft, AreWindowSteps}
use Rattle.alta_search.specs.Leads.{readers_of, IsLedFrom}
use Rattle.alta_search.specs.Readers.{Each, IsAtStart}
use Rattle.alta_search.specs.Walks.{PlanView}
use Rattle.alta_search.specs.Words.{single_list, single_place, single_left}
use Rattle.alta_search.specs.declared.single_reader.SingleReader.{SingleReader}
use Rattle.alta_counts.proofs.Cutting.{cleft_start, cleft_top, last_in_whole}
use Rattle.alta_counts.proofs.Levels.{whole, read, window_more, no_window_steps, counts_start, counts_end, counts_fit}

pub filter_all : {X : Type 0} (P : X → Type 0) (p : X → Bool) (xs : List X) → All P xs → All P (filter p xs)
filter_all P p [] h = All-nil P
filter_all P p (x ∷ xs) h =
    let rest = filter_all P p xs (All-tail P x xs h) in
    ⊎_elim
    (λ yes. subst (λ b. All P (cond b (x ∷ filter p xs) (filter p xs))) (sym yes) (All-cons P x (filter p xs) (All-head P x xs h) rest))
    (λ no. subst (λ b. All P (cond b (x ∷ filter p xs) (filter p xs))) (sym no) rest)
    (true_or_false (p x))

-- ---- readers that were not moved

module _ (lists : ℕ → List (List ℕ)) where
  abbrev pub Starts : ℕ → SingleReader → Type 0
  Starts u r = IsAtStart single_list single_list single_place single_left (concat (lists u)) r

  pub starts_lists : (us : List ℕ) (rs : List SingleReader) → Each Starts us rs → map single_list rs ≡ map (λ u. concat (lists u)) us
  starts_lists [] [] e = refl
  starts_lists [] (r ∷ rs) e = absurd e
  starts_lists (u ∷ us) [] e = absurd e
  starts_lists (u ∷ us) (r ∷ rs) (h, e) = ap (λ l. l ∷ map single_list rs) h.reads ∙ ap (λ ls. concat (lists u) ∷ ls) (starts_lists us rs e)

  pub starts_sized : (us : List ℕ) (rs : List SingleReader) → Each Starts us rs → length rs ≡ length us
  starts_sized us rs e = sym (length-map rs single_list) ∙ ap length (starts_lists us rs e) ∙ length-map us (λ u. concat (lists u))

  pub starts_unmoved : (us : List ℕ) (rs : List SingleReader) → Each Starts us rs → All (λ r. single_place r ≡ first_from (single_list r) 0) rs
  starts_unmoved [] [] e = All-nil (λ r. single_place r ≡ first_from (single_list r) 0)
  starts_unmoved [] (r ∷ rs) e = absurd e
  starts_unmoved (u ∷ us) [] e = absurd e
  starts_unmoved (u ∷ us) (r ∷ rs) (h, e) =
      All-cons (λ r. single_place r ≡ first_from (single_list r) 0) r rs (h.unmoved ∙ ap (λ l. first_from l 0) (sym h.reads)) (starts_unmoved us rs e)

  pub starts_left : (us : List ℕ) (rs : List SingleReader) → Each Starts us rs → sum_by single_left rs ≡ sum_by (λ u. length (concat (lists u))) us
  starts_left [] [] e = refl
  starts_left [] (r ∷ rs) e = absurd e
  starts_left (u ∷ us) [] e = absurd e
  starts_left (u ∷ us) (r ∷ rs) (h, e) = omega (arith, sum_by-cons single_left r rs, sum_by-cons (λ u. length (concat (lists u))) u us, h.rest, starts_left us rs e)

  ones : (xs : List (List ℕ)) → sum_by (λ (l : List ℕ). 1) xs ≡ length xs
  ones [] = refl
  ones (x ∷ xs) = omega (arith, ones xs, sum_by-cons (λ (l : List ℕ). 1) x xs)

  pub sum_three : (g : ℕ → ℕ) (ends : ℕ) (words negated : List ℕ) → sum_by g (ends ∷ words ++ negated) ≡ g ends + sum_by g words + sum_by g negated
  sum_three g ends words negated = omega (arith, sum_by-append g (ends ∷ words) negated, sum_by-cons g ends words)

  pub sum_two : (us : List ℕ) → sum_by (λ u. length (lists u) + length (concat (lists u))) us ≡ sum_by (λ u. length (lists u)) us + sum_by (λ u. length (concat (lists u))) us
  sum_two [] = refl
  sum_two (u ∷ us) =
      omega (
        arith,
        sum_by-cons (λ u. length (lists u)) u us,
        sum_by-cons (λ u. length (concat (lists u))) u us,
        sum_by-cons (λ u. length (lists u) + length (concat (lists u))) u us,
        sum_two us,
      )

  module _ (ends : ℕ) (words negated : List ℕ) (e : SingleReader) (ws ns : List SingleReader) (lead : ℕ) (new : PlanView) (before made after last : ℕ)
      (start : Starts ends e) (start_words : Each Starts words ws) (start_negated : Each Starts negated ns) (is : IsLedFrom e ws ns lead new 0 made after)
      (spent : made ≡ before + length (lists ends) + sum_by (λ u. length (lists u)) words + sum_by (λ u. length (lists u)) negated) where
    list_is : new.list ≡ ends_having (concat (lists ends)) (map (λ u. concat (lists u)) words) (map (λ u. concat (lists u)) negated)
    list_is =
        is.list ∙ ap (λ l. ends_having l (map single_list ws) (map single_list ns)) start.reads
        ∙ ap (λ ls. ends_having (concat (lists ends)) ls (map single_list ns)) (starts_lists words ws start_words)
        ∙ ap (ends_having (concat (lists ends)) (map (λ u. concat (lists u)) words)) (starts_lists negated ns start_negated)

    pub walk_count : (gone : List ℕ) (n : ℕ) → n ≡ count_live new.list gone new.place
        → n ≡ count_live (ends_having (concat (lists ends)) (map (λ u. concat (lists u)) words) (map (λ u. concat (lists u)) negated)) gone 0
    walk_count gone n h =
        h ∙ live_same new.list gone 0 new.place (omega arith) (λ z m l. omega (arith, is.place, first_from-least new.list 0 z m l)) ∙ ap (λ l. count_live l gone 0) list_is

    pub walk_steps : last ≤ after + new.left → last ≤ before + sum_by (λ u. length (lists u) + length (concat (lists u))) (ends ∷ words ++ negated)
    walk_steps h =
        omega (
          arith,
          h,
          is.steps,
          spent,
          start.rest,
          starts_left words ws start_words,
          starts_left negated ns start_negated,
          sum_two (ends ∷ words ++ negated),
          sum_three (λ u. length (lists u)) ends words negated,
          sum_three (λ u. length (concat (lists u))) ends words negated,
        )

    pub walk_moves : lead < length words → last ≤ after + new.moves
        → last ≤ before + sum_by (λ u. length (lists u)) (ends ∷ words ++ negated) + (2 * length (concat (lists (get_or words lead 0))) + 2) * (1 + length words + length negated)
    walk_moves within h =
        let m = length (get_or (map single_list ws) lead []) in let n = length (concat (lists (get_or words lead 0))) in
        let r = readers_of (map single_list ws) (map single_list ns) in let k = 1 + length words + length negated in
        let same : m ≡ n = ap (λ ls. length (get_or ls lead [])) (starts_lists words ws start_words) ∙ ap length (read (λ u. concat (lists u)) words lead within) in
        let as_many : r ≡ k = omega (
          arith,
          ones (map single_list ws),
          ones (map single_list ns),
          length-map ws single_list,
          length-map ns single_list,
          starts_sized words ws start_words,
          starts_sized negated ns start_negated,
        ) in
        let product : (2 * m + 2) * r ≡ (2 * n + 2) * k = ap (λ x. (2 * x + 2) * r) same ∙ ap (λ x. (2 * n + 2) * x) as_many in
        omega (arith, h, is.moves, product, spent, sum_three (λ u. length (lists u)) ends words negated)

  -- ---- the levels one after the other

  module _ (ends : ℕ) (words negated : List ℕ) (leading : Option ℕ) (found gone : List ℕ) where
    abbrev pub all : List ℕ
    all = ends ∷ words ++ negated

    abbrev pub left : ℕ → ℕ
    left place = count_live found gone place

    -- so many were counted up to a place, at which no list goes over
    pub record IsCounting (live low before after : ℕ) : Type 0 where
      pub count : live + left (low + 1) ≡ left (0 + 1)
      pub starts : (low ≡ 0) ⊎ Contains (whole lists ends) low
      pub cleft : All (λ u. IsCleft low (lists u)) all
      pub under : low ≤ TOP
      pub steps : AreWindowSteps lists all leading 0 low before after

    each_starts : (us : List ℕ) → All (λ u. IsRising (concat (lists u))) us → All (λ u. IsCleft 0 (lists u)) us
    each_starts [] r = All-nil (λ u. IsCleft 0 (lists u))
    each_starts (u ∷ us) r =
        All-cons (λ u. IsCleft 0 (lists u)) u us (cleft_start (lists u) (All-head (λ u. IsRising (concat (lists u))) u us r)) (each_starts us (All-tail (λ u. IsRising (concat (lists u))) u us r))

    pub each_ends : (us : List ℕ) → All (λ u. IsRising (concat (lists u))) us → All (λ u. IsCleft TOP (lists u)) us
    each_ends [] r = All-nil (λ u. IsCleft TOP (lists u))
    each_ends (u ∷ us) r =
        All-cons (λ u. IsCleft TOP (lists u)) u us (cleft_top (lists u) (All-head (λ u. IsRising (concat (lists u))) u us r)) (each_ends us (All-tail (λ u. IsRising (concat (lists u))) u us r))

    module _ (rises : All (λ u. IsRising (concat (lists u))) all) (found_rises : IsRising found) (before : ℕ) where
      pub counting_start : IsCounting 0 0 before before
      counting_start = record {
        count = omega arith;
        starts = inl refl;
        cleft = each_starts all rises;
        under = omega arith;
        steps = no_window_steps lists 0 0 (omega arith) all leading before;
      }

      module _ (live low mid : ℕ) (so_far : IsCounting live low before mid) where
        pub counting_more : (at high more after : ℕ) → at < length (lists ends) → high ≡ pred_of (get_or (lists ends) at []) TOP → low < high
            → All (λ u. IsCleft high (lists u)) all → more + left (high + 1) ≡ left (low + 1) → AreWindowSteps lists all leading low high mid after → IsCounting (live + more) high before after
        counting_more at high more after within is up cleft count steps = record {
          count = omega (arith, so_far.count, count);
          starts = inr (subst (Contains (whole lists ends)) (sym is) (last_in_whole (lists ends) at within (omega (arith, is, up))));
          cleft = cleft;
          under = omega (arith, is, pred_of-below (get_or (lists ends) at []) TOP (omega arith));
          steps = window_more lists all leading 0 low high before mid after so_far.steps steps;
        }

        pub counting_end : (more after : ℕ) → more + left (TOP + 1) ≡ left (low + 1) → live + more ≡ left 0
        counting_end more after count =
            omega (arith, so_far.count, count, counts_end found found_rises gone, counts_start found found_rises gone)

        pub counting_fits : (high more : ℕ) → more + left (high + 1) ≡ left (low + 1) → live + more ≤ TOP
        counting_fits high more count = omega (arith, so_far.count, count, counts_fit found found_rises gone (0 + 1))

        -- the steps of a walk that goes up to a place, whatever is left
        pub counting_steps : (high after : ℕ) → high ≤ TOP → AreWindowSteps lists all leading low high mid after → AreWindowSteps lists all leading 0 TOP before after
        counting_steps high after top steps =
            window_more lists all leading 0 high TOP before after after (window_more lists all leading 0 low high before mid after so_far.steps steps) (no_window_steps lists high TOP top all leading after)
