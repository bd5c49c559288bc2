-- A conjunction over the lists of several levels, cut at places where a level ends.
use Rattle.std.proofs.Common.{◌≡◌, ◌⊎◌, ⊎_elim, ℕ, zero, suc, ◌+◌, ◌*◌, ◌<◌, ◌≤◌, Bool, true, false, List, [], ◌∷◌, ◌++◌, map, length, get_or, take, refl, sym, subst, ap, ◌∙◌, arith}
use Rattle.std.specs.Prelude.{Contains, All, Option, Some, None, sum_by, nat_lt, cond}
use Rattle.std.specs.List.{concat, filter}
use Rattle.std.proofs.lemmas.Bool.{ltb-true, lt-ltb}
use Rattle.std.proofs.lemmas.List.{length-map}
use Rattle.std.proofs.lemmas.List.Elements.{All-nil, All-cons, All-head, All-tail}
use Rattle.std.proofs.lemmas.List.Sums.{sum_by-append, sum_by-cons}
use Rattle.std.proofs.lemmas.Nat.{mul-le}
use Rattle.std.proofs.Math.Nat.{mul_comm, add-mul}
use Rattle.alta_codec.specs.declared.location.TheConstants.{TOP}
use Rattle.alta_codec.specs.Rising.{IsRising, pred_of, count_from}
use Rattle.alta_codec.proofs.Places.{Contains-head, not-Contains-nil}
use Rattle.alta_docread.specs.Kept.{less}
use Rattle.alta_docread.specs.KeptLaws.{true_or_false}
use Rattle.alta_lead.specs.Having.{HasWithin, ends_having}
use Rattle.alta_lead.specs.HavingLaws.{element_within, having-rises, having-answers}
use Rattle.alta_lead.proofs.Counting.{live_past, live_same, live_fits}
use Rattle.alta_counts.specs.ByLevel.{window, cut_at, between, IsCleft, passed_lists, passed_size, AreWindowSteps}
use Rattle.alta_counts.proofs.Windows.{same_rising, live_window, having_window}
use Rattle.alta_counts.proofs.Cutting.{between_lists, between_size, between_less, between_rises, between_window}

abbrev live : List ℕ → List ℕ → ℕ → ℕ
live list gone from = count_from (less list gone) from

-- ---- what a test keeps

filter_out : {X Y : Type 0} (P : Y → Type 0) (f : X → Y) (p : X → Bool) (xs : List X) → All P (map f xs) → All P (map f (filter p xs))
filter_out P f p [] h = All-nil P
filter_out P f p (x ∷ xs) h =
    let rest = filter_out P f p xs (All-tail P (f x) (map f xs) h) in
    ⊎_elim
    (λ yes. subst (λ b. All P (map f (cond b (x ∷ filter p xs) (filter p xs)))) (sym yes) (All-cons P (f x) (map f (filter p xs)) (All-head P (f x) (map f xs) h) rest))
    (λ no. subst (λ b. All P (map f (cond b (x ∷ filter p xs) (filter p xs)))) (sym no) rest)
    (true_or_false (p x))

filter_into : {X Y : Type 0} (P : Y → Type 0) (f : X → Y) (p : X → Bool) (xs : List X) → ((x : X) → p x ≡ false → P (f x)) → All P (map f (filter p xs)) → All P (map f xs)
filter_into P f p [] other h = All-nil P
filter_into P f p (x ∷ xs) other h =
    ⊎_elim
    (λ yes. let g : All P (f x ∷ map f (filter p xs)) = subst (λ b. All P (map f (cond b (x ∷ filter p xs) (filter p xs)))) yes h in
    All-cons P (f x) (map f xs) (All-head P (f x) (map f (filter p xs)) g) (filter_into P f p xs other (All-tail P (f x) (map f (filter p xs)) g)))
    (λ no. All-cons P (f x) (map f xs) (other x no) (filter_into P f p xs other (subst (λ b. All P (map f (cond b (x ∷ filter p xs) (filter p xs)))) no h)))
    (true_or_false (p x))

filter_sum : {X : Type 0} (f : X → ℕ) (p : X → Bool) (xs : List X) → sum_by f (filter p xs) ≤ sum_by f xs
filter_sum f p [] = omega arith
filter_sum f p (x ∷ xs) =
    ⊎_elim
    (λ yes. omega (arith, ap (λ b. sum_by f (cond b (x ∷ filter p xs) (filter p xs))) yes, sum_by-cons f x (filter p xs), sum_by-cons f x xs, filter_sum f p xs))
    (λ no. omega (arith, ap (λ b. sum_by f (cond b (x ∷ filter p xs) (filter p xs))) no, sum_by-cons f x xs, filter_sum f p xs))
    (true_or_false (p x))

-- there are at most as many as their sum, where each is positive
sized : {X : Type 0} (f : X → ℕ) (xs : List X) → All (λ x. 0 < f x) xs → length xs ≤ sum_by f xs
sized f [] h = omega arith
sized f (x ∷ xs) h = omega (arith, sum_by-cons f x xs, All-head (λ x. 0 < f x) x xs h, sized f xs (All-tail (λ x. 0 < f x) x xs h))

filter_sized : {X : Type 0} (f : X → ℕ) (xs : List X) → length (filter (λ x. nat_lt 0 (f x)) xs) ≤ sum_by f (filter (λ x. nat_lt 0 (f x)) xs)
filter_sized f [] = omega arith
filter_sized f (x ∷ xs) =
    let p : _ → Bool = λ x. nat_lt 0 (f x) in
    ⊎_elim
    (λ yes. omega (
      arith,
      ap (λ b. length (cond b (x ∷ filter p xs) (filter p xs))) yes,
      ap (λ b. sum_by f (cond b (x ∷ filter p xs) (filter p xs))) yes,
      sum_by-cons f x (filter p xs),
      ltb-true 0 (f x) yes,
      filter_sized f xs,
    ))
    (λ no. omega (
      arith,
      ap (λ b. length (cond b (x ∷ filter p xs) (filter p xs))) no,
      ap (λ b. sum_by f (cond b (x ∷ filter p xs) (filter p xs))) no,
      filter_sized f xs,
    ))
    (true_or_false (p x))

no_length : {X : Type 0} (xs : List X) → nat_lt 0 (length xs) ≡ false → xs ≡ []
no_length [] h = refl
no_length (x ∷ xs) h = let c : true ≡ false = sym (lt-ltb 0 (length (x ∷ xs)) (omega arith)) ∙ h in absurd cc

-- ---- where there is nothing to find

no_element : (xs : List ℕ) → ((z : ℕ) → Contains xs z → ⊥) → xs ≡ []
no_element [] h = refl
no_element (x ∷ xs) h = absurd (h x (Contains-head x xs))

no_ends : (ws ns : List (List ℕ)) → ends_having [] ws ns ≡ []
unfolding ends_having
no_ends ws ns = refl

no_word : (ends : List ℕ) (ws ns : List (List ℕ)) (k : ℕ) → IsRising ends → k < length ws → get_or ws k [] ≡ [] → ends_having ends ws ns ≡ []
no_word ends ws ns k rises l none =
    no_element (ends_having ends ws ns)
    (λ z m. let (x, h, a, b) = ((having-answers ends ws ns z rises).0 m).each k [] l in not-Contains-nil x (subst (λ xs. Contains xs x) none h))

none_live : (gone : List ℕ) → live [] gone 0 ≡ 0
unfolding count_from
none_live gone = refl

front : {X : Type 0} (P : X → Type 0) (xs ys : List X) → All P (xs ++ ys) → All P xs
front P [] ys h = All-nil P
front P (x ∷ xs) ys h = All-cons P x xs (All-head P x (xs ++ ys) h) (front P xs ys (All-tail P x (xs ++ ys) h))

back : {X : Type 0} (P : X → Type 0) (xs ys : List X) → All P (xs ++ ys) → All P ys
back P [] ys h = h
back P (x ∷ xs) ys h = back P xs ys (All-tail P x (xs ++ ys) h)

pub read : (f : ℕ → List ℕ) (xs : List ℕ) (k : ℕ) → k < length xs → get_or (map f xs) k [] ≡ f (get_or xs k 0)
read f [] k l = absurd (omega (arith, l))
read f (x ∷ xs) zero l = refl
read f (x ∷ xs) (suc k) l = read f xs k (omega (arith, l))

times : (a b k : ℕ) → a ≤ b → a * k ≤ b * k
times a b k h = mul-le a k b k h (omega arith)

module _ (lists : ℕ → List (List ℕ)) where
  abbrev pub whole : ℕ → List ℕ
  whole u = concat (lists u)

  abbrev pub having : ℕ → List ℕ → List ℕ → List ℕ
  having ends words negated = ends_having (whole ends) (map whole words) (map whole negated)

  module _ (low high : ℕ) (le : low ≤ high) where
    abbrev part : ℕ → List ℕ
    part u = concat (between low high (lists u))

    abbrev many : ℕ → ℕ
    many u = length (between low high (lists u))

    abbrev has : ℕ → Bool
    has u = nat_lt 0 (many u)

    pub parts_are : (uses : List ℕ) → All (λ u. IsRising (whole u)) uses → All (λ u. IsCleft low (lists u)) uses → All (λ u. IsCleft high (lists u)) uses
        → map part uses ≡ map (window low high) (map whole uses)
    parts_are [] r f t = refl
    parts_are (u ∷ us) r f t =
        ap (λ l. l ∷ map part us)
        (between_window low high (lists u) le (All-head (λ u. IsRising (whole u)) u us r) (All-head (λ u. IsCleft low (lists u)) u us f) (All-head (λ u. IsCleft high (lists u)) u us t))
        ∙ ap (λ ls. window low high (whole u) ∷ ls)
        (parts_are us (All-tail (λ u. IsRising (whole u)) u us r) (All-tail (λ u. IsCleft low (lists u)) u us f) (All-tail (λ u. IsCleft high (lists u)) u us t))

    -- a negated word that has no list there bars nothing
    kept : (ends : List ℕ) (words : List (List ℕ)) (negated : List ℕ) → IsRising ends → ends_having ends words (map part (filter has negated)) ≡ ends_having ends words (map part negated)
    kept ends words negated rises =
        let fewer = having-answers ends words (map part (filter has negated)) in let more = having-answers ends words (map part negated) in
        same_rising (ends_having ends words (map part (filter has negated))) (ends_having ends words (map part negated))
        (having-rises ends words (map part (filter has negated)) rises) (having-rises ends words (map part negated) rises)
        (λ z m. let a = (fewer z rises).0 m in
        (more z rises).1 (record {
          is_end = a.is_end;
          each = a.each;
          none = filter_into (λ w. HasWithin (pred_of ends z) z w → ⊥) part has negated
              (λ u no (x, n, l, h). not-Contains-nil x (subst (λ ls. Contains (concat ls) x) (no_length (between low high (lists u)) no) n)) a.none;
        }))
        (λ z m. let a = (more z rises).0 m in
        (fewer z rises).1 (record { is_end = a.is_end; each = a.each; none = filter_out (λ w. HasWithin (pred_of ends z) z w → ⊥) part has negated a.none }))

    sum_lists : (uses : List ℕ) → sum_by many uses + passed_lists lists uses low ≡ passed_lists lists uses high
    sum_lists [] = refl
    sum_lists (u ∷ us) =
        omega (arith, sum_by-cons many u us, sum_by-cons (λ u. cut_at low (lists u)) u us, sum_by-cons (λ u. cut_at high (lists u)) u us, between_lists low high (lists u) le, sum_lists us)

    sum_size : (uses : List ℕ) → sum_by (λ u. length (part u)) uses + passed_size lists uses low ≡ passed_size lists uses high
    sum_size [] = refl
    sum_size (u ∷ us) =
        omega (
          arith,
          sum_by-cons (λ u. length (part u)) u us,
          sum_by-cons (λ u. length (concat (take (cut_at low (lists u)) (lists u)))) u us,
          sum_by-cons (λ u. length (concat (take (cut_at high (lists u)) (lists u)))) u us,
          between_size low high (lists u) le,
          sum_size us,
        )

    pub sum_both : (uses : List ℕ) → sum_by (λ u. many u + length (part u)) uses ≡ sum_by many uses + sum_by (λ u. length (part u)) uses
    sum_both [] = refl
    sum_both (u ∷ us) =
        omega (arith, sum_by-cons many u us, sum_by-cons (λ u. length (part u)) u us, sum_by-cons (λ u. many u + length (part u)) u us, sum_both us)

    -- no step was made
    pub no_window_steps : (uses : List ℕ) (leading : Option ℕ) (before : ℕ) → AreWindowSteps lists uses leading low high before before
    no_window_steps uses leading before =
        let more : passed_lists lists uses low ≤ passed_lists lists uses high = omega (arith, sum_lists uses) in
        record { steps = omega (arith, more, sum_size uses); moves = λ n is. omega (arith, times (passed_lists lists uses low) (passed_lists lists uses high) (2 * n + 4) more) }

    -- a step a list and one a location
    pub walked_steps : (uses : List ℕ) (before after : ℕ) → after ≤ before + sum_by (λ u. many u + length (part u)) uses → AreWindowSteps lists uses None low high before after
    walked_steps uses before after h = record { steps = omega (arith, h, sum_both uses, sum_lists uses, sum_size uses); moves = λ n is. absurd cc }

    module _ (ends : ℕ) (words negated : List ℕ) where
      abbrev all : List ℕ
      all = ends ∷ words ++ negated

      abbrev there : List ℕ
      there = ends ∷ words ++ filter has negated

      fewer : (f : ℕ → ℕ) → sum_by f there ≤ sum_by f all
      fewer f =
          omega (arith, sum_by-append f (ends ∷ words) negated, sum_by-append f (ends ∷ words) (filter has negated), filter_sum f has negated)

      -- the steps of a walk over the lists there
      pub window_steps : (lead before after : ℕ) → 0 < many ends → All (λ u. 0 < many u) words → lead < length words
          → after ≤ before + sum_by (λ u. many u + length (part u)) there
          → after ≤ before + sum_by many there + (2 * length (part (get_or words lead 0)) + 2) * (1 + length words + length (filter has negated))
          → AreWindowSteps lists all (Some (length (whole (get_or words lead 0)))) low high before after
      window_steps lead before after some each within by_left by_moves =
          let n = length (whole (get_or words lead 0)) in let m = length (part (get_or words lead 0)) in let l = sum_by many all in let r = 1 + length words + length (filter has negated) in
          let enough : r ≤ sum_by many there =
          omega (arith, sum_by-append many (ends ∷ words) (filter has negated), sum_by-cons many ends words, some, sized many words each, filter_sized many negated) in
          let fit : sum_by many there ≤ l = fewer many in
          let shorter : m ≤ n = between_less low high (lists (get_or words lead 0)) le in
          let most : (2 * m + 2) * r ≤ (2 * n + 2) * l = mul-le (2 * m + 2) r (2 * n + 2) l (omega (arith, shorter)) (omega (arith, enough, fit)) in
          let two : (2 * n + 2 + 2) * l ≡ (2 * n + 2) * l + 2 * l = add-mul (2 * n + 2) 2 l in
          let four : (2 * n + 2 + 2) * l ≡ l * (2 * n + 4) = ap (λ k. k * l) (omega arith) ∙ mul_comm (2 * n + 4) l in
          let split : (l + passed_lists lists all low) * (2 * n + 4) ≡ l * (2 * n + 4) + passed_lists lists all low * (2 * n + 4) = add-mul l (passed_lists lists all low) (2 * n + 4) in
          record {
            steps = omega (arith, by_left, sum_both there, fewer many, fewer (λ u. length (part u)), sum_lists all, sum_size all);
            moves = λ m is. let same : n ≡ m = cc in
                subst (λ (k : ℕ). after + passed_lists lists all low * (2 * k + 4) ≤ before + passed_lists lists all high * (2 * k + 4)) same
                (omega (arith, by_moves, fit, most, two, four, split, ap (λ k. k * (2 * n + 4)) (sum_lists all)));
          }

      module _ (rises : All (λ u. IsRising (whole u)) all) (from : All (λ u. IsCleft low (lists u)) all) (until : All (λ u. IsCleft high (lists u)) all)
          (starts : (low ≡ 0) ⊎ Contains (whole ends) low) (gone : List ℕ) where
        parts_of : (P : ℕ → Type 0) → All P all → P ends × All P words × All P negated
        parts_of P h = (All-head P ends (words ++ negated) h, front P words negated (All-tail P ends (words ++ negated) h), back P words negated (All-tail P ends (words ++ negated) h))

        ends_rise : IsRising (whole ends)
        ends_rise = (parts_of (λ u. IsRising (whole u)) rises).0

        whole_rises : IsRising (having ends words negated)
        whole_rises = having-rises (whole ends) (map whole words) (map whole negated) ends_rise

        found_is : ends_having (part ends) (map part words) (map part negated) ≡ window low high (having ends words negated)
        found_is =
            let r = parts_of (λ u. IsRising (whole u)) rises in let f = parts_of (λ u. IsCleft low (lists u)) from in let t = parts_of (λ u. IsCleft high (lists u)) until in
            ap (λ l. ends_having l (map part words) (map part negated)) (between_window low high (lists ends) le r.0 f.0 t.0)
            ∙ ap (λ ls. ends_having (window low high (whole ends)) ls (map part negated)) (parts_are words r.1 f.1 t.1)
            ∙ ap (ends_having (window low high (whole ends)) (map (window low high) (map whole words))) (parts_are negated r.2 f.2 t.2)
            ∙ having_window (whole ends) (map whole words) (map whole negated) low high ends_rise starts

        found_live : live (ends_having (part ends) (map part words) (map part negated)) gone 0 + live (having ends words negated) gone (high + 1) ≡ live (having ends words negated) gone (low + 1)
        found_live = ap (λ l. live l gone 0 + live (having ends words negated) gone (high + 1)) found_is ∙ live_window low high (having ends words negated) gone whole_rises le

        pub counts : (n : ℕ) → n ≡ live (ends_having (part ends) (map part words) (map part (filter has negated))) gone 0
            → n + live (having ends words negated) gone (high + 1) ≡ live (having ends words negated) gone (low + 1)
        counts n is =
            let same = kept (part ends) (map part words) negated (between_rises low high (lists ends) le ends_rise) in
            omega (arith, is, ap (λ l. live l gone 0) same, found_live)

        none : ends_having (part ends) (map part words) (map part negated) ≡ [] → 0 + live (having ends words negated) gone (high + 1) ≡ live (having ends words negated) gone (low + 1)
        none empty = omega (arith, ap (λ l. live l gone 0) empty, none_live gone, found_live)

        pub counts_no_ends : between low high (lists ends) ≡ [] → 0 + live (having ends words negated) gone (high + 1) ≡ live (having ends words negated) gone (low + 1)
        counts_no_ends empty =
            none (ap (λ ls. ends_having (concat ls) (map part words) (map part negated)) empty ∙ no_ends (map part words) (map part negated))

        pub counts_no_word : (k : ℕ) → k < length words → between low high (lists (get_or words k 0)) ≡ []
            → 0 + live (having ends words negated) gone (high + 1) ≡ live (having ends words negated) gone (low + 1)
        counts_no_word k within empty =
            none (no_word (part ends) (map part words) (map part negated) k (between_rises low high (lists ends) le ends_rise) (omega (arith, within, length-map words part))
            (read part words k within ∙ ap concat empty))

  -- one window behind another
  pub window_more : (uses : List ℕ) (leading : Option ℕ) (low mid high before between after : ℕ) → AreWindowSteps lists uses leading low mid before between → AreWindowSteps lists uses leading mid high between after
      → AreWindowSteps lists uses leading low high before after
  window_more uses leading low mid high before between after a b = record { steps = omega (arith, a.steps, b.steps); moves = λ n is. omega (arith, a.moves n is, b.moves n is) }

-- ---- how many of some ends are left

module _ (found : List ℕ) (rises : IsRising found) (gone : List ℕ) where
  -- before the first location there is nothing, and above TOP
  pub counts_start : live found gone (0 + 1) ≡ live found gone 0
  counts_start = live_same found gone 0 1 (omega arith) (λ z m h. omega (arith, (element_within found z rises m).0))

  pub counts_end : live found gone (TOP + 1) ≡ 0
  counts_end = live_past found gone (TOP + 1) rises (omega arith)

  pub counts_fit : (place : ℕ) → live found gone place ≤ TOP
  counts_fit place = live_fits found gone place rises
