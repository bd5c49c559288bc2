-- A reader that the rarest word of a conjunction leads, over a snapshot of the tests of its plan.
use Rattle.std.proofs.Common.{◌≡◌, ⊎_elim, ℕ, zero, suc, ◌+◌, ◌*◌, ◌<◌, ◌≤◌, List, [], ◌∷◌, ◌++◌, map, length, get_or, take, drop, take-append-drop, refl, sym, subst, ap, ◌∙◌, arith}
use Rattle.std.specs.Prelude.{All, sum_by}
use Rattle.std.specs.List.{concat}
use Rattle.std.proofs.lemmas.List.{length-append, length-map, map-append}
use Rattle.std.proofs.lemmas.List.Elements.{All-nil, All-cons, All-head, All-tail, All-append}
use Rattle.std.proofs.lemmas.List.Sums.{sum_by-append, sum_by-cons}
use Rattle.std.proofs.lemmas.Nat.{mul-le}
use Rattle.std.proofs.Math.Nat.{mul_comm, add-mul}
use Rattle.alta_compile.specs.Space.{Placed, document_end, ends_of, list_of}
use Rattle.alta_compile.specs.declared.asked.Conjunction.{Conjunction}
use Rattle.alta_lead.specs.Having.{ends_having}
use Rattle.alta_machine.specs.declared.test.Test.{Test}
use Rattle.alta_search.specs.Conjoined.{tests_against, conjoined_tests}
use Rattle.alta_search.specs.Leads.{thirds, IsLeadOf, IsLedOver}
use Rattle.alta_search.specs.Lists.{test_list, IsCut, count_lists, count_locations, count_below}
use Rattle.alta_search.specs.Met.{IsSingle}
use Rattle.alta_search.specs.Plans.{lists, locations}
use Rattle.alta_search.specs.View.{View, Shows}
use Rattle.alta_search.specs.Walks.{PlanView}
use Rattle.alta_search.proofs.LeadReaders.{single_size}
use Rattle.alta_search.proofs.Parts.{all_front, all_back, all_parts, sum_parts, read_at}
use Rattle.alta_search.proofs.Planting.{same_front}

abbrev Cut : Type 0
Cut = List (List (List ℕ))

-- ---- every third

pub thirds_map : {X Y : Type 0} (f : X → Y) (xs : List X) → map f (thirds xs) ≡ thirds (map f xs)
thirds_map f [] = refl
thirds_map f (a ∷ []) = refl
thirds_map f (a ∷ b ∷ []) = refl
thirds_map f (a ∷ b ∷ c ∷ xs) = ap (λ ys. f c ∷ ys) (thirds_map f xs)

thirds_sum : (f : Cut → ℕ) (xs : List Cut) → sum_by f (thirds xs) ≤ sum_by f xs
thirds_sum f [] = omega arith
thirds_sum f (a ∷ []) = omega (arith, sum_by-cons f a [])
thirds_sum f (a ∷ b ∷ []) = omega (arith, sum_by-cons f a (b ∷ []))
thirds_sum f (a ∷ b ∷ c ∷ xs) =
    omega (arith, thirds_sum f xs, sum_by-cons f c (thirds xs), sum_by-cons f a (b ∷ c ∷ xs), sum_by-cons f b (c ∷ xs), sum_by-cons f c xs)

against_thirds : (g : Test → List ℕ) (ns : List Test) → thirds (map g (tests_against ns)) ≡ map g ns
against_thirds g [] = refl
against_thirds g (n ∷ ns) = ap (λ ls. g n ∷ ls) (against_thirds g ns)

-- ---- how many lists there are

some_lists : (terms : Cut) → IsSingle terms → 0 < count_locations terms → 1 ≤ count_lists terms
some_lists [] one h = absurd (omega (arith, h))
some_lists ([] ∷ []) one h = absurd (omega (arith, h, sum_by-cons (λ (levels : List (List ℕ)). length (concat levels)) [] []))
some_lists ((l ∷ ls) ∷ []) one h = omega (arith, sum_by-cons (λ (levels : List (List ℕ)). length levels) (l ∷ ls) [])
some_lists (a ∷ b ∷ terms) one h = absurd (omega (arith, one))

words_least : (words : List Cut) → All IsSingle words → All (λ word. 0 < count_locations word) words → length words ≤ lists words
words_least [] one h = omega arith
words_least (w ∷ ws) one h =
    let P : Cut → Type 0 = λ word. 0 < count_locations word in
    omega (arith, some_lists w (All-head IsSingle w ws one) (All-head P w ws h), words_least ws (All-tail IsSingle w ws one) (All-tail P w ws h), sum_by-cons count_lists w ws)

-- each negated word has two uses of the ends
ends_least : (ends : List ℕ) (g : Test → List ℕ) (ns : List Test) (rest : List Cut) → 0 < length ends → g document_end ≡ ends
    → map test_list rest ≡ map g (tests_against ns) → All IsCut rest → All IsSingle rest → 2 * length ns + lists (thirds rest) ≤ lists rest
ends_least ends g [] rest some at same cut one =
    omega (arith, thirds_sum count_lists rest)
ends_least ends g (n ∷ ns) [] some at same cut one = let h : 0 ≡ suc (suc (suc (length (map g (tests_against ns))))) = ap length same in absurd (omega (arith, h))
ends_least ends g (n ∷ ns) (a ∷ []) some at same cut one = let h : 1 ≡ suc (suc (suc (length (map g (tests_against ns))))) = ap length same in absurd (omega (arith, h))
ends_least ends g (n ∷ ns) (a ∷ b ∷ []) some at same cut one = let h : 2 ≡ suc (suc (suc (length (map g (tests_against ns))))) = ap length same in absurd (omega (arith, h))
ends_least ends g (n ∷ ns) (a ∷ b ∷ c ∷ rest) some at same cut one =
    let first : test_list a ≡ g document_end = ap (λ l. get_or l 0 []) same in
    let second : test_list b ≡ g document_end = ap (λ l. get_or l 1 []) same in
    let later : map test_list rest ≡ map g (tests_against ns) = ap (drop 3) same in
    let one_a = All-head IsSingle a (b ∷ c ∷ rest) one in let cut_a = All-head IsCut a (b ∷ c ∷ rest) cut in
    let one' = All-tail IsSingle a (b ∷ c ∷ rest) one in let cut' = All-tail IsCut a (b ∷ c ∷ rest) cut in
    let one_b = All-head IsSingle b (c ∷ rest) one' in let cut_b = All-head IsCut b (c ∷ rest) cut' in
    let one'' = All-tail IsSingle b (c ∷ rest) one' in let cut'' = All-tail IsCut b (c ∷ rest) cut' in
    let more = ends_least ends g ns rest some at later (All-tail IsCut c rest cut'') (All-tail IsSingle c rest one'') in
    omega (
      arith,
      more,
      some_lists a one_a (omega (arith, some, single_size a cut_a one_a, ap length (first ∙ at))),
      some_lists b one_b (omega (arith, some, single_size b cut_b one_b, ap length (second ∙ at))),
      sum_by-cons count_lists a (b ∷ c ∷ rest),
      sum_by-cons count_lists b (c ∷ rest),
      sum_by-cons count_lists c rest,
      sum_by-cons count_lists c (thirds rest),
    )

-- ---- the bound

room : (r n k used : ℕ) → used ≤ r → k ≤ r → used + (2 * n + 2) * k ≤ r * (2 * n + 4)
room r n k used a b =
    let less : (2 * n + 2) * k ≤ (2 * n + 2) * r = mul-le (2 * n + 2) k (2 * n + 2) r (omega arith) b in
    let two : (2 * n + 2 + 2) * r ≡ (2 * n + 2) * r + 2 * r = add-mul (2 * n + 2) 2 r in
    let four : (2 * n + 2 + 2) * r ≡ r * (2 * n + 4) = ap (λ m. m * r) (omega arith) ∙ mul_comm (2 * n + 4) r in
    omega (arith, less, two, four, a)

none_more : (left before more : ℕ) → left ≤ before → left ≤ before + more
none_more left before more h = omega (arith, h)

within : (r n k used left before : ℕ) → used ≤ r → k ≤ r → left ≤ before + used + (2 * n + 2) * k → left ≤ before + r * (2 * n + 4)
within r n k used left before a b h = omega (arith, h, room r n k used a b)

module _ (c : Conjunction) (v : View) (ends : Cut) (words rest : List Cut) (new : PlanView) (from before after : ℕ) (is : IsLeadOf ends words (thirds rest) new from before after)
    (split : v.cuts ≡ ends ∷ words ++ rest) (sized : length words ≡ length c.words) (fits : v.tests ≡ conjoined_tests c)
    (cut : All IsCut v.cuts) (single : All IsSingle v.cuts) where
  whole : (f : Cut → ℕ) → sum_by f v.cuts ≡ f ends + sum_by f words + sum_by f rest
  whole f = ap (sum_by f) split ∙ omega (arith, sum_by-append f (ends ∷ words) rest, sum_by-cons f ends words)

  used : (f : Cut → ℕ) → sum_by f (ends ∷ words ++ thirds rest) ≡ f ends + sum_by f words + sum_by f (thirds rest)
  used f = omega (arith, sum_by-append f (ends ∷ words) (thirds rest), sum_by-cons f ends words)

  all_cut : All IsCut (ends ∷ words ++ rest)
  all_cut = subst (All IsCut) split cut

  all_single : All IsSingle (ends ∷ words ++ rest)
  all_single = subst (All IsSingle) split single

  ends_single : IsSingle ends
  ends_single = All-head IsSingle ends (words ++ rest) all_single

  ends_cut : IsCut ends
  ends_cut = All-head IsCut ends (words ++ rest) all_cut

  module _ (space : List Placed) (shows : Shows space v) where
    shown : map test_list (ends ∷ words) ++ map test_list rest ≡ map (list_of space) (document_end ∷ c.words) ++ map (list_of space) (tests_against c.negated)
    shown =
        sym (map-append test_list (ends ∷ words) rest) ∙ ap (map test_list) (sym split) ∙ shows.lists ∙ ap (map (list_of space)) fits
        ∙ map-append (list_of space) (document_end ∷ c.words) (tests_against c.negated)

    both : (map test_list (ends ∷ words) ≡ map (list_of space) (document_end ∷ c.words)) × (map test_list rest ≡ map (list_of space) (tests_against c.negated))
    both =
        same_front (map test_list (ends ∷ words)) (map test_list rest) (map (list_of space) (document_end ∷ c.words)) (map (list_of space) (tests_against c.negated))
        (omega (arith, sized, length-map (ends ∷ words) test_list, length-map (document_end ∷ c.words) (list_of space))) shown

    ends_are : test_list ends ≡ ends_of space
    ends_are = ap (λ l. get_or l 0 []) both.0

    words_are : map test_list words ≡ map (list_of space) c.words
    words_are = ap (drop 1) both.0

    negated_are : map test_list (thirds rest) ≡ map (list_of space) c.negated
    negated_are = thirds_map test_list rest ∙ ap thirds both.1 ∙ against_thirds (list_of space) c.negated

    enough : 0 < count_locations ends → All (λ word. 0 < count_locations word) words → 1 + length words + length (thirds rest) ≤ lists v.cuts
    enough some each =
        omega (
          arith,
          whole count_lists,
          some_lists ends ends_single some,
          words_least words (all_front IsSingle words rest (All-tail IsSingle ends (words ++ rest) all_single)) each,
          ends_least (ends_of space) (list_of space) c.negated rest (omega (arith, some, single_size ends ends_cut ends_single, ap length ends_are)) refl both.1
              (all_back IsCut words rest (All-tail IsCut ends (words ++ rest) all_cut)) (all_back IsSingle words rest (All-tail IsSingle ends (words ++ rest) all_single)),
          ap length negated_are,
          length-map (thirds rest) test_list,
          length-map c.negated (list_of space),
        )

    at_test : (ws : List Cut) (i : ℕ) → i < length ws → test_list (get_or ws i []) ≡ get_or (map test_list ws) i []
    at_test [] i h = absurd (omega (arith, h))
    at_test (x ∷ xs) zero h = refl
    at_test (x ∷ xs) (suc i) h = at_test xs i (omega (arith, h))

    at_word : (ts : List Test) (i : ℕ) (e : Test) → i < length ts → list_of space (get_or ts i e) ≡ get_or (map (list_of space) ts) i []
    at_word [] i e h = absurd (omega (arith, h))
    at_word (x ∷ xs) zero e h = refl
    at_word (x ∷ xs) (suc i) e h = at_word xs i e (omega (arith, h))

    -- a word has as many locations as its lists
    pub word_size : (k : ℕ) (d : Test) → k < length c.words → count_locations (get_or words k []) ≡ length (list_of space (get_or c.words k d))
    word_size k d l =
        let w = get_or words k [] in
        let in_words : k < length words = omega (arith, l, sized) in
        let one : IsSingle w = all_front IsSingle words rest (All-tail IsSingle ends (words ++ rest) all_single) k [] in_words in
        let whole_cut : IsCut w = all_front IsCut words rest (All-tail IsCut ends (words ++ rest) all_cut) k [] in_words in
        sym (single_size w whole_cut one) ∙ ap length (at_test words k in_words ∙ ap (λ ls. get_or ls k []) words_are ∙ sym (at_word c.words k d l))

    bounded : (k : ℕ) (d : Test) → k < length c.words → after + new.moves ≤ before + lists v.cuts * (2 * length (list_of space (get_or c.words k d)) + 4)
    bounded k d l =
        let w = get_or words k [] in let n = count_locations w in
        let in_words : k < length words = omega (arith, l, sized) in
        subst (λ m. after + new.moves ≤ before + lists v.cuts * (2 * m + 4)) (word_size k d l)
        (⊎_elim
        (λ none. none_more (after + new.moves) before (lists v.cuts * (2 * n + 4)) none)
        (λ few. within (lists v.cuts) n (1 + length words + length (thirds rest)) (lists (ends ∷ words ++ thirds rest)) (after + new.moves) before
        (omega (arith, whole count_lists, used count_lists, thirds_sum count_lists rest)) (enough few.some_ends few.some_words) (few.each k [] in_words))
        is.moves)

  pub led_over : IsLedOver c v new from before after
  led_over = record {
    stands = is.stands;
    reads = λ space shows.
        is.list ∙ ap (λ l. ends_having l (map test_list words) (map test_list (thirds rest))) (ends_are space shows)
        ∙ ap (λ ls. ends_having (ends_of space) ls (map test_list (thirds rest))) (words_are space shows)
        ∙ ap (ends_having (ends_of space) (map (list_of space) c.words)) (negated_are space shows);
    one = is.one;
    place = is.place;
    steps = omega (arith, is.steps, whole count_lists, whole count_locations, used count_lists, used count_locations, thirds_sum count_lists rest, thirds_sum count_locations rest);
    lazy = λ place. omega (
      arith,
      is.lazy place,
      whole count_lists,
      whole (count_below place),
      used count_lists,
      used (count_below place),
      thirds_sum count_lists rest,
      thirds_sum (count_below place) rest,
    );
    moves = λ space shows k d l. bounded space shows k d l;
  }

-- ---- by the indexes of the tests

all_thirds : (P : Cut → Type 0) (xs : List Cut) → All P xs → All P (thirds xs)
all_thirds P [] h = All-nil P
all_thirds P (a ∷ []) h = All-nil P
all_thirds P (a ∷ b ∷ []) h = All-nil P
all_thirds P (a ∷ b ∷ c ∷ xs) h =
    let later = All-tail P b (c ∷ xs) (All-tail P a (b ∷ c ∷ xs) h) in
    All-cons P c (thirds xs) (All-head P c xs later) (all_thirds P xs (All-tail P c xs later))

-- the uses of the ends, of the words and of what is behind them
pub uses_split : (uses ends behind words against : List ℕ) (n : ℕ) → 0 < length uses → ends ≡ take 1 uses → behind ≡ drop 1 uses → words ≡ take n behind → against ≡ drop n behind
    → uses ≡ get_or ends 0 0 ∷ words ++ against
uses_split [] ends behind words against n l a b x y = absurd (omega (arith, l))
uses_split (u ∷ us) ends behind words against n l a b x y =
    ap (λ v. v ∷ us) (ap (λ es. get_or es 0 0) (sym a))
    ∙ ap (λ xs. get_or ends 0 0 ∷ xs) (sym b ∙ sym (take-append-drop n behind) ∙ ap (λ xs. xs ++ drop n behind) (sym x) ∙ ap (λ ys. words ++ ys) (sym y))

-- there are as many as the conjunction has words, and one more
pub uses_length : (g : ℕ → Test) (uses : List ℕ) (c : Conjunction) (tests : List Test) → map g uses ≡ tests → tests ≡ conjoined_tests c → 1 + length c.words ≤ length uses
uses_length g uses c tests same fits =
    omega (arith, ap length same, length-map uses g, ap length fits, length-append (document_end ∷ c.words) (tests_against c.negated))

module _ (f : ℕ → Cut) (uses words against : List ℕ) (u : ℕ) (split : uses ≡ u ∷ words ++ against) where
  pub used_parts : (P : Cut → Type 0) → All P (map f uses) → All P (map f (u ∷ words ++ thirds against))
  used_parts P h =
      let (a, b, r) = all_parts P f u words against (subst (λ us. All P (map f us)) split h) in
      All-cons P (f u) (map f (words ++ thirds against)) a
      (subst (All P) (sym (map-append f words (thirds against)))
      (All-append P (map f words) (map f (thirds against)) b (subst (All P) (sym (thirds_map f against)) (all_thirds P (map f against) r))))

  used_sum : (g : Cut → ℕ) → sum_by g (map f (u ∷ words ++ thirds against)) ≤ sum_by g (map f uses)
  used_sum g =
      omega (
        arith,
        ap (λ us. sum_by g (map f us)) split,
        sum_parts g f u words against,
        sum_parts g f u words (thirds against),
        ap (sum_by g) (thirds_map f against),
        thirds_sum g (map f against),
      )

  pub used_lists : lists (map f (u ∷ words ++ thirds against)) ≤ lists (map f uses)
  used_lists = used_sum count_lists

  pub used_locations : locations (map f (u ∷ words ++ thirds against)) ≤ locations (map f uses)
  used_locations = used_sum count_locations

  pub over_uses : (c : Conjunction) (v : View) (new : PlanView) (from before after : ℕ)
      → IsLeadOf (f u) (map f words) (map f (thirds against)) new from before after → map f uses ≡ v.cuts → length words ≡ length c.words
      → v.tests ≡ conjoined_tests c → All IsCut v.cuts → All IsSingle v.cuts → IsLedOver c v new from before after
  over_uses c v new from before after is same sized fits cut single =
      led_over c v (f u) (map f words) (map f against) new from before after
      (subst (λ ls. IsLeadOf (f u) (map f words) ls new from before after) (thirds_map f against) is)
      (sym same ∙ ap (map f) split ∙ ap (λ ls. f u ∷ ls) (map-append f words against))
      (omega (arith, length-map words f, sized)) fits cut single

  pub size_over : (c : Conjunction) (v : View) (new : PlanView) (from before after : ℕ)
      → IsLeadOf (f u) (map f words) (map f (thirds against)) new from before after → map f uses ≡ v.cuts → length words ≡ length c.words
      → v.tests ≡ conjoined_tests c → All IsCut v.cuts → All IsSingle v.cuts → (space : List Placed) → Shows space v → (k : ℕ) (d : Test) → k < length c.words
      → count_locations (f (get_or words k 0)) ≡ length (list_of space (get_or c.words k d))
  size_over c v new from before after is same sized fits cut single space shows k d l =
      ap count_locations (sym (read_at f [] words k (omega (arith, l, sized))))
      ∙ word_size c v (f u) (map f words) (map f against) new from before after
      (subst (λ ls. IsLeadOf (f u) (map f words) ls new from before after) (thirds_map f against) is)
      (sym same ∙ ap (map f) split ∙ ap (λ ls. f u ∷ ls) (map-append f words against))
      (omega (arith, length-map words f, sized)) fits cut single space shows k d l

-- ---- every third index

pub third_at : (xs : List ℕ) (j : ℕ) → 3 * j + 2 < length xs → (get_or (thirds xs) j 0 ≡ get_or xs (3 * j + 2) 0) × (j < length (thirds xs))
third_at [] j l = absurd (omega (arith, l))
third_at (a ∷ []) j l = absurd (omega (arith, l))
third_at (a ∷ b ∷ []) j l = absurd (omega (arith, l))
third_at (a ∷ b ∷ c ∷ xs) zero l = (refl, omega arith)
third_at (a ∷ b ∷ c ∷ xs) (suc j) l =
    let (e, h) = third_at xs j (omega (arith, l)) in
    let up : suc (suc (suc (3 * j + 2))) ≡ 3 * suc j + 2 = omega arith in
    (e ∙ ap (λ i. get_or (a ∷ b ∷ c ∷ xs) i 0) up, omega (arith, h))

pub thirds_short : (xs : List ℕ) → 3 * length (thirds xs) ≤ length xs
thirds_short [] = omega arith
thirds_short (a ∷ []) = omega arith
thirds_short (a ∷ b ∷ []) = omega arith
thirds_short (a ∷ b ∷ c ∷ xs) = omega (arith, thirds_short xs)
