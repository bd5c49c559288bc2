-- Readers of the words of a conjunction, and what the word that leads bounds.
use Rattle.std.proofs.Common.{◌≡◌, inl, inr, ℕ, zero, suc, ◌+◌, ◌*◌, ◌<◌, ◌≤◌, List, [], ◌∷◌, ◌++◌, map, length, get_or, refl, sym, subst, ap, ◌∙◌, arith}
use Rattle.std.specs.Prelude.{All, Contains, sum_by, count_by, nat_lt}
use Rattle.std.specs.List.{concat}
use Rattle.std.proofs.lemmas.List.{append-nil, get_or_default, length-append, length-map}
use Rattle.std.proofs.lemmas.List.Elements.{All-head}
use Rattle.std.proofs.lemmas.List.Sums.{sum_by-append, sum_by-cons}
use Rattle.std.proofs.lemmas.Nat.{mul-le}
use Rattle.alta_codec.specs.declared.location.TheConstants.{TOP}
use Rattle.alta_codec.specs.Rising.{IsRising, first_from, count_from}
use Rattle.alta_codec.proofs.Places.{Contains-head, not-Contains-nil}
use Rattle.alta_compound.specs.Same.{count_from-append, count_from-nil}
use Rattle.alta_compound.specs.Union.{union_of}
use Rattle.alta_compound.specs.Unions.{above_from_rising, rising_from_above}
use Rattle.alta_lead.specs.Having.{ends_having}
use Rattle.alta_lead.specs.HavingLaws.{having-answers}
use Rattle.alta_search.specs.Leads.{readers_of, IsLedFrom, IsLeadOf}
use Rattle.alta_search.specs.Lists.{level_list, test_list, IsCut, count_lists, count_locations, count_below}
use Rattle.alta_search.specs.Met.{IsSingle}
use Rattle.alta_search.specs.Plans.{lists, locations, locations_below}
use Rattle.alta_search.specs.Readers.{Each, IsAtStart, IsFresh}
use Rattle.alta_search.specs.Walks.{PlanView, nothing, IsReading}
use Rattle.alta_search.specs.Words.{term_list, term_place, term_left, single_list, single_place, single_left}
use Rattle.alta_search.specs.declared.lists.LevelList.{LevelList}
use Rattle.alta_search.specs.declared.single_reader.SingleReader.{SingleReader}
use Rattle.alta_search.specs.declared.single_reader.SingleReader.TheVariants.{Chain}
use Rattle.alta_search.specs.declared.term_reader.TermReader.{TermReader}
use Rattle.alta_search.proofs.Counts.{below_or_from, count_from-concat}
use Rattle.alta_search.proofs.Lone.{with_none}
use Rattle.alta_search.proofs.Parts.{all_parts, read_at}
use Rattle.alta_search.proofs.Planting.{fresh_sized, fresh_lists, fresh_left, fresh_counts}

-- ---- how many locations

abbrev pub size : LevelList → ℕ
size list = length (level_list list)

pub sizes : (xs : List LevelList) → length (concat (map level_list xs)) ≡ sum_by size xs
sizes [] = refl
sizes (x ∷ xs) = omega (arith, length-append (level_list x) (concat (map level_list xs)), sizes xs, sum_by-cons size x xs)

-- the locations of a test that has one term at most are those of this term
pub single_whole : (levels : List (List ℕ)) → IsRising (concat levels) → test_list (levels ∷ []) ≡ concat levels
unfolding union_of
single_whole levels r = with_none 0 (concat levels) (above_from_rising (concat levels) r)

none_whole : test_list [] ≡ []
unfolding union_of
none_whole = refl

abbrev IsCutTerm : List (List ℕ) → Type 0
IsCutTerm levels = All (λ (list : List ℕ). 0 < length list) levels × IsRising (concat levels)

abbrev sum_of : List (List ℕ) → ℕ
sum_of levels = length (concat levels)

pub single_size : (terms : List (List (List ℕ))) → IsCut terms → IsSingle terms → length (test_list terms) ≡ count_locations terms
single_size [] cut one = ap length none_whole
single_size (levels ∷ []) cut one = ap length (single_whole levels (All-head IsCutTerm levels [] cut).1) ∙ omega (arith, sum_by-cons sum_of levels [])
single_size (a ∷ b ∷ terms) cut one = absurd (omega (arith, one))

-- the lists of its one term rise one behind the other
pub cut_rises : (levels : List (List ℕ)) (terms : List (List (List ℕ))) → terms ≡ levels ∷ [] → IsCut terms → IsRising (concat levels)
cut_rises levels terms e cut = (All-head IsCutTerm levels [] (subst IsCut e cut)).1

-- ---- a reader of such a test

pub single_fresh : (levels : List (List ℕ)) (r : SingleReader) → IsRising (concat levels) → IsAtStart single_list single_list single_place single_left (concat levels) r
    → IsFresh single_list single_list single_place single_left (levels ∷ []) r
single_fresh levels r rising start =
    let whole : test_list (levels ∷ []) ≡ concat levels = single_whole levels rising in
    record {
      reads = start.reads ∙ sym whole;
      counts = λ place. omega (
        arith,
        ap (λ xs. count_from xs place) start.holds,
        below_or_from (concat levels) place,
        sum_by-cons (λ (ls : List (List ℕ)). count_by (λ x. nat_lt x place) (concat ls)) levels [],
        sum_by-cons sum_of levels [],
      );
      unmoved = start.unmoved ∙ ap (λ xs. first_from xs 0) (sym whole);
      rest = omega (arith, start.rest, sum_by-cons sum_of levels []);
    }

pub none_fresh : (r : SingleReader) → IsAtStart single_list single_list single_place single_left [] r → IsFresh single_list single_list single_place single_left [] r
none_fresh r start = record {
  reads = start.reads ∙ sym none_whole;
  counts = λ place. omega (arith, ap (λ xs. count_from xs place) start.holds, count_from-nil place);
  unmoved = start.unmoved ∙ ap (λ xs. first_from xs 0) (sym none_whole);
  rest = omega (arith, start.rest);
}

-- a reader of a list, and a chain
pub list_fresh : (l : List ℕ) (r : SingleReader) → IsRising l → IsAtStart single_list single_list single_place single_left l r
    → IsFresh single_list single_list single_place single_left ((l ∷ []) ∷ []) r
list_fresh l r rising start =
    let same : concat (l ∷ []) ≡ l = append-nil l in
    single_fresh (l ∷ []) r (subst IsRising (sym same) rising) (subst (λ xs. IsAtStart single_list single_list single_place single_left xs r) (sym same) start)

pub chain_start : (locations : List ℕ) (r : TermReader) → IsAtStart term_list term_list term_place term_left locations r
    → IsAtStart single_list single_list single_place single_left locations (Chain r)
chain_start locations r start = record { reads = start.reads; holds = start.holds; unmoved = start.unmoved; rest = start.rest }

-- ---- what the leading word bounds

ones : (xs : List (List ℕ)) → sum_by (λ (l : List ℕ). 1) xs ≡ length xs
ones [] = refl
ones (x ∷ xs) = omega (arith, ones xs, sum_by-cons (λ (l : List ℕ). 1) x xs)

at_list : (cuts : List (List (List (List ℕ)))) (k : ℕ) → get_or (map test_list cuts) k [] ≡ test_list (get_or cuts k [])
at_list [] k = sym none_whole
at_list (c ∷ cs) zero = refl
at_list (c ∷ cs) (suc k) = at_list cs k

all_below : (cuts : List (List (List (List ℕ)))) (rs : List SingleReader) (place : ℕ) → Each (IsFresh single_list single_list single_place single_left) cuts rs
    → count_from (concat (map single_list rs)) place + locations_below place cuts ≡ locations cuts
all_below cuts rs place fresh =
    omega (arith, count_from-concat single_list rs place, fresh_counts single_list single_list single_place single_left cuts rs place fresh)

times : (a b c d : ℕ) → a ≤ b → c ≡ d → a * c ≤ b * d
times a b c d h e = mul-le a c b d h (omega (arith, e))

module _ (ends : List (List (List ℕ))) (words negated : List (List (List (List ℕ)))) (e : SingleReader) (ws ns : List SingleReader) (lead : ℕ) (new : PlanView) (from before made after : ℕ)
    (fresh_ends : IsFresh single_list single_list single_place single_left ends e) (fresh_words : Each (IsFresh single_list single_list single_place single_left) words ws)
    (fresh_negated : Each (IsFresh single_list single_list single_place single_left) negated ns)
    (is : IsLedFrom e ws ns lead new from made after) (spent : made ≡ before + count_lists ends + lists words + lists negated) (within : lead < length words)
    (cut : IsCut (get_or words lead [])) (one : IsSingle (get_or words lead []))
    (least : (k : ℕ) → k < length words → count_locations (get_or words lead []) ≤ count_locations (get_or words k []))
    (some_ends : 0 < count_locations ends) (some_words : 0 < count_locations (get_or words lead [])) where
  words_are : map single_list ws ≡ map test_list words
  words_are = fresh_lists single_list single_list single_place single_left words ws fresh_words

  negated_are : map single_list ns ≡ map test_list negated
  negated_are = fresh_lists single_list single_list single_place single_left negated ns fresh_negated

  whole : (f : List (List (List ℕ)) → ℕ) → sum_by f (ends ∷ words ++ negated) ≡ f ends + sum_by f words + sum_by f negated
  whole f = omega (arith, sum_by-append f (ends ∷ words) negated, sum_by-cons f ends words)

  leader : length (get_or (map single_list ws) lead []) ≡ count_locations (get_or words lead [])
  leader = ap (λ ls. length (get_or ls lead [])) words_are ∙ ap length (at_list words lead) ∙ single_size (get_or words lead []) cut one

  movers : readers_of (map single_list ws) (map single_list ns) ≡ 1 + length words + length negated
  movers = omega (
    arith,
    ones (map single_list ws),
    ones (map single_list ns),
    length-map ws single_list,
    length-map ns single_list,
    fresh_sized single_list single_list single_place single_left words ws fresh_words,
    fresh_sized single_list single_list single_place single_left negated ns fresh_negated,
  )

  bounded : (k : ℕ) → k < length words → after + new.moves ≤ before + lists (ends ∷ words ++ negated) + (2 * count_locations (get_or words k []) + 2) * (1 + length words + length negated)
  bounded k l =
      let m = length (get_or (map single_list ws) lead []) in let n = count_locations (get_or words k []) in
      let less : 2 * m + 2 ≤ 2 * n + 2 = omega (arith, leader, least k l) in
      omega (arith, is.moves, spent, whole count_lists, times (2 * m + 2) (2 * n + 2) (readers_of (map single_list ws) (map single_list ns)) (1 + length words + length negated) less movers)

  pub lead_of : IsLeadOf ends words negated new from before after
  lead_of = record {
    stands = is.stands;
    list = is.list ∙ ap (λ l. ends_having l (map single_list ws) (map single_list ns)) fresh_ends.reads
        ∙ ap (λ ls. ends_having (test_list ends) ls (map single_list ns)) words_are ∙ ap (ends_having (test_list ends) (map test_list words)) negated_are;
    one = is.one;
    place = is.place;
    steps = omega (
      arith,
      is.steps,
      spent,
      whole count_lists,
      whole count_locations,
      fresh_ends.rest,
      fresh_left single_list single_list single_place single_left words ws fresh_words,
      fresh_left single_list single_list single_place single_left negated ns fresh_negated,
    );
    lazy = λ place. omega (
      arith,
      is.steps,
      spent,
      whole count_lists,
      whole (count_below place),
      fresh_ends.rest,
      fresh_left single_list single_list single_place single_left words ws fresh_words,
      fresh_left single_list single_list single_place single_left negated ns fresh_negated,
      ap (λ xs. count_from xs place) is.all,
      count_from-append (single_list e ++ concat (map single_list ws)) (concat (map single_list ns)) place,
      count_from-append (single_list e) (concat (map single_list ws)) place,
      fresh_ends.counts place,
      all_below words ws place fresh_words,
      all_below negated ns place fresh_negated,
    );
    moves = inr (record {
      some_ends = some_ends;
      some_words = λ k d l. subst (λ word. 0 < count_locations word) (get_or_default words k [] d l) (omega (arith, some_words, least k l));
      each = λ k d l.
          subst (λ word. after + new.moves ≤ before + lists (ends ∷ words ++ negated) + (2 * count_locations word + 2) * (1 + length words + length negated))
          (get_or_default words k [] d l) (bounded k l);
    });
  }

-- ---- where there is nothing to find

no_length : (xs : List ℕ) → length xs ≡ 0 → xs ≡ []
no_length [] h = refl
no_length (x ∷ xs) h = absurd (omega (arith, h))

no_element : (xs : List ℕ) → ((z : ℕ) → Contains xs z → ⊥) → xs ≡ []
no_element [] h = refl
no_element (x ∷ xs) h = absurd (h x (Contains-head x xs))

single_rises : (terms : List (List (List ℕ))) → IsCut terms → IsSingle terms → IsRising (test_list terms)
single_rises [] cut one = subst IsRising (sym none_whole) (rising_from_above [] tt)
single_rises (levels ∷ []) cut one = let r = (All-head IsCutTerm levels [] cut).1 in subst IsRising (sym (single_whole levels r)) r
single_rises (a ∷ b ∷ terms) cut one = absurd (omega (arith, one))

single_none : (terms : List (List (List ℕ))) → IsCut terms → IsSingle terms → count_locations terms ≡ 0 → test_list terms ≡ []
single_none terms cut one none = no_length (test_list terms) (single_size terms cut one ∙ none)

no_ends_having : (ws ns : List (List ℕ)) → ends_having [] ws ns ≡ []
unfolding ends_having
no_ends_having ws ns = refl

pub no_word_having : (ends : List ℕ) (ws ns : List (List ℕ)) (k : ℕ) → IsRising ends → k < length ws → get_or ws k [] ≡ [] → ends_having ends ws ns ≡ []
no_word_having ends ws ns k rises l none =
    no_element (ends_having ends ws ns)
    (λ z m. let (x, h, a, b) = ((having-answers ends ws ns z rises).0 m).each k [] l in not-Contains-nil x (subst (λ xs. Contains xs x) none h))

first_none : (place : ℕ) → first_from [] place ≡ TOP
unfolding first_from
first_none place = refl

pub nothing_reading : IsReading nothing
nothing_reading = record { rising = rising_from_above [] tt; stands = inr refl }

module _ (ends : List (List (List ℕ))) (words negated : List (List (List (List ℕ)))) (from before : ℕ) (cut : IsCut ends) (one : IsSingle ends) where
  nothing_of : ends_having (test_list ends) (map test_list words) (map test_list negated) ≡ [] → IsLeadOf ends words negated nothing from before before
  nothing_of none = record {
    stands = nothing_reading;
    list = sym none;
    one = refl;
    place = sym (first_none from);
    steps = omega arith;
    lazy = λ place. omega arith;
    moves = inl (omega arith);
  }

  pub no_ends : count_locations ends ≡ 0 → IsLeadOf ends words negated nothing from before before
  no_ends none =
      nothing_of (ap (λ l. ends_having l (map test_list words) (map test_list negated)) (single_none ends cut one none) ∙ no_ends_having (map test_list words) (map test_list negated))

  pub no_word : (k : ℕ) → k < length words → IsCut (get_or words k []) → IsSingle (get_or words k []) → count_locations (get_or words k []) ≡ 0
      → IsLeadOf ends words negated nothing from before before
  no_word k l cut_word one_word none =
      nothing_of (no_word_having (test_list ends) (map test_list words) (map test_list negated) k (single_rises ends cut one) (omega (arith, l, length-map words test_list))
      (at_list words k ∙ single_none (get_or words k []) cut_word one_word none))

-- ---- by the indexes of the tests

module _ (f : ℕ → List (List (List ℕ))) (ends : ℕ) (words negated : List ℕ) (lead : ℕ) (within : lead < length words)
    (cut : All IsCut (map f (ends ∷ words ++ negated))) (one : All IsSingle (map f (ends ∷ words ++ negated))) where
  pub cut_parts : IsCut (f ends) × All IsCut (map f words) × All IsCut (map f negated)
  cut_parts = all_parts IsCut f ends words negated cut

  pub single_parts : IsSingle (f ends) × All IsSingle (map f words) × All IsSingle (map f negated)
  single_parts = all_parts IsSingle f ends words negated one

  lead_within : lead < length (map f words)
  lead_within = omega (arith, within, length-map words f)

  lead_at : get_or (map f words) lead [] ≡ f (get_or words lead 0)
  lead_at = read_at f [] words lead within

  lead_cut : IsCut (get_or (map f words) lead [])
  lead_cut = cut_parts.1 lead [] lead_within

  lead_single : IsSingle (get_or (map f words) lead [])
  lead_single = single_parts.1 lead [] lead_within

  pub led_is : (e : SingleReader) (ws ns : List SingleReader) (new : PlanView) (from before made after : ℕ)
      → IsFresh single_list single_list single_place single_left (f ends) e → Each (IsFresh single_list single_list single_place single_left) (map f words) ws
      → Each (IsFresh single_list single_list single_place single_left) (map f negated) ns → IsLedFrom e ws ns lead new from made after
      → made ≡ before + count_lists (f ends) + lists (map f words) + lists (map f negated)
      → ((k : ℕ) → k < length words → count_locations (f (get_or words lead 0)) ≤ count_locations (f (get_or words k 0)))
      → 0 < count_locations (f ends) → 0 < count_locations (f (get_or words lead 0)) → IsLeadOf (f ends) (map f words) (map f negated) new from before after
  led_is e ws ns new from before made after fresh_ends fresh_words fresh_negated is spent least some_ends some_words =
      lead_of (f ends) (map f words) (map f negated) e ws ns lead new from before made after fresh_ends fresh_words fresh_negated is spent lead_within lead_cut lead_single
      (λ k l. let inside : k < length words = omega (arith, l, length-map words f) in
      omega (arith, ap count_locations lead_at, ap count_locations (read_at f [] words k inside), least k inside))
      some_ends (omega (arith, some_words, ap count_locations lead_at))

  pub no_ends_is : (from before : ℕ) → count_locations (f ends) ≡ 0 → IsLeadOf (f ends) (map f words) (map f negated) nothing from before before
  no_ends_is from before none = no_ends (f ends) (map f words) (map f negated) from before cut_parts.0 single_parts.0 none

  pub no_word_is : (from before : ℕ) → count_locations (f (get_or words lead 0)) ≡ 0 → IsLeadOf (f ends) (map f words) (map f negated) nothing from before before
  no_word_is from before none =
      no_word (f ends) (map f words) (map f negated) from before cut_parts.0 single_parts.0 lead lead_within lead_cut lead_single (ap count_locations lead_at ∙ none)
