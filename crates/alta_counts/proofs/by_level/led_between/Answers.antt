use Rattle.std.proofs.Common.{◌≡◌, ◌+◌, ◌*◌, ◌<◌, ◌≤◌, ℕ, true, false, List, [], ◌∷◌, ◌++◌, map, length, get_or, refl, sym, subst, ap, ◌∙◌, arith}
use Rattle.std.specs.Prelude.{All, Some, sum_by}
use Rattle.std.specs.Bool.{OnTrue, OnFalse}
use Rattle.std.specs.List.{concat, filter}
use Rattle.std.proofs.lemmas.List.{length-map}
use Rattle.std.proofs.lemmas.List.Elements.{All-head, All-tail, All-cons, All-append}
use Rattle.alta_codec.specs.Rising.{IsRising}
use Rattle.alta_lead.specs.Having.{ends_having}
use Rattle.alta_counts.specs.Live.{count_live}
use Rattle.alta_counts.specs.ByLevel.{between, levels_of, whole_at, part_at, has_lists}
use Rattle.alta_search.specs.Lists.{level_list}
use Rattle.alta_counts.proofs.Levels.{no_window_steps, window_steps, counts, counts_no_ends, counts_no_word}
use Rattle.alta_counts.proofs.LevelWalks.{filter_all}
use Rattle.alta_search.proofs.Parts.{all_front, all_back}
use Rattle.alta_counts.proofs.by_level.led_between.Goals as goal

some_map : {X Y : Type 0} (f : X → Y) (xs : List X) → 0 < length xs → 0 < length (map f xs)
some_map f xs h = omega (arith, h, length-map xs f)

no_map : {X Y : Type 0} (f : X → Y) (xs : List X) → length xs ≡ 0 → map f xs ≡ []
no_map f [] h = refl
no_map f (x ∷ xs) h = absurd (omega (arith, h))

pub lists_between-requires-clause-rising : goal.lists_between-requires-clause-rising
lists_between-requires-clause-rising g c =
    All-head (λ u. IsRising (whole_at c.args.tests.now u)) c.args.ends (c.args.words.now ++ c.args.negated.now) c.requires.rising

pub each_has-requires-clause-rising : goal.each_has-requires-clause-rising
each_has-requires-clause-rising g c =
    all_front (λ u. IsRising (whole_at c.args.tests.now u)) c.args.words.now c.args.negated.now
    (All-tail (λ u. IsRising (whole_at c.args.tests.now u)) c.args.ends (c.args.words.now ++ c.args.negated.now) c.requires.rising)

pub present-requires-clause-rising : goal.present-requires-clause-rising
present-requires-clause-rising g c =
    all_back (λ u. IsRising (whole_at c.args.tests.now u)) c.args.words.now c.args.negated.now
    (All-tail (λ u. IsRising (whole_at c.args.tests.now u)) c.args.ends (c.args.words.now ++ c.args.negated.now) c.requires.rising)

pub returns-then-is_empty-clause-count : goal.returns-then-is_empty-clause-count
returns-then-is_empty-clause-count g c =
    let ls = c.lists_between.result.now in
    counts_no_ends (levels_of c.args.tests.now) c.args.low c.args.high c.requires.ordered c.args.ends c.args.words.now c.args.negated.now c.requires.rising c.requires.from c.requires.until c.requires.starts c.args.gone.now
    (sym c.lists_between.ensures ∙ no_map level_list ls (grind (arith, c.is_empty.ensures, c.if-is_empty.true)))

pub returns-then-is_empty-clause-steps : goal.returns-then-is_empty-clause-steps
returns-then-is_empty-clause-steps g c =
    no_window_steps (levels_of c.args.tests.now) c.args.low c.args.high c.requires.ordered (c.args.ends ∷ c.args.words.now ++ c.args.negated.now)
    (Some (length (whole_at c.args.tests.now (get_or c.args.words.now c.args.lead 0)))) c.args.steps.now

pub returns-then-not-each_has-clause-count : goal.returns-then-not-each_has-clause-count
returns-then-not-each_has-clause-count g c =
    let e : c.each_has.result ≡ false = grind (arith, c.if-not-each_has.ensures, c.if-not-each_has.true) in
    let (k, within, empty) = subst (λ b. OnFalse b ((k : ℕ) × (k < length c.args.words.now) × (between c.args.low c.args.high (levels_of c.args.tests.now (get_or c.args.words.now k 0)) ≡ []))) e c.each_has.ensures.lacks in
    counts_no_word (levels_of c.args.tests.now) c.args.low c.args.high c.requires.ordered c.args.ends c.args.words.now c.args.negated.now c.requires.rising c.requires.from c.requires.until c.requires.starts c.args.gone.now k within empty

pub returns-then-not-each_has-clause-steps : goal.returns-then-not-each_has-clause-steps
returns-then-not-each_has-clause-steps g c =
    no_window_steps (levels_of c.args.tests.now) c.args.low c.args.high c.requires.ordered (c.args.ends ∷ c.args.words.now ++ c.args.negated.now)
    (Some (length (whole_at c.args.tests.now (get_or c.args.words.now c.args.lead 0)))) c.args.steps.now

pub returns-in_err-against-clause-steps : goal.returns-in_err-against-clause-steps
returns-in_err-against-clause-steps g c =
    no_window_steps (levels_of c.args.tests.now) c.args.low c.args.high c.requires.ordered (c.args.ends ∷ c.args.words.now ++ c.args.negated.now)
    (Some (length (whole_at c.args.tests.now (get_or c.args.words.now c.args.lead 0)))) c.args.steps.now

pub tally_between-requires-clause-rising : goal.tally_between-requires-clause-rising
tally_between-requires-clause-rising g c =
    let P : ℕ → Type 0 = λ u. IsRising (whole_at c.args.tests.now u) in let rest = All-tail P c.args.ends (c.args.words.now ++ c.args.negated.now) c.requires.rising in
    subst (λ ns. All P (c.args.ends ∷ c.args.words.now ++ ns)) (sym (c.deref.ensures.value ∙ c.in_ok-against.ensures))
    (All-cons P c.args.ends (c.args.words.now ++ filter (has_lists c.args.tests.now c.args.low c.args.high) c.args.negated.now)
    (All-head P c.args.ends (c.args.words.now ++ c.args.negated.now) c.requires.rising)
    (All-append P c.args.words.now (filter (has_lists c.args.tests.now c.args.low c.args.high) c.args.negated.now) (all_front P c.args.words.now c.args.negated.now rest)
    (filter_all P (has_lists c.args.tests.now c.args.low c.args.high) c.args.negated.now (all_back P c.args.words.now c.args.negated.now rest))))

pub returns-in_err-live-clause-steps : goal.returns-in_err-live-clause-steps
returns-in_err-live-clause-steps g c =
    let ts = c.args.tests.now in let low = c.args.low in let high = c.args.high in let words = c.args.words.now in
    let same = c.deref.ensures.value ∙ c.in_ok-against.ensures in
    let there : c.each_has.result ≡ true = grind (arith, c.if-not-each_has.ensures, c.if-not-each_has.false) in
    window_steps (levels_of c.args.tests.now) c.args.low c.args.high c.requires.ordered c.args.ends c.args.words.now c.args.negated.now c.args.lead c.args.steps.now c.tally_between.new.steps
    (omega (arith, some_map level_list c.lists_between.result.now (grind (arith, c.is_empty.ensures, c.if-is_empty.false)), ap length c.lists_between.ensures))
    (subst (λ b. OnTrue b (All (λ u. 0 < length (between low high (levels_of ts u))) words)) there c.each_has.ensures.each) c.requires.lead
    (subst (λ ns. c.tally_between.new.steps ≤ c.args.steps.now + sum_by (λ u. length (between low high (levels_of ts u)) + length (concat (between low high (levels_of ts u)))) (c.args.ends ∷ words ++ ns)) same c.tally_between.ensures.steps)
    (subst (λ ns. c.tally_between.new.steps ≤ c.args.steps.now + sum_by (λ u. length (between low high (levels_of ts u))) (c.args.ends ∷ words ++ ns)
    + (2 * length (concat (between low high (levels_of ts (get_or words c.args.lead 0)))) + 2) * (1 + length words + length ns)) same c.tally_between.ensures.moves)

pub returns-clause-steps : goal.returns-clause-steps
returns-clause-steps g c =
    let ts = c.args.tests.now in let low = c.args.low in let high = c.args.high in let words = c.args.words.now in
    let same = c.deref.ensures.value ∙ c.in_ok-against.ensures in
    let there : c.each_has.result ≡ true = grind (arith, c.if-not-each_has.ensures, c.if-not-each_has.false) in
    window_steps (levels_of c.args.tests.now) c.args.low c.args.high c.requires.ordered c.args.ends c.args.words.now c.args.negated.now c.args.lead c.args.steps.now c.tally_between.new.steps
    (omega (arith, some_map level_list c.lists_between.result.now (grind (arith, c.is_empty.ensures, c.if-is_empty.false)), ap length c.lists_between.ensures))
    (subst (λ b. OnTrue b (All (λ u. 0 < length (between low high (levels_of ts u))) words)) there c.each_has.ensures.each) c.requires.lead
    (subst (λ ns. c.tally_between.new.steps ≤ c.args.steps.now + sum_by (λ u. length (between low high (levels_of ts u)) + length (concat (between low high (levels_of ts u)))) (c.args.ends ∷ words ++ ns)) same c.tally_between.ensures.steps)
    (subst (λ ns. c.tally_between.new.steps ≤ c.args.steps.now + sum_by (λ u. length (between low high (levels_of ts u))) (c.args.ends ∷ words ++ ns)
    + (2 * length (concat (between low high (levels_of ts (get_or words c.args.lead 0)))) + 2) * (1 + length words + length ns)) same c.tally_between.ensures.moves)

pub returns-clause-count : goal.returns-clause-count
returns-clause-count g c =
    let ts = c.args.tests.now in let low = c.args.low in let high = c.args.high in
    counts (levels_of c.args.tests.now) c.args.low c.args.high c.requires.ordered c.args.ends c.args.words.now c.args.negated.now c.requires.rising c.requires.from c.requires.until c.requires.starts c.args.gone.now c.in_ok-live.live
    (c.in_ok-live.ensures.count
    ∙ ap (λ ns. count_live (ends_having (part_at ts low high c.args.ends) (map (part_at ts low high) c.args.words.now) (map (part_at ts low high) ns)) c.args.gone.now 0) (c.deref.ensures.value ∙ c.in_ok-against.ensures))
