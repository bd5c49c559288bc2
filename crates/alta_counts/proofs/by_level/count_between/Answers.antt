use Rattle.std.proofs.Common.{◌≡◌, ◌+◌, ◌∷◌, map, sym, subst}
use Rattle.std.specs.Prelude.{IfOk, Result, Ok, Err}
use Rattle.alta_codec.specs.Rising.{IsRising}
use Rattle.alta_counts.specs.Live.{count_live}
use Rattle.alta_counts.specs.Asked.{ends_asked}
use Rattle.alta_counts.specs.ByLevel.{IsCleft, levels_of, whole_at, part_at, ends_at}
use Rattle.alta_counts.proofs.Asking.{walked_counts}
use Rattle.alta_search.proofs.Parts.{all_front}
use Rattle.alta_counts.proofs.by_level.count_between.Goals as goal

if_ok : {A E : Type 0} (r : Result A E) (P Q : A → Type 0) → ((a : A) → P a → Q a) → IfOk r P → IfOk r Q
if_ok (Ok a) P Q f h = f a h
if_ok (Err e) P Q f h = tt

pub walked_between-requires-clause-rising : goal.walked_between-requires-clause-rising
walked_between-requires-clause-rising g c =
    all_front (λ u. IsRising (whole_at c.args.tests.now u)) (c.args.ends ∷ c.args.words.now) c.args.negated.now c.requires.rising

pub returns-in-Walked-clause-count : goal.returns-in-Walked-clause-count
returns-in-Walked-clause-count g c =
    let ts = c.args.tests.now in let us = c.args.ends ∷ c.args.words.now in let gone = c.args.gone.now in
    subst (λ a. IfOk c.walked_between.result (λ n. n + count_live (ends_at ts a c.args.ends c.args.words.now c.args.negated.now) gone (c.args.high + 1)
    ≡ count_live (ends_at ts a c.args.ends c.args.words.now c.args.negated.now) gone (c.args.low + 1))) (sym c.in-Walked.is)
    (if_ok c.walked_between.result
    (λ n. n ≡ count_live (ends_asked c.in-Walked.followed (part_at ts c.args.low c.args.high c.args.ends) (map (part_at ts c.args.low c.args.high) c.args.words.now)) gone 0)
    (λ n. n + count_live (ends_asked c.in-Walked.followed (whole_at ts c.args.ends) (map (whole_at ts) c.args.words.now)) gone (c.args.high + 1)
    ≡ count_live (ends_asked c.in-Walked.followed (whole_at ts c.args.ends) (map (whole_at ts) c.args.words.now)) gone (c.args.low + 1))
    (λ n h. walked_counts (levels_of ts) c.args.low c.args.high c.requires.ordered c.args.ends c.args.words.now
    (all_front (λ u. IsRising (whole_at ts u)) us c.args.negated.now c.requires.rising) (all_front (λ u. IsCleft c.args.low (levels_of ts u)) us c.args.negated.now c.requires.from)
    (all_front (λ u. IsCleft c.args.high (levels_of ts u)) us c.args.negated.now c.requires.until) c.requires.starts c.in-Walked.followed gone n h)
    c.walked_between.ensures.count)
