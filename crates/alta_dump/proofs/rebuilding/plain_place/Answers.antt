use Rattle.std.proofs.Common.{◌≡◌, ℕ, List, true, false, Option, map, sym, subst, arith}
use Rattle.std.specs.Prelude.{MatchOption, count_by}
use Rattle.alta_machine.specs.Plain.{is_plain, ends_title}
use Rattle.alta_dump.specs.Seen.{AreFolded, IsTitlePlace, is_held, terms_of}
use Rattle.alta_dump.proofs.Rebuilt.{IsLaidOut, unseen_words, unseen_count, unseen_place, unseen_first, unseen_last, seen_plain}
use Rattle.alta_gather.specs.declared.held.Held.{Held}
use Rattle.alta_dump.proofs.rebuilding.plain_place.Goals as goal

laid : (terms : List (List ℕ)) (words titles : List Held) (cells : List (List (List ℕ))) → AreFolded terms words cells → map is_held titles ≡ map ends_title cells → IsLaidOut terms words titles cells
laid terms words titles cells folded ends = record { folded = folded; title_ends = ends }

pub returns-then-not-are_words-clause-plain : goal.returns-then-not-are_words-clause-plain
returns-then-not-are_words-clause-plain c = λ cells folded ends.
    unseen_words (terms_of c.args.terms.now) c.args.words.now c.args.titles.now cells (laid (terms_of c.args.terms.now) c.args.words.now c.args.titles.now cells folded ends) (sym c.if-not-are_words.ensures)

pub returns-then-count_places-ne1-clause-plain : goal.returns-then-count_places-ne1-clause-plain
returns-then-count_places-ne1-clause-plain c = λ cells folded ends.
    unseen_count (terms_of c.args.terms.now) c.args.words.now c.args.titles.now cells (laid (terms_of c.args.terms.now) c.args.words.now c.args.titles.now cells folded ends)
    (λ e. omega (arith, e, c.count_places.ensures, c.if-count_places-ne1.true))

pub returns-in_err-place-clause-plain : goal.returns-in_err-place-clause-plain
returns-in_err-place-clause-plain c = λ cells folded ends.
    subst (λ (o : Option ℕ). MatchOption o (is_plain cells ≡ false) (λ (place : ℕ). (is_plain cells ≡ true) × IsTitlePlace place cells)) (sym c.from_residual.ensures)
    (unseen_place (terms_of c.args.terms.now) c.args.words.now c.args.titles.now cells (laid (terms_of c.args.terms.now) c.args.words.now c.args.titles.now cells folded ends) (sym c.in_err-place.ensures.value))

pub returns-then-place-eq0-clause-plain : goal.returns-then-place-eq0-clause-plain
returns-then-place-eq0-clause-plain c = λ cells folded ends.
    unseen_first (terms_of c.args.terms.now) c.args.words.now c.args.titles.now cells c.in_ok-place.place (laid (terms_of c.args.terms.now) c.args.words.now c.args.titles.now cells folded ends)
    (sym c.in_ok-place.ensures.value) c.if-place-eq0.true

pub returns-then-titles-place-eq1-clause-plain : goal.returns-then-titles-place-eq1-clause-plain
returns-then-titles-place-eq1-clause-plain c = λ cells folded ends.
    unseen_last (terms_of c.args.terms.now) c.args.words.now c.args.titles.now cells c.in_ok-place.place (laid (terms_of c.args.terms.now) c.args.words.now c.args.titles.now cells folded ends)
    (sym c.in_ok-place.ensures.value) (omega (arith, c.if-titles-place-eq1.true))

pub returns-clause-plain : goal.returns-clause-plain
returns-clause-plain c = λ cells folded ends.
    let one : count_by is_held c.args.titles.now ≡ 1 = omega (arith, c.count_places.ensures, c.if-count_places-ne1.false) in
    seen_plain (terms_of c.args.terms.now) c.args.words.now c.args.titles.now cells c.in_ok-place.place (laid (terms_of c.args.terms.now) c.args.words.now c.args.titles.now cells folded ends)
    (sym c.if-not-are_words.ensures) one (sym c.in_ok-place.ensures.value) (omega (arith, c.if-place-eq0.false)) (λ e. omega (arith, e, c.if-titles-place-eq1.false))
