use Rattle.std.proofs.Common.{◌≡◌, ◌+◌, ◌-◌, ◌<◌, ◌≤◌, ℕ, List, length, subst, ap, ◌∙◌, arith}
use Rattle.std.specs.Global.{Vec}
use Rattle.std.specs.Prelude.{All, IfOk, Result, Ok, Err}
use Rattle.alta_compile.specs.Space.{Placed}
use Rattle.alta_compile.specs.View.{tree}
use Rattle.alta_machine.specs.Patterns.{title_end}
use Rattle.alta_search.specs.Answers.{coming}
use Rattle.alta_search.specs.Plans.{lists, locations, tests_of}
use Rattle.alta_search.specs.Told.{rows_at}
use Rattle.alta_search.specs.View.{Shows, View}
use Rattle.alta_search.proofs.Sections.{first_shows}
use Rattle.alta_top.proofs.Tops.{front_of, one_less, walk_steps}
use Rattle.alta_top.proofs.ranking.all_answered.Goals as goal

pub answered-picks-requires-clause-tests : goal.answered-picks-requires-clause-tests
answered-picks-requires-clause-tests g c =
    let v = c.args.snapshot.now in
    ap (λ (x : View). x.tests) c.first-section.ensures
    ∙ front_of (c.len.result - 1) v.tests (tests_of (tree c.args.plan.now)) title_end c.requires.tests
    (one_less c.len.result (length v.tests) v.tests (tests_of (tree c.args.plan.now)) title_end c.requires.tests c.len.ensures.tests c.len.ensures.tests)

-- of an answer that is there, what follows from a fact of it
on_ok : {A E : Type 0} (r : Result A E) (P Q : A → Type 0) → ((a : A) → P a → Q a) → IfOk r P → IfOk r Q
on_ok (Ok a) P Q f p = f a p
on_ok (Err e) P Q f p = tt

pub returns-clause-inside : goal.returns-clause-inside
returns-clause-inside g c =
    subst (λ (x : View). IfOk c.answered-picks.result (λ (picks : Vec ℕ). All (λ i. i < length x.rows) picks.items)) c.first-section.ensures c.answered-picks.ensures.inside

pub returns-clause-answers : goal.returns-clause-answers
returns-clause-answers g c =
    let v = c.args.snapshot.now in let p = tree c.args.plan.now in let section = c.first-section.result in
    on_ok c.answered-picks.result
    (λ (picks : Vec ℕ). (space : List Placed) → Shows space section → rows_at section.rows picks.items ≡ coming space p section 0)
    (λ (picks : Vec ℕ). (space : List Placed) → Shows space v → rows_at v.rows picks.items ≡ coming space p v 0)
    (λ picks answers. λ space shows.
    subst (λ (x : View). (space : List Placed) → Shows space x → rows_at x.rows picks.items ≡ coming space p x 0) c.first-section.ensures answers space
    (first_shows (c.len.result - 1) space v shows))
    c.answered-picks.ensures.walks.answer

pub returns-clause-most : goal.returns-clause-most
returns-clause-most g c =
    let v = c.args.snapshot.now in
    walk_steps v (c.len.result - 1) c.args.steps.now c.answered-picks.new.steps
    (one_less c.len.result (length v.cuts) v.tests (tests_of (tree c.args.plan.now)) title_end c.requires.tests c.len.ensures.tests c.len.ensures.cuts)
    (subst (λ (x : View). c.answered-picks.new.steps ≤ c.args.steps.now + locations x.cuts + lists x.cuts) c.first-section.ensures c.answered-picks.ensures.walks.most)

pub returns-in_err-found-clause-most : goal.returns-in_err-found-clause-most
returns-in_err-found-clause-most g c =
    let v = c.args.snapshot.now in
    walk_steps v (c.len.result - 1) c.args.steps.now c.args.steps.now
    (one_less c.len.result (length v.cuts) v.tests (tests_of (tree c.args.plan.now)) title_end c.requires.tests c.len.ensures.tests c.len.ensures.cuts) (omega arith)
