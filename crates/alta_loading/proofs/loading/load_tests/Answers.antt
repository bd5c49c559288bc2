use Rattle.std.proofs.Common.{◌≡◌, ℕ, List, [], ◌∷◌, ◌++◌, Vec, Global, Ok, Err, length, map, refl, sym, subst, ap, ◌∙◌, arith, rules}
use Rattle.std.proofs.lemmas.List.{map_push}
use Rattle.alta_loading.proofs.KeptLaws.{kept_moved}
use Rattle.alta_loading.proofs.Cuts.{terms_cut}
use Rattle.alta_loading.proofs.Runs.{loads_value}
use Rattle.alta_loading.proofs.TestRuns.{reads_met, tests_before, tests_cost, tests_ended, tests_on, told_met}
use Rattle.alta_loading.specs.Loads.{ReadsLists}
use Rattle.alta_loading.specs.Met.{loads_of_tests}
use Rattle.alta_loading.specs.Terms.{lists_of_term, loads_of, term_key}
use Rattle.alta_machine.specs.declared.test.Test.{Test}
use Rattle.alta_search.proofs.Loads.{front-all, front-more}
use Rattle.alta_search.specs.Lists.{test_in, test_keys, test_lists}
use Rattle.alta_search.specs.declared.lists.TestLists.{TestLists}
use Rattle.alta_search.specs.declared.lists.TermLists.{TermLists}
use Rattle.alta_loading.proofs.loading.load_tests.Goals as goal

none_left : (xs : List Test) → length xs ≡ 0 → xs ≡ []
none_left [] z = refl
none_left (x ∷ xs) z = absurd (omega (arith, z))

pub loop-test-preserved : goal.loop-test-preserved
loop-test-preserved g c =
    let inv = c.loop-test.invariant in let pushed = c.in_ok-push-in-Ok.ensures.items in let is = c.in-Ok.ensures in
    let levels = c.args.levels.now in let newest = c.args.newest.now.content in let test = c.in-Some.test in let met = c.in_ok-met.ensures in
    let l : TestLists = record { test = test; terms = c.in-Ok.terms } in
    let mid = g.D.Disk.state c.loop-test.disk in let new = g.D.Disk.state c.load_terms.new.disk in
    let xs = c.loop-test.tests.items in let ys = c.push.new.self.items in
    let left = c.loop-test.test-iterator.rest.items in let rest = c.next.new.self.rest.items in
    let here : left ≡ test ∷ rest = search rules in
    let now : map test_in ys ≡ map test_in xs ++ test ∷ [] = ap (map test_in) pushed ∙ map_push test_in xs l in record {
      known = kept_moved g.D.Disk.tells new.content (g.D.Disk.state c.args.disk.now).content (λ told. is.loads.retrieves.reads.content told ∙ inv.run.reads.content told) levels c.load_terms.new.kept c.load_terms.ensures.known;
      split = front-more test_in xs ys l pushed test left rest c.args.order.items here refl inv.split;
      run = tests_on g.D.Disk.tells levels newest (map test_in xs) (map test_keys xs) (map test_lists xs) (g.D.Disk.state c.args.disk.now) mid inv.run test new (reads_met g.D.Disk.tells levels newest test _ met mid new is.loads.retrieves.reads)
          (map test_keys ys) (map test_lists ys) (map test_in ys) (test_keys l) (test_lists l) now (ap (map test_keys) pushed ∙ map_push test_keys xs l) (ap (map test_lists) pushed ∙ map_push test_lists xs l)
          (is.keys ∙ ap (map (term_key levels newest)) met) (λ h. is.lists h ∙ ap (map (lists_of_term levels newest mid.content)) met)
          (λ h. told_met levels newest test _ met mid.content c.in-Ok.terms (is.loads.told h))
          (terms_cut levels newest _ (test_lists l) c.requires.newest.added c.requires.newest.content c.requires.rise is.kept);
    }

pub returns-in-Err-clause-loads : goal.returns-in-Err-clause-loads
returns-in-Err-clause-loads g c =
    let inv = c.loop-test.invariant in let levels = c.args.levels.now in let newest = c.args.newest.now.content in let test = c.in-Some.test in let xs = c.loop-test.tests.items in
    let left = c.loop-test.test-iterator.rest.items in let rest = c.next.new.self.rest.items in
    let here : left ≡ test ∷ rest = search rules in
    let mid = g.D.Disk.state c.loop-test.disk in let new = g.D.Disk.state c.load_terms.new.disk in let met = c.in_ok-met.ensures in
    tests_ended g.D.Disk.tells levels newest (map test_in xs) (map test_keys xs) (map test_lists xs) (g.D.Disk.state c.args.disk.now) mid inv.run test new (reads_met g.D.Disk.tells levels newest test _ met mid new c.in-Err.ensures.loads.retrieves.reads)
    {Y = Vec TestLists Global} rest c.args.order.items c.in-Err.fault (ap (λ (l : List Test). map test_in xs ++ l) (sym here) ∙ inv.split)
    (subst (λ (ts : List (List ℕ)). ReadsLists {X = Vec TermLists Global} g.D.Disk.tells (loads_of levels ts) mid new (Err c.in-Err.fault)) met c.in-Err.ensures.loads)

pub returns-in_err-push-in-Ok-clause-loads : goal.returns-in_err-push-in-Ok-clause-loads
returns-in_err-push-in-Ok-clause-loads g c =
    let inv = c.loop-test.invariant in let levels = c.args.levels.now in let newest = c.args.newest.now.content in let test = c.in-Some.test in let xs = c.loop-test.tests.items in
    let left = c.loop-test.test-iterator.rest.items in let rest = c.next.new.self.rest.items in
    let here : left ≡ test ∷ rest = search rules in record {
      retrieves = record {
        reads =
            tests_cost g.D.Disk.tells levels newest (map test_in xs) (map test_keys xs) (map test_lists xs) (g.D.Disk.state c.args.disk.now) (g.D.Disk.state c.loop-test.disk) inv.run test (g.D.Disk.state c.load_terms.new.disk)
            (reads_met g.D.Disk.tells levels newest test _ c.in_ok-met.ensures (g.D.Disk.state c.loop-test.disk) (g.D.Disk.state c.load_terms.new.disk) c.load_terms.ensures.loads.retrieves.reads)
            rest c.args.order.items (ap (λ (l : List Test). map test_in xs ++ l) (sym here) ∙ inv.split);
        cause = search rules;
      };
      told = search rules;
    }

pub returns-clause-loads : goal.returns-clause-loads
returns-clause-loads g c =
    let inv = c.loop-test.invariant in let xs = c.loop-test.tests.items in let old = g.D.Disk.state c.args.disk.now in let new = g.D.Disk.state c.loop-test.disk in
    let levels = c.args.levels.now in let newest = c.args.newest.now.content in
    let h = c.in-None.ensures.steps in let left = c.loop-test.test-iterator.rest in
    let none : left.items ≡ [] = none_left left.items (omega (arith, left.ok, h.0)) in
    let done = map test_in xs in
    let all : done ≡ c.args.order.items = front-all done left.items c.args.order.items none inv.split in
    subst (λ (ts : List Test). ReadsLists {X = Vec TestLists Global} g.D.Disk.tells (loads_of_tests levels newest ts) old new (Ok c.loop-test.tests)) all
    (loads_value {X = Unit {0}} {Y = Vec TestLists Global} g.D.Disk.tells (loads_of_tests levels newest done) old new tt c.loop-test.tests inv.run.reads inv.run.told)

pub load_terms-requires-clause-known : goal.load_terms-requires-clause-known
load_terms-requires-clause-known g c =
    kept_moved g.D.Disk.tells (g.D.Disk.state c.args.disk.now).content (g.D.Disk.state c.loop-test.disk).content (λ told. sym (c.loop-test.invariant.run.reads.content told)) c.args.levels.now c.loop-test.kept c.loop-test.invariant.known

pub returns-in-Err-clause-known : goal.returns-in-Err-clause-known
returns-in-Err-clause-known g c =
    kept_moved g.D.Disk.tells (g.D.Disk.state c.load_terms.new.disk).content (g.D.Disk.state c.args.disk.now).content
    (λ told. c.load_terms.ensures.loads.retrieves.reads.content told ∙ c.loop-test.invariant.run.reads.content told) c.args.levels.now c.load_terms.new.kept c.load_terms.ensures.known

pub returns-in_err-push-in-Ok-clause-known : goal.returns-in_err-push-in-Ok-clause-known
returns-in_err-push-in-Ok-clause-known g c =
    kept_moved g.D.Disk.tells (g.D.Disk.state c.load_terms.new.disk).content (g.D.Disk.state c.args.disk.now).content
    (λ told. c.load_terms.ensures.loads.retrieves.reads.content told ∙ c.loop-test.invariant.run.reads.content told) c.args.levels.now c.load_terms.new.kept c.load_terms.ensures.known

-- no memory for the terms of a test
pub returns-in_err-met-clause-loads : goal.returns-in_err-met-clause-loads
returns-in_err-met-clause-loads g c =
    let inv = c.loop-test.invariant in let levels = c.args.levels.now in let newest = c.args.newest.now.content in let test = c.in-Some.test in let xs = c.loop-test.tests.items in
    let left = c.loop-test.test-iterator.rest.items in let rest = c.next.new.self.rest.items in
    let here : left ≡ test ∷ rest = search rules in record {
      retrieves = record {
        reads = tests_before g.D.Disk.tells levels newest (map test_in xs) (map test_keys xs) (map test_lists xs) (g.D.Disk.state c.args.disk.now) (g.D.Disk.state c.loop-test.disk) inv.run
            (test ∷ rest) c.args.order.items (ap (λ (l : List Test). map test_in xs ++ l) (sym here) ∙ inv.split);
        cause = search rules;
      };
      told = search rules;
    }

pub returns-in_err-met-clause-known : goal.returns-in_err-met-clause-known
returns-in_err-met-clause-known g c = c.loop-test.invariant.known
