use Rattle.std.proofs.Common.{◌≡◌, ℕ, List, [], ◌∷◌, ◌++◌, Vec, Global, Ok, Err, length, map, refl, sym, subst, ap, ◌∙◌, arith, rules}
use Rattle.std.proofs.lemmas.List.{map_push, take_at}
use Rattle.alta_content.specs.Lists.{locations_of}
use Rattle.alta_loading.proofs.Runs.{loads_value}
use Rattle.alta_loading.proofs.TermRuns.{key_is, reads_of, terms_cost, terms_ended, terms_on, told_of}
use Rattle.alta_loading.specs.Loads.{KeepRows, ReadsLists, list_at, loads_from}
use Rattle.alta_loading.specs.Near.{AreNear}
use Rattle.alta_loading.specs.Terms.{if_some, loads_of}
use Rattle.alta_search.proofs.Loads.{front-all, front-more}
use Rattle.alta_search.specs.Lists.{key_of, level_list, term_lists}
use Rattle.alta_search.specs.declared.lists.LevelList.{LevelList}
use Rattle.alta_search.specs.declared.lists.TermLists.{TermLists}
use Rattle.alta_loading.proofs.terms.load_terms.Goals as goal

none_left : (xs : List (List ℕ)) → length xs ≡ 0 → xs ≡ []
none_left [] z = refl
none_left (x ∷ xs) z = absurd (omega (arith, z))

pub loop-term-preserved : goal.loop-term-preserved
loop-term-preserved g c =
    let inv = c.loop-term.invariant in let pushed = c.in_ok-push-in-Ok.ensures.items in let l = c.in_ok-lists-in-Ok.lists in let is = c.in_ok-lists-in-Ok.ensures in
    let coded = c.in-Ok.ensures in let list = map level_list c.in-Ok.coded.items in
    let levels = c.args.levels.now in let newest = c.args.newest.now.content in let term = c.in-Some.term in let slice = c.as_slice.ensures in
    let mid = g.D.Disk.state c.loop-term.disk in let new = g.D.Disk.state c.load_coded.new.disk in
    let xs = c.loop-term.loaded.items in let ys = c.push.new.self.items in
    let left = c.loop-term.term-iterator.rest.items in let rest = c.next.new.self.rest.items in
    let here : left ≡ term ∷ rest = search rules in
    let done = map (λ (t : TermLists). t.term) xs in
    let now : map (λ (t : TermLists). t.term) ys ≡ done ++ term ∷ [] =
    ap (map (λ (t : TermLists). t.term)) pushed ∙ map_push (λ (t : TermLists). t.term) xs l ∙ ap (λ (t : List ℕ). done ++ t ∷ []) is.term in
    let same_nears : c.load_coded.new.nears ≡ c.loop-term.nears.items = c.load_coded.ensures.nears ∙ c.deref_mut.ensures.value in
    let long : length c.load_coded.new.nears ≡ c.loop-term.nears.len = omega (arith, ap length same_nears, c.loop-term.nears.ok.0) in
    record {
      nears = subst (AreNear levels) (sym (take_at c.load_coded.new.nears _ _ long ∙ same_nears)) inv.nears;
      known = c.load_coded.ensures.known;
      split = front-more (λ (t : TermLists). t.term) xs ys l pushed term left rest c.args.terms.items here is.term inv.split;
      run = terms_on g.D.Disk.tells levels newest done (map key_of xs) (map term_lists xs) (g.D.Disk.state c.args.disk.now) mid inv.run term new (reads_of g.D.Disk.tells levels _ term slice mid new coded.loads.retrieves.reads)
          (map key_of ys) (map term_lists ys) (map (λ (t : TermLists). t.term) ys) (key_of l) (term_lists l) now (ap (map key_of) pushed ∙ map_push key_of xs l) (ap (map term_lists) pushed ∙ map_push term_lists xs l)
          (key_is levels newest _ term slice l c.in-Ok.coded.items _ is.term coded.numbers refl is.numbers)
          (λ h. is.lists ∙ ap (λ (x : List (List ℕ)). x ++ if_some (locations_of newest.lists term)) (coded.lists h ∙ ap (λ (t : List ℕ). map (list_at mid.content) (loads_from 0 levels t)) slice))
          (λ h. told_of levels _ term slice mid.content c.in-Ok.coded (coded.loads.told h))
          (record { coded = list; kept = subst (λ (t : List ℕ). KeepRows (loads_from 0 levels t) list) slice coded.kept; lists_are = is.lists });
    }

pub returns-in-Err-clause-loads : goal.returns-in-Err-clause-loads
returns-in-Err-clause-loads g c =
    let inv = c.loop-term.invariant in let levels = c.args.levels.now in let term = c.in-Some.term in let xs = c.loop-term.loaded.items in
    let left = c.loop-term.term-iterator.rest.items in let rest = c.next.new.self.rest.items in
    let here : left ≡ term ∷ rest = search rules in
    let done = map (λ (t : TermLists). t.term) xs in
    let mid = g.D.Disk.state c.loop-term.disk in let new = g.D.Disk.state c.load_coded.new.disk in
    terms_ended g.D.Disk.tells levels c.args.newest.now.content done (map key_of xs) (map term_lists xs) (g.D.Disk.state c.args.disk.now) mid inv.run term new (reads_of g.D.Disk.tells levels _ term c.as_slice.ensures mid new c.in-Err.ensures.loads.retrieves.reads)
    {Y = Vec TermLists Global} rest c.args.terms.items c.in-Err.fault (ap (λ (l : List (List ℕ)). done ++ l) (sym here) ∙ inv.split)
    (subst (λ (t : List ℕ). ReadsLists {X = Vec LevelList Global} g.D.Disk.tells (loads_from 0 levels t) mid new (Err c.in-Err.fault)) c.as_slice.ensures c.in-Err.ensures.loads)

-- no memory for its lists
pub returns-in_err-lists-in-Ok-clause-loads : goal.returns-in_err-lists-in-Ok-clause-loads
returns-in_err-lists-in-Ok-clause-loads g c =
    let inv = c.loop-term.invariant in let levels = c.args.levels.now in let term = c.in-Some.term in let xs = c.loop-term.loaded.items in
    let left = c.loop-term.term-iterator.rest.items in let rest = c.next.new.self.rest.items in
    let here : left ≡ term ∷ rest = search rules in
    let mid = g.D.Disk.state c.loop-term.disk in let new = g.D.Disk.state c.load_coded.new.disk in
    let done = map (λ (t : TermLists). t.term) xs in record {
      retrieves = record {
        reads =
            terms_cost g.D.Disk.tells levels c.args.newest.now.content done (map key_of xs) (map term_lists xs) (g.D.Disk.state c.args.disk.now) mid inv.run term new (reads_of g.D.Disk.tells levels _ term c.as_slice.ensures mid new c.load_coded.ensures.loads.retrieves.reads)
            rest c.args.terms.items (ap (λ (l : List (List ℕ)). done ++ l) (sym here) ∙ inv.split);
        cause = search rules;
      };
      told = search rules;
    }

pub returns-in_err-push-in-Ok-clause-loads : goal.returns-in_err-push-in-Ok-clause-loads
returns-in_err-push-in-Ok-clause-loads g c =
    let inv = c.loop-term.invariant in let levels = c.args.levels.now in let term = c.in-Some.term in let xs = c.loop-term.loaded.items in
    let left = c.loop-term.term-iterator.rest.items in let rest = c.next.new.self.rest.items in
    let here : left ≡ term ∷ rest = search rules in
    let mid = g.D.Disk.state c.loop-term.disk in let new = g.D.Disk.state c.load_coded.new.disk in
    let done = map (λ (t : TermLists). t.term) xs in record {
      retrieves = record {
        reads =
            terms_cost g.D.Disk.tells levels c.args.newest.now.content done (map key_of xs) (map term_lists xs) (g.D.Disk.state c.args.disk.now) mid inv.run term new (reads_of g.D.Disk.tells levels _ term c.as_slice.ensures mid new c.load_coded.ensures.loads.retrieves.reads)
            rest c.args.terms.items (ap (λ (l : List (List ℕ)). done ++ l) (sym here) ∙ inv.split);
        cause = search rules;
      };
      told = search rules;
    }

pub returns-clause-loads : goal.returns-clause-loads
returns-clause-loads g c =
    let inv = c.loop-term.invariant in let xs = c.loop-term.loaded.items in let old = g.D.Disk.state c.args.disk.now in let new = g.D.Disk.state c.loop-term.disk in
    let h = c.in-None.ensures.steps in let left = c.loop-term.term-iterator.rest in
    let none : left.items ≡ [] = none_left left.items (omega (arith, left.ok, h.0)) in
    let done = map (λ (t : TermLists). t.term) xs in
    let all : done ≡ c.args.terms.items = front-all done c.loop-term.term-iterator.rest.items c.args.terms.items none inv.split in
    subst (λ (ts : List (List ℕ)). ReadsLists {X = Vec TermLists Global} g.D.Disk.tells (loads_of c.args.levels.now ts) old new (Ok c.loop-term.loaded)) all
    (loads_value {X = Unit {0}} {Y = Vec TermLists Global} g.D.Disk.tells (loads_of c.args.levels.now done) old new tt c.loop-term.loaded inv.run.reads inv.run.told)
