use Rattle.std.proofs.Common.{refl, ◌≡◌, List, ℕ, [], ◌∷◌, ◌+◌, ◌++◌, take, drop, Vec, Global, map, sym, subst, ap, ◌∙◌, rules, append-nil}
use Rattle.std.specs.Prelude.{Some, None}
use Rattle.std.proofs.lemmas.List.{map_push}
use Rattle.std.proofs.lemmas.List.Elements.{All-get_or}
use Rattle.std.proofs.lemmas.Option.{slice_get_read}
use Rattle.alta_loading.proofs.KeptLaws.{kept_next}
use Rattle.alta_loading.proofs.RowNear.{near_at}
use Rattle.alta_loading.proofs.Runs.{Run, keep_join, loads_at, loads_whole, run_cost, run_ended, run_on, tells_value}
use Rattle.alta_loading.proofs.TestedEnds.{one_tested}
use Rattle.alta_search.specs.Lists.{level_in, level_list}
use Rattle.alta_loading.specs.Lists.{LiesWithin}
use Rattle.alta_loading.specs.Loads.{KeepRows, Load, load_at, loads_from}
use Rattle.alta_search.specs.declared.lists.LevelList.{LevelList}
use Rattle.alta_loading.proofs.term.load_coded.Goals as goal

pub row_of-requires : goal.row_of-requires
row_of-requires g c = λ d within.
    near_at c.args.levels.now c.args.nears.now c.loop-number.nears c.loop-number.number c.index-levels-number.result d c.requires.nears c.loop-number.invariant.nears c.index-levels-number.is within

pub load_row-requires-clause-within : goal.load_row-requires-clause-within
load_row-requires-clause-within g c = λ told.
    let x = c.index-levels-number.result in let i = c.loop-number.number in
    subst (λ (s : List ℕ). LiesWithin x s) (sym (c.loop-number.invariant.run.reads.content told))
    (subst (λ t. LiesWithin t (g.D.Disk.state c.args.disk.now).content) (sym c.index-levels-number.is)
    (All-get_or (λ t. LiesWithin t (g.D.Disk.state c.args.disk.now).content) c.args.levels.now i x c.loop-number-test.true (c.requires.within told)))

pub load_row-requires-clause-ends : goal.load_row-requires-clause-ends
load_row-requires-clause-ends g c = λ told.
    one_tested c.loop-number.kept.ends (g.D.Disk.state c.loop-number.disk).content c.args.levels.now c.loop-number.number c.index-levels-number.result c.loop-number-test.true c.index-levels-number.is
    (c.loop-number.invariant.known.ends told)

pub load_row-requires-clause-tested : goal.load_row-requires-clause-tested
load_row-requires-clause-tested g c =
    c.loop-number.invariant.known.lists c.loop-number.number c.index-levels-number.result (slice_get_read c.args.levels.now _ c.loop-number.number c.index-levels-number.result refl c.loop-number-test.true c.index-levels-number.is)

-- the level has the term
pub loop-number-preserved : goal.loop-number-preserved
loop-number-preserved g c =
    let x = c.index-levels-number.result in let i = c.loop-number.number in let levels = c.args.levels.now in let term = c.args.term.now in
    let loads = loads_from 0 (take i levels) term in let more = load_at i x (Some c.in-Some.row.row) in
    let xs = c.loop-number.lists.items in let ys = c.push.new.self.items in let list = c.in-Ok.list in let is = c.in-Ok.ensures in
    let pushed = c.in_ok-push-in-Ok.ensures.items in
    let old = g.D.Disk.state c.args.disk.now in let mid = g.D.Disk.state c.loop-number.disk in let new = g.D.Disk.state c.load_row.new.disk in
    let numbers : map level_in ys ≡ map level_in xs ++ i ∷ [] = ap (map level_in) pushed ∙ map_push level_in xs list ∙ ap (λ (n : ℕ). map level_in xs ++ n ∷ []) is.number in
    let lists : map level_list ys ≡ map level_list xs ++ level_list list ∷ [] = ap (map level_list) pushed ∙ map_push level_list xs list in
    let run =
    run_on g.D.Disk.tells loads (map level_in xs) (map level_list xs) old mid c.loop-number.invariant.run more new c.load_row.ensures.loads.retrieves.reads (map level_in ys) (map level_list ys) numbers
    (λ told. lists ∙ ap (λ (l : List ℕ). map level_list xs ++ l ∷ []) (is.list told))
    (λ told. tells_value {X = LevelList} {Y = Unit {0}} mid.content more list tt (is.loads.told told))
    (λ before h. subst (KeepRows (before ++ more)) (sym lists) (keep_join before more (map level_list xs) (level_list list ∷ []) h (is.kept, tt))) in
    record {
      run = subst (λ (l : List Load). Run g.D.Disk.tells l (map level_in ys) (map level_list ys) old new) (loads_at i levels term x (Some c.in-Some.row.row) c.loop-number-test.true c.index-levels-number.is c.in-Some.ensures.row) run;
      nears = c.row_of.ensures.kept ∙ c.loop-number.invariant.nears;
      known = kept_next g.D.Disk.tells mid.content new.content levels i x c.loop-number.kept c.load_row.new.kept
          c.load_row.ensures.loads.retrieves.reads.content c.loop-number-test.true c.index-levels-number.is c.loop-number.invariant.known c.load_row.ensures.keeps;
    }

-- it has not
pub loop-number-preserved-in_default : goal.loop-number-preserved-in_default
loop-number-preserved-in_default g c =
    let x = c.index-levels-number.result in let i = c.loop-number.number in let levels = c.args.levels.now in let term = c.args.term.now in
    let xs = c.loop-number.lists.items in
    let same = sym (append-nil (loads_from 0 (take i levels) term)) ∙ loads_at i levels term x None c.loop-number-test.true c.index-levels-number.is c.in_default.ensures.row in
    record {
      run = subst (λ (l : List Load). Run g.D.Disk.tells l (map level_in xs) (map level_list xs) (g.D.Disk.state c.args.disk.now) (g.D.Disk.state c.loop-number.disk)) same c.loop-number.invariant.run;
      nears = c.row_of.ensures.kept ∙ c.loop-number.invariant.nears;
      known = c.loop-number.invariant.known;
    }

-- its list was not loaded
pub returns-in-Err-clause-loads : goal.returns-in-Err-clause-loads
returns-in-Err-clause-loads g c =
    let x = c.index-levels-number.result in let i = c.loop-number.number in let levels = c.args.levels.now in let term = c.args.term.now in
    let row = Some c.in-Some.row.row in
    run_ended g.D.Disk.tells (loads_from 0 (take i levels) term) (map level_in c.loop-number.lists.items) (map level_list c.loop-number.lists.items) (g.D.Disk.state c.args.disk.now) (g.D.Disk.state c.loop-number.disk) c.loop-number.invariant.run
    (load_at i x row) (g.D.Disk.state c.load_row.new.disk) c.load_row.ensures.loads.retrieves.reads {Y = Vec LevelList Global} (loads_from (0 + (i + 1)) (drop (i + 1) levels) term) (loads_from 0 levels term) c.in-Err.fault
    (loads_whole i levels term x row c.loop-number-test.true c.index-levels-number.is c.in-Some.ensures.row)
    c.in-Err.ensures.loads

pub returns-in-Err-clause-nears : goal.returns-in-Err-clause-nears
returns-in-Err-clause-nears g c = c.row_of.ensures.kept ∙ c.loop-number.invariant.nears

pub returns-in-Err-clause-known : goal.returns-in-Err-clause-known
returns-in-Err-clause-known g c =
    kept_next g.D.Disk.tells (g.D.Disk.state c.loop-number.disk).content (g.D.Disk.state c.load_row.new.disk).content c.args.levels.now c.loop-number.number c.index-levels-number.result c.loop-number.kept c.load_row.new.kept
    c.load_row.ensures.loads.retrieves.reads.content c.loop-number-test.true c.index-levels-number.is c.loop-number.invariant.known c.load_row.ensures.keeps

-- no memory for one list more
pub returns-in_err-push-in-Ok-clause-loads : goal.returns-in_err-push-in-Ok-clause-loads
returns-in_err-push-in-Ok-clause-loads g c = record {
  retrieves = record {
    reads =
        let x = c.index-levels-number.result in let i = c.loop-number.number in let levels = c.args.levels.now in let term = c.args.term.now in
        let row = Some c.in-Some.row.row in
        run_cost g.D.Disk.tells (loads_from 0 (take i levels) term) (map level_in c.loop-number.lists.items) (map level_list c.loop-number.lists.items) (g.D.Disk.state c.args.disk.now) (g.D.Disk.state c.loop-number.disk) c.loop-number.invariant.run
        (load_at i x row) (g.D.Disk.state c.load_row.new.disk) c.load_row.ensures.loads.retrieves.reads (loads_from (0 + (i + 1)) (drop (i + 1) levels) term) (loads_from 0 levels term)
        (loads_whole i levels term x row c.loop-number-test.true c.index-levels-number.is c.in-Some.ensures.row);
    cause = search rules;
  };
  told = search rules;
}

pub returns-in_err-push-in-Ok-clause-nears : goal.returns-in_err-push-in-Ok-clause-nears
returns-in_err-push-in-Ok-clause-nears g c = c.row_of.ensures.kept ∙ c.loop-number.invariant.nears

pub returns-in_err-push-in-Ok-clause-known : goal.returns-in_err-push-in-Ok-clause-known
returns-in_err-push-in-Ok-clause-known g c =
    kept_next g.D.Disk.tells (g.D.Disk.state c.loop-number.disk).content (g.D.Disk.state c.load_row.new.disk).content c.args.levels.now c.loop-number.number c.index-levels-number.result c.loop-number.kept c.load_row.new.kept
    c.load_row.ensures.loads.retrieves.reads.content c.loop-number-test.true c.index-levels-number.is c.loop-number.invariant.known c.load_row.ensures.keeps

pub returns-clause-nears : goal.returns-clause-nears
returns-clause-nears g c = c.loop-number.invariant.nears
