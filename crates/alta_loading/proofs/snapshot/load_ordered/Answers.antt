use Rattle.std.proofs.Common.{◌≡◌, ◌++◌, refl, List, Err, Ok, Vec, Global, map, sym, subst, ap, ◌∙◌, rules}
use Rattle.std.specs.Prelude.{All, flat_map}
use Rattle.alta_machine.specs.PlanOf.{plan_of}
use Rattle.alta_disk.specs.Calls.{Reads}
use Rattle.alta_meaning.specs.Levels.{documents_of}
use Rattle.alta_meaning.specs.Ordered.{RowsPrecede}
use Rattle.alta_loading.specs.Loads.{IsWhole, ReadsLists, load_sizes}
use Rattle.alta_loading.specs.Met.{each_once, keys_met, loads_of_tests, lists_met}
use Rattle.alta_loading.specs.Snapshots.{all_rows, loaded_view}
use Rattle.alta_loading.proofs.Cuts.{all_keyed, all_meet}
use Rattle.alta_loading.proofs.Loaded.{once_loaded, tests_whole, view_is}
use Rattle.alta_loading.proofs.Runs.{loads_fault, loads_value, tells_fault}
use Rattle.alta_loading.proofs.TestedEnds.{mark_right}
use Rattle.alta_machine.specs.Deciding.{answers}
use Rattle.alta_machine.specs.declared.test.Test.{Test}
use Rattle.alta_search.specs.Documents.{AreToCome}
use Rattle.alta_search.specs.Lists.{AreKeys}
use Rattle.alta_search.specs.Order.{used}
use Rattle.alta_search.specs.Shown.{ShowsDocuments}
use Rattle.alta_search.specs.Tops.{AreToRank}
use Rattle.alta_search.specs.View.{View}
use Rattle.alta_search.specs.declared.lists.TestLists.{TestLists}
use Rattle.alta_search.specs.declared.snapshot.Snapshot.{Snapshot}
use Rattle.alta_table.specs.Tables.{Tables}
use Rattle.alta_loading.proofs.snapshot.load_ordered.Goals as goal

pub new-requires-clause-keyed : goal.new-requires-clause-keyed
new-requires-clause-keyed g c = subst (All AreKeys) (sym c.in-Ok.ensures.keys) (all_keyed c.args.levels.now c.args.newest.now.content c.into_vec.result.items)

pub new-requires-clause-met : goal.new-requires-clause-met
new-requires-clause-met g c =
    all_meet c.args.levels.now c.args.newest.now.content c.in-Ok.tests.items
    (c.in-Ok.ensures.keys ∙ ap (map (keys_met c.args.levels.now c.args.newest.now.content)) (sym c.in-Ok.ensures.tests))

pub returns-in_ok-gone-in-Ok-clause-view : goal.returns-in_ok-gone-in-Ok-clause-view
returns-in_ok-gone-in-Ok-clause-view g c = λ told.
    let order = c.args.order in let levels = c.args.levels.now in let newest = c.args.newest.now.content in
    let image = (g.D.Disk.state c.args.disk.now).content in
    let items : c.into_vec.result.items ≡ order.tests = c.into_vec.ensures ∙ c.into_parts-tests.ensures.tests in
    view_is levels newest image c.args.gone.now order c.in-Ok.tests.items c.into_parts-tests.result.1.items (used c.args.order) c.new.result
    c.into_parts-tests.ensures.order c.into_parts-tests.ensures.uses refl
    (c.in-Ok.ensures.tests ∙ items) (c.in-Ok.ensures.keys ∙ ap (map (keys_met levels newest)) items) (c.in-Ok.ensures.lists told ∙ ap (map (lists_met levels newest image)) items)
    c.new.ensures.tests c.new.ensures.keys c.new.ensures.cuts (c.new.ensures.rows ∙ c.requires.rows) (c.new.ensures.gone ∙ c.in_ok-gone-in-Ok.ensures.items)

pub returns-in_ok-gone-in-Ok-clause-answers : goal.returns-in_ok-gone-in-Ok-clause-answers
returns-in_ok-gone-in-Ok-clause-answers g c = λ told contents behind q same written has.
    let newest = c.args.newest.now.content in let gone = c.args.gone.now in let tests = used c.args.order in
    let image = (g.D.Disk.state c.args.disk.now).content in
    let wanted = answers (flat_map (documents_of gone) contents ++ behind) q in
    subst (λ (v : View). AreToCome (plan_of q) v 0 wanted) (sym (returns-in_ok-gone-in-Ok-clause-view g c told))
    (subst (λ (levels : List Tables). AreToCome (plan_of q) (loaded_view levels newest image tests gone) 0 wanted) (sym same)
    (c.levels_and_newest_documents_answer.ensures contents image gone behind c.args.newest.now tests q written has
    (subst (λ (levels : List Tables). RowsPrecede (all_rows levels newest)) same c.requires.rise)))

pub returns-in_ok-gone-in-Ok-clause-ranked : goal.returns-in_ok-gone-in-Ok-clause-ranked
returns-in_ok-gone-in-Ok-clause-ranked g c = λ told contents behind q same written has.
    let newest = c.args.newest.now.content in let gone = c.args.gone.now in let tests = used c.args.order in
    let image = (g.D.Disk.state c.args.disk.now).content in
    let wanted = answers (flat_map (documents_of gone) contents ++ behind) q in
    subst (λ (v : View). AreToRank (plan_of q) v wanted) (sym (returns-in_ok-gone-in-Ok-clause-view g c told))
    (subst (λ (levels : List Tables). AreToRank (plan_of q) (loaded_view levels newest image tests gone) wanted) (sym same)
    (c.levels_and_newest_documents_are_ranked.ensures contents image gone behind c.args.newest.now tests q written has
    (subst (λ (levels : List Tables). RowsPrecede (all_rows levels newest)) same c.requires.rise)))

pub returns-in_ok-gone-in-Ok-clause-shown : goal.returns-in_ok-gone-in-Ok-clause-shown
returns-in_ok-gone-in-Ok-clause-shown g c = λ told contents behind same written has.
    let newest = c.args.newest.now.content in let gone = c.args.gone.now in let tests = used c.args.order in
    let image = (g.D.Disk.state c.args.disk.now).content in
    let wanted = flat_map (documents_of gone) contents ++ behind in
    subst (λ (v : View). ShowsDocuments v wanted) (sym (returns-in_ok-gone-in-Ok-clause-view g c told))
    (subst (λ (levels : List Tables). ShowsDocuments (loaded_view levels newest image tests gone) wanted) (sym same)
    (c.levels_and_newest_documents_are_shown.ensures contents image gone behind c.args.newest.now tests written has
    (subst (λ (levels : List Tables). RowsPrecede (all_rows levels newest)) same c.requires.rise)))

pub returns-in_ok-gone-in-Ok-clause-loads : goal.returns-in_ok-gone-in-Ok-clause-loads
returns-in_ok-gone-in-Ok-clause-loads g c =
    let order = c.args.order in let levels = c.args.levels.now in let newest = c.args.newest.now.content in
    let old = g.D.Disk.state c.args.disk.now in let new = g.D.Disk.state c.load_tests.new.disk in
    subst (λ (ts : List Test). ReadsLists {X = Snapshot} g.D.Disk.tells (loads_of_tests levels newest ts) old new (Ok c.new.result))
    (once_loaded order c.into_vec.result.items (used order) (c.into_vec.ensures ∙ c.into_parts-tests.ensures.tests) c.into_parts-tests.ensures.order refl)
    (loads_value {X = Vec TestLists Global} {Y = Snapshot} g.D.Disk.tells (loads_of_tests levels newest c.into_vec.result.items) old new c.in-Ok.tests c.new.result c.in-Ok.ensures.loads.retrieves.reads c.in-Ok.ensures.loads.told)

pub returns-in-Err-clause-loads : goal.returns-in-Err-clause-loads
returns-in-Err-clause-loads g c =
    let order = c.args.order in let levels = c.args.levels.now in let newest = c.args.newest.now.content in
    let old = g.D.Disk.state c.args.disk.now in let new = g.D.Disk.state c.load_tests.new.disk in
    subst (λ (ts : List Test). ReadsLists {X = Snapshot} g.D.Disk.tells (loads_of_tests levels newest ts) old new (Err c.in-Err.fault))
    (once_loaded order c.into_vec.result.items (used order) (c.into_vec.ensures ∙ c.into_parts-tests.ensures.tests) c.into_parts-tests.ensures.order refl)
    (loads_fault {X = Vec TestLists Global} {Y = Snapshot} g.D.Disk.tells (loads_of_tests levels newest c.into_vec.result.items) old new c.in-Err.fault c.in-Err.ensures.loads)

pub returns-in_ok-gone-in-Ok-clause-known : goal.returns-in_ok-gone-in-Ok-clause-known
returns-in_ok-gone-in-Ok-clause-known g c =
    let levels = c.args.levels.now in let newest = c.args.newest.now.content in let image = (g.D.Disk.state c.args.disk.now).content in
    record {
      ends = λ told.
          mark_right image levels newest c.as_slice.result.now c.args.kept.now.ends c.marked-mark.result c.marked-mark.ensures.only (c.requires.known.ends told)
          (subst (λ (ts : List Test). All (IsWhole image) (loads_of_tests levels newest ts)) (c.into_vec.ensures ∙ sym c.as_slice.ensures) (c.in-Ok.ensures.loads.told told).whole);
      lists = λ number level at. c.load_tests.ensures.known.lists number level at;
    }

pub returns-in_ok-gone-in-Ok-clause-tested : goal.returns-in_ok-gone-in-Ok-clause-tested
returns-in_ok-gone-in-Ok-clause-tested g c = λ more is.
    c.marked-mark.ensures.tested _
    (once_loaded c.args.order c.as_slice.result.now (used c.args.order) (c.as_slice.ensures ∙ c.into_parts-tests.ensures.tests) c.into_parts-tests.ensures.order refl ∙ ap each_once is)

pub returns-in-Err-clause-undamaged : goal.returns-in-Err-clause-undamaged
returns-in-Err-clause-undamaged g c = λ told contents same written.
    let newest = c.args.newest.now.content in
    let image = (g.D.Disk.state c.args.disk.now).content in let tests = c.into_vec.result.items in
    (tells_fault {X = Vec TestLists Global} {Y = Snapshot} image (loads_of_tests c.args.levels.now newest tests) c.in-Err.fault (c.in-Err.ensures.loads.told told)).only
    (subst (λ (levels : List Tables). All (IsWhole image) (loads_of_tests levels newest tests)) (sym same) (tests_whole contents image written newest tests))

pub returns-in_err-gone-in-Ok-clause-loads : goal.returns-in_err-gone-in-Ok-clause-loads
returns-in_err-gone-in-Ok-clause-loads g c =
    let order = c.args.order in let levels = c.args.levels.now in let newest = c.args.newest.now.content in
    let old = g.D.Disk.state c.args.disk.now in let new = g.D.Disk.state c.load_tests.new.disk in
    record {
      retrieves = record {
        reads =
            subst (λ (ts : List Test). Reads g.D.Disk.tells (load_sizes (loads_of_tests levels newest ts)) old new)
            (once_loaded order c.into_vec.result.items (used order) (c.into_vec.ensures ∙ c.into_parts-tests.ensures.tests) c.into_parts-tests.ensures.order refl)
            c.load_tests.ensures.loads.retrieves.reads;
        cause = search rules;
      };
      told = search rules;
    }
