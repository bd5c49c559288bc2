use Rattle.std.proofs.Common.{ℕ, List, map, sym, subst, ◌∙◌}
use Rattle.alta_machine.specs.PlanOf.{plan_of}
use Rattle.alta_meaning.specs.Ordered.{RowsPrecede}
use Rattle.alta_meaning.specs.Standing.{tables_by}
use Rattle.alta_loading.specs.Snapshots.{all_rows, loaded_view}
use Rattle.alta_machine.specs.declared.document.Document.{Document}
use Rattle.alta_machine.specs.Deciding.{answers}
use Rattle.alta_search.specs.Documents.{AreToCome}
use Rattle.alta_search.specs.Plans.{tests_of}
use Rattle.alta_search.specs.View.{View}
use Rattle.alta_table.specs.Tables.{Tables}
use Rattle.alta_session.proofs.laws.a_search_answers_what_matches.Goals as goal

pub returns : goal.returns
returns g c = λ disk store s q found tell agrees stands are.
    let image : List ℕ = (g.D.Disk.state disk).content in
    let finds = c.a_search_sees_the_state.ensures.finds disk store agrees s tell stands are.levels are.newest are.gone are.rows are.searched in
    let rise : RowsPrecede (all_rows are.levels are.newest.content) = subst RowsPrecede are.searched.rows_are are.searched.rise in
    let come = c.levels_and_newest_documents_answer.ensures finds.contents image are.gone finds.behind are.newest (tests_of (plan_of q)) q finds.segments finds.has (subst (λ (levels : List Tables). RowsPrecede (all_rows levels are.newest.content)) finds.tables rise) in
    let here : AreToCome (plan_of q) are.snapshot 0 (answers s.documents q) =
    subst (λ (v : View). AreToCome (plan_of q) v 0 (answers s.documents q)) (sym are.loaded)
    (subst (λ (levels : List Tables). AreToCome (plan_of q) (loaded_view levels are.newest.content image (tests_of (plan_of q)) are.gone) 0 (answers s.documents q)) (sym finds.tables)
    (subst (λ (documents : List Document). AreToCome (plan_of q) (loaded_view (map tables_by finds.contents) are.newest.content image (tests_of (plan_of q)) are.gone) 0 (answers documents q)) (sym finds.documents) come)) in
    are.answers here.space here.shows ∙ here.answers
