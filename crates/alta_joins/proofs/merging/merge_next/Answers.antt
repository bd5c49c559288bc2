use Rattle.std.proofs.Common.{◌≡◌, ⊎_elim, Bool, true, false, List, sym, subst}
use Rattle.std.proofs.lemmas.Bool.{cases_Bool}
use Rattle.alta_content.specs.TermList.{TermList}
use Rattle.alta_joins.proofs.MergeRuns.{reads_done, reads_failed, went_none}
use Rattle.alta_joins.proofs.MergeSteps.{term_merged}
use Rattle.alta_joins.specs.Reading.{AreMergedTo}
use Rattle.alta_joins.proofs.merging.merge_next.Goals as goal

pub returns-in-Ok-merge_first-clause-merged : goal.returns-in-Ok-merge_first-clause-merged
returns-in-Ok-merge_first-clause-merged g c = λ image newest m.
    let tells = g.D.Disk.tells in
    let levels = c.args.levels.now in
    let spans = c.args.spans.now in
    let content = (g.D.Disk.state c.fill.new.disk).content in
    let rows = c.fill.new.rows in
    let filled = c.in-Ok.ensures.fills.merged image newest spans c.args.made.now m in
    let some = c.in-Ok-merge_first.some in
    ⊎_elim
    (λ (e : some ≡ true). term_merged tells image content newest spans levels rows c.fill.new.hand c.args.made.now filled c.merge_first.new.made c.merge_first.new.rests c.in-Ok.ensures.filled (c.in-Ok-merge_first.ensures.merged e))
    (λ (n : some ≡ false).
    subst (λ (made : List TermList). AreMergedTo tells image content newest spans levels rows c.merge_first.new.rests made) (sym (c.in-Ok-merge_first.ensures.made n))
    (subst (λ (hand : List (List TermList)). AreMergedTo tells image content newest spans levels rows hand c.args.made.now) (sym (c.in-Ok-merge_first.ensures.rests n)) filled))
    (cases_Bool some)

pub returns-in-Ok-merge_first-clause-reads : goal.returns-in-Ok-merge_first-clause-reads
returns-in-Ok-merge_first-clause-reads g c =
    reads_done g.D.Disk.tells c.args.levels.now c.args.rows.now c.fill.new.rows (g.D.Disk.state c.args.disk.now) (g.D.Disk.state c.fill.new.disk) c.in-Ok.ensures.fills.reads.cost Bool c.in-Ok-merge_first.some

pub returns-in-Err-clause-reads : goal.returns-in-Err-clause-reads
returns-in-Err-clause-reads g c =
    let old = g.D.Disk.state c.args.disk.now in
    reads_failed g.D.Disk.tells c.args.levels.now c.args.rows.now c.args.rows.now old old (went_none g.D.Disk.tells c.args.levels.now c.args.rows.now old (g.met.D.Disk.lawful c.args.disk.now)) (Unit {0}) Bool
    c.in-Err.fault c.fill.new.rows (g.D.Disk.state c.fill.new.disk) c.in-Err.ensures.fills.reads
