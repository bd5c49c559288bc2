use Rattle.std.proofs.Common.{◌++◌, sym, arith}
use Rattle.std.proofs.lemmas.List.Elements.{Contains-append_left}
use Rattle.std.proofs.lemmas.Option.{get_or_from_slice_get}
use Rattle.alta_meaning.specs.Opened.{table_rows}
use Rattle.alta_catalog.specs.Finding.{AreOther}
use Rattle.alta_catalog.proofs.FindingLaws.{found_at, if_none, if_some, none_at, others_both}
use Rattle.alta_catalog.proofs.finding.find.Goals as goal

pub returns-in-Some-clause-some : goal.returns-in-Some-clause-some
returns-in-Some-clause-some c = λ follow.
    let rows = c.args.memory.now.content.documents in
    found_at c.args.first rows follow (table_rows c.args.levels.now) c.args.number c.in-Some.index c.row.result.now (omega (arith, c.in-Some.ensures.some.0, c.len.ensures)) c.in-Some.ensures.some.1
    (sym (get_or_from_slice_get rows c.in-Some.index c.row.result.now c.row.result.now c.row.ensures))

pub returns-in-None-clause-some : goal.returns-in-None-clause-some
returns-in-None-clause-some c = λ follow.
    if_some c.level_row.result _ _ (λ row found. (Contains-append_left (table_rows c.args.levels.now) c.args.memory.now.content.documents row.now found.0, found.1)) c.level_row.ensures.some

pub returns-in-None-clause-none : goal.returns-in-None-clause-none
returns-in-None-clause-none c = λ follow.
    let rows = c.args.memory.now.content.documents in
    let levels = table_rows c.args.levels.now in
    if_none c.level_row.result (AreOther c.args.number levels) (AreOther c.args.number (levels ++ rows))
    (λ others. others_both c.args.first rows follow levels c.args.number others
    (none_at c.args.first rows follow levels c.args.number (λ from below. c.in-None.ensures.none from (omega (arith, below, c.len.ensures))))) c.level_row.ensures.none
