use Rattle.std.proofs.Common.{◌≡◌, subst}
use Rattle.std.specs.Prelude.{IfSome}
use Rattle.alta_loading.proofs.RowNear.{among}
use Rattle.alta_table.specs.Places.{TermAt, row_at}
use Rattle.alta_table.specs.Tables.{Tables}
use Rattle.alta_loading.proofs.RowOf.{row_found, row_has, row_within}
use Rattle.alta_loading.proofs.term.row_of.Goals as goal

pub returns-then-number-among-clause-row : goal.returns-then-number-among-clause-row
returns-then-number-among-clause-row c =
    let level = c.args.level.now in
    row_found level.terms c.args.term.now (row_at c.row_among.result) c.documents-documents.ensures.kept.terms_stand
    (among (row_at c.row_among.result) _ level c.args.term.now (c.requires level c.if-number-among.true) (c.row_among.ensures.row level))

pub returns-then-number-among-clause-within : goal.returns-then-number-among-clause-within
returns-then-number-among-clause-within c =
    let level = c.args.level.now in
    row_within level.terms c.args.term.now (row_at c.row_among.result)
    (among (row_at c.row_among.result) _ level c.args.term.now (c.requires level c.if-number-among.true) (c.row_among.ensures.row level))

pub returns-then-number-among-clause-term : goal.returns-then-number-among-clause-term
returns-then-number-among-clause-term c =
    let level = c.args.level.now in
    row_has level.terms c.args.term.now (row_at c.row_among.result)
    (among (row_at c.row_among.result) _ level c.args.term.now (c.requires level c.if-number-among.true) (c.row_among.ensures.row level))

pub returns-else-number-among-clause-row : goal.returns-else-number-among-clause-row
returns-else-number-among-clause-row c = row_found c.args.level.now.terms c.args.term.now (row_at c.row_alone.result) c.documents-documents.ensures.kept.terms_stand c.row_alone.ensures.row

pub returns-else-number-among-clause-within : goal.returns-else-number-among-clause-within
returns-else-number-among-clause-within c = row_within c.args.level.now.terms c.args.term.now (row_at c.row_alone.result) c.row_alone.ensures.row

pub returns-else-number-among-clause-term : goal.returns-else-number-among-clause-term
returns-else-number-among-clause-term c = row_has c.args.level.now.terms c.args.term.now (row_at c.row_alone.result) c.row_alone.ensures.row

pub returns-then-number-among-clause-tables : goal.returns-then-number-among-clause-tables
returns-then-number-among-clause-tables c =
    let level = c.args.level.now in
    subst (λ (t : Tables). IfSome c.row_among.result (λ (x : TermAt). x.tables ≡ t)) (c.requires level c.if-number-among.true) (c.row_among.ensures.tables level)
