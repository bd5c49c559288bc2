use Rattle.std.proofs.Common.{arith}
use Rattle.alta_table.specs.Tables.{AreTables, Tables, tables_of}
use Rattle.alta_table.proofs.Opened.{read_is}
use Rattle.alta_table.proofs.TableLaws.{tables_are}
use Rattle.alta_table.proofs.table.OpenLevel.keep.Goals as goal

pub returns-clause-found : goal.returns-clause-found
returns-clause-found c =
    read_is (λ (x : Tables). x) c.table_of.result (tables_of c.args.bytes.items c.args.place c.args.total) (AreTables c.args.bytes.items c.args.place c.args.total)
    (λ t e. tables_are c.args.bytes.items c.args.place c.args.total t c.table_of.ensures.fits (λ h read. omega (arith, c.requires.whole h read)) e) c.table_of.ensures.exact
