use Rattle.std.proofs.Common.{◌≡◌, arith}
use Rattle.alta_table.specs.Tables.{AreTables, IsDamage, Tables, tables_bytes, tables_of}
use Rattle.alta_table.proofs.Opened.{read_is, found_is, first_is, damaged_is}
use Rattle.alta_table.proofs.TableParts.{tables_first, tables_broken}
use Rattle.alta_table.proofs.TableLaws.{tables_are, are_tables, tables_spelled}
use Rattle.alta_table.proofs.table.OpenLevel.open.Goals as goal

pub returns-clause-found : goal.returns-clause-found
returns-clause-found c =
    read_is (λ (x : Tables). x) c.copy_of.result (tables_of c.args.bytes.now c.args.place c.args.total) (AreTables c.args.bytes.now c.args.place c.args.total)
    (λ t e. tables_are c.args.bytes.now c.args.place c.args.total t (λ i. omega (arith, c.type_inv.bytes i)) (λ h read. omega (arith, c.requires.whole h read)) e) c.copy_of.ensures

pub returns-clause-spelled : goal.returns-clause-spelled
returns-clause-spelled c =
    read_is (λ (x : Tables). x) c.copy_of.result (tables_of c.args.bytes.now c.args.place c.args.total) (λ t. c.args.bytes.now ≡ tables_bytes t.documents t.terms)
    (λ t e. tables_spelled c.args.bytes.now c.args.place c.args.total t (λ i. omega (arith, c.type_inv.bytes i)) c.requires.whole e) c.copy_of.ensures

pub returns-clause-only : goal.returns-clause-only
returns-clause-only c = λ t a.
    found_is (λ (x : Tables). x) c.copy_of.result (tables_of c.args.bytes.now c.args.place c.args.total) t
    (are_tables c.args.bytes.now c.args.place c.args.total t (λ i. omega (arith, c.type_inv.bytes i)) (omega (arith, c.requires.below)) a) c.copy_of.ensures

pub returns-clause-first : goal.returns-clause-first
returns-clause-first c =
    first_is (λ (x : Tables). x) c.copy_of.result (tables_of c.args.bytes.now c.args.place c.args.total) (IsDamage c.args.bytes.now c.args.place c.args.total)
    (λ p e. tables_first c.args.bytes.now c.args.place c.args.total p (λ i. omega (arith, c.type_inv.bytes i)) e) c.copy_of.ensures

pub returns-clause-broken : goal.returns-clause-broken
returns-clause-broken c = λ p damage.
    damaged_is (λ (x : Tables). x) c.copy_of.result (tables_of c.args.bytes.now c.args.place c.args.total) p
    (tables_broken c.args.bytes.now c.args.place c.args.total p (λ i. omega (arith, c.type_inv.bytes i)) damage) c.copy_of.ensures
