use Rattle.std.proofs.Common.{◌≡◌, List, map, subst, sym}
use Rattle.std.specs.Prelude.{IfOk}
use Rattle.alta_codec.specs.Rising.{IsRising}
use Rattle.alta_content.specs.Rows.{end_of}
use Rattle.alta_content.specs.declared.document.DocRow.{DocRow}
use Rattle.alta_catalog.proofs.KnowingLaws.{all_rise}
use Rattle.alta_catalog.proofs.catalog.Catalog.rows.Goals as goal

pub new-requires : goal.new-requires
new-requires c = subst (λ (rows : List DocRow). IsRising (map end_of rows)) (sym c.in_ok-runs.ensures) (all_rise c.args.self.now c.requires.0 c.requires.1)

pub returns : goal.returns
returns c = subst (λ (rows : List DocRow). IfOk c.new.result (λ r. r ≡ rows)) c.in_ok-runs.ensures c.new.ensures
