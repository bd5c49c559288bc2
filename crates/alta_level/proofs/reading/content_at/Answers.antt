use Rattle.std.proofs.Common.{ℕ, length}
use Rattle.alta_table.specs.Tables.{Tables, IsDamage}
use Rattle.alta_content.specs.declared.content.Content.{Content}
use Rattle.alta_level.specs.Damage.{IsSegmentFault}
use Rattle.alta_level.specs.Damage.IsSegmentFault.{in_tables}
use Rattle.alta_level.proofs.Joins.{fault_goes}
use Rattle.alta_level.proofs.reading.content_at.Goals as goal

pub returns-in-Err-clause-first : goal.returns-in-Err-clause-first
returns-in-Err-clause-first c =
    let bytes = c.args.bytes.now in
    fault_goes (Tables × ℕ) Content c.in-Err.fault (IsDamage bytes c.args.place (length bytes)) (IsSegmentFault bytes c.args.place) (λ p d. in_tables p d) c.in-Err.ensures.first
