use Rattle.std.proofs.Common.{◌<◌, length, subst, arith}
use Rattle.alta_table.specs.Tables.{Tables}
use Rattle.alta_loading.proofs.near.behind.Goals as goal

pub overflow_add-row : goal.overflow_add-row
overflow_add-row c = omega (arith, subst (λ (t : Tables). c.row.result < length t.terms) c.requires c.row.ensures.within, c.terms-terms.ensures)
