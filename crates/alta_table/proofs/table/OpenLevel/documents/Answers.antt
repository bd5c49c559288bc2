use Rattle.std.proofs.Common.{subst}
use Rattle.alta_table.specs.Tables.{KeepRules, Tables, total_of}
use Rattle.alta_table.proofs.table.OpenLevel.documents.Goals as goal

pub returns-clause-kept : goal.returns-clause-kept
returns-clause-kept c = subst (λ (t : Tables). KeepRules (total_of t.documents t.terms) t.documents t.terms) c.self.view_is c.self.invariant.keeps
