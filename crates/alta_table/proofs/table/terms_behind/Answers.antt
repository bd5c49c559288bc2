use Rattle.std.proofs.Common.{ℕ, List, ◌+◌, sym, subst}
use Rattle.alta_format.specs.Format.{part}
use Rattle.alta_table.specs.Answers.{Answers}
use Rattle.alta_table.specs.Marks.{rows_in}
use Rattle.alta_table.specs.Terms.{terms_format}
use Rattle.alta_table.specs.declared.terms.HeldTerms.{HeldTerms}
use Rattle.alta_table.proofs.FrontLaws.{part_is}
use Rattle.alta_table.proofs.table.terms_behind.Goals as goal

pub returns-clause-exact : goal.returns-clause-exact
returns-clause-exact c =
    subst (λ (b : List ℕ). Answers (λ (x : HeldTerms × ℕ). (rows_in x.0, x.1)) c.read_terms.result (part (terms_format c.args.head.terms c.args.room) b (c.args.place + 32 + c.args.head.document_bytes)))
    (sym (part_is c.args.tables.items c.args.head c.requires.whole)) c.read_terms.ensures.exact
