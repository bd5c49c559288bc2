use Rattle.alta_dump.proofs.Named.{added_has_its_name}
use Rattle.alta_dump.proofs.laws.an_added_document_has_its_name.Goals as goal

pub returns : goal.returns
returns c = λ number name title body. added_has_its_name number name title body
