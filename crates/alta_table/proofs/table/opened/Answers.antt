use Rattle.alta_content.proofs.Apart.{ends_rise}
use Rattle.alta_table.proofs.table.opened.Goals as goal

pub shared-requires : goal.shared-requires
shared-requires c = ends_rise _ c.in_ok-documents.ensures.stand
