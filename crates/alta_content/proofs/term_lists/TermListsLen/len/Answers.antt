use Rattle.std.proofs.Common.{drop, sym, ap, length, ◌∙◌}
use Rattle.alta_content.proofs.Packs.{lists_length}
use Rattle.alta_content.proofs.term_lists.TermListsLen.len.Goals as goal

pub returns : goal.returns
returns c =
    let s = c.self.inside in
    sym (lists_length s.count (drop s.row s.rows.items) (drop s.gap s.gaps.items)) ∙ ap length c.self.view_is
