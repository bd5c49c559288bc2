use Rattle.std.proofs.Common.{ℕ, List, length, ap, arith}
use Rattle.std.specs.List.{flat_map}
use Rattle.std.proofs.lemmas.List.{length-drop}
use Rattle.alta_content.specs.TermList.{TermList}
use Rattle.alta_content.specs.Packed.{list_gaps}
use Rattle.alta_content.proofs.term_lists.TermLists.room.Goals as goal

pub returns : goal.returns
returns c =
    let s = c.self.inside in
    omega (arith, c.len.ensures, length-drop s.gap s.gaps.items, ap (λ (x : List ℕ). length x) c.self.invariant.0.gaps, ap (λ (ls : List TermList). length (flat_map list_gaps ls)) c.self.view_is)
