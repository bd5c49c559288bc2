use Rattle.std.proofs.Common.{◌≡◌, length, sym, subst, arith}
use Rattle.alta_content.specs.Packed.{Appends}
use Rattle.alta_content.specs.TermList.{TermList}
use Rattle.alta_merge.specs.Fronts.{if_some}
use Rattle.alta_merge.proofs.Takes.{next_is_whole}
use Rattle.alta_merge.proofs.fronts.put_next.Goals as goal

pub returns-then-is_empty : goal.returns-then-is_empty
returns-then-is_empty c =
    let none : length c.args.spans.now ≡ 0 = grind (arith, c.is_empty.ensures, c.if-is_empty.true) in
    subst (λ (l : TermList). Appends (if_some l) c.args.made.now c.put_whole.new.made c.put_whole.result)
    (sym (next_is_whole c.args.spans.now c.args.rests.now c.args.next.first none))
    c.put_whole.ensures
