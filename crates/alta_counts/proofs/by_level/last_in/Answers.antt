use Rattle.std.proofs.Common.{◌≡◌, ◌+◌, ◌-◌, ◌<◌, length, sym, ap, ◌∙◌, arith}
use Rattle.std.proofs.lemmas.List.{get_or_past}
use Rattle.alta_codec.specs.declared.location.TheConstants.{TOP}
use Rattle.alta_codec.specs.Rising.{pred_of}
use Rattle.alta_codec.proofs.ByIndex.{pred_of-at, pred_of-at_start}
use Rattle.alta_counts.proofs.by_level.last_in.Goals as goal

pub returns-then-is_empty : goal.returns-then-is_empty
returns-then-is_empty c =
    let xs = c.args.list.now in
    let none : length xs ≡ 0 = grind (arith, c.is_empty.ensures, c.if-is_empty.true) in
    sym (ap (λ x. pred_of xs x) (sym (get_or_past xs 0 TOP (omega arith))) ∙ pred_of-at_start xs c.requires)

pub returns-else-is_empty : goal.returns-else-is_empty
returns-else-is_empty c =
    let xs = c.args.list.now in
    let some : 0 < length xs = grind (arith, c.is_empty.ensures, c.if-is_empty.false) in
    sym (ap (λ x. pred_of xs x) (sym (get_or_past xs ((length xs - 1) + 1) TOP (omega arith))) ∙ pred_of-at xs (length xs - 1) c.requires (omega arith))
