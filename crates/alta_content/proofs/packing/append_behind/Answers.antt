use Rattle.std.proofs.Common.{◌≡◌, ℕ, ◌+◌, ◌-◌, ◌%◌, ◌^◌, List, ◌++◌, ap, ◌∙◌, arith}
use Rattle.alta_codec.specs.Numbers.{number_bytes}
use Rattle.alta_content.specs.Packed.{leading_number}
use Rattle.alta_content.proofs.Packs.{behind_first, no_gaps}
use Rattle.alta_content.proofs.packing.append_behind.Goals as goal

pub returns-then-is_empty-clause-gaps : goal.returns-then-is_empty-clause-gaps
returns-then-is_empty-clause-gaps c = λ locations is small. no_gaps c.args.all.now.items c.args.gaps.now c.args.before locations (grind (arith, c.is_empty.ensures, c.if-is_empty.true)) is

pub returns-clause-gaps : goal.returns-clause-gaps
returns-clause-gaps c = λ locations is small.
    let gaps = c.args.gaps.now in
    let next = c.number_at-first.result in
    let first : next.0 ≡ (leading_number gaps).0 = c.number_at-first.ensures.number in
    let rest : c.split_at.result.1.now ≡ (leading_number gaps).1 = c.split_at.ensures.back ∙ c.number_at-first.ensures.behind in
    c.in_ok-extend_from_slice.ensures.items
    ∙ ap (λ (x : List ℕ). x ++ c.split_at.result.1.now) c.in_ok-put_number.ensures
    ∙ ap (λ (x : List ℕ). (c.args.all.now.items ++ number_bytes ((next.0 + (2 ^ 64 - c.args.before)) % 2 ^ 64)) ++ x) rest
    ∙ ap (λ (x : ℕ). (c.args.all.now.items ++ number_bytes ((x + (2 ^ 64 - c.args.before)) % 2 ^ 64)) ++ (leading_number gaps).1) first
    ∙ behind_first c.args.all.now.items gaps c.args.before locations (grind (arith, c.is_empty.ensures, c.if-is_empty.false)) is small
