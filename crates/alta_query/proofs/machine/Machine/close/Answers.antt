use Rattle.std.proofs.Common.{◌≡◌, sym, ap, subst, ◌∙◌}
use Rattle.std.specs.Prelude.{OnOk}
use Rattle.alta_query.specs.Kept.{state_of, frames_of}
use Rattle.alta_query.specs.View.{shape}
use Rattle.alta_query.proofs.Ended.{unchanged, closed, close_none}
use Rattle.alta_query.proofs.machine.Machine.close.Goals as goal

pub returns-in_err-operand : goal.returns-in_err-operand
returns-in_err-operand c = unchanged _ _ c.from_residual.ensures.0

pub returns : goal.returns
returns c =
    let self = c.args.self.now in
    let made = rw c.replace-ands.ensures.value at (rw c.replace-ors.ensures.value at c.in_ok-operand.ensures) in
    let t = closed self.ors.items self.ands.items c.in_ok-operand.operand (frames_of self.frames.items) self.words _ made (c.in-Some.ensures.paren (shape c.in_ok-operand.operand) self.words) in
    subst (λ s. OnOk c.give.result (state_of c.give.new.self ≡ s)) (sym t) c.give.ensures

pub returns-in_default : goal.returns-in_default
returns-in_default c =
    let self = c.args.self.now in
    let made = rw c.replace-ands.ensures.value at (rw c.replace-ors.ensures.value at c.in_ok-operand.ensures) in
    let none = c.in_default.ensures.none in
    let no_ors = ap (λ v. v.items) c.replace-ors.ensures.after ∙ c.new-2.ensures.items in
    let no_ands = ap (λ v. v.items) c.replace-ands.ensures.after ∙ c.new.ensures.items in
    sym (closed self.ors.items self.ands.items c.in_ok-operand.operand (frames_of self.frames.items) self.words _ made
    (none.1 (shape c.in_ok-operand.operand) self.words ∙ close_none (shape c.in_ok-operand.operand) _ _ _ self.words no_ors no_ands none.0))
