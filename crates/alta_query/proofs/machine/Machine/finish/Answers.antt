use Rattle.std.proofs.Common.{Ok, sym, ap, ◌∙◌, inr}
use Rattle.alta_query.proofs.Ended.{ran_out, any_left, faulted, faultless}
use Rattle.alta_query.proofs.machine.Machine.finish.Goals as goal

pub returns-in-Some : goal.returns-in-Some
returns-in-Some c =
    let frames = c.args.self.frames in
    inr (faulted _ _ _ _ (c.in-Some.ensures _ (any_left frames.items _ _ c.is_empty.ensures frames.ok.0)))

pub returns-in_err-all : goal.returns-in_err-all
returns-in_err-all c = ran_out _ _ c.from_residual.ensures.1

pub returns : goal.returns
returns c =
    let frames = c.args.self.frames in
    faultless _ _ _ (c.in_default.ensures _ (any_left frames.items _ _ c.is_empty.ensures frames.ok.0))
    ∙ ap Ok (sym c.in_ok-all.ensures)
