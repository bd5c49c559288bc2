use Rattle.std.proofs.Common.{ap, ◌∙◌, refl}
use Rattle.alta_query.specs.Kept.{frames_of}
use Rattle.alta_machine.specs.Parser.{close}
use Rattle.alta_query.proofs.Frames.{close_popped, none_left}
use Rattle.alta_query.proofs.machine.last_paren.Goals as goal

pub loop-frame-init : goal.loop-frame-init
loop-frame-init c = λ q n. refl

pub loop-frame-preserved : goal.loop-frame-preserved
loop-frame-preserved c = λ q n. c.loop-frame.invariant q n ∙ close_popped q _ _ _ _ n c.in-Some.ensures.items c.in_default-frame.is

pub returns-in-Paren-clause-paren : goal.returns-in-Paren-clause-paren
returns-in-Paren-clause-paren c = λ q n. c.loop-frame.invariant q n ∙ close_popped q _ _ _ _ n c.in-Some.ensures.items c.in-Paren.is

pub returns-clause-none : goal.returns-clause-none
returns-clause-none c =
    let left = c.loop-frame.frames in let none = c.in_default.ensures.cases in (
      none_left c.pop.new.self.items _ c.pop.new.self.ok.0 none.1,
      λ q n. c.loop-frame.invariant q n ∙ ap (λ fs. close q (frames_of fs) n) (none_left left.items _ left.ok.0 none.0),
    )
