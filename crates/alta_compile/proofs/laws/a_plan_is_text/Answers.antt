use Rattle.alta_compile.proofs.Texts.{plan_is_text}
use Rattle.alta_compile.proofs.laws.a_plan_is_text.Goals as goal

pub returns : goal.returns
returns c = plan_is_text
