use Rattle.std.proofs.Common.{◌≡◌, subst}
use Rattle.std.specs.Prelude.{IfOk, string_bytes}
use Rattle.alta_make.specs.Script.{add_with}
use Rattle.alta_make.proofs.line.add_line.Goals as goal

pub returns : goal.returns
returns c = subst (λ p. IfOk c.add_with.result (λ s. string_bytes s ≡ add_with c.args.i p)) c.parity.ensures c.add_with.ensures
