-- Replies that fail for want of memory alone.
use Rattle.std.specs.Prelude.{◌≡◌, ℕ, List, Result, IfOk, IfErr}
use Rattle.alta_store.specs.declared.fault.StoreFault.{StoreFault}
use Rattle.alta_store.specs.declared.fault.StoreFault.TheVariants.{Memory}

-- What was answered is this text, or memory was wanting.
pub record IsReply (text : List ℕ) (result : Result (List ℕ) StoreFault) : Type 0 where
  pub reply : IfOk result (λ reply. reply ≡ text)
  pub memory : IfErr result (λ e. e ≡ Memory)
