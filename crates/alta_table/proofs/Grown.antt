-- What only grows at its end keeps its front.
use Rattle.std.proofs.Common.{◌≡◌, ℕ, ◌≤◌, List, length, take, sym, ap, ◌∙◌, arith}
use Rattle.std.proofs.lemmas.List.{take-take, length-take}

pub grown_more : (first old new : List ℕ) → take (length first) old ≡ first → take (length old) new ≡ old → take (length first) new ≡ first
grown_more first old new begins grows =
    let le : length first ≤ length old = omega (arith, ap length begins, length-take (length first) old) in
    sym (take-take (length first) (length old) new le) ∙ ap (take (length first)) grows ∙ begins
