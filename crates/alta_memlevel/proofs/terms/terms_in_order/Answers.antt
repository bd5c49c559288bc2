use Rattle.std.proofs.Common.{List, ℕ}
use Rattle.std.specs.Borrow.{Bor}
use Rattle.alta_memlevel.specs.Lists.{keys_in}
use Rattle.alta_memlevel.proofs.Prefixes.{begins, sorted_pick}
use Rattle.alta_memlevel.proofs.terms.terms_in_order.Goals as goal

pub returns : goal.returns
returns c =
    sorted_pick (λ (x : Bor (List ℕ)). x.now) (begins c.args.prefix.now) (keys_in c.args.lists.now.entries) c.in_ok-found.found.items c.sort_unstable.new.self.items
    c.in_ok-found.ensures.terms c.in_ok-found.ensures.apart c.sort_unstable.ensures.permutation c.sort_unstable.ensures.sorted
