use Rattle.bench_walk.proofs.Keys.{none_cut, none_keyed, none_met}
use Rattle.bench_walk.proofs.lists.terms_of.Goals as goal

pub loop-files-init : goal.loop-files-init
loop-files-init c =
    let empty = c.new-terms.result.items in let none = c.new-terms.ensures.items in
    record { cut = none_cut empty none; keyed = none_keyed empty none; met = none_met c.args.test.now empty none }
