use Rattle.std.proofs.Common.{◌+◌, ◌<◌, ℕ, List, length, drop, sym, ap, ◌∙◌, arith, length-drop}
use Rattle.std.proofs.lemmas.Bool.{false≢true}
use Rattle.std.proofs.lemmas.List.{drop-drop}
use Rattle.alta_joins.proofs.JobLaws.{some_of}
use Rattle.alta_joins.proofs.joining.run_job.Goals as goal

pub loop-done-smaller : goal.loop-done-smaller
loop-done-smaller c =
    let some : 0 < length c.step.new.self.left = some_of c.step.new.self.left (λ none. false≢true (sym c.if-done.false ∙ c.in_ok-done.ensures.done.1 none)) in
    omega (arith, some, ap (λ (l : List (List ℕ)). length l) c.in_ok-done.ensures.left, length-drop 18446744073709551615 c.loop-done.job.left)

pub loop-done-preserved : goal.loop-done-preserved
loop-done-preserved c =
    let k = c.loop-done.invariant.left.0 in
    record {
      whole = c.in_ok-done.ensures.whole ∙ c.loop-done.invariant.whole;
      left = (k + 18446744073709551615, c.in_ok-done.ensures.left ∙ ap (drop 18446744073709551615) c.loop-done.invariant.left.1 ∙ drop-drop 18446744073709551615 k c.args.job.now.left);
    }
