use Rattle.std.proofs.Common.{◌∷◌, [], ◌++◌, ap, ◌∙◌, arith}
use Rattle.alta_postings.proofs.Filling.{fill_one, fill_more}
use Rattle.alta_postings.proofs.block.fill_block.Goals as goal

pub numbers-init : goal.numbers-init
numbers-init c = record {
  filled = c.fill_runs-next.ensures.filled c.args.at c.args.before c.in_ok-first.first
      (fill_one c.args.bytes.now c.push.new.self.items c.args.at c.args.before c.in_ok-first.first c.in_ok-first.second c.in_ok-first.ensures.read (c.push.ensures.items ∙ ap (λ l. l ++ (c.in_ok-first.first ∷ [])) c.clear.ensures));
  few = c.fill_runs-next.ensures.fits;
}

pub numbers-preserved : goal.numbers-preserved
numbers-preserved c = record {
  filled = fill_more c.args.bytes.now c.numbers.out.items c.push-in-numbers.new.self.items c.args.at c.args.before c.in_ok-first.first c.numbers.last c.numbers.next c.in_ok-location.location c.in_ok-location.after
      c.numbers.invariant.filled c.in_ok-location.ensures.read c.push-in-numbers.ensures.items;
  few = omega (arith, c.push-in-numbers.ensures.len);
}
