use Rattle.std.proofs.Common.{◌≡◌, ℕ, ◌+◌, List, subst, arith}
use Rattle.alta_postings.specs.Short.{IsFilled}
use Rattle.alta_postings.proofs.Short.{next_of_run}
use Rattle.alta_postings.proofs.Filling.{fill_more}
use Rattle.alta_postings.proofs.runs.fill_run.Goals as goal

run_ends : (s out : List ℕ) (start before first last at i : ℕ) → i ≡ 8 → IsFilled s start before first last (at + i) out → IsFilled s start before first last (at + 8) out
run_ends s out start before first last at i e r = subst (λ (k : ℕ). IsFilled s start before first last (at + k) out) e r

run_begins : (s out : List ℕ) (start before first last at : ℕ) → IsFilled s start before first last at out → IsFilled s start before first last (at + 0) out
run_begins s out start before first last at r = let e : at ≡ at + 0 = omega arith in subst (λ (k : ℕ). IsFilled s start before first last k out) e r

pub overflow_add-last : goal.overflow_add-last
overflow_add-last c = omega (arith, c.loop-i.invariant.small, c.requires.low, c.requires.gaps c.loop-i.i (omega arith))

pub loop-i-init : goal.loop-i-init
loop-i-init c = record {
  filled = λ s y f r. run_begins c.args.bytes.now c.args.out.now.items s y f c.args.before c.args.at r;
  small = omega arith;
  fits = omega arith;
}

pub loop-i-preserved : goal.loop-i-preserved
loop-i-preserved c =
    let gap = c.requires.gaps c.loop-i.i (omega arith) in
    let inv = c.loop-i.invariant in
    let y = c.loop-i.last + c.from-last.result in
    let step = next_of_run c.args.bytes.now c.args.at c.loop-i.i c.loop-i.last y (λ i l. omega (arith, c.type_inv.bytes i)) (omega (arith, c.requires.within)) gap.0 gap.1
    (omega (arith, c.from-last.ensures)) (omega (arith, inv.small, c.requires.low, gap, c.from-last.ensures)) in
    record {
      filled = λ s y f r. fill_more c.args.bytes.now c.loop-i.out.items c.push.new.self.items s y f c.loop-i.last (c.args.at + c.loop-i.i) (c.loop-i.last + c.from-last.result) (c.args.at + (c.loop-i.i + 1)) (inv.filled s y f r) step c.push.ensures.items;
      small = omega (arith, inv.small, gap, c.from-last.ensures);
      fits = omega (arith, inv.fits, c.push.ensures.len);
    }

pub returns-clause-filled : goal.returns-clause-filled
returns-clause-filled c = λ s y f r. run_ends c.args.bytes.now c.loop-i.out.items s y f c.loop-i.last c.args.at c.loop-i.i (omega arith) (c.loop-i.invariant.filled s y f r)
