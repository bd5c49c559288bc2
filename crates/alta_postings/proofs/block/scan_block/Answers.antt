use Rattle.std.proofs.Common.{get_or, sym, ap, arith}
use Rattle.alta_postings.proofs.Reading.{read_more, read_some, read_done}
use Rattle.alta_postings.proofs.block.scan_block.Goals as goal

pub numbers-init : goal.numbers-init
numbers-init c = record { read = c.scan_runs-next.ensures.read; few = c.scan_runs-next.ensures.few }

pub numbers-preserved : goal.numbers-preserved
numbers-preserved c = record {
  read = read_more c.args.bytes.now c.args.at c.args.before c.numbers.last c.numbers.count c.numbers.next c.in_ok-location.location c.in_ok-location.after c.numbers.invariant.read c.in_ok-location.ensures.read;
  few = omega arith;
}

pub returns-after-numbers : goal.returns-after-numbers
returns-after-numbers c =
    let x = c.in_ok-first.ensures.read in
    let read = c.numbers.invariant.read in
    let some = read_some c.args.bytes.now c.args.at c.args.before c.numbers.last c.numbers.count c.numbers.next c.in_ok-first.first c.in_ok-first._next read x (λ l. omega (arith, read.within)) in
    record {
      read = read_done c.args.bytes.now c.args.at c.args.before c.in_ok-first.first c.numbers.last c.numbers.count c.numbers.next read some c.numbers.invariant.few (λ l. omega (arith, read.within))
          (sym (ap (λ l. get_or l 0 0) x.list));
      fault = tt;
    }
