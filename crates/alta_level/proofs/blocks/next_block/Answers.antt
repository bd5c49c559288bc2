use Rattle.std.proofs.Common.{Option, ℕ, ◌<◌, ◌≤◌, length, get_or, sym, subst}
use Rattle.std.specs.Prelude.{IfSome}
use Rattle.alta_postings.specs.Placed.{ReadsFrom}
use Rattle.alta_level.specs.Meeting.{IsMet}
use Rattle.alta_level.proofs.blocks.next_block.Goals as goal

pub read_beside-requires-clause-within : goal.read_beside-requires-clause-within
read_beside-requires-clause-within c = subst (λ (o : Option ℕ). IfSome o (λ (from : ℕ). from ≤ length c.args.runs.now.ends.items)) c.in-Some.is c.requires.within

pub read_beside-requires-clause-passed : goal.read_beside-requires-clause-passed
read_beside-requires-clause-passed c =
    subst (λ (o : Option ℕ). IfSome o (λ (from : ℕ). (i : ℕ) → i < from → get_or c.args.runs.now.ends.items i 0 < c.args.read.now.last)) c.in-Some.is c.requires.passed

pub returns-in-Some : goal.returns-in-Some
returns-in-Some c =
    let read = c.args.read.now in
    let runs = c.args.runs.now in
    subst (λ (o : Option ℕ). ReadsFrom c.args.stream.now read.at read.last (IsMet c.args.stream.now read.at read.last runs.firsts.items runs.ends.items o) c.read_beside.result) (sym c.in-Some.is) c.read_beside.ensures

pub returns-in-None : goal.returns-in-None
returns-in-None c =
    let read = c.args.read.now in
    let runs = c.args.runs.now in
    subst (λ (o : Option ℕ). ReadsFrom c.args.stream.now read.at read.last (IsMet c.args.stream.now read.at read.last runs.firsts.items runs.ends.items o) c.pass_block.result) (sym c.in-None.is)
    (c.pass_block.ensures runs.firsts.items runs.ends.items)
