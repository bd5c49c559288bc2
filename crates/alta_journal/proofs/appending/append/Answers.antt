use Rattle.std.proofs.Common.{◌+◌, ◌≤◌, length, arith}
use Rattle.alta_journal.specs.Record.{body_of}
use Rattle.alta_journal.proofs.Ahead.{passes_wide}
use Rattle.alta_journal.proofs.appending.append.Goals as goal

-- nothing is written ahead
pub returns-in_err-append_ahead-clause-outside : goal.returns-in_err-append_ahead-clause-outside
returns-in_err-append_ahead-clause-outside g c =
    let n = length (body_of c.args.ready.now.entry) in
    let le : 1 + (n + 0) ≤ 1 + n = omega arith in
    passes_wide c.args.tail.now.place (1 + (n + 0)) (1 + n) _ _ le c.append_ahead.ensures.outside
