use Rattle.std.proofs.Common.{arith}
use Rattle.alta_postings.proofs.Reading.{read_none}
use Rattle.alta_postings.proofs.lanes.scan_runs.Goals as goal

pub runs-init : goal.runs-init
runs-init c = record { read = read_none c.args.bytes.now c.args.place c.args.before c.requires.low c.requires.within; few = omega arith; within = c.requires.within }
