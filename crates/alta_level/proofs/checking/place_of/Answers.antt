use Rattle.std.proofs.Common.{[], arith}
use Rattle.alta_level.specs.Stored.{stored_of}
use Rattle.alta_level.proofs.Faults.{at_stream, at_summary, at_row, stream_place_within}
use Rattle.alta_level.proofs.checking.place_of.Goals as goal

pub overflow_add-result : goal.overflow_add-result
overflow_add-result c = omega (arith, c.requires.stream, stream_place_within [] (stored_of c.args.list.now) c.args.fault c.requires.fault c.in-Stream.at c.in-Stream.is)

pub returns-in-Stream : goal.returns-in-Stream
returns-in-Stream c = λ documents. at_stream documents (stored_of c.args.list.now) c.args.fault c.requires.fault c.in-Stream.at c.in-Stream.is

pub returns-in-Summary : goal.returns-in-Summary
returns-in-Summary c = λ documents. at_summary documents (stored_of c.args.list.now) c.args.fault c.requires.fault c.in-Summary.at c.in-Summary.is

pub returns-in-Differ : goal.returns-in-Differ
returns-in-Differ c = λ documents. at_row documents (stored_of c.args.list.now) c.args.fault c.requires.fault c.in-Differ.row c.in-Differ.is
