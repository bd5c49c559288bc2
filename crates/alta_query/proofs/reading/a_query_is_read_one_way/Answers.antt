use Rattle.std.proofs.Common.{length}
use Rattle.alta_machine.specs.Queries.{query_of}
use Rattle.alta_machine.specs.Spots.{spots}
use Rattle.alta_query.proofs.Exact.{parse_reads, reads_parse, fault_parsed, parsed_fault}
use Rattle.alta_query.proofs.reading.a_query_is_read_one_way.Goals as goal

pub returns-clause-read : goal.returns-clause-read
unfolding query_of
returns-clause-read c = λ text q. (parse_reads (spots text) (length text) q, reads_parse (spots text) (length text) q)

pub returns-clause-refused : goal.returns-clause-refused
unfolding query_of
returns-clause-refused c = λ text f. (parsed_fault (spots text) (length text) f, fault_parsed (spots text) (length text) f)
