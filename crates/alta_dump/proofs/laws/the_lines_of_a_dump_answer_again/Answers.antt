use Rattle.alta_dump.proofs.Again.{answers_again}
use Rattle.alta_dump.proofs.AskedTests.{read_asked}
use Rattle.alta_dump.proofs.laws.the_lines_of_a_dump_answer_again.Goals as goal

pub returns : goal.returns
returns c = λ s q restorable (text, utf8, reads) folding.
    answers_again 1 s.documents q restorable.lines restorable.names (read_asked text q reads) folding
