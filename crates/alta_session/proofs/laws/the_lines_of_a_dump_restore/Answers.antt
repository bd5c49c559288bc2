use Rattle.std.proofs.Common.{sym, subst}
use Rattle.alta_dump.specs.Laws.{AnswersAlike}
use Rattle.alta_machine.specs.Machine.{Machine}
use Rattle.alta_session.proofs.RestoringLaws.{each_has_line, lines_restore}
use Rattle.alta_session.proofs.laws.the_lines_of_a_dump_restore.Goals as goal

pub returns-clause-state : goal.returns-clause-state
returns-clause-state c = λ s lines are. lines_restore s.documents lines are

pub returns-clause-answers : goal.returns-clause-answers
returns-clause-answers c = λ s lines q are names fine folding.
    subst (λ (m : Machine). AnswersAlike s m.state q) (sym (lines_restore s.documents lines are))
    (c.the_lines_of_a_dump_answer_again.ensures s q (record { lines = each_has_line s.documents lines are.each; names = names }) fine folding)
