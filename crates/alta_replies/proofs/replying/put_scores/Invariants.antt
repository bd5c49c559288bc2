use Rattle.std.proofs.Common.{◌≡◌, ◌++◌, string_bytes, take}
use Rattle.alta_machine.specs.Searching.{score_lines}
use Rattle.alta_replies.proofs.replying.put_scores.Given as goal

abbrev pub invariant-loop-answer : goal.invariant-loop-answer
invariant-loop-answer l = string_bytes l.reply ≡ string_bytes l.fn.reply ++ score_lines (take l.answer-index l.answers)
