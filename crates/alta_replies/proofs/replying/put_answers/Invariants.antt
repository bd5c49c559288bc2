use Rattle.std.proofs.Common.{◌≡◌, ◌++◌, string_bytes, take}
use Rattle.alta_machine.specs.Searching.{row_lines}
use Rattle.alta_replies.proofs.replying.put_answers.Given as goal

abbrev pub invariant-loop-index : goal.invariant-loop-index
invariant-loop-index l = string_bytes l.reply ≡ string_bytes l.fn.reply ++ row_lines (take l.index l.answers)
