-- Laws of dumps.
use Rattle.std.proofs.Common.{ℕ, ◌<◌, true, false, List, [], ◌∷◌, ◌++◌, length, lit<, arith, codes, decimal}
use Rattle.std.specs.Prelude.{Some, None, if◌then◌else◌}
use Rattle.alta_machine.specs.Dumps.{count_lines, dumped, line_or_skipped, lines_for}
use Rattle.alta_machine.specs.DumpLines.{add_line, has_line, line_of}
use Rattle.alta_machine.specs.declared.document.Document.{Document}
use Rattle.alta_machine.specs.Machine.{IsRefusal}
use Rattle.alta_replies.proofs.CursorLaws.{BeginsOther, left_other, no_refusal}
use Rattle.alta_replies.proofs.SearchLaws.{some_behind}

-- a dump has at least its last newline
pub dumped_some : (documents : List Document) → 0 < length (dumped documents)
unfolding dumped
dumped_some documents = some_behind (lines_for documents ++ codes "dumped " ++ decimal (count_lines documents)) (codes "\n") (lit< tt)

-- the line of a document, or that it is skipped, is no refusal
line_other : (d : Document) → BeginsOther (line_or_skipped d (line_of d))
unfolding line_of add_line
line_other d = elim (has_line d) as (λ b. BeginsOther (line_or_skipped d (if b then Some (add_line d) else None))) [
  | true ↦ λ e. absurd (omega (arith, e))
  | false ↦ λ e. absurd (omega (arith, e))
]

lines_other : (documents : List Document) (last : List ℕ) → BeginsOther last → BeginsOther (lines_for documents ++ last)
lines_other [] last other = other
lines_other (d ∷ ds) last other =
    left_other (line_or_skipped d (line_of d) ++ lines_for ds) last (left_other (line_or_skipped d (line_of d)) (lines_for ds) (line_other d))

-- and so is none of a dump
pub dump_refuses : (documents : List Document) → IsRefusal (dumped documents) → ⊥
unfolding dumped
dump_refuses documents =
    no_refusal (dumped documents)
    (left_other (lines_for documents ++ codes "dumped " ++ decimal (count_lines documents)) (codes "\n")
    (left_other (lines_for documents ++ codes "dumped ") (decimal (count_lines documents)) (lines_other documents (codes "dumped ") (λ e. absurd (omega (arith, e))))))
