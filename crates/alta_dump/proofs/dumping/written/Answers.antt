use Rattle.std.proofs.Common.{◌++◌, ℕ, List, map, get_or, ap, sym, ◌∙◌, arith}
use Rattle.std.specs.Prelude.{codes, decimal, string_bytes}
use Rattle.alta_memlevel.specs.Documents.{document_in}
use Rattle.alta_machine.specs.Dumps.{dumped, lines_for}
use Rattle.alta_dump.proofs.Lining.{behind_three, kept_first, no_refusal}
use Rattle.alta_dump.proofs.dumping.written.Goals as goal

pub returns-clause-text : goal.returns-clause-text
unfolding dumped
returns-clause-text c = λ documents f g rows words titles seen.
    let parts = c.in_ok-count.ensures.lines documents f g rows words titles seen in
    c.in_ok-put_count.ensures
    ∙ ap (λ (bytes : List ℕ). bytes ++ codes "dumped " ++ decimal c.in_ok-count.count ++ codes "\n") parts.0
    ∙ ap (λ (n : ℕ). lines_for (map document_in documents) ++ codes "dumped " ++ decimal n ++ codes "\n") parts.1

pub returns-clause-other : goal.returns-clause-other
returns-clause-other c =
    no_refusal (string_bytes c.put_count.new.text)
    (λ bad. kept_first (string_bytes c.put_documents.new.text) (codes "dumped " ++ decimal c.in_ok-count.count ++ codes "\n") c.in_ok-count.ensures.other (λ e. omega (arith, e))
    (ap (λ (bytes : List ℕ). get_or bytes 0 0) (sym (c.in_ok-put_count.ensures ∙ behind_three (string_bytes c.put_documents.new.text) (codes "dumped ") (decimal c.in_ok-count.count) (codes "\n"))) ∙ bad))
