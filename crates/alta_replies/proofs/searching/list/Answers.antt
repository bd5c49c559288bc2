use Rattle.std.proofs.Common.{◌++◌, ℕ, List, ap, subst, ◌∙◌}
use Rattle.alta_machine.specs.Machine.{IsRefusal}
use Rattle.alta_machine.specs.Searching.{found_line, row_lines}
use Rattle.alta_replies.proofs.CursorLaws.{no_refusal, rows_other}
use Rattle.alta_replies.proofs.SearchLaws.{listed_are}
use Rattle.alta_replies.proofs.searching.list.Goals as goal

pub returns : goal.returns
returns g c = record {
  lines = λ documents to_come.
      listed_are _ _ c.in_ok-page.page.answers _ documents (c.in_ok-page.ensures.answers to_come.space to_come.shows ∙ to_come.answers)
      (c.in_ok-put_answers.ensures ∙ ap (λ (l : List ℕ). l ++ row_lines c.in_ok-page.page.answers) c.new-reply.ensures.bytes) c.len.ensures c.in_ok-put_count.ensures;
  other = λ refusal.
      let is = c.in_ok-put_count.ensures ∙ ap (λ (l : List ℕ). l ++ found_line c.len.result) (c.in_ok-put_answers.ensures ∙ ap (λ (l : List ℕ). l ++ row_lines c.in_ok-page.page.answers) c.new-reply.ensures.bytes) in
      no_refusal _ (rows_other c.in_ok-page.page.answers c.len.result) (subst IsRefusal is refusal);
}
