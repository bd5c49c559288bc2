use Rattle.std.proofs.Common.{◌++◌, ℕ, List, ap, subst, ◌∙◌}
use Rattle.alta_machine.specs.Machine.{IsRefusal}
use Rattle.alta_machine.specs.Searching.{found_line}
use Rattle.alta_replies.proofs.CursorLaws.{found_other, no_refusal}
use Rattle.alta_replies.proofs.SearchLaws.{counted_are}
use Rattle.alta_replies.proofs.searching.tally.Goals as goal

pub returns : goal.returns
returns g c = record {
  lines = λ documents to_come.
      counted_are _ c.in_ok-count.count _ documents (c.in_ok-count.ensures.count to_come.space to_come.shows) to_come.answers
      (c.in_ok-put_count.ensures ∙ ap (λ (l : List ℕ). l ++ found_line c.in_ok-count.count) c.new-reply.ensures.bytes);
  other = λ refusal.
      no_refusal (found_line c.in_ok-count.count) (found_other c.in_ok-count.count) (subst IsRefusal (c.in_ok-put_count.ensures ∙ ap (λ (l : List ℕ). l ++ found_line c.in_ok-count.count) c.new-reply.ensures.bytes) refusal);
}
