use Rattle.std.proofs.Common.{◌≡◌, ◌+◌, ◌<◌, ◌≤◌, ◌++◌, length}
use Rattle.std.specs.List.{All}
use Rattle.alta_content.specs.All.{IsPast}
use Rattle.alta_search.specs.Answers.{answers_in}
use Rattle.alta_search.specs.Told.{rows_at}
use Rattle.alta_search.specs.Words.{IsSoundTerm, term_left, term_list, term_place}
use Rattle.alta_dump.proofs.live.live_ends.Given as goal

abbrev pub invariant-ends : goal.invariant-ends
invariant-ends g l =
    record {
      sound : IsSoundTerm l.ends;
      list : term_list l.ends ≡ term_list l.fn.ends;
      inside : All (λ i. i < length l.all) l.live.items;
      rows : l.rows.rows ≡ l.all;
      past : IsPast l.rows (term_place l.ends);
      taken : rows_at l.all l.live.items ++ answers_in (term_list l.fn.ends) l.gone (term_place l.ends) l.all ≡ answers_in (term_list l.fn.ends) l.gone 0 l.all;
      steps : l.steps + term_left l.ends ≤ l.fn.steps + term_left l.fn.ends;
    }

abbrev pub decreases-ends : goal.decreases-ends
decreases-ends g l = term_left l.ends
