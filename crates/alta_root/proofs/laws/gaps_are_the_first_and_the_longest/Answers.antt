use Rattle.alta_root.proofs.GapFunctions.{first_is, first_none, first_some, none_is, greatest_is, one_longest}
use Rattle.alta_root.proofs.laws.gaps_are_the_first_and_the_longest.Goals as goal

pub returns-clause-first : goal.returns-clause-first
returns-clause-first c = λ extents bytes limit at. (λ e. first_some extents bytes limit at e, λ is. first_is extents bytes limit at is)

pub returns-clause-none : goal.returns-clause-none
returns-clause-none c = λ extents bytes limit. (λ e. first_none extents bytes limit e, λ none. none_is extents bytes limit none)

pub returns-clause-greatest : goal.returns-clause-greatest
returns-clause-greatest c = λ extents limit. greatest_is extents limit

pub returns-clause-one : goal.returns-clause-one
returns-clause-one c = λ extents limit bytes is. one_longest extents limit bytes is
