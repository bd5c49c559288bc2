use Rattle.alta_joins.proofs.KeptLaws.{all_join, held_added, held_is_spaced, held_joins, oldest_join}
use Rattle.alta_joins.proofs.laws.what_is_held_may_join.Goals as goal

pub returns-clause-added : goal.returns-clause-added
returns-clause-added c = λ held image is. held_added held image is

pub returns-clause-spaced : goal.returns-clause-spaced
returns-clause-spaced c = λ held image is. held_is_spaced held image is

pub returns-clause-oldest : goal.returns-clause-oldest
returns-clause-oldest c = λ held image is. oldest_join held image is

pub returns-clause-all : goal.returns-clause-all
returns-clause-all c = λ held image is. all_join held image is

pub returns-clause-joins : goal.returns-clause-joins
returns-clause-joins c = λ held image is well. held_joins held image is well
