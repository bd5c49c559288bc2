use Rattle.std.proofs.Common.{is_lt, rules}
use Rattle.std.proofs.lemmas.Cmp.{nat_list_cmp_total}
use Rattle.std.proofs.lemmas.Fn.{always_returns_same}
use Rattle.std.proofs.lemmas.List.Sorted.{ranks_by}
use Rattle.alta_catalog.specs.Names.{by_name}
use Rattle.alta_catalog.specs.declared.lists.NameRow.{NameRow}
use Rattle.alta_catalog.proofs.names.sort.Goals as goal

pub returns-clause-sorted : goal.returns-clause-sorted
returns-clause-sorted c =
    c.sort_unstable_by.ensures.sorted (λ a b. is_lt (by_name a b)) (ranks_by nat_list_cmp_total (λ (row : NameRow). row.name)) (always_returns_same _ _ _ (λ a r f k. search rules))
