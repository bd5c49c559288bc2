use Rattle.std.proofs.Common.{nat_eq, arith}
use Rattle.std.proofs.lemmas.List.Sums.{common_prefix_len-le}
use Rattle.alta_table.proofs.writers.put_entry.Goals as goal

pub split_at-requires : goal.split_at-requires
split_at-requires c = omega (arith, c.shared.ensures, (common_prefix_len-le nat_eq c.args.before.now c.args.term.now).1)
