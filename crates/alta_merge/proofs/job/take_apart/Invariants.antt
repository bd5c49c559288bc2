use Rattle.std.proofs.Common.{◌≡◌}
use Rattle.alta_content.specs.Joining.{parts_of, rows_in}
use Rattle.alta_merge.proofs.job.take_apart.Given as goal

abbrev pub invariant-loop-content : goal.invariant-loop-content
invariant-loop-content l =
    record {
      rows : l.rows.items ≡ rows_in l.yielded;
      rests : l.rests.items ≡ parts_of l.yielded;
    }
