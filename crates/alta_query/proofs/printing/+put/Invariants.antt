use Rattle.std.proofs.Common.{◌≡◌, drop, map}
use Rattle.std.specs.Prelude.{string_bytes}
use Rattle.alta_query.specs.View.{shape}
use Rattle.alta_machine.specs.Shape.{shapes_of}
use Rattle.alta_machine.specs.Canon.{canon, canon_all}
use Rattle.alta_machine.specs.Spelling.{with_tokens}
use Rattle.alta_query.proofs.Printed.{or_left}
use Rattle.alta_query.proofs.printing.+put.Given as goal

abbrev pub invariant-put_query-loop-member : goal.invariant-put_query-loop-member
invariant-put_query-loop-member l =
    with_tokens (string_bytes l.out) (canon_all (shapes_of (map shape (drop l.member-index l.member-items)))) ≡ with_tokens (string_bytes l.fn.out) (canon (shape l.query))

abbrev pub invariant-put_query-loop-member-2 : goal.invariant-put_query-loop-member-2
invariant-put_query-loop-member-2 l =
    with_tokens (string_bytes l.out) (or_left l.first (shapes_of (map shape (drop l.member-index l.member-items)))) ≡ with_tokens (string_bytes l.fn.out) (canon (shape l.query))
