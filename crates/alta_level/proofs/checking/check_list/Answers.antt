use Rattle.std.proofs.Common.{arith}
use Rattle.alta_postings.specs.Deltas.{decoded_list}
use Rattle.alta_words.specs.declared.checking.Bounds.{Bounds}
use Rattle.alta_level.specs.Stored.{IsListOf, IsListFault, stored_of}
use Rattle.alta_level.proofs.Faults.{list_fault_once, list_once, list_or_fault}
use Rattle.alta_level.proofs.Joins.{only_of, broken_of}
use Rattle.alta_level.proofs.checking.check_list.Goals as goal

pub returns-clause-only : goal.returns-clause-only
returns-clause-only c =
    let documents = c.args.documents.now in
    let s = stored_of c.args.list.now in
    only_of {X = Bounds} (λ x. decoded_list s.stream) (IsListOf documents s) (IsListFault documents s) c.tested.result c.tested.ensures.reads.found c.tested.ensures.reads.first
    (list_once documents s) (λ x p. list_or_fault documents s x p (omega (arith, c.requires.stream)))

pub returns-clause-broken : goal.returns-clause-broken
returns-clause-broken c =
    let documents = c.args.documents.now in
    let s = stored_of c.args.list.now in
    broken_of {X = Bounds} (λ x. decoded_list s.stream) (IsListOf documents s) (IsListFault documents s) c.tested.result c.tested.ensures.reads.found c.tested.ensures.reads.first
    (list_fault_once documents s) (λ x p. list_or_fault documents s x p (omega (arith, c.requires.stream)))
