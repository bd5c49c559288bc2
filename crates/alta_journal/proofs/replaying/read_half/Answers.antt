use Rattle.std.proofs.Common.{◌≡◌, ◌+◌, ◌-◌, ◌∙◌, ◌≤◌, ◌++◌, ℕ, List, Option, Result, Ok, Err, Vec, Global, ap, subst, sym, arith}
use Rattle.std.specs.Result.{IfOk, IfErr}
use Rattle.std.specs.Prelude.{IfSome}
use Rattle.alta_layout.specs.Places.{half_start}
use Rattle.alta_layout.specs.declared.places.TheConstants.{HALF_BYTES}
use Rattle.alta_disk.proofs.Moments.{passes_same}
use Rattle.alta_disk.specs.Disk.{Same}
use Rattle.alta_disk.specs.Parts.{part}
use Rattle.alta_disk.specs.declared.fault.LoadFault.TheVariants.{Damaged, Disk as DiskFault}
use Rattle.alta_disk.specs.declared.fault.LoadFault.{LoadFault}
use Rattle.alta_journal.specs.Journal.{HasBrokenRecord}
use Rattle.alta_journal.specs.Placed.{IsWhole}
use Rattle.alta_journal.specs.Places.{half_at}
use Rattle.alta_journal.specs.declared.placed.Placed.{Placed}
use Rattle.alta_journal.specs.declared.tail.Tail.{Tail}
use Rattle.alta_journal.proofs.ReadingSteps.{read_at_once, read_in_two}
use Rattle.alta_journal.proofs.replaying.read_half.Goals as goal

-- what was read first, where the half starts
front_is : (place start : ℕ) (read bytes content : List ℕ) → place ≡ start → read ≡ bytes → bytes ≡ part place 65536 content → read ≡ part start 65536 content
front_is place start read bytes content starts same is = same ∙ is ∙ ap (λ (n : ℕ). part n 65536 content) starts

-- the half, once the others were read behind it
half_is : (place start : ℕ) (read front bytes all content later : List ℕ) → place ≡ start → front ≡ part start 65536 content → later ≡ content → read ≡ bytes
    → all ≡ front → bytes ≡ all ++ part (place + 65536) (HALF_BYTES - 65536) later → read ≡ half_at start content
half_is place start read front bytes all content later starts is same value whole behind =
    value ∙ read_in_two start 65536 front content (omega arith) is bytes later same
    (behind ∙ ap (λ (l : List ℕ). l ++ part (place + 65536) (HALF_BYTES - 65536) later) whole ∙ ap (λ (n : ℕ). front ++ part (n + 65536) (HALF_BYTES - 65536) later) starts)

-- the records say nothing of a fault of the disk
not_disk : {T : Type 0} (r : Result T LoadFault) → IfErr r (λ e. e ≡ DiskFault → ⊥) → r ≡ Err DiskFault → ⊥
not_disk (Ok x) other is = absurd cc
not_disk (Err e) other is = other (cc is)

pub returns-in-Some-clause-read : goal.returns-in-Some-clause-read
returns-in-Some-clause-read g c = λ told.
    let start = half_start c.args.slot in
    let content = (g.D.Disk.state c.args.disk.now).content in
    let front : c.deref.result.now ≡ part start 65536 content =
    front_is c.half_start-start.result start c.deref.result.now c.in_ok-first.first.items content c.half_start-start.ensures c.deref.ensures.value (c.in_ok-first.ensures.read told) in
    read_at_once start 65536 c.deref.result.now content (omega arith) front c.args.version c.in-Some.found.1.place c.in-Some.found.0.items
    (subst (λ (o : Option (Vec Placed Global × Tail)). IfSome o (λ r. IsWhole c.args.version start r.0.items r.1.place c.deref.result.now)) c.in-Some.is c.in_ok-ended.ensures.read)

pub returns-clause-read : goal.returns-clause-read
returns-clause-read g c = λ told.
    let start = half_start c.args.slot in
    let content = (g.D.Disk.state c.args.disk.now).content in
    let front : c.deref.result.now ≡ part start 65536 content =
    front_is c.half_start-start.result start c.deref.result.now c.in_ok-first.first.items content c.half_start-start.ensures c.deref.ensures.value (c.in_ok-first.ensures.read told) in
    let whole : c.deref-3.result.now ≡ half_at start content =
    half_is c.half_start-start.result start c.deref-3.result.now c.deref.result.now c.in_ok-bytes.bytes.items c.deref-2.result.now content (g.D.Disk.state c.read_part.new.disk).content c.half_start-start.ensures front
    (c.in_ok-first.ensures.retrieves.reads.content told) c.deref-3.ensures.value (c.deref-2.ensures.value ∙ sym c.deref.ensures.value) (c.in_ok-bytes.ensures.read told) in
    subst (λ (l : List ℕ). IfOk c.read_records.result (λ r. IsWhole c.args.version start r.0.items r.1.place l)) whole c.read_records.ensures.read

pub returns-clause-damaged : goal.returns-clause-damaged
returns-clause-damaged g c = λ told.
    let start = half_start c.args.slot in
    let content = (g.D.Disk.state c.args.disk.now).content in
    let front : c.deref.result.now ≡ part start 65536 content =
    front_is c.half_start-start.result start c.deref.result.now c.in_ok-first.first.items content c.half_start-start.ensures c.deref.ensures.value (c.in_ok-first.ensures.read told) in
    let whole : c.deref-3.result.now ≡ half_at start content =
    half_is c.half_start-start.result start c.deref-3.result.now c.deref.result.now c.in_ok-bytes.bytes.items c.deref-2.result.now content (g.D.Disk.state c.read_part.new.disk).content c.half_start-start.ensures front
    (c.in_ok-first.ensures.retrieves.reads.content told) c.deref-3.ensures.value (c.deref-2.ensures.value ∙ sym c.deref.ensures.value) (c.in_ok-bytes.ensures.read told) in
    subst (λ (l : List ℕ). IfErr c.read_records.result (λ e. (place : ℕ) → e ≡ Damaged place → (start ≤ place) × HasBrokenRecord c.args.version (place - start) l)) whole c.read_records.ensures.damaged

pub returns-clause-retrieves : goal.returns-clause-retrieves
returns-clause-retrieves g c =
    let first = c.in_ok-first.ensures.retrieves.reads in
    let second = c.in_ok-bytes.ensures.retrieves.reads in
    record {
      reads = record {
        content = λ told. second.content told ∙ first.content told;
        images = passes_same (g.D.Disk.state c.args.disk.now) (g.D.Disk.state c.read_part.new.disk) (g.D.Disk.state c.read_behind.new.disk) Same first.images second.images;
        costs = record {
          faults = omega (arith, first.costs.faults, second.costs.faults);
          taken_up = omega (arith, first.costs.taken_up, second.costs.taken_up);
          taken = omega (arith, first.costs.taken, second.costs.taken);
          limit = second.costs.limit ∙ first.costs.limit;
        };
      };
      cause = λ is. absurd (not_disk c.read_records.result c.read_records.ensures.disk is);
    }
