use Rattle.std.proofs.Common.{Ok, Err, ap, ◌+◌, ℕ}
use Rattle.alta_root.proofs.SlotLaws.{says_if_open}
use Rattle.alta_root.proofs.reading.read_slot.Goals as goal

pub returns-in-Ok-clause-says : goal.returns-in-Ok-clause-says
returns-in-Ok-clause-says c = λ image is size_is.
    says_if_open c.args.slot image c.args.bytes.now _ c.args.size (c.start.result + 1) (Ok c.in-Ok.root) is size_is (ap (λ (n : ℕ). n + 1) c.start.ensures) (c.is_open.ensures.0 c.if-not-is_open.false) c.split_at.ensures.back c.in-Ok.ensures

pub returns-in-Err-clause-says : goal.returns-in-Err-clause-says
returns-in-Err-clause-says c = λ image is size_is.
    says_if_open c.args.slot image c.args.bytes.now _ c.args.size (c.start.result + 1) (Err c.in-Err.fault) is size_is (ap (λ (n : ℕ). n + 1) c.start.ensures) (c.is_open.ensures.0 c.if-not-is_open.false) c.split_at.ensures.back c.in-Err.ensures
