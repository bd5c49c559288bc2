use Rattle.std.proofs.Common.{◌≡◌, arith, rules}
use Rattle.alta_disk.specs.Media.{content_of}
use Rattle.alta_disk.proofs.Pushed.{kept_wrote}
use Rattle.alta_disk.proofs.written.Written.write.Goals as goal

pub invariant_of-self-in-Ok : goal.invariant_of-self-in-Ok
invariant_of-self-in-Ok c =
    let self = c.args.self.now in
    let v = c.in_ok-copy.copy in
    let copied : v.items ≡ c.args.bytes.now = search rules in
    record { kept = kept_wrote self.first.items (content_of self.content self.first.items) self.events.items self.synced self.kept (content_of c.put_over.new.content self.first.items) _ c.args.at v c.args.bytes.now (λ i. omega (arith, c.type_inv.bytes i)) c.in_ok-push.ensures.items copied c.requires (rw c.deref.ensures.value at c.in-Ok.ensures.ok) }

pub returns-in-Ok-clause-ok : goal.returns-in-Ok-clause-ok
returns-in-Ok-clause-ok c = let v = c.in_ok-copy.copy in let copied : v.items ≡ c.args.bytes.now = search rules in (v, copied, c.in_ok-push.ensures.items)
