use Rattle.std.proofs.Common.{◌≡◌, length, rules}
use Rattle.alta_disk.specs.Media.{content_of}
use Rattle.alta_disk.proofs.Pushed.{kept_synced}
use Rattle.alta_disk.proofs.written.Written.sync.Goals as goal

pub invariant_of-self-2 : goal.invariant_of-self-2
invariant_of-self-2 c =
    let self = c.args.self.now in
    let all : c.len-self.result ≡ length c.push.new.self.items = search rules in
    record { kept = kept_synced self.first.items (content_of self.content self.first.items) self.events.items self.synced self.kept c.push.new.self.items c.len-self.result c.in_ok-push.ensures.items all }
