use Rattle.alta_joins.proofs.DataLaws.{call_broken, call_tells}
use Rattle.alta_joins.proofs.level.read_level.Goals as goal

pub returns-clause-segment : goal.returns-clause-segment
returns-clause-segment g c = λ told.
    (call_tells g.D.Disk.tells (g.D.Disk.state c.args.disk.now) (g.met.D.Disk.lawful c.args.disk.now) c.args.level.now c.requires c.in_ok-extent.extent c.in_ok-extent.ensures.place c.in_ok-extent.ensures.bytes
    c.in_ok-extent.ensures.below c.in_ok-bytes.bytes.items c.in_ok-bytes.ensures.read c.content_in.result c.content_in.ensures.segment c.content_in.ensures.first
    c.segments_read_back.ensures.once c.segments_read_back.ensures.apart c.segments_read_back.ensures.first told).segment

pub returns-clause-only : goal.returns-clause-only
returns-clause-only g c = λ told.
    (call_tells g.D.Disk.tells (g.D.Disk.state c.args.disk.now) (g.met.D.Disk.lawful c.args.disk.now) c.args.level.now c.requires c.in_ok-extent.extent c.in_ok-extent.ensures.place c.in_ok-extent.ensures.bytes
    c.in_ok-extent.ensures.below c.in_ok-bytes.bytes.items c.in_ok-bytes.ensures.read c.content_in.result c.content_in.ensures.segment c.content_in.ensures.first
    c.segments_read_back.ensures.once c.segments_read_back.ensures.apart c.segments_read_back.ensures.first told).only

pub returns-clause-first : goal.returns-clause-first
returns-clause-first g c = λ told.
    (call_tells g.D.Disk.tells (g.D.Disk.state c.args.disk.now) (g.met.D.Disk.lawful c.args.disk.now) c.args.level.now c.requires c.in_ok-extent.extent c.in_ok-extent.ensures.place c.in_ok-extent.ensures.bytes
    c.in_ok-extent.ensures.below c.in_ok-bytes.bytes.items c.in_ok-bytes.ensures.read c.content_in.result c.content_in.ensures.segment c.content_in.ensures.first
    c.segments_read_back.ensures.once c.segments_read_back.ensures.apart c.segments_read_back.ensures.first told).first

pub returns-clause-damaged : goal.returns-clause-damaged
returns-clause-damaged g c = λ told.
    (call_tells g.D.Disk.tells (g.D.Disk.state c.args.disk.now) (g.met.D.Disk.lawful c.args.disk.now) c.args.level.now c.requires c.in_ok-extent.extent c.in_ok-extent.ensures.place c.in_ok-extent.ensures.bytes
    c.in_ok-extent.ensures.below c.in_ok-bytes.bytes.items c.in_ok-bytes.ensures.read c.content_in.result c.content_in.ensures.segment c.content_in.ensures.first
    c.segments_read_back.ensures.once c.segments_read_back.ensures.apart c.segments_read_back.ensures.first told).damaged

pub returns-clause-broken : goal.returns-clause-broken
returns-clause-broken g c = λ told.
    call_broken g.D.Disk.tells (g.D.Disk.state c.args.disk.now) (g.met.D.Disk.lawful c.args.disk.now) c.args.level.now c.requires c.in_ok-extent.extent c.in_ok-extent.ensures.place c.in_ok-extent.ensures.bytes
    c.in_ok-extent.ensures.below c.in_ok-bytes.bytes.items c.in_ok-bytes.ensures.read c.content_in.result c.content_in.ensures.segment c.content_in.ensures.first told
