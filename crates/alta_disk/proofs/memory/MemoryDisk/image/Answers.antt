use Rattle.std.proofs.Common.{◌≡◌, ℕ, Vec, Global, ◌∙◌, arith, rules}
use Rattle.std.proofs.lemmas.Result.{IfOk-weaker}
use Rattle.alta_disk.specs.Images.{IsFilled}
use Rattle.alta_disk.specs.Media.{content_of, start, after, MayLeave}
use Rattle.alta_disk.specs.MediaLaws.{firm_after}
use Rattle.alta_disk.proofs.ImageLaws.{filled_image}
use Rattle.alta_disk.proofs.Pushed.{firm_left, content_left}
use Rattle.alta_disk.proofs.memory.MemoryDisk.image.Goals as goal

pub returns-in_ok-copy-in-0-clause-image : goal.returns-in_ok-copy-in-0-clause-image
returns-in_ok-copy-in-0-clause-image c =
    let w = c.args.self.now.written in
    let copied : c.in_ok-copy-in-0.copy.items ≡ content_of w.content w.first.items = search rules in
    content_left w.first.items w.events.items _ w.kept.sound w.kept.bytes (copied ∙ w.kept.seen)

pub returns-in-1-clause-image : goal.returns-in-1-clause-image
returns-in-1-clause-image c =
    let w = c.args.self.now.written in
    let m = after (start w.first.items) w.events.items in
    IfOk-weaker c.firm.result (λ (v : Vec ℕ Global). v.items ≡ m.firm) (λ (v : Vec ℕ Global). MayLeave m v.items) (λ v is. firm_left m v.items (firm_after (start w.first.items) w.events.items (w.kept.bytes 0) w.kept.bytes) is) c.firm.ensures

pub returns-in-2-clause-image : goal.returns-in-2-clause-image
returns-in-2-clause-image c =
    let w = c.args.self.now.written in
    let m = after (start w.first.items) w.events.items in
    IfOk-weaker c.filled.result (λ (v : Vec ℕ Global). IsFilled 165 m.pending m.content v.items) (λ (v : Vec ℕ Global). MayLeave m v.items) (λ v filled. filled_image w.first.items w.events.items 165 v.items w.kept.sound w.kept.bytes (omega arith) filled) c.filled.ensures

pub returns-in_default-clause-image : goal.returns-in_default-clause-image
returns-in_default-clause-image c =
    let w = c.args.self.now.written in
    let m = after (start w.first.items) w.events.items in
    IfOk-weaker c.filled-in_default.result (λ (v : Vec ℕ Global). IsFilled 0 m.pending m.content v.items) (λ (v : Vec ℕ Global). MayLeave m v.items) (λ v filled. filled_image w.first.items w.events.items 0 v.items w.kept.sound w.kept.bytes (omega arith) filled) c.filled-in_default.ensures
