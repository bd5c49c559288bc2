use Rattle.std.proofs.Common.{arith, refl}
use Rattle.alta_level.proofs.Entries.{assembled}
use Rattle.alta_level.proofs.building.assemble.Goals as goal

pub returns : goal.returns
returns c = λ content rows lists documents terms streams.
    assembled content _ c.len-size.result c.put_head.new.out.items c.extend_from_slice.new.self.items c.extend_from_slice-2.new.self.items c.rotate_left.new.self.items
    c.args.documents.now c.args.terms.now c.args.streams.items
    c.in_ok-put_head.ensures.ok c.in_ok-extend_from_slice.ensures.items c.in_ok-extend_from_slice-2.ensures.items (omega (arith, c.len-size.ensures)) c.rotate_left.ensures.items
    documents terms streams rows lists refl refl
