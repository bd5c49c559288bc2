use Rattle.std.proofs.Common.{ℕ, List, ◌++◌, ap, ◌∙◌}
use Rattle.alta_postings.proofs.Growing.{longer}
use Rattle.alta_postings.proofs.building.put_field.Goals as goal

pub returns : goal.returns
returns c =
    longer c.args.out.now.items c.extend_from_slice.new.self.items c.args.n (c.in_ok-extend_from_slice.ensures.items ∙ ap (λ (s : List ℕ). c.args.out.now.items ++ s) c.to_be_bytes.ensures) c.ranges.n.fits
