use Rattle.std.proofs.Common.{◌≡◌, [], map, get_or, sym, subst, ap, ◌∙◌}
use Rattle.std.proofs.lemmas.List.{get_or-map}
use Rattle.alta_codec.specs.Rising.{IsRising, IsPlace}
use Rattle.alta_codec.proofs.Places.{place-le_top}
use Rattle.alta_reader.proofs.many.place_at.Goals as goal

pub returns : goal.returns
returns g c =
    let R = g.R.Reader in let rs = c.args.readers.now in let j = c.args.j in let r = c.index-readers-j.result in let within = c.requires.within in
    let rises = g.met.R.Reader.rises r (subst (λ s. R.sound s) (sym c.index-readers-j.is) (c.requires.sound j r within)) in
    let list : R.list r ≡ get_or (map R.list rs) j [] = ap R.list c.index-readers-j.is ∙ sym (get_or-map R.list rs j r [] within) in
    record {
      value = c.loc.ensures.location ∙ ap R.location c.index-readers-j.is ∙ sym (get_or-map R.location rs j r 0 within);
      place = subst (λ l. IsPlace l c.loc.result) list c.loc.ensures.place;
      rising = subst IsRising list rises;
      top = place-le_top (R.list r) c.loc.result rises c.loc.ensures.place;
    }
