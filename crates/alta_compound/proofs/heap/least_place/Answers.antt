use Rattle.std.proofs.Common.{◌≡◌, ◌<◌, map, length, get_or, sym, ◌∙◌, arith}
use Rattle.std.proofs.lemmas.List.{get_or-map, get_or_default, get_or_past, length-map}
use Rattle.alta_codec.specs.declared.location.TheConstants.{TOP}
use Rattle.alta_codec.proofs.Places.{place-le_top}
use Rattle.alta_compound.proofs.Heaps.{root_least, some_of}
use Rattle.alta_compound.proofs.heap.least_place.Goals as goal

pub returns-else-is_empty-clause-least : goal.returns-else-is_empty-clause-least
returns-else-is_empty-clause-least g c =
    let h = g.R.Reader.location in let f = g.R.Reader.list in let rs = c.args.readers.now in
    let some : 0 < length rs = grind (arith, c.is_empty.ensures, c.if-is_empty.false) in
    let d = some_of rs some in
    c.place_at.ensures.value
    ∙ get_or_default (map h rs) 0 0 TOP (omega (arith, length-map rs h))
    ∙ root_least (map h rs) c.requires.heap
    (λ i l. let w : i < length rs = omega (arith, length-map rs h) in
    let r = get_or rs i d in let sound = c.requires.sound i d w in
    omega (arith, get_or-map h rs i d 0 w, place-le_top (f r) (h r) (g.met.R.Reader.rises r sound) (g.met.R.Reader.stands r sound)))

pub returns-else-is_empty-clause-first : goal.returns-else-is_empty-clause-first
returns-else-is_empty-clause-first g c =
    let h = g.R.Reader.location in let rs = c.args.readers.now in
    let some : 0 < length rs = grind (arith, c.is_empty.ensures, c.if-is_empty.false) in
    sym (c.place_at.ensures.value ∙ get_or_default (map h rs) 0 0 TOP (omega (arith, length-map rs h)))

pub returns-then-is_empty-clause-first : goal.returns-then-is_empty-clause-first
returns-then-is_empty-clause-first g c =
    let h = g.R.Reader.location in let rs = c.args.readers.now in
    let none : length rs ≡ 0 = grind (arith, c.is_empty.ensures, c.if-is_empty.true) in
    get_or_past (map h rs) 0 TOP (omega (arith, length-map rs h))
