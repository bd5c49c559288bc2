use Rattle.std.proofs.Common.{arith}
use Rattle.alta_level.proofs.DecodedTo.{decoded_none, decoded_more, decoded_spells, decoded_places}
use Rattle.alta_level.proofs.decoding.decode.Goals as goal

pub numbers-init : goal.numbers-init
numbers-init c = decoded_none c.args.stream.now _ _ c.clear.ensures.items c.clear-2.ensures.items

pub numbers-preserved : goal.numbers-preserved
numbers-preserved c =
    decoded_more c.args.stream.now c.numbers.locations.items c.numbers.places.items c.numbers.at c.numbers.last c.in-Ok.location c.in-Ok.next
    (λ i l. omega (arith, c.type_inv.stream i)) c.numbers.invariant c.in-Ok.ensures.read c.keep.new.locations.items c.keep.new.places.items
    c.in-Ok-keep.ensures.locations c.in-Ok-keep.ensures.first c.in-Ok-keep.ensures.later

pub returns-clause-spelled : goal.returns-clause-spelled
returns-clause-spelled c =
    decoded_spells c.args.stream.now c.numbers.locations.items c.numbers.places.items c.numbers.at c.numbers.last (λ i l. omega (arith, c.type_inv.stream i)) c.numbers.invariant (omega (arith, c.numbers-test.false))

pub returns-clause-places : goal.returns-clause-places
returns-clause-places c =
    decoded_places c.args.stream.now c.numbers.locations.items c.numbers.places.items c.numbers.at c.numbers.last (λ i l. omega (arith, c.type_inv.stream i)) c.numbers.invariant (omega (arith, c.numbers-test.false))
