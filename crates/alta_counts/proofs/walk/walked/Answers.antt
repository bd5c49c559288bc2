use Rattle.std.proofs.Common.{◌≡◌, map, sym, subst, arith}
use Rattle.std.specs.Prelude.{All, Contains}
use Rattle.alta_codec.specs.Rising.{first_from}
use Rattle.alta_counts.specs.Walking.{CanWalk}
use Rattle.alta_counts.proofs.CodedReaders.{each_unmoved}
use Rattle.alta_counts.proofs.walk.walked.Goals as goal

pub tally-requires-clause-ends_ahead : goal.tally-requires-clause-ends_ahead
tally-requires-clause-ends_ahead g c =
    let stand = subst (λ a. CanWalk a (g.E.Reader.list c.args.ends) (map g.R.Reader.list c.args.words.items) (map g.R.Reader.list c.args.negated.items) c.args.at (g.E.Reader.location c.args.ends)
    (map g.R.Reader.location c.args.words.items) (map g.R.Reader.location c.args.negated.items)) c.in-Led.is c.requires.stand in
    λ z m h. omega (arith, stand.1.ends_ahead z (subst (λ l. Contains l z) c.new-ends.ensures.list m) h, c.new-ends.ensures.location)

pub tally_any_of-requires-clause-words_unmoved : goal.tally_any_of-requires-clause-words_unmoved
tally_any_of-requires-clause-words_unmoved g c =
    let stand = subst (λ a. CanWalk a (g.E.Reader.list c.args.ends) (map g.R.Reader.list c.args.words.items) (map g.R.Reader.list c.args.negated.items) c.args.at (g.E.Reader.location c.args.ends)
    (map g.R.Reader.location c.args.words.items) (map g.R.Reader.location c.args.negated.items)) c.in-Walked.is c.requires.stand in
    subst (λ rs. All (λ r. g.R.Reader.location r ≡ first_from (g.R.Reader.list r) 0) rs) (sym c.deref_mut-else-followed.ensures.value)
    (each_unmoved g.R.Reader.list g.R.Reader.location c.args.words.items stand.places_are)
