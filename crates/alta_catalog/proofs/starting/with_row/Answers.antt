use Rattle.std.proofs.Common.{refl, subst, sym}
use Rattle.std.specs.Prelude.{Contains}
use Rattle.std.proofs.lemmas.Bool.{false≢true}
use Rattle.alta_content.specs.Rows.{end_of}
use Rattle.alta_catalog.proofs.EndLaws.{among, not_among}
use Rattle.alta_catalog.proofs.TallyLaws.{tally_dead, tally_live}
use Rattle.alta_catalog.proofs.starting.with_row.Goals as goal

pub returns-then-holds-clause-tally : goal.returns-then-holds-clause-tally
returns-then-holds-clause-tally c = λ before is.
    tally_dead c.args.gone.now before c.args.row.now c.args.tally (among c.args.gone.now (end_of c.args.row.now) (subst (Contains c.args.gone.now) c.end_of.ensures (c.if-holds.ensures.0 refl))) is

pub returns-clause-tally : goal.returns-clause-tally
returns-clause-tally c = λ before is.
    tally_live c.args.gone.now before c.args.row.now c.args.tally _
    (not_among c.args.gone.now (end_of c.args.row.now) (λ has. false≢true (c.if-holds.ensures.1 (subst (Contains c.args.gone.now) (sym c.end_of.ensures) has)))) is refl refl
