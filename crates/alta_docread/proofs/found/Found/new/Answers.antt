use Rattle.std.proofs.Common.{map, refl, sym, subst, arith}
use Rattle.std.proofs.lemmas.List.{length-map}
use Rattle.alta_docread.specs.Solutions.{IsHeld}
use Rattle.alta_docread.proofs.Solved.{found-is}
use Rattle.alta_docread.proofs.Unmoved.{places_first}
use Rattle.alta_docread.proofs.found.Found.new.Goals as goal

pub returns-clause-solutions : goal.returns-clause-solutions
returns-clause-solutions g c =
    let rs = c.args.solver.readers in
    found-is (map g.R.Reader.list rs) c.args.solver.bounds (omega (arith, c.first-first.ensures.some, length-map rs g.R.Reader.list))

pub returns-clause-unmoved : goal.returns-clause-unmoved
returns-clause-unmoved g c = λ h.
    let rs = c.args.solver.readers in (
      refl,
      places_first g.R.Reader.list g.R.Reader.location rs h,
      omega (arith, c.first-first.ensures.some, length-map rs g.R.Reader.list),
      c.first-first.ensures.rising,
      subst (λ n. IsHeld n c.args.solver.bounds) (sym (length-map rs g.R.Reader.list)) c.requires,
    )
