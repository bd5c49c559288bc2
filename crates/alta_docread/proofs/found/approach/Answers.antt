use Rattle.std.proofs.Common.{◌≡◌, inr, ⊎_elim, ◌<◌, map, length, get_or, sym, subst, ap, ◌∙◌, arith}
use Rattle.std.specs.Prelude.{Contains}
use Rattle.std.proofs.lemmas.List.{length-map, length-set, get_or-set_same}
use Rattle.alta_codec.specs.Rising.{IsPlace, first_from}
use Rattle.alta_codec.proofs.Places.{first_from-above}
use Rattle.alta_solver.specs.Solution.{list_at}
use Rattle.alta_docread.specs.Solutions.{IsHeld}
use Rattle.alta_docread.proofs.Walks.{raised_second}
use Rattle.alta_docread.proofs.found.approach.Goals as goal

pub returns-clause-reached : goal.returns-clause-reached
returns-clause-reached g c =
    let h = g.R.Reader.location in let rs = c.args.solver.now.readers in let new = map h c.raise.new.self.readers in
    let y = first_from (list_at (map g.R.Reader.list rs) 1) c.args.to in
    let many : 1 < length (map h rs) = omega (arith, length-map rs h) in
    let size : length new ≡ length (map h rs) = ap length c.raise.ensures.places ∙ length-set (map h rs) 1 y in
    inr (
      omega (arith, size, many),
      omega (
        arith,
        first_from-above (list_at (map g.R.Reader.list rs) 1) c.args.to c.requires.top,
        ap (λ ps. get_or ps 1 0) c.raise.ensures.places,
        get_or-set_same (map h rs) 1 y 0 many,
      ),
    )

pub returns-clause-keeps : goal.returns-clause-keeps
returns-clause-keeps g c = λ x s above old.
    let f = g.R.Reader.list in let h = g.R.Reader.location in let rs = c.args.solver.now.readers in let lists = map f rs in let at = c.args.at in
    let stood = c.requires.walking.stands (omega arith) (omega (arith, c.requires.above, c.requires.top)) in
    let here : Contains (list_at lists 0) at =
    ⊎_elim (λ m. m) (λ t. absurd (omega (arith, t, c.requires.above, c.requires.top)))
    (subst (λ v. IsPlace (list_at lists 0) v) stood.1 (stood.0.places 0 (omega (arith, length-map rs f)))) in
    raised_second lists c.args.solver.now.bounds (map h rs) (map h c.raise.new.self.readers) x at c.args.to
    (subst (λ n. IsHeld n c.args.solver.now.bounds) (sym (length-map rs f)) c.requires.held)
    (omega (arith, length-map rs f)) (omega (arith, length-map rs h)) c.raise.ensures.places here (omega (arith, c.requires.above)) s above old
