use Rattle.std.proofs.Common.{◌≡◌, ℕ, ◌<◌, List, ◌++◌, map, length, take, drop, get_or, refl, rules, sym, subst, ap, ◌∙◌, arith}
use Rattle.std.specs.Prelude.{All, slice_index}
use Rattle.std.proofs.Math.Seq.{take-append_seam}
use Rattle.std.proofs.lemmas.Bool.Decides.{nat_tests}
use Rattle.std.proofs.lemmas.List.{length-map}
use Rattle.alta_codec.specs.declared.location.TheConstants.{TOP}
use Rattle.alta_codec.specs.Rising.{IsPlace}
use Rattle.alta_codec.specs.Inequality.{Inequality}
use Rattle.alta_solver.specs.Solution.{list_at, IsLeast}
use Rattle.alta_solver.specs.Settling.{IsSettling}
use Rattle.alta_solver.proofs.Raised.{at_both}
use Rattle.alta_solver.proofs.Settling.{settling_done}
use Rattle.alta_solver.proofs.solver.Solver.settle.Goals as goal

-- of a list and what stands behind it, what its length takes is the list
front : {A : Type 0} (n : ℕ) (xs ys : List A) → n ≡ length xs → take n (xs ++ ys) ≡ xs
front n xs ys e = ap (λ k. take k (xs ++ ys)) e ∙ take-append_seam xs ys

-- where sound readers stand at places at which all bounds hold, the first below TOP, they stand at the least solution
least_of : {R : Type 0} (Sound : R → Type 0) (f : R → List ℕ) (h : R → ℕ) (bounds : List Inequality) (old now : List R)
    → ((r : R) → Sound r → IsPlace (f r) (h r)) → All Sound now → map f now ≡ map f old
    → IsSettling (map f old) bounds (map h old) (map h now) 0 → slice_index (map h now) 0 < TOP
    → IsLeast (map f old) bounds (map h old) (map h now)
least_of Sound f h bounds old now stands sound lists settled led =
    let size : length (map h now) ≡ length (map f old) = length-map now h ∙ sym (length-map now f) ∙ ap length lists in
    settling_done _ _ _ _ settled led size
    (λ k l. subst (λ ls. IsPlace (list_at ls k) (slice_index (map h now) k)) lists
    (at_both f h (λ xs x. IsPlace xs x) now k (λ n d w. stands (get_or now n d) (sound n d w)) (omega (arith, size, length-map now h))))

pub returns-clause-least : goal.returns-clause-least
returns-clause-least g c = λ below.
    let f = g.R.Reader.list in let h = g.R.Reader.location in
    let mid = c.deref_mut.result.now in let now = c.settle-settled.new.readers in
    let e = c.if-not-settled.ensures in
    let same : c.deref-2.result.now ≡ now = c.deref-2.ensures.value ∙ front c.self.inside.readers.len now (drop (length now) c.self.inside.readers.items) (omega (arith, c.settle-settled.auto.readers, c.deref_mut.ensures.len)) in
    let short : c.place_at.result < TOP = grind (arith, nat_tests) in
    let led : slice_index (map h now) 0 < TOP = omega (arith, short, c.place_at.ensures.value, ap (λ (rs : List g.row.R.Denot). slice_index (map h rs) 0) same) in
    let least : IsLeast (map f mid) c.deref.result.now (map h mid) (map h now) =
    least_of g.R.Reader.sound f h c.deref.result.now mid now g.met.R.Reader.stands e.kept.sound e.kept.lists (e.settled refl) led in
    search rules
