use Rattle.std.proofs.Common.{◌∷◌, [], ap, arith}
use Rattle.std.specs.List.{sum_by}
use Rattle.std.proofs.lemmas.List.Sorted.{sum_by-IsPermutation}
use Rattle.std.proofs.lemmas.List.Sums.{sum_by-append}
use Rattle.check_steps.proofs.unions.first_of_two.Goals as goal

-- each of the two readers costs a step, and each making was one
pub returns : goal.returns
returns g c =
    let same = sum_by-IsPermutation (λ r. 1) c.push-2.new.self.items c.new-any.result.readers.items c.new-any.ensures.readers in
    let second = ap (λ l. sum_by (λ r. 1) l) c.in_ok-push-2.ensures.items in
    let first = ap (λ l. sum_by (λ r. 1) l) c.in_ok-push.ensures.items in
    let none = ap (λ l. sum_by (λ r. 1) l) c.new-readers.ensures.items in
    let two = sum_by-append (λ r. 1) c.push.new.self.items (c.new-2.result ∷ []) in
    let one = sum_by-append (λ r. 1) c.new-readers.result.items (c.new.result ∷ []) in
    omega (arith, same, second, first, none, two, one, c.after_seek-place.ensures.cost, c.new.ensures.one, c.new-2.ensures.one)
