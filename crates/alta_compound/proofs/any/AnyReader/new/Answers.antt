use Rattle.std.proofs.Common.{◌≡◌, ◌++◌, ◌<◌, map, length, take, drop, get_or, ap, sym, subst, ◌∙◌, arith}
use Rattle.std.specs.Prelude.{All, sum_by}
use Rattle.std.specs.List.Sorted.{IsPermutation}
use Rattle.std.proofs.lemmas.List.{take_at}
use Rattle.std.proofs.lemmas.List.Sorted.{All-permutation, IsPermutation-map, length_permutation, sum_by-IsPermutation}
use Rattle.alta_codec.specs.Rising.{first_from}
use Rattle.alta_compound.specs.Gathered.{gathered}
use Rattle.alta_compound.specs.IsUnion.{IsUnion}
use Rattle.alta_compound.specs.OverReaders.{union_of-rises, in_step_place}
use Rattle.alta_compound.proofs.InStep.{in_step_after, place-positive}
use Rattle.alta_compound.proofs.Permuted.{union_of-permutation, gathered-permutation}
use Rattle.alta_compound.specs.Union.{union_of, least_of, IsInStep}
use Rattle.alta_compound.proofs.Moving.{none_before}
use Rattle.alta_compound.proofs.any.AnyReader.new.Given.{Over}
use Rattle.alta_compound.proofs.any.AnyReader.new.Goals as goal
use Rattle.alta_compound.proofs.any.AnyReader.new.Goals.{After-build, After-least_place-at}

permuted : (g : Over) (c : After-build g) → IsPermutation c.args.readers.items c.build.new.readers
permuted g c = subst (λ l. IsPermutation l c.build.new.readers) c.deref_mut.ensures.value c.build.ensures.permutation

-- what the vector holds after it was lent to `build`
whole : (g : Over) (c : After-build g)
    → take c.args.readers.len (c.build.new.readers ++ drop (length c.build.new.readers) c.args.readers.items) ≡ c.build.new.readers
whole g c =
    take_at c.build.new.readers _ c.args.readers.len
    (omega (arith, c.args.readers.ok.0, length_permutation c.args.readers.items c.build.new.readers (permuted g c)))

sound_after : (g : Over) (c : After-build g) → All g.R.Reader.sound c.build.new.readers
sound_after g c = All-permutation g.R.Reader.sound c.args.readers.items c.build.new.readers (permuted g c) c.requires.sound

same_union : (g : Over) (c : After-build g) → union_of (map g.R.Reader.list c.build.new.readers) ≡ union_of (map g.R.Reader.list c.args.readers.items)
same_union g c =
    let f = g.R.Reader.list in let old = c.args.readers.items in let new = c.build.new.readers in
    union_of-permutation (map f old) (map f new)
    (union_of-rises f old (λ k d l. g.met.R.Reader.rises (get_or old k d) (c.requires.sound k d l)))
    (union_of-rises f new (λ k d l. g.met.R.Reader.rises (get_or new k d) (sound_after g c k d l)))
    (IsPermutation-map f old new (permuted g c))

starts : (g : Over) (c : After-least_place-at g) → IsPermutation c.args.readers.items c.build.new.readers → c.deref.result.now ≡ c.build.new.readers
    → IsInStep g.R.Reader.list g.R.Reader.location c.build.new.readers c.least_place-at.result
    × (c.least_place-at.result ≡ first_from (union_of (map g.R.Reader.list c.build.new.readers)) 0)
starts g c p e =
    let f = g.R.Reader.list in let h = g.R.Reader.location in let old = c.args.readers.items in let new = c.build.new.readers in
    in_step_after f h new 0 c.least_place-at.result (omega arith) (All-permutation (λ r. h r ≡ first_from (f r) 0) old new p c.requires.unmoved)
    (c.least_place-at.ensures.least ∙ ap (λ rs. least_of (map h rs)) e)

pub least_place-at-requires-clause-sound : goal.least_place-at-requires-clause-sound
least_place-at-requires-clause-sound g c =
    let b = (goal.at.least_place-at-requires-clause-sound g c).After-build in
    subst (λ l. All g.R.Reader.sound l) (sym (c.deref.ensures.value ∙ whole g b)) (sound_after g b)

pub returns-clause-unmoved : goal.returns-clause-unmoved
returns-clause-unmoved g c =
    let b = (goal.at.returns-clause-unmoved g c).After-build in
    (starts g (goal.at.returns-clause-unmoved g c).After-least_place-at (permuted g b) (c.deref.ensures.value ∙ whole g b)).1
    ∙ ap (λ u. first_from u 0) (same_union g b)

pub returns-clause-list : goal.returns-clause-list
returns-clause-list g c =
    let b = (goal.at.returns-clause-list g c).After-build in
    ap (λ rs. union_of (map g.R.Reader.list rs)) (whole g b) ∙ same_union g b

pub returns-clause-all : goal.returns-clause-all
returns-clause-all g c =
    let b = (goal.at.returns-clause-all g c).After-build in let a = g.R.Reader.all in
    ap (λ rs. gathered (map a rs)) (whole g b)
    ∙ gathered-permutation (map a c.args.readers.items) (map a c.build.new.readers) (IsPermutation-map a c.args.readers.items c.build.new.readers (permuted g b))

pub returns-clause-left : goal.returns-clause-left
returns-clause-left g c =
    let b = (goal.at.returns-clause-left g c).After-build in
    ap (λ rs. sum_by g.R.Reader.left rs) (whole g b)
    ∙ sum_by-IsPermutation g.R.Reader.left c.args.readers.items c.build.new.readers (permuted g b)

pub returns-clause-sound : goal.returns-clause-sound
returns-clause-sound g c =
    let b = (goal.at.returns-clause-sound g c).After-build in
    let f = g.R.Reader.list in let h = g.R.Reader.location in let new = c.build.new.readers in
    let sound = sound_after g b in
    let (in_step, place) = starts g (goal.at.returns-clause-sound g c).After-least_place-at (permuted g b) (c.deref.ensures.value ∙ whole g b) in
    let rising = union_of-rises f new (λ k d l. g.met.R.Reader.rises (get_or new k d) (sound k d l)) in
    let positive : 0 < c.least_place-at.result = place-positive (union_of (map f new)) c.least_place-at.result rising (in_step_place f h new c.least_place-at.result in_step) in
    subst (λ rs. All g.R.Reader.sound rs × IsUnion f h rs c.least_place-at.result 0) (sym (whole g b))
    (sound, record { in_step = in_step; heap = c.build.ensures.heap; last = none_before (union_of (map f new)) c.least_place-at.result positive place })
