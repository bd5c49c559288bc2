use Rattle.std.proofs.Common.{◌≡◌, ⊎_elim, [], map, get_or, ap, ◌∙◌, arith}
use Rattle.std.proofs.lemmas.Bool.{cases_lt}
use Rattle.std.proofs.lemmas.List.{get_or_default, length-map}
use Rattle.alta_codec.specs.Rising.{first_from}
use Rattle.alta_codec.proofs.Places.{first_from-above}
use Rattle.alta_rank.proofs.scoring.least_from.Goals as goal

pub readers-preserved : goal.readers-preserved
readers-preserved g c =
    let inv = c.readers.invariant in let i = c.readers.i in let first = c.args.first in
    let lists = map g.R.Reader.list c.args.readers.now in
    let at : c.place_at.result ≡ first_from (get_or lists i []) first = c.place_at.ensures.place ∙ ap (λ ls. first_from (get_or ls i []) first) inv.lists in
    record {
      sound = c.place_at.ensures.on.sound;
      lists = c.place_at.ensures.on.lists ∙ inv.lists;
      behind = c.place_at.ensures.behind;
      above = omega (arith, inv.above, at, first_from-above (get_or lists i []) first c.requires.top, c.min-least.ensures);
      least = λ k l. ⊎_elim
          (λ lt. omega (arith, inv.least k lt, c.min-least.ensures))
          (λ ge. let same : k ≡ i = omega (arith, l, ge) in omega (arith, at, c.min-least.ensures, ap (λ m. first_from (get_or lists m []) first) same))
          (cases_lt k i);
      steps = omega (arith, c.place_at.ensures.on.steps, inv.steps);
    }

pub returns-clause-least : goal.returns-clause-least
returns-clause-least g c = λ k d l.
    let lists = map g.R.Reader.list c.args.readers.now in
    omega (
      arith,
      c.readers.invariant.least k (omega (arith, l, c.readers-test.false, length-map c.args.readers.now g.R.Reader.list)),
      ap (λ xs. first_from xs c.args.first) (get_or_default lists k d [] l),
    )
