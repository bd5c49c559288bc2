use Rattle.std.proofs.Common.{◌+◌, ◌<◌, map, length, get_or, refl, ap, arith}
use Rattle.std.proofs.lemmas.List.{length-map}
use Rattle.alta_content.specs.Rows.{end_of, ends_of}
use Rattle.alta_content.specs.All.{Walked, shared_rows, rows_of_levels}
use Rattle.alta_content.proofs.Levels.{level_fits, rising_fits}
use Rattle.alta_content.proofs.walk.RowWalk.reach.Goals as goal

pub overflow_add-result : goal.overflow_add-result
overflow_add-result c =
    let levels = map shared_rows c.self.inside.levels.now in let p = c.first_from-self-inside.result in let told = c.first_from-self-inside.ensures in
    let l : p.level < length levels = omega (arith, c.if-self.false, length-map c.self.inside.levels.now shared_rows) in
    omega (
      arith,
      level_fits levels p.level p.before p.index told.place l,
      told.stands c.if-self.false,
      rising_fits (ends_of (rows_of_levels levels)) c.self.invariant.0,
      length-map (rows_of_levels levels) end_of,
    )

pub returns-clause-some : goal.returns-clause-some
returns-clause-some c =
    let levels = map shared_rows c.self.inside.levels.now in let p = c.first_from-self-inside.result in let told = c.first_from-self-inside.ensures in
    let l : p.level < length levels = omega (arith, c.if-self.false, length-map c.self.inside.levels.now shared_rows) in (
      refl,
      omega (arith, level_fits levels p.level p.before p.index told.place l, told.stands c.if-self.false, ap (λ (w : Walked). length w.rows) c.self.view_is),
      omega (arith, told.here c.if-self.false, ap (λ (w : Walked). get_or (ends_of w.rows) (p.before + p.index) 0) c.self.view_is),
    )
