use Rattle.std.proofs.Common.{◌++◌, IsTrue, List, subst, sym, ◌∙◌, ap₂}
use Rattle.alta_meaning.specs.Opened.{table_rows}
use Rattle.alta_meaning.specs.Ordered.{RowsPrecede}
use Rattle.alta_memlevel.specs.Added.{HasContent, LevelView}
use Rattle.alta_table.specs.Tables.{Tables}
use Rattle.alta_store.proofs.store.Store.sources.Goals as goal

pub returns : goal.returns
returns c =
    let s = c.requires.state in
    let knows = c.requires.knows in
    let memory = c.newest.ensures.memory in
    let gone = c.newest.ensures.gone in
    let rows = c.in_ok-rows.ensures
    ∙ ap₂ (λ (levels : List Tables) (newest : LevelView). table_rows levels ++ newest.content.documents) (sym c.levels.ensures) (sym memory) in
    record {
      levels_are = c.levels.ensures;
      newest_is = memory;
      gone_are = gone;
      added = (knows.added, subst (λ (m : LevelView). IsTrue m.sound) (sym memory) knows.sound, subst (λ (m : LevelView). HasContent knows.added m.content) (sym memory) knows.content);
      rows_are = rows;
      rise = subst RowsPrecede (sym c.in_ok-rows.ensures) (c.newest.ensures.rise s knows);
      rising = (c.newest.ensures.parts s knows).has.rising;
    }
