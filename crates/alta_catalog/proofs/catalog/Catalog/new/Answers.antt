use Rattle.std.proofs.Common.{◌<◌, List, ap, length, refl, subst, sym, ◌∙◌}
use Rattle.std.specs.List.{sum_by}
use Rattle.alta_content.specs.Rows.{live_rows}
use Rattle.alta_meaning.specs.Opened.{table_rows}
use Rattle.alta_table.specs.Tables.{Tables}
use Rattle.alta_catalog.specs.Counting.{cells_in, row_words}
use Rattle.alta_catalog.proofs.StartingLaws.{cells_below, starts}
use Rattle.alta_catalog.proofs.catalog.Catalog.new.Goals as goal

pub tally_levels-tally-requires : goal.tally_levels-tally-requires
tally_levels-tally-requires c =
    subst (λ (levels : List Tables). cells_in (table_rows levels) < 18446744073709551616) (sym c.deref.ensures.value)
    (cells_below c.args.root.now c.requires.sound.0 c.requires.sound.1 (table_rows c.args.levels.items) c.requires.rows c.requires.below)

pub returns-clause-knows : goal.returns-clause-knows
returns-clause-knows c = λ s may.
    starts _ c.args.root.now c.requires.sound.0 c.requires.sound.1 c.args.deleted.now c.in_ok-gone.ensures c.requires.rows c.requires.below c.requires.rising c.requires.ends c.requires.ordered c.requires.names
    refl refl refl
    (c.tally_levels-tally.ensures.documents ∙ ap (λ (levels : List Tables). length (live_rows c.in_ok-gone.gone (table_rows levels))) c.deref.ensures.value)
    (c.tally_levels-tally.ensures.words ∙ ap (λ (levels : List Tables). sum_by row_words (live_rows c.in_ok-gone.gone (table_rows levels))) c.deref.ensures.value)
    c.new.ensures.sound c.new.ensures.empty s may
