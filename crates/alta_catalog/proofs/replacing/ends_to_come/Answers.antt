use Rattle.std.proofs.Common.{◌++◌, ◌∙◌, ap, subst, sym, take_all}
use Rattle.std.specs.List.{filter}
use Rattle.alta_codec.specs.Rising.{IsRising}
use Rattle.alta_content.proofs.Rises.{filter-rises}
use Rattle.alta_meaning.specs.Opened.{table_rows}
use Rattle.alta_catalog.specs.Replacing.{is_end}
use Rattle.alta_catalog.proofs.ComingLaws.{ends_coming}
use Rattle.alta_catalog.proofs.replacing.ends_to_come.Goals as goal

pub returns-clause-value : goal.returns-clause-value
returns-clause-value c =
    let rows = c.args.oldest.now ++ (table_rows c.args.levels.now ++ c.args.newest.now) in
    c.loop-end.invariant ∙ ap (filter (is_end rows)) (take_all c.loop-end.end-index c.args.gone.now c.loop-end-test.false) ∙ ends_coming c.args.gone.now rows c.requires.rising c.requires.rows

pub returns-clause-rising : goal.returns-clause-rising
returns-clause-rising c =
    let rows = c.args.oldest.now ++ (table_rows c.args.levels.now ++ c.args.newest.now) in
    subst IsRising (sym (c.loop-end.invariant ∙ ap (filter (is_end rows)) (take_all c.loop-end.end-index c.args.gone.now c.loop-end-test.false)))
    (filter-rises (is_end rows) c.args.gone.now c.requires.rising)
