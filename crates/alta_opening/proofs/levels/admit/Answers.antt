use Rattle.std.proofs.Common.{◌≡◌, true, List, Ok, sym, ap, subst, ◌∙◌}
use Rattle.alta_content.specs.Rows.{start}
use Rattle.alta_meaning.specs.Opened.{are_in_order, names_in}
use Rattle.alta_meaning.specs.Names.{AreNames}
use Rattle.alta_opening.specs.Names.{live_behind}
use Rattle.alta_table.specs.Tables.{Tables}
use Rattle.alta_opening.specs.Rows.{behind_rows}
use Rattle.alta_opening.proofs.LevelLaws.{reached_more}
use Rattle.alta_opening.proofs.levels.admit.Goals as goal

pub returns-clause-reached : goal.returns-clause-reached
returns-clause-reached c =
    let level = c.args.level in
    let reached = c.requires.reached in
    let same = c.documents-rows.ensures.rows in
    let kept = c.documents-rows.ensures.kept in
    let ordered : are_in_order c.args.root.now c.args.found.now.levels.items level.documents ≡ true =
    sym (c.are_placed.ensures c.args.found.now.levels.items reached.rows reached.last ∙ ap (are_in_order c.args.root.now c.args.found.now.levels.items) same) ∙ c.if-not-are_placed.false in
    reached_more c.args.root.now c.args.deleted.now c.args.found.now _ level reached kept.documents_stand kept.some ordered c.in_ok-push.ensures.items
    (c.last_of-last.ensures ∙ ap (behind_rows start) same) (subst (λ (levels : List Tables). names_in c.args.deleted.now levels level ≡ Ok (live_behind c.args.deleted.now levels level.documents)) c.deref.ensures.value c.in_ok-note_names.ensures.found)
    (subst (λ (levels : List Tables). AreNames c.note_names.new.names (live_behind c.args.deleted.now levels level.documents)) c.deref.ensures.value c.in_ok-note_names.ensures.names)
