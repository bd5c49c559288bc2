use Rattle.std.proofs.Common.{◌≡◌, ◌∙◌, ◌++◌, Bool, Option, ℕ, false, sym, ap, ap₂}
use Rattle.std.specs.Prelude.{◌||◌, is_some}
use Rattle.alta_meaning.specs.Known.{is_taken, is_taken_by}
use Rattle.alta_meaning.specs.Opened.{live_in, table_rows}
use Rattle.alta_meaning.proofs.Tests.{or_first, or_right}
use Rattle.alta_opening.specs.Names.{live_behind}
use Rattle.alta_opening.proofs.Naming.{taken_any, taken_by_another, taken_by_text, taken_either}
use Rattle.alta_opening.proofs.Numbered.{either_by}
use Rattle.alta_opening.proofs.names.has_live.Goals as goal

pub returns-in-None : goal.returns-in-None
returns-in-None c =
    c.is_some.ensures ∙ ap (λ (o : Option ℕ). is_some o) c.other.ensures
    ∙ taken_by_text c.args.names.now (live_behind c.args.deleted.now c.args.levels.now c.args.behind.now) c.requires.names c.args.name.now (sym c.likely.ensures ∙ c.in-None.is)

pub returns-then-is_in_levels : goal.returns-then-is_in_levels
returns-then-is_in_levels c =
    let levels = live_in c.args.deleted.now (table_rows c.args.levels.now) in
    let behind = live_in c.args.deleted.now c.args.behind.now in
    sym (taken_either c.args.name.now levels behind
    ∙ or_first (is_taken c.args.name.now levels) (is_taken c.args.name.now behind) (taken_any c.args.name.now c.in-Some.number levels (sym c.is_in_levels.ensures ∙ c.if-is_in_levels.true)))

pub returns-then-is_in_rows : goal.returns-then-is_in_rows
returns-then-is_in_rows c =
    let levels = live_in c.args.deleted.now (table_rows c.args.levels.now) in
    let behind = live_in c.args.deleted.now c.args.behind.now in
    sym (taken_either c.args.name.now levels behind
    ∙ or_right (is_taken c.args.name.now levels) (is_taken c.args.name.now behind) (taken_any c.args.name.now c.in-Some.number behind (sym c.is_in_rows.ensures ∙ c.if-is_in_rows.true)))

pub returns-else-is_in_rows : goal.returns-else-is_in_rows
returns-else-is_in_rows c =
    let name = c.args.name.now in
    let number = c.in-Some.number in
    let levels = live_in c.args.deleted.now (table_rows c.args.levels.now) in
    let behind = live_in c.args.deleted.now c.args.behind.now in
    let none : is_taken_by name number (levels ++ behind) ≡ false =
    either_by name number levels behind
    ∙ ap₂ (λ (a b : Bool). a || b) (sym c.is_in_levels.ensures ∙ c.if-is_in_levels.false) (sym c.is_in_rows.ensures ∙ c.if-is_in_rows.false) in
    c.is_some-in-Some.ensures ∙ ap (λ (o : Option ℕ). is_some o) c.other-in-Some.ensures ∙ taken_by_another c.args.names.now (levels ++ behind) c.requires.names name number (sym c.likely.ensures ∙ c.in-Some.is) none
