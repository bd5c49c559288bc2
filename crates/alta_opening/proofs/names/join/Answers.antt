use Rattle.std.proofs.Common.{◌≡◌, ◌∙◌, List, ℕ, false, sym, ap, subst}
use Rattle.std.specs.Prelude.{Some}
use Rattle.std.specs.Map.{update}
use Rattle.std.specs.Str.{bytes_eq}
use Rattle.alta_meaning.specs.Known.{is_taken}
use Rattle.alta_meaning.specs.Names.{number_of}
use Rattle.alta_names.specs.Names.{Fits}
use Rattle.alta_opening.specs.Names.{live_behind}
use Rattle.alta_opening.proofs.Naming.{free_none, names_live}
use Rattle.alta_opening.proofs.names.join.Goals as goal

pub returns-clause-names : goal.returns-clause-names
returns-clause-names c = λ joins.
    let row = c.args.row.now in
    let live = live_behind c.args.deleted.now c.args.levels.now c.args.behind.now in
    let lives = sym c.is_deleted.ensures ∙ c.if-is_deleted.false in
    let free : is_taken row.name live ≡ false = ap (λ (name : List ℕ). is_taken name live) (sym c.as_str-name.ensures) ∙ sym c.has_live.ensures ∙ c.if-has_live.false in
    names_live c.note.new.self c.args.deleted.now live row lives free
    (subst (λ (name : List ℕ). Fits c.note.new.self (update bytes_eq (λ (x : List ℕ). number_of x live) name (Some row.number))) c.as_str-name.ensures
    (c.in_ok-note.ensures (λ (x : List ℕ). number_of x live) c.requires.names (ap (λ (name : List ℕ). number_of name live) c.as_str-name.ensures ∙ free_none row.name live free)))
