use Rattle.std.proofs.Common.{◌≡◌, ◌<◌, List, map, length, get_or, refl, sym, ap, ◌∙◌, arith}
use Rattle.std.specs.Prelude.{slice_get, Some}
use Rattle.std.proofs.lemmas.Option.{slice_get-map, slice_get_read, get_or_from_slice_get}
use Rattle.std.proofs.lemmas.List.{length-map}
use Rattle.std.specs.Option.{option_map}
use Rattle.alta_machine.specs.Searching.{AnswerRow}
use Rattle.alta_search.specs.Told.{answer_of, no_row}
use Rattle.alta_search.proofs.page.Answers.row.Goals as goal

pub returns : goal.returns
returns c =
    let rows = c.self.inside.rows in let picks = c.self.inside.picks.items in let i = c.index.result.now in
    let inside : c.args.index < length picks =
    omega (arith, c.requires, ap length c.self.view_is, length-map (map (λ j. get_or rows j no_row) picks) answer_of, length-map picks (λ j. get_or rows j no_row)) in
    let there : slice_get picks c.args.index ≡ Some i = slice_get_read picks (length picks) c.args.index i refl inside c.index.ensures in
    let row : get_or rows i no_row ≡ c.row.result.now = get_or_from_slice_get rows i c.row.result.now no_row c.row.ensures in
    ap (λ (xs : List AnswerRow). slice_get xs c.args.index) (sym c.self.view_is)
    ∙ slice_get-map answer_of (map (λ j. get_or rows j no_row) picks) c.args.index
    ∙ ap (option_map answer_of) (slice_get-map (λ j. get_or rows j no_row) picks c.args.index)
    ∙ ap (λ o. option_map answer_of (option_map (λ j. get_or rows j no_row) o)) there
    ∙ ap (λ r. Some (answer_of r)) row
