use Rattle.std.proofs.Common.{◌≡◌, ◌+◌, ◌<◌, ℕ, ◌++◌, ◌∷◌, [], List, get_or, length, map, take, sym, subst, ap, ap₂, ◌∙◌, arith, append-nil}
use Rattle.std.specs.List.{All}
use Rattle.std.proofs.lemmas.Grind.{flat_map-append}
use Rattle.std.proofs.lemmas.List.{map-append, take_more}
use Rattle.std.proofs.lemmas.List.Elements.{All-append, All-cons, All-nil}
use Rattle.alta_content.specs.TermList.{TermList}
use Rattle.alta_content.specs.declared.document.DocRow.{DocRow}
use Rattle.alta_joins.specs.Reading.{IsOpen}
use Rattle.alta_meaning.specs.Opened.{table_rows}
use Rattle.alta_table.specs.Tables.{Tables}
use Rattle.alta_joins.proofs.oldest.begin_levels.Goals as goal

-- one level more
more : (levels : List Tables) (i : ℕ) (x : Tables) → i < length levels → x ≡ get_or levels i x → take (i + 1) levels ≡ take i levels ++ x ∷ []
more levels i x inside is = take_more levels i x inside ∙ ap (λ (l : Tables). take i levels ++ l ∷ []) (sym is)

rows_more : (levels : List Tables) (x : Tables) → table_rows (levels ++ x ∷ []) ≡ table_rows levels ++ x.documents
rows_more levels x = flat_map-append (λ (t : Tables). t.documents) levels (x ∷ []) ∙ ap (λ (r : List DocRow). table_rows levels ++ r) (append-nil x.documents)

pub loop-level-preserved : goal.loop-level-preserved
loop-level-preserved c =
    let levels : List Tables = c.args.levels.now in
    let i = c.loop-level.level-index in
    let x : Tables = c.level-item.result in
    let next : take (i + 1) levels ≡ take i levels ++ x ∷ [] = more levels i x c.loop-level-test.true c.level-item.is in
    let own : IsOpen x = record { keeps = c.rows.ensures.kept; below = omega (arith, c.in-Ok.ensures.place, c.in-Ok.ensures.bytes, c.in-Ok.ensures.below) } in
    let copied : c.in_ok-more.more.items ≡ x.documents = c.in_ok-more.ensures ∙ c.deref.ensures ∙ c.rows.ensures.rows in
    let none : Tables → ℕ = λ level. 0 in
    let empty : Tables → List TermList = λ level. [] in
    record {
      opened = subst (All IsOpen) (sym next) (All-append IsOpen (take i levels) (x ∷ []) c.loop-level.invariant.opened (All-cons IsOpen x [] own (All-nil IsOpen)));
      documents = c.in_ok-append.ensures.items ∙ ap₂ (λ (a b : List DocRow). a ++ b) c.loop-level.invariant.documents copied ∙ sym (ap table_rows next ∙ rows_more (take i levels) x);
      rows = c.in_ok-push.ensures.items ∙ ap (λ (r : List ℕ). r ++ 0 ∷ []) c.loop-level.invariant.rows ∙ sym (ap (map none) next ∙ map-append none (take i levels) (x ∷ []));
      hand = c.in_ok-push-2.ensures.items ∙ ap₂ (λ (a : List (List TermList)) (b : List TermList). a ++ b ∷ []) c.loop-level.invariant.hand c.made_with.ensures
          ∙ sym (ap (map empty) next ∙ map-append empty (take i levels) (x ∷ []));
    }
