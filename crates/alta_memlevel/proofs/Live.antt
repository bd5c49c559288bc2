-- To leave documents out before is to join their content without them.
use Rattle.std.proofs.Common.{not, ◌≡◌, ℕ, List, [], ◌∷◌, ◌++◌, refl, sym, ap, ◌∙◌, append-nil}
use Rattle.std.proofs.lemmas.List.Elements.{All-filter}
use Rattle.alta_content.specs.declared.document.DocRow.{DocRow}
use Rattle.alta_content.specs.declared.content.Content.{Content}
use Rattle.alta_content.specs.TermList.{TermList}
use Rattle.alta_content.specs.Joining.{gathered, joined_in}
use Rattle.alta_content.specs.Lists.{locations_of}
use Rattle.alta_content.specs.Rows.{ends_among, live_rows}
use Rattle.alta_content.specs.Spans.{deleted_spans, lists_outside, outside_of}
use Rattle.alta_memlevel.specs.Added.{Added, HasContent, IsSpace, live_of}
use Rattle.alta_content.specs.declared.spans.Span.{Span}
use Rattle.alta_content.proofs.Outside.{locations_outside, rows_outside, some_outside}
use Rattle.alta_memlevel.proofs.Drained.{content_live}
use Rattle.alta_content.proofs.Gathered.{outside_locations, outside_rise}
use Rattle.alta_memlevel.specs.Documents.{AreAdded, IsFrom, IsMade, content_of}
use Rattle.alta_memlevel.proofs.One.{content_has, content_rises, one_content}
use Rattle.alta_memlevel.proofs.Read.{rows_added, rows_rise}

module _ (added : List Added) (gone : List ℕ) (s : IsSpace added) where
  abbrev whole : Content
  whole = content_of added

  abbrev rows : List DocRow
  rows = rows_added added

  abbrev parts : List (List TermList)
  parts = whole.lists ∷ []

  -- the content without what is gone, as a level drains it
  abbrev left : Content
  left = record { documents = live_rows gone rows; lists = lists_outside (deleted_spans gone rows) whole.lists }

  left_has : HasContent (live_of gone added) left
  left_has = content_live gone added whole left (content_has added s) (rows_rise added s) (sym (rows_outside gone rows (rows_rise added s))) refl

  abbrev join : Content
  join = joined_in (whole ∷ []) gone

  abbrev spans : List Span
  spans = deleted_spans gone (rows ++ [])

  same_spans : spans ≡ deleted_spans gone rows
  same_spans = ap (deleted_spans gone) (append-nil rows)

  same_locations : (t : List ℕ) → locations_of join.lists t ≡ locations_of left.lists t
  same_locations t =
      outside_locations spans parts t
      ∙ ap (outside_of spans) (append-nil (locations_of whole.lists t))
      ∙ ap (λ x. outside_of x (locations_of whole.lists t)) same_spans
      ∙ sym (locations_outside (deleted_spans gone rows) whole.lists t (content_rises added))

  join_has : HasContent (live_of gone added) join
  join_has = record {
    space = left_has.space;
    documents = ap (live_rows gone) (append-nil rows) ∙ left_has.documents;
    lists = λ t. same_locations t ∙ left_has.lists t;
    some = some_outside spans (gathered parts);
    sorted = outside_rise spans parts;
  }

  pub live_joined : content_of (live_of gone added) ≡ joined_in (content_of added ∷ []) gone
  live_joined = sym (one_content (live_of gone added) join join_has)

pub live_added : (number location : ℕ) (added : List Added) (gone : List ℕ) → AreAdded number location added → AreAdded number location (live_of gone added)
live_added number location added gone a = record {
  space = (left_has added gone a.space).space;
  made = All-filter (λ (b : Added). not (ends_among gone b.row)) IsMade added a.made;
  behind = All-filter (λ (b : Added). not (ends_among gone b.row)) (IsFrom number location) added a.behind;
}
