-- Contents whose rows rise may be joined, and so may those of levels and of the newest documents behind them.
use Rattle.std.proofs.Common.{◌≡◌, inl, inr, ◌<◌, ◌≤◌, List, [], ◌∷◌, ◌++◌, refl, sym, subst, ap, ◌∙◌, arith}
use Rattle.std.specs.List.{All}
use Rattle.std.proofs.lemmas.List.Elements.{All-nil, All-cons, All-head, All-tail, All-append, All-weaker}
use Rattle.alta_content.specs.Joining.{rows_in}
use Rattle.alta_content.specs.Parts.{IsPart, MayJoin}
use Rattle.alta_content.specs.Rows.{AreDocuments, AreDocumentsBehind, Before, behind_row, end_of, start}
use Rattle.alta_content.specs.declared.content.Content.{Content}
use Rattle.alta_content.specs.declared.document.DocRow.{DocRow}
use Rattle.alta_codec.specs.Name.{IsName}
use Rattle.alta_codec.specs.declared.location.TheConstants.{TOP}
use Rattle.alta_meaning.specs.Opened.{table_rows}
use Rattle.alta_meaning.specs.Ordered.{Precedes, RowsPrecede}
use Rattle.alta_joins.specs.Contents.{AreContentsOf}
use Rattle.alta_table.specs.Tables.{Tables}
use Rattle.alta_content.proofs.Elements.{all_left}

-- ---- rows that keep the rules, and rise

-- a row keeps its rules, whatever stands before it
pub record IsRow (row : DocRow) : Type 0 where
  pub numbered : 1 ≤ row.number
  pub number_below : row.number < TOP
  pub starts : 1 ≤ row.first
  pub first_below : row.first < TOP
  pub some_cells : 3 ≤ row.cells
  pub few_cells : row.cells ≤ 262146
  pub end_below : end_of row < TOP
  pub named : IsName row.name

pub each_row : (before : Before) (rows : List DocRow) → AreDocumentsBehind before rows → All IsRow rows
unfolding AreDocumentsBehind
each_row before [] are = All-nil IsRow
each_row before (row ∷ rows) (follows, are) =
    All-cons IsRow row rows
    (record {
      numbered = omega (arith, follows.rises);
      number_below = follows.number_below;
      starts = omega (arith, follows.starts_behind);
      first_below = follows.first_below;
      some_cells = follows.some_cells;
      few_cells = follows.few_cells;
      end_below = follows.end_below;
      named = follows.named;
    })
    (each_row (behind_row before row) rows are)

-- a row has a number and a place above what stands before it
abbrev IsBehind : Before → DocRow → Type 0
IsBehind before row = (before.number < row.number) × (before.end < row.first)

rows_stand : (before : Before) (rows : List DocRow) → All IsRow rows → RowsPrecede rows → All (IsBehind before) rows → AreDocumentsBehind before rows
unfolding AreDocumentsBehind
rows_stand before [] all rise behind = tt
rows_stand before (row ∷ rows) all rise behind =
    let own = All-head IsRow row rows all in
    let here = All-head (IsBehind before) row rows behind in (
      record {
        rises = here.0;
        number_below = own.number_below;
        starts_behind = here.1;
        first_below = own.first_below;
        some_cells = own.some_cells;
        few_cells = own.few_cells;
        end_below = own.end_below;
        named = own.named;
      },
      rows_stand (behind_row before row) rows (All-tail IsRow row rows all) rise.1 rise.0,
    )

pub rows_documents : (rows : List DocRow) → All IsRow rows → RowsPrecede rows → AreDocuments rows
rows_documents rows all rise = rows_stand start rows all rise (All-weaker IsRow (IsBehind start) (λ row own. (omega (arith, own.numbered), omega (arith, own.starts))) rows all)

-- ---- contents

pub part_rows : (c : Content) → IsPart c → All IsRow c.documents
part_rows c (inl is) = each_row start c.documents is.documents_stand
part_rows c (inr empty) = subst (All IsRow) (sym empty.documents) (All-nil IsRow)

parts_rows : (contents : List Content) → All IsPart contents → All IsRow (rows_in contents)
parts_rows [] all = All-nil IsRow
parts_rows (c ∷ cs) all = All-append IsRow c.documents (rows_in cs) (part_rows c (All-head IsPart c cs all)) (parts_rows cs (All-tail IsPart c cs all))

-- parts whose rows rise may be joined
pub rising_join : (contents : List Content) → All IsPart contents → RowsPrecede (rows_in contents) → MayJoin contents
rising_join contents all rise = record { parts = all; documents = rows_documents (rows_in contents) (parts_rows contents all) rise }

-- ---- contents of tables

pub content_rows : (levels : List Tables) (contents : List Content) → AreContentsOf levels contents → rows_in contents ≡ table_rows levels
content_rows [] [] are = refl
content_rows [] (c ∷ cs) are = absurd are
content_rows (l ∷ ls) [] are = absurd are
content_rows (l ∷ ls) (c ∷ cs) (is, are) =
    ap (λ (rs : List DocRow). rs ++ rows_in cs) (ap (λ (t : Tables). t.documents) is.tables) ∙ ap (λ (rs : List DocRow). l.documents ++ rs) (content_rows ls cs are)

pub content_parts : (levels : List Tables) (contents : List Content) → AreContentsOf levels contents → All IsPart contents
content_parts [] [] are = All-nil IsPart
content_parts [] (c ∷ cs) are = absurd are
content_parts (l ∷ ls) [] are = absurd are
content_parts (l ∷ ls) (c ∷ cs) (is, are) = All-cons IsPart c cs (inl is.stands) (content_parts ls cs are)

pub contents_join : (levels : List Tables) (contents : List Content) → AreContentsOf levels contents → AreDocuments (table_rows levels) → MayJoin contents
contents_join levels contents are rows = record { parts = content_parts levels contents are; documents = subst AreDocuments (sym (content_rows levels contents are)) rows }

-- ---- the front of rows that rise

pub rise_front : (xs ys : List DocRow) → RowsPrecede (xs ++ ys) → RowsPrecede xs
rise_front [] ys rise = tt
rise_front (x ∷ xs) ys rise = (all_left (Precedes x) xs ys rise.0, rise_front xs ys rise.1)
