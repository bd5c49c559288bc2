-- Documents of a name, a title and a body: their content is a level's, and they are read back from it.
use Rattle.std.proofs.Common.{◌≡◌, ℕ, List, map, sym, subst}
use Rattle.std.specs.List.{All}
use Rattle.std.proofs.lemmas.List.Elements.{All-weaker}
use Rattle.alta_content.specs.declared.content.Content.{Content}
use Rattle.alta_memlevel.specs.Added.{Added, HasContent, live_of}
use Rattle.alta_memlevel.specs.Documents.{document_of, AreMade, IsMade, document_in}
use Rattle.alta_content.specs.Rows.{live_rows}
use Rattle.alta_content.proofs.Order.{Sorted}
use Rattle.alta_memlevel.proofs.Cells.{IsGood, cells_good}
use Rattle.alta_memlevel.proofs.Read.{documents_back, live_back}

pub made_good : (a : Added) → IsMade a → All IsGood a.cells
made_good a m = subst (All IsGood) (sym m.made) (cells_good a.row.name m.title m.body m.named)

pub made_sorted : (added : List Added) → AreMade added → All (λ (a : Added). All Sorted a.cells) added
made_sorted added made =
    All-weaker IsMade (λ (a : Added). All Sorted a.cells) (λ a m. All-weaker IsGood Sorted (λ c g. g.sorted) a.cells (made_good a m)) added made

pub made_back : (added : List Added) (content : Content) → HasContent added content → AreMade added → map (document_of content.lists) content.documents ≡ map document_in added
made_back added content h made = documents_back added content h (made_sorted added made)

pub made_live_back : (added : List Added) (content : Content) (deleted : List ℕ) → HasContent added content → AreMade added
    → map (document_of content.lists) (live_rows deleted content.documents) ≡ map document_in (live_of deleted added)
made_live_back added content deleted h made = live_back added content deleted h (made_sorted added made)
