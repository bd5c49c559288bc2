-- The rows of documents that stand one behind the other.
use Rattle.std.proofs.Common.{◌<◌, List, [], ◌∷◌, map}
use Rattle.std.proofs.lemmas.List.Elements.{All-map}
use Rattle.alta_codec.specs.Rising.{IsRising}
use Rattle.alta_content.specs.Rows.{RowsRise, end_of}
use Rattle.alta_content.specs.declared.document.DocRow.{DocRow}
use Rattle.alta_meaning.specs.Ordered.{Precedes, RowsPrecede}
use Rattle.alta_memlevel.specs.Added.{Added, IsSpace}
use Rattle.alta_memlevel.proofs.Ends.{ends_rise}
use Rattle.alta_catalog.proofs.StartLaws.{row_of}

space_rows : (xs : List Added) → IsSpace xs → RowsRise (map row_of xs)
space_rows [] space = tt
space_rows (a ∷ xs) space = (
  record { positive = space.0.positive; some = space.0.some; below = space.0.below },
  All-map (λ (r : DocRow). end_of a.row < r.first) row_of xs space.2,
  space_rows xs space.3,
)

pub space_ends : (xs : List Added) → IsSpace xs → IsRising (map end_of (map row_of xs))
space_ends xs space = ends_rise (map row_of xs) (space_rows xs space)

pub space_precedes : (xs : List Added) → IsSpace xs → RowsPrecede (map row_of xs)
space_precedes [] space = tt
space_precedes (a ∷ xs) space = (
  All-map (Precedes a.row) row_of xs (λ k d inside. (space.1 k d inside, space.2 k d inside)),
  space_precedes xs space.3,
)
