-- A block of a stream beside the runs of documents.
use Rattle.std.specs.Prelude.{◌≡◌, ℕ, ◌<◌, ◌≤◌, List, drop, take, length, slice_index, Option, None, IfSome, MatchOption}
use Rattle.alta_codec.specs.Rising.{IsRising}
use Rattle.alta_content.specs.Runs.{AreInRuns}
use Rattle.alta_postings.specs.Deltas.{IsBlockRead, list_from}
use Rattle.alta_level.specs.Fitting.{HasOutside}
use Rattle.alta_level.specs.declared.blocks.Met.{Met}

-- so many locations that are spelled from a place on, behind the location `before`
abbrev pub block_at : List ℕ → ℕ → ℕ → ℕ → List ℕ
block_at stream at before count = take count (list_from at 0 before (drop at stream))

-- A block was read at a place, behind the location `before`, beside the runs from one on, which is none where something did not fit
-- before: the run where it goes on, none where a location lies in no run. The runs before it end before the block does. A block
-- of a stream that spells no list may not rise; nothing is told of it.
pub record IsMet (stream : List ℕ) (at before : ℕ) (firsts ends : List ℕ) (run : Option ℕ) (met : Met) : Type 0 where
  pub read : IsBlockRead stream at before met.span.first met.span.last met.span.count met.span.next
  pub within : IfSome met.run (λ next. next ≤ length ends)
  pub passed : IfSome met.run (λ next. (i : ℕ) → i < next → slice_index ends i < met.span.last)
  pub held : IsRising (block_at stream at before met.span.count)
      → MatchOption run (met.run ≡ None)
      (λ from. MatchOption met.run (HasOutside firsts ends (block_at stream at before met.span.count))
      (λ next. AreInRuns firsts ends (block_at stream at before met.span.count)))
