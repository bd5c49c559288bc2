-- What is kept of a line that has begun.
use Rattle.std.specs.Prelude.{ℕ, ◌+◌, List, take}
use Rattle.alta_machine.specs.declared.line.TheConstants.{LINE_LIMIT}

-- one byte more than a line may have
unfoldable pub clip : List ℕ → List ℕ
clip line = take (LINE_LIMIT + 1) line
