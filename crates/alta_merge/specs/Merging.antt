-- A join in progress, as callers see it.
use Rattle.std.specs.Prelude.{ℕ, List}
use Rattle.alta_content.specs.declared.content.Content.{Content}

-- what the join will come to, and the terms that are left, in order
pub record Merging : Type 0 where
  pub whole : Content
  pub left : List (List ℕ)
