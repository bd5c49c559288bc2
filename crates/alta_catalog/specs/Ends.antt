-- The ends of deleted documents, as rising lists: one end more.
use Rattle.std.specs.Prelude.{ℕ, nat_lt, List, ◌∷◌, ◌++◌}
use Rattle.std.specs.List.{filter}

-- the ends with this one in its place, once
abbrev pub with_end : ℕ → List ℕ → List ℕ
with_end end ends = filter (λ x. nat_lt x end) ends ++ end ∷ filter (λ x. nat_lt end x) ends
