-- What it is to add a pattern to a draft, and which members of an and are atoms, but for values.
use Rattle.std.specs.Prelude.{◌≡◌, ℕ, Bool, true, false, ◌++◌, map, length, is_none, MatchOption}
use Rattle.alta_machine.specs.Patterns.{Bound, Pattern, pattern_of, numbers_in}
use Rattle.alta_machine.specs.Shape.{Atom, Shape, atom, all, any, negated}
use Rattle.alta_codec.specs.Inequality.{Inequality}
use Rattle.alta_machine.specs.Joined.{shifted}
use Rattle.alta_machine.specs.PlanOf.{between}
use Rattle.alta_compile.specs.declared.draft.Draft.{Draft}

-- a bound between places behind n others, as one between variables
abbrev pub placed : ℕ → Bound → Inequality
placed n b = between (shifted n b)

-- the pattern's tests went behind those of the draft, and its bounds behind the draft's
pub record IsAdded (old new : Draft) (p : Pattern) : Type 0 where
  pub tests : new.tests.items ≡ old.tests.items ++ p.tests
  pub bounds : new.bounds.items ≡ old.bounds.items ++ map (placed (length old.tests.items)) p.bounds

-- the draft holds what the pattern asks for
pub record IsDraftOf (draft : Draft) (p : Pattern) : Type 0 where
  pub tests : draft.tests.items ≡ p.tests
  pub bounds : draft.bounds.items ≡ map between p.bounds

-- an atom that is no value
abbrev pub is_atom : Shape → Bool
is_atom (atom a) = is_none (numbers_in a)
is_atom (all qs) = false
is_atom (any qs) = false
is_atom (negated q) = false

-- the pattern of an atom that is no value was added, and nothing of a value
abbrev pub AddsAtom : Draft → Draft → Atom → Type 0
AddsAtom old new a = MatchOption (numbers_in a) (IsAdded old new (pattern_of a)) (λ numbers. new ≡ old)

-- the same of a member, of which nothing is added that is no atom
abbrev pub AddsMember : Draft → Draft → Shape → Type 0
AddsMember old new (atom a) = AddsAtom old new a
AddsMember old new (all qs) = new ≡ old
AddsMember old new (any qs) = new ≡ old
AddsMember old new (negated q) = new ≡ old
