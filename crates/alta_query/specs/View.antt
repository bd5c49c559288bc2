-- The shape of a query.
use Rattle.alta_machine.specs.Shape as spec
use Rattle.alta_machine.specs.Shape.{Shape, atom, all, any, negated, shapes_of}
use Rattle.alta_query.specs.declared.query.Side.{Side}
use Rattle.alta_query.specs.declared.query.Side.TheVariants as side
use Rattle.alta_query.specs.declared.query.Atom as declared_atom
use Rattle.alta_query.specs.declared.query.Atom.TheVariants.{Words, Prefix, Near, Name, Value}
use Rattle.alta_query.specs.declared.query.Query.{Query, fold-Query}
use Rattle.alta_query.specs.declared.query.Query.TheOpen.{Query-F}

abbrev pub side_view : Side → spec.Side
side_view (side.Word text test) = spec.word text test
side_view (side.Stem text test) = spec.stem text test

abbrev pub atom_view : declared_atom.Atom → spec.Atom
atom_view (Words title text tests) = spec.lone (spec.words title text tests)
atom_view (Prefix title text test) = spec.lone (spec.prefix title text test)
atom_view (Near left distance right) = spec.near (side_view left) distance (side_view right)
atom_view (Name text) = spec.lone (spec.name text)
atom_view (Value low high) = spec.lone (spec.value low high)

-- one level, with each query inside already seen as its shape
abbrev pub shape_step : Query-F Shape → Shape
shape_step (Query-F.Atom a) = atom (atom_view a)
shape_step (Query-F.And v) = all (shapes_of v.items)
shape_step (Query-F.Or v) = any (shapes_of v.items)
shape_step (Query-F.Not q) = negated q.value

abbrev pub shape : Query → Shape
shape = fold-Query Shape shape_step
