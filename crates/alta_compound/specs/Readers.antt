-- The readers of a union.
use Rattle.std.specs.Prelude.{List}
use Rattle.alta_compound.specs.declared.any.AnyReader.{AnyReader}

-- the readers, in an order of the union's own
abbrev pub readers_of : {R : Type 0} → AnyReader R → List R
readers_of any = any.readers.items
