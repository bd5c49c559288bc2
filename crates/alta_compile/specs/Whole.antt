-- Plans in which nothing is empty.
use Rattle.alta_machine.specs.Plans.{Tree, found, all_of, any_of, without, Trees, no_more, also}

-- there is a part
abbrev pub HasPart : Trees → Type 0
HasPart no_more = ⊥
HasPart (also t ts) = Unit {0}

abbrev mutual
  -- each AllOf and each AnyOf has a part
  pub IsWhole : Tree → Type 0
  IsWhole (found f) = Unit {0}
  IsWhole (all_of ts) = HasPart ts × AreWhole ts
  IsWhole (any_of ts) = HasPart ts × AreWhole ts
  IsWhole (without t) = IsWhole t

  pub AreWhole : Trees → Type 0
  AreWhole no_more = Unit {0}
  AreWhole (also t ts) = IsWhole t × AreWhole ts
