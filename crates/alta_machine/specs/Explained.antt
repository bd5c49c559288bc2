-- A plan in words: a line for each node, and under a Found one for each bound.
use Rattle.std.specs.Prelude.{ℕ, suc, ◌-◌, Bool, ◌&&◌, ◌==◌, nat_lt, nat_eq, if◌then◌else◌, List, [], ◌∷◌, ◌++◌, length, get_or, drop, codes}
use Rattle.std.specs.Fmt.{decimal}
use Rattle.std.specs.Int.{w32, from_be_bytes}
use Rattle.std.specs.List.{starts_with}
use Rattle.alta_machine.specs.declared.test.Test.{Test}
use Rattle.alta_machine.specs.declared.test.Test.TheVariants.{Is, Begins}
use Rattle.alta_codec.specs.Inequality.{Inequality}
use Rattle.alta_codec.specs.declared.form.Form.{Form}
use Rattle.alta_codec.specs.declared.form.Form.TheVariants.{LocLoc, PrevLoc, LocPrev, PrevPrev}
use Rattle.alta_machine.specs.Plans.{Tree, found, all_of, any_of, without, Trees, no_more, also}

-- `x` for a location, `p` for a previous location
abbrev pub low_letter : Form → List ℕ
low_letter LocLoc = codes "x"
low_letter PrevLoc = codes "p"
low_letter LocPrev = codes "x"
low_letter PrevPrev = codes "p"

abbrev pub high_letter : Form → List ℕ
high_letter LocLoc = codes "x"
high_letter PrevLoc = codes "x"
high_letter LocPrev = codes "p"
high_letter PrevPrev = codes "p"

-- `plus` less `minus` with its sign, nothing where that is 0
abbrev pub constant : ℕ → ℕ → List ℕ
constant plus minus =
    if nat_lt minus plus then codes "+" ++ decimal (plus - minus)
    else (if nat_lt plus minus then codes "-" ++ decimal (minus - plus)
    else [])

abbrev pub bound_line : Inequality → List ℕ
bound_line b = low_letter b.form ++ decimal b.i ++ codes " <= " ++ high_letter b.form ++ decimal b.j
    ++ constant b.plus b.minus ++ codes "\n"

abbrev pub bound_lines : List ℕ → List Inequality → List ℕ
bound_lines margin [] = []
bound_lines margin (b ∷ bs) = margin ++ bound_line b ++ bound_lines margin bs

-- whether a term is a range's: `X`, a byte that is in no text, and five more
abbrev pub is_range_term : List ℕ → Bool
is_range_term term = starts_with nat_eq term (88 ∷ 255 ∷ []) && (length term == 7)

-- the level and the prefix of a range's term
abbrev pub range_text : List ℕ → List ℕ
range_text term = codes "#" ++ decimal (get_or term 2 0) ++ codes ":" ++ decimal (from_be_bytes w32 (drop 3 term))

-- a range by its level and its prefix, any other term by its bytes
abbrev pub term_text : List ℕ → List ℕ
term_text term = if is_range_term term then range_text term else term

-- a term, with a star behind the bytes that begin one
abbrev pub test_text : Test → List ℕ
test_text (Is term) = term_text term
test_text (Begins start) = start ++ codes "*"

abbrev pub tests_text : List Test → List ℕ
tests_text [] = []
tests_text (t ∷ ts) = codes " " ++ test_text t ++ tests_text ts

abbrev pub count : Trees → ℕ
count no_more = 0
count (also t ts) = suc (count ts)

-- two spaces more
abbrev pub deeper : List ℕ → List ℕ
deeper margin = margin ++ codes "  "

-- the lines of a node and of all below it, behind the margin
abbrev mutual
  pub explained : List ℕ → Tree → List ℕ
  explained margin (found f) = margin ++ codes "found D" ++ tests_text f.tests ++ codes "\n"
      ++ bound_lines (deeper margin) f.bounds
  explained margin (all_of ts) = margin ++ codes "all " ++ decimal (count ts) ++ codes "\n"
      ++ explained_each (deeper margin) ts
  explained margin (any_of ts) = margin ++ codes "any " ++ decimal (count ts) ++ codes "\n"
      ++ explained_each (deeper margin) ts
  explained margin (without t) = margin ++ codes "not\n" ++ explained (deeper margin) t

  pub explained_each : List ℕ → Trees → List ℕ
  explained_each margin no_more = []
  explained_each margin (also t ts) = explained margin t ++ explained_each margin ts
