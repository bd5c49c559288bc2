-- The text of a line.
use Rattle.std.specs.Prelude.{ℕ, List, codes}
use Rattle.alta_make.specs.Script.{add_line, delete_line}
use Rattle.alta_make.specs.declared.line.Line.{Line}
use Rattle.alta_make.specs.declared.line.Line.TheVariants.{Add, Flush, Step, Delete, Merge}

abbrev pub text_of : Line → List ℕ
text_of (Add i) = add_line i
text_of Flush = codes "flush"
text_of Step = codes "step 50"
text_of (Delete i) = delete_line i
text_of Merge = codes "merge"
