-- Queries whose terms are text.
use Rattle.std.specs.List.{All}
use Rattle.std.specs.Str.{IsUtf8}
use Rattle.alta_machine.specs.QueryFaults.{Mode, expects, has, beside, behind_near}
use Rattle.alta_machine.specs.Parser.{Frame, not_frame, paren_frame, Parsing, near_atom}
use Rattle.alta_machine.specs.Patterns.{pattern_of}
use Rattle.alta_machine.specs.Shape.{Lone, Atom, lone, Shape, Shapes, atom, all, any, negated, none, more}
use Rattle.alta_machine.specs.Token.{Token, open_paren, close_paren, and_word, or_word, not_word, near_word, operand, faulty, side_of}
use Rattle.alta_machine.specs.declared.test.Test.{Test}
use Rattle.alta_machine.specs.declared.test.Test.TheVariants.{Is, Begins}

-- the term of the test is UTF-8
abbrev pub HasTextTerm : Test → Type 0
HasTextTerm (Is term) = IsUtf8 term
HasTextTerm (Begins start) = IsUtf8 start

-- each term that the atom asks for is UTF-8, but those of a value's ranges
abbrev pub AsksForText : Atom → Type 0
AsksForText a = All HasTextTerm (pattern_of a).tests

-- each term of the query is UTF-8, but those of its values' ranges
abbrev mutual
  pub HasTextTerms : Shape → Type 0
  HasTextTerms (atom a) = AsksForText a
  HasTextTerms (all qs) = HaveTextTerms qs
  HasTextTerms (any qs) = HaveTextTerms qs
  HasTextTerms (negated q) = HasTextTerms q

  pub HaveTextTerms : Shapes → Type 0
  HaveTextTerms none = Unit {0}
  HaveTextTerms (more q qs) = HasTextTerms q × HaveTextTerms qs

abbrev pub IsTextFrame : Frame → Type 0
IsTextFrame not_frame = Unit {0}
IsTextFrame (paren_frame ors ands) = All HasTextTerms ors × All HasTextTerms ands

-- each term that was read is UTF-8
pub record IsTextState (s : Parsing) : Type 0 where
  pub ors : All HasTextTerms s.ors
  pub ands : All HasTextTerms s.ands
  pub frames : All IsTextFrame s.frames

-- the atom that an operand makes
abbrev pub made_of : Mode → Lone → Atom
made_of expects a = lone a
made_of has a = lone a
made_of (beside l) a = lone a
made_of (behind_near l k) a = near_atom l k (side_of a)

-- what the token adds asks for text
abbrev pub AddsText : Mode → Token → Type 0
AddsText mode open_paren = Unit {0}
AddsText mode close_paren = Unit {0}
AddsText mode and_word = Unit {0}
AddsText mode or_word = Unit {0}
AddsText mode not_word = Unit {0}
AddsText mode (near_word k) = Unit {0}
AddsText mode (operand a) = AsksForText (made_of mode a)
AddsText mode (faulty c) = Unit {0}
