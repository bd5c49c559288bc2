-- The token that a piece of the text is.
use Rattle.alta_machine.specs.Shape as spec
use Rattle.alta_machine.specs.Words.{tests_of, stem_test, first_test}
use Rattle.alta_machine.specs.Token.{Token, open_paren, close_paren, and_word, or_word, not_word, near_word, operand, faulty}
use Rattle.alta_query.specs.declared.scan.Lent as lent
use Rattle.alta_query.specs.declared.scan.Lent.TheVariants.{Words, Prefix, Name, Value}
use Rattle.alta_query.specs.declared.scan.LentSide as lent_side
use Rattle.alta_query.specs.declared.scan.LentSide.TheVariants as side
use Rattle.alta_query.specs.declared.scan.Kind.{Kind}
use Rattle.alta_query.specs.declared.scan.Kind.TheVariants as kind

abbrev pub side_in : lent_side.LentSide → spec.Side
side_in (side.Word text) = spec.word text.now (first_test text.now)
side_in (side.Stem text) = spec.stem text.now (stem_test text.now)

abbrev pub atom_in : lent.Lent → spec.Lone
atom_in (Words title text) = spec.words title text.now (tests_of text.now)
atom_in (Prefix title text) = spec.prefix title text.now (stem_test text.now)
atom_in (Name text) = spec.name text.now
atom_in (Value low high) = spec.value low high

abbrev pub token_of : Kind → Token
token_of kind.Open = open_paren
token_of kind.Close = close_paren
token_of kind.And = and_word
token_of kind.Or = or_word
token_of kind.Not = not_word
token_of (kind.Near k) = near_word k
token_of (kind.Operand a) = operand (atom_in a)
token_of (kind.Faulty c) = faulty c
