use Rattle.std.proofs.Common.{rules}
use Rattle.std.proofs.lemmas.Str.{chars_from_encodes}
use Rattle.alta_query.proofs.word.are_two.Goals as goal

pub returns : goal.returns
returns c = search (rules, chars_from_encodes)
