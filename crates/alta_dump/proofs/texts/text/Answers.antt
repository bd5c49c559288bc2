use Rattle.std.proofs.Common.{arith}
use Rattle.std.specs.Prelude.{string_bytes}
use Rattle.alta_dump.specs.Seen.{terms_of}
use Rattle.alta_dump.proofs.Joined.{text_step}
use Rattle.alta_dump.proofs.texts.text.Goals as goal

pub loop-i-preserved : goal.loop-i-preserved
loop-i-preserved c =
    text_step (terms_of c.args.terms.now) c.args.words.now c.loop-i.i _ c.index-words-i.result (string_bytes c.loop-i.text) (string_bytes c.put_word.new.text) (omega arith) c.index-words-i.is c.loop-i.invariant c.in_ok-put_word.ensures
