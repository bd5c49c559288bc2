use Rattle.std.proofs.Common.{◌≡◌, take, true}
use Rattle.std.specs.Prelude.{string_bytes}
use Rattle.std.specs.List.{list_all}
use Rattle.alta_dump.specs.Seen.{is_word, text_seen, terms_of}
use Rattle.alta_dump.proofs.texts.text.Given as goal

abbrev pub invariant-loop-i : goal.invariant-loop-i
invariant-loop-i l = list_all (is_word (terms_of l.terms)) l.words ≡ true → string_bytes l.text ≡ text_seen (terms_of l.terms) (take l.i l.words)
