use Rattle.std.proofs.Common.{◌≡◌, string_bytes, sym, ◌∙◌, subst, rules}
use Rattle.std.specs.Str.{IsUtf8}
use Rattle.std.proofs.lemmas.Str.{IsUtf8-string_bytes, utf8_lossy-IsUtf8}
use Rattle.alta_compile.proofs.explaining.text_of.Goals as goal

pub returns-in-Ok-clause-lossy : goal.returns-in-Ok-clause-lossy
returns-in-Ok-clause-lossy c =
    let is : string_bytes c.in-Ok.text ≡ c.args.bytes.items = search rules in
    is ∙ sym (utf8_lossy-IsUtf8 c.args.bytes.items (subst IsUtf8 is (IsUtf8-string_bytes c.in-Ok.text)))
