-- The folding of a text is that of its characters, and of ASCII it is the text in lower case.
use Rattle.std.proofs.Common.{◌≡◌, ℕ, List, map, encode_utf8_all, chars, IsAscii, refl, sym, ap, ◌∙◌}
use Rattle.std.proofs.lemmas.Str.{chars-IsAscii}
use Rattle.std.proofs.lemmas.Str.Ascii.{encodes-IsAscii, All-from_ascii, IsAscii-map, lowercase_ascii}
use Rattle.std.specs.Char.{to_ascii_lowercase}
use Rattle.caseless.specs.Caseless.{default_case_fold}
use Rattle.caseless.proofs.CaselessLemmas.{default_case_fold-ascii}
use Rattle.alta_text.specs.Words.{folded_of}

pub folded_of-is : (written : List ℕ) → encode_utf8_all (default_case_fold (chars written)) ≡ folded_of written
unfolding folded_of
folded_of-is written = refl

pub folded_of-ascii : (written : List ℕ) → IsAscii written → map to_ascii_lowercase written ≡ folded_of written
folded_of-ascii written ascii =
    sym (encodes-IsAscii (map to_ascii_lowercase written) (IsAscii-map to_ascii_lowercase written lowercase_ascii ascii))
    ∙ ap encode_utf8_all (sym (ap default_case_fold (chars-IsAscii written ascii) ∙ default_case_fold-ascii written (All-from_ascii written ascii)))
    ∙ folded_of-is written

pub ruleset laws = (folded_of-is, folded_of-ascii)
