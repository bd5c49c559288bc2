-- When a line is refused, and why.
use Rattle.std.specs.Prelude.{◌≡◌, ℕ, ◌≤◌, ◌<◌, Bool, true, false, ◌==◌, List, [], ◌∷◌, length, codes}
use Rattle.std.specs.List.{list_any, before_first}
use Rattle.std.specs.Str.{IsUtf8, bytes_eq}
use Rattle.alta_machine.specs.Command.{Command, ReadsLine}
use Rattle.alta_machine.specs.declared.line.TheConstants.{LINE_LIMIT}
use Rattle.alta_machine.specs.declared.line.LineFault.{LineFault}
use Rattle.alta_machine.specs.declared.line.LineFault.TheVariants.{TooLong, NotUtf8, Unknown, Bad}

abbrev pub is_space : ℕ → Bool
is_space b = b == 32

-- the bytes up to the first space, or all
abbrev pub word_of : List ℕ → List ℕ
word_of text = before_first is_space text

abbrev pub verbs : List (List ℕ)
verbs = codes "add" ∷ codes "delete" ∷ codes "search" ∷ codes "count" ∷ codes "explain" ∷ codes "open"
    ∷ codes "fetch" ∷ codes "close"
    ∷ codes "top" ∷ codes "flush" ∷ codes "merge" ∷ codes "step" ∷ codes "stats" ∷ codes "dump" ∷ []

unfoldable pub is_verb : List ℕ → Bool
is_verb word = list_any (λ verb. bytes_eq word verb) verbs

-- bytes of UTF-8, no more than a line may have
abbrev pub IsText : List ℕ → Type 0
IsText line = (length line ≤ LINE_LIMIT) × IsUtf8 line

-- the first of the four that applies
abbrev pub IsRefused : List ℕ → LineFault → Type 0
IsRefused line TooLong = LINE_LIMIT < length line
IsRefused line NotUtf8 = (length line ≤ LINE_LIMIT) × ¬ (IsUtf8 line)
IsRefused line Unknown = IsText line × (is_verb (word_of line) ≡ false)
IsRefused line Bad = IsText line × (is_verb (word_of line) ≡ true) × ((command : Command) → ¬ (ReadsLine line command))
