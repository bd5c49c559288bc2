-- The reading of a line, case by case.
use Rattle.std.proofs.Common.{◌≡◌, ℕ, ◌<◌, ◌≤◌, List, length, refl, ap, sym, subst, ◌∙◌, arith, Bool, true, false}
use Rattle.std.specs.Prelude.{nat_lt, if◌then◌else◌, Option, Some, None}
use Rattle.std.specs.Str.{IsUtf8, is_utf8}
use Rattle.std.proofs.lemmas.Bool.{false≢true}
use Rattle.std.proofs.lemmas.Bool.Decides.{nat_tests}
use Rattle.std.proofs.lemmas.Str.{IsUtf8-from_is_utf8, is_utf8-from_IsUtf8}
use Rattle.alta_machine.specs.declared.line.TheConstants.{LINE_LIMIT}
use Rattle.alta_machine.specs.Command.{Command, ReadsLine, adds}
use Rattle.alta_machine.specs.LineFaults.{IsText, IsRefused, is_verb, word_of}
use Rattle.alta_machine.specs.Lines.{Reading, asks, refuses, asks_or_refuses, reading_of}
use Rattle.alta_machine.specs.Reading.{command_in}
use Rattle.alta_machine.specs.declared.line.LineFault.{LineFault}
use Rattle.alta_machine.specs.declared.line.LineFault.TheVariants.{TooLong, NotUtf8, Unknown, Bad}
use Rattle.alta_model.proofs.Law.{reading_reads, reads_reading}
use Rattle.alta_model.proofs.Refusals.{not_refused, refusal, only_refusal}

long : (line : List ℕ) → LINE_LIMIT < length line → nat_lt LINE_LIMIT (length line) ≡ true
long line h = grind (arith, nat_tests)

not_long : (line : List ℕ) → length line ≤ LINE_LIMIT → nat_lt LINE_LIMIT (length line) ≡ false
not_long line h = grind (arith, nat_tests)

is_long : (line : List ℕ) → nat_lt LINE_LIMIT (length line) ≡ true → LINE_LIMIT < length line
is_long line e = grind (arith, nat_tests)

is_not_long : (line : List ℕ) → nat_lt LINE_LIMIT (length line) ≡ false → length line ≤ LINE_LIMIT
is_not_long line e = grind (arith, nat_tests)

no_text : (line : List ℕ) (b : Bool) → is_utf8 line ≡ b → ¬ (IsUtf8 line) → is_utf8 line ≡ false
no_text line true e h = absurd (h (IsUtf8-from_is_utf8 line e))
no_text line false e h = e

is_no_text : (line : List ℕ) → is_utf8 line ≡ false → ¬ (IsUtf8 line)
is_no_text line e h = false≢true (sym e ∙ is_utf8-from_IsUtf8 line h)

-- the reading where the three tests come out so
pub reading_is : (line : List ℕ) (long text : Bool) (o : Option Command) → nat_lt LINE_LIMIT (length line) ≡ long → is_utf8 line ≡ text → command_in line ≡ o
    → reading_of line ≡ (if long then refuses TooLong else (if text then asks_or_refuses (is_verb (word_of line)) o else refuses NotUtf8))
unfolding reading_of
reading_is line long text o e f g =
    ap (λ (b : Bool). if b then refuses TooLong else (if is_utf8 line then asks_or_refuses (is_verb (word_of line)) (command_in line) else refuses NotUtf8)) e
    ∙ ap (λ (b : Bool). if long then refuses TooLong else (if b then asks_or_refuses (is_verb (word_of line)) (command_in line) else refuses NotUtf8)) f
    ∙ ap (λ (q : Option Command). if long then refuses TooLong else (if text then asks_or_refuses (is_verb (word_of line)) q else refuses NotUtf8)) g

pub reading_long : (line : List ℕ) → LINE_LIMIT < length line → reading_of line ≡ refuses TooLong
reading_long line h = reading_is line true (is_utf8 line) (command_in line) (long line h) refl refl

pub reading_not_utf8 : (line : List ℕ) → length line ≤ LINE_LIMIT → ¬ (IsUtf8 line) → reading_of line ≡ refuses NotUtf8
reading_not_utf8 line short h = reading_is line false false (command_in line) (not_long line short) (no_text line (is_utf8 line) refl h) refl

pub reading_text : (line : List ℕ) (o : Option Command) → IsText line → command_in line ≡ o → reading_of line ≡ asks_or_refuses (is_verb (word_of line)) o
reading_text line o text e = reading_is line false true o (not_long line text.0) (is_utf8-from_IsUtf8 line text.1) e

is_asked : Reading → Bool
is_asked (asks command) = true
is_asked (refuses fault) = false

asked_in : Command → Reading → Command
asked_in d (asks command) = command
asked_in d (refuses fault) = d

fault_in : LineFault → Reading → LineFault
fault_in d (asks command) = d
fault_in d (refuses fault) = fault

asks_same : (c d : Command) → asks c ≡ asks d → c ≡ d
unfolding asked_in
asks_same c d e = ap (asked_in c) e

refuses_same : (f g : LineFault) → refuses f ≡ refuses g → f ≡ g
unfolding fault_in
refuses_same f g e = ap (fault_in f) e

not_both : (f : LineFault) (c : Command) → refuses f ≡ asks c → ⊥
unfolding is_asked
not_both f c e = false≢true (ap is_asked e)

asked_only : (line : List ℕ) (c : Command) (b t : Bool) (o : Option Command) → nat_lt LINE_LIMIT (length line) ≡ b → is_utf8 line ≡ t → command_in line ≡ o
    → reading_of line ≡ asks c → IsText line × ReadsLine line c
asked_only line c true t o e f g h = absurd (not_both TooLong c (sym (reading_is line true t o e f g) ∙ h))
asked_only line c false false o e f g h = absurd (not_both NotUtf8 c (sym (reading_is line false false o e f g) ∙ h))
asked_only line c false true (Some d) e f g h =
    let same : d ≡ c = asks_same d c (sym (reading_is line false true (Some d) e f g) ∙ h) in
    ((is_not_long line e, IsUtf8-from_is_utf8 line f), reading_reads line c (g ∙ ap Some same))
asked_only line c false true None e f g h =
    absurd (not_both (if is_verb (word_of line) then Bad else Unknown) c (sym (reading_is line false true None e f g) ∙ h))

-- a line asks for a command exactly where it is a text that spells it
pub asked : (line : List ℕ) (c : Command) → (reading_of line ≡ asks c → IsText line × ReadsLine line c) × (IsText line × ReadsLine line c → reading_of line ≡ asks c)
asked line c = (
  asked_only line c (nat_lt LINE_LIMIT (length line)) (is_utf8 line) (command_in line) refl refl refl,
  λ h. reading_text line (Some c) h.0 (reads_reading line c h.1),
)

refused_only : (line : List ℕ) (fault : LineFault) (b t : Bool) (o : Option Command) → nat_lt LINE_LIMIT (length line) ≡ b → is_utf8 line ≡ t → command_in line ≡ o
    → reading_of line ≡ refuses fault → IsRefused line fault
refused_only line fault true t o e f g h =
    subst (IsRefused line) (refuses_same TooLong fault (sym (reading_is line true t o e f g) ∙ h)) (is_long line e)
refused_only line fault false false o e f g h =
    subst (IsRefused line) (refuses_same NotUtf8 fault (sym (reading_is line false false o e f g) ∙ h)) (is_not_long line e, is_no_text line f)
refused_only line fault false true (Some d) e f g h = absurd (not_both fault d (sym h ∙ reading_is line false true (Some d) e f g))
refused_only line fault false true None e f g h =
    subst (IsRefused line) (refuses_same (if is_verb (word_of line) then Bad else Unknown) fault (sym (reading_is line false true None e f g) ∙ h))
    (refusal line (is_verb (word_of line)) (is_not_long line e, IsUtf8-from_is_utf8 line f) g refl)

refused_by : (line : List ℕ) (fault : LineFault) (o : Option Command) → command_in line ≡ o → IsText line → IsRefused line fault → reading_of line ≡ refuses fault
refused_by line fault (Some d) g text h = absurd (not_refused line d text (reading_reads line d g) fault h)
refused_by line fault None g text h =
    reading_text line None text g ∙ ap refuses (only_refusal line (is_verb (word_of line)) text refl fault h)

by_fault : (line : List ℕ) (fault : LineFault) → IsRefused line fault → reading_of line ≡ refuses fault
by_fault line TooLong h = reading_long line h
by_fault line NotUtf8 h = reading_not_utf8 line h.0 h.1
by_fault line Unknown h = refused_by line Unknown (command_in line) refl h.0 h
by_fault line Bad h = refused_by line Bad (command_in line) refl h.0 h

-- a line is refused exactly for the first cause that applies
pub refused : (line : List ℕ) (fault : LineFault) → (reading_of line ≡ refuses fault → IsRefused line fault) × (IsRefused line fault → reading_of line ≡ refuses fault)
refused line fault = (
  refused_only line fault (nat_lt LINE_LIMIT (length line)) (is_utf8 line) (command_in line) refl refl refl,
  by_fault line fault,
)
