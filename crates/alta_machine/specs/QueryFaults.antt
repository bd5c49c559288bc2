-- Which fault comes first.
use Rattle.std.specs.Prelude.{ℕ, ◌+◌, List, [], ◌∷◌, length, Bool, true, false, Option, Some, None, nat_lt, nat_le, if◌then◌else◌}
use Rattle.std.specs.Option.{option_or}
use Rattle.alta_machine.specs.Shape.{Side}
use Rattle.alta_machine.specs.Token.{Token, open_paren, close_paren, and_word, or_word, not_word, near_word, operand, faulty, Spot, at, weight, side_of}
use Rattle.alta_machine.specs.declared.cause.Cause.{Cause}
use Rattle.alta_machine.specs.declared.cause.Cause.TheVariants as cause

-- An operand is expected, or was read, or was read and is a side of no NEAR, or a NEAR behind a side was read.
pub data Mode : Type 0 where
  expects : Mode
  has : Mode
  beside : Side → Mode
  behind_near : Side → ℕ → Mode

-- what is open
pub data Mark : Type 0 where
  not_mark : Mark
  paren_mark : Mark

-- whether anything is open
abbrev pub any_open : List Mark → Bool
any_open [] = false
any_open (m ∷ opened) = true

abbrev pub own_cause : Token → Option Cause
own_cause open_paren = None
own_cause close_paren = None
own_cause and_word = None
own_cause or_word = None
own_cause not_word = None
own_cause (near_word k) = None
own_cause (operand a) = None
own_cause (faulty c) = Some c

-- The rows of the table.
abbrev pub operand_row : Mode → Option Side → Option Cause
operand_row expects side = None
operand_row has side = None
operand_row (beside s) side = None
operand_row (behind_near s k) (Some r) = None
operand_row (behind_near s k) None = Some cause.Near

abbrev pub opening_row : Mode → Option Cause
opening_row expects = None
opening_row has = None
opening_row (beside s) = None
opening_row (behind_near s k) = Some cause.Near

abbrev pub joining_row : Mode → Option Cause
joining_row expects = Some cause.Operand
joining_row has = None
joining_row (beside s) = None
joining_row (behind_near s k) = Some cause.Near

abbrev pub if_closed : Bool → Option Cause
if_closed is_open = if is_open then None else Some cause.Paren

abbrev pub closing_row : Mode → Bool → Option Cause
closing_row expects is_open = Some cause.Operand
closing_row has is_open = if_closed is_open
closing_row (beside s) is_open = if_closed is_open
closing_row (behind_near s k) is_open = Some cause.Near

abbrev pub near_row : Mode → Option Cause
near_row expects = Some cause.Operand
near_row has = Some cause.Near
near_row (beside s) = None
near_row (behind_near s k) = Some cause.Near

-- the table: what may not stand where
abbrev pub table_cause : Mode → Bool → Token → Option Cause
table_cause mode is_open open_paren = opening_row mode
table_cause mode is_open close_paren = closing_row mode is_open
table_cause mode is_open and_word = joining_row mode
table_cause mode is_open or_word = joining_row mode
table_cause mode is_open not_word = opening_row mode
table_cause mode is_open (near_word k) = near_row mode
table_cause mode is_open (operand a) = operand_row mode (side_of a)
table_cause mode is_open (faulty c) = None

abbrev pub if_full : ℕ → Option Cause
if_full depth = if nat_lt depth 32 then None else Some cause.Deep

abbrev pub deep_cause : ℕ → Token → Option Cause
deep_cause depth open_paren = if_full depth
deep_cause depth close_paren = None
deep_cause depth and_word = None
deep_cause depth or_word = None
deep_cause depth not_word = if_full depth
deep_cause depth (near_word k) = None
deep_cause depth (operand a) = None
deep_cause depth (faulty c) = None

abbrev pub many_cause : ℕ → Token → Option Cause
many_cause words t = if nat_le (words + weight t) 64 then None else Some cause.Many

-- the cause at a token, where so much is open and so many words came before
abbrev pub cause_at : Mode → List Mark → ℕ → Token → Option Cause
cause_at mode opened words t =
    option_or (option_or (option_or (own_cause t) (table_cause mode (any_open opened) t))
    (deep_cause (length opened) t)) (many_cause words t)

abbrev pub side_mode : Option Side → Mode
side_mode None = has
side_mode (Some s) = beside s

abbrev pub operand_mode : Mode → Option Side → Mode
operand_mode expects side = side_mode side
operand_mode has side = side_mode side
operand_mode (beside s) side = side_mode side
operand_mode (behind_near s k) side = has

abbrev pub near_mode : Mode → ℕ → Mode
near_mode expects k = has
near_mode has k = has
near_mode (beside s) k = behind_near s k
near_mode (behind_near s j) k = has

abbrev pub mode_behind : Mode → Token → Mode
mode_behind mode open_paren = expects
mode_behind mode close_paren = has
mode_behind mode and_word = expects
mode_behind mode or_word = expects
mode_behind mode not_word = expects
mode_behind mode (near_word k) = near_mode mode k
mode_behind mode (operand a) = operand_mode mode (side_of a)
mode_behind mode (faulty c) = has

-- an operand ends the NOTs before it
abbrev pub end_nots : List Mark → List Mark
end_nots [] = []
end_nots (not_mark ∷ opened) = end_nots opened
end_nots (paren_mark ∷ opened) = paren_mark ∷ opened

-- a `)` ends the `(` that is open last
abbrev pub end_paren : List Mark → List Mark
end_paren [] = []
end_paren (not_mark ∷ opened) = end_paren opened
end_paren (paren_mark ∷ opened) = end_nots opened

-- the second side of a NEAR ends nothing, since the first one did
abbrev pub end_operand : Mode → List Mark → List Mark
end_operand expects opened = end_nots opened
end_operand has opened = end_nots opened
end_operand (beside s) opened = end_nots opened
end_operand (behind_near s k) opened = opened

abbrev pub open_behind : Mode → List Mark → Token → List Mark
open_behind mode opened open_paren = paren_mark ∷ opened
open_behind mode opened close_paren = end_paren opened
open_behind mode opened and_word = opened
open_behind mode opened or_word = opened
open_behind mode opened not_word = not_mark ∷ opened
open_behind mode opened (near_word k) = opened
open_behind mode opened (operand a) = end_operand mode opened
open_behind mode opened (faulty c) = opened

-- a place and a cause
pub data Fault : Type 0 where
  fault : ℕ → Cause → Fault

-- the cause at the end of the text
abbrev pub end_cause : Mode → List Mark → Option Cause
end_cause expects opened = Some cause.Operand
end_cause has opened = if any_open opened then Some cause.Paren else None
end_cause (beside s) opened = if any_open opened then Some cause.Paren else None
end_cause (behind_near s k) opened = Some cause.Near

abbrev pub at_place : ℕ → Option Cause → Option Fault → Option Fault
at_place p (Some c) later = Some (fault p c)
at_place p None later = later

-- the first fault from a token on, or at the end of the text
abbrev pub fault_from : Mode → List Mark → ℕ → List Spot → ℕ → Option Fault
fault_from mode opened words [] end = at_place end (end_cause mode opened) None
fault_from mode opened words (at p t ∷ ts) end =
    at_place p (cause_at mode opened words t)
    (fault_from (mode_behind mode t) (open_behind mode opened t) (words + weight t) ts end)

-- the first fault of a text with these tokens and that length
unfoldable pub fault_of : List Spot → ℕ → Option Fault
fault_of [] end = Some (fault 0 cause.Empty)
fault_of (t ∷ ts) end = fault_from expects [] 0 (t ∷ ts) end
