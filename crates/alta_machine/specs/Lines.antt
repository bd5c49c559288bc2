-- How a line is read: as the command that it spells, or as refused.
use Rattle.std.specs.Prelude.{ℕ, List, length, Bool, nat_lt, if◌then◌else◌, Option, Some, None}
use Rattle.std.specs.Str.{is_utf8}
use Rattle.alta_machine.specs.Command.{Command}
use Rattle.alta_machine.specs.LineFaults.{is_verb, word_of}
use Rattle.alta_machine.specs.Reading.{command_in}
use Rattle.alta_machine.specs.declared.line.TheConstants.{LINE_LIMIT}
use Rattle.alta_machine.specs.declared.line.LineFault.{LineFault}
use Rattle.alta_machine.specs.declared.line.LineFault.TheVariants.{TooLong, NotUtf8, Unknown, Bad}

pub data Reading : Type 0 where
  asks : Command → Reading
  refuses : LineFault → Reading

-- a text that spells no command is a bad line behind a command's word, and else unknown
abbrev pub asks_or_refuses : Bool → Option Command → Reading
asks_or_refuses verb (Some command) = asks command
asks_or_refuses verb None = refuses (if verb then Bad else Unknown)

-- the reading of a line of bytes
unfoldable pub reading_of : List ℕ → Reading
reading_of line =
    if nat_lt LINE_LIMIT (length line) then refuses TooLong
    else (if is_utf8 line then asks_or_refuses (is_verb (word_of line)) (command_in line)
    else refuses NotUtf8)
