-- What the parser keeps, and how a token changes it.
use Rattle.std.specs.Prelude.{ℕ, ◌+◌, List, [], ◌∷◌, ◌++◌, map, Option, Some, None, Result, Ok, Err}
use Rattle.alta_machine.specs.Shape.{Side, Lone, Atom, lone, near, Shape, atom, all, any, negated, all_of, any_of}
use Rattle.alta_machine.specs.Token.{Token, open_paren, close_paren, and_word, or_word, not_word, near_word, operand, faulty, Spot, at, weight, side_of}
use Rattle.alta_machine.specs.QueryFaults.{Mode, expects, has, beside, behind_near, operand_mode, near_mode, Mark, not_mark, paren_mark, Fault, fault, cause_at, end_cause}
use Rattle.alta_machine.specs.declared.cause.Cause.{Cause}
use Rattle.alta_machine.specs.declared.cause.Cause.TheVariants as cause

-- what is open, the last first: a `(` with what was read of the or and of the and round it
pub data Frame : Type 0 where
  not_frame : Frame
  paren_frame : (ors ands : List Shape) → Frame

abbrev pub mark_of : Frame → Mark
mark_of not_frame = not_mark
mark_of (paren_frame ors ands) = paren_mark

abbrev pub marks : List Frame → List Mark
marks = map mark_of

pub record Parsing : Type 0 where
  pub mode : Mode
  pub ors : List Shape
  pub ands : List Shape
  pub frames : List Frame
  pub words : ℕ

abbrev pub start : Parsing
start = record { mode = expects; ors = []; ands = []; frames = []; words = 0 }

-- the NOTs that are open last, round a query
abbrev pub wrapped : List Frame → Shape → Shape
wrapped [] q = q
wrapped (not_frame ∷ fs) q = wrapped fs (negated q)
wrapped (paren_frame o a ∷ fs) q = q

-- what is open round them
abbrev pub unwrapped : List Frame → List Frame
unwrapped [] = []
unwrapped (not_frame ∷ fs) = unwrapped fs
unwrapped (paren_frame o a ∷ fs) = paren_frame o a ∷ fs

-- an operand was read: it ends the NOTs before it
abbrev pub give : Mode → Shape → List Shape → List Shape → List Frame → ℕ → Parsing
give mode q ors ands fs n =
    record { mode = mode; ors = ors; ands = ands ++ wrapped fs q ∷ []; frames = unwrapped fs; words = n }

-- all of an or
abbrev pub whole : List Shape → List Shape → Shape
whole ors ands = any_of (ors ++ all_of ands ∷ [])

abbrev pub close : Shape → List Frame → ℕ → Parsing
close q [] n = record { mode = has; ors = []; ands = []; frames = []; words = n }
close q (not_frame ∷ fs) n = close q fs n
close q (paren_frame o a ∷ fs) n = give has q o a fs n

-- the atom under the NOTs becomes another one
abbrev pub put : Atom → Shape → Shape
put a (atom b) = atom a
put a (all qs) = all qs
put a (any qs) = any qs
put a (negated q) = negated (put a q)

abbrev pub put_last : Atom → List Shape → List Shape
put_last a [] = []
put_last a (q ∷ []) = put a q ∷ []
put_last a (q ∷ r ∷ qs) = q ∷ put_last a (r ∷ qs)

abbrev pub near_atom : Side → ℕ → Option Side → Atom
near_atom l k None = near l k l
near_atom l k (Some r) = near l k r

abbrev pub operand_step : Mode → Parsing → Lone → Parsing
operand_step expects s a = give (operand_mode expects (side_of a)) (atom (lone a)) s.ors s.ands s.frames
    (s.words + weight (operand a))
operand_step has s a = give (operand_mode has (side_of a)) (atom (lone a)) s.ors s.ands s.frames
    (s.words + weight (operand a))
operand_step (beside l) s a = give (operand_mode (beside l) (side_of a)) (atom (lone a)) s.ors s.ands s.frames
    (s.words + weight (operand a))
operand_step (behind_near l k) s a =
    record {
      mode = has;
      ors = s.ors;
      ands = put_last (near_atom l k (side_of a)) s.ands;
      frames = s.frames;
      words = s.words + weight (operand a);
    }

abbrev pub after_token : Parsing → Token → Parsing
after_token s open_paren = record {
  mode = expects;
  ors = [];
  ands = [];
  frames = paren_frame s.ors s.ands ∷ s.frames;
  words = s.words + 0;
}
after_token s close_paren = close (whole s.ors s.ands) s.frames (s.words + 0)
after_token s and_word = record { mode = expects; ors = s.ors; ands = s.ands; frames = s.frames; words = s.words + 0 }
after_token s or_word = record {
  mode = expects;
  ors = s.ors ++ all_of s.ands ∷ [];
  ands = [];
  frames = s.frames;
  words = s.words + 0;
}
after_token s not_word = record {
  mode = expects;
  ors = s.ors;
  ands = s.ands;
  frames = not_frame ∷ s.frames;
  words = s.words + 0;
}
after_token s (near_word k) = record {
  mode = near_mode s.mode k;
  ors = s.ors;
  ands = s.ands;
  frames = s.frames;
  words = s.words + 0;
}
after_token s (operand a) = operand_step s.mode s a
after_token s (faulty c) = record { mode = has; ors = s.ors; ands = s.ands; frames = s.frames; words = s.words + 0 }

abbrev pub or_fault : ℕ → Option Cause → Result Shape Fault → Result Shape Fault
or_fault p (Some c) later = Err (fault p c)
or_fault p None later = later

abbrev pub cause_in : Parsing → Token → Option Cause
cause_in s t = cause_at s.mode (marks s.frames) s.words t

abbrev pub run : Parsing → List Spot → ℕ → Result Shape Fault
run s [] end = or_fault end (end_cause s.mode (marks s.frames)) (Ok (whole s.ors s.ands))
run s (at p t ∷ ts) end = or_fault p (cause_in s t) (run (after_token s t) ts end)

unfoldable pub parse_of : List Spot → ℕ → Result Shape Fault
parse_of [] end = Err (fault 0 cause.Empty)
parse_of (t ∷ ts) end = run start (t ∷ ts) end
