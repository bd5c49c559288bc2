-- Bytes cut at newlines.
use Rattle.std.specs.Prelude.{◌≡◌, ℕ, List, [], ◌∷◌, ◌++◌, if◌then◌else◌, ◌==◌}
use Rattle.std.specs.List.{All}
use Rattle.alta_codec.specs.Bytes.{Lacks}

-- the lines that end in these bytes, where `begun` stands before them since the last newline
abbrev pub whole_from : List ℕ → List ℕ → List (List ℕ)
whole_from begun [] = []
whole_from begun (byte ∷ bytes) = if byte == 10 then begun ∷ whole_from [] bytes
    else whole_from (begun ++ byte ∷ []) bytes

-- what has come of the next line behind these bytes
abbrev pub begun_from : List ℕ → List ℕ → List ℕ
begun_from begun [] = begun
begun_from begun (byte ∷ bytes) = if byte == 10 then begun_from [] bytes else begun_from (begun ++ byte ∷ []) bytes

-- the pieces that end at a newline, without it
abbrev pub whole : List ℕ → List (List ℕ)
whole bytes = whole_from [] bytes

-- what stands behind the last newline
abbrev pub begun : List ℕ → List ℕ
begun bytes = begun_from [] bytes

-- a last piece, where it is not empty
abbrev pub last_piece : List ℕ → List (List ℕ)
last_piece [] = []
last_piece (byte ∷ bytes) = (byte ∷ bytes) ∷ []

-- the pieces that end at a newline, and a last one that is not empty
abbrev pub lines_of : List ℕ → List (List ℕ)
lines_of bytes = whole bytes ++ last_piece (begun bytes)

-- lines, each with a newline behind it, and then what has begun
abbrev pub spelled : List (List ℕ) → List ℕ → List ℕ
spelled [] rest = rest
spelled (line ∷ lines) rest = line ++ 10 ∷ spelled lines rest

-- these lines and this rest are the bytes, cut at their newlines
pub record IsCut (bytes : List ℕ) (lines : List (List ℕ)) (rest : List ℕ) : Type 0 where
  pub spells : spelled lines rest ≡ bytes
  pub each : All (Lacks 10) lines
  pub last : Lacks 10 rest
