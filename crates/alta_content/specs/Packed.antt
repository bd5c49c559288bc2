-- How lists are packed: a row for each in one buffer, and in another the distances of its locations, each from the one before.
use Rattle.std.specs.Prelude.{◌≡◌, ℕ, zero, suc, ◌+◌, ◌-◌, ◌%◌, ◌^◌, ◌<◌, ◌≤◌, ◌++◌, List, [], ◌∷◌, length, drop, take, flat_map, Result, Ok, Err, OnOk, OnErr}
use Rattle.std.specs.List.{All}
use Rattle.alta_codec.specs.Numbers.{number_bytes, number_from}
use Rattle.alta_codec.specs.declared.number.CodeFault.{CodeFault}
use Rattle.alta_content.specs.TermList.{TermList}

-- ---- how they are spelled

-- how far a location stands behind another, around the end of the numbers
abbrev pub gap : ℕ → ℕ → ℕ
gap before location = (location + (2 ^ 64 - before)) % 2 ^ 64

-- the gaps of locations behind one
abbrev pub gaps_bytes : ℕ → List ℕ → List ℕ
gaps_bytes before [] = []
gaps_bytes before (x ∷ xs) = number_bytes (gap before x) ++ gaps_bytes x xs

-- the last of the locations behind one, and that one where there are none
abbrev pub last_behind : ℕ → List ℕ → ℕ
last_behind before [] = before
last_behind before (x ∷ xs) = last_behind x xs

-- the gaps of a list
abbrev pub list_gaps : TermList → List ℕ
list_gaps l = gaps_bytes 0 l.locations

-- the bytes are the gaps of so many locations
pub record AreGaps (bytes : List ℕ) (count : ℕ) (locations : List ℕ) : Type 0 where
  pub spelled : bytes ≡ gaps_bytes 0 locations
  pub counted : length locations ≡ count
  pub small : All (λ x. x < 2 ^ 64) locations

-- on Ok the items stand behind the others, on Err all is as it was
pub record Appends {A T E : Type 0} (items old new : List A) (result : Result T E) : Type 0 where
  pub put : OnOk result (new ≡ old ++ items)
  pub kept : OnErr result (new ≡ old)

-- the bytes are the gaps of so many locations, and the gaps behind so many of them begin at the place, behind the last of these
pub record IsGathered (bytes : List ℕ) (count before last place : ℕ) (locations : List ℕ) : Type 0 where
  pub are : AreGaps bytes count locations
  pub few : before ≤ count
  pub last_is : last ≡ last_behind 0 (take before locations)
  pub behind : drop place bytes ≡ gaps_bytes last (drop before locations)
  pub within : place ≤ length bytes

-- a list's term, behind its length, then how many locations it has, and how many bytes their gaps have
abbrev pub row_bytes : TermList → List ℕ
row_bytes l = number_bytes (length l.term)
    ++ (l.term ++ (number_bytes (length l.locations) ++ number_bytes (length (list_gaps l))))

-- ---- how they are read

-- the number that was read, and what stands behind it
abbrev pub number_read : List ℕ → Result (ℕ × ℕ) CodeFault → ℕ × List ℕ
number_read bytes (Ok r) = (r.0, drop r.1 bytes)
number_read bytes (Err f) = (0, [])

-- the first number, and what stands behind it
abbrev pub leading_number : List ℕ → ℕ × List ℕ
leading_number bytes = number_read bytes (number_from 9 0 bytes)

-- so many locations, each behind the one before
abbrev pub locations_in : ℕ → ℕ → List ℕ → List ℕ
locations_in zero before bytes = []
locations_in (suc n) before bytes = ((before + (leading_number bytes).0) % 2 ^ 64)
    ∷ locations_in n ((before + (leading_number bytes).0) % 2 ^ 64) (leading_number bytes).1

-- a row: the term, how many locations, how many bytes of gaps, and what stands behind it
pub record Row : Type 0 where
  pub term : List ℕ
  pub count : ℕ
  pub gaps : ℕ
  pub behind : List ℕ

-- the first row
abbrev pub row_in : List ℕ → Row
row_in bytes =
    let size = leading_number bytes in
    let count = leading_number (drop size.0 size.1) in
    let gaps = leading_number count.1 in
    record { term = take size.0 size.1; count = count.0; gaps = gaps.0; behind = gaps.1 }

-- so many lists, of these rows and gaps
abbrev pub lists_in : ℕ → List ℕ → List ℕ → List TermList
lists_in zero rows gaps = []
lists_in (suc n) rows gaps =
    (record { term = (row_in rows).term; locations = locations_in (row_in rows).count 0 gaps })
    ∷ lists_in n (row_in rows).behind (drop (row_in rows).gaps gaps)

-- ---- what holds of packed lists

-- each number of the list's row and gaps is below 2 ^ 64
pub record Fits (l : TermList) : Type 0 where
  pub term : length l.term < 2 ^ 64
  pub count : length l.locations < 2 ^ 64
  pub gaps : length (list_gaps l) < 2 ^ 64
  pub locations : All (λ x. x < 2 ^ 64) l.locations

-- the lists are what is spelled there
pub record Packs (row gap : List ℕ) (lists : List TermList) : Type 0 where
  pub rows : row ≡ flat_map row_bytes lists
  pub gaps : gap ≡ flat_map list_gaps lists
  pub fit : All Fits lists
