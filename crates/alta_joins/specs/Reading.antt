-- Levels whose lists are read window by window, and what is merged of them meanwhile.
use Rattle.std.specs.Prelude.{Result, Err, IfErr, OnOk, ◌≡◌, ℕ, ◌+◌, ◌<◌, ◌≤◌, ◌^◌, List, [], ◌∷◌, ◌++◌, length, take, drop, map, slice_index, slice_index_or, slice_set}
use Rattle.std.specs.List.{All}
use Rattle.alta_content.specs.Joining.{gathered}
use Rattle.alta_content.specs.Lists.{TermsRise}
use Rattle.alta_content.specs.Spans.{lists_outside}
use Rattle.alta_content.specs.TermList.{TermList}
use Rattle.alta_content.specs.declared.spans.Span.{Span}
use Rattle.alta_disk.specs.Answers.{IfDamaged}
use Rattle.alta_disk.specs.Calls.{Reads, Retrieves}
use Rattle.alta_disk.specs.Disk.{DiskState}
use Rattle.alta_disk.specs.Parts.{part}
use Rattle.alta_disk.specs.declared.fault.LoadFault.{LoadFault}
use Rattle.alta_joins.specs.Damages.{FindsDamage}
use Rattle.alta_meaning.specs.Broken.{IsBrokenAmong}
use Rattle.alta_joins.specs.Contents.{data_size}
use Rattle.alta_level.specs.Damage.{AreListsOf, IsFaultInLists, data_place}
use Rattle.alta_merge.specs.Besides.{beside}
use Rattle.alta_table.specs.Places.{stream_place}
use Rattle.alta_table.specs.Tables.{KeepRules, Tables, total_of}
use Rattle.alta_table.specs.Terms.{data_bytes}
use Rattle.alta_table.specs.declared.term.TermRow.{TermRow}

-- ---- one level

-- the rows of a level from one on, up to another
abbrev pub rows_between : Tables → ℕ → ℕ → List TermRow
rows_between level from to = drop from (take to level.terms)

-- The lists were read from bytes of these rows, and where the disk tells, these are those of the image.
pub record AreRead (tells : Type 0) (image : List ℕ) (level : Tables) (from to : ℕ) (lists : List TermList)
    : Type 0 where
  pub bytes : List ℕ
  pub long : length bytes ≡ data_bytes (rows_between level from to)
  pub are : AreListsOf level.documents (rows_between level from to) bytes (stream_place level from) lists
  pub told : tells → bytes ≡ part (stream_place level from) (length bytes) image

-- the bytes of the lists of a level on an image, from a row on
abbrev pub rest_of : List ℕ → Tables → ℕ → List ℕ
rest_of image level row = part (stream_place level row) (data_bytes (drop row level.terms)) image

-- the first fault of the lists of a level on an image, from a row on
abbrev pub IsFaultFrom : List ℕ → Tables → ℕ → ℕ → Type 0
IsFaultFrom image level row place =
    IsFaultInLists level.documents (drop row level.terms) (rest_of image level row) (stream_place level row) place

-- the tables of a level keep their rules, and its lists end on the disk
pub record IsOpen (level : Tables) : Type 0 where
  pub keeps : KeepRules (total_of level.documents level.terms) level.documents level.terms
  pub below : data_place level + data_size level < 2 ^ 64

-- ---- several levels

-- each level was read up to a row, and behind the levels stand the newest lists
abbrev pub AreReadTo : Type 0 → List ℕ → List TermList → List Tables → List ℕ → List (List TermList) → Type 0
AreReadTo tells image newest [] [] [] = ⊥
AreReadTo tells image newest [] [] (lists ∷ []) = lists ≡ newest
AreReadTo tells image newest [] [] (lists ∷ other ∷ more) = ⊥
AreReadTo tells image newest [] (row ∷ rows) read = ⊥
AreReadTo tells image newest (level ∷ levels) [] read = ⊥
AreReadTo tells image newest (level ∷ levels) (row ∷ rows) [] = ⊥
AreReadTo tells image newest (level ∷ levels) (row ∷ rows) (lists ∷ read) =
    (row ≤ length level.terms) × AreRead tells image level 0 row lists × AreReadTo tells image newest levels rows read

-- how many rows levels have
abbrev pub sizes_of : List Tables → List ℕ
sizes_of levels = map (λ (level : Tables). length level.terms) levels

-- nothing stands behind the lists of a level that was read to its end
abbrev pub StandBehind : List Tables → List ℕ → (ℕ → List TermList) → Type 0
StandBehind levels rows backs = (i : ℕ) → slice_index (sizes_of levels) i ≤ slice_index rows i → backs i ≡ []

-- how many bytes are still to be read
abbrev pub left_of : List Tables → List ℕ → ℕ
left_of [] rows = 0
left_of (level ∷ levels) [] = 0
left_of (level ∷ levels) (row ∷ rows) = data_bytes (drop row level.terms) + left_of levels rows

-- What was read of the levels up to these rows is merged, without what stands in the spans, but for what is at hand: whatever lists
-- stand behind it, they come to the same. Where the disk tells, its content is the image.
pub record AreMergedTo (tells : Type 0) (image content : List ℕ) (newest : List TermList) (spans : List Span)
    (levels : List Tables) (rows : List ℕ) (hand : List (List TermList)) (made : List TermList) : Type 0 where
  pub here : tells → content ≡ image
  pub read : List (List TermList)
  pub are : AreReadTo tells image newest levels rows read
  pub many : length hand ≡ length levels + 1
  pub rise : (backs : ℕ → List TermList) → StandBehind levels rows backs → All TermsRise (beside read backs)
      → All TermsRise (beside hand backs)
  pub same : (backs : ℕ → List TermList) → StandBehind levels rows backs → All TermsRise (beside read backs)
      → lists_outside spans (gathered (beside read backs)) ≡ made ++ lists_outside spans (gathered (beside hand backs))

-- where no list of one of the first n levels is at hand, it was read to its end
abbrev pub AreFilled : ℕ → List Tables → List ℕ → List (List TermList) → Type 0
AreFilled n levels rows hand =
    (k : ℕ) → k < n → slice_index_or hand k [] ≡ [] → slice_index (sizes_of levels) k ≤ slice_index rows k

-- the next lists of a level were taken to hand
pub record IsRefilled (i : ℕ) (rows : List ℕ) (hand : List (List TermList)) (later : List ℕ)
    (more : List (List TermList)) : Type 0 where
  pub end : ℕ
  pub lists : List TermList
  pub some : 0 < length lists
  pub rows_are : later ≡ slice_set rows i end
  pub hand_is : more ≡ slice_set hand i lists

-- all lists of levels were read, and are merged with the newest ones, without what stands in the spans
pub record AreAllMerged (tells : Type 0) (image : List ℕ) (newest : List TermList) (spans : List Span)
    (levels : List Tables) (made : List TermList) : Type 0 where
  pub read : List (List TermList)
  pub are : AreReadTo tells image newest levels (sizes_of levels) read
  pub same : All TermsRise read → made ≡ lists_outside spans (gathered read)

-- ---- calls

-- What a call that reads on in levels costs, and why it fails: it reads what is left at most, and finds the first damage of all levels.
pub record ReadsOn {X : Type 0} (tells : Type 0) (levels : List Tables) (rows later : List ℕ) (old new : DiskState)
    (result : Result X LoadFault) : Type 0 where
  pub cost : OnOk result ((n : ℕ) × Reads tells n old new × (n + left_of levels later ≤ left_of levels rows))
  pub damage : tells → IfErr result (λ fault. FindsDamage {X = Unit {0}} old.content levels (Err fault))
  pub broken : tells → IfDamaged result (IsBrokenAmong levels old.content)
  pub retrieves : Retrieves tells (left_of levels rows) old new result

-- More lists of levels were taken to hand: what was merged stays so, whatever it is.
pub record Fills {X : Type 0} (tells : Type 0) (levels : List Tables) (rows : List ℕ) (hand : List (List TermList))
    (later : List ℕ) (more : List (List TermList)) (old new : DiskState) (result : Result X LoadFault)
    : Type 0 where
  pub merged : (image : List ℕ) (newest : List TermList) (spans : List Span) (made : List TermList)
      → AreMergedTo tells image old.content newest spans levels rows hand made
      → OnOk result (AreMergedTo tells image new.content newest spans levels later more made)
  pub reads : ReadsOn tells levels rows later old new result
