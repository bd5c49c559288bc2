-- What levels that are read window by window come to: their contents, or the first damage.
use Rattle.std.proofs.Common.{◌≡◌, inl, inr, ℕ, suc, ◌+◌, ◌<◌, ◌≤◌, ◌^◌, List, [], ◌∷◌, ◌++◌, length, take, drop, drop-cons, get_or, refl, sym, subst, ap, ap₂, ◌∙◌, arith, take-append-drop}
use Rattle.std.specs.List.{All}
use Rattle.std.specs.Prelude.{Ok, Err}
use Rattle.std.proofs.lemmas.List.{take_more}
use Rattle.std.proofs.lemmas.List.Elements.{All-get_or, All-head, All-tail, Contains-get_or}
use Rattle.alta_codec.specs.Bytes.{AreBytes}
use Rattle.alta_codec.specs.declared.extent.Extent.{Extent}
use Rattle.alta_content.specs.Joining.{parts_of}
use Rattle.alta_content.specs.TermList.{TermList}
use Rattle.alta_content.specs.declared.content.Content.{Content}
use Rattle.alta_disk.specs.Answers.{IfDamaged, IsNoDamage}
use Rattle.alta_disk.specs.Disk.{DiskState, IsLawful}
use Rattle.alta_disk.specs.Parts.{part}
use Rattle.alta_disk.specs.declared.fault.LoadFault.{LoadFault}
use Rattle.alta_disk.specs.declared.fault.LoadFault.TheVariants as faults
use Rattle.alta_joins.proofs.DataLaws.{call_broken, call_tells, content_kept, content_segment, segment_bytes, segment_size}
use Rattle.alta_joins.proofs.LevelRuns.{TellsOne, told_ended, told_more}
use Rattle.alta_joins.proofs.MergeSteps.{level_at, no_level, read_at}
use Rattle.alta_joins.proofs.ReadRows.{all_rows, fault_behind, place_first, read_then}
use Rattle.alta_joins.specs.Contents.{AreContentsOf, AreSegmentsOn, IsContentOf, StandsOn}
use Rattle.alta_joins.specs.Damages.{FindsDamage, IsFirstDamage, Tells}
use Rattle.alta_joins.specs.Reading.{AreRead, AreReadTo, IsFaultFrom, IsOpen, sizes_of}
use Rattle.alta_level.specs.Damage.{AreListsOf, IsFaultInLists, IsSegmentFault, data_place}
use Rattle.alta_level.specs.Segments.{IsSegment}
use Rattle.alta_meaning.specs.Broken.{IsBrokenAmong, IsBrokenIn}
use Rattle.alta_meaning.specs.Opened.{bytes_at, extent_of}
use Rattle.alta_table.specs.Places.{stream_place}
use Rattle.alta_table.specs.Tables.{Tables}
use Rattle.alta_table.specs.Terms.{data_bytes}
use Rattle.alta_table.specs.declared.term.TermRow.{TermRow}

-- that segments are read back: bytes are the segment of one content at most, or have one first damage
pub record AreReadBack : Type 0 where
  pub once : (b : List ℕ) → (c d : Content) → AreBytes b → length b < 2 ^ 64 → IsSegment b c → IsSegment b d → c ≡ d
  pub apart : (b : List ℕ) → (p q : ℕ) → (c : Content) → AreBytes b → length b < 2 ^ 64 → IsSegment b c → IsSegmentFault b p q → ⊥
  pub alone : (b : List ℕ) → (p q r : ℕ) → AreBytes b → length b < 2 ^ 64 → IsSegmentFault b p q → IsSegmentFault b p r → q ≡ r

-- a level's content with these lists
abbrev pub content_with : Tables → List TermList → Content
content_with level lists = record { documents = level.documents; lists = lists }

-- ---- one level

module _ (tells : Type 0) (a : DiskState) (lawful : IsLawful tells a) (level : Tables) (stands : tells → StandsOn a.content level) (opens : IsOpen level) (laws : AreReadBack) where
  abbrev whole : Extent
  whole = record { place = data_place level; bytes = data_bytes level.terms }

  from_first : (p : ℕ) → IsFaultFrom a.content level 0 p → IsFaultInLists level.documents level.terms (bytes_at whole a.content) (data_place level) p
  from_first p fault = subst (λ (q : ℕ). IsFaultInLists level.documents level.terms (part q (data_bytes level.terms) a.content) q p) (place_first level) fault

  pub fault_told : (p : ℕ) → tells → IsFaultFrom a.content level 0 p → TellsOne {X = Content} (λ x. x) a.content level (Err (faults.Damaged p))
  fault_told p told fault =
      call_tells tells a lawful level stands whole refl refl opens.below (bytes_at whole a.content) (λ t. refl) (Err (faults.Damaged p)) tt (from_first p fault) laws.once laws.apart laws.alone told

  pub fault_broken : (p : ℕ) → tells → IsFaultFrom a.content level 0 p → IsBrokenIn level a.content p
  fault_broken p told fault = call_broken tells a lawful level stands whole refl refl opens.below (bytes_at whole a.content) (λ t. refl) (Err (faults.Damaged p)) tt (from_first p fault) told

  module _ (lists : List TermList) (read : AreRead tells a.content level 0 (length level.terms) lists) where
    long : length read.bytes ≡ data_bytes level.terms
    long = read.long ∙ ap data_bytes (all_rows level)

    are : AreListsOf level.documents level.terms read.bytes (data_place level) lists
    are =
        subst (λ (p : ℕ). AreListsOf level.documents level.terms read.bytes p lists) (place_first level)
        (subst (λ (rows : List TermRow). AreListsOf level.documents rows read.bytes (stream_place level 0) lists) (all_rows level) read.are)

    pub content_is : IsContentOf level (content_with level lists)
    content_is = content_kept level read.bytes (content_with level lists) opens.keeps long refl are

    pub content_told : tells → TellsOne {X = Content} (λ x. x) a.content level (Ok (content_with level lists))
    content_told told =
        call_tells tells a lawful level stands whole refl refl opens.below read.bytes (λ t. read.told t ∙ ap₂ (λ (p n : ℕ). part p n a.content) (place_first level) long)
        (Ok (content_with level lists)) (content_segment level read.bytes (content_with level lists) opens.keeps long refl are) tt laws.once laws.apart laws.alone told

-- ---- all levels

-- levels of which all was read, behind which the newest lists stand
pub record AreWhole (tells : Type 0) (image : List ℕ) (newest : List TermList) (levels : List Tables) (read : List (List TermList)) : Type 0 where
  pub contents : List Content
  pub are : AreContentsOf levels contents
  pub segments : tells → AreSegmentsOn image levels contents
  pub lists : read ≡ parts_of contents ++ newest ∷ []

module _ (tells : Type 0) (a : DiskState) (lawful : IsLawful tells a) (laws : AreReadBack) where
  pub all_read : (newest : List TermList) (levels : List Tables) (read : List (List TermList)) → All IsOpen levels → (tells → All (StandsOn a.content) levels)
      → AreReadTo tells a.content newest levels (sizes_of levels) read → AreWhole tells a.content newest levels read
  all_read newest [] [] opens stands are = absurd are
  all_read newest [] (lists ∷ []) opens stands are = record { contents = []; are = tt; segments = λ told. tt; lists = ap (λ (l : List TermList). l ∷ []) are }
  all_read newest [] (lists ∷ other ∷ more) opens stands are = absurd are
  all_read newest (level ∷ levels) [] opens stands are = absurd are
  all_read newest (level ∷ levels) (lists ∷ read) opens stands are =
      let here = λ (told : tells). All-head (StandsOn a.content) level levels (stands told) in
      let own = All-head IsOpen level levels opens in
      let rest = all_read newest levels read (All-tail IsOpen level levels opens) (λ told. All-tail (StandsOn a.content) level levels (stands told)) are.2 in
      record {
        contents = content_with level lists ∷ rest.contents;
        are = (content_is tells a lawful level here own laws lists are.1, rest.are);
        segments = λ told. ((content_told tells a lawful level here own laws lists are.1 told).segment, rest.segments told);
        lists = ap (λ (l : List (List TermList)). lists ∷ l) rest.lists;
      }

  pub none_damaged : (levels : List Tables) (contents : List Content) (p : ℕ) → tells → All IsOpen levels → All (StandsOn a.content) levels → AreSegmentsOn a.content levels contents
      → IsFirstDamage a.content levels p → ⊥
  none_damaged [] contents p told opens stands are damage = damage
  none_damaged (level ∷ levels) [] p told opens stands are damage = absurd are
  none_damaged (level ∷ levels) (c ∷ cs) p told opens stands (is, are) (inl damage) =
      let bytes : AreBytes a.content = lawful.bytes a.clock a.content (lawful.counts_now a.clock a.content (omega arith) (lawful.present told)) in
      let here = All-head (StandsOn a.content) level levels stands in
      let small : length (bytes_at (extent_of level) a.content) < 2 ^ 64 = omega (arith, segment_size level a.content bytes here, (All-head IsOpen level levels opens).below) in
      laws.apart (bytes_at (extent_of level) a.content) level.place p c (segment_bytes level a.content bytes here) small is damage
  none_damaged (level ∷ levels) (c ∷ cs) p told opens stands (is, are) (inr (whole, damage)) =
      none_damaged levels cs p told (All-tail IsOpen level levels opens) (All-tail (StandsOn a.content) level levels stands) are damage

-- ---- a level among others

pub levels_split : (levels : List Tables) (i : ℕ) → i < length levels → levels ≡ take i levels ++ level_at levels i ∷ drop (i + 1) levels
levels_split levels i inside =
    let next : suc i ≡ i + 1 = omega arith in
    sym (take-append-drop i levels) ∙ ap (λ (ls : List Tables). take i levels ++ ls) (drop-cons levels i no_level inside ∙ ap (λ (k : ℕ). level_at levels i ∷ drop k levels) next)

pub finds_of : (image : List ℕ) (levels : List Tables) (e : LoadFault) → Tells {X = List Content} (λ x. x) image levels (Err e) → FindsDamage {X = Unit {0}} image levels (Err e)
finds_of image levels faults.Disk told = record { undamaged = λ contents are. tt; first = tt; damaged = λ p damage. tt }
finds_of image levels faults.Memory told = record { undamaged = λ contents are. tt; first = tt; damaged = λ p damage. tt }
finds_of image levels (faults.Damaged q) told = record { undamaged = told.only; first = told.first; damaged = told.damaged }

-- a fault of one level, where all before it are whole
module _ (image : List ℕ) (levels : List Tables) (i : ℕ) (inside : i < length levels) (contents : List Content) (told : Tells {X = List Content} (λ x. x) image (take i levels) (Ok contents)) where
  pub damage_at : (e : LoadFault) → TellsOne {X = Content} (λ x. x) image (level_at levels i) (Err e) → FindsDamage {X = Unit {0}} image levels (Err e)
  damage_at e one =
      finds_of image levels e
      (subst (λ (ls : List Tables). Tells {X = List Content} (λ x. x) image ls (Err e)) (sym (levels_split levels i inside))
      (told_ended image (take i levels) contents (level_at levels i) (drop (i + 1) levels) told {X = List Content} (λ x. x) e one))

  pub whole_more : (content : Content) → TellsOne {X = Content} (λ x. x) image (level_at levels i) (Ok content)
      → Tells {X = List Content} (λ x. x) image (take (i + 1) levels) (Ok (contents ++ content ∷ []))
  whole_more content one =
      subst (λ (ls : List Tables). Tells {X = List Content} (λ x. x) image ls (Ok (contents ++ content ∷ []))) (sym (take_more levels i no_level inside))
      (told_more image (take i levels) contents (level_at levels i) content told one)

-- a fault of the disk, or want of memory, finds no damage
pub outside_finds : (image : List ℕ) (levels : List Tables) (e : LoadFault) → IsNoDamage e → FindsDamage {X = Unit {0}} image levels (Err e)
outside_finds image levels faults.Disk is = record { undamaged = λ contents are. tt; first = tt; damaged = λ p damage. tt }
outside_finds image levels faults.Memory is = record { undamaged = λ contents are. tt; first = tt; damaged = λ p damage. tt }
outside_finds image levels (faults.Damaged q) is = absurd is

-- ---- levels that were read up to rows

-- each level was read up to its row, and stands on the image
module _ (tells : Type 0) (old : DiskState) (lawful : IsLawful tells old) (laws : AreReadBack) (levels : List Tables) (rows : List ℕ) (newest : List TermList) (read : List (List TermList))
    (opens : All IsOpen levels) (stands : tells → All (StandsOn old.content) levels) (are : AreReadTo tells old.content newest levels rows read) (i : ℕ) (inside : i < length levels) where
  abbrev level : Tables
  level = level_at levels i

  abbrev row : ℕ
  row = get_or rows i 0

  here : tells → StandsOn old.content level
  here told = All-get_or (StandsOn old.content) levels i no_level inside (stands told)

  own : IsOpen level
  own = All-get_or IsOpen levels i no_level inside opens

  before : (row ≤ length level.terms) × AreRead tells old.content level 0 row (get_or read i [])
  before = read_at tells old.content newest levels rows read i are inside

  -- a fault behind what was read is the level's
  fault_here : (p : ℕ) → tells → IsFaultFrom old.content level row p → TellsOne {X = Content} (λ x. x) old.content level (Err (faults.Damaged p))
  fault_here p told fault = fault_told tells old lawful level here own laws p told (fault_behind tells old.content level 0 row p (get_or read i []) (omega arith) before.0 before.1 told fault)

  pub broken_here : (p : ℕ) → tells → IsFaultFrom old.content level row p → IsBrokenAmong levels old.content p
  broken_here p told fault = record {
    level = level;
    among = Contains-get_or levels i no_level inside;
    broken = fault_broken tells old lawful level here own laws p told (fault_behind tells old.content level 0 row p (get_or read i []) (omega arith) before.0 before.1 told fault);
  }

  module _ (contents : List Content) (told : Tells {X = List Content} (λ x. x) old.content (take i levels) (Ok contents)) where
    pub damage_here : (p : ℕ) → tells → IsFaultFrom old.content level row p → FindsDamage {X = Unit {0}} old.content levels (Err (faults.Damaged p))
    damage_here p tell fault = damage_at old.content levels i inside contents told (faults.Damaged p) (fault_here p tell fault)

    -- the level is whole
    pub whole_here : (lists : List TermList) → tells → AreRead tells old.content level row (length level.terms) lists
        → (more : List Content) × Tells {X = List Content} (λ x. x) old.content (take (i + 1) levels) (Ok more)
    whole_here lists tell rest =
        let all = read_then tells old.content level 0 row (length level.terms) (get_or read i []) lists (omega arith) before.0 (omega arith) before.1 rest in (
          contents ++ content_with level (get_or read i [] ++ lists) ∷ [],
          whole_more old.content levels i inside contents told (content_with level (get_or read i [] ++ lists)) (content_told tells old lawful level here own laws (get_or read i [] ++ lists) all tell),
        )

  -- the same of a fault of any kind
  pub finds_here : (e : LoadFault) → tells → (contents : List Content) × Tells {X = List Content} (λ x. x) old.content (take i levels) (Ok contents)
      → IfDamaged {X = Unit {0}} (Err e) (IsFaultFrom old.content level row) → FindsDamage {X = Unit {0}} old.content levels (Err e)
  finds_here faults.Disk tell before_it fault = outside_finds old.content levels faults.Disk tt
  finds_here faults.Memory tell before_it fault = outside_finds old.content levels faults.Memory tt
  finds_here (faults.Damaged p) tell before_it fault = damage_here before_it.0 before_it.1 p tell fault

  pub breaks_here : (e : LoadFault) → tells → IfDamaged {X = Unit {0}} (Err e) (IsFaultFrom old.content level row) → IfDamaged {X = Unit {0}} (Err e) (IsBrokenAmong levels old.content)
  breaks_here faults.Disk tell fault = tt
  breaks_here faults.Memory tell fault = tt
  breaks_here (faults.Damaged p) tell fault = broken_here p tell fault
