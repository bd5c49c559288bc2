-- Loops that read windows, between two states of the disk.
use Rattle.std.proofs.Common.{◌≡◌, ℕ, ◌+◌, ◌<◌, ◌≤◌, List, [], ◌++◌, length, take, drop, get_or, refl, subst, ap, ◌∙◌, arith}
use Rattle.std.proofs.lemmas.List.{take-take}
use Rattle.std.proofs.lemmas.List.Sums.{sum_by-append}
use Rattle.std.specs.Prelude.{Result, Ok, Err}
use Rattle.alta_codec.specs.Faults.{Rose}
use Rattle.alta_content.specs.TermList.{TermList}
use Rattle.alta_content.specs.declared.content.Content.{Content}
use Rattle.alta_content.specs.declared.spans.Span.{Span}
use Rattle.alta_disk.specs.Calls.{Reads}
use Rattle.alta_disk.specs.Disk.{DiskState, IsLawful}
use Rattle.alta_joins.proofs.LevelRuns.{told_none}
use Rattle.alta_joins.proofs.MergeSteps.{left_front, left_more, level_at}
use Rattle.alta_joins.proofs.ReadRows.{fault_behind, read_none, read_on, read_then, rest_size, rows_split}
use Rattle.alta_disk.specs.declared.fault.LoadFault.{LoadFault}
use Rattle.alta_disk.specs.declared.fault.LoadFault.TheVariants as faults
use Rattle.alta_joins.proofs.FaultLaws.{fault_goes}
use Rattle.alta_joins.specs.Damages.{FindsDamage, Tells}
use Rattle.alta_meaning.specs.Broken.{IsBrokenAmong}
use Rattle.alta_joins.specs.Reading.{AreMergedTo, AreRead, Fills, IsFaultFrom, ReadsOn, left_of, rows_between}
use Rattle.alta_meaning.proofs.DiskReads.{reads_none, reads_then, reads_within}
use Rattle.alta_table.specs.Tables.{Tables}
use Rattle.alta_table.specs.Terms.{data_bytes, data_of}

pub reads_zero : (tells : Type 0) (n : ℕ) (s : DiskState) → IsLawful tells s → Reads tells n s s
reads_zero tells n s lawful = reads_within tells 0 n s s (omega arith) (reads_none tells s lawful)

-- ---- the rows of one level

-- the lists of a level were read from one row to another
pub record FromRun (tells : Type 0) (level : Tables) (from row : ℕ) (old now : DiskState) : Type 0 where
  pub lists : List TermList
  pub read : AreRead tells old.content level from row lists
  pub on : from ≤ row
  pub within : row ≤ length level.terms
  pub reads : Reads tells (data_bytes (rows_between level from row)) old now

pub from_begins : (tells : Type 0) (level : Tables) (from : ℕ) (s : DiskState) → IsLawful tells s → from ≤ length level.terms → FromRun tells level from from s s
from_begins tells level from s lawful within =
    let first = read_none tells s.content level from within in
    record {
      lists = [];
      read = first;
      on = omega arith;
      within = within;
      reads = reads_within tells 0 (data_bytes (rows_between level from from)) s s (omega arith) (reads_none tells s lawful);
    }

module _ (tells : Type 0) (level : Tables) (from row : ℕ) (old mid : DiskState) (h : FromRun tells level from row old mid) where
  pub from_on : (end : ℕ) (lists : List TermList) (now : DiskState) → AreRead tells mid.content level row end lists → row < end → end ≤ length level.terms
      → Reads tells (data_bytes (rows_between level row end)) mid now → FromRun tells level from end old now
  from_on end lists now read on within reads =
      let le : row ≤ end = omega (arith, on) in
      let sum : data_bytes (rows_between level from end) ≡ data_bytes (rows_between level from row) + data_bytes (rows_between level row end) =
      ap data_bytes (rows_split level from row end h.on le within) ∙ sum_by-append data_of (rows_between level from row) (rows_between level row end) in
      record {
        lists = h.lists ++ lists;
        read = read_then tells old.content level from row end h.lists lists h.on le within h.read (read_on tells mid.content old.content level row end lists h.reads.content read);
        on = omega (arith, h.on, on);
        within = within;
        reads = reads_then tells (data_bytes (rows_between level from row)) (data_bytes (rows_between level row end)) (data_bytes (rows_between level from end)) old mid now sum h.reads reads;
      }

  pub from_fault : (p : ℕ) → tells → IsFaultFrom mid.content level row p → IsFaultFrom old.content level from p
  from_fault p told fault =
      fault_behind tells old.content level from row p h.lists h.on h.within h.read told (subst (λ (image : List ℕ). IsFaultFrom image level row p) (h.reads.content told) fault)

  pub from_cost : (now : DiskState) → Reads tells (data_bytes (drop row level.terms)) mid now → Reads tells (data_bytes (drop from level.terms)) old now
  from_cost now reads =
      reads_then tells (data_bytes (rows_between level from row)) (data_bytes (drop row level.terms)) (data_bytes (drop from level.terms)) old mid now
      (rest_size tells old.content level from row h.on h.within) h.reads reads

  -- all was read
  pub from_ends : length level.terms ≤ row → FromRun tells level from (length level.terms) old mid
  from_ends le =
      let same : row ≡ length level.terms = omega (arith, le, h.within) in
      subst (λ (r : ℕ). FromRun tells level from r old mid) same h

  pub from_all : Reads tells (data_bytes (drop from level.terms)) old mid
  from_all =
      reads_within tells (data_bytes (rows_between level from row)) (data_bytes (drop from level.terms)) old mid (omega (arith, rest_size tells old.content level from row h.on h.within)) h.reads

-- ---- levels that are tested one after the other

pub record TestRun (tells : Type 0) (levels : List Tables) (rows : List ℕ) (i : ℕ) (old now : DiskState) : Type 0 where
  pub told : tells → (contents : List Content) × Tells {X = List Content} (λ x. x) old.content (take i levels) (Ok contents)
  pub reads : Reads tells (left_of (take i levels) rows) old now

pub test_begins : (tells : Type 0) (levels : List Tables) (rows : List ℕ) (s : DiskState) → IsLawful tells s → TestRun tells levels rows 0 s s
test_begins tells levels rows s lawful = record { told = λ t. ([], told_none s.content); reads = reads_none tells s lawful }

module _ (tells : Type 0) (levels : List Tables) (rows : List ℕ) (i : ℕ) (inside : i < length levels) (many : length rows ≡ length levels) (old mid now : DiskState) (h : TestRun tells levels rows i old mid)
    (reads : Reads tells (data_bytes (drop (get_or rows i 0) (level_at levels i).terms)) mid now) where
  pub test_cost : Reads tells (left_of (take (i + 1) levels) rows) old now
  test_cost =
      reads_then tells (left_of (take i levels) rows) (data_bytes (drop (get_or rows i 0) (level_at levels i).terms)) (left_of (take (i + 1) levels) rows) old mid now
      (left_more levels rows i many inside) h.reads reads

-- fewer levels are tested
pub test_front : (tells : Type 0) (levels : List Tables) (rows : List ℕ) (i n : ℕ) → i ≤ n → (old now : DiskState) → Reads tells (left_of (take i levels) rows) old now
    → Reads tells (left_of (take n levels) rows) old now
test_front tells levels rows i n le old now reads =
    reads_within tells (left_of (take i levels) rows) (left_of (take n levels) rows) old now
    (omega (arith, ap (λ (ls : List Tables). left_of ls rows) (take-take i n levels le), left_front (take n levels) rows i)) reads

-- ---- what is merged meanwhile

pub record FillRun (tells : Type 0) (levels : List Tables) (rows : List ℕ) (hand : List (List TermList)) (later : List ℕ) (more : List (List TermList)) (old now : DiskState) : Type 0 where
  pub merged : (image : List ℕ) (newest : List TermList) (spans : List Span) (made : List TermList) → AreMergedTo tells image old.content newest spans levels rows hand made
      → AreMergedTo tells image now.content newest spans levels later more made
  pub spent : ℕ
  pub reads : Reads tells spent old now
  pub left : spent + left_of levels later ≤ left_of levels rows

pub fill_begins : (tells : Type 0) (levels : List Tables) (rows : List ℕ) (hand : List (List TermList)) (s : DiskState) → IsLawful tells s → FillRun tells levels rows hand rows hand s s
fill_begins tells levels rows hand s lawful = record { merged = λ image newest spans made m. m; spent = 0; reads = reads_none tells s lawful; left = omega arith }

module _ (tells : Type 0) (levels : List Tables) (rows : List ℕ) (hand : List (List TermList)) (later : List ℕ) (more : List (List TermList)) (old mid : DiskState)
    (h : FillRun tells levels rows hand later more old mid) where
  -- a level was filled
  pub fill_on : (now : DiskState) (rows_now : List ℕ) (hand_now : List (List TermList))
      → ((image : List ℕ) (newest : List TermList) (spans : List Span) (made : List TermList) → AreMergedTo tells image mid.content newest spans levels later more made
      → AreMergedTo tells image now.content newest spans levels rows_now hand_now made)
      → (n : ℕ) × Reads tells n mid now × (n + left_of levels rows_now ≤ left_of levels later) → FillRun tells levels rows hand rows_now hand_now old now
  fill_on now rows_now hand_now merged (n, reads, fewer) = record {
    merged = λ image newest spans made m. merged image newest spans made (h.merged image newest spans made m);
    spent = h.spent + n;
    reads = reads_then tells h.spent n (h.spent + n) old mid now refl h.reads reads;
    left = omega (arith, h.left, fewer);
  }

  -- the reads end here
  pub fill_cost : (now : DiskState) → Reads tells (left_of levels later) mid now → Reads tells (left_of levels rows) old now
  fill_cost now reads =
      reads_within tells (h.spent + left_of levels later) (left_of levels rows) old now h.left (reads_then tells h.spent (left_of levels later) (h.spent + left_of levels later) old mid now refl h.reads reads)

  pub fill_all : Reads tells (left_of levels rows) old mid
  fill_all = reads_within tells h.spent (left_of levels rows) old mid (omega (arith, h.left)) h.reads

-- ---- the next terms are merged

pub record MergeRun (tells : Type 0) (levels : List Tables) (spans : List Span) (rows : List ℕ) (hand : List (List TermList)) (made : List TermList) (later : List ℕ) (more : List (List TermList)) (now : List TermList)
    (old mid : DiskState) : Type 0 where
  pub merged : (image : List ℕ) (newest : List TermList) → AreMergedTo tells image old.content newest spans levels rows hand made → AreMergedTo tells image mid.content newest spans levels later more now
  pub spent : ℕ
  pub reads : Reads tells spent old mid
  pub left : spent + left_of levels later ≤ left_of levels rows

pub merge_starts : (tells : Type 0) (levels : List Tables) (spans : List Span) (rows : List ℕ) (hand : List (List TermList)) (made : List TermList) (s : DiskState) → IsLawful tells s
    → MergeRun tells levels spans rows hand made rows hand made s s
merge_starts tells levels spans rows hand made s lawful = record { merged = λ image newest m. m; spent = 0; reads = reads_none tells s lawful; left = omega arith }

module _ (tells : Type 0) (levels : List Tables) (spans : List Span) (rows : List ℕ) (hand : List (List TermList)) (made : List TermList) (later : List ℕ) (more : List (List TermList)) (now : List TermList)
    (old mid : DiskState) (h : MergeRun tells levels spans rows hand made later more now old mid) where
  pub merge_on : (end : DiskState) (rows_now : List ℕ) (hand_now : List (List TermList)) (made_now : List TermList)
      → ((image : List ℕ) (newest : List TermList) → AreMergedTo tells image mid.content newest spans levels later more now → AreMergedTo tells image end.content newest spans levels rows_now hand_now made_now)
      → (n : ℕ) × Reads tells n mid end × (n + left_of levels rows_now ≤ left_of levels later) → MergeRun tells levels spans rows hand made rows_now hand_now made_now old end
  merge_on end rows_now hand_now made_now merged (n, reads, fewer) = record {
    merged = λ image newest m. merged image newest (h.merged image newest m);
    spent = h.spent + n;
    reads = reads_then tells h.spent n (h.spent + n) old mid end refl h.reads reads;
    left = omega (arith, h.left, fewer);
  }

  pub merge_cost : (end : DiskState) → Reads tells (left_of levels later) mid end → Reads tells (left_of levels rows) old end
  merge_cost end reads =
      reads_within tells (h.spent + left_of levels later) (left_of levels rows) old end h.left (reads_then tells h.spent (left_of levels later) (h.spent + left_of levels later) old mid end refl h.reads reads)

  pub merge_all : Reads tells (left_of levels rows) old mid
  merge_all = reads_within tells h.spent (left_of levels rows) old mid (omega (arith, h.left)) h.reads

-- ---- a level and those before it

-- a window of a level was read, and then what is left of those before it
pub refill_cost : (tells : Type 0) (levels : List Tables) (rows : List ℕ) (i : ℕ) → length rows ≡ length levels → i < length levels → (old mid now : DiskState)
    → Reads tells (data_bytes (drop (get_or rows i 0) (level_at levels i).terms)) old mid → Reads tells (left_of (take i levels) rows) mid now → Reads tells (left_of levels rows) old now
refill_cost tells levels rows i many inside old mid now first second =
    let own = data_bytes (drop (get_or rows i 0) (level_at levels i).terms) in
    let front = left_of (take i levels) rows in
    reads_within tells (own + front) (left_of levels rows) old now (omega (arith, left_more levels rows i many inside, left_front levels rows (i + 1)))
    (reads_then tells own front (own + front) old mid now refl first second)

-- ---- what calls that read on promise

rose_on : (m n k : ℕ) → m ≤ n → Rose n k → Rose m k
rose_on m n k le rose = grind (arith, le, rose)

cause_goes : (X Y : Type 0) (e : LoadFault) (P : Type 0) → (◌≡◌ {A = Result X LoadFault} (Err e) (Err faults.Disk) → P) → ◌≡◌ {A = Result Y LoadFault} (Err e) (Err faults.Disk) → P
cause_goes X Y e P h is = let same : e ≡ faults.Disk = cc in h (ap (λ (f : LoadFault). Err f) same)

-- between two moments levels were read on
abbrev pub WentOn : Type 0 → List Tables → List ℕ → List ℕ → DiskState → DiskState → Type 0
WentOn tells levels rows later old mid = (n : ℕ) × Reads tells n old mid × (n + left_of levels later ≤ left_of levels rows)

module _ (tells : Type 0) (levels : List Tables) (rows later : List ℕ) (old mid : DiskState) (on : WentOn tells levels rows later old mid) where
  went_all : Reads tells (left_of levels rows) old mid
  went_all = let fewer = on.2 in reads_within tells on.0 (left_of levels rows) old mid (omega (arith, fewer)) on.1

  -- it is done
  pub reads_done : (X : Type 0) (x : X) → ReadsOn tells levels rows later old mid (Ok x)
  reads_done X x = record { cost = on; damage = λ told. tt; broken = λ told. tt; retrieves = record { reads = went_all; cause = λ is. cc } }

  -- memory is wanting
  pub reads_wanting : (X : Type 0) (last : List ℕ) → ReadsOn {X = X} tells levels rows last old mid (Err faults.Memory)
  reads_wanting X last = record {
    cost = tt;
    damage = λ told. record { undamaged = λ contents are. tt; first = tt; damaged = λ p damage. tt };
    broken = λ told. tt;
    retrieves = record { reads = went_all; cause = λ is. cc };
  }

  -- the next call fails
  pub reads_failed : (X Y : Type 0) (e : LoadFault) (last : List ℕ) (now : DiskState) → ReadsOn {X = X} tells levels later last mid now (Err e) → ReadsOn {X = Y} tells levels rows last old now (Err e)
  reads_failed X Y e last now h =
      let fewer = on.2 in
      let first = on.1 in
      record {
        cost = tt;
        damage = λ told. subst (λ (image : List ℕ). FindsDamage {X = Unit {0}} image levels (Err e)) (first.content told) (h.damage told);
        broken = λ told.
            fault_goes X Y e (IsBrokenAmong levels mid.content) (IsBrokenAmong levels old.content) (λ p broken. subst (λ (image : List ℕ). IsBrokenAmong levels image p) (first.content told) broken) (h.broken told);
        retrieves = record {
          reads = reads_within tells (on.0 + left_of levels later) (left_of levels rows) old now fewer
              (reads_then tells on.0 (left_of levels later) (on.0 + left_of levels later) old mid now refl first h.retrieves.reads);
          cause = λ is. rose_on old.faults mid.faults now.faults first.costs.faults (cause_goes X Y e (Rose mid.faults now.faults) h.retrieves.cause is);
        };
      }

pub went_none : (tells : Type 0) (levels : List Tables) (rows : List ℕ) (s : DiskState) → IsLawful tells s → WentOn tells levels rows rows s s
went_none tells levels rows s lawful = (0, reads_none tells s lawful, omega arith)

-- nothing was taken to hand
pub fills_none : (tells : Type 0) (levels : List Tables) (rows : List ℕ) (hand : List (List TermList)) (s : DiskState) → IsLawful tells s → Fills tells levels rows hand rows hand s s (Ok (tt {0}))
fills_none tells levels rows hand s lawful = record {
  merged = λ image newest spans made m. m;
  reads = reads_done tells levels rows rows s s (went_none tells levels rows s lawful) (Unit {0}) tt;
}
