-- What leaves an image opened as it is, and its state.
use Rattle.std.proofs.Common.{◌≡◌, ⊎_elim, inl, inr, ℕ, ◌+◌, ◌≤◌, List, [], ◌∷◌, map, refl, sym, ap, subst, ◌∙◌, arith, Result, Ok, Err}
use Rattle.std.specs.List.{All}
use Rattle.std.proofs.lemmas.List.Elements.{All-nil, All-cons, All-head, All-tail}
use Rattle.alta_layout.specs.declared.places.TheConstants.{SLOTS_BYTES}
use Rattle.alta_layout.specs.Places.{half_start}
use Rattle.alta_layout.specs.declared.slot.Slot.{Slot}
use Rattle.alta_codec.specs.declared.extent.Extent.{Extent}
use Rattle.alta_disk.specs.Parts.{Apart, Clear, Touches}
use Rattle.alta_disk.proofs.PartLaws.{apart_inside}
use Rattle.alta_journal.proofs.Frames.{ends_untouched}
use Rattle.alta_level.specs.Segments.{IsSegment}
use Rattle.alta_machine.specs.declared.document.State.{State}
use Rattle.alta_postings.specs.Deltas.{first_fault}
use Rattle.alta_root.specs.Root.{extents_of}
use Rattle.alta_root.specs.Slots.{Counts}
use Rattle.alta_root.specs.declared.root.Root.{Root}
use Rattle.alta_root.proofs.Frames.{counts_untouched}
use Rattle.alta_meaning.specs.Levels.{Level}
use Rattle.alta_table.specs.Tables.{Tables, tables_of}
use Rattle.alta_meaning.specs.Chain.{◌>>=◌}
use Rattle.alta_meaning.specs.Opened.{Opened, IsNamed, IsOpened, bytes_at, list_at, deleted_in, tables_at, with_level, levels_from}
use Rattle.alta_meaning.specs.Standing.{Means, StandsFor}
use Rattle.alta_meaning.specs.Switching.{Spares, SparesSlots}

-- ranges that meet nothing of a wide part meet nothing of one inside it
pub clear_inside : (wide_at wide at n : ℕ) (ranges : List (ℕ × ℕ)) → wide_at ≤ at → at + n ≤ wide_at + wide → Clear wide_at wide ranges → Clear at n ranges
clear_inside wide_at wide at n [] from to clear = tt
clear_inside wide_at wide at n (range ∷ ranges) from to clear =
    (swapped range.0 range.1 at n (apart_inside range.0 range.1 at n wide_at wide from to (swapped wide_at wide range.0 range.1 clear.0)), clear_inside wide_at wide at n ranges from to clear.1)
  where
    swapped : (a m b k : ℕ) → Apart a m b k → Apart b k a m
    swapped a m b k apart = ⊎_elim (λ before. inr before) (λ behind. inl behind) apart

slots_clear : (ranges : List (ℕ × ℕ)) → SparesSlots ranges → (a m : ℕ) → a + m ≤ SLOTS_BYTES → Clear a m ranges
slots_clear ranges spares a m below = clear_inside 0 SLOTS_BYTES a m ranges (omega arith) (omega (arith, below)) spares

-- a root counts on where no slot is touched
pub counts_on : (slot : Slot) (root : Root) (ranges : List (ℕ × ℕ)) (old new : List ℕ) → Counts slot root old → Touches ranges old new → SparesSlots ranges → Counts slot root new
counts_on slot root ranges old new counts touches spares = counts_untouched slot root ranges old new counts touches (slots_clear ranges spares)

-- ---- extents

-- the bytes of the extent are the same in both
abbrev pub IsSame : List ℕ → List ℕ → Extent → Type 0
IsSame old new extent = bytes_at extent new ≡ bytes_at extent old

pub extents_same : (ranges : List (ℕ × ℕ)) (old new : List ℕ) (extents : List Extent) → Touches ranges old new → All (λ (e : Extent). Clear e.place e.bytes ranges) extents → All (IsSame old new) extents
extents_same ranges old new [] touches clear = All-nil (IsSame old new)
extents_same ranges old new (e ∷ es) touches clear =
    All-cons (IsSame old new) e es (touches.parts e.place e.bytes (All-head (λ (e : Extent). Clear e.place e.bytes ranges) e es clear))
    (extents_same ranges old new es touches (All-tail (λ (e : Extent). Clear e.place e.bytes ranges) e es clear))

pub deleted_same : (root : Root) (old new : List ℕ) → IsSame old new root.deletions → deleted_in root new ≡ deleted_in root old
unfolding deleted_in
deleted_same root old new same = ap (λ (bytes : List ℕ). list_at root.deletions.place bytes (first_fault bytes)) same

tables_same : (extent : Extent) (old new : List ℕ) → IsSame old new extent → tables_at extent new ≡ tables_at extent old
unfolding tables_at
tables_same extent old new same = ap (λ (bytes : List ℕ). tables_of bytes extent.place extent.bytes) same

level_same : (root : Root) (deleted : List ℕ) (levels : List Tables) (extent : Extent) (old new : List ℕ) → IsSame old new extent → with_level root deleted levels extent new ≡ with_level root deleted levels extent old
level_same root deleted levels extent old new same = rw (tables_same extent old new same) refl

step_same : {A B E : Type 0} (r : Result A E) (f g : A → Result B E) → ((x : A) → f x ≡ g x) → (r >>= f) ≡ (r >>= g)
step_same (Ok x) f g same = same x
step_same (Err e) f g same = refl

pub levels_same : (root : Root) (deleted : List ℕ) (levels : List Tables) (extents : List Extent) (old new : List ℕ) → All (IsSame old new) extents → levels_from root deleted levels extents new ≡ levels_from root deleted levels extents old
levels_same root deleted levels [] old new same = refl
levels_same root deleted levels (e ∷ es) old new same =
    ap (λ (r : Result (List Tables) ℕ). r >>= λ longer. levels_from root deleted longer es new) (level_same root deleted levels e old new (All-head (IsSame old new) e es same))
    ∙ step_same (with_level root deleted levels e old) (λ longer. levels_from root deleted longer es new) (λ longer. levels_from root deleted longer es old)
    (λ longer. levels_same root deleted longer es old new (All-tail (IsSame old new) e es same))

-- ---- what a root names

-- what a root names stays where nothing of it is touched
pub named_on : (ranges : List (ℕ × ℕ)) (o : Opened) (old new : List ℕ) → IsNamed o old → Touches ranges old new → Spares ranges o.slot o.root → IsNamed o new
named_on ranges o old new named touches spares =
    let same : All (IsSame old new) (extents_of o.root) = extents_same ranges old new (extents_of o.root) touches spares.extents in
    record {
      list = deleted_same o.root old new (All-head (IsSame old new) o.root.deletions o.root.levels.items same) ∙ named.list;
      tables = levels_same o.root o.deleted [] o.root.levels.items old new (All-tail (IsSame old new) o.root.deletions o.root.levels.items same) ∙ named.tables;
      ends = named.ends;
      journal = ends_untouched o.root.version (half_start o.slot) o.tail o.entries ranges old new named.journal touches spares.half;
      known = named.known;
      admitted = named.admitted;
    }

abbrev IsStored : List ℕ → Level → Type 0
IsStored image l = IsSegment (bytes_at l.extent image) l.content

pub segments_on : (levels : List Level) (old new : List ℕ) → All (IsSame old new) (map (λ (l : Level). l.extent) levels) → All (IsStored old) levels → All (IsStored new) levels
segments_on [] old new same segments = All-nil (IsStored new)
segments_on (l ∷ ls) old new same segments =
    All-cons (IsStored new) l ls
    (subst (λ (bytes : List ℕ). IsSegment bytes l.content) (sym (All-head (IsSame old new) l.extent (map (λ (l : Level). l.extent) ls) same)) (All-head (IsStored old) l ls segments))
    (segments_on ls old new (All-tail (IsSame old new) l.extent (map (λ (l : Level). l.extent) ls) same) (All-tail (IsStored old) l ls segments))

-- and so does what it means
pub means_on : (ranges : List (ℕ × ℕ)) (s : State) (o : Opened) (old new : List ℕ) → Means s o old → Touches ranges old new → Spares ranges o.slot o.root → Means s o new
means_on ranges s o old new means touches spares = record {
  named = named_on ranges o old new means.named touches spares;
  levels = means.levels;
  are = record {
    extents = means.are.extents;
    tables = means.are.tables;
    segments = segments_on means.levels old new
        (subst (All (IsSame old new)) means.are.extents (All-tail (IsSame old new) o.root.deletions o.root.levels.items (extents_same ranges old new (extents_of o.root) touches spares.extents)))
        means.are.segments;
  };
  state_is = means.state_is;
}

-- ---- the whole image

pub opened_on : (ranges : List (ℕ × ℕ)) (o : Opened) (old new : List ℕ) → IsOpened o old → Touches ranges old new → SparesSlots ranges → Spares ranges o.slot o.root → IsOpened o new
opened_on ranges o old new opened touches slots spares = record {
  counts = counts_on o.slot o.root ranges old new opened.counts touches slots;
  named = named_on ranges o old new opened.named touches spares;
}

pub stands_on : (ranges : List (ℕ × ℕ)) (s : State) (old new : List ℕ) (stands : StandsFor s old) → Touches ranges old new → SparesSlots ranges → Spares ranges stands.opened.slot stands.opened.root → StandsFor s new
stands_on ranges s old new stands touches slots spares = record {
  opened = stands.opened;
  counts = counts_on stands.opened.slot stands.opened.root ranges old new stands.counts touches slots;
  means = means_on ranges s stands.opened old new stands.means touches spares;
}
