-- What an append to the journal leaves.
use Rattle.std.proofs.Common.{◌≡◌, ◌⊎◌, ⊎_elim, inl, inr, ℕ, ◌+◌, Bool, true, cond, List, [], ◌∷◌, ◌++◌, length, refl, sym, ap, subst, ◌∙◌, arith, Result, Ok, Err}
use Rattle.std.specs.List.{All}
use Rattle.std.proofs.lemmas.List.Elements.{All-head, All-tail}
use Rattle.alta_layout.specs.Places.{half_start}
use Rattle.alta_disk.specs.Parts.{Touches}
use Rattle.alta_journal.specs.Journal.{EndsAt, Appended, Appends}
use Rattle.alta_journal.specs.Placed.{placed}
use Rattle.alta_journal.specs.Places.{left_behind}
use Rattle.alta_journal.specs.Record.{record_of}
use Rattle.alta_journal.specs.declared.entry.Entry.{Entry}
use Rattle.alta_journal.proofs.Frames.{appends_touch}
use Rattle.alta_machine.specs.declared.document.State.{State}
use Rattle.alta_root.specs.Root.{extents_of, IsSound}
use Rattle.alta_root.proofs.Frames.{counts_sound}
use Rattle.alta_meaning.specs.Entries.{after_entry}
use Rattle.alta_meaning.specs.Levels.{Level}
use Rattle.alta_meaning.specs.Views.{state_of, rooted}
use Rattle.alta_meaning.proofs.Entering.{after_more}
use Rattle.alta_meaning.proofs.Tests.{by_test}
use Rattle.alta_meaning.specs.Known.{Known, admits, known_behind, replayed}
use Rattle.alta_meaning.specs.Opened.{Opened, IsNamed, IsOpened, known_at}
use Rattle.alta_meaning.specs.Standing.{AreLevels, StandsFor, view_of}
use Rattle.alta_meaning.specs.Switching.{SparesSlots, with_entry, MayAppend}
use Rattle.alta_meaning.proofs.SwitchLaws.{journal_within, extents_clear}
use Rattle.alta_meaning.proofs.Untouched.{IsSame, counts_on, deleted_same, extents_same, levels_same, segments_on}

-- ---- entries behind entries

not_both : (place : ℕ) (known : Known) → ◌≡◌ {A = Result Known ℕ} (Err place) (Ok known) → ⊥
not_both place known e = absurd cc

one_known : (a b : Known) → ◌≡◌ {A = Result Known ℕ} (Ok a) (Ok b) → a ≡ b
one_known a b e = cc

-- a replay is that of the first entry, if it is admitted, and of those behind it
abbrev behind_first : Known → ℕ → Entry → List Entry → Bool → Result Known ℕ
behind_first k place first entries b = cond b (replayed (known_behind k first) (placed (place + length (record_of first)) entries)) (Err (place + 5))

placed_more : (place : ℕ) (entries : List Entry) (entry : Entry) (known k : Known) → replayed k (placed place entries) ≡ Ok known → admits known entry ≡ true
    → replayed k (placed place (entries ++ entry ∷ [])) ≡ Ok (known_behind known entry)
placed_more place [] entry known k e admitted =
    subst (λ (x : Known). replayed x (placed place (entry ∷ [])) ≡ Ok (known_behind known entry)) (sym (one_known k known e)) (rw admitted refl)
placed_more place (first ∷ entries) entry known k e admitted =
    by_test (admits k first)
    (λ here. ap (behind_first k place first (entries ++ entry ∷ [])) here
    ∙ placed_more (place + length (record_of first)) entries entry known (known_behind k first) (sym (ap (behind_first k place first entries) here) ∙ e) admitted)
    (λ never. absurd (not_both (place + 5) known (sym (ap (behind_first k place first entries) never) ∙ e)))

-- ---- what an append spares

module _ (o : Opened) (entry : Entry) (old new : List ℕ) (sound : IsSound (length old) o.root) (named : IsNamed o old) (may : MayAppend entry o named.known) (touches : Touches ((o.tail, 1 + left_behind (half_start o.slot) o.tail) ∷ []) old new) where
  slots_spared : SparesSlots ((o.tail, 1 + left_behind (half_start o.slot) o.tail) ∷ [])
  slots_spared = let half = journal_within o.slot in (inl (omega (arith, half.0, named.journal.starts)), tt)

  same : All (IsSame old new) (extents_of o.root)
  same =
      let half = journal_within o.slot in
      extents_same ((o.tail, 1 + left_behind (half_start o.slot) o.tail) ∷ []) old new (extents_of o.root) touches
      (extents_clear o.tail (1 + left_behind (half_start o.slot) o.tail) (length old) o.root (omega (arith, half.1, may.fits)) sound)

  -- the entry is one more
  named_more : EndsAt o.root.version (half_start o.slot) (o.tail + length (record_of entry)) (o.entries ++ entry ∷ []) new → IsNamed (with_entry o entry) new
  named_more ends = record {
    list = deleted_same o.root old new (All-head (IsSame old new) o.root.deletions o.root.levels.items same) ∙ named.list;
    tables = levels_same o.root o.deleted [] o.root.levels.items old new (All-tail (IsSame old new) o.root.deletions o.root.levels.items same) ∙ named.tables;
    ends = named.ends;
    journal = ends;
    known = known_behind named.known entry;
    admitted = placed_more (half_start o.slot) o.entries entry named.known (known_at o.root o.deleted o.levels) named.admitted may.admitted;
  }

  -- or it is not there yet
  named_still : EndsAt o.root.version (half_start o.slot) o.tail o.entries new → IsNamed o new
  named_still ends = record {
    list = deleted_same o.root old new (All-head (IsSame old new) o.root.deletions o.root.levels.items same) ∙ named.list;
    tables = levels_same o.root o.deleted [] o.root.levels.items old new (All-tail (IsSame old new) o.root.deletions o.root.levels.items same) ∙ named.tables;
    ends = named.ends;
    journal = ends;
    known = named.known;
    admitted = named.admitted;
  }

  are_still : (levels : List Level) → AreLevels o levels old → AreLevels o levels new
  are_still levels are = record {
    extents = are.extents;
    tables = are.tables;
    segments = segments_on levels old new (subst (All (IsSame old new)) are.extents (All-tail (IsSame old new) o.root.deletions o.root.levels.items same)) are.segments;
  }

  pub are_more : (levels : List Level) → AreLevels o levels old → AreLevels (with_entry o entry) levels new
  are_more levels are = let still = are_still levels are in record { extents = still.extents; tables = still.tables; segments = still.segments }

-- while an entry is appended, an image is opened as before or with the entry
pub opened_appending : (o : Opened) (entry : Entry) (old new : List ℕ) (opened : IsOpened o old) → MayAppend entry o opened.named.known → Appends o.root.version (half_start o.slot) o.tail entry old new → IsOpened o new ⊎ IsOpened (with_entry o entry) new
opened_appending o entry old new opened may appends =
    let sound = counts_sound o.slot o.root old opened.counts in
    let touches = appends_touch o.root.version (half_start o.slot) o.tail entry old new appends in
    let counts = counts_on o.slot o.root ((o.tail, 1 + left_behind (half_start o.slot) o.tail) ∷ []) old new opened.counts touches (slots_spared o entry old new sound opened.named may touches) in
    ⊎_elim (λ still. inl (record { counts = counts; named = named_still o entry old new sound opened.named may touches still }))
    (λ more. inr (record { counts = counts; named = named_more o entry old new sound opened.named may touches more })) (appends.entries o.entries opened.named.journal)

-- and once it is appended, with the entry
pub opened_appended : (o : Opened) (entry : Entry) (old new : List ℕ) (opened : IsOpened o old) → MayAppend entry o opened.named.known → Appends o.root.version (half_start o.slot) o.tail entry old new → Appended o.root.version (half_start o.slot) o.tail entry old new
    → IsOpened (with_entry o entry) new
opened_appended o entry old new opened may appends appended =
    let sound = counts_sound o.slot o.root old opened.counts in
    let touches = appends_touch o.root.version (half_start o.slot) o.tail entry old new appends in
    record {
      counts = counts_on o.slot o.root ((o.tail, 1 + left_behind (half_start o.slot) o.tail) ∷ []) old new opened.counts touches (slots_spared o entry old new sound opened.named may touches);
      named = named_more o entry old new sound opened.named may touches (appended o.entries opened.named.journal);
    }

state_more : (s : State) (o : Opened) (entry : Entry) (levels : List Level) → state_of (view_of o levels) ≡ s → state_of (view_of (with_entry o entry) levels) ≡ after_entry s entry
state_more s o entry levels is = after_more (rooted (view_of o levels)) o.entries entry ∙ ap (λ (t : State). after_entry t entry) is

-- The same of states. Which entry is admitted is asked over what opening found.
stands_more : (s : State) (entry : Entry) (old new : List ℕ) (stands : StandsFor s old) → MayAppend entry stands.opened stands.means.named.known → Touches ((stands.opened.tail, 1 + left_behind (half_start stands.opened.slot) stands.opened.tail) ∷ []) old new
    → EndsAt stands.opened.root.version (half_start stands.opened.slot) (stands.opened.tail + length (record_of entry)) (stands.opened.entries ++ entry ∷ []) new → StandsFor (after_entry s entry) new
stands_more s entry old new stands may touches more =
    let o = stands.opened in
    let named = stands.means.named in
    let sound = counts_sound o.slot o.root old stands.counts in
    record {
      opened = with_entry o entry;
      counts = counts_on o.slot o.root ((o.tail, 1 + left_behind (half_start o.slot) o.tail) ∷ []) old new stands.counts touches (slots_spared o entry old new sound named may touches);
      means = record {
        named = named_more o entry old new sound named may touches more;
        levels = stands.means.levels;
        are = are_more o entry old new sound named may touches stands.means.levels stands.means.are;
        state_is = state_more s o entry stands.means.levels stands.means.state_is;
      };
    }

pub stands_appending : (s : State) (entry : Entry) (old new : List ℕ) (stands : StandsFor s old) → MayAppend entry stands.opened stands.means.named.known → Appends stands.opened.root.version (half_start stands.opened.slot) stands.opened.tail entry old new
    → StandsFor s new ⊎ StandsFor (after_entry s entry) new
stands_appending s entry old new stands may appends =
    let o = stands.opened in
    let named = stands.means.named in
    let sound = counts_sound o.slot o.root old stands.counts in
    let touches = appends_touch o.root.version (half_start o.slot) o.tail entry old new appends in
    ⊎_elim
    (λ still. inl (record {
      opened = o;
      counts = counts_on o.slot o.root ((o.tail, 1 + left_behind (half_start o.slot) o.tail) ∷ []) old new stands.counts touches (slots_spared o entry old new sound named may touches);
      means = record {
        named = named_still o entry old new sound named may touches still;
        levels = stands.means.levels;
        are = are_still o entry old new sound named may touches stands.means.levels stands.means.are;
        state_is = stands.means.state_is;
      };
    }))
    (λ more. inr (stands_more s entry old new stands may touches more)) (appends.entries o.entries named.journal)

pub stands_appended : (s : State) (entry : Entry) (old new : List ℕ) (stands : StandsFor s old) → MayAppend entry stands.opened stands.means.named.known → Appends stands.opened.root.version (half_start stands.opened.slot) stands.opened.tail entry old new
    → Appended stands.opened.root.version (half_start stands.opened.slot) stands.opened.tail entry old new → StandsFor (after_entry s entry) new
stands_appended s entry old new stands may appends appended =
    let o = stands.opened in
    stands_more s entry old new stands may (appends_touch o.root.version (half_start o.slot) o.tail entry old new appends) (appended o.entries stands.means.named.journal)
