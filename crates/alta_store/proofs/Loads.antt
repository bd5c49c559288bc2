-- What was loaded from a disk is what its content says.
use Rattle.std.proofs.Common.{◌≡◌, ◌⊎◌, inl, inr, ⊎_elim, ℕ, suc, zero, ◌+◌, ◌-◌, ◌<◌, ◌≤◌, true, List, [], ◌∷◌, length, map, get_or, refl, sym, ◌∙◌, ap, subst, arith, length-append}
use Rattle.std.specs.Prelude.{Result, Ok, Err, IfOk, IfErr, OnOk}
use Rattle.std.specs.List.{All, flat_map}
use Rattle.std.proofs.lemmas.List.{length-take-le}
use Rattle.std.proofs.lemmas.Result.{IfOk-at_ok, IfErr-at_err}
use Rattle.alta_layout.specs.declared.places.TheConstants.{HALF_BYTES, HEAD_BYTES}
use Rattle.alta_layout.specs.Places.{half_start}
use Rattle.alta_layout.specs.declared.slot.Slot.{Slot}
use Rattle.alta_catalog.specs.Rows.{MayStart}
use Rattle.alta_catalog.specs.declared.catalog.Catalog.{Catalog}
use Rattle.alta_catalog.specs.declared.fault.CatalogFault.{CatalogFault}
use Rattle.alta_catalog.specs.declared.fault.CatalogFault.TheVariants.{Memory as CatalogMemory, Damaged as CatalogDamaged}
use Rattle.alta_catalog.proofs.MayLaws.{may_start}
use Rattle.alta_disk.specs.Disk.{DiskState, IsLawful, Only, Passes, Same}
use Rattle.alta_meaning.specs.Broken.{HasLevels, IsBrokenAt, in_records, in_entries}
use Rattle.alta_meaning.specs.Entries.{AllowsAll, after_entries, entries_in, IsRefusedAt}
use Rattle.alta_meaning.specs.Known.{Known, known_of, replayed}
use Rattle.alta_meaning.specs.Opened.{Opened, IsOpened, have_ends, known_at, extent_of}
use Rattle.alta_meaning.proofs.KnownLaws.{replayed_allows}
use Rattle.alta_meaning.proofs.OneReading.{one_place, opened_unbroken, opened_rooted, broken_rooted}
use Rattle.alta_journal.specs.Journal.{HasBrokenHalf}
use Rattle.alta_journal.specs.Placed.{placed, IsReplay}
use Rattle.alta_journal.specs.Places.{half_at}
use Rattle.alta_journal.specs.Record.{record_of}
use Rattle.alta_journal.specs.declared.entry.Entry.{Entry}
use Rattle.alta_journal.specs.declared.placed.Placed.{Placed}
use Rattle.alta_disk.specs.declared.fault.LoadFault.{LoadFault}
use Rattle.alta_disk.specs.declared.fault.LoadFault.TheVariants.{Disk as JournalDisk, Memory as JournalMemory, Damaged as JournalDamaged, Disk as LevelsDisk, Memory as LevelsMemory, Damaged as LevelsDamaged}
use Rattle.alta_journal.proofs.Frames.{ends_inside}
use Rattle.alta_machine.specs.declared.document.State.{State}
use Rattle.alta_root.specs.Slots.{HasNoRoot, Counts}
use Rattle.alta_root.specs.declared.fault.RootFault.{RootFault}
use Rattle.alta_root.specs.declared.fault.RootFault.TheVariants.{Disk as RootDisk, NoRoot as RootNone, Damaged as RootDamaged}
use Rattle.alta_root.specs.declared.root.Root.{Root}
use Rattle.alta_catalog.specs.Knowing.{Follows, KnowsBy}
use Rattle.alta_store.specs.Agreement.{KeepsOpened, levels_of}
use Rattle.alta_store.specs.Answers.{IsOutside, AnswersFault, of_catalog, of_load, of_root}
use Rattle.alta_store.specs.declared.fault.StoreFault.{StoreFault}
use Rattle.alta_store.specs.declared.fault.StoreFault.TheVariants.{NoRoot, Damaged, Disk}
use Rattle.alta_store.specs.declared.store.Store.{Store}
use Rattle.alta_store.proofs.Room.{journal_fits}
use Rattle.alta_store.proofs.Speaking.{start_known}
use Rattle.alta_table.specs.Tables.{Tables}
use Rattle.alta_catalog.proofs.KnownLaws.{refused_is}
use Rattle.alta_codec.specs.Faults.{Rose}
use Rattle.alta_opening.specs.Costs.{named_bytes}
use Rattle.alta_store.specs.Opening.{Opens}

-- the entries of placed ones
entries_in-placed : (place : ℕ) (entries : List Entry) → entries_in (placed place entries) ≡ entries
entries_in-placed place [] = refl
entries_in-placed place (entry ∷ entries) = ap (λ (es : List Entry). entry ∷ es) (entries_in-placed (place + length (record_of entry)) entries)

-- places rise from the first, by the bytes of the records
placed_below : (place limit : ℕ) (entries : List Entry) → place + length (flat_map record_of entries) ≤ limit → (k : ℕ) (d : Placed) → k < length (placed place entries) → (λ (p : Placed). p.place ≤ limit) (get_or (placed place entries) k d)
placed_below place limit [] fits k d inside = absurd (omega (arith, inside))
placed_below place limit (entry ∷ entries) fits zero d inside = omega (arith, fits)
placed_below place limit (entry ∷ entries) fits (suc k) d inside =
    placed_below (place + length (record_of entry)) limit entries (omega (arith, fits, length-append (record_of entry) (flat_map record_of entries))) k d (omega (arith, inside))

pub small_places : (version : ℕ) (slot : Slot) (found : List Placed) (tail : ℕ) (content : List ℕ) → IsReplay version (half_start slot) found tail content → All (λ p. p.place < 4294967296) found
small_places version slot found tail content (entries, is, ends) =
    let start = half_start slot in
    let far = journal_fits slot in
    let inside = ends_inside version start tail entries content far ends in
    let bytes : length (flat_map record_of entries) ≤ HALF_BYTES =
    omega (arith, ap length ends.begins.records, length-take-le (tail - start) (half_at start content) (omega (arith, ends.begins.gate)), inside, ends.starts) in
    subst (λ (xs : List Placed). All (λ p. p.place < 4294967296) xs) (sym is)
    (λ k d within. omega (arith, far, placed_below start (start + HALF_BYTES) entries (omega (arith, bytes)) k d within))

-- a catalog stands at each state behind entries from one that a root may speak of
abbrev pub KnowsAll : Catalog → Root → List Tables → List Placed → List ℕ → Type 0
KnowsAll catalog root levels found deleted = (s : State) → (may : MayStart s root deleted levels) → AllowsAll s (entries_in found) × KnowsBy catalog may.olds (after_entries s (entries_in found))

-- ---- behind a root that counts, and levels that are fine

module _ (content : List ℕ) (slot : Slot) (root : Root) (deleted : List ℕ) (levels : List Tables) (has : HasLevels slot root deleted levels content) (ends_there : have_ends levels deleted ≡ true) where
  -- what is opened with these entries
  abbrev opened_with : List Entry → ℕ → Opened
  opened_with entries tail = record { slot = slot; root = root; deleted = deleted; levels = levels; entries = entries; tail = tail }

  -- what is known at the root is that of a state that it may speak of
  replays : (s : State) → MayStart s root deleted levels → (found : List Placed) (r : Result Known ℕ) → replayed (known_of s) found ≡ r → replayed (known_at root deleted levels) found ≡ r
  replays s starts found r is = ap (λ (k : Known). replayed k found) (sym (start_known root deleted levels s starts)) ∙ is

  pub loads : (store : Store) (found : List Placed) → store.slot ≡ slot → store.root ≡ root → store.listed.items ≡ deleted → Follows store.catalog root (entries_in found) → store.tail.slot ≡ slot → levels_of store ≡ levels → map extent_of levels ≡ root.levels.items → IsReplay root.version (half_start slot) found store.tail.place content
      → KnowsAll store.catalog root levels found deleted → KeepsOpened store content
  loads store found slot_is root_is listed follows half levels_are extents (entries, is, ends) applied =
      let same : entries_in found ≡ entries = ap entries_in is ∙ entries_in-placed (half_start slot) entries in
      let some = may_start root deleted levels in
      record {
        opened = opened_with entries store.tail.place;
        is = record {
          counts = has.counts;
          named = record {
            list = has.list;
            tables = has.tables;
            ends = ends_there;
            journal = ends;
            known = known_of (after_entries some.0 entries);
            admitted = replays some.0 some.1 (placed (half_start slot) entries) (Ok (known_of (after_entries some.0 entries)))
                (replayed_allows some.0 (half_start slot) entries (subst (AllowsAll some.0) same (applied some.0 some.1).0));
          };
        };
        keeps = record {
          slot = slot_is;
          root = root_is;
          listed = listed;
          follows = subst (Follows store.catalog root) same follows;
          half = half;
          place = refl;
          levels = levels_are;
          extents = extents;
          knows = λ s may. subst (KnowsBy store.catalog may.starts.olds) (ap (after_entries may.start) same ∙ sym may.state_is) (applied may.start may.starts).1;
        };
      }

  pub damaged_record : (place : ℕ) → HasBrokenHalf root.version (half_start slot) place content → IsBrokenAt content place
  damaged_record place broken = in_records slot root deleted levels place has ends_there broken

  pub refused_entry : (found : List Placed) (place tail : ℕ) → IsReplay root.version (half_start slot) found tail content → (s : State) → MayStart s root deleted levels → IsRefusedAt s found place → IsBrokenAt content place
  refused_entry found place tail (entries, is, ends) s starts refused =
      in_entries slot root deleted levels entries tail place has ends_there ends
      (replays s starts (placed (half_start slot) entries) (Err place) (subst (λ (ps : List Placed). replayed (known_of s) ps ≡ Err place) is (refused_is s found place refused)))

is_damaged : LoadFault → StoreFault → Type 0
is_damaged f (Damaged place) = f ≡ JournalDamaged place
is_damaged f other = Unit {0}

damaged_as : (f : LoadFault) → is_damaged f (of_load f)
unfolding is_damaged
damaged_as JournalDisk = tt
damaged_as JournalMemory = tt
damaged_as (JournalDamaged place) = refl

-- only a damaged journal is answered as damage
pub of_damaged : (f : LoadFault) (place : ℕ) → of_load f ≡ Damaged place → f ≡ JournalDamaged place
unfolding is_damaged
of_damaged f place e = subst (is_damaged f) e (damaged_as f)

is_root_damaged : RootFault → StoreFault → Type 0
is_root_damaged f (Damaged place) = f ≡ RootDamaged place
is_root_damaged f other = Unit {0}

root_damaged_as : (f : RootFault) → is_root_damaged f (of_root f)
unfolding is_root_damaged
root_damaged_as RootDisk = tt
root_damaged_as RootNone = tt
root_damaged_as (RootDamaged place) = refl

-- only damaged slots are answered as damage
pub of_root_damaged : (f : RootFault) (place : ℕ) → of_root f ≡ Damaged place → f ≡ RootDamaged place
unfolding is_root_damaged
of_root_damaged f place e = subst (is_root_damaged f) e (root_damaged_as f)

is_levels_damaged : LoadFault → StoreFault → Type 0
is_levels_damaged f (Damaged place) = f ≡ LevelsDamaged place
is_levels_damaged f other = Unit {0}

levels_damaged_as : (f : LoadFault) → is_levels_damaged f (of_load f)
unfolding is_levels_damaged
levels_damaged_as LevelsDisk = tt
levels_damaged_as LevelsMemory = tt
levels_damaged_as (LevelsDamaged place) = refl

-- only damaged levels are answered as damage
pub of_levels_damaged : (f : LoadFault) (place : ℕ) → of_load f ≡ Damaged place → f ≡ LevelsDamaged place
unfolding is_levels_damaged
of_levels_damaged f place e = subst (is_levels_damaged f) e (levels_damaged_as f)

is_catalog_damaged : CatalogFault → StoreFault → Type 0
is_catalog_damaged f (Damaged place) = f ≡ CatalogDamaged place
is_catalog_damaged f other = Unit {0}

catalog_damaged_as : (f : CatalogFault) → is_catalog_damaged f (of_catalog f)
unfolding is_catalog_damaged
catalog_damaged_as CatalogMemory = tt
catalog_damaged_as (CatalogDamaged place) = refl

-- only damaged entries are answered as damage
pub of_catalog_damaged : (f : CatalogFault) (place : ℕ) → of_catalog f ≡ Damaged place → f ≡ CatalogDamaged place
unfolding is_catalog_damaged
of_catalog_damaged f place e = subst (is_catalog_damaged f) e (catalog_damaged_as f)

fault_in : {T : Type 0} → CatalogFault → Result T CatalogFault → CatalogFault
fault_in d (Ok x) = d
fault_in d (Err e) = e

pub same_catalog : {T : Type 0} (a b : CatalogFault) → ◌≡◌ {A = Result T CatalogFault} (Err a) (Err b) → a ≡ b
unfolding fault_in
same_catalog a b e = ap (fault_in a) e

error_in : {T : Type 0} → StoreFault → Result T StoreFault → StoreFault
error_in d (Ok x) = d
error_in d (Err e) = e

pub same_error : {T : Type 0} (a b : StoreFault) → ◌≡◌ {A = Result T StoreFault} (Err a) (Err b) → a ≡ b
unfolding error_in
same_error a b e = ap (error_in a) e

-- what holds of each value that comes holds where one comes
pub if_ok : {T : Type 0} (r : Result T StoreFault) (P : T → Type 0) → ((x : T) → r ≡ Ok x → P x) → IfOk r P
if_ok (Ok x) P all = all x refl
if_ok (Err e) P all = tt

pub if_err : {T : Type 0} (r : Result T StoreFault) (P : StoreFault → Type 0) → ((e : StoreFault) → r ≡ Err e → P e) → IfErr r P
if_err (Ok x) P all = tt
if_err (Err e) P all = all e refl

-- after a sync the content is the only image
pub only_synced : (tells : Type 0) (a b : DiskState) → IsLawful tells b → Only a.content b.images → (tells → b.content ≡ a.content) → Only b.content b.images
only_synced tells a b lawful only same = λ c here. only c here ∙ sym (same (lawful.told c here))

module _ (tells : Type 0) (content : List ℕ) (r : Result Store StoreFault)
    (loaded : IfOk r (λ store. tells → KeepsOpened store content))
    (no_root : tells → r ≡ Err NoRoot → HasNoRoot content)
    (damaged : tells → (place : ℕ) → r ≡ Err (Damaged place) → IsBrokenAt content place)
    (only : IfErr r (λ e. IsOutside e ⊎ ((e ≡ NoRoot) ⊎ ((place : ℕ) × (e ≡ Damaged place))))) where
  -- what a store goes on with that came of it
  pub held : (store : Store) → r ≡ Ok store → tells → KeepsOpened store content
  held store e told = IfOk-at_ok (λ store. tells → KeepsOpened store content) e loaded told

  by_error : (e : StoreFault) → r ≡ Err e → IsOutside e ⊎ ((e ≡ NoRoot) ⊎ ((place : ℕ) × (e ≡ Damaged place)))
  by_error e is = IfErr-at_err (λ e. IsOutside e ⊎ ((e ≡ NoRoot) ⊎ ((place : ℕ) × (e ≡ Damaged place)))) is only

  -- content that is opened is opened here, or a call failed, or memory was wanting
  pub outside : (o : Opened) → tells → IsOpened o content → IfErr r IsOutside
  outside o told opened = if_err r IsOutside (λ e is. ⊎_elim (λ out. out)
      (λ more. ⊎_elim (λ none. absurd (opened_rooted content o opened (no_root told (is ∙ ap Err none))))
      (λ (place, at). absurd (opened_unbroken content o place opened (damaged told place (is ∙ ap Err at)))) more) (by_error e is))

  answers : (e : StoreFault) → IsOutside e → r ≡ Err e → (want : StoreFault) → AnswersFault r want
  answers e out is want = ⊎_elim (λ memory. inr (inl (is ∙ ap Err memory))) (λ disk. inr (inr (is ∙ ap Err disk))) out

  -- no index is answered so
  pub rooted : tells → HasNoRoot content → AnswersFault r NoRoot
  rooted told none = cases r refl
    where
      cases : (q : Result Store StoreFault) → r ≡ q → AnswersFault r NoRoot
      cases (Ok store) is = let h = held store is told in absurd (opened_rooted content h.opened h.is none)
      cases (Err e) is = ⊎_elim (λ out. answers e out is NoRoot)
          (λ more. ⊎_elim (λ same. inl (is ∙ ap Err same)) (λ (place, at). absurd (broken_rooted content place (damaged told place (is ∙ ap Err at)) none)) more) (by_error e is)

  -- a broken rule is answered so, at its first place
  pub broken_at : (place : ℕ) → tells → IsBrokenAt content place → AnswersFault r (Damaged place)
  broken_at place told broken = cases r refl
    where
      cases : (q : Result Store StoreFault) → r ≡ q → AnswersFault r (Damaged place)
      cases (Ok store) is = let h = held store is told in absurd (opened_unbroken content h.opened place h.is broken)
      cases (Err e) is = ⊎_elim (λ out. answers e out is (Damaged place))
          (λ more. ⊎_elim (λ none. absurd (broken_rooted content place broken (no_root told (is ∙ ap Err none))))
          (λ (spot, at). inl (is ∙ ap Err at ∙ ap (λ (p : ℕ). Err (Damaged p)) (one_place content spot place (damaged told spot (is ∙ ap Err at)) broken))) more) (by_error e is)

  -- so a call that comes to it, over the same content, opens an index as it is
  pub opens_by : (before after : DiskState) → (tells → content ≡ before.content) → OnOk r (HEAD_BYTES ≤ after.limit) → (tells → after.content ≡ before.content) → Passes Same before after → (r ≡ Err Disk → Rose before.faults after.faults)
      → before.faults ≤ after.faults
      → (tells → (slot : Slot) → (root : Root) → Counts slot root before.content → after.taken ≤ before.taken + (592 + named_bytes root before.content + HALF_BYTES)) → after.limit ≡ before.limit → Opens tells before after r
  opens_by before after same limit kept images cause faults read same_limit = record {
    opened = λ o told is. outside o told (subst (IsOpened o) (sym (same told)) is);
    no_root = λ told e. subst HasNoRoot (same told) (no_root told e);
    rooted = λ told none. rooted told (subst HasNoRoot (sym (same told)) none);
    damaged = λ place told e. subst (λ (image : List ℕ). IsBrokenAt image place) (same told) (damaged told place e);
    undamaged = λ place told broken. broken_at place told (subst (λ (image : List ℕ). IsBrokenAt image place) (sym (same told)) broken);
    only = only;
    cause = cause;
    limit = limit;
    content = kept;
    images = images;
    faults = faults;
    read = read;
    same_limit = same_limit;
  }
