-- Tasks with nothing to do, and room for an entry.
use Rattle.std.proofs.Common.{◌≡◌, inl, inr, ℕ, ◌<◌, Bool, true, false, cond, List, [], ◌∷◌, length, map, take, refl, sym, ◌∙◌, ap, subst, arith, Result, Ok}
use Rattle.std.specs.Prelude.{◌==◌, ◌&&◌, nat_le, Option, None, Some}
use Rattle.std.proofs.lemmas.Bool.{false≢true}
use Rattle.std.proofs.lemmas.List.{length-map}
use Rattle.alta_layout.specs.Places.{half_start}
use Rattle.alta_catalog.specs.Knowing.{gone_of, memory_of, newest_of}
use Rattle.alta_content.specs.Rows.{live_rows}
use Rattle.alta_content.specs.declared.document.DocRow.{DocRow}
use Rattle.alta_disk.specs.Disk.{DiskState, IsLawful}
use Rattle.alta_meaning.specs.Holding.{Holding, IsHeld}
use Rattle.alta_meaning.specs.Levels.{Level}
use Rattle.alta_meaning.specs.Opened.{Opened, IsOpened}
use Rattle.alta_meaning.specs.Standing.{tables_by}
use Rattle.alta_meaning.specs.Views.{View}
use Rattle.alta_meaning.specs.Work.{Job, begun, enters, flushes, is_merged, job_of, merges, steps}
use Rattle.alta_meaning.specs.Working.{moved, written}
use Rattle.alta_meaning.proofs.KeptStates.{by_entries}
use Rattle.alta_meaning.proofs.Tests.{by_test, equal_from, equal_test}
use Rattle.alta_meaning.proofs.WellLaws.{by_merged}
use Rattle.alta_journal.specs.declared.entry.Entry.{Entry}
use Rattle.alta_memlevel.specs.Added.{Added}
use Rattle.alta_merge.specs.Merging.{Merging}
use Rattle.alta_store.specs.Agreement.{Agrees, Has, HasNoEntry, IsJobIn, Keeps, MayGoOn, levels_of}
use Rattle.alta_store.specs.Calls.{Changes, GetsRoom, MakesRoom, NoRefusal, Obeys, Writes, ends_join, flush_joins, has_live, is_one, joined_by, lacks_room, merge_joins, needs_room, step_joins, terms_by, unless_read}
use Rattle.alta_store.specs.declared.fault.StoreFault.{StoreFault}
use Rattle.alta_store.specs.declared.store.Store.{Store}
use Rattle.alta_store.proofs.Agreements.{kept}
use Rattle.alta_store.proofs.Changing.{changes_as, changes_idle}
use Rattle.alta_store.proofs.Holdings.{levels_held}
use Rattle.alta_store.proofs.Room.{le_false, none_kept, room_kept, some_kept}
use Rattle.alta_table.specs.Tables.{Tables}

pub and_false : (b : Bool) → (b && false) ≡ false
and_false true = refl
and_false false = refl

-- ---- what there is to merge

-- as the store says it, and as what is opened does
pub one_opened : (store : Store) (o : Opened) (image : List ℕ) → Keeps store o → IsOpened o image → (nat_le (length o.levels) 1 && length o.deleted == 0 && length o.entries == 0) ≡ is_one store
one_opened store o image keeps is =
    ap (λ (ls : List Tables). nat_le (length ls) 1 && length o.deleted == 0 && length o.entries == 0) (sym keeps.levels)
    ∙ ap (λ (es : List ℕ). nat_le (length (levels_of store)) 1 && length es == 0 && length o.entries == 0) (sym keeps.listed)
    ∙ ap (λ (b : Bool). nat_le (length (levels_of store)) 1 && length store.listed.items == 0 && b) entries
  where
    entries : (length o.entries == 0) ≡ (store.tail.place == half_start store.tail.slot)
    entries =
        by_test (store.tail.place == half_start store.tail.slot)
        (λ none. ap (λ (es : List Entry). length es == 0) (none_kept store o image keeps is (equal_from store.tail.place (half_start store.tail.slot) none)) ∙ sym none)
        (λ some. some_kept store o image keeps is (λ none. absurd (false≢true (sym some ∙ equal_test store.tail.place (half_start store.tail.slot) none))) ∙ sym some)

module _ (tells : Type 0) (a : DiskState) (lawful : IsLawful tells a) (store : Store) (agrees : Agrees tells a store) where
  -- as what is held does
  pub one_held : (told : tells) (held : Holding) → IsHeld held a.content → is_merged held.view ≡ is_one store
  one_held told held has =
      ap is_merged has.view_is
      ∙ ap (λ (n : ℕ). nat_le n 1 && length has.opened.deleted == 0 && length has.opened.entries == 0) (sym (length-map held.view.levels tables_by) ∙ ap length (sym has.are.tables))
      ∙ one_opened store has.opened a.content (kept store a.content (agrees.content told) has.opened has.is) has.is

  no_entry_held : HasNoEntry store → (told : tells) (held : Holding) → IsHeld held a.content → held.view.entries ≡ []
  no_entry_held none told held has =
      ap (λ (view : View). view.entries) has.view_is ∙ none_kept store has.opened a.content (kept store a.content (agrees.content told) has.opened has.is) has.is none

  pub no_some : (HasNoEntry store → ⊥) → (told : tells) (held : Holding) → IsHeld held a.content → (length held.view.entries == 0) ≡ false
  no_some some told held has =
      ap (λ (view : View). length view.entries == 0) has.view_is ∙ some_kept store has.opened a.content (kept store a.content (agrees.content told) has.opened has.is) has.is some

  -- ---- flush

  -- no document is live that was not added
  no_live : HasNoEntry store → (told : tells) → has_live store ≡ false
  no_live none told =
      let holds = agrees.content told in
      let keeps = kept store a.content holds holds.opened holds.is in
      let no_rows : (memory_of store.catalog).content.documents ≡ [] =
      keeps.follows.content.documents
      ∙ ap (λ (es : List Entry). map (λ (x : Added). x.row) (newest_of holds.opened.root es)) (none_kept store holds.opened a.content keeps holds.is none) in
      ap (λ (rows : List DocRow). nat_le 1 (length (live_rows (gone_of store.catalog) rows))) no_rows

  no_joins : HasNoEntry store → tells → flush_joins store ≡ []
  no_joins none told =
      let sixteen = length (levels_of store) == 16 in
      ap (λ (b : Bool). cond b (unless_read store.job (take 2 (levels_of store))) []) (ap (λ (b : Bool). sixteen && b) (no_live none told) ∙ and_false sixteen)

  pub idle_flush : HasNoEntry store → (u : Unit {0}) → Obeys tells flushes (λ s. s) NoRefusal a a store store (Ok u)
  idle_flush none u =
      changes_idle tells _ _ 1 (flush_joins store) a store u lawful agrees (no_joins none)
      (λ held told has. ap (by_entries a.limit held) (ap (λ (es : List Entry). length es == 0) (no_entry_held none told held has.is)))
      (λ o told is. let keeps = kept store a.content (agrees.content told) o is in (inl (none_kept store o a.content keeps is none, refl), keeps))

  -- ---- merge

  pub idle_merge : is_one store ≡ true → (u : Unit {0}) → Obeys tells merges (λ s. s) NoRefusal a a store store (Ok u)
  idle_merge one u =
      changes_idle tells _ _ 1 (merge_joins store) a store u lawful agrees (λ told. ap (λ (b : Bool). cond b [] (levels_of store)) one)
      (λ held told has. ap (by_merged a.limit held) (one_held told held has.is ∙ one))
      (λ o told is. let keeps = kept store a.content (agrees.content told) o is in (inl (one_opened store o a.content keeps is ∙ one, refl), keeps))

  -- ---- step

  -- no join goes on over fewer than two levels, and none begins
  no_job : length (levels_of store) < 2 → (told : tells) (held : Holding) → Has store held a.content → job_of held.job held.view ≡ None
  no_job few told held has = by_job store.job refl agrees.intact.joining held.job has.job
    where
      few_held : length held.view.levels < 2
      few_held = omega (arith, few, ap length (levels_held tells a lawful store agrees told held has.is), length-map held.view.levels tables_by)

      by_levels : (levels : List Level) → length levels < 2 → begun held.view levels ≡ None
      by_levels [] few = refl
      by_levels (level ∷ []) few = refl
      by_levels (level ∷ other ∷ more) few = absurd (omega (arith, few))

      by_job : (merging : Option Merging) → store.job ≡ merging → MayGoOn (levels_of store) (gone_of store.catalog) merging → (job : Option Job) → IsJobIn merging job → job_of job held.view ≡ None
      by_job None is may None same = by_levels held.view.levels few_held
      by_job None is may (Some job) same = absurd same
      by_job (Some merging) is may None same = absurd same
      by_job (Some merging) is may (Some job) same = absurd (omega (arith, few, ap length may.oldest))

  -- so none ends
  none_ends : (n : ℕ) → length (levels_of store) < 2 → ends_join n store.job (levels_of store) ≡ false
  none_ends n few = by_job store.job agrees.intact.joining
    where
      by_job : (job : Option Merging) → MayGoOn (levels_of store) (gone_of store.catalog) job → ends_join n job (levels_of store) ≡ false
      by_job None may = ap (λ (b : Bool). b && nat_le (length (terms_by (take 2 (levels_of store)))) n) (le_false 2 (length (levels_of store)) few)
      by_job (Some merging) may = absurd (omega (arith, few, ap length may.oldest))

  pub idle_step : (n : ℕ) → length (levels_of store) < 2 → (u : Unit {0}) → Obeys tells (steps n) (λ s. s) NoRefusal a a store store (Ok u)
  idle_step n few u =
      changes_idle tells _ _ 1 (step_joins store) a store u lawful agrees
      (λ told. ap (λ (b : Bool). cond b (unless_read store.job (take 2 (levels_of store))) []) (le_false 2 (length (levels_of store)) few))
      (λ held told has. ap (moved a.limit held n) (no_job few told held has))
      (λ o told is. let keeps = kept store a.content (agrees.content told) o is in (inl (ap (ends_join n store.job) (sym keeps.levels) ∙ none_ends n few, refl), keeps))

  -- ---- a switch of the root

  -- one of a journal that has an entry is a flush
  pub flush_written : {T : Type 0} (b : DiskState) (later : Store) → (HasNoEntry store → ⊥) → (result : Result T StoreFault) → Writes tells a b store later result
      → Obeys tells flushes (λ s. s) NoRefusal a b store later result
  flush_written b later some result writes =
      changes_as tells _ _ _ _ (λ s. s) NoRefusal NoRefusal 1 (flush_joins store) a b store later result
      (λ held told has. sym (ap (by_entries a.limit held) (no_some some told held has.is)))
      (λ o outcome told is turned. inr turned) (λ e refused. refused) writes

  -- ---- room

  -- what is held has room for an entry where the store has
  room_held : (told : tells) (held : Holding) → IsHeld held a.content → (entry : Entry) → lacks_room held.view.version held.view.entries entry ≡ needs_room store entry
  room_held told held has entry =
      ap (λ (view : View). lacks_room view.version view.entries entry) has.view_is ∙ room_kept store has.opened a.content (kept store a.content (agrees.content told) has.opened has.is) has.is entry

  -- room that is there
  pub room_idle : (entry : Entry) → needs_room store entry ≡ false → (u : Unit {0}) → MakesRoom tells entry a a store store (Ok u)
  room_idle entry room u =
      changes_idle tells _ _ 1 (joined_by store (enters entry)) a store u lawful agrees (λ told. ap (λ (b : Bool). cond b (flush_joins store) []) room)
      (λ held told has. ap (λ (b : Bool). cond b (written a.limit held) (Ok held)) (room_held told held has.is entry ∙ room))
      (λ o told is. let keeps = kept store a.content (agrees.content told) o is in (inl (room_kept store o a.content keeps is entry ∙ room, refl), keeps))

  -- room that a switch makes
  pub room_made : {T : Type 0} (b : DiskState) (later : Store) (entry : Entry) → needs_room store entry ≡ true → (result : Result T StoreFault)
      → Writes tells a b store later result → MakesRoom tells entry a b store later result
  room_made b later entry wanting result writes =
      subst (λ (joins : List Tables). Makes joins) (sym (ap (λ (x : Bool). cond x (flush_joins store) []) wanting))
      (changes_as tells _ _ _ _ (λ s. s) NoRefusal NoRefusal 1 (flush_joins store) a b store later result
      (λ held told has. sym (ap (λ (x : Bool). cond x (written a.limit held) (Ok held)) (room_held told held has.is entry ∙ wanting)))
      (λ o outcome told is turned. inr (room_kept store o a.content (kept store a.content (agrees.content told) o is) is entry ∙ wanting, turned)) (λ e refused. refused) writes)
    where
      Makes : List Tables → Type 0
      Makes joins =
          Changes tells (λ limit held. cond (lacks_room held.view.version held.view.entries entry) (written limit held) (Ok held))
          (λ limit o outcome. GetsRoom limit a.content store.job entry o outcome) (λ s. s) NoRefusal 1 joins a b store later result
