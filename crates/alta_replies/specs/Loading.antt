-- What a line loads from the disk, and what a call that loads does.
use Rattle.std.specs.Prelude.{◌≡◌, ◌⊎◌, ℕ, nat_le, if◌then◌else◌, List, [], ◌∷◌, ◌++◌, length, All, Result, Ok, Err, IfOk, IfErr}
use Rattle.alta_catalog.specs.Knowing.{memory_of}
use Rattle.alta_codec.specs.Faults.{Rose}
use Rattle.alta_machine.specs.PlanOf.{plan_of}
use Rattle.alta_machine.specs.Plans.{Tree}
use Rattle.alta_content.specs.declared.content.Content.{Content}
use Rattle.alta_disk.specs.Calls.{Reads}
use Rattle.alta_disk.specs.Disk.{DiskState}
use Rattle.alta_dump.specs.Shown.{dump_tests}
use Rattle.alta_meaning.specs.Standing.{StandsFor}
use Rattle.alta_loading.specs.Kept.{AreKept}
use Rattle.alta_loading.specs.Loads.{Load, IsFirstFault, IsWhole, load_sizes}
use Rattle.alta_loading.specs.Met.{each_once, loads_of_tests}
use Rattle.alta_loading.specs.declared.kept.KeptLists.{KeptLists}
use Rattle.alta_machine.specs.declared.document.State.{State}
use Rattle.alta_machine.specs.Command.{Command, adds, deletes, searches, counts, explains, opens, fetches, closes, ranks, flushes, merges, steps, asks_stats, dumps}
use Rattle.alta_machine.specs.Lines.{Reading, asks, refuses, reading_of}
use Rattle.alta_machine.specs.QueryFaults.{Fault}
use Rattle.alta_machine.specs.Patterns.{title_end}
use Rattle.alta_machine.specs.Queries.{query_of}
use Rattle.alta_machine.specs.Shape.{Shape}
use Rattle.alta_machine.specs.declared.test.Test.{Test}
use Rattle.alta_search.specs.Plans.{tests_of}
use Rattle.alta_cursors.specs.declared.cursors.OpenCursor.{OpenCursor}
use Rattle.alta_machine.specs.declared.cursors.TheConstants.{CURSORS}
use Rattle.alta_machine.specs.Machine.{IsRefusal}
use Rattle.alta_store.specs.Agreement.{Agrees, levels_of}
use Rattle.alta_store.specs.Answers.{IsOutside, AnswersFault}
use Rattle.alta_store.specs.declared.fault.StoreFault.{StoreFault}
use Rattle.alta_store.specs.declared.fault.StoreFault.TheVariants.{Disk, Memory, Damaged}
use Rattle.alta_store.specs.declared.store.Store.{Store}
use Rattle.alta_table.specs.Tables.{Tables}

-- ---- which lists

-- the lists that are loaded from levels for tests, beside these newest documents, in the order of loading: those of each test once
abbrev pub tests_loads : List Tables → Content → List Test → List Load
tests_loads levels newest tests = loads_of_tests levels newest (each_once tests)

-- those that a search for a plan loads
abbrev pub plan_loads : List Tables → Content → Tree → List Load
plan_loads levels newest plan = tests_loads levels newest (tests_of plan)

abbrev pub query_loads : List Tables → Content → Result Shape Fault → List Load
query_loads levels newest (Ok q) = plan_loads levels newest (plan_of q)
query_loads levels newest (Err f) = []

-- those of the plan of a text, and none where it is no query
unfoldable pub loads_of_text : List Tables → Content → List ℕ → List Load
loads_of_text levels newest text = query_loads levels newest (query_of text)

-- those that a top of a plan loads: those of its tests, and behind them those of the places where titles end
abbrev pub ranked_loads : List Tables → Content → Tree → List Load
ranked_loads levels newest plan = tests_loads levels newest (tests_of plan ++ title_end ∷ [])

abbrev pub ranked_query_loads : List Tables → Content → Result Shape Fault → List Load
ranked_query_loads levels newest (Ok q) = ranked_loads levels newest (plan_of q)
ranked_query_loads levels newest (Err f) = []

-- those of the plan of a text, and none where it is no query
unfoldable pub ranked_loads_of_text : List Tables → Content → List ℕ → List Load
ranked_loads_of_text levels newest text = ranked_query_loads levels newest (query_of text)

-- those of a command, where so many cursors are open: an open loads none where as many are open as may be
abbrev pub command_loads : List Tables → Content → ℕ → Command → List Load
command_loads levels newest many (searches text) = loads_of_text levels newest text
command_loads levels newest many (counts text) = loads_of_text levels newest text
command_loads levels newest many (opens text) = if nat_le CURSORS many then [] else loads_of_text levels newest text
command_loads levels newest many (ranks count text) = ranked_loads_of_text levels newest text
command_loads levels newest many (adds name title body) = []
command_loads levels newest many (deletes name) = []
command_loads levels newest many (explains text) = []
command_loads levels newest many (fetches cursor count) = []
command_loads levels newest many (closes cursor) = []
command_loads levels newest many flushes = []
command_loads levels newest many merges = []
command_loads levels newest many (steps count) = []
command_loads levels newest many asks_stats = []
command_loads levels newest many dumps = tests_loads levels newest dump_tests

abbrev pub loads_in : List Tables → Content → ℕ → Reading → List Load
loads_in levels newest many (asks command) = command_loads levels newest many command
loads_in levels newest many (refuses fault) = []

-- those of a line
abbrev pub line_loads : List Tables → Content → ℕ → List ℕ → List Load
line_loads levels newest many line = loads_in levels newest many (reading_of line)

-- ---- of a store

-- the newest documents of a store, deleted ones among them
abbrev pub newest_in : Store → Content
newest_in store = (memory_of store.catalog).content

abbrev pub order_loads : Store → List Test → List Load
order_loads store tests = tests_loads (levels_of store) (newest_in store) tests

abbrev pub search_loads : Store → Tree → List Load
search_loads store plan = plan_loads (levels_of store) (newest_in store) plan

abbrev pub text_loads : Store → List ℕ → List Load
text_loads store text = loads_of_text (levels_of store) (newest_in store) text

abbrev pub top_loads : Store → Tree → List Load
top_loads store plan = ranked_loads (levels_of store) (newest_in store) plan

abbrev pub top_text_loads : Store → List ℕ → List Load
top_text_loads store text = ranked_loads_of_text (levels_of store) (newest_in store) text

abbrev pub open_loads : Store → List OpenCursor → List ℕ → List Load
open_loads store cursors text = command_loads (levels_of store) (newest_in store) (length cursors) (opens text)

-- ---- what is known of lists that were tested

-- what is known of the lists of a store's levels holds on the disk
abbrev pub KeptHolds : Type 0 → DiskState → Store → KeptLists → Type 0
KeptHolds tells disk store kept = AreKept tells disk.content (levels_of store) kept

-- Lists may be loaded: store and disk agree, and what is known of lists holds.
pub record MayLoad (tells : Type 0) (disk : DiskState) (store : Store) (kept : KeptLists) : Type 0 where
  pub agrees : Agrees tells disk store
  pub known : KeptHolds tells disk store kept

-- ---- a call that loads

-- It writes nothing, and reads no more than these lists have. It answers Ok only where they are whole, and damage exactly at the
-- first fault among them; that yields to want of memory, and to a fault of the disk, which is counted.
pub record Loads {X : Type 0} (tells : Type 0) (loads : List Load) (before after : DiskState)
    (result : Result X StoreFault) : Type 0 where
  pub reads : Reads tells (load_sizes loads) before after
  pub only : IfErr result (λ e. IsOutside e ⊎ ((place : ℕ) × (e ≡ Damaged place)))
  pub whole : tells → IfOk result (λ x. All (IsWhole before.content) loads)
  pub first : (place : ℕ) → tells → result ≡ Err (Damaged place) → IsFirstFault before.content loads place
  pub damaged : (place : ℕ) → tells → IsFirstFault before.content loads place → AnswersFault result (Damaged place)
  pub cause : result ≡ Err Disk → Rose before.faults after.faults

-- Lists are loaded for a store: damage comes only where the disk stands for no state, and what is known afterwards holds.
pub record LoadsKept {X : Type 0} (tells : Type 0) (store : Store) (kept_now : KeptLists) (loads : List Load)
    (before after : DiskState) (result : Result X StoreFault) : Type 0 where
  pub loaded : Loads tells loads before after result
  pub undamaged : (s : State) → tells → StandsFor s before.content → IfErr result IsOutside
  pub known : KeptHolds tells after store kept_now

-- A call that answers a text by the lists that it loads for a store. No disk is called for it where it is idle, and for none that it
-- refuses; then what is known is as it was.
pub record Queries {D : Type 0} (tells : Type 0) (state : D → DiskState) (disk disk_now : D) (store : Store)
    (kept kept_now : KeptLists) (loads : List Load) (idle : Type 0) (result : Result (List ℕ) StoreFault) : Type 0 where
  pub loading : LoadsKept tells store kept_now loads (state disk) (state disk_now) result
  pub refused : IfOk result (λ reply. IsRefusal reply → (disk_now ≡ disk) × (kept_now ≡ kept))
  pub idles : idle → (disk_now ≡ disk) × IfErr result (λ e. e ≡ Memory)
