-- What an entry makes of a catalog.
use Rattle.std.specs.Prelude.{◌≡◌, Bool, true, false, List, [], ◌∷◌, ◌++◌, Result, IfOk, OnOk}
use Rattle.alta_content.specs.Rows.{ends_among}
use Rattle.alta_content.specs.declared.document.DocRow.{DocRow}
use Rattle.alta_journal.specs.declared.entry.Entry.{Entry}
use Rattle.alta_machine.specs.declared.build.MetaFault.{MetaFault}
use Rattle.alta_machine.specs.declared.document.State.{State}
use Rattle.alta_meaning.specs.Entries.{Allows, after_entry}
use Rattle.alta_root.specs.declared.root.Root.{Root}
use Rattle.alta_catalog.specs.Knowing.{Follows, Knows, KnowsBy, gone_of, levels_of}
use Rattle.alta_catalog.specs.declared.catalog.Catalog.{Catalog}

-- The entry was applied where it is allowed, and nothing has changed where it is not; the answer says which.
pub record Applies (entry : Entry) (old new : Catalog) (result : Result Bool MetaFault) : Type 0 where
  pub allowed : (s : State) → (knows : Knows old s)
      → IfOk result (λ allowed. allowed ≡ true → Allows s entry × KnowsBy new knows.olds (after_entry s entry))
  pub refused : (s : State) → Knows old s → IfOk result (λ allowed. allowed ≡ false → Allows s entry → ⊥)
  pub unchanged : IfOk result (λ allowed. allowed ≡ false → new ≡ old)
  -- what was gone is gone still, and the levels stay
  pub still : IfOk result (λ allowed. (row : DocRow) → ends_among (gone_of old) row ≡ true
      → ends_among (gone_of new) row ≡ true)
  pub levels : levels_of new ≡ levels_of old
  pub follows : (root : Root) (entries : List Entry) → Follows old root entries
      → IfOk result (λ allowed. allowed ≡ true → Follows new root (entries ++ entry ∷ []))

-- The entry, which was allowed, was applied.
pub record IsEntered (entry : Entry) (old new : Catalog) (result : Result (Unit {0}) MetaFault) : Type 0 where
  pub knows : (s : State) → (knows : Knows old s) → OnOk result (KnowsBy new knows.olds (after_entry s entry))
  -- what was gone is gone still, and the levels stay
  pub still : OnOk result ((row : DocRow) → ends_among (gone_of old) row ≡ true → ends_among (gone_of new) row ≡ true)
  pub levels : levels_of new ≡ levels_of old
  pub follows : (root : Root) (entries : List Entry) → Follows old root entries
      → OnOk result (Follows new root (entries ++ entry ∷ []))
