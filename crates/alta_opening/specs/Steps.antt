-- What the steps of opening answer.
use Rattle.std.specs.Prelude.{◌≡◌, ◌≤◌, ◌+◌, ◌++◌, ◌∷◌, [], ℕ, List, Result, Ok, Err}
use Rattle.alta_codec.specs.declared.extent.Extent.{Extent}
use Rattle.alta_meaning.specs.Chain.{◌>>=◌}
use Rattle.alta_meaning.specs.Opened.{in_order, names_in}
use Rattle.alta_root.specs.declared.root.Root.{Root}
use Rattle.alta_table.specs.Tables.{Tables}
use Rattle.alta_table.specs.declared.fault.LevelFault.{LevelFault}
use Rattle.alta_table.specs.declared.fault.LevelFault.TheVariants as tables
use Rattle.alta_disk.specs.declared.fault.LoadFault.{LoadFault}
use Rattle.alta_disk.specs.declared.fault.LoadFault.TheVariants as faults

-- the damage that a definition finds
abbrev pub Fails : {Y : Type 0} → LoadFault → Result Y ℕ → Type 0
Fails faults.Disk found = Unit {0}
Fails faults.Memory found = Unit {0}
Fails (faults.Damaged place) found = found ≡ Err place

-- it answers what a definition finds, unless the disk failed or memory ran out
abbrev pub Answers : {X Y : Type 0} → (X → Y) → Result X LoadFault → Result Y ℕ → Type 0
Answers view (Ok x) found = found ≡ Ok (view x)
Answers view (Err fault) found = Fails fault found

-- so many bytes at a place lie on a disk of this length, and end at the limit or before
abbrev pub LiesWithin : Extent → ℕ → ℕ → Type 0
LiesWithin extent size limit = (extent.place + extent.bytes ≤ size) × (extent.place + extent.bytes ≤ limit)

-- a fault of tables, as one of opening
abbrev pub outer : LevelFault → LoadFault
outer (tables.Damaged place) = faults.Damaged place
outer tables.Memory = faults.Memory

-- a level whose tables were read, behind others: its order, and its live names
abbrev pub admitted : Root → List ℕ → List Tables → Extent → Tables → Result (List Tables) ℕ
admitted root deleted levels extent found =
    in_order root levels extent found >>= λ level.
    names_in deleted levels level >>= λ live.
    Ok (levels ++ level ∷ [])
