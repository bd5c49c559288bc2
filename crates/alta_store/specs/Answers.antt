-- Answers that yield to want of memory and to a fault of the disk.
use Rattle.std.specs.Prelude.{◌≡◌, ◌⊎◌, Result, Err}
use Rattle.alta_disk.specs.declared.fault.LoadFault.{LoadFault}
use Rattle.alta_disk.specs.declared.fault.LoadFault.TheVariants.{Disk as LoadDisk, Memory as LoadMemory, Damaged as LoadDamaged}
use Rattle.alta_catalog.specs.declared.fault.CatalogFault.{CatalogFault}
use Rattle.alta_catalog.specs.declared.fault.CatalogFault.TheVariants.{Memory as CatalogMemory, Damaged as CatalogDamaged}
use Rattle.alta_rewrite.specs.declared.fault.RewriteFault.{RewriteFault}
use Rattle.alta_rewrite.specs.declared.fault.RewriteFault.TheVariants.{Disk as RewriteDisk, Memory as RewriteMemory, Full as RewriteFull}
use Rattle.alta_root.specs.declared.fault.RootFault.{RootFault}
use Rattle.alta_root.specs.declared.fault.RootFault.TheVariants.{Disk as RootDisk, NoRoot as NoRootThere, Damaged as RootDamaged}
use Rattle.alta_store.specs.declared.fault.StoreFault.{StoreFault}
use Rattle.alta_store.specs.declared.fault.StoreFault.TheVariants.{Disk, Memory, NoRoot, Damaged, Full}

-- want of memory, or a fault of the disk, which comes only where its count rose
abbrev pub IsOutside : StoreFault → Type 0
IsOutside fault = (fault ≡ Memory) ⊎ (fault ≡ Disk)

-- the answer is this error, or memory was wanting or a call of the disk failed before
abbrev pub AnswersFault : {T : Type 0} → Result T StoreFault → StoreFault → Type 0
AnswersFault result fault = (result ≡ Err fault) ⊎ ((result ≡ Err Memory) ⊎ (result ≡ Err Disk))

-- the fault of an opening whose root was not read
abbrev pub of_root : RootFault → StoreFault
of_root RootDisk = Disk
of_root NoRootThere = NoRoot
of_root (RootDamaged place) = Damaged place

-- the fault of an opening whose entries were not applied
abbrev pub of_catalog : CatalogFault → StoreFault
of_catalog CatalogMemory = Memory
of_catalog (CatalogDamaged place) = Damaged place

-- the fault of a root that was not switched
abbrev pub of_rewrite : RewriteFault → StoreFault
of_rewrite RewriteDisk = Disk
of_rewrite RewriteMemory = Memory
of_rewrite (RewriteFull need gap) = Full need gap

-- the fault of a call for which something was not read
abbrev pub of_load : LoadFault → StoreFault
of_load LoadDisk = Disk
of_load LoadMemory = Memory
of_load (LoadDamaged place) = Damaged place
