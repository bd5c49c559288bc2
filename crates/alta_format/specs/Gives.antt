-- What a reader returned, seen by a view, against what reading finds.
use Rattle.std.specs.Prelude.{◌≡◌, ℕ, Result, Ok, Err}
use Rattle.alta_format.specs.declared.field.ReadFault.{ReadFault}
use Rattle.alta_format.specs.declared.field.ReadFault.TheVariants as errors

abbrev pub Fails : {Y : Type 0} → ReadFault → Result Y ℕ → Type 0
Fails errors.Memory read = Unit {0}
Fails (errors.Broken left) read = read ≡ Err left

-- it is what reading finds, unless memory ran out
abbrev pub Gives : {X Y : Type 0} → (X → Y) → Result X ReadFault → Result Y ℕ → Type 0
Gives view (Ok x) read = read ≡ Ok (view x)
Gives view (Err e) read = Fails e read

-- it took no memory that could be refused
abbrev pub NeverMemory : {X : Type 0} → Result X ReadFault → Type 0
NeverMemory (Ok x) = Unit {0}
NeverMemory (Err errors.Memory) = ⊥
NeverMemory (Err (errors.Broken left)) = Unit {0}

-- it is what reading finds, and took no memory that could be refused
pub record AlwaysGives {X Y : Type 0} (view : X → Y) (result : Result X ReadFault) (read : Result Y ℕ) : Type 0 where
  pub gives : Gives view result read
  pub lean : NeverMemory result
