-- From what a definition finds to what a call that opens a part promises.
use Rattle.std.proofs.Common.{◌≡◌, ℕ, Result, Ok, Err, sym, ◌∙◌}
use Rattle.std.specs.Prelude.{IfOk}
use Rattle.alta_format.proofs.FormatLaws.{done, failed, ok_is, err_is, ok_err}
use Rattle.alta_table.specs.declared.fault.LevelFault.{LevelFault}
use Rattle.alta_table.specs.declared.fault.LevelFault.TheVariants as faults
use Rattle.alta_table.specs.Answers.{AlwaysAnswers, Answers, IsFound, IsDamaged, IfDamaged}

-- ---- any definition

pub found_is : {X Y : Type 0} (view : X → Y) (r : Result X LevelFault) (found : Result Y ℕ) (y : Y) → found ≡ done y → Answers view r found → IsFound view r y
found_is view (Ok x) found y e a = ok_is (view x) y (sym a ∙ e)
found_is view (Err faults.Memory) found y e a = tt
found_is view (Err (faults.Damaged p)) found y e a = ok_err found y p e a

pub read_is : {X Y : Type 0} (view : X → Y) (r : Result X LevelFault) (found : Result Y ℕ) (P : Y → Type 0) → ((y : Y) → found ≡ done y → P y) → Answers view r found → IfOk r (λ x. P (view x))
read_is view (Ok x) found P law a = law (view x) a
read_is view (Err e) found P law a = tt

pub first_is : {X Y : Type 0} (view : X → Y) (r : Result X LevelFault) (found : Result Y ℕ) (P : ℕ → Type 0) → ((p : ℕ) → found ≡ failed p → P p) → Answers view r found → IfDamaged r P
first_is view (Ok x) found P law a = tt
first_is view (Err faults.Memory) found P law a = tt
first_is view (Err (faults.Damaged p)) found P law a = law p a

pub damaged_is : {X Y : Type 0} (view : X → Y) (r : Result X LevelFault) (found : Result Y ℕ) (p : ℕ) → found ≡ failed p → Answers view r found → IsDamaged r p
damaged_is view (Ok x) found p e a = ok_err found (view x) p a e
damaged_is view (Err faults.Memory) found p e a = tt
damaged_is {Y = Y} view (Err (faults.Damaged q)) found p e a = err_is {A = Y} q p (sym a ∙ e)

-- ---- a call that takes no memory

pub always_read : {X Y : Type 0} (view : X → Y) (r : Result X LevelFault) (found : Result Y ℕ) (P : Y → Type 0) → ((y : Y) → found ≡ done y → P y) → AlwaysAnswers view r found → IfOk r (λ x. P (view x))
always_read view (Ok x) found P law a = law (view x) a
always_read view (Err e) found P law a = tt

pub always_first : {X Y : Type 0} (view : X → Y) (r : Result X LevelFault) (found : Result Y ℕ) (P : ℕ → Type 0) → ((p : ℕ) → found ≡ failed p → P p) → AlwaysAnswers view r found → IfDamaged r P
always_first view (Ok x) found P law a = tt
always_first view (Err faults.Memory) found P law a = tt
always_first view (Err (faults.Damaged p)) found P law a = law p a
