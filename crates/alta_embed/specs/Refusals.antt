-- The number of each refusal, what goes with it, and the end of a run that it comes from.
use Rattle.std.specs.Prelude.{ℕ, ℤ, negsuc, Option, None, Some}
use Rattle.alta_embed.specs.declared.refusal.Refusal.{Refusal}
use Rattle.alta_embed.specs.declared.refusal.Refusal.TheVariants.{NoMemory, Damaged, NoIndex, Full, TooLong, NoRoom}
use Rattle.alta_session.specs.declared.status.Status.{Status}
use Rattle.alta_session.specs.declared.status.Status.TheVariants.{Done, Damaged as RunDamaged, NoRoot, Full as RunFull, TooLong as RunTooLong}

-- from -5 on down, and -11
abbrev pub code_of : Refusal → ℤ
code_of NoMemory = negsuc 4
code_of (Damaged place) = negsuc 5
code_of NoIndex = negsuc 6
code_of (Full need gap) = negsuc 7
code_of TooLong = negsuc 8
code_of (NoRoom need) = negsuc 10

-- a place, or how many bytes are needed
abbrev pub detail_of : Refusal → ℕ
detail_of NoMemory = 0
detail_of (Damaged place) = place
detail_of NoIndex = 0
detail_of (Full need gap) = need
detail_of TooLong = 0
detail_of (NoRoom need) = need

-- None where the run is done. In memory a call of a console or a disk fails for want of memory alone.
abbrev pub refusal_for : Status → Option Refusal
refusal_for Done = None
refusal_for (RunDamaged place) = Some (Damaged place)
refusal_for NoRoot = Some NoIndex
refusal_for (RunFull need gap) = Some (Full need gap)
refusal_for RunTooLong = Some TooLong
refusal_for _ = Some NoMemory
