-- Laws of statuses.
use Rattle.std.proofs.Common.{◌≡◌, ◌≢◌, ◌⊎◌, ℕ, inl, inr, refl, ap, sym, subst, ◌∙◌, Result, Err}
use Rattle.alta_session.specs.Status.{StopsLine, EndsLine, EndsRunning, EndsRun, EndsInit, EndsOpened, Completes, Yields, status_for}
use Rattle.alta_session.specs.declared.status.Status.{Status}
use Rattle.alta_session.specs.declared.status.Status.TheVariants.{Done, Usage, DiskFault, TakeFault, GiveFault, Memory, Damaged, NoRoot, Full, TooLong, Exists}
use Rattle.alta_store.specs.Answers.{IsOutside, AnswersFault}
use Rattle.alta_store.specs.declared.fault.StoreFault.{StoreFault}
use Rattle.alta_store.specs.declared.fault.StoreFault.TheVariants.{Disk as StoreDisk, Memory as StoreMemory, Damaged as StoreDamaged, NoRoot as StoreNoRoot, Full as StoreFull, Taken, Missing, Numbers}

pub ends_not_done : (status : Status) → EndsLine status → (status ≡ Done → ⊥)
ends_not_done status (inl (inl is)) done = cc
ends_not_done status (inl (inr (inl is))) done = cc
ends_not_done status (inl (inr (inr (inl is)))) done = cc
ends_not_done status (inl (inr (inr (inr (need, gap, is))))) done = cc
ends_not_done status (inr (place, is)) done = cc

pub ends_not_long : (status : Status) → EndsLine status → (status ≡ TooLong → ⊥)
ends_not_long status (inl (inl is)) long = cc
ends_not_long status (inl (inr (inl is))) long = cc
ends_not_long status (inl (inr (inr (inl is)))) long = cc
ends_not_long status (inl (inr (inr (inr (need, gap, is))))) long = cc
ends_not_long status (inr (place, is)) long = cc

pub ends_not_taken : (status : Status) → EndsLine status → (status ≡ TakeFault → ⊥)
ends_not_taken status (inl (inl is)) failed = cc
ends_not_taken status (inl (inr (inl is))) failed = cc
ends_not_taken status (inl (inr (inr (inl is)))) failed = cc
ends_not_taken status (inl (inr (inr (inr (need, gap, is))))) failed = cc
ends_not_taken status (inr (place, is)) failed = cc

-- where no damage is found
pub ends_whole : (status : Status) → EndsLine status → ((place : ℕ) → status ≡ Damaged place → ⊥) → StopsLine status
ends_whole status (inl stops) whole = stops
ends_whole status (inr (place, is)) whole = absurd (whole place is)

-- what an open index never ends with
pub running_rooted : (status : Status) → EndsRunning status → status ≢ NoRoot
running_rooted status (inl is) other = cc
running_rooted status (inr (inl is)) other = cc
running_rooted status (inr (inr (inl is))) other = cc
running_rooted status (inr (inr (inr (inl (inl is))))) other = cc
running_rooted status (inr (inr (inr (inl (inr (inl is)))))) other = cc
running_rooted status (inr (inr (inr (inl (inr (inr (inl is))))))) other = cc
running_rooted status (inr (inr (inr (inl (inr (inr (inr (need, gap, is)))))))) other = cc
running_rooted status (inr (inr (inr (inr (place, is))))) other = cc

pub running_never : (status : Status) → EndsRunning status → (status ≢ Usage) × (status ≢ Exists)
running_never status (inl is) = (λ other. cc, λ other. cc)
running_never status (inr (inl is)) = (λ other. cc, λ other. cc)
running_never status (inr (inr (inl is))) = (λ other. cc, λ other. cc)
running_never status (inr (inr (inr (inl (inl is))))) = (λ other. cc, λ other. cc)
running_never status (inr (inr (inr (inl (inr (inl is)))))) = (λ other. cc, λ other. cc)
running_never status (inr (inr (inr (inl (inr (inr (inl is))))))) = (λ other. cc, λ other. cc)
running_never status (inr (inr (inr (inl (inr (inr (inr (need, gap, is)))))))) = (λ other. cc, λ other. cc)
running_never status (inr (inr (inr (inr (place, is))))) = (λ other. cc, λ other. cc)

-- where no call fails, and no damage is found
pub running_completes : (status : Status) (takes gives disk : Type 0) → EndsRunning status → (status ≡ TakeFault → takes) → (status ≡ GiveFault → gives) → (status ≡ DiskFault → disk) → (takes → ⊥) → (gives → ⊥) → (disk → ⊥) → ((place : ℕ) → status ≡ Damaged place → ⊥) → Completes status
running_completes status takes gives disk (inl is) t g d no_take no_give no_disk whole = inl is
running_completes status takes gives disk (inr (inl is)) t g d no_take no_give no_disk whole = absurd (no_take (t is))
running_completes status takes gives disk (inr (inr (inl is))) t g d no_take no_give no_disk whole = inr (inl is)
running_completes status takes gives disk (inr (inr (inr (inl (inl is))))) t g d no_take no_give no_disk whole = inr (inr (inl is))
running_completes status takes gives disk (inr (inr (inr (inl (inr (inl is)))))) t g d no_take no_give no_disk whole = absurd (no_disk (d is))
running_completes status takes gives disk (inr (inr (inr (inl (inr (inr (inl is))))))) t g d no_take no_give no_disk whole = absurd (no_give (g is))
running_completes status takes gives disk (inr (inr (inr (inl (inr (inr (inr (need, gap, is)))))))) t g d no_take no_give no_disk whole = inr (inr (inr (need, gap, is)))
running_completes status takes gives disk (inr (inr (inr (inr (place, is))))) t g d no_take no_give no_disk whole = absurd (whole place is)

-- what a fault of the opening becomes
pub opening_ends : (e : StoreFault) → IsOutside e ⊎ ((e ≡ StoreNoRoot) ⊎ ((place : ℕ) × (e ≡ StoreDamaged place))) → EndsRun e
opening_ends e (inl (inl is)) = subst EndsRun (sym is) tt
opening_ends e (inl (inr is)) = subst EndsRun (sym is) tt
opening_ends e (inr (inl is)) = subst EndsRun (sym is) tt
opening_ends e (inr (inr (place, is))) = subst EndsRun (sym is) tt

-- what a fault of a line becomes
pub line_ends_run : (e : StoreFault) → IsOutside e ⊎ (((need gap : ℕ) × (e ≡ StoreFull need gap)) ⊎ ((place : ℕ) × (e ≡ StoreDamaged place))) → EndsRun e
line_ends_run e (inl (inl is)) = subst EndsRun (sym is) tt
line_ends_run e (inl (inr is)) = subst EndsRun (sym is) tt
line_ends_run e (inr (inl (need, gap, is))) = subst EndsRun (sym is) tt
line_ends_run e (inr (inr (place, is))) = subst EndsRun (sym is) tt

pub line_ends : (r : Status) (e : StoreFault) → r ≡ status_for e → IsOutside e ⊎ (((need gap : ℕ) × (e ≡ StoreFull need gap)) ⊎ ((place : ℕ) × (e ≡ StoreDamaged place))) → EndsLine r
line_ends r e is (inl (inl memory)) = inl (inl (is ∙ ap status_for memory))
line_ends r e is (inl (inr disk)) = inl (inr (inl (is ∙ ap status_for disk)))
line_ends r e is (inr (inl (need, gap, full))) = inl (inr (inr (inr (need, gap, is ∙ ap status_for full))))
line_ends r e is (inr (inr (place, damaged))) = inr (place, is ∙ ap status_for damaged)

-- it is not full: nothing was to be written
pub opening_not_full : (e : StoreFault) (status : Status) (need gap : ℕ) → IsOutside e ⊎ ((e ≡ StoreNoRoot) ⊎ ((place : ℕ) × (e ≡ StoreDamaged place))) → status ≡ status_for e → status ≡ Full need gap → ⊥
opening_not_full e status need gap (inl (inl is)) for_e full = let same : status_for e ≡ Memory = ap status_for is in cc
opening_not_full e status need gap (inl (inr is)) for_e full = let same : status_for e ≡ DiskFault = ap status_for is in cc
opening_not_full e status need gap (inr (inl is)) for_e full = let same : status_for e ≡ NoRoot = ap status_for is in cc
opening_not_full e status need gap (inr (inr (place, is))) for_e full = let same : status_for e ≡ Damaged place = ap status_for is in cc

not_done : (e : StoreFault) → status_for e ≡ Done → ⊥
not_done StoreDisk same = cc
not_done StoreMemory same = cc
not_done (StoreDamaged place) same = cc
not_done StoreNoRoot same = cc
not_done (StoreFull need gap) same = cc
not_done Taken same = cc
not_done Missing same = cc
not_done Numbers same = cc

not_usage : (e : StoreFault) → status_for e ≡ Usage → ⊥
not_usage StoreDisk same = cc
not_usage StoreMemory same = cc
not_usage (StoreDamaged place) same = cc
not_usage StoreNoRoot same = cc
not_usage (StoreFull need gap) same = cc
not_usage Taken same = cc
not_usage Missing same = cc
not_usage Numbers same = cc

not_take : (e : StoreFault) → status_for e ≡ TakeFault → ⊥
not_take StoreDisk same = cc
not_take StoreMemory same = cc
not_take (StoreDamaged place) same = cc
not_take StoreNoRoot same = cc
not_take (StoreFull need gap) same = cc
not_take Taken same = cc
not_take Missing same = cc
not_take Numbers same = cc

not_give : (e : StoreFault) → status_for e ≡ GiveFault → ⊥
not_give StoreDisk same = cc
not_give StoreMemory same = cc
not_give (StoreDamaged place) same = cc
not_give StoreNoRoot same = cc
not_give (StoreFull need gap) same = cc
not_give Taken same = cc
not_give Missing same = cc
not_give Numbers same = cc

not_long : (e : StoreFault) → status_for e ≡ TooLong → ⊥
not_long StoreDisk same = cc
not_long StoreMemory same = cc
not_long (StoreDamaged place) same = cc
not_long StoreNoRoot same = cc
not_long (StoreFull need gap) same = cc
not_long Taken same = cc
not_long Missing same = cc
not_long Numbers same = cc

not_exists : (e : StoreFault) → status_for e ≡ Exists → ⊥
not_exists StoreDisk same = cc
not_exists StoreMemory same = cc
not_exists (StoreDamaged place) same = cc
not_exists StoreNoRoot same = cc
not_exists (StoreFull need gap) same = cc
not_exists Taken same = cc
not_exists Missing same = cc
not_exists Numbers same = cc

rooted : (e : StoreFault) → status_for e ≡ NoRoot → e ≡ StoreNoRoot
rooted StoreDisk same = absurd cc
rooted StoreMemory same = absurd cc
rooted (StoreDamaged place) same = absurd cc
rooted StoreNoRoot same = refl
rooted (StoreFull need gap) same = absurd cc
rooted Taken same = absurd cc
rooted Missing same = absurd cc
rooted Numbers same = absurd cc

damaged : (e : StoreFault) (at : ℕ) → status_for e ≡ Damaged at → e ≡ StoreDamaged at
damaged StoreDisk at same = absurd cc
damaged StoreMemory at same = absurd cc
damaged (StoreDamaged place) at same = cc
damaged StoreNoRoot at same = absurd cc
damaged (StoreFull need gap) at same = absurd cc
damaged Taken at same = absurd cc
damaged Missing at same = absurd cc
damaged Numbers at same = absurd cc

disk : (e : StoreFault) → status_for e ≡ DiskFault → e ≡ StoreDisk
disk StoreDisk same = refl
disk StoreMemory same = absurd cc
disk (StoreDamaged place) same = absurd cc
disk StoreNoRoot same = absurd cc
disk (StoreFull need gap) same = absurd cc
disk Taken same = absurd cc
disk Missing same = absurd cc
disk Numbers same = absurd cc

full : (e : StoreFault) (need gap : ℕ) → status_for e ≡ Full need gap → e ≡ StoreFull need gap
full StoreDisk need gap same = absurd cc
full StoreMemory need gap same = absurd cc
full (StoreDamaged place) need gap same = absurd cc
full StoreNoRoot need gap same = absurd cc
full (StoreFull n g) need gap same = cc
full Taken need gap same = absurd cc
full Missing need gap same = absurd cc
full Numbers need gap same = absurd cc

-- a status that comes from no fault of the store
abbrev pub IsOther : Status → Type 0
IsOther Done = Unit {0}
IsOther Usage = Unit {0}
IsOther TakeFault = Unit {0}
IsOther GiveFault = Unit {0}
IsOther TooLong = Unit {0}
IsOther Exists = Unit {0}
IsOther _ = ⊥

pub status_not : (r : Status) (e : StoreFault) → r ≡ status_for e → (other : Status) → IsOther other → r ≢ other
status_not r e is Done o same = not_done e (sym is ∙ same)
status_not r e is Usage o same = not_usage e (sym is ∙ same)
status_not r e is TakeFault o same = not_take e (sym is ∙ same)
status_not r e is GiveFault o same = not_give e (sym is ∙ same)
status_not r e is TooLong o same = not_long e (sym is ∙ same)
status_not r e is Exists o same = not_exists e (sym is ∙ same)
status_not r e is _ o same = absurd o

pub status_rooted : (r : Status) (e : StoreFault) → r ≡ status_for e → r ≡ NoRoot → e ≡ StoreNoRoot
status_rooted r e is same = rooted e (sym is ∙ same)

pub status_damaged : (r : Status) (e : StoreFault) (place : ℕ) → r ≡ status_for e → r ≡ Damaged place → e ≡ StoreDamaged place
status_damaged r e place is same = damaged e place (sym is ∙ same)

-- after each fault but one of the disk
pub start_settled : (r : Status) (e : StoreFault) (P : Type 0) → r ≡ status_for e → (e ≡ StoreDisk) ⊎ P → (r ≡ DiskFault) ⊎ P
start_settled r e P is (inl disk) = inl (is ∙ ap status_for disk)
start_settled r e P is (inr here) = inr here

pub status_disk : (r : Status) (e : StoreFault) → r ≡ status_for e → r ≡ DiskFault → e ≡ StoreDisk
status_disk r e is same = disk e (sym is ∙ same)

pub status_full : (r : Status) (e : StoreFault) (need gap : ℕ) → r ≡ status_for e → r ≡ Full need gap → e ≡ StoreFull need gap
status_full r e need gap is same = full e need gap (sym is ∙ same)

-- the answer to a content that can't be opened yields to memory and to faults of the disk
pub answers_status : {T : Type 0} (r : Status) (e fault : StoreFault) → r ≡ status_for e → (result : Result T StoreFault) → result ≡ Err e → AnswersFault result fault → (r ≡ status_for fault) ⊎ Yields r
answers_status r e fault is result was (inl same) = let f : e ≡ fault = cc in inl (is ∙ ap status_for f)
answers_status r e fault is result was (inr (inl same)) = let f : e ≡ StoreMemory = cc in inr (inl (is ∙ ap status_for f))
answers_status r e fault is result was (inr (inr same)) = let f : e ≡ StoreDisk = cc in inr (inr (is ∙ ap status_for f))

pub outside_opened : (r : Status) (e : StoreFault) → r ≡ status_for e → IsOutside e → EndsOpened r
outside_opened r e is (inl same) = let m : r ≡ Memory = is ∙ ap status_for same in record { rooted = λ other. cc; whole = λ place other. cc }
outside_opened r e is (inr same) = let m : r ≡ DiskFault = is ∙ ap status_for same in record { rooted = λ other. cc; whole = λ place other. cc }

pub outside_completes : (r : Status) (e : StoreFault) (rose : Type 0) → r ≡ status_for e → IsOutside e → (e ≡ StoreDisk → rose) → (rose → ⊥) → Completes r
outside_completes r e rose is (inl same) cause none = inr (inr (inl (is ∙ ap status_for same)))
outside_completes r e rose is (inr same) cause none = absurd (none (cause same))

-- what the making of an index never ends with
pub init_opened : (status : Status) → EndsInit status → EndsOpened status
init_opened status (inl is) = record { rooted = λ other. cc; whole = λ place other. cc }
init_opened status (inr (inl is)) = record { rooted = λ other. cc; whole = λ place other. cc }
init_opened status (inr (inr (inl is))) = record { rooted = λ other. cc; whole = λ place other. cc }
init_opened status (inr (inr (inr (need, gap, is)))) = record { rooted = λ other. cc; whole = λ place other. cc }

pub record NeverInit (status : Status) : Type 0 where
  pub usage : status ≢ Usage
  pub take : status ≢ TakeFault
  pub give : status ≢ GiveFault

pub init_never : (status : Status) → EndsInit status → NeverInit status
init_never status (inl is) = record { usage = λ other. cc; take = λ other. cc; give = λ other. cc }
init_never status (inr (inl is)) = record { usage = λ other. cc; take = λ other. cc; give = λ other. cc }
init_never status (inr (inr (inl is))) = record { usage = λ other. cc; take = λ other. cc; give = λ other. cc }
init_never status (inr (inr (inr (need, gap, is)))) = record { usage = λ other. cc; take = λ other. cc; give = λ other. cc }
