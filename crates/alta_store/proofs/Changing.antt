-- Calls that change a store, one behind the other.
use Rattle.std.proofs.Common.{◌≡◌, ◌⊎◌, inl, inr, ⊎_elim, ℕ, ◌+◌, ◌≤◌, Bool, true, false, cond, List, [], refl, sym, ◌∙◌, ap, subst, arith, Result, Ok, Err}
use Rattle.std.specs.Prelude.{◌||◌, not, OnOk, Option, Some}
use Rattle.std.specs.List.{All, sum_by}
use Rattle.alta_codec.specs.Faults.{Rose}
use Rattle.alta_disk.specs.Calls.{Costs}
use Rattle.alta_disk.specs.Disk.{DiskState, IsLawful, LeavesOnly}
use Rattle.alta_disk.proofs.Moments.{leaves_as, leaves_start, leaves_then}
use Rattle.alta_meaning.specs.Chain.{◌>>=◌}
use Rattle.alta_meaning.specs.Holding.{Holding}
use Rattle.alta_meaning.specs.Opened.{Opened, IsOpened, bytes_at, extent_of}
use Rattle.alta_meaning.specs.Standing.{StandsFor, StandsForEither}
use Rattle.alta_meaning.specs.Switching.{with_entry}
use Rattle.alta_meaning.specs.Work.{enters, fits, needs_raise}
use Rattle.alta_meaning.specs.Working.{Full, entered, flushed, worked, written}
use Rattle.alta_meaning.proofs.KeptStates.{by_entries}
use Rattle.alta_joins.specs.Contents.{data_size}
use Rattle.alta_joins.specs.Damages.{IsFirstDamage}
use Rattle.alta_journal.specs.Entry.{KeepsRules}
use Rattle.alta_journal.specs.declared.entry.Entry.{Entry}
use Rattle.alta_merge.specs.Merging.{Merging}
use Rattle.alta_machine.specs.declared.document.State.{State}
use Rattle.alta_store.specs.Agreement.{Agrees, Has, Keeps, MaySpeakOf, MaySpeakOfEither, levels_of}
use Rattle.alta_store.specs.Answers.{IsOutside}
use Rattle.alta_store.specs.Calls.{BecomesEntered, Changes, FindsFirstDamage, GetsRoom, HasSameLevels, IsCause, NoRefusal, Obeys, joined_by, lacks_room}
use Rattle.alta_store.specs.declared.fault.StoreFault.{StoreFault}
use Rattle.alta_store.specs.declared.fault.StoreFault.TheVariants as faults
use Rattle.alta_store.specs.declared.store.Store.{Store}
use Rattle.alta_store.proofs.Agreements.{images_have, images_stand}
use Rattle.alta_store.proofs.Room.{some_before}
use Rattle.alta_table.specs.Tables.{Tables}

abbrev pub Work : Type 0
Work = ℕ → Holding → Result Holding Full

abbrev pub Turns : Type 1
Turns = ℕ → Opened → Result Opened Full → Type 0

-- ---- damage

-- where no level is read, none is found damaged
pub finds_none : {T : Type 0} (refuses : StoreFault → Type 0) (image : List ℕ) (levels : List Tables) (result : Result T StoreFault) → levels ≡ []
    → ((place : ℕ) → result ≡ Err (faults.Damaged place) → ⊥) → FindsFirstDamage refuses image levels result
finds_none refuses image levels result none never = record {
  first = λ place e. absurd (never place e);
  broken = λ place e. absurd (never place e);
  damaged = λ place damage. absurd (subst (λ (ls : List Tables). IsFirstDamage image ls place) none damage);
}

-- what is answered outside of damage, whatever is read
pub finds_outside : {T : Type 0} (refuses : StoreFault → Type 0) (image : List ℕ) (levels : List Tables) (fault : StoreFault) → IsOutside fault
    → ((place : ℕ) → ◌≡◌ {A = Result T StoreFault} (Err fault) (Err (faults.Damaged place)) → ⊥) → FindsFirstDamage {T = T} refuses image levels (Err fault)
finds_outside refuses image levels fault outside never = record {
  first = λ place e. absurd (never place e);
  broken = λ place e. absurd (never place e);
  damaged = λ place damage. (tt, inr (inl outside));
}

-- an outside cause is no damage
pub not_damaged : {T : Type 0} (fault : StoreFault) → IsOutside fault → (place : ℕ) → ◌≡◌ {A = Result T StoreFault} (Err fault) (Err (faults.Damaged place)) → ⊥
not_damaged {T} fault outside place e =
    ⊎_elim (λ (memory : fault ≡ faults.Memory). absurd (not_memory memory)) (λ (disk : fault ≡ faults.Disk). absurd (not_disk disk)) outside
  where
    not_memory : fault ≡ faults.Memory → ⊥
    not_memory is = absurd cc

    not_disk : fault ≡ faults.Disk → ⊥
    not_disk is = absurd cc

cause_as : (refuses refuses' : StoreFault → Type 0) → ((e : StoreFault) → refuses e → refuses' e) → (e : StoreFault) → IsCause refuses e → IsCause refuses' e
cause_as refuses refuses' may e cause = ⊎_elim (λ outside. inl outside) (λ rest. ⊎_elim (λ refused. inr (inl (may e refused))) (λ other. inr (inr other)) rest) cause

damaged_as : (refuses refuses' : StoreFault → Type 0) → ((e : StoreFault) → refuses e → refuses' e) → (place : ℕ) (e : StoreFault) → (e ≡ faults.Damaged place) ⊎ (IsOutside e ⊎ refuses e) → (e ≡ faults.Damaged place) ⊎ (IsOutside e ⊎ refuses' e)
damaged_as refuses refuses' may place e why = ⊎_elim (λ is. inl is) (λ rest. ⊎_elim (λ outside. inr (inl outside)) (λ refused. inr (inr (may e refused))) rest) why

-- ---- nothing was called

-- the levels are the same on one disk
pub stay_here : (tells : Type 0) (a : DiskState) (store later : Store) → levels_of later ≡ levels_of store → HasSameLevels tells a a store later
stay_here tells a store later same = record { tables = same; bytes = λ told k d within. refl }

pub costs_none : (bytes : ℕ) (a : DiskState) → Costs bytes a a
costs_none bytes a = record { faults = omega arith; taken_up = omega arith; taken = omega arith; limit = refl }

-- nothing was to be done
pub changes_idle : (tells : Type 0) (work : Work) (turns : Turns) (bytes : ℕ) (joins : List Tables) (a : DiskState) (store : Store) (u : Unit {0})
    → IsLawful tells a → Agrees tells a store → (tells → joins ≡ []) → ((held : Holding) → tells → Has store held a.content → work a.limit held ≡ Ok held)
    → ((o : Opened) → tells → IsOpened o a.content → turns a.limit o (Ok o) × Keeps store o) → Changes tells work turns (λ s. s) NoRefusal bytes joins a a store store (Ok u)
changes_idle tells work turns bytes joins a store u lawful agrees none same still = record {
  done = record {
    agrees = agrees;
    sound = refl;
    knows = λ s knows. knows;
    levels = λ here. stay_here tells a store store refl;
    works = λ held told has. (held, same held told has, has);
    stands = λ s told stands. stands;
    speaks = λ s told speaks. speaks;
    becomes = λ o told opened. (o, (still o told opened).0, opened, (still o told opened).1);
  };
  failed = record {
    full = λ held need gap told has e. absurd (not_ok (faults.Full need gap) e);
    lacks = λ o need gap told opened e. absurd (not_ok (faults.Full need gap) e);
    narrow = λ need gap told e. absurd (not_ok (faults.Full need gap) e);
    damage = λ told. finds_none NoRefusal a.content joins (Ok u) (none told) (λ place e. not_ok (faults.Damaged place) e);
    undamaged = λ s told stands place e. not_ok (faults.Damaged place) e;
    unread = λ told none place e. not_ok (faults.Damaged place) e;
    still = λ told place e. absurd (not_ok (faults.Damaged place) e);
    unwritten = λ told need gap e. absurd (not_ok (faults.Full need gap) e);
    only = tt;
    cause = λ e. absurd (not_ok faults.Disk e);
  };
  throughout = record {
    images = λ s stands. leaves_start tells a (StandsForEither s s) lawful (λ image here. inl (images_stand tells a s lawful agrees.settled stands image here));
    between = λ s speaks. leaves_start tells a (MaySpeakOfEither s s) lawful (λ image here. inl (images_have tells a (MaySpeakOf s) lawful agrees.settled speaks image here));
    costs = costs_none (bytes + sum_by data_size joins) a;
  };
}
  where
    not_ok : (fault : StoreFault) → ◌≡◌ {A = Result (Unit {0}) StoreFault} (Ok u) (Err fault) → ⊥
    not_ok fault e = absurd cc

-- memory was wanting, and nothing was called
pub changes_wanting : {T : Type 0} (tells : Type 0) (work : Work) (turns : Turns) (bytes : ℕ) (joins : List Tables) (a : DiskState) (store later : Store) (fault : StoreFault)
    → IsLawful tells a → Agrees tells a store → fault ≡ faults.Memory → Changes {T = T} tells work turns (λ s. s) NoRefusal bytes joins a a store later (Err fault)
changes_wanting {T} tells work turns bytes joins a store later fault lawful agrees is = record {
  done = record {
    agrees = tt;
    sound = tt;
    knows = λ s knows. tt;
    levels = tt;
    works = λ held told has. tt;
    stands = λ s told stands. tt;
    speaks = λ s told speaks. tt;
    becomes = λ o told opened. tt;
  };
  failed = record {
    full = λ held need gap told has e. absurd (not_full need gap e);
    lacks = λ o need gap told opened e. absurd (not_full need gap e);
    narrow = λ need gap told e. absurd (not_full need gap e);
    damage = λ told. finds_outside NoRefusal a.content joins fault (inl is) (not_damaged fault (inl is));
    undamaged = λ s told stands place e. not_damaged fault (inl is) place e;
    unread = λ told none place e. not_damaged fault (inl is) place e;
    still = λ told place e. refl;
    unwritten = λ told need gap e. refl;
    only = inl (inl is);
    cause = λ e. absurd (not_disk e);
  };
  throughout = record {
    images = λ s stands. leaves_start tells a (StandsForEither s s) lawful (λ image here. inl (images_stand tells a s lawful agrees.settled stands image here));
    between = λ s speaks. leaves_start tells a (MaySpeakOfEither s s) lawful (λ image here. inl (images_have tells a (MaySpeakOf s) lawful agrees.settled speaks image here));
    costs = costs_none (bytes + sum_by data_size joins) a;
  };
}
  where
    not_full : (need gap : ℕ) → ◌≡◌ {A = Result T StoreFault} (Err fault) (Err (faults.Full need gap)) → ⊥
    not_full need gap e = absurd cc

    not_disk : ◌≡◌ {A = Result T StoreFault} (Err fault) (Err faults.Disk) → ⊥
    not_disk e = absurd cc

-- ---- the same in other words

pub changes_as : {T : Type 0} (tells : Type 0) (work work' : Work) (turns turns' : Turns) (step : State → State) (refuses refuses' : StoreFault → Type 0) (bytes : ℕ) (joins : List Tables) (a b : DiskState) (store later : Store) (result : Result T StoreFault)
    → ((held : Holding) → tells → Has store held a.content → work a.limit held ≡ work' a.limit held) → ((o : Opened) (outcome : Result Opened Full) → tells → IsOpened o a.content → turns a.limit o outcome → turns' a.limit o outcome) → ((e : StoreFault) → refuses e → refuses' e)
    → Changes tells work turns step refuses bytes joins a b store later result → Changes tells work' turns' step refuses' bytes joins a b store later result
changes_as {T} tells work work' turns turns' step refuses refuses' bytes joins a b store later (Ok x) same leads may c = record {
  done = record {
    agrees = c.done.agrees;
    sound = c.done.sound;
    knows = c.done.knows;
    levels = c.done.levels;
    works = λ held told has. let w = c.done.works held told has in (w.0, sym (same held told has) ∙ w.1, w.2);
    stands = c.done.stands;
    speaks = c.done.speaks;
    becomes = λ o told opened. let w = c.done.becomes o told opened in (w.0, leads o (Ok w.0) told opened w.1, w.2, w.3);
  };
  failed = record {
    full = λ held need gap told has e. sym (same held told has) ∙ c.failed.full held need gap told has e;
    lacks = λ o need gap told opened e. leads o (Err (record { need = need; gap = gap })) told opened (c.failed.lacks o need gap told opened e);
    narrow = c.failed.narrow;
    damage = λ told. let d = c.failed.damage told in record { first = d.first; broken = d.broken; damaged = λ place damage. absurd (d.damaged place damage).0 };
    undamaged = c.failed.undamaged;
    unread = c.failed.unread;
    still = c.failed.still;
    unwritten = c.failed.unwritten;
    only = tt;
    cause = c.failed.cause;
  };
  throughout = record {
    images = c.throughout.images;
    between = c.throughout.between;
    costs = c.throughout.costs;
  };
}
changes_as {T} tells work work' turns turns' step refuses refuses' bytes joins a b store later (Err fault) same leads may c = record {
  done = record {
    agrees = tt;
    sound = tt;
    knows = λ s knows. tt;
    levels = tt;
    works = λ held told has. tt;
    stands = λ s told stands. tt;
    speaks = λ s told speaks. tt;
    becomes = λ o told opened. tt;
  };
  failed = record {
    full = λ held need gap told has e. sym (same held told has) ∙ c.failed.full held need gap told has e;
    lacks = λ o need gap told opened e. leads o (Err (record { need = need; gap = gap })) told opened (c.failed.lacks o need gap told opened e);
    narrow = c.failed.narrow;
    damage = λ told. let d = c.failed.damage told in record { first = d.first; broken = d.broken; damaged = λ place damage. (tt, damaged_as refuses refuses' may place fault (d.damaged place damage).1) };
    undamaged = c.failed.undamaged;
    unread = c.failed.unread;
    still = c.failed.still;
    unwritten = c.failed.unwritten;
    only = cause_as refuses refuses' may fault c.failed.only;
    cause = c.failed.cause;
  };
  throughout = record {
    images = c.throughout.images;
    between = c.throughout.between;
    costs = c.throughout.costs;
  };
}

-- what a call that was done answers makes no difference, nor by what it may be refused
pub changes_ok : {T X : Type 0} (tells : Type 0) (work : Work) (turns : Turns) (step : State → State) (refuses refuses' : StoreFault → Type 0) (bytes : ℕ) (joins : List Tables) (a b : DiskState) (store later : Store) (x : T) (y : X)
    → Changes tells work turns step refuses bytes joins a b store later (Ok x) → Changes tells work turns step refuses' bytes joins a b store later (Ok y)
changes_ok {T} {X} tells work turns step refuses refuses' bytes joins a b store later x y c = record {
  done = record {
    agrees = c.done.agrees;
    sound = c.done.sound;
    knows = c.done.knows;
    levels = c.done.levels;
    works = c.done.works;
    stands = c.done.stands;
    speaks = c.done.speaks;
    becomes = c.done.becomes;
  };
  failed = record {
    full = λ held need gap told has e. absurd (not_ok (faults.Full need gap) e);
    lacks = λ o need gap told opened e. absurd (not_ok (faults.Full need gap) e);
    narrow = λ need gap told e. absurd (not_ok (faults.Full need gap) e);
    damage = λ told. record {
      first = λ place e. absurd (not_ok (faults.Damaged place) e);
      broken = λ place e. absurd (not_ok (faults.Damaged place) e);
      damaged = λ place damage. absurd ((c.failed.damage told).damaged place damage).0;
    };
    undamaged = λ s told stands place e. not_ok (faults.Damaged place) e;
    unread = λ told none place e. not_ok (faults.Damaged place) e;
    still = λ told place e. absurd (not_ok (faults.Damaged place) e);
    unwritten = λ told need gap e. absurd (not_ok (faults.Full need gap) e);
    only = tt;
    cause = λ e. absurd (not_ok faults.Disk e);
  };
  throughout = record {
    images = c.throughout.images;
    between = c.throughout.between;
    costs = c.throughout.costs;
  };
}
  where
    not_ok : (fault : StoreFault) → ◌≡◌ {A = Result X StoreFault} (Ok y) (Err fault) → ⊥
    not_ok fault e = absurd cc

pub some_is : {X : Type 0} (x y : X) → Some x ≡ Some y → x ≡ y
some_is x y e = cc

-- the fault of a call that failed, handed on
pub changes_fault : {T X : Type 0} (tells : Type 0) (work : Work) (turns : Turns) (step : State → State) (refuses refuses' : StoreFault → Type 0) (bytes : ℕ) (joins : List Tables) (a b : DiskState) (store later last : Store) (fault other : StoreFault)
    → other ≡ fault → ((e : StoreFault) → refuses e → refuses' e) → Changes {T = T} tells work turns step refuses bytes joins a b store later (Err fault) → Changes {T = X} tells work turns step refuses' bytes joins a b store last (Err other)
changes_fault {T} {X} tells work turns step refuses refuses' bytes joins a b store later last fault other is may c = record {
  done = record {
    agrees = tt;
    sound = tt;
    knows = λ s knows. tt;
    levels = tt;
    works = λ held told has. tt;
    stands = λ s told stands. tt;
    speaks = λ s told speaks. tt;
    becomes = λ o told opened. tt;
  };
  failed = record {
    full = λ held need gap told has e. c.failed.full held need gap told has (carried (faults.Full need gap) e);
    lacks = λ o need gap told opened e. c.failed.lacks o need gap told opened (carried (faults.Full need gap) e);
    narrow = λ need gap told e. c.failed.narrow need gap told (carried (faults.Full need gap) e);
    damage = λ told.
        let d = c.failed.damage told in record {
          first = λ place e. d.first place (carried (faults.Damaged place) e);
          broken = λ place e. d.broken place (carried (faults.Damaged place) e);
          damaged = λ place damage. (
            tt,
            subst (λ (f : StoreFault). (f ≡ faults.Damaged place) ⊎ (IsOutside f ⊎ refuses' f)) (sym is) (damaged_as refuses refuses' may place fault (d.damaged place damage).1),
          );
        };
    undamaged = λ s told stands place e. c.failed.undamaged s told stands place (carried (faults.Damaged place) e);
    unread = λ told none place e. c.failed.unread told none place (carried (faults.Damaged place) e);
    still = λ told place e. c.failed.still told place (carried (faults.Damaged place) e);
    unwritten = λ told need gap e. c.failed.unwritten told need gap (carried (faults.Full need gap) e);
    only = subst (IsCause refuses') (sym is) (cause_as refuses refuses' may fault c.failed.only);
    cause = λ e. c.failed.cause (carried faults.Disk e);
  };
  throughout = record {
    images = c.throughout.images;
    between = c.throughout.between;
    costs = c.throughout.costs;
  };
}
  where
    carried : (f : StoreFault) → ◌≡◌ {A = Result X StoreFault} (Err other) (Err f) → ◌≡◌ {A = Result T StoreFault} (Err fault) (Err f)
    carried f e = ap (λ (g : StoreFault). Err g) (sym is ∙ same other f e)
      where
        same : (g h : StoreFault) → ◌≡◌ {A = Result X StoreFault} (Err g) (Err h) → g ≡ h
        same g h e = cc

-- ---- one behind the other

pub costs_then : (m n : ℕ) (a b c : DiskState) → Costs m a b → Costs n b c → Costs (m + n) a c
costs_then m n a b c one two = record {
  faults = omega (arith, one.faults, two.faults);
  taken_up = omega (arith, one.taken_up, two.taken_up);
  taken = omega (arith, one.taken, two.taken);
  limit = two.limit ∙ one.limit;
}

-- more may be read
pub costs_more : (m n : ℕ) (a b : DiskState) → m ≤ n → Costs m a b → Costs n a b
costs_more m n a b le costs = record { faults = costs.faults; taken_up = costs.taken_up; taken = omega (arith, costs.taken, le); limit = costs.limit }

-- the levels stay, first on one disk and then on the next
stay_then : (tells : Type 0) (a b c : DiskState) (store middle later : Store) → HasSameLevels tells a b store middle → HasSameLevels tells b c middle later → HasSameLevels tells a c store later
stay_then tells a b c store middle later one two = record {
  tables = two.tables ∙ one.tables;
  bytes = λ told k d within. subst (All (λ (level : Tables). bytes_at (extent_of level) c.content ≡ bytes_at (extent_of level) b.content)) one.tables (two.bytes told) k d within ∙ one.bytes told k d within;
}

pub rose_later : (m n k : ℕ) → m ≤ n → Rose n k → Rose m k
rose_later m n k le rose = grind (arith, le, rose)

chain_ok : (work then : Work) (limit : ℕ) (held middle : Holding) → work limit held ≡ Ok middle → (work limit held >>= then limit) ≡ then limit middle
chain_ok work then limit held middle is = ap (λ (r : Result Holding Full). r >>= then limit) is

chain_err : (work then : Work) (limit : ℕ) (held : Holding) (full : Full) → work limit held ≡ Err full → (work limit held >>= then limit) ≡ Err full
chain_err work then limit held full is = ap (λ (r : Result Holding Full). r >>= then limit) is

abbrev pub goes_on : Turns → ℕ → Result Opened Full → Result Opened Full → Type 0
goes_on next limit (Ok q) outcome = next limit q outcome
goes_on next limit (Err full) outcome = outcome ≡ Err full

-- by these turns, and then by the next, where a place was found
abbrev pub through : Turns → Turns → Turns
through turns next = λ limit o outcome. (middle : Result Opened Full) × turns limit o middle × goes_on next limit middle outcome

-- the first failed
pub changes_failed : {T : Type 0} (tells : Type 0) (work then : Work) (turns next : Turns) (step : State → State) (refuses : StoreFault → Type 0) (m n : ℕ) (joins : List Tables) (a b : DiskState) (store middle : Store) (fault : StoreFault)
    → Changes {T = Unit {0}} tells work turns (λ s. s) NoRefusal m joins a b store middle (Err fault)
    → Changes {T = T} tells (λ limit held. work limit held >>= then limit) (through turns next) step refuses (m + n) joins a b store middle (Err fault)
changes_failed {T} tells work then turns next step refuses m n joins a b store middle fault c = record {
  done = record {
    agrees = tt;
    sound = tt;
    knows = λ s knows. tt;
    levels = tt;
    works = λ held told has. tt;
    stands = λ s told stands. tt;
    speaks = λ s told speaks. tt;
    becomes = λ o told opened. tt;
  };
  failed = record {
    full = λ held need gap told has e. chain_err work then a.limit held (record { need = need; gap = gap }) (c.failed.full held need gap told has (carried (faults.Full need gap) e));
    lacks = λ o need gap told opened e. (Err (record { need = need; gap = gap }), c.failed.lacks o need gap told opened (carried (faults.Full need gap) e), refl);
    narrow = λ need gap told e. c.failed.narrow need gap told (carried (faults.Full need gap) e);
    damage = λ told.
        let d = c.failed.damage told in record {
          first = λ place e. d.first place (carried (faults.Damaged place) e);
          broken = λ place e. d.broken place (carried (faults.Damaged place) e);
          damaged = λ place damage. (tt, damaged_as NoRefusal refuses (λ e none. absurd none) place fault (d.damaged place damage).1);
        };
    undamaged = λ s told stands place e. c.failed.undamaged s told stands place (carried (faults.Damaged place) e);
    unread = λ told none place e. c.failed.unread told none place (carried (faults.Damaged place) e);
    still = λ told place e. c.failed.still told place (carried (faults.Damaged place) e);
    unwritten = λ told need gap e. c.failed.unwritten told need gap (carried (faults.Full need gap) e);
    only = cause_as NoRefusal refuses (λ e none. absurd none) fault c.failed.only;
    cause = λ e. c.failed.cause (carried faults.Disk e);
  };
  throughout = record {
    images = λ s stands. leaves_as a b (StandsForEither s s) (StandsForEither s (step s)) (c.throughout.images s stands) (λ image either. ⊎_elim (λ here. inl here) (λ here. inl here) either);
    between = λ s speaks. leaves_as a b (MaySpeakOfEither s s) (MaySpeakOfEither s (step s)) (c.throughout.between s speaks) (λ image either. ⊎_elim (λ here. inl here) (λ here. inl here) either);
    costs = costs_more (m + sum_by data_size joins) (m + n + sum_by data_size joins) a b (omega arith) c.throughout.costs;
  };
}
  where
    carried : (other : StoreFault) → ◌≡◌ {A = Result T StoreFault} (Err fault) (Err other) → ◌≡◌ {A = Result (Unit {0}) StoreFault} (Err fault) (Err other)
    carried other e = ap (λ (f : StoreFault). Err f) (same fault other e)
      where
        same : (f g : StoreFault) → ◌≡◌ {A = Result T StoreFault} (Err f) (Err g) → f ≡ g
        same f g e = cc

-- both were done, or the second failed, which reads no level
module _ (tells : Type 0) (work then : Work) (turns next : Turns) (step : State → State) (refuses : StoreFault → Type 0) (m n : ℕ) (joins : List Tables) (a b c : DiskState) (store middle later : Store) (u : Unit {0})
    (one : Changes tells work turns (λ s. s) NoRefusal m joins a b store middle (Ok u)) (finds : (limit : ℕ) (o : Opened) (full : Full) → next limit o (Err full) → ⊥) where
  abbrev both : Work
  both = λ limit held. work limit held >>= then limit

  -- the second finds its place
  no_want : {T : Type 0} (result : Result T StoreFault) → Changes tells then next step refuses n [] b c middle later result → (need gap : ℕ) → tells → result ≡ Err (faults.Full need gap) → ⊥
  no_want result two need gap told e = let holds = one.done.agrees.content told in finds b.limit holds.opened (record { need = need; gap = gap }) (two.failed.lacks holds.opened need gap told holds.is e)

  images_then : {T : Type 0} (result : Result T StoreFault) → Changes tells then next step refuses n [] b c middle later result → (s : State) → (tells → StandsFor s a.content) → LeavesOnly (StandsForEither s (step s)) a c
  images_then result two s stands =
      leaves_then a b c (StandsForEither s (step s))
      (leaves_as a b (StandsForEither s s) (StandsForEither s (step s)) (one.throughout.images s stands) (λ image either. ⊎_elim (λ here. inl here) (λ here. inl here) either))
      (two.throughout.images s (λ told. one.done.stands s told (stands told)))

  between_then : {T : Type 0} (result : Result T StoreFault) → Changes tells then next step refuses n [] b c middle later result → (s : State) → (tells → MaySpeakOf s a.content) → LeavesOnly (MaySpeakOfEither s (step s)) a c
  between_then result two s speaks =
      leaves_then a b c (MaySpeakOfEither s (step s))
      (leaves_as a b (MaySpeakOfEither s s) (MaySpeakOfEither s (step s)) (one.throughout.between s speaks) (λ image either. ⊎_elim (λ here. inl here) (λ here. inl here) either))
      (two.throughout.between s (λ told. one.done.speaks s told (speaks told)))

  finds_then : {T : Type 0} (result : Result T StoreFault) → Changes tells then next step refuses n [] b c middle later result → tells → FindsFirstDamage refuses a.content joins result
  finds_then result two told = record {
    first = λ place e. absurd (two.failed.unread told refl place e);
    broken = λ place e. absurd (two.failed.unread told refl place e);
    damaged = λ place damage. absurd ((one.failed.damage told).damaged place damage).0;
  }

  costs_both : {T : Type 0} (result : Result T StoreFault) → Changes tells then next step refuses n [] b c middle later result → Costs (m + n + sum_by data_size joins) a c
  costs_both result two =
      costs_more (m + sum_by data_size joins + (n + sum_by data_size [])) (m + n + sum_by data_size joins) a c (omega arith)
      (costs_then (m + sum_by data_size joins) (n + sum_by data_size []) a b c one.throughout.costs two.throughout.costs)

  pub changes_then : {T : Type 0} (result : Result T StoreFault) → OnOk result (later.slot ≡ middle.slot) → Changes tells then next step refuses n [] b c middle later result → Changes tells both (through turns next) step refuses (m + n) joins a c store later result
  changes_then (Ok x) slot two = record {
    done = record {
      agrees = two.done.agrees;
      sound = two.done.sound ∙ one.done.sound;
      knows = λ s knows. two.done.knows s (one.done.knows s knows);
      levels = λ same. stay_then tells a b c store middle later (one.done.levels (sym slot ∙ same)) (two.done.levels slot);
      works = λ held told has.
          let w = one.done.works held told has in
          let v = two.done.works w.0 told w.2 in
          (v.0, chain_ok work then a.limit held w.0 w.1 ∙ ap (λ (limit : ℕ). then limit w.0) (sym one.throughout.costs.limit) ∙ v.1, v.2);
      stands = λ s told stands. two.done.stands s told (one.done.stands s told stands);
      speaks = λ s told speaks. two.done.speaks s told (one.done.speaks s told speaks);
      becomes = λ o told opened.
          let w = one.done.becomes o told opened in
          let v = two.done.becomes w.0 told w.2 in
          (v.0, (Ok w.0, w.1, subst (λ (limit : ℕ). next limit w.0 (Ok v.0)) one.throughout.costs.limit v.1), v.2, v.3);
    };
    failed = record {
      full = λ held need gap told has e. let w = one.done.works held told has in chain_ok work then a.limit held w.0 w.1 ∙ ap (λ (limit : ℕ). then limit w.0) (sym one.throughout.costs.limit) ∙ two.failed.full w.0 need gap told w.2 e;
      lacks = λ o need gap told opened e. absurd (no_want (Ok x) two need gap told e);
      narrow = λ need gap told e. absurd (no_want (Ok x) two need gap told e);
      damage = finds_then (Ok x) two;
      undamaged = λ s told stands place e. two.failed.unread told refl place e;
      unread = λ told none place e. two.failed.unread told refl place e;
      still = λ told place e. absurd (two.failed.unread told refl place e);
      unwritten = λ told need gap e. absurd (no_want (Ok x) two need gap told e);
      only = tt;
      cause = λ e. rose_later a.faults b.faults c.faults one.throughout.costs.faults (two.failed.cause e);
    };
    throughout = record {
      images = images_then (Ok x) two;
      between = between_then (Ok x) two;
      costs = costs_both (Ok x) two;
    };
  }
  changes_then (Err fault) slot two = record {
    done = record {
      agrees = tt;
      sound = tt;
      knows = λ s knows. tt;
      levels = tt;
      works = λ held told has. tt;
      stands = λ s told stands. tt;
      speaks = λ s told speaks. tt;
      becomes = λ o told opened. tt;
    };
    failed = record {
      full = λ held need gap told has e. let w = one.done.works held told has in chain_ok work then a.limit held w.0 w.1 ∙ ap (λ (limit : ℕ). then limit w.0) (sym one.throughout.costs.limit) ∙ two.failed.full w.0 need gap told w.2 e;
      lacks = λ o need gap told opened e. absurd (no_want (Err fault) two need gap told e);
      narrow = λ need gap told e. absurd (no_want (Err fault) two need gap told e);
      damage = finds_then (Err fault) two;
      undamaged = λ s told stands place e. two.failed.unread told refl place e;
      unread = λ told none place e. two.failed.unread told refl place e;
      still = λ told place e. absurd (two.failed.unread told refl place e);
      unwritten = λ told need gap e. absurd (no_want (Err fault) two need gap told e);
      only = two.failed.only;
      cause = λ e. rose_later a.faults b.faults c.faults one.throughout.costs.faults (two.failed.cause e);
    };
    throughout = record {
      images = images_then (Err fault) two;
      between = between_then (Err fault) two;
      costs = costs_both (Err fault) two;
    };
  }

-- ---- an entry, behind a switch of the root where there is no room

-- the work on an entry is a switch where there is no room for it, and then the entry
enter_work : (entry : Entry) (limit : ℕ) (held : Holding) → KeepsRules entry
    → (cond (lacks_room held.view.version held.view.entries entry) (written limit held) (Ok held) >>= λ then. Ok (entered then entry)) ≡ worked limit held (enters entry)
enter_work entry limit held keeps = by_case (needs_raise held.view.version entry) (fits held.view.entries entry) refl
  where
    by_case : (raise room : Bool) → fits held.view.entries entry ≡ room
        → (cond (raise || not room) (written limit held) (Ok held) >>= λ then. Ok (entered then entry))
        ≡ cond raise (written limit held >>= λ then. Ok (entered then entry)) (cond room (Ok (entered held entry)) (flushed limit held >>= λ then. Ok (entered then entry)))
    by_case true room is = refl
    by_case false true is = refl
    by_case false false is = ap (λ (r : Result Holding Full). r >>= λ then. Ok (entered then entry)) (sym (ap (by_entries limit held) (some_before entry keeps held.view.entries is)))

-- what is opened so has the entry then
enter_turns : (image : List ℕ) (going : Option Merging) (entry : Entry) (limit : ℕ) (o : Opened) (roomy outcome : Result Opened Full) → GetsRoom limit image going entry o roomy → goes_on (λ limit o outcome. outcome ≡ Ok (with_entry o entry)) limit roomy outcome
    → BecomesEntered limit image going entry o outcome
enter_turns image going entry limit o (Ok q) outcome room goes = (Ok q, room, goes)
enter_turns image going entry limit o (Err full) outcome room goes = (Err full, room, goes)

-- an entry that is entered finds its place
pub enters_finds : (entry : Entry) (limit : ℕ) (o : Opened) (full : Full) → ◌≡◌ {A = Result Opened Full} (Err full) (Ok (with_entry o entry)) → ⊥
enters_finds entry limit o full e = absurd cc

pub obeys_entry : {T : Type 0} (tells : Type 0) (entry : Entry) → KeepsRules entry → (step : State → State) (a b : DiskState) (store later : Store) (result : Result T StoreFault)
    → Changes tells (λ limit held. cond (lacks_room held.view.version held.view.entries entry) (written limit held) (Ok held) >>= λ then. Ok (entered then entry))
    (through (λ limit o outcome. GetsRoom limit a.content store.job entry o outcome) (λ limit o outcome. outcome ≡ Ok (with_entry o entry))) step NoRefusal (1 + 0) (joined_by store (enters entry)) a b store later result
    → Obeys tells (enters entry) step NoRefusal a b store later result
obeys_entry tells entry keeps step a b store later result c =
    changes_as tells _ _ _ _ step NoRefusal NoRefusal 1 (joined_by store (enters entry)) a b store later result (λ held told has. enter_work entry a.limit held keeps)
    (λ o outcome told opened turned. enter_turns a.content store.job entry a.limit o turned.0 outcome turned.1 turned.2)
    (λ e refused. refused) c

-- by an entry that is the same
pub obeys_as : {T : Type 0} (tells : Type 0) (entry other : Entry) (step : State → State) (refuses : StoreFault → Type 0) (a b : DiskState) (store later : Store) (result : Result T StoreFault) → entry ≡ other
    → Obeys tells (enters entry) step refuses a b store later result → Obeys tells (enters other) step refuses a b store later result
obeys_as tells entry other step refuses a b store later result is obeys = subst (λ (e : Entry). Obeys tells (enters e) step refuses a b store later result) is obeys
