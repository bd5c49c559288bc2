-- Laws of calls that load lists.
use Rattle.std.proofs.Common.{◌≡◌, ◌⊎◌, ℕ, ◌<◌, ◌≤◌, inl, inr, ⊎_elim, List, [], Bool, true, false, cond, length, refl, ap, sym, subst, arith, Result, Ok, Err, IfOk, IfErr}
use Rattle.std.specs.Prelude.{nat_le}
use Rattle.std.proofs.lemmas.Bool.Decides.{nat_tests}
use Rattle.std.proofs.lemmas.List.Elements.{All-nil}
use Rattle.std.proofs.lemmas.Result.{IfOk-weaker}
use Rattle.alta_catalog.specs.Knowing.{gone_of}
use Rattle.alta_codec.specs.Faults.{Rose}
use Rattle.alta_machine.specs.PlanOf.{plan_of}
use Rattle.alta_disk.specs.Calls.{Reads}
use Rattle.alta_disk.specs.Disk.{DiskState, IsLawful}
use Rattle.alta_disk.proofs.Moments.{only_same}
use Rattle.alta_disk.specs.Answers.{IfDamaged}
use Rattle.alta_loading.specs.Loads.{Load, Tells, IsFirstFault, IsWhole, load_sizes}
use Rattle.alta_disk.specs.declared.fault.LoadFault.{LoadFault}
use Rattle.alta_disk.specs.declared.fault.LoadFault.TheVariants.{Disk as LoadDisk, Memory as LoadMemory, Damaged as LoadDamaged}
use Rattle.alta_loading.specs.declared.kept.KeptLists.{KeptLists}
use Rattle.alta_loading.proofs.Runs.{reads_none, reads_most}
use Rattle.alta_meaning.specs.Standing.{StandsFor}
use Rattle.alta_machine.specs.declared.document.State.{State}
use Rattle.alta_query.specs.Answer.{IsMemory, fault_in}
use Rattle.alta_machine.specs.QueryFaults.{Fault}
use Rattle.alta_machine.specs.Queries.{query_of}
use Rattle.alta_machine.specs.Shape.{Shape}
use Rattle.alta_machine.specs.declared.cause.Cause.TheVariants.{Memory as WantsMemory}
use Rattle.alta_query.specs.declared.fault.QueryFault.{QueryFault}
use Rattle.alta_machine.specs.declared.test.Test.{Test}
use Rattle.alta_cursors.specs.declared.cursors.OpenCursor.{OpenCursor}
use Rattle.alta_machine.specs.declared.cursors.TheConstants.{CURSORS}
use Rattle.alta_replies.specs.Loading.{Loads, LoadsKept, KeptHolds, Queries, loads_of_text, newest_in, open_loads, query_loads, ranked_loads_of_text, ranked_query_loads, search_loads, text_loads, top_loads, top_text_loads}
use Rattle.alta_store.specs.Answers.{of_load, AnswersFault, IsOutside}
use Rattle.alta_machine.specs.Machine.{IsRefusal}
use Rattle.alta_machine.specs.Searching.{IsNoQuery}
use Rattle.alta_journal.specs.Journal.{StandsAhead}
use Rattle.alta_store.specs.Agreement.{Agrees, GoesOnOver, KeepsOpened, levels_of}
use Rattle.alta_store.specs.declared.fault.StoreFault.{StoreFault}
use Rattle.alta_store.specs.declared.fault.StoreFault.TheVariants.{Disk, Memory, Damaged}
use Rattle.alta_store.specs.declared.store.Store.{Store}

err_weaker : {T E : Type 0} (r : Result T E) (P Q : E → Type 0) → ((e : E) → P e → Q e) → IfErr r P → IfErr r Q
err_weaker (Ok x) P Q weaker here = tt
err_weaker (Err e) P Q weaker here = weaker e here

-- ---- where a fault is answered

pub ok_answers : {T : Type 0} (x : T) (fault : StoreFault) (result : Result T StoreFault) → result ≡ Ok x → AnswersFault result fault → ⊥
ok_answers x fault result was (inl same) = cc
ok_answers x fault result was (inr (inl same)) = cc
ok_answers x fault result was (inr (inr same)) = cc

pub err_answers : {T U : Type 0} (e fault : StoreFault) (result : Result T StoreFault) → result ≡ Err e → AnswersFault result fault → AnswersFault {T = U} (Err e) fault
err_answers e fault result was (inl same) = let f : e ≡ fault = cc in inl (ap Err f)
err_answers e fault result was (inr (inl same)) = let f : e ≡ Memory = cc in inr (inl (ap Err f))
err_answers e fault result was (inr (inr same)) = let f : e ≡ Disk = cc in inr (inr (ap Err f))

-- ---- what was answered

-- nothing was called, and memory was wanting
pub loads_memory : {X : Type 0} (tells : Type 0) (loads : List Load) (d : DiskState) → Loads {X = X} tells loads d d (Err Memory)
loads_memory tells loads d = record {
  reads = reads_most tells 0 (load_sizes loads) d d (omega arith) (reads_none tells d);
  only = inl (inl refl);
  whole = λ tell. tt;
  first = λ place tell is. absurd cc;
  damaged = λ place tell fault. inr (inl refl);
  cause = λ is. absurd cc;
}

-- there was nothing to load
pub loads_idle : {X : Type 0} (tells : Type 0) (d : DiskState) (result : Result X StoreFault) → IfErr result (λ e. e ≡ Memory) → Loads tells [] d d result
loads_idle tells d (Ok x) memory = record {
  reads = reads_none tells d;
  only = tt;
  whole = λ tell. All-nil (IsWhole d.content);
  first = λ place tell is. absurd cc;
  damaged = λ place tell none. absurd none;
  cause = λ is. absurd cc;
}
loads_idle {X} tells d (Err e) memory = subst (λ (f : StoreFault). Loads {X = X} tells [] d d (Err f)) (sym memory) (loads_memory tells [] d)

-- the lists were loaded, and behind them memory alone may have been wanting
pub loads_then : {X Y : Type 0} (tells : Type 0) (loads : List Load) (d e : DiskState) (x : X) (result : Result Y StoreFault) → Loads {X = X} tells loads d e (Ok x) → IfErr result (λ e. e ≡ Memory) → Loads tells loads d e result
loads_then tells loads d e x (Ok y) one memory = record {
  reads = one.reads;
  only = tt;
  whole = one.whole;
  first = λ place tell is. absurd cc;
  damaged = λ place tell fault. absurd (ok_answers x (Damaged place) (Ok x) refl (one.damaged place tell fault));
  cause = λ is. absurd cc;
}
loads_then {Y = Y} tells loads d e x (Err f) one memory = subst (λ (g : StoreFault). Loads {X = Y} tells loads d e (Err g)) (sym memory) (record {
  reads = one.reads;
  only = inl (inl refl);
  whole = λ tell. tt;
  first = λ place tell is. absurd cc;
  damaged = λ place tell fault. inr (inl refl);
  cause = λ is. absurd cc;
})

-- they were not
pub loads_fault : {X Y : Type 0} (tells : Type 0) (loads : List Load) (d e : DiskState) (f : StoreFault) → Loads {X = X} tells loads d e (Err f) → Loads {X = Y} tells loads d e (Err f)
loads_fault tells loads d e f one = record {
  reads = one.reads;
  only = one.only;
  whole = λ tell. tt;
  first = λ place tell is. let same : f ≡ Damaged place = cc in one.first place tell (ap Err same);
  damaged = λ place tell fault. err_answers f (Damaged place) (Err f) refl (one.damaged place tell fault);
  cause = λ is. let same : f ≡ Disk = cc in one.cause (ap Err same);
}

-- of what was loaded of the disk
pub loads_told : {X Y : Type 0} (tells : Type 0) (loads : List Load) (d e : DiskState) (x : X) (y : Y) → Reads tells (load_sizes loads) d e → (tells → Tells {X = X} d.content loads (Ok x)) → Loads {X = Y} tells loads d e (Ok y)
loads_told tells loads d e x y reads told = record {
  reads = reads;
  only = tt;
  whole = λ tell. (told tell).whole;
  first = λ place tell is. absurd cc;
  damaged = λ place tell fault. absurd ((told tell).damaged place fault);
  cause = λ is. absurd cc;
}

pub loads_failed : {X Y : Type 0} (tells : Type 0) (loads : List Load) (d e : DiskState) (f : LoadFault) → Reads tells (load_sizes loads) d e → (tells → Tells {X = X} d.content loads (Err f)) → (f ≡ LoadDisk → Rose d.faults e.faults)
    → Loads {X = Y} tells loads d e (Err (of_load f))
loads_failed tells loads d e LoadDisk reads told cause = record {
  reads = reads;
  only = inl (inr refl);
  whole = λ tell. tt;
  first = λ place tell is. absurd cc;
  damaged = λ place tell fault. inr (inr refl);
  cause = λ is. cause refl;
}
loads_failed tells loads d e LoadMemory reads told cause = record {
  reads = reads;
  only = inl (inl refl);
  whole = λ tell. tt;
  first = λ place tell is. absurd cc;
  damaged = λ place tell fault. inr (inl refl);
  cause = λ is. absurd cc;
}
loads_failed tells loads d e (LoadDamaged p) reads told cause = record {
  reads = reads;
  only = inr (p, refl);
  whole = λ tell. tt;
  first = λ place tell is. let same : p ≡ place = cc in subst (IsFirstFault d.content loads) same (told tell).first;
  damaged = λ place tell fault. inl (ap (λ (n : ℕ). Err (Damaged n)) ((told tell).damaged place fault));
  cause = λ is. absurd cc;
}

-- no list was damaged
no_damage : {X : Type 0} (r : Result X LoadFault) → IfDamaged r (λ place. ⊥) → IfErr r (λ f. IsOutside (of_load f))
no_damage (Ok x) none = tt
no_damage (Err LoadDisk) none = inr refl
no_damage (Err LoadMemory) none = inl refl
no_damage (Err (LoadDamaged place)) none = absurd none

pub outside_of : {X : Type 0} (r : Result X LoadFault) (f : LoadFault) → r ≡ Err f → IfDamaged r (λ place. ⊥) → IsOutside (of_load f)
outside_of {X} r f is none = subst (λ (x : Result X LoadFault). IfErr x (λ g. IsOutside (of_load g))) is (no_damage r none)

-- ---- the lists of a text
pub text_found : (store : Store) (text : List ℕ) (q : Shape) → query_of text ≡ Ok q → text_loads store text ≡ search_loads store (plan_of q)
unfolding loads_of_text
text_found store text q is = ap (query_loads (levels_of store) (newest_in store)) is

pub text_none : (store : Store) (text : List ℕ) (f : Fault) → query_of text ≡ Err f → text_loads store text ≡ []
unfolding loads_of_text
text_none store text f is = ap (query_loads (levels_of store) (newest_in store)) is

pub top_found : (store : Store) (text : List ℕ) (q : Shape) → query_of text ≡ Ok q → top_text_loads store text ≡ top_loads store (plan_of q)
unfolding ranked_loads_of_text
top_found store text q is = ap (ranked_query_loads (levels_of store) (newest_in store)) is

pub top_none : (store : Store) (text : List ℕ) (f : Fault) → query_of text ≡ Err f → top_text_loads store text ≡ []
unfolding ranked_loads_of_text
top_none store text f is = ap (ranked_query_loads (levels_of store) (newest_in store)) is

-- ---- the disk is as it was
pub agrees_read : (tells : Type 0) (bytes : ℕ) (d e : DiskState) (store : Store) → IsLawful tells d → Agrees tells d store → Reads tells bytes d e → Agrees tells e store
agrees_read tells bytes d e store lawful agrees reads = record {
  settled = only_same tells d lawful agrees.settled e reads.images reads.content;
  content = λ tell. subst (KeepsOpened store) (sym (reads.content tell)) (agrees.content tell);
  intact = agrees.intact;
  joins = λ tell. subst (λ (image : List ℕ). GoesOnOver image (levels_of store) (gone_of store.catalog) store.job agrees.intact.joining) (sym (reads.content tell)) (agrees.joins tell);
  ahead = λ tell. subst (StandsAhead store.tail.place store.ahead) (sym (reads.content tell)) (agrees.ahead tell);
}

-- ---- calls that answer a text

-- the lists of a query were loaded
pub loads_same : {X : Type 0} (tells : Type 0) (store : Store) (kept_now : KeptLists) (before after : DiskState) (loads : List Test → List Load) (result : Result X StoreFault) (tests other : List Test) → tests ≡ other
    → LoadsKept tells store kept_now (loads tests) before after result → LoadsKept tells store kept_now (loads other) before after result
loads_same tells store kept_now before after loads result tests other same loaded = subst (λ (t : List Test). LoadsKept tells store kept_now (loads t) before after result) same loaded

pub queries_loaded : {D X : Type 0} (tells : Type 0) (state : D → DiskState) (disk disk_now : D) (store : Store) (kept kept_now : KeptLists) (loads : List Load) (x : X) (result : Result (List ℕ) StoreFault)
    → LoadsKept {X = X} tells store kept_now loads (state disk) (state disk_now) (Ok x) → IfErr result (λ e. e ≡ Memory) → IfOk result (λ reply. IsRefusal reply → ⊥) → Queries tells state disk disk_now store kept kept_now loads ⊥ result
queries_loaded tells state disk disk_now store kept kept_now loads x result one memory other = record {
  loading = record {
    loaded = loads_then tells loads (state disk) (state disk_now) x result one.loaded memory;
    undamaged = λ s tell stands. err_weaker result (λ e. e ≡ Memory) IsOutside (λ e is. inl is) memory;
    known = one.known;
  };
  refused = IfOk-weaker result (λ reply. IsRefusal reply → ⊥) (λ reply. IsRefusal reply → (disk_now ≡ disk) × (kept_now ≡ kept)) (λ reply no refusal. absurd (no refusal)) other;
  idles = λ none. absurd none;
}

-- they were not
pub queries_failed : {D X : Type 0} (tells : Type 0) (state : D → DiskState) (disk disk_now : D) (store : Store) (kept kept_now : KeptLists) (loads : List Load) (f : StoreFault)
    → LoadsKept {X = X} tells store kept_now loads (state disk) (state disk_now) (Err f) → Queries tells state disk disk_now store kept kept_now loads ⊥ (Err f)
queries_failed tells state disk disk_now store kept kept_now loads f one = record {
  loading = record { loaded = loads_fault tells loads (state disk) (state disk_now) f one.loaded; undamaged = one.undamaged; known = one.known };
  refused = tt;
  idles = λ none. absurd none;
}

-- the lists are also written so
known_same : {X : Type 0} (tells : Type 0) (store : Store) (kept_now : KeptLists) (before after : DiskState) (loads now : List Load) (result : Result X StoreFault) → now ≡ loads
    → LoadsKept tells store kept_now loads before after result → LoadsKept tells store kept_now now before after result
known_same tells store kept_now before after loads now result is one = subst (λ (l : List Load). LoadsKept tells store kept_now l before after result) (sym is) one

-- the text is this query
pub queries_found : {D : Type 0} (tells : Type 0) (state : D → DiskState) (disk disk_now : D) (store : Store) (kept kept_now : KeptLists) (loads now : List Load) (idle : Type 0) (result : Result (List ℕ) StoreFault) → now ≡ loads → (idle → ⊥)
    → Queries tells state disk disk_now store kept kept_now loads ⊥ result → Queries tells state disk disk_now store kept kept_now now idle result
queries_found tells state disk disk_now store kept kept_now loads now idle result is busy one = record {
  loading = known_same tells store kept_now (state disk) (state disk_now) loads now result is one.loading;
  refused = one.refused;
  idles = λ none. absurd (busy none);
}

pub is_query : (text : List ℕ) (q : Shape) → query_of text ≡ Ok q → IsNoQuery text → ⊥
is_query text q is (f, none) = cc

-- it is none, or memory was wanting for it
idle_loads : {X : Type 0} (tells : Type 0) (d : DiskState) (loads : List Load) (result : Result X StoreFault) → IfErr result (λ e. e ≡ Memory) → IfOk result (λ x. loads ≡ []) → Loads tells loads d d result
idle_loads {X} tells d loads (Ok x) memory none = subst (λ (l : List Load). Loads {X = X} tells l d d (Ok x)) (sym none) (loads_idle tells d (Ok x) tt)
idle_loads {X} tells d loads (Err e) memory none = subst (λ (f : StoreFault). Loads {X = X} tells loads d d (Err f)) (sym memory) (loads_memory tells loads d)

pub queries_idle : {D : Type 0} (tells : Type 0) (state : D → DiskState) (disk : D) (store : Store) (kept : KeptLists) (loads : List Load) (idle : Type 0) (result : Result (List ℕ) StoreFault) → KeptHolds tells (state disk) store kept
    → IfErr result (λ e. e ≡ Memory) → IfOk result (λ x. loads ≡ []) → Queries tells state disk disk store kept kept loads idle result
queries_idle tells state disk store kept loads idle result known memory none = record {
  loading = record {
    loaded = idle_loads tells (state disk) loads result memory none;
    undamaged = λ s tell stands. err_weaker result (λ e. e ≡ Memory) IsOutside (λ e is. inl is) memory;
    known = known;
  };
  refused = IfOk-weaker result (λ x. loads ≡ []) (λ reply. IsRefusal reply → (disk ≡ disk) × (kept ≡ kept)) (λ x is refusal. (refl, refl)) none;
  idles = λ here. (refl, memory);
}

no_loads : (loads : List Load) (text : List ℕ) (e : QueryFault) → ((f : Fault) → query_of text ≡ Err f → loads ≡ []) → IsMemory e ⊎ (query_of text ≡ Err (fault_in e)) → (e.cause ≡ WantsMemory → ⊥) → loads ≡ []
no_loads loads text e none (inl wanting) other = absurd (other (ap (λ (f : QueryFault). f.cause) wanting))
no_loads loads text e none (inr is) other = none (fault_in e) is

none_where : (loads : List Load) (text : List ℕ) (e : QueryFault) (result : Result (List ℕ) StoreFault) → ((f : Fault) → query_of text ≡ Err f → loads ≡ []) → IsMemory e ⊎ (query_of text ≡ Err (fault_in e))
    → IfOk result (λ t. e.cause ≡ WantsMemory → ⊥) → IfOk result (λ x. loads ≡ [])
none_where loads text e result none why other = IfOk-weaker result (λ t. e.cause ≡ WantsMemory → ⊥) (λ t. loads ≡ []) (λ t no. no_loads loads text e none why no) other

pub none_loaded : (store : Store) (text : List ℕ) (e : QueryFault) (result : Result (List ℕ) StoreFault) → IsMemory e ⊎ (query_of text ≡ Err (fault_in e)) → IfOk result (λ t. e.cause ≡ WantsMemory → ⊥) → IfOk result (λ x. text_loads store text ≡ [])
none_loaded store text e result why other = none_where (text_loads store text) text e result (text_none store text) why other

pub none_ranked : (store : Store) (text : List ℕ) (e : QueryFault) (result : Result (List ℕ) StoreFault) → IsMemory e ⊎ (query_of text ≡ Err (fault_in e)) → IfOk result (λ t. e.cause ≡ WantsMemory → ⊥) → IfOk result (λ x. top_text_loads store text ≡ [])
none_ranked store text e result why other = none_where (top_text_loads store text) text e result (top_none store text) why other

-- ---- an open
either_loads : (b : Bool) (a c : List Load) → a ≡ c → cond b [] a ≡ cond b [] c
either_loads b a c is = ap (λ (l : List Load). cond b [] l) is

none_loads : (b : Bool) (a : List Load) → a ≡ [] → cond b [] a ≡ []
none_loads true a is = refl
none_loads false a is = is

pub open_none_loads : (store : Store) (cursors : List OpenCursor) (text : List ℕ) (result : Result (List ℕ) StoreFault) → IfOk result (λ x. text_loads store text ≡ []) → IfOk result (λ x. open_loads store cursors text ≡ [])
open_none_loads store cursors text result none =
    IfOk-weaker result (λ x. text_loads store text ≡ []) (λ x. open_loads store cursors text ≡ []) (λ x is. none_loads (nat_le CURSORS (length cursors)) (text_loads store text) is) none

pub queries_opened : {D : Type 0} (tells : Type 0) (state : D → DiskState) (disk disk_now : D) (store : Store) (kept kept_now : KeptLists) (cursors : List OpenCursor) (text : List ℕ) (q : Shape) (result : Result (List ℕ) StoreFault) → query_of text ≡ Ok q
    → Queries tells state disk disk_now store kept kept_now (cond (nat_le CURSORS (length cursors)) [] (search_loads store (plan_of q))) (CURSORS ≤ length cursors) result
    → Queries tells state disk disk_now store kept kept_now (open_loads store cursors text) (IsNoQuery text ⊎ (CURSORS ≤ length cursors)) result
queries_opened tells state disk disk_now store kept kept_now cursors text q result is one = record {
  loading = known_same tells store kept_now (state disk) (state disk_now) _ (open_loads store cursors text) result (either_loads (nat_le CURSORS (length cursors)) (text_loads store text) (search_loads store (plan_of q)) (text_found store text q is)) one.loading;
  refused = one.refused;
  idles = λ idle. ⊎_elim (λ none. absurd (is_query text q is none)) one.idles idle;
}

fewer_test : (n : ℕ) → n < CURSORS → nat_le CURSORS n ≡ false
fewer_test n less = grind (arith, nat_tests)

full_test : (n : ℕ) → CURSORS ≤ n → nat_le CURSORS n ≡ true
full_test n le = grind (arith, nat_tests)

-- fewer are open than may be
pub fewer_loads : (cursors : List OpenCursor) (loads : List Load) → length cursors < CURSORS → cond (nat_le CURSORS (length cursors)) [] loads ≡ loads
fewer_loads cursors loads fewer = ap (λ (b : Bool). cond b [] loads) (fewer_test (length cursors) fewer)

-- as many are
pub full_loads : (cursors : List OpenCursor) (loads : List Load) → CURSORS ≤ length cursors → cond (nat_le CURSORS (length cursors)) [] loads ≡ []
full_loads cursors loads full = ap (λ (b : Bool). cond b [] loads) (full_test (length cursors) full)

pub all_ok : {T E : Type 0} (r : Result T E) (P : Type 0) → P → IfOk r (λ x. P)
all_ok (Ok x) P here = here
all_ok (Err e) P here = tt
