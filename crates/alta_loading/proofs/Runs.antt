-- Loads one after the other.
use Rattle.std.proofs.Common.{◌≡◌, ◌⊎◌, ⊎_elim, inl, inr, ℕ, zero, suc, ◌+◌, ◌<◌, ◌≤◌, List, [], ◌∷◌, ◌++◌, map, take, drop, length, get_or, refl, sym, subst, ap, ◌∙◌, arith, rules, append-nil, append_assoc}
use Rattle.std.specs.Prelude.{Option, Result, Ok, Err, All}
use Rattle.std.proofs.lemmas.List.{map-append}
use Rattle.std.proofs.lemmas.List.Elements.{All-nil, All-cons, All-head, All-tail}
use Rattle.std.proofs.lemmas.List.Sums.{sum_by-append}
use Rattle.alta_disk.specs.Calls.{Reads, Retrieves}
use Rattle.alta_disk.specs.Disk.{DiskState, Same}
use Rattle.alta_disk.proofs.Moments.{passes_same}
use Rattle.alta_level.specs.Stored.{IsListFault, IsListOf}
use Rattle.alta_disk.specs.Answers.{IfDamaged, IsDamaged, IsFound}
use Rattle.alta_loading.specs.Loads.{IsFirstFault, IsWhole, KeepRows, Load, ReadsLists, Tells, list_at, load_at, load_in, load_size, load_sizes, loads_from, number_of, row_from, stored_by}
use Rattle.alta_table.specs.Tables.{Tables}
use Rattle.alta_words.specs.declared.posting.Posting.{Posting}
use Rattle.alta_disk.specs.declared.fault.LoadFault.{LoadFault}
use Rattle.alta_disk.specs.declared.fault.LoadFault.TheVariants as faults

-- ---- faults and whole lists of two runs

pub all_join : (image : List ℕ) (a b : List Load) → All (IsWhole image) a → All (IsWhole image) b → All (IsWhole image) (a ++ b)
all_join image [] b h k = k
all_join image (l ∷ ls) b h k = All-cons (IsWhole image) l (ls ++ b) (All-head (IsWhole image) l ls h) (all_join image ls b (All-tail (IsWhole image) l ls h) k)

pub all_front : (image : List ℕ) (a b : List Load) → All (IsWhole image) (a ++ b) → All (IsWhole image) a
all_front image [] b h = All-nil (IsWhole image)
all_front image (l ∷ ls) b h = All-cons (IsWhole image) l ls (All-head (IsWhole image) l (ls ++ b) h) (all_front image ls b (All-tail (IsWhole image) l (ls ++ b) h))

pub all_back : (image : List ℕ) (a b : List Load) → All (IsWhole image) (a ++ b) → All (IsWhole image) b
all_back image [] b h = h
all_back image (l ∷ ls) b h = all_back image ls b (All-tail (IsWhole image) l (ls ++ b) h)

pub fault_front : (image : List ℕ) (a b : List Load) (p : ℕ) → IsFirstFault image a p → IsFirstFault image (a ++ b) p
fault_front image [] b p f = absurd f
fault_front image (l ∷ ls) b p (inl f) = inl f
fault_front image (l ∷ ls) b p (inr (w, f)) = inr (w, fault_front image ls b p f)

pub fault_back : (image : List ℕ) (a b : List Load) (p : ℕ) → All (IsWhole image) a → IsFirstFault image b p → IsFirstFault image (a ++ b) p
fault_back image [] b p h f = f
fault_back image (l ∷ ls) b p h f = inr (All-head (IsWhole image) l ls h, fault_back image ls b p (All-tail (IsWhole image) l ls h) f)

pub fault_parts : (image : List ℕ) (a b : List Load) (p : ℕ) → IsFirstFault image (a ++ b) p → IsFirstFault image a p ⊎ (All (IsWhole image) a × IsFirstFault image b p)
fault_parts image [] b p f = inr (All-nil (IsWhole image), f)
fault_parts image (l ∷ ls) b p (inl f) = inl (inl f)
fault_parts image (l ∷ ls) b p (inr (w, f)) =
    ⊎_elim (λ g. inl (inr (w, g))) (λ g. inr (All-cons (IsWhole image) l ls w g.0, g.1)) (fault_parts image ls b p f)

-- ---- what two calls tell

-- nothing was loaded
pub tells_none : {X : Type 0} (image : List ℕ) (x : X) → Tells {X = X} image [] (Ok x)
tells_none image x = record { whole = All-nil (IsWhole image); first = tt; only = λ h. tt; damaged = λ p f. absurd f }

-- a call that took memory alone, and found none
pub tells_memory : {X : Type 0} (image : List ℕ) (loads : List Load) → Tells {X = X} image loads (Err faults.Memory)
tells_memory image loads = record { whole = tt; first = tt; only = λ h. tt; damaged = λ p f. tt }

-- the same said of another value
pub tells_value : {X Y : Type 0} (image : List ℕ) (loads : List Load) (x : X) (y : Y) → Tells {X = X} image loads (Ok x) → Tells {X = Y} image loads (Ok y)
tells_value image loads x y h = record { whole = h.whole; first = tt; only = λ a. tt; damaged = λ p f. absurd (h.damaged p f) }

pub tells_fault : {X Y : Type 0} (image : List ℕ) (loads : List Load) (e : LoadFault) → Tells {X = X} image loads (Err e) → Tells {X = Y} image loads (Err e)
tells_fault image loads faults.Disk h = record { whole = tt; first = tt; only = λ a. tt; damaged = λ p f. tt }
tells_fault image loads faults.Memory h = record { whole = tt; first = tt; only = λ a. tt; damaged = λ p f. tt }
tells_fault image loads (faults.Damaged q) h = record { whole = tt; first = h.first; only = h.only; damaged = h.damaged }

-- a call that went well, and then another
pub tells_then : {X Y : Type 0} (image : List ℕ) (a b : List Load) (x : X) (r : Result Y LoadFault) → Tells {X = X} image a (Ok x) → Tells {X = Y} image b r → Tells {X = Y} image (a ++ b) r
tells_then image a b x (Ok y) h k = record {
  whole = all_join image a b h.whole k.whole;
  first = tt;
  only = λ w. tt;
  damaged = λ p f. ⊎_elim (λ g. absurd (h.damaged p g)) (λ g. k.damaged p g.1) (fault_parts image a b p f);
}
tells_then image a b x (Err faults.Disk) h k = record { whole = tt; first = tt; only = λ w. tt; damaged = λ p f. tt }
tells_then image a b x (Err faults.Memory) h k = record { whole = tt; first = tt; only = λ w. tt; damaged = λ p f. tt }
tells_then image a b x (Err (faults.Damaged q)) h k = record {
  whole = tt;
  first = fault_back image a b q h.whole k.first;
  only = λ w. k.only (all_back image a b w);
  damaged = λ p f. ⊎_elim (λ g. absurd (h.damaged p g)) (λ g. k.damaged p g.1) (fault_parts image a b p f);
}

-- a call that failed ends the run
pub tells_ended : {X Y : Type 0} (image : List ℕ) (a b : List Load) (e : LoadFault) → Tells {X = X} image a (Err e) → Tells {X = Y} image (a ++ b) (Err e)
tells_ended image a b faults.Disk h = record { whole = tt; first = tt; only = λ w. tt; damaged = λ p f. tt }
tells_ended image a b faults.Memory h = record { whole = tt; first = tt; only = λ w. tt; damaged = λ p f. tt }
tells_ended image a b (faults.Damaged q) h = record {
  whole = tt;
  first = fault_front image a b q h.first;
  only = λ w. h.only (all_front image a b w);
  damaged = λ p f. ⊎_elim (λ g. h.damaged p g) (λ g. absurd (h.only g.0)) (fault_parts image a b p f);
}

-- ---- what two calls read

pub reads_none : (tells : Type 0) (s : DiskState) → Reads tells 0 s s
reads_none tells s = record {
  content = λ t. refl;
  images = record {
    later = omega arith;
    now = λ c here. (c, here, refl);
    between = λ t c le left. inl left;
    keeps = λ t c le left. left;
  };
  costs = record { faults = omega arith; taken_up = omega arith; taken = omega arith; limit = refl };
}

pub reads_then : (tells : Type 0) (m n k : ℕ) (a b c : DiskState) → m + n ≡ k → Reads tells m a b → Reads tells n b c → Reads tells k a c
reads_then tells m n k a b c e one two = record {
  content = λ t. two.content t ∙ one.content t;
  images = passes_same a b c Same one.images two.images;
  costs = record {
    faults = omega (arith, one.costs.faults, two.costs.faults);
    taken_up = omega (arith, one.costs.taken_up, two.costs.taken_up);
    taken = omega (arith, one.costs.taken, two.costs.taken, e);
    limit = two.costs.limit ∙ one.costs.limit;
  };
}

-- it read no more than this
pub reads_most : (tells : Type 0) (m n : ℕ) (a b : DiskState) → m ≤ n → Reads tells m a b → Reads tells n a b
reads_most tells m n a b le one = record {
  content = one.content;
  images = one.images;
  costs = record {
    faults = one.costs.faults;
    taken_up = one.costs.taken_up;
    taken = omega (arith, one.costs.taken, le);
    limit = one.costs.limit;
  };
}

-- a call that failed, behind another
retrieves_then : {X Y : Type 0} (tells : Type 0) (m n k : ℕ) (a b c : DiskState) (e : LoadFault) → m + n ≤ k → Reads tells m a b → Retrieves {X = X} tells n b c (Err e) → Retrieves {X = Y} tells k a c (Err e)
retrieves_then tells m n k a b c faults.Disk le one two = record {
  reads = reads_most tells (m + n) k a c le (reads_then tells m n (m + n) a b c refl one two.reads);
  cause = λ _. omega (arith, one.costs.faults, two.cause refl);
}
retrieves_then tells m n k a b c faults.Memory le one two = record {
  reads = reads_most tells (m + n) k a c le (reads_then tells m n (m + n) a b c refl one two.reads);
  cause = search rules;
}
retrieves_then tells m n k a b c (faults.Damaged p) le one two = record {
  reads = reads_most tells (m + n) k a c le (reads_then tells m n (m + n) a b c refl one two.reads);
  cause = search rules;
}

-- a call that failed reads as much, whatever it would have answered
pub retrieves_fault : {X Y : Type 0} (tells : Type 0) (bytes : ℕ) (old new : DiskState) (e : LoadFault) → Retrieves {X = X} tells bytes old new (Err e) → Retrieves {X = Y} tells bytes old new (Err e)
retrieves_fault tells bytes old new e h = retrieves_then tells 0 bytes bytes old old new e (omega arith) (reads_none tells old) h

pub loads_fault : {X Y : Type 0} (tells : Type 0) (loads : List Load) (old new : DiskState) (e : LoadFault) → ReadsLists {X = X} tells loads old new (Err e) → ReadsLists {X = Y} tells loads old new (Err e)
loads_fault tells loads old new e h = record {
  retrieves = retrieves_fault tells (load_sizes loads) old new e h.retrieves;
  told = λ t. tells_fault old.content loads e (h.told t);
}

-- a call that went well reads as much, whatever it answers
pub loads_value : {X Y : Type 0} (tells : Type 0) (loads : List Load) (old new : DiskState) (x : X) (y : Y) → Reads tells (load_sizes loads) old new → (tells → Tells {X = X} old.content loads (Ok x))
    → ReadsLists {X = Y} tells loads old new (Ok y)
loads_value tells loads old new x y reads told = record {
  retrieves = record { reads = reads; cause = search rules };
  told = λ t. tells_value old.content loads x y (told t);
}

-- some lists were loaded, all whole, and a call that loads more ends with a fault, before the rest
pub loads_ended : {X Y : Type 0} (tells : Type 0) (done more rest all : List Load) (old mid new : DiskState) (e : LoadFault) → (done ++ more) ++ rest ≡ all → Reads tells (load_sizes done) old mid
    → (tells → Tells {X = Unit {0}} old.content done (Ok tt)) → ReadsLists {X = X} tells more mid new (Err e) → ReadsLists {X = Y} tells all old new (Err e)
loads_ended {X} {Y} tells done more rest all old mid new e same reads told last = record {
  retrieves = retrieves_then tells (load_sizes done) (load_sizes more) (load_sizes all) old mid new e
      (omega (arith, ap load_sizes same, sum_by-append load_size (done ++ more) rest, sum_by-append load_size done more)) reads last.retrieves;
  told = λ h.
      subst (λ (l : List Load). Tells {X = Y} old.content l (Err e)) same
      (tells_ended {X = X} {Y = Y} old.content (done ++ more) rest e
      (tells_then {X = Unit {0}} {Y = X} old.content done more tt (Err e) (told h) (subst (λ (i : List ℕ). Tells {X = X} i more (Err e)) (reads.content h) (last.told h))));
}

-- ---- what is kept

pub keep_join : (a b : List Load) (xs ys : List (List ℕ)) → KeepRows a xs → KeepRows b ys → KeepRows (a ++ b) (xs ++ ys)
keep_join [] b [] ys h k = k
keep_join [] b (x ∷ xs) ys h k = absurd h
keep_join (l ∷ ls) b [] ys h k = absurd h
keep_join (l ∷ ls) b (x ∷ xs) ys (h, hs) k = (h, keep_join ls b xs ys hs k)

-- a list that is not loaded
pub tells_list : {X : Type 0} (image : List ℕ) (load : Load) (e : LoadFault) → IfDamaged {X = Posting} (Err e) (IsListFault load.level.documents (stored_by image load))
    → ((list : List ℕ) → IsListOf load.level.documents (stored_by image load) list → IsFound {X = Posting} (λ posting. posting) (Err e) list)
    → ((p : ℕ) → IsListFault load.level.documents (stored_by image load) p → IsDamaged {X = Posting} (Err e) p) → Tells {X = X} image (load ∷ []) (Err e)
tells_list image load faults.Disk first only damaged = record { whole = tt; first = tt; only = λ w. tt; damaged = λ p f. tt }
tells_list image load faults.Memory first only damaged = record { whole = tt; first = tt; only = λ w. tt; damaged = λ p f. tt }
tells_list image load (faults.Damaged q) first only damaged = record {
  whole = tt;
  first = inl first;
  only = λ w. only _ (All-head (IsWhole image) load [] w);
  damaged = λ p f. ⊎_elim (damaged p) (λ g. absurd g.1) f;
}

-- ---- the lists of levels

-- levels in front, and levels behind
pub loads_split : (n i : ℕ) (levels : List Tables) (term : List ℕ) → loads_from n levels term ≡ loads_from n (take i levels) term ++ loads_from (n + i) (drop i levels) term
loads_split n zero levels term = let here : n ≡ n + 0 = omega arith in ap (λ (k : ℕ). loads_from k levels term) here
loads_split n (suc i) [] term = refl
loads_split n (suc i) (level ∷ levels) term =
    let there : n + 1 + i ≡ n + suc i = omega arith in
    ap (λ l. load_in n level term ++ l) (loads_split (n + 1) i levels term)
    ∙ sym (append_assoc (load_in n level term) (loads_from (n + 1) (take i levels) term) (loads_from (n + 1 + i) (drop i levels) term))
    ∙ ap (λ (k : ℕ). (load_in n level term ++ loads_from (n + 1) (take i levels) term) ++ loads_from k (drop i levels) term) there

-- one level more
loads_next : (n i : ℕ) (levels : List Tables) (term : List ℕ) (x : Tables) → i < length levels → x ≡ get_or levels i x
    → loads_from n (take (suc i) levels) term ≡ loads_from n (take i levels) term ++ load_in (n + i) x term
loads_next n i [] term x l e = absurd (omega (arith, l))
loads_next n zero (level ∷ levels) term x l e =
    let here : n ≡ n + 0 = omega arith in
    append-nil (load_in n level term) ∙ ap (λ (k : ℕ). load_in k level term) here ∙ ap (λ (t : Tables). load_in (n + 0) t term) (sym e)
loads_next n (suc i) (level ∷ levels) term x l e =
    let there : n + 1 + i ≡ n + suc i = omega arith in
    ap (λ m. load_in n level term ++ m) (loads_next (n + 1) i levels term x (omega (arith, l)) e)
    ∙ sym (append_assoc (load_in n level term) (loads_from (n + 1) (take i levels) term) (load_in (n + 1 + i) x term))
    ∙ ap (λ (k : ℕ). (load_in n level term ++ loads_from (n + 1) (take i levels) term) ++ load_in k x term) there

pub loads_more : (i : ℕ) (levels : List Tables) (term : List ℕ) (x : Tables) → i < length levels → x ≡ get_or levels i x
    → loads_from 0 (take (i + 1) levels) term ≡ loads_from 0 (take i levels) term ++ load_in i x term
loads_more i levels term x l e =
    let one : i + 1 ≡ suc i = omega arith in let here : 0 + i ≡ i = omega arith in
    ap (λ (k : ℕ). loads_from 0 (take k levels) term) one ∙ loads_next 0 i levels term x l e ∙ ap (λ (k : ℕ). loads_from 0 (take i levels) term ++ load_in k x term) here

-- one level more: its list, where it has the term
pub loads_at : (i : ℕ) (levels : List Tables) (term : List ℕ) (x : Tables) (row : Option ℕ) → i < length levels → x ≡ get_or levels i x → row ≡ row_from 0 x.terms term
    → loads_from 0 (take i levels) term ++ load_at i x row ≡ loads_from 0 (take (i + 1) levels) term
loads_at i levels term x row l e is =
    ap (λ (r : Option ℕ). loads_from 0 (take i levels) term ++ load_at i x r) is ∙ sym (loads_more i levels term x l e)

-- and the levels behind it
pub loads_whole : (i : ℕ) (levels : List Tables) (term : List ℕ) (x : Tables) (row : Option ℕ) → i < length levels → x ≡ get_or levels i x → row ≡ row_from 0 x.terms term
    → (loads_from 0 (take i levels) term ++ load_at i x row) ++ loads_from (0 + (i + 1)) (drop (i + 1) levels) term ≡ loads_from 0 levels term
loads_whole i levels term x row l e is =
    ap (λ (loads : List Load). loads ++ loads_from (0 + (i + 1)) (drop (i + 1) levels) term) (loads_at i levels term x row l e is) ∙ sym (loads_split 0 (i + 1) levels term)

-- ---- a run of loads

-- These were loaded, all whole, between two states of the disk.
pub record Run (tells : Type 0) (loads : List Load) (numbers : List ℕ) (lists : List (List ℕ)) (old new : DiskState) : Type 0 where
  pub numbers_are : numbers ≡ map number_of loads
  pub lists_are : tells → lists ≡ map (list_at old.content) loads
  pub told : tells → Tells {X = Unit {0}} old.content loads (Ok tt)
  pub kept : KeepRows loads lists
  pub reads : Reads tells (load_sizes loads) old new

pub run_none : (tells : Type 0) (numbers : List ℕ) (lists : List (List ℕ)) (s : DiskState) → numbers ≡ [] → lists ≡ [] → Run tells [] numbers lists s s
run_none tells numbers lists s n l = record {
  numbers_are = n;
  lists_are = λ t. l;
  told = λ t. tells_none s.content tt;
  kept = subst (KeepRows []) (sym l) tt;
  reads = reads_none tells s;
}

module _ (tells : Type 0) (loads : List Load) (numbers : List ℕ) (lists : List (List ℕ)) (old mid : DiskState) (run : Run tells loads numbers lists old mid) (more : List Load) (new : DiskState)
    (reads : Reads tells (load_sizes more) mid new) where
  pub sizes_both : Reads tells (load_sizes (loads ++ more)) old new
  sizes_both = reads_then tells (load_sizes loads) (load_sizes more) (load_sizes (loads ++ more)) old mid new (sym (sum_by-append load_size loads more)) run.reads reads

  -- it goes on
  pub run_on : (ns : List ℕ) (ls : List (List ℕ)) → ns ≡ numbers ++ map number_of more → (tells → ls ≡ lists ++ map (list_at mid.content) more)
      → (tells → Tells {X = Unit {0}} mid.content more (Ok tt)) → ((before : List Load) → KeepRows before lists → KeepRows (before ++ more) ls)
      → Run tells (loads ++ more) ns ls old new
  run_on ns ls n l t k = record {
    numbers_are = n ∙ ap (λ x. x ++ map number_of more) run.numbers_are ∙ sym (map-append number_of loads more);
    lists_are = λ h. l h ∙ ap (λ x. x ++ map (list_at mid.content) more) (run.lists_are h) ∙ ap (λ (i : List ℕ). map (list_at old.content) loads ++ map (list_at i) more) (run.reads.content h)
        ∙ sym (map-append (list_at old.content) loads more);
    told = λ h. tells_then old.content loads more tt (Ok tt) (run.told h) (subst (λ (i : List ℕ). Tells {X = Unit {0}} i more (Ok tt)) (run.reads.content h) (t h));
    kept = k loads run.kept;
    reads = sizes_both;
  }

  -- it ends with a fault, before the rest
  pub run_ended : {X Y : Type 0} (rest all : List Load) (e : LoadFault) → (loads ++ more) ++ rest ≡ all → ReadsLists {X = X} tells more mid new (Err e) → ReadsLists {X = Y} tells all old new (Err e)
  run_ended rest all e a last = loads_ended tells loads more rest all old mid new e a run.reads run.told last

  -- what it read, before the rest
  pub run_cost : (rest all : List Load) → (loads ++ more) ++ rest ≡ all → Reads tells (load_sizes all) old new
  run_cost rest all a =
      reads_most tells (load_sizes (loads ++ more)) (load_sizes all) old new (omega (arith, ap load_sizes a, sum_by-append load_size (loads ++ more) rest)) sizes_both
