-- Laws of what lines read that change no index.
use Rattle.std.proofs.Common.{◌≡◌, ◌⊎◌, inl, inr, ℕ, ◌+◌, ◌≤◌, List, [], ◌∷◌, ◌++◌, length, map, refl, ap, sym, subst, ◌∙◌, arith, Result, IfErr}
use Rattle.std.proofs.lemmas.List.Elements.{All-nil, All-cons, All-head, All-tail}
use Rattle.std.specs.List.{All}
use Rattle.alta_content.specs.declared.content.Content.{Content}
use Rattle.alta_disk.specs.Disk.{DiskState, Only}
use Rattle.alta_loading.specs.Loads.{load_sizes}
use Rattle.alta_machine.specs.Command.{Command, adds, deletes, searches, counts, explains, opens, fetches, closes, ranks, flushes, merges, steps, asks_stats, dumps}
use Rattle.alta_machine.specs.Lines.{Reading, asks, refuses, reading_of}
use Rattle.alta_cursors.specs.Open.{AreOpen}
use Rattle.alta_machine.specs.OpenAnswers.{OpenAnswers}
use Rattle.alta_cursors.specs.declared.cursors.OpenCursor.{OpenCursor}
use Rattle.alta_session.specs.Keeping.{clip}
use Rattle.alta_replies.specs.Loading.{Loads, line_loads, loads_in, newest_in}
use Rattle.alta_session.specs.Spending.{session_loads}
use Rattle.alta_machine.specs.Machine.{Looks, LooksIn, Machine, Searches, SearchesIn, step, machine_after}
use Rattle.alta_session.specs.Spending.{KeepsSettled, KeepsStore, OnlyReads, ReadsIn, Spends, line_bytes, lines_bytes}
use Rattle.alta_session.specs.declared.session.Session.{Session}
use Rattle.alta_store.specs.Agreement.{levels_of}
use Rattle.alta_store.specs.declared.fault.StoreFault.{StoreFault}
use Rattle.alta_store.specs.declared.fault.StoreFault.TheVariants.{Memory}
use Rattle.alta_store.specs.declared.store.Store.{Store}
use Rattle.alta_table.specs.Tables.{Tables}
use Rattle.alta_session.proofs.MachineLaws.{reading_clip, step_clip}

-- ---- lines that only read
pub all_first : {X : Type 0} (P : X → Type 0) (xs ys : List X) → All P (xs ++ ys) → All P xs
all_first P [] ys all = All-nil P
all_first P (x ∷ xs) ys all = All-cons P x xs (All-head P x (xs ++ ys) all) (all_first P xs ys (All-tail P x (xs ++ ys) all))

pub all_later : {X : Type 0} (P : X → Type 0) (xs ys : List X) → All P (xs ++ ys) → All P ys
all_later P [] ys all = all
all_later P (x ∷ xs) ys all = all_later P xs ys (All-tail P x (xs ++ ys) all)

pub of_clip : (line : List ℕ) → OnlyReads (clip line) → OnlyReads line
unfolding OnlyReads
of_clip line reads = subst ReadsIn (reading_clip line) reads

pub clip_reads : (line : List ℕ) → OnlyReads line → OnlyReads (clip line)
unfolding OnlyReads
clip_reads line reads = subst ReadsIn (sym (reading_clip line)) reads

all_of_clip : (lines : List (List ℕ)) → All OnlyReads (map clip lines) → All OnlyReads lines
all_of_clip [] all = All-nil OnlyReads
all_of_clip (x ∷ xs) all = All-cons OnlyReads x xs (of_clip x (All-head OnlyReads (clip x) (map clip xs) all)) (all_of_clip xs (All-tail OnlyReads (clip x) (map clip xs) all))

all_clip : (lines : List (List ℕ)) → All OnlyReads lines → All OnlyReads (map clip lines)
all_clip [] all = All-nil OnlyReads
all_clip (x ∷ xs) all = All-cons OnlyReads (clip x) (map clip xs) (clip_reads x (All-head OnlyReads x xs all)) (all_clip xs (All-tail OnlyReads x xs all))

all_same : (xs ys : List (List ℕ)) → map clip xs ≡ map clip ys → All OnlyReads ys → All OnlyReads xs
all_same xs ys same all = all_of_clip xs (subst (λ (l : List (List ℕ)). All OnlyReads l) (sym same) (all_clip ys all))

-- ---- their bytes
bytes_clip : (levels : List Tables) (newest : Content) (m : Machine) (line : List ℕ) → line_bytes levels newest m (clip line) ≡ line_bytes levels newest m line
unfolding line_bytes
bytes_clip levels newest m line = ap (λ (r : Reading). load_sizes (loads_in levels newest (length m.cursors) r)) (reading_clip line)

lines_clip : (levels : List Tables) (newest : Content) (m : Machine) (lines : List (List ℕ)) → lines_bytes levels newest m (map clip lines) ≡ lines_bytes levels newest m lines
lines_clip levels newest m [] = refl
lines_clip levels newest m (x ∷ xs) =
    ap (λ (p : Machine × List ℕ). line_bytes levels newest m (clip x) + lines_bytes levels newest p.0 (map clip xs)) (step_clip m x)
    ∙ ap (λ (n : ℕ). n + lines_bytes levels newest (step m x).0 (map clip xs)) (bytes_clip levels newest m x)
    ∙ ap (λ (n : ℕ). line_bytes levels newest m x + n) (lines_clip levels newest (step m x).0 xs)

bytes_same : (levels : List Tables) (newest : Content) (m : Machine) (xs ys : List (List ℕ)) → map clip xs ≡ map clip ys → lines_bytes levels newest m xs ≡ lines_bytes levels newest m ys
bytes_same levels newest m xs ys same =
    sym (lines_clip levels newest m xs) ∙ ap (λ (l : List (List ℕ)). lines_bytes levels newest m l) same ∙ lines_clip levels newest m ys

bytes_append : (levels : List Tables) (newest : Content) (m : Machine) (xs ys : List (List ℕ)) → lines_bytes levels newest m (xs ++ ys) ≡ lines_bytes levels newest m xs + lines_bytes levels newest (machine_after m xs) ys
bytes_append levels newest m [] ys = omega arith
bytes_append levels newest m (x ∷ xs) ys = omega (arith, bytes_append levels newest (step m x).0 xs ys)

-- ---- what was spent
pub spends_none : (d : DiskState) (session : Session) (m : Machine) (lines : List (List ℕ)) → Spends d d session m lines
spends_none d session m lines all = omega arith

pub spends_clip : (d e : DiskState) (session : Session) (m : Machine) (xs ys : List (List ℕ)) → map clip xs ≡ map clip ys → Spends d e session m xs → Spends d e session m ys
spends_clip d e session m xs ys same spends all = omega (arith, spends (all_same xs ys same all), bytes_same (levels_of session.store) (newest_in session.store) m xs ys same)

pub spends_more : (d e : DiskState) (session : Session) (m : Machine) (xs ys : List (List ℕ)) → Spends d e session m xs → Spends d e session m (xs ++ ys)
spends_more d e session m xs ys spends all = omega (arith, spends (all_first OnlyReads xs ys all), bytes_append (levels_of session.store) (newest_in session.store) m xs ys)

pub spends_on : (d e f : DiskState) (s0 s1 : Session) (m : Machine) (xs ys : List (List ℕ)) → Spends d e s0 m xs → KeepsStore s0 s1 xs → Spends e f s1 (machine_after m xs) ys → Spends d f s0 m (xs ++ ys)
spends_on d e f s0 s1 m xs ys one kept two all =
    let P : Store → Type 0 = λ store. f.taken ≤ e.taken + lines_bytes (levels_of store) (newest_in store) (machine_after m xs) ys in
    let more : P s0.store = subst P (kept (all_first OnlyReads xs ys all)) (two (all_later OnlyReads xs ys all)) in
    omega (arith, one (all_first OnlyReads xs ys all), more, bytes_append (levels_of s0.store) (newest_in s0.store) m xs ys)

pub keeps_clip : (s0 s1 : Session) (xs ys : List (List ℕ)) → map clip xs ≡ map clip ys → KeepsStore s0 s1 xs → KeepsStore s0 s1 ys
keeps_clip s0 s1 xs ys same kept all = kept (all_same xs ys same all)

pub keeps_on : (s0 s1 s2 : Session) (xs ys : List (List ℕ)) → KeepsStore s0 s1 xs → KeepsStore s1 s2 ys → KeepsStore s0 s2 (xs ++ ys)
keeps_on s0 s1 s2 xs ys one two all = two (all_later OnlyReads xs ys all) ∙ one (all_first OnlyReads xs ys all)

-- ---- what stays settled
pub settled_none : (tells : Type 0) (d : DiskState) (lines : List (List ℕ)) → KeepsSettled tells d d lines
settled_none tells d lines all told only = only

pub settled_clip : (tells : Type 0) (d e : DiskState) (xs ys : List (List ℕ)) → map clip xs ≡ map clip ys → KeepsSettled tells d e xs → KeepsSettled tells d e ys
settled_clip tells d e xs ys same settled all told only = settled (all_same xs ys same all) told only

pub settled_more : (tells : Type 0) (d e : DiskState) (xs ys : List (List ℕ)) → KeepsSettled tells d e xs → KeepsSettled tells d e (xs ++ ys)
settled_more tells d e xs ys settled all told only = settled (all_first OnlyReads xs ys all) told only

pub settled_on : (tells : Type 0) (d e f : DiskState) (xs ys : List (List ℕ)) → KeepsSettled tells d e xs → KeepsSettled tells e f ys → KeepsSettled tells d f (xs ++ ys)
settled_on tells d e f xs ys one two all told only = two (all_later OnlyReads xs ys all) told (one (all_first OnlyReads xs ys all) told only)

-- ---- of one line
reads_so : (line : List ℕ) → OnlyReads line → Looks line ⊎ Searches line
unfolding OnlyReads
reads_so line reads = so (reading_of line) reads
  where
    which : (command : Command) → ReadsIn (asks command) → LooksIn (asks command) ⊎ SearchesIn (asks command)
    which (adds name title body) none = absurd none
    which (deletes name) none = absurd none
    which (searches text) reads = inr tt
    which (counts text) reads = inr tt
    which (explains text) reads = inl tt
    which (opens text) reads = inr tt
    which (fetches cursor count) reads = inl tt
    which (closes cursor) reads = inl tt
    which (ranks count text) reads = inr tt
    which flushes none = absurd none
    which merges none = absurd none
    which (steps count) none = absurd none
    which asks_stats reads = inl tt
    which dumps reads = inr tt

    so : (r : Reading) → ReadsIn r → LooksIn r ⊎ SearchesIn r
    so (asks command) reads = which command reads
    so (refuses fault) reads = inl tt

as_many : (cursors : List OpenCursor) (all : List OpenAnswers) → AreOpen cursors all → length cursors ≡ length all
as_many [] [] are = refl
as_many [] (a ∷ all) are = absurd are
as_many (c ∷ cursors) [] are = absurd are
as_many (c ∷ cursors) (a ∷ all) are = omega (arith, as_many cursors all are.1)

bytes_is : (session : Session) (m : Machine) (line : List ℕ) → length session.cursors ≡ length m.cursors → load_sizes (session_loads session line) ≡ line_bytes (levels_of session.store) (newest_in session.store) m line
unfolding line_bytes
bytes_is session m line same = ap (λ (n : ℕ). load_sizes (line_loads (levels_of session.store) (newest_in session.store) n line)) same

pub spends_line : {D : Type 0} (tells : Type 0) (state : D → DiskState) (disk disk_now : D) (session : Session) (m : Machine) (line : List ℕ) (result : Result (List ℕ) StoreFault) → AreOpen session.cursors m.cursors
    → (Looks line → (disk_now ≡ disk) × IfErr result (λ e. e ≡ Memory)) → (Searches line → Loads tells (session_loads session line) (state disk) (state disk_now) result) → Spends (state disk) (state disk_now) session m (line ∷ [])
spends_line tells state disk disk_now session m line result are looks loads all =
    elim (reads_so line (All-head OnlyReads line [] all)) [
      | inl look ↦ omega (arith, ap (λ d. (state d).taken) (looks look).0)
      | inr search ↦ omega (arith, (loads search).reads.costs.taken, bytes_is session m line (as_many session.cursors m.cursors are))
    ]

pub settled_line : {D : Type 0} (tells : Type 0) (state : D → DiskState) (disk disk_now : D) (session : Session) (line : List ℕ) (result : Result (List ℕ) StoreFault) → (Looks line → (disk_now ≡ disk) × IfErr result (λ e. e ≡ Memory))
    → (Searches line → Loads tells (session_loads session line) (state disk) (state disk_now) result) → KeepsSettled tells (state disk) (state disk_now) (line ∷ [])
settled_line {D} tells state disk disk_now session line result looks loads all told only =
    elim (reads_so line (All-head OnlyReads line [] all)) [
      | inl look ↦ subst (λ (d : D). Only (state d).content (state d).images) (sym (looks look).0) only
      | inr search ↦ λ c here.
          let from = (loads search).reads.images.now c here in
          from.2 ∙ only from.0 from.1 ∙ sym ((loads search).reads.content told)
    ]
