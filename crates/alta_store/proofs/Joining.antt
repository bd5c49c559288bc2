-- The join of a store's two oldest levels, and the job of what is held.
use Rattle.std.proofs.Common.{◌≡◌, ◌⊎◌, inl, inr, ⊎_elim, ℕ, zero, suc, ◌+◌, ◌-◌, Bool, Vec, Global, List, [], ◌∷◌, ◌++◌, length, map, take, refl, sym, ◌∙◌, ap, ap₂, subst, arith, Result, Ok, Err}
use Rattle.std.specs.Prelude.{◌&&◌, nat_le, Option, Some, None}
use Rattle.std.specs.List.{All, sum_by}
use Rattle.std.proofs.lemmas.List.{length-drop, length-map}
use Rattle.alta_catalog.specs.Knowing.{gone_of}
use Rattle.alta_codec.specs.Faults.{Rose}
use Rattle.alta_content.specs.Lists.{terms_of as list_terms}
use Rattle.alta_content.specs.TermList.{TermList}
use Rattle.alta_content.specs.declared.content.Content.{Content}
use Rattle.alta_disk.specs.Disk.{DiskState, IsLawful}
use Rattle.alta_disk.specs.Calls.{Reads}
use Rattle.alta_meaning.specs.Broken.{IsBrokenAmong}
use Rattle.alta_meaning.specs.Holding.{Holding, IsHeld, IsJob}
use Rattle.alta_meaning.specs.Levels.{Level}
use Rattle.alta_meaning.specs.Opened.{extent_of}
use Rattle.alta_meaning.specs.Standing.{StandsFor}
use Rattle.alta_meaning.specs.Views.{View}
use Rattle.alta_meaning.specs.Work.{Coming, Job, begun, gone, job_of, oldest_joined, whole_of}
use Rattle.alta_meaning.specs.Working.{IsJoin, oldest_contents, switched}
use Rattle.alta_level.specs.Segments.{rows_of}
use Rattle.alta_meaning.proofs.KeptStates.{switched_is}
use Rattle.alta_meaning.proofs.Tests.{by_test}
use Rattle.alta_disk.specs.Answers.{IfDamaged}
use Rattle.alta_joins.specs.Contents.{AreSegmentsOn, IsContentOf, StandsOn, data_size}
use Rattle.alta_joins.specs.Damages.{FindsDamage, IsFirstDamage}
use Rattle.alta_joins.specs.Jobs.{AreJoinedOn, IsBegun, IsJoining, IsMerging}
use Rattle.alta_disk.specs.declared.fault.LoadFault.{LoadFault}
use Rattle.alta_disk.specs.declared.fault.LoadFault.TheVariants as join_faults
use Rattle.alta_joins.proofs.JoiningLaws.{joining_job, joining_join}
use Rattle.alta_joins.proofs.OpenedLaws.{levels_segments, opened_stand}
use Rattle.alta_merge.specs.Merging.{Merging}
use Rattle.alta_machine.specs.declared.document.State.{State}
use Rattle.alta_store.specs.Agreement.{Agrees, GoesOnOver, Has, IsJobIn, MayGoOn, levels_of}
use Rattle.alta_store.specs.Answers.{of_load}
use Rattle.alta_store.specs.Calls.{ends_join, terms_by, unless_read}
use Rattle.alta_store.specs.Putting.{IsDrained, ReadsLevels}
use Rattle.alta_store.specs.declared.fault.StoreFault.{StoreFault}
use Rattle.alta_store.specs.declared.fault.StoreFault.TheVariants as faults
use Rattle.alta_store.specs.declared.store.Store.{Store}
use Rattle.alta_store.proofs.Agreements.{kept}
use Rattle.alta_store.proofs.GoingOn.{Begins, begins_as}
use Rattle.alta_store.proofs.Holdings.{content_bytes, gone_held, has_of, levels_held}
use Rattle.alta_store.proofs.Room.{le_false, le_true}
use Rattle.alta_table.specs.Tables.{Tables}
use Rattle.alta_table.specs.Terms.{terms_of}
use Rattle.alta_content.specs.Joining.{in_order, joined_in, terms_in}
use Rattle.alta_meaning.proofs.WellLaws.{one_job, no_job}

-- ---- a join of a store's two oldest levels

-- It is the one that goes on, or one that begins; its contents are those on an image.
pub record IsJoinOf (tells : Type 0) (image : List ℕ) (store : Store) (merging : Merging) : Type 0 where
  pub joining : IsJoining (levels_of store) (gone_of store.catalog) merging
  pub over : tells → AreJoinedOn image joining
  pub which : (store.job ≡ Some merging) ⊎ ((store.job ≡ None) × IsBegun joining)

pub some_merging : (a b : Merging) → ◌≡◌ {A = Option Merging} (Some a) (Some b) → a ≡ b
some_merging a b e = cc

no_merging : (a : Merging) → ◌≡◌ {A = Option Merging} None (Some a) → ⊥
no_merging a e = absurd cc

pub join_goes_on : (tells : Type 0) (a : DiskState) (store : Store) → Agrees tells a store → (merging : Merging) → store.job ≡ Some merging → IsJoinOf tells a.content store merging
join_goes_on tells a store agrees merging is = by_job store.job refl agrees.intact.joining agrees.joins
  where
    by_job : (job : Option Merging) → store.job ≡ job → (joining : MayGoOn (levels_of store) (gone_of store.catalog) job) → (tells → GoesOnOver a.content (levels_of store) (gone_of store.catalog) job joining) → IsJoinOf tells a.content store merging
    by_job None none joining over = absurd (no_merging merging (sym none ∙ is))
    by_job (Some other) some joining over =
        subst (IsJoinOf tells a.content store) (some_merging other merging (sym some ∙ is)) (record { joining = joining; over = over; which = inl some })

pub join_begins : (tells : Type 0) (image : List ℕ) (store : Store) (merging : Merging) → store.job ≡ None → Begins tells image (levels_of store) (gone_of store.catalog) merging → IsJoinOf tells image store merging
join_begins tells image store merging none begins = record { joining = begins.0; over = begins.2; which = inr (none, begins.1) }

-- the same of a store whose newest documents were taken out
pub begins_drained : (tells : Type 0) (image : List ℕ) (store now : Store) → IsDrained store now → (merging : Merging) → Begins tells image (levels_of now) (gone_of now.catalog) merging → Begins tells image (levels_of store) (gone_of store.catalog) merging
begins_drained tells image store now drained merging begins =
    begins_as tells image (levels_of now) (levels_of store) (gone_of now.catalog) (gone_of store.catalog) merging (ap (λ (v : Vec Tables Global). v.items) drained.catalog.levels) drained.catalog.gone begins

-- ---- the job of what is held

job_with : Content → Content → List ℕ → ℕ → Job
job_with older newer dead merged = record { older = older; newer = newer; dead = dead; merged = merged }

begun_is : (view : View) (j : Job) (is : IsJob j view) → j.dead ≡ gone view → j.merged ≡ 0 → begun view view.levels ≡ Some j
unfolding job_with
begun_is view j is dead merged =
    ap (begun view) is.oldest
    ∙ ap (λ (x : Job). Some x) (ap₂ (λ (c d : Content). job_with c d (gone view) 0) (sym is.contents.0) (sym is.contents.1) ∙ ap₂ (λ (es : List ℕ) (n : ℕ). job_with j.older j.newer es n) (sym dead) (sym merged))

pub oldest_of : (view : View) (j : Job) → IsJob j view → oldest_contents view ≡ j.older ∷ j.newer ∷ []
oldest_of view j is =
    ap (λ (levels : List Level). map (λ (l : Level). l.content) (take 2 levels)) is.oldest ∙ ap₂ (λ (c d : Content). c ∷ d ∷ []) (sym is.contents.0) (sym is.contents.1)

-- what the two oldest levels become is what the job comes to
pub oldest_whole : (job : Option Job) (view : View) (j : Job) → job_of job view ≡ Some j → oldest_joined job view ≡ whole_of j
oldest_whole (Some other) view j e = ap whole_of (one_job other j e)
oldest_whole None view j e = by_levels view.levels e
  where
    by_levels : (levels : List Level) → begun view levels ≡ Some j → joined_in (map (λ (l : Level). l.content) (take 2 levels)) (gone view) ≡ whole_of j
    by_levels [] e = absurd (no_job j e)
    by_levels (l ∷ []) e = absurd (no_job j e)
    by_levels (l ∷ m ∷ ns) e = ap whole_of (one_job (record { older = l.content; newer = m.content; dead = gone view; merged = 0 }) j e)

-- a switch of the root has the job that it is given
pub switched_job : (limit : ℕ) (held : Holding) (levels : List Coming) (job : Option Job) (then : Holding) → switched limit held levels job ≡ Ok then → then.job ≡ job
switched_job limit held levels job then e = ap (λ (h : Holding). h.job) (switched_is limit held levels job then e).then_is

module _ (tells : Type 0) (a : DiskState) (lawful : IsLawful tells a) (store : Store) (agrees : Agrees tells a store) (merging : Merging) (join : IsJoinOf tells a.content store merging) where
  job_here : (told : tells) (held : Holding) → IsHeld held a.content → IsJob join.joining.job held.view
  job_here told held has =
      joining_job (levels_of store) (gone_of store.catalog) merging join.joining held a.content (content_bytes tells a lawful told) has (levels_held tells a lawful store agrees told held has)
      (gone_held tells a lawful store agrees told held has) (join.over told)

  -- the join is one of the two oldest contents of what is held
  pub join_held : (told : tells) (held : Holding) → IsHeld held a.content → IsJoin held.view (oldest_contents held.view) merging.whole
  join_held told held has =
      joining_join (levels_of store) (gone_of store.catalog) merging join.joining held.view (oldest_of held.view join.joining.job (job_here told held has)) (gone_held tells a lawful store agrees told held has)

  -- and the job of what is held is that join
  pub job_held : (told : tells) (held : Holding) → Has store held a.content → (j : Job) × (job_of held.job held.view ≡ Some j) × IsMerging merging j
  job_held told held has =
      ⊎_elim (λ (goes : store.job ≡ Some merging). by_job held.job refl (subst (λ (m : Option Merging). IsJobIn m held.job) goes has.job))
      (λ begins. by_none held.job refl (subst (λ (m : Option Merging). IsJobIn m held.job) begins.0 has.job) begins.1) join.which
    where
      by_job : (job : Option Job) → held.job ≡ job → IsJobIn (Some merging) job → (j : Job) × (job_of held.job held.view ≡ Some j) × IsMerging merging j
      by_job None e is = absurd is
      by_job (Some j) e is = (j, ap (λ (o : Option Job). job_of o held.view) e, is)

      by_none : (job : Option Job) → held.job ≡ job → IsJobIn None job → IsBegun join.joining → (j : Job) × (job_of held.job held.view ≡ Some j) × IsMerging merging j
      by_none None e is begins = (
        join.joining.job,
        ap (λ (o : Option Job). job_of o held.view) e ∙ begun_is held.view join.joining.job (job_here told held has.is) (begins.0 ∙ gone_held tells a lawful store agrees told held has.is) begins.1,
        join.joining.is,
      )
      by_none (Some j) e is begins = absurd is

  -- what the two oldest levels become is what the join comes to
  pub oldest_held : (told : tells) (held : Holding) → Has store held a.content → oldest_joined held.job held.view ≡ merging.whole
  oldest_held told held has = let j = job_held told held has in oldest_whole held.job held.view j.0 j.1 ∙ sym j.2.whole

-- ---- where a step ends the join

-- the terms of two levels are those of their contents
two_terms : (older newer : Tables) (c d : Content) → IsContentOf older c → IsContentOf newer d → terms_by (older ∷ newer ∷ []) ≡ terms_in (c ∷ d ∷ [])
two_terms older newer c d first second = ap₂ (λ (xs ys : List (List ℕ)). in_order (xs ++ (ys ++ []))) (terms_are older c first) (terms_are newer d second)
  where
    row_terms : (lists : List TermList) → terms_of (rows_of lists) ≡ list_terms lists
    row_terms [] = refl
    row_terms (l ∷ ls) = ap (λ (ts : List (List ℕ)). l.term ∷ ts) (row_terms ls)

    terms_are : (t : Tables) (c : Content) → IsContentOf t c → terms_of t.terms ≡ list_terms c.lists
    terms_are t c is = ap (λ (x : Tables). terms_of x.terms) (sym is.tables) ∙ row_terms c.lists

-- so many terms are left, where those before are merged
terms_left : (all merged n : ℕ) → nat_le (all - merged) n ≡ nat_le all (merged + n)
terms_left all merged n =
    by_test (nat_le all (merged + n)) (λ yes. le_true (all - merged) n (grind (arith, yes)) ∙ sym yes) (λ no. le_false (all - merged) n (grind (arith, no)) ∙ sym no)

-- what the terms of its contents tell of a step, the tables of its levels tell
pub ends_as : (tells : Type 0) (image : List ℕ) (store : Store) (merging : Merging) → IsJoinOf tells image store merging → (n : ℕ) (b : Bool)
    → ((j : Job) → IsMerging merging j → nat_le (length (terms_in (j.older ∷ j.newer ∷ []))) (j.merged + n) ≡ b) → ends_join n store.job (levels_of store) ≡ b
ends_as tells image store merging join n b ends =
    ⊎_elim
    (λ (goes : store.job ≡ Some merging).
    ap (λ (m : Option Merging). ends_join n m (levels_of store)) goes ∙ ap (λ (ts : List (List ℕ)). nat_le (length ts) n) join.joining.is.left
    ∙ ap (λ (k : ℕ). nat_le k n) (length-drop j.merged all) ∙ terms_left (length all) j.merged n ∙ ends j join.joining.is)
    (λ begins.
    let same : n ≡ j.merged + n = omega (arith, begins.1.1) in
    ap (λ (m : Option Merging). ends_join n m (levels_of store)) begins.0 ∙ ap (ends_join n None) join.joining.oldest
    ∙ ap (λ (b : Bool). b && nat_le (length (terms_by (join.joining.older ∷ join.joining.newer ∷ []))) n) (le_true 2 (length (join.joining.older ∷ join.joining.newer ∷ join.joining.more)) (omega arith))
    ∙ ap (λ (ts : List (List ℕ)). nat_le (length ts) n) (two_terms join.joining.older join.joining.newer j.older j.newer join.joining.contents.0 join.joining.contents.1)
    ∙ ap (λ (k : ℕ). nat_le (length all) k) same ∙ ends j join.joining.is)
    join.which
  where
    j : Job
    j = join.joining.job

    all : List (List ℕ)
    all = terms_in (j.older ∷ j.newer ∷ [])

-- ---- the levels that a join reads

pub taken_segments : (n : ℕ) (image : List ℕ) (levels : List Tables) (contents : List Content) → AreSegmentsOn image levels contents → AreSegmentsOn image (take n levels) (take n contents)
taken_segments zero image levels contents are = tt
taken_segments (suc n) image [] [] are = tt
taken_segments (suc n) image [] (c ∷ cs) are = absurd are
taken_segments (suc n) image (l ∷ ls) [] are = absurd are
taken_segments (suc n) image (l ∷ ls) (c ∷ cs) are = (are.0, taken_segments n image ls cs are.1)

module _ (tells : Type 0) (a : DiskState) (lawful : IsLawful tells a) (store : Store) (agrees : Agrees tells a store) where
  -- the levels stand where the disk holds them
  pub levels_stand : tells → All (StandsOn a.content) (levels_of store)
  levels_stand told =
      let holds = agrees.content told in
      subst (All (StandsOn a.content)) (sym holds.keeps.levels) (opened_stand holds.opened a.content (content_bytes tells a lawful told) holds.is)

  -- as many as the root has extents
  pub levels_long : length (levels_of store) ≡ length store.root.levels.items
  levels_long = sym (length-map (levels_of store) extent_of) ∙ ap length agrees.intact.extents

  -- on a disk that stands for a state each level has a segment
  pub segments_here : (s : State) → tells → StandsFor s a.content → (contents : List Content) × AreSegmentsOn a.content (levels_of store) contents
  segments_here s told stands =
      let found = has_of tells a lawful store agrees told s stands in
      let has = found.1.is in (
        map (λ (l : Level). l.content) found.0.view.levels,
        subst (λ (levels : List Tables). AreSegmentsOn a.content levels (map (λ (l : Level). l.content) found.0.view.levels)) (sym (kept store a.content (agrees.content told) has.opened has.is).levels)
            (levels_segments has.opened found.0.view.levels a.content (content_bytes tells a lawful told) has.is has.are),
      )

  pub segments_read : (job : Option Merging) (s : State) → tells → StandsFor s a.content → (contents : List Content) × AreSegmentsOn a.content (unless_read job (take 2 (levels_of store))) contents
  segments_read (Some merging) s told stands = ([], tt)
  segments_read None s told stands = let found = segments_here s told stands in (take 2 found.0, taken_segments 2 a.content (levels_of store) found.0 found.1)

-- the levels of a store whose newest documents were taken out
pub levels_now : (store now : Store) → IsDrained store now → levels_of store ≡ levels_of now
levels_now store now drained = ap (λ (v : Vec Tables Global). v.items) (sym drained.catalog.levels)

-- the join of both, as a call of a store whose newest documents were taken out answers it
pub oldest_joined_now : (tells : Type 0) (a : DiskState) (store now : Store) → Agrees tells a store → IsDrained store now → now.job ≡ store.job → (content : Content)
    → ((merging : Merging) → now.job ≡ Some merging → content ≡ merging.whole)
    → (now.job ≡ None → (merging : Merging) × (joining : IsJoining (levels_of now) (gone_of now.catalog) merging) × IsBegun joining × (tells → AreJoinedOn a.content joining) × (content ≡ merging.whole))
    → (merging : Merging) × IsJoinOf tells a.content store merging × (content ≡ merging.whole)
oldest_joined_now tells a store now agrees drained job_is content goes_on begins = by_job now.job refl
  where
    by_job : (job : Option Merging) → now.job ≡ job → (merging : Merging) × IsJoinOf tells a.content store merging × (content ≡ merging.whole)
    by_job None none =
        let begun = begins none in
        (begun.0, join_begins tells a.content store begun.0 (sym job_is ∙ none) (begins_drained tells a.content store now drained begun.0 (begun.1, begun.2, begun.3)), begun.4)
    by_job (Some merging) some = (merging, join_goes_on tells a store agrees merging (sym job_is ∙ some), goes_on merging some)

-- and the join was taken out beside them
pub joinless : (store now later : Store) → IsDrained store now → later ≡ record now { job = None } → IsDrained store later
joinless store now later drained is =
    subst (IsDrained store) (sym is)
    (record { slot = drained.slot; root = drained.root; listed = drained.listed; tail = drained.tail; sound = drained.sound; catalog = drained.catalog })

-- levels that were read have no damage
pub undamaged_read : {X : Type 0} (tells : Type 0) (joins : List Tables) (a b : DiskState) (x : X) → ReadsLevels tells joins a b (Ok x) → tells → (place : ℕ) → IsFirstDamage a.content joins place → ⊥
undamaged_read tells joins a b x read told place damage = ((read.damage told).damaged place damage).0

-- and as a call of the store itself answers it
pub join_answered : (tells : Type 0) (a : DiskState) (store : Store) → Agrees tells a store → (merging : Merging) → ((other : Merging) → store.job ≡ Some other → ◌≡◌ {A = Result Merging StoreFault} (Ok merging) (Ok other))
    → (store.job ≡ None → (joining : IsJoining (levels_of store) (gone_of store.catalog) merging) × IsBegun joining × (tells → AreJoinedOn a.content joining)) → IsJoinOf tells a.content store merging
join_answered tells a store agrees merging goes_on begins = by_job store.job refl
  where
    one : (x y : Merging) → ◌≡◌ {A = Result Merging StoreFault} (Ok x) (Ok y) → x ≡ y
    one x y e = cc

    by_job : (job : Option Merging) → store.job ≡ job → IsJoinOf tells a.content store merging
    by_job None none = join_begins tells a.content store merging none (begins none)
    by_job (Some other) some = subst (IsJoinOf tells a.content store) (sym (one merging other (goes_on other some))) (join_goes_on tells a store agrees other some)

-- ---- what a call that reads levels answers

pub read_done : {X : Type 0} (tells : Type 0) (levels : List Tables) (a b : DiskState) (x : X) → (tells → FindsDamage {X = X} a.content levels (Ok x)) → Reads tells (sum_by data_size levels) a b → ReadsLevels tells levels a b (Ok x)
read_done {X} tells levels a b x finds reads = record {
  damage = λ told. record {
    first = λ place e. absurd (not_ok (faults.Damaged place) e);
    broken = λ place e. absurd (not_ok (faults.Damaged place) e);
    damaged = λ place damage. absurd ((finds told).damaged place damage);
  };
  whole = λ contents place told are e. not_ok (faults.Damaged place) e;
  unread = λ told none place e. not_ok (faults.Damaged place) e;
  only = tt;
  cause = λ e. absurd (not_ok faults.Disk e);
  reads = reads;
}
  where
    not_ok : (fault : StoreFault) → ◌≡◌ {A = Result X StoreFault} (Ok x) (Err fault) → ⊥
    not_ok fault e = absurd cc

-- nothing but memory was wanting
pub memory_wanting : {X : Type 0} (tells : Type 0) (levels : List Tables) (a b : DiskState) → Reads tells (sum_by data_size levels) a b → ReadsLevels {T = X} tells levels a b (Err faults.Memory)
memory_wanting {X} tells levels a b reads = record {
  damage = λ told. record {
    first = λ place e. absurd (not_place place e);
    broken = λ place e. absurd (not_place place e);
    damaged = λ place damage. (tt, inr (inl (inl refl)));
  };
  whole = λ contents place told are e. not_place place e;
  unread = λ told none place e. not_place place e;
  only = inl (inl refl);
  cause = λ e. absurd (not_disk e);
  reads = reads;
}
  where
    not_place : (place : ℕ) → ◌≡◌ {A = Result X StoreFault} (Err faults.Memory) (Err (faults.Damaged place)) → ⊥
    not_place place e = absurd cc

    not_disk : ◌≡◌ {A = Result X StoreFault} (Err faults.Memory) (Err faults.Disk) → ⊥
    not_disk e = absurd cc

pub read_failed : {X : Type 0} (tells : Type 0) (levels : List Tables) (a b : DiskState) (fault : LoadFault) (other : StoreFault) → other ≡ of_load fault → (tells → FindsDamage {X = X} a.content levels (Err fault))
    → (tells → IfDamaged {X = X} (Err fault) (IsBrokenAmong levels a.content)) → (◌≡◌ {A = Result X LoadFault} (Err fault) (Err join_faults.Disk) → Rose a.faults b.faults) → Reads tells (sum_by data_size levels) a b
    → ReadsLevels {T = X} tells levels a b (Err other)
read_failed {X} tells levels a b fault other is finds broken cause reads = subst (λ (f : StoreFault). ReadsLevels {T = X} tells levels a b (Err f)) (sym is) (by_fault fault finds broken cause)
  where
    same : (f g : StoreFault) → ◌≡◌ {A = Result X StoreFault} (Err f) (Err g) → f ≡ g
    same f g e = cc

    disk_place : (place : ℕ) → faults.Disk ≡ faults.Damaged place → ⊥
    disk_place place e = absurd cc

    one_place : (p q : ℕ) → faults.Damaged p ≡ faults.Damaged q → p ≡ q
    one_place p q e = cc

    damaged_disk : (p : ℕ) → faults.Damaged p ≡ faults.Disk → ⊥
    damaged_disk p e = absurd cc

    by_fault : (f : LoadFault) → (tells → FindsDamage {X = X} a.content levels (Err f)) → (tells → IfDamaged {X = X} (Err f) (IsBrokenAmong levels a.content))
        → (◌≡◌ {A = Result X LoadFault} (Err f) (Err join_faults.Disk) → Rose a.faults b.faults) → ReadsLevels {T = X} tells levels a b (Err (of_load f))
    by_fault join_faults.Disk finds broken cause = record {
      damage = λ told. record {
        first = λ place e. absurd (disk_place place (same faults.Disk (faults.Damaged place) e));
        broken = λ place e. absurd (disk_place place (same faults.Disk (faults.Damaged place) e));
        damaged = λ place damage. (tt, inr (inl (inr refl)));
      };
      whole = λ contents place told are e. disk_place place (same faults.Disk (faults.Damaged place) e);
      unread = λ told none place e. disk_place place (same faults.Disk (faults.Damaged place) e);
      only = inl (inr refl);
      cause = λ e. cause refl;
      reads = reads;
    }
    by_fault join_faults.Memory finds broken cause = memory_wanting tells levels a b reads
    by_fault (join_faults.Damaged p) finds broken cause = record {
      damage = λ told. record {
        first = λ place e. subst (λ (q : ℕ). IsFirstDamage a.content levels q) (one_place p place (same (faults.Damaged p) (faults.Damaged place) e)) (finds told).first;
        broken = λ place e. subst (λ (q : ℕ). IsBrokenAmong levels a.content q) (one_place p place (same (faults.Damaged p) (faults.Damaged place) e)) (broken told);
        damaged = λ place damage. (tt, inl (ap (λ (q : ℕ). faults.Damaged q) ((finds told).damaged place damage)));
      };
      whole = λ contents place told are e. (finds told).undamaged contents are;
      unread = λ told none place e. subst (λ (ls : List Tables). IsFirstDamage a.content ls p) none (finds told).first;
      only = inr (p, refl);
      cause = λ e. absurd (damaged_disk p (same (faults.Damaged p) faults.Disk e));
      reads = reads;
    }
