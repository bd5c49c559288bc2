-- Flush and step: the newest documents become a level, and a join may come in place of the two oldest.
use Rattle.std.proofs.Common.{◌≡◌, ◌⊎◌, inl, inr, ⊎_elim, ℕ, ◌+◌, ◌<◌, ◌≤◌, Bool, true, false, cond, Vec, Global, List, [], ◌∷◌, length, take, refl, sym, ◌∙◌, ap, ap₂, subst, arith, Result, Ok}
use Rattle.std.specs.Prelude.{◌==◌, ◌&&◌, nat_le, OnOk, Option, None}
use Rattle.std.specs.List.{sum_by}
use Rattle.std.proofs.lemmas.List.{length-map}
use Rattle.alta_content.specs.Parts.{IsPart}
use Rattle.alta_content.specs.declared.content.Content.{Content}
use Rattle.alta_content.specs.declared.document.DocRow.{DocRow}
use Rattle.alta_disk.specs.Calls.{Reads}
use Rattle.alta_disk.specs.Disk.{DiskState, IsLawful}
use Rattle.alta_meaning.specs.Holding.{Holding, IsHeld}
use Rattle.alta_meaning.specs.Levels.{Level}
use Rattle.alta_meaning.specs.Opened.{Opened, IsOpened}
use Rattle.alta_meaning.specs.Standing.{view_of}
use Rattle.alta_meaning.specs.Views.{View}
use Rattle.alta_meaning.specs.Work.{Coming, Job, Task, newest_content, oldest_joined, steps, whole_of}
use Rattle.alta_meaning.specs.Working.{IsJoin, oldest_contents, switched, worked, written}
use Rattle.alta_meaning.proofs.Tests.{apart_test, equal_test}
use Rattle.alta_meaning.proofs.WellLaws.{work_well, written_well}
use Rattle.alta_joins.specs.Contents.{data_size}
use Rattle.alta_joins.specs.Damages.{IsFirstDamage}
use Rattle.alta_joins.specs.Jobs.{AreJoinedOn, IsMerging}
use Rattle.alta_merge.specs.Merging.{Merging}
use Rattle.alta_rewrite.specs.Rewrites.{HaveRows, Replaces, levels_to_come, no_content}
use Rattle.alta_rewrite.specs.declared.levels.NextLevels.{NextLevels}
use Rattle.alta_rewrite.proofs.JoinedLaws.{flush_is, room_is, step_is}
use Rattle.alta_store.specs.Agreement.{Agrees, Has, IsJobIn, levels_of}
use Rattle.alta_store.specs.Calls.{Becomes, Changes, Flushes, HaveLists, IsRewrite, JoinsOldest, NoRefusal, Obeys, Writes, ends_join, flush_joins, is_many, step_joins, unless_read}
use Rattle.alta_store.specs.Putting.{IsDrained, IsGivenBy, MayPut, Puts}
use Rattle.alta_store.specs.declared.fault.StoreFault.{StoreFault}
use Rattle.alta_store.specs.declared.store.Store.{Store}
use Rattle.alta_store.proofs.Agreements.{kept}
use Rattle.alta_store.proofs.Idling.{and_false}
use Rattle.alta_store.proofs.Joining.{IsJoinOf, ends_as, job_held, join_held, oldest_held, switched_job}
use Rattle.alta_store.proofs.Putting.{have_rows}
use Rattle.alta_store.proofs.Room.{le_true}
use Rattle.alta_store.proofs.Rows.{live_newest}
use Rattle.alta_store.proofs.Tasks.{HasNewest, given_stay, held_given, newest_held, newest_there, none_read, stay_may, two_held, two_kind, two_may, two_read}
use Rattle.alta_store.proofs.Working.{Switches, agrees_read, changes_put, changes_read}
use Rattle.alta_table.specs.Tables.{Tables}
use Rattle.alta_content.specs.Joining.{terms_in}

-- a task that reads these levels
abbrev pub ObeysOver : {T : Type 0} → Type 0 → Task → List ℕ → List Tables → DiskState → DiskState → Store → Store → Result T StoreFault → Type 0
ObeysOver tells task image joins a b store later result =
    Changes tells (λ limit held. worked limit held task) (λ limit o outcome. Becomes limit image store.job task o outcome) (λ s. s) NoRefusal 1 joins a b store later result

-- a switch of the root that reads these levels
abbrev pub WritesOver : {T : Type 0} → Type 0 → List Tables → DiskState → DiskState → Store → Store → Result T StoreFault → Type 0
WritesOver tells joins a b store later result = Changes tells written (λ limit o outcome. IsRewrite limit a.content (Flushes store.job) o outcome) (λ s. s) NoRefusal 1 joins a b store later result

-- the two oldest levels, unless they were read as a join began
abbrev pub two_of : Store → List Tables
two_of store = unless_read store.job (take 2 (levels_of store))

-- which are those of the store as its newest documents are taken out
pub two_now : (store now : Store) → IsDrained store now → now.job ≡ store.job → two_of now ≡ two_of store
two_now store now drained job_is =
    ap₂ (λ (job : Option Merging) (levels : List Tables). unless_read job (take 2 levels)) job_is (ap (λ (v : Vec Tables Global). v.items) drained.catalog.levels)

-- there are 16 levels, and one to write
abbrev pub is_many_by : Store → Content → Bool
is_many_by store newest = length (levels_of store) == 16 && nat_le 1 (length newest.documents)

pub few_by : (store : Store) (newest : Content) → (length (levels_of store) < 16) ⊎ (length newest.documents ≡ 0) → is_many_by store newest ≡ false
few_by store newest few =
    ⊎_elim (λ less. ap (λ (b : Bool). b && nat_le 1 (length newest.documents)) (apart_test (length (levels_of store)) 16 (λ e. absurd (omega (arith, less, e)))))
    (λ none. ap (λ (n : ℕ). length (levels_of store) == 16 && nat_le 1 n) none ∙ and_false (length (levels_of store) == 16)) few

pub many_by : (store : Store) (newest : Content) → length (levels_of store) ≡ 16 → 1 ≤ length newest.documents → is_many_by store newest ≡ true
many_by store newest all some =
    ap (λ (b : Bool). b && nat_le 1 (length newest.documents)) (equal_test (length (levels_of store)) 16 all) ∙ le_true 1 (length newest.documents) some

-- a step reads the two oldest levels
pub step_reads : (store : Store) → 2 ≤ length (levels_of store) → step_joins store ≡ two_of store
step_reads store two = ap (λ (b : Bool). cond b (two_of store) []) (le_true 2 (length (levels_of store)) two)

-- a flush reads the two oldest levels exactly there
pub flush_reads : (tells : Type 0) (a : DiskState) (store : Store) → Agrees tells a store → (newest : Content) → HasNewest store newest → (b : Bool) → is_many_by store newest ≡ b → flush_joins store ≡ cond b (two_of store) []
flush_reads tells a store agrees newest has_newest b is =
    ap (λ (c : Bool). cond c (two_of store) [])
    (ap (λ (rows : List DocRow). length (levels_of store) == 16 && nat_le 1 (length rows)) (sym (live_newest store agrees.intact newest has_newest)) ∙ is)

module _ (tells : Type 0) (a : DiskState) (lawful : IsLawful tells a) (store : Store) (agrees : Agrees tells a store) (newest : Content) (has_newest : HasNewest store newest) where
  long_there : (told : tells) (o : Opened) → IsOpened o a.content → (there : List Level) → HaveRows o there → length there ≡ length (levels_of store)
  long_there told o is there have =
      sym (length-map there (λ (l : Level). l.content.documents)) ∙ ap length (sym have.rows) ∙ length-map o.levels (λ (t : Tables). t.documents) ∙ ap length (sym (kept store a.content (agrees.content told) o is).levels)

  many_there : (told : tells) (o : Opened) → IsOpened o a.content → (there : List Level) → HaveRows o there → is_many (view_of o there) ≡ is_many_by store newest
  many_there told o is there have =
      ap (λ (n : ℕ). n == 16 && nat_le 1 (length (newest_content (view_of o there)).documents)) (long_there told o is there have)
      ∙ ap (λ (c : Content). length (levels_of store) == 16 && nat_le 1 (length c.documents)) (sym (newest_there tells a lawful store agrees newest has_newest told o is there have))

  many_held : (told : tells) (held : Holding) → IsHeld held a.content → is_many held.view ≡ is_many_by store newest
  many_held told held has = ap is_many has.view_is ∙ many_there told has.opened has.is held.view.levels (have_rows held a.content has)

  -- ---- all levels stay

  module _ (now : Store) (drained : IsDrained store now) (job_is : now.job ≡ store.job) (part : IsPart newest) (levels : NextLevels) (replaces : Replaces levels 0 no_content newest) (no_part : IsPart no_content)
      (few : (length (levels_of store) < 16) ⊎ (length newest.documents ≡ 0)) (most : length (levels_of store) ≤ 16) where
    abbrev pub stays : MayPut tells a store now levels
    stays = stay_may tells a lawful store agrees now drained job_is newest has_newest part levels replaces no_part few most

    stay_replaces : (view : View) → newest ≡ newest_content view → Replaces levels 0 no_content (newest_content view)
    stay_replaces view same = record { stay_from_is = replaces.stay_from_is; oldest_is = replaces.oldest_is; newest_is = replaces.newest_is ∙ same }

    stay_kind : (told : tells) (o : Opened) → IsOpened o a.content → (there : List Level) → HaveRows o there → Flushes store.job (view_of o there) levels
    stay_kind told o is there have =
        inl (many_there told o is there have ∙ few_by store newest few, stay_replaces (view_of o there) (newest_there tells a lawful store agrees newest has_newest told o is there have))

    stay_switches : (held : Holding) → tells → Has store held a.content → Switches a.limit written now levels held
    stay_switches held told has = record {
      job = held.job;
      is = flush_is a.limit held levels (many_held told held has.is ∙ few_by store newest few)
          (stay_replaces held.view (newest_held tells a lawful store agrees newest has_newest told held has.is));
      given = held_given tells a lawful store agrees levels held has.is
          (given_stay tells a lawful store agrees now drained job_is newest has_newest part levels replaces no_part few most told has.is.opened has.is.is held.view.levels (have_rows held a.content has.is));
      goes = λ then e.
          subst (λ (m : Option Merging). IsJobIn m then.job) (sym job_is) (subst (λ (j : Option Job). IsJobIn store.job j) (sym (switched_job a.limit held (levels_to_come levels held.view) held.job then e)) has.job);
    }

    pub flush_stays : (b : DiskState) → IsLawful tells b → (later : Store) → (u : Result (Unit {0}) StoreFault) → OnOk u (later.job ≡ now.job) → Puts tells levels a b store later u → Writes tells a b store later u
    flush_stays b lawful_b later u job puts =
        subst (λ (joins : List Tables). WritesOver tells joins a b store later u) (sym (flush_reads tells a store agrees newest has_newest false (few_by store newest few)))
        (changes_put tells a b lawful lawful_b store now later levels stays written (λ limit o outcome. IsRewrite limit a.content (Flushes store.job) o outcome) (λ held then spaced well e. written_well a.limit held then spaced well e)
        a.content (λ told. refl) (Flushes store.job) (λ told o is outcome rewrite. rewrite) (λ view levels kind. (store.job, inl kind))
        (λ told o is. let given = stays.given o told is in stay_kind told o is given.0 given.1) (λ told o is. none_read tells a lawful store agrees a.content o (stays.given o told is).0 levels replaces.stay_from_is)
        stay_switches u job puts)

-- ---- a join in place of the two oldest

module _ (tells : Type 0) (a b c : DiskState) (lawful_a : IsLawful tells a) (lawful_b : IsLawful tells b) (lawful_c : IsLawful tells c) (store : Store) (agrees : Agrees tells a store)
    (reads : Reads tells (sum_by data_size (two_of store)) a b) (whole : tells → (place : ℕ) → IsFirstDamage a.content (two_of store) place → ⊥) (merging : Merging) (join : IsJoinOf tells a.content store merging)
    (now : Store) (drained : IsDrained store now) (no_job : now.job ≡ None) (oldest newest : Content) (oldest_is : oldest ≡ merging.whole) (has_newest : HasNewest store newest) (part : IsPart newest)
    (levels : NextLevels) (replaces : Replaces levels 2 oldest newest) (most : length (levels_of store) ≤ 16) where
  abbrev pub agrees_there : Agrees tells b store
  agrees_there = agrees_read tells a b lawful_a lawful_b store agrees (sum_by data_size (two_of store)) reads

  abbrev join_there : IsJoinOf tells b.content store merging
  join_there = record { joining = join.joining; over = λ told. subst (λ (image : List ℕ). AreJoinedOn image join.joining) (sym (reads.content told)) (join.over told); which = join.which }

  abbrev pub joined : MayPut tells b store now levels
  joined = two_may tells b lawful_b store agrees_there now drained no_job merging join.joining oldest newest oldest_is has_newest part levels replaces most

  joined_replaces : (told : tells) (held : Holding) → IsHeld held b.content → (c : Content) → c ≡ merging.whole → Replaces levels 2 c (newest_content held.view)
  joined_replaces told held has c is =
      record { stay_from_is = replaces.stay_from_is; oldest_is = replaces.oldest_is ∙ oldest_is ∙ sym is; newest_is = replaces.newest_is ∙ newest_held tells b lawful_b store agrees_there newest has_newest told held has }

  joined_given : (told : tells) (held : Holding) → IsHeld held b.content → IsGivenBy held.view levels
  joined_given told held has =
      two_held tells b lawful_b store agrees_there now drained no_job merging join.joining oldest newest oldest_is has_newest part levels replaces most told held has
      (subst (IsJoin held.view (oldest_contents held.view)) (sym oldest_is) (join_held tells b lawful_b store agrees_there merging join_there told held has))

  joined_goes : (held then : Holding) → (cs : List Coming) → switched b.limit held cs None ≡ Ok then → IsJobIn now.job then.job
  joined_goes held then cs e =
      subst (λ (m : Option Merging). IsJobIn m then.job) (sym no_job) (subst (λ (j : Option Job). IsJobIn None j) (sym (switched_job b.limit held cs None then e)) tt)

  flush_switches : is_many_by store newest ≡ true → (held : Holding) → tells → Has store held b.content → Switches b.limit written now levels held
  flush_switches many held told has = record {
    job = None;
    is = room_is b.limit held levels (many_held tells b lawful_b store agrees_there newest has_newest told held has.is ∙ many)
        (joined_replaces told held has.is (oldest_joined held.job held.view) (oldest_held tells b lawful_b store agrees_there merging join_there told held has));
    given = joined_given told held has.is;
    goes = λ then e. joined_goes held then (levels_to_come levels held.view) e;
  }

  joined_kind : (told : tells) (o : Opened) (is : IsOpened o b.content) → JoinsOldest store.job (view_of o (joined.given o told is).0) levels
  joined_kind told o is = two_kind tells b lawful_b store agrees_there now drained no_job merging join.joining oldest newest oldest_is has_newest part levels replaces most join.which told o is

  joined_read : (told : tells) (o : Opened) (is : IsOpened o b.content) → HaveLists a.content o (joined.given o told is).0 levels
  joined_read told o is = two_read tells b lawful_b store agrees_there now drained no_job merging join.joining oldest newest oldest_is has_newest part levels replaces most a.content (join.over told) told o is

  -- a flush where there are 16 levels
  pub flush_joined : is_many_by store newest ≡ true → (later : Store) → (u : Result (Unit {0}) StoreFault) → OnOk u (later.job ≡ now.job) → Puts tells levels b c store later u → Writes tells a c store later u
  flush_joined many later u job puts =
      subst (λ (joins : List Tables). WritesOver tells joins a c store later u) (sym (flush_reads tells a store agrees newest has_newest true many))
      (changes_read tells written (λ limit o outcome. IsRewrite limit a.content (Flushes store.job) o outcome) 1 (two_of store) a b c lawful_a lawful_b store later u agrees reads whole
      (changes_put tells b c lawful_b lawful_c store now later levels joined written (λ limit o outcome. IsRewrite limit a.content (Flushes store.job) o outcome) (λ held then spaced well e. written_well b.limit held then spaced well e)
      a.content reads.content (Flushes store.job) (λ told o is outcome rewrite. rewrite) (λ view levels kind. (store.job, inl kind))
      (λ told o is. let given = joined.given o told is in inr (many_there tells b lawful_b store agrees_there newest has_newest told o is given.0 given.1 ∙ many, joined_kind told o is)) joined_read
      (flush_switches many) u job puts))

  -- no term is left
  abbrev HasEnded : ℕ → Type 0
  HasEnded n = (j : Job) → IsMerging merging j → nat_le (length (terms_in (j.older ∷ j.newer ∷ []))) (j.merged + n) ≡ true

  step_switches : (n : ℕ) → HasEnded n → (held : Holding) → tells → Has store held b.content → Switches b.limit (λ limit held. worked limit held (steps n)) now levels held
  step_switches n ended held told has =
      let job = job_held tells b lawful_b store agrees_there merging join_there told held has in
      record {
        job = None;
        is = step_is b.limit held n job.0 levels job.1 (ended job.0 job.2) (joined_replaces told held has.is (whole_of job.0) (sym job.2.whole));
        given = joined_given told held has.is;
        goes = λ then e. joined_goes held then (levels_to_come levels held.view) e;
      }

  -- a step that ends its join
  pub step_joined : (n : ℕ) → HasEnded n → 2 ≤ length (levels_of store) → (later : Store) → (u : Result (Unit {0}) StoreFault) → OnOk u (later.job ≡ now.job) → Puts tells levels b c store later u
      → Obeys tells (steps n) (λ s. s) NoRefusal a c store later u
  step_joined n ended two later u job puts =
      subst (λ (joins : List Tables). ObeysOver tells (steps n) a.content joins a c store later u) (sym (step_reads store two))
      (changes_read tells (λ limit held. worked limit held (steps n)) (λ limit o outcome. Becomes limit a.content store.job (steps n) o outcome) 1 (two_of store) a b c lawful_a lawful_b store later u agrees reads whole
      (changes_put tells b c lawful_b lawful_c store now later levels joined (λ limit held. worked limit held (steps n)) (λ limit o outcome. Becomes limit a.content store.job (steps n) o outcome)
      (λ held then spaced well e. work_well b.limit held then (steps n) spaced well e) a.content reads.content (JoinsOldest store.job)
      (λ told o is outcome rewrite. inr (ap (ends_join n store.job) (sym (kept store b.content (agrees_there.content told) o is).levels) ∙ ends_as tells a.content store merging join n true ended, rewrite))
      (λ view levels kind. (store.job, inr (inl kind))) joined_kind joined_read (step_switches n ended) u job puts))
