-- What a call of a rewrite says of what is held.
use Rattle.std.proofs.Common.{◌≡◌, ⊎_elim, inl, inr, ℕ, ◌+◌, ◌-◌, ◌*◌, ◌≤◌, ◌<◌, ◌^◌, List, length, map, refl, sym, ap, subst, ◌∙◌, arith, Result, Ok, Err}
use Rattle.std.specs.Prelude.{Option}
use Rattle.std.specs.List.{All}
use Rattle.std.proofs.lemmas.List.Elements.{All-tail}
use Rattle.std.proofs.lemmas.Simd.{map-map}
use Rattle.alta_layout.specs.Places.{other}
use Rattle.alta_layout.specs.declared.slot.Slot.{Slot}
use Rattle.alta_codec.specs.Bytes.{AreBytes}
use Rattle.alta_codec.specs.Rising.{IsRising}
use Rattle.alta_codec.specs.declared.extent.Extent.{Extent}
use Rattle.alta_disk.proofs.Moments.{leaves_as, leaves_start}
use Rattle.alta_disk.specs.Disk.{DiskState, IsLawful, LeavesOnly, Only, Passes}
use Rattle.alta_disk.specs.Parts.{Touches}
use Rattle.alta_meaning.proofs.SwitchLaws.{slot_spares}
use Rattle.alta_meaning.proofs.Untouched.{IsSame, extents_same}
use Rattle.alta_meaning.proofs.WrittenLaws.{held_stands}
use Rattle.alta_meaning.specs.Chain.{◌>>=◌}
use Rattle.alta_meaning.specs.Holding.{Holding}
use Rattle.alta_meaning.specs.Levels.{Level}
use Rattle.alta_meaning.specs.Opened.{Opened}
use Rattle.alta_meaning.specs.Standing.{StandsFor, StandsForEither, tables_by, view_of}
use Rattle.alta_meaning.specs.Views.{View, state_of}
use Rattle.alta_meaning.specs.Work.{Job, coming}
use Rattle.alta_meaning.specs.Working.{Full, switched}
use Rattle.alta_machine.specs.declared.document.State.{State}
use Rattle.alta_root.proofs.Frames.{counts_sound}
use Rattle.alta_root.proofs.SlotLaws.{one_counts}
use Rattle.alta_root.specs.Root.{extents_of}
use Rattle.alta_root.specs.Slots.{Counts}
use Rattle.alta_root.specs.Switches.{slot_range}
use Rattle.alta_root.specs.declared.places.TheConstants.{DOCUMENT_CELLS, LAST_NEXT}
use Rattle.alta_root.specs.declared.root.Root.{Root}
use Rattle.alta_root.specs.declared.root.Roots.{Roots}
use Rattle.alta_rewrite.specs.Brings.{Brings, Names}
use Rattle.alta_rewrite.specs.Puts.{MayPut, Puts, ranges_before}
use Rattle.alta_rewrite.proofs.RunLaws.{spared}
use Rattle.alta_rewrite.specs.declared.piece.Piece.{Piece}
use Rattle.alta_table.specs.Tables.{Tables}
use Rattle.alta_rewrite.specs.Drafts.{Drafts, IsDraft, pairs_in, pieces_of, rewrite_places, table_to_come}
use Rattle.alta_rewrite.specs.Rewrites.{IsComing, IsGiven, MayRewrite, MayRewriteOpened, levels_to_come, tables_between}
use Rattle.alta_rewrite.specs.declared.draft.Draft.{Draft}
use Rattle.alta_rewrite.specs.declared.ends.Ends.{Ends}
use Rattle.alta_rewrite.specs.declared.fault.RewriteFault.{RewriteFault}
use Rattle.alta_rewrite.specs.declared.fault.RewriteFault.TheVariants as faults
use Rattle.alta_rewrite.specs.declared.levels.NextLevels.{NextLevels}
use Rattle.alta_rewrite.specs.declared.places.Places.{Places}
use Rattle.alta_rewrite.specs.declared.rewriting.Rewritten.{Rewritten}
use Rattle.alta_rewrite.proofs.NameLaws.{brings_held, brings_then, coming_at, coming_by, is_coming, names, view_then}
use Rattle.alta_rewrite.proofs.OpenedLaws.{opened_switch, opened_then, tables_then}
use Rattle.alta_rewrite.proofs.SwitchLaws.{levels_then, then_of}

-- ---- drafts

-- a draft at the limit of the disk
pub drafts_as : (levels : NextLevels) (ends : Ends) (next location limit again : ℕ) → again ≡ limit → (root : Root) (r : Result Draft RewriteFault) → Drafts again root levels ends next location r → Drafts limit root levels ends next location r
drafts_as levels ends next location limit again same root r drafts = subst (λ n. Drafts n root levels ends next location r) same drafts

failed : ℕ → ℕ → Result Places Full
failed need gap = Err (record { need = need; gap = gap })

-- where no place is left
pub full_places : (levels : NextLevels) (ends : Ends) (next location limit : ℕ) (root : Root) (fault : RewriteFault) → Drafts limit root levels ends next location (Err fault) → (need gap : ℕ)
    → ◌≡◌ {A = Result Rewritten RewriteFault} (Err fault) (Err (faults.Full need gap)) → rewrite_places limit root levels ends ≡ Err (record { need = need; gap = gap })
unfolding failed
full_places levels ends next location limit root faults.Disk drafts need gap e = absurd drafts
full_places levels ends next location limit root faults.Memory drafts need gap e = absurd cc
full_places levels ends next location limit root (faults.Full n g) drafts need gap e =
    let needs : n ≡ need = cc in
    let gaps : g ≡ gap = cc in
    drafts ∙ ap (λ x. failed x g) needs ∙ ap (failed need) gaps

-- ---- images

module _ (tells : Type 0) (s : State) (a : DiskState) (lawful : IsLawful tells a) (only : Only a.content a.images) (stands : tells → StandsFor s a.content) where
  -- nothing was called
  pub leaves_same : LeavesOnly (StandsFor s) a a
  leaves_same = leaves_start tells a (StandsFor s) lawful (λ z here. subst (StandsFor s) (sym (only z here)) (stands (lawful.told z here)))

pub leaves_one : (a b : DiskState) (s : State) → LeavesOnly (StandsForEither s s) a b → LeavesOnly (StandsFor s) a b
leaves_one a b s leaves = leaves_as a b (StandsForEither s s) (StandsFor s) leaves (λ z either. ⊎_elim (λ one. one) (λ other. other) either)

-- what follows where the disk tells
pub leaves_told : (tells : Type 0) (a b : DiskState) (P Q : List ℕ → Type 0) (step : List ℕ → List ℕ → Type 0) → IsLawful tells a → Passes step a b → LeavesOnly P a b → (tells → (z : List ℕ) → P z → Q z) → LeavesOnly Q a b
leaves_told tells a b P Q step lawful passes leaves follows = record {
  later = leaves.later;
  each = λ z since. ⊎_elim (λ before. follows (lawful.told z (lawful.only_now z before)) z (leaves.each z since)) (λ (d, here, stepped). follows (lawful.told d here) z (leaves.each z since)) (passes.between a.clock z (omega arith) since);
  between = λ t z le since. ⊎_elim (λ before. inl before) (λ (d, here, stepped). ⊎_elim (λ before. inl before) (λ p. inr (follows (lawful.told d here) z p)) (leaves.between t z le since)) (passes.between t z le since);
  keeps = leaves.keeps;
}

pub held_now : (tells : Type 0) (held : Holding) (levels : NextLevels) (ends : Ends) (next location : ℕ) (old : List ℕ) → (tells → MayRewrite held levels ends next location old) → tells → StandsFor (state_of held.view) old
held_now tells held levels ends next location old may told = held_stands held old (may told).is

pub bytes_now : (tells : Type 0) (a : DiskState) → IsLawful tells a → tells → AreBytes a.content
bytes_now tells a lawful told = lawful.bytes a.clock a.content (lawful.counts_now a.clock a.content (omega arith) (lawful.present told))

-- ---- what was put

pub brings_as : (slot again : Slot) → again ≡ slot → (root : Root) (pieces others : List Piece) → others ≡ pieces → (coming : Opened) (levels : List Level) (s : State) (old : List ℕ) → Brings slot root pieces coming levels s old
    → Brings again root others coming levels s old
brings_as slot again slot_is root pieces others pieces_are coming levels s old brings =
    subst (λ (x : Slot). Brings x root others coming levels s old) (sym slot_is) (subst (λ (ps : List Piece). Brings slot root ps coming levels s old) (sym pieces_are) brings)

pub names_as : (slot again : Slot) → again ≡ slot → (root : Root) (pieces others : List Piece) → others ≡ pieces → (coming : Opened) (old : List ℕ) → Names slot root pieces coming old → Names again root others coming old
names_as slot again slot_is root pieces others pieces_are coming old names =
    subst (λ (x : Slot). Names x root others coming old) (sym slot_is) (subst (λ (ps : List Piece). Names slot root ps coming old) (sym pieces_are) names)

-- ---- by the slot and the root that count

-- so many levels at most
abbrev pub AreFew : NextLevels → Root → Type 0
AreFew levels root = length (coming levels.oldest) + (length root.levels.items - levels.stay_from) + length (coming levels.newest) ≤ 16

pub record IsNaming (o : Opened) (levels : NextLevels) (ends : Ends) (next location limit : ℕ) (slot : Slot) (draft : Draft) (pieces : List Piece) (old : List ℕ) : Type 0 where
  pub slot_is : slot ≡ o.slot
  pub coming_is : IsComing limit o (coming_at o levels ends next location draft.places) levels ends next location
  pub names : Names (other slot) draft.root pieces (coming_at o levels ends next location draft.places) old

module _ (levels : NextLevels) (ends : Ends) (next location : ℕ) (old : List ℕ) (fits : AreBytes old) (slot : Slot) (root : Root) (counts : Counts slot root old) (limit : ℕ) (draft : Draft)
    (is : IsDraft limit root levels ends next location draft) (few : AreFew levels root) (pieces : List Piece) (are : pairs_in pieces ≡ pieces_of draft) (number : (1 ≤ next) × (next ≤ LAST_NEXT))
    (bounded : (1 ≤ location) × (location ≤ 1 + (next - 1) * DOCUMENT_CELLS)) (rising : IsRising ends.deleted.now) (short : limit < 2 ^ 64) where
  pub naming : (o : Opened) (there : List Level) → MayRewriteOpened o there levels ends next location old → IsNaming o levels ends next location limit slot draft pieces old
  naming o there may =
      subst (λ (r : Roots). IsDraft limit r.root levels ends next location draft → AreFew levels r.root → IsNaming o levels ends next location limit r.slot draft pieces old)
      (one_counts old o.slot slot o.root root may.is.counts counts)
      (λ is few. record {
        slot_is = refl;
        coming_is = is_coming o there levels ends next location old may fits limit draft is few pieces are number bounded rising short;
        names = names o there levels ends next location old may fits limit draft is few pieces are number bounded rising short;
      }) is few

-- ---- what is held

-- an image that has what is held is opened, with its levels
opened_of : (held : Holding) (levels : NextLevels) (ends : Ends) (next location : ℕ) (old : List ℕ) → (may : MayRewrite held levels ends next location old) → MayRewriteOpened may.is.opened held.view.levels levels ends next location old
opened_of held levels ends next location old may = record {
  is = may.is.is;
  have = record {
    extents = may.is.are.extents;
    rows = ap (map (λ (t : Tables). t.documents)) may.is.are.tables ∙ map-map (λ (t : Tables). t.documents) tables_by held.view.levels;
  };
  given = subst (λ (v : View). IsGiven v levels ends next location) may.is.view_is may.given;
}

abbrev held_by : Opened → List Level → Option Job → Holding
held_by o there job = record { view = view_of o there; list = o.root.deletions; job = job }

abbrev held_with : View → Extent → Option Job → Holding
held_with view list job = record { view = view; list = list; job = job }

held_is : (held : Holding) (levels : NextLevels) (ends : Ends) (next location : ℕ) (old : List ℕ) → (may : MayRewrite held levels ends next location old) → held ≡ held_by may.is.opened held.view.levels held.job
held_is held levels ends next location old may = ap (λ (v : View). held_with v held.list held.job) may.is.view_is ∙ ap (λ (list : Extent). held_with (view_of may.is.opened held.view.levels) list held.job) may.is.list_is

-- What is put brings what is held then.
pub record IsBringing (held : Holding) (levels : NextLevels) (ends : Ends) (job : Option Job) (next location limit : ℕ) (slot : Slot) (root : Root) (draft : Draft) (pieces : List Piece) (old : List ℕ) : Type 0 where
  pub switched_is : switched limit held (levels_to_come levels held.view) job ≡ Ok (then_of held root levels ends job draft.places)
  pub view_is : (then_of held root levels ends job draft.places).view ≡ view_of (coming_by slot root levels ends next location draft.places (levels_then levels held.view.levels draft.places)) (levels_then levels held.view.levels draft.places)
  pub brings_then : Brings (other slot) draft.root pieces (coming_by slot root levels ends next location draft.places (levels_then levels held.view.levels draft.places)) (levels_then levels held.view.levels draft.places)
      (state_of (then_of held root levels ends job draft.places).view) old
  pub brings_held : Brings (other slot) draft.root pieces (coming_by slot root levels ends next location draft.places (levels_then levels held.view.levels draft.places)) (levels_then levels held.view.levels draft.places) (state_of held.view) old

module _ (levels : NextLevels) (ends : Ends) (next location : ℕ) (old : List ℕ) (fits : AreBytes old) (slot : Slot) (root : Root) (counts : Counts slot root old) (limit : ℕ) (held : Holding) (job : Option Job)
    (may : MayRewrite held levels ends next location old) where
  abbrev o : Opened
  o = may.is.opened

  abbrev there : List Level
  there = held.view.levels

  opened : MayRewriteOpened o there levels ends next location old
  opened = opened_of held levels ends next location old may

  -- where no place is left, the switch of what is held finds none
  pub full_held : (need gap : ℕ) → rewrite_places limit root levels ends ≡ Err (record { need = need; gap = gap }) → switched limit held (levels_to_come levels held.view) job ≡ Err (record { need = need; gap = gap })
  full_held need gap none =
      subst (λ (h : Holding). switched limit h (levels_to_come levels h.view) job ≡ Err (record { need = need; gap = gap })) (sym (held_is held levels ends next location old may))
      (opened_switch o there levels ends next location old opened fits held.job job limit
      ∙ ap (λ (r : Result Places Full). r >>= λ places. Ok (then_of (held_by o there held.job) o.root levels ends job places))
      (ap (λ (r : Roots). rewrite_places limit r.root levels ends) (one_counts old o.slot slot o.root root may.is.is.counts counts) ∙ none))

  module _ (draft : Draft) (is : IsDraft limit root levels ends next location draft) (few : AreFew levels root) (pieces : List Piece) (are : pairs_in pieces ≡ pieces_of draft) (number : (1 ≤ next) × (next ≤ LAST_NEXT))
      (bounded : (1 ≤ location) × (location ≤ 1 + (next - 1) * DOCUMENT_CELLS)) (rising : IsRising ends.deleted.now) (short : limit < 2 ^ 64) (within : length old ≤ limit) where
    bringing_by : IsDraft limit o.root levels ends next location draft → AreFew levels o.root → IsBringing (held_by o there held.job) levels ends job next location limit o.slot o.root draft pieces old
    bringing_by is few = record {
      switched_is = opened_then o there levels ends next location old opened fits held.job job limit draft.places is.places;
      view_is = view_then o there levels ends next location old opened fits limit draft is few pieces are number bounded rising short held.job job may.is.are within;
      brings_then = brings_then o there levels ends next location old opened fits limit draft is few pieces are number bounded rising short held.job job may.is.are within;
      brings_held = brings_held o there levels ends next location old opened fits limit draft is few pieces are number bounded rising short held.job job may.is.are within;
    }

    pub bringing : IsBringing held levels ends job next location limit slot root draft pieces old
    bringing =
        subst (λ (h : Holding). IsBringing h levels ends job next location limit slot root draft pieces old) (sym (held_is held levels ends next location old may))
        (subst (λ (r : Roots). IsDraft limit r.root levels ends next location draft → AreFew levels r.root → IsBringing (held_by o there held.job) levels ends job next location limit r.slot r.root draft pieces old)
        (one_counts old o.slot slot o.root root may.is.is.counts counts) bringing_by is few)

-- the tables of the levels then
pub tables_done : (levels : NextLevels) (there : List Level) (limit : ℕ) (root : Root) (ends : Ends) (next location : ℕ) (draft : Draft) → IsDraft limit root levels ends next location draft
    → map tables_by (levels_then levels there draft.places) ≡ tables_between draft.oldest_level levels.stay_from (map tables_by there) draft.newest_level
tables_done levels there limit root ends next location draft is =
    tables_then levels there draft.places
    ∙ ap (λ (t : Option Tables). tables_between t levels.stay_from (map tables_by there) (table_to_come draft.places.newest levels.newest)) (sym is.oldest_level)
    ∙ ap (λ (t : Option Tables). tables_between draft.oldest_level levels.stay_from (map tables_by there) t) (sym is.newest_level)

-- the same of what is opened
pub tables_opened : (levels : NextLevels) (o : Opened) (limit : ℕ) (root : Root) (ends : Ends) (next location : ℕ) (draft : Draft) → IsDraft limit root levels ends next location draft
    → (coming_at o levels ends next location draft.places).levels ≡ tables_between draft.oldest_level levels.stay_from o.levels draft.newest_level
tables_opened levels o limit root ends next location draft is =
    ap (λ (t : Option Tables). tables_between t levels.stay_from o.levels (table_to_come draft.places.newest levels.newest)) (sym is.oldest_level)
    ∙ ap (λ (t : Option Tables). tables_between draft.oldest_level levels.stay_from o.levels t) (sym is.newest_level)

-- ---- what stays as it was

-- the levels of the root that counted have the bytes that they had
pub levels_spared : (slot : Slot) (counting : Root) (root : Root) (pieces : List Piece) (limit : ℕ) (old middle new : List ℕ) → MayPut (other slot) root pieces limit old → Counts slot counting old → Puts (other slot) pieces old middle
    → Touches (slot_range (other slot)) middle new → All (IsSame old new) counting.levels.items
levels_spared slot counting root pieces limit old middle new may counts puts touches =
    let before = extents_same (ranges_before (other slot) pieces) old middle (extents_of counting) puts.touches (spared (other slot) root pieces limit old may slot counting counts).extents in
    let then = extents_same (slot_range (other slot)) middle new (extents_of counting) touches (slot_spares (other slot) slot counting (length old) (counts_sound slot counting old counts)).extents in
    let first = All-tail (IsSame old middle) counting.deletions counting.levels.items before in
    let second = All-tail (IsSame middle new) counting.deletions counting.levels.items then in
    λ k d within. second k d within ∙ first k d within
