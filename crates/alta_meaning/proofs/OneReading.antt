-- An image is read in one way: it has no root, or breaks a rule first at one place, or is opened as one thing.
use Rattle.std.proofs.Common.{◌≡◌, ◌⊎◌, inl, inr, ℕ, true, false, List, [], ◌∷◌, refl, ap, subst, ◌∙◌, Result, Ok, Err}
use Rattle.std.specs.Prelude.{if◌then◌else◌}
use Rattle.alta_layout.specs.Places.{half_start}
use Rattle.alta_codec.specs.declared.extent.Extent.{Extent}
use Rattle.alta_journal.specs.Journal.{EndsAt, HasBrokenHalf}
use Rattle.alta_journal.specs.Placed.{placed}
use Rattle.alta_journal.specs.declared.entry.Entry.{Entry}
use Rattle.alta_journal.proofs.Unique.{one_reading, one_fault, not_both}
use Rattle.alta_root.specs.Answers.{in_slot}
use Rattle.alta_root.specs.Slots.{Counts, HasNoRoot, HasBrokenSlots}
use Rattle.alta_root.specs.declared.fault.RootFault.{RootFault}
use Rattle.alta_root.specs.declared.fault.RootFault.TheVariants as faults
use Rattle.alta_root.specs.declared.root.Root.{Root}
use Rattle.alta_root.specs.declared.root.Roots.{Roots}
use Rattle.alta_root.proofs.SlotLaws.{one_answer, one_counts, one_damage}
use Rattle.alta_table.specs.Tables.{Tables}
use Rattle.alta_meaning.specs.Broken.{ComesTo, IsBrokenAt, in_slots, in_list, in_tables, out_of_order, in_names, without_end, in_records, in_entries}
use Rattle.alta_meaning.specs.Chain.{◌>>=◌}
use Rattle.alta_meaning.specs.Known.{Known, replayed}
use Rattle.alta_meaning.specs.Opened.{Opened, IsOpened, deleted_in, tables_at, are_in_order, names_in, with_level, levels_from, levels_in, have_ends, known_at}
use Rattle.alta_meaning.proofs.Steps.{one_value, one_failure, not_failed, levels_append}

-- ---- the steps between the slots and the journal, as one

-- deleted ends, and the tables of levels
record Found : Type 0 where
  deleted : List ℕ
  levels : List Tables

abbrev with_ends : Root → List ℕ → List Tables → Result Found ℕ
with_ends root deleted levels = if have_ends levels deleted then Ok (record { deleted = deleted; levels = levels }) else Err root.deletions.place

abbrev found_in : Root → List ℕ → Result Found ℕ
found_in root image = deleted_in root image >>= λ deleted. levels_in root deleted image >>= λ levels. with_ends root deleted levels

found_list : (root : Root) (deleted image : List ℕ) → deleted_in root image ≡ Ok deleted → found_in root image ≡ (levels_in root deleted image >>= λ levels. with_ends root deleted levels)
found_list root deleted image list = rw list refl

found_levels : (root : Root) (deleted image : List ℕ) (levels : List Tables) → deleted_in root image ≡ Ok deleted → levels_in root deleted image ≡ Ok levels → found_in root image ≡ with_ends root deleted levels
found_levels root deleted image levels list tables = found_list root deleted image list ∙ rw tables refl

found_ok : (root : Root) (deleted image : List ℕ) (levels : List Tables) → deleted_in root image ≡ Ok deleted → levels_in root deleted image ≡ Ok levels → have_ends levels deleted ≡ true
    → found_in root image ≡ Ok (record { deleted = deleted; levels = levels })
found_ok root deleted image levels list tables ends = found_levels root deleted image levels list tables ∙ rw ends refl

found_without : (root : Root) (deleted image : List ℕ) (levels : List Tables) → deleted_in root image ≡ Ok deleted → levels_in root deleted image ≡ Ok levels → have_ends levels deleted ≡ false → found_in root image ≡ Err root.deletions.place
found_without root deleted image levels list tables ends = found_levels root deleted image levels list tables ∙ rw ends refl

-- a level that fails
level_fails : (root : Root) (deleted : List ℕ) (levels : List Tables) (extent : Extent) (image : List ℕ) (place : ℕ) → ComesTo root deleted levels extent image
    → with_level root deleted levels extent image ≡ Err place → found_in root image ≡ Err place
level_fails root deleted levels extent image place comes fails =
    found_list root deleted image comes.list
    ∙ ap (λ (r : Result (List Tables) ℕ). r >>= λ levels. with_ends root deleted levels)
    (ap (λ (es : List Extent). levels_from root deleted [] es image) comes.split ∙ levels_append root deleted image [] comes.before (extent ∷ comes.behind)
    ∙ ap (λ (r : Result (List Tables) ℕ). r >>= λ longer. levels_from root deleted longer (extent ∷ comes.behind) image) comes.tables
    ∙ ap (λ (r : Result (List Tables) ℕ). r >>= λ longer. levels_from root deleted longer comes.behind image) fails)

no_tables : (root : Root) (deleted : List ℕ) (levels : List Tables) (extent : Extent) (image : List ℕ) (place : ℕ) → tables_at extent image ≡ Err place → with_level root deleted levels extent image ≡ Err place
no_tables root deleted levels extent image place found = rw found refl

no_order : (root : Root) (deleted : List ℕ) (levels : List Tables) (extent : Extent) (image : List ℕ) (level : Tables) → tables_at extent image ≡ Ok level → are_in_order root levels level.documents ≡ false
    → with_level root deleted levels extent image ≡ Err extent.place
no_order root deleted levels extent image level found ordered = rw found rw ordered refl

no_names : (root : Root) (deleted : List ℕ) (levels : List Tables) (extent : Extent) (image : List ℕ) (level : Tables) (place : ℕ) → tables_at extent image ≡ Ok level → are_in_order root levels level.documents ≡ true
    → names_in deleted levels level ≡ Err place → with_level root deleted levels extent image ≡ Err place
no_names root deleted levels extent image level place found ordered named = rw found rw ordered rw named refl

-- ---- the same in few cases

-- behind what was found, the journal breaks a rule at this place
abbrev BreaksIn : Roots → Found → List ℕ → ℕ → Type 0
BreaksIn r found image place =
    HasBrokenHalf r.root.version (half_start r.slot) place image
    ⊎ ((entries : List Entry) × (tail : ℕ) × EndsAt r.root.version (half_start r.slot) tail entries image × (replayed (known_at r.root found.deleted found.levels) (placed (half_start r.slot) entries) ≡ Err place))

-- behind the slots, a rule is broken at this place
abbrev BreaksBehind : Roots → List ℕ → ℕ → Type 0
BreaksBehind r image place = (found_in r.root image ≡ Err place) ⊎ ((found : Found) × (found_in r.root image ≡ Ok found) × BreaksIn r found image place)

abbrev CountsAs : Roots → List ℕ → Type 0
CountsAs r image = Counts r.slot r.root image

abbrev Breaks : List ℕ → ℕ → Type 0
Breaks image place = HasBrokenSlots image place ⊎ ((r : Roots) × CountsAs r image × BreaksBehind r image place)

breaks : (image : List ℕ) (place : ℕ) → IsBrokenAt image place → Breaks image place
breaks image place (in_slots p damaged) = inl damaged
breaks image place (in_list slot root p counts list) = inr (in_slot slot root, counts, inl (ap (λ (r : Result (List ℕ) ℕ). r >>= λ deleted. levels_in root deleted image >>= λ levels. with_ends root deleted levels) list))
breaks image place (in_tables root deleted levels extent p comes found) =
    inr (in_slot comes.slot root, comes.counts, inl (level_fails root deleted levels extent image p comes (no_tables root deleted levels extent image p found)))
breaks image place (out_of_order root deleted levels extent level comes found ordered) =
    inr (in_slot comes.slot root, comes.counts, inl (level_fails root deleted levels extent image extent.place comes (no_order root deleted levels extent image level found ordered)))
breaks image place (in_names root deleted levels extent level p comes found ordered named) =
    inr (in_slot comes.slot root, comes.counts, inl (level_fails root deleted levels extent image p comes (no_names root deleted levels extent image level p found ordered named)))
breaks image place (without_end slot root deleted levels has ends) = inr (in_slot slot root, has.counts, inl (found_without root deleted image levels has.list has.tables ends))
breaks image place (in_records slot root deleted levels p has ends bad) =
    inr (in_slot slot root, has.counts, inr (record { deleted = deleted; levels = levels }, found_ok root deleted image levels has.list has.tables ends, inl bad))
breaks image place (in_entries slot root deleted levels entries tail p has ends journal refused) =
    inr (in_slot slot root, has.counts, inr (record { deleted = deleted; levels = levels }, found_ok root deleted image levels has.list has.tables ends, inr (entries, tail, journal, refused)))

-- what is found, and what the journal has
record Has (r : Roots) (found : Found) (entries : List Entry) (tail : ℕ) (image : List ℕ) : Type 0 where
  counts : CountsAs r image
  is : found_in r.root image ≡ Ok found
  journal : EndsAt r.root.version (half_start r.slot) tail entries image
  known : Known
  admitted : replayed (known_at r.root found.deleted found.levels) (placed (half_start r.slot) entries) ≡ Ok known

has : (image : List ℕ) (o : Opened) → IsOpened o image → Has (in_slot o.slot o.root) (record { deleted = o.deleted; levels = o.levels }) o.entries o.tail image
has image o is = record {
  counts = is.counts;
  is = found_ok o.root o.deleted image o.levels is.named.list is.named.tables is.named.ends;
  journal = is.named.journal;
  known = is.named.known;
  admitted = is.named.admitted;
}

-- ---- one root

one_root : (image : List ℕ) (r q : Roots) → CountsAs r image → CountsAs q image → r ≡ q
one_root image r q a b = one_counts image r.slot q.slot r.root q.root a b

-- ---- one place

one_in : (image : List ℕ) (r : Roots) (found : Found) (p q : ℕ) → BreaksIn r found image p → BreaksIn r found image q → p ≡ q
one_in image r found p q (inl a) (inl b) = one_fault r.root.version (half_start r.slot) p q image a b
one_in image r found p q (inl a) (inr (entries, tail, journal, refused)) = absurd (not_both r.root.version (half_start r.slot) tail p entries image journal a)
one_in image r found p q (inr (entries, tail, journal, refused)) (inl b) = absurd (not_both r.root.version (half_start r.slot) tail q entries image journal b)
one_in image r found p q (inr (entries, tail, journal, refused)) (inr (others, end, too, also)) =
    let same = (one_reading r.root.version (half_start r.slot) tail end entries others image journal too).1 in
    one_failure (replayed (known_at r.root found.deleted found.levels) (placed (half_start r.slot) others)) p q
    (subst (λ (es : List Entry). replayed (known_at r.root found.deleted found.levels) (placed (half_start r.slot) es) ≡ Err p) same refused) also

one_behind : (image : List ℕ) (r : Roots) (p q : ℕ) → BreaksBehind r image p → BreaksBehind r image q → p ≡ q
one_behind image r p q (inl a) (inl b) = one_failure (found_in r.root image) p q a b
one_behind image r p q (inl a) (inr (found, is, b)) = absurd (not_failed (found_in r.root image) found p is a)
one_behind image r p q (inr (found, is, a)) (inl b) = absurd (not_failed (found_in r.root image) found q is b)
one_behind image r p q (inr (found, is, a)) (inr (other, are, b)) =
    one_in image r other p q (subst (λ (f : Found). BreaksIn r f image p) (one_value (found_in r.root image) found other is are) a) b

no_damage : (image : List ℕ) (r : Roots) (place : ℕ) → CountsAs r image → HasBrokenSlots image place → ⊥
no_damage image r place counts damaged = not_failed {E = RootFault} (Ok r) r (faults.Damaged place) refl (one_answer image (Ok r) (Err (faults.Damaged place)) counts damaged)

one_break : (image : List ℕ) (p q : ℕ) → Breaks image p → Breaks image q → p ≡ q
one_break image p q (inl a) (inl b) = one_damage image p q a b
one_break image p q (inl a) (inr (r, counts, b)) = absurd (no_damage image r p counts a)
one_break image p q (inr (r, counts, a)) (inl b) = absurd (no_damage image r q counts b)
one_break image p q (inr (r, counts, a)) (inr (s, also, b)) = one_behind image s p q (subst (λ (x : Roots). BreaksBehind x image p) (one_root image r s counts also) a) b

-- the first rule is broken at one place
pub one_place : (image : List ℕ) (p q : ℕ) → IsBrokenAt image p → IsBrokenAt image q → p ≡ q
one_place image p q a b = one_break image p q (breaks image p a) (breaks image q b)

-- ---- one thing opened

opened_as : Roots → Found → List Entry → ℕ → Opened
opened_as r found entries tail = record { slot = r.slot; root = r.root; deleted = found.deleted; levels = found.levels; entries = entries; tail = tail }

one_has : (image : List ℕ) (r : Roots) (f g : Found) (xs ys : List Entry) (p q : ℕ) → Has r f xs p image → Has r g ys q image → opened_as r f xs p ≡ opened_as r g ys q
one_has image r f g xs ys p q a b =
    let read = one_reading r.root.version (half_start r.slot) p q xs ys image a.journal b.journal in
    ap (λ (h : Found). opened_as r h xs p) (one_value (found_in r.root image) f g a.is b.is) ∙ ap (λ (es : List Entry). opened_as r g es p) read.1 ∙ ap (λ (n : ℕ). opened_as r g ys n) read.0

same_has : (image : List ℕ) (r s : Roots) (f g : Found) (xs ys : List Entry) (p q : ℕ) → Has r f xs p image → Has s g ys q image → opened_as r f xs p ≡ opened_as s g ys q
same_has image r s f g xs ys p q a b =
    let same = one_root image r s a.counts b.counts in
    ap (λ (x : Roots). opened_as x f xs p) same ∙ one_has image s f g xs ys p q (subst (λ (x : Roots). Has x f xs p image) same a) b

-- an image is opened as one thing
pub one_opened : (image : List ℕ) (o p : Opened) → IsOpened o image → IsOpened p image → o ≡ p
unfolding opened_as
one_opened image o p a b =
    same_has image (in_slot o.slot o.root) (in_slot p.slot p.root) (record { deleted = o.deleted; levels = o.levels }) (record { deleted = p.deleted; levels = p.levels }) o.entries p.entries o.tail p.tail (has image o a) (has image p b)

-- ---- not both

in_has : (image : List ℕ) (r : Roots) (f : Found) (es : List Entry) (p place : ℕ) → Has r f es p image → BreaksIn r f image place → ⊥
in_has image r f es p place a (inl bad) = not_both r.root.version (half_start r.slot) p place es image a.journal bad
in_has image r f es p place a (inr (entries, tail, journal, refused)) =
    not_failed (replayed (known_at r.root f.deleted f.levels) (placed (half_start r.slot) es)) a.known place a.admitted
    (subst (λ (es : List Entry). replayed (known_at r.root f.deleted f.levels) (placed (half_start r.slot) es) ≡ Err place) (one_reading r.root.version (half_start r.slot) tail p entries es image journal a.journal).1 refused)

behind_has : (image : List ℕ) (r : Roots) (f : Found) (es : List Entry) (p place : ℕ) → Has r f es p image → BreaksBehind r image place → ⊥
behind_has image r f es p place a (inl fails) = not_failed (found_in r.root image) f place a.is fails
behind_has image r f es p place a (inr (g, is, b)) = in_has image r f es p place a (subst (λ (h : Found). BreaksIn r h image place) (one_value (found_in r.root image) g f is a.is) b)

break_has : (image : List ℕ) (r : Roots) (f : Found) (es : List Entry) (p place : ℕ) → Has r f es p image → Breaks image place → ⊥
break_has image r f es p place a (inl damaged) = no_damage image r place a.counts damaged
break_has image r f es p place a (inr (s, counts, b)) = behind_has image r f es p place a (subst (λ (x : Roots). BreaksBehind x image place) (one_root image s r counts a.counts) b)

pub opened_unbroken : (image : List ℕ) (o : Opened) (place : ℕ) → IsOpened o image → IsBrokenAt image place → ⊥
opened_unbroken image o place a b =
    break_has image (in_slot o.slot o.root) (record { deleted = o.deleted; levels = o.levels }) o.entries o.tail place (has image o a) (breaks image place b)

no_counts : (image : List ℕ) (r : Roots) → CountsAs r image → HasNoRoot image → ⊥
no_counts image r counts none = not_failed {E = RootFault} (Ok r) r faults.NoRoot refl (one_answer image (Ok r) (Err faults.NoRoot) counts none)

pub opened_rooted : (image : List ℕ) (o : Opened) → IsOpened o image → HasNoRoot image → ⊥
opened_rooted image o a none = no_counts image (in_slot o.slot o.root) a.counts none

abbrev Is_no_root : Result Roots RootFault → Type 0
Is_no_root (Err faults.NoRoot) = Unit {0}
Is_no_root (Err faults.Disk) = ⊥
Is_no_root (Err (faults.Damaged place)) = ⊥
Is_no_root (Ok r) = ⊥

break_rooted : (image : List ℕ) (place : ℕ) → Breaks image place → HasNoRoot image → ⊥
break_rooted image place (inl damaged) none = subst Is_no_root (one_answer image (Err faults.NoRoot) (Err (faults.Damaged place)) none damaged) tt
break_rooted image place (inr (r, counts, b)) none = no_counts image r counts none

pub broken_rooted : (image : List ℕ) (place : ℕ) → IsBrokenAt image place → HasNoRoot image → ⊥
broken_rooted image place b none = break_rooted image place (breaks image place b) none
