-- What is read keeps the rules, and is read on a longer disk too.
use Rattle.std.proofs.Common.{◌≡◌, ◌⊎◌, inl, inr, ⊎_elim, ℕ, zero, suc, ◌+◌, ◌-◌, ◌*◌, ◌≤◌, ◌&&◌, Bool, true, false, List, [], ◌∷◌, ◌++◌, length, Result, Ok, Err, refl, sym, ap, subst, ◌∙◌, arith, append_assoc}
use Rattle.std.specs.Prelude.{IsTrue, nat_le, ◌==◌, ◌||◌}
use Rattle.std.specs.List.{All, list_all}
use Rattle.std.proofs.lemmas.Bool.{leb-true, le-leb, eqb-true}
use Rattle.std.proofs.lemmas.List.{append-nil}
use Rattle.std.proofs.lemmas.List.Elements.{All-nil, All-cons}
use Rattle.alta_layout.specs.declared.places.TheConstants.{HEAD_BYTES}
use Rattle.alta_codec.specs.declared.extent.Extent.{Extent}
use Rattle.alta_format.specs.Format.{Format, ends, number_field, text_field, byte, wide, read, placed}
use Rattle.alta_format.proofs.FormatLaws.{ok_is, number_kept, text_kept, number_passes, text_passes}
use Rattle.alta_root.specs.Root.{extents_of, no_extent, AreApart, IsExtent, AreExtents, IsSound, extent_in, are_apart, is_extent, is_list, is_version, is_next_number, is_next_location, with_level, levels_format, root_format}
use Rattle.alta_root.specs.Slots.{root_in}
use Rattle.alta_root.specs.declared.places.TheConstants.{VERSION, LEVELS, LEVEL_BYTES, LAST_NEXT, DOCUMENT_CELLS}
use Rattle.alta_root.specs.declared.root.Root.{Root}

-- ---- rules as facts

le_holds : (m n : ℕ) → IsTrue (nat_le m n) → m ≤ n
le_holds m n holds = leb-true m n holds

and_left : (a b : Bool) → IsTrue (a && b) → IsTrue a
and_left true b both = refl
and_left false b both = absurd cc

and_right : (a b : Bool) → IsTrue (a && b) → IsTrue b
and_right true b both = both
and_right false b both = absurd cc

both_hold : (a b : Bool) → IsTrue a → IsTrue b → IsTrue (a && b)
both_hold true b one two = two
both_hold false b one two = absurd cc

or_holds : (a b : Bool) → IsTrue (a || b) → IsTrue a ⊎ IsTrue b
or_holds true b either = inl refl
or_holds false b either = inr either

first_holds : (a b : Bool) → IsTrue a → IsTrue (a || b)
first_holds true b one = refl
first_holds false b one = absurd cc

second_holds : (a b : Bool) → IsTrue b → IsTrue (a || b)
second_holds true b two = refl
second_holds false b two = two

apart_holds : (a b : Extent) → IsTrue (are_apart a b) → AreApart a b
apart_holds a b holds =
    ⊎_elim (λ before. inl (le_holds (a.place + a.bytes) b.place before)) (λ behind. inr (le_holds (b.place + b.bytes) a.place behind)) (or_holds (nat_le (a.place + a.bytes) b.place) (nat_le (b.place + b.bytes) a.place) holds)

all_hold : (extent : Extent) (before : List Extent) → IsTrue (list_all (are_apart extent) before) → All (λ (e : Extent). AreApart extent e) before
all_hold extent [] holds = All-nil (λ (e : Extent). AreApart extent e)
all_hold extent (e ∷ es) holds =
    All-cons (λ (x : Extent). AreApart extent x) e es (apart_holds extent e (and_left (are_apart extent e) (list_all (are_apart extent) es) holds)) (all_hold extent es (and_right (are_apart extent e) (list_all (are_apart extent) es) holds))

-- the four parts of the rule on extents
record Parts (least size : ℕ) (before : List Extent) (extent : Extent) : Type 0 where
  long : IsTrue (nat_le least extent.bytes)
  behind : IsTrue (nat_le HEAD_BYTES extent.place)
  inside : IsTrue (nat_le (extent.place + extent.bytes) size)
  apart : IsTrue (list_all (are_apart extent) before)

parts_of : (least size : ℕ) (before : List Extent) (extent : Extent) → IsTrue (is_extent least size before extent) → Parts least size before extent
parts_of least size before extent holds =
    let l = nat_le least extent.bytes in
    let b = nat_le HEAD_BYTES extent.place in
    let i = nat_le (extent.place + extent.bytes) size in
    let a = list_all (are_apart extent) before in
    let three = and_left (l && b && i) a holds in
    let two = and_left (l && b) i three in
    record { long = and_left l b two; behind = and_right l b two; inside = and_right (l && b) i three; apart = and_right (l && b && i) a holds }

extent_holds : (least size : ℕ) (before : List Extent) (extent : Extent) → IsTrue (is_extent least size before extent) → IsExtent least size before extent
extent_holds least size before extent holds =
    let parts = parts_of least size before extent holds in record {
      long = le_holds least extent.bytes parts.long;
      behind = le_holds HEAD_BYTES extent.place parts.behind;
      inside = le_holds (extent.place + extent.bytes) size parts.inside;
      apart = all_hold extent before parts.apart;
    }

list_holds : (size : ℕ) (extent : Extent) → IsTrue (is_list size extent) → (extent ≡ no_extent) ⊎ IsExtent 1 size [] extent
list_holds size extent holds =
    ⊎_elim (λ none. inl (no_bytes (eqb-true extent.place 0 (and_left (extent.place == 0) (extent.bytes == 0) none)) (eqb-true extent.bytes 0 (and_right (extent.place == 0) (extent.bytes == 0) none))))
    (λ some. inr (extent_holds 1 size [] extent some)) (or_holds ((extent.place == 0) && (extent.bytes == 0)) (is_extent 1 size [] extent) holds)
  where
    no_bytes : extent.place ≡ 0 → extent.bytes ≡ 0 → extent ≡ no_extent
    no_bytes place bytes = ap (λ (n : ℕ). with_place n extent.bytes) place ∙ ap (λ (n : ℕ). with_place 0 n) bytes
      where
        with_place : ℕ → ℕ → Extent
        with_place p b = record { place = p; bytes = b }

-- ---- the same rules on a longer disk

module _ (size longer : ℕ) (le : size ≤ longer) where
  extent_longer : (least : ℕ) (before : List Extent) (extent : Extent) → IsTrue (is_extent least size before extent) → IsTrue (is_extent least longer before extent)
  extent_longer least before extent holds =
      let parts = parts_of least size before extent holds in
      let l = nat_le least extent.bytes in
      let b = nat_le HEAD_BYTES extent.place in
      let i = nat_le (extent.place + extent.bytes) longer in
      let inside = le-leb (extent.place + extent.bytes) longer (omega (arith, le_holds (extent.place + extent.bytes) size parts.inside, le)) in
      both_hold (l && b && i) (list_all (are_apart extent) before) (both_hold (l && b) i (both_hold l b parts.long parts.behind) inside) parts.apart

  list_longer : (extent : Extent) → IsTrue (is_list size extent) → IsTrue (is_list longer extent)
  list_longer extent holds =
      let none = (extent.place == 0) && (extent.bytes == 0) in
      ⊎_elim (λ here. first_holds none (is_extent 1 longer [] extent) here) (λ some. second_holds none (is_extent 1 longer [] extent) (extent_longer 1 [] extent some)) (or_holds none (is_extent 1 size [] extent) holds)

-- ---- the levels

-- the root with these levels behind its own
abbrev with_levels : Root → List Extent → Root
with_levels root levels = record root { levels = record { items = root.levels.items ++ levels } }

-- the levels that were read behind those of a root
record LevelsRead (size n : ℕ) (before after : Root) : Type 0 where
  levels : List Extent
  is : after ≡ with_levels before levels
  count : length levels ≡ n
  are : AreExtents size (extents_of before) levels

ends_read : (a : Root) (bytes : List ℕ) (y : Root × List ℕ) → read (ends a) bytes ≡ Ok y → a ≡ y.0
unfolding read
ends_read a bytes y e = ap (λ (p : Root × List ℕ). p.0) (ok_is (a, bytes) y e)

levels_read : (size n : ℕ) (before : Root) (bytes : List ℕ) (y : Root × List ℕ) → read (levels_format size before n) bytes ≡ Ok y → LevelsRead size n before y.0
unfolding levels_format
levels_read size zero before bytes y e = record {
  levels = [];
  is = sym (ends_read before bytes y e) ∙ ap (λ (items : List Extent). record before { levels = record { items = items } }) (sym (append-nil before.levels.items));
  count = refl;
  are = tt;
}
levels_read size (suc n) before bytes y e =
    let first = text_kept 16 (λ b. is_extent LEVEL_BYTES size (extents_of before) (extent_in b)) (λ b. levels_format size (with_level before (extent_in b)) n) bytes y e in
    let level = extent_in first.value in
    let more = levels_read size n (with_level before level) first.rest y first.more in
    record {
      levels = level ∷ more.levels;
      is = more.is ∙ ap (λ (items : List Extent). record before { levels = record { items = items } }) (append_assoc before.levels.items (level ∷ []) more.levels);
      count = ap suc more.count;
      are = (extent_holds LEVEL_BYTES size (extents_of before) level first.holds, more.are);
    }

levels_longer : (size longer : ℕ) → size ≤ longer → (n : ℕ) (before : Root) (bytes : List ℕ) (y : Root × List ℕ) → read (levels_format size before n) bytes ≡ Ok y → read (levels_format longer before n) bytes ≡ Ok y
unfolding levels_format
levels_longer size longer le zero before bytes y e = e
levels_longer size longer le (suc n) before bytes y e =
    let first = text_kept 16 (λ b. is_extent LEVEL_BYTES size (extents_of before) (extent_in b)) (λ b. levels_format size (with_level before (extent_in b)) n) bytes y e in
    let level = extent_in first.value in
    text_passes 16 (λ b. is_extent LEVEL_BYTES longer (extents_of before) (extent_in b)) (λ b. levels_format longer (with_level before (extent_in b)) n) bytes first.value first.rest y first.was
    (extent_longer size longer le LEVEL_BYTES (extents_of before) level first.holds)
    (levels_longer size longer le n (with_level before level) first.rest y first.more)

-- ---- the fields of a root, from each on

abbrev half_start : ℕ → ℕ → ℕ → ℕ → Extent → Root
half_start version sequence number location list = record { version = version; sequence = sequence; next_number = number; next_location = location; levels = record { items = [] }; deletions = list }

abbrev from_list : ℕ → ℕ → ℕ → ℕ → ℕ → ℕ → Format Root
from_list size version sequence count number location = text_field 16 (λ bytes. is_list size (extent_in bytes)) (λ bytes. levels_format size (half_start version sequence number location (extent_in bytes)) count)

abbrev from_location : ℕ → ℕ → ℕ → ℕ → ℕ → Format Root
from_location size version sequence count number = number_field wide (is_next_location number) (λ location. from_list size version sequence count number location)

abbrev from_number : ℕ → ℕ → ℕ → ℕ → Format Root
from_number size version sequence count = number_field wide is_next_number (λ number. from_location size version sequence count number)

abbrev from_zeros : ℕ → ℕ → ℕ → ℕ → Format Root
from_zeros size version sequence count = text_field 4 (λ zeros. list_all (λ b. b == 0) zeros) (λ zeros. from_number size version sequence count)

abbrev from_count : ℕ → ℕ → ℕ → Format Root
from_count size version sequence = number_field byte (λ levels. nat_le levels LEVELS) (λ levels. from_zeros size version sequence levels)

abbrev from_sequence : ℕ → ℕ → Format Root
from_sequence size version = number_field byte (λ sequence. true) (λ sequence. from_count size version sequence)

made_sound : (size count version sequence number location : ℕ) (list : Extent) (after : Root) → LevelsRead size count (half_start version sequence number location list) after → IsTrue (is_version version) → IsTrue (nat_le count LEVELS) → IsTrue (is_next_number number)
    → IsTrue (is_next_location number location) → IsTrue (is_list size list) → IsSound size after
made_sound size count version sequence number location list after levels version_holds few number_holds location_holds list_is =
    subst (IsSound size) (sym levels.is) (record {
      version = (le_holds 1 version (and_left (nat_le 1 version) (nat_le version VERSION) version_holds), le_holds version VERSION (and_right (nat_le 1 version) (nat_le version VERSION) version_holds));
      few = omega (arith, levels.count, le_holds count LEVELS few);
      number = (le_holds 1 number (and_left (nat_le 1 number) (nat_le number LAST_NEXT) number_holds), le_holds number LAST_NEXT (and_right (nat_le 1 number) (nat_le number LAST_NEXT) number_holds));
      location = (
        le_holds 1 location (and_left (nat_le 1 location) (nat_le location (1 + (number - 1) * DOCUMENT_CELLS)) location_holds),
        le_holds location (1 + (number - 1) * DOCUMENT_CELLS) (and_right (nat_le 1 location) (nat_le location (1 + (number - 1) * DOCUMENT_CELLS)) location_holds),
      );
      deletions = list_holds size list list_is;
      levels = levels.are;
    })

root_sound : (size : ℕ) (bytes : List ℕ) (y : Root × List ℕ) → read (root_format size) bytes ≡ Ok y → IsSound size y.0
unfolding root_format
root_sound size bytes y e =
    let v = number_kept byte is_version (λ version. from_sequence size version) bytes y e in
    let s = number_kept byte (λ sequence. true) (λ sequence. from_count size v.value sequence) v.rest y v.more in
    let c = number_kept byte (λ levels. nat_le levels LEVELS) (λ levels. from_zeros size v.value s.value levels) s.rest y s.more in
    let z = text_kept 4 (λ zeros. list_all (λ b. b == 0) zeros) (λ zeros. from_number size v.value s.value c.value) c.rest y c.more in
    let n = number_kept wide is_next_number (λ number. from_location size v.value s.value c.value number) z.rest y z.more in
    let l = number_kept wide (is_next_location n.value) (λ location. from_list size v.value s.value c.value n.value location) n.rest y n.more in
    let d = text_kept 16 (λ bytes. is_list size (extent_in bytes)) (λ bytes. levels_format size (half_start v.value s.value n.value l.value (extent_in bytes)) c.value) l.rest y l.more in
    made_sound size c.value v.value s.value n.value l.value (extent_in d.value) y.0 (levels_read size c.value (half_start v.value s.value n.value l.value (extent_in d.value)) d.rest y d.more) v.holds c.holds n.holds l.holds d.holds

root_longer : (size longer : ℕ) → size ≤ longer → (bytes : List ℕ) (y : Root × List ℕ) → read (root_format size) bytes ≡ Ok y → read (root_format longer) bytes ≡ Ok y
unfolding root_format
root_longer size longer le bytes y e =
    let v = number_kept byte is_version (λ version. from_sequence size version) bytes y e in
    let s = number_kept byte (λ sequence. true) (λ sequence. from_count size v.value sequence) v.rest y v.more in
    let c = number_kept byte (λ levels. nat_le levels LEVELS) (λ levels. from_zeros size v.value s.value levels) s.rest y s.more in
    let z = text_kept 4 (λ zeros. list_all (λ b. b == 0) zeros) (λ zeros. from_number size v.value s.value c.value) c.rest y c.more in
    let n = number_kept wide is_next_number (λ number. from_location size v.value s.value c.value number) z.rest y z.more in
    let l = number_kept wide (is_next_location n.value) (λ location. from_list size v.value s.value c.value n.value location) n.rest y n.more in
    let d = text_kept 16 (λ bytes. is_list size (extent_in bytes)) (λ bytes. levels_format size (half_start v.value s.value n.value l.value (extent_in bytes)) c.value) l.rest y l.more in
    number_passes byte is_version (λ version. from_sequence longer version) bytes v.value v.rest y v.was v.holds
    (number_passes byte (λ sequence. true) (λ sequence. from_count longer v.value sequence) v.rest s.value s.rest y s.was s.holds
    (number_passes byte (λ levels. nat_le levels LEVELS) (λ levels. from_zeros longer v.value s.value levels) s.rest c.value c.rest y c.was c.holds
    (text_passes 4 (λ zeros. list_all (λ b. b == 0) zeros) (λ zeros. from_number longer v.value s.value c.value) c.rest z.value z.rest y z.was z.holds
    (number_passes wide is_next_number (λ number. from_location longer v.value s.value c.value number) z.rest n.value n.rest y n.was n.holds
    (number_passes wide (is_next_location n.value) (λ location. from_list longer v.value s.value c.value n.value location) n.rest l.value l.rest y l.was l.holds
    (text_passes 16 (λ bytes. is_list longer (extent_in bytes)) (λ bytes. levels_format longer (half_start v.value s.value n.value l.value (extent_in bytes)) c.value) l.rest d.value d.rest y d.was
    (list_longer size longer le (extent_in d.value) d.holds)
    (levels_longer size longer le c.value (half_start v.value s.value n.value l.value (extent_in d.value)) d.rest y d.more)))))))

-- ---- what fields say

abbrev read_ok : Root × List ℕ → Result (Root × List ℕ) ℕ
read_ok x = Ok x

said_read : (start : ℕ) (bytes : List ℕ) (found : Result (Root × List ℕ) ℕ) (root : Root) → placed start bytes found ≡ Ok root → (rest : List ℕ) × (found ≡ Ok (root, rest))
said_read start bytes (Ok x) root e = (x.1, ap (λ (r : Root). read_ok (r, x.1)) (ok_is x.0 root e))
said_read start bytes (Err left) root e = absurd cc

pub said_sound : (size start : ℕ) (bytes : List ℕ) (root : Root) → root_in size start bytes ≡ Ok root → IsSound size root
unfolding root_in
said_sound size start bytes root e = let (rest, got) = said_read start bytes (read (root_format size) bytes) root e in root_sound size bytes (root, rest) got

pub said_longer : (size longer start : ℕ) (bytes : List ℕ) (root : Root) → size ≤ longer → root_in size start bytes ≡ Ok root → root_in longer start bytes ≡ Ok root
unfolding root_in
said_longer size longer start bytes root le e =
    let (rest, got) = said_read start bytes (read (root_format size) bytes) root e in ap (placed start bytes) (root_longer size longer le bytes (root, rest) got)
