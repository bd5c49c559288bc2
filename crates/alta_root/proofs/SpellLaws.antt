-- A root is read from its spelling, and what is read is spelled so.
use Rattle.std.proofs.Common.{◌≡◌, ◌⊎◌, ⊎_elim, ℕ, zero, suc, ◌+◌, ◌-◌, ◌*◌, ◌<◌, ◌≤◌, ◌^◌, ◌&&◌, Bool, true, false, List, [], ◌∷◌, ◌++◌, length, take, drop, replicate, get_or, Ok, refl, sym, ap, subst, ◌∙◌, arith, append_assoc, length-append}
use Rattle.std.specs.Prelude.{IsTrue, nat_le, ◌==◌, ◌||◌}
use Rattle.std.specs.List.{All, list_all, flat_map}
use Rattle.std.specs.Int.{w64, to_be_bytes}
use Rattle.std.proofs.lemmas.Bool.{le-leb, eqb-true}
use Rattle.std.proofs.lemmas.List.{append-nil, flat_map_more, take_more, take_at, drop_at, drop-replicate, length-replicate, length-take-le, length-drop, take-append-drop}
use Rattle.std.proofs.Math.Seq.{take-append-add}
use Rattle.std.proofs.lemmas.List.Elements.{All-nil, All-cons, All-head, All-tail}
use Rattle.alta_layout.specs.declared.places.TheConstants.{HEAD_BYTES}
use Rattle.alta_layout.specs.Wide.{eight_bytes, of_eight}
use Rattle.alta_layout.proofs.WideLaws.{eight_long, of_eight-eight, eight-of_eight}
use Rattle.alta_codec.specs.declared.extent.Extent.{Extent}
use Rattle.alta_format.specs.Format.{HasText, Spells, AreBytes}
use Rattle.alta_format.proofs.FormatLaws.{AreBytes-take, AreBytes-drop, AreBytes-rest, part_found, part_reads}
use Rattle.alta_root.specs.Slots.{root_in}
use Rattle.alta_root.specs.Root.{extents_of, no_extent, AreApart, IsExtent, AreExtents, IsWord, IsSound, extent_in, are_apart, is_extent, is_list, with_level, levels_format, root_format, extent_bytes, fields_of, body_of}
use Rattle.alta_root.specs.declared.places.TheConstants.{BODY_BYTES, FIELDS_BYTES, VERSION, LEVELS, LEVEL_BYTES, LAST_NEXT, DOCUMENT_CELLS}
use Rattle.alta_root.specs.declared.root.Root.{Root}

pub padded : (root : Root) (fields padding : List ℕ) (len : ℕ) (body : List ℕ) → fields ≡ fields_of root → len ≡ length fields → padding ≡ drop len (replicate BODY_BYTES 0) → body ≡ fields ++ padding → body ≡ body_of root
unfolding body_of
padded root fields padding len body fields_is len_is padding_is is =
    is ∙ ap (λ (l : List ℕ). l ++ padding) fields_is
    ∙ ap (λ (l : List ℕ). fields_of root ++ l) (padding_is ∙ drop-replicate len BODY_BYTES 0 ∙ ap (λ (n : ℕ). replicate (BODY_BYTES - n) 0) (len_is ∙ ap length fields_is))

pub levels_more : (levels : List Extent) (i : ℕ) (none : Extent) (start before new : List ℕ) → i < length levels → before ≡ start ++ flat_map extent_bytes (take i levels) → new ≡ before ++ extent_bytes (get_or levels i none)
    → new ≡ start ++ flat_map extent_bytes (take (i + 1) levels)
levels_more levels i none start before new lt so_far more =
    more ∙ ap (λ (l : List ℕ). l ++ extent_bytes (get_or levels i none)) so_far ∙ flat_map_more extent_bytes start (take i levels) (get_or levels i none) ∙ ap (λ (l : List Extent). start ++ flat_map extent_bytes l) (sym (take_more levels i none lt))

-- ---- what is sound is read from its spelling

le_is : (m n : ℕ) → m ≤ n → IsTrue (nat_le m n)
le_is m n le = le-leb m n le

split_and : (a b : Bool) → IsTrue (a && b) → IsTrue a × IsTrue b
split_and true b both = (refl, both)
split_and false b both = absurd cc

and_is : (a b : Bool) → IsTrue a → IsTrue b → IsTrue (a && b)
and_is true true one two = refl
and_is true false one two = absurd cc
and_is false b one two = absurd cc

or_left : (a b : Bool) → IsTrue a → IsTrue (a || b)
or_left true b one = refl
or_left false b one = absurd cc

or_right : (a b : Bool) → IsTrue b → IsTrue (a || b)
or_right true b two = refl
or_right false b two = two

is_apart : (a b : Extent) → AreApart a b → IsTrue (are_apart a b)
is_apart a b apart = ⊎_elim (λ before. or_left _ _ (le_is (a.place + a.bytes) b.place before)) (λ behind. or_right (nat_le (a.place + a.bytes) b.place) _ (le_is (b.place + b.bytes) a.place behind)) apart

all_apart : (extent : Extent) (before : List Extent) → All (λ (e : Extent). AreApart extent e) before → IsTrue (list_all (are_apart extent) before)
all_apart extent [] apart = refl
all_apart extent (e ∷ es) apart = and_is (are_apart extent e) (list_all (are_apart extent) es) (is_apart extent e (All-head (λ (x : Extent). AreApart extent x) e es apart)) (all_apart extent es (All-tail (λ (x : Extent). AreApart extent x) e es apart))

extent_is : (least size : ℕ) (before : List Extent) (extent : Extent) → IsExtent least size before extent → IsTrue (is_extent least size before extent)
extent_is least size before extent is =
    and_is (nat_le least extent.bytes && nat_le HEAD_BYTES extent.place && nat_le (extent.place + extent.bytes) size) (list_all (are_apart extent) before)
    (and_is (nat_le least extent.bytes && nat_le HEAD_BYTES extent.place) (nat_le (extent.place + extent.bytes) size)
    (and_is (nat_le least extent.bytes) (nat_le HEAD_BYTES extent.place) (le_is least extent.bytes is.long) (le_is HEAD_BYTES extent.place is.behind))
    (le_is (extent.place + extent.bytes) size is.inside))
    (all_apart extent before is.apart)

list_is : (size : ℕ) (extent : Extent) → (extent ≡ no_extent) ⊎ IsExtent 1 size [] extent → IsTrue (is_list size extent)
list_is size extent list =
    ⊎_elim (λ none. or_left _ _ (subst (λ (e : Extent). IsTrue ((e.place == 0) && (e.bytes == 0))) (sym none) refl))
    (λ some. or_right ((extent.place == 0) && (extent.bytes == 0)) (is_extent 1 size [] extent) (extent_is 1 size [] extent some)) list

abbrev with_bytes : Extent → ℕ → Extent
with_bytes extent n = record { place = extent.place; bytes = n }

abbrev with_place : Extent → ℕ → Extent
with_place extent n = record { place = n; bytes = extent.bytes }

extent_read : (extent : Extent) → IsWord extent → extent_in (extent_bytes extent) ≡ extent
extent_read extent word =
    let place : of_eight (take 8 (extent_bytes extent)) ≡ extent.place = ap of_eight (take_at (eight_bytes extent.place) (eight_bytes extent.bytes) 8 (eight_long extent.place)) ∙ of_eight-eight extent.place word.0 in
    let bytes : of_eight (drop 8 (extent_bytes extent)) ≡ extent.bytes = ap of_eight (drop_at (eight_bytes extent.place) (eight_bytes extent.bytes) 8 (eight_long extent.place)) ∙ of_eight-eight extent.bytes word.1 in
    ap (with_place (extent_in (extent_bytes extent))) place ∙ ap (with_bytes extent) bytes

extent_long : (extent : Extent) → length (extent_bytes extent) ≡ 16
extent_long extent = omega (arith, length-append (eight_bytes extent.place) (eight_bytes extent.bytes), eight_long extent.place, eight_long extent.bytes)

-- the root with these levels behind its own
abbrev with_levels : Root → List Extent → Root
with_levels root levels = record root { levels = record { items = root.levels.items ++ levels } }

levels_spell : (size : ℕ) (levels : List Extent) (root : Root) (rest : List ℕ) → AreExtents size (extents_of root) levels → All IsWord levels
    → Spells (levels_format size root (length levels)) (flat_map extent_bytes levels ++ rest) (with_levels root levels) rest
unfolding levels_format Spells
levels_spell size [] root rest are words = (ap (λ (items : List Extent). record root { levels = record { items = items } }) (sym (append-nil root.levels.items)), refl)
levels_spell size (l ∷ ls) root rest are words =
    let back : extent_in (extent_bytes l) ≡ l = extent_read l (All-head IsWord l ls words) in
    let more = levels_spell size ls (with_level root l) rest are.1 (All-tail IsWord l ls words) in
    let all : with_levels (with_level root l) ls ≡ with_levels root (l ∷ ls) = ap (λ (items : List Extent). record root { levels = record { items = items } }) (append_assoc root.levels.items (l ∷ []) ls) in
    let behind = subst (λ (r : Root). Spells (levels_format size (with_level root l) (length ls)) (flat_map extent_bytes ls ++ rest) r rest) all more in (
      extent_bytes l,
      flat_map extent_bytes ls ++ rest,
      record { len_is = extent_long l; parts = append_assoc (extent_bytes l) (flat_map extent_bytes ls) rest },
      subst (λ (e : Extent). IsTrue (is_extent LEVEL_BYTES size (extents_of root) e)) (sym back) (extent_is LEVEL_BYTES size (extents_of root) l are.0),
      subst (λ (e : Extent). Spells (levels_format size (with_level root e) (length ls)) (flat_map extent_bytes ls ++ rest) (with_levels root (l ∷ ls)) rest) (sym back) behind,
    )

-- the fields one behind the other
fields_behind : (root : Root) (rest : List ℕ) → fields_of root ++ rest
    ≡ root.version ∷ root.sequence ∷ length root.levels.items ∷ 0 ∷ 0 ∷ 0 ∷ 0 ∷ (eight_bytes root.next_number ++ (eight_bytes root.next_location ++ (extent_bytes root.deletions ++ (flat_map extent_bytes root.levels.items ++ rest))))
unfolding fields_of
fields_behind root rest =
    let head : List ℕ = root.version ∷ root.sequence ∷ length root.levels.items ∷ 0 ∷ 0 ∷ 0 ∷ 0 ∷ [] in
    let number = eight_bytes root.next_number in
    let location = eight_bytes root.next_location in
    let list = extent_bytes root.deletions in
    let levels = flat_map extent_bytes root.levels.items in
    append_assoc (head ++ number ++ location ++ list) levels rest
    ∙ append_assoc (head ++ number ++ location) list (levels ++ rest)
    ∙ append_assoc (head ++ number) location (list ++ (levels ++ rest))
    ∙ append_assoc head number (location ++ (list ++ (levels ++ rest)))

number_parts : (n : ℕ) (behind : List ℕ) → eight_bytes n ++ behind ≡ to_be_bytes w64 n ++ behind
unfolding eight_bytes
number_parts n behind = refl

pub root_spells : (size : ℕ) (root : Root) (bytes rest : List ℕ) → IsSound size root → root.sequence < 256 → All IsWord (extents_of root) → bytes ≡ fields_of root ++ rest → Spells (root_format size) bytes root rest
unfolding root_format Spells
root_spells size root bytes rest sound low words is =
    let levels = flat_map extent_bytes root.levels.items in
    let at_levels = levels ++ rest in
    let at_list = extent_bytes root.deletions ++ at_levels in
    let at_location = eight_bytes root.next_location ++ at_list in
    let at_number = eight_bytes root.next_number ++ at_location in
    let deletions : extent_in (extent_bytes root.deletions) ≡ root.deletions = extent_read root.deletions (All-head IsWord root.deletions root.levels.items words) in
    let start : Extent → Root = λ e. record { version = root.version; sequence = root.sequence; next_number = root.next_number; next_location = root.next_location; levels = record { items = [] }; deletions = e } in
    let from_start = levels_spell size root.levels.items (start root.deletions) rest sound.levels (All-tail IsWord root.deletions root.levels.items words) in
    let from_read : Spells (levels_format size (start (extent_in (extent_bytes root.deletions))) (length root.levels.items)) at_levels root rest =
    subst (λ (e : Extent). Spells (levels_format size (start e) (length root.levels.items)) at_levels root rest) (sym deletions) from_start in (
      root.version,
      root.sequence ∷ length root.levels.items ∷ 0 ∷ 0 ∷ 0 ∷ 0 ∷ at_number,
      record { below = omega (arith, sound.version.1); parts = is ∙ fields_behind root rest },
      and_is (nat_le 1 root.version) (nat_le root.version VERSION) (le_is 1 root.version sound.version.0) (le_is root.version VERSION sound.version.1),
      (
        root.sequence,
        length root.levels.items ∷ 0 ∷ 0 ∷ 0 ∷ 0 ∷ at_number,
        record { below = low; parts = refl },
        refl,
        (
          length root.levels.items,
          0 ∷ 0 ∷ 0 ∷ 0 ∷ at_number,
          record { below = omega (arith, sound.few); parts = refl },
          le_is (length root.levels.items) LEVELS sound.few,
          (
            0 ∷ 0 ∷ 0 ∷ 0 ∷ [],
            at_number,
            record { len_is = refl; parts = refl },
            refl,
            (
              root.next_number,
              at_location,
              record { below = omega (arith, sound.number.1); parts = number_parts root.next_number at_location },
              and_is (nat_le 1 root.next_number) _ (le_is 1 root.next_number sound.number.0) (le_is root.next_number LAST_NEXT sound.number.1),
              (
                root.next_location,
                at_list,
                record { below = omega (arith, sound.location.1, sound.number.1); parts = number_parts root.next_location at_list },
                and_is (nat_le 1 root.next_location) _ (le_is 1 root.next_location sound.location.0) (le_is root.next_location (1 + (root.next_number - 1) * DOCUMENT_CELLS) sound.location.1),
                (extent_bytes root.deletions, at_levels, record { len_is = extent_long root.deletions; parts = refl }, subst (λ (e : Extent). IsTrue (is_list size e)) (sym deletions) (list_is size root.deletions sound.deletions), from_read),
              ),
            ),
          ),
        ),
      ),
    )

-- ---- the body of a root says it

levels_long : (levels : List Extent) → length (flat_map extent_bytes levels) ≡ 16 * length levels
levels_long [] = refl
levels_long (l ∷ ls) = omega (arith, length-append (extent_bytes l) (flat_map extent_bytes ls), extent_long l, levels_long ls)

pub fields_long : (root : Root) → length (fields_of root) ≡ 39 + 16 * length root.levels.items
unfolding fields_of
fields_long root =
    let head : List ℕ = root.version ∷ root.sequence ∷ length root.levels.items ∷ 0 ∷ 0 ∷ 0 ∷ 0 ∷ [] in
    let number = eight_bytes root.next_number in
    let location = eight_bytes root.next_location in
    let list = extent_bytes root.deletions in
    let levels = flat_map extent_bytes root.levels.items in
    let seven : length head ≡ 7 = refl in
    omega (
      arith,
      seven,
      length-append (head ++ number ++ location ++ list) levels,
      length-append (head ++ number ++ location) list,
      length-append (head ++ number) location,
      length-append head number,
      eight_long root.next_number,
      eight_long root.next_location,
      extent_long root.deletions,
      levels_long root.levels.items,
    )

pub body_long : (root : Root) → length root.levels.items ≤ LEVELS → length (body_of root) ≡ BODY_BYTES
unfolding body_of
body_long root few =
    omega (arith, few, fields_long root, length-append (fields_of root) (replicate (BODY_BYTES - length (fields_of root)) 0), length-replicate {A = ℕ} (BODY_BYTES - length (fields_of root)) 0)

-- what is in front of a body begins with the fields
front_is : (root : Root) → length root.levels.items ≤ LEVELS → (rest : List ℕ) × (take FIELDS_BYTES (body_of root) ≡ fields_of root ++ rest)
unfolding body_of
front_is root few =
    let fields = fields_of root in
    let zeros : List ℕ = replicate (BODY_BYTES - length fields) 0 in
    let more : length fields + (FIELDS_BYTES - length fields) ≡ FIELDS_BYTES = omega (arith, few, fields_long root) in
    (take (FIELDS_BYTES - length fields) zeros, ap (λ (n : ℕ). take n (fields ++ zeros)) (sym more) ∙ take-append-add fields zeros (FIELDS_BYTES - length fields))

pub body_says : (size start : ℕ) (root : Root) (body fields : List ℕ) → IsSound size root → root.sequence < 256 → All IsWord (extents_of root) → body ≡ body_of root → fields ≡ take FIELDS_BYTES body → root_in size start fields ≡ Ok root
unfolding root_in
body_says size start root body fields sound low words body_is fields_is =
    let (rest, front) = front_is root sound.few in
    part_reads (root_format size) fields start root rest (root_spells size root fields rest sound low words (fields_is ∙ ap (λ (l : List ℕ). take FIELDS_BYTES l) body_is ∙ front))

-- ---- what is read is spelled so

-- extents on a disk of fewer than 2 ^ 64 bytes
extent_word : (least size : ℕ) (before : List Extent) (extent : Extent) → size < 2 ^ 64 → IsExtent least size before extent → IsWord extent
extent_word least size before extent below is = (omega (arith, below, is.inside), omega (arith, below, is.inside))

levels_words : (size : ℕ) (before levels : List Extent) → size < 2 ^ 64 → AreExtents size before levels → All IsWord levels
levels_words size before [] below are = All-nil IsWord
levels_words size before (l ∷ ls) below are = All-cons IsWord l ls (extent_word LEVEL_BYTES size before l below are.0) (levels_words size (before ++ l ∷ []) ls below are.1)

pub sound_words : (size : ℕ) (root : Root) → size < 2 ^ 64 → IsSound size root → All IsWord (extents_of root)
sound_words size root below sound =
    All-cons IsWord root.deletions root.levels.items
    (⊎_elim (λ none. subst IsWord (sym none) (omega arith, omega arith)) (λ some. extent_word 1 size [] root.deletions below some) sound.deletions)
    (levels_words size (root.deletions ∷ []) root.levels.items below sound.levels)

pub reads_back : (size start : ℕ) (root : Root) (bytes rest : List ℕ) → size < 2 ^ 64 → IsSound size root → root.sequence < 256 → bytes ≡ fields_of root ++ rest → root_in size start bytes ≡ Ok root
unfolding root_in
reads_back size start root bytes rest below sound low is = part_reads (root_format size) bytes start root rest (root_spells size root bytes rest sound low (sound_words size root below sound) is)

extent_spelled : (text : List ℕ) → length text ≡ 16 → AreBytes text → extent_bytes (extent_in text) ≡ text
extent_spelled text long fits =
    let front = eight-of_eight (take 8 text) (length-take-le 8 text (omega (arith, long))) (AreBytes-take 8 text fits) in
    let back = eight-of_eight (drop 8 text) (omega (arith, length-drop 8 text, long)) (AreBytes-drop 8 text fits) in
    ap (λ (l : List ℕ). l ++ eight_bytes (of_eight (drop 8 text))) front ∙ ap (λ (l : List ℕ). take 8 text ++ l) back ∙ take-append-drop 8 text

front_bytes : (len : ℕ) (bytes text behind : List ℕ) → AreBytes bytes → HasText len bytes text behind → AreBytes text
front_bytes len bytes text behind fits has =
    subst AreBytes (ap (λ (l : List ℕ). take len l) has.parts ∙ take_at text behind len has.len_is) (AreBytes-take len bytes fits)

-- the levels that the bytes spell
record LevelsSpelled (n : ℕ) (before after : Root) (bytes rest : List ℕ) : Type 0 where
  levels : List Extent
  is : after ≡ with_levels before levels
  count : length levels ≡ n
  parts : bytes ≡ flat_map extent_bytes levels ++ rest

levels_spelled : (size n : ℕ) (before after : Root) (bytes rest : List ℕ) → AreBytes bytes → Spells (levels_format size before n) bytes after rest → LevelsSpelled n before after bytes rest
unfolding levels_format Spells
levels_spelled size zero before after bytes rest fits (same, behind) = record {
  levels = [];
  is = sym same ∙ ap (λ (items : List Extent). record before { levels = record { items = items } }) (sym (append-nil before.levels.items));
  count = refl;
  parts = behind;
}
levels_spelled size (suc n) before after bytes rest fits (text, behind, has, holds, more) =
    let level = extent_in text in
    let tail = levels_spelled size n (with_level before level) after behind rest (AreBytes-rest bytes text behind fits has.parts) more in
    let here : extent_bytes level ≡ text = extent_spelled text has.len_is (front_bytes 16 bytes text behind fits has) in
    record {
      levels = level ∷ tail.levels;
      is = tail.is ∙ ap (λ (items : List Extent). record before { levels = record { items = items } }) (append_assoc before.levels.items (level ∷ []) tail.levels);
      count = ap suc tail.count;
      parts = has.parts ∙ ap (λ (l : List ℕ). l ++ behind) (sym here) ∙ ap (λ (l : List ℕ). extent_bytes level ++ l) tail.parts ∙ sym (append_assoc (extent_bytes level) (flat_map extent_bytes tail.levels) rest);
    }

zero_is : (b : ℕ) → IsTrue (b == 0) → b ≡ 0
zero_is b holds = eqb-true b 0 holds

four_zeros : (text : List ℕ) → length text ≡ 4 → IsTrue (list_all (λ (b : ℕ). b == 0) text) → text ≡ 0 ∷ 0 ∷ 0 ∷ 0 ∷ []
four_zeros [] long holds = absurd (omega (arith, long))
four_zeros (a ∷ []) long holds = absurd (omega (arith, long))
four_zeros (a ∷ b ∷ []) long holds = absurd (omega (arith, long))
four_zeros (a ∷ b ∷ c ∷ []) long holds = absurd (omega (arith, long))
four_zeros (a ∷ b ∷ c ∷ d ∷ []) long holds =
    let a_rest = split_and (a == 0) ((b == 0) && ((c == 0) && ((d == 0) && true))) holds in
    let b_rest = split_and (b == 0) ((c == 0) && ((d == 0) && true)) a_rest.1 in
    let c_rest = split_and (c == 0) ((d == 0) && true) b_rest.1 in
    let d_rest = split_and (d == 0) true c_rest.1 in
    ap (λ (n : ℕ). n ∷ b ∷ c ∷ d ∷ []) (zero_is a a_rest.0) ∙ ap (λ (n : ℕ). 0 ∷ n ∷ c ∷ d ∷ []) (zero_is b b_rest.0) ∙ ap (λ (n : ℕ). 0 ∷ 0 ∷ n ∷ d ∷ []) (zero_is c c_rest.0) ∙ ap (λ (n : ℕ). 0 ∷ 0 ∷ 0 ∷ n ∷ []) (zero_is d d_rest.0)
four_zeros (a ∷ b ∷ c ∷ d ∷ e ∷ more) long holds = absurd (omega (arith, long))

abbrev half_start : ℕ → ℕ → ℕ → ℕ → Extent → Root
half_start version sequence number location list = record { version = version; sequence = sequence; next_number = number; next_location = location; levels = record { items = [] }; deletions = list }

-- the parts of bytes that spell a root, one behind the other
parts_spelled : (v s c n l : ℕ) (list : Extent) (levels : List Extent) (root : Root) (bytes rest b1 b2 b3 b4 b5 b6 b7 : List ℕ) → root ≡ with_levels (half_start v s n l list) levels → length levels ≡ c
    → bytes ≡ v ∷ b1 → b1 ≡ s ∷ b2 → b2 ≡ c ∷ b3 → b3 ≡ 0 ∷ 0 ∷ 0 ∷ 0 ∷ b4 → b4 ≡ eight_bytes n ++ b5 → b5 ≡ eight_bytes l ++ b6 → b6 ≡ extent_bytes list ++ b7 → b7 ≡ flat_map extent_bytes levels ++ rest
    → bytes ≡ fields_of root ++ rest
parts_spelled v s c n l list levels root bytes rest b1 b2 b3 b4 b5 b6 b7 root_is count p0 p1 p2 p3 p4 p5 p6 p7 =
    let made = with_levels (half_start v s n l list) levels in
    p0 ∙ ap (λ (t : List ℕ). v ∷ t) (p1 ∙ ap (λ (t : List ℕ). s ∷ t) (p2 ∙ ap (λ (k : ℕ). k ∷ b3) (sym count) ∙ ap (λ (t : List ℕ). length levels ∷ t) (p3 ∙ ap (λ (t : List ℕ). 0 ∷ 0 ∷ 0 ∷ 0 ∷ t)
    (p4 ∙ ap (λ (t : List ℕ). eight_bytes n ++ t) (p5 ∙ ap (λ (t : List ℕ). eight_bytes l ++ t) (p6 ∙ ap (λ (t : List ℕ). extent_bytes list ++ t) p7))))))
    ∙ sym (fields_behind made rest) ∙ ap (λ (r : Root). fields_of r ++ rest) (sym root_is)

spells_bytes : (size : ℕ) (root : Root) (bytes rest : List ℕ) → AreBytes bytes → Spells (root_format size) bytes root rest → bytes ≡ fields_of root ++ rest
unfolding root_format Spells eight_bytes
spells_bytes size root bytes rest fits (v, b1, hv, kv, (s, b2, hs, ks, (c, b3, hc, kc, (z, b4, hz, kz, (n, b5, hn, kn, (l, b6, hl, kl, (d, b7, hd, kd, more))))))) =
    let f1 = AreBytes-rest bytes (v ∷ []) b1 fits hv.parts in
    let f2 = AreBytes-rest b1 (s ∷ []) b2 f1 hs.parts in
    let f3 = AreBytes-rest b2 (c ∷ []) b3 f2 hc.parts in
    let f4 = AreBytes-rest b3 z b4 f3 hz.parts in
    let f5 = AreBytes-rest b4 (to_be_bytes w64 n) b5 f4 hn.parts in
    let f6 = AreBytes-rest b5 (to_be_bytes w64 l) b6 f5 hl.parts in
    let f7 = AreBytes-rest b6 d b7 f6 hd.parts in
    let list = extent_in d in
    let start : Root = half_start v s n l list in
    let levels = levels_spelled size c start root b7 rest f7 more in
    let zeros = four_zeros z hz.len_is kz in
    let list_text : extent_bytes list ≡ d = extent_spelled d hd.len_is (front_bytes 16 b6 d b7 f6 hd) in
    parts_spelled v s c n l list levels.levels root bytes rest b1 b2 b3 b4 b5 b6 b7 levels.is levels.count
    hv.parts hs.parts hc.parts (hz.parts ∙ ap (λ (t : List ℕ). t ++ b4) zeros) hn.parts hl.parts (hd.parts ∙ ap (λ (t : List ℕ). t ++ b7) (sym list_text)) levels.parts

pub spelled_so : (size start : ℕ) (root : Root) (bytes : List ℕ) → AreBytes bytes → root_in size start bytes ≡ Ok root → (rest : List ℕ) × (bytes ≡ fields_of root ++ rest)
unfolding root_in
spelled_so size start root bytes fits e = let (rest, spells) = part_found (root_format size) bytes start root fits e in (rest, spells_bytes size root bytes rest fits spells)
