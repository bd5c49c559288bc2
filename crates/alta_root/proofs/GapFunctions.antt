-- The first gap and the greatest gap as functions are what the relations say.
use Rattle.std.proofs.Common.{◌≡◌, ◌⊎◌, ⊎_elim, inl, inr, ℕ, ◌+◌, ◌-◌, ◌<◌, ◌≤◌, min, max, Bool, true, false, cond, List, [], ◌∷◌, map, refl, sym, ap, subst, ◌∙◌, arith}
use Rattle.std.specs.Prelude.{Option, Some, None, IfSome, IfNone, nat_le, ◌&&◌, ◌||◌}
use Rattle.std.specs.List.{All, filter, list_all}
use Rattle.std.proofs.lemmas.Bool.{cases_lt, false≢true, le-leb, lt-leb}
use Rattle.std.proofs.lemmas.List.Elements.{All-nil, All-cons, All-head, All-tail, filter_passes}
use Rattle.alta_layout.specs.declared.places.TheConstants.{HEAD_BYTES}
use Rattle.alta_codec.specs.declared.extent.Extent.{Extent}
use Rattle.alta_disk.specs.Parts.{Apart}
use Rattle.alta_codec.specs.Lists.{greatest_of}
use Rattle.alta_root.specs.Gaps.{IsGap, IsFirstGap, IsLongestGap, starts_beside, is_beside, is_gap, least, least_with, first_gap, room_before, room_beside, room_at, greatest_gap}
use Rattle.alta_root.specs.Meeting.{AreClear, IsRoom, Bounds, IsRoomAt, IsThere}
use Rattle.alta_root.proofs.GapLaws as laws

-- ---- tests

by_test : {P : Type 0} (b : Bool) → (b ≡ true → P) → (b ≡ false → P) → P
by_test true if_true if_false = if_true refl
by_test false if_true if_false = if_false refl

filter_keep : {X : Type 0} (p : X → Bool) (x : X) (xs : List X) → p x ≡ true → filter p (x ∷ xs) ≡ x ∷ filter p xs
filter_keep p x xs e = ap (λ (b : Bool). cond b (x ∷ filter p xs) (filter p xs)) e

filter_drop : {X : Type 0} (p : X → Bool) (x : X) (xs : List X) → p x ≡ false → filter p (x ∷ xs) ≡ filter p xs
filter_drop p x xs e = ap (λ (b : Bool). cond b (x ∷ filter p xs) (filter p xs)) e

le_from : (a b : ℕ) → nat_le a b ≡ true → a ≤ b
le_from a b e = ⊎_elim (λ above. absurd (false≢true (sym (lt-leb a b above) ∙ e))) (λ le. le) (cases_lt b a)

le_to : (a b : ℕ) → a ≤ b → nat_le a b ≡ true
le_to a b le = le-leb a b le

and_left : (a b : Bool) → (a && b) ≡ true → a ≡ true
and_left true b e = refl
and_left false b e = absurd (false≢true e)

and_right : (a b : Bool) → (a && b) ≡ true → b ≡ true
and_right true b e = e
and_right false b e = absurd (false≢true e)

and_both : (a b : Bool) → a ≡ true → b ≡ true → (a && b) ≡ true
and_both true true e f = refl
and_both true false e f = f
and_both false b e f = absurd (false≢true e)

or_either : (a b : Bool) → (a || b) ≡ true → (a ≡ true) ⊎ (b ≡ true)
or_either true b e = inl refl
or_either false b e = inr e

or_first : (a b : Bool) → a ≡ true → (a || b) ≡ true
or_first true b e = refl
or_first false b e = absurd (false≢true e)

or_second : (a b : Bool) → b ≡ true → (a || b) ≡ true
or_second true b e = refl
or_second false b e = e

beside_from : (at bytes : ℕ) (e : Extent) → is_beside at bytes e ≡ true → Apart at bytes e.place e.bytes
beside_from at bytes e is =
    ⊎_elim (λ front. inl (le_from (at + bytes) e.place front)) (λ behind. inr (le_from (e.place + e.bytes) at behind)) (or_either (nat_le (at + bytes) e.place) (nat_le (e.place + e.bytes) at) is)

beside_to : (at bytes : ℕ) (e : Extent) → Apart at bytes e.place e.bytes → is_beside at bytes e ≡ true
beside_to at bytes e apart =
    ⊎_elim (λ front. or_first (nat_le (at + bytes) e.place) (nat_le (e.place + e.bytes) at) (le_to (at + bytes) e.place front))
    (λ behind. or_second (nat_le (at + bytes) e.place) (nat_le (e.place + e.bytes) at) (le_to (e.place + e.bytes) at behind)) apart

clear_from : (at bytes : ℕ) (es : List Extent) → list_all (is_beside at bytes) es ≡ true → AreClear es at bytes
clear_from at bytes [] is = All-nil (λ (e : Extent). Apart at bytes e.place e.bytes)
clear_from at bytes (e ∷ es) is =
    All-cons (λ (e : Extent). Apart at bytes e.place e.bytes) e es (beside_from at bytes e (and_left (is_beside at bytes e) (list_all (is_beside at bytes) es) is))
    (clear_from at bytes es (and_right (is_beside at bytes e) (list_all (is_beside at bytes) es) is))

clear_to : (at bytes : ℕ) (es : List Extent) → AreClear es at bytes → list_all (is_beside at bytes) es ≡ true
clear_to at bytes [] clear = refl
clear_to at bytes (e ∷ es) clear =
    and_both (is_beside at bytes e) (list_all (is_beside at bytes) es) (beside_to at bytes e (All-head (λ (e : Extent). Apart at bytes e.place e.bytes) e es clear))
    (clear_to at bytes es (All-tail (λ (e : Extent). Apart at bytes e.place e.bytes) e es clear))

gap_from : (es : List Extent) (bytes limit at : ℕ) → is_gap es bytes limit at ≡ true → IsGap es bytes limit at
gap_from es bytes limit at is = record {
  behind = le_from HEAD_BYTES at (and_left (nat_le HEAD_BYTES at) (nat_le (at + bytes) limit) (and_left (nat_le HEAD_BYTES at && nat_le (at + bytes) limit) (list_all (is_beside at bytes) es) is));
  before = le_from (at + bytes) limit (and_right (nat_le HEAD_BYTES at) (nat_le (at + bytes) limit) (and_left (nat_le HEAD_BYTES at && nat_le (at + bytes) limit) (list_all (is_beside at bytes) es) is));
  apart = clear_from at bytes es (and_right (nat_le HEAD_BYTES at && nat_le (at + bytes) limit) (list_all (is_beside at bytes) es) is);
}

gap_to : (es : List Extent) (bytes limit at : ℕ) → IsGap es bytes limit at → is_gap es bytes limit at ≡ true
gap_to es bytes limit at gap =
    and_both (nat_le HEAD_BYTES at && nat_le (at + bytes) limit) (list_all (is_beside at bytes) es)
    (and_both (nat_le HEAD_BYTES at) (nat_le (at + bytes) limit) (le_to HEAD_BYTES at gap.behind) (le_to (at + bytes) limit gap.before)) (clear_to at bytes es gap.apart)

-- ---- starts

abbrev end_of : Extent → ℕ
end_of e = e.place + e.bytes

-- the last of these ends at a place or before, the head's end where there is none
record IsLatest (extents : List Extent) (q at : ℕ) : Type 0 where
  behind : HEAD_BYTES ≤ at
  before : at ≤ q
  last : All (λ (e : Extent). end_of e ≤ q → end_of e ≤ at) extents

all_weaker : {X : Type 0} (P Q : X → Type 0) (xs : List X) → ((x : X) → P x → Q x) → All P xs → All Q xs
all_weaker P Q [] weaker all = All-nil Q
all_weaker P Q (x ∷ xs) weaker all = All-cons Q x xs (weaker x (All-head P x xs all)) (all_weaker P Q xs weaker (All-tail P x xs all))

abbrev Ends : ℕ → ℕ → Extent → Type 0
Ends q at e = end_of e ≤ q → end_of e ≤ at

latest : (P : ℕ → Type 0) (q : ℕ) (extents : List Extent) → HEAD_BYTES ≤ q → P HEAD_BYTES → All P (map end_of extents) → (at : ℕ) × IsLatest extents q at × P at
latest P q [] behind here ends = (HEAD_BYTES, record { behind = omega arith; before = behind; last = All-nil (Ends q HEAD_BYTES) }, here)
latest P q (e ∷ es) behind here ends =
    let (at, is, holds) = latest P q es behind here (All-tail P (end_of e) (map end_of es) ends) in
    ⊎_elim
    (λ later. ⊎_elim
    (λ past. (at, record { behind = is.behind; before = is.before; last = All-cons (Ends q at) e es (λ le. absurd (omega (arith, le, past))) is.last }, holds))
    (λ inside. (
      end_of e,
      record {
        behind = omega (arith, is.behind, later);
        before = inside;
        last = All-cons (Ends q (end_of e)) e es (λ _. omega arith) (all_weaker (Ends q at) (Ends q (end_of e)) es (λ x last le. omega (arith, last le, later)) is.last);
      },
      All-head P (end_of e) (map end_of es) ends,
    ))
    (cases_lt q (end_of e)))
    (λ earlier. (at, record { behind = is.behind; before = is.before; last = All-cons (Ends q at) e es (λ _. earlier) is.last }, holds))
    (cases_lt at (end_of e))

moved : (bytes q at : ℕ) (es : List Extent) → at ≤ q → AreClear es q bytes → All (Ends q at) es → AreClear es at bytes
moved bytes q at [] before clear last = All-nil (λ (e : Extent). Apart at bytes e.place e.bytes)
moved bytes q at (e ∷ es) before clear last =
    All-cons (λ (x : Extent). Apart at bytes x.place x.bytes) e es
    (⊎_elim (λ front. inl (omega (arith, front, before))) (λ past. inr (All-head (Ends q at) e es last past)) (All-head (λ (x : Extent). Apart q bytes x.place x.bytes) e es clear))
    (moved bytes q at es before (All-tail (λ (x : Extent). Apart q bytes x.place x.bytes) e es clear) (All-tail (Ends q at) e es last))

-- what holds of each start that is a gap holds of one at each gap or before
at_start : (extents : List Extent) (bytes limit q : ℕ) (Q : ℕ → Type 0) → IsGap extents bytes limit q → All (λ x. is_gap extents bytes limit x ≡ true → Q x) (starts_beside extents) → (at : ℕ) × (at ≤ q) × Q at
at_start extents bytes limit q Q gap all =
    let P : ℕ → Type 0 = λ x. is_gap extents bytes limit x ≡ true → Q x in
    let (at, is, holds) = latest P q extents gap.behind (All-head P HEAD_BYTES (map end_of extents) all) (All-tail P HEAD_BYTES (map end_of extents) all) in
    let here : IsGap extents bytes limit at = record { behind = is.behind; before = omega (arith, gap.before, is.before); apart = moved bytes q at extents is.before gap.apart is.last } in
    (at, is.before, holds (gap_to extents bytes limit at here))

-- ---- the least

abbrev IsLeast : Option ℕ → (ℕ → Type 0) → List ℕ → Type 0
IsLeast None P xs = All (λ x. ⊥) xs
IsLeast (Some m) P xs = P m × All (λ x. m ≤ x) xs

least_is : (P : ℕ → Type 0) (xs : List ℕ) → All P xs → IsLeast (least xs) P xs
least_is P [] all = All-nil (λ x. ⊥)
least_is P (x ∷ xs) all = with_first (least xs) (least_is P xs (All-tail P x xs all))
  where
    with_first : (o : Option ℕ) → IsLeast o P xs → IsLeast (Some (least_with o x)) P (x ∷ xs)
    with_first None none = (All-head P x xs all, All-cons (λ y. x ≤ y) x xs (omega arith) (all_weaker (λ y. ⊥) (λ y. x ≤ y) xs (λ y no_one. absurd no_one) none))
    with_first (Some m) is =
        ⊎_elim
        (λ less. let first : min m x ≡ x = omega (arith, less) in
        (subst P (sym first) (All-head P x xs all), subst (λ n. All (λ y. n ≤ y) (x ∷ xs)) (sym first) (All-cons (λ y. x ≤ y) x xs (omega arith) (all_weaker (λ y. m ≤ y) (λ y. x ≤ y) xs (λ y le. omega (arith, le, less)) is.1))))
        (λ more. let second : min m x ≡ m = omega (arith, more) in
        (subst P (sym second) is.0, subst (λ n. All (λ y. n ≤ y) (x ∷ xs)) (sym second) (All-cons (λ y. m ≤ y) x xs more is.1)))
        (cases_lt x m)

all_of_filter : (p : ℕ → Bool) (Q : ℕ → Type 0) (xs : List ℕ) → All Q (filter p xs) → All (λ x. p x ≡ true → Q x) xs
all_of_filter p Q [] all = All-nil (λ x. p x ≡ true → Q x)
all_of_filter p Q (x ∷ xs) all =
    by_test (p x)
    (λ passes. let here : All Q (x ∷ filter p xs) = subst (All Q) (filter_keep p x xs passes) all in
    All-cons (λ x. p x ≡ true → Q x) x xs (λ _. All-head Q x (filter p xs) here) (all_of_filter p Q xs (All-tail Q x (filter p xs) here)))
    (λ fails. All-cons (λ x. p x ≡ true → Q x) x xs (λ passes. absurd (false≢true (sym fails ∙ passes))) (all_of_filter p Q xs (subst (All Q) (filter_drop p x xs fails) all)))

module _ (extents : List Extent) (bytes limit : ℕ) where
  here_is : IsLeast (first_gap extents bytes limit) (λ x. is_gap extents bytes limit x ≡ true) (filter (is_gap extents bytes limit) (starts_beside extents))
  here_is = least_is (λ x. is_gap extents bytes limit x ≡ true) (filter (is_gap extents bytes limit) (starts_beside extents)) (filter_passes (is_gap extents bytes limit) (starts_beside extents))

  by_answer : (o : Option ℕ) → first_gap extents bytes limit ≡ o → IsLeast o (λ x. is_gap extents bytes limit x ≡ true) (filter (is_gap extents bytes limit) (starts_beside extents))
  by_answer o e = subst (λ (o : Option ℕ). IsLeast o (λ x. is_gap extents bytes limit x ≡ true) (filter (is_gap extents bytes limit) (starts_beside extents))) e here_is

  -- the first gap, where there is one
  pub first_some : (at : ℕ) → first_gap extents bytes limit ≡ Some at → IsFirstGap extents bytes limit at
  first_some at e =
      let is = by_answer (Some at) e in
      record {
        gap = gap_from extents bytes limit at is.0;
        first = λ q gap. let (s, before, le) = at_start extents bytes limit q (λ x. at ≤ x) gap (all_of_filter (is_gap extents bytes limit) (λ x. at ≤ x) (starts_beside extents) is.1) in omega (arith, before, le);
      }

  -- and none where there is none
  pub first_none : first_gap extents bytes limit ≡ None → (q : ℕ) → IsGap extents bytes limit q → ⊥
  first_none e q gap =
      let is = by_answer None e in
      let (s, before, never) = at_start extents bytes limit q (λ x. ⊥) gap (all_of_filter (is_gap extents bytes limit) (λ x. ⊥) (starts_beside extents) is) in never

  pub first_is : (at : ℕ) → IsFirstGap extents bytes limit at → first_gap extents bytes limit ≡ Some at
  first_is at first = by_first (first_gap extents bytes limit) refl
    where
      by_first : (o : Option ℕ) → first_gap extents bytes limit ≡ o → first_gap extents bytes limit ≡ Some at
      by_first None e = absurd (first_none e at first.gap)
      by_first (Some other) e =
          let there = first_some other e in
          let same : other ≡ at = omega (arith, there.first at first.gap, first.first other there.gap) in
          e ∙ ap (λ (n : ℕ). Some n) same

-- ---- the greatest

room_beside_is : (at bytes : ℕ) (es : List Extent) → IsRoom es at bytes (room_beside at bytes es)
room_beside_is at bytes [] = laws.room_none at bytes
room_beside_is at bytes (e ∷ es) = laws.room_then (e ∷ []) es at bytes (room_before at bytes e) (room_beside at (room_before at bytes e) es) (one at bytes e) (room_beside_is at (room_before at bytes e) es)
  where
    one : (at bytes : ℕ) (e : Extent) → IsRoom (e ∷ []) at bytes (room_before at bytes e)
    one at bytes e =
        by_test (nat_le (e.place + e.bytes) at)
        (λ past. subst (IsRoom (e ∷ []) at bytes) (sym (ap (λ (b : Bool). cond b bytes (min bytes (e.place - at))) past)) (laws.room_past e at bytes (le_from (e.place + e.bytes) at past)))
        (λ meets. laws.room_before e at bytes (room_before at bytes e) (λ le. false≢true (sym meets ∙ le_to (e.place + e.bytes) at le)) (ap (λ (b : Bool). cond b bytes (min bytes (e.place - at))) meets))

room_at_is : (es : List Extent) (limit at : ℕ) → IsRoomAt es limit at (room_at es limit at)
room_at_is es limit at =
    by_test (nat_le HEAD_BYTES at)
    (λ behind. subst (IsRoomAt es limit at) (sym (ap (λ (b : Bool). cond b (room_beside at (limit - at) es) 0) behind)) (here (le_from HEAD_BYTES at behind)))
    (λ before. subst (IsRoomAt es limit at) (sym (ap (λ (b : Bool). cond b (room_beside at (limit - at) es) 0) before)) (laws.no_room es limit at (inl (less before))))
  where
    less : nat_le HEAD_BYTES at ≡ false → at < HEAD_BYTES
    less fails = ⊎_elim (λ lt. lt) (λ le. absurd (false≢true (sym fails ∙ le_to HEAD_BYTES at le))) (cases_lt at HEAD_BYTES)

    here : HEAD_BYTES ≤ at → IsRoomAt es limit at (room_beside at (limit - at) es)
    here behind =
        ⊎_elim
        (λ past. let none : room_beside at (limit - at) es ≡ 0 = omega (arith, (room_beside_is at (limit - at) es).less, past) in subst (IsRoomAt es limit at) (sym none) (laws.no_room es limit at (inr past)))
        (λ inside. laws.room_at_place es limit at (room_beside at (limit - at) es) behind inside (room_beside_is at (limit - at) es)) (cases_lt limit at)

greatest_there : (es : List Extent) (limit : ℕ) (starts : List ℕ) → IsThere es limit (greatest_of (map (room_at es limit) starts))
greatest_there es limit [] = inl refl
greatest_there es limit (s ∷ ss) =
    let room = room_at es limit s in
    let rest = greatest_of (map (room_at es limit) ss) in
    ⊎_elim (λ less. let second : max room rest ≡ rest = omega (arith, less) in subst (IsThere es limit) (sym second) (greatest_there es limit ss))
    (λ more. let first : max room rest ≡ room = omega (arith, more) in subst (IsThere es limit) (sym first) (⊎_elim (λ none. inl none) (λ gap. inr (s, gap)) (room_at_is es limit s).there)) (cases_lt room rest)

greatest_bounds : (es : List Extent) (limit : ℕ) (starts : List ℕ) (room : ℕ) → greatest_of (map (room_at es limit) starts) ≤ room → All (Bounds es limit room) starts
greatest_bounds es limit [] room le = All-nil (Bounds es limit room)
greatest_bounds es limit (s ∷ ss) room le =
    All-cons (Bounds es limit room) s ss (λ more gap. omega (arith, (room_at_is es limit s).most more gap, le)) (greatest_bounds es limit ss room (omega (arith, le)))

all_ends : (P : ℕ → Type 0) (es : List Extent) → All P (map end_of es) → All (λ (e : Extent). P (e.place + e.bytes)) es
all_ends P [] all = All-nil (λ (e : Extent). P (e.place + e.bytes))
all_ends P (e ∷ es) all = All-cons (λ (e : Extent). P (e.place + e.bytes)) e es (All-head P (end_of e) (map end_of es) all) (all_ends P es (All-tail P (end_of e) (map end_of es) all))

-- the greatest gap is the longest
pub greatest_is : (extents : List Extent) (limit : ℕ) → IsLongestGap extents limit (greatest_gap extents limit)
greatest_is extents limit =
    let bounds = greatest_bounds extents limit (starts_beside extents) (greatest_gap extents limit) (omega arith) in
    laws.longest extents limit (greatest_gap extents limit) (greatest_there extents limit (starts_beside extents)) (All-head (Bounds extents limit (greatest_gap extents limit)) HEAD_BYTES (map end_of extents) bounds)
    (all_ends (Bounds extents limit (greatest_gap extents limit)) extents (All-tail (Bounds extents limit (greatest_gap extents limit)) HEAD_BYTES (map end_of extents) bounds))

pub one_longest : (extents : List Extent) (limit a : ℕ) → IsLongestGap extents limit a → a ≡ greatest_gap extents limit
one_longest extents limit a is =
    let other = greatest_is extents limit in
    omega (arith, at_most a (greatest_gap extents limit) is.there other.longest, at_most (greatest_gap extents limit) a other.there is.longest)
  where
    at_most : (a b : ℕ) → (a ≡ 0) ⊎ ((at : ℕ) × IsGap extents a limit at) → ((more at : ℕ) → IsGap extents more limit at → more ≤ b) → a ≤ b
    at_most a b there longest = ⊎_elim (λ none. omega (arith, none)) (λ (at, gap). longest a at gap) there

-- where there is no gap there is no first
pub none_is : (extents : List Extent) (bytes limit : ℕ) → ((at : ℕ) → IsGap extents bytes limit at → ⊥) → first_gap extents bytes limit ≡ None
none_is extents bytes limit none = by_first (first_gap extents bytes limit) refl
  where
    by_first : (o : Option ℕ) → first_gap extents bytes limit ≡ o → first_gap extents bytes limit ≡ None
    by_first None e = e
    by_first (Some at) e = absurd (none at (first_some extents bytes limit at e).gap)

-- what a search answers is the first gap
pub first_of : (extents : List Extent) (bytes limit : ℕ) (found : Option ℕ) → IfSome found (λ at. IsFirstGap extents bytes limit at) → IfNone found ((at : ℕ) → IsGap extents bytes limit at → ⊥) → found ≡ first_gap extents bytes limit
first_of extents bytes limit None some none = sym (none_is extents bytes limit none)
first_of extents bytes limit (Some at) some none = sym (first_is extents bytes limit at some)
