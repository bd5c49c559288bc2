-- Locations in the ranges of rows.
use Rattle.std.proofs.Common.{◌≡◌, ⊎_elim, ℕ, zero, suc, ◌<◌, ◌≤◌, Bool, true, false, ◌&&◌, ◌||◌, cond, List, [], ◌∷◌, ◌++◌, length, get_or, refl, sym, ap, subst, ◌∙◌, arith, inl, inr}
use Rattle.std.specs.Prelude.{nat_eq, nat_le}
use Rattle.std.specs.List.{All, list_any}
use Rattle.std.specs.Str.{bytes_eq}
use Rattle.std.proofs.lemmas.Bool.{cases_Bool, or_cases, and_parts, and_from, and_left, or_left, or_right, or_from, leb-true, le-leb, lt-leb, eqb-true, true≢false}
use Rattle.std.proofs.lemmas.List.Elements.{All-nil, All-cons, All-head, All-tail, All-weaker}
use Rattle.alta_content.specs.declared.document.DocRow.{DocRow}
use Rattle.alta_content.specs.declared.content.Content.{Content}
use Rattle.alta_content.specs.TermList.{TermList}
use Rattle.alta_content.specs.Joining.{locations_among, parts_of, rows_in}
use Rattle.alta_content.specs.Lists.{AreInRanges, AreListsBehind, IsInRange, locations_of}
use Rattle.alta_content.specs.Parts.{IsPart}
use Rattle.alta_content.specs.Rows.{RowsRise, end_of, ends_of, firsts_of}

abbrev pub in_row : ℕ → DocRow → Bool
in_row x row = nat_le row.first x && nat_le x (end_of row)

abbrev pub in_rows : List DocRow → ℕ → Bool
in_rows rows x = list_any (in_row x) rows

abbrev pub among : ℕ → List ℕ → Bool
among x xs = list_any (nat_eq x) xs

pub any_append : {X : Type 0} (p : X → Bool) (xs ys : List X) → list_any p (xs ++ ys) ≡ (list_any p xs || list_any p ys)
any_append p [] ys = refl
any_append p (x ∷ xs) ys = ⊎_elim (λ e. rw e refl) (λ n. rw n (any_append p xs ys)) (cases_Bool (p x))

pub in_row_from : (x : ℕ) (row : DocRow) → row.first ≤ x → x ≤ end_of row → in_row x row ≡ true
in_row_from x row l m = and_from (nat_le row.first x) (nat_le x (end_of row)) (le-leb row.first x l) (le-leb x (end_of row) m)

-- ---- ranges that do not meet

none_later : (y x : ℕ) (rows : List DocRow) → All (λ (r : DocRow). y < r.first) rows → x ≤ y → in_rows rows x ≡ false
none_later y x [] h l = refl
none_later y x (r ∷ rs) h l =
    let lt : y < r.first = All-head (λ (r : DocRow). y < r.first) r rs h in
    or_from (in_row x r) (in_rows rs x) (and_left (nat_le r.first x) (nat_le x (end_of r)) (lt-leb r.first x (omega (arith, lt, l))))
    (none_later y x rs (All-tail (λ (r : DocRow). y < r.first) r rs h) l)

right_false : (a b : Bool) → (a || b) ≡ false → b ≡ false
right_false true b h = absurd (true≢false h)
right_false false b h = h

-- a location in one of the first rows is in none of the others
pub ranges_apart : (a b : List DocRow) (x : ℕ) → RowsRise (a ++ b) → in_rows a x ≡ true → in_rows b x ≡ false
ranges_apart [] b x r h = absurd (true≢false (sym h))
ranges_apart (row ∷ rows) b x r h =
    ⊎_elim
    (λ here. let at = and_parts (nat_le row.first x) (nat_le x (end_of row)) here in
    right_false (in_rows rows x) (in_rows b x) (sym (any_append (in_row x) rows b) ∙ none_later (end_of row) x (rows ++ b) r.1 (leb-true x (end_of row) at.1)))
    (λ later. ranges_apart rows b x r.2 later)
    (or_cases (in_row x row) (in_rows rows x) h)

pub rise_right : (a b : List DocRow) → RowsRise (a ++ b) → RowsRise b
rise_right [] b r = r
rise_right (row ∷ rows) b r = rise_right rows b r.2

-- a location of a row is one of the rows'
pub each_in : (rows : List DocRow) → All (λ (r : DocRow). (x : ℕ) → in_row x r ≡ true → in_rows rows x ≡ true) rows
each_in [] = All-nil (λ (r : DocRow). (x : ℕ) → in_row x r ≡ true → in_rows [] x ≡ true)
each_in (row ∷ rows) =
    All-cons (λ (r : DocRow). (x : ℕ) → in_row x r ≡ true → in_rows (row ∷ rows) x ≡ true) row rows
    (λ x h. or_left (in_row x row) (in_rows rows x) h)
    (All-weaker (λ (r : DocRow). (x : ℕ) → in_row x r ≡ true → in_rows rows x ≡ true) (λ (r : DocRow). (x : ℕ) → in_row x r ≡ true → in_rows (row ∷ rows) x ≡ true)
    (λ r h x i. or_right (in_row x row) (in_rows rows x) (h x i)) rows (each_in rows))

-- ---- the locations of a content

in_range_at : (rows : List DocRow) (i x : ℕ) → i < length rows → get_or (firsts_of rows) i 0 ≤ x → x ≤ get_or (ends_of rows) i 0 → in_rows rows x ≡ true
in_range_at [] i x l a b = absurd (omega (arith, l))
in_range_at (r ∷ rs) zero x l a b = or_left (in_row x r) (in_rows rs x) (in_row_from x r a b)
in_range_at (r ∷ rs) (suc i) x l a b = or_right (in_row x r) (in_rows rs x) (in_range_at rs i x (omega (arith, l)) a b)

pub in_range : (rows : List DocRow) (x : ℕ) → IsInRange rows x → in_rows rows x ≡ true
in_range rows x h = in_range_at rows h.row x h.within h.from h.to

ranges_rest : (rows : List DocRow) (y : ℕ) (ys : List ℕ) → AreInRanges rows (y ∷ ys) → AreInRanges rows ys
ranges_rest rows y ys h = λ k l. h (suc k) (omega (arith, l))

pub in_ranges : (rows : List DocRow) (xs : List ℕ) (x : ℕ) → AreInRanges rows xs → among x xs ≡ true → in_rows rows x ≡ true
in_ranges rows [] x h m = absurd (true≢false (sym m))
in_ranges rows (y ∷ ys) x h m =
    ⊎_elim
    (λ e. subst (λ z. in_rows rows z ≡ true) (sym (eqb-true x y e)) (in_range rows y (h 0 (omega arith))))
    (λ later. in_ranges rows ys x (ranges_rest rows y ys h) later)
    (or_cases (nat_eq x y) (among x ys) m)

lists_in : (rows : List DocRow) (before : List ℕ) (lists : List TermList) (t : List ℕ) (x : ℕ) → AreListsBehind rows before lists → among x (locations_of lists t) ≡ true → in_rows rows x ≡ true
unfolding AreListsBehind
lists_in rows before [] t x h m = absurd (true≢false (sym m))
lists_in rows before (l ∷ ls) t x h m =
    ⊎_elim
    (λ e. in_ranges rows l.locations x h.0.within (sym (ap (λ b. among x (cond b l.locations (locations_of ls t))) e) ∙ m))
    (λ n. lists_in rows l.term ls t x h.1 (sym (ap (λ b. among x (cond b l.locations (locations_of ls t))) n) ∙ m))
    (cases_Bool (bytes_eq t l.term))

pub part_in : (content : Content) (t : List ℕ) (x : ℕ) → IsPart content → among x (locations_of content.lists t) ≡ true → in_rows content.documents x ≡ true
part_in content t x (inl c) m = lists_in content.documents [] content.lists t x c.lists_stand m
part_in content t x (inr e) m = absurd (true≢false (sym m ∙ ap (λ l. among x (locations_of l t)) e.lists))

pub parts_in : (contents : List Content) (t : List ℕ) (x : ℕ) → All IsPart contents → among x (locations_among (parts_of contents) t) ≡ true → in_rows (rows_in contents) x ≡ true
parts_in [] t x h m = absurd (true≢false (sym m))
parts_in (c ∷ cs) t x h m =
    any_append (in_row x) c.documents (rows_in cs)
    ∙ ⊎_elim
    (λ here. or_left (in_rows c.documents x) (in_rows (rows_in cs) x) (part_in c t x (All-head IsPart c cs h) here))
    (λ later. or_right (in_rows c.documents x) (in_rows (rows_in cs) x) (parts_in cs t x (All-tail IsPart c cs h) later))
    (or_cases (among x (locations_of c.lists t)) (among x (locations_among (parts_of cs) t))
    (sym (any_append (nat_eq x) (locations_of c.lists t) (locations_among (parts_of cs) t)) ∙ m))

or_none : (b : Bool) → (b || false) ≡ b
or_none true = refl
or_none false = refl

not_true : (b : Bool) → (b ≡ true → ⊥) → b ≡ false
not_true true h = absurd (h refl)
not_true false h = refl

-- at a location of its own rows a content alone says what stands there
pub own_alone : (contents : List Content) → RowsRise (rows_in contents) → All IsPart contents
    → All (λ (c : Content). (x : ℕ) (t : List ℕ) → in_rows c.documents x ≡ true → (in_rows (rows_in contents) x ≡ true) × (among x (locations_among (parts_of contents) t) ≡ among x (locations_of c.lists t))) contents
own_alone [] r h = All-nil (λ (c : Content). (x : ℕ) (t : List ℕ) → in_rows c.documents x ≡ true → (in_rows [] x ≡ true) × (among x [] ≡ among x (locations_of c.lists t)))
own_alone (c ∷ cs) r h =
    let P : Content → Type 0 = λ d. (x : ℕ) (t : List ℕ) → in_rows d.documents x ≡ true → (in_rows (rows_in (c ∷ cs)) x ≡ true) × (among x (locations_among (parts_of (c ∷ cs)) t) ≡ among x (locations_of d.lists t)) in
    let rows = rows_in cs in
    let split : (x : ℕ) (t : List ℕ) → among x (locations_among (parts_of (c ∷ cs)) t) ≡ (among x (locations_of c.lists t) || among x (locations_among (parts_of cs) t)) =
    λ x t. any_append (nat_eq x) (locations_of c.lists t) (locations_among (parts_of cs) t) in
    All-cons P c cs
    (λ x t i. (
      any_append (in_row x) c.documents rows ∙ or_left (in_rows c.documents x) (in_rows rows x) i,
      let none : among x (locations_among (parts_of cs) t) ≡ false =
          not_true (among x (locations_among (parts_of cs) t))
          (λ m. true≢false (sym (parts_in cs t x (All-tail IsPart c cs h) m) ∙ ranges_apart c.documents rows x r i)) in
          split x t ∙ ap (λ b. among x (locations_of c.lists t) || b) none ∙ or_none (among x (locations_of c.lists t)),
    ))
    (All-weaker (λ (d : Content). (x : ℕ) (t : List ℕ) → in_rows d.documents x ≡ true → (in_rows rows x ≡ true) × (among x (locations_among (parts_of cs) t) ≡ among x (locations_of d.lists t))) P
    (λ d q x t i.
    let s = q x t i in (
      any_append (in_row x) c.documents rows ∙ or_right (in_rows c.documents x) (in_rows rows x) s.0,
      let none : among x (locations_of c.lists t) ≡ false =
          not_true (among x (locations_of c.lists t))
          (λ m. true≢false (sym s.0 ∙ ranges_apart c.documents rows x r (part_in c t x (All-head IsPart c cs h) m))) in
          split x t ∙ ap (λ b. b || among x (locations_among (parts_of cs) t)) none ∙ s.1,
    ))
    cs (own_alone cs (rise_right c.documents rows r) (All-tail IsPart c cs h)))
