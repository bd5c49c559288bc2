-- Levels that were read are read again, behind another root and with other deleted ends.
use Rattle.std.proofs.Common.{◌≡◌, ℕ, ◌+◌, ◌<◌, Bool, true, false, List, [], ◌∷◌, ◌++◌, refl, sym, ap, subst, ◌∙◌, Result, Ok, Err, append_assoc}
use Rattle.std.specs.Prelude.{◌&&◌, nat_lt}
use Rattle.std.specs.List.{All, list_all}
use Rattle.std.specs.Str.{bytes_eq}
use Rattle.std.proofs.lemmas.Bool.{lt-ltb}
use Rattle.std.proofs.lemmas.List.{append-nil}
use Rattle.std.proofs.lemmas.List.Elements.{All-head, All-nil, All-cons, All-tail}
use Rattle.alta_codec.specs.declared.extent.Extent.{Extent}
use Rattle.alta_content.specs.Rows.{end_of, ends_among}
use Rattle.alta_content.specs.declared.document.DocRow.{DocRow}
use Rattle.alta_meaning.proofs.Existence.{level_found}
use Rattle.alta_meaning.proofs.KnownLaws.{all_weaker, all_both}
use Rattle.alta_meaning.proofs.OrderLaws.{first_of_levels, live_append, live_drop, live_keep, rows_more}
use Rattle.alta_meaning.proofs.Steps.{not_failed, one_value}
use Rattle.alta_meaning.proofs.Tests.{by_test, bytes_from, and_both, or_neither}
use Rattle.alta_meaning.specs.Chain.{◌>>=◌}
use Rattle.alta_meaning.specs.Known.{Named, named, is_taken}
use Rattle.alta_meaning.specs.Opened.{tables_at, comes_behind, is_below, are_in_order, names_from, names_in, with_level, levels_from, table_rows, live_in}
use Rattle.alta_meaning.specs.Ordered.{AreBelow, AreOrdered, IsBefore, Precedes, RowsPrecede}
use Rattle.alta_root.specs.declared.root.Root.{Root}
use Rattle.alta_table.specs.Tables.{Tables}
use Rattle.alta_content.proofs.Elements.{all_left, all_right}

-- each extent has these tables
abbrev pub AreRead : List Extent → List Tables → List ℕ → Type 0
AreRead [] [] image = Unit {0}
AreRead [] (t ∷ ts) image = ⊥
AreRead (e ∷ es) [] image = ⊥
AreRead (e ∷ es) (t ∷ ts) image = (tables_at e image ≡ Ok t) × AreRead es ts image

-- ---- what was read

record IsStep (root : Root) (deleted : List ℕ) (levels longer : List Tables) (extent : Extent) (image : List ℕ) : Type 0 where
  level : Tables
  read : tables_at extent image ≡ Ok level
  longer_is : longer ≡ levels ++ level ∷ []

module _ (root : Root) (deleted : List ℕ) (levels longer : List Tables) (extent : Extent) (image : List ℕ) (e : with_level root deleted levels extent image ≡ Ok longer) where
  by_names : (level : Tables) → tables_at extent image ≡ Ok level → are_in_order root levels level.documents ≡ true → (r : Result (List Named) ℕ) → names_in deleted levels level ≡ r → IsStep root deleted levels longer extent image
  by_names level found ordered (Ok live) names = record {
    level = level;
    read = found;
    longer_is = one_value (with_level root deleted levels extent image) longer (levels ++ level ∷ []) e (rw found rw ordered rw names refl);
  }
  by_names level found ordered (Err place) names = absurd (not_failed (with_level root deleted levels extent image) longer place e (rw found rw ordered rw names refl))

  by_tables : (r : Result Tables ℕ) → tables_at extent image ≡ r → IsStep root deleted levels longer extent image
  by_tables (Ok level) found =
      by_test (are_in_order root levels level.documents) (λ ordered. by_names level found ordered (names_in deleted levels level) refl)
      (λ wrong. absurd (not_failed (with_level root deleted levels extent image) longer extent.place e (rw found rw wrong refl)))
  by_tables (Err place) found = absurd (not_failed (with_level root deleted levels extent image) longer place e (rw found refl))

  step_is : IsStep root deleted levels longer extent image
  step_is = by_tables (tables_at extent image) refl

-- the tables behind others
pub record WasRead (levels : List Tables) (extents : List Extent) (image : List ℕ) (final : List Tables) : Type 0 where
  pub more : List Tables
  pub final_is : final ≡ levels ++ more
  pub read : AreRead extents more image

pub was_read : (root : Root) (deleted : List ℕ) (levels : List Tables) (extents : List Extent) (image : List ℕ) (final : List Tables) → levels_from root deleted levels extents image ≡ Ok final → WasRead levels extents image final
was_read root deleted levels [] image final e = record { more = []; final_is = sym (one_value {E = ℕ} (Ok levels) levels final refl e) ∙ sym (append-nil levels); read = tt }
was_read root deleted levels (extent ∷ extents) image final e =
    let first = first_of_levels root deleted levels extent extents image final (with_level root deleted levels extent image) refl e in
    let step = step_is root deleted levels first.longer extent image first.here in
    let rest = was_read root deleted first.longer extents image final first.rest in
    record {
      more = step.level ∷ rest.more;
      final_is = rest.final_is ∙ ap (λ (l : List Tables). l ++ rest.more) step.longer_is ∙ append_assoc levels (step.level ∷ []) rest.more;
      read = (step.read, rest.read);
    }

-- ---- tests

pub all_to : {X : Type 0} (p : X → Bool) (xs : List X) → All (λ x. p x ≡ true) xs → list_all p xs ≡ true
all_to p [] all = refl
all_to p (x ∷ xs) all = and_both (p x) (list_all p xs) (All-head (λ x. p x ≡ true) x xs all) (all_to p xs (All-tail (λ x. p x ≡ true) x xs all))

-- ---- order

abbrev pub IsBehindAll : List DocRow → DocRow → Type 0
IsBehindAll rows later = All (λ (row : DocRow). Precedes row later) rows

pub rise_apart : (xs ys : List DocRow) → RowsPrecede (xs ++ ys) → All (IsBehindAll xs) ys
rise_apart [] ys rise = all_nil ys
  where
    all_nil : (ys : List DocRow) → All (IsBehindAll []) ys
    all_nil [] = All-nil (IsBehindAll [])
    all_nil (y ∷ ys) = All-cons (IsBehindAll []) y ys (All-nil (λ (row : DocRow). Precedes row y)) (all_nil ys)
rise_apart (x ∷ xs) ys rise =
    all_weaker (λ (y : DocRow). Precedes x y × IsBehindAll xs y) (IsBehindAll (x ∷ xs)) ys (λ y both. All-cons (λ (row : DocRow). Precedes row y) x xs both.0 both.1)
    (all_both (Precedes x) (IsBehindAll xs) ys (all_right (Precedes x) xs ys rise.0) (rise_apart xs ys rise.1))

order_read : (root : Root) (levels : List Tables) (rows : List DocRow) → All (IsBehindAll (table_rows levels)) rows → AreBelow root rows → are_in_order root levels rows ≡ true
order_read root levels rows behind below =
    all_to (λ (row : DocRow). is_below root row && list_all (λ (earlier : DocRow). comes_behind earlier row) (table_rows levels)) rows
    (all_weaker (λ (row : DocRow). IsBehindAll (table_rows levels) row × ((row.number < root.next_number) × (end_of row < root.next_location)))
    (λ (row : DocRow). (is_below root row && list_all (λ (earlier : DocRow). comes_behind earlier row) (table_rows levels)) ≡ true) rows
    (λ row both. and_both (is_below root row) (list_all (λ (earlier : DocRow). comes_behind earlier row) (table_rows levels))
    (and_both (nat_lt row.number root.next_number) (nat_lt (end_of row) root.next_location) (lt-ltb row.number root.next_number both.1.0) (lt-ltb (end_of row) root.next_location both.1.1))
    (all_to (λ (earlier : DocRow). comes_behind earlier row) (table_rows levels)
    (all_weaker (λ (earlier : DocRow). Precedes earlier row) (λ (earlier : DocRow). comes_behind earlier row ≡ true) (table_rows levels)
    (λ earlier precedes. and_both (nat_lt earlier.number row.number) (nat_lt (end_of earlier) row.first) (lt-ltb earlier.number row.number precedes.0) (lt-ltb (end_of earlier) row.first precedes.1)) both.0)))
    (all_both (IsBehindAll (table_rows levels)) (λ (row : DocRow). (row.number < root.next_number) × (end_of row < root.next_location)) rows behind below))

-- ---- names

ordered_free : (live : List Named) (row : Named) (more : List Named) → AreOrdered (live ++ row ∷ more) → is_taken row.name live ≡ false
ordered_free [] row more ordered = refl
ordered_free (x ∷ live) row more ordered =
    or_neither (bytes_eq row.name x.name) (is_taken row.name live)
    (by_test (bytes_eq row.name x.name) (λ same. absurd ((All-head (IsBefore x) row more (all_right (IsBefore x) live (row ∷ more) ordered.0)).1 (sym (bytes_from row.name x.name same)))) (λ other. other))
    (ordered_free live row more ordered.1)

names_read : (deleted : List ℕ) (level : Tables) (live : List Named) (i : ℕ) (rows : List DocRow) (more : List Named) → AreOrdered (live ++ (live_in deleted rows ++ more))
    → names_from deleted level live i rows ≡ Ok (live ++ live_in deleted rows)
names_read deleted level live i [] more ordered = ap (λ (l : List Named). Ok l) (sym (append-nil live))
names_read deleted level live i (row ∷ rows) more ordered =
    by_test (ends_among deleted row)
    (λ dead.
    passed deleted level live i row rows dead
    ∙ names_read deleted level live (i + 1) rows more (subst (λ (l : List Named). AreOrdered (live ++ (l ++ more))) (live_drop deleted row rows dead) ordered)
    ∙ ap (λ (l : List Named). Ok (live ++ l)) (sym (live_drop deleted row rows dead)))
    (λ lives.
    let here : AreOrdered (live ++ named row.name row.number ∷ (live_in deleted rows ++ more)) = subst (λ (l : List Named). AreOrdered (live ++ (l ++ more))) (live_keep deleted row rows lives) ordered in
    let snoc : live ++ named row.name row.number ∷ (live_in deleted rows ++ more) ≡ (live ++ named row.name row.number ∷ []) ++ (live_in deleted rows ++ more) =
    sym (append_assoc live (named row.name row.number ∷ []) (live_in deleted rows ++ more)) in
    step deleted level live i row rows lives (ordered_free live (named row.name row.number) (live_in deleted rows ++ more) here)
    ∙ names_read deleted level (live ++ named row.name row.number ∷ []) (i + 1) rows more (subst AreOrdered snoc here)
    ∙ ap (λ (l : List Named). Ok l) (append_assoc live (named row.name row.number ∷ []) (live_in deleted rows) ∙ ap (λ (l : List Named). live ++ l) (sym (live_keep deleted row rows lives))))
  where
    step : (deleted : List ℕ) (level : Tables) (live : List Named) (i : ℕ) (row : DocRow) (rows : List DocRow) → ends_among deleted row ≡ false → is_taken row.name live ≡ false
        → names_from deleted level live i (row ∷ rows) ≡ names_from deleted level (live ++ named row.name row.number ∷ []) (i + 1) rows
    step deleted level live i row rows lives free = rw lives rw free refl

    passed : (deleted : List ℕ) (level : Tables) (live : List Named) (i : ℕ) (row : DocRow) (rows : List DocRow) → ends_among deleted row ≡ true
        → names_from deleted level live i (row ∷ rows) ≡ names_from deleted level live (i + 1) rows
    passed deleted level live i row rows dead = rw dead refl

-- ---- levels

pub read_again : (root : Root) (deleted : List ℕ) (before : List Tables) (extents : List Extent) (tables : List Tables) (image : List ℕ) → AreRead extents tables image → RowsPrecede (table_rows before ++ table_rows tables)
    → AreBelow root (table_rows before ++ table_rows tables) → AreOrdered (live_in deleted (table_rows before ++ table_rows tables)) → levels_from root deleted before extents image ≡ Ok (before ++ tables)
read_again root deleted before [] [] image read rise below ordered = ap (λ (l : List Tables). Ok l) (sym (append-nil before))
read_again root deleted before [] (t ∷ ts) image read rise below ordered = absurd read
read_again root deleted before (e ∷ es) [] image read rise below ordered = absurd read
read_again root deleted before (e ∷ es) (t ∷ ts) image read rise below ordered =
    let rows = t.documents in
    let others = table_rows ts in
    let here : All (IsBehindAll (table_rows before)) rows = all_left (IsBehindAll (table_rows before)) rows others (rise_apart (table_rows before) (rows ++ others) rise) in
    let low : AreBelow root rows =
    all_left (λ (row : DocRow). (row.number < root.next_number) × (end_of row < root.next_location)) rows others
    (all_right (λ (row : DocRow). (row.number < root.next_number) × (end_of row < root.next_location)) (table_rows before) (rows ++ others) below) in
    let live : AreOrdered (live_in deleted (table_rows before) ++ (live_in deleted rows ++ live_in deleted others)) =
    subst AreOrdered (live_append deleted (table_rows before) (rows ++ others) ∙ ap (λ (x : List Named). live_in deleted (table_rows before) ++ x) (live_append deleted rows others)) ordered in
    let found : with_level root deleted before e image ≡ Ok (before ++ t ∷ []) =
    level_found root deleted before e image t (live_in deleted (table_rows before) ++ live_in deleted rows) read.0 (order_read root before rows here low)
    (names_read deleted t (live_in deleted (table_rows before)) 0 rows (live_in deleted others) live) in
    let same : table_rows before ++ (rows ++ others) ≡ table_rows (before ++ t ∷ []) ++ others =
    sym (append_assoc (table_rows before) rows others) ∙ ap (λ (x : List DocRow). x ++ others) (sym (rows_more before t)) in
    ap (λ (r : Result (List Tables) ℕ). r >>= λ longer. levels_from root deleted longer es image) found
    ∙ read_again root deleted (before ++ t ∷ []) es ts image read.1 (subst RowsPrecede same rise) (subst (AreBelow root) same below)
    (subst (λ (x : List DocRow). AreOrdered (live_in deleted x)) same ordered)
    ∙ ap (λ (x : List Tables). Ok x) (append_assoc before (t ∷ []) ts)
