-- A table as it grows, field by field.
use Rattle.std.proofs.Common.{◌≡◌, ⊎_elim, ℕ, ◌+◌, ◌-◌, ◌*◌, ◌/◌, ◌^◌, ◌<◌, ◌≤◌, List, map, ◌++◌, length, take, drop, get_or, refl, sym, subst, ap, ◌∙◌, arith, length-append, length-drop}
use Rattle.std.specs.Int.{w64, from_be_bytes, to_be_bytes}
use Rattle.std.proofs.Math.Seq.{drop-append_seam}
use Rattle.std.proofs.lemmas.List.{drop-append-le, take-append-le, get_or-map}
use Rattle.std.proofs.lemmas.Nat.{from_be_bytes-to_be_bytes_8}
use Rattle.std.proofs.lemmas.Bool.{cases_lt}
use Rattle.std.proofs.lemmas.Bool.Decides.{nat_tests}
use Rattle.alta_postings.specs.declared.summary.Row.{Row}
use Rattle.alta_postings.specs.Table.{field_at, groups_of, fields_of, last_row, firsts_of, lasts_of, places_of, kept_of, Keeps, IsSummary, AreRows, IsLonger, HasRowValues, HasRowFields, HasGroupFields, IsTableOf}

eight_long : (n : ℕ) → length (to_be_bytes w64 n) ≡ 8
eight_long n = refl

eight_whole : (n : ℕ) → take 8 (to_be_bytes w64 n) ≡ to_be_bytes w64 n
eight_whole n = refl

-- eight bytes more are one field more
pub longer : (bs new : List ℕ) (n : ℕ) → new ≡ bs ++ to_be_bytes w64 n → n < 2 ^ 64 → IsLonger bs new n
unfolding field_at
longer bs new n same small =
    let x = to_be_bytes w64 n in
    record {
      sized = ap length same ∙ length-append bs x ∙ ap (λ m. length bs + m) (eight_long n);
      kept = λ k l.
          ap (λ s. from_be_bytes w64 (take 8 (drop (8 * k) s))) same
          ∙ ap (λ s. from_be_bytes w64 (take 8 s)) (drop-append-le (8 * k) bs x (omega arith))
          ∙ ap (from_be_bytes w64) (take-append-le 8 (drop (8 * k) bs) x (omega (arith, length-drop (8 * k) bs)));
      added = λ k e.
          ap (λ s. from_be_bytes w64 (take 8 (drop (8 * k) s))) same
          ∙ ap (λ i. from_be_bytes w64 (take 8 (drop i (bs ++ x)))) e
          ∙ ap (λ s. from_be_bytes w64 (take 8 s)) (drop-append_seam bs x)
          ∙ ap (from_be_bytes w64) (eight_whole n)
          ∙ from_be_bytes-to_be_bytes_8 n small;
    }

pub row_value : (f : Row → ℕ) (rows : List Row) (i : ℕ) (d row : Row) → i < length rows → row ≡ get_or rows i d → f row ≡ get_or (map f rows) i 0
row_value f rows i d row l h = ap f h ∙ sym (get_or-map f rows i d 0 l)

-- three fields more are one row more
pub rows_more : (b0 b1 b2 b3 : List ℕ) (rows : List Row) (i : ℕ) (d row : Row) → HasRowFields b0 rows i → i < length rows → row ≡ get_or rows i d
    → IsLonger b0 b1 row.first → IsLonger b1 b2 row.last → IsLonger b2 b3 row.place → HasRowFields b3 rows (i + 1)
rows_more b0 b1 b2 b3 rows i d row h l e x y z =
    let old : (k : ℕ) → 8 * k + 8 ≤ length b0 → field_at b3 k ≡ field_at b0 k =
    λ k w. z.kept k (omega (arith, x.sized, y.sized)) ∙ y.kept k (omega (arith, x.sized)) ∙ x.kept k w in
    record {
      sized = omega (arith, h.sized, x.sized, y.sized, z.sized);
      values = record {
        first = λ j lt. ⊎_elim (λ a. old (3 * j) (omega (arith, h.sized)) ∙ h.values.first j a)
            (λ g. let same : i ≡ j = omega arith in
            z.kept (3 * j) (omega (arith, h.sized, x.sized, y.sized)) ∙ y.kept (3 * j) (omega (arith, h.sized, x.sized)) ∙ x.added (3 * j) (omega (arith, h.sized))
            ∙ row_value (λ r. r.first) rows i d row l e ∙ ap (λ n. get_or (firsts_of rows) n 0) same)
            (cases_lt j i);
        last = λ j lt. ⊎_elim (λ a. old (3 * j + 1) (omega (arith, h.sized)) ∙ h.values.last j a)
            (λ g. let same : i ≡ j = omega arith in
            z.kept (3 * j + 1) (omega (arith, h.sized, x.sized, y.sized)) ∙ y.added (3 * j + 1) (omega (arith, h.sized, x.sized))
            ∙ row_value (λ r. r.last) rows i d row l e ∙ ap (λ n. get_or (lasts_of rows) n 0) same)
            (cases_lt j i);
        place = λ j lt. ⊎_elim (λ a. old (3 * j + 2) (omega (arith, h.sized)) ∙ h.values.place j a)
            (λ g. let same : i ≡ j = omega arith in
            z.added (3 * j + 2) (omega (arith, h.sized, x.sized, y.sized))
            ∙ row_value (λ r. r.place) rows i d row l e ∙ ap (λ n. get_or (places_of rows) n 0) same)
            (cases_lt j i);
      };
    }

-- one field more is one group more
pub groups_more : (b0 b1 : List ℕ) (rows : List Row) (g n : ℕ) (d row : Row) → HasGroupFields b0 rows g → 0 < length rows → n ≡ last_row (length rows) g → row ≡ get_or rows n d
    → IsLonger b0 b1 row.last → HasGroupFields b1 rows (g + 1)
groups_more b0 b1 rows g n d row h some w e x = record {
  sized = omega (arith, h.sized, x.sized);
  values = record {
    first = λ j l. x.kept (3 * j) (omega (arith, h.sized)) ∙ h.values.first j l;
    last = λ j l. x.kept (3 * j + 1) (omega (arith, h.sized)) ∙ h.values.last j l;
    place = λ j l. x.kept (3 * j + 2) (omega (arith, h.sized)) ∙ h.values.place j l;
  };
  group = λ j l. ⊎_elim (λ a. x.kept (3 * length rows + j) (omega (arith, h.sized)) ∙ h.group j a)
      (λ ge. let same : g ≡ j = omega arith in
      x.added (3 * length rows + j) (omega (arith, h.sized)) ∙ row_value (λ r. r.last) rows n d row (omega (arith, w)) e
      ∙ ap (λ m. get_or (lasts_of rows) m 0) w ∙ ap (λ m. get_or (lasts_of rows) (last_row (length rows) m) 0) same)
      (cases_lt j g);
}

kept_many : (n : ℕ) → 2 ≤ n → kept_of n ≡ n
kept_many n l = grind (arith, nat_tests)

keeps_rules : (bs : List ℕ) (rows : List Row) (k : ℕ) → AreRows rows → HasGroupFields bs rows (groups_of (length rows)) → 2 ≤ length rows → k < fields_of (length rows) → Keeps bs (length rows) k
keeps_rules bs rows k r h many l = record {
  first = λ w m p.
      let j = k / 3 - 1 in
      let here : k ≡ 3 * (j + 1) = omega arith in
      let there : k - 2 ≡ 3 * j + 1 = omega arith in
      omega (arith, ap (field_at bs) here, ap (field_at bs) there, h.values.first (j + 1) (omega arith), h.values.last j (omega arith), r.rising j (omega arith));
  last = λ w m.
      let j = k / 3 in
      let here : k ≡ 3 * j + 1 = omega arith in
      let there : k - 1 ≡ 3 * j = omega arith in
      omega (arith, ap (field_at bs) here, ap (field_at bs) there, h.values.last j (omega arith), h.values.first j (omega arith), r.ordered j (omega arith));
  start = λ w e. ap (field_at bs) e ∙ h.values.place 0 (omega arith) ∙ r.start (omega arith);
  place = λ w m p.
      let j = k / 3 - 1 in
      let here : k ≡ 3 * (j + 1) + 2 = omega arith in
      let there : k - 3 ≡ 3 * j + 2 = omega arith in
      omega (arith, ap (field_at bs) here, ap (field_at bs) there, h.values.place (j + 1) (omega arith), h.values.place j (omega arith), r.places j (omega arith));
  group = λ w.
      let g = k - 3 * length rows in
      let here : k ≡ 3 * length rows + g = omega arith in
      ap (field_at bs) here ∙ h.group g (omega arith) ∙ sym (h.values.last (last_row (length rows) g) (omega arith));
}

pub table_is : (bs : List ℕ) (rows : List Row) → AreRows rows → HasGroupFields bs rows (groups_of (length rows)) → 2 ≤ length rows → IsTableOf bs rows
table_is bs rows r h many =
    let e = kept_many (length rows) many in
    record {
      table = subst (λ b. IsSummary bs b) (sym e) (record { rows = record { sized = h.sized; many = λ o. absurd (omega arith) }; keeps = λ k l. keeps_rules bs rows k r h many l });
      values = subst (λ b. HasRowValues bs rows b) (sym e) h.values;
    }
