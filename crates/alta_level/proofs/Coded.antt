-- Stream and summary of a list, and what the check of a coded list finds.
use Rattle.std.proofs.Common.{◌≡◌, ⊎_elim, ℕ, zero, suc, ◌+◌, ◌-◌, ◌*◌, ◌/◌, ◌^◌, ◌<◌, ◌≤◌, min, List, [], ◌∷◌, map, length, take, get_or, refl, sym, subst, ap, ◌∙◌, arith, length-append}
use Rattle.std.specs.Prelude.{Err, IfOk, Ok, Result}
use Rattle.std.proofs.lemmas.Bool.{cases_lt}
use Rattle.std.proofs.lemmas.Bool.Decides.{nat_tests}
use Rattle.std.proofs.lemmas.List.{get_or-map}
use Rattle.std.proofs.lemmas.List.FromFn.{length-map-range_with_len, get_or-map-range_with_len}
use Rattle.alta_codec.proofs.Numerals.{AreBytes, number_size}
use Rattle.alta_codec.specs.Numbers.{number_bytes}
use Rattle.alta_codec.specs.Rising.{IsRising}
use Rattle.alta_postings.specs.Deltas.{Spells, stream_bytes, decoded_list}
use Rattle.alta_postings.proofs.Reading.{spelling_reads}
use Rattle.alta_postings.specs.declared.summary.Row.{Row}
use Rattle.alta_postings.specs.Table.{field_at, groups_of, last_row, firsts_of, lasts_of, places_of, kept_of, IsSummary, AreRows, HasRowValues, HasGroupFields, IsTableOf}
use Rattle.alta_postings.proofs.Growing.{table_is}
use Rattle.alta_words.specs.declared.checking.PostingFault.{PostingFault}
use Rattle.alta_words.specs.Word.{IsPosting, IsRowOf}
use Rattle.alta_level.specs.declared.walking.Walked.{Walked}
use Rattle.alta_level.specs.Coded.{block_of, blocks_of, table_fields, summary_bytes, IsCoded}
use Rattle.alta_level.proofs.Fields.{fields_bytes, fields_long, field_of_fields, bytes_of_fields}
use Rattle.alta_level.proofs.Tables.{each_field, fields_many, first_field, last_field, place_field, group_field}

-- ---- the blocks of a list

pub blocks_many : (list : List ℕ) → length (blocks_of list) ≡ (length list + 63) / 64
blocks_many list = length-map-range_with_len (block_of list) 0 ((length list + 63) / 64)

block_is : (list : List ℕ) (f : Row → ℕ) (i : ℕ) → i < length (blocks_of list) → get_or (map f (blocks_of list)) i 0 ≡ f (block_of list i)
block_is list f i l =
    get_or-map f (blocks_of list) i (block_of list i) 0 l
    ∙ ap f (get_or-map-range_with_len (block_of list) 0 ((length list + 63) / 64) i i (block_of list i) (omega (arith, blocks_many list)) (omega arith))

pub first_of_block : (list : List ℕ) (i : ℕ) → i < length (blocks_of list) → get_or (firsts_of (blocks_of list)) i 0 ≡ get_or list (64 * i) 0
first_of_block list i l = block_is list (λ r. r.first) i l

pub last_of_block : (list : List ℕ) (i : ℕ) → i < length (blocks_of list) → get_or (lasts_of (blocks_of list)) i 0 ≡ get_or list (min (64 * i + 63) (length list - 1)) 0
last_of_block list i l = block_is list (λ r. r.last) i l

pub place_of_block : (list : List ℕ) (i : ℕ) → i < length (blocks_of list) → get_or (places_of (blocks_of list)) i 0 ≡ length (stream_bytes 0 (take (64 * i) list))
place_of_block list i l = block_is list (λ r. r.place) i l

-- more locations take more bytes
pub stream_grows : (before j k : ℕ) (xs : List ℕ) → j < k → k ≤ length xs → length (stream_bytes before (take j xs)) < length (stream_bytes before (take k xs))
unfolding stream_bytes
stream_grows before j k [] h l = absurd (omega arith)
stream_grows before j zero (x ∷ xs) h l = absurd (omega arith)
stream_grows before zero (suc k) (x ∷ xs) h l =
    omega (arith, length-append (number_bytes (x - before)) (stream_bytes x (take k xs)), (number_size (x - before)).0)
stream_grows before (suc j) (suc k) (x ∷ xs) h l =
    let n = number_bytes (x - before) in
    omega (arith, length-append n (stream_bytes x (take k xs)), length-append n (stream_bytes x (take j xs)), stream_grows x j k xs (omega arith) (omega arith))

stream_start : (xs : List ℕ) → length (stream_bytes 0 (take 0 xs)) ≡ 0
unfolding stream_bytes
stream_start xs = refl

pub take_all : (xs : List ℕ) → take (length xs) xs ≡ xs
take_all [] = refl
take_all (x ∷ xs) = ap (λ l. x ∷ l) (take_all xs)

pub stream_within : (i : ℕ) (xs : List ℕ) → i ≤ length xs → length (stream_bytes 0 (take i xs)) ≤ length (stream_bytes 0 xs)
stream_within i xs l =
    let e = ap (λ l. length (stream_bytes 0 l)) (take_all xs) in
    ⊎_elim (λ w. omega (arith, e, stream_grows 0 i (length xs) xs w (omega arith)))
    (λ g. let s : i ≡ length xs = omega arith in omega (arith, e, ap (λ j. length (stream_bytes 0 (take j xs))) s))
    (cases_lt i (length xs))

at_up : (xs : List ℕ) (i j : ℕ) → IsRising xs → i ≤ j → j < length xs → get_or xs i 0 ≤ get_or xs j 0
at_up xs i j r le l =
    ⊎_elim (λ w. omega (arith, r.rising i j w l)) (λ g. let e : i ≡ j = omega arith in omega (arith, ap (λ k. get_or xs k 0) e)) (cases_lt i j)

-- the blocks of a list rise
pub blocks_rise : (list : List ℕ) → IsRising list → AreRows (blocks_of list)
blocks_rise list r =
    let m = blocks_many list in
    record {
      ordered = λ i l.
          omega (arith, first_of_block list i l, last_of_block list i l, at_up list (64 * i) (min (64 * i + 63) (length list - 1)) r (omega (arith, m)) (omega (arith, m)));
      rising = λ i l.
          omega (
            arith,
            last_of_block list i (omega arith),
            first_of_block list (i + 1) l,
            r.rising (min (64 * i + 63) (length list - 1)) (64 * (i + 1)) (omega (arith, m)) (omega (arith, m)),
          );
      start = λ l. place_of_block list 0 l ∙ stream_start list;
      places = λ i l.
          omega (
            arith,
            place_of_block list i (omega arith),
            place_of_block list (i + 1) l,
            stream_grows 0 (64 * i) (64 * (i + 1)) list (omega arith) (omega (arith, m)),
          );
    }

-- ---- a summary that belongs to a stream is that of the list

pub short_summary : (list : List ℕ) → length list ≤ 64 → summary_bytes list ≡ []
unfolding summary_bytes
short_summary list l = grind (arith, nat_tests)

long_summary : (list : List ℕ) → 64 < length list → summary_bytes list ≡ fields_bytes (table_fields (blocks_of list))
unfolding summary_bytes
long_summary list l = grind (arith, nat_tests)

none_left : (bytes : List ℕ) → length bytes ≡ 0 → bytes ≡ []
none_left [] z = refl
none_left (b ∷ bs) z = absurd (omega arith)

field_same : (summary : List ℕ) (list : List ℕ) → IsSummary summary (length (blocks_of list)) → ((i : ℕ) → i < length (blocks_of list) → IsRowOf list summary i) → 64 < length list
    → (k : ℕ) → k < length (table_fields (blocks_of list)) → field_at summary k ≡ get_or (table_fields (blocks_of list)) k 0
field_same summary list table rows long =
    let bs = blocks_of list in
    let m = blocks_many list in
    each_field (λ k x. field_at summary k ≡ x) bs
    (λ i l. (rows i l).first ∙ sym (first_of_block list i l))
    (λ i l. (rows i l).last ∙ sym (last_of_block list i l))
    (λ i l. (rows i l).place ∙ sym (place_of_block list i l))
    (λ g l.
    let r = last_row (length bs) g in
    let e : 3 * length bs + g - 3 * length bs ≡ g = omega arith in
    (table.keeps (3 * length bs + g) (omega arith)).group (omega arith)
    ∙ ap (λ h. field_at summary (3 * last_row (length bs) h + 1)) e
    ∙ (rows r (omega (arith, m))).last ∙ sym (last_of_block list r (omega (arith, m))))

pub posting_coded : (stream summary : List ℕ) (b : ℕ) → IsPosting stream summary b → AreBytes summary → IsCoded stream summary (decoded_list stream)
posting_coded stream summary b p are =
    let list = decoded_list stream in
    let m = blocks_many list in
    record {
      rising = p.spelled.rising;
      stream_is = p.spelled.spelled;
      summary_is = ⊎_elim
          (λ few. none_left summary (omega (arith, p.table.rows.sized, p.short (omega arith))) ∙ sym (short_summary list (omega arith)))
          (λ many.
          let e : b ≡ length (blocks_of list) = omega (arith, p.long (omega arith), m) in
          let t = subst (λ (n : ℕ). IsSummary summary n) e p.table in
          bytes_of_fields (table_fields (blocks_of list)) summary (omega (arith, t.rows.sized, fields_many (blocks_of list))) are
          (field_same summary list t (λ i l. p.rows i (omega arith)) (omega arith))
          ∙ sym (long_summary list (omega arith)))
          (cases_lt (length list) 65);
    }

pub read_coded : (stream summary : List ℕ) (r : Result Walked PostingFault) → AreBytes summary → IfOk r (λ w. IsPosting stream summary w.bounds.rows) → IfOk r (λ w. IsCoded stream summary (decoded_list stream))
read_coded stream summary (Ok w) are p = posting_coded stream summary w.bounds.rows p are
read_coded stream summary (Err e) are p = tt

-- ---- and stream and summary of a list belong together

fields_small : (list : List ℕ) → IsRising list → length (stream_bytes 0 list) < 2 ^ 64 → 64 < length list
    → (k : ℕ) → k < length (table_fields (blocks_of list)) → get_or (table_fields (blocks_of list)) k 0 < 2 ^ 64
fields_small list r small long =
    let bs = blocks_of list in
    let m = blocks_many list in
    each_field (λ k x. x < 2 ^ 64) bs
    (λ i l. omega (arith, first_of_block list i l, r.below (64 * i) (omega (arith, m))))
    (λ i l. omega (arith, last_of_block list i l, r.below (min (64 * i + 63) (length list - 1)) (omega (arith, m))))
    (λ i l. omega (arith, place_of_block list i l, stream_within (64 * i) list (omega (arith, m))))
    (λ g l. let j = last_row (length bs) g in omega (arith, last_of_block list j (omega (arith, m)), r.below (min (64 * j + 63) (length list - 1)) (omega (arith, m))))

module _ (list : List ℕ) (small : (k : ℕ) → k < length (table_fields (blocks_of list)) → get_or (table_fields (blocks_of list)) k 0 < 2 ^ 64) where
  field_of : (k : ℕ) → k < length (table_fields (blocks_of list)) → field_at (fields_bytes (table_fields (blocks_of list))) k ≡ get_or (table_fields (blocks_of list)) k 0
  field_of k l = field_of_fields (table_fields (blocks_of list)) k small l

  has_fields : HasGroupFields (fields_bytes (table_fields (blocks_of list))) (blocks_of list) (groups_of (length (blocks_of list)))
  unfolding table_fields
  has_fields =
      let bs = blocks_of list in
      let n = fields_many bs in
      record {
        sized = omega (arith, fields_long (table_fields bs), n);
        values = record {
          first = λ i l. field_of (3 * i) (omega (arith, n)) ∙ first_field bs _ i l;
          last = λ i l. field_of (3 * i + 1) (omega (arith, n)) ∙ last_field bs _ i l;
          place = λ i l. field_of (3 * i + 2) (omega (arith, n)) ∙ place_field bs _ i l;
        };
        group = λ g l. field_of (3 * length bs + g) (omega (arith, n)) ∙ group_field bs g l;
      }

kept_all : (n : ℕ) → 2 ≤ n → kept_of n ≡ n
kept_all n l = grind (arith, nat_tests)

posting_long : (list : List ℕ) → IsRising list → length (stream_bytes 0 list) < 2 ^ 64 → 64 < length list
    → IsTableOf (fields_bytes (table_fields (blocks_of list))) (blocks_of list)
posting_long list r small long =
    table_is (fields_bytes (table_fields (blocks_of list))) (blocks_of list) (blocks_rise list r) (has_fields list (fields_small list r small long)) (omega (arith, blocks_many list))

pub coded_posting : (stream summary list : List ℕ) → IsCoded stream summary list → length stream < 2 ^ 64 → (b : ℕ) × IsPosting stream summary b
coded_posting stream summary list c small =
    let s : Spells stream list = record { rising = c.rising; spelled = c.stream_is } in
    let e = (spelling_reads stream list s).1 in
    let m = blocks_many list in
    let here : (b : ℕ) → IsSummary summary b → (length list ≤ 64 → b ≡ 0) → (64 < length list → b ≡ (length list + 63) / 64) → ((i : ℕ) → i < b → IsRowOf list summary i) → IsPosting stream summary b =
    λ b table short long rows. record {
      spelled = subst (λ (l : List ℕ). Spells stream l) (sym e) s;
      table = table;
      short = subst (λ (l : List ℕ). length l ≤ 64 → b ≡ 0) (sym e) short;
      long = subst (λ (l : List ℕ). 64 < length l → b ≡ (length l + 63) / 64) (sym e) long;
      rows = subst (λ (l : List ℕ). (i : ℕ) → i < b → IsRowOf l summary i) (sym e) rows;
    } in
    ⊎_elim
    (λ few.
    let none : length summary ≡ 0 = ap length (c.summary_is ∙ short_summary list (omega arith)) in (
      0,
      here 0 (record { rows = record { sized = omega arith; many = λ h. absurd (omega arith) }; keeps = λ k l. absurd (omega arith) })
          (λ _. refl) (λ l. absurd (omega arith)) (λ i l. absurd (omega arith)),
    ))
    (λ many.
    let long : 64 < length list = omega arith in
    let bs = blocks_of list in
    let t = posting_long list c.rising (omega (arith, ap length c.stream_is)) long in
    let k = kept_all (length bs) (omega (arith, m)) in
    let same : fields_bytes (table_fields bs) ≡ summary = sym (c.summary_is ∙ long_summary list long) in
    let table : IsSummary summary (length bs) = subst (λ (n : ℕ). IsSummary summary n) k (subst (λ (x : List ℕ). IsSummary x (kept_of (length bs))) same t.table) in
    let values : HasRowValues summary bs (length bs) = subst (λ (n : ℕ). HasRowValues summary bs n) k (subst (λ (x : List ℕ). HasRowValues x bs (kept_of (length bs))) same t.values) in (
      length bs,
      here (length bs) table (λ l. absurd (omega arith)) (λ l. omega (arith, m))
          (λ i l. record {
            first = values.first i l ∙ first_of_block list i l;
            last = values.last i l ∙ last_of_block list i l;
            place = values.place i l ∙ place_of_block list i l;
          }),
    ))
    (cases_lt (length list) 65)

-- a list has one spelling
pub coded_once : (stream summary xs ys : List ℕ) → IsCoded stream summary xs → IsCoded stream summary ys → xs ≡ ys
coded_once stream summary xs ys a b =
    sym (spelling_reads stream xs (record { rising = a.rising; spelled = a.stream_is })).1 ∙ (spelling_reads stream ys (record { rising = b.rising; spelled = b.stream_is })).1

-- the table of the blocks of a list is its summary
pub built_summary : (list bytes : List ℕ) (rows : List Row) → rows ≡ blocks_of list → IsTableOf bytes rows → AreBytes bytes → 64 < length list → bytes ≡ summary_bytes list
built_summary list bytes rows same t are long =
    let bs = blocks_of list in
    let m = blocks_many list in
    let u : IsTableOf bytes bs = subst (λ (r : List Row). IsTableOf bytes r) same t in
    let k = kept_all (length bs) (omega (arith, m)) in
    let table : IsSummary bytes (length bs) = subst (λ (n : ℕ). IsSummary bytes n) k u.table in
    let values : HasRowValues bytes bs (length bs) = subst (λ (n : ℕ). HasRowValues bytes bs n) k u.values in
    bytes_of_fields (table_fields bs) bytes (omega (arith, table.rows.sized, fields_many bs)) are
    (field_same bytes list table
    (λ i l. record {
      first = values.first i l ∙ first_of_block list i l;
      last = values.last i l ∙ last_of_block list i l;
      place = values.place i l ∙ place_of_block list i l;
    }) long)
    ∙ sym (long_summary list long)
