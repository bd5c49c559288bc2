-- The rows of a stream's blocks, of which the first were read.
use Rattle.std.proofs.Common.{◌≡◌, ⊎_elim, ℕ, suc, ◌+◌, ◌-◌, ◌*◌, ◌/◌, ◌<◌, ◌≤◌, min, List, [], ◌∷◌, ◌++◌, length, map, take, drop, get_or, refl, sym, subst, ap, ◌∙◌, arith, length-append, length-drop}
use Rattle.std.specs.Prelude.{None}
use Rattle.std.specs.List.{range_with_len}
use Rattle.std.proofs.lemmas.Bool.{cases_lt}
use Rattle.std.proofs.lemmas.List.{drop-drop, get_or-drop}
use Rattle.std.proofs.lemmas.List.FromFn.{map-range_with_len_more}
use Rattle.alta_codec.specs.declared.location.TheConstants.{TOP}
use Rattle.alta_codec.proofs.Numerals.{AreBytes}
use Rattle.alta_postings.specs.Deltas.{IsBlockRead, decoded_list, fault_from, first_fault, list_from, stream_bytes}
use Rattle.alta_postings.specs.declared.summary.Row.{Row}
use Rattle.alta_postings.proofs.Reading.{list_end, place_is, reading_spells}
use Rattle.alta_level.specs.Coded.{block_of, blocks_of}
use Rattle.alta_level.proofs.Streams.{row_ext}

-- so many locations were read with so many blocks
abbrev pub passed : List ℕ → ℕ → ℕ
passed list blocks = min (64 * blocks) (length list)

pub record AreRowsTo (s : List ℕ) (rows : List Row) (at last : ℕ) : Type 0 where
  pub rows_are : rows ≡ map (block_of (decoded_list s)) (range_with_len 0 (length rows))
  pub none : fault_from at 0 last (drop at s) ≡ None
  pub left : list_from at 0 last (drop at s) ≡ drop (passed (decoded_list s) (length rows)) (decoded_list s)
  pub low : last < TOP
  pub within : at ≤ length s
  pub last_is : last ≡ get_or (0 ∷ decoded_list s) (passed (decoded_list s) (length rows)) 0
  pub full : at < length s → passed (decoded_list s) (length rows) ≡ 64 * length rows
  pub few : 64 * length rows < length (decoded_list s) + 64

pub rows_none : (s : List ℕ) (rows : List Row) → first_fault s ≡ None → rows ≡ [] → AreRowsTo s rows 0 0
unfolding first_fault decoded_list
rows_none s rows none empty =
    let zero : passed (decoded_list s) 0 ≡ 0 = omega arith in
    let here : AreRowsTo s [] 0 0 = record {
      rows_are = refl;
      none = none;
      left = ap (λ n. drop n (decoded_list s)) (sym zero);
      low = omega arith;
      within = omega arith;
      last_is = ap (λ n. get_or (0 ∷ decoded_list s) n 0) (sym zero);
      full = λ l. omega arith;
      few = omega arith;
    } in
    subst (λ (r : List Row). AreRowsTo s r 0 0) (sym empty) here

module _ (s : List ℕ) (bytes : AreBytes s) (none : first_fault s ≡ None) (rows : List Row) (at last : ℕ) (h : AreRowsTo s rows at last) where
  abbrev list : List ℕ
  list = decoded_list s

  -- all rows, once all is read
  pub rows_end : length s ≤ at → rows ≡ blocks_of list
  rows_end end =
      let all : drop (passed list (length rows)) list ≡ [] = sym h.left ∙ list_end s at last end in
      let long : length list ≤ 64 * length rows = omega (arith, ap (λ (x : List ℕ). length x) all, length-drop (passed list (length rows)) list) in
      let many : length rows ≡ (length list + 63) / 64 = omega (arith, long, h.few) in
      h.rows_are ∙ ap (λ n. map (block_of list) (range_with_len 0 n)) many

  module _ (more : at < length s) (first end count next : ℕ) (r : IsBlockRead s at last first end count next) where
    abbrev k : ℕ
    k = length rows

    start : passed list k ≡ 64 * k
    start = h.full more

    left_long : length (list_from at 0 last (drop at s)) ≡ length list - 64 * k
    left_long = ap (λ (x : List ℕ). length x) h.left ∙ length-drop (passed list k) list ∙ ap (λ n. length list - n) start

    room : 64 * k + count ≤ length list
    room = omega (arith, r.counted, r.some, left_long)

    -- where it is cut short, all is read
    behind : list_from next 0 end (drop next s) ≡ drop (64 * k + count) list
    behind = r.list ∙ ap (drop count) h.left ∙ drop-drop count (passed list k) list ∙ ap (λ n. drop (n + count) list) start

    cut : count < 64 → length list ≤ 64 * k + count
    cut l = omega (arith, length-drop (64 * k + count) list, ap (λ (x : List ℕ). length x) (sym behind ∙ list_end s next end (omega (arith, r.ended l))))

    now : passed list (k + 1) ≡ 64 * k + count
    now = ⊎_elim (λ l. omega (arith, l, cut l, room)) (λ g. omega (arith, g, r.few, room)) (cases_lt count 64)

    element : (i : ℕ) → i < count → get_or (list_from at 0 last (drop at s)) i 0 ≡ get_or list (64 * k + i) 0
    element i l = ap (λ (x : List ℕ). get_or x i 0) h.left ∙ get_or-drop (passed list k) list i 0 ∙ ap (λ n. get_or list (n + i) 0) start

    last_here : end ≡ get_or list (64 * k + (count - 1)) 0
    last_here = r.last_is ∙ element (count - 1) (omega (arith, r.some))

    place : at ≡ length (stream_bytes 0 (take (64 * k) list))
    place =
        place_is s list (passed list k) at last bytes (reading_spells s bytes none) h.within (omega arith) h.last_is h.none h.left
        ∙ ap (λ n. length (stream_bytes 0 (take n list))) start

    last_index : 64 * k + (count - 1) ≡ min (64 * k + 63) (length list - 1)
    last_index = ⊎_elim (λ l. omega (arith, l, cut l, room, r.some)) (λ g. omega (arith, g, r.few, room)) (cases_lt count 64)

    row_is : record { first = first; last = end; place = at } ≡ block_of list k
    row_is =
        let zero_on : 64 * k + 0 ≡ 64 * k = omega arith in
        row_ext (record { first = first; last = end; place = at }) _ _ _
        (r.first_is ∙ element 0 r.some ∙ ap (λ n. get_or list n 0) zero_on)
        (last_here ∙ ap (λ n. get_or list n 0) last_index)
        place

    -- one row more
    pub rows_more : (new : List Row) → new ≡ rows ++ (record { first = first; last = end; place = at }) ∷ [] → AreRowsTo s new next end
    rows_more new is =
        let long : k + 1 ≡ length new = omega (arith, ap (λ (x : List Row). length x) is, length-append rows ((record { first = first; last = end; place = at }) ∷ [])) in
        let index : suc (64 * k + (count - 1)) ≡ passed list (k + 1) = omega (arith, now, r.some) in
        record {
          rows_are = subst (λ (n : ℕ). new ≡ map (block_of list) (range_with_len 0 n)) long
              (is ∙ ap (λ x. x ++ (record { first = first; last = end; place = at }) ∷ []) h.rows_are
              ∙ ap (λ x. map (block_of list) (range_with_len 0 k) ++ x ∷ []) row_is
              ∙ sym (map-range_with_len_more (block_of list) 0 k k (omega arith)));
          none = sym r.fault ∙ h.none;
          left = subst (λ (n : ℕ). list_from next 0 end (drop next s) ≡ drop (passed list n) list) long (behind ∙ ap (λ n. drop n list) (sym now));
          low = r.low;
          within = r.within;
          last_is = subst (λ (n : ℕ). end ≡ get_or (0 ∷ list) (passed list n) 0) long (last_here ∙ ap (λ i. get_or (0 ∷ list) i 0) index);
          full = λ l. subst (λ (n : ℕ). passed list n ≡ 64 * n) long
              (now ∙ ⊎_elim (λ w. absurd (omega (arith, l, r.ended w))) (λ g. omega (arith, g, r.few)) (cases_lt count 64));
          few = omega (arith, long, room, r.some);
        }
