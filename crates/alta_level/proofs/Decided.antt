-- Each segment is whole or has a first damage.
use Rattle.std.proofs.Common.{◌≡◌, ◌⊎◌, ⊎_elim, inl, inr, ℕ, zero, suc, ◌+◌, ◌-◌, ◌*◌, ◌/◌, ◌%◌, ◌<◌, ◌≤◌, min, List, [], ◌∷◌, length, take, drop, get_or, refl, subst, ap, ◌∙◌, arith, length-drop}
use Rattle.std.specs.Prelude.{Option, Some, None, Result, Ok, Err}
use Rattle.std.proofs.lemmas.Bool.{cases_lt}
use Rattle.std.proofs.lemmas.List.{get_or-drop, get_or-take, length-take}
use Rattle.alta_codec.proofs.Numerals.{AreBytes}
use Rattle.alta_postings.specs.declared.fault.StreamFault.{StreamFault}
use Rattle.alta_postings.specs.Deltas.{Spells, stream_bytes, first_fault, decoded_list}
use Rattle.alta_postings.proofs.Reading.{reading_spells}
use Rattle.alta_postings.specs.Table.{field_at, fields_of, last_row, HasRows, Keeps, IsSummary, IsFault}
use Rattle.alta_content.specs.declared.document.DocRow.{DocRow}
use Rattle.alta_table.specs.declared.term.TermRow.{TermRow}
use Rattle.alta_format.proofs.FormatLaws.{done, failed}
use Rattle.alta_table.specs.Tables.{Tables, AreTables, IsDamage, tables_bytes, tables_of}
use Rattle.alta_table.specs.Terms.{data_of}
use Rattle.alta_words.specs.Fault.{Agrees, IsFirstDifferent}
use Rattle.alta_words.specs.Word.{IsPosting, IsRowOf}
use Rattle.alta_content.specs.declared.content.Content.{Content}
use Rattle.alta_content.specs.TermList.{TermList}
use Rattle.alta_level.specs.Stored.{Stored, Fits, IsListOf, IsListFault}
use Rattle.alta_content.specs.Lists.{IsInRange, end_term}
use Rattle.alta_content.specs.Rows.{ends_of, firsts_of}
use Rattle.alta_level.specs.Stored.IsListFault.{in_stream, in_summary, in_row, in_list}
use Rattle.alta_level.specs.Segments.{IsSegment}
use Rattle.alta_level.specs.Damage.{stored_at, AreListsOf, IsFaultInLists, IsSegmentFault, data_in, data_place}
use Rattle.alta_level.specs.Damage.IsSegmentFault.{in_tables, in_lists}
use Rattle.alta_level.proofs.Coded.{posting_coded}
use Rattle.alta_level.proofs.Spelled.{segment_found}

-- ---- what can be decided

abbrev Decided : Type 0 → Type 0
Decided P = P ⊎ (P → ⊥)

less : (a b : ℕ) → Decided (a < b)
less a b = ⊎_elim (λ l. inl l) (λ g. inr (λ l. omega arith)) (cases_lt a b)

most : (a b : ℕ) → Decided (a ≤ b)
most a b = ⊎_elim (λ l. inr (λ k. omega arith)) (λ g. inl g) (cases_lt b a)

same : (a b : ℕ) → Decided (a ≡ b)
same a b = ⊎_elim (λ l. inr (λ e. omega arith)) (λ g. ⊎_elim (λ l. inr (λ e. omega arith)) (λ h. inl (omega arith)) (cases_lt b a)) (cases_lt a b)

implied : (A B : Type 0) → Decided A → Decided B → Decided (A → B)
implied A B a b = ⊎_elim (λ x. ⊎_elim (λ y. inl (λ z. y)) (λ ny. inr (λ f. ny (f x))) b) (λ nx. inl (λ z. absurd (nx z))) a

both : (A B : Type 0) → Decided A → Decided B → Decided (A × B)
both A B a b = ⊎_elim (λ x. ⊎_elim (λ y. inl (x, y)) (λ ny. inr (λ p. ny p.1)) b) (λ nx. inr (λ p. nx p.0)) a

-- all of the first n, or the first that is not so
bounded : (P : ℕ → Type 0) (n : ℕ) → ((k : ℕ) → Decided (P k)) → ((k : ℕ) → k < n → P k) ⊎ ((k : ℕ) × (k < n) × ((m : ℕ) → m < k → P m) × (P k → ⊥))
bounded P zero d = inl (λ k l. absurd (omega arith))
bounded P (suc n) d =
    ⊎_elim
    (λ all. ⊎_elim (λ p. inl (λ k l. ⊎_elim (λ w. all k w) (λ g. let e : n ≡ k = omega arith in subst P e p) (cases_lt k n)))
    (λ out. inr (n, omega arith, all, out))
    (d n))
    (λ (k, l, before, out). inr (k, omega arith, before, out))
    (bounded P n d)

same_list : (xs ys : List ℕ) → Decided (xs ≡ ys)
same_list [] [] = inl refl
same_list [] (y ∷ ys) = inr (λ e. cc)
same_list (x ∷ xs) [] = inr (λ e. cc)
same_list (x ∷ xs) (y ∷ ys) =
    ⊎_elim (λ e. ⊎_elim (λ f. inl (ap (λ z. z ∷ xs) e ∙ ap (λ z. y ∷ z) f)) (λ out. inr (λ g. out (cc))) (same_list xs ys)) (λ out. inr (λ g. out (cc))) (same x y)

-- ---- the summary

module _ (bytes : List ℕ) (b k : ℕ) where
  F : ℕ → ℕ
  F j = field_at bytes j

  keeps_decided : Decided (Keeps bytes b k)
  unfolding F
  keeps_decided =
      let p1 = implied (k < 3 * b) (k % 3 ≡ 0 → 0 < k → F (k - 2) < F k) (less k (3 * b)) (implied (k % 3 ≡ 0) (0 < k → F (k - 2) < F k) (same (k % 3) 0) (implied (0 < k) (F (k - 2) < F k) (less 0 k) (less (F (k - 2)) (F k)))) in
      let p2 = implied (k < 3 * b) (k % 3 ≡ 1 → F (k - 1) ≤ F k) (less k (3 * b)) (implied (k % 3 ≡ 1) (F (k - 1) ≤ F k) (same (k % 3) 1) (most (F (k - 1)) (F k))) in
      let p3 = implied (2 < 3 * b) (k ≡ 2 → F k ≡ 0) (less 2 (3 * b)) (implied (k ≡ 2) (F k ≡ 0) (same k 2) (same (F k) 0)) in
      let p4 = implied (k < 3 * b) (k % 3 ≡ 2 → 2 < k → F (k - 3) < F k) (less k (3 * b)) (implied (k % 3 ≡ 2) (2 < k → F (k - 3) < F k) (same (k % 3) 2) (implied (2 < k) (F (k - 3) < F k) (less 2 k) (less (F (k - 3)) (F k)))) in
      let p5 = implied (3 * b ≤ k) (F k ≡ F (3 * last_row b (k - 3 * b) + 1)) (most (3 * b) k) (same (F k) (F (3 * last_row b (k - 3 * b) + 1))) in
      ⊎_elim (λ a. ⊎_elim (λ c. ⊎_elim (λ d. ⊎_elim (λ e. ⊎_elim (λ f. inl (record { first = a; last = c; start = d; place = e; group = f }))
      (λ out. inr (λ h. out h.group)) p5) (λ out. inr (λ h. out h.place)) p4) (λ out. inr (λ h. out h.start)) p3) (λ out. inr (λ h. out h.last)) p2) (λ out. inr (λ h. out h.first)) p1

-- the number of rows that a length may have
rows_by : ℕ → ℕ
rows_by len = 64 * (len / 8 / 193) + (len / 8 % 193) / 3

rows_alone : (len b : ℕ) → len ≡ 8 * fields_of b → b ≡ rows_by len
unfolding rows_by
rows_alone len b e =
    let q = b / 64 in
    let r = b % 64 in
    let w : len / 8 ≡ 3 * b + (b + 63) / 64 = omega arith in
    omega arith

rows_decided : (bytes : List ℕ) → (HasRows bytes (rows_by (length bytes))) ⊎ ((b : ℕ) → HasRows bytes b → ⊥)
rows_decided bytes =
    let c = rows_by (length bytes) in
    ⊎_elim
    (λ e. ⊎_elim (λ one. inr (λ b h. h.many (rows_alone (length bytes) b h.sized ∙ one))) (λ many. inl (record { sized = e; many = many })) (same c 1))
    (λ out. inr (λ b h. out (h.sized ∙ ap (λ n. 8 * fields_of n) (rows_alone (length bytes) b h.sized))))
    (same (length bytes) (8 * fields_of c))

table_or_fault : (bytes : List ℕ) → ((b : ℕ) × IsSummary bytes b) ⊎ ((p : ℕ) × IsFault bytes p)
table_or_fault bytes =
    ⊎_elim
    (λ rows.
    let b = rows_by (length bytes) in
    ⊎_elim (λ all. inl (b, record { rows = rows; keeps = all }))
    (λ (k, l, before, out). inr (8 * k, inr (b, (k, record { rows = rows; within = l; before = before; broken = out; here = refl }))))
    (bounded (Keeps bytes b) (fields_of b) (keeps_decided bytes b)))
    (λ none. inr (length bytes, inl (record { none = none; here = refl })))
    (rows_decided bytes)

-- ---- the rows

row_decided : (list summary : List ℕ) (i : ℕ) → Decided (IsRowOf list summary i)
row_decided list summary i =
    ⊎_elim (λ a. ⊎_elim (λ b. ⊎_elim (λ c. inl (record { first = a; last = b; place = c }))
    (λ out. inr (λ h. out h.place)) (same (field_at summary (3 * i + 2)) (length (stream_bytes 0 (take (64 * i) list)))))
    (λ out. inr (λ h. out h.last)) (same (field_at summary (3 * i + 1)) (get_or list (min (64 * i + 63) (length list - 1)) 0)))
    (λ out. inr (λ h. out h.first)) (same (field_at summary (3 * i)) (get_or list (64 * i) 0))

agrees_decided : (list summary : List ℕ) (b i : ℕ) → Decided (Agrees list summary b i)
agrees_decided list summary b i =
    ⊎_elim (λ a. ⊎_elim (λ c. ⊎_elim (λ d. inl (record { block = a; row = c; same = d }))
    (λ out. inr (λ h. out h.same)) (implied (i < b) (IsRowOf list summary i) (less i b) (row_decided list summary i)))
    (λ out. inr (λ h. out h.row)) (implied (64 * i < length list) (i < b) (less (64 * i) (length list)) (less i b)))
    (λ out. inr (λ h. out h.block)) (implied (i < b) (64 * i < length list) (less i b) (less (64 * i) (length list)))

posting_or_row : (stream summary : List ℕ) (b : ℕ) → Spells stream (decoded_list stream) → IsSummary summary b → IsPosting stream summary b ⊎ ((row : ℕ) × IsFirstDifferent stream summary b row)
posting_or_row stream summary b spelled table =
    let list = decoded_list stream in
    let small : b ≡ 0 → length list ≤ 64 → IsPosting stream summary b = λ z few. record { spelled = spelled; table = table; short = λ l. z; long = λ l. absurd (omega arith); rows = λ i l. absurd (omega arith) } in
    let big : (b ≡ 0 → 64 < length list) → IsPosting stream summary b ⊎ ((row : ℕ) × IsFirstDifferent stream summary b row) =
    λ many.
    ⊎_elim
    (λ all.
    let last = all b (omega arith) in
    let full : length list ≤ 64 * b = ⊎_elim (λ l. absurd (omega (arith, last.row l))) (λ g. g) (cases_lt (64 * b) (length list)) in
    let some : 0 < b = ⊎_elim (λ l. absurd (omega (arith, many (omega arith)))) (λ g. omega arith) (cases_lt b 1) in
    let inside : 64 * (b - 1) < length list = (all (b - 1) (omega arith)).block (omega arith) in
    let more : b ≡ 1 → ⊥ = table.rows.many in
    inl (record {
      spelled = spelled;
      table = table;
      short = λ l. absurd (more (omega arith));
      long = λ l. omega arith;
      rows = λ i l. (all i (omega arith)).same l;
    }))
    (λ (row, l, before, out). inr (row, record { spelled = spelled; table = table; many = many; before = before; differs = out }))
    (bounded (Agrees list summary b) (b + 1) (agrees_decided list summary b)) in
    ⊎_elim
    (λ z. ⊎_elim (λ few. inl (small (omega arith) (omega arith))) (λ g. big (λ e. omega arith)) (cases_lt (length list) 65))
    (λ g. big (λ e. absurd (omega arith)))
    (cases_lt b 1)

-- ---- the ranges

in_range_decided : (documents : List DocRow) (x : ℕ) → Decided (IsInRange documents x)
in_range_decided documents x =
    let Here : ℕ → Type 0 = λ i. (get_or (firsts_of documents) i 0 ≤ x) × (x ≤ get_or (ends_of documents) i 0) in
    let here : (i : ℕ) → Decided (Here i) = λ i. both (get_or (firsts_of documents) i 0 ≤ x) (x ≤ get_or (ends_of documents) i 0) (most (get_or (firsts_of documents) i 0) x) (most x (get_or (ends_of documents) i 0)) in
    ⊎_elim
    (λ none. inr (λ h. none h.row h.within (h.from, h.to)))
    (λ (i, l, before, some). ⊎_elim (λ p. inl (record { row = i; within = l; from = p.0; to = p.1 })) (λ out. absurd (some out)) (here i))
    (bounded (λ i. Here i → ⊥) (length documents) (λ i. ⊎_elim (λ p. inr (λ out. out p)) (λ out. inl out) (here i)))

fits_decided : (documents : List DocRow) (term : List ℕ) (count : ℕ) (list : List ℕ) → Decided (Fits documents term count list)
fits_decided documents term count list =
    ⊎_elim (λ a. ⊎_elim (λ b. ⊎_elim (λ c. inl (record { counted = a; within = b; ends = c }))
    (λ out. inr (λ h. out h.ends)) (implied (term ≡ end_term) (list ≡ ends_of documents) (same_list term end_term) (same_list list (ends_of documents))))
    (λ (k, l, before, out). inr (λ h. out (h.within k l))) (bounded (λ k. IsInRange documents (get_or list k 0)) (length list) (λ k. in_range_decided documents (get_or list k 0))))
    (λ out. inr (λ h. out h.counted)) (same (length list) count)

-- ---- lists

abbrev WholeOrNot : List DocRow → Stored → Type 0
WholeOrNot documents s = ((list : List ℕ) × IsListOf documents s list) ⊎ ((p : ℕ) × IsListFault documents s p)

spelled_list : (documents : List DocRow) (s : Stored) → AreBytes s.summary → Spells s.stream (decoded_list s.stream) → WholeOrNot documents s
spelled_list documents s are spelled =
    ⊎_elim
    (λ (b, table).
    ⊎_elim
    (λ posting.
    ⊎_elim (λ f. inl (decoded_list s.stream, record { coded = posting_coded s.stream s.summary b posting are; fits = f }))
    (λ out. inr (s.stream_place, in_list b posting out))
    (fits_decided documents s.term s.count (decoded_list s.stream)))
    (λ (row, d). inr (s.summary_place + 24 * row, in_row b row d))
    (posting_or_row s.stream s.summary b spelled table))
    (λ (p, f). inr (s.summary_place + p, in_summary p spelled f))
    (table_or_fault s.summary)

list_by : (documents : List DocRow) (s : Stored) (r : Option StreamFault) → AreBytes s.stream → AreBytes s.summary → first_fault s.stream ≡ r → WholeOrNot documents s
list_by documents s (Some f) are have e = inr (s.stream_place + f.place, in_stream f.place f.cause e)
list_by documents s None are have e = spelled_list documents s have (reading_spells s.stream are e)

front_bytes : (n : ℕ) (bytes : List ℕ) → AreBytes bytes → AreBytes (take n bytes)
front_bytes n bytes are i l = omega (arith, get_or-take n bytes i 0 (omega (arith, length-take n bytes)), are i (omega (arith, length-take n bytes)))

rest_bytes : (n : ℕ) (bytes : List ℕ) → AreBytes bytes → AreBytes (drop n bytes)
rest_bytes n bytes are i l = omega (arith, get_or-drop n bytes i 0, are (n + i) (omega (arith, length-drop n bytes)))

pub lists_decided : (documents : List DocRow) (rows : List TermRow) (bytes : List ℕ) (place : ℕ) → AreBytes bytes
    → ((lists : List TermList) × AreListsOf documents rows bytes place lists) ⊎ ((p : ℕ) × IsFaultInLists documents rows bytes place p)
unfolding AreListsOf IsFaultInLists
lists_decided documents [] bytes place are = inl ([], refl)
lists_decided documents (row ∷ rows) bytes place are =
    let s = stored_at row bytes place in
    ⊎_elim
    (λ (list, is).
    ⊎_elim (λ (lists, others). inl ((record { term = row.term; locations = list }) ∷ lists, (refl, is, others)))
    (λ (p, f). inr (p, inr ((list, is), f)))
    (lists_decided documents rows (drop (data_of row) bytes) (place + data_of row) (rest_bytes (data_of row) bytes are)))
    (λ (p, f). inr (p, inl f))
    (list_by documents s (first_fault s.stream) (front_bytes row.stream bytes are) (front_bytes row.summary (drop row.stream bytes) (rest_bytes row.stream bytes are)) refl)

-- ---- segments

abbrev pub SegmentOrDamage : List ℕ → ℕ → Type 0
SegmentOrDamage bytes place = ((content : Content) × IsSegment bytes content) ⊎ ((p : ℕ) × IsSegmentFault bytes place p)

pub segment_decided : (bytes : List ℕ) (place : ℕ) (found : Result Tables ℕ) → AreBytes bytes → tables_of bytes place (length bytes) ≡ found
    → ((t : Tables) → tables_of bytes place (length bytes) ≡ done t → AreTables bytes place (length bytes) t)
    → ((p : ℕ) → tables_of bytes place (length bytes) ≡ failed p → IsDamage bytes place (length bytes) p) → SegmentOrDamage bytes place
segment_decided bytes place (Ok t) are e spelled first =
    let a = spelled t e in
    ⊎_elim (λ (lists, h). inl (record { documents = t.documents; lists = lists }, segment_found bytes place t (record { documents = t.documents; lists = lists }) a refl h))
    (λ (p, f). inr (p, in_lists t p a f))
    (lists_decided t.documents t.terms (data_in bytes t) (data_place t) (rest_bytes (length (tables_bytes t.documents t.terms)) bytes are))
segment_decided bytes place (Err p) are e spelled first = inr (p, in_tables p (first p e))
