-- Laws of packed lists: what is spelled is read.
use Rattle.std.proofs.Common.{◌≡◌, ℕ, zero, suc, ◌+◌, ◌-◌, ◌%◌, ◌^◌, ◌<◌, ◌≤◌, List, [], ◌∷◌, ◌++◌, length, take, drop, min, refl, sym, subst, ap, ◌∙◌, arith}
use Rattle.std.specs.Prelude.{Ok}
use Rattle.std.specs.List.{All, flat_map}
use Rattle.std.proofs.Math.Nat.{add-mod-mod, add-mod_right, mod-eq_of_lt}
use Rattle.std.proofs.Math.Seq.{drop-append_seam, take-append_seam}
use Rattle.std.proofs.lemmas.Grind.{flat_map-append}
use Rattle.std.proofs.lemmas.List.{append-nil, append_assoc, drop-append-le, drop-drop, drop_min, length-append, length-drop, length-take, take-append-drop}
use Rattle.std.proofs.lemmas.List.Elements.{All-append, All-cons, All-drop, All-head, All-nil, All-tail, All-take}
use Rattle.alta_codec.specs.Bytes.{AreBytes}
use Rattle.alta_codec.specs.Numbers.{number_bytes, number_from}
use Rattle.alta_codec.proofs.ByteLaws.{AreBytes-drop, AreBytes-take}
use Rattle.alta_codec.proofs.Numerals.{number_read, number_size, reads_number}
use Rattle.alta_content.specs.TermList.{TermList}
use Rattle.alta_content.specs.Packed as packed
use Rattle.alta_content.specs.Fronts.{front_locations}
use Rattle.alta_content.specs.Packed.{AreGaps, Fits, IsGathered, Packs, Row, gap, gaps_bytes, last_behind, list_gaps, lists_in, locations_in, leading_number, row_bytes, row_in}

-- a number that is read from a place on ends within the bytes
pub read_within : (bytes : List ℕ) (at n e : ℕ) → AreBytes bytes → at ≤ length bytes → number_from 9 0 (take (length bytes - at) (drop at bytes)) ≡ Ok (n, e) → at + e ≤ length bytes
read_within bytes at n e b l h =
    let r = number_read 0 (take (length bytes - at) (drop at bytes)) n e (λ i l. AreBytes-take (length bytes - at) (drop at bytes) (AreBytes-drop at bytes b) i) h in
    let long : length (take (length bytes - at) (drop at bytes)) ≡ length bytes - at = length-take (length bytes - at) (drop at bytes) ∙ grind (arith, length-drop at bytes) in
    omega (arith, r.within, long)

-- ---- numbers

pub number_reads : (n : ℕ) (more : List ℕ) → n < 2 ^ 64 → leading_number (number_bytes n ++ more) ≡ (n, more)
number_reads n more small =
    ap (packed.number_read (number_bytes n ++ more)) (reads_number 0 n more small)
    ∙ ap (λ d. (n, d)) (ap (λ i. drop i (number_bytes n ++ more)) (omega arith) ∙ drop-append_seam (number_bytes n) more)

-- ---- gaps

gap_reads : (before x : ℕ) → before < 2 ^ 64 → x < 2 ^ 64 → (before + gap before x) % 2 ^ 64 ≡ x
gap_reads before x b l =
    let sum : before + (x + (2 ^ 64 - before)) ≡ x + 2 ^ 64 = omega (arith, b) in
    add-mod-mod before (x + (2 ^ 64 - before)) (2 ^ 64)
    ∙ ap (λ (s : ℕ). s % 2 ^ 64) sum
    ∙ add-mod_right x (2 ^ 64)
    ∙ mod-eq_of_lt l

gap_small : (before x : ℕ) → gap before x < 2 ^ 64
gap_small before x = omega arith

gaps_read : (before : ℕ) (xs more : List ℕ) → before < 2 ^ 64 → All (λ x. x < 2 ^ 64) xs → locations_in (length xs) before (gaps_bytes before xs ++ more) ≡ xs
gaps_read before [] more b h = refl
gaps_read before (x ∷ xs) more b h =
    let small : x < 2 ^ 64 = All-head (λ x. x < 2 ^ 64) x xs h in
    let whole : (number_bytes (gap before x) ++ gaps_bytes x xs) ++ more ≡ number_bytes (gap before x) ++ (gaps_bytes x xs ++ more) = append_assoc (number_bytes (gap before x)) (gaps_bytes x xs) more in
    let read : leading_number ((number_bytes (gap before x) ++ gaps_bytes x xs) ++ more) ≡ (gap before x, gaps_bytes x xs ++ more) =
    ap leading_number whole ∙ number_reads (gap before x) (gaps_bytes x xs ++ more) (gap_small before x) in
    ap (λ (r : ℕ × List ℕ). ((before + r.0) % 2 ^ 64) ∷ locations_in (length xs) ((before + r.0) % 2 ^ 64) r.1) read
    ∙ ap (λ (y : ℕ). y ∷ locations_in (length xs) y (gaps_bytes x xs ++ more)) (gap_reads before x b small)
    ∙ ap (λ ys. x ∷ ys) (gaps_read x xs more small (All-tail (λ x. x < 2 ^ 64) x xs h))

-- one location is read
pub next_location : (all : List ℕ) (n before : ℕ) (bytes : List ℕ) → 0 < n
    → all ++ locations_in n before bytes ≡ (all ++ ((before + (leading_number bytes).0) % 2 ^ 64) ∷ []) ++ locations_in (n - 1) ((before + (leading_number bytes).0) % 2 ^ 64) (leading_number bytes).1
next_location all zero before bytes l = absurd (omega (arith, l))
next_location all (suc n) before bytes l =
    let x = (before + (leading_number bytes).0) % 2 ^ 64 in
    sym (append_assoc all (x ∷ []) (locations_in n x (leading_number bytes).1))
    ∙ ap (λ (m : ℕ). (all ++ x ∷ []) ++ locations_in m x (leading_number bytes).1) (omega arith)

-- the gaps of a list alone are read
pub are_read : (bytes : List ℕ) (count : ℕ) (xs : List ℕ) → AreGaps bytes count xs → locations_in count 0 bytes ≡ xs
are_read bytes count xs h =
    ap (λ (n : ℕ). locations_in n 0 bytes) (sym h.counted)
    ∙ ap (λ (b : List ℕ). locations_in (length xs) 0 b) (h.spelled ∙ sym (append-nil (gaps_bytes 0 xs)))
    ∙ gaps_read 0 xs [] (omega arith) h.small

-- ---- lists one behind the other

gaps_append : (before : ℕ) (xs ys : List ℕ) → gaps_bytes before (xs ++ ys) ≡ gaps_bytes before xs ++ gaps_bytes (last_behind before xs) ys
gaps_append before [] ys = refl
gaps_append before (x ∷ xs) ys =
    ap (λ (b : List ℕ). number_bytes (gap before x) ++ b) (gaps_append x xs ys)
    ∙ sym (append_assoc (number_bytes (gap before x)) (gaps_bytes x xs) (gaps_bytes (last_behind x xs) ys))

last_append : (before : ℕ) (xs ys : List ℕ) → last_behind before (xs ++ ys) ≡ last_behind (last_behind before xs) ys
last_append before [] ys = refl
last_append before (x ∷ xs) ys = last_append x xs ys

last_small : (before : ℕ) (xs : List ℕ) → before < 2 ^ 64 → All (λ x. x < 2 ^ 64) xs → last_behind before xs < 2 ^ 64
last_small before [] b h = b
last_small before (x ∷ xs) b h = last_small x xs (All-head (λ x. x < 2 ^ 64) x xs h) (All-tail (λ x. x < 2 ^ 64) x xs h)

-- of locations that were gathered the last is found behind those before the last list
pub last_gathered : (gaps : List ℕ) (count before last place : ℕ) (xs : List ℕ) → IsGathered gaps count before last place xs
    → last_behind last (locations_in (count - before) last (drop place gaps)) ≡ last_behind 0 xs
last_gathered gaps count before last place xs g =
    let front = take before xs in
    let rest = drop before xs in
    let whole : front ++ rest ≡ xs = take-append-drop before xs in
    let low : last < 2 ^ 64 = subst (λ (n : ℕ). n < 2 ^ 64) (sym g.last_is) (last_small 0 front (omega arith) (All-take (λ x. x < 2 ^ 64) before xs g.are.small)) in
    let many : count - before ≡ length rest = omega (arith, length-drop before xs, g.are.counted) in
    let read : locations_in (count - before) last (drop place gaps) ≡ rest =
    ap (λ (n : ℕ). locations_in n last (drop place gaps)) many
    ∙ ap (λ (b : List ℕ). locations_in (length rest) last b) (g.behind ∙ sym (append-nil (gaps_bytes last rest)))
    ∙ gaps_read last rest [] low (All-drop (λ x. x < 2 ^ 64) before xs g.are.small) in
    ap (last_behind last) read
    ∙ ap (λ (n : ℕ). last_behind n rest) g.last_is
    ∙ sym (last_append 0 front rest)
    ∙ ap (last_behind 0) whole

-- a list was put behind others
pub put_gathered : (gaps more bytes : List ℕ) (count m last : ℕ) (xs ys : List ℕ) → AreGaps gaps count xs → last ≡ last_behind 0 xs → AreGaps more m ys
    → bytes ≡ gaps ++ gaps_bytes last ys
    → IsGathered bytes (count + m) count last (length gaps) (xs ++ ys) × (locations_in (count + m) 0 bytes ≡ xs ++ ys)
put_gathered gaps more bytes count m last xs ys a l b is =
    let are : AreGaps bytes (count + m) (xs ++ ys) = record {
      spelled = is ∙ ap (λ (g : List ℕ). g ++ gaps_bytes last ys) a.spelled ∙ ap (λ (n : ℕ). gaps_bytes 0 xs ++ gaps_bytes n ys) l ∙ sym (gaps_append 0 xs ys);
      counted = length-append xs ys ∙ omega (arith, a.counted, b.counted);
      small = All-append (λ x. x < 2 ^ 64) xs ys a.small b.small;
    } in (
      record {
        are = are;
        few = omega arith;
        last_is = l ∙ ap (last_behind 0) (sym (ap (λ (n : ℕ). take n (xs ++ ys)) (sym a.counted) ∙ take-append_seam xs ys));
        behind = ap (λ (x : List ℕ). drop (length gaps) x) is ∙ drop-append_seam gaps (gaps_bytes last ys)
            ∙ ap (gaps_bytes last) (sym (ap (λ (n : ℕ). drop n (xs ++ ys)) (sym a.counted) ∙ drop-append_seam xs ys));
        within = omega (arith, ap (λ (x : List ℕ). length x) is, length-append gaps (gaps_bytes last ys));
      },
      are_read bytes (count + m) (xs ++ ys) are,
    )

-- each location has a byte at least
pub gaps_long : (before : ℕ) (xs : List ℕ) → length xs ≤ length (gaps_bytes before xs)
gaps_long before [] = omega arith
gaps_long before (x ∷ xs) = omega (arith, gaps_long x xs, (number_size (gap before x)).0, length-append (number_bytes (gap before x)) (gaps_bytes x xs))

-- the first of some gaps is read, and is that of the first location
first_gap : (x : ℕ) (xs gaps : List ℕ) → gaps ≡ gaps_bytes 0 (x ∷ xs) → x < 2 ^ 64 → leading_number gaps ≡ (x, gaps_bytes x xs)
first_gap x xs gaps is small =
    let own : gap 0 x ≡ x = omega (arith, small) in
    ap leading_number is ∙ number_reads (gap 0 x) (gaps_bytes x xs) (gap_small 0 x) ∙ ap (λ (n : ℕ). (n, gaps_bytes x xs)) own

-- no gaps are those of no locations
pub no_gaps : (all gaps : List ℕ) (before : ℕ) (xs : List ℕ) → length gaps ≡ 0 → gaps ≡ gaps_bytes 0 xs → all ≡ all ++ gaps_bytes before xs
no_gaps all gaps before [] none is = sym (append-nil all)
no_gaps all gaps before (x ∷ xs) none is = absurd (omega (arith, none, ap (λ (b : List ℕ). length b) is, gaps_long 0 (x ∷ xs)))

-- behind another location the first gap is another, and the others are the same
pub behind_first : (all gaps : List ℕ) (before : ℕ) (xs : List ℕ) → 0 < length gaps → gaps ≡ gaps_bytes 0 xs → All (λ x. x < 2 ^ 64) xs
    → (all ++ number_bytes (((leading_number gaps).0 + (2 ^ 64 - before)) % 2 ^ 64)) ++ (leading_number gaps).1 ≡ all ++ gaps_bytes before xs
behind_first all gaps before [] some is small = absurd (omega (arith, some, ap (λ (b : List ℕ). length b) is))
behind_first all gaps before (x ∷ xs) some is small =
    ap (λ (r : ℕ × List ℕ). (all ++ number_bytes ((r.0 + (2 ^ 64 - before)) % 2 ^ 64)) ++ r.1) (first_gap x xs gaps is (All-head (λ x. x < 2 ^ 64) x xs small))
    ∙ append_assoc all (number_bytes (gap before x)) (gaps_bytes x xs)

-- one location more is gone over
pub next_last : (n before : ℕ) (bytes : List ℕ) → 0 < n
    → last_behind before (locations_in n before bytes)
    ≡ last_behind ((before + (leading_number bytes).0) % 2 ^ 64) (locations_in (n - 1) ((before + (leading_number bytes).0) % 2 ^ 64) (leading_number bytes).1)
next_last zero before bytes l = absurd (omega (arith, l))
next_last (suc n) before bytes l =
    let x = (before + (leading_number bytes).0) % 2 ^ 64 in
    let e : n ≡ suc n - 1 = omega arith in
    ap (λ (m : ℕ). last_behind x (locations_in m x (leading_number bytes).1)) e

-- ---- rows

row_reads : (l : TermList) (more : List ℕ) → Fits l → row_in (row_bytes l ++ more) ≡ record { term = l.term; count = length l.locations; gaps = length (list_gaps l); behind = more }
row_reads l more f =
    let n = number_bytes (length l.locations) in
    let g = number_bytes (length (list_gaps l)) in
    let whole : (number_bytes (length l.term) ++ (l.term ++ (n ++ g))) ++ more ≡ number_bytes (length l.term) ++ (l.term ++ (n ++ (g ++ more))) =
    append_assoc (number_bytes (length l.term)) (l.term ++ (n ++ g)) more
    ∙ ap (λ r. number_bytes (length l.term) ++ r) (append_assoc l.term (n ++ g) more ∙ ap (λ r. l.term ++ r) (append_assoc n g more)) in
    let size : leading_number ((number_bytes (length l.term) ++ (l.term ++ (n ++ g))) ++ more) ≡ (length l.term, l.term ++ (n ++ (g ++ more))) =
    ap leading_number whole ∙ number_reads (length l.term) (l.term ++ (n ++ (g ++ more))) f.term in
    let behind : drop (length l.term) (l.term ++ (n ++ (g ++ more))) ≡ n ++ (g ++ more) = drop-append_seam l.term (n ++ (g ++ more)) in
    let count : leading_number (drop (length l.term) (l.term ++ (n ++ (g ++ more)))) ≡ (length l.locations, g ++ more) =
    ap leading_number behind ∙ number_reads (length l.locations) (g ++ more) f.count in
    let gaps : leading_number (g ++ more) ≡ (length (list_gaps l), more) = number_reads (length (list_gaps l)) more f.gaps in
    let from : (ℕ × List ℕ) → (ℕ × List ℕ) → (ℕ × List ℕ) → Row = λ s c k. record { term = take s.0 s.1; count = c.0; gaps = k.0; behind = k.1 } in
    ap (λ (s : ℕ × List ℕ). from s (leading_number (drop s.0 s.1)) (leading_number (leading_number (drop s.0 s.1)).1)) size
    ∙ ap (λ (c : ℕ × List ℕ). from (length l.term, l.term ++ (n ++ (g ++ more))) c (leading_number c.1)) count
    ∙ ap (λ (k : ℕ × List ℕ). from (length l.term, l.term ++ (n ++ (g ++ more))) (length l.locations, g ++ more) k) gaps
    ∙ ap (λ t. record { term = t; count = length l.locations; gaps = length (list_gaps l); behind = more }) (take-append_seam l.term (n ++ (g ++ more)))

-- ---- lists

-- a packed list in front of others is read
list_reads : (l : TermList) (rows gaps : List ℕ) (n : ℕ) → Fits l → lists_in (suc n) (row_bytes l ++ rows) (list_gaps l ++ gaps) ≡ l ∷ lists_in n rows gaps
list_reads l rows gaps n f =
    let all = list_gaps l ++ gaps in
    let from : Row → List TermList = λ r. (record { term = r.term; locations = locations_in r.count 0 all }) ∷ lists_in n r.behind (drop r.gaps all) in
    ap from (row_reads l rows f)
    ∙ ap (λ xs. (record { term = l.term; locations = xs }) ∷ lists_in n rows (drop (length (list_gaps l)) all)) (gaps_read 0 l.locations gaps (omega arith) f.locations)
    ∙ ap (λ d. l ∷ lists_in n rows d) (drop-append_seam (list_gaps l) gaps)

lists_read : (ls : List TermList) → All Fits ls → lists_in (length ls) (flat_map row_bytes ls) (flat_map list_gaps ls) ≡ ls
lists_read [] h = refl
lists_read (l ∷ ls) h =
    list_reads l (flat_map row_bytes ls) (flat_map list_gaps ls) (length ls) (All-head Fits l ls h)
    ∙ ap (λ k. l ∷ k) (lists_read ls (All-tail Fits l ls h))

pub lists_length : (n : ℕ) (rows gaps : List ℕ) → length (lists_in n rows gaps) ≡ n
lists_length zero rows gaps = refl
lists_length (suc n) rows gaps = ap suc (lists_length n (row_in rows).behind (drop (row_in rows).gaps gaps))

-- ---- one list more, one list less

-- a list was put behind lists
pub list_put : (n : ℕ) (rows gaps : List ℕ) (l : TermList) → Packs rows gaps (lists_in n rows gaps) → Fits l
    → lists_in (n + 1) (rows ++ row_bytes l) (gaps ++ list_gaps l) ≡ lists_in n rows gaps ++ l ∷ []
list_put n rows gaps l p f =
    let ls = lists_in n rows gaps in
    let r : rows ++ row_bytes l ≡ flat_map row_bytes (ls ++ l ∷ []) =
    ap (λ x. x ++ row_bytes l) p.rows ∙ ap (λ x. flat_map row_bytes ls ++ x) (sym (append-nil (row_bytes l))) ∙ sym (flat_map-append row_bytes ls (l ∷ [])) in
    let g : gaps ++ list_gaps l ≡ flat_map list_gaps (ls ++ l ∷ []) =
    ap (λ x. x ++ list_gaps l) p.gaps ∙ ap (λ x. flat_map list_gaps ls ++ x) (sym (append-nil (list_gaps l))) ∙ sym (flat_map-append list_gaps ls (l ∷ [])) in
    let k : n + 1 ≡ length (ls ++ l ∷ []) = sym (length-append ls (l ∷ []) ∙ grind (arith, lists_length n rows gaps)) in
    ap (λ i. lists_in i (rows ++ row_bytes l) (gaps ++ list_gaps l)) k
    ∙ ap (λ x. lists_in (length (ls ++ l ∷ [])) x (gaps ++ list_gaps l)) r
    ∙ ap (λ x. lists_in (length (ls ++ l ∷ [])) (flat_map row_bytes (ls ++ l ∷ [])) x) g
    ∙ lists_read (ls ++ l ∷ []) (All-append Fits ls (l ∷ []) p.fit (All-cons Fits l [] f (All-nil Fits)))

pub packs_put : (n : ℕ) (rows gaps : List ℕ) (l : TermList) → Packs rows gaps (lists_in n rows gaps) → Fits l
    → Packs (rows ++ row_bytes l) (gaps ++ list_gaps l) (lists_in (n + 1) (rows ++ row_bytes l) (gaps ++ list_gaps l))
packs_put n rows gaps l p f =
    let ls = lists_in n rows gaps in
    rw (list_put n rows gaps l p f) (record {
      rows = ap (λ x. x ++ row_bytes l) p.rows ∙ ap (λ x. flat_map row_bytes ls ++ x) (sym (append-nil (row_bytes l))) ∙ sym (flat_map-append row_bytes ls (l ∷ []));
      gaps = ap (λ x. x ++ list_gaps l) p.gaps ∙ ap (λ x. flat_map list_gaps ls ++ x) (sym (append-nil (list_gaps l))) ∙ sym (flat_map-append list_gaps ls (l ∷ []));
      fit = All-append Fits ls (l ∷ []) p.fit (All-cons Fits l [] f (All-nil Fits));
    })

-- the first list was taken away
packs_rest : (l : TermList) (ls : List TermList) (rows gaps : List ℕ) → Packs rows gaps (l ∷ ls) → Packs (row_in rows).behind (drop (row_in rows).gaps gaps) ls
packs_rest l ls rows gaps p =
    let read = ap row_in p.rows ∙ row_reads l (flat_map row_bytes ls) (All-head Fits l ls p.fit) in
    let behind : (row_in rows).behind ≡ flat_map row_bytes ls = ap (λ (r : Row). r.behind) read in
    let size : (row_in rows).gaps ≡ length (list_gaps l) = ap (λ (r : Row). r.gaps) read in
    record {
      rows = behind;
      gaps = ap (λ k. drop k gaps) size ∙ ap (λ g. drop (length (list_gaps l)) g) p.gaps ∙ drop-append_seam (list_gaps l) (flat_map list_gaps ls);
      fit = All-tail Fits l ls p.fit;
    }

-- the gaps of the first list stand in front
front_packed : (l : TermList) (ls : List TermList) (rows gaps : List ℕ) → Packs rows gaps (l ∷ ls)
    → ((row_in rows).gaps ≤ length gaps) × AreGaps (take (row_in rows).gaps gaps) (row_in rows).count l.locations
front_packed l ls rows gaps p =
    let fits = All-head Fits l ls p.fit in
    let read = ap row_in p.rows ∙ row_reads l (flat_map row_bytes ls) fits in
    let size : (row_in rows).gaps ≡ length (list_gaps l) = ap (λ (r : Row). r.gaps) read in (
      omega (arith, size, ap (λ (x : List ℕ). length x) p.gaps, length-append (list_gaps l) (flat_map list_gaps ls)),
      record {
        spelled = ap (λ (k : ℕ). take k gaps) size ∙ ap (λ (g : List ℕ). take (length (list_gaps l)) g) p.gaps ∙ take-append_seam (list_gaps l) (flat_map list_gaps ls);
        counted = sym (ap (λ (r : Row). r.count) read);
        small = fits.locations;
      },
    )

pub first_packed : (n : ℕ) (rows gaps : List ℕ) → 0 < n → Packs rows gaps (lists_in n rows gaps)
    → ((row_in rows).gaps ≤ length gaps) × AreGaps (take (row_in rows).gaps gaps) (row_in rows).count (front_locations (lists_in n rows gaps))
first_packed zero rows gaps l p = absurd (omega (arith, l))
first_packed (suc n) rows gaps l p = front_packed _ _ rows gaps p

pub packs_skip : (n : ℕ) (rows gaps : List ℕ) → 0 < n → Packs rows gaps (lists_in n rows gaps)
    → Packs (row_in rows).behind (drop (row_in rows).gaps gaps) (lists_in (n - 1) (row_in rows).behind (drop (row_in rows).gaps gaps))
packs_skip zero rows gaps l p = absurd (omega (arith, l))
packs_skip (suc n) rows gaps l p =
    let e : suc n - 1 ≡ n = omega arith in
    rw e (packs_rest _ _ rows gaps p)

pub lists_skip : (n : ℕ) (rows gaps : List ℕ) → 0 < n → lists_in (n - 1) (row_in rows).behind (drop (row_in rows).gaps gaps) ≡ drop 1 (lists_in n rows gaps)
lists_skip zero rows gaps l = absurd (omega (arith, l))
lists_skip (suc n) rows gaps l =
    let e : suc n - 1 ≡ n = omega arith in
    rw e refl

-- ---- how many there are

-- a row has at least one byte
rows_long : (ls : List TermList) → length ls ≤ length (flat_map row_bytes ls)
rows_long [] = omega arith
rows_long (l ∷ ls) =
    omega (arith, rows_long ls, (number_size (length l.term)).0, length-append (row_bytes l) (flat_map row_bytes ls), length-append (number_bytes (length l.term)) (l.term ++ (number_bytes (length l.locations) ++ number_bytes (length (list_gaps l)))))

pub few_lists : (n : ℕ) (rows gaps : List ℕ) → Packs rows gaps (lists_in n rows gaps) → n ≤ length rows
few_lists n rows gaps p = omega (arith, rows_long (lists_in n rows gaps), lists_length n rows gaps, ap (λ (x : List ℕ). length x) p.rows)

-- ---- in buffers whose front was read

-- what holds once a list was put behind those that are left
pub put_behind : (n row gap : ℕ) (rows rows' gaps gaps' : List ℕ) (l : TermList)
    → Packs (drop row rows) (drop gap gaps) (lists_in n (drop row rows) (drop gap gaps)) → row ≤ length rows → gap ≤ length gaps
    → rows' ≡ rows ++ row_bytes l → gaps' ≡ gaps ++ list_gaps l → Fits l
    → (lists_in (n + 1) (drop row rows') (drop gap gaps') ≡ lists_in n (drop row rows) (drop gap gaps) ++ l ∷ [])
    × (Packs (drop row rows') (drop gap gaps') (lists_in (n + 1) (drop row rows') (drop gap gaps')) × (row ≤ length rows') × (gap ≤ length gaps'))
put_behind n row gap rows rows' gaps gaps' l p rl gl r g f =
    let rs : drop row rows' ≡ drop row rows ++ row_bytes l = ap (λ x. drop row x) r ∙ drop-append-le row rows (row_bytes l) rl in
    let gs : drop gap gaps' ≡ drop gap gaps ++ list_gaps l = ap (λ x. drop gap x) g ∙ drop-append-le gap gaps (list_gaps l) gl in
    let rows_long : row ≤ length rows' = omega (arith, ap (λ (x : List ℕ). length x) r, length-append rows (row_bytes l)) in
    let gaps_long : gap ≤ length gaps' = omega (arith, ap (λ (x : List ℕ). length x) g, length-append gaps (list_gaps l)) in
    rw (rs, gs) (list_put n (drop row rows) (drop gap gaps) l p f, (packs_put n (drop row rows) (drop gap gaps) l p f, rows_long, gaps_long))

-- what holds once the first list was dropped
pub skipped : (n : ℕ) (rows gaps rows' gaps' : List ℕ) → 0 < n → Packs rows gaps (lists_in n rows gaps)
    → rows' ≡ (row_in rows).behind → gaps' ≡ drop (row_in rows).gaps gaps
    → (lists_in (n - 1) rows' gaps' ≡ drop 1 (lists_in n rows gaps)) × Packs rows' gaps' (lists_in (n - 1) rows' gaps')
skipped n rows gaps rows' gaps' l p r g = rw (r, g) (lists_skip n rows gaps l, packs_skip n rows gaps l p)

-- a place so far behind another, or at the end where there are fewer, leaves as much
pub drop_again : {X : Type 0} (n m k : ℕ) (xs : List X) → k ≡ min (n + m) (length xs) → drop k xs ≡ drop m (drop n xs)
drop_again n m k xs e = ap (λ (i : ℕ). drop i xs) e ∙ drop_min (n + m) xs ∙ sym (drop-drop m n xs)
