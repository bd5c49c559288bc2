-- Walks along the rows of a term part.
use Rattle.std.proofs.Common.{◌≡◌, ⊎_elim, ℕ, zero, suc, ◌+◌, ◌-◌, ◌*◌, ◌/◌, ◌≤◌, ◌<◌, ◌^◌, List, [], ◌∷◌, ◌++◌, length, get_or, take, drop, Result, Ok, Err, refl, sym, ap, subst, ◌∙◌, arith}
use Rattle.std.proofs.Math.Seq.{take-length}
use Rattle.std.proofs.lemmas.Bool.{cases_lt}
use Rattle.std.proofs.lemmas.List.{length-append, length-take, length-take-le, take-take, take_at, take_all, take-append-le, drop_at, drop-drop, get_or-take}
use Rattle.std.proofs.lemmas.List.Sums.{sum_by_push}
use Rattle.alta_format.specs.declared.field.ReadFault.TheVariants as errors
use Rattle.alta_format.specs.Format.{◌>>=◌, AreBytes, read, repeated}
use Rattle.alta_format.proofs.FormatLaws.{AreBytes-rest, read_followed, read_spells, ok_err}
use Rattle.alta_format.proofs.EntryLaws.{from_start, goes_on, stops, closed, left_over}
use Rattle.alta_table.specs.declared.term.TermRow.{TermRow}
use Rattle.alta_table.specs.Terms.{AreTerms, Behind, behind_term, first_behind, data_of, data_bytes, term_format, terms_format, terms_table}
use Rattle.alta_table.specs.declared.marks.Mark.{Mark}
use Rattle.alta_table.specs.declared.terms.HeldTerms.{HeldTerms}
use Rattle.alta_table.specs.declared.walk.Walk.{Walk}
use Rattle.alta_table.specs.Marks.{Total, IsBehind, AreMarks, AreMarked, IsHeld, StandsBefore, all_read, head_of, rows_found, rows_in}
use Rattle.alta_table.specs.Walks.{IsNext, behind_of, row_of, term_of}
use Rattle.alta_table.proofs.TableLaws.{terms_spelled}
use Rattle.alta_table.proofs.TermLaws.{entry_of, term_spelled}

abbrev Found1 : Type 0
Found1 = TermRow × List ℕ

abbrev behind : List ℕ → ℕ → Behind
behind term room = record { term = term; room = room }

abbrev pub found : List TermRow → ℕ → Total
found rows left = Ok ((rows, left), [])

-- ---- what was read is the front of what is found

bind_ok : {A B : Type 0} (r : Result A ℕ) (f : A → Result B ℕ) (y : B) → (r >>= f) ≡ Ok y → (x : A) × (r ≡ Ok x) × (f x ≡ Ok y)
bind_ok (Ok x) f y e = (x, refl, e)
bind_ok (Err d) f y e = absurd cc

first_of : (a b : List TermRow) (k l : ℕ) → found a k ≡ found b l → a ≡ b
unfolding rows_found
first_of a b k l e = ap rows_found e

grown_rows : (first old new : List TermRow) → take (length first) old ≡ first → take (length old) new ≡ old → take (length first) new ≡ first
grown_rows first old new begins grows =
    let le : length first ≤ length old = omega (arith, ap length begins, length-take (length first) old) in
    sym (take-take (length first) (length old) new le) ∙ ap (take (length first)) grows ∙ begins

abbrev onward : ℕ → Behind → List TermRow → Found1 → Total
onward n behind seen x = read (repeated terms_table n (behind_term behind x.0) (seen ++ x.0 ∷ [])) x.1

pub seen_first : (n : ℕ) (behind : Behind) (seen : List TermRow) (rest : List ℕ) (rows : List TermRow) (left : ℕ) → read (repeated terms_table n behind seen) rest ≡ found rows left → take (length seen) rows ≡ seen
unfolding repeated
seen_first zero behind seen rest rows left e =
    ⊎_elim (λ (some : 0 < length rest). absurd (ok_err _ ((rows, left), []) (length rest) e (left_over terms_table 0 0 behind seen rest _ (omega arith) some refl)))
    (λ (none : length rest ≤ 0). let same : seen ≡ rows = first_of seen rows behind.room left (sym (closed terms_table 0 0 behind seen rest _ (omega arith) (omega (arith, none)) refl) ∙ e) in
    subst (λ (l : List TermRow). take (length seen) l ≡ seen) same (take-length seen))
    (cases_lt 0 (length rest))
seen_first (suc n) behind seen rest rows left e =
    let split = sym (read_followed (term_format behind) (λ x. repeated terms_table n (behind_term behind x) (seen ++ x ∷ [])) rest) in
    let (x, first, more) = bind_ok (read (term_format behind) rest) (onward n behind seen) ((rows, left), []) (split ∙ e) in
    grown_rows seen (seen ++ x.0 ∷ []) rows (take_at seen (x.0 ∷ []) (length seen) refl) (seen_first n (behind_term behind x.0) (seen ++ x.0 ∷ []) x.1 rows left more)

-- ---- one row on

-- a part that has no rows before it
pub at_start : (count room : ℕ) (bytes : List ℕ) (rows : List TermRow) → IsBehind (read (terms_format count room) bytes) count room rows 0 (first_behind room) bytes
at_start count room bytes rows = record {
  within = omega arith;
  reads = from_start terms_table count (first_behind room) [] bytes refl;
  sum = omega arith;
  last = λ d some. absurd (omega (arith, some));
}

-- a row more that was read
pub row_more : (total : Total) (count room : ℕ) (rows : List TermRow) (i : ℕ) (behind : Behind) (rest : List ℕ) (row : TermRow) (more : List ℕ)
    → i < count → row.stream + row.summary ≤ behind.room → read (term_format behind) rest ≡ Ok (row, more)
    → IsBehind total count room rows i behind rest → IsBehind total count room (take i rows ++ row ∷ []) (i + 1) (behind_term behind row) more
row_more total count room rows i behind rest row more lt fits got b =
    let front : List TermRow = take i rows in
    let len : length front ≡ i = length-take-le i rows b.within in
    let whole : take (i + 1) (front ++ row ∷ []) ≡ front ++ row ∷ [] = take_all (i + 1) (front ++ row ∷ []) (omega (arith, len, length-append front (row ∷ []))) in
    record {
      within = omega (arith, len, length-append front (row ∷ []));
      reads = ap (λ (l : List TermRow). read (repeated terms_table (count - (i + 1)) (behind_term behind row) l) more) whole ∙ goes_on terms_table count i behind front rest row more total lt got b.reads;
      sum = omega (arith, ap (λ (l : List TermRow). data_bytes l) whole, sum_by_push data_of front row, fits, b.sum);
      last = λ d some. sym (ap (λ (r : TermRow). r.term) (at_end front row i d len));
    }
  where
    last_is : (xs : List TermRow) (x : TermRow) (d : TermRow) → get_or (xs ++ x ∷ []) (length xs) d ≡ x
    last_is [] x d = refl
    last_is (y ∷ xs) x d = last_is xs x d

    at_end : (xs : List TermRow) (x : TermRow) (i : ℕ) (d : TermRow) → length xs ≡ i → get_or (xs ++ x ∷ []) (i + 1 - 1) d ≡ x
    at_end xs x i d len = let e : i + 1 - 1 ≡ length xs = omega (arith, len) in ap (λ (k : ℕ). get_or (xs ++ x ∷ []) k d) e ∙ last_is xs x d

-- the same of the walk that read it
pub more_read : (total : Total) (count room : ℕ) (rows : List TermRow) (i : ℕ) (w v : Walk) → i < count → read (term_format (behind_of w)) w.rest.now ≡ Ok (row_of v, v.rest.now) → v.left + v.stream + v.summary ≡ w.left
    → IsBehind total count room rows i (behind_of w) w.rest.now → IsBehind total count room (take i rows ++ row_of v ∷ []) (i + 1) (behind_of v) v.rest.now
more_read total count room rows i w v lt got size b =
    let left : w.left - v.stream - v.summary ≡ v.left = omega (arith, size) in
    subst (λ (k : ℕ). IsBehind total count room (take i rows ++ row_of v ∷ []) (i + 1) (behind (term_of v) k) v.rest.now) left
    (row_more total count room rows i (behind_of w) w.rest.now (row_of v) v.rest.now lt (omega (arith, size)) got b)

-- a place before which the same rows stand
pub same_rows : (total : Total) (count room : ℕ) (rows other : List TermRow) (i : ℕ) (behind : Behind) (rest : List ℕ) → i ≤ length other → take i other ≡ take i rows
    → IsBehind total count room rows i behind rest → IsBehind total count room other i behind rest
same_rows total count room rows other i behind rest within same b = record {
  within = within;
  reads = ap (λ (l : List TermRow). read (repeated terms_table (count - i) behind l) rest) same ∙ b.reads;
  sum = omega (arith, ap (λ (l : List TermRow). data_bytes l) same, b.sum);
  last = λ d some.
      let lt : i - 1 < i = omega (arith, some) in
      b.last d some ∙ ap (λ (r : TermRow). r.term) (sym (get_or-take i rows (i - 1) d lt) ∙ ap (λ (l : List TermRow). get_or l (i - 1) d) (sym same) ∙ get_or-take i other (i - 1) d lt);
}

-- a row of those that were found
pub record IsRow (total : Total) (count room : ℕ) (rows : List TermRow) (i : ℕ) (behind : Behind) (row : TermRow) (more : List ℕ) : Type 0 where
  pub stands : IsBehind total count room rows (i + 1) (behind_term behind row) more
  pub row_is : row ≡ get_or rows i row

pub row_on : (total : Total) (count room : ℕ) (rows : List TermRow) (left i : ℕ) (behind : Behind) (rest : List ℕ) (row : TermRow) (more : List ℕ)
    → total ≡ found rows left → length rows ≡ count → i < count → row.stream + row.summary ≤ behind.room → read (term_format behind) rest ≡ Ok (row, more)
    → IsBehind total count room rows i behind rest → IsRow total count room rows i behind row more
row_on total count room rows left i behind rest row more is many lt fits got b =
    let front : List TermRow = take i rows in
    let len : length front ≡ i = length-take-le i rows b.within in
    let size : length (front ++ row ∷ []) ≡ i + 1 = omega (arith, len, length-append front (row ∷ [])) in
    let next = row_more total count room rows i behind rest row more lt fits got b in
    let whole : take (i + 1) (front ++ row ∷ []) ≡ front ++ row ∷ [] = take_all (i + 1) (front ++ row ∷ []) (omega (arith, size)) in
    let first : take (i + 1) rows ≡ front ++ row ∷ [] =
    ap (λ (k : ℕ). take k rows) (sym size) ∙ seen_first (count - (i + 1)) (behind_term behind row) (front ++ row ∷ []) more rows left (ap (λ (l : List TermRow). read (repeated terms_table (count - (i + 1)) (behind_term behind row) l) more) (sym whole) ∙ next.reads ∙ is) in
    let lt2 : i < i + 1 = omega arith in
    record {
      stands = same_rows total count room (front ++ row ∷ []) rows (i + 1) (behind_term behind row) more (omega (arith, many, lt)) (first ∙ sym whole) next;
      row_is = sym (last_is front row i row len) ∙ ap (λ (l : List TermRow). get_or l i row) (sym first) ∙ get_or-take (i + 1) rows i row lt2;
    }
  where
    last_is : (xs : List TermRow) (x : TermRow) (i : ℕ) (d : TermRow) → length xs ≡ i → get_or (xs ++ x ∷ []) i d ≡ x
    last_is [] x zero d len = refl
    last_is [] x (suc i) d len = absurd (omega (arith, len))
    last_is (y ∷ xs) x zero d len = absurd (omega (arith, len))
    last_is (y ∷ xs) x (suc i) d len = last_is xs x i d (omega (arith, len))

-- where all rows were read, the next one is there
pub next_is : (total : Total) (count room : ℕ) (rows : List TermRow) (left i : ℕ) (behind : Behind) (rest : List ℕ) → total ≡ found rows left → i < count → IsBehind total count room rows i behind rest
    → (row : TermRow) × (more : List ℕ) × (read (term_format behind) rest ≡ Ok (row, more))
next_is total count room rows left i behind rest is lt b = of_read (read (term_format behind) rest) refl
  where
    of_read : (r : Result (TermRow × List ℕ) ℕ) → read (term_format behind) rest ≡ r → (row : TermRow) × (more : List ℕ) × (read (term_format behind) rest ≡ Ok (row, more))
    of_read (Ok x) e = (x.0, x.1, e)
    of_read (Err gone) e = absurd (ok_err total ((rows, left), []) gone is (stops terms_table (errors.Broken gone) count i behind (take i rows) rest total lt e b.reads))

-- ---- what reading finds

pub found_is : (total : Total) (rows : List TermRow) (left : ℕ) → total ≡ found rows left → rows_found total ≡ rows
unfolding rows_found
found_is total rows left e = ap rows_found e

pub record IsRead (count room : ℕ) (rows : List TermRow) (left : ℕ) : Type 0 where
  pub many : length rows ≡ count
  pub stand : AreTerms rows
  pub sum : data_bytes rows + left ≡ room

pub read_is : (count room : ℕ) (bytes : List ℕ) (rows : List TermRow) (left : ℕ) → AreBytes bytes → read (terms_format count room) bytes ≡ found rows left → IsRead count room rows left
read_is count room bytes rows left fits e =
    let (stand, many, text, sum) = terms_spelled count room bytes (rows, left) [] (read_spells (terms_format count room) bytes (rows, left) [] fits e) in
    record { many = many; stand = stand; sum = sum }

-- ---- the rest of the bytes

-- these are the bytes from some place on
pub record IsRest (bytes rest : List ℕ) : Type 0 where
  pub inside : length rest ≤ length bytes
  pub rest_is : drop (length bytes - length rest) bytes ≡ rest
  pub fits : AreBytes rest

pub rest_all : (bytes : List ℕ) → AreBytes bytes → IsRest bytes bytes
rest_all bytes fits = let none : length bytes - length bytes ≡ 0 = omega arith in record { inside = omega arith; rest_is = ap (λ (k : ℕ). drop k bytes) none; fits = fits }

pub rest_on : (bytes rest : List ℕ) (behind : Behind) (row : TermRow) (more : List ℕ) → read (term_format behind) rest ≡ Ok (row, more) → IsRest bytes rest → IsRest bytes more
rest_on bytes rest behind row more got r =
    let text : rest ≡ entry_of behind row ++ more = (term_spelled behind rest row more (read_spells (term_format behind) rest row more r.fits got)).1 in
    let size : length rest ≡ length (entry_of behind row) + length more = omega (arith, ap length text, length-append (entry_of behind row) more) in
    let at : length bytes - length more ≡ (length bytes - length rest) + length (entry_of behind row) = omega (arith, size, r.inside) in
    record {
      inside = omega (arith, size, r.inside);
      rest_is = ap (λ (k : ℕ). drop k bytes) at ∙ sym (drop-drop (length (entry_of behind row)) (length bytes - length rest) bytes) ∙ ap (drop (length (entry_of behind row))) (r.rest_is ∙ text)
          ∙ drop_at (entry_of behind row) more (length (entry_of behind row)) refl;
      fits = AreBytes-rest rest (entry_of behind row) more r.fits text;
    }

-- ---- the walk of a part that is held

pub passed : (t : HeldTerms) (left i : ℕ) (w v : Walk) → IsHeld t left → i < t.count → read (term_format (behind_of w)) w.rest.now ≡ Ok (row_of v, v.rest.now) → v.left + v.stream + v.summary ≡ w.left
    → StandsBefore t i (behind_of w) w.rest.now → StandsBefore t (i + 1) (behind_of v) v.rest.now × (row_of v ≡ get_or (rows_in t) i (row_of v))
passed t left i w v held lt got size b =
    let on = row_on (all_read t) t.count t.room (rows_in t) left i (behind_of w) w.rest.now (row_of v) v.rest.now held.reads held.many lt (omega (arith, size)) got b in
    let room : w.left - v.stream - v.summary ≡ v.left = omega (arith, size) in
    (subst (λ (k : ℕ). StandsBefore t (i + 1) (behind (term_of v) k) v.rest.now) room on.stands, on.row_is)

pub next_held : (t : HeldTerms) (left i : ℕ) (w : Walk) → IsHeld t left → i < t.count → StandsBefore t i (behind_of w) w.rest.now → IsNext w
next_held t left i w held lt b = next_is (all_read t) t.count t.room (rows_in t) left i (behind_of w) w.rest.now held.reads lt b

-- ---- marks while rows are read

pub none_marked : (total : Total) (count room : ℕ) (bytes : List ℕ) (rows : List TermRow) (heads : List ℕ) (marks : List Mark) → marks ≡ [] → AreMarks total count room bytes rows heads marks
none_marked total count room bytes rows heads [] e = λ k d lt. absurd (omega (arith, lt))
none_marked total count room bytes rows heads (m ∷ marks) e = absurd cc

marks_same : (total : Total) (count room : ℕ) (bytes : List ℕ) (rows other : List TermRow) (heads : List ℕ) (marks : List Mark)
    → ((k : ℕ) → k < length marks → (k * 16 ≤ length other) × (take (k * 16) other ≡ take (k * 16) rows)) → AreMarks total count room bytes rows heads marks → AreMarks total count room bytes other heads marks
marks_same total count room bytes rows other heads marks same are = λ k d lt.
    let m = are k d lt in
    let (within, front) = same k lt in
    record {
      lies = m.lies;
      short = m.short;
      inside = m.inside;
      stands = same_rows total count room rows other (k * 16) (record { term = head_of heads (get_or marks k d); room = (get_or marks k d).left }) (drop (get_or marks k d).at bytes) within front m.stands;
    }

-- one row more
pub marks_on : (total : Total) (count room : ℕ) (bytes : List ℕ) (rows : List TermRow) (i : ℕ) (row : TermRow) (heads : List ℕ) (marks : List Mark) → length marks ≡ (i + 16) / 16 → i ≤ length rows
    → AreMarks total count room bytes rows heads marks → AreMarks total count room bytes (take i rows ++ row ∷ []) heads marks
marks_on total count room bytes rows i row heads marks many le are = marks_same total count room bytes rows (take i rows ++ row ∷ []) heads marks same are
  where
    same : (k : ℕ) → k < length marks → (k * 16 ≤ length (take i rows ++ row ∷ [])) × (take (k * 16) (take i rows ++ row ∷ []) ≡ take (k * 16) rows)
    same k lt =
        let len : length (take i rows) ≡ i = length-take-le i rows le in
        let upto : k * 16 ≤ i = omega (arith, many, lt) in (
          omega (arith, len, upto, length-append (take i rows) (row ∷ [])),
          take-append-le (k * 16) (take i rows) (row ∷ []) (omega (arith, len, upto)) ∙ take-take (k * 16) i rows upto,
        )

-- all rows
pub marks_end : (total : Total) (count room : ℕ) (bytes : List ℕ) (rows : List TermRow) (i left : ℕ) (heads : List ℕ) (marks : List Mark) → length marks ≡ (i + 15) / 16 → i ≤ length rows
    → total ≡ found (take i rows) left → AreMarks total count room bytes rows heads marks → AreMarks total count room bytes (rows_found total) heads marks
marks_end total count room bytes rows i left heads marks many le is are =
    subst (λ (l : List TermRow). AreMarks total count room bytes l heads marks) (sym (found_is total (take i rows) left is)) (marks_same total count room bytes rows (take i rows) heads marks same are)
  where
    same : (k : ℕ) → k < length marks → (k * 16 ≤ length (take i rows)) × (take (k * 16) (take i rows) ≡ take (k * 16) rows)
    same k lt =
        let len : length (take i rows) ≡ i = length-take-le i rows le in
        let upto : k * 16 ≤ i = omega (arith, many, lt) in
        (omega (arith, len, upto), take-take (k * 16) i rows upto)

pub all_found : (total : Total) (rows : List TermRow) (left : ℕ) → total ≡ found rows left → total ≡ found (rows_found total) left
all_found total rows left is = is ∙ ap (λ (l : List TermRow). found l left) (sym (found_is total rows left is))

pub held_is : (t : HeldTerms) (count room left : ℕ) (bytes : List ℕ) → AreBytes bytes → count < 2 ^ 64 → t.count ≡ count → t.room ≡ room → t.bytes.items ≡ bytes
    → read (terms_format count room) bytes ≡ found (rows_found (read (terms_format count room) bytes)) left → AreMarked count room bytes t.marks.heads.items t.marks.marks.items → IsHeld t left
held_is t count room left bytes fits small count_is room_is bytes_are is marked =
    let same : all_read t ≡ read (terms_format count room) bytes =
    ap (λ (n : ℕ). read (terms_format n t.room) t.bytes.items) count_is ∙ ap (λ (n : ℕ). read (terms_format count n) t.bytes.items) room_is ∙ ap (λ (b : List ℕ). read (terms_format count room) b) bytes_are in
    let reads : all_read t ≡ found (rows_in t) left = same ∙ is ∙ ap (λ (r : Total). found (rows_found r) left) (sym same) in
    let rules = read_is count room bytes (rows_in t) left fits (sym same ∙ reads) in
    record {
      reads = reads;
      many = rules.many ∙ sym count_is;
      small = omega (arith, small, count_is);
      stand = rules.stand;
      sum = rules.sum ∙ sym room_is;
      marked =
          subst (λ (n : ℕ). AreMarked n t.room t.bytes.items t.marks.heads.items t.marks.marks.items) (sym count_is)
          (subst (λ (n : ℕ). AreMarked count n t.bytes.items t.marks.heads.items t.marks.marks.items) (sym room_is)
          (subst (λ (b : List ℕ). AreMarked count room b t.marks.heads.items t.marks.marks.items) (sym bytes_are) marked));
    }
