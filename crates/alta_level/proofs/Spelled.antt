-- A segment is its tables and its lists.
use Rattle.std.proofs.Common.{◌≡◌, ℕ, ◌+◌, ◌-◌, ◌^◌, ◌<◌, ◌≤◌, List, [], ◌∷◌, ◌++◌, length, take, drop, refl, sym, subst, ap, ◌∙◌, arith, length-append, length-drop, append_assoc}
use Rattle.std.specs.Prelude.{flat_map, ◌||◌}
use Rattle.std.specs.List.{list_any}
use Rattle.std.specs.Str.{bytes_eq}
use Rattle.std.proofs.Math.Seq.{drop-append_seam}
use Rattle.std.proofs.lemmas.List.{drop-drop, length-take, take-append-drop}
use Rattle.std.proofs.lemmas.List.Sums.{sum_by-cons}
use Rattle.alta_codec.proofs.Numerals.{number_size}
use Rattle.alta_codec.specs.Numbers.{number_bytes}
use Rattle.alta_postings.specs.Deltas.{stream_bytes}
use Rattle.alta_content.specs.declared.document.DocRow.{DocRow}
use Rattle.alta_table.specs.declared.term.TermRow.{TermRow}
use Rattle.alta_content.specs.Lists.{AreListsBehind, end_term, is_end_list}
use Rattle.alta_content.specs.Rows.{AreDocuments}
use Rattle.alta_table.specs.Tables.{Tables, AreTables, tables_bytes}
use Rattle.alta_table.specs.Terms.{data_of, data_bytes, is_end, AreTermsBehind, MayFollowTerm}
use Rattle.alta_content.specs.declared.content.Content.{Content}
use Rattle.alta_content.specs.TermList.{TermList}
use Rattle.alta_level.specs.Coded.{summary_bytes}
use Rattle.alta_level.specs.Segments.{IsSegment, row_of, rows_of, list_bytes, segment_bytes}
use Rattle.alta_level.specs.Damage.{AreListsOf, data_in, data_place}

-- ---- from the bytes to the content

row_ext : (row : TermRow) (term : List ℕ) (count stream summary : ℕ) → term ≡ row.term → count ≡ row.count → stream ≡ row.stream → summary ≡ row.summary
    → row ≡ record { term = term; count = count; stream = stream; summary = summary }
row_ext row term count stream summary a b c d =
    let f : List ℕ → TermRow = λ x. record { term = x; count = row.count; stream = row.stream; summary = row.summary } in
    let g : ℕ → TermRow = λ x. record { term = term; count = x; stream = row.stream; summary = row.summary } in
    let h : ℕ → TermRow = λ x. record { term = term; count = count; stream = x; summary = row.summary } in
    let k : ℕ → TermRow = λ x. record { term = term; count = count; stream = stream; summary = x } in
    ap f (sym a) ∙ ap g (sym b) ∙ ap h (sym c) ∙ ap k (sym d)

pub record AreSpelled (rows : List TermRow) (bytes : List ℕ) (lists : List TermList) : Type 0 where
  pub rows_are : rows ≡ rows_of lists
  pub bytes_are : bytes ≡ flat_map list_bytes lists

none_left : (bytes : List ℕ) → 0 ≡ length bytes → bytes ≡ []
none_left [] z = refl
none_left (b ∷ bs) z = absurd (omega arith)

pub lists_spell : (documents : List DocRow) (rows : List TermRow) (bytes : List ℕ) (place : ℕ) (lists : List TermList) → AreListsOf documents rows bytes place lists → data_bytes rows ≡ length bytes
    → AreSpelled rows bytes lists
unfolding AreListsOf
lists_spell documents [] bytes place [] h e = record { rows_are = refl; bytes_are = none_left bytes e }
lists_spell documents [] bytes place (l ∷ ls) h e = absurd (cc)
lists_spell documents (row ∷ rows) bytes place [] h e = absurd h
lists_spell documents (row ∷ rows) bytes place (l ∷ ls) (t, is, others) e =
    let s = row.stream in
    let rest = drop s bytes in
    let n = sum_by-cons data_of row rows in
    let size = length-drop s bytes in
    let ih = lists_spell documents rows (drop (data_of row) bytes) (place + data_of row) ls others (omega (arith, n, length-drop (data_of row) bytes)) in
    let stream_long : length (take s bytes) ≡ s = omega (arith, length-take s bytes, n) in
    let summary_long : length (take row.summary rest) ≡ row.summary = omega (arith, length-take row.summary rest, n, size) in
    let same : row ≡ row_of l = row_ext row l.term _ _ _ t is.fits.counted (sym (ap length is.coded.stream_is) ∙ stream_long) (sym (ap length is.coded.summary_is) ∙ summary_long) in
    record {
      rows_are = ap (λ x. x ∷ rows) same ∙ ap (λ x. row_of l ∷ x) ih.rows_are;
      bytes_are = sym (take-append-drop s bytes)
          ∙ ap (λ x. take s bytes ++ x) (sym (take-append-drop row.summary rest))
          ∙ sym (append_assoc (take s bytes) (take row.summary rest) (drop row.summary rest))
          ∙ ap (λ x. (take s bytes ++ take row.summary rest) ++ x) (drop-drop row.summary s bytes ∙ ih.bytes_are)
          ∙ ap (λ x. (x ++ take row.summary rest) ++ flat_map list_bytes ls) is.coded.stream_is
          ∙ ap (λ x. (stream_bytes 0 l.locations ++ x) ++ flat_map list_bytes ls) is.coded.summary_is;
    }

pub lists_stand : (documents : List DocRow) (before : List ℕ) (rows : List TermRow) (bytes : List ℕ) (place : ℕ) (lists : List TermList)
    → AreTermsBehind before rows → AreListsOf documents rows bytes place lists → AreListsBehind documents before lists
unfolding AreListsOf AreTermsBehind AreListsBehind
lists_stand documents before [] bytes place [] a h = tt
lists_stand documents before [] bytes place (l ∷ ls) a h = absurd (cc)
lists_stand documents before (row ∷ rows) bytes place [] a h = absurd h
lists_stand documents before (row ∷ rows) bytes place (l ∷ ls) (m, more) (t, is, others) =
    let keeps : MayFollowTerm before (record row { term = l.term }) = subst (λ (x : List ℕ). MayFollowTerm before (record row { term = x })) (sym t) m in (
      record {
        rises = keeps.rises;
        kind = keeps.kind;
        short = keeps.short;
        some = omega (arith, is.fits.counted, m.some);
        rising = is.coded.rising;
        within = is.fits.within;
        ends = λ e. is.fits.ends (sym t ∙ e);
      },
      lists_stand documents l.term rows (drop (data_of row) bytes) (place + data_of row) ls (subst (λ (x : List ℕ). AreTermsBehind x rows) (sym t) more) others,
    )

pub end_stands : (documents : List DocRow) (rows : List TermRow) (bytes : List ℕ) (place : ℕ) (lists : List TermList) → AreListsOf documents rows bytes place lists
    → list_any is_end_list lists ≡ list_any is_end rows
unfolding AreListsOf
end_stands documents [] bytes place [] h = refl
end_stands documents [] bytes place (l ∷ ls) h = absurd (cc)
end_stands documents (row ∷ rows) bytes place [] h = absurd h
end_stands documents (row ∷ rows) bytes place (l ∷ ls) (t, is, others) =
    ap (λ (x : List ℕ). bytes_eq x end_term || list_any is_end_list ls) t
    ∙ ap (λ x. is_end row || x) (end_stands documents rows (drop (data_of row) bytes) (place + data_of row) ls others)

pub segment_found : (bytes : List ℕ) (place : ℕ) (tables : Tables) (content : Content) → AreTables bytes place (length bytes) tables → content.documents ≡ tables.documents
    → AreListsOf tables.documents tables.terms (data_in bytes tables) (data_place tables) content.lists → IsSegment bytes content
unfolding segment_bytes
segment_found bytes place tables content a d h =
    let front = tables_bytes tables.documents tables.terms in
    let streams = data_in bytes tables in
    let behind_is : streams ≡ a.behind = ap (λ x. drop (length front) x) a.spelled ∙ drop-append_seam front a.behind in
    let size : data_bytes tables.terms ≡ length streams = omega (arith, a.keeps.filled, ap length a.spelled, length-append front a.behind, ap length behind_is) in
    let s = lists_spell tables.documents tables.terms streams (data_place tables) content.lists h size in
    record {
      stands = record {
        some = omega (arith, a.keeps.some, ap length d);
        documents_stand = subst (λ (x : List DocRow). AreDocuments x) (sym d) a.keeps.documents_stand;
        lists_stand = subst (λ (x : List DocRow). AreListsBehind x [] content.lists) (sym d)
            (lists_stand tables.documents [] tables.terms streams (data_place tables) content.lists a.keeps.terms_stand h);
        has_end = end_stands tables.documents tables.terms streams (data_place tables) content.lists h ∙ a.keeps.has_end;
      };
      spelled = a.spelled ∙ ap (λ x. front ++ x) (sym behind_is ∙ s.bytes_are)
          ∙ ap (λ x. tables_bytes tables.documents x ++ flat_map list_bytes content.lists) s.rows_are
          ∙ ap (λ x. tables_bytes x (rows_of content.lists) ++ flat_map list_bytes content.lists) (sym d);
    }

-- ---- from the content to the bytes

stream_holds : (before : ℕ) (xs : List ℕ) → length xs ≤ length (stream_bytes before xs)
unfolding stream_bytes
stream_holds before [] = omega arith
stream_holds before (x ∷ xs) = omega (arith, stream_holds x xs, length-append (number_bytes (x - before)) (stream_bytes x xs), (number_size (x - before)).0)

take_front : (xs ys : List ℕ) → take (length xs) (xs ++ ys) ≡ xs
take_front [] ys = refl
take_front (x ∷ xs) ys = ap (λ l. x ∷ l) (take_front xs ys)

list_long : (l : TermList) → length (list_bytes l) ≡ data_of (row_of l)
list_long l = length-append (stream_bytes 0 l.locations) (summary_bytes l.locations)

pub lists_long : (lists : List TermList) → length (flat_map list_bytes lists) ≡ data_bytes (rows_of lists)
lists_long [] = refl
lists_long (l ∷ ls) = omega (arith, length-append (list_bytes l) (flat_map list_bytes ls), list_long l, lists_long ls, sum_by-cons data_of (row_of l) (rows_of ls))

pub terms_follow : (documents : List DocRow) (before : List ℕ) (lists : List TermList) → AreListsBehind documents before lists → length (flat_map list_bytes lists) < 2 ^ 64
    → AreTermsBehind before (rows_of lists)
unfolding AreTermsBehind AreListsBehind
terms_follow documents before [] h small = tt
terms_follow documents before (l ∷ ls) (m, more) small =
    let n = length-append (list_bytes l) (flat_map list_bytes ls) in (
      record {
        rises = m.rises;
        kind = m.kind;
        short = m.short;
        some = m.some;
        few = omega (arith, stream_holds 0 l.locations, n, list_long l);
      },
      terms_follow documents l.term ls more (omega (arith, n)),
    )

pub lists_are : (documents : List DocRow) (before : List ℕ) (lists : List TermList) (place : ℕ) → AreListsBehind documents before lists
    → AreListsOf documents (rows_of lists) (flat_map list_bytes lists) place lists
unfolding AreListsOf AreListsBehind
lists_are documents before [] place h = refl
lists_are documents before (l ∷ ls) place (m, more) =
    let s = stream_bytes 0 l.locations in
    let t = summary_bytes l.locations in
    let rest = flat_map list_bytes ls in
    let e : (s ++ t) ++ rest ≡ s ++ (t ++ rest) = append_assoc s t rest in
    let first : take (length s) ((s ++ t) ++ rest) ≡ s = ap (λ x. take (length s) x) e ∙ take_front s (t ++ rest) in
    let behind : drop (length s) ((s ++ t) ++ rest) ≡ t ++ rest = ap (λ x. drop (length s) x) e ∙ drop-append_seam s (t ++ rest) in
    let second : take (length t) (drop (length s) ((s ++ t) ++ rest)) ≡ t = ap (λ x. take (length t) x) behind ∙ take_front t rest in
    let last : drop (data_of (row_of l)) ((s ++ t) ++ rest) ≡ rest = ap (λ i. drop i ((s ++ t) ++ rest)) (sym (length-append s t)) ∙ drop-append_seam (s ++ t) rest in (
      refl,
      record {
        coded = record { rising = m.rising; stream_is = first; summary_is = second };
        fits = record { counted = refl; within = m.within; ends = m.ends };
      },
      subst (λ (x : List ℕ). AreListsOf documents (rows_of ls) x (place + data_of (row_of l)) ls) (sym last) (lists_are documents l.term ls (place + data_of (row_of l)) more),
    )

end_goes : (lists : List TermList) → list_any is_end (rows_of lists) ≡ list_any is_end_list lists
end_goes [] = refl
end_goes (l ∷ ls) = ap (λ x. is_end_list l || x) (end_goes ls)

-- the tables of a content at a place
abbrev pub tables_at : ℕ → Content → Tables
tables_at place content = record { place = place; documents = content.documents; terms = rows_of content.lists }

pub segment_tables : (bytes : List ℕ) (place : ℕ) (content : Content) → length bytes < 2 ^ 64 → IsSegment bytes content → AreTables bytes place (length bytes) (tables_at place content)
unfolding segment_bytes
segment_tables bytes place content small s =
    let front = tables_bytes content.documents (rows_of content.lists) in
    let rest = flat_map list_bytes content.lists in
    let size : length bytes ≡ length front + length rest = ap length s.spelled ∙ length-append front rest in
    record {
      at = refl;
      keeps = record {
        some = s.stands.some;
        documents_stand = s.stands.documents_stand;
        terms_stand = terms_follow content.documents [] content.lists s.stands.lists_stand (omega (arith, size));
        has_end = end_goes content.lists ∙ s.stands.has_end;
        filled = omega (arith, size, lists_long content.lists);
      };
      behind = rest;
      spelled = s.spelled;
    }

pub segment_lists : (bytes : List ℕ) (place : ℕ) (content : Content) → IsSegment bytes content
    → AreListsOf content.documents (rows_of content.lists) (data_in bytes (tables_at place content)) (data_place (tables_at place content)) content.lists
unfolding segment_bytes
segment_lists bytes place content s =
    let front = tables_bytes content.documents (rows_of content.lists) in
    let rest = flat_map list_bytes content.lists in
    let e : drop (length front) bytes ≡ rest = ap (λ x. drop (length front) x) s.spelled ∙ drop-append_seam front rest in
    subst (λ (x : List ℕ). AreListsOf content.documents (rows_of content.lists) x (data_place (tables_at place content)) content.lists) (sym e)
    (lists_are content.documents [] content.lists (data_place (tables_at place content)) s.stands.lists_stand)
