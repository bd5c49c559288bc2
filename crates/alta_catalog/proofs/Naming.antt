-- The rows of a store's names are those of the state.
use Rattle.std.proofs.Common.{◌≡◌, ⊎_elim, ℕ, zero, ◌+◌, ◌<◌, Bool, true, false, cond, Global, List, [], ◌∷◌, ◌++◌, length, take, get_or, map, Result, Ok, Err, refl, sym, ◌∙◌, ap, subst, arith, is_lt}
use Rattle.std.specs.Prelude.{Some, Contains, IfOk}
use Rattle.std.specs.Cmp.{on_total}
use Rattle.std.specs.Cmp.Lexicographic.{slice_cmp}
use Rattle.std.specs.List.{All, AllByRecursion, IsDistinct}
use Rattle.std.specs.List.Sorted.{IsPermutation, IsSorted, IsStrictlySortedBy}
use Rattle.std.specs.Ordering.{is_eq, ordering_reverse, nat_cmp}
use Rattle.std.specs.Str.{bytes_eq}
use Rattle.std.specs.declared.cmp.Ordering.{Ordering}
use Rattle.std.specs.declared.cmp.Ordering.TheVariants.{Less, Equal, Greater}
use Rattle.std.proofs.lemmas.Bool.{false≢true}
use Rattle.std.proofs.lemmas.Cmp.{nat_list_cmp_total}
use Rattle.std.proofs.lemmas.List.Elements.{All-nil, All-cons, All-head, All-tail}
use Rattle.std.proofs.lemmas.List.Sorted.{Contains-permutation, IsPermutation-sym}
use Rattle.std.proofs.lemmas.Map.Keys.{IsDistinct-IsPermutation, apart_from_distinct, sorted_from_all_adjacent}
use Rattle.std.proofs.lemmas.Map.Text.{is_eq-slice_cmp}
use Rattle.std.proofs.lemmas.List.{append-nil, get_or-map, map-append, take_more}
use Rattle.alta_content.specs.Rows.{end_of}
use Rattle.std.proofs.lemmas.Grind.{flat_map-append}
use Rattle.std.specs.declared.rc.Rc.{Rc}
use Rattle.alta_content.specs.All.{rows_of_levels, shared_rows}
use Rattle.alta_content.specs.declared.document.DocRow.{DocRow}
use Rattle.alta_content.specs.declared.level.LevelRows.{LevelRows}
use Rattle.alta_meaning.specs.Opened.{live_in}
use Rattle.alta_meaning.proofs.OrderLaws.{live_append}
use Rattle.alta_codec.specs.Order.{Precedes}
use Rattle.alta_machine.specs.declared.document.State.{State}
use Rattle.alta_catalog.specs.Names.{Ascend, AreNamesOf, by_name, name_row}
use Rattle.alta_meaning.specs.Known.{Named, known_of, named_of}
use Rattle.alta_meaning.specs.Names.{number_of as named_number}
use Rattle.alta_meaning.specs.Ordered.{AreOrdered, IsBefore, IsOrdered}
use Rattle.alta_catalog.proofs.NotingLaws.{number_named}
use Rattle.alta_machine.specs.Changes.{number_of}
use Rattle.alta_catalog.specs.declared.lists.NameRow.{NameRow}
use Rattle.alta_meaning.proofs.NameLaws.{bytes_eq-swap}
use Rattle.alta_meaning.proofs.Tests.{by_test, bytes_from, bytes_same}
use Rattle.alta_catalog.proofs.EndLaws.{here_or_there, there}

-- whether two rows have the same name
abbrev same_name : NameRow → NameRow → Bool
same_name a b = bytes_eq a.name b.name

-- ---- sorted rows of which no two have the same name ascend

ascend_after : (name : List ℕ) (rows : List NameRow) → AllByRecursion (λ (row : NameRow). slice_cmp nat_cmp name row.name ≡ Less) rows → All (Precedes name) (map (λ (row : NameRow). row.name) rows)
ascend_after name [] after = All-nil (Precedes name)
ascend_after name (row ∷ rows) after = All-cons (Precedes name) row.name (map (λ (row : NameRow). row.name) rows) after.0 (ascend_after name rows after.1)

ascend : (rows : List NameRow) → IsStrictlySortedBy by_name rows → Ascend (map (λ (row : NameRow). row.name) rows)
unfolding IsStrictlySortedBy
ascend [] sorted = tt
ascend (row ∷ rows) sorted = (ascend_after row.name rows sorted.0, ascend rows sorted.1)

is_less : (r : Ordering) → is_lt (ordering_reverse r) ≡ false → is_eq r ≡ false → r ≡ Less
is_less Less falls same = refl
is_less Equal falls same = absurd (false≢true (sym same))
is_less Greater falls same = absurd (false≢true (sym falls))

rises : (a b : NameRow) → is_lt (by_name b a) ≡ false → same_name a b ≡ false → by_name a b ≡ Less
rises a b falls differs = is_less (by_name a b) (ap is_lt (sym (nat_list_cmp_total.antisymm b.name a.name)) ∙ falls) (is_eq-slice_cmp a.name b.name ∙ differs)

strictly : (rows : List NameRow) → IsSorted by_name rows → IsDistinct same_name rows → IsStrictlySortedBy by_name rows
unfolding IsStrictlySortedBy
strictly [] sorted differ = tt
strictly (row ∷ rows) sorted differ =
    sorted_from_all_adjacent (on_total (λ (r : NameRow). r.name) nat_list_cmp_total) (row ∷ rows) row
    (λ k within. rises (get_or (row ∷ rows) k row) (get_or (row ∷ rows) (k + 1) row) (sorted k row (omega arith) within) (apart_from_distinct same_name (row ∷ rows) k (k + 1) row differ (omega arith) within))

-- ---- live documents of which no two have the same name

differ_from : (first : Named) (live : List Named) → All (IsBefore first) live → AllByRecursion (λ (row : NameRow). bytes_eq first.name row.name ≡ false) (map name_row live)
differ_from first [] before = tt
differ_from first (row ∷ rows) before = (
  by_test (bytes_eq first.name row.name) (λ same. absurd ((All-head (IsBefore first) row rows before).1 (bytes_from first.name row.name same))) (λ other. other),
  differ_from first rows (All-tail (IsBefore first) row rows before),
)

names_differ : (live : List Named) → AreOrdered live → IsDistinct same_name (map name_row live)
unfolding IsDistinct
names_differ [] ordered = tt
names_differ (row ∷ rows) ordered = (differ_from row rows ordered.0, names_differ rows ordered.1)

-- ---- a row is there exactly where its name is found with its number

some_same : (m n : ℕ) → Some m ≡ Some n → m ≡ n
some_same m n e = cc

-- a row behind a document has another name
other_name : (first : Named) (live : List Named) → All (IsBefore first) live → (name : List ℕ) (number : ℕ) → Contains (map name_row live) (record { name = name; number = number })
    → bytes_eq name first.name ≡ false
other_name first [] before name number (k, inside, is) = absurd (omega (arith, inside))
other_name first (row ∷ rows) before name number has =
    ⊎_elim
    (λ same. by_test (bytes_eq name first.name)
    (λ is. absurd ((All-head (IsBefore first) row rows before).1 (sym (bytes_from name first.name is) ∙ sym (ap (λ (r : NameRow). r.name) same)))) (λ other. other))
    (λ more. other_name first rows (All-tail (IsBefore first) row rows before) name number more)
    (here_or_there (name_row row) (map name_row rows) (record { name = name; number = number }) has)

found_from : (live : List Named) → AreOrdered live → (name : List ℕ) (number : ℕ) → Contains (map name_row live) (record { name = name; number = number }) → named_number name live ≡ Some number
found_from [] ordered name number (k, inside, is) = absurd (omega (arith, inside))
found_from (row ∷ rows) ordered name number has =
    ⊎_elim
    (λ same.
    let is : row.name ≡ name = ap (λ (r : NameRow). r.name) same in
    ap (λ (b : Bool). cond b (Some row.number) (named_number name rows)) (subst (λ (n : List ℕ). bytes_eq name n ≡ true) (sym is) (bytes_same name))
    ∙ ap (λ (r : NameRow). Some r.number) same)
    (λ more. ap (λ (b : Bool). cond b (Some row.number) (named_number name rows)) (other_name row rows ordered.0 name number more)
    ∙ found_from rows ordered.1 name number more)
    (here_or_there (name_row row) (map name_row rows) (record { name = name; number = number }) has)

row_from : (name : List ℕ) (number : ℕ) (row : Named) → row.name ≡ name → row.number ≡ number → name_row row ≡ record { name = name; number = number }
row_from name number row same is =
    ap (λ (b : List ℕ). record { name = b; number = row.number }) same ∙ ap (λ (n : ℕ). record { name = name; number = n }) is

row_there : (live : List Named) (name : List ℕ) (number : ℕ) → named_number name live ≡ Some number → Contains (map name_row live) (record { name = name; number = number })
row_there [] name number found = absurd cc
row_there (row ∷ rows) name number found =
    by_test (bytes_eq name row.name)
    (λ same.
    let is : row.number ≡ number = some_same row.number number (sym (ap (λ (b : Bool). cond b (Some row.number) (named_number name rows)) same) ∙ found) in
    (zero, omega arith, row_from name number row (sym (bytes_from name row.name same)) is))
    (λ other. there (name_row row) (map name_row rows) (record { name = name; number = number })
    (row_there rows name number (sym (ap (λ (b : Bool). cond b (Some row.number) (named_number name rows)) other) ∙ found)))

-- rows that were made of all live documents, in whatever order, and sorted
pub are_names : (s : State) → IsOrdered (known_of s) → (live : List Named) → live ≡ map named_of s.documents
    → {E : Type 0} (made : Result (List NameRow) E) → IfOk made (IsPermutation (map name_row live)) → IfOk made (IsSorted by_name) → IfOk made (AreNamesOf s)
are_names s ordered live is (Err e) same sorted = tt
are_names s ordered live is (Ok rows) same sorted =
    let rise : AreOrdered live = subst AreOrdered (sym is) ordered.ordered in
    let number : (name : List ℕ) → number_of name s ≡ named_number name live = λ name. number_named name s.documents ∙ ap (named_number name) (sym is) in
    let differ = IsDistinct-IsPermutation same_name (λ a b. bytes_eq-swap a.name b.name) (map name_row live) rows same (names_differ live rise) in
    record {
      ascending = ascend rows (strictly rows sorted differ);
      live = λ name n. (
        λ has. number name ∙ found_from live rise name n (Contains-permutation rows (map name_row live) (record { name = name; number = n }) (IsPermutation-sym (map name_row live) rows same) has),
        λ found. Contains-permutation (map name_row live) rows (record { name = name; number = n }) same (row_there live name n (sym (number name) ∙ found)),
      );
    }

-- ---- the names of rows, as they are put together

pub names_split : (gone : List ℕ) (rows more : List DocRow) → map name_row (live_in gone rows) ++ map name_row (live_in gone more) ≡ map name_row (live_in gone (rows ++ more))
names_split gone rows more = sym (ap (map name_row) (live_append gone rows more) ∙ map-append name_row (live_in gone rows) (live_in gone more))

-- the end of a row, among all ends
pub end_at : (rows items : List DocRow) (ends : List ℕ) (i : ℕ) (row : DocRow) → ends ≡ map end_of rows → items ≡ rows → i < length items → row ≡ get_or items i row → get_or ends i 0 ≡ end_of row
end_at rows items ends i row are same inside is =
    ap (λ (es : List ℕ). get_or es i 0) are ∙ get_or-map end_of rows i row 0 (subst (λ (rs : List DocRow). i < length rs) same inside)
    ∙ ap (λ (rs : List DocRow). end_of (get_or rs i row)) (sym same) ∙ ap end_of (sym is)

-- behind one row more
pub names_more : (gone : List ℕ) (rows : List DocRow) (i : ℕ) (row : DocRow) → i < length rows → row ≡ get_or rows i row
    → map name_row (live_in gone (take i rows)) ++ map name_row (live_in gone (row ∷ [])) ≡ map name_row (live_in gone (take (i + 1) rows))
names_more gone rows i row inside is =
    names_split gone (take i rows) (row ∷ [])
    ∙ ap (λ (rs : List DocRow). map name_row (live_in gone rs)) (ap (λ (r : DocRow). take i rows ++ r ∷ []) is ∙ sym (take_more rows i row inside))

-- and behind one run more
pub runs_next : (runs : List (Rc LevelRows Global)) (i : ℕ) (run : Rc LevelRows Global) → i < length runs → run ≡ get_or runs i run
    → rows_of_levels (map shared_rows (take (i + 1) runs)) ≡ rows_of_levels (map shared_rows (take i runs)) ++ shared_rows run
runs_next runs i run inside is =
    ap (λ (rs : List (Rc LevelRows Global)). rows_of_levels (map shared_rows rs)) (take_more runs i run inside ∙ ap (λ (r : Rc LevelRows Global). take i runs ++ r ∷ []) (sym is))
    ∙ ap rows_of_levels (map-append shared_rows (take i runs) (run ∷ []))
    ∙ flat_map-append (λ (rows : List DocRow). rows) (map shared_rows (take i runs)) (shared_rows run ∷ [])
    ∙ ap (λ (rows : List DocRow). rows_of_levels (map shared_rows (take i runs)) ++ rows) (append-nil (shared_rows run))
