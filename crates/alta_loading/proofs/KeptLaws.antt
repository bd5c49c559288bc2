-- What is known of lists that were tested.
use Rattle.std.proofs.Common.{◌≡◌, ◌⊎◌, ⊎_elim, inl, inr, ℕ, zero, suc, ◌+◌, ◌<◌, ◌≤◌, ◌++◌, List, [], ◌∷◌, insert, take, drop, length, get_or, refl, sym, subst, ap, ap₂, ◌∙◌, arith}
use Rattle.std.specs.Prelude.{All, Contains, Ok, Option, None, Some, slice_get}
use Rattle.std.specs.List.{sum_by}
use Rattle.std.proofs.lemmas.List.Elements.{All-nil, All-cons, All-append, All-take, All-drop, All-weaker, All-contains, All-contains_itself, All-get_or, All-head}
use Rattle.std.proofs.lemmas.Option.{get_or_from_slice_get, slice_get_read, slice_get_within}
use Rattle.std.proofs.lemmas.List.Sums.{sum_by-cons}
use Rattle.alta_content.specs.Lists.{end_term}
use Rattle.alta_disk.specs.Parts.{part}
use Rattle.alta_loading.proofs.Contents.{spelled_is, window}
use Rattle.alta_loading.specs.Kept.{AreKept, AreTestedIn, HasKept, IsListOfRow, IsNoneKept, IsTestedIn, IsTestedList, KeepsAlso, KeepsTested}
use Rattle.alta_loading.specs.Lists.{KeepsRow, stored_as, stored_in, stream_size, summary_size}
use Rattle.alta_loading.specs.Loads.{IsWhole, Load, Tells, load_at, row_from, stored_by}
use Rattle.alta_level.specs.Stored.{IsListFault, IsListOf, Stored}
use Rattle.alta_meaning.specs.Opened.{bytes_at, extent_of}
use Rattle.alta_postings.specs.Deltas.{decoded_list}
use Rattle.alta_loading.specs.Tested.{AreEndsWhole}
use Rattle.alta_loading.specs.declared.kept.Ends.{Ends}
use Rattle.alta_loading.specs.declared.kept.Ends.TheVariants.{Tested, Untested}
use Rattle.alta_loading.specs.declared.kept.KeptList.{KeptList}
use Rattle.alta_loading.specs.declared.kept.KeptLists.{KeptLists}
use Rattle.alta_table.specs.Places.{stream_place}
use Rattle.alta_table.specs.Tables.{Tables, tables_bytes, total_of}
use Rattle.alta_table.specs.Terms.{data_bytes, data_of, streams_of, summaries_of}
use Rattle.alta_table.specs.declared.term.TermRow.{TermRow}

-- ---- an image where levels have the same bytes

-- the stream and the summary of a row lie among those of all
row_within : (rows : List TermRow) (row : ℕ) → sum_by data_of (take row rows) + get_or (streams_of rows) row 0 + get_or (summaries_of rows) row 0 ≤ data_bytes rows
row_within [] zero = omega arith
row_within [] (suc row) = omega arith
row_within (r ∷ rows) zero = omega (arith, sum_by-cons data_of r rows)
row_within (r ∷ rows) (suc row) = omega (arith, row_within rows row, sum_by-cons data_of r rows, sum_by-cons data_of r (take row rows))

part_same : (place n k at a : ℕ) (old new : List ℕ) → at ≡ place + k → k + a ≤ n → part place n new ≡ part place n old → part at a new ≡ part at a old
part_same place n k at a old new here within same =
    subst (λ (p : ℕ). part p a new ≡ part p a old) (sym here)
    (sym (window place n k a new within) ∙ ap (λ (bytes : List ℕ). take a (drop k bytes)) same ∙ window place n k a old within)

-- the level has the same bytes on both
abbrev IsSameLevel : List ℕ → List ℕ → Tables → Type 0
IsSameLevel old new level = bytes_at (extent_of level) new ≡ bytes_at (extent_of level) old

-- so the list of each row stands on both
stored_same : (old new : List ℕ) (level : Tables) (row : ℕ) → IsSameLevel old new level → stored_in level row new ≡ stored_in level row old
stored_same old new level row same =
    let total = total_of level.documents level.terms in
    let before = length (tables_bytes level.documents level.terms) + sum_by data_of (take row level.terms) in
    let within = row_within level.terms row in
    ap₂ (stored_as level row) (part_same level.place total before (stream_place level row) (stream_size level row) old new (omega arith) (omega (arith, within)) same)
    (part_same level.place total (before + stream_size level row) (stream_place level row + stream_size level row) (summary_size level row) old new (omega arith) (omega (arith, within)) same)

whole_stays : (old new : List ℕ) (load : Load) → IsSameLevel old new load.level → IsWhole old load → IsWhole new load
whole_stays old new load same whole =
    subst (λ (s : Stored). IsListOf load.level.documents s (decoded_list s.stream)) (sym (stored_same old new load.level load.row same)) whole

told_stays : (old new : List ℕ) (load : Load) → IsSameLevel old new load.level → Tells {X = Unit {0}} old (load ∷ []) (Ok tt) → Tells {X = Unit {0}} new (load ∷ []) (Ok tt)
told_stays old new load same told = record {
  whole = All-cons (IsWhole new) load [] (whole_stays old new load same (All-head (IsWhole old) load [] told.whole)) (All-nil (IsWhole new));
  first = tt;
  only = λ w. tt;
  damaged = λ p f. ⊎_elim
      (λ g. told.damaged p (inl (subst (λ (s : Stored). IsListFault load.level.documents s p) (stored_same old new load.level load.row same) g)))
      (λ g. absurd g.1) f;
}

row_stays : (old new : List ℕ) (level : Tables) (row : Option ℕ) → IsSameLevel old new level → All (IsWhole old) (load_at 0 level row) → All (IsWhole new) (load_at 0 level row)
row_stays old new level None same h = All-nil (IsWhole new)
row_stays old new level (Some row) same h =
    let load : Load = record { number = 0; level = level; row = row } in
    All-cons (IsWhole new) load [] (whole_stays old new load same (All-head (IsWhole old) load [] h)) (All-nil (IsWhole new))

ends_stay : (old new : List ℕ) (levels : List Tables) (ends : Ends) → All (IsSameLevel old new) levels → AreEndsWhole ends old levels → AreEndsWhole ends new levels
ends_stay old new levels Untested same h = tt
ends_stay old new levels Tested same h = λ k d within.
    let level = get_or levels k d in row_stays old new level (row_from 0 level.terms end_term) (same k d within) (h k d within)

tested_stays : (tells : Type 0) (old new : List ℕ) (number : ℕ) (level : Tables) (kept : KeptLists) → (tells → IsSameLevel old new level) → AreTestedIn tells old number level kept → AreTestedIn tells new number level kept
tested_stays tells old new number level kept same h =
    All-weaker (λ (list : KeptList). list.number ≡ number → IsTestedIn tells old level list) (λ (list : KeptList). list.number ≡ number → IsTestedIn tells new level list)
    (λ list k is.
    let load : Load = record { number = list.number; level = level; row = list.row } in
    let was = k is in
    record {
      keeps = was.keeps;
      are = λ t. was.are t ∙ ap (λ (s : Stored). decoded_list s.stream) (sym (stored_same old new level list.row (same t)));
      told = λ t. told_stays old new load (same t) (was.told t);
    }) kept.lists.items h

-- what is known of the lists of levels holds where their bytes are the same
pub kept_stays : (tells : Type 0) (old new : List ℕ) (levels : List Tables) (kept : KeptLists) → (tells → All (λ (level : Tables). bytes_at (extent_of level) new ≡ bytes_at (extent_of level) old) levels)
    → AreKept tells old levels kept → AreKept tells new levels kept
kept_stays tells old new levels kept same h = record {
  ends = λ t. ends_stay old new levels kept.ends (same t) (h.ends t);
  lists = λ number level at.
      tested_stays tells old new number level kept
      (λ t. subst (IsSameLevel old new) (get_or_from_slice_get levels number level level at) (All-get_or (IsSameLevel old new) levels number level (slice_get_within levels number level at) (same t)))
      (h.lists number level at);
}

-- and on the same image
pub kept_moved : (tells : Type 0) (a b : List ℕ) (same : tells → a ≡ b) → (levels : List Tables) (kept : KeptLists) → AreKept tells a levels kept → AreKept tells b levels kept
kept_moved tells a b same levels kept h = kept_stays tells a b levels kept (λ t k d within. ap (bytes_at (extent_of (get_or levels k d))) (sym (same t))) h

-- ---- what is kept

-- nothing is known
pub none_kept : (tells : Type 0) (image : List ℕ) (levels : List Tables) (kept : KeptLists) → IsNoneKept kept → AreKept tells image levels kept
none_kept tells image levels kept none = record {
  ends = λ t. subst (λ (e : Ends). AreEndsWhole e image levels) (sym none.ends) tt;
  lists = λ number level at.
      subst (All (λ (list : KeptList). list.number ≡ number → IsTestedIn tells image level list)) (sym none.lists) (All-nil (λ (list : KeptList). list.number ≡ number → IsTestedIn tells image level list));
}

-- what is kept stays
pub keeps_same : (tells : Type 0) (image : List ℕ) (number : ℕ) (level : Tables) (kept : KeptLists) → KeepsTested tells image number level kept kept
keeps_same tells image number level kept = record {
  ends = refl;
  lists =
      All-weaker (Contains kept.lists.items) (λ (list : KeptList). Contains kept.lists.items list ⊎ ((list.number ≡ number) × IsTestedIn tells image level list))
      (λ list has. inl has) kept.lists.items (All-contains_itself kept.lists.items);
}

pub also_same : (number row : ℕ) (posting : List ℕ) (kept : KeptLists) → KeepsAlso number row posting kept kept
also_same number row posting kept = record {
  ends = refl;
  lists =
      All-weaker (Contains kept.lists.items) (λ (list : KeptList). Contains kept.lists.items list ⊎ IsListOfRow number row posting list)
      (λ list has. inl has) kept.lists.items (All-contains_itself kept.lists.items);
}

-- one is put among these, which were kept
pub also_put : (number row : ℕ) (posting : List ℕ) (old : KeptLists) (items : List KeptList) (place : ℕ) (list : KeptList) → All (Contains old.lists.items) items → IsListOfRow number row posting list
    → All (λ (l : KeptList). Contains old.lists.items l ⊎ IsListOfRow number row posting l) (insert items place list)
also_put number row posting old items place list all is =
    let P : KeptList → Type 0 = λ l. Contains old.lists.items l ⊎ IsListOfRow number row posting l in
    let before : All P items = All-weaker (Contains old.lists.items) P (λ l has. inl has) items all in
    All-append P (take place items) (list ∷ drop place items) (All-take P place items before) (All-cons P list (drop place items) (inr is) (All-drop P place items before))

-- of these levels, the one at this number
at_is : (levels : List Tables) (i n : ℕ) (x level : Tables) → slice_get levels i ≡ Some x → slice_get levels n ≡ Some level → i ≡ n → x ≡ level
at_is levels i n x level here there same = cc (ap (slice_get levels) same)

-- what a call keeps of one level is known of all
pub kept_more : (tells : Type 0) (image : List ℕ) (levels : List Tables) (i : ℕ) (x : Tables) (old new : KeptLists) → slice_get levels i ≡ Some x → AreKept tells image levels old
    → KeepsTested tells image i x old new → AreKept tells image levels new
kept_more tells image levels i x old new here h k = record {
  ends = λ t. subst (λ (e : Ends). AreEndsWhole e image levels) (sym k.ends) (h.ends t);
  lists = λ number level at.
      All-weaker (λ (list : KeptList). Contains old.lists.items list ⊎ ((list.number ≡ i) × IsTestedIn tells image x list)) (λ (list : KeptList). list.number ≡ number → IsTestedIn tells image level list)
      (λ list one is. ⊎_elim
      (λ has. All-contains (λ (l : KeptList). l.number ≡ number → IsTestedIn tells image level l) old.lists.items list (h.lists number level at) has is)
      (λ tested. subst (λ (t : Tables). IsTestedIn tells image t list) (at_is levels i number x level here at (sym tested.0 ∙ is)) tested.1) one) new.lists.items k.lists;
}

-- a list of a row that was tested is kept
pub keeps_row : (tells : Type 0) (image : List ℕ) (number row : ℕ) (level : Tables) (posting : List ℕ) (old new : KeptLists)
    → IsTestedList tells image (record { number = number; level = level; row = row }) posting → KeepsAlso number row posting old new → KeepsTested tells image number level old new
keeps_row tells image number row level posting old new tested also = record {
  ends = also.ends;
  lists =
      All-weaker (λ (list : KeptList). Contains old.lists.items list ⊎ IsListOfRow number row posting list) (λ (list : KeptList). Contains old.lists.items list ⊎ ((list.number ≡ number) × IsTestedIn tells image level list))
      (λ list one. ⊎_elim (λ has. inl has)
      (λ is. inr (
        is.number_is,
        subst (λ (n : ℕ). IsTestedList tells image (record { number = n; level = level; row = list.row }) list.posting.value) (sym is.number_is)
            (subst (λ (r : ℕ). IsTestedList tells image (record { number = number; level = level; row = r }) list.posting.value) (sym is.row_is)
            (subst (IsTestedList tells image (record { number = number; level = level; row = row })) (sym is.posting_is) tested)),
      )) one) new.lists.items also.lists;
}

-- a list that was loaded is whole
pub row_loaded : (tells : Type 0) (image : List ℕ) (load : Load) (posting : List ℕ) → KeepsRow load.level load.row posting → (tells → IsListOf load.level.documents (stored_by image load) posting)
    → (tells → (p : ℕ) → IsListFault load.level.documents (stored_by image load) p → ⊥) → IsTestedList tells image load posting
row_loaded tells image load posting keeps list never = record {
  keeps = keeps;
  are = λ t. sym (spelled_is load.level.documents (stored_by image load) posting (list t));
  told = λ t. record {
    whole = All-cons (IsWhole image) load [] (subst (IsListOf load.level.documents (stored_by image load)) (sym (spelled_is load.level.documents (stored_by image load) posting (list t))) (list t)) (All-nil (IsWhole image));
    first = tt;
    only = λ w. tt;
    damaged = λ p f. ⊎_elim (never t p) (λ g. absurd g.1) f;
  };
}

-- a list that is kept was tested
pub has_tested : (tells : Type 0) (image : List ℕ) (number row : ℕ) (level : Tables) (posting : List ℕ) (kept : KeptLists) → AreTestedIn tells image number level kept → HasKept kept number row posting
    → IsTestedList tells image (record { number = number; level = level; row = row }) posting
has_tested tells image number row level posting kept all has =
    let list = has.list in let is = has.is in
    let P : KeptList → Type 0 = λ l. l.number ≡ number → IsTestedIn tells image level l in
    let here : P list = subst P (get_or_from_slice_get kept.lists.items has.place list list has.at) (All-get_or P kept.lists.items has.place list (slice_get_within kept.lists.items has.place list has.at) all) in
    subst (IsTestedList tells image (record { number = number; level = level; row = row })) is.posting_is
    (subst (λ (r : ℕ). IsTestedList tells image (record { number = number; level = level; row = r }) list.posting.value) is.row_is
    (subst (λ (n : ℕ). IsTestedList tells image (record { number = n; level = level; row = list.row }) list.posting.value) is.number_is (here is.number_is)))

-- behind a read of the disk
pub kept_next : (tells : Type 0) (image now : List ℕ) (levels : List Tables) (i : ℕ) (x : Tables) (old new : KeptLists) → (tells → now ≡ image) → i < length levels → x ≡ get_or levels i x → AreKept tells image levels old
    → KeepsTested tells image i x old new → AreKept tells now levels new
kept_next tells image now levels i x old new same within is known keeps =
    kept_moved tells image now (λ t. sym (same t)) levels new (kept_more tells image levels i x old new (slice_get_read levels (length levels) i x refl within is) known keeps)
