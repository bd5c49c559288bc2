-- Levels that are merged window by window.
use Rattle.std.proofs.Common.{◌≡◌, ⊎_elim, ℕ, zero, suc, ◌+◌, ◌<◌, ◌≤◌, List, [], ◌∷◌, ◌++◌, length, map, take, drop, get_or, set, refl, sym, subst, ap, ◌∙◌, arith, append-nil, append_assoc}
use Rattle.std.specs.List.{All, sum_by}
use Rattle.std.proofs.Math.ListN.{get_or-eq_default, get_or-map}
use Rattle.std.proofs.lemmas.Bool.{cases_eq, cases_lt}
use Rattle.std.proofs.lemmas.List.{get_or_default, get_or-set_other, get_or-set_same, length-map, length-set}
use Rattle.std.proofs.lemmas.List.Sums.{sum_by-append, sum_by-cons}
use Rattle.alta_content.specs.Joining.{gathered}
use Rattle.alta_content.specs.Lists.{TermsRise}
use Rattle.alta_content.specs.Spans.{lists_outside}
use Rattle.alta_content.specs.TermList.{TermList}
use Rattle.alta_content.specs.declared.spans.Span.{Span}
use Rattle.alta_joins.proofs.ReadRows.{read_none, read_on, read_then, rows_behind}
use Rattle.alta_joins.specs.Contents.{data_size}
use Rattle.alta_joins.specs.Reading.{AreAllMerged, AreFilled, AreMergedTo, AreRead, AreReadTo, IsRefilled, StandBehind, left_of, rows_between, sizes_of}
use Rattle.alta_merge.proofs.Besides.{beside_more, beside_none, in_front, in_front_other, none_gathered, outside_beside, rises_beside}
use Rattle.alta_merge.specs.Besides.{AreFronts, IsMerged, beside}
use Rattle.alta_merge.specs.Fronts.{NoneLeft, behind, behind_next, if_some, next_list, next_term}
use Rattle.alta_table.specs.Tables.{Tables}
use Rattle.alta_table.specs.Terms.{data_bytes, data_of}

-- tables without rows
abbrev pub no_level : Tables
no_level = record { place = 0; documents = []; terms = [] }

-- a level by its index
abbrev pub level_at : List Tables → ℕ → Tables
level_at levels i = get_or levels i no_level

-- an element is the level at its index
pub item_level : (levels : List Tables) (i : ℕ) (x : Tables) → i < length levels → x ≡ get_or levels i x → x ≡ level_at levels i
item_level levels i x inside is = is ∙ get_or_default levels i x no_level inside

pub size_at : (levels : List Tables) (i : ℕ) → get_or (sizes_of levels) i 0 ≡ length (level_at levels i).terms
size_at levels i = get_or-map (λ (level : Tables). length level.terms) levels i no_level

-- ---- what was read of each level

module _ (tells : Type 0) (image : List ℕ) (newest : List TermList) where
  pub read_at : (levels : List Tables) (rows : List ℕ) (read : List (List TermList)) (i : ℕ) → AreReadTo tells image newest levels rows read → i < length levels
      → (get_or rows i 0 ≤ length (level_at levels i).terms) × AreRead tells image (level_at levels i) 0 (get_or rows i 0) (get_or read i [])
  read_at [] rows read i are l = absurd (omega (arith, l))
  read_at (level ∷ levels) [] read i are l = absurd are
  read_at (level ∷ levels) (row ∷ rows) [] i are l = absurd are
  read_at (level ∷ levels) (row ∷ rows) (lists ∷ read) zero are l = (are.0, are.1)
  read_at (level ∷ levels) (row ∷ rows) (lists ∷ read) (suc i) are l = read_at levels rows read i are.2 (omega (arith, l))

  pub read_set : (levels : List Tables) (rows : List ℕ) (read : List (List TermList)) (i row : ℕ) (lists : List TermList) → AreReadTo tells image newest levels rows read → i < length levels
      → row ≤ length (level_at levels i).terms → AreRead tells image (level_at levels i) 0 row lists → AreReadTo tells image newest levels (set rows i row) (set read i lists)
  read_set [] rows read i row lists are l le is = absurd (omega (arith, l))
  read_set (level ∷ levels) [] read i row lists are l le is = absurd are
  read_set (level ∷ levels) (r ∷ rows) [] i row lists are l le is = absurd are
  read_set (level ∷ levels) (r ∷ rows) (x ∷ read) zero row lists are l le is = (le, is, are.2)
  read_set (level ∷ levels) (r ∷ rows) (x ∷ read) (suc i) row lists are l le is = (are.0, are.1, read_set levels rows read i row lists are.2 (omega (arith, l)) le is)

  pub read_rows : (levels : List Tables) (rows : List ℕ) (read : List (List TermList)) → AreReadTo tells image newest levels rows read → length rows ≡ length levels
  read_rows [] [] read are = refl
  read_rows [] (row ∷ rows) read are = absurd are
  read_rows (level ∷ levels) [] read are = absurd are
  read_rows (level ∷ levels) (row ∷ rows) [] are = absurd are
  read_rows (level ∷ levels) (row ∷ rows) (lists ∷ read) are = ap suc (read_rows levels rows read are.2)

  pub read_many : (levels : List Tables) (rows : List ℕ) (read : List (List TermList)) → AreReadTo tells image newest levels rows read → length read ≡ length levels + 1
  read_many [] [] [] are = absurd are
  read_many [] [] (lists ∷ []) are = refl
  read_many [] [] (lists ∷ other ∷ more) are = absurd are
  read_many [] (row ∷ rows) read are = absurd are
  read_many (level ∷ levels) [] read are = absurd are
  read_many (level ∷ levels) (row ∷ rows) [] are = absurd are
  read_many (level ∷ levels) (row ∷ rows) (lists ∷ read) are = omega (arith, read_many levels rows read are.2)

  -- each was read to its end
  pub read_ends : (levels : List Tables) (rows : List ℕ) (read : List (List TermList)) → AreReadTo tells image newest levels rows read
      → ((k : ℕ) → k < length levels → get_or (sizes_of levels) k 0 ≤ get_or rows k 0) → AreReadTo tells image newest levels (sizes_of levels) read
  read_ends [] [] read are ends = are
  read_ends [] (row ∷ rows) read are ends = absurd are
  read_ends (level ∷ levels) [] read are ends = absurd are
  read_ends (level ∷ levels) (row ∷ rows) [] are ends = absurd are
  read_ends (level ∷ levels) (row ∷ rows) (lists ∷ read) are ends =
      let same : row ≡ length level.terms = omega (arith, are.0, ends 0 (omega arith)) in (
        omega arith,
        subst (λ (r : ℕ). AreRead tells image level 0 r lists) same are.1,
        read_ends levels rows read are.2 (λ k l. ends (suc k) (omega (arith, l))),
      )

  -- nothing was read yet
  pub read_begins : (levels : List Tables) → AreReadTo tells image newest levels (map (λ (level : Tables). 0) levels) (map (λ (level : Tables). []) levels ++ newest ∷ [])
  read_begins [] = refl
  read_begins (level ∷ levels) = (omega arith, read_none tells image level 0 (omega arith), read_begins levels)

-- where the disk tells, two images are the same
pub read_image : (tells : Type 0) (old new : List ℕ) (newest : List TermList) (levels : List Tables) (rows : List ℕ) (read : List (List TermList)) → (tells → old ≡ new)
    → AreReadTo tells old newest levels rows read → AreReadTo tells new newest levels rows read
read_image tells old new newest [] [] [] same are = are
read_image tells old new newest [] [] (lists ∷ []) same are = are
read_image tells old new newest [] [] (lists ∷ other ∷ more) same are = are
read_image tells old new newest [] (row ∷ rows) read same are = absurd are
read_image tells old new newest (level ∷ levels) [] read same are = absurd are
read_image tells old new newest (level ∷ levels) (row ∷ rows) [] same are = absurd are
read_image tells old new newest (level ∷ levels) (row ∷ rows) (lists ∷ read) same are =
    (are.0, read_on tells old new level 0 row lists same are.1, read_image tells old new newest levels rows read same are.2)

-- ---- how many bytes are left

pub left_begins : (levels : List Tables) → left_of levels (map (λ (level : Tables). 0) levels) ≡ sum_by data_size levels
left_begins [] = refl
left_begins (level ∷ levels) = omega (arith, left_begins levels, sum_by-cons data_size level levels)

pub left_set : (levels : List Tables) (rows : List ℕ) (i row : ℕ) → length rows ≡ length levels → i < length levels → get_or rows i 0 ≤ row → row ≤ length (level_at levels i).terms
    → data_bytes (rows_between (level_at levels i) (get_or rows i 0) row) + left_of levels (set rows i row) ≡ left_of levels rows
left_set [] rows i row many l le within = absurd (omega (arith, l))
left_set (level ∷ levels) [] i row many l le within = absurd (omega (arith, many))
left_set (level ∷ levels) (r ∷ rows) zero row many l le within =
    omega (arith, ap data_bytes (rows_behind level r row le within), sum_by-append data_of (rows_between level r row) (drop row level.terms))
left_set (level ∷ levels) (r ∷ rows) (suc i) row many l le within = omega (arith, left_set levels rows i row (omega (arith, many)) (omega (arith, l)) le within)

left_suc : (levels : List Tables) (rows : List ℕ) (i : ℕ) → length rows ≡ length levels → i < length levels
    → left_of (take (suc i) levels) rows ≡ left_of (take i levels) rows + data_bytes (drop (get_or rows i 0) (level_at levels i).terms)
left_suc [] rows i many l = absurd (omega (arith, l))
left_suc (level ∷ levels) [] i many l = absurd (omega (arith, many))
left_suc (level ∷ levels) (r ∷ rows) zero many l = omega arith
left_suc (level ∷ levels) (r ∷ rows) (suc i) many l = omega (arith, left_suc levels rows i (omega (arith, many)) (omega (arith, l)))

pub left_more : (levels : List Tables) (rows : List ℕ) (i : ℕ) → length rows ≡ length levels → i < length levels
    → left_of (take (i + 1) levels) rows ≡ left_of (take i levels) rows + data_bytes (drop (get_or rows i 0) (level_at levels i).terms)
left_more levels rows i many l =
    let one : i + 1 ≡ suc i = omega arith in
    ap (λ (k : ℕ). left_of (take k levels) rows) one ∙ left_suc levels rows i many l

pub left_front : (levels : List Tables) (rows : List ℕ) (n : ℕ) → left_of (take n levels) rows ≤ left_of levels rows
left_front [] rows zero = omega arith
left_front [] rows (suc n) = omega arith
left_front (level ∷ levels) rows zero = omega arith
left_front (level ∷ levels) [] (suc n) = omega arith
left_front (level ∷ levels) (r ∷ rows) (suc n) = omega (arith, left_front levels rows n)

-- ---- windows

-- where all are filled, so is what is behind all
filled_all : (levels : List Tables) (rows : List ℕ) (hand : List (List TermList)) → AreFilled (length levels) levels rows hand → (k : ℕ) → get_or hand k [] ≡ []
    → get_or (sizes_of levels) k 0 ≤ get_or rows k 0
filled_all levels rows hand filled k none = ⊎_elim
    (λ (w : k < length levels). filled k w none)
    (λ (w : length levels ≤ k). omega (arith, size_at levels k, ap (λ (level : Tables). length level.terms) (get_or-eq_default levels no_level {n = k} w)))
    (cases_lt k (length levels))

-- one more is filled
pub filled_more : (i : ℕ) (levels : List Tables) (rows later : List ℕ) (hand more : List (List TermList)) → i < length hand → AreFilled i levels rows hand → IsRefilled i rows hand later more
    → AreFilled (i + 1) levels later more
filled_more i levels rows later hand more inside filled is = λ k l none. ⊎_elim
    (λ (e : k ≡ i).
    let lists : is.lists ≡ [] = sym (get_or-set_same hand i is.lists [] inside) ∙ ap (λ (ps : List (List TermList)). get_or ps i []) (sym is.hand_is)
    ∙ subst (λ (j : ℕ). get_or more j [] ≡ []) e none in
    absurd (omega (arith, is.some, ap length lists)))
    (λ (n : k ≡ i → ⊥).
    let before : get_or hand k [] ≡ [] = sym (get_or-set_other hand i k is.lists [] n) ∙ ap (λ (ps : List (List TermList)). get_or ps k []) (sym is.hand_is) ∙ none in
    let row : get_or later k 0 ≡ get_or rows k 0 = ap (λ (r : List ℕ). get_or r k 0) is.rows_are ∙ get_or-set_other rows i k is.end 0 n in
    omega (arith, row, filled k (less k i l n) before))
    (cases_eq k i)
  where
    less : (k i : ℕ) → k < i + 1 → (k ≡ i → ⊥) → k < i
    less k i l n = ⊎_elim (λ (w : k < i). w) (λ (w : i ≤ k). let same : k ≡ i = omega (arith, l, w) in absurd (n same)) (cases_lt k i)

-- one that was filled before
pub filled_kept : (i : ℕ) (levels : List Tables) (rows : List ℕ) (hand : List (List TermList)) → AreFilled i levels rows hand
    → (get_or hand i [] ≡ [] → get_or (sizes_of levels) i 0 ≤ get_or rows i 0) → AreFilled (i + 1) levels rows hand
filled_kept i levels rows hand filled here = λ k l none. ⊎_elim
    (λ (w : k < i). filled k w none)
    (λ (w : i ≤ k). let same : i ≡ k = omega (arith, w, l) in
    subst (λ (j : ℕ). get_or (sizes_of levels) j 0 ≤ get_or rows j 0) same (here (subst (λ (j : ℕ). get_or hand j [] ≡ []) (sym same) none)))
    (cases_lt k i)

module _ (tells : Type 0) (image content : List ℕ) (newest : List TermList) (spans : List Span) (levels : List Tables) (rows : List ℕ) (hand : List (List TermList)) (made : List TermList)
    (m : AreMergedTo tells image content newest spans levels rows hand made) where
  pub rows_many : length rows ≡ length levels
  rows_many = read_rows tells image newest levels rows m.read m.are

  -- the next lists of a level come to hand
  pub window_taken : (i end : ℕ) (lists : List TermList) (later : List ℕ) → i < length levels → get_or rows i 0 < end → end ≤ length (level_at levels i).terms
      → AreRead tells image (level_at levels i) (get_or rows i 0) end lists → get_or hand i [] ≡ [] → (tells → later ≡ image)
      → AreMergedTo tells image later newest spans levels (set rows i end) (set hand i lists) made
  window_taken i end lists later inside on within is none here =
      let row = get_or rows i 0 in
      let before = read_at tells image newest levels rows m.read i m.are inside in
      let le : row ≤ end = omega (arith, on) in
      let at : (backs : ℕ → List TermList) → beside (set hand i lists) backs ≡ beside hand (in_front i lists backs) =
      λ backs. ap (λ (p : List TermList). beside (set hand i (p ++ lists)) backs) (sym none) ∙ beside_more hand i lists backs in
      let behind_them : (backs : ℕ → List TermList) → StandBehind levels (set rows i end) backs → StandBehind levels rows (in_front i lists backs) =
      λ backs stand k ends. ⊎_elim
      (λ (e : k ≡ i).
      let size : get_or (sizes_of levels) i 0 ≤ get_or rows i 0 = subst (λ (j : ℕ). get_or (sizes_of levels) j 0 ≤ get_or rows j 0) e ends in
      absurd (omega (arith, size, size_at levels i, on, within)))
      (λ n. in_front_other i k lists backs n ∙ stand k (subst (λ (r : ℕ). get_or (sizes_of levels) k 0 ≤ r) (sym (get_or-set_other rows i k end 0 n)) ends))
      (cases_eq k i) in
      record {
        here = here;
        read = set m.read i (get_or m.read i [] ++ lists);
        are = read_set tells image newest levels rows m.read i end (get_or m.read i [] ++ lists) m.are inside within
            (read_then tells image (level_at levels i) 0 row end (get_or m.read i []) lists (omega arith) le within before.1 is);
        many = length-set hand i lists ∙ m.many;
        rise = λ backs stand rise.
            subst (All TermsRise) (sym (at backs)) (m.rise (in_front i lists backs) (behind_them backs stand) (subst (All TermsRise) (beside_more m.read i lists backs) rise));
        same = λ backs stand rise.
            ap (λ (ps : List (List TermList)). lists_outside spans (gathered ps)) (beside_more m.read i lists backs)
            ∙ m.same (in_front i lists backs) (behind_them backs stand) (subst (All TermsRise) (beside_more m.read i lists backs) rise)
            ∙ ap (λ (ps : List (List TermList)). made ++ lists_outside spans (gathered ps)) (sym (at backs));
      }

  -- the disk has gone on
  pub moved_on : (later : List ℕ) → (tells → later ≡ image) → AreMergedTo tells image later newest spans levels rows hand made
  moved_on later here = record { here = here; read = m.read; are = m.are; many = m.many; rise = m.rise; same = m.same }

  -- the next term is merged
  pub term_merged : (now : List TermList) (left : List (List TermList)) → AreFilled (length levels) levels rows hand → IsMerged spans made hand now left
      → AreMergedTo tells image content newest spans levels rows left now
  term_merged now left filled is =
      let fronts : (backs : ℕ → List TermList) → StandBehind levels rows backs → AreFronts hand backs = λ backs stand k none. stand k (filled_all levels rows hand filled k none) in
      let list = if_some (next_list spans hand is.first) in
      record {
        here = m.here;
        read = m.read;
        are = m.are;
        many = ap length is.taken ∙ length-map hand (behind (next_term hand is.first)) ∙ m.many;
        rise = λ backs stand rise.
            subst (λ (ps : List (List TermList)). All TermsRise (beside ps backs)) (sym is.taken)
            (rises_beside hand backs (fronts backs stand) spans is.first is.last (m.rise backs stand rise) is.next);
        same = λ backs stand rise.
            let rest : List (List TermList) → List TermList = λ ps. lists_outside spans (gathered (beside ps backs)) in
            m.same backs stand rise
            ∙ ap (λ (l : List TermList). made ++ l) (outside_beside hand backs (fronts backs stand) spans is.first is.last (m.rise backs stand rise) is.next)
            ∙ sym (append_assoc made list (rest (behind_next hand is.first)))
            ∙ ap (λ (l : List TermList). l ++ rest (behind_next hand is.first)) (sym is.put)
            ∙ ap (λ (ps : List (List TermList)). now ++ rest ps) (sym is.taken);
      }

  -- no term is left
  pub all_merged : AreFilled (length levels) levels rows hand → NoneLeft hand (length hand) → AreAllMerged tells image newest spans levels made
  all_merged filled none =
      let nothing : ℕ → List TermList = λ i. [] in
      record {
        read = m.read;
        are = read_ends tells image newest levels rows m.read m.are (λ k l. filled k l (none k (omega (arith, l, m.many))));
        same = λ rise.
            sym (
            ap (λ (ps : List (List TermList)). lists_outside spans (gathered ps)) (sym (beside_none m.read))
            ∙ m.same nothing (λ k ends. refl) (subst (All TermsRise) (sym (beside_none m.read)) rise)
            ∙ ap (λ (ps : List (List TermList)). made ++ lists_outside spans (gathered ps)) (beside_none hand)
            ∙ ap (λ (l : List TermList). made ++ l) (none_gathered spans hand none)
            ∙ append-nil made
            );
      }

-- a merge begins
pub merge_begins : (tells : Type 0) (image : List ℕ) (newest : List TermList) (spans : List Span) (levels : List Tables) (rows : List ℕ) (hand : List (List TermList)) (made : List TermList)
    → rows ≡ map (λ (level : Tables). 0) levels → hand ≡ map (λ (level : Tables). []) levels ++ newest ∷ [] → made ≡ [] → AreMergedTo tells image image newest spans levels rows hand made
merge_begins tells image newest spans levels rows hand made rows_are hand_is none =
    let are : AreReadTo tells image newest levels rows hand =
    subst (λ (r : List ℕ). AreReadTo tells image newest levels r hand) (sym rows_are)
    (subst (λ (h : List (List TermList)). AreReadTo tells image newest levels (map (λ (level : Tables). 0) levels) h) (sym hand_is) (read_begins tells image newest levels)) in
    record {
      here = λ told. refl;
      read = hand;
      are = are;
      many = read_many tells image newest levels rows hand are;
      rise = λ backs stand rise. rise;
      same = λ backs stand rise. ap (λ (l : List TermList). l ++ lists_outside spans (gathered (beside hand backs))) (sym none);
    }
