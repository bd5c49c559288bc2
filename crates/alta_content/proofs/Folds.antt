-- A join of joins is the join of all.
use Rattle.std.proofs.Common.{◌≡◌, ⊎_elim, ℕ, ◌<◌, ◌≤◌, Bool, true, false, not, ◌&&◌, cond, List, [], ◌∷◌, ◌++◌, length, refl, sym, ap, subst, ◌∙◌, arith}
use Rattle.std.specs.Prelude.{nat_le}
use Rattle.std.specs.List.{All, filter}
use Rattle.std.specs.List.Sorted.{IsStrictlySortedBy}
use Rattle.std.specs.Str.{bytes_eq}
use Rattle.std.specs.declared.cmp.Ordering.TheVariants.{Less}
use Rattle.std.proofs.lemmas.Bool.{cases_Bool, or_cases, and_parts, leb-true, cond-true, cond-false, true≢false}
use Rattle.std.proofs.lemmas.Grind.{flat_map-append}
use Rattle.std.proofs.lemmas.List.{map-append}
use Rattle.std.proofs.lemmas.List.Elements.{All-cons, All-head, All-tail, filter-append}
use Rattle.alta_content.specs.declared.document.DocRow.{DocRow}
use Rattle.alta_content.specs.declared.content.Content.{Content}
use Rattle.alta_content.specs.TermList.{TermList}
use Rattle.alta_content.specs.Joining.{gathered, joined_in, locations_among, parts_of, rows_in}
use Rattle.alta_content.specs.Lists.{TermsRise, locations_of, terms_of}
use Rattle.alta_content.specs.Parts.{IsPart, MayJoin}
use Rattle.alta_content.specs.Rows.{RowsRise, end_of, ends_among, live_rows}
use Rattle.alta_content.specs.Spans.{deleted_spans, is_within, lists_outside, outside_of}
use Rattle.alta_content.specs.declared.spans.Span.{Span}
use Rattle.alta_content.proofs.Outside.{Tells, some_outside, spans_tell}
use Rattle.alta_content.proofs.Order.{After, after_weaker, by_order, cmp, equal_same, greater_less, itself, same_term}
use Rattle.alta_content.proofs.Contents.{rows_rise}
use Rattle.alta_content.proofs.Gathered.{nowhere, outside_locations, outside_rise}
use Rattle.alta_content.proofs.Ranges.{in_row, in_rows, parts_in}
use Rattle.alta_content.proofs.Elements.{all_left, all_right, filter_again, filter_among, filter_twice}

-- ---- lists with the same locations are the same

abbrev pub HasSome : TermList → Type 0
HasSome l = 0 < length l.locations

pub same_list : (l m : TermList) → l.term ≡ m.term → l.locations ≡ m.locations → l ≡ m
same_list l m a b =
    let f : List ℕ → TermList = λ x. record { term = x; locations = l.locations } in
    let g : List ℕ → TermList = λ x. record { term = m.term; locations = x } in
    ap f a ∙ ap g b

own_at : (l : TermList) (ls : List TermList) → locations_of (l ∷ ls) l.term ≡ l.locations
own_at l ls = cond-true (bytes_eq l.term l.term) l.locations (locations_of ls l.term) (itself l.term)

rest_same : (l m : TermList) (ls ms : List TermList) → l.term ≡ m.term → After l.term (terms_of ls) → After m.term (terms_of ms)
    → ((t : List ℕ) → locations_of (l ∷ ls) t ≡ locations_of (m ∷ ms) t) → (t : List ℕ) → locations_of ls t ≡ locations_of ms t
rest_same l m ls ms e a b h t =
    ⊎_elim
    (λ y. let same : t ≡ l.term = same_term t l.term y in
    ap (locations_of ls) same ∙ nowhere l.term ls a ∙ sym (ap (locations_of ms) (same ∙ e) ∙ nowhere m.term ms b))
    (λ n. let o : bytes_eq t m.term ≡ false = subst (λ u. bytes_eq t u ≡ false) e n in
    sym (cond-false (bytes_eq t l.term) l.locations (locations_of ls t) n) ∙ h t ∙ cond-false (bytes_eq t m.term) m.locations (locations_of ms t) o)
    (cases_Bool (bytes_eq t l.term))

pub same_lists : (a b : List TermList) → TermsRise a → TermsRise b → All HasSome a → All HasSome b → ((t : List ℕ) → locations_of a t ≡ locations_of b t) → a ≡ b
unfolding IsStrictlySortedBy
same_lists [] [] s r f g h = refl
same_lists [] (m ∷ ms) s r f g h =
    absurd (omega (arith, ap length (h m.term ∙ own_at m ms), All-head HasSome m ms g))
same_lists (l ∷ ls) [] s r f g h =
    absurd (omega (arith, ap length (sym (h l.term) ∙ own_at l ls), All-head HasSome l ls f))
same_lists (l ∷ ls) (m ∷ ms) s r f g h =
    by_order (cmp l.term m.term)
    (λ e. absurd (omega (arith, ap length (sym (own_at l ls) ∙ h l.term ∙ nowhere l.term (m ∷ ms) (e, after_weaker l.term m.term (terms_of ms) e r.0)), All-head HasSome l ls f)))
    (λ e. let same : l.term ≡ m.term = equal_same l.term m.term e in
    let locations : l.locations ≡ m.locations = sym (own_at l ls) ∙ h l.term ∙ ap (locations_of (m ∷ ms)) same ∙ own_at m ms in
    ap (λ x. x ∷ ls) (same_list l m same locations)
    ∙ ap (λ x. m ∷ x) (same_lists ls ms s.1 r.1 (All-tail HasSome l ls f) (All-tail HasSome m ms g) (rest_same l m ls ms same s.0 r.0 h)))
    (λ e. let less : cmp m.term l.term ≡ Less = greater_less l.term m.term e in
    absurd (omega (arith, ap length (sym (own_at m ms) ∙ sym (h m.term) ∙ nowhere m.term (l ∷ ls) (less, after_weaker m.term l.term (terms_of ls) less s.0)), All-head HasSome m ms g)))

-- ---- rows of which some are left out

module _ (q : DocRow → Bool) where
  all_kept : (P : DocRow → Type 0) (m a : List DocRow) → All P (m ++ a) → All P (filter q m ++ a)
  all_kept P [] a h = h
  all_kept P (r ∷ rs) a h =
      let rest = all_kept P rs a (All-tail P r (rs ++ a) h) in
      ⊎_elim
      (λ y. rw y (All-cons P r (filter q rs ++ a) (All-head P r (rs ++ a) h) rest))
      (λ n. rw n rest)
      (cases_Bool (q r))

  pub all_kept_behind : (P : DocRow → Type 0) (b m a : List DocRow) → All P (b ++ (m ++ a)) → All P (b ++ (filter q m ++ a))
  all_kept_behind P [] m a h = all_kept P m a h
  all_kept_behind P (r ∷ rs) m a h =
      All-cons P r (rs ++ (filter q m ++ a)) (All-head P r (rs ++ (m ++ a)) h) (all_kept_behind P rs m a (All-tail P r (rs ++ (m ++ a)) h))

  rise_kept : (m a : List DocRow) → RowsRise (m ++ a) → RowsRise (filter q m ++ a)
  rise_kept [] a h = h
  rise_kept (r ∷ rs) a h =
      let rest = rise_kept rs a h.2 in
      ⊎_elim
      (λ y. rw y (h.0, all_kept (λ (s : DocRow). end_of r < s.first) rs a h.1, rest))
      (λ n. rw n rest)
      (cases_Bool (q r))

  pub rise_kept_behind : (b m a : List DocRow) → RowsRise (b ++ (m ++ a)) → RowsRise (b ++ (filter q m ++ a))
  rise_kept_behind [] m a h = rise_kept m a h
  rise_kept_behind (r ∷ rs) m a h = (h.0, all_kept_behind (λ (s : DocRow). end_of r < s.first) rs m a h.1, rise_kept_behind rs m a h.2)

-- ---- tests that tell whether a row is dead

bounds : (x : ℕ) (row : DocRow) → in_row x row ≡ true → (row.first ≤ x) × (x ≤ end_of row)
bounds x row h = let p = and_parts (nat_le row.first x) (nat_le x (end_of row)) h in (leb-true row.first x p.0, leb-true x (end_of row) p.1)

pub told : (p : ℕ → Bool) (dead : List ℕ) (x : ℕ) (row : DocRow) → Tells p dead row → in_row x row ≡ true → p x ≡ ends_among dead row
told p dead x row t h = let b = bounds x row h in t x b.0 b.1

told_alike : (p q : ℕ → Bool) (dead : List ℕ) (rows : List DocRow) (x : ℕ) → All (Tells p dead) rows → All (Tells q dead) rows → in_rows rows x ≡ true → p x ≡ q x
told_alike p q dead [] x f g h = absurd (true≢false (sym h))
told_alike p q dead (r ∷ rs) x f g h =
    ⊎_elim
    (λ y. told p dead x r (All-head (Tells p dead) r rs f) y ∙ sym (told q dead x r (All-head (Tells q dead) r rs g) y))
    (λ m. told_alike p q dead rs x (All-tail (Tells p dead) r rs f) (All-tail (Tells q dead) r rs g) m)
    (or_cases (in_row x r) (in_rows rs x) h)

and_false : (b : Bool) → (b && false) ≡ false
and_false true = refl
and_false false = refl

-- what is left out in the middle first and then of all is what is left out of all
told_twice : (p q s : ℕ → Bool) (dead : List ℕ) (rows : List DocRow) (x : ℕ) → All (Tells p dead) (live_rows dead rows) → All (Tells q dead) rows → All (Tells s dead) rows
    → in_rows rows x ≡ true → (not (p x) && not (q x)) ≡ not (s x)
told_twice p q s dead [] x f g k h = absurd (true≢false (sym h))
told_twice p q s dead (r ∷ rs) x f g k h =
    let here = All-head (Tells q dead) r rs g in
    let whole = All-head (Tells s dead) r rs k in
    ⊎_elim
    (λ gone.
    let rest : All (Tells p dead) (live_rows dead rs) = subst (λ b. All (Tells p dead) (cond (not b) (r ∷ live_rows dead rs) (live_rows dead rs))) gone f in
    ⊎_elim
    (λ y. ap (λ b. not (p x) && not b) (told q dead x r here y ∙ gone) ∙ and_false (not (p x)) ∙ sym (ap not (told s dead x r whole y ∙ gone)))
    (λ m. told_twice p q s dead rs x rest (All-tail (Tells q dead) r rs g) (All-tail (Tells s dead) r rs k) m)
    (or_cases (in_row x r) (in_rows rs x) h))
    (λ stays.
    let left : All (Tells p dead) (r ∷ live_rows dead rs) = subst (λ b. All (Tells p dead) (cond (not b) (r ∷ live_rows dead rs) (live_rows dead rs))) stays f in
    ⊎_elim
    (λ y. ap (λ b. not b && not (q x)) (told p dead x r (All-head (Tells p dead) r (live_rows dead rs) left) y ∙ stays) ∙ ap not (told_alike q s dead (r ∷ rs) x g k h))
    (λ m. told_twice p q s dead rs x (All-tail (Tells p dead) r (live_rows dead rs) left) (All-tail (Tells q dead) r rs g) (All-tail (Tells s dead) r rs k) m)
    (or_cases (in_row x r) (in_rows rs x) h))
    (cases_Bool (ends_among dead r))

-- ---- the join of a join

module _ (before middle after : List Content) (dead : List ℕ) (h : MayJoin (before ++ (middle ++ after))) where
  abbrev one : Content
  one = joined_in middle dead

  abbrev Rb : List DocRow
  Rb = rows_in before

  abbrev Rm : List DocRow
  Rm = rows_in middle

  abbrev Ra : List DocRow
  Ra = rows_in after

  all_rows : rows_in (before ++ (middle ++ after)) ≡ Rb ++ (Rm ++ Ra)
  all_rows =
      flat_map-append (λ (c : Content). c.documents) before (middle ++ after)
      ∙ ap (λ l. Rb ++ l) (flat_map-append (λ (c : Content). c.documents) middle after)

  fewer_rows : rows_in (before ++ one ∷ after) ≡ Rb ++ (live_rows dead Rm ++ Ra)
  fewer_rows = flat_map-append (λ (c : Content). c.documents) before (one ∷ after)

  rise_all : RowsRise (Rb ++ (Rm ++ Ra))
  rise_all = subst RowsRise all_rows (rows_rise (rows_in (before ++ (middle ++ after))) h.documents)

  rise_fewer : RowsRise (Rb ++ (live_rows dead Rm ++ Ra))
  rise_fewer = rise_kept_behind (λ row. not (ends_among dead row)) Rb Rm Ra rise_all

  abbrev spans_all : List Span
  spans_all = deleted_spans dead (Rb ++ (Rm ++ Ra))

  abbrev spans_fewer : List Span
  spans_fewer = deleted_spans dead (Rb ++ (live_rows dead Rm ++ Ra))

  abbrev spans_middle : List Span
  spans_middle = deleted_spans dead Rm

  abbrev tells_all : All (Tells (is_within spans_all) dead) (Rb ++ (Rm ++ Ra))
  tells_all = spans_tell dead (Rb ++ (Rm ++ Ra)) rise_all

  abbrev tells_fewer : All (Tells (is_within spans_fewer) dead) (Rb ++ (live_rows dead Rm ++ Ra))
  tells_fewer = spans_tell dead (Rb ++ (live_rows dead Rm ++ Ra)) rise_fewer

  rise_behind : (a b : List DocRow) → RowsRise (a ++ b) → RowsRise b
  rise_behind [] b r = r
  rise_behind (row ∷ rows) b r = rise_behind rows b r.2

  rise_front : (a b : List DocRow) → RowsRise (a ++ b) → RowsRise a
  rise_front [] b r = tt
  rise_front (row ∷ rows) b r = (r.0, all_left (λ (s : DocRow). end_of row < s.first) rows b r.1, rise_front rows b r.2)

  abbrev tells_middle : All (Tells (is_within spans_middle) dead) Rm
  tells_middle = spans_tell dead Rm (rise_front Rm Ra (rise_behind Rb (Rm ++ Ra) rise_all))

  -- where a term stands
  abbrev at : List Content → List ℕ → List ℕ
  at contents t = locations_among (parts_of contents) t

  at_append : (xs ys : List Content) (t : List ℕ) → at (xs ++ ys) t ≡ at xs t ++ at ys t
  at_append xs ys t =
      ap (λ p. locations_among p t) (map-append (λ (c : Content). c.lists) xs ys)
      ∙ flat_map-append (λ lists. locations_of lists t) (parts_of xs) (parts_of ys)

  abbrev P : All IsPart (before ++ (middle ++ after))
  P = h.parts

  left_alike : (t : List ℕ) → outside_of spans_fewer (at before t) ≡ outside_of spans_all (at before t)
  left_alike t =
      filter_among (λ x. not (is_within spans_fewer x)) (λ x. not (is_within spans_all x)) (at before t)
      (λ x m. ap not (told_alike (is_within spans_fewer) (is_within spans_all) dead Rb x
      (all_left (Tells (is_within spans_fewer) dead) Rb (live_rows dead Rm ++ Ra) tells_fewer)
      (all_left (Tells (is_within spans_all) dead) Rb (Rm ++ Ra) tells_all)
      (parts_in before t x (all_left IsPart before (middle ++ after) P) m)))

  right_alike : (t : List ℕ) → outside_of spans_fewer (at after t) ≡ outside_of spans_all (at after t)
  right_alike t =
      filter_among (λ x. not (is_within spans_fewer x)) (λ x. not (is_within spans_all x)) (at after t)
      (λ x m. ap not (told_alike (is_within spans_fewer) (is_within spans_all) dead Ra x
      (all_right (Tells (is_within spans_fewer) dead) (live_rows dead Rm) Ra (all_right (Tells (is_within spans_fewer) dead) Rb (live_rows dead Rm ++ Ra) tells_fewer))
      (all_right (Tells (is_within spans_all) dead) Rm Ra (all_right (Tells (is_within spans_all) dead) Rb (Rm ++ Ra) tells_all))
      (parts_in after t x (all_right IsPart middle after (all_right IsPart before (middle ++ after) P)) m)))

  middle_alike : (t : List ℕ) → outside_of spans_fewer (outside_of spans_middle (at middle t)) ≡ outside_of spans_all (at middle t)
  middle_alike t =
      filter_twice (λ x. not (is_within spans_fewer x)) (λ x. not (is_within spans_middle x)) (λ x. not (is_within spans_all x)) (at middle t)
      (λ x m. told_twice (is_within spans_fewer) (is_within spans_middle) (is_within spans_all) dead Rm x
      (all_left (Tells (is_within spans_fewer) dead) (live_rows dead Rm) Ra (all_right (Tells (is_within spans_fewer) dead) Rb (live_rows dead Rm ++ Ra) tells_fewer))
      tells_middle
      (all_left (Tells (is_within spans_all) dead) Rm Ra (all_right (Tells (is_within spans_all) dead) Rb (Rm ++ Ra) tells_all))
      (parts_in middle t x (all_left IsPart middle after (all_right IsPart before (middle ++ after) P)) m))

  outside_append : (spans : List Span) (xs ys : List ℕ) → outside_of spans (xs ++ ys) ≡ outside_of spans xs ++ outside_of spans ys
  outside_append spans xs ys = filter-append (λ x. not (is_within spans x)) xs ys

  locations_alike : (t : List ℕ) → outside_of spans_fewer (at (before ++ one ∷ after) t) ≡ outside_of spans_all (at (before ++ (middle ++ after)) t)
  locations_alike t =
      ap (outside_of spans_fewer) (at_append before (one ∷ after) t)
      ∙ outside_append spans_fewer (at before t) (locations_of one.lists t ++ at after t)
      ∙ ap (λ l. outside_of spans_fewer (at before t) ++ l) (outside_append spans_fewer (locations_of one.lists t) (at after t))
      ∙ ap (λ l. l ++ (outside_of spans_fewer (locations_of one.lists t) ++ outside_of spans_fewer (at after t))) (left_alike t)
      ∙ ap (λ l. outside_of spans_all (at before t) ++ (l ++ outside_of spans_fewer (at after t)))
      (ap (outside_of spans_fewer) (outside_locations spans_middle (parts_of middle) t) ∙ middle_alike t)
      ∙ ap (λ l. outside_of spans_all (at before t) ++ (outside_of spans_all (at middle t) ++ l)) (right_alike t)
      ∙ sym (ap (outside_of spans_all) (at_append before (middle ++ after) t ∙ ap (λ l. at before t ++ l) (at_append middle after t))
      ∙ outside_append spans_all (at before t) (at middle t ++ at after t)
      ∙ ap (λ l. outside_of spans_all (at before t) ++ l) (outside_append spans_all (at middle t) (at after t)))

  rows_alike : live_rows dead (Rb ++ (live_rows dead Rm ++ Ra)) ≡ live_rows dead (Rb ++ (Rm ++ Ra))
  rows_alike =
      let q : DocRow → Bool = λ row. not (ends_among dead row) in
      filter-append q Rb (filter q Rm ++ Ra)
      ∙ ap (λ l. filter q Rb ++ l) (filter-append q (filter q Rm) Ra ∙ ap (λ l. l ++ filter q Ra) (filter_again q Rm) ∙ sym (filter-append q Rm Ra))
      ∙ sym (filter-append q Rb (Rm ++ Ra))

  lists_alike : lists_outside spans_fewer (gathered (parts_of (before ++ one ∷ after))) ≡ lists_outside spans_all (gathered (parts_of (before ++ (middle ++ after))))
  lists_alike =
      let p = parts_of (before ++ one ∷ after) in
      let q = parts_of (before ++ (middle ++ after)) in
      same_lists (lists_outside spans_fewer (gathered p)) (lists_outside spans_all (gathered q)) (outside_rise spans_fewer p) (outside_rise spans_all q)
      (some_outside spans_fewer (gathered p)) (some_outside spans_all (gathered q))
      (λ t. outside_locations spans_fewer p t ∙ locations_alike t ∙ sym (outside_locations spans_all q t))

  pub join_of_join : joined_in (before ++ joined_in middle dead ∷ after) dead ≡ joined_in (before ++ (middle ++ after)) dead
  join_of_join =
      let x = before ++ one ∷ after in
      let y = before ++ (middle ++ after) in
      let build : List DocRow → List TermList → Content = λ d l. record { documents = d; lists = l } in
      ap (λ r. build (live_rows dead r) (lists_outside (deleted_spans dead r) (gathered (parts_of x)))) fewer_rows
      ∙ ap (λ d. build d (lists_outside spans_fewer (gathered (parts_of x)))) rows_alike
      ∙ ap (build (live_rows dead (Rb ++ (Rm ++ Ra)))) lists_alike
      ∙ sym (ap (λ r. build (live_rows dead r) (lists_outside (deleted_spans dead r) (gathered (parts_of y)))) all_rows)
