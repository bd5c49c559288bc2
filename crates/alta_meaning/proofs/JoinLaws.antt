-- A switch that puts a join in place of levels keeps the state, where the join has their documents that are not gone.
use Rattle.std.proofs.Common.{◌≡◌, ℕ, Bool, cond, List, [], ◌∷◌, ◌++◌, length, map, refl, sym, ap, subst, ◌∙◌, Ok, append_assoc}
use Rattle.std.specs.Prelude.{not, ◌==◌, Option}
use Rattle.std.specs.List.{All, filter, flat_map}
use Rattle.std.proofs.lemmas.Grind.{flat_map-append}
use Rattle.std.proofs.lemmas.List.{map-append, append-nil}
use Rattle.std.proofs.lemmas.List.Elements.{All-append, All-filter, All-map, filter-append}
use Rattle.std.proofs.lemmas.List.Folds.{flat_map-map}
use Rattle.alta_content.specs.declared.content.Content.{Content}
use Rattle.alta_memlevel.specs.Added.{Added}
use Rattle.alta_content.specs.Rows.{ends_among}
use Rattle.alta_content.proofs.Outside.{filter_alike}
use Rattle.alta_machine.specs.declared.document.Document.{Document}
use Rattle.alta_meaning.specs.Levels.{Level, document_of, live_rows}
use Rattle.alta_meaning.specs.Views.{View, rooted, state_of}
use Rattle.alta_meaning.specs.Work.{Job, stays, anew, coming, newest, newest_content, gone, gone_among, is_gone, level_rows}
use Rattle.alta_meaning.proofs.Tests.{by_test, filter_keep, filter_drop}
use Rattle.alta_content.specs.declared.document.DocRow.{DocRow}
use Rattle.alta_meaning.specs.Holding.{Holding, IsSpaced, all_rows}
use Rattle.alta_meaning.specs.Ordered.{Precedes, RowsPrecede}
use Rattle.alta_meaning.specs.Working.{switched, content_to_come, documents_in, documents_left, IsJoin}
use Rattle.alta_content.specs.Joining.{rows_in}
use Rattle.alta_meaning.proofs.CellLaws.{doc_of, content_documents}
use Rattle.alta_meaning.proofs.KnownLaws.{all_weaker, all_both}
use Rattle.alta_meaning.proofs.KeptStates.{AreGone, IsFilled, stay, left_out, added_sorted, after_documents, contents_of, ends_kept, flushing_documents_by, flushing_rows, gone_are, live_rows_are, map_filter, newest_kept, no_rows, rise_left, rise_some, rows_append, rows_by_levels, stay_contents, switch_keeps, contents_kept}
use Rattle.alta_content.proofs.Elements.{all_left, all_right}
use Rattle.alta_memlevel.specs.Documents.{content_of}

-- ---- ends that are the gone ones

alike : (ends others : List ℕ) (cs : List Content) → All (λ (r : DocRow). ends_among ends r ≡ ends_among others r) (rows_in cs) → flat_map (documents_in ends) cs ≡ flat_map (documents_in others) cs
alike ends others [] same = refl
alike ends others (c ∷ cs) same =
    let P : DocRow → Type 0 = λ r. ends_among ends r ≡ ends_among others r in
    ap (λ (rs : List DocRow). map (document_of c.lists) rs ++ flat_map (documents_in ends) cs)
    (filter_alike (λ (r : DocRow). not (ends_among ends r)) (λ (r : DocRow). not (ends_among others r)) c.documents
    (all_weaker P (λ (r : DocRow). not (ends_among ends r) ≡ not (ends_among others r)) c.documents (λ r e. ap not e) (all_left P c.documents (rows_in cs) same)))
    ∙ ap (λ (ds : List Document). documents_in others c ++ ds) (alike ends others cs (all_right P c.documents (rows_in cs) same))

-- contents whose rows rise, and are gone where their end is one of the gone
left_is : (view : View) (cs : List Content) → RowsPrecede (rows_in cs) → All IsFilled (rows_in cs) → AreGone view (gone view) (rows_in cs) → documents_left view cs ≡ flat_map (documents_in (gone view)) cs
left_is view cs rise filled are =
    let ends = gone_among view (rows_in cs) in
    alike ends (gone view) cs
    (all_weaker (λ (r : DocRow). (ends_among ends r ≡ is_gone view r) × (ends_among (gone view) r ≡ is_gone view r)) (λ (r : DocRow). ends_among ends r ≡ ends_among (gone view) r) (rows_in cs) (λ r both. both.0 ∙ sym both.1)
    (all_both (λ (r : DocRow). ends_among ends r ≡ is_gone view r) (λ (r : DocRow). ends_among (gone view) r ≡ is_gone view r) (rows_in cs) (ends_kept (is_gone view) [] (rows_in cs) rise filled) are))

-- ---- some of the rows

all_front : {X : Type 0} (P : X → Type 0) (p : X → Bool) (xs ys : List X) → All P (xs ++ ys) → All P (filter p xs ++ ys)
all_front P p xs ys all = All-append P (filter p xs) ys (All-filter p P xs (all_left P xs ys all)) (all_right P xs ys all)

all_behind : {X : Type 0} (P : X → Type 0) (p : X → Bool) (xs ys : List X) → All P (xs ++ ys) → All P (xs ++ filter p ys)
all_behind P p xs ys all = All-append P xs (filter p ys) (all_left P xs ys all) (All-filter p P ys (all_right P xs ys all))

rise_front : (p : DocRow → Bool) (xs ys : List DocRow) → RowsPrecede (xs ++ ys) → RowsPrecede (filter p xs ++ ys)
rise_front p [] ys rise = rise
rise_front p (x ∷ xs) ys rise =
    by_test (p x)
    (λ keeps. subst (λ (rs : List DocRow). RowsPrecede (rs ++ ys)) (sym (filter_keep p x xs keeps)) (all_front (Precedes x) p xs ys rise.0, rise_front p xs ys rise.1))
    (λ drops. subst (λ (rs : List DocRow). RowsPrecede (rs ++ ys)) (sym (filter_drop p x xs drops)) (rise_front p xs ys rise.1))

-- ---- a content that comes, if it has rows

pub coming_rows : (c : Content) → rows_in (map content_to_come (coming c)) ≡ c.documents
coming_rows c =
    by_test (length c.documents == 0)
    (λ none. ap (λ b. rows_in (map content_to_come (cond b [] (anew c ∷ [])))) none ∙ sym (no_rows c none))
    (λ some. ap (λ b. rows_in (map content_to_come (cond b [] (anew c ∷ [])))) some ∙ append-nil c.documents)

coming_documents : (ends : List ℕ) (c : Content) → flat_map (documents_in ends) (map content_to_come (coming c)) ≡ documents_in ends c
coming_documents ends c =
    by_test (length c.documents == 0)
    (λ none. ap (λ b. flat_map (documents_in ends) (map content_to_come (cond b [] (anew c ∷ [])))) none ∙ sym (ap (λ (rs : List DocRow). map (document_of c.lists) (live_rows ends rs)) (no_rows c none)))
    (λ some. ap (λ b. flat_map (documents_in ends) (map content_to_come (cond b [] (anew c ∷ [])))) some ∙ append-nil (documents_in ends c))

-- ---- a join of the oldest levels

module _ (view : View) (spaced : IsSpaced view) (oldest rest : List Level) (levels : view.levels ≡ oldest ++ rest) (c : Content) (is : IsJoin view (contents_of oldest) c) where
  abbrev pub now : List Content
  now = map content_to_come (coming c ++ map stays rest ++ coming (newest_content view))

  news : List DocRow
  news = map (λ (a : Added). a.row) (newest view)

  live : DocRow → Bool
  live r = not (ends_among (gone view) r)

  split : {X : Type 0} (f : List Content → List X) → ((xs ys : List Content) → f (xs ++ ys) ≡ f xs ++ f ys) → f now ≡ f (map content_to_come (coming c)) ++ f (contents_of rest) ++ f (map content_to_come (coming (newest_content view)))
  split {X} f apart =
      ap f (map-append content_to_come (coming c ++ map stays rest) (coming (newest_content view)))
      ∙ apart (map content_to_come (coming c ++ map stays rest)) (map content_to_come (coming (newest_content view)))
      ∙ ap (λ (xs : List X). xs ++ f (map content_to_come (coming (newest_content view))))
      (ap f (map-append content_to_come (coming c) (map stays rest) ∙ ap (λ (cs : List Content). map content_to_come (coming c) ++ cs) (stay_contents rest)) ∙ apart (map content_to_come (coming c)) (contents_of rest))

  now_rows : rows_in now ≡ filter is.keeps (level_rows oldest) ++ level_rows rest ++ filter live news
  unfolding live news
  now_rows =
      split rows_in (λ xs ys. flat_map-append (λ (c : Content). c.documents) xs ys)
      ∙ ap (λ (rs : List DocRow). rs ++ rows_in (contents_of rest) ++ rows_in (map content_to_come (coming (newest_content view)))) (coming_rows c ∙ is.rows ∙ ap (filter is.keeps) (rows_by_levels oldest))
      ∙ ap (λ (rs : List DocRow). filter is.keeps (level_rows oldest) ++ rs ++ rows_in (map content_to_come (coming (newest_content view)))) (rows_by_levels rest)
      ∙ ap (λ (rs : List DocRow). filter is.keeps (level_rows oldest) ++ level_rows rest ++ rs) (coming_rows (newest_content view) ∙ live_rows_are view spaced)

  all_are : all_rows view ≡ level_rows oldest ++ (level_rows rest ++ news)
  unfolding news
  all_are =
      ap (λ (ls : List Level). level_rows ls ++ map (λ (a : Added). a.row) (newest view)) levels
      ∙ ap (λ (rs : List DocRow). rs ++ map (λ (a : Added). a.row) (newest view)) (flat_map-append (λ (l : Level). l.content.documents) oldest rest)
      ∙ append_assoc (level_rows oldest) (level_rows rest) (map (λ (a : Added). a.row) (newest view))

  now_are : filter is.keeps (level_rows oldest) ++ (level_rows rest ++ filter live news) ≡ rows_in now
  now_are = sym (append_assoc (filter is.keeps (level_rows oldest)) (level_rows rest) (filter live news)) ∙ sym now_rows

  -- what each of all rows has each of these has
  pub all_now : (P : DocRow → Type 0) → All P (all_rows view) → All P (rows_in now)
  all_now P all =
      let here : All P (level_rows oldest ++ (level_rows rest ++ news)) = subst (All P) all_are all in
      subst (All P) now_are
      (All-append P (filter is.keeps (level_rows oldest)) (level_rows rest ++ filter live news) (All-filter is.keeps P (level_rows oldest) (all_left P (level_rows oldest) (level_rows rest ++ news) here))
      (all_behind P live (level_rows rest) news (all_right P (level_rows oldest) (level_rows rest ++ news) here)))

  pub rise_now : RowsPrecede (rows_in now)
  rise_now =
      let here : RowsPrecede (level_rows oldest ++ (level_rows rest ++ news)) = subst RowsPrecede all_are spaced.rise in
      let fewer : RowsPrecede (level_rows oldest ++ (level_rows rest ++ filter live news)) =
      subst RowsPrecede (append_assoc (level_rows oldest) (level_rows rest) (filter live news)) (rise_some live (level_rows oldest ++ level_rows rest) news (subst RowsPrecede (sym (append_assoc (level_rows oldest) (level_rows rest) news)) here)) in
      subst RowsPrecede now_are (rise_front is.keeps (level_rows oldest) (level_rows rest ++ filter live news) fewer)

  flush_are : AreGone view (gone view) (rows_in (contents_of view.levels ++ newest_content view ∷ []))
  flush_are =
      subst (AreGone view (gone view)) (sym (flushing_rows view spaced))
      (all_behind (λ (r : DocRow). ends_among (gone view) r ≡ is_gone view r) (λ (r : DocRow). not (ends_among (gone view) r)) (level_rows view.levels) (map (λ (a : Added). a.row) (newest view)) (gone_are view spaced))

  now_documents : flat_map (documents_in (gone view)) now ≡ (state_of view).documents
  now_documents =
      let G = gone view in
      let f : List Content → List Document = flat_map (documents_in G) in
      split f (λ xs ys. flat_map-append (documents_in G) xs ys)
      ∙ ap (λ (ds : List Document). ds ++ f (contents_of rest) ++ f (map content_to_come (coming (newest_content view)))) (coming_documents G c ∙ is.documents)
      ∙ ap (λ (ds : List Document). f (contents_of oldest) ++ f (contents_of rest) ++ ds) (coming_documents G (newest_content view) ∙ sym (append-nil (documents_in G (newest_content view))))
      ∙ ap (λ (ds : List Document). ds ++ f (newest_content view ∷ [])) (sym (flat_map-append (documents_in G) (contents_of oldest) (contents_of rest)) ∙ ap f (sym (map-append (λ (l : Level). l.content) oldest rest) ∙ ap contents_of (sym levels)))
      ∙ sym (flat_map-append (documents_in G) (contents_of view.levels) (newest_content view ∷ []))
      ∙ flushing_documents_by view spaced G flush_are

  pub joined_left : documents_left view now ≡ (state_of view).documents
  joined_left = left_is view now rise_now (all_now IsFilled spaced.filled) (all_now (λ (r : DocRow). ends_among (gone view) r ≡ is_gone view r) (gone_are view spaced)) ∙ now_documents

-- A switch that puts a join in place of the oldest levels, and the newest documents behind all, changes no state.
pub join_keeps : (limit : ℕ) (held then : Holding) (oldest rest : List Level) (c : Content) (job : Option Job) → IsSpaced held.view → held.view.levels ≡ oldest ++ rest → IsJoin held.view (contents_of oldest) c
    → switched limit held (coming c ++ map stays rest ++ coming (newest_content held.view)) job ≡ Ok then → state_of then.view ≡ state_of held.view
join_keeps limit held then oldest rest c job spaced levels is e =
    switch_keeps limit held (coming c ++ map stays rest ++ coming (newest_content held.view)) job then e (joined_left held.view spaced oldest rest levels c is)

-- ---- a join of all

newest_all : (view : View) → IsSpaced view → documents_in (gone view) (content_of (newest view)) ≡ filter (stay view.entries) (map doc_of (newest view))
newest_all view spaced =
    let f = document_of (content_of (newest view)).lists in
    let rows = map (λ (a : Added). a.row) (newest view) in
    ap (map f)
    (filter_alike (λ (r : DocRow). not (ends_among (gone view) r)) (λ (r : DocRow). not (left_out view.entries r.number)) rows
    (All-map (λ (r : DocRow). not (ends_among (gone view) r) ≡ not (left_out view.entries r.number)) (λ (a : Added). a.row) (newest view)
    (all_weaker (λ (a : Added). ends_among (gone view) a.row ≡ left_out view.entries a.row.number) (λ (a : Added). not (ends_among (gone view) a.row) ≡ not (left_out view.entries a.row.number)) (newest view) (λ a e. ap not e) (newest_kept view spaced))))
    ∙ map_filter f (stay view.entries) rows
    ∙ ap (filter (stay view.entries)) (content_documents (newest view) spaced.space (added_sorted view.next view.location view.entries))

all_left_documents : (view : View) → IsSpaced view → flat_map (documents_in (gone view)) (contents_of view.levels ++ content_of (newest view) ∷ []) ≡ (state_of view).documents
all_left_documents view spaced =
    let G = gone view in
    flat_map-append (documents_in G) (contents_of view.levels) (content_of (newest view) ∷ [])
    ∙ ap (λ (ds : List Document). flat_map (documents_in G) (contents_of view.levels) ++ ds) (append-nil (documents_in G (content_of (newest view))) ∙ newest_all view spaced)
    ∙ ap (λ (ds : List Document). ds ++ filter (stay view.entries) (map doc_of (newest view)))
    (contents_kept view G (contents_of view.levels)
    (subst (AreGone view G) (sym (rows_by_levels view.levels)) (all_left (λ (r : DocRow). ends_among G r ≡ is_gone view r) (level_rows view.levels) (map (λ (a : Added). a.row) (newest view)) (gone_are view spaced)))
    ∙ ap (filter (stay view.entries)) (flat_map-map (documents_in view.deleted) (λ (l : Level). l.content) view.levels))
    ∙ sym (filter-append (stay view.entries) (rooted view).documents (map doc_of (newest view)))
    ∙ sym (after_documents (rooted view) view.entries view.location spaced.numbers spaced.allowed)

-- the documents of a join of all
pub merged_left : (view : View) (c : Content) → IsSpaced view → IsJoin view (contents_of view.levels ++ content_of (newest view) ∷ []) c → documents_left view (map content_to_come (coming c)) ≡ (state_of view).documents
merged_left view c spaced is =
    let rows : rows_in (map content_to_come (coming c)) ≡ filter is.keeps (all_rows view) =
    coming_rows c ∙ is.rows ∙ ap (filter is.keeps) (rows_append (contents_of view.levels) (content_of (newest view)) ∙ ap (λ (rs : List DocRow). rs ++ map (λ (a : Added). a.row) (newest view)) (rows_by_levels view.levels)) in
    left_is view (map content_to_come (coming c)) (subst RowsPrecede (sym rows) (rise_left is.keeps (all_rows view) spaced.rise)) (subst (All IsFilled) (sym rows) (All-filter is.keeps IsFilled (all_rows view) spaced.filled))
    (subst (AreGone view (gone view)) (sym rows) (All-filter is.keeps (λ (r : DocRow). ends_among (gone view) r ≡ is_gone view r) (all_rows view) (gone_are view spaced)))
    ∙ coming_documents (gone view) c ∙ is.documents ∙ all_left_documents view spaced

-- A switch that makes one content of all, or none, changes no state.
pub merge_keeps : (limit : ℕ) (held then : Holding) (c : Content) (job : Option Job) → IsSpaced held.view → IsJoin held.view (contents_of held.view.levels ++ content_of (newest held.view) ∷ []) c
    → switched limit held (coming c) job ≡ Ok then → state_of then.view ≡ state_of held.view
merge_keeps limit held then c job spaced is e = switch_keeps limit held (coming c) job then e (merged_left held.view c spaced is)
