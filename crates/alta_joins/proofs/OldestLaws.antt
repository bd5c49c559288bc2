-- Calls that read levels and join them.
use Rattle.std.proofs.Common.{◌≡◌, ⊎_elim, true, false, not, ℕ, ◌<◌, ◌≤◌, List, [], ◌∷◌, ◌++◌, length, map, take, drop, refl, sym, subst, ap, ap₂, ◌∙◌, arith, take-append-drop}
use Rattle.std.specs.Prelude.{Ok, IsTrue}
use Rattle.std.specs.Cmp.Lexicographic.{slice_cmp}
use Rattle.std.specs.List.{All, filter, flat_map, list_any}
use Rattle.std.specs.Ordering.{match_ordering, nat_cmp}
use Rattle.std.specs.declared.cmp.Ordering.{Ordering}
use Rattle.std.specs.declared.cmp.Ordering.TheVariants.{Less, Equal, Greater}
use Rattle.std.proofs.lemmas.Bool.{cases_Bool, false≢true}
use Rattle.std.proofs.lemmas.Grind.{flat_map-append}
use Rattle.std.proofs.lemmas.List.{append-nil, map-append}
use Rattle.std.proofs.lemmas.List.Elements.{All-nil, All-cons, filter-append}
use Rattle.alta_content.specs.Lists.{IsContent, is_end_list, terms_of}
use Rattle.alta_content.specs.Parts.{MayJoin}
use Rattle.alta_content.specs.Rows.{AreDocuments, AreDocumentsBehind, Before, behind_row, ends_among, live_rows, start}
use Rattle.alta_content.specs.declared.content.Content.{Content}
use Rattle.alta_content.specs.TermList.{TermList}
use Rattle.alta_content.specs.declared.document.DocRow.{DocRow}
use Rattle.alta_meaning.specs.Opened.{table_rows}
use Rattle.alta_content.specs.Joining.{gathered, rows_in, in_order, joined_in, terms_in, with_term, parts_of}
use Rattle.alta_content.specs.Spans.{deleted_spans, lists_outside, span_of}
use Rattle.alta_content.specs.declared.spans.Span.{Span}
use Rattle.alta_joins.proofs.KeptLaws.{live_may_join, live_same}
use Rattle.alta_joins.proofs.SpaceLaws.{content_rows, contents_join}
use Rattle.alta_joins.specs.Contents.{AreContentsOf, AreSegmentsOn, IsContentOf}
use Rattle.alta_joins.specs.Damages.{FindsDamage, Tells}
use Rattle.alta_joins.specs.Jobs.{AreJoinedOn, DeadAreGone, IsBegun, IsJoining, IsMerging, begun_job}
use Rattle.alta_joins.specs.Newest.{IsNewest}
use Rattle.alta_memlevel.specs.Added.{Added, live_of}
use Rattle.alta_memlevel.specs.Documents.{IsBefore, content_of}
use Rattle.alta_memlevel.proofs.Behind.{may_join_behind}
use Rattle.alta_memlevel.proofs.Live.{live_joined}
use Rattle.alta_memlevel.proofs.One as one
use Rattle.alta_merge.specs.Merging.{Merging}
use Rattle.alta_table.specs.Tables.{Tables}
use Rattle.alta_content.proofs.Elements.{all_left}

-- ---- damage

-- where all was read, there is none
pub finds_none : {X Y : Type 0} (view : X → List Content) (image : List ℕ) (levels : List Tables) (x : X) (y : Y) → Tells view image levels (Ok x) → FindsDamage {X = Y} image levels (Ok y)
finds_none view image levels x y told = record { undamaged = λ contents are. tt; first = tt; damaged = told.damaged }

-- ---- a term is left

some_by : {X : Type 0} (o : Ordering) (xs ys zs : List X) → 0 < length xs → 0 < length ys → 0 < length zs → 0 < length (match_ordering o xs ys zs)
some_by Less xs ys zs a b c = a
some_by Equal xs ys zs a b c = b
some_by Greater xs ys zs a b c = c

some_with : (term : List ℕ) (terms : List (List ℕ)) → 0 < length (with_term term terms)
some_with term [] = omega arith
some_with term (t ∷ ts) =
    some_by (slice_cmp nat_cmp term t) (term ∷ t ∷ ts) (t ∷ ts) (t ∷ with_term term ts) (omega arith) (omega arith) (omega arith)

some_lists : (lists : List TermList) → IsTrue (list_any is_end_list lists) → 0 < length lists
some_lists [] is = absurd (false≢true is)
some_lists (l ∷ ls) is = omega arith

some_terms : (lists : List TermList) (more : List (List ℕ)) → 0 < length lists → 0 < length (in_order (terms_of lists ++ more))
some_terms [] more some = absurd (omega (arith, some))
some_terms (l ∷ ls) more some = some_with l.term (in_order (terms_of ls ++ more))

-- contents of which the first is a level's have a term
pub some_left : (older newer : Content) → IsContent older → 0 < length (terms_in (older ∷ newer ∷ []))
some_left older newer is = some_terms older.lists (flat_map terms_of (parts_of (newer ∷ []))) (some_lists older.lists is.has_end)

-- ---- the front of documents

documents_front : (before : Before) (xs ys : List DocRow) → AreDocumentsBehind before (xs ++ ys) → AreDocumentsBehind before xs
unfolding AreDocumentsBehind
documents_front before [] ys are = tt
documents_front before (x ∷ xs) ys (follows, are) = (follows, documents_front (behind_row before x) xs ys are)

pub front_all : {X : Type 0} (P : X → Type 0) (n : ℕ) (xs : List X) → All P xs → All P (take n xs)
front_all P n xs all = all_left P (take n xs) (drop n xs) (subst (All P) (sym (take-append-drop n xs)) all)

pub front_documents : (n : ℕ) (levels : List Tables) → AreDocuments (table_rows levels) → AreDocuments (table_rows (take n levels))
front_documents n levels are =
    let split : table_rows levels ≡ table_rows (take n levels) ++ table_rows (drop n levels) = ap table_rows (sym (take-append-drop n levels)) ∙ flat_map-append (λ (t : Tables). t.documents) (take n levels) (drop n levels) in
    documents_front start (table_rows (take n levels)) (table_rows (drop n levels)) (subst AreDocuments split are)

-- ---- a join that begins

-- the contents of two levels
pub record AreTwoOf (levels : List Tables) (contents : List Content) : Type 0 where
  pub older : Tables
  pub newer : Tables
  pub more : List Tables
  pub first : Content
  pub second : Content
  pub oldest : levels ≡ older ∷ newer ∷ more
  pub split : contents ≡ first ∷ second ∷ []
  pub are : IsContentOf older first × IsContentOf newer second

two_of : (levels : List Tables) (contents : List Content) → 2 ≤ length levels → AreContentsOf (take 2 levels) contents → AreTwoOf levels contents
two_of [] contents two are = absurd (omega (arith, two))
two_of (l ∷ []) contents two are = absurd (omega (arith, two))
two_of (l ∷ m ∷ ls) [] two are = absurd are
two_of (l ∷ m ∷ ls) (c ∷ []) two are = absurd are.1
two_of (l ∷ m ∷ ls) (c ∷ d ∷ []) two are = record { older = l; newer = m; more = ls; first = c; second = d; oldest = refl; split = refl; are = (are.0, are.1.0) }
two_of (l ∷ m ∷ ls) (c ∷ d ∷ e ∷ es) two are = absurd are.1.1

same_dead : (dead : List ℕ) (rows : List DocRow) → DeadAreGone dead dead rows
same_dead dead [] = All-nil (λ (row : DocRow). ends_among dead row ≡ true → ends_among dead row ≡ true)
same_dead dead (row ∷ rows) = All-cons (λ (row : DocRow). ends_among dead row ≡ true → ends_among dead row ≡ true) row rows (λ is. is) (same_dead dead rows)

-- what begins is a join of the two oldest, whose contents are those that were read
pub begins : (levels : List Tables) (gone : List ℕ) (merging : Merging) (contents : List Content) (tells : Type 0) (image : List ℕ) → 2 ≤ length levels → AreContentsOf (take 2 levels) contents → MayJoin contents
    → (tells → AreSegmentsOn image (take 2 levels) contents) → ((older newer : Content) → contents ≡ older ∷ newer ∷ [] → IsMerging merging (begun_job older newer gone))
    → (joining : IsJoining levels gone merging) × IsBegun joining × (tells → AreJoinedOn image joining)
begins levels gone merging contents tells image two are may segments merges =
    let of = two_of levels contents two are in
    let front : take 2 levels ≡ of.older ∷ of.newer ∷ [] = ap (λ (ls : List Tables). take 2 ls) of.oldest in (
      record {
        job = begun_job of.first of.second gone;
        is = merges of.first of.second of.split;
        older = of.older;
        newer = of.newer;
        more = of.more;
        oldest = of.oldest;
        contents = of.are;
        may = subst MayJoin of.split may;
        left = some_left of.first of.second of.are.0.stands;
        dead = same_dead gone (of.first.documents ++ of.second.documents);
      },
      (refl, refl),
      λ told. subst (λ (cs : List Content). AreSegmentsOn image (of.older ∷ of.newer ∷ []) cs) of.split (subst (λ (ls : List Tables). AreSegmentsOn image ls contents) front (segments told)),
    )

-- ---- a merge

module _ (levels : List Tables) (contents : List Content) (gone : List ℕ) (added : List Added) (newest : Content) (are : AreContentsOf levels contents) (documents : AreDocuments (table_rows levels))
    (is : IsNewest levels gone added newest) where
  newest_is : newest ≡ content_of (live_of gone added)
  newest_is = is.content_is

  all_join : MayJoin (contents ++ content_of added ∷ [])
  all_join =
      may_join_behind is.number is.location contents added (content_of added) is.numbered is.located (contents_join levels contents are documents)
      (subst (λ (rows : List DocRow). All (IsBefore is.number is.location) rows) (sym (content_rows levels contents are)) is.behind) is.are_added
      (one.content_has added is.are_added.space)

  pub newest_join : MayJoin (contents ++ newest ∷ [])
  newest_join = subst (λ (c : Content). MayJoin (contents ++ c ∷ [])) (sym newest_is) (live_may_join contents added gone is.are_added.space all_join)

  pub newest_same : joined_in (contents ++ newest ∷ []) gone ≡ joined_in (contents ++ content_of added ∷ []) gone
  newest_same = ap (λ (c : Content). joined_in (contents ++ c ∷ []) gone) newest_is ∙ live_same contents added gone is.are_added.space all_join

-- ---- a merge of lists

-- rows that are left stay, and none of them is dead
kept_twice : (dead : List ℕ) (rows : List DocRow) → live_rows dead (live_rows dead rows) ≡ live_rows dead rows
kept_twice dead [] = refl
kept_twice dead (r ∷ rs) =
    ⊎_elim (λ (e : ends_among dead r ≡ true). rw e (kept_twice dead rs)) (λ (n : ends_among dead r ≡ false). rw n (rw n (ap (λ (l : List DocRow). r ∷ l) (kept_twice dead rs)))) (cases_Bool (ends_among dead r))

none_dead : (dead : List ℕ) (rows : List DocRow) → filter (ends_among dead) (live_rows dead rows) ≡ []
none_dead dead [] = refl
none_dead dead (r ∷ rs) =
    ⊎_elim (λ (e : ends_among dead r ≡ true). rw e (none_dead dead rs)) (λ (n : ends_among dead r ≡ false). rw n (rw n (none_dead dead rs))) (cases_Bool (ends_among dead r))

module _ (levels : List Tables) (contents : List Content) (gone : List ℕ) (added : List Added) (newest : Content) (are : AreContentsOf levels contents) (is : IsNewest levels gone added newest) where
  newest_rows : newest.documents ≡ live_rows gone (rows_in (content_of added ∷ []))
  newest_rows = ap (λ (c : Content). c.documents) (is.content_is ∙ live_joined added gone is.are_added.space)

  newest_left : live_rows gone newest.documents ≡ newest.documents
  newest_left = ap (live_rows gone) newest_rows ∙ kept_twice gone (rows_in (content_of added ∷ [])) ∙ sym newest_rows

  newest_dead : filter (ends_among gone) newest.documents ≡ []
  newest_dead = ap (filter (ends_among gone)) newest_rows ∙ none_dead gone (rows_in (content_of added ∷ []))

  all_rows : rows_in (contents ++ newest ∷ []) ≡ table_rows levels ++ newest.documents
  all_rows =
      flat_map-append (λ (c : Content). c.documents) contents (newest ∷ []) ∙ ap (λ (rows : List DocRow). rows ++ rows_in (newest ∷ [])) (content_rows levels contents are)
      ∙ ap (λ (rows : List DocRow). table_rows levels ++ rows) (append-nil newest.documents)

  rows_left : live_rows gone (rows_in (contents ++ newest ∷ [])) ≡ live_rows gone (table_rows levels) ++ newest.documents
  rows_left =
      ap (live_rows gone) all_rows ∙ filter-append (λ (row : DocRow). not (ends_among gone row)) (table_rows levels) newest.documents
      ∙ ap (λ (rows : List DocRow). live_rows gone (table_rows levels) ++ rows) newest_left

  all_spans : deleted_spans gone (rows_in (contents ++ newest ∷ [])) ≡ deleted_spans gone (table_rows levels)
  all_spans =
      ap (map span_of)
      (ap (filter (ends_among gone)) all_rows ∙ filter-append (ends_among gone) (table_rows levels) newest.documents
      ∙ ap (λ (rows : List DocRow). filter (ends_among gone) (table_rows levels) ++ rows) newest_dead ∙ append-nil (filter (ends_among gone) (table_rows levels)))

  -- these rows and lists are the join
  pub join_made : (content : Content) → content.documents ≡ live_rows gone (table_rows levels) ++ newest.documents
      → content.lists ≡ lists_outside (deleted_spans gone (table_rows levels)) (gathered (parts_of contents ++ newest.lists ∷ [])) → content ≡ joined_in (contents ++ newest ∷ []) gone
  join_made content documents lists =
      let build : List DocRow → List TermList → Content = λ d l. record { documents = d; lists = l } in
      ap₂ build (documents ∙ sym rows_left)
      (lists ∙ ap (λ (spans : List Span). lists_outside spans (gathered (parts_of contents ++ newest.lists ∷ []))) (sym all_spans)
      ∙ ap (λ (parts : List (List TermList)). lists_outside (deleted_spans gone (rows_in (contents ++ newest ∷ []))) (gathered parts)) (sym (map-append (λ (c : Content). c.lists) contents (newest ∷ []))))

  -- the rows of the join, without the contents
  pub rows_made : live_rows gone (table_rows levels) ++ newest.documents ≡ live_rows gone (table_rows levels ++ newest.documents)
  rows_made = sym (filter-append (λ (row : DocRow). not (ends_among gone row)) (table_rows levels) newest.documents ∙ ap (λ (rows : List DocRow). live_rows gone (table_rows levels) ++ rows) newest_left)
