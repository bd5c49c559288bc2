-- Contents that may be joined: their rows rise, and their terms.
use Rattle.std.proofs.Common.{◌≡◌, ◌↔◌, ℕ, zero, suc, ◌-◌, ◌<◌, List, [], ◌∷◌, ◌++◌, length, get_or, refl, sym, ap, ◌∙◌, subst, append-nil, arith, inl, inr}
use Rattle.std.specs.List.{All}
use Rattle.std.specs.List.Sorted.{IsStrictlySortedBy}
use Rattle.std.proofs.lemmas.List.Elements.{All-nil, All-cons, All-map, All-weaker}
use Rattle.alta_content.specs.declared.document.DocRow.{DocRow}
use Rattle.alta_content.specs.Joining.{parts_of}
use Rattle.alta_content.specs.Lists.{AreListsBehind, TermsRise, terms_of}
use Rattle.alta_content.specs.Parts.{IsPart, MayJoin}
use Rattle.alta_content.specs.Rows.{AreDocuments, AreDocumentsBehind, Before, IsPlaced, MayFollow, RowsRise, behind_row, end_of, start}
use Rattle.alta_content.specs.declared.content.Content.{Content}
use Rattle.alta_content.specs.TermList.{TermList}
use Rattle.alta_content.proofs.Outside.{rows_placed}
use Rattle.alta_content.proofs.Order.{After, after_weaker}

-- ---- rows
rows_above : (before : Before) (rows : List DocRow) → AreDocumentsBehind before rows → All (λ (r : DocRow). before.end < r.first) rows
unfolding AreDocumentsBehind
rows_above before [] h = All-nil (λ (r : DocRow). before.end < r.first)
rows_above before (row ∷ rows) h =
    let f = h.0 in
    All-cons (λ (r : DocRow). before.end < r.first) row rows f.starts_behind
    (All-weaker (λ (r : DocRow). end_of row < r.first) (λ (r : DocRow). before.end < r.first) (λ r l. omega (arith, l, f.starts_behind, f.some_cells)) rows (rows_above (behind_row before row) rows h.1))

rows_rise_behind : (before : Before) (rows : List DocRow) → AreDocumentsBehind before rows → RowsRise rows
unfolding AreDocumentsBehind
rows_rise_behind before [] h = tt
rows_rise_behind before (row ∷ rows) h =
    let f = h.0 in (
      record { positive = omega (arith, f.starts_behind); some = omega (arith, f.some_cells); below = f.end_below },
      rows_above (behind_row before row) rows h.1,
      rows_rise_behind (behind_row before row) rows h.1,
    )

pub rows_rise : (rows : List DocRow) → AreDocuments rows → RowsRise rows
rows_rise rows h = rows_rise_behind start rows h

-- ---- terms
lists_after : (documents : List DocRow) (before : List ℕ) (lists : List TermList) → AreListsBehind documents before lists → After before (terms_of lists)
unfolding AreListsBehind
lists_after documents before [] h = tt
lists_after documents before (l ∷ ls) h = (h.0.rises, after_weaker before l.term (terms_of ls) h.0.rises (lists_after documents l.term ls h.1))

pub lists_rise : (documents : List DocRow) (before : List ℕ) (lists : List TermList) → AreListsBehind documents before lists → TermsRise lists
unfolding AreListsBehind IsStrictlySortedBy
lists_rise documents before [] h = tt
lists_rise documents before (l ∷ ls) h = (lists_after documents l.term ls h.1, lists_rise documents l.term ls h.1)

nothing_rises : TermsRise []
unfolding IsStrictlySortedBy
nothing_rises = tt

pub part_rises : (content : Content) → IsPart content → TermsRise content.lists
part_rises content (inl c) = lists_rise content.documents [] content.lists c.lists_stand
part_rises content (inr e) = subst TermsRise (sym e.lists) nothing_rises

pub parts_rise : (contents : List Content) → All IsPart contents → All TermsRise (parts_of contents)
parts_rise contents h = All-map TermsRise (λ (c : Content). c.lists) contents (All-weaker IsPart (λ (c : Content). TermsRise c.lists) (λ c p. part_rises c p) contents h)

-- ---- two contents

nothing_stands : AreDocuments []
unfolding AreDocumentsBehind
nothing_stands = tt

pub part_documents : (content : Content) → IsPart content → AreDocuments content.documents
part_documents content (inl c) = c.documents_stand
part_documents content (inr e) = subst AreDocuments (sym e.documents) nothing_stands

pub two_may_join : (a b : Content) → IsPart a → IsPart b → AreDocuments (a.documents ++ b.documents) → MayJoin (a ∷ b ∷ [])
two_may_join a b f g h = record {
  parts = All-cons IsPart a (b ∷ []) f (All-cons IsPart b [] g (All-nil IsPart));
  documents = subst AreDocuments (ap (λ l. a.documents ++ l) (sym (append-nil b.documents))) h;
}

-- rows may stand behind others whose last row has a lower number and ends before the first of them
behind_last : (before : Before) (n : ℕ) (rows : List DocRow) (row other : DocRow) (others : List DocRow) → suc n ≡ length rows → get_or rows n row ≡ row
    → row.number < other.number → end_of row < other.first → AreDocumentsBehind before rows → AreDocumentsBehind start (other ∷ others)
    → AreDocumentsBehind before (rows ++ (other ∷ others))
unfolding AreDocumentsBehind
behind_last before n [] row other others e at number place h k = absurd (omega (arith, e))
behind_last before zero (r ∷ []) row other others e at number place h k =
    let f = k.0 in
    let next : MayFollow (behind_row before r) other = record {
      rises = subst (λ (x : DocRow). x.number < other.number) (sym at) number;
      number_below = f.number_below;
      starts_behind = subst (λ (x : DocRow). end_of x < other.first) (sym at) place;
      first_below = f.first_below;
      some_cells = f.some_cells;
      few_cells = f.few_cells;
      end_below = f.end_below;
      named = f.named;
    } in
    (h.0, (next, k.1))
behind_last before zero (r ∷ (s ∷ rs)) row other others e at number place h k = absurd (omega (arith, e))
behind_last before (suc n) (r ∷ rs) row other others e at number place h k =
    (h.0, behind_last (behind_row before r) n rs row other others (omega (arith, e)) at number place h.1 k)

pub stand_behind : (rows others : List DocRow) (row other : DocRow) → 0 < length rows → get_or rows (length rows - 1) row ≡ row → 0 < length others → get_or others 0 other ≡ other
    → row.number < other.number → end_of row < other.first → AreDocuments rows → AreDocuments others → AreDocuments (rows ++ others)
stand_behind rows [] row other some last others first number place h k = absurd (omega (arith, others))
stand_behind rows (o ∷ os) row other some last others first number place h k =
    behind_last start (length rows - 1) rows row o os (omega (arith, some)) last
    (subst (λ (x : DocRow). row.number < x.number) (sym first) number) (subst (λ (x : DocRow). end_of row < x.first) (sym first) place) h k

last_before : (before : Before) (n : ℕ) (rows : List DocRow) (row other : DocRow) (others : List DocRow) → suc n ≡ length rows → get_or rows n row ≡ row
    → AreDocumentsBehind before (rows ++ (other ∷ others)) → (row.number < other.number) × (end_of row < other.first)
unfolding AreDocumentsBehind
last_before before n [] row other others e at h = absurd (omega (arith, e))
last_before before zero (r ∷ []) row other others e at h =
    let f = h.1.0 in
    let P : DocRow → Type 0 = λ x. (x.number < other.number) × (end_of x < other.first) in
    subst P at (f.rises, f.starts_behind)
last_before before zero (r ∷ (s ∷ rs)) row other others e at h = absurd (omega (arith, e))
last_before before (suc n) (r ∷ rs) row other others e at h = last_before (behind_row before r) n rs row other others (omega (arith, e)) at h.1

two_rows_stand : (rows others : List DocRow) (row other : DocRow) → 0 < length rows → get_or rows (length rows - 1) row ≡ row → 0 < length others → get_or others 0 other ≡ other
    → AreDocuments (rows ++ others) → (row.number < other.number) × (end_of row < other.first)
two_rows_stand rows [] row other some last few first h = absurd (omega (arith, few))
two_rows_stand rows (o ∷ os) row other some last few first h =
    let P : DocRow → Type 0 = λ x. (row.number < x.number) × (end_of row < x.first) in
    subst P first (last_before start (length rows - 1) rows row o os (omega (arith, some)) last h)

no_rows : (rows : List DocRow) → length rows ≡ 0 → rows ≡ []
no_rows [] h = refl
no_rows (r ∷ rs) h = absurd (omega (arith, h))

-- two contents that have rows may be joined exactly where the last row of the first stands before the first of the second
pub two_rows : (a b : Content) (row other : DocRow) → IsPart a → IsPart b → 0 < length a.documents → get_or a.documents (length a.documents - 1) row ≡ row → 0 < length b.documents → get_or b.documents 0 other ≡ other
    → ((row.number < other.number) × (end_of row < other.first)) ↔ MayJoin (a ∷ b ∷ [])
two_rows a b row other f g some last others first = (
  λ p. two_may_join a b f g (stand_behind a.documents b.documents row other some last others first p.0 p.1 (part_documents a f) (part_documents b g)),
  λ h. two_rows_stand a.documents (b.documents ++ []) row other some last (omega (arith, others, ap length (append-nil b.documents)))
      (ap (λ (l : List DocRow). get_or l 0 other) (append-nil b.documents) ∙ first) h.documents,
)

-- where one has no row they may
pub none_before : (a b : Content) → IsPart a → IsPart b → length a.documents ≡ 0 → MayJoin (a ∷ b ∷ [])
none_before a b f g none = two_may_join a b f g (subst (λ (l : List DocRow). AreDocuments (l ++ b.documents)) (sym (no_rows a.documents none)) (part_documents b g))

pub none_behind : (a b : Content) → IsPart a → IsPart b → length b.documents ≡ 0 → MayJoin (a ∷ b ∷ [])
none_behind a b f g none =
    two_may_join a b f g
    (subst (λ (l : List DocRow). AreDocuments (a.documents ++ l)) (sym (no_rows b.documents none)) (subst AreDocuments (sym (append-nil a.documents)) (part_documents a f)))

pub last_placed : (content : Content) (row : DocRow) → IsPart content → 0 < length content.documents → get_or content.documents (length content.documents - 1) row ≡ row → IsPlaced row
last_placed content row f some last =
    subst IsPlaced last (rows_placed content.documents (rows_rise content.documents (part_documents content f)) (length content.documents - 1) row (omega (arith, some)))
