-- Documents whose rows rise: one more of them, and what their rows say of how many cells they have.
use Rattle.std.proofs.Common.{◌≡◌, ℕ, ◌+◌, ◌<◌, ◌≤◌, true, false, not, List, [], ◌∷◌, ◌++◌, length, map, sym, ◌∙◌, ap, subst, arith}
use Rattle.std.specs.List.{All, sum_by}
use Rattle.std.proofs.lemmas.List.{map-append}
use Rattle.std.proofs.lemmas.List.Elements.{All-append, All-nil, All-cons, All-head, All-tail, All-weaker, filter-append}
use Rattle.std.proofs.lemmas.List.Sums.{sum_by-cons}
use Rattle.alta_content.specs.Rows.{end_of, ends_among}
use Rattle.alta_memlevel.specs.Added.{Added, IsInSpace, IsSpace, live_of}
use Rattle.alta_memlevel.specs.Documents.{document_in}
use Rattle.alta_machine.specs.declared.document.Document.{Document}
use Rattle.alta_machine.specs.Changes.{word_count}
use Rattle.alta_meaning.proofs.Tests.{by_test, filter_drop, filter_keep}
use Rattle.alta_catalog.specs.Rows.{documents_left}
use Rattle.alta_meaning.specs.Known.{Named, named_of}
use Rattle.alta_meaning.specs.Ordered.{AreOrdered, IsBefore}
use Rattle.alta_meaning.proofs.KnownLaws.{all_both, all_weaker}

-- a document more, behind all
pub space_push : (xs : List Added) (a : Added) → IsSpace xs → IsInSpace a → All (λ (b : Added). b.row.number < a.row.number) xs → All (λ (b : Added). end_of b.row < a.row.first) xs → IsSpace (xs ++ a ∷ [])
space_push [] a space document numbers firsts = (document, All-nil (λ (b : Added). a.row.number < b.row.number), All-nil (λ (b : Added). end_of a.row < b.row.first), tt)
space_push (x ∷ xs) a space document numbers firsts = (
  space.0,
  All-append (λ (b : Added). x.row.number < b.row.number) xs (a ∷ []) space.1
      (All-cons (λ (b : Added). x.row.number < b.row.number) a [] (All-head (λ (b : Added). b.row.number < a.row.number) x xs numbers) (All-nil (λ (b : Added). x.row.number < b.row.number))),
  All-append (λ (b : Added). end_of x.row < b.row.first) xs (a ∷ []) space.2
      (All-cons (λ (b : Added). end_of x.row < b.row.first) a [] (All-head (λ (b : Added). end_of b.row < a.row.first) x xs firsts) (All-nil (λ (b : Added). end_of x.row < b.row.first))),
  space_push xs a space.3 document (All-tail (λ (b : Added). b.row.number < a.row.number) x xs numbers) (All-tail (λ (b : Added). end_of b.row < a.row.first) x xs firsts),
)

-- the documents of two lists
pub left_append : (gone : List ℕ) (xs ys : List Added) → documents_left gone (xs ++ ys) ≡ documents_left gone xs ++ documents_left gone ys
left_append gone xs ys =
    ap (λ (kept : List Added). map document_in kept) (filter-append (λ (a : Added). not (ends_among gone a.row)) xs ys)
    ∙ map-append document_in (live_of gone xs) (live_of gone ys)

module _ (gone : List ℕ) (a : Added) (more : List Added) where
  pub left_dead : ends_among gone a.row ≡ true → documents_left gone (a ∷ more) ≡ documents_left gone more
  left_dead dead = ap (λ (kept : List Added). map document_in kept) (filter_drop (λ (b : Added). not (ends_among gone b.row)) a more (ap not dead))

  pub left_alive : ends_among gone a.row ≡ false → documents_left gone (a ∷ more) ≡ document_in a ∷ documents_left gone more
  left_alive alive = ap (λ (kept : List Added). map document_in kept) (filter_keep (λ (b : Added). not (ends_among gone b.row)) a more (ap not alive))

-- the documents that are left have no more words than there are locations
pub words_fit : (gone : List ℕ) (low location : ℕ) (xs : List Added) → IsSpace xs → All (λ (a : Added). low ≤ a.row.first) xs → All (λ (a : Added). end_of a.row < location) xs → low ≤ location
    → low + sum_by word_count (documents_left gone xs) ≤ location
words_fit gone low location [] space firsts ends within = omega (arith, within)
words_fit gone low location (a ∷ more) space firsts ends within =
    let first : low ≤ a.row.first = All-head (λ (b : Added). low ≤ b.row.first) a more firsts in
    let end : end_of a.row < location = All-head (λ (b : Added). end_of b.row < location) a more ends in
    let some = space.0.some in
    let rest : (end_of a.row + 1) + sum_by word_count (documents_left gone more) ≤ location =
    words_fit gone (end_of a.row + 1) location more space.3
    (All-weaker (λ (b : Added). end_of a.row < b.row.first) (λ (b : Added). end_of a.row + 1 ≤ b.row.first) (λ b lies. omega (arith, lies)) more space.2)
    (All-tail (λ (b : Added). end_of b.row < location) a more ends) (omega (arith, end)) in
    by_test (ends_among gone a.row)
    (λ dead. subst (λ (ds : List Document). low + sum_by word_count ds ≤ location) (sym (left_dead gone a more dead)) (omega (arith, rest, first, some)))
    (λ alive. subst (λ (ds : List Document). low + sum_by word_count ds ≤ location) (sym (left_alive gone a more alive))
    (omega (arith, rest, first, some, space.0.counted, sum_by-cons word_count (document_in a) (documents_left gone more))))

-- nor are they more than there are numbers
pub ordered_long : (low : ℕ) (ds : List Document) (next : ℕ) → AreOrdered (map named_of ds) → All (λ (row : Named). (low ≤ row.number) × (row.number < next)) (map named_of ds) → low ≤ next → low + length ds ≤ next
ordered_long low [] next ordered within le = omega (arith, le)
ordered_long low (d ∷ ds) next ordered within le =
    let Fits : ℕ → Named → Type 0 = λ n row. (n ≤ row.number) × (row.number < next) in
    let here = All-head (Fits low) (named_of d) (map named_of ds) within in
    let rest = All-tail (Fits low) (named_of d) (map named_of ds) within in
    omega (
      arith,
      here,
      ordered_long (d.number + 1) ds next ordered.1
          (all_weaker (λ (row : Named). IsBefore (named_of d) row × Fits low row) (Fits (d.number + 1)) (map named_of ds) (λ row both. (omega (arith, both.0.0), both.1.1)) (all_both (IsBefore (named_of d)) (Fits low) (map named_of ds) ordered.0 rest))
          (omega (arith, here.1)),
    )
