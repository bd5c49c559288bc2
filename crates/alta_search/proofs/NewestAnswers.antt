-- The space of documents that were added, and which of them are answers.
use Rattle.std.proofs.Common.{◌≡◌, ⊎_elim, inl, ℕ, ◌+◌, ◌-◌, ◌<◌, ◌≤◌, Bool, true, false, not, cond, ◌&&◌, List, [], ◌∷◌, map, length, get_or, refl, sym, subst, ap, ◌∙◌, arith, append-nil, lit≤}
use Rattle.std.specs.Prelude.{◌↔◌, Contains, IsTrue}
use Rattle.std.specs.List.{All, filter}
use Rattle.std.proofs.lemmas.List.Elements.{All-nil, All-cons, All-head, All-tail, All-weaker}
use Rattle.alta_codec.specs.declared.location.TheConstants.{TOP}
use Rattle.alta_codec.proofs.Places.{Contains-head, Contains-cases, not-Contains-nil}
use Rattle.alta_compile.specs.Space.{Placed, AreApart, IsSpace, document_end, list_of, past}
use Rattle.alta_compile.specs.Space as space
use Rattle.alta_compile.specs.Listing.{plan_list}
use Rattle.alta_machine.specs.PlanOf.{plan_of}
use Rattle.alta_compile.proofs.Spaces.{Has, HasAt, has_contains, list-has, has-list, at_met, met_at}
use Rattle.alta_content.specs.Rows.{end_of, ends_among}
use Rattle.alta_content.specs.declared.document.DocRow.{DocRow}
use Rattle.alta_memlevel.specs.Added.{Added, live_of, places_of}
use Rattle.alta_memlevel.specs.Added as mem
use Rattle.alta_memlevel.specs.Documents.{AreMade, IsMade, document_in}
use Rattle.alta_memlevel.proofs.Cells.{end_places}
use Rattle.alta_machine.specs.declared.document.Document.{Document}
use Rattle.alta_machine.specs.Deciding.{answers, is_match}
use Rattle.alta_machine.specs.Matches.{Matches}
use Rattle.alta_machine.specs.Patterns.{IsMet}
use Rattle.alta_machine.specs.Shape.{Shape}
use Rattle.alta_search.specs.Answers.{is_answer}
use Rattle.alta_machine.specs.Searching.{told}
use Rattle.alta_search.specs.Told.{answer_of}
use Rattle.alta_search.specs.View.{Shows, View}
use Rattle.alta_search.proofs.NewestLists.{placed_of, space_of, lists-same}

-- ---- the space

space-apart : (added : List Added) (low : ℕ) → low ≤ TOP → All (λ a. low ≤ a.row.first) added → mem.IsSpace added → AreApart low (space_of added)
space-apart [] low top h s = top
space-apart (a ∷ more) low top h (d, numbers, behind, rest) =
    let some = d.some in let counted = d.counted in let below = d.below in
    let here : low ≤ a.row.first = All-head (λ b. low ≤ b.row.first) a more h in (
      here,
      omega (arith, some, counted),
      space-apart more (past (placed_of a)) (omega (arith, some, counted, below))
          (All-weaker (λ b. end_of a.row < b.row.first) (λ b. past (placed_of a) ≤ b.row.first) (λ b k. omega (arith, k, some, counted)) more behind) rest,
    )

first-positive : (added : List Added) → mem.IsSpace added → All (λ a. 1 ≤ a.row.first) added
first-positive [] s = All-nil (λ a. 1 ≤ a.row.first)
first-positive (a ∷ more) (d, numbers, behind, rest) = All-cons (λ a. 1 ≤ a.row.first) a more d.positive (first-positive more rest)

pub added-apart : (added : List Added) → mem.IsSpace added → AreApart 1 (space_of added)
added-apart added s = space-apart added 1 (lit≤ tt) (first-positive added s) s

-- of one document, the end stands in the last cell alone
module _ (a : Added) (m : IsMade a) where
  one-end : list_of (placed_of a ∷ []) document_end ≡ (a.row.first + length a.cells - 1) ∷ []
  one-end =
      sym (lists-same (68 ∷ []) (a ∷ []))
      ∙ append-nil (places_of a.row.first (68 ∷ []) a.cells)
      ∙ subst (λ cs. places_of a.row.first (68 ∷ []) cs ≡ (a.row.first + length cs - 1) ∷ []) (sym m.made)
      (end_places a.row.first a.row.name m.title m.body)

  end-last : (place : ℕ) → IsMet a.cells document_end place → place + 1 ≡ length a.cells
  end-last place met =
      let within : place < length a.cells = met.0 in
      let c = subst (λ l. Contains l (a.row.first + place)) one-end
      (has-list document_end (placed_of a ∷ []) (placed_of a) place (a.row.first + place) (inl refl) refl (at_met document_end a.cells place met)) in
      ⊎_elim (λ e. omega (arith, e, within)) (λ n. absurd (not-Contains-nil (a.row.first + place) n)) (Contains-cases (a.row.first + length a.cells - 1) [] (a.row.first + place) c)

  last-end : (place : ℕ) → place + 1 ≡ length a.cells → IsMet a.cells document_end place
  last-end place is =
      let x = a.row.first + length a.cells - 1 in
      let (d, n, p, e, k) = list-has document_end (placed_of a ∷ []) x (subst (λ l. Contains l x) (sym one-end) (Contains-head x [])) in
      ⊎_elim
      (λ same.
      let at : x ≡ a.row.first + p = subst (λ y. x ≡ y.first + p) (sym same) e in
      let there : p ≡ place = omega (arith, at, is) in
      met_at document_end a.cells place (subst (HasAt document_end a.cells) there (subst (λ y. HasAt document_end y.cells p) (sym same) k)))
      (λ none. absurd none) n

ended-each : (added : List Added) → AreMade added → (d : Placed) → Has (space_of added) d → (place : ℕ) → IsMet d.cells document_end place ↔ (place + 1 ≡ length d.cells)
ended-each [] made d m place = absurd m
ended-each (a ∷ more) made d m place =
    ⊎_elim
    (λ same. let one = All-head IsMade a more made in
    subst (λ y. IsMet y.cells document_end place ↔ (place + 1 ≡ length y.cells)) same (end-last a one place, last-end a one place))
    (λ n. ended-each more (All-tail IsMade a more made) d n place) m

pub added-space : (added : List Added) → mem.IsSpace added → AreMade added → IsSpace (space_of added)
added-space added s made = record {
  apart = added-apart added s;
  ended = λ d c place. ended-each added made d (has_contains (space_of added) d c) place;
}

-- ---- which documents are answers

-- whether a document that was added is left and matches
abbrev is_left : List ℕ → Shape → Added → Bool
is_left gone q a = not (ends_among gone a.row) && is_match a.cells q

-- a document more, which is an answer or is none
module _ (p : DocRow → Bool) (gone : List ℕ) (q : Shape) where
  abbrev AnswersOf : List Added → Type 0
  AnswersOf added = map answer_of (filter p (map (λ a. a.row) added)) ≡ map told (answers (map document_in (live_of gone added)) q)

  module _ (a : Added) (more : List Added) (rest : AnswersOf more) where
    rows : List DocRow
    rows = filter p (map (λ b. b.row) more)

    later : List Document
    later = answers (map document_in (live_of gone more)) q

    one-more : (e m : Bool) → is_match a.cells q ≡ m
        → map answer_of (cond (not e && m) (a.row ∷ rows) rows) ≡ map told (answers (map document_in (cond (not e) (a ∷ live_of gone more) (live_of gone more))) q)
    unfolding rows later
    one-more true m is = rest
    one-more false true is = ap (λ l. answer_of a.row ∷ l) rest ∙ sym (ap (λ b. map told (cond b (document_in a ∷ later) later)) is)
    one-more false false is = rest ∙ sym (ap (λ b. map told (cond b (document_in a ∷ later) later)) is)

    answers-more : p a.row ≡ is_left gone q a → AnswersOf (a ∷ more)
    unfolding rows
    answers-more is = ap (λ b. map answer_of (cond b (a.row ∷ rows) rows)) is ∙ one-more (ends_among gone a.row) (is_match a.cells q) refl

  pub answers-all : (added : List Added) → All (λ a. p a.row ≡ is_left gone q a) added → AnswersOf added
  answers-all [] h = refl
  answers-all (a ∷ more) h =
      answers-more a more (answers-all more (All-tail (λ b. p b.row ≡ is_left gone q b) a more h)) (All-head (λ b. p b.row ≡ is_left gone q b) a more h)

-- ---- the laws that the answers over a snapshot stand on: what an answer is, and that a match is decided

abbrev pub AnswersMatch : Type 0
AnswersMatch = (ds : List Placed) (v : View) (q : Shape) (k : ℕ) (row : DocRow) (d : Placed) → Shows ds v → k < length ds
    → IsTrue (is_answer (plan_list ds (plan_of q)) v.gone 0 (get_or v.rows k row))
    ↔ (Matches (get_or ds k d).cells q × (Contains v.gone (space.end_of (get_or ds k d)) → ⊥))

abbrev pub MatchesAreDecided : Type 0
MatchesAreDecided = (cells : List (List (List ℕ))) (q : Shape) → (is_match cells q ≡ true) ↔ Matches cells q
