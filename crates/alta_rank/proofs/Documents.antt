-- The score of a document's range is that of its cells.
use Rattle.std.proofs.Common.{◌≡◌, ◌≢◌, ◌⊎◌, ⊎_elim, inl, inr, ℕ, suc, ◌+◌, ◌-◌, ◌<◌, ◌≤◌, ltb, leb, Bool, true, false, cond, List, [], ◌∷◌, length, get_or, refl, sym, subst, ap, ◌∙◌, arith}
use Rattle.std.specs.Prelude.{Contains, ◌↔◌, ◌||◌, ◌&&◌}
use Rattle.std.specs.List.{list_any}
use Rattle.std.proofs.lemmas.Bool.{cases_lt}
use Rattle.std.proofs.lemmas.List.Sums.{sum_by-cons}
use Rattle.alta_codec.proofs.Places.{Contains-head, Contains-tail, Contains-cases, not-Contains-nil}
use Rattle.alta_compound.specs.Unions.{RisesAbove, above_from_rising}
use Rattle.alta_machine.specs.Patterns.{meets, title_end}
use Rattle.alta_machine.specs.declared.test.Test.{Test}
use Rattle.alta_machine.specs.Scores.{weight, use_score, score_of}
use Rattle.alta_rank.specs.Locations.{ends_behind, list_score, range_score, IsListIn, AreListsIn}
use Rattle.alta_machine.specs.declared.usage.Use.{Use}
use Rattle.alta_rank.proofs.Counting.{within, within-past, within-skip, within-step}
use Rattle.alta_rank.proofs.Scores.{range-cons}

-- the list has, of the locations from `at` on, those of the cells that meet the test
abbrev Holds : Test → List ℕ → ℕ → List (List (List ℕ)) → Type 0
Holds test list at cells = (place : ℕ) → place < length cells → Contains list (at + place) ↔ (meets test (get_or cells place []) ≡ true)

here : (test : Test) (list : List ℕ) (at : ℕ) (cell : List (List ℕ)) (later : List (List (List ℕ))) → Holds test list at (cell ∷ later)
    → Contains list at ↔ (meets test cell ≡ true)
here test list at cell later h =
    let e : at + 0 ≡ at = omega arith in subst (λ x. Contains list x ↔ (meets test cell ≡ true)) e (h 0 (omega arith))

behind : (test : Test) (list : List ℕ) (at : ℕ) (cell : List (List ℕ)) (later : List (List (List ℕ))) → Holds test list at (cell ∷ later)
    → Holds test list (at + 1) later
behind test list at cell later h place l =
    let e : at + suc place ≡ at + 1 + place = omega arith in
    subst (λ x. Contains list x ↔ (meets test (get_or later place []) ≡ true)) e (h (suc place) (omega (arith, l)))

true_or_false : (b : Bool) → (b ≡ true) ⊎ (b ≡ false)
true_or_false true = inl refl
true_or_false false = inr refl

not_both : {b : Bool} → b ≡ true → b ≡ false → ⊥
not_both p q = cc (p, q)

equal : (z at : ℕ) → at ≤ z → z < at + 1 → z ≡ at
equal z at a b = omega arith

between : (at t end : ℕ) → at < t → t ≤ end → (ltb at t && leb t end) ≡ true
between at t end a b = grind (arith, a, b)

no_between : (at t : ℕ) → t ≢ at + 1 → ltb at t ≡ ltb (at + 1) t
no_between at t h = ⊎_elim (λ l. grind (arith, l)) (λ g. ⊎_elim (λ l. grind (arith, l)) (λ le. absurd (h (omega (arith, g, le)))) (cases_lt (at + 1) t)) (cases_lt t (at + 1))

ends-none : (titles : List ℕ) (at : ℕ) → ends_behind titles at at ≡ false
ends-none [] at = refl
ends-none (t ∷ ts) at = grind (arith, ends-none ts at)

or-true : (b : Bool) → b || true ≡ true
or-true true = refl
or-true false = refl

ends-here : (titles : List ℕ) (end at : ℕ) → Contains titles (at + 1) → at + 1 ≤ end → ends_behind titles end at ≡ true
ends-here [] end at m le = absurd (not-Contains-nil (at + 1) m)
ends-here (t ∷ ts) end at m le =
    ⊎_elim (λ e. ap (λ b. b || ends_behind ts end at) (between at t end (omega (arith, e)) (omega (arith, e, le))))
    (λ n. ap (λ b. (ltb at t && leb t end) || b) (ends-here ts end at n le) ∙ or-true (ltb at t && leb t end)) (Contains-cases t ts (at + 1) m)

ends-next : (titles : List ℕ) (end at : ℕ) → (Contains titles (at + 1) → ⊥) → ends_behind titles end at ≡ ends_behind titles end (at + 1)
ends-next [] end at h = refl
ends-next (t ∷ ts) end at h =
    ap (λ b. (b && leb t end) || ends_behind ts end at) (no_between at t (λ e. h (subst (λ v. Contains (t ∷ ts) v) e (Contains-head t ts))))
    ∙ ap (λ b. (ltb (at + 1) t && leb t end) || b) (ends-next ts end at (λ m. h (Contains-tail t ts (at + 1) m)))

-- a title ends behind a location exactly where one of the cells behind it is the end of a title
ends-cells : (titles : List ℕ) (later : List (List (List ℕ))) (at end : ℕ) → at + length later ≡ end → Holds title_end titles (at + 1) later
    → ends_behind titles end at ≡ list_any (meets title_end) later
ends-cells titles [] at end e h =
    let same : end ≡ at = omega (arith, e) in ap (λ x. ends_behind titles x at) same ∙ ends-none titles at
ends-cells titles (cell ∷ later) at end e h =
    ⊎_elim
    (λ yes. ends-here titles end at ((here title_end titles (at + 1) cell later h).1 yes) (omega (arith, e))
    ∙ sym (ap (λ b. b || list_any (meets title_end) later) yes))
    (λ no. ends-next titles end at (λ m. not_both ((here title_end titles (at + 1) cell later h).0 m) no)
    ∙ ends-cells titles later (at + 1) end (omega (arith, e)) (behind title_end titles (at + 1) cell later h)
    ∙ sym (ap (λ b. b || list_any (meets title_end) later) no))
    (true_or_false (meets title_end cell))

score-nil : (u : Use) → use_score u [] ≡ 0
unfolding use_score
score-nil u = refl

score-yes : (u : Use) (cell : List (List ℕ)) (later : List (List (List ℕ))) → meets u.test cell ≡ true
    → use_score u (cell ∷ later) ≡ weight u.title (list_any (meets title_end) later) + use_score u later
unfolding use_score
score-yes u cell later h = ap (λ b. cond b (weight u.title (list_any (meets title_end) later)) 0 + use_score u later) h

score-no : (u : Use) (cell : List (List ℕ)) (later : List (List (List ℕ))) → meets u.test cell ≡ false → use_score u (cell ∷ later) ≡ 0 + use_score u later
unfolding use_score
score-no u cell later h = ap (λ b. cond b (weight u.title (list_any (meets title_end) later)) 0 + use_score u later) h

-- what a location counts in a range that ends at `end`
abbrev weigh : Bool → List ℕ → ℕ → ℕ → ℕ
weigh title titles end = λ at. weight title (ends_behind titles end at)

use-cells : (u : Use) (list titles : List ℕ) (cells : List (List (List ℕ))) (at end : ℕ) → at + length cells ≡ end + 1 → RisesAbove 0 list
    → Holds u.test list at cells → Holds title_end titles at cells → use_score u cells ≡ within (weigh u.title titles end) end list at
use-cells u list titles [] at end e r h t = score-nil u ∙ sym (within-past (weigh u.title titles end) end list at (omega (arith, e)))
use-cells u list titles (cell ∷ later) at end e r h t =
    let f = weigh u.title titles end in
    let rest = use-cells u list titles later (at + 1) end (omega (arith, e)) r (behind u.test list at cell later h) (behind title_end titles at cell later t) in
    ⊎_elim
    (λ yes. score-yes u cell later yes
    ∙ ap (λ b. weight u.title b + use_score u later) (sym (ends-cells titles later at end (omega (arith, e)) (behind title_end titles at cell later t)))
    ∙ ap (λ n. f at + n) rest
    ∙ sym (within-step f end 0 list at r ((here u.test list at cell later h).1 yes) (omega (arith, e))))
    (λ no. score-no u cell later no ∙ omega (
      arith,
      rest,
      within-skip f end list at (at + 1)
          (λ z m le. ⊎_elim (λ lt. absurd (not_both ((here u.test list at cell later h).0 (subst (λ v. Contains list v) (equal z at le lt) m)) no)) (λ ge. ge) (cases_lt z (at + 1))) (omega arith),
    ))
    (true_or_false (meets u.test cell))

list-cells : (u : Use) (list titles : List ℕ) (cells : List (List (List ℕ))) (first end : ℕ) → first + length cells ≡ end + 1
    → IsListIn first cells u.test list → IsListIn first cells title_end titles → list_score u.title list titles first end ≡ use_score u cells
unfolding within
list-cells u list titles cells first end e h t = sym (use-cells u list titles cells first end e (above_from_rising list h.rising) h.has t.has)

each-cells : (us : List Use) (ls : List (List ℕ)) (titles : List ℕ) (cells : List (List (List ℕ))) (first end : ℕ) → first + length cells ≡ end + 1
    → AreListsIn first cells us ls → IsListIn first cells title_end titles → range_score us ls titles first end ≡ score_of us cells
each-cells [] [] titles cells first end e h t = refl
each-cells [] (l ∷ ls) titles cells first end e h t = absurd h
each-cells (u ∷ us) [] titles cells first end e h t = absurd h
each-cells (u ∷ us) (l ∷ ls) titles cells first end e (h, hs) t =
    range-cons u us l ls titles first end
    ∙ ap (λ n. n + range_score us ls titles first end) (list-cells u l titles cells first end e h t)
    ∙ ap (λ n. use_score u cells + n) (each-cells us ls titles cells first end e hs t)
    ∙ sym (sum_by-cons (λ v. use_score v cells) u us)

pub range-cells : (first : ℕ) (cells : List (List (List ℕ))) (uses : List Use) (lists : List (List ℕ)) (titles : List ℕ)
    → 0 < length cells → AreListsIn first cells uses lists → IsListIn first cells title_end titles
    → range_score uses lists titles first (first + length cells - 1) ≡ score_of uses cells
range-cells first cells uses lists titles some h t = each-cells uses lists titles cells first (first + length cells - 1) (omega (arith, some)) h t
