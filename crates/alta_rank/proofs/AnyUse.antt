-- Where a query asks for one of its uses, exactly the documents that match it have a score.
use Rattle.std.proofs.Common.{◌≡◌, ◌⊎◌, ⊎_elim, inl, inr, ℕ, zero, suc, ◌+◌, ◌<◌, ◌≤◌, Bool, true, false, List, [], ◌∷◌, ◌++◌, refl, sym, subst, ap, ◌∙◌, arith}
use Rattle.std.specs.Prelude.{◌↔◌, ◌||◌, if◌then◌else◌}
use Rattle.std.specs.List.{list_any}
use Rattle.std.proofs.lemmas.Bool.{true≢false, and_parts}
use Rattle.std.proofs.lemmas.List.Elements.{All-nil, All-cons, All-head}
use Rattle.std.proofs.lemmas.List.Sums.{sum_by-append, sum_by-cons}
use Rattle.alta_machine.specs.Matches.{Matches, AnyMatches}
use Rattle.alta_machine.specs.Patterns.{AreMet, AtomMatches, Bound, IsKept, IsMet, Satisfies, in_title, meets, phrase_pattern, title_end}
use Rattle.alta_machine.specs.Scores.{score_of, use_score, weight}
use Rattle.alta_machine.specs.Shape.{words, prefix, name, value, Atom, lone, near, Shape, Shapes, atom, all, any, negated, none, more}
use Rattle.alta_machine.specs.Uses.{atom_uses, use_of, uses_of, uses_in}
use Rattle.alta_machine.specs.Words.{name_test}
use Rattle.alta_machine.specs.declared.test.Test.{Test}
use Rattle.alta_machine.specs.declared.usage.Use.{Use}
use Rattle.alta_rank.specs.AnyUse.{atom_use, each_use, asks_any_use}

abbrev Cells : Type 0
Cells = List (List (List ℕ))

true_or_false : (b : Bool) → (b ≡ true) ⊎ (b ≡ false)
true_or_false true = inl refl
true_or_false false = inr refl

or_true : (b : Bool) → b || true ≡ true
or_true true = refl
or_true false = refl

-- ---- whether a cell meets a test

met_any : (t : Test) (cells : Cells) (p : ℕ) → IsMet cells t p → list_any (meets t) cells ≡ true
met_any t [] p (l, h) = absurd (omega (arith, l))
met_any t (c ∷ cs) zero (l, h) = ap (λ b. b || list_any (meets t) cs) h
met_any t (c ∷ cs) (suc p) (l, h) = ap (λ b. meets t c || b) (met_any t cs p (omega (arith, l), h)) ∙ or_true (meets t c)

any_met : (t : Test) (cells : Cells) → list_any (meets t) cells ≡ true → (p : ℕ) × IsMet cells t p
any_met t [] h = absurd (true≢false (sym h))
any_met t (c ∷ cs) h =
    ⊎_elim
    (λ yes. (0, (omega arith, yes)))
    (λ no. let (p, (l, m)) = any_met t cs (sym (ap (λ b. b || list_any (meets t) cs) no) ∙ h) in (suc p, (omega (arith, l), m)))
    (true_or_false (meets t c))

-- ---- the score of one use

-- a title ends behind a place
abbrev IsInTitle : Cells → ℕ → Type 0
IsInTitle cells place = (p : ℕ) × (place < p) × IsMet cells title_end p

-- a place counts for a use
abbrev Counts : Use → Cells → Type 0
Counts u cells = (place : ℕ) × IsMet cells u.test place × (u.title ≡ true → IsInTitle cells place)

title_tail : (c : List (List ℕ)) (cs : Cells) (place : ℕ) → IsInTitle (c ∷ cs) (suc place) → IsInTitle cs place
title_tail c cs place (zero, less, m) = absurd (omega (arith, less))
title_tail c cs place (suc p, less, (l, m)) = (p, omega (arith, less), (omega (arith, l), m))

title_head : (c : List (List ℕ)) (cs : Cells) → IsInTitle (c ∷ cs) 0 → list_any (meets title_end) cs ≡ true
title_head c cs (zero, less, m) = absurd (omega (arith, less))
title_head c cs (suc p, less, (l, m)) = met_any title_end cs p (omega (arith, l), m)

title_more : (c : List (List ℕ)) (cs : Cells) (place : ℕ) → IsInTitle cs place → IsInTitle (c ∷ cs) (suc place)
title_more c cs place (p, less, (l, m)) = (suc p, omega (arith, less), (omega (arith, l), m))

counts_more : (u : Use) (c : List (List ℕ)) (cs : Cells) → Counts u cs → Counts u (c ∷ cs)
counts_more u c cs (place, (l, m), f) = (suc place, (omega (arith, l), m), λ t. title_more c cs place (f t))

score_nil : (u : Use) → use_score u [] ≡ 0
unfolding use_score
score_nil u = refl

score_met : (u : Use) (c : List (List ℕ)) (cs : Cells) → meets u.test c ≡ true
    → use_score u (c ∷ cs) ≡ weight u.title (list_any (meets title_end) cs) + use_score u cs
unfolding use_score
score_met u c cs h = ap (λ b. (if b then weight u.title (list_any (meets title_end) cs) else 0) + use_score u cs) h

score_unmet : (u : Use) (c : List (List ℕ)) (cs : Cells) → meets u.test c ≡ false → use_score u (c ∷ cs) ≡ 0 + use_score u cs
unfolding use_score
score_unmet u c cs h = ap (λ b. (if b then weight u.title (list_any (meets title_end) cs) else 0) + use_score u cs) h

weight_some : (title before : Bool) → (title ≡ true → before ≡ true) → 0 < weight title before
weight_some title true f = omega arith
weight_some true false f = absurd (true≢false (sym (f refl)))
weight_some false false f = omega arith

counts_score : (u : Use) (cells : Cells) (place : ℕ) → IsMet cells u.test place → (u.title ≡ true → IsInTitle cells place) → 0 < use_score u cells
counts_score u [] place (l, h) f = absurd (omega (arith, l))
counts_score u (c ∷ cs) zero (l, h) f =
    omega (arith, score_met u c cs h, weight_some u.title (list_any (meets title_end) cs) (λ t. title_head c cs (f t)))
counts_score u (c ∷ cs) (suc place) (l, h) f =
    let later : 0 < use_score u cs = counts_score u cs place (omega (arith, l), h) (λ t. title_tail c cs place (f t)) in
    ⊎_elim (λ yes. omega (arith, later, score_met u c cs yes)) (λ no. omega (arith, later, score_unmet u c cs no)) (true_or_false (meets u.test c))

-- a place that counts nothing is in no title
weight_none : (title before : Bool) → before ≡ false → title ≡ true → weight title before ≡ 0
weight_none title before b t = ap (λ x. weight title x) b ∙ ap (λ x. weight x false) t

score_counts : (u : Use) (cells : Cells) → 0 < use_score u cells → Counts u cells
score_counts u [] h = absurd (omega (arith, h, score_nil u))
score_counts u (c ∷ cs) h =
    ⊎_elim
    (λ yes. ⊎_elim
    (λ ends. let (p, (l, m)) = any_met title_end cs ends in (0, (omega arith, yes), λ t. (suc p, omega arith, (omega (arith, l), m))))
    (λ ends. ⊎_elim
    (λ t. counts_more u c cs (score_counts u cs (omega (arith, h, score_met u c cs yes, weight_none u.title (list_any (meets title_end) cs) ends t))))
    (λ f. (0, (omega arith, yes), λ t. absurd (true≢false (sym t ∙ f))))
    (true_or_false u.title))
    (true_or_false (list_any (meets title_end) cs)))
    (λ no. counts_more u c cs (score_counts u cs (omega (arith, h, score_unmet u c cs no))))
    (true_or_false (meets u.test c))

-- ---- the pattern of one test

one_place : (cells : Cells) (t : Test) (places : List ℕ) → AreMet cells (t ∷ []) places → (p : ℕ) × IsMet cells t p
one_place cells t [] h = absurd h
one_place cells t (p ∷ []) (h, r) = (p, h)
one_place cells t (p ∷ q ∷ ps) (h, r) = absurd r

abbrev before_it : Bound
before_it = record { first = 0; behind = 1; second = 1; ahead = 0 }

two_places : (cells : Cells) (t u : Test) (places : List ℕ) → AreMet cells (t ∷ u ∷ []) places
    → (p : ℕ) × (q : ℕ) × (places ≡ p ∷ q ∷ []) × IsMet cells t p × IsMet cells u q
two_places cells t u [] h = absurd h
two_places cells t u (p ∷ []) (h, r) = absurd r
two_places cells t u (p ∷ q ∷ []) (h, (k, r)) = (p, q, refl, h, k)
two_places cells t u (p ∷ q ∷ o ∷ ps) (h, (k, r)) = absurd r

anywhere : (cells : Cells) (t : Test) → Satisfies cells (phrase_pattern (t ∷ [])) ↔ Counts (use_of false t) cells
anywhere cells t = (
  λ (places, a). let (p, h) = one_place cells t places a.met in (p, h, λ e. absurd (true≢false (sym e))),
  λ (p, h, f). (p ∷ [], record { met = (h, tt); kept = All-nil (IsKept (p ∷ [])) }),
)

within_title : (cells : Cells) (t : Test) → Satisfies cells (in_title (phrase_pattern (t ∷ []))) ↔ Counts (use_of true t) cells
within_title cells t = (
  λ (places, a). let (p, q, same, h, k) = two_places cells t title_end places a.met in
      let bound : p + 1 ≤ q + 0 = subst (λ ps. IsKept ps before_it) same (All-head (IsKept places) before_it [] a.kept) in
      (p, h, λ e. (q, omega (arith, bound), k)),
  λ (p, h, f). let (q, less, k) = f refl in
      let bound : p + 1 ≤ q + 0 = omega (arith, less) in
      (p ∷ q ∷ [], record { met = (h, (k, tt)); kept = All-cons (IsKept (p ∷ q ∷ [])) before_it [] bound (All-nil (IsKept (p ∷ q ∷ []))) }),
)

one_sum : (u : Use) (cells : Cells) → score_of (u ∷ []) cells ≡ use_score u cells
one_sum u cells = omega (arith, sum_by-cons (λ (v : Use). use_score v cells) u [])

scores : {P : Type 0} (u : Use) (cells : Cells) → P ↔ Counts u cells → P ↔ (0 < score_of (u ∷ []) cells)
scores u cells law = (
  λ p. let (place, h, f) = law.0 p in omega (arith, one_sum u cells, counts_score u cells place h f),
  λ h. law.1 (score_counts u cells (omega (arith, one_sum u cells, h))),
)

atom_law : (a : Atom) (cells : Cells) → atom_use a ≡ true → AtomMatches cells a ↔ (0 < score_of (atom_uses a) cells)
atom_law (lone (words title text [])) cells h = absurd (true≢false (sym h))
atom_law (lone (words true text (t ∷ []))) cells h = scores (use_of true t) cells (within_title cells t)
atom_law (lone (words false text (t ∷ []))) cells h = scores (use_of false t) cells (anywhere cells t)
atom_law (lone (words title text (t ∷ u ∷ ts))) cells h = absurd (true≢false (sym h))
atom_law (lone (prefix true text t)) cells h = scores (use_of true t) cells (within_title cells t)
atom_law (lone (prefix false text t)) cells h = scores (use_of false t) cells (anywhere cells t)
atom_law (lone (name text)) cells h = scores (use_of false (name_test text)) cells (anywhere cells (name_test text))
atom_law (lone (value low high)) cells h = absurd (true≢false (sym h))
atom_law (near left distance right) cells h = absurd (true≢false (sym h))

-- ---- several of them

more_uses : (us vs : List Use) (cells : Cells) → score_of (us ++ vs) cells ≡ score_of us cells + score_of vs cells
more_uses us vs cells = sum_by-append (λ (v : Use). use_score v cells) us vs

one_more : {P Q : Type 0} (a b s : ℕ) → s ≡ a + b → P ↔ (0 < a) → Q ↔ (0 < b) → (P ⊎ Q) ↔ (0 < s)
one_more zero b s e p q = (
  λ w. ⊎_elim (λ x. absurd (omega (arith, p.0 x))) (λ y. omega (arith, e, q.0 y)) w,
  λ h. inr (q.1 (omega (arith, e, h))),
)
one_more (suc a) b s e p q = (λ w. omega (arith, e), λ h. inl (p.1 (omega arith)))

each_law : (qs : Shapes) (cells : Cells) → each_use qs ≡ true → AnyMatches cells qs ↔ (0 < score_of (uses_in qs) cells)
each_law none cells h = (λ m. absurd m, λ l. absurd (omega (arith, l)))
each_law (more (atom a) qs) cells h =
    let (x, r) = and_parts (atom_use a) (each_use qs) h in
    one_more (score_of (atom_uses a) cells) (score_of (uses_in qs) cells) (score_of (atom_uses a ++ uses_in qs) cells)
    (more_uses (atom_uses a) (uses_in qs) cells) (atom_law a cells x) (each_law qs cells r)
each_law (more (all rs) qs) cells h = absurd (true≢false (sym h))
each_law (more (any rs) qs) cells h = absurd (true≢false (sym h))
each_law (more (negated q) qs) cells h = absurd (true≢false (sym h))

pub shape_law : (q : Shape) (cells : Cells) → asks_any_use q ≡ true → Matches cells q ↔ (0 < score_of (uses_of q) cells)
shape_law (atom a) cells h = atom_law a cells h
shape_law (all qs) cells h = absurd (true≢false (sym h))
shape_law (any qs) cells h = each_law qs cells h
shape_law (negated q) cells h = absurd (true≢false (sym h))
