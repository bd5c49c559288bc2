-- A list that is marked as far as its reader has come.
use Rattle.std.proofs.Common.{◌≡◌, ◌≢◌, ℕ, zero, suc, ◌+◌, ◌<◌, ◌≤◌, List, [], ◌∷◌, length, get_or, set, get_or-set_same, get_or-set_other, true, false, cond, eqb, ltb, refl, sym, ap, ◌∙◌, subst, arith, ⊎_elim}
use Rattle.std.specs.Prelude.{◌&&◌, Contains}
use Rattle.std.proofs.lemmas.Bool.{cases_Bool, cases_eq, cases_lt, cases_order, cond-true, cond-false, eqb-true, eq-eqb, ne_eqb, lt-ltb, le-ltb, and_left, and_right, and_from, or_cases, or_left, or_right, false≢true}
use Rattle.alta_codec.specs.Rising.{IsRising, first_from}
use Rattle.alta_codec.specs.declared.location.TheConstants.{TOP}
use Rattle.alta_codec.proofs.Places.{Contains-head, Contains-tail, Contains-cases, not-Contains-nil, first_from-above, first_from-least}
use Rattle.alta_gather.specs.Holding.{has, with_list, IsMarked}
use Rattle.alta_gather.specs.declared.held.Held.{Held}

pub has_contains : (list : List ℕ) (at : ℕ) → has list at ≡ true → Contains list at
unfolding has
has_contains [] at h = absurd (false≢true h)
has_contains (x ∷ xs) at h =
    ⊎_elim (λ here. subst (Contains (x ∷ xs)) (sym (eqb-true at x here)) (Contains-head x xs))
    (λ later. Contains-tail x xs at (has_contains xs at later)) (or_cases (eqb at x) (has xs at) h)

pub contains_has : (list : List ℕ) (at : ℕ) → Contains list at → has list at ≡ true
unfolding has
contains_has [] at h = absurd (not-Contains-nil at h)
contains_has (x ∷ xs) at h =
    ⊎_elim (λ here. or_left (eqb at x) (has xs at) (eq-eqb at x (sym here))) (λ later. or_right (eqb at x) (has xs at) (contains_has xs at later))
    (Contains-cases x xs at h)

-- the list is marked at its locations below a place
pub record IsMarkedTo (places list : List ℕ) (to index : ℕ) (old new : List Held) : Type 0 where
  pub long : length new ≡ length old
  pub marked : (i : ℕ) (d : Held) → i < length places
      → get_or new i d ≡ cond (ltb (get_or places i 0) to && has list (get_or places i 0)) (with_list index (get_or old i d)) (get_or old i d)

-- the list has a location below another only from its first on
below_first : (list : List ℕ) (from x : ℕ) → from ≤ x → (ltb x (first_from list from) && has list x) ≡ false
below_first list from x le = ⊎_elim
    (λ is. ⊎_elim (λ lt. absurd (let b : x < first_from list from = lt in omega (arith, b, first_from-least list from x (has_contains list x is) le)))
    (λ ge. and_left (ltb x (first_from list from)) (has list x) (le-ltb x (first_from list from) ge)) (cases_lt x (first_from list from)))
    (λ none. and_right (ltb x (first_from list from)) (has list x) none) (cases_Bool (has list x))

pub marked_none : (places list : List ℕ) (index : ℕ) (held : List Held) → IsMarkedTo places list (first_from list 0) index held held
marked_none places list index held = record {
  long = refl;
  marked = λ i d lt. sym (cond-false _ (with_list index (get_or held i d)) (get_or held i d) (below_first list 0 (get_or places i 0) (omega arith)));
}

-- one place more
abbrev pub Noted : List ℕ → ℕ → ℕ → List Held → List Held → Type 0
Noted places at index old new =
    (i : ℕ) (d : Held) → i < length places → get_or new i d ≡ cond (eqb (get_or places i 0) at) (with_list index (get_or old i d)) (get_or old i d)

marked_at : (list : List ℕ) (x at next index : ℕ) (old mid new : Held) → at + 1 ≤ next → next ≡ first_from list (at + 1) → Contains list at
    → mid ≡ cond (ltb x at && has list x) (with_list index old) old → new ≡ cond (eqb x at) (with_list index mid) mid
    → new ≡ cond (ltb x next && has list x) (with_list index old) old
marked_at list x at next index old mid new above next_is held before noted = ⊎_elim here (λ other. ⊎_elim lower higher other) (cases_order x at)
  where
    here : x ≡ at → new ≡ cond (ltb x next && has list x) (with_list index old) old
    here e =
        let low : ltb x at ≡ false = le-ltb x at (omega arith) in
        let was : mid ≡ old = before ∙ cond-false _ (with_list index old) old (and_left (ltb x at) (has list x) low) in
        let both : (ltb x next && has list x) ≡ true = and_from (ltb x next) (has list x) (lt-ltb x next (omega arith)) (contains_has list x (subst (Contains list) (sym e) held)) in
        noted ∙ cond-true (eqb x at) (with_list index mid) mid (eq-eqb x at e) ∙ ap (with_list index) was ∙ sym (cond-true _ (with_list index old) old both)

    lower : x < at → new ≡ cond (ltb x next && has list x) (with_list index old) old
    lower lt =
        let same : (ltb x at && has list x) ≡ (ltb x next && has list x) = ap (λ b. b && has list x) (lt-ltb x at lt ∙ sym (lt-ltb x next (omega arith))) in
        noted ∙ cond-false (eqb x at) (with_list index mid) mid (ne_eqb x at (λ e. omega arith)) ∙ before ∙ ap (λ b. cond b (with_list index old) old) same

    higher : at < x → new ≡ cond (ltb x next && has list x) (with_list index old) old
    higher gt =
        let low : ltb x at ≡ false = le-ltb x at (omega arith) in
        let was : mid ≡ old = before ∙ cond-false _ (with_list index old) old (and_left (ltb x at) (has list x) low) in
        let none : (ltb x next && has list x) ≡ false = subst (λ n. (ltb x n && has list x) ≡ false) (sym next_is) (below_first list (at + 1) x (omega arith)) in
        noted ∙ cond-false (eqb x at) (with_list index mid) mid (ne_eqb x at (λ e. omega arith)) ∙ was ∙ sym (cond-false _ (with_list index old) old none)

pub marked_next : (places list : List ℕ) (at next index : ℕ) (old mid new : List Held) → at < TOP → next ≡ first_from list (at + 1) → Contains list at
    → IsMarkedTo places list at index old mid → length new ≡ length mid → Noted places at index mid new → IsMarkedTo places list next index old new
marked_next places list at next index old mid new low next_is held before long noted =
    let above : at + 1 ≤ next = subst (λ n. at + 1 ≤ n) (sym next_is) (first_from-above list (at + 1) (omega arith)) in
    record {
      long = long ∙ before.long;
      marked = λ i d lt. marked_at list (get_or places i 0) at next index (get_or old i d) (get_or mid i d) (get_or new i d) above next_is held (before.marked i d lt) (noted i d lt);
    }

-- past all places
pub marked_all : (places list : List ℕ) (to index : ℕ) (old new : List Held) → IsRising places → TOP ≤ to → IsMarkedTo places list to index old new → IsMarked places list index old new
marked_all places list to index old new rising past marked = record {
  long = marked.long;
  marked = λ i d lt.
      marked.marked i d lt
      ∙ ap (λ b. cond (b && has list (get_or places i 0)) (with_list index (get_or old i d)) (get_or old i d)) (lt-ltb (get_or places i 0) to (omega (arith, rising.below i lt)));
}

-- no other place is the location
pub others_differ : (places : List ℕ) (place i at : ℕ) → IsRising places → place < length places → get_or places place 0 ≡ at → i < length places → i ≢ place → get_or places i 0 ≢ at
others_differ places place i at rising within here lt other = λ e.
    ⊎_elim (λ same. other same)
    (λ apart. ⊎_elim (λ low. omega (arith, rising.rising i place low within, here, e)) (λ high. omega (arith, rising.rising place i high lt, here, e)) apart)
    (cases_order i place)

-- none of the places is the location
pub not_noted : (places : List ℕ) (held : List Held) (at index : ℕ) → ((i : ℕ) → i < length places → get_or places i 0 ≢ at) → Noted places at index held held
not_noted places held at index apart = λ i d lt. sym (cond-false (eqb (get_or places i 0) at) (with_list index (get_or held i d)) (get_or held i d) (ne_eqb (get_or places i 0) at (apart i lt)))

same_default : (xs : List Held) (i : ℕ) (d e : Held) → i < length xs → get_or xs i d ≡ get_or xs i e
same_default [] i d e lt = absurd (omega (arith, lt))
same_default (x ∷ xs) zero d e lt = refl
same_default (x ∷ xs) (suc i) d e lt = same_default xs i d e (omega (arith, lt))

-- the place of the location is marked, and no other
pub noted_set : (places : List ℕ) (held : List Held) (place at index : ℕ) (w e : Held) → IsRising places → length held ≡ length places → place < length places
    → get_or places place 0 ≡ at → w ≡ with_list index (get_or held place e) → Noted places at index held (set held place w)
noted_set places held place at index w e rising long within here w_is = λ i d lt. ⊎_elim (same i d) (other i d lt) (cases_eq i place)
  where
    same : (i : ℕ) (d : Held) → i ≡ place → get_or (set held place w) i d ≡ cond (eqb (get_or places i 0) at) (with_list index (get_or held i d)) (get_or held i d)
    same i d is =
        subst (λ (n : ℕ). get_or (set held place w) n d ≡ cond (eqb (get_or places n 0) at) (with_list index (get_or held n d)) (get_or held n d)) (sym is)
        (get_or-set_same held place w d (omega (arith, within, long)) ∙ w_is ∙ ap (with_list index) (same_default held place e d (omega (arith, within, long)))
        ∙ sym (cond-true (eqb (get_or places place 0) at) (with_list index (get_or held place d)) (get_or held place d) (eq-eqb (get_or places place 0) at here)))

    other : (i : ℕ) (d : Held) → i < length places → (i ≡ place → ⊥) → get_or (set held place w) i d ≡ cond (eqb (get_or places i 0) at) (with_list index (get_or held i d)) (get_or held i d)
    other i d lt apart =
        get_or-set_other held place i w d apart
        ∙ sym (cond-false (eqb (get_or places i 0) at) (with_list index (get_or held i d)) (get_or held i d) (ne_eqb (get_or places i 0) at (others_differ places place i at rising within here lt apart)))
