-- Raising one place to the least one whose side reaches a number passes no solution.
use Rattle.std.proofs.Common.{◌≡◌, ◌≢◌, ◌⊎◌, ⊎_elim, inl, inr, ℕ, zero, suc, ◌+◌, ◌<◌, ◌≤◌, Bool, true, false, List, [], ◌∷◌, map, length, get_or, set, refl, sym, ap, ◌∙◌, arith}
use Rattle.std.specs.Prelude.{Contains, All, IsTrue, ◌↔◌}
use Rattle.std.proofs.lemmas.Bool.{cases_lt}
use Rattle.std.proofs.lemmas.List.{get_or-set_same, get_or-set_other, length-set}
use Rattle.std.proofs.lemmas.List.Elements.{All-head, All-tail}
use Rattle.alta_codec.specs.declared.location.TheConstants.{TOP}
use Rattle.alta_codec.specs.Rising.{IsRising, IsPlace, first_from, pred_of}
use Rattle.alta_codec.proofs.Places.{first_from-le_top, first_from-above, first_from-least, first_from-place, pred_of-below, pred_of-greatest, pred_of-place, pred_of-mono, pred_of-below_top, place-le_top}
use Rattle.alta_codec.specs.declared.form.Form.{Form}
use Rattle.alta_codec.specs.declared.form.Form.TheVariants.{LocLoc, PrevLoc, LocPrev, PrevPrev}
use Rattle.alta_solver.specs.Solution.{high_side, IsAtLeast, IsRaised}

-- what holds of a list and a place of each reader holds at an index
pub at_both : {R : Type 0} (f : R → List ℕ) (h : R → ℕ) (P : List ℕ → ℕ → Type 0) (rs : List R) (j : ℕ)
    → All (λ r. P (f r) (h r)) rs → j < length rs → P (get_or (map f rs) j []) (get_or (map h rs) j 0)
at_both f h P [] j a l = absurd (omega arith)
at_both f h P (r ∷ rs) zero a l = All-head (λ r. P (f r) (h r)) r rs a
at_both f h P (r ∷ rs) (suc j) a l = at_both f h P rs j (All-tail (λ r. P (f r) (h r)) r rs a) (omega arith)

-- the first from a place is at most each place of the list there
pub first_from-le_place : (xs : List ℕ) (x y : ℕ) → IsPlace xs y → x ≤ y → first_from xs x ≤ y
first_from-le_place xs x y p h =
    ⊎_elim (λ m. first_from-least xs x y m h) (λ t. omega (arith, t, first_from-le_top xs x)) p

-- the last element below a place that is not 0 is an element below it
pub pred_of-element : (xs : List ℕ) (x : ℕ) → 0 < pred_of xs x → Contains xs (pred_of xs x) × (pred_of xs x < x)
pred_of-element xs x h = (
  ⊎_elim (λ m. m) (λ z. absurd (omega (arith, z))) (pred_of-place xs x),
  ⊎_elim (λ p. pred_of-below xs x p)
      (λ z. absurd (omega (arith, pred_of-mono xs x 1 (omega arith), pred_of-below xs 1 (omega arith))))
      (cases_lt 0 x),
)

pub at_least_itself : (old : List ℕ) → IsAtLeast old old
at_least_itself old i h = omega arith

pub same_or_not : (i j : ℕ) → (i ≡ j) ⊎ (i ≢ j)
same_or_not i j = ⊎_elim (λ l. inr (λ e. omega arith)) (λ ge. ⊎_elim (λ l. inr (λ e. omega arith)) (λ le. inl (omega arith)) (cases_lt j i)) (cases_lt i j)

pub set_forward : (old new : List ℕ) (j p : ℕ) → new ≡ set old j p → get_or old j 0 ≤ p → IsAtLeast old new
set_forward old new j p e h i l =
    let at : get_or new i 0 ≡ get_or (set old j p) i 0 = ap (λ xs. get_or xs i 0) e in
    ⊎_elim (λ same. let w : get_or (set old j p) i 0 ≡ p = ap (λ k. get_or (set old j p) k 0) same ∙ get_or-set_same old j p 0 (omega arith) in
    omega (arith, at, w, ap (λ k. get_or old k 0) same))
    (λ other. omega (arith, at, get_or-set_other old j i p 0 other)) (same_or_not i j)

pub set_at_least : (old new x : List ℕ) (j p : ℕ) → j < length old → new ≡ set old j p → IsAtLeast old x → p ≤ get_or x j 0 → IsAtLeast new x
set_at_least old new x j p within e h le i l =
    let at : get_or new i 0 ≡ get_or (set old j p) i 0 = ap (λ xs. get_or xs i 0) e in
    let size : length new ≡ length old = ap length e ∙ length-set old j p in
    ⊎_elim (λ same. let w : get_or (set old j p) i 0 ≡ p = ap (λ k. get_or (set old j p) k 0) same ∙ get_or-set_same old j p 0 within in
    omega (arith, at, w, ap (λ k. get_or x k 0) same))
    (λ other. omega (arith, at, get_or-set_other old j i p 0 other, h i (omega arith))) (same_or_not i j)

set_others : (old new : List ℕ) (j p : ℕ) → new ≡ set old j p → (k : ℕ) → k ≢ j → get_or new k 0 ≡ get_or old k 0
set_others old new j p e k n = ap (λ xs. get_or xs k 0) e ∙ get_or-set_other old j k p 0 n

set_there : (old new : List ℕ) (j p : ℕ) → j < length old → new ≡ set old j p → get_or new j 0 ≡ p
set_there old new j p within e = ap (λ xs. get_or xs j 0) e ∙ get_or-set_same old j p 0 within

high-le_top : (form : Form) (xs : List ℕ) (q : ℕ) → IsRising xs → IsPlace xs q → high_side form xs q ≤ TOP
high-le_top LocLoc xs q r p = place-le_top xs q r p
high-le_top PrevLoc xs q r p = place-le_top xs q r p
high-le_top LocPrev xs q r p = omega (arith, pred_of-below_top xs q r)
high-le_top PrevPrev xs q r p = omega (arith, pred_of-below_top xs q r)

pub high_at_loc : (form : Form) (xs : List ℕ) (q : ℕ) → (form ≡ LocLoc) ⊎ (form ≡ PrevLoc) → high_side form xs q ≡ q
high_at_loc form xs q e = ⊎_elim (λ a. ap (λ f. high_side f xs q) a) (λ b. ap (λ f. high_side f xs q) b) e

pub high_at_prev : (form : Form) (xs : List ℕ) (q : ℕ) → (form ≡ LocPrev) ⊎ (form ≡ PrevPrev) → high_side form xs q ≡ pred_of xs q
high_at_prev form xs q e = ⊎_elim (λ a. ap (λ f. high_side f xs q) a) (λ b. ap (λ f. high_side f xs q) b) e

-- no place reaches a number above TOP
pub not_raised : (xs : List ℕ) (form : Form) (need : ℕ) (old : List ℕ) (j : ℕ) → IsRising xs → TOP < need
    → IsRaised xs form need old j old false
not_raised xs form need old j r above =
    record {
      forward = at_least_itself old;
      sized = refl;
      least = λ t. absurd cc;
      others = λ k n. refl;
      reaches = λ t. absurd cc;
      none = λ _ q p h. omega (arith, high-le_top form xs q r p, h, above);
    }

-- a location is raised to the first from the number
pub raised_loc : (xs : List ℕ) (form : Form) (need : ℕ) (old : List ℕ) (j : ℕ) (new : List ℕ)
    → (form ≡ LocLoc) ⊎ (form ≡ PrevLoc) → need ≤ TOP → j < length old → high_side form xs (get_or old j 0) < need
    → new ≡ set old j (first_from xs need) → IsRaised xs form need old j new true
raised_loc xs form need old j new is top within short e =
    record {
      forward = set_forward old new j (first_from xs need) e (omega (arith, first_from-above xs need top, high_at_loc form xs (get_or old j 0) is, short));
      sized = ap length e ∙ length-set old j (first_from xs need);
      least = λ _ x h p reaches. set_at_least old new x j (first_from xs need) within e h
          (first_from-le_place xs need (get_or x j 0) p (omega (arith, high_at_loc form xs (get_or x j 0) is, reaches)));
      others = set_others old new j (first_from xs need) e;
      reaches = λ _. omega (arith, set_there old new j (first_from xs need) within e, high_at_loc form xs (get_or new j 0) is, first_from-above xs need top);
      none = λ f. absurd cc;
    }

-- what reaches the number is behind the first from it
behind : (xs : List ℕ) (need x : ℕ) → 0 < need → need ≤ pred_of xs x
    → (first_from xs need < x) × (first_from xs need ≤ pred_of xs x)
behind xs need x positive h =
    let (m, lt) = pred_of-element xs x (omega arith) in
    let le : first_from xs need ≤ pred_of xs x = first_from-least xs need (pred_of xs x) m h in
    (omega (arith, lt, le), le)

-- the first element from a number, and behind it the first from the next
reached : (xs : List ℕ) (need : ℕ) → need ≤ TOP → first_from xs need < TOP → need ≤ pred_of xs (first_from xs (first_from xs need + 1))
reached xs need top lt =
    let f = first_from xs need in
    ⊎_elim (λ m. omega (arith, first_from-above xs need top, pred_of-greatest xs (first_from xs (f + 1)) f m (omega (arith, first_from-above xs (f + 1) (omega (arith, lt))))))
    (λ t. absurd (omega (arith, t))) (first_from-place xs need)

-- a location is raised behind the first from the number
pub raised_prev : (xs : List ℕ) (form : Form) (need : ℕ) (old : List ℕ) (j : ℕ) (new : List ℕ) (found : Bool) → IsRising xs
    → (form ≡ LocPrev) ⊎ (form ≡ PrevPrev) → need ≤ TOP → j < length old → IsPlace xs (get_or old j 0) → high_side form xs (get_or old j 0) < need
    → (IsTrue found ↔ (first_from xs need < TOP))
    → (IsTrue found → new ≡ set old j (first_from xs (first_from xs need + 1)))
    → (found ≡ false → new ≡ set old j TOP) → IsRaised xs form need old j new found
raised_prev xs form need old j new found r is top within here short which raised none =
    let low : pred_of xs (get_or old j 0) < need = omega (arith, high_at_prev form xs (get_or old j 0) is, short) in
    let at_top : get_or old j 0 ≤ TOP = place-le_top xs (get_or old j 0) r here in
    record {
      forward = elim found as (λ b. (IsTrue b ↔ (first_from xs need < TOP)) → (IsTrue b → new ≡ set old j (first_from xs (first_from xs need + 1)))
          → (b ≡ false → new ≡ set old j TOP) → IsAtLeast old new) [
            | true ↦ λ w e n. let f : first_from xs need < TOP = w.0 refl in
                set_forward old new j (first_from xs (first_from xs need + 1)) (e refl)
                (omega (
                  arith,
                  first_from-above xs (first_from xs need + 1) (omega arith),
                  first_from-above xs need top,
                  ⊎_elim (λ m. ⊎_elim (λ lt. absurd (omega (arith, pred_of-greatest xs (get_or old j 0) (first_from xs need) m lt, first_from-above xs need top)))
                      (λ ge. ge) (cases_lt (first_from xs need) (get_or old j 0)))
                      (λ t. absurd (omega (arith, t))) (first_from-place xs need),
                ))
            | false ↦ λ w e n. set_forward old new j TOP (n refl) at_top
          ] which raised none;
      sized = elim found as (λ b. (IsTrue b → new ≡ set old j (first_from xs (first_from xs need + 1)))
          → (b ≡ false → new ≡ set old j TOP) → length new ≡ length old) [
            | true ↦ λ e n. ap length (e refl) ∙ length-set old j (first_from xs (first_from xs need + 1))
            | false ↦ λ e n. ap length (n refl) ∙ length-set old j TOP
          ] raised none;
      least = λ t x h p reaches.
          set_at_least old new x j (first_from xs (first_from xs need + 1)) within (raised t) h
          (first_from-le_place xs (first_from xs need + 1) (get_or x j 0) p
          (omega (arith, (behind xs need (get_or x j 0) (omega arith) (omega (arith, high_at_prev form xs (get_or x j 0) is, reaches))).0)));
      others = elim found as (λ b. (IsTrue b → new ≡ set old j (first_from xs (first_from xs need + 1)))
          → (b ≡ false → new ≡ set old j TOP) → (k : ℕ) → k ≢ j → get_or new k 0 ≡ get_or old k 0) [
            | true ↦ λ e n. set_others old new j (first_from xs (first_from xs need + 1)) (e refl)
            | false ↦ λ e n. set_others old new j TOP (n refl)
          ] raised none;
      reaches = λ t. omega (
        arith,
        set_there old new j (first_from xs (first_from xs need + 1)) within (raised t),
        high_at_prev form xs (get_or new j 0) is,
        ap (λ p. pred_of xs p) (set_there old new j (first_from xs (first_from xs need + 1)) within (raised t)),
        reached xs need top (which.0 t),
      );
      none = λ f q p h.
          let b = behind xs need q (omega arith) (omega (arith, high_at_prev form xs q is, h)) in
          let t : true ≡ false = sym (which.1 (omega (arith, b.1, pred_of-below_top xs q r))) ∙ f in
          cc;
    }
