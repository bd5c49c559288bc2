-- Readers that are brought to a place one after another.
use Rattle.std.proofs.Common.{◌≡◌, ⊎_elim, ℕ, zero, suc, ◌+◌, ◌<◌, ◌≤◌, List, [], ◌∷◌, map, take, length, get_or, set, refl, sym, subst, ap, ◌∙◌, arith}
use Rattle.std.specs.Prelude.{All, Contains, sum_by}
use Rattle.std.proofs.lemmas.Bool.{cases_lt}
use Rattle.std.proofs.lemmas.List.{take_more, length-map, get_or-set_same, get_or-set_other}
use Rattle.std.proofs.lemmas.List.Sums.{sum_by_more_le, sum_by_push, sum_by-take-le}
use Rattle.alta_codec.specs.declared.location.TheConstants.{TOP}
use Rattle.alta_codec.specs.Rising.{IsPlace, first_from}
use Rattle.alta_codec.proofs.Places.{first_from-is, first_from-least}
use Rattle.alta_docread.specs.Tree.{IsAhead}
use Rattle.alta_lead.specs.Moves.{AreAhead, AreMoved}

-- what a move costs, by the list that is read
pub cost_at : {R : Type 0} (list : R → List ℕ) (cost : R → ℕ) (of : List ℕ → ℕ) (rs : List R) (j : ℕ) → ((r : R) → cost r ≤ of (list r)) → j < length rs
    → get_or (map cost rs) j 0 ≤ of (get_or (map list rs) j [])
cost_at list cost of [] j h l = absurd (omega arith)
cost_at list cost of (r ∷ rs) zero h l = h r
cost_at list cost of (r ∷ rs) (suc j) h l = cost_at list cost of rs j h (omega arith)

pub sum_at : {R : Type 0} (list : R → List ℕ) (of : List ℕ → ℕ) (rs : List R) (j : ℕ) → j < length rs → of (get_or (map list rs) j []) ≤ sum_by of (map list rs)
sum_at list of rs j l = omega (arith, sum_by_more_le of (map list rs) j [] (omega (arith, length-map rs list)))

-- a place from which on nothing was passed is the first from there, if it lies there
pub ahead_first : (xs : List ℕ) (place to : ℕ) → IsPlace xs place → place ≤ TOP → to ≤ place → IsAhead to xs place → place ≡ first_from xs to
ahead_first xs place to p top above ahead = first_from-is xs to place p top above ahead

-- the reader that was moved has passed nothing from the goal on
pub ahead_set : (lists : List (List ℕ)) (places : List ℕ) (j to : ℕ) → j < length places → AreAhead to lists places
    → AreAhead to lists (set places j (first_from (get_or lists j []) to))
ahead_set lists places j to within ahead = λ k l z m h.
    ⊎_elim (λ lt. omega (arith, get_or-set_other places j k (first_from (get_or lists j []) to) 0 (λ e. omega arith), ahead k l z m h))
    (λ ge. ⊎_elim (λ more. omega (arith, get_or-set_other places j k (first_from (get_or lists j []) to) 0 (λ e. omega arith), ahead k l z m h))
    (λ le. let same : k ≡ j = omega arith in
    subst (λ i. get_or (set places j (first_from (get_or lists j []) to)) i 0 ≤ z) (sym same)
    (omega (
      arith,
      get_or-set_same places j (first_from (get_or lists j []) to) 0 within,
      first_from-least (get_or lists j []) to z (subst (λ i. Contains (get_or lists i []) z) same m) h,
    ))) (cases_lt j k))
    (cases_lt k j)

module _ {R : Type 0} (Sound : R → Type 0) (list all : R → List ℕ) (location left cost : R → ℕ) where
  -- the first i readers were brought to their places from `start` on, by so many steps
  pub record IsBringing (old new : List R) (start i spent : ℕ) : Type 0 where
    pub sound : All Sound new
    pub lists : map list new ≡ map list old
    pub alls : map all new ≡ map all old
    pub ahead : AreAhead start (map list old) (map location new)
    pub steps : spent + sum_by left new ≤ sum_by left old
    pub each : (of : List ℕ → ℕ) → ((r : R) → cost r ≤ of (list r)) → spent ≤ sum_by of (take i (map list old))

  pub same_length : (os ns : List R) → map list ns ≡ map list os → length ns ≡ length os
  same_length os ns e = omega (arith, length-map ns list, length-map os list, ap length e)

  pub bringing_starts : (os : List R) (start spent : ℕ) → All Sound os → AreAhead start (map list os) (map location os) → spent ≡ 0 → IsBringing os os start 0 spent
  bringing_starts os start spent s a e = record { sound = s; lists = refl; alls = refl; ahead = a; steps = omega arith; each = λ of h. omega arith }

  pub bringing_on : (os ms ns : List R) (start i p q r : ℕ) → i < length os → IsBringing os ms start i p → AreMoved Sound list all left cost 1 ms ns q
      → AreAhead start (map list ms) (map location ns)
      → ((of : List ℕ → ℕ) → ((r : R) → cost r ≤ of (list r)) → q ≤ of (get_or (map list ms) i [])) → r ≤ p + q
      → IsBringing os ns start (i + 1) r
  bringing_on os ms ns start i p q r within b m ahead own le = record {
    sound = m.sound;
    lists = m.lists ∙ b.lists;
    alls = m.alls ∙ b.alls;
    ahead = subst (λ ls. AreAhead start ls (map location ns)) b.lists ahead;
    steps = omega (arith, b.steps, m.steps, le);
    each = λ of h. let ls = map list os in
        omega (
          arith,
          le,
          b.each of h,
          own of h,
          ap (λ l. of (get_or l i [])) b.lists,
          ap (sum_by of) (take_more ls i [] (omega (arith, length-map os list))),
          sum_by_push of (take i ls) (get_or ls i []),
        );
  }

  pub brought : (os ns : List R) (start i p r : ℕ) → IsBringing os ns start i p → r ≤ p → AreMoved Sound list all left cost 1 os ns r
  brought os ns start i p r b le = record {
    sound = b.sound;
    lists = b.lists;
    alls = b.alls;
    steps = omega (arith, b.steps, le);
    each = λ of h. omega (arith, le, b.each of h, sum_by-take-le of (map list os) i);
  }
