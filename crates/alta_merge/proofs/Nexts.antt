-- The next term of parts.
use Rattle.std.proofs.Common.{◌≡◌, ⊎_elim, ℕ, ◌+◌, ◌<◌, true, false, List, [], ◌∷◌, length, get_or, refl, sym, ap, subst, ◌∙◌, arith}
use Rattle.std.specs.Ordering.{is_le}
use Rattle.std.specs.declared.cmp.Ordering.TheVariants.{Less, Greater}
use Rattle.std.proofs.lemmas.Bool.{cases_lt, true≢false}
use Rattle.std.proofs.lemmas.Cmp.{nat_list_cmp_total, tied_itself}
use Rattle.alta_content.specs.TermList.{TermList}
use Rattle.alta_content.specs.Fronts.{front_term}
use Rattle.alta_merge.specs.Fronts.{AreNext, IsFirstLeft, IsNext, NoneLeft, against, begins, next_term}
use Rattle.alta_merge.proofs.Takes.{NoneFrom, less_begins}
use Rattle.alta_content.proofs.Order.{by_order, cmp, equal_same, greater_less, less_on}

-- the term with which a part begins is not above it
self_low : (p : List TermList) → is_le (against (front_term p) p) ≡ true
self_low [] = refl
self_low (l ∷ ls) = ap is_le (tied_itself nat_list_cmp_total l.term)

-- a term below one that is not above a part is below that part
pub below_low : (u t : List ℕ) (p : List TermList) → cmp u t ≡ Less → is_le (against t p) ≡ true → against u p ≡ Less
below_low u t [] h k = refl
below_low u t (l ∷ ls) h k =
    by_order (cmp t l.term)
    (λ e. less_on u t l.term h e)
    (λ e. subst (λ v. cmp u v ≡ Less) (equal_same t l.term e) h)
    (λ e. absurd (true≢false (sym k ∙ ap is_le e)))

-- a part that has a list stands to a term as its own term does
pub compared : (t : List ℕ) (p : List TermList) → 0 < length p → against t p ≡ cmp t (front_term p)
compared t [] some = absurd (omega (arith, some))
compared t (l ∷ ls) some = refl

-- a part with a term below those of all before it
new_next : (parts : List (List TermList)) (i : ℕ) → i < length parts → 0 < length (get_or parts i [])
    → ((k : ℕ) → k < i → against (next_term parts i) (get_or parts k []) ≡ Less) → IsNext parts (i + 1) i
new_next parts i within some before = record {
  within = omega arith;
  some = some;
  lowest = λ k m. ⊎_elim
      (λ w. ap is_le (before k w))
      (λ w. let same : i ≡ k = omega (arith, m, w) in subst (λ j. is_le (against (next_term parts i) (get_or parts j [])) ≡ true) same (self_low (get_or parts i [])))
      (cases_lt k i);
  first = before;
}

pub lower_next : (parts : List (List TermList)) (i next : ℕ) → i < length parts → 0 < length (get_or parts i []) → IsNext parts i next
    → cmp (next_term parts next) (next_term parts i) ≡ Greater → IsNext parts (i + 1) i
lower_next parts i next within some is above =
    let less : cmp (next_term parts i) (next_term parts next) ≡ Less = greater_less (next_term parts next) (next_term parts i) above in
    new_next parts i within some (λ k m. below_low (next_term parts i) (next_term parts next) (get_or parts k []) less (is.lowest k m))

pub first_next : (parts : List (List TermList)) (i : ℕ) → i < length parts → 0 < length (get_or parts i []) → NoneLeft parts i → IsNext parts (i + 1) i
first_next parts i within some none = new_next parts i within some (λ k m. ap (against (next_term parts i)) (none k m))

-- a part more whose term is not below the least
later_next : (parts : List (List TermList)) (i next : ℕ) → IsNext parts i next → is_le (against (next_term parts next) (get_or parts i [])) ≡ true → IsNext parts (i + 1) next
later_next parts i next is low = record {
  within = omega (arith, is.within);
  some = is.some;
  lowest = λ k m. ⊎_elim
      (λ w. is.lowest k w)
      (λ w. let same : i ≡ k = omega (arith, m, w) in subst (λ j. is_le (against (next_term parts next) (get_or parts j [])) ≡ true) same low)
      (cases_lt k i);
  first = is.first;
}

-- ---- the first and the last that begin with the least term

-- of the parts up to the first of them
alone : (parts : List (List TermList)) (i : ℕ) → IsNext parts (i + 1) i → AreNext parts (i + 1) i i
alone parts i is = record { next = is; from = omega arith; within = omega arith; after = λ k a m. absurd (omega (arith, a, m)) }

pub lower_are : (parts : List (List TermList)) (i first last : ℕ) → i < length parts → 0 < length (get_or parts i []) → AreNext parts i first last
    → cmp (next_term parts first) (next_term parts i) ≡ Greater → AreNext parts (i + 1) i i
lower_are parts i first last within some are above = alone parts i (lower_next parts i first within some are.next above)

pub first_are : (parts : List (List TermList)) (i : ℕ) → IsFirstLeft parts i → AreNext parts (i + 1) i i
first_are parts i is = alone parts i (first_next parts i is.within is.some is.none)

-- a part more with a term above the least
pub above_are : (parts : List (List TermList)) (i first last : ℕ) → AreNext parts i first last → against (next_term parts first) (get_or parts i []) ≡ Less → AreNext parts (i + 1) first last
above_are parts i first last are less = record {
  next = later_next parts i first are.next (ap is_le less);
  from = are.from;
  within = omega (arith, are.within);
  after = λ k a m. ⊎_elim
      (λ w. are.after k a w)
      (λ w. let same : i ≡ k = omega (arith, m, w) in subst (λ j. begins (next_term parts first) (get_or parts j []) ≡ false) same (less_begins (next_term parts first) (get_or parts i []) less))
      (cases_lt k i);
}

-- a part more that begins with it
pub same_are : (parts : List (List TermList)) (i first last : ℕ) → AreNext parts i first last → is_le (against (next_term parts first) (get_or parts i [])) ≡ true → AreNext parts (i + 1) first i
same_are parts i first last are low = record {
  next = later_next parts i first are.next low;
  from = omega (arith, are.from, are.within);
  within = omega arith;
  after = λ k a m. absurd (omega (arith, a, m));
}

-- no part behind the last begins with it
pub none_behind : (parts : List (List TermList)) (first last : ℕ) → AreNext parts (length parts) first last → NoneFrom (next_term parts first) parts (last + 1)
none_behind parts first last are = λ k a m. are.after k (omega (arith, a)) m
