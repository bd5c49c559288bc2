-- The range terms of a number, behind the term of its folding.
use Rattle.std.proofs.Common.{◌≡◌, ℕ, zero, suc, ◌+◌, ◌-◌, ◌/◌, ◌^◌, ◌≤◌, ◌<◌, List, [], ◌∷◌, ◌++◌, length, get_or, arith, refl, sym, ap, ◌∙◌, subst, append-nil, append_assoc, Bool, false, ◌||◌, Option, Some, None}
use Rattle.std.specs.Cmp.Lexicographic.{slice_cmp}
use Rattle.std.specs.Int.{w32, to_be_bytes}
use Rattle.std.specs.List.{AllByRecursion, list_any}
use Rattle.std.specs.List.Sorted.{IsStrictlySortedBy}
use Rattle.std.specs.Ordering.{nat_cmp}
use Rattle.std.specs.declared.cmp.Ordering.TheVariants.{Less}
use Rattle.alta_codec.specs.Order.{Precedes}
use Rattle.alta_machine.specs.Cells.{AreInOrder, IsCell, numbered}
use Rattle.alta_machine.specs.Terms.{term_bytes, terms_from, range_terms}
use Rattle.alta_machine.proofs.TermLaws.{are_apart}

-- one level more
pub ranges_step : (value level : ℕ) (old new whole : List (List ℕ)) (term : List ℕ) → level < 33 → term ≡ term_bytes level (value / 2 ^ level) → new ≡ old ++ term ∷ []
    → old ++ terms_from value level (33 - level) ≡ whole → new ++ terms_from value (level + 1) (33 - (level + 1)) ≡ whole
unfolding terms_from
ranges_step value level old new whole term low is pushed same =
    let rest = terms_from value (level + 1) (33 - (level + 1)) in
    let e : suc (33 - (level + 1)) ≡ 33 - level = omega arith in
    ap (λ (ts : List (List ℕ)). ts ++ rest) pushed ∙ append_assoc old (term ∷ []) rest ∙ ap (λ (t : List ℕ). old ++ (t ∷ rest)) is
    ∙ ap (λ (n : ℕ). old ++ terms_from value level n) e ∙ same

pub ranges_start : (value : ℕ) (old : List (List ℕ)) → old ++ terms_from value 0 (33 - 0) ≡ old ++ range_terms value
unfolding range_terms
ranges_start value old = refl

pub ranges_end : (value level : ℕ) (items whole : List (List ℕ)) → 33 ≤ level → items ++ terms_from value level (33 - level) ≡ whole → items ≡ whole
unfolding terms_from
ranges_end value level items whole past same =
    let e : 33 - level ≡ 0 = omega arith in
    sym (append-nil items) ∙ sym (ap (λ (n : ℕ). items ++ terms_from value level n) e) ∙ same

in_order : (n level value : ℕ) (term : List ℕ) → Precedes term (term_bytes level (value / 2 ^ level)) → AreInOrder (term ∷ terms_from value level n)
unfolding terms_from
in_order zero level value term first = tt
in_order (suc n) level value term first =
    (first, in_order n (level + 1) value (term_bytes level (value / 2 ^ level)) (are_apart.rising level (level + 1) (value / 2 ^ level) (value / 2 ^ (level + 1)) (omega arith)))

so_many : (n level value : ℕ) → length (terms_from value level n) ≡ n
unfolding terms_from
so_many zero level value = refl
so_many (suc n) level value = ap suc (so_many n (level + 1) value)

word_first : (rest : List ℕ) (level prefix : ℕ) → Precedes (87 ∷ rest) (term_bytes level prefix)
unfolding term_bytes
word_first rest level prefix = refl

folding_first : (folding : List ℕ) (level prefix : ℕ) → get_or folding 0 0 ≡ 87 → Precedes folding (term_bytes level prefix)
folding_first [] level prefix e = absurd (omega arith)
folding_first (b ∷ rest) level prefix e = subst (λ (k : ℕ). Precedes (k ∷ rest) (term_bytes level prefix)) (sym e) (word_first rest level prefix)

-- the folding's term and the range terms are a cell
pub number_is_cell : (folding : List ℕ) (value : ℕ) → get_or folding 0 0 ≡ 87 → IsCell (folding ∷ range_terms value)
unfolding range_terms
number_is_cell folding value e = record {
  ordered = in_order 33 0 value folding (folding_first folding 0 (value / 2 ^ 0) e);
  few = omega (arith, so_many 33 0 value);
}

pub cell_is : (folding : List ℕ) (value : ℕ) (terms : List (List ℕ)) → get_or folding 0 0 ≡ 87 → terms ≡ folding ∷ range_terms value → IsCell terms
cell_is folding value terms e is = subst IsCell (sym is) (number_is_cell folding value e)

-- ---- what holds of the terms of a word that is its folding

abbrev After : List ℕ → List (List ℕ) → Type 0
After term terms = AllByRecursion (λ next. slice_cmp nat_cmp term next ≡ Less) terms

after : (n level value : ℕ) (term : List ℕ) → ((k prefix : ℕ) → level ≤ k → Precedes term (term_bytes k prefix)) → After term (terms_from value level n)
unfolding terms_from
after zero level value term first = tt
after (suc n) level value term first = (first level (value / 2 ^ level) (omega arith), after n (level + 1) value term (λ k prefix le. first k prefix (omega arith)))

sorted_from : (n level value : ℕ) → IsStrictlySortedBy (slice_cmp nat_cmp) (terms_from value level n)
unfolding terms_from IsStrictlySortedBy
sorted_from zero level value = tt
sorted_from (suc n) level value = (
  after n (level + 1) value (term_bytes level (value / 2 ^ level)) (λ k prefix le. are_apart.rising level k (value / 2 ^ level) prefix (omega arith)),
  sorted_from n (level + 1) value,
)

-- they rise
pub numbered_sorted : (folded : List ℕ) (number : Option ℕ) → IsStrictlySortedBy (slice_cmp nat_cmp) ((87 ∷ folded) ∷ numbered number)
unfolding range_terms IsStrictlySortedBy
numbered_sorted folded None = (tt, tt)
numbered_sorted folded (Some value) = (after 33 0 value (87 ∷ folded) (λ k prefix le. word_first folded k prefix), sorted_from 33 0 value)

each_from : (P : List ℕ → Type 0) → ((level prefix : ℕ) → P (term_bytes level prefix)) → (n level value : ℕ) → AllByRecursion P (terms_from value level n)
unfolding terms_from
each_from P each zero level value = tt
each_from P each (suc n) level value = (each level (value / 2 ^ level), each_from P each n (level + 1) value)

-- what holds of each range term
pub numbered_all : (P : List ℕ → Type 0) → ((level prefix : ℕ) → P (88 ∷ 255 ∷ level ∷ to_be_bytes w32 prefix)) → (number : Option ℕ) → AllByRecursion P (numbered number)
unfolding range_terms term_bytes
numbered_all P each None = tt
numbered_all P each (Some value) = each_from P each 33 0 value

none_from : (p : List ℕ → Bool) → ((level prefix : ℕ) → p (term_bytes level prefix) ≡ false) → (n level value : ℕ) → list_any p (terms_from value level n) ≡ false
unfolding terms_from
none_from p none zero level value = refl
none_from p none (suc n) level value =
    ap (λ b. b || list_any p (terms_from value (level + 1) n)) (none level (value / 2 ^ level)) ∙ none_from p none n (level + 1) value

-- what none of them passes
pub numbered_none : (p : List ℕ → Bool) → ((level prefix : ℕ) → p (88 ∷ 255 ∷ level ∷ to_be_bytes w32 prefix) ≡ false) → (number : Option ℕ) → list_any p (numbered number) ≡ false
unfolding range_terms term_bytes
numbered_none p none None = refl
numbered_none p none (Some value) = none_from p none 33 0 value
