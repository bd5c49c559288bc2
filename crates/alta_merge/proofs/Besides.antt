-- The next term of parts, by their fronts.
use Rattle.std.proofs.Common.{◌≡◌, ⊎_elim, ℕ, zero, suc, ◌<◌, ◌≤◌, true, false, cond, List, [], ◌∷◌, ◌++◌, length, map, drop, get_or, set, refl, sym, ap, subst, ◌∙◌, append-nil, append_assoc, arith}
use Rattle.std.specs.List.{All, flat_map}
use Rattle.std.specs.Ordering.{is_le}
use Rattle.std.specs.Str.{bytes_eq}
use Rattle.std.proofs.lemmas.Bool.{cases_Bool}
use Rattle.alta_content.specs.TermList.{TermList}
use Rattle.alta_content.specs.Fronts.{front_term}
use Rattle.alta_content.specs.Joining.{gathered, locations_among}
use Rattle.alta_content.specs.Lists.{TermsRise}
use Rattle.alta_content.specs.Spans.{lists_outside, outside_of}
use Rattle.alta_content.specs.declared.spans.Span.{Span}
use Rattle.alta_merge.specs.Besides.{AreFronts, beside}
use Rattle.alta_merge.specs.Fronts.{AreNext, IsNext, NoneLeft, against, begins, behind, behind_next, front_of, if_some, next_list, next_term}
use Rattle.alta_merge.proofs.Taken.{outside_next, rises_next}
use Rattle.alta_merge.proofs.Takes.{least_of, no_terms}

abbrev Backs : Type 0
Backs = ℕ → List TermList

-- ---- each part

pub beside_many : (parts : List (List TermList)) (backs : Backs) → length (beside parts backs) ≡ length parts
beside_many [] backs = refl
beside_many (p ∷ ps) backs = ap suc (beside_many ps (λ i. backs (suc i)))

pub beside_at : (parts : List (List TermList)) (backs : Backs) (k : ℕ) → k < length parts → get_or (beside parts backs) k [] ≡ get_or parts k [] ++ backs k
beside_at [] backs k l = absurd (omega (arith, l))
beside_at (p ∷ ps) backs zero l = refl
beside_at (p ∷ ps) backs (suc k) l = beside_at ps (λ i. backs (suc i)) k (omega (arith, l))

-- where nothing stands behind them, they are the parts
pub beside_none : (parts : List (List TermList)) → beside parts (λ i. []) ≡ parts
beside_none [] = refl
beside_none (p ∷ ps) = ap (λ q. q ∷ beside ps (λ i. [])) (append-nil p) ∙ ap (λ l. p ∷ l) (beside_none ps)

-- ---- one part, behind which something stands only where it has a list

against_front : (t : List ℕ) (p b : List TermList) → (p ≡ [] → b ≡ []) → against t (p ++ b) ≡ against t p
against_front t [] b f = ap (against t) (f refl)
against_front t (l ∷ ls) b f = refl

begins_front : (t : List ℕ) (p b : List TermList) → (p ≡ [] → b ≡ []) → begins t (p ++ b) ≡ begins t p
begins_front t [] b f = ap (begins t) (f refl)
begins_front t (l ∷ ls) b f = refl

front_front : (t : List ℕ) (p b : List TermList) → (p ≡ [] → b ≡ []) → front_of t (p ++ b) ≡ front_of t p
front_front t [] b f = ap (front_of t) (f refl)
front_front t (l ∷ ls) b f = refl

term_front : (p b : List TermList) → (p ≡ [] → b ≡ []) → front_term (p ++ b) ≡ front_term p
term_front [] b f = ap front_term (f refl)
term_front (l ∷ ls) b f = refl

behind_front : (t : List ℕ) (p b : List TermList) → (p ≡ [] → b ≡ []) → behind t (p ++ b) ≡ behind t p ++ b
behind_front t [] b f = subst (λ (c : List TermList). behind t c ≡ c) (sym (f refl)) refl
behind_front t (l ∷ ls) b f = ⊎_elim (λ e. rw e refl) (λ n. rw n refl) (cases_Bool (bytes_eq t l.term))

longer : (p b : List TermList) → 0 < length p → 0 < length (p ++ b)
longer [] b h = absurd (omega (arith, h))
longer (l ∷ ls) b h = omega arith

-- ---- all parts

fronts_front : (t : List ℕ) (parts : List (List TermList)) (backs : Backs) → AreFronts parts backs → flat_map (front_of t) (beside parts backs) ≡ flat_map (front_of t) parts
fronts_front t [] backs f = refl
fronts_front t (p ∷ ps) backs f =
    ap (λ l. l ++ flat_map (front_of t) (beside ps (λ i. backs (suc i)))) (front_front t p (backs 0) (f 0))
    ∙ ap (λ l. front_of t p ++ l) (fronts_front t ps (λ i. backs (suc i)) (λ i. f (suc i)))

behind_beside : (t : List ℕ) (parts : List (List TermList)) (backs : Backs) → AreFronts parts backs → map (behind t) (beside parts backs) ≡ beside (map (behind t) parts) backs
behind_beside t [] backs f = refl
behind_beside t (p ∷ ps) backs f =
    ap (λ q. q ∷ map (behind t) (beside ps (λ i. backs (suc i)))) (behind_front t p (backs 0) (f 0))
    ∙ ap (λ l. (behind t p ++ backs 0) ∷ l) (behind_beside t ps (λ i. backs (suc i)) (λ i. f (suc i)))

module _ (parts : List (List TermList)) (backs : Backs) (f : AreFronts parts backs) where
  abbrev whole : List (List TermList)
  whole = beside parts backs

  abbrev part : ℕ → List TermList
  part k = get_or parts k []

  same_term : (k : ℕ) → k < length parts → next_term whole k ≡ next_term parts k
  same_term k l = ap front_term (beside_at parts backs k l) ∙ term_front (part k) (backs k) (f k)

  same_against : (t : List ℕ) (k : ℕ) → k < length parts → against t (get_or whole k []) ≡ against t (part k)
  same_against t k l = ap (against t) (beside_at parts backs k l) ∙ against_front t (part k) (backs k) (f k)

  same_begins : (t : List ℕ) (k : ℕ) → k < length parts → begins t (get_or whole k []) ≡ begins t (part k)
  same_begins t k l = ap (begins t) (beside_at parts backs k l) ∙ begins_front t (part k) (backs k) (f k)

  -- the next term of the fronts is that of all
  pub next_beside : (first last : ℕ) → AreNext parts (length parts) first last → AreNext whole (length whole) first last
  next_beside first last h =
      let many = beside_many parts backs in
      let t = next_term parts first in
      let same : next_term whole first ≡ t = same_term first h.next.within in
      let inside : first < length parts = h.next.within in
      record {
        next = record {
          within = omega (arith, many, inside);
          some = subst (λ (p : List TermList). 0 < length p) (sym (beside_at parts backs first inside)) (longer (part first) (backs first) h.next.some);
          lowest = λ k m.
              let l : k < length parts = omega (arith, m, many) in
              ap (λ u. is_le (against u (get_or whole k []))) same ∙ ap is_le (same_against t k l) ∙ h.next.lowest k l;
          first = λ k m.
              let l : k < length parts = omega (arith, m, inside) in
              ap (λ u. against u (get_or whole k [])) same ∙ same_against t k l ∙ h.next.first k m;
        };
        from = h.from;
        within = omega (arith, many, h.within);
        after = λ k a m.
            let l : k < length parts = omega (arith, m, many) in
            ap (λ u. begins u (get_or whole k [])) same ∙ same_begins t k l ∙ h.after k a l;
      }

  -- What the fronts give of the next term, all give; and what is left of the fronts is what is left of all.
  module _ (spans : List Span) (first last : ℕ) (rise : All TermsRise whole) (next : AreNext parts (length parts) first last) where
    left_beside : behind_next whole first ≡ beside (behind_next parts first) backs
    left_beside = ap (λ u. map (behind u) whole) (same_term first next.next.within) ∙ behind_beside (next_term parts first) parts backs f

    list_beside : next_list spans whole first ≡ next_list spans parts first
    list_beside =
        let build : List ℕ → List ℕ → TermList = λ t xs. record { term = t; locations = outside_of spans xs } in
        ap (λ t. build t (flat_map (front_of t) whole)) (same_term first next.next.within)
        ∙ ap (build (next_term parts first)) (fronts_front (next_term parts first) parts backs f)

    pub rises_beside : All TermsRise (beside (behind_next parts first) backs)
    rises_beside = subst (All TermsRise) left_beside (rises_next (next_term whole first) whole rise)

    pub outside_beside : lists_outside spans (gathered whole) ≡ if_some (next_list spans parts first) ++ lists_outside spans (gathered (beside (behind_next parts first) backs))
    outside_beside =
        outside_next spans (next_term whole first) whole (least_of whole first rise (next_beside first last next).next)
        ∙ ap (λ l. if_some l ++ lists_outside spans (gathered (behind_next whole first))) list_beside
        ∙ ap (λ ps. if_some (next_list spans parts first) ++ lists_outside spans (gathered ps)) left_beside

-- ---- more of a part is at hand

-- what stands behind the parts, with lists in front of what stands behind one
abbrev pub in_front : ℕ → List TermList → Backs → Backs
in_front zero new backs zero = new ++ backs zero
in_front zero new backs (suc k) = backs (suc k)
in_front (suc i) new backs zero = backs zero
in_front (suc i) new backs (suc k) = in_front i new (λ j. backs (suc j)) k

pub beside_more : (parts : List (List TermList)) (i : ℕ) (new : List TermList) (backs : Backs) → beside (set parts i (get_or parts i [] ++ new)) backs ≡ beside parts (in_front i new backs)
beside_more [] zero new backs = refl
beside_more [] (suc i) new backs = refl
beside_more (p ∷ ps) zero new backs = ap (λ q. q ∷ beside ps (λ k. backs (suc k))) (append_assoc p new (backs 0))
beside_more (p ∷ ps) (suc i) new backs = ap (λ l. (p ++ backs 0) ∷ l) (beside_more ps i new (λ k. backs (suc k)))

pub in_front_other : (i k : ℕ) (new : List TermList) (backs : Backs) → (k ≡ i → ⊥) → in_front i new backs k ≡ backs k
in_front_other zero zero new backs n = absurd (n refl)
in_front_other zero (suc k) new backs n = refl
in_front_other (suc i) zero new backs n = refl
in_front_other (suc i) (suc k) new backs n = in_front_other i k new (λ j. backs (suc j)) (λ e. n (ap suc e))

-- ---- where no part has a list

pub none_gathered : (spans : List Span) (parts : List (List TermList)) → NoneLeft parts (length parts) → lists_outside spans (gathered parts) ≡ []
none_gathered spans parts none = ap (λ ts. lists_outside spans (map (λ t. record { term = t; locations = locations_among parts t }) ts)) (no_terms parts none)
