-- Laws of texts that went out whole.
use Rattle.std.proofs.Common.{◌≡◌, ℕ, ◌+◌, ◌<◌, ◌≤◌, ◌⊎◌, inl, inr, zero, suc, Bool, true, false, ◌==◌, List, [], ◌∷◌, ◌++◌, length, take, drop, refl, ap, sym, ◌∙◌, append_assoc, append-nil, length-append, arith}
use Rattle.std.proofs.lemmas.Grind.{common_steps}
use Rattle.std.proofs.lemmas.List.{take-append-drop, append_cancel_left}
use Rattle.std.proofs.lemmas.Bool.{cases_lt}
use Rattle.std.specs.List.{concat}
use Rattle.alta_console.specs.Replies.{IsPrefix, IsAcked, IsPartOfFirst}

pub joined_append : (xs ys : List (List ℕ)) → concat (xs ++ ys) ≡ concat xs ++ concat ys
joined_append [] ys = refl
joined_append (x ∷ xs) ys = ap (λ (l : List ℕ). x ++ l) (joined_append xs ys) ∙ sym (append_assoc x (concat xs) (concat ys))

pub joined_parts : (k : ℕ) (texts : List (List ℕ)) → concat texts ≡ concat (take k texts) ++ concat (drop k texts)
joined_parts k texts = ap concat (sym (take-append-drop k texts)) ∙ joined_append (take k texts) (drop k texts)

pub part_begins : (texts : List (List ℕ)) (part : List ℕ) → IsPartOfFirst texts part → IsPrefix part (concat texts)
part_begins [] part none = ([], sym (append-nil part ∙ none))
part_begins (text ∷ texts) part first = (first.0 ++ concat texts, ap (λ (l : List ℕ). l ++ concat texts) first.1 ∙ append_assoc part first.0 (concat texts))

-- more texts, joined, are longer than fewer and a part of the next
longer : (texts : List (List ℕ)) (k j : ℕ) (part : List ℕ) → k < j → j ≤ length texts → IsPartOfFirst (drop k texts) part → length (concat (take k texts)) + length part < length (concat (take j texts))
longer [] k j part l h p = absurd (omega arith)
longer (text ∷ texts) k zero part l h p = absurd (omega arith)
longer (text ∷ texts) zero (suc j) part l h p = omega (arith, length-append text (concat (take j texts)), ap length p.1, length-append part p.0, p.2)
longer (text ∷ texts) (suc k) (suc j) part l h p = omega (arith, longer texts k j part (omega arith) (omega arith) p, length-append text (concat (take j texts)), length-append text (concat (take k texts)))

-- where the first k texts were given, and less than the next, k went out whole
pub acked_part : (k : ℕ) (texts : List (List ℕ)) (given part : List ℕ) → k ≤ length texts → given ≡ concat (take k texts) ++ part → IsPartOfFirst (drop k texts) part → IsAcked k texts given
acked_part k texts given part within is first = record {
  within = within;
  begins = (part, is);
  greatest = λ j h begins. elim (cases_lt k j) [ inl l ↦ absurd (omega (arith, longer texts k j part l h first, ap length begins.1, ap length is, length-append (concat (take j texts)) begins.0, length-append (concat (take k texts)) part)) | inr l ↦ l ];
}

-- there is one such number
pub acked_same : (k j : ℕ) (texts : List (List ℕ)) (given : List ℕ) → IsAcked k texts given → IsAcked j texts given → k ≡ j
acked_same k j texts given p q = omega (arith, p.greatest j q.within q.begins, q.greatest k p.within p.begins)

decide_byte : (x y : ℕ) (xs ys : List ℕ) (b : Bool) → (x == y) ≡ b → IsPrefix xs ys ⊎ (IsPrefix xs ys → ⊥) → IsPrefix (x ∷ xs) (y ∷ ys) ⊎ (IsPrefix (x ∷ xs) (y ∷ ys) → ⊥)
decide_byte x y xs ys true t (inl p) =
    let same : y ≡ x = grind (arith, common_steps) in
    inl (p.0, ap (λ (l : List ℕ). y ∷ l) p.1 ∙ ap (λ (n : ℕ). n ∷ xs ++ p.0) same)
decide_byte x y xs ys true t (inr other) = inr (λ p. other (p.0, grind (arith, common_steps, p.1)))
decide_byte x y xs ys false t either = inr (λ p. let same : y ≡ x = grind (arith, common_steps, p.1) in grind (arith, common_steps))

decide_prefix : (xs ys : List ℕ) → IsPrefix xs ys ⊎ (IsPrefix xs ys → ⊥)
decide_prefix [] ys = inl (ys, refl)
decide_prefix (x ∷ xs) [] = inr (λ p. let e : [] ≡ (x ∷ xs) ++ p.0 = p.1 in cc)
decide_prefix (x ∷ xs) (y ∷ ys) = decide_byte x y xs ys (x == y) refl (decide_prefix xs ys)

one_more : (text rest given : List ℕ) (texts : List (List ℕ)) (k : ℕ) → given ≡ text ++ rest → IsAcked k texts rest → IsAcked (suc k) (text ∷ texts) given
one_more text rest given texts k is p = record {
  within = omega (arith, p.within);
  begins = (p.begins.0, is ∙ ap (λ (l : List ℕ). text ++ l) p.begins.1 ∙ sym (append_assoc text (concat (take k texts)) p.begins.0));
  greatest = λ j h begins. up_to j h begins;
}
  where
    up_to : (j : ℕ) → j ≤ length (text ∷ texts) → IsPrefix (concat (take j (text ∷ texts))) given → j ≤ suc k
    up_to zero h begins = omega arith
    up_to (suc j) h begins =
        let rest_is : rest ≡ concat (take j texts) ++ begins.0 = append_cancel_left text rest (concat (take j texts) ++ begins.0) (sym is ∙ begins.1 ∙ append_assoc text (concat (take j texts)) begins.0) in
        omega (arith, p.greatest j (omega arith) (begins.0, rest_is))

none_whole : (text given : List ℕ) (texts : List (List ℕ)) → (IsPrefix text given → ⊥) → IsAcked 0 (text ∷ texts) given
none_whole text given texts other = record { within = omega arith; begins = (given, refl); greatest = λ j h begins. up_to j begins }
  where
    up_to : (j : ℕ) → IsPrefix (concat (take j (text ∷ texts))) given → j ≤ 0
    up_to zero begins = omega arith
    up_to (suc j) begins = absurd (other (concat (take j texts) ++ begins.0, begins.1 ∙ append_assoc text (concat (take j texts)) begins.0))

-- there is such a number, whatever was given
pub acked_is : (texts : List (List ℕ)) (given : List ℕ) → (k : ℕ) × IsAcked k texts given
acked_is [] given = (0, record { within = omega arith; begins = (given, refl); greatest = λ j h begins. h })
acked_is (text ∷ texts) given =
    elim (decide_prefix text given) [ inl p ↦ let rest = acked_is texts p.0 in (suc rest.0, one_more text p.0 given texts rest.0 p.1 rest.1) | inr other ↦ (0, none_whole text given texts other) ]
