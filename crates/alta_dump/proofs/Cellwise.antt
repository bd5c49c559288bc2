-- The cells that a line makes, compared with those that were seen, one after the other.
use Rattle.std.proofs.Common.{◌≡◌, ℕ, zero, suc, ◌+◌, ◌<◌, List, [], ◌∷◌, length, get_or, map, drop, Bool, true, false, refl, sym, ap, ◌∙◌, arith}
use Rattle.std.specs.Prelude.{◌&&◌, nat_eq}
use Rattle.std.proofs.lemmas.Bool.{and_parts, and_left, false_from_ne_true, false≢true}
use Rattle.alta_gather.specs.declared.held.Held.{Held}
use Rattle.alta_machine.specs.declared.kinds.TheConstants.{WORD}
use Rattle.alta_machine.specs.DumpLines.{is_alike, are_alike}
use Rattle.alta_machine.specs.Plain.{ends_document, of_kind}
use Rattle.alta_dump.specs.Seen.{AreFoldings, AreFolded, EndAtLast}

pub folded_long : (terms : List (List ℕ)) (words : List Held) (cells : List (List (List ℕ))) → AreFolded terms words cells → length words ≡ length cells
folded_long terms [] [] are = refl
folded_long terms [] (cell ∷ cells) are = absurd are
folded_long terms (held ∷ words) [] are = absurd are
folded_long terms (held ∷ words) (cell ∷ cells) are = ap suc (folded_long terms words cells are.1)

alike_long : (xs ys : List (List (List ℕ))) → are_alike xs ys ≡ true → length xs ≡ length ys
alike_long [] [] h = refl
alike_long [] (y ∷ ys) h = absurd (false≢true h)
alike_long (x ∷ xs) [] h = absurd (false≢true h)
alike_long (x ∷ xs) (y ∷ ys) h = ap suc (alike_long xs ys (and_parts (is_alike x y) (are_alike xs ys) h).1)

pub not_as_many : (xs ys : List (List (List ℕ))) → (length xs ≡ length ys → ⊥) → false ≡ are_alike xs ys
not_as_many xs ys apart = sym (false_from_ne_true (are_alike xs ys) (λ h. apart (alike_long xs ys h)))

alike_at : (xs ys : List (List (List ℕ))) (i : ℕ) (d : List (List ℕ)) → i < length xs → i < length ys
    → are_alike (drop i xs) (drop i ys) ≡ (is_alike (get_or xs i d) (get_or ys i []) && are_alike (drop (suc i) xs) (drop (suc i) ys))
alike_at [] ys i d lt lt' = absurd (omega (arith, lt))
alike_at (x ∷ xs) [] i d lt lt' = absurd (omega (arith, lt'))
alike_at (x ∷ xs) (y ∷ ys) zero d lt lt' = refl
alike_at (x ∷ xs) (y ∷ ys) (suc i) d lt lt' = alike_at xs ys i d (omega (arith, lt)) (omega (arith, lt'))

-- one cell more is alike
pub alike_next : (xs ys : List (List (List ℕ))) (i : ℕ) (d : List (List ℕ)) (all : Bool) → i < length xs → i < length ys → true ≡ is_alike (get_or xs i d) (get_or ys i [])
    → all ≡ are_alike (drop i xs) (drop i ys) → all ≡ are_alike (drop (i + 1) xs) (drop (i + 1) ys)
alike_next xs ys i d all lt lt' here so_far =
    let more : suc i ≡ i + 1 = omega arith in
    so_far ∙ alike_at xs ys i d lt lt' ∙ ap (λ (b : Bool). b && are_alike (drop (suc i) xs) (drop (suc i) ys)) (sym here)
    ∙ ap (λ (n : ℕ). are_alike (drop n xs) (drop n ys)) more

-- one cell is not
pub alike_none : (xs ys : List (List (List ℕ))) (i : ℕ) (d : List (List ℕ)) (all : Bool) → i < length xs → i < length ys → false ≡ is_alike (get_or xs i d) (get_or ys i [])
    → all ≡ are_alike (drop i xs) (drop i ys) → false ≡ all
alike_none xs ys i d all lt lt' here so_far =
    sym (so_far ∙ alike_at xs ys i d lt lt' ∙ and_left (is_alike (get_or xs i d) (get_or ys i [])) (are_alike (drop (suc i) xs) (drop (suc i) ys)) (sym here))

past : (xs ys : List (List (List ℕ))) → xs ≡ [] → ys ≡ [] → are_alike xs ys ≡ true
past xs ys a b = ap (λ (l : List (List (List ℕ))). are_alike l ys) a ∙ ap (are_alike []) b

pub folded_at : (terms : List (List ℕ)) (words : List Held) (cells : List (List (List ℕ))) (i : ℕ) (d : Held) → i < length words → AreFolded terms words cells
    → AreFoldings terms (get_or words i d) (of_kind WORD (get_or cells i []))
folded_at terms [] cells i d lt are = absurd (omega (arith, lt))
folded_at terms (held ∷ words) [] i d lt are = absurd are
folded_at terms (held ∷ words) (cell ∷ cells) zero d lt are = are.0
folded_at terms (held ∷ words) (cell ∷ cells) (suc i) d lt are = folded_at terms words cells i d (omega (arith, lt)) are.1

pub same_at : (p : Held → Bool) (q : List (List ℕ) → Bool) (xs : List Held) (ys : List (List (List ℕ))) (i : ℕ) (d : Held) → i < length xs → map p xs ≡ map q ys → p (get_or xs i d) ≡ q (get_or ys i [])
same_at p q [] ys i d lt e = absurd (omega (arith, lt))
same_at p q (x ∷ xs) [] i d lt e = let k : p x ∷ map p xs ≡ [] = e in absurd (cc k)
same_at p q (x ∷ xs) (y ∷ ys) zero d lt e = let k : p x ∷ map p xs ≡ q y ∷ map q ys = e in cc k
same_at p q (x ∷ xs) (y ∷ ys) (suc i) d lt e =
    let k : p x ∷ map p xs ≡ q y ∷ map q ys = e in
    let rest : map p xs ≡ map q ys = cc k in
    same_at p q xs ys i d (omega (arith, lt)) rest

-- the document ends at the last cell
pub last_is : (last : Bool) (xs ys : List (List (List ℕ))) (i : ℕ) → length xs ≡ length ys → i < length ys → last ≡ nat_eq (i + 1) (length xs) → EndAtLast ys → last ≡ ends_document (get_or ys i [])
last_is last xs ys i long within is ends = is ∙ ap (nat_eq (i + 1)) long ∙ sym (ends i within)
