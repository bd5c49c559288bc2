-- Lists of one member.
use Rattle.std.proofs.Common.{◌≡◌, ℕ, ◌≤◌, ◌<◌, List, [], ◌∷◌, length, get_or, map, refl, ap, ◌∙◌, arith, Bool, true, false}
use Rattle.std.specs.Str.{bytes_eq}
use Rattle.alta_text.specs.Words.{pair_of}
use Rattle.alta_text.specs.declared.word.Word.{Word}
use Rattle.alta_machine.specs.Shape.{all, any, shapes_of, all_of, any_of}
use Rattle.alta_query.specs.View.{shape}
use Rattle.alta_machine.specs.Words.{is_only, is_short}
use Rattle.alta_query.specs.declared.query.Query.{Query}

-- the members of an and or an or, where there is one and where there is not
pub all_one : (members : List Query) (q : Query) (n m : ℕ) → n ≡ m → m ≡ length members → n ≡ 1 → q ≡ get_or members 0 q → shape q ≡ all_of (map shape members)
all_one [] q n m e len one is = absurd (omega (arith, e, len, one))
all_one (x ∷ []) q n m e len one is = ap shape is
all_one (x ∷ y ∷ xs) q n m e len one is = absurd (omega (arith, e, len, one))

pub any_one : (members : List Query) (q : Query) (n m : ℕ) → n ≡ m → m ≡ length members → n ≡ 1 → q ≡ get_or members 0 q → shape q ≡ any_of (map shape members)
any_one [] q n m e len one is = absurd (omega (arith, e, len, one))
any_one (x ∷ []) q n m e len one is = ap shape is
any_one (x ∷ y ∷ xs) q n m e len one is = absurd (omega (arith, e, len, one))

pub all_many : (members : List Query) (n m : ℕ) → n ≡ m → m ≡ length members → (n ≡ 1 → ⊥) → all (shapes_of (map shape members)) ≡ all_of (map shape members)
all_many [] n m e len many = refl
all_many (x ∷ []) n m e len many = absurd (many (omega (arith, e, len)))
all_many (x ∷ y ∷ xs) n m e len many = refl

pub any_many : (members : List Query) (n m : ℕ) → n ≡ m → m ≡ length members → (n ≡ 1 → ⊥) → any (shapes_of (map shape members)) ≡ any_of (map shape members)
any_many [] n m e len many = refl
any_many (x ∷ []) n m e len many = absurd (many (omega (arith, e, len)))
any_many (x ∷ y ∷ xs) n m e len many = refl

-- the only word of a text
pub only_same : (found : List Word) (text : List ℕ) (w : Word) (short : Bool) → 1 ≤ length found → length found < 2 → w ≡ get_or found 0 w → bytes_eq w.written text ≡ true → short ≡ is_short (pair_of w) → short ≡ is_only (map pair_of found) text
only_same [] text w short some few is same e = absurd (omega (arith, some))
only_same (x ∷ []) text w short some few is same e = e ∙ rw (← is, same) refl
only_same (x ∷ y ∷ xs) text w short some few is same e = absurd (omega (arith, few))

pub only_other : (found : List Word) (text : List ℕ) (w : Word) → 1 ≤ length found → length found < 2 → w ≡ get_or found 0 w → bytes_eq w.written text ≡ false → false ≡ is_only (map pair_of found) text
only_other [] text w some few is other = absurd (omega (arith, some))
only_other (x ∷ []) text w some few is other = rw (← is, other) refl
only_other (x ∷ y ∷ xs) text w some few is other = absurd (omega (arith, few))

pub only_none : (found : List Word) (text : List ℕ) → length found < 1 → false ≡ is_only (map pair_of found) text
only_none [] text none = refl
only_none (x ∷ xs) text none = absurd (omega (arith, none))
