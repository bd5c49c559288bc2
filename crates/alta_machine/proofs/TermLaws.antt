-- Terms of ranges differ, rise with their levels, and are no text.
use Rattle.std.proofs.Common.{◌≡◌, ℕ, ◌^◌, ◌<◌, ◌==◌, Bool, true, false, cond, ◌&&◌, List, [], ◌∷◌, ◌++◌, get_or, arith, refl, sym, ap, subst}
use Rattle.std.specs.Int.{w32, to_be_bytes}
use Rattle.std.specs.Ordering.{nat_cmp, ordering_then}
use Rattle.std.specs.Prelude.{nat_lt, encode_utf8_all}
use Rattle.std.specs.Str.{IsUtf8, all_scalars}
use Rattle.std.specs.Char.{IsScalar, encode_utf8}
use Rattle.std.specs.Cmp.Lexicographic.{slice_cmp}
use Rattle.std.specs.declared.cmp.Ordering.TheVariants.{Less, Equal, Greater}
use Rattle.std.proofs.lemmas.Bool.{false≢true}
use Rattle.std.proofs.lemmas.Bool.Decides.{nat_tests}
use Rattle.std.proofs.lemmas.Str.{IsUtf8-past_char, encode_ascii}
use Rattle.alta_codec.specs.Order.{Precedes}
use Rattle.alta_machine.specs.RangeLaws.{AreApart}
use Rattle.alta_machine.specs.Terms.{term_bytes}
use Rattle.alta_machine.proofs.Once.{of_terms, same_prefix}

is_lt : (m n : ℕ) → m < n → nat_lt m n ≡ true
is_lt m n h = grind (arith, nat_tests)

less_is : (k j : ℕ) → k < j → nat_cmp k j ≡ Less
less_is k j h = ap (λ b. cond b Less (cond (k == j) Equal Greater)) (is_lt k j h)

rising : (k j a b : ℕ) → k < j → Precedes (term_bytes k a) (term_bytes j b)
unfolding term_bytes
rising k j a b h = ap (λ o. ordering_then o (slice_cmp nat_cmp (to_be_bytes w32 a) (to_be_bytes w32 b))) (less_is k j h)

-- ---- no text begins with the byte ff

lt_is : (m n : ℕ) → nat_lt m n ≡ true → m < n
lt_is m n h = grind (arith, nat_tests)

chosen : (P : List ℕ → Type 0) (b : Bool) (xs ys : List ℕ) → (b ≡ true → P xs) → (b ≡ false → P ys) → P (cond b xs ys)
chosen P true xs ys h k = h refl
chosen P false xs ys h k = k refl

scalar_below : (c : ℕ) → IsScalar c → c < 1114112
scalar_below c h = grind (arith, nat_tests)

first_low : (c : ℕ) (rest : List ℕ) → IsScalar c → get_or (encode_utf8 c ++ rest) 0 0 < 255
unfolding encode_utf8
first_low c rest scalar =
    let below : c < 1114112 = scalar_below c scalar in
    chosen (λ xs. get_or (xs ++ rest) 0 0 < 255) (nat_lt c 128) _ _
    (λ one. let h : c < 128 = lt_is c 128 one in omega arith)
    (λ more. chosen (λ xs. get_or (xs ++ rest) 0 0 < 255) (nat_lt c 2048) _ _
    (λ two. let h : c < 2048 = lt_is c 2048 two in omega arith)
    (λ many. chosen (λ xs. get_or (xs ++ rest) 0 0 < 255) (nat_lt c 65536) _ _
    (λ three. let h : c < 65536 = lt_is c 65536 three in omega arith)
    (λ four. omega arith)))

head_scalar : (a b : Bool) → (a && b) ≡ true → a ≡ true
head_scalar true b h = refl
head_scalar false b h = absurd (false≢true h)

chars_low : (cs : List ℕ) → all_scalars cs ≡ true → get_or (encode_utf8_all cs) 0 0 < 255
chars_low [] h = omega arith
chars_low (c ∷ cs) h = first_low c (encode_utf8_all cs) (head_scalar _ (all_scalars cs) h)

pub text_low : (text : List ℕ) → IsUtf8 text → get_or text 0 0 < 255
text_low text (cs, (scalars, e)) = subst (λ (bytes : List ℕ). get_or bytes 0 0 < 255) e (chars_low cs scalars)

no_kind : (kind level prefix : ℕ) (text : List ℕ) → IsUtf8 text → kind ∷ text ≡ term_bytes level prefix → ⊥
unfolding term_bytes
no_kind kind level prefix text u e =
    let low : get_or text 0 0 < 255 = text_low text u in
    let is : get_or text 0 0 ≡ 255 = ap (λ (bytes : List ℕ). get_or bytes 1 0) e in
    omega arith

no_text : (level prefix : ℕ) → IsUtf8 (term_bytes level prefix) → ⊥
unfolding term_bytes
no_text level prefix u =
    let rest = IsUtf8-past_char (88 ∷ 255 ∷ level ∷ to_be_bytes w32 prefix) (255 ∷ level ∷ to_be_bytes w32 prefix) 88 u
    (ap (λ (bytes : List ℕ). bytes ++ 255 ∷ level ∷ to_be_bytes w32 prefix) (sym (encode_ascii 88 (omega arith)))) in
    let low : 255 < 255 = text_low (255 ∷ level ∷ to_be_bytes w32 prefix) rest in
    omega arith

one : (k j a b : ℕ) → a < 2 ^ 32 → b < 2 ^ 32 → term_bytes k a ≡ term_bytes j b → (k ≡ j) × (a ≡ b)
one k j a b x y e = let two = of_terms k j a b e in (two.0, same_prefix a b x y two.1)

pub are_apart : AreApart
are_apart = record { one = one; rising = rising; no_text = no_text; no_kind = no_kind }
