-- Laws of lists of bytes.
use Rattle.std.proofs.Common.{◌≡◌, ⊎_elim, ℕ, zero, suc, ◌+◌, ◌-◌, ◌/◌, ◌%◌, ◌<◌, Bool, true, false, List, [], ◌∷◌, ◌++◌, length, get_or, take, drop, refl, sym, ap, subst, ◌∙◌, arith}
use Rattle.std.specs.Prelude.{◌==◌}
use Rattle.std.proofs.lemmas.Bool.{cases_lt}
use Rattle.std.proofs.lemmas.List.{length-take, get_or-take, get_or-drop, get_or_past}
use Rattle.std.proofs.lemmas.List.Elements.{All-nil, All-cons}
use Rattle.alta_codec.specs.Bytes.{AreBytes, Lacks, has_byte}
use Rattle.alta_codec.specs.Numbers.{spelling, number_bytes}
use Rattle.alta_codec.proofs.Numerals.{spelling_last, spelling_more}

pub AreBytes-nil : AreBytes []
AreBytes-nil i = omega arith

pub AreBytes-cons : (b : ℕ) (bytes : List ℕ) → b < 256 → AreBytes bytes → AreBytes (b ∷ bytes)
AreBytes-cons b bytes here more zero = here
AreBytes-cons b bytes here more (suc i) = more i

pub AreBytes-append : (front back : List ℕ) → AreBytes front → AreBytes back → AreBytes (front ++ back)
AreBytes-append [] back one two = two
AreBytes-append (b ∷ front) back one two = AreBytes-cons b (front ++ back) (one 0) (AreBytes-append front back (λ i. one (suc i)) two)

AreBytes-behind : (front rest : List ℕ) → AreBytes (front ++ rest) → AreBytes rest
AreBytes-behind [] rest h = h
AreBytes-behind (b ∷ front) rest h = AreBytes-behind front rest (λ i. h (suc i))

pub AreBytes-rest : (bytes front rest : List ℕ) → AreBytes bytes → bytes ≡ front ++ rest → AreBytes rest
AreBytes-rest bytes front rest h e = AreBytes-behind front rest (subst AreBytes e h)

pub AreBytes-take : (n : ℕ) (bytes : List ℕ) → AreBytes bytes → AreBytes (take n bytes)
AreBytes-take n bytes h i =
    ⊎_elim (λ lt. rw (get_or-take n bytes i 0 lt) (h i)) (λ le. rw (get_or_past (take n bytes) i 0 (omega (arith, length-take n bytes, le))) (omega arith)) (cases_lt i n)

pub AreBytes-drop : (n : ℕ) (bytes : List ℕ) → AreBytes bytes → AreBytes (drop n bytes)
AreBytes-drop n bytes h i = rw get_or-drop (h (n + i))

-- bytes that are bytes where they stand are bytes
pub AreBytes-within : (bytes : List ℕ) → ((i : ℕ) → i < length bytes → get_or bytes i 0 < 256) → AreBytes bytes
AreBytes-within bytes h i = ⊎_elim (λ within. h i within) (λ past. rw (get_or_past bytes i 0 past) (omega arith)) (cases_lt i (length bytes))

-- ---- numbers

spelling-AreBytes : (k n : ℕ) → AreBytes (spelling k n)
unfolding spelling
spelling-AreBytes zero n = AreBytes-nil
spelling-AreBytes (suc k) n =
    ⊎_elim (λ low. let is : spelling (suc k) n ≡ n ∷ [] = spelling_last (suc k) n (omega arith) low in subst AreBytes (sym is) (AreBytes-cons n [] (omega arith) AreBytes-nil))
    (λ high. let less : suc k - 1 ≡ k = omega arith in
    let is : spelling (suc k) n ≡ (128 + n % 128) ∷ spelling k (n / 128) = spelling_more (suc k) n (omega arith) high ∙ ap (λ i. (128 + n % 128) ∷ spelling i (n / 128)) less in
    subst AreBytes (sym is) (AreBytes-cons (128 + n % 128) (spelling k (n / 128)) (omega arith) (spelling-AreBytes k (n / 128))))
    (cases_lt n 128)

pub number_bytes-AreBytes : (n : ℕ) → AreBytes (number_bytes n)
unfolding number_bytes
number_bytes-AreBytes n = spelling-AreBytes 10 n

byte_and : (n : ℕ) (bytes : List ℕ) → AreBytes bytes → AreBytes (n % 256 ∷ bytes)
byte_and n bytes more = AreBytes-cons (n % 256) bytes (omega arith) more

eight_bytes : (a b c d e f g h : ℕ) → AreBytes (a % 256 ∷ b % 256 ∷ c % 256 ∷ d % 256 ∷ e % 256 ∷ f % 256 ∷ g % 256 ∷ h % 256 ∷ [])
eight_bytes a b c d e f g h =
    let one = byte_and h [] AreBytes-nil in
    let two = byte_and g (h % 256 ∷ []) one in
    let three = byte_and f (g % 256 ∷ h % 256 ∷ []) two in
    let four = byte_and e (f % 256 ∷ g % 256 ∷ h % 256 ∷ []) three in
    let five = byte_and d (e % 256 ∷ f % 256 ∷ g % 256 ∷ h % 256 ∷ []) four in
    let six = byte_and c (d % 256 ∷ e % 256 ∷ f % 256 ∷ g % 256 ∷ h % 256 ∷ []) five in
    let seven = byte_and b (c % 256 ∷ d % 256 ∷ e % 256 ∷ f % 256 ∷ g % 256 ∷ h % 256 ∷ []) six in
    byte_and a (b % 256 ∷ c % 256 ∷ d % 256 ∷ e % 256 ∷ f % 256 ∷ g % 256 ∷ h % 256 ∷ []) seven

-- ---- bytes that are lacking

differs : (byte b : ℕ) → (b == byte) ≡ false → b ≡ byte → ⊥
differs byte b e is = grind (arith, is, e)

lacks_behind : (byte b : ℕ) (bytes : List ℕ) (same : Bool) → (b == byte) ≡ same → has_byte byte (b ∷ bytes) ≡ false → (has_byte byte bytes ≡ false → Lacks byte bytes) → Lacks byte (b ∷ bytes)
lacks_behind byte b bytes true e none more = absurd (let f = rw e at none in cc)
lacks_behind byte b bytes false e none more = All-cons (λ (x : ℕ). x ≡ byte → ⊥) b bytes (differs byte b e) (more (let f = rw e at none in f))

pub lacks_byte : (byte : ℕ) (bytes : List ℕ) → has_byte byte bytes ≡ false → Lacks byte bytes
lacks_byte byte [] none = All-nil (λ (x : ℕ). x ≡ byte → ⊥)
lacks_byte byte (b ∷ bytes) none = lacks_behind byte b bytes (b == byte) refl none (lacks_byte byte bytes)
