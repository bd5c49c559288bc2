-- Laws of the shortest spelling of numbers in base 128.
use Rattle.std.proofs.Common.{◌≡◌, ◌⊎◌, ⊎_elim, inl, inr, ℕ, zero, suc, ◌+◌, ◌-◌, ◌*◌, ◌/◌, ◌%◌, ◌^◌, ◌<◌, ◌≤◌, List, [], ◌∷◌, ◌++◌, length, drop, get_or, refl, sym, subst, ap, ◌∙◌, arith, drop-cons, append_assoc}
use Rattle.std.specs.Prelude.{Result, Ok, Err}
use Rattle.std.proofs.Math.Nat.{mul-le-mul_left, pow-succ'}
use Rattle.std.proofs.Math.ListN.{drop_of_length-le}
use Rattle.std.proofs.lemmas.Bool.{cases_lt}
use Rattle.std.proofs.lemmas.Bool.Decides.{nat_tests}
use Rattle.alta_codec.specs.declared.number.CodeFault.{CodeFault}
use Rattle.alta_codec.specs.declared.number.CodeFault.TheVariants.{Cut, Long, Wide}
use Rattle.alta_codec.specs.Numbers.{spelling, number_bytes, with_low, number_from}

-- what was read before goes in front
abbrev pub raised : ℕ → ℕ → Result (ℕ × ℕ) CodeFault → Result (ℕ × ℕ) CodeFault
raised v s (Ok r) = Ok (v + s * r.0, r.1)
raised v s (Err f) = Err f

pub raised_low : (v s low : ℕ) (r : Result (ℕ × ℕ) CodeFault) → raised v s (with_low low r) ≡ raised (v + s * low) (s * 128) r
raised_low v s low (Ok (n, e)) = ap (λ (m : ℕ). Ok (m, e)) (omega arith)
raised_low v s low (Err f) = refl

-- one byte of a number
head_long : (left at b : ℕ) (bs : List ℕ) → b ≡ 0 → left < 9 → number_from left at (b ∷ bs) ≡ Err (Long at)
unfolding number_from
head_long left at b bs e h = grind (arith, nat_tests)

head_end : (left at b : ℕ) (bs : List ℕ) → left ≡ 0 → b ≡ 1 → number_from left at (b ∷ bs) ≡ Ok (1, at + 1)
unfolding number_from
head_end left at b bs e h = grind (arith, nat_tests)

head_wide : (left at b : ℕ) (bs : List ℕ) → left ≡ 0 → 1 < b → number_from left at (b ∷ bs) ≡ Err (Wide at)
unfolding number_from
head_wide left at b bs e h = grind (arith, nat_tests)

head_last : (left at b : ℕ) (bs : List ℕ) → 0 < left → b < 128 → (0 < b) ⊎ (9 ≤ left) → number_from left at (b ∷ bs) ≡ Ok (b, at + 1)
unfolding number_from
head_last left at b bs e h (inl p) = grind (arith, nat_tests)
head_last left at b bs e h (inr p) = grind (arith, nat_tests)

head_more : (left at b : ℕ) (bs : List ℕ) → 0 < left → 128 ≤ b → number_from left at (b ∷ bs) ≡ with_low (b - 128) (number_from (left - 1) (at + 1) bs)
unfolding number_from
head_more left at b bs e h = grind (arith, nat_tests)

module _ (s : List ℕ) (at left : ℕ) (l : at < length s) where
  here : drop at s ≡ get_or s at 0 ∷ drop (at + 1) s
  here = let e : suc at ≡ at + 1 = omega arith in drop-cons s at 0 l ∙ ap (λ i. get_or s at 0 ∷ drop i s) e

  pub number_long : get_or s at 0 ≡ 0 → left < 9 → Err (Long at) ≡ number_from left at (drop at s)
  number_long e h = sym (ap (number_from left at) here ∙ head_long left at (get_or s at 0) (drop (at + 1) s) e h)

  pub number_end : left ≡ 0 → get_or s at 0 ≡ 1 → Ok (1, at + 1) ≡ number_from left at (drop at s)
  number_end e h = sym (ap (number_from left at) here ∙ head_end left at (get_or s at 0) (drop (at + 1) s) e h)

  pub number_wide : left ≡ 0 → 1 < get_or s at 0 → Err (Wide at) ≡ number_from left at (drop at s)
  number_wide e h = sym (ap (number_from left at) here ∙ head_wide left at (get_or s at 0) (drop (at + 1) s) e h)

  pub number_last : 0 < left → get_or s at 0 < 128 → (0 < get_or s at 0) ⊎ (9 ≤ left) → Ok (get_or s at 0, at + 1) ≡ number_from left at (drop at s)
  number_last e h p = sym (ap (number_from left at) here ∙ head_last left at (get_or s at 0) (drop (at + 1) s) e h p)

  pub number_more : 0 < left → 128 ≤ get_or s at 0 → number_from left at (drop at s) ≡ with_low (get_or s at 0 - 128) (number_from (left - 1) (at + 1) (drop (at + 1) s))
  number_more e h = ap (number_from left at) here ∙ head_more left at (get_or s at 0) (drop (at + 1) s) e h

pub number_cut : (s : List ℕ) (at left : ℕ) → length s ≤ at → Err (Cut at) ≡ number_from left at (drop at s)
unfolding number_from
number_cut s at left l = rw (drop_of_length-le s l) refl

pub number_nil : (left at : ℕ) → number_from left at [] ≡ Err (Cut at)
unfolding number_from
number_nil left at = refl

-- the weight of the next byte
pub room_step : (s left : ℕ) → s * 128 ^ left ≡ 128 ^ 9 → 0 < left → (s * 128) * 128 ^ (left - 1) ≡ 128 ^ 9
room_step s zero e h = absurd (omega arith)
room_step s (suc m) e h =
    let p = pow-succ' 128 m in
    let q : suc m - 1 ≡ m = omega arith in
    rw q (omega (arith, e, ap (λ (x : ℕ). s * x) p))

pub pow_positive : (m : ℕ) → 1 ≤ 128 ^ m
pow_positive zero = omega arith
pow_positive (suc m) = omega (arith, pow_positive m, pow-succ' 128 m)

pub room_fits : (s m : ℕ) → s * 128 ^ m ≡ 128 ^ 9 → s ≤ 128 ^ 9
room_fits s m e = omega (arith, mul-le-mul_left s (pow_positive m))

pub gain_fits : (v s b left : ℕ) → v < s → s * 128 ^ left ≡ 128 ^ 9 → 0 < left → b < 128 → (v + s * b < s * 128) × (s * 128 ≤ 128 ^ 9)
gain_fits v s b left low e h small =
    let one : b + 1 ≤ 128 = omega arith in
    (omega (arith, mul-le-mul_left s one), room_fits (s * 128) (left - 1) (room_step s left e h))

-- the spelling, a byte at a time
pub spelling_last : (k n : ℕ) → 0 < k → n < 128 → spelling k n ≡ n ∷ []
unfolding spelling
spelling_last zero n h l = absurd (omega arith)
spelling_last (suc k) n h l = grind (arith, nat_tests)

pub spelling_more : (k n : ℕ) → 0 < k → 128 ≤ n → spelling k n ≡ (128 + n % 128) ∷ spelling (k - 1) (n / 128)
unfolding spelling
spelling_more zero n h l = absurd (omega arith)
spelling_more (suc k) n h l = let q : suc k - 1 ≡ k = omega arith in rw q (grind (arith, nat_tests))

-- a number that has more than one byte has room for another
pub small_step : (r left : ℕ) → 128 ≤ r → r < 2 * 128 ^ left → (0 < left) × (r / 128 < 2 * 128 ^ (left - 1))
small_step r zero h l = absurd (omega arith)
small_step r (suc m) h l =
    let p = pow-succ' 128 m in
    let q : suc m - 1 ≡ m = omega arith in
    (omega arith, rw q (omega (arith, p)))

-- one more byte at the end
pub spelled_more : (out new total : List ℕ) (left rest : ℕ) → 0 < left → 128 ≤ rest → new ≡ out ++ (128 + rest % 128) ∷ []
    → out ++ spelling (left + 1) rest ≡ total → new ++ spelling (left - 1 + 1) (rest / 128) ≡ total
spelled_more out new total left rest some h put so_far =
    let byte = 128 + rest % 128 in
    let q : left + 1 - 1 ≡ left - 1 + 1 = omega arith in
    let m : spelling (left + 1) rest ≡ byte ∷ spelling (left - 1 + 1) (rest / 128) =
    spelling_more (left + 1) rest (omega arith) h ∙ ap (λ k. byte ∷ spelling k (rest / 128)) q in
    ap (λ x. x ++ spelling (left - 1 + 1) (rest / 128)) put ∙ append_assoc out (byte ∷ []) (spelling (left - 1 + 1) (rest / 128)) ∙ sym (ap (λ x. out ++ x) m) ∙ so_far

pub spelled_last : (out new total : List ℕ) (left rest : ℕ) → rest < 128 → new ≡ out ++ rest ∷ [] → out ++ spelling (left + 1) rest ≡ total → new ≡ total
spelled_last out new total left rest h put so_far = put ∙ sym (ap (λ x. out ++ x) (spelling_last (left + 1) rest (omega arith) h)) ∙ so_far

abbrev pub read_ok : ℕ → ℕ → Result (ℕ × ℕ) CodeFault
read_ok n e = Ok (n, e)

ap₂_ok : (a b x y : ℕ) → a ≡ b → x ≡ y → read_ok a x ≡ read_ok b y
ap₂_ok a b x y p q = ap (λ (v : ℕ). read_ok v x) p ∙ ap (λ (v : ℕ). read_ok b v) q

-- the spelling of a number is read back, whatever follows
pub reads_spelling : (left at n : ℕ) (more : List ℕ) → left ≤ 9 → n < 2 * 128 ^ left → (0 < n) ⊎ (9 ≤ left)
    → number_from left at (spelling (suc left) n ++ more) ≡ Ok (n, at + length (spelling (suc left) n))
reads_spelling zero at n more few small some =
    let one : n ≡ 1 = ⊎_elim (λ p. omega arith) (λ q. omega arith) some in
    rw (spelling_last 1 n (omega arith) (omega arith)) (rw one (head_end 0 at 1 more refl refl))
reads_spelling (suc m) at n more few small some =
    ⊎_elim
    (λ l. rw (spelling_last (suc (suc m)) n (omega arith) l) (head_last (suc m) at n more (omega arith) l some))
    (λ g. let step = small_step n (suc m) g small in
    let q : suc m - 1 ≡ m = omega arith in
    let low : 128 + n % 128 - 128 ≡ n % 128 = omega arith in
    let rest : n / 128 < 2 * 128 ^ m = subst (λ i. n / 128 < 2 * 128 ^ i) q step.1 in
    let ih = reads_spelling m (at + 1) (n / 128) more (omega arith) rest (inl (omega arith)) in
    let w : spelling (suc (suc m)) n ≡ (128 + n % 128) ∷ spelling (suc m) (n / 128) = spelling_more (suc (suc m)) n (omega arith) g ∙ ap (λ i. (128 + n % 128) ∷ spelling i (n / 128)) (let z : suc (suc m) - 1 ≡ suc m = omega arith in z) in
    rw w (head_more (suc m) at (128 + n % 128) (spelling (suc m) (n / 128) ++ more) (omega arith) (omega arith)
    ∙ ap (λ i. with_low (128 + n % 128 - 128) (number_from i (at + 1) (spelling (suc m) (n / 128) ++ more))) q
    ∙ ap (with_low (128 + n % 128 - 128)) ih
    ∙ ap₂_ok (128 + n % 128 - 128 + 128 * (n / 128)) n (at + 1 + length (spelling (suc m) (n / 128))) (at + suc (length (spelling (suc m) (n / 128)))) (omega arith) (omega arith)))
    (cases_lt n 128)

-- what is read was spelled so
pub record IsRead (left at : ℕ) (bs : List ℕ) (n e : ℕ) : Type 0 where
  pub spelled : bs ≡ spelling (suc left) n ++ drop (e - at) bs
  pub after : e ≡ at + length (spelling (suc left) n)
  pub small : n < 2 * 128 ^ left
  pub some : left < 9 → 0 < n
  pub within : e ≤ at + length bs

abbrev pub number_in : Result (ℕ × ℕ) CodeFault → ℕ
number_in (Ok r) = r.0
number_in (Err f) = 0

abbrev pub place_in : Result (ℕ × ℕ) CodeFault → ℕ
place_in (Ok r) = r.1
place_in (Err f) = 0

-- each is a byte
abbrev pub AreBytes : List ℕ → Type 0
AreBytes bs = (i : ℕ) → i < length bs → get_or bs i 0 < 256

one_read : (left at b : ℕ) (bs : List ℕ) (n e : ℕ) → 0 < b ⊎ 9 ≤ left → b < 128 → b < 2 * 128 ^ left → read_ok b (at + 1) ≡ read_ok n e → IsRead left at (b ∷ bs) n e
one_read left at b bs n e some low small h =
    let p : b ≡ n = ap number_in h in
    let q : at + 1 ≡ e = ap place_in h in
    let d : e - at ≡ suc zero = omega arith in
    let s : spelling (suc left) n ≡ b ∷ [] = spelling_last (suc left) n (omega arith) (omega arith) ∙ ap (λ x. x ∷ []) (sym p) in
    record {
      spelled = rw (s, d) refl;
      after = rw s (omega arith);
      small = subst (λ x. x < 2 * 128 ^ left) p small;
      some = λ l. elim some [ inl g ↦ omega arith | inr g ↦ absurd (omega arith) ];
      within = omega arith;
    }

more_read : (m at b : ℕ) (bs : List ℕ) (n e : ℕ) (r : Result (ℕ × ℕ) CodeFault) → 128 ≤ b → b < 256 → m < 9
    → ((x y : ℕ) → r ≡ read_ok x y → IsRead m (at + 1) bs x y) → with_low (b - 128) r ≡ read_ok n e → IsRead (suc m) at (b ∷ bs) n e
more_read m at b bs n e (Err f) ge lt few ih h = cc
more_read m at b bs n e (Ok (x, y)) ge lt few ih h =
    let r = ih x y refl in
    let p : b - 128 + 128 * x ≡ n = ap number_in h in
    let q : y ≡ e = ap place_in h in
    let pos : 0 < x = r.some few in
    let low : 128 + n % 128 ≡ b = omega arith in
    let high : n / 128 ≡ x = omega arith in
    let z : suc (suc m) - 1 ≡ suc m = omega arith in
    let s : spelling (suc (suc m)) n ≡ b ∷ spelling (suc m) x =
    spelling_more (suc (suc m)) n (omega arith) (omega arith) ∙ ap (λ i. (128 + n % 128) ∷ spelling i (n / 128)) z ∙ ap (λ i. (128 + n % 128) ∷ spelling (suc m) i) high ∙ ap (λ i. i ∷ spelling (suc m) x) low in
    let d : e - at ≡ suc (y - (at + 1)) = omega (arith, r.after) in
    record {
      spelled = rw (s, d) (ap (λ t. b ∷ t) r.spelled);
      after = rw s (omega (arith, r.after));
      small = omega (arith, r.small, pow-succ' 128 m);
      some = λ l. omega arith;
      within = omega (arith, r.within);
    }

-- what is read is spelled there
pub spelling_read : (left at : ℕ) (bs : List ℕ) (n e : ℕ) → left ≤ 9 → AreBytes bs → number_from left at bs ≡ read_ok n e → IsRead left at bs n e
unfolding number_from
spelling_read left at [] n e few bytes h = cc
spelling_read zero at (b ∷ bs) n e few bytes h =
    ⊎_elim (λ lt. absurd (let z : b ≡ 0 = omega arith in let w = head_long 0 at b bs z (omega arith) in let v : Err (Long at) ≡ read_ok n e = sym w ∙ h in cc))
    (λ ge. ⊎_elim (λ gt. absurd (let w = head_wide 0 at b bs refl gt in let v : Err (Wide at) ≡ read_ok n e = sym w ∙ h in cc))
    (λ le. let one : b ≡ 1 = omega arith in one_read zero at b bs n e (inl ge) (omega arith) (omega arith) (ap (λ x. read_ok x (at + 1)) one ∙ sym (head_end 0 at b bs refl one) ∙ h)) (cases_lt 1 b)) (cases_lt b 1)
spelling_read (suc m) at (b ∷ bs) n e few bytes h =
    ⊎_elim
    (λ lt. let some : (0 < b) ⊎ (9 ≤ suc m) = ⊎_elim (λ z. ⊎_elim (λ small. absurd (let w = head_long (suc m) at b bs (omega arith) small in let v : Err (Long at) ≡ read_ok n e = sym w ∙ h in cc)) (λ g. inr g) (cases_lt (suc m) 9)) (λ p. inl p) (cases_lt b 1) in
    one_read (suc m) at b bs n e some lt (omega (arith, pow_positive m, pow-succ' 128 m)) (sym (head_last (suc m) at b bs (omega arith) lt some) ∙ h))
    (λ ge. let q : suc m - 1 ≡ m = omega arith in
    more_read m at b bs n e (number_from m (at + 1) bs) ge (bytes zero (omega arith)) (omega arith)
    (λ x y k. spelling_read m (at + 1) bs x y (omega arith) (λ i l. bytes (suc i) (omega arith)) k)
    (ap (λ i. with_low (b - 128) (number_from i (at + 1) bs)) (sym q) ∙ sym (head_more (suc m) at b bs (omega arith) ge) ∙ h))
    (cases_lt b 128)

-- the whole number, at its first byte
pub reads_number : (at n : ℕ) (more : List ℕ) → n < 2 ^ 64 → number_from 9 at (number_bytes n ++ more) ≡ read_ok n (at + length (number_bytes n))
unfolding number_bytes
reads_number at n more small = reads_spelling 9 at n more (omega arith) (omega arith) (inr (omega arith))

pub record IsNumber (at : ℕ) (bs : List ℕ) (n e : ℕ) : Type 0 where
  pub spelled : bs ≡ number_bytes n ++ drop (e - at) bs
  pub after : e ≡ at + length (number_bytes n)
  pub small : n < 2 ^ 64
  pub within : e ≤ at + length bs

pub number_read : (at : ℕ) (bs : List ℕ) (n e : ℕ) → AreBytes bs → number_from 9 at bs ≡ read_ok n e → IsNumber at bs n e
unfolding number_bytes
number_read at bs n e bytes h =
    let r = spelling_read 9 at bs n e (omega arith) bytes h in
    record { spelled = r.spelled; after = r.after; small = omega (arith, r.small); within = r.within }

-- a spelling has at least one byte, and at most ten
pub spelling_size : (k n : ℕ) → (0 < k → 0 < length (spelling k n)) × (length (spelling k n) ≤ k)
unfolding spelling
spelling_size zero n = (λ h. absurd (omega arith), omega arith)
spelling_size (suc k) n =
    ⊎_elim (λ l. rw (spelling_last (suc k) n (omega arith) l) (λ h. omega arith, omega arith))
    (λ g. let q : suc k - 1 ≡ k = omega arith in
    let w : spelling (suc k) n ≡ (128 + n % 128) ∷ spelling k (n / 128) = spelling_more (suc k) n (omega arith) g ∙ ap (λ i. (128 + n % 128) ∷ spelling i (n / 128)) q in
    rw w (λ h. omega arith, omega (arith, (spelling_size k (n / 128)).1)))
    (cases_lt n 128)

pub number_size : (n : ℕ) → (0 < length (number_bytes n)) × (length (number_bytes n) ≤ 10)
unfolding number_bytes
number_size n = let s = spelling_size 10 n in (s.0 (omega arith), s.1)
