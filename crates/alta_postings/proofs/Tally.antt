-- Numbers of one or of two bytes, by what the lanes of vectors add up to.
use Rattle.std.proofs.Common.{◌≡◌, ⊎_elim, ℕ, zero, suc, ◌+◌, ◌-◌, ◌*◌, ◌/◌, ◌%◌, ◌^◌, ◌<◌, ◌≤◌, eqb, ltb, leb, Bool, false, cond, List, [], ◌∷◌, map, length, take, drop, get_or, replicate, w8, refl, sym, subst, ap, ap₂, ◌∙◌, arith}
use Rattle.std.proofs.Math.Seq.{drop-cons}
use Rattle.std.proofs.lemmas.Bool.{cases_lt, cases_eq, cases_Bool, leb-false, le-leb, lt-leb, lt-ltb, le-ltb, ne_eqb, true≢false}
use Rattle.std.proofs.lemmas.List.{length-map, get_or-map}
use Rattle.std.proofs.lemmas.Simd.{length-chunk, get_or-chunk, length-zip2, get_or-zip2, get_or-sel_l, bit_mask_l, mask_l-lt, zip2_splat, zip2_splat_left, zip2_of_maps, map-map, mask_l-mod, tops_compared}
use lib.Bits.{bit_or}
use lib.Lanes.{zip2, chunk, sum_l, sel_l, mask_l, top}
use Rattle.alta_codec.specs.declared.location.TheConstants.{TOP}
use Rattle.alta_codec.proofs.Numerals.{AreBytes}
use Rattle.alta_postings.specs.Short.{IsReadTo}
use Rattle.alta_postings.proofs.Reading.{read_more}
use Rattle.alta_postings.proofs.Short.{one_step, two_step}

-- where no bit of a mask is set, no lane passes
mask_zero : (p : ℕ → Bool) (xs : List ℕ) (i : ℕ) → i < length xs → mask_l (map p xs) ≡ 0 → p (get_or xs i 0) ≡ false
mask_zero p [] i l z = absurd (omega arith)
mask_zero p (x ∷ xs) zero l z =
    ⊎_elim (λ t. absurd (omega (arith, ap {B = ℕ} (λ b. cond b 1 0) t, z))) (λ f. f) (cases_Bool (p x))
mask_zero p (x ∷ xs) (suc i) l z = mask_zero p xs i (omega arith) (omega (arith, z))

abbrev is_none_or_long : ℕ → Bool
is_none_or_long x = top 7 (bit_or (cond (eqb x 0) 255 0) (cond (leb 128 x) 255 0))

is_gap : (x : ℕ) → is_none_or_long x ≡ false → (0 < x) × (x < 128)
is_gap x h =
    ⊎_elim
    (λ l. ⊎_elim (λ z. absurd (true≢false (sym (ap is_none_or_long z) ∙ h))) (λ some. (⊎_elim (λ p. p) (λ z. absurd (some (omega arith))) (cases_lt 0 x), l)) (cases_eq x 0))
    (λ g. absurd (true≢false (sym (ap₂ (λ a b. top 7 (bit_or (cond a 255 0) (cond b 255 0))) (ne_eqb x 0 (λ z. omega arith)) (le-leb 128 x g)) ∙ h)))
    (cases_lt x 128)

-- each lane is a number of one byte and not 0, where the mask of the others is empty
pub gaps_from_mask : (xs : List ℕ) (n : ℕ) → length xs ≡ n → n ≤ 64
    → mask_l (map (top 7) (zip2 bit_or (zip2 (λ a b. cond (eqb a b) 255 0) xs (replicate n 0)) (zip2 (λ a b. cond (leb a b) 255 0) (replicate n 128) xs))) % 2 ^ 64 ≡ 0
    → (i : ℕ) → i < n → (0 < get_or xs i 0) × (get_or xs i 0 < 128)
gaps_from_mask xs n size few none i l =
    let lanes = zip2_of_maps bit_or (λ x. cond (eqb x 0) 255 0) (λ x. cond (leb 128 x) 255 0) xs (zip2_splat (λ a b. cond (eqb a b) 255 0) xs n 0 size) (zip2_splat_left (λ a b. cond (leb a b) 255 0) 128 n xs size) in
    let mask = ap (λ ls. mask_l (map (top 7) ls)) lanes ∙ ap mask_l (map-map (top 7) (λ x. bit_or (cond (eqb x 0) 255 0) (cond (leb 128 x) 255 0)) xs) in
    let small = mask_l-mod (map is_none_or_long xs) 64 (omega (arith, length-map xs is_none_or_long)) in
    is_gap (get_or xs i 0) (mask_zero is_none_or_long xs i (omega arith) (sym small ∙ ap (λ m. m % 2 ^ 64) (sym mask) ∙ none))

-- each lane is below 128, where the mask of the others is empty
pub lows_from_mask : (xs : List ℕ) (n : ℕ) → length xs ≡ n → n ≤ 64 → mask_l (map (top 7) (zip2 (λ a b. cond (leb a b) 255 0) (replicate n 128) xs)) % 2 ^ 64 ≡ 0
    → (i : ℕ) → i < n → get_or xs i 0 < 128
lows_from_mask xs n size few none i l =
    let p : ℕ → Bool = λ x. leb 128 x in
    let lanes = tops_compared w8 leb (replicate n 128) xs ∙ zip2_splat_left leb 128 n xs size in
    let mask = ap (λ ls. mask_l ls % 2 ^ 64) lanes ∙ mask_l-mod (map p xs) 64 (omega (arith, length-map xs p)) in
    leb-false 128 (get_or xs i 0) (mask_zero p xs i (omega arith) (sym mask ∙ none))

pub itself : (xs : List ℕ) → map (λ x. x) xs ≡ xs
itself [] = refl
itself (x ∷ xs) = ap (λ l. x ∷ l) (itself xs)

-- the smaller of two lanes each
pub lesser : (xs ys : List ℕ) (i : ℕ) → length xs ≡ length ys → i < length xs
    → get_or (sel_l (map (top 7) (zip2 (λ a b. cond (ltb a b) 255 0) xs ys)) xs ys) i 0 ≡ cond (ltb (get_or xs i 0) (get_or ys i 0)) (get_or xs i 0) (get_or ys i 0)
lesser xs ys i same l =
    let long = length-zip2 ltb xs ys same in
    ap (λ ms. get_or (sel_l ms xs ys) i 0) (tops_compared w8 ltb xs ys)
    ∙ get_or-sel_l (zip2 ltb xs ys) xs ys i 0 (omega (arith, long)) l (omega arith)
    ∙ ap (λ t. cond t (get_or xs i 0) (get_or ys i 0)) (get_or-zip2 ltb xs ys i 0 0 false l (omega arith))

-- where the smaller of a byte and the next is a number of one byte and not 0, neither is 0, and not both go on
pub short_by : (x y : ℕ) → (0 < cond (ltb x y) x y) × (cond (ltb x y) x y < 128) → (0 < x) × (0 < y) × (128 ≤ x → y < 128)
short_by x y (some, low) =
    ⊎_elim
    (λ l. let e : cond (ltb x y) x y ≡ x = ap {B = ℕ} (λ b. cond b x y) (lt-ltb x y l) in (omega (arith, e), omega (arith, e), λ g. omega (arith, e)))
    (λ g. let e : cond (ltb x y) x y ≡ y = ap {B = ℕ} (λ b. cond b x y) (le-ltb x y g) in (omega (arith, e), omega (arith, e), λ _. omega (arith, e)))
    (cases_lt x y)

-- the last bit of a mask of sixteen lanes
pub last_bit : (xs : List ℕ) → length xs ≡ 16
    → mask_l (map (top 7) (zip2 (λ a b. cond (leb a b) 255 0) (replicate 16 128) xs)) % 2 ^ 64 / 2 ^ 15 ≡ cond (leb 128 (get_or xs 15 0)) 1 0
last_bit xs size =
    let p : ℕ → Bool = λ x. leb 128 x in
    let ms = map p xs in
    let long : length ms ≡ 16 = length-map xs p ∙ size in
    let lanes = tops_compared w8 leb (replicate 16 128) xs ∙ zip2_splat_left leb 128 16 xs size in
    let mask = ap (λ l. mask_l l % 2 ^ 64 / 2 ^ 15) lanes ∙ ap (λ m. m / 2 ^ 15) (mask_l-mod ms 64 (omega arith)) in
    let small : mask_l ms < 65536 = subst (λ n. mask_l ms < 2 ^ n) long (mask_l-lt ms) in
    let one : mask_l ms / 2 ^ 15 ≡ mask_l ms / 2 ^ 15 % 2 = omega arith in
    mask ∙ one ∙ bit_mask_l ms 15 ∙ ap (λ b. cond b 1 0) (get_or-map p xs 15 0 false (omega arith))

pub bit_is : (x : ℕ) → x < 256 → cond (leb 128 x) 1 0 ≡ x / 128
bit_is x byte =
    ⊎_elim
    (λ l. let e : cond (leb 128 x) 1 0 ≡ 0 = ap {B = ℕ} (λ b. cond b 1 0) (lt-leb 128 x l) in omega (arith, e))
    (λ g. let e : cond (leb 128 x) 1 0 ≡ 1 = ap {B = ℕ} (λ b. cond b 1 0) (le-leb 128 x g) in omega (arith, e))
    (cases_lt x 128)

-- the n bytes from a place on
abbrev pub lanes : List ℕ → ℕ → ℕ → List ℕ
lanes s p zero = []
lanes s p (suc n) = get_or s p 0 ∷ lanes s (p + 1) n

pub chunk_is : (n : ℕ) (s : List ℕ) (p : ℕ) → p + n ≤ length s → chunk p n s ≡ lanes s p n
chunk_is zero s p l = refl
chunk_is (suc n) s p l =
    let e : suc p ≡ p + 1 = omega arith in
    ap (λ t. take (suc n) t) (drop-cons s p 0 (omega arith)) ∙ ap (λ i. get_or s p 0 ∷ take n (drop i s)) e ∙ ap (λ t. get_or s p 0 ∷ t) (chunk_is n s (p + 1) (omega arith))

-- of the lanes of another vector, those that stand at a byte of 128 or more, and 0 for the others
abbrev pub picked : List ℕ → ℕ → ℕ → List ℕ → List ℕ
picked s p n xs = sel_l (zip2 leb (replicate n 128) (lanes s p n)) xs (replicate n 0)

pub picked_is : (s : List ℕ) (p n : ℕ) (here xs : List ℕ) → here ≡ lanes s p n
    → sel_l (map (top 7) (zip2 (λ a b. cond (leb a b) 255 0) (replicate n 128) here)) xs (replicate n 0) ≡ picked s p n xs
picked_is s p n here xs e =
    ap (λ ms. sel_l ms xs (replicate n 0)) (tops_compared w8 leb (replicate n 128) here) ∙ ap (λ l. sel_l (zip2 leb (replicate n 128) l) xs (replicate n 0)) e

-- the sum of these bytes, of those behind a byte of 128 or more, and how many of those there are
pub sums : List ℕ → ℕ → ℕ → ℕ
sums s p zero = 0
sums s p (suc n) = get_or s p 0 + sums s (p + 1) n

pub highs : List ℕ → ℕ → ℕ → ℕ
highs s p zero = 0
highs s p (suc n) = cond (leb 128 (get_or s p 0)) (get_or s (p + 1) 0) 0 + highs s (p + 1) n

pub longs : List ℕ → ℕ → ℕ → ℕ
longs s p zero = 0
longs s p (suc n) = cond (leb 128 (get_or s p 0)) 1 0 + longs s (p + 1) n

pub sums_are : (n : ℕ) (s : List ℕ) (p : ℕ) → sum_l (lanes s p n) ≡ sums s p n
unfolding sums
sums_are zero s p = refl
sums_are (suc n) s p = ap (λ t. get_or s p 0 + t) (sums_are n s (p + 1))

pub highs_are : (n : ℕ) (s : List ℕ) (p : ℕ) → sum_l (picked s p n (lanes s (p + 1) n)) ≡ highs s p n
unfolding highs
highs_are zero s p = refl
highs_are (suc n) s p = ap (λ t. cond (leb 128 (get_or s p 0)) (get_or s (p + 1) 0) 0 + t) (highs_are n s (p + 1))

pub longs_are : (n : ℕ) (s : List ℕ) (p : ℕ) → sum_l (picked s p n (replicate n 1)) ≡ longs s p n
unfolding longs
longs_are zero s p = refl
longs_are (suc n) s p = ap (λ t. cond (leb 128 (get_or s p 0)) 1 0 + t) (longs_are n s (p + 1))

-- what one lane adds
record IsLane (s : List ℕ) (p n high long : ℕ) : Type 0 where
  sum : sums s p (suc n) ≡ get_or s p 0 + sums s (p + 1) n
  high_is : highs s p (suc n) ≡ high + highs s (p + 1) n
  long_is : longs s p (suc n) ≡ long + longs s (p + 1) n

low_lane : (s : List ℕ) (p n : ℕ) → get_or s p 0 < 128 → IsLane s p n 0 0
unfolding sums highs longs
low_lane s p n l =
    let e = lt-leb 128 (get_or s p 0) l in
    record {
      sum = refl;
      high_is = ap (λ b. cond b (get_or s (p + 1) 0) 0 + highs s (p + 1) n) e;
      long_is = ap (λ b. cond b 1 0 + longs s (p + 1) n) e;
    }

high_lane : (s : List ℕ) (p n : ℕ) → 128 ≤ get_or s p 0 → IsLane s p n (get_or s (p + 1) 0) 1
unfolding sums highs longs
high_lane s p n l =
    let e = le-leb 128 (get_or s p 0) l in
    record {
      sum = refl;
      high_is = ap (λ b. cond b (get_or s (p + 1) 0) 0 + highs s (p + 1) n) e;
      long_is = ap (λ b. cond b 1 0 + longs s (p + 1) n) e;
    }

record IsNoLane (s : List ℕ) (p : ℕ) : Type 0 where
  sum : sums s p 0 ≡ 0
  high_is : highs s p 0 ≡ 0
  long_is : longs s p 0 ≡ 0

no_lane : (s : List ℕ) (p : ℕ) → IsNoLane s p
unfolding sums highs longs
no_lane s p = record { sum = refl; high_is = refl; long_is = refl }

-- each long lane has its 128, and there are no more of them than lanes
pub record IsTally (s : List ℕ) (p n : ℕ) : Type 0 where
  pub under : 128 * longs s p n ≤ sums s p n
  pub few : longs s p n ≤ n

pub tally : (n : ℕ) (s : List ℕ) (p : ℕ) → IsTally s p n
tally zero s p = let z = no_lane s p in record { under = omega (arith, z.long_is); few = omega (arith, z.long_is) }
tally (suc n) s p =
    let t = tally n s (p + 1) in
    ⊎_elim
    (λ l. let x = low_lane s p n l in record { under = omega (arith, x.sum, x.long_is, t.under); few = omega (arith, x.long_is, t.few) })
    (λ g. let x = high_lane s p n g in record { under = omega (arith, x.sum, x.long_is, t.under); few = omega (arith, x.long_is, t.few) })
    (cases_lt (get_or s p 0) 128)

-- where no byte is 128 or more
pub low_lanes : (n : ℕ) (s : List ℕ) (p : ℕ) → ((i : ℕ) → p ≤ i → i < p + n → get_or s i 0 < 128) → (highs s p n ≡ 0) × (longs s p n ≡ 0)
low_lanes zero s p low = let z = no_lane s p in (z.high_is, z.long_is)
low_lanes (suc n) s p low =
    let x = low_lane s p n (low p (omega arith) (omega arith)) in
    let (high, long) = low_lanes n s (p + 1) (λ i a b. low i (omega arith) (omega arith)) in
    (omega (arith, x.high_is), omega (arith, x.long_is))

last_over : (n : ℕ) (s : List ℕ) (p q : ℕ) → p + n ≡ q → get_or s q 0 < 256 → get_or s q 0 / 128 ≤ longs s p (suc n)
last_over zero s p q e byte =
    let here : get_or s p 0 ≡ get_or s q 0 = ap (λ i. get_or s i 0) (let k : p ≡ q = omega arith in k) in
    let z = no_lane s (p + 1) in
    ⊎_elim
    (λ l. let x = low_lane s p 0 l in omega (arith, x.long_is, z.long_is))
    (λ g. let x = high_lane s p 0 g in omega (arith, x.long_is, z.long_is))
    (cases_lt (get_or s p 0) 128)
last_over (suc n) s p q e byte =
    let r = last_over n s (p + 1) q (omega arith) byte in
    ⊎_elim
    (λ l. let x = low_lane s p (suc n) l in omega (arith, x.long_is, r))
    (λ g. let x = high_lane s p (suc n) g in omega (arith, x.long_is, r))
    (cases_lt (get_or s p 0) 128)

-- what is known of the sums of sixteen lanes
pub record IsSixteen (s : List ℕ) (at sum high long over : ℕ) : Type 0 where
  pub sum_is : sum ≡ sums s at 16
  pub high_is : high ≡ highs s at 16
  pub long_is : long ≡ longs s at 16
  pub over_is : over ≡ get_or s (at + 15) 0 / 128
  pub under : 128 * long ≤ sum
  pub over_few : over ≤ long
  pub long_few : long ≤ 16
  pub over_one : over ≤ 1

pub sixteen : (s : List ℕ) (at sum high long over : ℕ) → AreBytes s → at + 16 < length s → sum ≡ sum_l (chunk at 16 s)
    → high ≡ sum_l (sel_l (map (top 7) (zip2 (λ a b. cond (leb a b) 255 0) (replicate 16 128) (chunk at 16 s))) (chunk (at + 1) 16 s) (replicate 16 0))
    → long ≡ sum_l (sel_l (map (top 7) (zip2 (λ a b. cond (leb a b) 255 0) (replicate 16 128) (chunk at 16 s))) (replicate 16 1) (replicate 16 0))
    → over ≡ get_or (chunk at 16 s) 15 0 / 128 → IsSixteen s at sum high long over
sixteen s at sum high long over bytes l a b c d =
    let here = chunk_is 16 s at (omega arith) in
    let next = chunk_is 16 s (at + 1) (omega arith) in
    let sum_is : sum ≡ sums s at 16 = a ∙ ap sum_l here ∙ sums_are 16 s at in
    let high_is : high ≡ highs s at 16 =
    b ∙ ap sum_l (picked_is s at 16 (chunk at 16 s) (chunk (at + 1) 16 s) here) ∙ ap (λ xs. sum_l (picked s at 16 xs)) next ∙ highs_are 16 s at in
    let long_is : long ≡ longs s at 16 = c ∙ ap sum_l (picked_is s at 16 (chunk at 16 s) (replicate 16 1) here) ∙ longs_are 16 s at in
    let over_is : over ≡ get_or s (at + 15) 0 / 128 = d ∙ ap (λ x. x / 128) (get_or-chunk at 16 s 15 0 (omega arith)) in
    let t = tally 16 s at in
    let byte = bytes (at + 15) (omega arith) in
    record {
      sum_is = sum_is;
      high_is = high_is;
      long_is = long_is;
      over_is = over_is;
      under = omega (arith, t.under);
      over_few = omega (arith, last_over 15 s at (at + 15) refl byte);
      long_few = omega (arith, t.few);
      over_one = omega arith;
    }

-- no number has more than two bytes, and each is in its shortest spelling
abbrev pub AreShort : List ℕ → ℕ → ℕ → Type 0
AreShort s p n = (i : ℕ) → p ≤ i → i < p + n → (0 < get_or s i 0) × (0 < get_or s (i + 1) 0) × (128 ≤ get_or s i 0 → get_or s (i + 1) 0 < 128)

-- whether the number in the last lane goes on behind it, and the byte that is then its second
pub record IsOpen (s : List ℕ) (q over rest : ℕ) : Type 0 where
  pub no : get_or s q 0 < 128 → (over ≡ 0) × (rest ≡ 0)
  pub yes : 128 ≤ get_or s q 0 → (over ≡ 1) × (rest ≡ get_or s (q + 1) 0)

pub open_is : (s : List ℕ) (q over rest : ℕ) → over ≡ get_or s q 0 / 128 → get_or s q 0 < 256 → rest ≡ over * get_or s (q + 1) 0 → IsOpen s q over rest
open_is s q over rest o byte r = record {
  no = λ l. let none : over ≡ 0 = omega arith in (none, r ∙ ap (λ k. k * get_or s (q + 1) 0) none ∙ omega arith);
  yes = λ g. let one : over ≡ 1 = omega arith in (one, r ∙ ap (λ k. k * get_or s (q + 1) 0) one ∙ omega arith);
}

-- the sixteen lanes of a place, where each is below 128
pub record IsLow (s : List ℕ) (at sum : ℕ) : Type 0 where
  pub sum_is : sum ≡ sums s at 16
  pub high_is : highs s at 16 ≡ 0
  pub long_is : longs s at 16 ≡ 0
  pub is_open : IsOpen s (at + 15) 0 0

pub low_sixteen : (s : List ℕ) (at sum : ℕ) → at + 16 < length s → sum ≡ sum_l (chunk at 16 s) → ((i : ℕ) → i < 16 → get_or (chunk at 16 s) i 0 < 128) → IsLow s at sum
low_sixteen s at sum l a low =
    let each : (i : ℕ) → at ≤ i → i < at + 16 → get_or s i 0 < 128 = λ i from to.
    let e : at + (i - at) ≡ i = omega arith in
    omega (arith, low (i - at) (omega arith), get_or-chunk at 16 s (i - at) 0 (omega arith), ap (λ k. get_or s k 0) e) in
    let (high, long) = low_lanes 16 s at each in
    record {
      sum_is = a ∙ ap sum_l (chunk_is 16 s at (omega arith)) ∙ sums_are 16 s at;
      high_is = high;
      long_is = long;
      is_open = record { no = λ _. (refl, refl); yes = λ g. absurd (omega (arith, each (at + 15) (omega arith) (omega arith))) };
    }

pub rest_low : (over x : ℕ) → over ≤ 1 → x < 256 → over * x ≤ 255
rest_low over x one byte =
    ⊎_elim
    (λ z. let e : over ≡ 0 = omega arith in omega (arith, ap (λ k. k * x) e))
    (λ g. let e : over ≡ 1 = omega arith in omega (arith, ap (λ k. k * x) e))
    (cases_lt over 1)

pub short_from : (s : List ℕ) (at : ℕ) → at + 16 < length s
    → ((i : ℕ) → i < 16 → let m = get_or (sel_l (map (top 7) (zip2 (λ a b. cond (ltb a b) 255 0) (chunk at 16 s) (chunk (at + 1) 16 s))) (chunk at 16 s) (chunk (at + 1) 16 s)) i 0 in (0 < m) × (m < 128))
    → AreShort s at 16
short_from s at l gaps i from to =
    let j = i - at in
    let here = chunk at 16 s in
    let next = chunk (at + 1) 16 s in
    let e : at + j ≡ i = omega arith in
    let f : at + 1 + j ≡ i + 1 = omega arith in
    let long = length-chunk at 16 s (omega arith) in
    let long_next = length-chunk (at + 1) 16 s (omega arith) in
    let x = get_or-chunk at 16 s j 0 (omega arith) ∙ ap (λ k. get_or s k 0) e in
    let y = get_or-chunk (at + 1) 16 s j 0 (omega arith) ∙ ap (λ k. get_or s k 0) f in
    let m = lesser here next j (omega arith) (omega arith) ∙ ap₂ (λ a b. cond (ltb a b) a b) x y in
    let (some, low) = gaps j (omega arith) in
    short_by (get_or s i 0) (get_or s (i + 1) 0) (omega (arith, m), omega (arith, m))

same : (s : List ℕ) (start before last count at y k e : ℕ) → last ≡ y → count ≡ k → at ≡ e → IsReadTo s start before last count at → IsReadTo s start before y k e
same s start before last count at y k e a b c r =
    subst (λ (i : ℕ). IsReadTo s start before y k i) c (subst (λ (i : ℕ). IsReadTo s start before y i at) b (subst (λ (i : ℕ). IsReadTo s start before i count at) a r))

module _ (s : List ℕ) (start before : ℕ) (bytes : AreBytes s) where
  goes_one : (last count at y k e : ℕ) → at < length s → 0 < get_or s at 0 → get_or s at 0 < 128 → last + get_or s at 0 ≡ y → y < TOP → count + 1 ≡ k → at + 1 ≡ e
      → IsReadTo s start before last count at → IsReadTo s start before y k e
  goes_one last count at y k e l some low is top n p r =
      same s start before (last + get_or s at 0) (count + 1) (at + 1) y k e is n p
      (read_more s start before last count at (last + get_or s at 0) (at + 1) r (one_step s at last bytes l some low (omega arith)))

  goes_two : (last count at y k e : ℕ) → at + 1 < length s → 128 ≤ get_or s at 0 → 0 < get_or s (at + 1) 0 → get_or s (at + 1) 0 < 128
      → y + 128 ≡ last + get_or s at 0 + 128 * get_or s (at + 1) 0 → y < TOP → count + 1 ≡ k → at + 1 + 1 ≡ e
      → IsReadTo s start before last count at → IsReadTo s start before y k e
  goes_two last count at y k e l more some low is top n p r =
      same s start before y (count + 1) (at + 1 + 1) y k e refl n p
      (read_more s start before last count at y (at + 1 + 1) r (two_step s at last y bytes l more some low is top))

  -- the numbers that begin in some lanes, the last of which is at the place q
  pub lanes_read : (n last count at q over rest y k : ℕ) → at + n ≡ q → q + 1 < length s → AreShort s at (suc n) → IsOpen s q over rest
      → y + 128 * longs s at (suc n) ≡ last + sums s at (suc n) + 127 * highs s at (suc n) + rest → k + longs s at (suc n) ≡ count + suc n + over → y < TOP
      → IsReadTo s start before last count at → IsReadTo s start before y k (q + 1 + over)
  lanes_read zero last count at q over rest y k is l short o total number top r =
      let here : at ≡ q = omega arith in
      let same_byte : get_or s at 0 ≡ get_or s q 0 = ap (λ i. get_or s i 0) here in
      let same_next : get_or s (at + 1) 0 ≡ get_or s (q + 1) 0 = ap (λ i. get_or s (i + 1) 0) here in
      let z = no_lane s (at + 1) in
      let (some, next, low) = short at (omega arith) (omega arith) in
      ⊎_elim
      (λ a.
      let x = low_lane s at 0 a in
      let (none, nothing) = o.no (omega arith) in
      goes_one last count at y k (q + 1 + over) (omega arith) some a
      (omega (arith, x.sum, x.high_is, x.long_is, z.sum, z.high_is, z.long_is)) top (omega (arith, x.long_is, z.long_is)) (omega arith) r)
      (λ g.
      let x = high_lane s at 0 g in
      let (one, second) = o.yes (omega arith) in
      goes_two last count at y k (q + 1 + over) (omega arith) g next (low g)
      (omega (arith, x.sum, x.high_is, x.long_is, z.sum, z.high_is, z.long_is)) top (omega (arith, x.long_is, z.long_is)) (omega arith) r)
      (cases_lt (get_or s at 0) 128)
  lanes_read (suc zero) last count at q over rest y k is l short o total number top r =
      let z = no_lane s (at + 1 + 1) in
      let (some, next, low) = short at (omega arith) (omega arith) in
      ⊎_elim
      (λ a.
      let x = low_lane s at 1 a in
      let t = tally 1 s (at + 1) in
      let after = last + get_or s at 0 in
      lanes_read zero after (count + 1) (at + 1) q over rest y k (omega arith) l (λ i b c. short i (omega arith) (omega arith)) o
      (omega (arith, x.sum, x.high_is, x.long_is)) (omega (arith, x.long_is)) top
      (goes_one last count at after (count + 1) (at + 1) (omega arith) some a refl (omega (arith, x.sum, x.high_is, x.long_is, t.under)) refl refl r))
      (λ g.
      let x = high_lane s at 1 g in
      let w = low_lane s (at + 1) 0 (low g) in
      let end : get_or s (at + 1) 0 ≡ get_or s q 0 = ap (λ i. get_or s i 0) (let e : at + 1 ≡ q = omega arith in e) in
      let (none, nothing) = o.no (omega (arith, low g)) in
      goes_two last count at y k (q + 1 + over) (omega arith) g next (low g)
      (omega (arith, x.sum, x.high_is, x.long_is, w.sum, w.high_is, w.long_is, z.sum, z.high_is, z.long_is)) top (omega (arith, x.long_is, w.long_is, z.long_is)) (omega arith) r)
      (cases_lt (get_or s at 0) 128)
  lanes_read (suc (suc n)) last count at q over rest y k is l short o total number top r =
      let (some, next, low) = short at (omega arith) (omega arith) in
      ⊎_elim
      (λ a.
      let x = low_lane s at (suc (suc n)) a in
      let t = tally (suc (suc n)) s (at + 1) in
      let after = last + get_or s at 0 in
      lanes_read (suc n) after (count + 1) (at + 1) q over rest y k (omega arith) l (λ i b c. short i (omega arith) (omega arith)) o
      (omega (arith, x.sum, x.high_is, x.long_is)) (omega (arith, x.long_is)) top
      (goes_one last count at after (count + 1) (at + 1) (omega arith) some a refl (omega (arith, x.sum, x.high_is, x.long_is, t.under)) refl refl r))
      (λ g.
      let x = high_lane s at (suc (suc n)) g in
      let w = low_lane s (at + 1) (suc n) (low g) in
      let t = tally (suc n) s (at + 1 + 1) in
      let after = last + get_or s at 0 - 128 + 128 * get_or s (at + 1) 0 in
      lanes_read n after (count + 1) (at + 1 + 1) q over rest y k (omega arith) l (λ i b c. short i (omega arith) (omega arith)) o
      (omega (arith, x.sum, x.high_is, x.long_is, w.sum, w.high_is, w.long_is)) (omega (arith, x.long_is, w.long_is)) top
      (goes_two last count at after (count + 1) (at + 1 + 1) (omega arith) g next (low g) (omega arith) (omega (arith, x.sum, x.high_is, x.long_is, w.sum, w.high_is, w.long_is, t.under)) refl refl r))
      (cases_lt (get_or s at 0) 128)

  -- the numbers that begin in sixteen lanes
  pub run_read : (last count at over rest y k e : ℕ) → at + 16 < length s → AreShort s at 16 → IsOpen s (at + 15) over rest
      → y + 128 * longs s at 16 ≡ last + sums s at 16 + 127 * highs s at 16 + rest → k + longs s at 16 ≡ count + 16 + over → y < TOP → at + 16 + over ≡ e
      → IsReadTo s start before last count at → IsReadTo s start before y k e
  run_read last count at over rest y k e l short o total number top place r =
      same s start before y k (at + 15 + 1 + over) y k e refl refl (omega arith)
      (lanes_read 15 last count at (at + 15) over rest y k refl (omega arith) short o total number top r)
