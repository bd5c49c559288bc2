-- Numbers in little-endian base 128, in their shortest spelling (unsigned LEB128: DWARF 5, section 7.6).
use Rattle.std.specs.Prelude.{ℕ, zero, suc, ◌+◌, ◌-◌, ◌*◌, ◌/◌, ◌%◌, cond, nat_lt, nat_eq, ◌&&◌, List, [], ◌∷◌, Result, Ok, Err}
use Rattle.alta_codec.specs.declared.number.CodeFault.{CodeFault}
use Rattle.alta_codec.specs.declared.number.CodeFault.TheVariants.{Cut, Long, Wide}

-- seven bits a byte, low bits first, the top bit on all bytes but the last; at most so many bytes
unfoldable pub spelling : ℕ → ℕ → List ℕ
spelling zero n = []
spelling (suc k) n = cond (nat_lt n 128) (n ∷ []) ((128 + n % 128) ∷ spelling k (n / 128))

-- the shortest spelling of a number below 2 ^ 64
unfoldable pub number_bytes : ℕ → List ℕ
number_bytes n = spelling 10 n

-- seven lower bits in front of what was read
abbrev pub with_low : ℕ → Result (ℕ × ℕ) CodeFault → Result (ℕ × ℕ) CodeFault
with_low low (Ok r) = Ok (low + 128 * r.0, r.1)
with_low low (Err f) = Err f

-- The number that is spelled from here, and the place after it, or the first byte that shows that none is.
-- `left` is how many more bytes may follow the next one (9 at the first), `at` the place of the next one.
unfoldable pub number_from : ℕ → ℕ → List ℕ → Result (ℕ × ℕ) CodeFault
number_from left at [] = Err (Cut at)
number_from left at (b ∷ bs) =
    cond (nat_eq b 0 && nat_lt left 9) (Err (Long at))
    (cond (nat_eq left 0) (cond (nat_eq b 1) (Ok (1, at + 1)) (Err (Wide at)))
    (cond (nat_lt b 128) (Ok (b, at + 1)) (with_low (b - 128) (number_from (left - 1) (at + 1) bs))))
