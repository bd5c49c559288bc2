-- Eight bytes spell their number, and a number its eight bytes.
use Rattle.std.proofs.Common.{◌≡◌, ℕ, ◌<◌, ◌^◌, List, length, get_or, refl}
use Rattle.std.specs.Int.{w64, from_be_bytes}
use Rattle.std.proofs.lemmas.Nat.{be_bytes_8, from_be_bytes-to_be_bytes_8}
use Rattle.alta_layout.specs.Wide.{eight_bytes, of_eight}

pub eight_long : (n : ℕ) → length (eight_bytes n) ≡ 8
unfolding eight_bytes
eight_long n = refl

pub of_eight-eight : (n : ℕ) → n < 2 ^ 64 → of_eight (eight_bytes n) ≡ n
unfolding eight_bytes of_eight
of_eight-eight n small = from_be_bytes-to_be_bytes_8 n small

pub eight-of_eight : (bytes : List ℕ) → length bytes ≡ 8 → ((i : ℕ) → get_or bytes i 0 < 256) → eight_bytes (of_eight bytes) ≡ bytes
unfolding eight_bytes of_eight
eight-of_eight bytes eight small = be_bytes_8 bytes (from_be_bytes w64 bytes) eight small refl
