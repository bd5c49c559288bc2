-- What a stop may leave of a disk in memory, said byte by byte.
use Rattle.std.specs.Prelude.{◌≡◌, ◌⊎◌, ◌↔◌, ℕ, ◌+◌, ◌≤◌, ◌<◌, max, List, [], ◌∷◌, length, get_or}
use Rattle.alta_codec.specs.Bytes.{AreBytes}
use Rattle.alta_disk.specs.Disk.{After}
use Rattle.alta_disk.specs.Media.{Media, MayLeave, TornBytes}

-- the byte at this index stands in one of these ranges
abbrev pub IsPending : List (ℕ × ℕ) → ℕ → Type 0
IsPending [] i = ⊥
IsPending (range ∷ ranges) i = ((range.0 ≤ i) × (i < range.0 + range.1)) ⊎ IsPending ranges i

-- the greatest of n and the ends of these ranges
abbrev pub end_of : ℕ → List (ℕ × ℕ) → ℕ
end_of n [] = n
end_of n (range ∷ ranges) = max (end_of n ranges) (range.0 + range.1)

-- Bytes: outside the written ranges, and below the old end, the firm ones. A length between the old end and the greatest
-- end that was written.
pub record IsLeft (firm : List ℕ) (pending : List (ℕ × ℕ)) (image : List ℕ) : Type 0 where
  pub outside : (i : ℕ) → i < length firm → ¬ (IsPending pending i) → get_or image i 0 ≡ get_or firm i 0
  pub no_shorter : length firm ≤ length image
  pub no_longer : length image ≤ end_of (length firm) pending
  pub bytes : AreBytes image

-- the content with each pending byte as this one
pub record IsFilled (byte : ℕ) (pending : List (ℕ × ℕ)) (content image : List ℕ) : Type 0 where
  pub size : length image ≡ length content
  pub filled : (i : ℕ) → i < length content → IsPending pending i → get_or image i 0 ≡ byte
  pub others : (i : ℕ) → i < length content → ¬ (IsPending pending i) → get_or image i 0 ≡ get_or content i 0

-- these images and no other
abbrev pub Exactly : (List ℕ → Type 0) → (List ℕ → Type 0) → Type 0
Exactly wanted images = (c : List ℕ) → images c ↔ wanted c

-- a range is pending that was not, and the firm bytes stay
pub record Pends (at n : ℕ) (old new : Media) : Type 0 where
  pub firm : new.firm ≡ old.firm
  pub pending : new.pending ≡ (at, n) ∷ old.pending
  pub images : Exactly (After (MayLeave old) (TornBytes at n)) (MayLeave new)

-- so it was left by a write that failed
pub record Tears (at n : ℕ) (old new : Media) : Type 0 where
  pub content : new.content ≡ old.content
  pub pends : Pends at n old new

-- nothing is pending, and the content is firm
pub record Firms (old new : Media) : Type 0 where
  pub content : new.content ≡ old.content
  pub firm : new.firm ≡ old.content
  pub pending : new.pending ≡ []
  pub images : Exactly (λ c. c ≡ old.content) (MayLeave new)

-- nothing has changed
pub record Stays (old new : Media) : Type 0 where
  pub same : new ≡ old
  pub images : Exactly (MayLeave old) (MayLeave new)
