-- What a disk means, and what its calls and the layers above do to it.
-- A written range holds bytes, so what a torn write leaves are bytes too: a field of what each disk keeps (`IsLawful`), and no
-- premise of the layers above.
use Rattle.std.specs.Prelude.{◌≡◌, ◌⊎◌, ℕ, ◌+◌, ◌≤◌, max, List, ◌++◌, length, take, drop}
use Rattle.alta_codec.specs.Bytes.{AreBytes}

-- A disk at one moment. A disk that does not tell its content has no images.
pub record DiskState : Type 1 where
  -- the bytes that a read gives
  pub content : List ℕ
  -- what a stop now may leave
  pub images : List ℕ → Type 0
  -- the moment, as a number that does not fall
  pub clock : ℕ
  -- what a stop at some moment from that one on may have left
  pub since : ℕ → List ℕ → Type 0
  -- how often the disk has failed, up to the top of a u64
  pub faults : ℕ
  -- the bytes that were read
  pub taken : ℕ
  -- the content is never longer
  pub limit : ℕ

-- new is old with these bytes at this offset
abbrev pub Holds : List ℕ → ℕ → List ℕ → List ℕ → Type 0
Holds old at bytes new = new ≡ take at old ++ bytes ++ drop (at + length bytes) old

-- After a write of n bytes that a stop or a fault cuts short: any bytes in the range and past the old end, the same
-- elsewhere, and a length between the old end and the greater of that and the range's end.
pub record Torn (at n : ℕ) (old new : List ℕ) : Type 0 where
  pub before : take at new ≡ take at old
  pub after : drop (at + n) new ≡ drop (at + n) old
  pub no_shorter : length old ≤ length new
  pub no_longer : length new ≤ max (length old) (at + n)

-- nothing has changed
abbrev pub Same : List ℕ → List ℕ → Type 0
Same old new = new ≡ old

-- what one of these images becomes by a step
abbrev pub After : (List ℕ → Type 0) → (List ℕ → List ℕ → Type 0) → List ℕ → Type 0
After images step c = (d : List ℕ) × images d × step d c

-- a stop leaves this and nothing else
abbrev pub Only : List ℕ → (List ℕ → Type 0) → Type 0
Only file images = (c : List ℕ) → images c → c ≡ file

-- each of these images has P
abbrev pub Each : (List ℕ → Type 0) → (List ℕ → Type 0) → Type 0
Each images P = (c : List ℕ) → images c → P c

-- Each image of this disk has P, and so has its content where that is told.
pub record Stands (tells : Type 0) (state : DiskState) (P : List ℕ → Type 0) : Type 0 where
  pub images : Each state.images P
  pub content : tells → P state.content

-- From old to new each image at any moment is one that old had, after the step.
pub record Passes (step : List ℕ → List ℕ → Type 0) (old new : DiskState) : Type 0 where
  pub later : old.clock ≤ new.clock
  pub now : (c : List ℕ) → new.images c → After old.images step c
  pub between : (t : ℕ) (c : List ℕ) → t ≤ old.clock → new.since t c → old.since t c ⊎ After old.images step c
  pub keeps : (t : ℕ) (c : List ℕ) → t ≤ old.clock → old.since t c → new.since t c

-- From old to new each image at any moment, the first and the last among them, has P.
pub record LeavesOnly (P : List ℕ → Type 0) (old new : DiskState) : Type 0 where
  pub later : old.clock ≤ new.clock
  pub each : (c : List ℕ) → new.since old.clock c → P c
  -- for a run that began earlier
  pub between : (t : ℕ) (c : List ℕ) → t ≤ old.clock → new.since t c → old.since t c ⊎ P c
  -- of which no image is forgotten
  pub keeps : (t : ℕ) (c : List ℕ) → t ≤ old.clock → old.since t c → new.since t c

-- what each disk keeps at each moment
pub record IsLawful (tells : Type 0) (state : DiskState) : Type 0 where
  -- the content fits the limit
  pub fits : tells → length state.content ≤ state.limit
  -- the content is one of the images
  pub present : tells → state.images state.content
  -- where there is an image, the content is told
  pub told : (c : List ℕ) → state.images c → tells
  -- this moment is one of those since an earlier one
  pub counts_now : (t : ℕ) (c : List ℕ) → t ≤ state.clock → state.images c → state.since t c
  -- since this moment there is no other
  pub only_now : (c : List ℕ) → state.since state.clock c → state.images c
  -- an image of any moment is bytes
  pub bytes : (t : ℕ) (c : List ℕ) → state.since t c → AreBytes c
