-- Bytes that are written ahead, one behind the other.
use Rattle.std.proofs.Common.{◌≡◌, inl, ℕ, ◌+◌, ◌≤◌, List, ◌++◌, length, take, drop, sym, ◌∙◌, ap, arith, append_assoc, length-append}
use Rattle.std.proofs.lemmas.List.{take_at, drop-drop, length-take-le}
use Rattle.alta_disk.specs.Disk.{DiskState, After, Holds, IsLawful, Only, Passes, Stands, Torn}
use Rattle.std.specs.Prelude.{Result, Ok, Err, OnOk}
use Rattle.alta_disk.specs.Writes.{holds_torn, length-holds}
use Rattle.alta_disk.proofs.Moments.{passes_as, passes_then, stands_only, stands_then}
use Rattle.alta_disk.proofs.PartLaws.{part_torn, part_written, split_at_part}
use Rattle.alta_journal.specs.Journal.{HasBytes}
use Rattle.alta_journal.proofs.Steps.{torn_then, torn_wide}

-- bytes that stand there may be written there
pub holds_there : (at : ℕ) (bytes image : List ℕ) → HasBytes at bytes image → Holds image at bytes image
holds_there at bytes image here =
    split_at_part at (length bytes) image ∙ ap (λ (l : List ℕ). (take at image ++ l) ++ drop (at + length bytes) image) here

-- more bytes behind those that were written
pub holds_more : (at : ℕ) (some more a b c : List ℕ) → at ≤ length a → Holds a at some b → Holds b (at + length some) more c → Holds a at (some ++ more) c
holds_more at some more a b c inside one two =
    let n = at + length some in
    let written = take at a ++ some in
    let long : length written ≡ n = omega (arith, length-append (take at a) some, length-take-le at a inside) in
    let front : take n b ≡ written = ap (λ (l : List ℕ). take n l) one ∙ take_at written (drop n a) n long in
    let torn = holds_torn a at some b inside one in
    let behind : drop (n + length more) b ≡ drop (n + length more) a =
    sym (drop-drop (length more) n b) ∙ ap (λ (l : List ℕ). drop (length more) l) torn.after ∙ drop-drop (length more) n a in
    let end : n + length more ≡ at + length (some ++ more) = omega (arith, length-append some more) in
    two ∙ ap (λ (l : List ℕ). (l ++ more) ++ drop (n + length more) b) front ∙ ap (λ (l : List ℕ). (written ++ more) ++ l) behind
    ∙ ap (λ (l : List ℕ). l ++ drop (n + length more) a) (append_assoc (take at a) some more) ∙ ap (λ (k : ℕ). (take at a ++ (some ++ more)) ++ drop k a) end

-- a range inside a longer one
pub passes_wide : (at m n : ℕ) (a b : DiskState) → m ≤ n → Passes (Torn at m) a b → Passes (Torn at n) a b
passes_wide at m n a b le one =
    passes_as a b (Torn at m) (Torn at n) one (λ z after. (after.0, after.1, torn_wide at m at n after.0 z (omega arith) (omega arith) after.2))

-- two ranges, one behind the other, are one
pub passes_more : (at m n : ℕ) (a b c : DiskState) → Passes (Torn at m) a b → Passes (Torn (at + m) n) b c → Passes (Torn at (m + n)) a c
passes_more at m n a b c one two =
    passes_then a b c (Torn at (m + n)) (Torn (at + m) n) (Torn at (m + n)) (passes_wide at m (m + n) a b (omega arith) one) two (λ z here. here) second
  where
    second : (z : List ℕ) → After b.images (Torn (at + m) n) z → After a.images (Torn at (m + n)) z
    second z (y, now, torn) =
        let before = one.now y now in
        (before.0, before.1, torn_then at (m + n) before.0 y z (torn_wide at m at (m + n) before.0 y (omega arith) (omega arith) before.2) (torn_wide (at + m) n at (m + n) y z (omega arith) (omega arith) torn))

-- what is written and synced stands there
pub stands_written : {T E : Type 0} (tells : Type 0) (b : DiskState) (lawful : IsLawful tells b) (at : ℕ) (bytes a : List ℕ) (result : Result T E) → (tells → at ≤ length a) → OnOk result (Only b.content b.images)
    → (tells → OnOk result (Holds a at bytes b.content)) → OnOk result (Stands tells b (HasBytes at bytes))
stands_written tells b lawful at bytes a (Ok x) inside only written = stands_only tells b (HasBytes at bytes) lawful only (λ told. part_written at bytes a b.content (inside told) (written told))
stands_written tells b lawful at bytes a (Err e) inside only written = tt

-- A write behind bytes that stand there.
module _ {T E : Type 0} (at : ℕ) (some more : List ℕ) (result : Result T E) where
  -- leaves them
  pub stands_before : (tells : Type 0) (b c : DiskState) → IsLawful tells c → Stands tells b (HasBytes at some) → Passes (Torn (at + length some) (length more)) b c → OnOk result (Stands tells c (HasBytes at some))
  stands_before tells b c lawful stands two = on result
    where
      still : Stands tells c (HasBytes at some)
      still =
          stands_then tells b c (HasBytes at some) (HasBytes at some) (Torn (at + length some) (length more)) lawful two stands
          (λ y z here torn. part_torn (at + length some) (length more) at (length some) y z torn (inl (omega arith)) ∙ here)

      on : (r : Result T E) → OnOk r (Stands tells c (HasBytes at some))
      on (Ok x) = still
      on (Err e) = tt

  -- is one with theirs
  pub holds_both : (a b c : List ℕ) → at ≤ length a → Holds a at some b → OnOk result (Holds b (at + length some) more c) → OnOk result (Holds a at (some ++ more) c)
  holds_both a b c inside one two = on result two
    where
      on : (r : Result T E) → OnOk r (Holds b (at + length some) more c) → OnOk r (Holds a at (some ++ more) c)
      on (Ok x) two = holds_more at some more a b c inside one two
      on (Err e) two = tt

  -- and stands there
  pub more_stands : (a b c : List ℕ) → at ≤ length a → Holds a at some b → OnOk result (Holds b (at + length some) more c) → OnOk result (HasBytes (at + length some) more c)
  more_stands a b c inside one two = on result two
    where
      on : (r : Result T E) → OnOk r (Holds b (at + length some) more c) → OnOk r (HasBytes (at + length some) more c)
      on (Ok x) two = part_written (at + length some) more b c (omega (arith, length-holds a at some b inside one)) two
      on (Err e) two = tt
