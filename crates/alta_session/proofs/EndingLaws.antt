-- Laws of what a call that answers lines leaves of the counts, and why it ended.
use Rattle.std.proofs.Common.{◌≡◌, ℕ, ◌≤◌, ◌↔◌, List, [], ◌++◌, Option, None, Some, IfSome, Result, Ok, Err, take, inl, refl, sym, subst, ◌∙◌, arith}
use Rattle.alta_codec.specs.Faults.{Rose}
use Rattle.alta_console.specs.Transcript.{Consumes}
use Rattle.alta_disk.specs.Disk.{DiskState}
use Rattle.alta_session.specs.Ending.{Accounts, IsCaused, KeepsCounts}
use Rattle.alta_session.specs.declared.status.Status.{Status}
use Rattle.alta_session.specs.declared.status.Status.TheVariants.{Memory, TakeFault}

rose_later : (a b c : ℕ) → a ≤ b → Rose b c → Rose a c
rose_later a b c le rose = omega (arith, le, rose)

module _ {C : Type 0} (take_faults give_faults : C → ℕ) where
  -- nothing was called
  pub counts_none : (c : C) (d : DiskState) → KeepsCounts take_faults give_faults c c d d
  counts_none c d = record { takes = omega arith; gives = omega arith; kept = record { faults = omega arith; limit = refl } }

  -- the disk alone was called
  pub counts_disk : (c : C) (d e : DiskState) → d.faults ≤ e.faults → e.limit ≡ d.limit → KeepsCounts take_faults give_faults c c d e
  counts_disk c d e faults limit = record { takes = omega arith; gives = omega arith; kept = record { faults = faults; limit = limit } }

  -- then more was
  pub counts_on : (a b c : C) (d e f : DiskState) → KeepsCounts take_faults give_faults a b d e → KeepsCounts take_faults give_faults b c e f → KeepsCounts take_faults give_faults a c d f
  counts_on a b c d e f one two = record {
    takes = omega (arith, one.takes, two.takes);
    gives = omega (arith, one.gives, two.gives);
    kept = record { faults = omega (arith, one.kept.faults, two.kept.faults); limit = two.kept.limit ∙ one.kept.limit };
  }

  -- it ended behind calls that went well
  pub caused_on : (tells : Type 0) (a b c : C) (d e f : DiskState) (status : Status) → KeepsCounts take_faults give_faults a b d e → IsCaused tells give_faults b c e f status → IsCaused tells give_faults a c d f status
  caused_on tells a b c d e f status one two = record {
    full = two.full;
    give_fault = λ is. rose_later (give_faults a) (give_faults b) (give_faults c) one.gives (two.give_fault is);
    disk_fault = λ is. rose_later d.faults e.faults f.faults one.kept.faults (two.disk_fault is);
  }

-- want of memory has no cause, and that of an input that failed is another
pub caused_memory : {C : Type 0} (tells : Type 0) (give_faults : C → ℕ) (a b : C) (d e : DiskState) (status : Status) → status ≡ Memory → IsCaused tells give_faults a b d e status
caused_memory tells give_faults a b d e status memory = record {
  full = λ need gap tell is. absurd cc;
  give_fault = λ is. absurd cc;
  disk_fault = λ is. absurd cc;
}

pub caused_input : {C : Type 0} (tells : Type 0) (give_faults : C → ℕ) (a b : C) (d e : DiskState) (status : Status) → status ≡ TakeFault → IsCaused tells give_faults a b d e status
caused_input tells give_faults a b d e status failed = record {
  full = λ need gap tell is. absurd cc;
  give_fault = λ is. absurd cc;
  disk_fault = λ is. absurd cc;
}

-- ---- of calls

-- nothing was called, for want of memory
pub accounts_memory : {C T : Type 0} (tells : Type 0) (left : C → Option (List ℕ)) (take_faults give_faults : C → ℕ) (c : C) (d : DiskState) (status : Status) → status ≡ Memory → Accounts {T = T} tells left take_faults give_faults c c d d (Err status)
accounts_memory tells left take_faults give_faults c d status memory = record {
  ends = inl (inl memory);
  caused = caused_memory tells give_faults c c d d status memory;
  input_kept = refl;
  counts = counts_none take_faults give_faults c d;
}

-- lines were answered behind others
pub accounts_on : {C T : Type 0} (tells : Type 0) (left : C → Option (List ℕ)) (take_faults give_faults : C → ℕ) (a b c : C) (d e f : DiskState) (result : Result T Status) → left b ≡ left a → KeepsCounts take_faults give_faults a b d e
    → Accounts tells left take_faults give_faults b c e f result → Accounts tells left take_faults give_faults a c d f result
accounts_on tells left take_faults give_faults a b c d e f (Ok x) kept counts later = record {
  ends = tt;
  caused = tt;
  input_kept = later.input_kept ∙ kept;
  counts = counts_on take_faults give_faults a b c d e f counts later.counts;
}
accounts_on tells left take_faults give_faults a b c d e f (Err status) kept counts later = record {
  ends = later.ends;
  caused = caused_on take_faults give_faults tells a b c d e f status counts later.caused;
  input_kept = later.input_kept ∙ kept;
  counts = counts_on take_faults give_faults a b c d e f counts later.counts;
}

-- where a take finds the end of the input, all of it was read
pub read_to_end : (a b c : Option (List ℕ)) (n : ℕ) (piece : List ℕ) → n ≡ 0 → IfSome a (λ bytes. (n ≡ 0) ↔ (bytes ≡ [])) → Consumes a b (take n piece) → c ≡ b → IfSome c (λ bytes. bytes ≡ [])
read_to_end a None c n piece none ends read same = subst (λ (o : Option (List ℕ)). IfSome o (λ bytes. bytes ≡ [])) (sym same) tt
read_to_end a (Some left) c n piece none ends read same =
    let told : (n ≡ 0) ↔ (take n piece ++ left ≡ []) = subst (λ (o : Option (List ℕ)). IfSome o (λ bytes. (n ≡ 0) ↔ (bytes ≡ []))) read ends in
    let empty : left ≡ [] = subst (λ (k : ℕ). take k piece ++ left ≡ []) none (told.0 none) in
    subst (λ (o : Option (List ℕ)). IfSome o (λ bytes. bytes ≡ [])) (sym same) empty
