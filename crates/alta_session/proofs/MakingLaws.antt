-- Laws of the making of an index.
use Rattle.std.proofs.Common.{◌≡◌, ℕ, ◌<◌, ◌≤◌, inl, inr, refl, ap, arith}
use Rattle.alta_disk.specs.Disk.{DiskState, Stands}
use Rattle.alta_machine.specs.States.{empty_state}
use Rattle.alta_meaning.specs.Standing.{StandsFor}
use Rattle.alta_root.specs.Slots.{HasNoRoot}
use Rattle.alta_session.specs.Outcomes.{MakesIndex}
use Rattle.alta_session.specs.Run.{KeepsDisk}
use Rattle.alta_session.specs.Status.{IsUnmade}
use Rattle.alta_session.specs.declared.status.Status.TheVariants.{Done, DiskFault, Full, Exists}

fault_not_unmade : IsUnmade DiskFault → ⊥
fault_not_unmade (inl is) = cc
fault_not_unmade (inr (need, gap, is)) = cc

done_not_unmade : IsUnmade Done → ⊥
done_not_unmade (inl is) = cc
done_not_unmade (inr (need, gap, is)) = cc

-- there is one already
pub makes_none : (tells : Type 0) (d e : DiskState) → (tells → HasNoRoot d.content → ⊥) → KeepsDisk tells d e → MakesIndex tells d e Exists
makes_none tells d e rooted kept = record {
  ends = inr (inr (inl refl));
  made = λ is. absurd cc;
  exists = λ tell is. rooted tell;
  found = λ tell there. inl refl;
  too_small = λ need gap is. absurd cc;
  kept = λ unmade. kept;
  small = λ less. inl refl;
}

-- a call of the disk failed
pub makes_failed : (tells : Type 0) (d e : DiskState) → MakesIndex tells d e DiskFault
makes_failed tells d e = record {
  ends = inr (inl refl);
  made = λ is. absurd cc;
  exists = λ tell is. absurd cc;
  found = λ tell there. inr refl;
  too_small = λ need gap is. absurd cc;
  kept = λ unmade. absurd (fault_not_unmade unmade);
  small = λ less. inr (inr refl);
}

-- the disk is too small
pub makes_too_much : (tells : Type 0) (d e : DiskState) (limit : ℕ) → limit ≡ d.limit → limit < 2105344 → (tells → HasNoRoot d.content) → KeepsDisk tells d e → MakesIndex tells d e (Full 2105344 limit)
makes_too_much tells d e limit same less none kept = record {
  ends = inr (inr (inr (2105344, limit, refl)));
  made = λ is. absurd cc;
  exists = λ tell is. absurd cc;
  found = λ tell there. absurd (there (none tell));
  too_small = λ need gap is. (cc, cc, omega arith);
  kept = λ unmade. kept;
  small = λ below. inr (inl (ap (λ (gap : ℕ). Full 2105344 gap) same));
}

-- it was made
pub makes_one : (tells : Type 0) (d e : DiskState) → 2105344 ≤ d.limit → (tells → HasNoRoot d.content) → Stands tells e (StandsFor empty_state) → MakesIndex tells d e Done
makes_one tells d e large none stands = record {
  ends = inl refl;
  made = λ is. stands;
  exists = λ tell is. absurd cc;
  found = λ tell there. absurd (there (none tell));
  too_small = λ need gap is. absurd cc;
  kept = λ unmade. absurd (done_not_unmade unmade);
  small = λ less. absurd (omega arith);
}
