use Rattle.std.proofs.Common.{◌≤◌, ◌-◌, ◌+◌, ℕ}
use Rattle.alta_layout.specs.declared.places.TheConstants.{HEAD_BYTES}
use Rattle.alta_root.specs.Gaps.{IsGap, taken_by}
use Rattle.alta_root.proofs.gaps.first_gap.Given as goal

abbrev pub invariant-loop-at : goal.invariant-loop-at
invariant-loop-at l = record {
  behind : HEAD_BYTES ≤ l.at;
  none_before : (q : ℕ) → IsGap (taken_by l.root l.extra) l.bytes l.limit q → l.at ≤ q;
}

abbrev pub decreases-loop-at : goal.decreases-loop-at
decreases-loop-at l = l.limit + 1 - l.at
