-- A cover in the making.
use Rattle.std.proofs.Common.{◌≡◌, ℕ, ◌+◌, ◌^◌, ◌≤◌, ◌<◌, List, [], ◌∷◌, ◌++◌, length, sym, subst}
use Rattle.std.proofs.lemmas.List.{append-nil, append_assoc}
use Rattle.std.proofs.Math.ListN.{length-append}
use Rattle.alta_machine.specs.Covers.{Covers, IsGreatest}
use Rattle.alta_machine.specs.declared.range.Range.{Range}
use Rattle.alta_machine.proofs.Few.{IsFew, few_at_start, behind}

-- These ranges come up to the next number: what covers the rest completes them.
pub record IsBegun (first last next : ℕ) (ranges : List Range) : Type 0 where
  pub rest : (more : List Range) → Covers next last more → Covers first last (ranges ++ more)
  pub few : IsFew next last (length ranges)

pub begun_at : (first last next : ℕ) (ranges : List Range) → last < 2 ^ 32 → next ≡ first → ranges ≡ [] → IsBegun first last next ranges
begun_at first last next ranges small at empty =
    let start : IsBegun first last first [] = record { rest = λ more covers. covers; few = few_at_start first last small } in
    subst (λ (list : List Range). IsBegun first last next list) (sym empty) (subst (λ (n : ℕ). IsBegun first last n []) (sym at) start)

pub begun_more : (first last next size : ℕ) (ranges longer : List Range) (range : Range) → last < 2 ^ 32 → next ≤ last → IsGreatest next last range → size ≡ 2 ^ range.level
    → longer ≡ ranges ++ range ∷ [] → IsBegun first last next ranges → IsBegun first last (next + size) longer
begun_more first last next size ranges longer range small in_it great is pushed begun =
    let step : IsBegun first last (next + 2 ^ range.level) (ranges ++ range ∷ []) = record {
      rest = λ more covers. subst (λ (list : List Range). Covers first last list) (sym (append_assoc ranges (range ∷ []) more)) (begun.rest (range ∷ more) (in_it, great, covers));
      few = subst (λ (n : ℕ). IsFew (next + 2 ^ range.level) last n) (sym (length-append ranges (range ∷ []))) (behind next last (length ranges) range small in_it great begun.few).1;
    } in
    subst (λ (list : List Range). IsBegun first last (next + size) list) (sym pushed) (subst (λ (n : ℕ). IsBegun first last (next + n) (ranges ++ range ∷ [])) (sym is) step)

pub begun_whole : (first last next : ℕ) (ranges : List Range) → last < next → IsBegun first last next ranges → Covers first last ranges
begun_whole first last next ranges past begun = subst (λ (list : List Range). Covers first last list) (append-nil ranges) (begun.rest [] past)
