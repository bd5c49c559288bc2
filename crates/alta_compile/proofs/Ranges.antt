-- Plans of ranges, one after the other.
use Rattle.std.proofs.Common.{◌≡◌, ℕ, ◌+◌, ◌<◌, ◌≤◌, List, [], ◌∷◌, ◌++◌, length, drop, get_or, map, refl, sym, ap, ◌∙◌, arith}
use Rattle.std.proofs.lemmas.List.{append_assoc, append-nil, at_drop_more, at_drop_all, map-append}
use Rattle.alta_machine.specs.declared.range.Range.{Range}
use Rattle.alta_machine.specs.PlanOf.{either_of, range_plan}
use Rattle.alta_machine.specs.Plans.{any_of, trees_of, Tree}
use Rattle.alta_compile.specs.View.{tree}
use Rattle.alta_compile.specs.declared.plan.Plan.{Plan}

pub range_more : (ranges : List Range) (n : ℕ) (r : Range) (old new : List Plan) (p : Plan) → n < length ranges → tree p ≡ range_plan (get_or ranges n r) → new ≡ old ++ p ∷ []
    → map tree old ++ map range_plan (drop n ranges) ≡ map range_plan ranges → map tree new ++ map range_plan (drop (n + 1) ranges) ≡ map range_plan ranges
range_more ranges n r old new p within planned pushed same =
    let more = map range_plan (drop (n + 1) ranges) in
    let e : map range_plan (drop n ranges) ≡ tree p ∷ more = at_drop_more (λ (rs : List Range). map range_plan rs) ranges n r within ∙ ap (λ (t : Tree). t ∷ more) (sym planned) in
    ap (λ (ps : List Plan). map tree ps ++ more) pushed ∙ ap (λ (ts : List Tree). ts ++ more) (map-append tree old (p ∷ [])) ∙ append_assoc (map tree old) (tree p ∷ []) more
    ∙ ap (λ (ts : List Tree). map tree old ++ ts) (sym e) ∙ same

pub ranges_done : (ranges : List Range) (n : ℕ) (old : List Plan) → length ranges ≤ n → map tree old ++ map range_plan (drop n ranges) ≡ map range_plan ranges → map tree old ≡ map range_plan ranges
ranges_done ranges n old past same = sym (append-nil (map tree old)) ∙ ap (λ (ts : List Tree). map tree old ++ ts) (sym (at_drop_all (λ (rs : List Range). map range_plan rs) ranges n past)) ∙ same

-- one plan, and several
pub either_one : (parts : List Plan) (p : Plan) (n m : ℕ) → n ≡ m → m ≡ length parts → n ≡ 1 → p ≡ get_or parts 0 p → tree p ≡ either_of (map tree parts)
either_one [] p n m e len one is = absurd (omega (arith, e, len, one))
either_one (x ∷ []) p n m e len one is = ap tree is
either_one (x ∷ y ∷ xs) p n m e len one is = absurd (omega (arith, e, len, one))

pub either_many : (parts : List Plan) (n m : ℕ) → n ≡ m → m ≡ length parts → (n ≡ 1 → ⊥) → any_of (trees_of (map tree parts)) ≡ either_of (map tree parts)
either_many [] n m e len many = refl
either_many (x ∷ []) n m e len many = absurd (many (omega (arith, e, len)))
either_many (x ∷ y ∷ xs) n m e len many = refl
