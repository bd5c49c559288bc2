-- Laws of the ends of the documents that have one of several words.
use Rattle.std.proofs.Common.{◌⊎◌, ⊎_elim, inl, inr, ℕ, zero, suc, List, [], ◌∷◌, refl, sym, subst, arith}
use Rattle.std.specs.Prelude.{◌↔◌, Any, Contains}
use Rattle.std.proofs.lemmas.List.Elements.{All-nil, All-cons, All-head}
use Rattle.alta_codec.specs.Rising.{IsRising, pred_of}
use Rattle.alta_codec.proofs.Places.{not-Contains-nil}
use Rattle.alta_compound.specs.Union.{union, union_of}
use Rattle.alta_compound.specs.Unions.{union-has, union-keeps}
use Rattle.alta_lead.specs.Having.{HasWithin, HasAny, ends_with_any}
use Rattle.alta_lead.specs.HavingLaws.{having-rises, having-answers}

pub with_any-rises : (ends : List ℕ) (words : List (List ℕ)) → IsRising ends → IsRising (ends_with_any ends words)
with_any-rises ends words r = having-rises ends (union_of words ∷ []) [] r

module _ (low high : ℕ) where
  -- two lists have a location there where one of them has one
  pub within_either : (xs ys : List ℕ) → HasWithin low high (union xs ys) ↔ (HasWithin low high xs ⊎ HasWithin low high ys)
  within_either xs ys = (
    λ (x, m, l, u). ⊎_elim (λ n. inl (x, n, l, u)) (λ n. inr (x, n, l, u)) (union-has xs ys x m),
    λ h. ⊎_elim (λ (x, m, l, u). (x, union-keeps xs ys x (inl m), l, u)) (λ (x, m, l, u). (x, union-keeps xs ys x (inr m), l, u)) h,
  )

  any_front : (w : List ℕ) (ws : List (List ℕ)) → Any (HasWithin low high) (w ∷ ws) → HasWithin low high w ⊎ Any (HasWithin low high) ws
  any_front w ws (zero, x, i, e, p) = inl (subst (HasWithin low high) (sym e) p)
  any_front w ws (suc k, x, i, e, p) = inr (k, x, omega (arith, i), e, p)

  pub within_any : (words : List (List ℕ)) → HasWithin low high (union_of words) ↔ Any (HasWithin low high) words
  unfolding union_of
  within_any [] = (λ (x, m, l, u). absurd (not-Contains-nil x m), λ (k, w, i, e, p). absurd (omega (arith, i)))
  within_any (w ∷ ws) =
      let both = within_either w (union_of ws) in let rest = within_any ws in (
        λ h. ⊎_elim (λ a. (zero, w, omega arith, refl, a)) (λ b. let (k, x, i, e, p) = rest.0 b in (suc k, x, omega (arith, i), e, p)) (both.0 h),
        λ h. both.1 (⊎_elim (λ a. inl a) (λ b. inr (rest.1 b)) (any_front w ws h)),
      )

-- what the list has is what the words say of each end
pub any-answers : (ends : List ℕ) (words : List (List ℕ)) (e : ℕ) → IsRising ends → Contains (ends_with_any ends words) e ↔ HasAny ends words e
any-answers ends words e r =
    let P : List ℕ → Type 0 = HasWithin (pred_of ends e) e in
    let law = having-answers ends (union_of words ∷ []) [] e r in let any = within_any (pred_of ends e) e words in (
      λ m. let a = law.0 m in record { is_end = a.is_end; some = any.0 (All-head P (union_of words) [] a.each) },
      λ h. law.1 (record {
        is_end = h.is_end;
        each = All-cons P (union_of words) [] (any.1 h.some) (All-nil P);
        none = All-nil (λ w. P w → ⊥);
      }),
    )
