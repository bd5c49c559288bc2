-- Where levels break a rule, so does the image.
use Rattle.std.proofs.Common.{◌≡◌, ℕ, Bool, true, false, List, [], ◌∷◌, ◌++◌, refl, sym, ap, subst, ◌∙◌, Result, Ok, Err, append_assoc}
use Rattle.alta_layout.specs.declared.slot.Slot.{Slot}
use Rattle.alta_codec.specs.declared.extent.Extent.{Extent}
use Rattle.alta_root.specs.Slots.{Counts}
use Rattle.alta_root.specs.declared.root.Root.{Root}
use Rattle.alta_table.specs.Tables.{Tables}
use Rattle.alta_meaning.specs.Broken.{ComesTo, IsBrokenAt, in_tables, out_of_order, in_names}
use Rattle.alta_meaning.specs.Chain.{◌>>=◌}
use Rattle.alta_meaning.specs.Known.{Named}
use Rattle.alta_meaning.specs.Opened.{are_in_order, deleted_in, levels_from, levels_in, names_in, tables_at, with_level}
use Rattle.alta_meaning.proofs.Existence.{level_found}
use Rattle.alta_meaning.proofs.Steps.{levels_append, not_failed, one_failure}

module _ (image : List ℕ) (slot : Slot) (root : Root) (counts : Counts slot root image) (deleted : List ℕ) (list : deleted_in root image ≡ Ok deleted) (place : ℕ) where
  -- from these levels on the level of this extent, or one behind it, breaks a rule at the place
  module _ (before : List Extent) (levels : List Tables) (extent : Extent) (rest : List Extent) (split : root.levels.items ≡ before ++ extent ∷ rest)
      (so_far : levels_from root deleted [] before image ≡ Ok levels) (fails : levels_from root deleted levels (extent ∷ rest) image ≡ Err place)
      (go_on : (longer : List Tables) → with_level root deleted levels extent image ≡ Ok longer → levels_from root deleted longer rest image ≡ Err place → IsBrokenAt image place) where
    comes : ComesTo root deleted levels extent image
    comes = record { slot = slot; counts = counts; list = list; before = before; behind = rest; split = split; tables = so_far }

    at_first : (p : ℕ) → with_level root deleted levels extent image ≡ Err p → IsBrokenAt image p → IsBrokenAt image place
    at_first p e broken =
        subst (IsBrokenAt image) (one_failure (levels_from root deleted levels (extent ∷ rest) image) p place (ap (λ (r : Result (List Tables) ℕ). r >>= λ longer. levels_from root deleted longer rest image) e) fails) broken

    by_names : (level : Tables) → tables_at extent image ≡ Ok level → are_in_order root levels level.documents ≡ true → (r : Result (List Named) ℕ) → names_in deleted levels level ≡ r → IsBrokenAt image place
    by_names level found ordered (Ok live) named =
        let is = level_found root deleted levels extent image level live found ordered named in
        go_on (levels ++ level ∷ []) is (sym (ap (λ (r : Result (List Tables) ℕ). r >>= λ longer. levels_from root deleted longer rest image) is) ∙ fails)
    by_names level found ordered (Err p) named = at_first p (rw found rw ordered rw named refl) (in_names root deleted levels extent level p comes found ordered named)

    by_order : (level : Tables) → tables_at extent image ≡ Ok level → (b : Bool) → are_in_order root levels level.documents ≡ b → IsBrokenAt image place
    by_order level found true ordered = by_names level found ordered (names_in deleted levels level) refl
    by_order level found false ordered = at_first extent.place (rw found rw ordered refl) (out_of_order root deleted levels extent level comes found ordered)

    by_tables : (r : Result Tables ℕ) → tables_at extent image ≡ r → IsBrokenAt image place
    by_tables (Ok level) found = by_order level found (are_in_order root levels level.documents) refl
    by_tables (Err p) found = at_first p (rw found refl) (in_tables root deleted levels extent p comes found)

  by_levels : (rest before : List Extent) (levels : List Tables) → root.levels.items ≡ before ++ rest → levels_from root deleted [] before image ≡ Ok levels → levels_from root deleted levels rest image ≡ Err place
      → IsBrokenAt image place
  by_levels [] before levels split so_far fails = absurd (not_failed (Ok levels) levels place refl fails)
  by_levels (extent ∷ rest) before levels split so_far fails =
      by_tables before levels extent rest split so_far fails
      (λ longer e more. by_levels rest (before ++ extent ∷ []) longer (split ∙ sym (append_assoc before (extent ∷ []) rest)) (levels_append root deleted image [] before (extent ∷ []) ∙ (rw so_far rw e refl)) more)
      (tables_at extent image) refl

  -- a level that breaks a rule
  pub broken_level : levels_in root deleted image ≡ Err place → IsBrokenAt image place
  broken_level fails = by_levels root.levels.items [] [] refl refl fails
