-- A table that fits the numbers of names, as names come and go.
use Rattle.std.proofs.Common.{◌≡◌, inl, inr, ⊎_elim, ℕ, Bool, true, false, cond, List, Option, refl, sym, ap, ◌∙◌}
use Rattle.std.specs.Prelude.{◌≢◌, Some, None}
use Rattle.std.specs.Map.{update}
use Rattle.std.specs.Str.{bytes_eq}
use Rattle.std.proofs.lemmas.Bool.{cases_Bool}
use Rattle.std.proofs.lemmas.Slice.Eq.{bytes_eq-Decides}
use Rattle.alta_names.specs.Names.{Fits, Numbers, first_of, likely_of, name_hash, other_of}
use Rattle.alta_names.specs.declared.table.NameTable.{NameTable}

same_some : (m n : ℕ) → Some m ≡ Some n → m ≡ n
same_some m n e = cc

none_some : {X : Type 0} (n : ℕ) → None ≡ Some n → X
none_some n e = absurd cc

-- the name itself, after an update
here : (numbers : Numbers) (name : List ℕ) (value : Option ℕ) (q : List ℕ) → bytes_eq name q ≡ true → update bytes_eq numbers name value q ≡ value
here numbers name value q same = ap (λ (b : Bool). cond b value (numbers q)) same

-- and another
there : (numbers : Numbers) (name : List ℕ) (value : Option ℕ) (q : List ℕ) → bytes_eq name q ≡ false → update bytes_eq numbers name value q ≡ numbers q
there numbers name value q other = ap (λ (b : Bool). cond b value (numbers q)) other

-- a table that fits the numbers of names fits the same numbers
pub same_numbers : (table : NameTable) (numbers others : Numbers) → ((name : List ℕ) → numbers name ≡ others name) → Fits table numbers → Fits table others
same_numbers table numbers others same fits = record {
  kept = λ q n is. fits.kept q n (same q ∙ is);
  firsts = λ h n is. let (q, hash, has) = fits.firsts h n is in (q, hash, sym (same q) ∙ has);
  others = λ q n is. sym (same q) ∙ fits.others q n is;
}

-- the number of a name that is not the one of its hash is kept by the text
pub by_text : (table : NameTable) (numbers : Numbers) → Fits table numbers → (name : List ℕ) → ((number : ℕ) → likely_of table name ≡ Some number → numbers name ≡ Some number → ⊥)
    → other_of table name ≡ numbers name
by_text table numbers fits name differs = by_value (numbers name) refl (other_of table name) refl
  where
    by_value : (is : Option ℕ) → numbers name ≡ is → (text : Option ℕ) → other_of table name ≡ text → other_of table name ≡ numbers name
    by_value (Some n) is text found = ⊎_elim (λ first. absurd (differs n first is)) (λ here. here ∙ sym is) (fits.kept name n is)
    by_value None is None found = found ∙ sym is
    by_value None is (Some n) found = none_some n (sym is ∙ fits.others name n found)

module _ (old new : NameTable) (numbers : Numbers) (fits : Fits old numbers) (name : List ℕ) (number : ℕ) where
  -- a name more, kept by its text
  pub noted_other : numbers name ≡ None → ((h : ℕ) → first_of new h ≡ first_of old h) → ((q : List ℕ) → other_of new q ≡ update bytes_eq (other_of old) name (Some number) q)
      → Fits new (update bytes_eq numbers name (Some number))
  noted_other free firsts others = record {
    kept = λ q n is.
        ⊎_elim
        (λ same. inr (others q ∙ here (other_of old) name (Some number) q same ∙ sym (here numbers name (Some number) q same) ∙ is))
        (λ other. ⊎_elim (λ first. inl (firsts (name_hash q) ∙ first)) (λ text. inr (others q ∙ there (other_of old) name (Some number) q other ∙ text)) (fits.kept q n (sym (there numbers name (Some number) q other) ∙ is)))
        (cases_Bool (bytes_eq name q));
    firsts = λ h n is.
        let (q, hash, has) = fits.firsts h n (sym (firsts h) ∙ is) in
        (q, hash, there numbers name (Some number) q (apart q n has) ∙ has);
    others = λ q n is.
        ⊎_elim
        (λ same. here numbers name (Some number) q same ∙ sym (here (other_of old) name (Some number) q same) ∙ sym (others q) ∙ is)
        (λ other. there numbers name (Some number) q other ∙ fits.others q n (sym (there (other_of old) name (Some number) q other) ∙ sym (others q) ∙ is))
        (cases_Bool (bytes_eq name q));
  }
    where
      apart : (q : List ℕ) (n : ℕ) → numbers q ≡ Some n → bytes_eq name q ≡ false
      apart q n has = ⊎_elim (λ same. none_some n (sym free ∙ ap numbers ((bytes_eq-Decides name q).0 same) ∙ has)) (λ other. other) (cases_Bool (bytes_eq name q))

  -- a name less
  pub forgotten : numbers name ≡ Some number → ((q : List ℕ) → numbers q ≡ Some number → name ≡ q)
      → ((h n : ℕ) → first_of new h ≡ Some n → first_of old h ≡ Some n) → ((h n : ℕ) → first_of old h ≡ Some n → n ≢ number → first_of new h ≡ Some n) → ((h : ℕ) → h ≡ name_hash name → first_of new h ≢ Some number)
      → ((q : List ℕ) → other_of new q ≡ update bytes_eq (other_of old) name None q) → Fits new (update bytes_eq numbers name None)
  forgotten is_number only less kept gone others = record {
    kept = λ q n is.
        let (other, has) = still q n is in
        ⊎_elim (λ first. inl (kept (name_hash q) n first (λ e. differ q other (only q (has ∙ ap (λ (m : ℕ). Some m) e)))))
        (λ text. inr (others q ∙ there (other_of old) name None q other ∙ text)) (fits.kept q n has);
    firsts = λ h n is.
        let (q, hash, has) = fits.firsts h n (less h n is) in (
          q,
          hash,
          ⊎_elim
              (λ same.
              let it : name ≡ q = (bytes_eq-Decides name q).0 same in
              let number_is : n ≡ number = same_some n number (sym has ∙ ap numbers (sym it) ∙ is_number) in
              absurd (gone h (sym hash ∙ ap name_hash (sym it)) (is ∙ ap (λ (m : ℕ). Some m) number_is)))
              (λ other. there numbers name None q other ∙ has)
              (cases_Bool (bytes_eq name q)),
        );
    others = λ q n is.
        ⊎_elim
        (λ same. none_some n (sym (here (other_of old) name None q same) ∙ sym (others q) ∙ is))
        (λ other. there numbers name None q other ∙ fits.others q n (sym (there (other_of old) name None q other) ∙ sym (others q) ∙ is))
        (cases_Bool (bytes_eq name q));
  }
    where
      differ : (q : List ℕ) → bytes_eq name q ≡ false → name ≡ q → ⊥
      differ q other it = absurd (cc (other, (bytes_eq-Decides name q).1 it))

      still : (q : List ℕ) (n : ℕ) → update bytes_eq numbers name None q ≡ Some n → (bytes_eq name q ≡ false) × (numbers q ≡ Some n)
      still q n is =
          ⊎_elim
          (λ same. none_some n (sym (here numbers name None q same) ∙ is))
          (λ other. (other, sym (there numbers name None q other) ∙ is))
          (cases_Bool (bytes_eq name q))
