-- Documents that stand side by side: a location between the first one's first and the last one's end is in the range of one.
use Rattle.std.proofs.Common.{◌≡◌, ⊎_elim, ℕ, zero, suc, ◌+◌, ◌-◌, ◌<◌, ◌≤◌, false, List, [], ◌∷◌, length, get_or, ap, arith}
use Rattle.std.proofs.lemmas.Bool.{cases_lt}
use Rattle.alta_codec.specs.Rising.{IsRising}
use Rattle.alta_content.specs.declared.document.DocRow.{DocRow}
use Rattle.alta_content.specs.Lists.{IsInRange}
use Rattle.alta_content.specs.Rows.{AreDocuments, AreJoined, ends_of, firsts_of, start}
use Rattle.alta_words.specs.Word.{HasBounds}
use Rattle.alta_level.specs.Fitting.{AreFitting}
use Rattle.alta_level.proofs.Apart.{apart_from}
use Rattle.alta_level.proofs.Walks.{ends_many, ordered}

-- the last element
last_is : (xs : List ℕ) → 0 < length xs → get_or (0 ∷ xs) (length xs) 0 ≡ get_or xs (length xs - 1) 0
last_is [] some = absurd (omega (arith, some))
last_is (x ∷ xs) some = let e : length xs ≡ length (x ∷ xs) - 1 = omega arith in ap (λ i. get_or (x ∷ xs) i 0) e

module _ (documents : List DocRow) (d : AreDocuments documents) where
  above_first : (x : ℕ) → IsInRange documents x → get_or (firsts_of documents) 0 0 ≤ x
  above_first x r =
      ⊎_elim
      (λ z. let e : r.row ≡ 0 = omega (arith, z) in omega (arith, r.from, ap (λ i. get_or (firsts_of documents) i 0) e))
      (λ some. omega (arith, ordered start documents d 0 (omega (arith, some, r.within)), (apart_from documents d).apart 0 r.row (omega (arith, some)) r.within, r.from))
      (cases_lt r.row 1)

  below_last : (x : ℕ) → IsInRange documents x → x ≤ get_or (ends_of documents) (length documents - 1) 0
  below_last x r =
      ⊎_elim
      (λ w. omega (arith, r.to, (apart_from documents d).rising.rising r.row (length documents - 1) w (omega (arith, r.within, ends_many documents))))
      (λ g. let e : r.row ≡ length documents - 1 = omega (arith, g, r.within) in omega (arith, r.to, ap (λ i. get_or (ends_of documents) i 0) e))
      (cases_lt r.row (length documents - 1))

  held_to : AreJoined documents → (k : ℕ) → k < length documents → (x : ℕ) → get_or (firsts_of documents) 0 0 ≤ x → x ≤ get_or (ends_of documents) k 0 → IsInRange documents x
  held_to j zero l x from to = record { row = 0; within = l; from = from; to = to }
  held_to j (suc k) l x from to =
      ⊎_elim
      (λ w. held_to j k (omega (arith, l)) x from (omega (arith, w)))
      (λ g.
      let e : k + 1 ≡ suc k = omega arith in
      record {
        row = suc k;
        within = l;
        from = omega (arith, g, j k (omega (arith, l)), ap (λ i. get_or (firsts_of documents) i 0) e);
        to = to;
      })
      (cases_lt x (get_or (ends_of documents) k 0 + 1))

  module _ (list : List ℕ) (count first last : ℕ) (rises : IsRising list) (b : HasBounds list count first last) where
    pub none_fits : count ≡ 0 → AreFitting documents false list
    none_fits z = record { within = λ k l. absurd (omega (arith, l, z, b.counted)); ends_are = λ e. absurd cc }

    pub between_fits : AreJoined documents → 0 < length documents → get_or (firsts_of documents) 0 0 ≤ first → last ≤ get_or (ends_of documents) (length documents - 1) 0 → AreFitting documents false list
    between_fits j any from to = record {
      within = λ k l.
          held_to j (length documents - 1) (omega (arith, any)) (get_or list k 0)
          (⊎_elim
          (λ z. let e : k ≡ 0 = omega (arith, z) in omega (arith, from, b.first_is, ap (λ i. get_or list i 0) e))
          (λ some. omega (arith, from, b.first_is, rises.rising 0 k (omega (arith, some)) l))
          (cases_lt k 1))
          (⊎_elim
          (λ w. omega (arith, to, b.last_is, last_is list (omega (arith, l)), rises.rising k (length list - 1) w (omega (arith, l))))
          (λ g. let e : k ≡ length list - 1 = omega (arith, g, l) in omega (arith, to, b.last_is, last_is list (omega (arith, l)), ap (λ i. get_or list i 0) e))
          (cases_lt k (length list - 1)));
      ends_are = λ e. absurd cc;
    }

    pub any_document : 0 < count → AreFitting documents false list → 0 < length documents
    any_document some f = let r = f.within 0 (omega (arith, some, b.counted)) in omega (arith, r.within)

    pub from_first : 0 < count → AreFitting documents false list → get_or (firsts_of documents) 0 0 ≤ first
    from_first some f = omega (arith, above_first (get_or list 0 0) (f.within 0 (omega (arith, some, b.counted))), b.first_is)

    pub to_last : 0 < count → AreFitting documents false list → last ≤ get_or (ends_of documents) (length documents - 1) 0
    to_last some f =
        omega (arith, below_last (get_or list (length list - 1) 0) (f.within (length list - 1) (omega (arith, some, b.counted))), b.last_is, last_is list (omega (arith, some, b.counted)))
