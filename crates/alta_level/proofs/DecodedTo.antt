-- A stream of which the first locations are decoded.
use Rattle.std.proofs.Common.{◌≡◌, ℕ, suc, ◌+◌, ◌%◌, ◌<◌, ◌≤◌, List, [], ◌∷◌, ◌++◌, length, take, drop, get_or, refl, sym, subst, ap, ◌∙◌, arith, length-append, append_assoc}
use Rattle.std.specs.Prelude.{None}
use Rattle.std.proofs.Math.Seq.{drop-append_seam}
use Rattle.std.proofs.lemmas.List.{get_or-append-add}
use Rattle.alta_codec.specs.declared.location.TheConstants.{TOP}
use Rattle.alta_codec.proofs.Numerals.{AreBytes}
use Rattle.alta_postings.specs.Deltas.{Spells, HasPlaces, IsStep, stream_bytes, fault_from, list_from, first_fault, decoded_list}
use Rattle.alta_postings.proofs.Encoding.{no_places, mark_more}
use Rattle.alta_postings.proofs.Reading.{fault_end, list_end, reading_spells, place_is, list_ends}

pub record IsDecodedTo (s list places : List ℕ) (at last : ℕ) : Type 0 where
  pub fault : first_fault s ≡ fault_from at 0 last (drop at s)
  pub read : list ++ list_from at 0 last (drop at s) ≡ decoded_list s
  pub low : last < TOP
  pub within : at ≤ length s
  pub last_is : last ≡ get_or (0 ∷ decoded_list s) (length list) 0
  pub marked : first_fault s ≡ None → HasPlaces (decoded_list s) (length list) places

pub decoded_none : (s list places : List ℕ) → list ≡ [] → places ≡ [] → IsDecodedTo s list places 0 0
unfolding first_fault decoded_list
decoded_none s list places l p =
    let here : IsDecodedTo s [] [] 0 0 = record {
      fault = refl;
      read = refl;
      low = omega arith;
      within = omega arith;
      last_is = refl;
      marked = λ none. no_places (decoded_list s);
    } in
    subst (λ (ps : List ℕ). IsDecodedTo s list ps 0 0) (sym p) (subst (λ (xs : List ℕ). IsDecodedTo s xs [] 0 0) (sym l) here)

module _ (s list places : List ℕ) (at last y e : ℕ) (bytes : AreBytes s) (h : IsDecodedTo s list places at last) (x : IsStep s at last y e) where
  abbrev rest : List ℕ
  rest = list_from e 0 y (drop e s)

  whole_is : list ++ (y ∷ rest) ≡ decoded_list s
  whole_is = sym (ap (λ l. list ++ l) x.list) ∙ h.read

  many : length list < length (decoded_list s)
  many = omega (arith, ap length whole_is, length-append list (y ∷ rest))

  here_is : get_or (decoded_list s) (length list) 0 ≡ y
  here_is =
      let z : length list ≡ length list + 0 = omega arith in
      ap (λ l. get_or l (length list) 0) (sym whole_is) ∙ ap (λ i. get_or (list ++ (y ∷ rest)) i 0) z ∙ get_or-append-add list (y ∷ rest) 0 0

  place_here : first_fault s ≡ None → at ≡ length (stream_bytes 0 (take (length list) (decoded_list s)))
  place_here none =
      place_is s (decoded_list s) (length list) at last bytes (reading_spells s bytes none) h.within (omega (arith, many)) h.last_is (sym h.fault ∙ none)
      (sym (drop-append_seam list (list_from at 0 last (drop at s))) ∙ ap (λ l. drop (length list) l) h.read)

  pub decoded_more : (newer marks : List ℕ) → newer ≡ list ++ (y ∷ []) → (length list % 64 ≡ 0 → marks ≡ places ++ (at ∷ [])) → (0 < length list % 64 → marks ≡ places)
      → IsDecodedTo s newer marks e y
  decoded_more newer marks n first later =
      let long : length list + 1 ≡ length newer = omega (arith, ap length n, length-append list (y ∷ [])) in
      let one : suc (length list) ≡ length newer = omega (arith, long) in
      record {
        fault = h.fault ∙ x.fault;
        read = ap (λ l. l ++ rest) n ∙ append_assoc list (y ∷ []) rest ∙ whole_is;
        low = x.low;
        within = x.within;
        last_is = sym here_is ∙ ap (λ i. get_or (0 ∷ decoded_list s) i 0) one;
        marked = λ none. subst (λ (k : ℕ). HasPlaces (decoded_list s) k marks) long
            (mark_more (decoded_list s) places marks (length list) at (h.marked none) (place_here none) first later);
      }

module _ (s list places : List ℕ) (at last : ℕ) (bytes : AreBytes s) (h : IsDecodedTo s list places at last) (end : length s ≤ at) where
  no_fault : first_fault s ≡ None
  no_fault = h.fault ∙ fault_end s at last end

  all_is : list ≡ decoded_list s
  all_is = list_ends list _ _ (list_end s at last end) h.read

  pub decoded_spells : Spells s list
  decoded_spells = subst (λ (l : List ℕ). Spells s l) (sym all_is) (reading_spells s bytes no_fault)

  pub decoded_places : HasPlaces list (length list) places
  decoded_places = subst (λ (l : List ℕ). HasPlaces l (length list) places) (sym all_is) (h.marked no_fault)
