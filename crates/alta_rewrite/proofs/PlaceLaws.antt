-- What places are found.
use Rattle.std.proofs.Common.{◌≡◌, ℕ, suc, zero, ◌<◌, Bool, false, cond, List, [], ◌++◌, refl, sym, ap, subst, ◌∙◌, arith, Result, Ok, Err}
use Rattle.std.specs.Prelude.{◌==◌, Option, Some, None}
use Rattle.alta_codec.specs.declared.extent.Extent.{Extent}
use Rattle.alta_meaning.proofs.KeptStates.{err_ok, ok_is}
use Rattle.alta_meaning.proofs.Tests.{by_test, equal_from}
use Rattle.alta_meaning.specs.Chain.{◌>>=◌}
use Rattle.alta_meaning.specs.Working.{Full, placed}
use Rattle.alta_root.specs.Gaps.{taken_by}
use Rattle.alta_root.specs.declared.root.Root.{Root}
use Rattle.alta_rewrite.specs.Places.{as_list, place_for, places_for}
use Rattle.alta_rewrite.specs.declared.places.Places.{Places}

-- no bytes have no place, and others are placed
abbrev pub IsPlaceFor : List Extent → ℕ → ℕ → Option Extent → Type 0
IsPlaceFor taken bytes limit None = bytes ≡ 0
IsPlaceFor taken bytes limit (Some extent) = (0 < bytes) × (placed taken bytes limit ≡ Ok extent)

pub some_from : (n : ℕ) → (n == 0) ≡ false → 0 < n
some_from zero e = absurd cc
some_from (suc n) e = omega arith

abbrev pub by_bytes : List Extent → ℕ → ℕ → Bool → Result (Option Extent) Full
by_bytes taken bytes limit b = cond b (Ok None) (placed taken bytes limit >>= λ extent. Ok (Some extent))

pub place_is : (taken : List Extent) (bytes limit : ℕ) (found : Option Extent) → place_for taken bytes limit ≡ Ok found → IsPlaceFor taken bytes limit found
place_is taken bytes limit found e =
    by_test (bytes == 0)
    (λ none. subst (IsPlaceFor taken bytes limit) (ok_is None found (sym (ap (by_bytes taken bytes limit) none) ∙ e)) (equal_from bytes 0 none))
    (λ some. by_placed (some_from bytes some) (placed taken bytes limit) refl (sym (ap (by_bytes taken bytes limit) some) ∙ e))
  where
    by_placed : 0 < bytes → (r : Result Extent Full) → placed taken bytes limit ≡ r → (r >>= λ extent. Ok (Some extent)) ≡ Ok found → IsPlaceFor taken bytes limit found
    by_placed some (Ok extent) is e = subst (IsPlaceFor taken bytes limit) (ok_is (Some extent) found e) (some, is)
    by_placed some (Err full) is e = absurd (err_ok found full e)

-- the places of two levels and a list
pub record ArePlaces (limit : ℕ) (root : Root) (oldest newest list : ℕ) (places : Places) : Type 0 where
  pub oldest_is : IsPlaceFor (taken_by root []) oldest limit places.oldest
  pub newest_is : IsPlaceFor (taken_by root (as_list places.oldest)) newest limit places.newest
  pub list_is : IsPlaceFor (taken_by root (as_list places.oldest ++ as_list places.newest)) list limit places.list

module _ (limit : ℕ) (root : Root) (oldest newest list : ℕ) (places : Places) where
  by_list : (first last : Option Extent) → place_for (taken_by root []) oldest limit ≡ Ok first → place_for (taken_by root (as_list first)) newest limit ≡ Ok last
      → (r : Result (Option Extent) Full) → place_for (taken_by root (as_list first ++ as_list last)) list limit ≡ r
      → (r >>= λ found. Ok (record { oldest = first; newest = last; list = found })) ≡ Ok places → ArePlaces limit root oldest newest list places
  by_list first last first_is last_is (Ok found) is e =
      subst (ArePlaces limit root oldest newest list) (ok_is (record { oldest = first; newest = last; list = found }) places e)
      (record {
        oldest_is = place_is (taken_by root []) oldest limit first first_is;
        newest_is = place_is (taken_by root (as_list first)) newest limit last last_is;
        list_is = place_is (taken_by root (as_list first ++ as_list last)) list limit found is;
      })
  by_list first last first_is last_is (Err full) is e = absurd (err_ok places full e)

  by_newest : (first : Option Extent) → place_for (taken_by root []) oldest limit ≡ Ok first → (r : Result (Option Extent) Full) → place_for (taken_by root (as_list first)) newest limit ≡ r
      → (r >>= λ last. place_for (taken_by root (as_list first ++ as_list last)) list limit >>= λ found. Ok (record { oldest = first; newest = last; list = found })) ≡ Ok places → ArePlaces limit root oldest newest list places
  by_newest first first_is (Ok last) is e = by_list first last first_is is (place_for (taken_by root (as_list first ++ as_list last)) list limit) refl e
  by_newest first first_is (Err full) is e = absurd (err_ok places full e)

  by_oldest : (r : Result (Option Extent) Full) → place_for (taken_by root []) oldest limit ≡ r
      → (r >>= λ first. place_for (taken_by root (as_list first)) newest limit >>= λ last. place_for (taken_by root (as_list first ++ as_list last)) list limit >>= λ found. Ok (record { oldest = first; newest = last; list = found }))
      ≡ Ok places → ArePlaces limit root oldest newest list places
  by_oldest (Ok first) is e = by_newest first is (place_for (taken_by root (as_list first)) newest limit) refl e
  by_oldest (Err full) is e = absurd (err_ok places full e)

  pub places_are : places_for limit root oldest newest list ≡ Ok places → ArePlaces limit root oldest newest list places
  places_are e = by_oldest (place_for (taken_by root []) oldest limit) refl e
