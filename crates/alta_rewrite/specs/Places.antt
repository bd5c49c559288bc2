-- Where what is written anew is to stand.
use Rattle.std.specs.Prelude.{◌≡◌, ◌==◌, ℕ, cond, List, [], ◌∷◌, ◌++◌, Option, Some, None, Result, Ok, Err}
use Rattle.alta_codec.specs.declared.extent.Extent.{Extent}
use Rattle.alta_meaning.specs.Chain.{◌>>=◌}
use Rattle.alta_meaning.specs.Working.{Full, placed}
use Rattle.alta_root.specs.Gaps.{taken_by}
use Rattle.alta_root.specs.declared.root.Root.{Root}
use Rattle.alta_rewrite.specs.declared.fault.RewriteFault.{RewriteFault}
use Rattle.alta_rewrite.specs.declared.fault.RewriteFault.TheVariants as faults
use Rattle.alta_rewrite.specs.declared.places.Places.{Places}

-- what a definition gives: a value, or why no place is left
abbrev pub Gives : {X : Type 0} → Result X RewriteFault → Result X Full → Type 0
Gives (Ok x) found = found ≡ Ok x
Gives (Err faults.Disk) found = ⊥
Gives (Err faults.Memory) found = ⊥
Gives (Err (faults.Full need gap)) found = found ≡ Err (record { need = need; gap = gap })

-- so many bytes in the first gap beside what is taken; no bytes take no place
abbrev pub place_for : List Extent → ℕ → ℕ → Result (Option Extent) Full
place_for taken bytes limit = cond (bytes == 0) (Ok None) (placed taken bytes limit >>= λ extent. Ok (Some extent))

abbrev pub as_list : Option Extent → List Extent
as_list None = []
as_list (Some extent) = extent ∷ []

-- two levels of so many bytes, each beside the extents of the root and those before it, and then a list beside both
abbrev pub places_for : ℕ → Root → ℕ → ℕ → ℕ → Result Places Full
places_for limit root oldest newest list =
    place_for (taken_by root []) oldest limit >>= λ first.
    place_for (taken_by root (as_list first)) newest limit >>= λ last.
    place_for (taken_by root (as_list first ++ as_list last)) list limit >>= λ found.
    Ok (record { oldest = first; newest = last; list = found })
