-- The test of a name tells whether it is one.
use Rattle.std.proofs.Common.{◌≡◌, ℕ, ◌≤◌, List, length, refl, Bool, true, false}
use Rattle.std.specs.Prelude.{nat_le}
use Rattle.std.specs.Bool.{Decides}
use Rattle.std.specs.List.{All, list_all}
use Rattle.std.proofs.lemmas.Bool.Decides.{Decides-and, Decides-by_and}
use Rattle.std.proofs.lemmas.Bool.{leb-true, le-leb}
use Rattle.alta_codec.specs.Name.{IsGraphic, IsName, is_graphic, is_name}

pub is_graphic-Decides : (b : ℕ) → Decides (is_graphic b) (IsGraphic b)
is_graphic-Decides b = Decides-and _ _ (leb-true 33 b, le-leb 33 b) (leb-true b 126, le-leb b 126)

all_graphic : (name : List ℕ) → Decides (list_all is_graphic name) (All IsGraphic name)
all_graphic = Decides-by_and is_graphic IsGraphic (list_all is_graphic) is_graphic-Decides refl (λ _ _. refl)

pub is_name-Decides : (name : List ℕ) → Decides (is_name name) (IsName name)
unfolding is_name
is_name-Decides name =
    let least : Decides (nat_le 1 (length name)) (1 ≤ length name) = (leb-true 1 (length name), le-leb 1 (length name)) in
    let most : Decides (nat_le (length name) 64) (length name ≤ 64) = (leb-true (length name) 64, le-leb (length name) 64) in
    let sizes = Decides-and _ _ least most in
    let both = Decides-and _ _ sizes (all_graphic name) in
    (λ e. let parts = both.0 e in (parts.0.0, parts.0.1, parts.1), λ is. both.1 ((is.0, is.1), is.2))

pub name_is : (name : List ℕ) → IsName name → is_name name ≡ true
name_is name is = (is_name-Decides name).1 is

pub name_is_not : (name : List ℕ) → (IsName name → ⊥) → is_name name ≡ false
name_is_not name not_name = tested (is_name name) refl
  where
    tested : (b : Bool) → is_name name ≡ b → is_name name ≡ false
    tested true e = absurd (not_name ((is_name-Decides name).0 e))
    tested false e = e
