-- Lists that are loaded one after the other, and what each use of a test reads.
use Rattle.std.proofs.Common.{◌≡◌, ℕ, ◌<◌, List, [], ◌∷◌, ◌++◌, map, length, get_or, sym, refl, ap, ◌∙◌, append-nil, append_assoc}
use Rattle.std.specs.Prelude.{All}
use Rattle.std.proofs.lemmas.List.{map_push, get_or-map}
use Rattle.std.proofs.lemmas.List.Elements.{All-head, All-tail}

-- one more of a list that is loaded
module _ {X Y : Type 0} (f : X → Y) (xs ys : List X) (x : X) (pushed : ys ≡ xs ++ x ∷ []) where
  -- what is loaded and what is left make up all
  pub front-more : (y : Y) (left rest all : List Y) → left ≡ y ∷ rest → f x ≡ y → map f xs ++ left ≡ all → map f ys ++ rest ≡ all
  front-more y left rest all is same h =
      ap (λ zs. map f zs ++ rest) pushed ∙ ap (λ l. l ++ rest) (map_push f xs x ∙ ap (λ z. map f xs ++ z ∷ []) same)
      ∙ append_assoc (map f xs) (y ∷ []) rest ∙ ap (λ l. map f xs ++ l) (sym is) ∙ h

pub front-all : {Y : Type 0} (done rest all : List Y) → rest ≡ [] → done ++ rest ≡ all → done ≡ all
front-all done rest all none h = sym (append-nil done) ∙ ap (λ l. done ++ l) (sym none) ∙ h

-- what each use of a test reads
pub at-uses : {Y Z : Type 0} (h : Y → Z) (ts : List Y) (zs : List Z) (d : Y) (e : Z) (uses : List ℕ) → zs ≡ map h ts → All (λ i. i < length ts) uses
    → map (λ i. get_or zs i e) uses ≡ map h (map (λ i. get_or ts i d) uses)
at-uses h ts zs d e [] is all = refl
at-uses h ts zs d e (i ∷ is') is all =
    ap (λ x. x ∷ map (λ i. get_or zs i e) is') (ap (λ l. get_or l i e) is ∙ get_or-map h ts i d e (All-head (λ i. i < length ts) i is' all))
    ∙ ap (λ l. h (get_or ts i d) ∷ l) (at-uses h ts zs d e is' is (All-tail (λ i. i < length ts) i is' all))
