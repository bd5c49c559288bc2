-- Loops over a text or a list, a member at a time.
use Rattle.std.proofs.Common.{◌≡◌, ℕ, ◌+◌, ◌<◌, ◌≤◌, List, [], ◌∷◌, ◌++◌, length, drop, get_or, map, refl, sym, ap, ◌∙◌, arith, Bool, true, false}
use Rattle.std.specs.List.{prefix_len}
use Rattle.std.proofs.lemmas.List.{append_assoc, append-nil, at_drop_more, at_drop_all}
use Rattle.std.proofs.lemmas.List.Sums.{prefix_len-drop_no, prefix_len-drop_all}

module _ (p : ℕ → Bool) (xs : List ℕ) (n : ℕ) where
  pub passed : n < length xs → p (get_or xs n 0) ≡ true → n + prefix_len p (drop n xs) ≡ prefix_len p xs → n + 1 + prefix_len p (drop (n + 1) xs) ≡ prefix_len p xs
  passed within h same =
      let e : prefix_len p (drop n xs) ≡ 1 + prefix_len p (drop (n + 1) xs) = at_drop_more (prefix_len p) xs n 0 within ∙ rw h refl in
      omega (arith, e, same)

  pub stopped : n < length xs → p (get_or xs n 0) ≡ false → n + prefix_len p (drop n xs) ≡ prefix_len p xs → n ≡ prefix_len p xs
  stopped within h same = omega (arith, prefix_len-drop_no p xs n 0 within h, same)

  pub ended : length xs ≤ n → n + prefix_len p (drop n xs) ≡ prefix_len p xs → n ≡ prefix_len p xs
  ended past same = omega (arith, prefix_len-drop_all p xs n past, same)

-- one more is mapped twice and pushed
module _ {X Y Z : Type 0} (f : X → Y) (g : Y → Z) (xs : List X) (n : ℕ) (done : List Z) where
  pub mapped : (new : List Z) (x : X) (z : Z) → n < length xs → x ≡ get_or xs n x → z ≡ g (f x) → new ≡ done ++ z ∷ [] → done ++ map g (map f (drop n xs)) ≡ map g (map f xs) → new ++ map g (map f (drop (n + 1) xs)) ≡ map g (map f xs)
  mapped new x z within is made pushed same =
      let more = map g (map f (drop (n + 1) xs)) in
      let e : map g (map f (drop n xs)) ≡ z ∷ more = at_drop_more (λ ys. map g (map f ys)) xs n x within ∙ ap (λ y. y ∷ more) (ap (λ y. g (f y)) (sym is) ∙ sym made) in
      ap (λ ys. ys ++ more) pushed ∙ append_assoc done (z ∷ []) more ∙ ap (λ ys. done ++ ys) (sym e) ∙ same

  pub all_mapped : length xs ≤ n → done ++ map g (map f (drop n xs)) ≡ map g (map f xs) → done ≡ map g (map f xs)
  all_mapped past same = sym (append-nil done) ∙ ap (λ ys. done ++ ys) (sym (at_drop_all (λ ys. map g (map f ys)) xs n past)) ∙ same
