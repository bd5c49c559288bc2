-- A node's first line, and the lines of its parts.
use Rattle.std.proofs.Common.{◌≡◌, ℕ, ◌+◌, ◌-◌, ◌<◌, ◌≤◌, List, [], ◌∷◌, ◌++◌, length, take, drop, get_or, map, refl, sym, ap, ◌∙◌, arith, append_assoc}
use Rattle.std.specs.Prelude.{codes}
use Rattle.std.specs.Fmt.{decimal}
use Rattle.std.proofs.Math.Seq.{take-append_seam}
use Rattle.std.proofs.lemmas.List.{length-map, length-append, append-nil, at_drop_more, at_drop_all}
use Rattle.alta_machine.specs.Explained.{count, deeper, explained_each}
use Rattle.alta_machine.specs.Plans.{Tree, trees_of}
use Rattle.alta_compile.specs.View.{tree}
use Rattle.alta_compile.specs.declared.plan.Plan.{Plan}

count-trees : (ts : List Tree) → count (trees_of ts) ≡ length ts
count-trees [] = refl
count-trees (t ∷ ts) = omega (arith, count-trees ts)

pub head_and_parts : (parts : List Plan) (n : ℕ) (out mid new margin lent word : List ℕ) → n ≡ length parts → lent ≡ margin
    → mid ≡ out ++ (lent ++ word ++ decimal n ++ codes "\n")
    → new ≡ mid ++ explained_each (deeper margin) (trees_of (map tree parts))
    → new
    ≡ out ++ (margin ++ word ++ decimal (count (trees_of (map tree parts))) ++ codes "\n" ++ explained_each (deeper margin) (trees_of (map tree parts)))
head_and_parts parts n out mid new margin lent word e same head rest =
    let r = explained_each (deeper margin) (trees_of (map tree parts)) in
    let size : n ≡ count (trees_of (map tree parts)) = e ∙ sym (count-trees (map tree parts) ∙ length-map parts tree) in
    rest
    ∙ ap (λ x. x ++ r) (head ∙ ap (λ m. out ++ (m ++ word ++ decimal n ++ codes "\n")) same)
    ∙ append_assoc out (margin ++ word ++ decimal n ++ codes "\n") r
    ∙ ap (λ k. out ++ (margin ++ word ++ decimal k ++ codes "\n" ++ r)) size

-- lines that are written member by member
module _ {X : Type 0} (lines : List X → List ℕ) (line : X → List ℕ) (xs : List X) (i : ℕ) where
  pub more_lines : (x : X) (out new r : List ℕ) → ((y : X) (ys : List X) → lines (y ∷ ys) ≡ line y ++ lines ys) → i < length xs → x ≡ get_or xs i x → new ≡ out ++ line x → out ++ lines (drop i xs) ≡ r → new ++ lines (drop (i + 1) xs) ≡ r
  more_lines x out new r cons within is written same =
      let rest = drop (i + 1) xs in
      let e : lines (drop i xs) ≡ line x ++ lines rest = at_drop_more lines xs i x within ∙ ap (λ y. lines (y ∷ rest)) (sym is) ∙ cons x rest in
      ap (λ o. o ++ lines rest) written ∙ append_assoc out (line x) (lines rest) ∙ ap (λ l. out ++ l) (sym e) ∙ same

  pub all_lines : (out r : List ℕ) → lines [] ≡ [] → length xs ≤ i → out ++ lines (drop i xs) ≡ r → out ≡ r
  all_lines out r none past same = sym (append-nil out) ∙ ap (λ l. out ++ l) (sym (at_drop_all lines xs i past ∙ none)) ∙ same

-- what is written in two or three pieces
pub two_pieces : (out mid new a b : List ℕ) → mid ≡ out ++ a → new ≡ mid ++ b → new ≡ out ++ (a ++ b)
two_pieces out mid new a b e f = f ∙ ap (λ o. o ++ b) e ∙ append_assoc out a b

pub three_pieces : (out mid next new a b c : List ℕ) → mid ≡ out ++ a → next ≡ mid ++ b → new ≡ next ++ c → new ≡ out ++ ((a ++ b) ++ c)
three_pieces out mid next new a b c e f g = two_pieces out next new (a ++ b) c (two_pieces out mid next a b e f) g

-- a margin is as before once the two spaces are cut off
pub cut_back : (margin new cut : List ℕ) (n m : ℕ) → new ≡ deeper margin → n ≡ m → m ≡ length new → cut ≡ take (n - 2) new → cut ≡ margin
cut_back margin new cut n m e size len is =
    let k : n - 2 ≡ length margin = omega (arith, size, len, ap length e, length-append margin (codes "  ")) in
    is ∙ ap (λ i. take i new) k ∙ ap (take (length margin)) e ∙ take-append_seam margin (codes "  ")
