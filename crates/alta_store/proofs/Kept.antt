-- Rows of which some are left out in front, and some behind.
use Rattle.std.proofs.Common.{◌≡◌, ℕ, ◌<◌, ◌≤◌, Bool, true, false, cond, nat_lt, List, ◌++◌, get_or, sym, ap, ap₂, ◌∙◌, arith}
use Rattle.std.proofs.lemmas.Bool.{false≢true}
use Rattle.std.specs.List.{All, filter}
use Rattle.std.proofs.lemmas.List.Elements.{All-append, All-weaker, filter-append}
use Rattle.alta_content.specs.Rows.{end_of}
use Rattle.alta_content.specs.declared.document.DocRow.{DocRow}
use Rattle.alta_content.proofs.Outside.{filter_alike, filter_all}

-- of the rows that end below x those of p are kept, of those that end from y on those of q, and all between
abbrev pub kept_by : (DocRow → Bool) → (DocRow → Bool) → ℕ → ℕ → DocRow → Bool
kept_by p q x y row = cond (nat_lt (end_of row) x) (p row) (cond (nat_lt (end_of row) y) true (q row))

front : (p q : DocRow → Bool) (x y : ℕ) (row : DocRow) → end_of row < x → kept_by p q x y row ≡ p row
front p q x y row less = let test : nat_lt (end_of row) x ≡ true = grind (arith, less) in ap (λ (b : Bool). cond b (p row) (cond (nat_lt (end_of row) y) true (q row))) test

middle : (p q : DocRow → Bool) (x y : ℕ) (row : DocRow) → x ≤ end_of row → end_of row < y → kept_by p q x y row ≡ true
middle p q x y row le less =
    let first : nat_lt (end_of row) x ≡ false = grind (arith, le) in
    let second : nat_lt (end_of row) y ≡ true = grind (arith, less) in
    ap₂ (λ (b c : Bool). cond b (p row) (cond c true (q row))) first second

behind : (p q : DocRow → Bool) (x y : ℕ) (row : DocRow) → x ≤ y → y ≤ end_of row → kept_by p q x y row ≡ q row
behind p q x y row le more =
    let first : nat_lt (end_of row) x ≡ false = grind (arith, le, more) in
    let second : nat_lt (end_of row) y ≡ false = grind (arith, more) in
    ap₂ (λ (b c : Bool). cond b (p row) (cond c true (q row))) first second

module _ (p q : DocRow → Bool) (x y : ℕ) (es bs cs : List DocRow) (le : x ≤ y) (low : All (λ (row : DocRow). end_of row < x) es) (between : All (λ (row : DocRow). (x ≤ end_of row) × (end_of row < y)) bs)
    (high : All (λ (row : DocRow). y ≤ end_of row) cs) where
  pub kept_three : filter (kept_by p q x y) (es ++ (bs ++ cs)) ≡ filter p es ++ (bs ++ filter q cs)
  kept_three =
      let kept = kept_by p q x y in
      filter-append kept es (bs ++ cs)
      ∙ ap₂ (λ (xs ys : List DocRow). xs ++ ys) (filter_alike kept p es (All-weaker (λ (row : DocRow). end_of row < x) (λ (row : DocRow). kept row ≡ p row) (λ row less. front p q x y row less) es low))
      (filter-append kept bs cs
      ∙ ap₂ (λ (xs ys : List DocRow). xs ++ ys)
      (filter_alike kept (λ row. true) bs (All-weaker (λ (row : DocRow). (x ≤ end_of row) × (end_of row < y)) (λ (row : DocRow). kept row ≡ true) (λ row both. middle p q x y row both.0 both.1) bs between) ∙ filter_all bs)
      (filter_alike kept q cs (All-weaker (λ (row : DocRow). y ≤ end_of row) (λ (row : DocRow). kept row ≡ q row) (λ row more. behind p q x y row le more) cs high)))

  -- what is left out has what those have that p and q leave out
  pub left_three : (P : DocRow → Type 0) → All (λ (row : DocRow). p row ≡ false → P row) es → All (λ (row : DocRow). q row ≡ false → P row) cs → All (λ (row : DocRow). kept_by p q x y row ≡ false → P row) (es ++ (bs ++ cs))
  left_three P fronts behinds =
      All-append (λ (row : DocRow). kept_by p q x y row ≡ false → P row) es (bs ++ cs)
      (λ k d within no. fronts k d within (sym (front p q x y (get_or es k d) (low k d within)) ∙ no))
      (All-append (λ (row : DocRow). kept_by p q x y row ≡ false → P row) bs cs
      (λ k d within no. absurd (false≢true (sym no ∙ middle p q x y (get_or bs k d) (between k d within).0 (between k d within).1)))
      (λ k d within no. behinds k d within (sym (behind p q x y (get_or cs k d) le (high k d within)) ∙ no)))
