-- Rows by their numbers: level by level, and in memory, where the numbers follow on one another.
use Rattle.std.proofs.Common.{◌≡◌, ℕ, zero, suc, ◌+◌, ◌<◌, ◌≤◌, false, List, [], ◌∷◌, ◌++◌, length, get_or, take, sym, ◌∙◌, ap, subst, arith}
use Rattle.std.specs.Prelude.{◌==◌, Contains, Option, Some, None, IfSome, IfNone}
use Rattle.std.proofs.lemmas.Grind.{flat_map-append}
use Rattle.std.proofs.lemmas.List.{append-nil, take_all, take_more}
use Rattle.std.proofs.lemmas.List.Elements.{All-append, Contains-append_left, Contains-append_right, Contains-get_or}
use Rattle.alta_content.specs.declared.document.DocRow.{DocRow}
use Rattle.alta_meaning.specs.Opened.{table_rows}
use Rattle.alta_meaning.proofs.Tests.{apart_test}
use Rattle.alta_table.specs.Tables.{Tables}
use Rattle.alta_catalog.specs.Finding.{AreOther, FollowOn}

pub if_some : {X : Type 0} (o : Option X) (P Q : X → Type 0) → ((x : X) → P x → Q x) → IfSome o P → IfSome o Q
if_some (Some x) P Q weaker holds = weaker x holds
if_some None P Q weaker holds = tt

pub if_none : {X : Type 0} (o : Option X) (P Q : Type 0) → (P → Q) → IfNone o P → IfNone o Q
if_none (Some x) P Q weaker holds = tt
if_none None P Q weaker holds = weaker holds

-- ---- level by level

module _ (levels : List Tables) (i : ℕ) (level : Tables) (inside : i < length levels) (is : level ≡ get_or levels i level) where
  pub rows_next : table_rows (take (i + 1) levels) ≡ table_rows (take i levels) ++ level.documents
  rows_next =
      ap table_rows (take_more levels i level inside ∙ ap (λ (t : Tables). take i levels ++ t ∷ []) (sym is))
      ∙ flat_map-append (λ (t : Tables). t.documents) (take i levels) (level ∷ [])
      ∙ ap (λ (rs : List DocRow). table_rows (take i levels) ++ rs) (append-nil level.documents)

  pub others_next : (n : ℕ) → AreOther n (table_rows (take i levels)) → AreOther n level.documents → AreOther n (table_rows (take (i + 1) levels))
  others_next n before here =
      subst (AreOther n) (sym rows_next) (All-append (λ (row : DocRow). (row.number == n) ≡ false) (table_rows (take i levels)) level.documents before here)

-- all levels are taken
pub rows_taken : (levels : List Tables) (i : ℕ) → length levels ≤ i → (P : List DocRow → Type 0) → P (table_rows (take i levels)) → P (table_rows levels)
rows_taken levels i past P holds = subst (λ (ls : List Tables). P (table_rows ls)) (take_all i levels past) holds

-- the rows of a level are among those of all
pub row_in_all : (levels : List Tables) (level : Tables) (row : DocRow) → Contains levels level → Contains level.documents row → Contains (table_rows levels) row
row_in_all [] level row (k, inside, at) has = absurd (omega (arith, inside))
row_in_all (t ∷ levels) level row (zero, inside, at) has =
    Contains-append_left t.documents (table_rows levels) row (subst (λ (l : Tables). Contains l.documents row) (sym at) has)
row_in_all (t ∷ levels) level row (suc k, inside, at) has =
    Contains-append_right t.documents (table_rows levels) row (row_in_all levels level row (k, omega (arith, inside), at) has)

-- ---- in memory

at_number : (first : ℕ) (rows : List DocRow) → FollowOn first rows → (i : ℕ) (d : DocRow) → i < length rows → (get_or rows i d).number ≡ first + i
at_number first [] follow i d inside = absurd (omega (arith, inside))
at_number first (row ∷ rows) follow zero d inside = omega (arith, follow.0)
at_number first (row ∷ rows) follow (suc i) d inside = omega (arith, at_number (first + 1) rows follow.1 i d (omega (arith, inside)))

module _ (first : ℕ) (rows : List DocRow) (follow : FollowOn first rows) (levels : List DocRow) (n : ℕ) where
  -- the row at the place of the number
  pub found_at : (i : ℕ) (row : DocRow) → i < length rows → first + i ≡ n → row ≡ get_or rows i row → Contains (levels ++ rows) row × (row.number ≡ n)
  found_at i row inside at is = (
    Contains-append_right levels rows row (subst (Contains rows) (sym is) (Contains-get_or rows i row inside)),
    ap (λ (r : DocRow). r.number) is ∙ at_number first rows follow i row inside ∙ at,
  )

  -- a number that lies outside is no row's
  pub none_at : (first ≤ n → n < first + length rows → ⊥) → AreOther n rows
  none_at outside = λ k d inside. apart_test (get_or rows k d).number n (λ e.
      let at = at_number first rows follow k d inside in
      outside (omega (arith, at, e)) (omega (arith, at, e, inside)))

  pub others_both : AreOther n levels → AreOther n rows → AreOther n (levels ++ rows)
  others_both one two = All-append (λ (row : DocRow). (row.number == n) ≡ false) levels rows one two
