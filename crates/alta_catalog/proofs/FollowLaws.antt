-- What follows a root, as entries come.
use Rattle.std.proofs.Common.{◌≡◌, ℕ, ◌+◌, List, [], ◌∷◌, ◌++◌, length, refl, sym, ◌∙◌, ap, subst, arith, length-append}
use Rattle.std.specs.List.{sum_by}
use Rattle.std.proofs.lemmas.List.Elements.{All-push}
use Rattle.std.proofs.lemmas.List.Sums.{sum_by-cons, sum_by_push}
use Rattle.alta_content.specs.declared.document.DocRow.{DocRow}
use Rattle.alta_meaning.specs.Work.{added_at, added_from}
use Rattle.alta_journal.specs.declared.entry.Entry.{Entry}
use Rattle.alta_journal.specs.declared.entry.Entry.TheVariants.{Add, Delete, Replace}
use Rattle.alta_memlevel.specs.Added.{Added, HasContent, LevelView}
use Rattle.alta_memlevel.specs.Documents.{AreMade, IsMade}
use Rattle.alta_machine.specs.Cells.{cells_of}
use Rattle.alta_root.specs.declared.root.Root.{Root}
use Rattle.alta_catalog.specs.Knowing.{Follows, newest_of}
use Rattle.alta_catalog.specs.declared.catalog.Catalog.{Catalog}

-- ---- documents that entries add

abbrev pub cells_added : List Added → ℕ
cells_added added = sum_by (λ (a : Added). a.row.cells) added

added_more : (n l : ℕ) (entries : List Entry) (name title body : List ℕ)
    → added_from n l (entries ++ Add name title body ∷ []) ≡ added_from n l entries ++ added_at (n + length (added_from n l entries)) (l + cells_added (added_from n l entries)) name (cells_of name title body) ∷ []
added_more n l [] name title body =
    let one : ℕ → ℕ → List Added = λ m k. added_at m k name (cells_of name title body) ∷ [] in
    ap (λ m. one m l) (omega arith) ∙ ap (λ k. one (n + 0) k) (omega arith)
added_more n l (Add q t b ∷ entries) name title body =
    let a : Added = added_at n l q (cells_of q t b) in
    let more = added_from (n + 1) (l + length (cells_of q t b)) entries in
    let one : ℕ → ℕ → List Added = λ m k. (a ∷ more) ++ added_at m k name (cells_of name title body) ∷ [] in
    ap (λ (xs : List Added). a ∷ xs) (added_more (n + 1) (l + length (cells_of q t b)) entries name title body)
    ∙ ap (λ m. one m ((l + length (cells_of q t b)) + cells_added more)) (omega arith)
    ∙ ap (λ k. one (n + length (a ∷ more)) k) (omega (arith, sum_by-cons (λ (x : Added). x.row.cells) a more))
added_more n l (Delete m ∷ entries) name title body = added_more n l entries name title body
added_more n l (Replace m q t b ∷ entries) name title body =
    let a : Added = added_at n l q (cells_of q t b) in
    let more = added_from (n + 1) (l + length (cells_of q t b)) entries in
    let one : ℕ → ℕ → List Added = λ m k. (a ∷ more) ++ added_at m k name (cells_of name title body) ∷ [] in
    ap (λ (xs : List Added). a ∷ xs) (added_more (n + 1) (l + length (cells_of q t b)) entries name title body)
    ∙ ap (λ m. one m ((l + length (cells_of q t b)) + cells_added more)) (omega arith)
    ∙ ap (λ k. one (n + length (a ∷ more)) k) (omega (arith, sum_by-cons (λ (x : Added). x.row.cells) a more))

added_same : (n l : ℕ) (entries : List Entry) (number : ℕ) → added_from n l (entries ++ Delete number ∷ []) ≡ added_from n l entries
added_same n l [] number = refl
added_same n l (Add q t b ∷ entries) number = ap (λ (xs : List Added). added_at n l q (cells_of q t b) ∷ xs) (added_same (n + 1) (l + length (cells_of q t b)) entries number)
added_same n l (Delete m ∷ entries) number = added_same n l entries number
added_same n l (Replace m q t b ∷ entries) number = ap (λ (xs : List Added). added_at n l q (cells_of q t b) ∷ xs) (added_same (n + 1) (l + length (cells_of q t b)) entries number)

-- a replace adds what a delete and an add do
added_replaced : (n l : ℕ) (entries : List Entry) (number : ℕ) (name title body : List ℕ)
    → added_from n l (entries ++ Replace number name title body ∷ []) ≡ added_from n l ((entries ++ Delete number ∷ []) ++ Add name title body ∷ [])
added_replaced n l [] number name title body = refl
added_replaced n l (Add q t b ∷ entries) number name title body = ap (λ (xs : List Added). added_at n l q (cells_of q t b) ∷ xs) (added_replaced (n + 1) (l + length (cells_of q t b)) entries number name title body)
added_replaced n l (Delete m ∷ entries) number name title body = added_replaced n l entries number name title body
added_replaced n l (Replace m q t b ∷ entries) number name title body = ap (λ (xs : List Added). added_at n l q (cells_of q t b) ∷ xs) (added_replaced (n + 1) (l + length (cells_of q t b)) entries number name title body)

-- and so a catalog follows by a replace where it does by these two
pub follows_replaced : (c : Catalog) (root : Root) (entries : List Entry) (number : ℕ) (name title body : List ℕ) → Follows c root ((entries ++ Delete number ∷ []) ++ Add name title body ∷ [])
    → Follows c root (entries ++ Replace number name title body ∷ [])
follows_replaced c root entries number name title body f =
    let same : newest_of root ((entries ++ Delete number ∷ []) ++ Add name title body ∷ []) ≡ newest_of root (entries ++ Replace number name title body ∷ []) = sym (added_replaced root.next_number root.next_location entries number name title body) in
    record {
      first = f.first;
      content = subst (λ (xs : List Added). HasContent xs c.memory.content) same f.content;
      made = subst AreMade same f.made;
      next = f.next ∙ ap (λ (xs : List Added). root.next_number + length xs) same;
      location = f.location ∙ ap (λ (xs : List Added). root.next_location + cells_added xs) same;
    }

-- ---- a catalog

module _ (c : Catalog) (root : Root) (entries : List Entry) (f : Follows c root entries) (new : Catalog) (first : new.first ≡ c.first) where
  -- a document more
  module _ (name title body : List ℕ) (cells : List (List (List ℕ))) (cells_are : cells ≡ cells_of name title body) (row : DocRow)
      (row_is : row ≡ record { number = c.next; first = c.location; cells = length cells; name = name }) where
    abbrev a : Added
    a = record { row = row; cells = cells }

    abbrev placed : ℕ → ℕ → Added
    placed m k = record { row = record { number = m; first = k; cells = length cells; name = name }; cells = cells }

    a_is : a ≡ added_at (root.next_number + length (newest_of root entries)) (root.next_location + cells_added (newest_of root entries)) name (cells_of name title body)
    a_is =
        ap (λ (r : DocRow). record { row = r; cells = cells }) row_is ∙ ap (λ m. placed m c.location) f.next
        ∙ ap (λ k. placed (root.next_number + length (newest_of root entries)) k) f.location
        ∙ ap (λ (cs : List (List (List ℕ))). added_at (root.next_number + length (newest_of root entries)) (root.next_location + cells_added (newest_of root entries)) name cs) cells_are

    more : newest_of root (entries ++ Add name title body ∷ []) ≡ newest_of root entries ++ a ∷ []
    more = added_more root.next_number root.next_location entries name title body ∙ ap (λ (x : Added). newest_of root entries ++ x ∷ []) (sym a_is)

    pub follows_added : IsMade (record { row = row; cells = cells })
        → ((added : List Added) → HasContent added c.memory.content → HasContent (added ++ record { row = row; cells = cells } ∷ []) new.memory.content)
        → new.next ≡ c.next + 1 → new.location ≡ c.location + length cells → Follows new root (entries ++ Add name title body ∷ [])
    follows_added made content next location = record {
      first = first ∙ f.first;
      content = subst (λ (xs : List Added). HasContent xs new.memory.content) (sym more) (content (newest_of root entries) f.content);
      made = subst AreMade (sym more) (All-push IsMade (newest_of root entries) a f.made made);
      next = omega (arith, next, f.next, ap (λ (xs : List Added). length xs) more, length-append (newest_of root entries) (a ∷ []));
      location = omega (arith, location, f.location, ap cells_added more, sum_by_push (λ (x : Added). x.row.cells) (newest_of root entries) a, ap (λ (r : DocRow). r.cells) row_is);
    }

  -- a document less
  pub follows_deleted : new.memory ≡ c.memory → new.next ≡ c.next → new.location ≡ c.location → (number : ℕ) → Follows new root (entries ++ Delete number ∷ [])
  follows_deleted memory next location number =
      let same : newest_of root (entries ++ Delete number ∷ []) ≡ newest_of root entries = added_same root.next_number root.next_location entries number in
      record {
        first = first ∙ f.first;
        content = subst (λ (xs : List Added). HasContent xs new.memory.content) (sym same) (subst (λ (m : LevelView). HasContent (newest_of root entries) m.content) (sym memory) f.content);
        made = subst AreMade (sym same) f.made;
        next = next ∙ f.next ∙ ap (λ (xs : List Added). root.next_number + length xs) (sym same);
        location = location ∙ f.location ∙ ap (λ (xs : List Added). root.next_location + cells_added xs) (sym same);
      }
