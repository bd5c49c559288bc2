-- Added documents make up one content.
use Rattle.std.proofs.Common.{◌≡◌, ⊎_elim, ℕ, ◌+◌, ◌<◌, true, false, ◌||◌, cond, List, [], ◌∷◌, ◌++◌, length, map, refl, sym, ap, subst, ◌∙◌, arith, length-append}
use Rattle.std.specs.Cmp.Lexicographic.{nat_list_eq_equiv}
use Rattle.std.specs.List.{All, flat_map}
use Rattle.std.specs.Str.{bytes_eq}
use Rattle.std.proofs.lemmas.Bool.{cases_Bool, or_parts, true≢false}
use Rattle.std.proofs.lemmas.List.Elements.{All-nil, All-cons}
use Rattle.alta_content.specs.declared.content.Content.{Content}
use Rattle.alta_content.specs.TermList.{TermList}
use Rattle.alta_content.specs.Joining.{in_order}
use Rattle.alta_content.specs.Lists.{TermsRise, locations_of, terms_of}
use Rattle.alta_memlevel.specs.Added.{Added, HasContent, IsSpace, list_of, places_of}
use Rattle.alta_machine.specs.Cells.{cell_holds}
use Rattle.alta_content.proofs.Order.{Sorted, has, has_append, has_head, has_in_order, has_more, in_order_sorted, same_term}
use Rattle.alta_content.proofs.Folds.{HasSome, same_lists}
use Rattle.alta_memlevel.specs.Documents.{content_of, terms_added}

-- the terms of cells, one cell behind the other
abbrev pub terms_in_cells : List (List (List ℕ)) → List (List ℕ)
terms_in_cells cells = flat_map (λ cell. cell) cells

pub holds_has : (t : List ℕ) (cell : List (List ℕ)) → cell_holds t cell ≡ has t cell
holds_has t [] = refl
holds_has t (u ∷ us) = ap (λ b. b || cell_holds t us) (nat_list_eq_equiv.symm u t) ∙ ap (λ b. bytes_eq t u || b) (holds_has t us)

no_places : (first : ℕ) (t : List ℕ) (cells : List (List (List ℕ))) → has t (terms_in_cells cells) ≡ false → places_of first t cells ≡ []
no_places first t [] h = refl
no_places first t (cell ∷ cells) h =
    let p = or_parts (has t cell) (has t (terms_in_cells cells)) (sym (has_append t cell (terms_in_cells cells)) ∙ h) in
    ap (λ b. cond b (first ∷ []) [] ++ places_of (first + 1) t cells) (holds_has t cell ∙ p.0) ∙ no_places (first + 1) t cells p.1

no_list : (added : List Added) (t : List ℕ) → has t (terms_added added) ≡ false → list_of added t ≡ []
no_list [] t h = refl
no_list (a ∷ more) t h =
    let p = or_parts (has t (terms_in_cells a.cells)) (has t (terms_added more)) (sym (has_append t (terms_in_cells a.cells) (terms_added more)) ∙ h) in
    ap (λ l. l ++ list_of more t) (no_places a.row.first t a.cells p.0) ∙ no_list more t p.1

some_places : (first : ℕ) (t : List ℕ) (cells : List (List (List ℕ))) → has t (terms_in_cells cells) ≡ true → 0 < length (places_of first t cells)
some_places first t [] h = absurd (true≢false (sym h))
some_places first t (cell ∷ cells) h =
    let later = places_of (first + 1) t cells in
    ⊎_elim
    (λ here. subst (λ b. 0 < length (cond b (first ∷ []) [] ++ later)) (sym here) (omega arith))
    (λ other.
    let rest : has t (terms_in_cells cells) ≡ true = ap (λ b. b || has t (terms_in_cells cells)) (sym other ∙ holds_has t cell) ∙ sym (has_append t cell (terms_in_cells cells)) ∙ h in
    subst (λ b. 0 < length (cond b (first ∷ []) [] ++ later)) (sym other) (some_places (first + 1) t cells rest))
    (cases_Bool (cell_holds t cell))

some_list : (added : List Added) (t : List ℕ) → has t (terms_added added) ≡ true → 0 < length (list_of added t)
some_list [] t h = absurd (true≢false (sym h))
some_list (a ∷ more) t h =
    let long = length-append (places_of a.row.first t a.cells) (list_of more t) in
    ⊎_elim
    (λ here. omega (arith, some_places a.row.first t a.cells here, long))
    (λ other.
    let rest : has t (terms_added more) ≡ true = ap (λ b. b || has t (terms_added more)) (sym other) ∙ sym (has_append t (terms_in_cells a.cells) (terms_added more)) ∙ h in
    omega (arith, some_list more t rest, long))
    (cases_Bool (has t (terms_in_cells a.cells)))

module _ (f : List ℕ → List ℕ) where
  abbrev pub listed : List (List ℕ) → List TermList
  listed ts = map (λ t. record { term = t; locations = f t }) ts

  pub listed_terms : (ts : List (List ℕ)) → terms_of (listed ts) ≡ ts
  listed_terms [] = refl
  listed_terms (t ∷ ts) = ap (λ l. t ∷ l) (listed_terms ts)

  pub listed_at : (ts : List (List ℕ)) (t : List ℕ) → locations_of (listed ts) t ≡ cond (has t ts) (f t) []
  listed_at [] t = refl
  listed_at (u ∷ us) t =
      ⊎_elim
      (λ e. rw e (ap f (sym (same_term t u e))))
      (λ n. rw n (listed_at us t))
      (cases_Bool (bytes_eq t u))

  pub listed_some : (ts : List (List ℕ)) → ((t : List ℕ) → has t ts ≡ true → 0 < length (f t)) → All HasSome (listed ts)
  listed_some [] h = All-nil HasSome
  listed_some (t ∷ ts) h = All-cons HasSome (record { term = t; locations = f t }) (listed ts) (h t (has_head t ts)) (listed_some ts (λ u m. h u (has_more u t ts m)))

pub content_rises : (added : List Added) → TermsRise (content_of added).lists
content_rises added =
    let terms = in_order (terms_added added) in
    subst Sorted (sym (listed_terms (list_of added) terms)) (in_order_sorted (terms_added added))

pub content_locations : (added : List Added) (t : List ℕ) → locations_of (content_of added).lists t ≡ list_of added t
content_locations added t =
    let terms = terms_added added in
    listed_at (list_of added) (in_order terms) t
    ∙ ap (λ b. cond b (list_of added t) []) (has_in_order t terms)
    ∙ ⊎_elim
    (λ y. ap (λ b. cond b (list_of added t) []) y)
    (λ n. ap (λ b. cond b (list_of added t) []) n ∙ sym (no_list added t n))
    (cases_Bool (has t terms))

pub content_some : (added : List Added) → All HasSome (content_of added).lists
content_some added =
    let terms = terms_added added in
    listed_some (list_of added) (in_order terms) (λ t m. some_list added t (sym (has_in_order t terms) ∙ m))

pub content_has : (added : List Added) → IsSpace added → HasContent added (content_of added)
content_has added s = record {
  space = s;
  documents = refl;
  lists = content_locations added;
  some = content_some added;
  sorted = content_rises added;
}

content_same : (c d : Content) → c.documents ≡ d.documents → c.lists ≡ d.lists → c ≡ d
content_same c d e f =
    ap (λ rows. record { documents = rows; lists = c.lists }) e ∙ ap (λ lists. record { documents = d.documents; lists = lists }) f

pub one_content : (added : List Added) (content : Content) → HasContent added content → content ≡ content_of added
one_content added content h =
    content_same content (content_of added) h.documents
    (same_lists content.lists (content_of added).lists h.sorted (content_rises added) h.some (content_some added)
    (λ t. h.lists t ∙ sym (content_locations added t)))
