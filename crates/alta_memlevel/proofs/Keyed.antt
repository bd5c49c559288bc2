-- The list of a term in a map whose keys are the terms' bytes.
use Rattle.std.proofs.Common.{◌≡◌, ⊎_elim, ℕ, ◌+◌, ◌<◌, Bool, ◌||◌, true, false, cond, List, [], ◌∷◌, ◌++◌, length, Some, None, refl, sym, ap, subst, ◌∙◌, append-nil, append_assoc, arith, get_or, take}
use Rattle.std.specs.Prelude.{Option, slice_get}
use Rattle.std.proofs.lemmas.List.{take_more, length-take-le}
use Rattle.std.proofs.lemmas.Option.{get_or_from_slice_get}
use Rattle.std.proofs.lemmas.List.Folds.{list_any_more}
use Rattle.std.specs.Cmp.Lexicographic.{bytes_decides, nat_list_eq_equiv}
use Rattle.std.specs.HashMap.{HashMap, UpdatesBy}
use Rattle.std.specs.Str.{bytes_eq}
use Rattle.std.specs.Map.{lookup, KeepsOthers, IsKeyTest, AreApart}
use Rattle.std.proofs.lemmas.Bool.{cases_Bool, cond-true, cond-false}
use Rattle.alta_machine.specs.Cells.{cell_holds}
use Rattle.alta_memlevel.specs.Added.{places_of}
use Rattle.alta_memlevel.specs.Lists.{Entries, Numbers, list_in, same_key}

-- whether a key has the term's bytes
abbrev pub is_term : List ℕ → Numbers → Bool
is_term term k = bytes_eq term k.items

-- the list that a look-up found: none where it found nothing
abbrev pub items_of : Option Numbers → List ℕ
items_of None = []
items_of (Some v) = v.items

items_of-cond : (b : Bool) (v : Numbers) (o : Option Numbers) → items_of (cond b (Some v) o) ≡ cond b v.items (items_of o)
items_of-cond true v o = refl
items_of-cond false v o = refl

pub list_in-lookup : (term : List ℕ) (es : Entries) → list_in es term ≡ items_of (lookup (is_term term) es)
list_in-lookup term [] = refl
list_in-lookup term (e ∷ es) =
    ap (λ l. cond (bytes_eq term e.0.items) e.1.items l) (list_in-lookup term es)
    ∙ sym (items_of-cond (bytes_eq term e.0.items) e.1 (lookup (is_term term) es))

apart : (bs cs ks : List ℕ) → bytes_eq bs cs ≡ false → bytes_eq bs ks ≡ true → bytes_eq cs ks ≡ false
apart bs cs ks n same = nat_list_eq_equiv.symm cs ks ∙ sym (nat_list_eq_equiv.congr bs ks cs same) ∙ n

others : (test : Numbers → Bool) (old new : Entries) → KeepsOthers same_key test old new
    → (other : Numbers → Bool) → IsKeyTest same_key other → AreApart test other → lookup other new ≡ lookup other old
unfolding KeepsOthers
others test old new h = h

module _ {S : Type 0} (bs : List ℕ) (m n : HashMap Numbers Numbers S) (v : Numbers) where
  -- what a change at one term leaves at each term
  pub lookup-updates : UpdatesBy same_key (is_term bs) m n (Some v)
      → (cs : List ℕ) → lookup (is_term cs) n.entries ≡ cond (bytes_eq bs cs) (Some v) (lookup (is_term cs) m.entries)
  lookup-updates h cs =
      ⊎_elim
      (λ y. subst (λ l. lookup (is_term l) n.entries ≡ Some v) ((bytes_decides bs cs).0 y) h.1 ∙ sym (cond-true (bytes_eq bs cs) (Some v) (lookup (is_term cs) m.entries) y))
      (λ n'. others (is_term bs) m.entries n.entries h.3 (is_term cs) (λ x y. nat_list_eq_equiv.congr cs x.items y.items) (λ k. apart bs cs k.items n')
      ∙ sym (cond-false (bytes_eq bs cs) (Some v) (lookup (is_term cs) m.entries) n'))
      (cases_Bool (bytes_eq bs cs))

  -- a location more at one term
  pub list_in-updates : (x : ℕ) → UpdatesBy same_key (is_term bs) m n (Some v)
      → v.items ≡ list_in m.entries bs ++ x ∷ []
      → (cs : List ℕ) → list_in n.entries cs ≡ list_in m.entries cs ++ cond (bytes_eq bs cs) (x ∷ []) []
  list_in-updates x h e cs =
      list_in-lookup cs n.entries ∙ ap items_of (lookup-updates h cs)
      ∙ items_of-cond (bytes_eq bs cs) v (lookup (is_term cs) m.entries)
      ∙ ap (λ l. cond (bytes_eq bs cs) v.items l) (sym (list_in-lookup cs m.entries))
      ∙ ⊎_elim
      (λ y. cond-true (bytes_eq bs cs) v.items (list_in m.entries cs) y ∙ e
      ∙ ap (λ l. list_in m.entries l ++ x ∷ []) ((bytes_decides bs cs).0 y)
      ∙ ap (λ l. list_in m.entries cs ++ l) (sym (cond-true (bytes_eq bs cs) (x ∷ []) [] y)))
      (λ n'. cond-false (bytes_eq bs cs) v.items (list_in m.entries cs) n' ∙ sym (append-nil (list_in m.entries cs))
      ∙ ap (λ l. list_in m.entries cs ++ l) (sym (cond-false (bytes_eq bs cs) (x ∷ []) [] n')))
      (cases_Bool (bytes_eq bs cs))

-- the list of a term that a look-up found, or not
pub list_in-found : (bs : List ℕ) (es : Entries) (o : Option Numbers) → o ≡ lookup (is_term bs) es → list_in es bs ≡ items_of o
list_in-found bs es o e = list_in-lookup bs es ∙ ap items_of (sym e)

pub found_list : (bs : List ℕ) (es : Entries) (v : Numbers) → Some v ≡ lookup (is_term bs) es → v.items ≡ list_in es bs
found_list bs es v e = sym (list_in-found bs es (Some v) e)

pub no_list : (bs : List ℕ) (es : Entries) → None ≡ lookup (is_term bs) es → [] ≡ list_in es bs
no_list bs es e = sym (list_in-found bs es None e)

or_false : (b : Bool) → (b || false) ≡ b
or_false true = refl
or_false false = refl

pub once_new : (cell : List (List ℕ)) (i x : ℕ) (t other base : List ℕ) → i < length cell → slice_get cell i ≡ Some t → cell_holds t (take i cell) ≡ false
    → (base ++ cond (cell_holds other (take i cell)) (x ∷ []) []) ++ cond (bytes_eq t other) (x ∷ []) [] ≡ base ++ cond (cell_holds other (take (i + 1) cell)) (x ∷ []) []
once_new cell i x t other base l g new =
    let e : get_or cell i [] ≡ t = get_or_from_slice_get cell i t [] g in
    let more : cell_holds other (take (i + 1) cell) ≡ (cell_holds other (take i cell) || bytes_eq t other) =
    subst (λ y. cell_holds other (take (i + 1) cell) ≡ (cell_holds other (take i cell) || bytes_eq y other)) e (list_any_more (λ h. bytes_eq h other) cell i [] l) in
    ⊎_elim
    (λ y. let same : t ≡ other = (bytes_decides t other).0 y in
    let none : cell_holds other (take i cell) ≡ false = subst (λ z. cell_holds z (take i cell) ≡ false) same new in
    let now : cell_holds other (take (i + 1) cell) ≡ true = more ∙ ap (λ b. b || bytes_eq t other) none ∙ y in
    rw (now, none, y) (ap (λ l. l ++ x ∷ []) (append-nil base)))
    (λ n. let kept : cell_holds other (take (i + 1) cell) ≡ cell_holds other (take i cell) = more ∙ ap (λ b. cell_holds other (take i cell) || b) n ∙ or_false (cell_holds other (take i cell)) in
    rw (kept, n) (append-nil (base ++ cond (cell_holds other (take i cell)) (x ∷ []) [])))
    (cases_Bool (bytes_eq t other))

-- the places of a list of cells with one more at its end
places_of-push : (first : ℕ) (t : List ℕ) (cells : List (List (List ℕ))) (c : List (List ℕ))
    → places_of first t (cells ++ c ∷ []) ≡ places_of first t cells ++ cond (cell_holds t c) ((first + length cells) ∷ []) []
places_of-push first t [] c =
    let e : first + 0 ≡ first = omega arith in
    append-nil (cond (cell_holds t c) (first ∷ []) []) ∙ ap (λ n. cond (cell_holds t c) (n ∷ []) []) (sym e)
places_of-push first t (x ∷ xs) c =
    let e : (first + 1) + length xs ≡ first + length (x ∷ xs) = omega arith in
    let head = cond (cell_holds t x) (first ∷ []) [] in
    ap (λ l. head ++ l) (places_of-push (first + 1) t xs c)
    ∙ ap (λ n. head ++ (places_of (first + 1) t xs ++ cond (cell_holds t c) (n ∷ []) [])) e
    ∙ sym (append_assoc head (places_of (first + 1) t xs) (cond (cell_holds t c) ((first + length (x ∷ xs)) ∷ []) []))

-- the places of one more cell
pub places_of-more : (first : ℕ) (t : List ℕ) (cells : List (List (List ℕ))) (i : ℕ) → i < length cells
    → places_of first t (take (i + 1) cells) ≡ places_of first t (take i cells) ++ cond (cell_holds t (get_or cells i [])) ((first + i) ∷ []) []
places_of-more first t cells i l = rw (take_more cells i [] l) (places_of-push first t (take i cells) (get_or cells i [])
    ∙ ap (λ n. places_of first t (take i cells) ++ cond (cell_holds t (get_or cells i [])) ((first + n) ∷ []) []) (length-take-le i cells (omega arith)))
