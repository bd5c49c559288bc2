-- Laws of the lists of a space: one document's locations are those between the end before it and its own.
use Rattle.std.proofs.Common.{◌≡◌, ◌⊎◌, ⊎_elim, inl, inr, ℕ, zero, suc, ◌+◌, ◌-◌, ◌<◌, ◌≤◌, true, false, cond, List, [], ◌∷◌, ◌++◌, length, refl, sym, subst, ap, ◌∙◌, arith}
use Rattle.std.specs.Prelude.{Contains}
use Rattle.std.proofs.lemmas.List.Elements.{Contains-append_cases, Contains-append_left, Contains-append_right}
use Rattle.alta_codec.specs.declared.location.TheConstants.{TOP}
use Rattle.alta_codec.specs.Rising.{IsRising, pred_of}
use Rattle.alta_codec.proofs.Places.{Contains-head, Contains-tail, Contains-cases, not-Contains-nil, pred_of-place, pred_of-below, pred_of-greatest}
use Rattle.alta_compound.specs.Unions.{RisesAbove, rising_from_above}
use Rattle.alta_docread.specs.KeptLaws.{true_or_false}
use Rattle.alta_machine.specs.Patterns.{meets, IsMet}
use Rattle.alta_machine.specs.declared.test.Test.{Test}
use Rattle.alta_compile.specs.Space.{Placed, past, end_of, AreApart, document_end, locations, list_of, ends_of, IsSpace}

-- the document is one of the space, by recursion
abbrev pub Has : List Placed → Placed → Type 0
Has [] d = ⊥
Has (e ∷ es) d = (e ≡ d) ⊎ Has es d

pub has_contains : (ds : List Placed) (d : Placed) → Contains ds d → Has ds d
has_contains [] d (k, l, e) = absurd (omega arith)
has_contains (f ∷ ds) d (zero, l, e) = inl e
has_contains (f ∷ ds) d (suc k, l, e) = inr (has_contains ds d (k, omega (arith, l), e))

pub contains_has : (ds : List Placed) (d : Placed) → Has ds d → Contains ds d
contains_has [] d m = absurd m
contains_has (f ∷ ds) d m =
    ⊎_elim (λ e. (zero, omega arith, e)) (λ n. let (k, l, e) = contains_has ds d n in (suc k, omega (arith, l), e)) m

-- the cell at the position meets the test, by recursion
abbrev pub HasAt : Test → List (List (List ℕ)) → ℕ → Type 0
HasAt t [] p = ⊥
HasAt t (c ∷ cs) zero = meets t c ≡ true
HasAt t (c ∷ cs) (suc p) = HasAt t cs p

pub at_met : (t : Test) (cs : List (List (List ℕ))) (p : ℕ) → IsMet cs t p → HasAt t cs p
at_met t [] p (l, h) = absurd (omega (arith, l))
at_met t (c ∷ cs) zero (l, h) = h
at_met t (c ∷ cs) (suc p) (l, h) = at_met t cs p (omega (arith, l), h)

pub met_at : (t : Test) (cs : List (List (List ℕ))) (p : ℕ) → HasAt t cs p → IsMet cs t p
met_at t [] p h = absurd h
met_at t (c ∷ cs) zero h = (omega arith, h)
met_at t (c ∷ cs) (suc p) h = let (l, m) = met_at t cs p h in (omega (arith, l), m)

apart_top : (ds : List Placed) (low : ℕ) → AreApart low ds → low ≤ TOP
apart_top [] low h = h
apart_top (d ∷ ds) low (a, b, r) = omega (arith, a, b, apart_top ds (past d) r)

-- one document of a space
pub apart_one : (ds : List Placed) (low : ℕ) (d : Placed) → AreApart low ds → Has ds d
    → (low ≤ d.first) × (d.first < past d) × (past d ≤ TOP)
apart_one [] low d h m = absurd m
apart_one (e ∷ ds) low d (a, b, r) m =
    ⊎_elim (λ same. subst (λ x. (low ≤ x.first) × (x.first < past x) × (past x ≤ TOP)) same (a, b, apart_top ds (past e) r))
    (λ n. let (c, f, g) = apart_one ds (past e) d r n in (omega (arith, a, b, c), f, g)) m

-- two documents are one, or one lies before the other
pub apart_two : (ds : List Placed) (low : ℕ) (d e : Placed) → AreApart low ds → Has ds d → Has ds e
    → (d ≡ e) ⊎ ((past d ≤ e.first) ⊎ (past e ≤ d.first))
apart_two [] low d e h m n = absurd m
apart_two (f ∷ ds) low d e (a, b, r) m n =
    ⊎_elim
    (λ p. ⊎_elim (λ q. inl (sym p ∙ q)) (λ q. inr (inl (subst (λ x. past x ≤ e.first) p (apart_one ds (past f) e r q).0))) n)
    (λ p. ⊎_elim (λ q. inr (inr (subst (λ x. past x ≤ d.first) q (apart_one ds (past f) d r p).0))) (λ q. apart_two ds (past f) d e r p q) n)
    m

pub at_within : (t : Test) (cs : List (List (List ℕ))) (p : ℕ) → HasAt t cs p → p < length cs
at_within t [] p h = absurd h
at_within t (c ∷ cs) zero h = omega arith
at_within t (c ∷ cs) (suc p) h = omega (arith, at_within t cs p h)

locations-yes : (t : Test) (at : ℕ) (c : List (List ℕ)) (cs : List (List (List ℕ))) → meets t c ≡ true → locations t at (c ∷ cs) ≡ at ∷ locations t (at + 1) cs
unfolding locations
locations-yes t at c cs h = ap (λ b. cond b (at ∷ locations t (at + 1) cs) (locations t (at + 1) cs)) h

locations-no : (t : Test) (at : ℕ) (c : List (List ℕ)) (cs : List (List (List ℕ))) → meets t c ≡ false → locations t at (c ∷ cs) ≡ locations t (at + 1) cs
unfolding locations
locations-no t at c cs h = ap (λ b. cond b (at ∷ locations t (at + 1) cs) (locations t (at + 1) cs)) h

locations-nil : (t : Test) (at : ℕ) → locations t at [] ≡ []
unfolding locations
locations-nil t at = refl

-- a location of a document is that of a cell
locations-has : (t : Test) (at : ℕ) (cs : List (List (List ℕ))) (x : ℕ) → Contains (locations t at cs) x → (p : ℕ) × (x ≡ at + p) × HasAt t cs p
locations-has t at [] x m = absurd (not-Contains-nil x (subst (λ l. Contains l x) (locations-nil t at) m))
locations-has t at (c ∷ cs) x m =
    ⊎_elim
    (λ yes. ⊎_elim (λ e. (zero, omega (arith, e), yes))
    (λ n. let (p, e, h) = locations-has t (at + 1) cs x n in (suc p, omega (arith, e), h))
    (Contains-cases at (locations t (at + 1) cs) x (subst (λ l. Contains l x) (locations-yes t at c cs yes) m)))
    (λ no. let (p, e, h) = locations-has t (at + 1) cs x (subst (λ l. Contains l x) (locations-no t at c cs no) m) in (suc p, omega (arith, e), h))
    (true_or_false (meets t c))

has-locations : (t : Test) (at : ℕ) (cs : List (List (List ℕ))) (p x : ℕ) → x ≡ at + p → HasAt t cs p → Contains (locations t at cs) x
has-locations t at [] p x e h = absurd h
has-locations t at (c ∷ cs) zero x e h =
    let same : at ≡ x = omega (arith, e) in
    subst (λ l. Contains l x) (sym (locations-yes t at c cs h)) (subst (λ v. Contains (at ∷ locations t (at + 1) cs) v) same (Contains-head at (locations t (at + 1) cs)))
has-locations t at (c ∷ cs) (suc p) x e h =
    let rest = has-locations t (at + 1) cs p x (omega (arith, e)) h in
    ⊎_elim (λ yes. subst (λ l. Contains l x) (sym (locations-yes t at c cs yes)) (Contains-tail at (locations t (at + 1) cs) x rest))
    (λ no. subst (λ l. Contains l x) (sym (locations-no t at c cs no)) rest) (true_or_false (meets t c))

pub list-has : (t : Test) (ds : List Placed) (x : ℕ) → Contains (list_of ds t) x
    → (d : Placed) × Has ds d × (p : ℕ) × (x ≡ d.first + p) × HasAt t d.cells p
unfolding list_of
list-has t [] x m = absurd (not-Contains-nil x m)
list-has t (d ∷ ds) x m =
    ⊎_elim (λ l. let (p, e, h) = locations-has t d.first d.cells x l in (d, inl refl, p, e, h))
    (λ r. let (f, n, p, e, h) = list-has t ds x r in (f, inr n, p, e, h))
    (Contains-append_cases (locations t d.first d.cells) (list_of ds t) x m)

pub has-list : (t : Test) (ds : List Placed) (d : Placed) (p x : ℕ) → Has ds d → x ≡ d.first + p → HasAt t d.cells p
    → Contains (list_of ds t) x
unfolding list_of
has-list t [] d p x m e h = absurd m
has-list t (f ∷ ds) d p x m e h =
    ⊎_elim (λ same. Contains-append_left (locations t f.first f.cells) (list_of ds t) x
    (subst (λ y. Contains (locations t y.first y.cells) x) (sym same) (has-locations t d.first d.cells p x e h)))
    (λ n. Contains-append_right (locations t f.first f.cells) (list_of ds t) x (has-list t ds d p x n e h)) m

-- each list rises
locations-rise : (t : Test) (a at : ℕ) (cs : List (List (List ℕ))) (rest : List ℕ) → a < at → at + length cs ≤ TOP
    → ((c : ℕ) → c < at + length cs → RisesAbove c rest) → RisesAbove a (locations t at cs ++ rest)
locations-rise t a at [] rest low top h = subst (λ l. RisesAbove a (l ++ rest)) (sym (locations-nil t at)) (h a (omega arith))
locations-rise t a at (c ∷ cs) rest low top h =
    ⊎_elim
    (λ yes. subst (λ l. RisesAbove a (l ++ rest)) (sym (locations-yes t at c cs yes))
    (low, omega (arith, top), locations-rise t at (at + 1) cs rest (omega arith) (omega (arith, top)) (λ b l. h b (omega (arith, l)))))
    (λ no. subst (λ l. RisesAbove a (l ++ rest)) (sym (locations-no t at c cs no))
    (locations-rise t a (at + 1) cs rest (omega arith) (omega (arith, top)) (λ b l. h b (omega (arith, l)))))
    (true_or_false (meets t c))

list-rise : (t : Test) (ds : List Placed) (low a : ℕ) → AreApart low ds → a < low → RisesAbove a (list_of ds t)
unfolding list_of
list-rise t [] low a h l = tt
list-rise t (d ∷ ds) low a (b, c, r) l =
    locations-rise t a d.first d.cells (list_of ds t) (omega (arith, b, l)) (apart_top ds (past d) r) (λ e k. list-rise t ds (past d) e r k)

pub list-rises : (t : Test) (ds : List Placed) → AreApart 1 ds → IsRising (list_of ds t)
list-rises t ds h = rising_from_above (list_of ds t) (list-rise t ds 1 0 h (omega arith))

module _ (space : List Placed) (s : IsSpace space) where
  pub end-in : (d : Placed) → Has space d → Contains (ends_of space) (end_of d)
  end-in d m =
      let (a, b, c) = apart_one space 1 d s.apart m in
      has-list document_end space d (length d.cells - 1) (end_of d) m (omega (arith, b)) (at_met document_end d.cells (length d.cells - 1) ((s.ended d (contains_has space d m) (length d.cells - 1)).1 (omega (arith, b))))

  pub end-is : (x : ℕ) → Contains (ends_of space) x → (d : Placed) × Has space d × (x ≡ end_of d)
  end-is x m =
      let (d, n, p, e, h) = list-has document_end space x m in
      (d, n, omega (arith, e, (s.ended d (contains_has space d n) p).0 (met_at document_end d.cells p h)))

  -- the end before a document's own lies before its first location
  pub before : (d : Placed) → Has space d → pred_of (ends_of space) (end_of d) < d.first
  before d m =
      let l = ends_of space in let e = end_of d in
      let (a, b, c) = apart_one space 1 d s.apart m in
      ⊎_elim
      (λ n. let (f, k, q) = end-is (pred_of l e) n in
      let (a', b', c') = apart_one space 1 f s.apart k in
      let below : pred_of l e < e = pred_of-below l e (omega (arith, a, b)) in
      ⊎_elim (λ same. let w : end_of f ≡ end_of d = ap end_of same in absurd (omega (arith, below, q, w)))
      (λ two. ⊎_elim (λ low. omega (arith, q, low, b')) (λ high. absurd (omega (arith, below, q, high, b', b))) two)
      (apart_two space 1 f d s.apart k m))
      (λ z. omega (arith, z, a)) (pred_of-place l e)

  -- what meets a test between the end before a document's own and its own is a cell of this document
  pub within : (t : Test) (d : Placed) (x : ℕ) → Has space d → Contains (list_of space t) x
      → pred_of (ends_of space) (end_of d) + 1 ≤ x → x ≤ end_of d → (p : ℕ) × (x ≡ d.first + p) × HasAt t d.cells p
  within t d x m n low high =
      let l = ends_of space in let e = end_of d in
      let (f, k, p, at, h) = list-has t space x n in
      let inside : p < length f.cells = at_within t f.cells p h in
      let (a, b, c) = apart_one space 1 d s.apart m in
      ⊎_elim (λ same. (p, subst (λ y. x ≡ y.first + p) same at, subst (λ y. HasAt t y.cells p) same h))
      (λ two. ⊎_elim
      (λ under. let g : end_of f ≤ pred_of l e = pred_of-greatest l e (end_of f) (end-in f k) (omega (arith, under, b, inside)) in
      absurd (omega (arith, g, low, at, inside)))
      (λ over. absurd (omega (arith, high, at, over, b))) two)
      (apart_two space 1 f d s.apart k m)
