-- Moving the readers that stand before a place, one after another, while their order changes.
use Rattle.std.proofs.Common.{◌≡◌, ◌⊎◌, ⊎_elim, inl, inr, ℕ, zero, suc, ◌<◌, ◌≤◌, max, List, [], ◌∷◌, map, length, get_or, set, refl, sym, subst, ap, ◌∙◌, arith}
use Rattle.std.specs.Prelude.{Contains, All}
use Rattle.std.specs.List.{swap}
use Rattle.std.specs.List.Sorted.{IsPermutation}
use Rattle.std.proofs.lemmas.Bool.{cases_lt}
use Rattle.std.proofs.lemmas.List.{length-set, length-map, get_or-set_same, get_or-set_other, get_or-map}
use Rattle.std.proofs.lemmas.List.Edits.{length-swap, swapped_from_swap}
use Rattle.std.proofs.lemmas.List.Elements.{Contains-get_or}
use Rattle.std.proofs.lemmas.List.Sorted.{IsPermutation-refl, IsPermutation-sym, IsPermutation-trans, IsPermutation-swap, IsPermutation-map, IsPermutation-keeps, All-permutation, Contains-permutation}
use Rattle.alta_codec.specs.declared.location.TheConstants.{TOP}
use Rattle.alta_codec.specs.Rising.{first_from, pred_of}
use Rattle.alta_codec.proofs.Places.{first_from-above, first_from-least, pred_of-is, pred_of-place, pred_of-greatest}
use Rattle.alta_compound.specs.Moves.{GoesTo, MovesThoseBefore, MovesFirst}
use Rattle.alta_compound.proofs.Permuted.{in_union, of_list}
use Rattle.alta_compound.specs.OverReaders.{in_step_place, has_place}
use Rattle.alta_compound.proofs.InStep.{least_of-le}
use Rattle.alta_compound.specs.Union.{union_of, least_of, IsInStep}
use Rattle.alta_compound.proofs.Heaps.{same_or_not, some_of}

-- the elements of two lists stand in a relation, index by index
pub record IsPaired {X : Type 0} (Rel : X → X → Type 0) (xs ys : List X) : Type 0 where
  pub sized : length xs ≡ length ys
  pub each : (k : ℕ) (d : X) → k < length ys → Rel (get_or xs k d) (get_or ys k d)

-- a list in another order, and the one that it is paired with in that order too
pub record IsArranged {X : Type 0} (Rel : X → X → Type 0) (xs ys : List X) : Type 0 where
  pub from : List X
  pub ordered : IsPermutation xs from
  pub paired : IsPaired Rel from ys

both : {X : Type 0} (Rel : X → X → Type 0) (a b c d : X) → a ≡ c → b ≡ d → Rel c d → Rel a b
both Rel a b c d e f r = subst (λ x. Rel x b) (sym e) (subst (λ y. Rel c y) (sym f) r)

pub arranged_swap : {X : Type 0} (Rel : X → X → Type 0) (xs ys : List X) (i j : ℕ) → i < length ys → j < length ys
    → IsArranged Rel xs ys → IsArranged Rel xs (swap ys i j)
arranged_swap Rel xs ys i j l m a =
    let ws = a.from in let size = a.paired.sized in
    let here : i < length ws = omega arith in
    let there : j < length ws = omega arith in
    record {
      from = swap ws i j;
      ordered = IsPermutation-trans xs ws (swap ws i j) a.ordered (IsPermutation-swap ws (swap ws i j) i j here there refl);
      paired = record {
        sized = length-swap ws i j ∙ size ∙ sym (length-swap ys i j);
        each = λ k d w.
            let s = swapped_from_swap ws (swap ws i j) i j d here there refl in
            let t = swapped_from_swap ys (swap ys i j) i j d l m refl in
            ⊎_elim
            (λ e. both Rel (get_or (swap ws i j) k d) (get_or (swap ys i j) k d) (get_or ws j d) (get_or ys j d)
            (ap (λ n. get_or (swap ws i j) n d) e ∙ s.0) (ap (λ n. get_or (swap ys i j) n d) e ∙ t.0) (a.paired.each j d m))
            (λ ni. ⊎_elim
            (λ e. both Rel (get_or (swap ws i j) k d) (get_or (swap ys i j) k d) (get_or ws i d) (get_or ys i d)
            (ap (λ n. get_or (swap ws i j) n d) e ∙ s.1) (ap (λ n. get_or (swap ys i j) n d) e ∙ t.1) (a.paired.each i d l))
            (λ nj. both Rel (get_or (swap ws i j) k d) (get_or (swap ys i j) k d) (get_or ws k d) (get_or ys k d)
            (s.2 k ni nj) (t.2 k ni nj) (a.paired.each k d (omega (arith, length-swap ys i j))))
            (same_or_not k j))
            (same_or_not k i);
      };
    }

pub arranged_on : {X : Type 0} (Rel : X → X → Type 0) (xs ys zs : List X) → IsArranged Rel xs ys → IsPermutation ys zs → IsArranged Rel xs zs
arranged_on Rel xs ys zs a p =
    IsPermutation-keeps ys (λ l. IsArranged Rel xs l) a (λ l i j m n h. arranged_swap Rel xs l i j m n h) zs p

-- what one reader did so far: nothing, or it went on to the place from before it
abbrev pub Went : {R : Type 0} → (R → List ℕ) → (R → List ℕ) → (R → ℕ) → ℕ → ℕ → R → R → Type 0
Went list all location to last a b =
    (b ≡ a) ⊎ ((location a < to) × GoesTo list all location to a b × (pred_of (list a) to ≤ last))

-- what all did so far: `last` is an element of all lists below the place or 0, and no less than the last of those that moved
pub record IsMoving {R : Type 0} (list all : R → List ℕ) (location : R → ℕ) (to : ℕ) (old now : List R) (last : ℕ) : Type 0 where
  pub arranged : IsArranged (Went list all location to last) old now
  pub element : Contains (union_of (map list old)) last ⊎ (last ≡ 0)
  pub short : last < to

module _ {R : Type 0} (list all : R → List ℕ) (location : R → ℕ) (to : ℕ) where
  weaker : (last next : ℕ) (a b : R) → last ≤ next → Went list all location to last a b → Went list all location to next a b
  weaker last next a b h w = ⊎_elim (λ e. inl e) (λ t. inr (t.0, t.1, omega (arith, t.2))) w

  pub went_list : (last : ℕ) (a b : R) → Went list all location to last a b → list b ≡ list a
  went_list last a b w = ⊎_elim (λ e. ap list e) (λ t. t.1.same_list) w

  pub moving_start : (old : List R) (last : ℕ) → Contains (union_of (map list old)) last → last < to
      → IsMoving list all location to old old last
  moving_start old last m short =
      record {
        arranged = record { from = old; ordered = IsPermutation-refl old; paired = record { sized = refl; each = λ k d l. inl refl } };
        element = inl m;
        short = short;
      }

  first_went : (last next : ℕ) (a b r : R) → to ≤ TOP → location b < to → GoesTo list all location to b r → pred_of (list b) to ≤ next
      → Went list all location to last a b → Went list all location to next a r
  first_went last next a b r top before goes mark w =
      ⊎_elim
      (λ e. inr (
        subst (λ x. location x < to) e before,
        subst (λ x. GoesTo list all location to x r) e goes,
        subst (λ x. pred_of (list x) to ≤ next) e mark,
      ))
      (λ t. absurd (omega (arith, before, t.1.place, first_from-above (list a) to top))) w

  pub moving_more : (old now new : List R) (last next : ℕ) → to ≤ TOP → IsMoving list all location to old now last → 0 < length now
      → ((d : R) → location (get_or now 0 d) < to) → MovesFirst list all location to now new → last ≤ next
      → ((d : R) → pred_of (list (get_or now 0 d)) to ≤ next) → Contains (union_of (map list old)) next ⊎ (next ≡ 0) → next < to
      → IsMoving list all location to old new next
  moving_more old now new last next top i some before m up mark element short =
      let a = i.arranged in
      let r = m.moved in
      record {
        arranged = arranged_on (Went list all location to next) old (set now 0 r) new
            record {
              from = a.from;
              ordered = a.ordered;
              paired = record {
                sized = a.paired.sized ∙ sym (length-set now 0 r);
                each = λ k d l.
                    let within : k < length now = omega (arith, length-set now 0 r) in
                    ⊎_elim
                    (λ e. both (Went list all location to next) (get_or a.from k d) (get_or (set now 0 r) k d) (get_or a.from 0 d) r
                    (ap (λ n. get_or a.from n d) e) (ap (λ n. get_or (set now 0 r) n d) e ∙ get_or-set_same now 0 r d some)
                    (first_went last next (get_or a.from 0 d) (get_or now 0 d) r top (before d) (m.goes d) (mark d) (a.paired.each 0 d some)))
                    (λ n. both (Went list all location to next) (get_or a.from k d) (get_or (set now 0 r) k d) (get_or a.from k d) (get_or now k d)
                    refl (get_or-set_other now 0 k r d n)
                    (weaker last next (get_or a.from k d) (get_or now k d) up (a.paired.each k d within)))
                    (same_or_not k 0);
              };
            }
            m.ordered;
        element = element;
        short = short;
      }

  pub moving_done : (old now : List R) (last : ℕ) → to ≤ TOP → IsMoving list all location to old now last → All (λ r. to ≤ location r) now
      → MovesThoseBefore list all location to old now
  moving_done old now last top i passed =
      let a = i.arranged in
      record {
        from = a.from;
        ordered = a.ordered;
        sized = a.paired.sized;
        before = λ k d l lt.
            ⊎_elim (λ e. absurd (omega (arith, lt, passed k d l, ap location e))) (λ t. t.1) (a.paired.each k d l);
        behind = λ k d l ge. ⊎_elim (λ e. e) (λ t. absurd (omega (arith, ge, t.0))) (a.paired.each k d l);
      }

  -- the last element below the place
  pub moving_last : (old now : List R) (at last : ℕ) → to ≤ TOP → at < to → at ≤ last → IsMoving list all location to old now last
      → All (λ r. to ≤ location r) now → All (λ r. location r ≡ first_from (list r) at) old → last ≡ pred_of (union_of (map list old)) to
  moving_last old now at last top lt low i passed each =
      let a = i.arranged in
      pred_of-is (union_of (map list old)) to last i.element (omega arith) i.short
      (λ z m short. let (k, w, n) = in_union (map list old) z m in
      let inside : k < length old = omega (arith, length-map old list) in
      let d = get_or old k (some_of old (omega arith)) in
      let P : R → Type 0 = λ r. Contains (list r) z → z ≤ last in
      let there : All P a.from = λ j e l mz.
      ⊎_elim
      (λ q. ⊎_elim (λ lower. omega arith)
      (λ ge. absurd (omega (
        arith,
        short,
        passed j e (omega (arith, a.paired.sized)),
        ap location q,
        All-permutation (λ r. location r ≡ first_from (list r) at) old a.from a.ordered each j e l,
        first_from-least (list (get_or a.from j e)) at z mz ge,
      ))) (cases_lt z at))
      (λ t. omega (arith, t.2, pred_of-greatest (list (get_or a.from j e)) to z mz short))
      (a.paired.each j e (omega (arith, a.paired.sized))) in
      All-permutation P a.from old (IsPermutation-sym old a.from a.ordered) there k d inside
      (subst (λ xs. Contains xs z) (get_or-map list old k d [] inside) n))

-- lists whose elements agree under a map
pub same_map : {R Y : Type 0} (f : R → Y) (xs ys : List R) → length xs ≡ length ys → ((k : ℕ) (d : R) → k < length ys → f (get_or xs k d) ≡ f (get_or ys k d))
    → map f xs ≡ map f ys
same_map f [] [] size h = refl
same_map f [] (y ∷ ys) size h = absurd (omega arith)
same_map f (x ∷ xs) [] size h = absurd (omega arith)
same_map f (x ∷ xs) (y ∷ ys) size h =
    ap (λ v. v ∷ map f xs) (h zero x (omega arith)) ∙ ap (λ l. f y ∷ l) (same_map f xs ys (omega arith) (λ k d l. h (suc k) d (omega arith)))

-- what all keep, in another order
pub arranged_map : {R Y : Type 0} (Rel : R → R → Type 0) (f : R → Y) → ((a b : R) → Rel a b → f b ≡ f a) → (xs ys : List R) → IsArranged Rel xs ys
    → IsPermutation (map f xs) (map f ys)
arranged_map Rel f keeps xs ys a =
    subst (λ l. IsPermutation (map f xs) l)
    (same_map f a.from ys a.paired.sized (λ k d l. sym (keeps (get_or a.from k d) (get_or ys k d) (a.paired.each k d l))))
    (IsPermutation-map f xs a.from a.ordered)

module _ {R : Type 0} (list all : R → List ℕ) (location : R → ℕ) (to : ℕ) where
  -- readers in step start to move from the least of their places
  pub moving_in_step : (old : List R) (at : ℕ) → to ≤ TOP → at < to → IsInStep list location old at
      → IsMoving list all location to old old at
  moving_in_step old at top lt s =
      moving_start list all location to old at
      (⊎_elim (λ m. m) (λ e. absurd (omega (arith, e))) (in_step_place list location old at s)) lt

  -- the last element of the first reader below the place is an element of the union
  pub first_element : (old now : List R) (last : ℕ) → IsMoving list all location to old now last → 0 < length now
      → (x : ℕ) → x ≡ pred_of (get_or (map list now) 0 []) to → Contains (union_of (map list old)) x ⊎ (x ≡ 0)
  first_element old now last i some x e =
      let l = get_or (map list now) 0 [] in
      let p = arranged_map (Went list all location to last) list (went_list list all location to last) old now i.arranged in
      ⊎_elim
      (λ m. inl (subst (λ v. Contains (union_of (map list old)) v) (sym e)
      (of_list (map list old) l (pred_of l to)
      (Contains-permutation (map list now) (map list old) l (IsPermutation-sym (map list old) (map list now) p)
      (Contains-get_or (map list now) 0 [] (omega (arith, length-map now list)))) m)))
      (λ z. inr (e ∙ z)) (pred_of-place l to)

-- places of which the least is at or above a place
pub all_from_least : {R : Type 0} (h : R → ℕ) (rs : List R) (to : ℕ) → to ≤ least_of (map h rs) → All (λ r. to ≤ h r) rs
all_from_least h rs to le k d l = omega (arith, le, least_of-le (map h rs) (h (get_or rs k d)) (has_place h rs k d l))

-- places of which the least is below another: the first of them stands there, if they are a heap
pub first_before : {R : Type 0} (h : R → ℕ) (rs : List R) (to : ℕ) → to ≤ TOP → least_of (map h rs) < to → 0 < length rs
first_before h [] to top lt = absurd (omega arith)
first_before h (r ∷ rs) to top lt = omega arith

-- the greater of two numbers is one of them
pub max_cases : (a b m : ℕ) → m ≡ max a b → (a ≤ m) × (b ≤ m) × ((m ≡ a) ⊎ (m ≡ b))
max_cases a b m e = ⊎_elim (λ l. (omega arith, omega arith, inr (omega arith))) (λ g. (omega arith, omega arith, inl (omega arith))) (cases_lt a b)

module _ {R : Type 0} (list all : R → List ℕ) (location : R → ℕ) (to : ℕ) (old new : List R) (m : MovesThoseBefore list all location to old new) where
  -- what each move keeps, all keep, in another order
  pub moved_map : {Y : Type 0} (f : R → Y) → ((a b : R) → GoesTo list all location to a b → f b ≡ f a) → IsPermutation (map f old) (map f new)
  moved_map f keeps =
      subst (λ l. IsPermutation (map f old) l)
      (same_map f m.from new m.sized (λ k d l.
      ⊎_elim (λ lt. sym (keeps (get_or m.from k d) (get_or new k d) (m.before k d l lt))) (λ ge. sym (ap f (m.behind k d l ge)))
      (cases_lt (location (get_or m.from k d)) to)))
      (IsPermutation-map f old m.from m.ordered)

  -- readers of which none passed an element of its list stand at the first from the place on
  pub moved_first : All (λ r. to ≤ location r → location r ≡ first_from (list r) to) old → All (λ r. location r ≡ first_from (list r) to) new
  moved_first first k d l =
      let a = get_or m.from k d in
      ⊎_elim
      (λ lt. let goes = m.before k d l lt in goes.place ∙ ap (λ xs. first_from xs to) (sym goes.same_list))
      (λ ge. subst (λ r. location r ≡ first_from (list r) to) (sym (m.behind k d l ge))
      (All-permutation (λ r. to ≤ location r → location r ≡ first_from (list r) to) old m.from m.ordered first k d (omega (arith, m.sized)) ge))
      (cases_lt (location a) to)

-- readers that were not moved have nothing before them
pub none_before : (u : List ℕ) (at : ℕ) → 0 < at → at ≡ first_from u 0 → 0 ≡ pred_of u at
none_before u at positive e =
    pred_of-is u at 0 (inr refl) positive positive (λ z m lt. absurd (omega (arith, e, lt, first_from-least u 0 z m (omega arith))))
