-- What the lists of the next term are, and what is left behind them.
use Rattle.std.proofs.Common.{◌≡◌, ℕ, zero, suc, ◌+◌, ◌<◌, ◌≤◌, Bool, true, false, cond, not, IsTrue, Option, Some, None, Result, Ok, Err, List, [], ◌∷◌, ◌++◌, length, map, take, drop, get_or, set, refl, sym, ap, subst, ◌∙◌, append-nil, arith}
use Rattle.std.specs.Prelude.{flat_map, MatchOption, OnErr}
use Rattle.std.specs.Option.{is_some}
use Rattle.std.specs.List.{All}
use Rattle.std.specs.declared.cmp.Ordering.TheVariants.{Less}
use Rattle.std.proofs.lemmas.Bool.{true≢false}
use Rattle.std.proofs.lemmas.List.{get_or_default, get_or-take, get_or_append_left, length-take-le, take_all, drop_all}
use Rattle.alta_content.specs.TermList.{TermList}
use Rattle.alta_content.specs.Joining.{in_order, terms_among}
use Rattle.alta_content.specs.Lists.{TermsRise, terms_of}
use Rattle.alta_content.specs.Fronts.{front_locations}
use Rattle.alta_content.specs.Spans.{outside_of}
use Rattle.alta_content.specs.declared.spans.Span.{Span}
use Rattle.alta_merge.specs.Fronts.{AreNext, IsNext, NoneLeft, against, begins, behind, behind_next, front_of, next_list, next_term, whole_list}
use Rattle.alta_merge.specs.declared.fronts.Next.{Next}
use Rattle.alta_content.proofs.Order.{less_differs}
use Rattle.alta_content.proofs.Gathered.{all_terms}
use Rattle.alta_merge.proofs.Taken.{IsLeast, IsLow, own_front, terms_next}

pub less_begins : (t : List ℕ) (p : List TermList) → against t p ≡ Less → begins t p ≡ false
less_begins t [] h = refl
less_begins t (l ∷ ls) h = less_differs t l.term h

abbrev BeforeFirst : List ℕ → List (List TermList) → ℕ → Type 0
BeforeFirst t parts n = (k : ℕ) → k < n → against t (get_or parts k []) ≡ Less

-- the parts up to the first that begins with the term have the locations of that one alone
first_fronts : (t : List ℕ) (parts : List (List TermList)) (i : ℕ) → i < length parts → BeforeFirst t parts i → flat_map (front_of t) (take (suc i) parts) ≡ front_of t (get_or parts i [])
first_fronts t [] i m h = absurd (omega (arith, m))
first_fronts t (p ∷ ps) zero m h = append-nil (front_of t p)
first_fronts t (p ∷ ps) (suc i) m h =
    ap (λ b. cond b (front_locations p) [] ++ flat_map (front_of t) (take (suc i) ps)) (less_begins t p (h 0 (omega arith)))
    ∙ first_fronts t ps i (omega (arith, m)) (λ k l. h (suc k) (omega (arith, l)))

pub own_fronts : (parts : List (List TermList)) (next : ℕ) → IsNext parts (length parts) next
    → front_locations (get_or parts next []) ≡ flat_map (front_of (next_term parts next)) (take (next + 1) parts)
own_fronts parts next h =
    let t = next_term parts next in
    let p = get_or parts next [] in
    let e : suc next ≡ next + 1 = omega arith in
    sym (first_fronts t parts next h.within h.first ∙ ap (λ b. cond b (front_locations p) []) (own_front p h.some))
    ∙ ap (λ n. flat_map (front_of t) (take n parts)) e

-- ---- where no part from a place on begins with the term

abbrev pub NoneFrom : List ℕ → List (List TermList) → ℕ → Type 0
NoneFrom t parts n = (k : ℕ) → n ≤ k → k < length parts → begins t (get_or parts k []) ≡ false

-- the others have all its locations
pub fronts_to : (t : List ℕ) (parts : List (List TermList)) (n : ℕ) → NoneFrom t parts n → flat_map (front_of t) (take n parts) ≡ flat_map (front_of t) parts
fronts_to t [] zero h = refl
fronts_to t [] (suc n) h = refl
fronts_to t (p ∷ ps) zero h =
    fronts_to t ps zero (λ k a m. h (suc k) (omega arith) (omega (arith, m)))
    ∙ ap (λ b. cond b (front_locations p) [] ++ flat_map (front_of t) ps) (sym (h 0 (omega arith) (omega arith)))
fronts_to t (p ∷ ps) (suc n) h = ap (λ l. front_of t p ++ l) (fronts_to t ps n (λ k a m. h (suc k) (omega (arith, a)) (omega (arith, m))))

-- and nothing of it is taken from them
pub behind_to : (t : List ℕ) (parts : List (List TermList)) (n : ℕ) → NoneFrom t parts n → parts ≡ take n parts ++ map (behind t) (drop n parts)
behind_to t [] zero h = refl
behind_to t [] (suc n) h = refl
behind_to t (p ∷ ps) zero h =
    ap (λ l. p ∷ l) (behind_to t ps zero (λ k a m. h (suc k) (omega arith) (omega (arith, m))))
    ∙ ap (λ b. cond b (drop 1 p) p ∷ map (behind t) ps) (sym (h 0 (omega arith) (omega arith)))
behind_to t (p ∷ ps) (suc n) h = ap (λ l. p ∷ l) (behind_to t ps n (λ k a m. h (suc k) (omega (arith, a)) (omega (arith, m))))

-- what was done from a place on is done from the place before it on
map_before : {X : Type 0} (f : X → X) (xs : List X) (i : ℕ) (d : X) → i < length xs → set (take (suc i) xs ++ map f (drop (suc i) xs)) i (f (get_or xs i d)) ≡ take i xs ++ map f (drop i xs)
map_before f [] i d m = absurd (omega (arith, m))
map_before f (x ∷ xs) zero d m = refl
map_before f (x ∷ xs) (suc i) d m = ap (λ l. x ∷ l) (map_before f xs i d (omega (arith, m)))

first_behind : (t : List ℕ) (parts : List (List TermList)) (i : ℕ) → i < length parts → BeforeFirst t parts i → take i parts ++ map (behind t) (drop i parts) ≡ map (behind t) parts
first_behind t parts zero m h = refl
first_behind t [] (suc i) m h = refl
first_behind t (p ∷ ps) (suc i) m h =
    ap (λ b. cond b (drop 1 p) p ∷ (take i ps ++ map (behind t) (drop i ps))) (sym (less_begins t p (h 0 (omega arith))))
    ∙ ap (λ l. behind t p ∷ l) (first_behind t ps i (omega (arith, m)) (λ k l. h (suc k) (omega (arith, l))))

-- what is not looked at is as it was
pub same_before : (parts left more : List (List TermList)) (n k : ℕ) → k < n → n ≤ length parts → left ≡ take n parts ++ more → get_or left k [] ≡ get_or parts k []
same_before parts left more n k m l is =
    ap (λ (p : List (List TermList)). get_or p k []) is
    ∙ get_or_append_left (take n parts) more [] k (omega (arith, m, length-take-le n parts l))
    ∙ get_or-take n parts k [] m

-- the part before those that were looked at is looked at
pub one_behind : (t : List ℕ) (parts left : List (List TermList)) (i : ℕ) → i < length parts → left ≡ take (i + 1) parts ++ map (behind t) (drop (i + 1) parts)
    → set left i (behind t (get_or parts i [])) ≡ take i parts ++ map (behind t) (drop i parts)
one_behind t parts left i m is =
    let e : i + 1 ≡ suc i = omega arith in
    ap (λ l. set l i (behind t (get_or parts i []))) (is ∙ ap (λ n. take n parts ++ map (behind t) (drop n parts)) e) ∙ map_before (behind t) parts i [] m

pub own_behind : (parts left : List (List TermList)) (next : ℕ) → IsNext parts (length parts) next
    → left ≡ take (next + 1) parts ++ map (behind (next_term parts next)) (drop (next + 1) parts) → set left next (drop 1 (get_or parts next [])) ≡ behind_next parts next
own_behind parts left next h is =
    let t = next_term parts next in
    let p = get_or parts next [] in
    ap (λ b. set left next (cond b (drop 1 p) p)) (sym (own_front p h.some))
    ∙ one_behind t parts left next h.within is
    ∙ first_behind t parts next h.within h.first

-- ---- where there is no span

outside_none : (xs : List ℕ) → outside_of [] xs ≡ xs
outside_none [] = refl
outside_none (x ∷ xs) = ap (λ l. x ∷ l) (outside_none xs)

pub next_is_whole : (spans : List Span) (parts : List (List TermList)) (next : ℕ) → length spans ≡ 0 → next_list spans parts next ≡ whole_list parts next
next_is_whole [] parts next none =
    let build : List ℕ → TermList = λ xs. record { term = next_term parts next; locations = xs } in
    ap build (outside_none (flat_map (front_of (next_term parts next)) parts))
next_is_whole (s ∷ ss) parts next none = absurd (omega (arith, none))

-- ---- the next term of all

none_terms : (parts : List (List TermList)) → NoneLeft parts (length parts) → all_terms parts ≡ []
none_terms [] h = refl
none_terms (p ∷ ps) h =
    let e : p ≡ [] = h 0 (omega arith) in
    ap (λ q. terms_of q ++ all_terms ps) e ∙ none_terms ps (λ k m. h (suc k) (omega (arith, m)))

pub no_terms : (parts : List (List TermList)) → NoneLeft parts (length parts) → terms_among parts ≡ []
no_terms parts h = ap in_order (none_terms parts h)

pub least_of : (parts : List (List TermList)) (next : ℕ) → All TermsRise parts → IsNext parts (length parts) next → IsLeast (next_term parts next) parts
least_of parts next s h = record {
  rise = s;
  low = λ k d m. subst (IsLow (next_term parts next)) (get_or_default parts k [] d m) (h.lowest k m);
  at = next;
  within = h.within;
  begun = own_front (get_or parts next []) h.some;
}

-- what is written back of a vector's elements
pub written : {X : Type 0} (n : ℕ) (new old : List X) → length new ≡ n → length old ≡ n → take n (new ++ drop (length new) old) ≡ new
written n new old a b =
    ap (λ l. take n (new ++ l)) (drop_all (length new) old (omega (arith, a, b))) ∙ ap (take n) (append-nil new) ∙ take_all n new (omega (arith, a))

-- whether there is a next term tells whether one is left
pub done_is : (parts : List (List TermList)) (next : Option Next) (r : Bool) → All TermsRise parts → MatchOption next (NoneLeft parts (length parts)) (λ n. AreNext parts (length parts) n.first n.last)
    → is_some next ≡ not r → (IsTrue r → terms_among parts ≡ []) × (terms_among parts ≡ [] → IsTrue r)
done_is parts None true s h e = (λ _. no_terms parts h, λ _. refl)
done_is parts None false s h e = absurd (true≢false (sym e))
done_is parts (Some next) true s h e = absurd (true≢false e)
done_is parts (Some next) false s h e = (
  λ f. absurd (true≢false (sym f)),
  λ none. let more = terms_next (next_term parts next.first) parts (least_of parts next.first s h.next) in
      absurd (omega (arith, ap length (sym more ∙ none))),
)

pub on_error : {T E : Type 0} (P : Type 0) (r : Result T E) → P → OnErr r P
on_error P (Ok x) p = tt
on_error P (Err e) p = p
