-- Which documents are left once one more of their ends is deleted.
use Rattle.std.proofs.Common.{◌≡◌, ◌⊎◌, inl, inr, ⊎_elim, ℕ, zero, suc, ◌+◌, ◌<◌, Bool, true, false, not, nat_eq, List, [], ◌∷◌, ◌++◌, length, map, refl, sym, ◌∙◌, ap, subst, arith}
use Rattle.std.specs.Prelude.{◌||◌, ◌==◌, ◌↔◌, Contains, sum_by}
use Rattle.std.specs.List.{All, filter, list_any}
use Rattle.std.proofs.lemmas.Bool.{false≢true}
use Rattle.std.proofs.lemmas.List.{map-append}
use Rattle.std.proofs.lemmas.List.Elements.{All-nil, All-cons, All-head, All-tail, All-contains, filter-append}
use Rattle.std.proofs.lemmas.List.Sums.{sum_by-cons}
use Rattle.alta_content.specs.Rows.{end_of, ends_among}
use Rattle.alta_memlevel.specs.Added.{Added, IsInSpace, IsSpace}
use Rattle.alta_memlevel.specs.Documents.{document_in}
use Rattle.alta_machine.specs.declared.document.Document.{Document}
use Rattle.alta_catalog.specs.Knowing.{AreNumbered}
use Rattle.alta_catalog.specs.Rows.{documents_left}
use Rattle.alta_machine.specs.Changes.{has_number_in}
use Rattle.alta_meaning.proofs.Tests.{apart_test, by_test, equal_from, equal_test, filter_drop, filter_keep, none_left}
use Rattle.alta_catalog.proofs.DocumentLaws.{none_behind}
use Rattle.alta_meaning.specs.Known.{Named, named_of}
use Rattle.alta_meaning.specs.Ordered.{AreOrdered, IsBefore}

-- ---- members of lists
pub here_or_there : {X : Type 0} (x : X) (xs : List X) (y : X) → Contains (x ∷ xs) y → (x ≡ y) ⊎ Contains xs y
here_or_there x xs y (zero, inside, is) = inl is
here_or_there x xs y (suc k, inside, is) = inr (k, omega (arith, inside), is)

pub there : {X : Type 0} (x : X) (xs : List X) (y : X) → Contains xs y → Contains (x ∷ xs) y
there x xs y (k, inside, is) = (suc k, omega (arith, inside), is)

pub no_member : {X : Type 0} (y : X) → Contains [] y → ⊥
no_member y (k, inside, is) = absurd (omega (arith, inside))

abbrev pub is_among : List ℕ → ℕ → Bool
is_among ends x = list_any (λ end. nat_eq end x) ends

pub member : (ends : List ℕ) (x : ℕ) → is_among ends x ≡ true → Contains ends x
member [] x is = absurd (false≢true is)
member (e ∷ ends) x is =
    by_test (e == x)
    (λ same. (zero, omega arith, equal_from e x same))
    (λ other. there e ends x (member ends x (sym (ap (λ (b : Bool). b || is_among ends x) other) ∙ is)))

pub among : (ends : List ℕ) (x : ℕ) → Contains ends x → is_among ends x ≡ true
among [] x has = absurd (no_member x has)
among (e ∷ ends) x has =
    ⊎_elim
    (λ same. ap (λ (b : Bool). b || is_among ends x) (equal_test e x same))
    (λ more. or_right (e == x) (is_among ends x) (among ends x more))
    (here_or_there e ends x has)
  where
    or_right : (a b : Bool) → b ≡ true → (a || b) ≡ true
    or_right true b e = refl
    or_right false b e = e

pub not_among : (ends : List ℕ) (x : ℕ) → (Contains ends x → ⊥) → is_among ends x ≡ false
not_among ends x none = by_test (is_among ends x) (λ is. absurd (none (member ends x is))) (λ is. is)

-- one end more
pub among_more : (old later : List ℕ) (e : ℕ) → ((x : ℕ) → Contains later x ↔ (Contains old x ⊎ (x ≡ e))) → (x : ℕ) → is_among later x ≡ (is_among old x || nat_eq e x)
among_more old later e members x =
    by_test (is_among later x)
    (λ is. is ∙ sym (⊎_elim
    (λ old_has. ap (λ (b : Bool). b || nat_eq e x) (among old x old_has))
    (λ same. or_right (is_among old x) (nat_eq e x) (equal_test e x (sym same)))
    ((members x).0 (member later x is))))
    (λ is. is ∙ sym (both_false (is_among old x) (nat_eq e x)
    (not_among old x (λ has. absurd (false≢true (sym is ∙ among later x ((members x).1 (inl has))))))
    (apart_test e x (λ same. absurd (false≢true (sym is ∙ among later x ((members x).1 (inr (sym same)))))))))
  where
    or_right : (a b : Bool) → b ≡ true → (a || b) ≡ true
    or_right true b e = refl
    or_right false b e = e

    both_false : (a b : Bool) → a ≡ false → b ≡ false → (a || b) ≡ false
    both_false true b first second = first
    both_false false b first second = second

-- ---- documents that were added
-- of each document the end is this one exactly where the number is
abbrev pub IsSame : ℕ → ℕ → Added → Type 0
IsSame n e b = nat_eq e (end_of b.row) ≡ (b.row.number == n)

abbrev IsAfter : Added → Added → Type 0
IsAfter a b = (a.row.number < b.row.number) × (end_of a.row < end_of b.row)

all_after : (a : Added) (more : List Added) → All (λ (b : Added). a.row.number < b.row.number) more → All (λ (b : Added). end_of a.row < b.row.first) more → IsSpace more → All (IsAfter a) more
all_after a [] numbers firsts space = All-nil (IsAfter a)
all_after a (b ∷ more) numbers firsts space =
    All-cons (IsAfter a) b more
    (All-head (λ (b : Added). a.row.number < b.row.number) b more numbers, omega (arith, All-head (λ (b : Added). end_of a.row < b.row.first) b more firsts, space.0.some))
    (all_after a more (All-tail (λ (b : Added). a.row.number < b.row.number) b more numbers) (All-tail (λ (b : Added). end_of a.row < b.row.first) b more firsts) space.3)

-- those behind a document have other numbers and ends
others : (a : Added) (more : List Added) → All (IsAfter a) more → All (IsSame a.row.number (end_of a.row)) more
others a [] after = All-nil (IsSame a.row.number (end_of a.row))
others a (b ∷ more) after =
    let one = All-head (IsAfter a) b more after in
    All-cons (IsSame a.row.number (end_of a.row)) b more
    (apart_test (end_of a.row) (end_of b.row) (λ e. absurd (omega (arith, e, one.1))) ∙ sym (apart_test b.row.number a.row.number (λ e. absurd (omega (arith, e, one.0)))))
    (others a more (All-tail (IsAfter a) b more after))

pub all_same : (added : List Added) (a : Added) → IsSpace added → Contains added a → All (IsSame a.row.number (end_of a.row)) added
all_same [] a space has = absurd (no_member a has)
all_same (b ∷ more) a space has =
    let after = all_after b more space.1 space.2 space.3 in
    ⊎_elim
    (λ (same : b ≡ a). subst (λ (x : Added). All (IsSame x.row.number (end_of x.row)) (b ∷ more)) same
    (All-cons (IsSame b.row.number (end_of b.row)) b more (equal_test (end_of b.row) (end_of b.row) refl ∙ sym (equal_test b.row.number b.row.number refl)) (others b more after)))
    (λ behind.
    let one = All-contains (IsAfter b) more a after behind in
    All-cons (IsSame a.row.number (end_of a.row)) b more
    (apart_test (end_of a.row) (end_of b.row) (λ e. absurd (omega (arith, e, one.1))) ∙ sym (apart_test b.row.number a.row.number (λ e. absurd (omega (arith, e, one.0)))))
    (all_same more a space.3 behind))
    (here_or_there b more a has)

pub space_all : (added : List Added) → IsSpace added → All IsInSpace added
space_all [] space = All-nil IsInSpace
space_all (a ∷ added) space = All-cons IsInSpace a added space.0 (space_all added space.3)

-- a document that is deleted is left out
pub left_out : (gone later : List ℕ) (n e : ℕ) → ((x : ℕ) → is_among later x ≡ (is_among gone x || nat_eq e x)) → (added : List Added) → All (IsSame n e) added
    → documents_left later added ≡ filter (λ (d : Document). not (d.number == n)) (documents_left gone added)
left_out gone later n e ends [] same = refl
left_out gone later n e ends (b ∷ more) same =
    let rest = left_out gone later n e ends more (All-tail (IsSame n e) b more same) in
    let here = ends (end_of b.row) in
    let live : Added → Bool = λ (a : Added). not (ends_among gone a.row) in
    let left : Added → Bool = λ (a : Added). not (ends_among later a.row) in
    let others : Document → Bool = λ (d : Document). not (d.number == n) in
    by_test (ends_among gone b.row)
    (λ dead.
    let gone_later : ends_among later b.row ≡ true = here ∙ ap (λ (t : Bool). t || nat_eq e (end_of b.row)) dead in
    ap (λ (kept : List Added). map document_in kept) (filter_drop left b more (ap not gone_later)) ∙ rest
    ∙ sym (ap (λ (kept : List Added). filter others (map document_in kept)) (filter_drop live b more (ap not dead))))
    (λ alive.
    let kept : filter live (b ∷ more) ≡ b ∷ filter live more = filter_keep live b more (ap not alive) in
    let is_end = All-head (IsSame n e) b more same in
    by_test (b.row.number == n)
    (λ is.
    let gone_later : ends_among later b.row ≡ true = here ∙ ap (λ (t : Bool). t || nat_eq e (end_of b.row)) alive ∙ is_end ∙ is in
    ap (λ (kept : List Added). map document_in kept) (filter_drop left b more (ap not gone_later)) ∙ rest
    ∙ sym (ap (λ (kept : List Added). filter others (map document_in kept)) kept ∙ filter_drop others (document_in b) (documents_left gone more) (ap not is)))
    (λ other.
    let stays : ends_among later b.row ≡ false = here ∙ ap (λ (t : Bool). t || nat_eq e (end_of b.row)) alive ∙ is_end ∙ other in
    ap (λ (kept : List Added). map document_in kept) (filter_keep left b more (ap not stays)) ∙ ap (λ (ds : List Document). document_in b ∷ ds) rest
    ∙ sym (ap (λ (kept : List Added). filter others (map document_in kept)) kept ∙ filter_keep others (document_in b) (documents_left gone more) (ap not other))))

-- a document whose end is not deleted is left
pub is_left : (gone : List ℕ) (added : List Added) (a : Added) → Contains added a → ends_among gone a.row ≡ false → Contains (documents_left gone added) (document_in a)
is_left gone [] a has alive = absurd (no_member a has)
is_left gone (b ∷ more) a has alive =
    let live : Added → Bool = λ (a : Added). not (ends_among gone a.row) in
    by_test (ends_among gone b.row)
    (λ dead. subst (λ (kept : List Added). Contains (map document_in kept) (document_in a)) (sym (filter_drop live b more (ap not dead)))
    (⊎_elim (λ (same : b ≡ a). absurd (false≢true (sym (ap (λ (x : Added). ends_among gone x.row) same ∙ alive) ∙ dead)))
    (λ behind. is_left gone more a behind alive) (here_or_there b more a has)))
    (λ stays. subst (λ (kept : List Added). Contains (map document_in kept) (document_in a)) (sym (filter_keep live b more (ap not stays)))
    (⊎_elim (λ (same : b ≡ a). (zero, omega arith, ap document_in same))
    (λ behind. there (document_in b) (documents_left gone more) (document_in a) (is_left gone more a behind alive)) (here_or_there b more a has)))

-- where each document with the number is deleted, none is left with it
pub none_with : (n : ℕ) (gone : List ℕ) (added : List Added) → All (λ (b : Added). (b.row.number == n) ≡ true → ends_among gone b.row ≡ true) added
    → has_number_in n (documents_left gone added) ≡ false
none_with n gone [] dead = refl
none_with n gone (b ∷ more) dead =
    let live : Added → Bool = λ (a : Added). not (ends_among gone a.row) in
    let rest = none_with n gone more (All-tail (λ (b : Added). (b.row.number == n) ≡ true → ends_among gone b.row ≡ true) b more dead) in
    by_test (ends_among gone b.row)
    (λ is. ap (λ (kept : List Added). has_number_in n (map document_in kept)) (filter_drop live b more (ap not is)) ∙ rest)
    (λ stays. ap (λ (kept : List Added). has_number_in n (map document_in kept)) (filter_keep live b more (ap not stays))
    ∙ ap (λ (t : Bool). t || has_number_in n (documents_left gone more))
    (by_test (b.row.number == n) (λ is. absurd (false≢true (sym stays ∙ All-head (λ (b : Added). (b.row.number == n) ≡ true → ends_among gone b.row ≡ true) b more dead is))) (λ other. other))
    ∙ rest)

-- a document more, whose end is not deleted
pub left_more : (gone : List ℕ) (added : List Added) (a : Added) → ends_among gone a.row ≡ false → documents_left gone (added ++ a ∷ []) ≡ documents_left gone added ++ document_in a ∷ []
left_more gone added a alive =
    let live : Added → Bool = λ (a : Added). not (ends_among gone a.row) in
    ap (λ (kept : List Added). map document_in kept) (filter-append live added (a ∷ []) ∙ ap (λ (kept : List Added). filter live added ++ kept) (filter_keep live a [] (ap not alive)))
    ∙ map-append document_in (filter live added) (a ∷ [])

-- ---- numbers that follow on one another
pub numbered_more : (n : ℕ) (added : List Added) (a : Added) → a.row.number ≡ n + length added → AreNumbered n added → AreNumbered n (added ++ a ∷ [])
numbered_more n [] a is numbered = (omega (arith, is), tt)
numbered_more n (b ∷ added) a is numbered = (numbered.0, numbered_more (n + 1) added a (omega (arith, is)) numbered.1)

-- ---- documents of rising numbers
above : (row : Named) (ds : List Document) → All (IsBefore row) (map named_of ds) → (d : Document) → Contains ds d → row.number < d.number
above row [] all d has = absurd (no_member d has)
above row (c ∷ ds) all d has =
    ⊎_elim (λ (same : c ≡ d). subst (λ (x : Document). row.number < x.number) same (All-head (IsBefore row) (named_of c) (map named_of ds) all).0)
    (λ behind. above row ds (All-tail (IsBefore row) (named_of c) (map named_of ds) all) d behind)
    (here_or_there c ds d has)

pub has_number_of : (ds : List Document) (d : Document) → Contains ds d → has_number_in d.number ds ≡ true
has_number_of [] d has = absurd (no_member d has)
has_number_of (c ∷ ds) d has =
    ⊎_elim (λ (same : c ≡ d). ap (λ (b : Bool). b || has_number_in d.number ds) (equal_test c.number d.number (ap (λ (x : Document). x.number) same)))
    (λ behind. or_right (c.number == d.number) (has_number_in d.number ds) (has_number_of ds d behind))
    (here_or_there c ds d has)
  where
    or_right : (a b : Bool) → b ≡ true → (a || b) ≡ true
    or_right true b e = refl
    or_right false b e = e

-- without a document a sum over them is less by its part
pub one_less : (f : Document → ℕ) (ds : List Document) → AreOrdered (map named_of ds) → (d : Document) → Contains ds d
    → sum_by f (filter (λ (e : Document). not (e.number == d.number)) ds) + f d ≡ sum_by f ds
one_less f [] ordered d has = absurd (no_member d has)
one_less f (c ∷ ds) ordered d has =
    let others : Document → Bool = λ (e : Document). not (e.number == d.number) in
    ⊎_elim
    (λ (same : c ≡ d).
    let number : c.number ≡ d.number = ap (λ (x : Document). x.number) same in
    let rest : filter others (c ∷ ds) ≡ ds =
    filter_drop others c ds (ap not (equal_test c.number d.number number)) ∙ none_left (λ (e : Document). e.number == d.number) ds (subst (λ (m : ℕ). has_number_in m ds ≡ false) number (none_behind (named_of c) ds ordered.0)) in
    subst (λ (xs : List Document). sum_by f xs + f d ≡ sum_by f (c ∷ ds)) (sym rest) (omega (arith, sum_by-cons f c ds, ap f same)))
    (λ behind.
    let less = above (named_of c) ds ordered.0 d behind in
    subst (λ (xs : List Document). sum_by f xs + f d ≡ sum_by f (c ∷ ds)) (sym (filter_keep others c ds (ap not (apart_test c.number d.number (λ e. absurd (omega (arith, e, less)))))))
    (omega (arith, sum_by-cons f c ds, sum_by-cons f c (filter others ds), one_less f ds ordered.1 d behind)))
    (here_or_there c ds d has)

pub one_fewer : (ds : List Document) → AreOrdered (map named_of ds) → (d : Document) → Contains ds d
    → length (filter (λ (e : Document). not (e.number == d.number)) ds) + 1 ≡ length ds
one_fewer [] ordered d has = absurd (no_member d has)
one_fewer (c ∷ ds) ordered d has =
    let others : Document → Bool = λ (e : Document). not (e.number == d.number) in
    ⊎_elim
    (λ (same : c ≡ d).
    let number : c.number ≡ d.number = ap (λ (x : Document). x.number) same in
    let rest : filter others (c ∷ ds) ≡ ds =
    filter_drop others c ds (ap not (equal_test c.number d.number number)) ∙ none_left (λ (e : Document). e.number == d.number) ds (subst (λ (m : ℕ). has_number_in m ds ≡ false) number (none_behind (named_of c) ds ordered.0)) in
    subst (λ (xs : List Document). length xs + 1 ≡ length (c ∷ ds)) (sym rest) (omega arith))
    (λ behind.
    let less = above (named_of c) ds ordered.0 d behind in
    subst (λ (xs : List Document). length xs + 1 ≡ length (c ∷ ds)) (sym (filter_keep others c ds (ap not (apart_test c.number d.number (λ e. absurd (omega (arith, e, less)))))))
    (omega (arith, one_fewer ds ordered.1 d behind)))
    (here_or_there c ds d has)

-- what was among ends is so still
pub still_among : (old later : List ℕ) (e : ℕ) → ((x : ℕ) → Contains later x ↔ (Contains old x ⊎ (x ≡ e))) → (x : ℕ) → is_among old x ≡ true → is_among later x ≡ true
still_among old later e members x is = among_more old later e members x ∙ ap (λ (b : Bool). b || nat_eq e x) is
