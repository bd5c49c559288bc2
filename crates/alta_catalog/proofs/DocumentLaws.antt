-- Lists of documents whose numbers rise, and of which each is found by its name.
use Rattle.std.proofs.Common.{◌≡◌, ℕ, Bool, true, false, cond, not, List, [], ◌∷◌, ◌++◌, refl, sym, ◌∙◌, ap, subst, arith, map}
use Rattle.std.specs.Prelude.{◌||◌, ◌==◌, Option, Some, None, is_some, option_map}
use Rattle.std.specs.List.{list_any, find, filter, All}
use Rattle.std.specs.Map.{update}
use Rattle.std.specs.Str.{bytes_eq}
use Rattle.std.proofs.lemmas.Bool.{false≢true}
use Rattle.alta_machine.specs.declared.document.Document.{Document}
use Rattle.alta_catalog.specs.Knowing.{AreFound}
use Rattle.alta_names.specs.Names.{Numbers}
use Rattle.alta_machine.specs.Changes.{has_number_in}
use Rattle.alta_meaning.proofs.Tests.{by_test, filter_keep, filter_drop, equal_test, equal_from, apart_test, bytes_from, bytes_same, none_left, or_right, or_left, or_neither}
use Rattle.alta_meaning.specs.Known.{Named, named_of}
use Rattle.alta_meaning.specs.Ordered.{AreOrdered, IsBefore}
use Rattle.std.proofs.lemmas.List.Elements.{All-head, All-tail}

-- one of these documents has this name
abbrev pub has_name_in : List ℕ → List Document → Bool
has_name_in name ds = list_any (λ (d : Document). bytes_eq name d.name) ds

-- no document behind one has its number
pub none_behind : (row : Named) (ds : List Document) → All (IsBefore row) (map named_of ds) → has_number_in row.number ds ≡ false
none_behind row [] all = refl
none_behind row (d ∷ ds) all =
    or_neither (d.number == row.number) (has_number_in row.number ds)
    (apart_test d.number row.number (λ e. absurd (omega (arith, e, (All-head (IsBefore row) (named_of d) (map named_of ds) all).0))))
    (none_behind row ds (All-tail (IsBefore row) (named_of d) (map named_of ds) all))

-- each number is found by its name

number_in : Option ℕ → ℕ
number_in (Some n) = n
number_in None = 0

same_number : (m n : ℕ) → Some m ≡ Some n → m ≡ n
unfolding number_in
same_number m n e = ap number_in e

-- a document whose name stands for a number has that number
pub number_here : (known : Numbers) (q : List ℕ) (n : ℕ) (d : Document) → known d.name ≡ Some d.number → known q ≡ Some n → bytes_eq q d.name ≡ true → d.number ≡ n
number_here known q n d here is same = same_number d.number n (sym here ∙ ap (λ (x : List ℕ). known x) (sym (bytes_from q d.name same)) ∙ is)

has_tail : (q : List ℕ) (d : Document) (ds : List Document) → bytes_eq q d.name ≡ false → has_name_in q (d ∷ ds) ≡ true → has_name_in q ds ≡ true
has_tail q d ds fails has = sym (ap (λ (b : Bool). b || has_name_in q ds) fails) ∙ has

-- a name that stands for a number is that of a document with the number
pub numbered_as : (known : Numbers) (q : List ℕ) (n : ℕ) (ds : List Document) → AreFound known ds → known q ≡ Some n → has_name_in q ds ≡ true → has_number_in n ds ≡ true
numbered_as known q n [] found is has = absurd (false≢true has)
numbered_as known q n (d ∷ ds) found is has =
    by_test (bytes_eq q d.name)
    (λ holds. ap (λ (b : Bool). b || has_number_in n ds) (equal_test d.number n (number_here known q n d found.0 is holds)))
    (λ fails. or_right (d.number == n) (has_number_in n ds) (numbered_as known q n ds found.1 is (has_tail q d ds fails has)))

-- the number of the document with a name is what the name stands for
pub number_found : (known : Numbers) (q : List ℕ) (ds : List Document) → AreFound known ds → has_name_in q ds ≡ true
    → option_map (λ (d : Document). d.number) (find (λ (d : Document). bytes_eq q d.name) ds) ≡ known q
number_found known q [] found has = absurd (false≢true has)
number_found known q (d ∷ ds) found has =
    by_test (bytes_eq q d.name)
    (λ holds. ap (λ (b : Bool). option_map (λ (d : Document). d.number) (cond b (Some d) (find (λ (d : Document). bytes_eq q d.name) ds))) holds
    ∙ sym found.0 ∙ ap (λ (x : List ℕ). known x) (sym (bytes_from q d.name holds)))
    (λ fails. ap (λ (b : Bool). option_map (λ (d : Document). d.number) (cond b (Some d) (find (λ (d : Document). bytes_eq q d.name) ds))) fails
    ∙ number_found known q ds found.1 (has_tail q d ds fails has))

-- to leave out a name is to leave out its number
pub same_left : (known : Numbers) (q : List ℕ) (n : ℕ) (ds : List Document) → AreOrdered (map named_of ds) → AreFound known ds → known q ≡ Some n → has_name_in q ds ≡ true
    → filter (λ (d : Document). not (bytes_eq q d.name)) ds ≡ filter (λ (d : Document). not (d.number == n)) ds
same_left known q n [] ordered found is has = refl
same_left known q n (d ∷ ds) ordered found is has =
    by_test (d.number == n)
    (λ holds.
    let none : has_number_in n ds ≡ false = subst (λ (m : ℕ). has_number_in m ds ≡ false) (equal_from d.number n holds) (none_behind (named_of d) ds ordered.0) in
    let no_name : has_name_in q ds ≡ false = by_test (has_name_in q ds) (λ some. absurd (false≢true (sym none ∙ numbered_as known q n ds found.1 is some))) (λ fails. fails) in
    filter_drop (λ (d : Document). not (bytes_eq q d.name)) d ds (ap not (or_left (bytes_eq q d.name) (has_name_in q ds) has no_name))
    ∙ none_left (λ (d : Document). bytes_eq q d.name) ds no_name
    ∙ sym (filter_drop (λ (d : Document). not (d.number == n)) d ds (ap not holds) ∙ none_left (λ (d : Document). d.number == n) ds none))
    (λ fails.
    let other : bytes_eq q d.name ≡ false = by_test (bytes_eq q d.name) (λ same. absurd (false≢true (sym fails ∙ equal_test d.number n (number_here known q n d found.0 is same)))) (λ fails. fails) in
    filter_keep (λ (d : Document). not (bytes_eq q d.name)) d ds (ap not other)
    ∙ ap (λ (xs : List Document). d ∷ xs) (same_left known q n ds ordered.1 found.1 is (has_tail q d ds other has))
    ∙ sym (filter_keep (λ (d : Document). not (d.number == n)) d ds (ap not fails)))

-- a name that was left out is gone
pub name_gone : (q : List ℕ) (ds : List Document) → has_name_in q (filter (λ (d : Document). not (bytes_eq q d.name)) ds) ≡ false
name_gone q [] = refl
name_gone q (d ∷ ds) =
    by_test (bytes_eq q d.name)
    (λ holds. ap (has_name_in q) (filter_drop (λ (d : Document). not (bytes_eq q d.name)) d ds (ap not holds)) ∙ name_gone q ds)
    (λ fails. ap (has_name_in q) (filter_keep (λ (d : Document). not (bytes_eq q d.name)) d ds (ap not fails)) ∙ ap (λ (b : Bool). b || has_name_in q (filter (λ (d : Document). not (bytes_eq q d.name)) ds)) fails ∙ name_gone q ds)

-- and another stays
pub name_stays : (q x : List ℕ) (ds : List Document) → bytes_eq q x ≡ false → has_name_in x (filter (λ (d : Document). not (bytes_eq q d.name)) ds) ≡ has_name_in x ds
name_stays q x [] other = refl
name_stays q x (d ∷ ds) other =
    by_test (bytes_eq q d.name)
    (λ holds. ap (has_name_in x) (filter_drop (λ (d : Document). not (bytes_eq q d.name)) d ds (ap not holds)) ∙ name_stays q x ds other
    ∙ sym (ap (λ (b : Bool). b || has_name_in x ds) (by_test (bytes_eq x d.name)
    (λ same. absurd (false≢true (sym other ∙ subst (λ (y : List ℕ). bytes_eq q y ≡ true) (sym (bytes_from x d.name same)) holds))) (λ fails. fails))))
    (λ fails. ap (has_name_in x) (filter_keep (λ (d : Document). not (bytes_eq q d.name)) d ds (ap not fails)) ∙ ap (λ (b : Bool). bytes_eq x d.name || b) (name_stays q x ds other))

-- what is found still is, once a name is forgotten
pub found_left : (old new : Numbers) (q : List ℕ) (ds : List Document) → ((x : List ℕ) → new x ≡ update bytes_eq old q None x) → AreFound old ds
    → AreFound new (filter (λ (d : Document). not (bytes_eq q d.name)) ds)
found_left old new q [] forgot found = tt
found_left old new q (d ∷ ds) forgot found =
    by_test (bytes_eq q d.name)
    (λ holds. subst (AreFound new) (sym (filter_drop (λ (d : Document). not (bytes_eq q d.name)) d ds (ap not holds))) (found_left old new q ds forgot found.1))
    (λ fails. subst (AreFound new) (sym (filter_keep (λ (d : Document). not (bytes_eq q d.name)) d ds (ap not fails)))
    (forgot d.name ∙ ap (λ (b : Bool). cond b None (old d.name)) fails ∙ found.0, found_left old new q ds forgot found.1))

-- and once a name that was free is noted
found_here : (old new : Numbers) (q : List ℕ) (n : ℕ) → ((x : List ℕ) → new x ≡ update bytes_eq old q (Some n) x) → is_some (old q) ≡ false
    → (x : List ℕ) (m : ℕ) → old x ≡ Some m → new x ≡ Some m
found_here old new q n noted free x m is =
    noted x ∙ ap (λ (b : Bool). cond b (Some n) (old x)) (by_test (bytes_eq q x)
    (λ same. absurd (false≢true (sym free ∙ ap (λ (y : List ℕ). is_some (old y)) (bytes_from q x same) ∙ ap is_some is))) (λ fails. fails)) ∙ is

pub found_more : (old new : Numbers) (ds : List Document) (d : Document) → ((x : List ℕ) → new x ≡ update bytes_eq old d.name (Some d.number) x)
    → is_some (old d.name) ≡ false → AreFound old ds → AreFound new (ds ++ d ∷ [])
found_more old new [] d noted free found = (noted d.name ∙ ap (λ (b : Bool). cond b (Some d.number) (old d.name)) (bytes_same d.name), tt)
found_more old new (c ∷ ds) d noted free found = (found_here old new d.name d.number noted free c.name c.number found.0, found_more old new ds d noted free found.1)

-- a name that no document has stands for no number
pub no_number_of : (q : List ℕ) (ds : List Document) → has_name_in q ds ≡ false → option_map (λ (d : Document). d.number) (find (λ (d : Document). bytes_eq q d.name) ds) ≡ None
no_number_of q [] none = refl
no_number_of q (d ∷ ds) none =
    by_test (bytes_eq q d.name)
    (λ holds. absurd (false≢true (sym none ∙ ap (λ (b : Bool). b || has_name_in q ds) holds)))
    (λ fails. ap (λ (b : Bool). option_map (λ (d : Document). d.number) (cond b (Some d) (find (λ (d : Document). bytes_eq q d.name) ds))) fails
    ∙ no_number_of q ds (sym (ap (λ (b : Bool). b || has_name_in q ds) fails) ∙ none))
