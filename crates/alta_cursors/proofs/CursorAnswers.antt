-- Open cursors as lists of answers: opening, fetching and closing change both alike.
use Rattle.std.proofs.Common.{◌≡◌, ◌≢◌, ⊎_elim, ℕ, zero, suc, ◌+◌, ◌-◌, ◌<◌, ◌≤◌, Bool, true, false, not, List, [], ◌∷◌, ◌++◌, map, length, get_or, take, drop, refl, sym, subst, ap, ◌∙◌, arith}
use Rattle.std.specs.Prelude.{All, AllPairs, Some, None, IsSome, IsTrue, filter, ◌==◌, ◌||◌, ◌↔◌}
use Rattle.std.specs.List.{list_any}
use Rattle.std.proofs.Math.ListN.{set}
use Rattle.std.proofs.lemmas.Bool.{eq-eqb, ne_eqb, cases_eq, cond-true, cond-false}
use Rattle.std.proofs.lemmas.List.{map_push}
use Rattle.std.proofs.lemmas.List.Elements.{All-cons, All-head, All-tail, All-filter}
use Rattle.std.proofs.lemmas.List.Kept.{AllPairs-filter}
use Rattle.alta_compile.specs.Space.{Placed}
use Rattle.alta_compile.specs.View.{tree}
use Rattle.alta_machine.specs.declared.document.Document.{Document}
use Rattle.alta_search.specs.Answers.{IsPage, coming, first_end}
use Rattle.alta_machine.specs.Searching.{told}
use Rattle.alta_machine.specs.OpenAnswers.{OpenAnswers, is_taken, fetched, first_free, least_free, left_of, number_of, with_opened, with_fetched, without_cursor}
use Rattle.alta_cursors.specs.Open.{AreLazySteps, AreLeft, AreNumbers, AreOpen, IsFetch, IsFetched, IsOpen, IsPageOf, cursor_number, work_of}
use Rattle.alta_search.specs.Plans.{lists, locations, locations_below}
use Rattle.alta_search.specs.Told.{answer_of}
use Rattle.alta_search.specs.View.{Shows}
use Rattle.alta_cursors.specs.View.{CursorView}
use Rattle.alta_cursors.specs.declared.cursors.OpenCursor.{OpenCursor}
use Rattle.alta_machine.specs.declared.cursors.TheConstants.{CURSORS}
use Rattle.alta_search.specs.declared.page.Page.{Page}
use Rattle.alta_cursors.proofs.CursorNumbers.{free_from_one, free_small, left_taken, taken_left, numbers_push}

-- ---- lists that go together

pub same_length : (cs : List OpenCursor) (all : List OpenAnswers) → AreOpen cs all → length cs ≡ length all
same_length [] [] h = refl
same_length [] (a ∷ all) h = absurd h
same_length (c ∷ cs) [] h = absurd h
same_length (c ∷ cs) (a ∷ all) (here, h) = ap suc (same_length cs all h)

pub same_numbers : (cs : List OpenCursor) (all : List OpenAnswers) → AreOpen cs all → map cursor_number cs ≡ map number_of all
same_numbers [] [] h = refl
same_numbers [] (a ∷ all) h = absurd h
same_numbers (c ∷ cs) [] h = absurd h
same_numbers (c ∷ cs) (a ∷ all) (here, h) = ap (λ n. n ∷ map cursor_number cs) here.number ∙ ap (λ ns. a.number ∷ ns) (same_numbers cs all h)

-- one more at the end
pub open_push : (cs : List OpenCursor) (all : List OpenAnswers) (c : OpenCursor) (a : OpenAnswers) → AreOpen cs all → IsOpen c a → AreOpen (cs ++ c ∷ []) (all ++ a ∷ [])
open_push [] [] c a h new = (new, tt)
open_push [] (b ∷ all) c a h new = absurd h
open_push (d ∷ cs) [] c a h new = absurd h
open_push (d ∷ cs) (b ∷ all) c a (here, h) new = (here, open_push cs all c a h new)

-- the free number of both is the same
pub same_free : (cs : List OpenCursor) (all : List OpenAnswers) → AreOpen cs all → first_free (length cs) 1 (map cursor_number cs) ≡ least_free all
same_free cs all h = ap (λ k. first_free k 1 (map cursor_number cs)) (same_length cs all h) ∙ ap (first_free (length all) 1) (same_numbers cs all h)

pub length_numbers : (cs : List OpenCursor) → length (map cursor_number cs) ≡ length cs
length_numbers [] = refl
length_numbers (c ∷ cs) = ap suc (length_numbers cs)

-- ---- the cursors of another number

same_number : (x : ℕ) (c : OpenCursor) (a : OpenAnswers) → IsOpen c a → (c.number == x) ≡ (a.number == x)
same_number x c a h = ap (λ n. n == x) h.number

pub open_filter : (x : ℕ) (cs : List OpenCursor) (all : List OpenAnswers) → AreOpen cs all → AreOpen (filter (λ c. not (c.number == x)) cs) (without_cursor x all)
open_filter x [] [] h = tt
open_filter x [] (a ∷ all) h = absurd h
open_filter x (c ∷ cs) [] h = absurd h
open_filter x (c ∷ cs) (a ∷ all) (here, h) =
    let rest = open_filter x cs all h in
    let keep = λ (d : OpenCursor). not (d.number == x) in
    let keeps = λ (d : OpenAnswers). not (d.number == x) in
    ⊎_elim
    (λ e. let is : c.number ≡ x = here.number ∙ e in
    subst (λ l. AreOpen l (without_cursor x (a ∷ all))) (sym (cond-false (keep c) (c ∷ filter keep cs) (filter keep cs) (ap not (eq-eqb c.number x is))))
    (subst (AreOpen (filter keep cs)) (sym (cond-false (keeps a) (a ∷ filter keeps all) (filter keeps all) (ap not (eq-eqb a.number x e)))) rest))
    (λ e. let is : c.number ≢ x = λ f. e (sym here.number ∙ f) in
    subst (λ l. AreOpen l (without_cursor x (a ∷ all))) (sym (cond-true (keep c) (c ∷ filter keep cs) (filter keep cs) (ap not (ne_eqb c.number x is))))
    (subst (AreOpen (c ∷ filter keep cs)) (sym (cond-true (keeps a) (a ∷ filter keeps all) (filter keeps all) (ap not (ne_eqb a.number x e)))) (here, rest)))
    (cases_eq a.number x)

pub numbers_filter : (x : ℕ) (cs : List OpenCursor) → map cursor_number (filter (λ c. not (c.number == x)) cs) ≡ filter (λ n. not (n == x)) (map cursor_number cs)
numbers_filter x [] = refl
numbers_filter x (c ∷ cs) =
    let keep = λ (d : OpenCursor). not (d.number == x) in
    let keeps = λ (n : ℕ). not (n == x) in
    ⊎_elim
    (λ e. ap (map cursor_number) (cond-false (keep c) (c ∷ filter keep cs) (filter keep cs) (ap not (eq-eqb c.number x e)))
    ∙ numbers_filter x cs
    ∙ sym (cond-false (keeps c.number) (c.number ∷ filter keeps (map cursor_number cs)) (filter keeps (map cursor_number cs)) (ap not (eq-eqb c.number x e))))
    (λ e. ap (map cursor_number) (cond-true (keep c) (c ∷ filter keep cs) (filter keep cs) (ap not (ne_eqb c.number x e)))
    ∙ ap (λ ns. c.number ∷ ns) (numbers_filter x cs)
    ∙ sym (cond-true (keeps c.number) (c.number ∷ filter keeps (map cursor_number cs)) (filter keeps (map cursor_number cs)) (ap not (ne_eqb c.number x e))))
    (cases_eq c.number x)

-- ---- no cursor has the number

pub none_left : (x : ℕ) (cs : List OpenCursor) (all : List OpenAnswers) → All (λ c. c.number ≢ x) cs → AreOpen cs all → left_of x all ≡ None
none_left x [] [] none h = refl
none_left x [] (a ∷ all) none h = absurd h
none_left x (c ∷ cs) [] none h = absurd h
none_left x (c ∷ cs) (a ∷ all) none (here, h) =
    let first = All-head (λ (d : OpenCursor). d.number ≢ x) c cs none in
    cond-false (a.number == x) (Some a.left) (left_of x all) (ne_eqb a.number x (λ e. first (here.number ∙ e)))
    ∙ none_left x cs all (All-tail (λ (d : OpenCursor). d.number ≢ x) c cs none) h

pub none_fetched : (x count : ℕ) (cs : List OpenCursor) (all : List OpenAnswers) → All (λ c. c.number ≢ x) cs → AreOpen cs all → with_fetched x count all ≡ all
none_fetched x count [] [] none h = refl
none_fetched x count [] (a ∷ all) none h = absurd h
none_fetched x count (c ∷ cs) [] none h = absurd h
none_fetched x count (c ∷ cs) (a ∷ all) none (here, h) =
    let first = All-head (λ (d : OpenCursor). d.number ≢ x) c cs none in
    ap (λ d. d ∷ with_fetched x count all) (cond-false (a.number == x) (record { number = a.number; left = drop count a.left }) a (ne_eqb a.number x (λ e. first (here.number ∙ e))))
    ∙ ap (λ l. a ∷ l) (none_fetched x count cs all (All-tail (λ (d : OpenCursor). d.number ≢ x) c cs none) h)

-- ---- a cursor has the number

-- the cursor at the index has the number
pub record IsAt (x : ℕ) (cs : List OpenCursor) (i : ℕ) (d : OpenCursor) : Type 0 where
  pub within : i < length cs
  pub number : (get_or cs i d).number ≡ x

pairs_head : (n : ℕ) (ns : List ℕ) → AllPairs (λ a b. a ≢ b) (n ∷ ns) → (k : ℕ) (d : ℕ) → k < length ns → n ≢ get_or ns k d
pairs_head n ns h k d l = h 0 (suc k) d (omega arith) (omega (arith, l))

pairs_tail : (n : ℕ) (ns : List ℕ) → AllPairs (λ a b. a ≢ b) (n ∷ ns) → AllPairs (λ a b. a ≢ b) ns
pairs_tail n ns h i j d lt l = h (suc i) (suc j) d (omega (arith, lt)) (omega (arith, l))

number_at : (cs : List OpenCursor) (k : ℕ) (c : OpenCursor) → k < length cs → get_or (map cursor_number cs) k c.number ≡ (get_or cs k c).number
number_at [] k c l = absurd (omega (arith, l))
number_at (d ∷ cs) zero c l = refl
number_at (d ∷ cs) (suc k) c l = number_at cs k c (omega (arith, l))

-- those behind a cursor have other numbers
others_behind : (c : OpenCursor) (cs : List OpenCursor) → AllPairs (λ a b. a ≢ b) (map cursor_number (c ∷ cs)) → All (λ (d : OpenCursor). d.number ≢ c.number) cs
others_behind c cs h k d l e =
    pairs_head c.number (map cursor_number cs) h k d.number (omega (arith, l, length_numbers cs)) (sym (number_at cs k d l ∙ e))

-- the first has another number than one behind it
other_first : (x i : ℕ) (c : OpenCursor) (cs : List OpenCursor) (d : OpenCursor) → AllPairs (λ a b. a ≢ b) (map cursor_number (c ∷ cs)) → IsAt x cs i d → c.number ≢ x
other_first x i c cs d h at e = others_behind c cs h i d at.within (at.number ∙ sym e)

back : (x i : ℕ) (c : OpenCursor) (cs : List OpenCursor) (d : OpenCursor) → IsAt x (c ∷ cs) (suc i) d → IsAt x cs i d
back x i c cs d at = record { within = let l = at.within in omega (arith, l); number = at.number }

-- the answers of the cursor at the index are those that the number finds
record IsLeftAt (x count : ℕ) (cs : List OpenCursor) (i : ℕ) (d new : OpenCursor) (all : List OpenAnswers) : Type 0 where
  left : List Document
  finds : left_of x all ≡ Some left
  are : AreLeft (get_or cs i d).cursor left
  then : AreLeft new.cursor (drop count left) → AreOpen (set cs i new) (with_fetched x count all)

left_at : (x count : ℕ) (cs : List OpenCursor) (i : ℕ) (d new : OpenCursor) (all : List OpenAnswers) → AllPairs (λ a b. a ≢ b) (map cursor_number cs) → IsAt x cs i d
    → new.number ≡ (get_or cs i d).number → AreOpen cs all → IsLeftAt x count cs i d new all
left_at x count [] i d new all pairs at same h = absurd (let l = at.within in omega (arith, l))
left_at x count (c ∷ cs) i d new [] pairs at same h = absurd h
left_at x count (c ∷ cs) zero d new (a ∷ all) pairs at same (here, h) =
    let hit : a.number ≡ x = sym here.number ∙ at.number in
    let none : All (λ (o : OpenCursor). o.number ≢ x) cs = subst (λ n. All (λ (o : OpenCursor). o.number ≢ n) cs) at.number (others_behind c cs pairs) in
    let less : OpenAnswers = record { number = a.number; left = drop count a.left } in
    let moved : fetched x count a ≡ less = cond-true (a.number == x) less a (eq-eqb a.number x hit) in
    record {
      left = a.left;
      finds = cond-true (a.number == x) (Some a.left) (left_of x all) (eq-eqb a.number x hit);
      are = here.left;
      then = λ left.
          subst (AreOpen (new ∷ cs)) (sym (ap (λ b. b ∷ with_fetched x count all) moved ∙ ap (λ l. less ∷ l) (none_fetched x count cs all none h)))
          (record { number = same ∙ here.number; left = left }, h);
    }
left_at x count (c ∷ cs) (suc i) d new (a ∷ all) pairs at same (here, h) =
    let at_rest = back x i c cs d at in
    let other = other_first x i c cs d pairs at_rest in
    let less : OpenAnswers = record { number = a.number; left = drop count a.left } in
    let miss : (a.number == x) ≡ false = ne_eqb a.number x (λ e. other (here.number ∙ e)) in
    let rest = left_at x count cs i d new all (pairs_tail c.number (map cursor_number cs) pairs) at_rest same h in
    record {
      left = rest.left;
      finds = cond-false (a.number == x) (Some a.left) (left_of x all) miss ∙ rest.finds;
      are = rest.are;
      then = λ left. subst (λ b. AreOpen (c ∷ set cs i new) (b ∷ with_fetched x count all)) (sym (cond-false (a.number == x) less a miss)) (here, rest.then left);
    }

-- what a page of a cursor says, in words of documents
abbrev pub IsTold : ℕ → Page → CursorView → CursorView → Type 0
IsTold count page old new = (left : List Document) → AreLeft old left → IsPageOf count left page × AreLeft new (drop count left)

pub fetch_some : (x count : ℕ) (cs : List OpenCursor) (i : ℕ) (d new : OpenCursor) (page : Page) → AllPairs (λ a b. a ≢ b) (map cursor_number cs) → IsAt x cs i d
    → new.number ≡ (get_or cs i d).number → IsTold count page (get_or cs i d).cursor new.cursor → IsFetch x count cs (set cs i new) (Some page)
fetch_some x count cs i d new page pairs at same is = record {
  page = λ all h. let l = left_at x count cs i d new all pairs at same h in subst (λ o. IsFetched count o (Some page)) (sym l.finds) (is l.left l.are).0;
  left = λ all h. let l = left_at x count cs i d new all pairs at same h in l.then (is l.left l.are).1;
  none = λ h. absurd cc;
}

pub fetch_none : (x count : ℕ) (cs : List OpenCursor) → All (λ c. c.number ≢ x) cs → IsFetch x count cs cs None
fetch_none x count cs none = record {
  page = λ all h. subst (λ o. IsFetched count o None) (sym (none_left x cs all none h)) tt;
  left = λ all h. subst (AreOpen cs) (sym (none_fetched x count cs all none h)) h;
  none = λ _. refl;
}

abbrev pub cursor_work : OpenCursor → ℕ
cursor_work c = locations c.cursor.snapshot.cuts + lists c.cursor.snapshot.cuts

pub work_at : (x : ℕ) (cs : List OpenCursor) (i : ℕ) (d : OpenCursor) → AllPairs (λ a b. a ≢ b) (map cursor_number cs) → IsAt x cs i d → work_of x cs ≡ cursor_work (get_or cs i d)
work_at x [] i d pairs at = absurd (let l = at.within in omega (arith, l))
work_at x (c ∷ cs) zero d pairs at = cond-true (c.number == x) (cursor_work c) (work_of x cs) (eq-eqb c.number x at.number)
work_at x (c ∷ cs) (suc i) d pairs at =
    let at_rest = back x i c cs d at in
    cond-false (c.number == x) (cursor_work c) (work_of x cs) (ne_eqb c.number x (other_first x i c cs d pairs at_rest))
    ∙ work_at x cs i d (pairs_tail c.number (map cursor_number cs) pairs) at_rest

-- what is so of the cursor at the index is so of each that has the number
pub all_at : (x : ℕ) (cs : List OpenCursor) (i : ℕ) (d : OpenCursor) (P : OpenCursor → Type 0) → AllPairs (λ a b. a ≢ b) (map cursor_number cs) → IsAt x cs i d
    → P (get_or cs i d) → All (λ (c : OpenCursor). c.number ≡ x → P c) cs
all_at x [] i d P pairs at h = absurd (let l = at.within in omega (arith, l))
all_at x (c ∷ cs) zero d P pairs at h =
    All-cons (λ (o : OpenCursor). o.number ≡ x → P o) c cs (λ _. h) (λ k e l is. absurd (others_behind c cs pairs k e l (is ∙ sym at.number)))
all_at x (c ∷ cs) (suc i) d P pairs at h =
    let at_rest = back x i c cs d at in
    All-cons (λ (o : OpenCursor). o.number ≡ x → P o) c cs (λ is. absurd (other_first x i c cs d pairs at_rest is))
    (all_at x cs i d P (pairs_tail c.number (map cursor_number cs) pairs) at_rest h)

-- whether one has the number
one_more : (b t : Bool) → t ≡ true → (b || t) ≡ true
one_more true t h = refl
one_more false t h = h

pub any_at : (x : ℕ) (cs : List OpenCursor) (i : ℕ) (d : OpenCursor) → IsAt x cs i d → list_any (λ (c : OpenCursor). c.number == x) cs ≡ true
any_at x [] i d at = absurd (let l = at.within in omega (arith, l))
any_at x (c ∷ cs) zero d at = ap (λ (t : Bool). t || list_any (λ (o : OpenCursor). o.number == x) cs) (eq-eqb c.number x at.number)
any_at x (c ∷ cs) (suc i) d at = one_more (c.number == x) _ (any_at x cs i d (back x i c cs d at))

pub any_none : (x : ℕ) (cs : List OpenCursor) → All (λ c. c.number ≢ x) cs → list_any (λ (c : OpenCursor). c.number == x) cs ≡ false
any_none x [] none = refl
any_none x (c ∷ cs) none =
    ap (λ (t : Bool). t || list_any (λ (o : OpenCursor). o.number == x) cs) (ne_eqb c.number x (All-head (λ (d : OpenCursor). d.number ≢ x) c cs none))
    ∙ any_none x cs (All-tail (λ (d : OpenCursor). d.number ≢ x) c cs none)

-- ---- a page

map_take : {X Y : Type 0} (f : X → Y) (n : ℕ) (xs : List X) → map f (take n xs) ≡ take n (map f xs)
map_take f zero xs = refl
map_take f (suc n) [] = refl
map_take f (suc n) (x ∷ xs) = ap (λ l. f x ∷ l) (map_take f n xs)

map_drop : {X Y : Type 0} (f : X → Y) (n : ℕ) (xs : List X) → map f (drop n xs) ≡ drop n (map f xs)
map_drop f zero xs = refl
map_drop f (suc n) [] = refl
map_drop f (suc n) (x ∷ xs) = map_drop f n xs

length_map : {X Y : Type 0} (f : X → Y) (xs : List X) → length (map f xs) ≡ length xs
length_map f [] = refl
length_map f (x ∷ xs) = ap suc (length_map f xs)

-- a page over each space that the snapshot shows is one of the documents that are still to come
pub page_documents : (old new : CursorView) (count : ℕ) (page : Page) (before after : ℕ) (left : List Document)
    → new.plan ≡ old.plan → new.snapshot ≡ old.snapshot
    → ((space : List Placed) → Shows space old.snapshot → IsPage space (tree old.plan) old.snapshot old.from new.from count page before after)
    → AreLeft old left → IsPageOf count left page × AreLeft new (drop count left)
page_documents old new count page before after left plan snapshot is h =
    let p = is h.space h.shows in
    let t = tree old.plan in let v = old.snapshot in
    let some = coming h.space t v old.from in let rest = coming h.space t v new.from in
    let taken : map answer_of (take count some) ≡ map told (take count left) =
    map_take answer_of count some ∙ ap (take count) h.answers ∙ sym (map_take told count left) in
    let dropped : map answer_of rest ≡ map told (drop count left) =
    ap (map answer_of) p.left ∙ map_drop answer_of count some ∙ ap (drop count) h.answers ∙ sym (map_drop told count left) in
    let size : length rest ≡ length (drop count left) =
    sym (length_map answer_of rest) ∙ ap length dropped ∙ length_map told (drop count left) in (
      record {
        answers = p.answers ∙ taken;
        more = (λ yes. let l = p.more.0 yes in omega (arith, l, size), λ l. p.more.1 (omega (arith, l, size)));
      },
      record {
        space = h.space;
        shows = subst (Shows h.space) (sym snapshot) h.shows;
        answers = ap (λ q. map answer_of (coming h.space (tree q) new.snapshot new.from)) plan ∙ ap (λ s. map answer_of (coming h.space t s new.from)) snapshot ∙ dropped;
      },
    )

-- a page over each space that the snapshot shows looks no further than it has to
pub page_lazy : (old new : CursorView) (count : ℕ) (page : Page) (before after : ℕ)
    → ((space : List Placed) → Shows space old.snapshot → IsPage space (tree old.plan) old.snapshot old.from new.from count page before after)
    → AreLazySteps count old page before after
page_lazy old new count page before after is space shows found some =
    let p = is space shows in let cuts = old.snapshot.cuts in
    subst (λ left. after ≤ before + lists cuts + locations_below (first_end left) cuts) p.left (p.lazy found some)

-- ---- the calls

pub any_number : (x : ℕ) (cs : List OpenCursor) → list_any (λ c. c.number == x) cs ≡ is_taken x (map cursor_number cs)
any_number x [] = refl
any_number x (c ∷ cs) = ap (λ b. (c.number == x) || b) (any_number x cs)

pub had_is : (x : ℕ) (held cs : List OpenCursor) (all : List OpenAnswers) (had : Bool) → had ≡ list_any (λ c. c.number == x) held → held ≡ cs → AreOpen cs all
    → IsTrue had ↔ IsSome (left_of x all)
had_is x held cs all had found same h =
    let is : had ≡ is_taken x (map number_of all) =
    found ∙ any_number x held ∙ ap (λ (l : List OpenCursor). is_taken x (map cursor_number l)) same ∙ ap (is_taken x) (same_numbers cs all h) in
    (λ yes. left_taken x all (sym is ∙ yes), λ some. is ∙ taken_left x all some)

pub numbers_kept : (x : ℕ) (cs new : List OpenCursor) → new ≡ filter (λ c. not (c.number == x)) cs → AreNumbers (map cursor_number cs) → AreNumbers (map cursor_number new)
numbers_kept x cs new kept h =
    subst AreNumbers (sym (ap (map cursor_number) kept ∙ numbers_filter x cs))
    (record {
      within = All-filter (λ n. not (n == x)) (λ n. (1 ≤ n) × (n ≤ CURSORS)) (map cursor_number cs) h.within;
      different = AllPairs-filter (λ a b. a ≢ b) (λ n. not (n == x)) (map cursor_number cs) h.different;
    })

pub open_kept : (x : ℕ) (held cs new : List OpenCursor) (all : List OpenAnswers) → new ≡ filter (λ c. not (c.number == x)) held → held ≡ cs → AreOpen cs all
    → AreOpen new (without_cursor x all)
open_kept x held cs new all kept same h =
    subst (λ l. AreOpen l (without_cursor x all)) (sym kept) (open_filter x held all (subst (λ l. AreOpen l all) (sym same) h))

-- what the free number of cursors is
abbrev pub free_in : List OpenCursor → ℕ
free_in cs = first_free (length cs) 1 (map cursor_number cs)

pub free_range : (cs : List OpenCursor) (n : ℕ) → n ≡ free_in cs → length cs < CURSORS → (1 ≤ n) × (n ≤ CURSORS)
free_range cs n is few =
    let ns = map cursor_number cs in
    let same : first_free (length ns) 1 ns ≡ free_in cs = ap (λ k. first_free k 1 ns) (length_numbers cs) in
    let low = free_from_one ns in let high = free_small ns in
    (omega (arith, is, same, low), omega (arith, is, same, high, few, length_numbers cs))

pub numbers_opened : (cs new : List OpenCursor) (c : OpenCursor) → new ≡ cs ++ c ∷ [] → c.number ≡ free_in cs → length cs < CURSORS → AreNumbers (map cursor_number cs)
    → AreNumbers (map cursor_number new)
numbers_opened cs new c pushed is few h =
    let ns = map cursor_number cs in
    let number : first_free (length ns) 1 ns ≡ c.number = ap (λ k. first_free k 1 ns) (length_numbers cs) ∙ sym is in
    subst AreNumbers (sym (ap (map cursor_number) pushed ∙ map_push cursor_number cs c))
    (subst (λ n. AreNumbers (ns ++ n ∷ [])) number (numbers_push ns h (omega (arith, few, length_numbers cs))))

pub opened_is : (cs new : List OpenCursor) (c : OpenCursor) (all : List OpenAnswers) (documents : List Document) → new ≡ cs ++ c ∷ [] → c.number ≡ free_in cs
    → AreOpen cs all → AreLeft c.cursor documents → AreOpen new (with_opened documents all)
opened_is cs new c all documents pushed is h left =
    subst (λ l. AreOpen l (with_opened documents all)) (sym pushed)
    (open_push cs all c (record { number = least_free all; left = documents }) h (record { number = is ∙ same_free cs all h; left = left }))

-- a number that is taken leads on to the next one
pub free_step : (size tried free : ℕ) (held : List OpenCursor) → tried < size → list_any (λ c. c.number == tried + 1) held ≡ true
    → first_free (size - tried) (tried + 1) (map cursor_number held) ≡ free → first_free (size - (tried + 1)) (tried + 1 + 1) (map cursor_number held) ≡ free
free_step size tried free held lt taken h =
    let ns = map cursor_number held in
    let rest = first_free (size - (tried + 1)) (tried + 1 + 1) ns in
    let more : size - tried ≡ suc (size - (tried + 1)) = omega arith in
    sym (cond-true (is_taken (tried + 1) ns) rest (tried + 1) (sym (any_number (tried + 1) held) ∙ taken))
    ∙ ap (λ k. first_free k (tried + 1) ns) (sym more) ∙ h

-- a number that is not taken is the free one
pub free_here : (size tried free : ℕ) (held : List OpenCursor) → tried < size → list_any (λ c. c.number == tried + 1) held ≡ false
    → first_free (size - tried) (tried + 1) (map cursor_number held) ≡ free → tried + 1 ≡ free
free_here size tried free held lt none h =
    let ns = map cursor_number held in
    let rest = first_free (size - (tried + 1)) (tried + 1 + 1) ns in
    let more : size - tried ≡ suc (size - (tried + 1)) = omega arith in
    sym (cond-false (is_taken (tried + 1) ns) rest (tried + 1) (sym (any_number (tried + 1) held) ∙ none))
    ∙ ap (λ k. first_free k (tried + 1) ns) (sym more) ∙ h
