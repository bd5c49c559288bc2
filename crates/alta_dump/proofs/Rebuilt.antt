-- What walks over the lists saw of a document's cells decides whether it has a line, and which.
use Rattle.std.proofs.Common.{◌≡◌, ℕ, zero, suc, ◌+◌, ◌-◌, ◌<◌, ◌≤◌, List, [], ◌∷◌, length, get_or, map, take, drop, Bool, true, false, cond, ltb, Some, None, refl, sym, ap, subst, ◌∙◌, arith, ⊎_elim, length-drop}
use Rattle.std.specs.Prelude.{◌&&◌, not, ◌==◌, nat_le, count_by, position, slice_range, if◌then◌else◌}
use Rattle.std.specs.List.{list_all, join_with_byte, position_or_len}
use Rattle.std.specs.Str.{is_utf8}
use Rattle.std.proofs.lemmas.Bool.{and_parts, and_from, and_left, and_right, cases_lt, eq-eqb, ne_eqb, lt-leb, le-leb, ltb-true, ltb-false, false_from_ne_true, false≢true, not_from_true, not_from_false}
use Rattle.std.proofs.lemmas.List.{length-map, take-map, drop-map}
use Rattle.std.proofs.lemmas.List.Sums.{fails_before_first, passes_at_first, sum_by-cons}
use Rattle.alta_codec.specs.Bytes.{has_byte}
use Rattle.alta_gather.specs.declared.held.Held.{Held}
use Rattle.alta_gather.specs.declared.held.Held.TheVariants.{Never, Once, Often}
use Rattle.alta_machine.specs.Cells.{cells_of}
use Rattle.alta_machine.specs.declared.document.Document.{Document}
use Rattle.alta_machine.specs.declared.kinds.TheConstants.{WORD}
use Rattle.alta_machine.specs.DumpLines.{word_among, word_in, title_text, body_text, cells_again, add_line, are_alike, has_line, line_of}
use Rattle.alta_machine.specs.Plain.{of_kind, rest_of, ends_title, has_one_word, is_plain}
use Rattle.alta_dump.specs.Seen.{is_held, AreFoldings, AreFolded, word_at, is_word, text_seen, IsTitlePlace}
use Rattle.alta_machine.specs.Command.{adds, spelled}
use Rattle.alta_machine.specs.declared.line.TheConstants.{LINE_LIMIT}

and_true : (b : Bool) → (b && true) ≡ b
and_true true = refl
and_true false = refl

-- one word at most, and text
abbrev one_word : List (List ℕ) → Bool
one_word foldings = nat_le (length foldings) 1 && list_all (λ term. is_utf8 (rest_of term)) foldings

one_word_is : (terms : List (List ℕ)) (held : Held) (foldings : List (List ℕ)) → AreFoldings terms held foldings → one_word foldings ≡ is_word terms held
one_word_is terms Never foldings are = ap one_word are
one_word_is terms (Once index) foldings are = ap one_word are.1 ∙ and_true (is_utf8 (rest_of (get_or terms index [])))
one_word_is terms Often foldings are = and_left (nat_le (length foldings) 1) (list_all (λ term. is_utf8 (rest_of term)) foldings) (lt-leb (length foldings) 1 (omega (arith, are)))

pub words_are : (terms : List (List ℕ)) (words : List Held) (cells : List (List (List ℕ))) → AreFolded terms words cells
    → list_all has_one_word cells ≡ list_all (is_word terms) words
words_are terms [] [] are = refl
words_are terms [] (cell ∷ cells) are = absurd are
words_are terms (held ∷ words) [] are = absurd are
words_are terms (held ∷ words) (cell ∷ cells) are = λ i. one_word_is terms held (of_kind WORD cell) are.0 i && words_are terms words cells are.1 i

word_is : (terms : List (List ℕ)) (held : Held) (foldings : List (List ℕ)) → AreFoldings terms held foldings → is_word terms held ≡ true → word_at terms held ≡ word_among foldings
word_is terms Never foldings are fine = ap word_among (sym are)
word_is terms (Once index) foldings are fine = ap word_among (sym are.1)
word_is terms Often foldings are fine = absurd (false≢true fine)

pub words_seen : (terms : List (List ℕ)) (words : List Held) (cells : List (List (List ℕ))) → AreFolded terms words cells → list_all (is_word terms) words ≡ true
    → map (word_at terms) words ≡ map word_in cells
words_seen terms [] [] are fine = refl
words_seen terms [] (cell ∷ cells) are fine = absurd are
words_seen terms (held ∷ words) [] are fine = absurd are
words_seen terms (held ∷ words) (cell ∷ cells) are fine =
    let two = and_parts (is_word terms held) (list_all (is_word terms) words) fine in
    let first : word_at terms held ≡ word_in cell = word_is terms held (of_kind WORD cell) are.0 two.0 in
    let rest : map (word_at terms) words ≡ map word_in cells = words_seen terms words cells are.1 two.1 in
    λ i. first i ∷ rest i

count_cons : {X : Type 0} (p : X → Bool) (x : X) (xs : List X) → count_by p (x ∷ xs) ≡ cond (p x) 1 0 + count_by p xs
count_cons p x xs = sum_by-cons (λ y. cond (p y) 1 0) x xs

-- what two tests that agree place by place find
pub same_count : {X Y : Type 0} (p : X → Bool) (q : Y → Bool) (xs : List X) (ys : List Y) → map p xs ≡ map q ys → count_by p xs ≡ count_by q ys
same_count p q xs ys e = sym (counted p xs) ∙ ap (λ (bs : List Bool). count_by (λ (b : Bool). b) bs) e ∙ counted q ys
  where
    counted : {Z : Type 0} (r : Z → Bool) (zs : List Z) → count_by (λ (b : Bool). b) (map r zs) ≡ count_by r zs
    counted r [] = refl
    counted r (z ∷ zs) = count_cons (λ (b : Bool). b) (r z) (map r zs) ∙ ap (λ (n : ℕ). cond (r z) 1 0 + n) (counted r zs) ∙ sym (count_cons r z zs)

pub same_position : {X Y : Type 0} (p : X → Bool) (q : Y → Bool) (xs : List X) (ys : List Y) → map p xs ≡ map q ys → position_or_len p xs ≡ position_or_len q ys
same_position p q xs ys e = sym (placed p xs) ∙ ap (λ (bs : List Bool). position_or_len (λ (b : Bool). b) bs) e ∙ placed q ys
  where
    placed : {Z : Type 0} (r : Z → Bool) (zs : List Z) → position_or_len (λ (b : Bool). b) (map r zs) ≡ position_or_len r zs
    placed r [] = refl
    placed r (z ∷ zs) = ap (λ n. cond (not (r z)) (1 + n) 0) (placed r zs)

-- ---- where the title ends

no_step : (b : Bool) (n pos count : ℕ) → suc n ≤ cond (not b) (1 + pos) 0 → (n ≤ pos → count ≡ 0) → cond b 1 0 + count ≡ 0
no_step true n pos count past rest = absurd (omega (arith, past))
no_step false n pos count past rest = omega (arith, rest (omega (arith, past)))

-- nothing passes where the first place is past the end
pub none_counted : {X : Type 0} (p : X → Bool) (xs : List X) → length xs ≤ position_or_len p xs → count_by p xs ≡ 0
none_counted p [] past = refl
none_counted p (x ∷ xs) past = count_cons p x xs ∙ no_step (p x) (length xs) (position_or_len p xs) (count_by p xs) past (none_counted p xs)

one_counted : {X : Type 0} (p : X → Bool) (xs : List X) (i : ℕ) (d : X) → i < length xs → p (get_or xs i d) ≡ true → 1 ≤ count_by p xs
one_counted p [] i d lt passes = absurd (omega (arith, lt))
one_counted p (x ∷ xs) zero d lt passes =
    let here : 1 ≤ cond (p x) 1 0 + count_by p xs = subst (λ (b : Bool). 1 ≤ cond b 1 0 + count_by p xs) (sym passes) (omega arith) in
    omega (arith, count_cons p x xs, here)
one_counted p (x ∷ xs) (suc i) d lt passes = omega (arith, count_cons p x xs, one_counted p xs i d (omega (arith, lt)) passes)

-- two places that pass
pub two_counted : {X : Type 0} (p : X → Bool) (xs : List X) (i j : ℕ) (d : X) → i < j → j < length xs → p (get_or xs i d) ≡ true → p (get_or xs j d) ≡ true → 2 ≤ count_by p xs
two_counted p [] i j d low lt first second = absurd (omega (arith, lt))
two_counted p (x ∷ xs) i zero d low lt first second = absurd (omega (arith, low))
two_counted p (x ∷ xs) zero (suc j) d low lt first second =
    let more : 1 ≤ count_by p xs = one_counted p xs j d (omega (arith, lt)) second in
    let here : 2 ≤ cond (p x) 1 0 + count_by p xs = subst (λ (b : Bool). 2 ≤ cond b 1 0 + count_by p xs) (sym first) (omega (arith, more)) in
    omega (arith, count_cons p x xs, here)
two_counted p (x ∷ xs) (suc i) (suc j) d low lt first second = omega (arith, count_cons p x xs, two_counted p xs i j d (omega (arith, low)) (omega (arith, lt)) first second)

-- ---- plain documents

not_plain_words : (cells : List (List (List ℕ))) → list_all has_one_word cells ≡ false → is_plain cells ≡ false
unfolding is_plain
not_plain_words cells h =
    and_right (count_by ends_title cells == 1) _ (and_right (not (ends_title (get_or cells 0 []))) _ (and_right (not (ends_title (get_or cells (length cells - 1) []))) (list_all has_one_word cells) h))

not_plain_count : (cells : List (List (List ℕ))) → (count_by ends_title cells ≡ 1 → ⊥) → is_plain cells ≡ false
unfolding is_plain
not_plain_count cells h = and_left (count_by ends_title cells == 1) _ (ne_eqb (count_by ends_title cells) 1 h)

not_plain_first : (cells : List (List (List ℕ))) → ends_title (get_or cells 0 []) ≡ true → is_plain cells ≡ false
unfolding is_plain
not_plain_first cells h = and_right (count_by ends_title cells == 1) _ (and_left (not (ends_title (get_or cells 0 []))) _ (not_from_true _ h))

not_plain_last : (cells : List (List (List ℕ))) → ends_title (get_or cells (length cells - 1) []) ≡ true → is_plain cells ≡ false
unfolding is_plain
not_plain_last cells h =
    and_right (count_by ends_title cells == 1) _ (and_right (not (ends_title (get_or cells 0 []))) _ (and_left (not (ends_title (get_or cells (length cells - 1) []))) (list_all has_one_word cells) (not_from_true _ h)))

is_plain_by : (cells : List (List (List ℕ))) → count_by ends_title cells ≡ 1 → ends_title (get_or cells 0 []) ≡ false → ends_title (get_or cells (length cells - 1) []) ≡ false
    → list_all has_one_word cells ≡ true → is_plain cells ≡ true
unfolding is_plain
is_plain_by cells one first last words =
    and_from (count_by ends_title cells == 1) _ (eq-eqb (count_by ends_title cells) 1 one)
    (and_from (not (ends_title (get_or cells 0 []))) _ (not_from_false _ first)
    (and_from (not (ends_title (get_or cells (length cells - 1) []))) (list_all has_one_word cells) (not_from_false _ last) words))

-- ---- the place that was found

place_step : (b : Bool) (n m place : ℕ) → ltb n m ≡ b → cond b (Some n) None ≡ Some place → (n ≡ place) × (n < m)
place_step true n m place lt e = (cc e, ltb-true n m lt)
place_step false n m place lt e = absurd (cc e)

place_is : {X : Type 0} (p : X → Bool) (xs : List X) (place : ℕ) → position p xs ≡ Some place → (position_or_len p xs ≡ place) × (position_or_len p xs < length xs)
place_is p xs place e = place_step (ltb (position_or_len p xs) (length xs)) (position_or_len p xs) (length xs) place refl e

no_place_step : (b : Bool) (n m : ℕ) → ltb n m ≡ b → cond b (Some n) None ≡ None → m ≤ n
no_place_step true n m lt e = absurd (cc e)
no_place_step false n m lt e = ltb-false n m lt

no_place : {X : Type 0} (p : X → Bool) (xs : List X) → position p xs ≡ None → length xs ≤ position_or_len p xs
no_place p xs e = no_place_step (ltb (position_or_len p xs) (length xs)) (position_or_len p xs) (length xs) refl e

same_length : {X Y B : Type 0} (p : X → B) (q : Y → B) (xs : List X) (ys : List Y) → map p xs ≡ map q ys → length xs ≡ length ys
same_length p q xs ys e = sym (length-map xs p) ∙ ap length e ∙ length-map ys q

-- what was seen of a document: its folded words, and where titles end
pub record IsLaidOut (terms : List (List ℕ)) (words titles : List Held) (cells : List (List (List ℕ))) : Type 0 where
  pub folded : AreFolded terms words cells
  pub title_ends : map is_held titles ≡ map ends_title cells

pub unseen_words : (terms : List (List ℕ)) (words titles : List Held) (cells : List (List (List ℕ))) → IsLaidOut terms words titles cells
    → list_all (is_word terms) words ≡ false → is_plain cells ≡ false
unseen_words terms words titles cells laid h = not_plain_words cells (words_are terms words cells laid.folded ∙ h)

pub unseen_count : (terms : List (List ℕ)) (words titles : List Held) (cells : List (List (List ℕ))) → IsLaidOut terms words titles cells
    → (count_by is_held titles ≡ 1 → ⊥) → is_plain cells ≡ false
unseen_count terms words titles cells laid h = not_plain_count cells (λ e. h (same_count is_held ends_title titles cells laid.title_ends ∙ e))

pub unseen_place : (terms : List (List ℕ)) (words titles : List Held) (cells : List (List (List ℕ))) → IsLaidOut terms words titles cells
    → position is_held titles ≡ None → is_plain cells ≡ false
unseen_place terms words titles cells laid e =
    unseen_count terms words titles cells laid (λ one. let none : count_by is_held titles ≡ 0 = none_counted is_held titles (no_place is_held titles e) in omega arith)

-- the same place among the cells
place_among : (terms : List (List ℕ)) (words titles : List Held) (cells : List (List (List ℕ))) (place : ℕ) → IsLaidOut terms words titles cells
    → position is_held titles ≡ Some place → (position_or_len ends_title cells ≡ place) × (place < length cells) × (ends_title (get_or cells place []) ≡ true)
place_among terms words titles cells place laid e =
    let found = place_is is_held titles place e in
    let here : position_or_len ends_title cells ≡ place = sym (same_position is_held ends_title titles cells laid.title_ends) ∙ found.0 in
    let long : length titles ≡ length cells = same_length is_held ends_title titles cells laid.title_ends in
    let within : position_or_len ends_title cells < length cells = omega (arith, found.0, found.1, here, long) in
    (here, omega (arith, here, within), subst (λ (n : ℕ). ends_title (get_or cells n []) ≡ true) here (passes_at_first ends_title cells [] within))

pub unseen_first : (terms : List (List ℕ)) (words titles : List Held) (cells : List (List (List ℕ))) (place : ℕ) → IsLaidOut terms words titles cells
    → position is_held titles ≡ Some place → place ≡ 0 → is_plain cells ≡ false
unseen_first terms words titles cells place laid e zero_is =
    not_plain_first cells (subst (λ (n : ℕ). ends_title (get_or cells n []) ≡ true) zero_is (place_among terms words titles cells place laid e).2)

pub unseen_last : (terms : List (List ℕ)) (words titles : List Held) (cells : List (List (List ℕ))) (place : ℕ) → IsLaidOut terms words titles cells
    → position is_held titles ≡ Some place → length titles - place ≡ 1 → is_plain cells ≡ false
unseen_last terms words titles cells place laid e last_is =
    let among = place_among terms words titles cells place laid e in
    let long : length titles ≡ length cells = same_length is_held ends_title titles cells laid.title_ends in
    let last : place ≡ length cells - 1 = omega (arith, long, last_is, among.1) in
    not_plain_last cells (subst (λ (n : ℕ). ends_title (get_or cells n []) ≡ true) last among.2)

pub seen_plain : (terms : List (List ℕ)) (words titles : List Held) (cells : List (List (List ℕ))) (place : ℕ) → IsLaidOut terms words titles cells
    → list_all (is_word terms) words ≡ true → count_by is_held titles ≡ 1 → position is_held titles ≡ Some place → 0 < place → (length titles - place ≡ 1 → ⊥)
    → (is_plain cells ≡ true) × IsTitlePlace place cells
seen_plain terms words titles cells place laid fine one e some more =
    let among = place_among terms words titles cells place laid e in
    let long : length titles ≡ length cells = same_length is_held ends_title titles cells laid.title_ends in
    let count : count_by ends_title cells ≡ 1 = sym (same_count is_held ends_title titles cells laid.title_ends) ∙ one in
    let before : place < length cells - 1 = last_behind (length titles) (length cells) place long among.1 more in
    let first : ends_title (get_or cells 0 []) ≡ false = fails_before_first ends_title cells 0 [] (omega (arith, among.0, some)) in
    let last : ends_title (get_or cells (length cells - 1) []) ≡ false =
    false_from_ne_true _ (λ is. let two : 2 ≤ count_by ends_title cells = two_counted ends_title cells place (length cells - 1) [] before (omega (arith, before)) among.2 is in omega (arith, two, count)) in
    (is_plain_by cells count first last (words_are terms words cells laid.folded ∙ fine), record { position = among.0; behind_first = some; before_last = omega (arith, before) })
  where
    last_behind : (n m place : ℕ) → n ≡ m → place < m → (n - place ≡ 1 → ⊥) → place < m - 1
    last_behind n m place e lt more = ⊎_elim (λ is. is) (λ not_less. absurd (more (omega (arith, not_less, lt, e)))) (cases_lt place (m - 1))

-- ---- the texts

all_drop : {X : Type 0} (p : X → Bool) (n : ℕ) (xs : List X) → list_all p xs ≡ true → list_all p (drop n xs) ≡ true
all_drop p zero xs h = h
all_drop p (suc n) [] h = refl
all_drop p (suc n) (x ∷ xs) h = all_drop p n xs (and_parts (p x) (list_all p xs) h).1

all_take : {X : Type 0} (p : X → Bool) (n : ℕ) (xs : List X) → list_all p xs ≡ true → list_all p (take n xs) ≡ true
all_take p zero xs h = refl
all_take p (suc n) [] h = refl
all_take p (suc n) (x ∷ xs) h = let two = and_parts (p x) (list_all p xs) h in and_from (p x) (list_all p (take n xs)) two.0 (all_take p n xs two.1)

pub all_within : {X : Type 0} (p : X → Bool) (a b : ℕ) (xs : List X) → list_all p xs ≡ true → list_all p (slice_range xs a b) ≡ true
all_within p a b xs h = all_take p (b - a) (drop a xs) (all_drop p a xs h)

-- the words of some of the cells
within_seen : (terms : List (List ℕ)) (words : List Held) (cells : List (List (List ℕ))) (n m : ℕ) → map (word_at terms) words ≡ map word_in cells
    → map (word_at terms) (take n (drop m words)) ≡ map word_in (take n (drop m cells))
within_seen terms words cells n m e =
    sym (take-map (word_at terms) n (drop m words)) ∙ ap (take n) (sym (drop-map (word_at terms) m words)) ∙ ap (λ (l : List (List ℕ)). take n (drop m l)) e
    ∙ ap (take n) (drop-map word_in m cells) ∙ take-map word_in n (drop m cells)

title_step : (b : Bool) (n place : ℕ) → cond (not b) (1 + n) 0 ≡ place → 0 < place → n ≡ place - 1
title_step true n place e some = absurd (omega (arith, e))
title_step false n place e some = omega (arith, e)

title_behind : (cells : List (List (List ℕ))) (place : ℕ) → IsTitlePlace place cells → position_or_len ends_title (drop 1 cells) ≡ place - 1
title_behind [] place is = absurd (omega (arith, is.before_last))
title_behind (cell ∷ cells) place is = title_step (ends_title cell) (position_or_len ends_title cells) place is.position is.behind_first

pub title_seen : (terms : List (List ℕ)) (words titles : List Held) (cells : List (List (List ℕ))) (place : ℕ) → IsLaidOut terms words titles cells
    → list_all (is_word terms) words ≡ true → IsTitlePlace place cells → text_seen terms (slice_range words 1 place) ≡ title_text cells
unfolding title_text
title_seen terms words titles cells place laid fine is =
    ap (join_with_byte 32) (within_seen terms words cells (place - 1) 1 (words_seen terms words cells laid.folded fine))
    ∙ ap (λ (n : ℕ). join_with_byte 32 (map word_in (take n (drop 1 cells)))) (sym (title_behind cells place is))

pub body_seen : (terms : List (List ℕ)) (words titles : List Held) (cells : List (List (List ℕ))) (place : ℕ) → IsLaidOut terms words titles cells
    → list_all (is_word terms) words ≡ true → IsTitlePlace place cells → text_seen terms (slice_range words (place + 1) (length words - 1)) ≡ body_text cells
unfolding body_text
body_seen terms words titles cells place laid fine is =
    let long : length words ≡ length cells = same_length (word_at terms) word_in words cells (words_seen terms words cells laid.folded fine) in
    let count : length words - 1 - (place + 1) ≡ length (drop (place + 1) cells) - 1 = omega (arith, long, length-drop (place + 1) cells) in
    ap (join_with_byte 32) (within_seen terms words cells (length words - 1 - (place + 1)) (place + 1) (words_seen terms words cells laid.folded fine))
    ∙ ap (λ (n : ℕ). join_with_byte 32 (map word_in (take n (drop (place + 1) cells)))) count
    ∙ ap (λ (n : ℕ). join_with_byte 32 (map word_in (let behind = drop (n + 1) cells in take (length behind - 1) behind))) (sym is.position)

-- ---- the line

no_line : (d : Document) (b : Bool) → has_line d ≡ b → b ≡ false → None ≡ line_of d
unfolding line_of
no_line d b e f = ap (λ (c : Bool). if c then Some (add_line d) else None) (sym f ∙ sym e)

pub none_plain : (d : Document) → is_plain d.cells ≡ false → None ≡ line_of d
unfolding has_line
none_plain d h = no_line d (has_line d) refl (and_left (is_plain d.cells) _ h)

pub none_tab : (d : Document) → has_byte 9 (title_text d.cells) ≡ true → None ≡ line_of d
unfolding has_line
none_tab d h =
    no_line d (has_line d) refl
    (and_right (is_plain d.cells) _ (and_right (are_alike (cells_again d) d.cells) _ (and_left (not (has_byte 9 (title_text d.cells))) (nat_le (length (add_line d)) LINE_LIMIT) (not_from_true _ h))))

pub none_alike : (d : Document) → are_alike (cells_again d) d.cells ≡ false → None ≡ line_of d
unfolding has_line
none_alike d h = no_line d (has_line d) refl (and_right (is_plain d.cells) _ (and_left (are_alike (cells_again d) d.cells) _ h))

pub none_long : (d : Document) → LINE_LIMIT < length (add_line d) → None ≡ line_of d
unfolding has_line
none_long d h =
    no_line d (has_line d) refl
    (and_right (is_plain d.cells) _ (and_right (are_alike (cells_again d) d.cells) _ (and_right (not (has_byte 9 (title_text d.cells))) (nat_le (length (add_line d)) LINE_LIMIT) (lt-leb (length (add_line d)) LINE_LIMIT h))))

pub some_line : (d : Document) → is_plain d.cells ≡ true → are_alike (cells_again d) d.cells ≡ true → has_byte 9 (title_text d.cells) ≡ false → length (add_line d) ≤ LINE_LIMIT
    → Some (add_line d) ≡ line_of d
unfolding has_line line_of
some_line d plain alike field short =
    ap (λ (c : Bool). if c then Some (add_line d) else None)
    (sym (and_from (is_plain d.cells) _ plain (and_from (are_alike (cells_again d) d.cells) _ alike (and_from (not (has_byte 9 (title_text d.cells))) _ (not_from_false _ field) (le-leb (length (add_line d)) LINE_LIMIT short)))))

-- ---- a plain document

pub fine_words : (terms : List (List ℕ)) (words : List Held) (cells : List (List (List ℕ))) → AreFolded terms words cells → is_plain cells ≡ true → list_all (is_word terms) words ≡ true
unfolding is_plain
fine_words terms words cells folded plain =
    let behind_count = and_parts (count_by ends_title cells == 1) _ plain in
    let behind_first = and_parts (not (ends_title (get_or cells 0 []))) _ behind_count.1 in
    let behind_last = and_parts (not (ends_title (get_or cells (length cells - 1) []))) (list_all has_one_word cells) behind_first.1 in
    sym (words_are terms words cells folded) ∙ behind_last.1

module _ (d : Document) (name title body : List ℕ) (n : d.name ≡ name) (t : title ≡ title_text d.cells) (b : body ≡ body_text d.cells) where
  pub again_is : cells_of name title body ≡ cells_again d
  again_is =
      ap (λ (x : List ℕ). cells_of x title body) (sym n) ∙ ap (λ (x : List ℕ). cells_of d.name x body) t ∙ ap (cells_of d.name (title_text d.cells)) b

  pub line_is : spelled (adds name title body) ≡ add_line d
  unfolding add_line
  line_is =
      ap (λ (x : List ℕ). spelled (adds x title body)) (sym n) ∙ ap (λ (x : List ℕ). spelled (adds d.name x body)) t ∙ ap (λ (x : List ℕ). spelled (adds d.name (title_text d.cells) x)) b

  pub line_short : (line : List ℕ) → line ≡ spelled (adds name title body) → length line ≡ length (add_line d)
  line_short line is = ap length (is ∙ line_is)
