-- Laws of lines that are answered by their index, and of the lines of a generated run.
use Rattle.std.proofs.Common.{◌≡◌, ◌≢◌, ℕ, zero, suc, ◌+◌, ◌%◌, ◌<◌, ◌≤◌, ◌==◌, Bool, true, false, not, ◌&&◌, if◌then◌else◌, nat_le, List, [], ◌∷◌, ◌++◌, Option, Some, None, length, take, drop, codes, get_or, refl, ap, sym, subst, ◌∙◌, arith}
use Rattle.std.specs.Prelude.{slice_get, decimal, slice_index, IfSome, IfNone}
use Rattle.std.specs.Char.{is_ascii_digit}
use Rattle.std.specs.List.{All, list_all}
use Rattle.std.proofs.lemmas.Bool.{leb-true, le-leb}
use Rattle.std.proofs.lemmas.Bool.Decides.{nat_tests}
use Rattle.std.proofs.lemmas.Fmt.{decimal_digit, length-decimal-le}
use Rattle.std.proofs.lemmas.List.{take_all, take-append-drop, length-append}
use Rattle.std.proofs.lemmas.List.Elements.{All-append, All-cons, All-head, All-nil, All-tail}
use Rattle.alta_codec.specs.Decimal.{value_of, is_count, count_in}
use Rattle.alta_codec.specs.Bytes.{Lacks}
use Rattle.alta_console.specs.declared.event.Event.{Event}
use Rattle.alta_disk.specs.Disk.{DiskState, IsLawful}
use Rattle.alta_make.specs.Script.{parity, add_with, add_line, delete_line, behind, adds, deletes, script, report}
use Rattle.alta_make.proofs.Lines.{none-past, length-adds, length-deletes}
use Rattle.alta_machine.specs.Command.{IsCount}
use Rattle.alta_machine.specs.Reading.{count_of}
use Rattle.alta_model.proofs.Counts.{both, chosen, none_is_not, count_reads, count_spelled, counted_digits}
use Rattle.alta_session.specs.Demo.{AsksDemo}
use Rattle.alta_session.specs.Fed.{Fed}
use Rattle.alta_session.specs.Progress.{StopsWithin}
use Rattle.alta_session.specs.declared.session.Session.{Session}
use Rattle.alta_session.specs.declared.status.Status.{Status}
use Rattle.alta_session.specs.declared.status.Status.TheVariants.{Full, Damaged}
use Rattle.alta_session.proofs.FedLaws.{fed_on, stops_on, stops_more, stops_none}
use Rattle.alta_session.proofs.KeepingLaws.{free_append}

-- ---- lines by their index

taken_next : (lines : List (List ℕ)) (i : ℕ) (line : List ℕ) → slice_get lines i ≡ Some line → take (i + 1) lines ≡ take i lines ++ line ∷ []
taken_next [] i line at = absurd (none_is_not line at)
taken_next (x ∷ xs) zero line at = let same : x ≡ line = cc in ap (λ (l : List ℕ). l ∷ []) same
taken_next (x ∷ xs) (suc i) line at = let n : suc i + 1 ≡ suc (i + 1) = omega arith in ap (λ (m : ℕ). take m (x ∷ xs)) n ∙ ap (λ (l : List (List ℕ)). x ∷ l) (taken_next xs i line at)

pub fed_next : (tells : Type 0) (a b c : Option (List Event)) (d e f : DiskState) (s0 s1 s2 : Session) (lines : List (List ℕ)) (i : ℕ) (line : List ℕ) → slice_get lines i ≡ Some line → Fed tells a b d e s0 s1 (take i lines) → Fed tells b c e f s1 s2 (line ∷ []) → Fed tells a c d f s0 s2 (take (i + 1) lines)
fed_next tells a b c d e f s0 s1 s2 lines i line at first next =
    subst (λ (l : List (List ℕ)). Fed tells a c d f s0 s2 l) (sym (taken_next lines i line at)) (fed_on tells a b c d e f s0 s1 s2 (take i lines) (line ∷ []) first next)

pub fed_all : (tells : Type 0) (a b : Option (List Event)) (d e : DiskState) (s0 s1 : Session) (lines : List (List ℕ)) (i : ℕ) → slice_get lines i ≡ None → Fed tells a b d e s0 s1 (take i lines) → Fed tells a b d e s0 s1 lines
fed_all tells a b d e s0 s1 lines i past fed = subst (λ (l : List (List ℕ)). Fed tells a b d e s0 s1 l) (take_all i lines (none-past lines i past)) fed

-- it stopped at this line
pub stops_next : (tells : Type 0) (a b c : Option (List Event)) (d e f : DiskState) (s0 s1 : Session) (lines : List (List ℕ)) (i : ℕ) (line : List ℕ) (status : Status) → slice_get lines i ≡ Some line → Fed tells a b d e s0 s1 (take i lines) → StopsWithin tells b c e f s1 (line ∷ []) status → StopsWithin tells a c d f s0 lines status
stops_next tells a b c d e f s0 s1 lines i line status at first stops =
    let here : StopsWithin tells a c d f s0 (take (i + 1) lines) status = subst (λ (l : List (List ℕ)). StopsWithin tells a c d f s0 l status) (sym (taken_next lines i line at)) (stops_on tells a b c d e f s0 s1 (take i lines) (line ∷ []) status first stops) in
    subst (λ (l : List (List ℕ)). StopsWithin tells a c d f s0 l status) (take-append-drop (i + 1) lines) (stops_more tells a c d f s0 (take (i + 1) lines) (drop (i + 1) lines) status here)

-- it stopped before the next line
pub stops_before : (tells : Type 0) (a b : Option (List Event)) (d e : DiskState) (s0 s1 : Session) (lines : List (List ℕ)) (i : ℕ) (status : Status) → IsLawful tells e → ((need gap : ℕ) → status ≡ Full need gap → ⊥) → ((place : ℕ) → status ≡ Damaged place → ⊥)
    → Fed tells a b d e s0 s1 (take i lines) → StopsWithin tells a b d e s0 lines status
stops_before tells a b d e s0 s1 lines i status lawful not_full whole first =
    subst (λ (l : List (List ℕ)). StopsWithin tells a b d e s0 l status) (take-append-drop i lines) (stops_on tells a b b d e e s0 s1 (take i lines) (drop i lines) status first (stops_none tells b e s1 (drop i lines) status lawful not_full whole))

-- ---- no line has a newline

free_at : (lines : List (List ℕ)) (i : ℕ) (line : List ℕ) → All (Lacks 10) lines → slice_get lines i ≡ Some line → Lacks 10 line
free_at [] i line free at = absurd (none_is_not line at)
free_at (x ∷ xs) zero line free at = let same : x ≡ line = cc in subst (Lacks 10) same (All-head (Lacks 10) x xs free)
free_at (x ∷ xs) (suc i) line free at = free_at xs i line (All-tail (Lacks 10) x xs free) at

all_where : (b : Bool) (xs ys : List (List ℕ)) → All (Lacks 10) xs → All (Lacks 10) ys → All (Lacks 10) (if b then xs else ys)
all_where true xs ys one two = one
all_where false xs ys one two = two

free_where : (b : Bool) (xs ys : List ℕ) → Lacks 10 xs → Lacks 10 ys → Lacks 10 (if b then xs else ys)
free_where true xs ys one two = one
free_where false xs ys one two = two

-- not a newline
abbrev IsOther : ℕ → Type 0
IsOther byte = byte ≢ 10

-- a test that computes
lacks : List ℕ → Bool
lacks bytes = list_all (λ b. not (b == 10)) bytes

not_ten : (x : ℕ) → not (x == 10) ≡ true → x ≡ 10 → ⊥
not_ten x test is = grind (arith, nat_tests)

free_by : (bytes : List ℕ) → lacks bytes ≡ true → Lacks 10 bytes
unfolding lacks
free_by [] test = All-nil IsOther
free_by (x ∷ xs) test = let parts = both (not (x == 10)) (lacks xs) test in All-cons IsOther x xs (not_ten x parts.0) (free_by xs parts.1)

lines_by : (lines : List (List ℕ)) → list_all lacks lines ≡ true → All (Lacks 10) lines
lines_by [] test = All-nil (Lacks 10)
lines_by (x ∷ xs) test = let parts = both (lacks x) (list_all lacks xs) test in All-cons (Lacks 10) x xs (free_by x parts.0) (lines_by xs parts.1)

digit_free : (x : ℕ) → is_ascii_digit x ≡ true → x ≡ 10 → ⊥
digit_free x digit is = grind (arith, nat_tests)

digits_free : (digits : List ℕ) → list_all is_ascii_digit digits ≡ true → Lacks 10 digits
digits_free [] all = All-nil IsOther
digits_free (x ∷ xs) all = let parts = both (is_ascii_digit x) (list_all is_ascii_digit xs) all in All-cons IsOther x xs (digit_free x parts.0) (digits_free xs parts.1)

number_free : (n : ℕ) → n ≤ 1000000 → Lacks 10 (decimal n)
number_free zero most = subst (Lacks 10) (sym (decimal_digit 0 (omega arith))) (All-cons IsOther _ [] (λ is. omega arith) (All-nil IsOther))
number_free (suc n) most = digits_free (decimal (suc n)) (counted_digits (suc n) (omega (arith, most)))

-- parts, one behind the other
record IsFree (bytes : List ℕ) : Type 0 where
  free : Lacks 10 bytes

free_then : {xs ys : List ℕ} → IsFree xs → IsFree ys → IsFree (xs ++ ys)
free_then {xs} {ys} one two = record { free = free_append xs ys one.free two.free }

literal : (bytes : List ℕ) → lacks bytes ≡ true → IsFree bytes
literal bytes test = record { free = free_by bytes test }

number : (n : ℕ) → n ≤ 1000000 → IsFree (decimal n)
number n most = record { free = number_free n most }

add_free : (i : ℕ) (word : List ℕ) → i ≤ 1000000 → Lacks 10 word → Lacks 10 (add_with i word)
unfolding lacks
add_free i word most free =
    let named = free_then (literal (codes "add d") refl) (number i most) in
    let titled = free_then (free_then named (literal (codes "\titem ") refl)) (number i most) in
    let first = free_then (free_then titled (literal (codes "\tw") refl)) (number (i % 10) (omega arith)) in
    let second = free_then (free_then first (literal (codes " w") refl)) (number (i % 100) (omega arith)) in
    let last : IsFree word = record { free = free } in
    (free_then (free_then second (literal (codes " ") refl)) last).free

delete_free : (i : ℕ) → i ≤ 1000000 → Lacks 10 (delete_line i)
unfolding lacks
delete_free i most = free_append (codes "delete d") (decimal i) (free_by (codes "delete d") refl) (number_free i most)

parity_free : (i : ℕ) → Lacks 10 (parity i)
unfolding lacks
parity_free i = free_where (i % 2 == 0) (codes "even") (codes "odd") (free_by (codes "even") refl) (free_by (codes "odd") refl)

behind_free : (i : ℕ) → All (Lacks 10) (behind i)
unfolding lacks
behind_free i = all_where (i % 100 == 0) (codes "flush" ∷ codes "step 50" ∷ []) [] (lines_by (codes "flush" ∷ codes "step 50" ∷ []) refl) (All-nil (Lacks 10))

adds_free : (n : ℕ) → n ≤ 1000000 → All (Lacks 10) (adds n)
unfolding adds
adds_free zero most = All-nil (Lacks 10)
adds_free (suc i) most =
    let added = add_free (suc i) (parity (suc i)) most (parity_free (suc i)) in
    All-append (Lacks 10) (adds i) (add_line (suc i) ∷ behind (suc i)) (adds_free i (omega arith)) (All-cons (Lacks 10) (add_line (suc i)) (behind (suc i)) added (behind_free (suc i)))

deletes_free : (n : ℕ) → n ≤ 1000000 → All (Lacks 10) (deletes n)
unfolding deletes
deletes_free zero most = All-nil (Lacks 10)
deletes_free (suc i) most =
    let deleted = All-cons (Lacks 10) (delete_line (suc i)) [] (delete_free (suc i) most) (All-nil (Lacks 10)) in
    All-append (Lacks 10) (deletes i) (if suc i % 5 == 0 then delete_line (suc i) ∷ [] else []) (deletes_free i (omega arith)) (all_where (suc i % 5 == 0) (delete_line (suc i) ∷ []) [] deleted (All-nil (Lacks 10)))

script_free : (n : ℕ) → n ≤ 100000 → All (Lacks 10) (script n)
unfolding lacks
script_free n most =
    let behind_adds = All-append (Lacks 10) (deletes n) (codes "merge" ∷ []) (deletes_free n (omega arith)) (lines_by (codes "merge" ∷ []) refl) in
    All-append (Lacks 10) (adds n) (deletes n ++ codes "merge" ∷ []) (adds_free n (omega arith)) behind_adds

report_free : All (Lacks 10) report
unfolding lacks
report_free = lines_by report refl

pub script_line_free : (n i : ℕ) (line : List ℕ) → n ≤ 100000 → slice_get (script n) i ≡ Some line → Lacks 10 line
script_line_free n i line most at = free_at (script n) i line (script_free n most) at

pub report_line_free : (i : ℕ) (line : List ℕ) → slice_get report i ≡ Some line → Lacks 10 line
report_line_free i line at = free_at report i line report_free at

-- a script is short
pub script_short : (n : ℕ) → n ≤ 100000 → length (script n) < 1000000
script_short n most = omega (arith, length-append (adds n) (deletes n ++ codes "merge" ∷ []), length-append (deletes n) (codes "merge" ∷ []), length-adds n, length-deletes n)

-- ---- how many documents

five : (a b c d e : Bool) → a ≡ true → b ≡ true → c ≡ true → d ≡ true → e ≡ true → (a && b && c && d && e) ≡ true
five a b c d e p q r s t = rw (p, q, r, s, t) refl

five_parts : (a b c d e : Bool) → (a && b && c && d && e) ≡ true → (a ≡ true) × (b ≡ true) × (c ≡ true) × (d ≡ true) × (e ≡ true)
five_parts a b c d e h =
    let p = both (a && b && c && d) e h in
    let q = both (a && b && c) d p.0 in
    let r = both (a && b) c q.0 in
    let s = both a b r.0 in
    (s.0, s.1, r.1, q.1, p.1)

chosen_where : (b : Bool) (x y : Option ℕ) → b ≡ true → (if b then x else y) ≡ x
chosen_where true x y is = refl
chosen_where false x y is = absurd cc

-- a count with less digits, and up to a lower limit
lower_count : (digits : List ℕ) → is_count 7 1000000 digits ≡ true → length digits ≤ 6 → value_of digits ≤ 100000 → is_count 6 100000 digits ≡ true
lower_count digits is short low =
    let parts = five_parts (nat_le 1 (length digits)) (nat_le (length digits) 7) (list_all is_ascii_digit digits) (not (slice_index digits 0 == 48)) (nat_le (value_of digits) 1000000) is in
    five _ _ _ _ _ parts.0 (le-leb (length digits) 6 short) parts.2 parts.3 (le-leb (value_of digits) 100000 low)

higher_count : (digits : List ℕ) → is_count 6 100000 digits ≡ true → is_count 7 1000000 digits ≡ true
higher_count digits is =
    let parts = five_parts (nat_le 1 (length digits)) (nat_le (length digits) 6) (list_all is_ascii_digit digits) (not (slice_index digits 0 == 48)) (nat_le (value_of digits) 100000) is in
    let short : length digits ≤ 6 = leb-true (length digits) 6 parts.1 in
    let low : value_of digits ≤ 100000 = leb-true (value_of digits) 100000 parts.4 in
    five _ _ _ _ _ parts.0 (le-leb (length digits) 7 (omega arith)) parts.2 parts.3 (le-leb (value_of digits) 1000000 (omega arith))

-- the spelling of a number up to 100,000 is read
pub size_reads : (n : ℕ) → 1 ≤ n → n ≤ 100000 → count_in 6 100000 (decimal n) ≡ Some n
unfolding count_of count_in
size_reads n some most =
    let fine : IsCount n = (some, omega arith) in
    let k = chosen (is_count 7 1000000 (decimal n)) (value_of (decimal n)) n (count_reads n fine) in
    let lower : is_count 6 100000 (decimal n) ≡ true = lower_count (decimal n) k.0 (length-decimal-le 6 n (omega arith) (omega arith) (omega arith)) (omega (arith, k.1)) in
    chosen_where _ _ _ lower ∙ ap Some k.1

-- and nothing else is
pub size_spelled : (text : List ℕ) (n : ℕ) → count_in 6 100000 text ≡ Some n → (1 ≤ n) × (n ≤ 100000) × (decimal n ≡ text)
unfolding count_of count_in
size_spelled text n is =
    let k = chosen (is_count 6 100000 text) (value_of text) n is in
    let parts = five_parts (nat_le 1 (length text)) (nat_le (length text) 6) (list_all is_ascii_digit text) (not (slice_index text 0 == 48)) (nat_le (value_of text) 100000) k.0 in
    let low : value_of text ≤ 100000 = leb-true (value_of text) 100000 parts.4 in
    let read : count_of text ≡ Some n = chosen_where _ _ _ (higher_count text k.0) ∙ ap Some k.1 in
    let spelled = count_spelled text n read in
    (spelled.0.0, omega (arith, k.1, low), spelled.1)

-- the words ask for one
some_of : (a b : ℕ) → Some a ≡ Some b → a ≡ b
some_of a b same = cc

second_of : List (List ℕ) → List ℕ
second_of [] = []
second_of (x ∷ []) = []
second_of (x ∷ y ∷ rest) = y

pub one_size : (words : List (List ℕ)) (n k : ℕ) → AsksDemo words n → AsksDemo words k → n ≡ k
unfolding second_of
one_size words n k one two =
    let spelled : decimal n ≡ decimal k = ap second_of (sym one.words_are ∙ two.words_are) in
    some_of n k (sym (size_reads n one.some one.most) ∙ ap (λ (text : List ℕ). count_in 6 100000 text) spelled ∙ size_reads k two.some two.most)

pub other_words : (words : List (List ℕ)) (word : List ℕ) (n : ℕ) → words ≡ word ∷ [] → AsksDemo words n → ⊥
other_words words word n is asks = omega (arith, ap length (sym is ∙ asks.words_are))

-- ---- two words

pub two_words : (words : List (List ℕ)) (word text : List ℕ) → 2 ≤ length words → length words < 3 → word ≡ get_or words 0 word → text ≡ get_or words 1 text → words ≡ word ∷ text ∷ []
two_words [] word text least most first second = absurd (omega arith)
two_words (x ∷ []) word text least most first second = absurd (omega arith)
two_words (x ∷ y ∷ []) word text least most first second = ap (λ (w : List ℕ). w ∷ y ∷ []) (sym first) ∙ ap (λ (w : List ℕ). word ∷ w ∷ []) (sym second)
two_words (x ∷ y ∷ z ∷ rest) word text least most first second = absurd (omega arith)

pub asks_size : (words : List (List ℕ)) (text : List ℕ) (size : Option ℕ) → words ≡ codes "demo" ∷ text ∷ [] → size ≡ count_in 6 100000 text → IfSome size (AsksDemo words)
asks_size words text None are is = tt
asks_size words text (Some n) are is =
    let spelled = size_spelled text n (sym is) in
    record { words_are = are ∙ ap (λ (t : List ℕ). codes "demo" ∷ t ∷ []) (sym spelled.2); some = spelled.0; most = spelled.1 }

pub asks_none : (words : List (List ℕ)) (text : List ℕ) (size : Option ℕ) → words ≡ codes "demo" ∷ text ∷ [] → size ≡ count_in 6 100000 text → IfNone size ((n : ℕ) → AsksDemo words n → ⊥)
unfolding second_of
asks_none words text None are is = λ n asks.
    let same : text ≡ decimal n = ap second_of (sym are ∙ asks.words_are) in
    none_is_not n (is ∙ ap (λ (t : List ℕ). count_in 6 100000 t) same ∙ size_reads n asks.some asks.most)
asks_none words text (Some n) are is = tt

first_of : List (List ℕ) → List ℕ
first_of [] = []
first_of (x ∷ rest) = x

pub other_word : (words : List (List ℕ)) (word text : List ℕ) (n : ℕ) → words ≡ word ∷ text ∷ [] → (word ≡ codes "demo" → ⊥) → AsksDemo words n → ⊥
unfolding first_of
other_word words word text n are other asks = other (ap first_of (sym are ∙ asks.words_are))
