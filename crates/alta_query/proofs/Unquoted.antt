-- Runs, names and NEARs are cut off as they were written.
use Rattle.std.proofs.Common.{◌≡◌, ℕ, ◌+◌, ◌-◌, ◌*◌, ◌/◌, ◌%◌, ◌^◌, ◌≤◌, ◌<◌, List, [], ◌∷◌, ◌++◌, length, take, drop, refl, ap, ap₂, ◌∙◌, append_assoc, arith, Bool, true, false, ◌&&◌, ◌||◌, Some}
use Rattle.std.specs.Prelude.{not, ◌==◌, nat_eq, nat_le, if◌then◌else◌, codes, slice_index}
use Rattle.std.specs.List.{list_all, prefix_len, take_while, starts_with}
use Rattle.std.specs.Char.{is_ascii_digit}
use Rattle.std.specs.Fmt.{decimal}
use Rattle.std.proofs.lemmas.Fmt.{decimal_by_steps, decimal_nonempty, length-decimal-le, first_decimal}
use Rattle.std.proofs.lemmas.List.Folds.{list_all-append}
use Rattle.std.proofs.lemmas.List.Sums.{fold_push}
use Rattle.std.specs.Cmp.Lexicographic.{pointwise}
use Rattle.std.proofs.lemmas.Bool.{le-leb, leb-true}
use Rattle.std.proofs.lemmas.Bool.Decides.{nat_tests}
use Rattle.std.proofs.Math.Seq.{take-append_seam}
use Rattle.alta_machine.specs.Shape.{name, value}
use Rattle.alta_machine.specs.Token.{Token, operand, near_word}
use Rattle.alta_codec.specs.Decimal.{value_of}
use Rattle.alta_codec.specs.Name.{is_graphic, is_name}
use Rattle.alta_machine.specs.Numbers.{number_in}
use Rattle.alta_machine.proofs.Numerals.{are_read}
use Rattle.alta_machine.specs.Spots.{is_blank, is_solid, is_quote, is_run, first_token, first_len, run_token, name_token, near_token, is_undotted, ordered, dotted, value_token, is_quoted_title}
use Rattle.alta_machine.specs.Spelling.{spelled}
use Rattle.alta_query.proofs.Reread.{IsEnd, Spells}
use Rattle.alta_query.proofs.Quoted.{both}

solid_stops : (rest : List ℕ) → IsEnd rest → prefix_len is_solid rest ≡ 0
solid_stops [] h = refl
solid_stops (b ∷ bs) h = rw h refl

run_stops : (rest : List ℕ) → IsEnd rest → prefix_len is_run rest ≡ 0
run_stops [] h = refl
run_stops (b ∷ bs) h = rw h refl

prefix_all : (p : ℕ → Bool) (s rest : List ℕ) → list_all p s ≡ true → prefix_len p rest ≡ 0 → prefix_len p (s ++ rest) ≡ length s
prefix_all p [] rest h e = e
prefix_all p (b ∷ bs) rest h e = let k = both (p b) (list_all p bs) h in rw (k.0, prefix_all p bs rest k.1 e) (omega arith)

while_all : (p : ℕ → Bool) (s rest : List ℕ) → list_all p s ≡ true → prefix_len p rest ≡ 0 → take_while p (s ++ rest) ≡ s
while_all p s rest h e = ap (λ n. take n (s ++ rest)) (prefix_all p s rest h e) ∙ take-append_seam s rest

pub all_weaker : (p r : ℕ → Bool) → ((b : ℕ) → p b ≡ true → r b ≡ true) → (s : List ℕ) → list_all p s ≡ true → list_all r s ≡ true
all_weaker p r f [] h = refl
all_weaker p r f (b ∷ bs) h = let k = both (p b) (list_all p bs) h in rw (f b k.0, all_weaker p r f bs k.1) refl

if_no : {A : Type 0} (b : Bool) (x y : A) → b ≡ false → (if b then x else y) ≡ y
if_no true x y h = absurd (cc)
if_no false x y h = refl

if_yes : {A : Type 0} (b : Bool) (x y : A) → b ≡ true → (if b then x else y) ≡ x
if_yes true x y h = refl
if_yes false x y h = absurd (cc)

either_no : (a b : Bool) → a ≡ false → b ≡ false → (a || b) ≡ false
either_no a b h k = rw (h, k) refl

-- names
graphic_solid : (b : ℕ) → is_graphic b ≡ true → is_solid b ≡ true
graphic_solid b h = let k = both (nat_le 33 b) (nat_le b 126) h in let l : 33 ≤ b = leb-true 33 b k.0 in grind (arith, nat_tests)

name_solid : (text : List ℕ) → list_all is_graphic text ≡ true → list_all is_solid text ≡ true
name_solid text h = all_weaker is_graphic is_solid graphic_solid text h

name_is : (text : List ℕ) → is_name text ≡ true → name_token text ≡ operand (name text)
unfolding name_token
name_is text h = rw h refl

name_graphic : (text : List ℕ) → is_name text ≡ true → list_all is_graphic text ≡ true
unfolding is_name
name_graphic text h = (both (nat_le 1 (length text) && nat_le (length text) 64) (list_all is_graphic text) h).1

pub name_spells : (text : List ℕ) → is_name text ≡ true → Spells (spelled (operand (name text))) (operand (name text))
name_spells text h = record {
  head = 110;
  tail = 97 ∷ 109 ∷ 101 ∷ 58 ∷ text;
  is_cons = refl;
  solid = refl;
  token = λ rest end. ap name_token (while_all is_solid text rest (name_solid text (name_graphic text h)) (solid_stops rest end)) ∙ name_is text h;
  len = λ rest end. ap (λ n. 5 + n) (prefix_all is_solid text rest (name_solid text (name_graphic text h)) (solid_stops rest end)) ∙ omega arith;
}

-- runs
solid_blank : (n b : ℕ) → is_solid n ≡ true → is_blank b ≡ true → nat_eq n b ≡ false
solid_blank n b h k = grind (arith, nat_tests)

quote_run : (n b : ℕ) → is_quote n ≡ true → is_run b ≡ true → nat_eq n b ≡ false
quote_run n b h k = grind (arith, nat_tests)

and_false : (b : Bool) → (b && false) ≡ false
and_false true = refl
and_false false = refl

-- whether a text begins so is seen up to the next blank
begins_same : (needle s rest : List ℕ) → list_all is_solid needle ≡ true → IsEnd rest → starts_with nat_eq (s ++ rest) needle ≡ starts_with nat_eq s needle
begins_same [] s rest h end = refl
begins_same (n ∷ ns) [] [] h end = refl
begins_same (n ∷ ns) [] (b ∷ bs) h end = let k = both (is_solid n) (list_all is_solid ns) h in rw (solid_blank n b k.0 end) refl
begins_same (n ∷ ns) (c ∷ cs) rest h end = let k = both (is_solid n) (list_all is_solid ns) h in ap (λ x. nat_eq n c && x) (begins_same ns cs rest k.1 end)

abbrev any_quote : List ℕ → Bool
any_quote [] = false
any_quote (b ∷ bs) = is_quote b || any_quote bs

or_true : (a b : Bool) → (a || b) ≡ true → a ≡ false → b ≡ true
or_true true b h k = absurd (cc)
or_true false b h k = h

quote_head : (a : Bool) (n c : ℕ) (ns xs : List ℕ) → is_quote n ≡ a → is_run c ≡ true → (is_quote n || any_quote ns) ≡ true → (any_quote ns ≡ true → pointwise nat_eq ns xs ≡ false) → (nat_eq n c && pointwise nat_eq ns xs) ≡ false
quote_head true n c ns xs quote run some later = rw (quote_run n c quote run) refl
quote_head false n c ns xs quote run some later = rw (later (or_true (is_quote n) (any_quote ns) some quote)) (and_false (nat_eq n c))

-- no run begins with a quote in it
no_start : (needle s rest : List ℕ) → any_quote needle ≡ true → list_all is_solid needle ≡ true → list_all is_run s ≡ true → IsEnd rest → starts_with nat_eq (s ++ rest) needle ≡ false
no_start [] s rest quote h runs end = absurd (cc)
no_start (n ∷ ns) [] [] quote h runs end = refl
no_start (n ∷ ns) [] (b ∷ bs) quote h runs end = let k = both (is_solid n) (list_all is_solid ns) h in rw (solid_blank n b k.0 end) refl
no_start (n ∷ ns) (c ∷ cs) rest quote h runs end =
    let k = both (is_solid n) (list_all is_solid ns) h in
    let l = both (is_run c) (list_all is_run cs) runs in
    quote_head (is_quote n) n c ns (take (length ns) (cs ++ rest)) refl l.0 quote (λ x. no_start ns cs rest x k.1 l.1 end)

no_title : (s rest : List ℕ) → list_all is_run s ≡ true → IsEnd rest → is_quoted_title (s ++ rest) ≡ false
unfolding is_quoted_title
no_title s rest runs end = no_start (codes "title:\"") s rest refl refl runs end

run_open : (b : ℕ) → is_run b ≡ true → (b == 40) ≡ false
run_open b h = grind (arith, nat_tests)

run_close : (b : ℕ) → is_run b ≡ true → (b == 41) ≡ false
run_close b h = grind (arith, nat_tests)

run_quote : (b : ℕ) → is_run b ≡ true → is_quote b ≡ false
run_quote b h = grind (arith, nat_tests)

run_solid : (b : ℕ) → is_run b ≡ true → is_blank b ≡ false
run_solid b h = grind (arith, nat_tests)

-- what a text is that begins with a byte of a run
run_first : (c : ℕ) (bs : List ℕ) → is_run c ≡ true → starts_with nat_eq (c ∷ bs) (codes "name:") ≡ false → is_quoted_title (c ∷ bs) ≡ false → first_token (c ∷ bs) ≡ run_token (take_while is_run (c ∷ bs))
run_first c bs h n t =
    if_no (c == 40) _ _ (run_open c h)
    ∙ if_no (c == 41) _ _ (run_close c h)
    ∙ if_no (is_quote c) _ _ (run_quote c h)
    ∙ if_no (starts_with nat_eq (c ∷ bs) (codes "name:")) _ _ n
    ∙ if_no (is_quoted_title (c ∷ bs)) _ _ t

run_len : (c : ℕ) (bs : List ℕ) → is_run c ≡ true → starts_with nat_eq (c ∷ bs) (codes "name:") ≡ false → is_quoted_title (c ∷ bs) ≡ false → first_len (c ∷ bs) ≡ prefix_len is_run (c ∷ bs)
run_len c bs h n t =
    if_no (c == 40 || c == 41) _ _ (either_no (c == 40) (c == 41) (run_open c h) (run_close c h))
    ∙ if_no (is_quote c) _ _ (run_quote c h)
    ∙ if_no (starts_with nat_eq (c ∷ bs) (codes "name:")) _ _ n
    ∙ if_no (is_quoted_title (c ∷ bs)) _ _ t

-- a run is cut off as what it is
pub run_spells : (s : List ℕ) (t : Token) → 0 < length s → list_all is_run s ≡ true → starts_with nat_eq s (codes "name:") ≡ false → run_token s ≡ t → Spells s t
run_spells [] t some runs n is = absurd (omega arith)
run_spells (c ∷ cs) t some runs n is =
    let l = both (is_run c) (list_all is_run cs) runs in
    record {
      head = c;
      tail = cs;
      is_cons = refl;
      solid = run_solid c l.0;
      token = λ rest end.
          run_first c (cs ++ rest) l.0 (begins_same (codes "name:") (c ∷ cs) rest refl end ∙ n) (no_title (c ∷ cs) rest runs end)
          ∙ ap run_token (while_all is_run (c ∷ cs) rest runs (run_stops rest end))
          ∙ is;
      len = λ rest end.
          run_len c (cs ++ rest) l.0 (begins_same (codes "name:") (c ∷ cs) rest refl end ∙ n) (no_title (c ∷ cs) rest runs end)
          ∙ prefix_all is_run (c ∷ cs) rest runs (run_stops rest end);
    }

-- NEARs
digit_is : (n : ℕ) → n < 10 → is_ascii_digit (48 + n) ≡ true
digit_is n h = grind (arith, nat_tests)

not_zero : (n : ℕ) → 48 < n → not (n == 48) ≡ true
not_zero n h = grind (arith, nat_tests)

five : (a b c d e : Bool) → a ≡ true → b ≡ true → c ≡ true → d ≡ true → e ≡ true → (a && b && c && d && e) ≡ true
five a b c d e p q r s t = rw (p, q, r, s, t) refl

IsDecimal : ℕ → List ℕ → Type 0
IsDecimal n ds = (list_all is_ascii_digit ds ≡ true) × (value_of ds ≡ n)

one_digit : (n : ℕ) → n < 10 → IsDecimal n ((48 + n) ∷ [])
unfolding IsDecimal
one_digit n h = (rw (digit_is n h) refl, omega arith)

more_digits : (n : ℕ) (ds : List ℕ) → 10 ≤ n → IsDecimal (n / 10) ds → IsDecimal n (ds ++ ((48 + n % 10) ∷ []))
unfolding IsDecimal
more_digits n ds h x =
    let small : n % 10 < 10 = omega arith in
    let digit : is_ascii_digit (48 + n % 10) ≡ true = digit_is (n % 10) small in
    let all : list_all is_ascii_digit (ds ++ ((48 + n % 10) ∷ [])) ≡ true = list_all-append is_ascii_digit ds ((48 + n % 10) ∷ []) ∙ rw (x.0, digit) refl in
    let value : value_of (ds ++ ((48 + n % 10) ∷ [])) ≡ value_of ds * 10 + (48 + n % 10 - 48) = fold_push (λ a b. a * 10 + (b - 48)) 0 ds (48 + n % 10) in
    (all, omega (arith, value, x.1))

decimal_is : (n : ℕ) → n < 2 ^ 64 → IsDecimal n (decimal n)
decimal_is n h = decimal_by_steps IsDecimal one_digit more_digits n h

near_is : (k : ℕ) → 1 ≤ k → k ≤ 1000 → near_token (decimal k) ≡ near_word k
unfolding near_token IsDecimal
near_is k low high =
    let d = decimal_is k (omega arith) in
    let a : nat_le 1 (length (decimal k)) ≡ true = le-leb 1 (length (decimal k)) (decimal_nonempty k (omega arith)) in
    let b : nat_le (length (decimal k)) 4 ≡ true = le-leb (length (decimal k)) 4 (length-decimal-le 4 k (omega arith) (omega arith) (omega arith)) in
    let c : not (slice_index (decimal k) 0 == 48) ≡ true = not_zero (slice_index (decimal k) 0) (first_decimal k low (omega arith)) in
    let e : nat_le (value_of (decimal k)) 1000 ≡ true = le-leb (value_of (decimal k)) 1000 (omega (arith, d.1)) in
    if_yes _ _ _ (five _ _ _ _ _ a b d.0 c e) ∙ ap near_word d.1

digit_run : (b : ℕ) → is_ascii_digit b ≡ true → is_run b ≡ true
digit_run b h = grind (arith, nat_tests)

near_runs : (k : ℕ) → k ≤ 1000 → list_all is_run (78 ∷ 69 ∷ 65 ∷ 82 ∷ 47 ∷ decimal k) ≡ true
unfolding IsDecimal
near_runs k high = all_weaker is_ascii_digit is_run digit_run (decimal k) (decimal_is k (omega arith)).0

near_run_is : (k : ℕ) → 1 ≤ k → k ≤ 1000 → run_token (78 ∷ 69 ∷ 65 ∷ 82 ∷ 47 ∷ decimal k) ≡ near_word k
unfolding run_token
near_run_is k low high = near_is k low high

pub near_spells : (k : ℕ) → 1 ≤ k → k ≤ 1000 → Spells (spelled (near_word k)) (near_word k)
near_spells k low high = run_spells (78 ∷ 69 ∷ 65 ∷ 82 ∷ 47 ∷ decimal k) (near_word k) (omega arith) (near_runs k high) refl (near_run_is k low high)

-- values
digit_undotted : (b : ℕ) → is_ascii_digit b ≡ true → is_undotted b ≡ true
digit_undotted b h = grind (arith, nat_tests)

both_true : (a b : Bool) → a ≡ true → b ≡ true → (a && b) ≡ true
both_true a b h k = rw (h, k) refl

drop_front : (xs ys : List ℕ) → drop (length xs) (xs ++ ys) ≡ ys
drop_front [] ys = refl
drop_front (x ∷ xs) ys = drop_front xs ys

-- a number is spelled in digits
pub digits_of : (n : ℕ) → n < 2 ^ 32 → list_all is_ascii_digit (decimal n) ≡ true
unfolding IsDecimal
digits_of n small = (decimal_is n (omega arith)).0

spelled_number : (n : ℕ) → n < 2 ^ 32 → number_in (decimal n) ≡ Some n
spelled_number n small = (are_read (decimal n) n).1 (refl, small)

undotted : (n : ℕ) → n < 2 ^ 32 → list_all is_undotted (decimal n) ≡ true
undotted n small = all_weaker is_ascii_digit is_undotted digit_undotted (decimal n) (digits_of n small)

dotted_is : (low high : ℕ) → low ≤ high → high < 2 ^ 32 → dotted (decimal low) (46 ∷ 46 ∷ decimal high) ≡ operand (value low high)
dotted_is low high le small =
    ap₂ ordered (spelled_number low (omega arith)) (spelled_number high small) ∙ if_yes (nat_le low high) _ _ (le-leb low high le)

value_cut : (front rest : List ℕ) → list_all is_undotted front ≡ true → value_token (front ++ 46 ∷ rest) ≡ dotted front (46 ∷ rest)
unfolding value_token
value_cut front rest all =
    ap₂ dotted (while_all is_undotted front (46 ∷ rest) all refl) (ap (λ n. drop n (front ++ 46 ∷ rest)) (prefix_all is_undotted front (46 ∷ rest) all refl) ∙ drop_front front (46 ∷ rest))

value_is : (low high : ℕ) → low ≤ high → high < 2 ^ 32 → value_token ((decimal low ++ codes "..") ++ decimal high) ≡ operand (value low high)
value_is low high le small =
    ap value_token (append_assoc (decimal low) (codes "..") (decimal high))
    ∙ value_cut (decimal low) (46 ∷ decimal high) (undotted low (omega arith))
    ∙ dotted_is low high le small

number_runs : (n : ℕ) → n < 2 ^ 32 → list_all is_run (decimal n) ≡ true
number_runs n small = all_weaker is_ascii_digit is_run digit_run (decimal n) (digits_of n small)

value_runs : (low high : ℕ) → low < 2 ^ 32 → high < 2 ^ 32 → list_all is_run (118 ∷ 97 ∷ 108 ∷ 117 ∷ 101 ∷ 58 ∷ ((decimal low ++ codes "..") ++ decimal high)) ≡ true
value_runs low high x y =
    let front : list_all is_run (decimal low ++ codes "..") ≡ true = list_all-append is_run (decimal low) (codes "..") ∙ both_true (list_all is_run (decimal low)) true (number_runs low x) refl in
    list_all-append is_run (decimal low ++ codes "..") (decimal high) ∙ both_true (list_all is_run (decimal low ++ codes "..")) (list_all is_run (decimal high)) front (number_runs high y)

value_run_is : (rest : List ℕ) → run_token (118 ∷ 97 ∷ 108 ∷ 117 ∷ 101 ∷ 58 ∷ rest) ≡ value_token rest
unfolding run_token
value_run_is rest = refl

pub value_spells : (low high : ℕ) → low ≤ high → high < 2 ^ 32 → Spells (spelled (operand (value low high))) (operand (value low high))
value_spells low high le small =
    run_spells (118 ∷ 97 ∷ 108 ∷ 117 ∷ 101 ∷ 58 ∷ ((decimal low ++ codes "..") ++ decimal high)) (operand (value low high)) (omega arith)
    (value_runs low high (omega arith) small) refl (value_run_is ((decimal low ++ codes "..") ++ decimal high) ∙ value_is low high le small)
