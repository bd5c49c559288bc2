-- The tokens from a place on, and what the machine makes of them.
use Rattle.std.proofs.Common.{◌≡◌, ℕ, zero, suc, ◌+◌, ◌-◌, ◌≤◌, ◌<◌, List, [], ◌∷◌, length, drop, get_or, refl, sym, ap, ◌∙◌, add-one, false, Bool, true, if◌then◌else◌, Some, None, Result, Err, arith}
use Rattle.std.proofs.lemmas.List.{drop-drop, length-drop, get_or-drop, at_drop_all}
use Rattle.std.proofs.Math.Seq.{drop-cons}
use Rattle.std.proofs.lemmas.Bool.Decides.{nat_tests}
use Rattle.alta_machine.specs.Shape.{Shape}
use Rattle.alta_machine.specs.Token.{Token, Spot, at, weight}
use Rattle.alta_machine.specs.Spots.{is_blank, first_token, first_len, spots_from, spots}
use Rattle.alta_machine.specs.QueryFaults.{Fault, fault}
use Rattle.alta_machine.specs.Parser.{Parsing, after_token, run, or_fault, cause_in}
use Rattle.alta_machine.specs.declared.cause.Cause.{Cause}
use Rattle.alta_machine.specs.declared.cause.Cause.TheVariants.{Empty}
use Rattle.alta_query.proofs.Seen.{run_seen, seen_token}
use Rattle.alta_query.proofs.Sound.{many_none, step_words}

spots_skip : (k p : ℕ) (bs : List ℕ) → spots_from p k bs ≡ spots_from (p + k) 0 (drop k bs)
spots_skip zero p bs = ap (λ n. spots_from n 0 bs) (omega arith)
spots_skip (suc k) p [] = refl
spots_skip (suc k) p (b ∷ bs) = spots_skip k (p + 1) bs ∙ ap (λ n. spots_from n 0 (drop k bs)) (omega arith)

token_tail : (n p b : ℕ) (bs : List ℕ) → 0 < n → spots_from (p + 1) (n - 1) bs ≡ spots_from (p + n) 0 (drop n (b ∷ bs))
token_tail zero p b bs h = absurd (omega arith)
token_tail (suc k) p b bs h =
    let e : suc k - 1 ≡ k = omega arith in
    let f : p + 1 + k ≡ p + suc k = omega arith in
    ap (λ n. spots_from (p + 1) n bs) e ∙ spots_skip k (p + 1) bs ∙ ap (λ n. spots_from n 0 (drop k bs)) f

if_no : (b : Bool) (x y : List Spot) → b ≡ false → (if b then x else y) ≡ y
if_no true x y h = absurd (cc)
if_no false x y h = refl

front_token : (p b : ℕ) (bs : List ℕ) → is_blank b ≡ false → 0 < first_len (b ∷ bs) → spots_from p 0 (b ∷ bs) ≡ at p (first_token (b ∷ bs)) ∷ spots_from (p + first_len (b ∷ bs)) 0 (drop (first_len (b ∷ bs)) (b ∷ bs))
front_token p b bs solid positive =
    if_no (is_blank b) (spots_from (p + 1) 0 bs) (at p (first_token (b ∷ bs)) ∷ spots_from (p + 1) (first_len (b ∷ bs) - 1) bs) solid
    ∙ ap (λ ts. at p (first_token (b ∷ bs)) ∷ ts) (token_tail (first_len (b ∷ bs)) p b bs positive)

pub front_of : (p : ℕ) (bs : List ℕ) → 0 < length bs → is_blank (get_or bs 0 0) ≡ false → 0 < first_len bs → spots_from p 0 bs ≡ at p (first_token bs) ∷ spots_from (p + first_len bs) 0 (drop (first_len bs) bs)
front_of p [] some solid positive = absurd (omega arith)
front_of p (b ∷ bs) some solid positive = front_token p b bs solid positive

pub rest_within : (text : List ℕ) (p n : ℕ) → p < length text → n ≤ length (drop p text) → p + n ≤ length text
rest_within text p n within h = omega (arith, length-drop p text)

-- a token at a place, and what is behind it
pub spots_token : (text : List ℕ) (p n : ℕ) (t : Token) → p < length text → is_blank (get_or text p 0) ≡ false → 0 < n → n ≡ first_len (drop p text) → t ≡ first_token (drop p text) → spots_from p 0 (drop p text) ≡ at p t ∷ spots_from (p + n) 0 (drop (p + n) text)
spots_token text p n t within solid positive len token =
    let a : 0 < length (drop p text) = omega (arith, length-drop p text) in
    let b : 0 < first_len (drop p text) = omega (arith, len) in
    let i : p + 0 ≡ p = omega arith in
    let c : get_or (drop p text) 0 0 ≡ get_or text p 0 = get_or-drop p text 0 0 ∙ ap (λ n. get_or text n 0) i in
    front_of p (drop p text) a (ap is_blank c ∙ solid) b
    ∙ rw (← len, ← token, drop-drop n p text) refl

if_yes : (b : Bool) (x y : List Spot) → b ≡ true → (if b then x else y) ≡ x
if_yes true x y h = refl
if_yes false x y h = absurd (cc)

-- a blank at a place is passed
pub spots_blank : (text : List ℕ) (p : ℕ) → p < length text → is_blank (get_or text p 0) ≡ true → spots_from p 0 (drop p text) ≡ spots_from (p + 1) 0 (drop (p + 1) text)
spots_blank text p within h =
    let b = get_or text p 0 in
    let bs = drop (p + 1) text in
    let e : drop p text ≡ b ∷ bs = drop-cons text p 0 within ∙ rw (add-one p) refl in
    ap (spots_from p 0) e
    ∙ if_yes (is_blank b) (spots_from (p + 1) 0 bs) (at p (first_token (b ∷ bs)) ∷ spots_from (p + 1) (first_len (b ∷ bs) - 1) bs) h

pub blank_low : (b : ℕ) → is_blank b ≡ true → b < 128
blank_low b h = grind (arith, nat_tests)

-- what a token keeps
pub step_kept : (seen : Bool) (s t : Parsing) (k : Token) (p : ℕ) (ts us : List Spot) (e : ℕ) (r : Result Shape Fault) → run_seen seen s us e ≡ r → us ≡ at p k ∷ ts → cause_in s k ≡ None → t ≡ after_token s k → (t.words ≤ 64) × (run t ts e ≡ r)
step_kept seen s t k p ts us e r same spots none stepped =
    let a : run_seen seen s (at p k ∷ ts) e ≡ r = rw spots at same in
    let b : or_fault p (cause_in s k) (run (after_token s k) ts e) ≡ r = sym (seen_token seen s p k ts e) ∙ a in
    let c : run (after_token s k) ts e ≡ r = rw none at b in
    let w : s.words + weight k ≤ 64 = many_none k s none in
    let v : (after_token s k).words ≡ s.words + weight k = step_words k s in
    rw stepped (omega arith, c)

-- a fault at a token
pub step_fault : (seen : Bool) (s : Parsing) (k : Token) (c : Cause) (p : ℕ) (ts us : List Spot) (e : ℕ) (r : Result Shape Fault) → run_seen seen s us e ≡ r → us ≡ at p k ∷ ts → cause_in s k ≡ Some c → r ≡ Err (fault p c)
step_fault seen s k c p ts us e r same spots some =
    let a : run_seen seen s (at p k ∷ ts) e ≡ r = rw spots at same in
    let b : or_fault p (cause_in s k) (run (after_token s k) ts e) ≡ r = sym (seen_token seen s p k ts e) ∙ a in
    sym (rw some at b)

-- the text ends behind a token
pub run_ended : (text : List ℕ) (seen : Bool) (s : Parsing) (p e : ℕ) (r : Result Shape Fault) → length text ≤ p → seen ≡ true → run_seen seen s (spots_from p 0 (drop p text)) e ≡ r → run s [] e ≡ r
run_ended text seen s p e r past is same =
    sym (ap (λ b. run_seen b s (spots_from p 0 (drop p text)) e) is ∙ at_drop_all (λ t. run s (spots_from p 0 t) e) text p past) ∙ same

-- the text ends without a token
pub run_empty : (text : List ℕ) (seen : Bool) (s : Parsing) (p e : ℕ) (r : Result Shape Fault) → length text ≤ p → seen ≡ false → run_seen seen s (spots_from p 0 (drop p text)) e ≡ r → r ≡ Err (fault 0 Empty)
run_empty text seen s p e r past is same =
    sym same ∙ ap (λ b. run_seen b s (spots_from p 0 (drop p text)) e) is ∙ at_drop_all (λ t. run_seen false s (spots_from p 0 t) e) text p past
