-- Laws of lines.
use Rattle.std.proofs.Common.{◌≡◌, ◌≢◌, ℕ, zero, suc, ◌<◌, Bool, true, false, List, [], ◌∷◌, ◌++◌, take, refl, ap, sym, subst, ◌∙◌, append_assoc, append-nil, arith, map, ◌==◌, if◌then◌else◌}
use Rattle.std.specs.List.{All}
use Rattle.std.proofs.lemmas.Grind.{common_steps}
use Rattle.std.proofs.lemmas.List.Elements.{All-nil, All-cons, All-head, All-tail, All-append}
use Rattle.alta_codec.specs.Bytes.{Lacks}
use Rattle.alta_console.specs.Lines.{whole_from, begun_from, whole, begun, last_piece, spelled, IsCut}

pub whole_from_append : (p xs ys : List ℕ) → whole_from p (xs ++ ys) ≡ whole_from p xs ++ whole_from (begun_from p xs) ys
whole_from_append p [] ys = refl
whole_from_append p (x ∷ xs) ys =
    elim (x == 10) as (λ b. (if b then p ∷ whole_from [] (xs ++ ys) else whole_from (p ++ x ∷ []) (xs ++ ys)) ≡ (if b then p ∷ whole_from [] xs else whole_from (p ++ x ∷ []) xs) ++ whole_from (if b then begun_from [] xs else begun_from (p ++ x ∷ []) xs) ys)
    [ true ↦ ap (λ (l : List (List ℕ)). p ∷ l) (whole_from_append [] xs ys) | false ↦ whole_from_append (p ++ x ∷ []) xs ys ]

pub begun_from_append : (p xs ys : List ℕ) → begun_from p (xs ++ ys) ≡ begun_from (begun_from p xs) ys
begun_from_append p [] ys = refl
begun_from_append p (x ∷ xs) ys =
    elim (x == 10) as (λ b. (if b then begun_from [] (xs ++ ys) else begun_from (p ++ x ∷ []) (xs ++ ys)) ≡ begun_from (if b then begun_from [] xs else begun_from (p ++ x ∷ []) xs) ys)
    [ true ↦ begun_from_append [] xs ys | false ↦ begun_from_append (p ++ x ∷ []) xs ys ]

test_true : (x : ℕ) → (x == 10) ≡ true → x ≡ 10
test_true x t = grind (arith, common_steps)

test_false : (x : ℕ) → (x == 10) ≡ false → x ≡ 10 → ⊥
test_false x t = grind (arith, common_steps)

not_newline : (x : ℕ) → x ≢ 10 → (x == 10) ≡ false
not_newline x n = grind (arith, common_steps)

-- Of a line that has begun, its first n bytes decide the first n bytes of each line.
pub take_take : (n : ℕ) (p x : List ℕ) → take n (take n p ++ x) ≡ take n (p ++ x)
take_take n p x = grind (arith, common_steps)

pub take_grow : (n : ℕ) (p q x : List ℕ) → take n p ≡ take n q → take n (p ++ x) ≡ take n (q ++ x)
take_grow n p q x same = sym (take_take n p x) ∙ ap (λ (l : List ℕ). take n (l ++ x)) same ∙ take_take n q x

pub whole_from_take : (n : ℕ) (p q xs : List ℕ) → take n p ≡ take n q → map (λ (l : List ℕ). take n l) (whole_from p xs) ≡ map (λ (l : List ℕ). take n l) (whole_from q xs)
whole_from_take n p q [] same = refl
whole_from_take n p q (x ∷ xs) same =
    let f : List ℕ → List ℕ = λ l. take n l in
    elim (x == 10) as (λ b. map f (if b then p ∷ whole_from [] xs else whole_from (p ++ x ∷ []) xs) ≡ map f (if b then q ∷ whole_from [] xs else whole_from (q ++ x ∷ []) xs))
    [ true ↦ ap (λ (l : List ℕ). l ∷ map f (whole_from [] xs)) same | false ↦ whole_from_take n (p ++ x ∷ []) (q ++ x ∷ []) xs (take_grow n p q (x ∷ []) same) ]

pub begun_from_take : (n : ℕ) (p q xs : List ℕ) → take n p ≡ take n q → take n (begun_from p xs) ≡ take n (begun_from q xs)
begun_from_take n p q [] same = same
begun_from_take n p q (x ∷ xs) same =
    elim (x == 10) as (λ b. take n (if b then begun_from [] xs else begun_from (p ++ x ∷ []) xs) ≡ take n (if b then begun_from [] xs else begun_from (q ++ x ∷ []) xs))
    [ true ↦ refl | false ↦ begun_from_take n (p ++ x ∷ []) (q ++ x ∷ []) xs (take_grow n p q (x ∷ []) same) ]

pub last_piece_take : (n : ℕ) (line : List ℕ) → 0 < n → map (λ (l : List ℕ). take n l) (last_piece (take n line)) ≡ map (λ (l : List ℕ). take n l) (last_piece line)
last_piece_take zero line some = absurd (omega arith)
last_piece_take (suc n) [] some = refl
last_piece_take (suc n) (byte ∷ bytes) some =
    ap (λ (l : List ℕ). l ∷ []) (ap (λ (l : List ℕ). take (suc n) l) (sym (append-nil (take (suc n) (byte ∷ bytes)))) ∙ take_take (suc n) (byte ∷ bytes) [] ∙ ap (λ (l : List ℕ). take (suc n) l) (append-nil (byte ∷ bytes)))

-- not a newline
abbrev IsOther : ℕ → Type 0
IsOther byte = byte ≢ 10

no_newline_more : (xs : List ℕ) (x : ℕ) → Lacks 10 xs → (x ≡ 10 → ⊥) → Lacks 10 (xs ++ x ∷ [])
no_newline_more xs x p n = All-append IsOther xs (x ∷ []) p (All-cons IsOther x [] n (All-nil IsOther))

cut_byte : (p : List ℕ) (x : ℕ) (xs : List ℕ) → Lacks 10 p → IsCut xs (whole_from [] xs) (begun_from [] xs) → ((x ≡ 10 → ⊥) → IsCut ((p ++ x ∷ []) ++ xs) (whole_from (p ++ x ∷ []) xs) (begun_from (p ++ x ∷ []) xs)) → (b : Bool) → (x == 10) ≡ b
    → IsCut (p ++ x ∷ xs) (if b then p ∷ whole_from [] xs else whole_from (p ++ x ∷ []) xs) (if b then begun_from [] xs else begun_from (p ++ x ∷ []) xs)
cut_byte p x xs none rest other true t = record { spells = ap (λ (l : List ℕ). p ++ 10 ∷ l) rest.spells ∙ ap (λ (n : ℕ). p ++ n ∷ xs) (sym (test_true x t)); each = All-cons (Lacks 10) p (whole_from [] xs) none rest.each; last = rest.last }
cut_byte p x xs none rest other false t =
    let P : List ℕ → Type 0 = λ l. IsCut l (whole_from (p ++ x ∷ []) xs) (begun_from (p ++ x ∷ []) xs) in
    subst P (append_assoc p (x ∷ []) xs) (other (test_false x t))

cut_from : (p xs : List ℕ) → Lacks 10 p → IsCut (p ++ xs) (whole_from p xs) (begun_from p xs)
cut_from p [] none = record { spells = sym (append-nil p); each = All-nil (Lacks 10); last = none }
cut_from p (x ∷ xs) none = cut_byte p x xs none (cut_from [] xs (All-nil IsOther)) (λ other. cut_from (p ++ x ∷ []) xs (no_newline_more p x none other)) (x == 10) refl

-- the whole lines and what has begun are the bytes, cut at their newlines
pub whole_cuts : (bytes : List ℕ) → IsCut bytes (whole bytes) (begun bytes)
whole_cuts bytes = cut_from [] bytes (All-nil IsOther)

-- bytes without a newline end no line, and go on with the one that has begun
pub whole_from_none : (p xs ys : List ℕ) → Lacks 10 xs → whole_from p (xs ++ ys) ≡ whole_from (p ++ xs) ys
whole_from_none p [] ys none = ap (λ (l : List ℕ). whole_from l ys) (sym (append-nil p))
whole_from_none p (x ∷ xs) ys none =
    ap (λ (b : Bool). if b then p ∷ whole_from [] (xs ++ ys) else whole_from (p ++ x ∷ []) (xs ++ ys)) (not_newline x (All-head IsOther x xs none))
    ∙ whole_from_none (p ++ x ∷ []) xs ys (All-tail IsOther x xs none) ∙ ap (λ (l : List ℕ). whole_from l ys) (append_assoc p (x ∷ []) xs)

pub begun_from_none : (p xs ys : List ℕ) → Lacks 10 xs → begun_from p (xs ++ ys) ≡ begun_from (p ++ xs) ys
begun_from_none p [] ys none = ap (λ (l : List ℕ). begun_from l ys) (sym (append-nil p))
begun_from_none p (x ∷ xs) ys none =
    ap (λ (b : Bool). if b then begun_from [] (xs ++ ys) else begun_from (p ++ x ∷ []) (xs ++ ys)) (not_newline x (All-head IsOther x xs none))
    ∙ begun_from_none (p ++ x ∷ []) xs ys (All-tail IsOther x xs none) ∙ ap (λ (l : List ℕ). begun_from l ys) (append_assoc p (x ∷ []) xs)

whole_spelled : (lines : List (List ℕ)) (rest : List ℕ) → All (Lacks 10) lines → Lacks 10 rest → whole (spelled lines rest) ≡ lines
whole_spelled [] rest each last = ap whole (sym (append-nil rest)) ∙ whole_from_none [] rest [] last
whole_spelled (line ∷ lines) rest each last = whole_from_none [] line (10 ∷ spelled lines rest) (All-head (Lacks 10) line lines each) ∙ ap (λ (l : List (List ℕ)). line ∷ l) (whole_spelled lines rest (All-tail (Lacks 10) line lines each) last)

begun_spelled : (lines : List (List ℕ)) (rest : List ℕ) → All (Lacks 10) lines → Lacks 10 rest → begun (spelled lines rest) ≡ rest
begun_spelled [] rest each last = ap begun (sym (append-nil rest)) ∙ begun_from_none [] rest [] last
begun_spelled (line ∷ lines) rest each last = begun_from_none [] line (10 ∷ spelled lines rest) (All-head (Lacks 10) line lines each) ∙ begun_spelled lines rest (All-tail (Lacks 10) line lines each) last

-- there is one way to cut bytes at their newlines
pub cut_is : (bytes : List ℕ) (lines : List (List ℕ)) (rest : List ℕ) → IsCut bytes lines rest → (whole bytes ≡ lines) × (begun bytes ≡ rest)
cut_is bytes lines rest cut = (
  ap whole (sym cut.spells) ∙ whole_spelled lines rest cut.each cut.last,
  ap begun (sym cut.spells) ∙ begun_spelled lines rest cut.each cut.last,
)
