-- Cells satisfy several patterns exactly where they satisfy them joined.
use Rattle.std.proofs.Common.{◌≡◌, ℕ, zero, suc, ◌+◌, ◌<◌, ◌≤◌, Bool, true, false, List, [], ◌∷◌, ◌++◌, length, map, get_or, refl, sym, subst, ap, arith}
use Rattle.std.specs.Prelude.{◌↔◌, All}
use Rattle.std.proofs.lemmas.List.Elements.{All-nil, All-cons, All-head, All-tail}
use Rattle.alta_machine.specs.Patterns.{Bound, Pattern, AreMet, IsKept, Satisfies, neighbours, before_end, title_end, titled, phrase_pattern, lone_pattern, pattern_of}
use Rattle.alta_machine.specs.Shape.{Atom, lone, near, Lone, words, prefix, name, value}
use Rattle.alta_machine.specs.declared.test.Test.{Test}
use Rattle.alta_machine.specs.Joined.{shifted, joint_pattern, SatisfiesEach}

abbrev Cells : Type 0
Cells = List (List (List ℕ))

-- each bound holds of the places, by recursion
abbrev pub AreKept : List ℕ → List Bound → Type 0
AreKept ps [] = Unit {0}
AreKept ps (b ∷ bs) = IsKept ps b × AreKept ps bs

-- the bounds name two of n tests
abbrev pub AreNamed : ℕ → List Bound → Type 0
AreNamed n [] = Unit {0}
AreNamed n (b ∷ bs) = (b.first < n) × (b.second < n) × AreNamed n bs

pub kept_all : (ps : List ℕ) (bs : List Bound) → All (IsKept ps) bs → AreKept ps bs
kept_all ps [] h = tt
kept_all ps (b ∷ bs) h = (All-head (IsKept ps) b bs h, kept_all ps bs (All-tail (IsKept ps) b bs h))

pub all_kept : (ps : List ℕ) (bs : List Bound) → AreKept ps bs → All (IsKept ps) bs
all_kept ps [] h = All-nil (IsKept ps)
all_kept ps (b ∷ bs) (h, r) = All-cons (IsKept ps) b bs h (all_kept ps bs r)

index_left : (ps qs : List ℕ) (i : ℕ) → i < length ps → get_or (ps ++ qs) i 0 ≡ get_or ps i 0
index_left [] qs i l = absurd (omega arith)
index_left (p ∷ ps) qs zero l = refl
index_left (p ∷ ps) qs (suc i) l = index_left ps qs i (omega arith)

index_right : (ps qs : List ℕ) (i k : ℕ) → k ≡ length ps + i → get_or (ps ++ qs) k 0 ≡ get_or qs i 0
index_right [] qs i k e = let same : k ≡ i = omega (arith, e) in ap (λ j. get_or qs j 0) same
index_right (p ∷ ps) qs i zero e = absurd (omega (arith, e))
index_right (p ∷ ps) qs i (suc k) e = index_right ps qs i k (omega (arith, e))

met_split : (ts us : List Test) (cs : Cells) (ps : List ℕ) → AreMet cs (ts ++ us) ps
    → (qs : List ℕ) × (rs : List ℕ) × (ps ≡ qs ++ rs) × (length qs ≡ length ts) × AreMet cs ts qs × AreMet cs us rs
met_split [] us cs ps h = ([], ps, refl, refl, tt, h)
met_split (t ∷ ts) us cs [] h = absurd h
met_split (t ∷ ts) us cs (p ∷ ps) (h, r) =
    let (qs, rs, e, l, a, b) = met_split ts us cs ps r in (p ∷ qs, rs, ap (λ x. p ∷ x) e, omega (arith, l), (h, a), b)

met_join : (ts us : List Test) (cs : Cells) (qs rs : List ℕ) → AreMet cs ts qs → AreMet cs us rs → AreMet cs (ts ++ us) (qs ++ rs)
met_join [] us cs [] rs a b = b
met_join [] us cs (q ∷ qs) rs a b = absurd a
met_join (t ∷ ts) us cs [] rs a b = absurd a
met_join (t ∷ ts) us cs (q ∷ qs) rs (h, a) b = (h, met_join ts us cs qs rs a b)

met_length : (ts : List Test) (cs : Cells) (ps : List ℕ) → AreMet cs ts ps → length ps ≡ length ts
met_length [] cs [] a = refl
met_length [] cs (p ∷ ps) a = absurd a
met_length (t ∷ ts) cs [] a = absurd a
met_length (t ∷ ts) cs (p ∷ ps) (h, a) = omega (arith, met_length ts cs ps a)

kept_split : (ps : List ℕ) (bs cs : List Bound) → AreKept ps (bs ++ cs) → AreKept ps bs × AreKept ps cs
kept_split ps [] cs h = (tt, h)
kept_split ps (b ∷ bs) cs (h, r) = let (x, y) = kept_split ps bs cs r in ((h, x), y)

kept_join : (ps : List ℕ) (bs cs : List Bound) → AreKept ps bs → AreKept ps cs → AreKept ps (bs ++ cs)
kept_join ps [] cs x y = y
kept_join ps (b ∷ bs) cs (h, x) y = (h, kept_join ps bs cs x y)

kept_left : (ps qs : List ℕ) (n : ℕ) (bs : List Bound) → n ≡ length ps → AreNamed n bs → AreKept (ps ++ qs) bs ↔ AreKept ps bs
kept_left ps qs n [] e a = (λ h. h, λ h. h)
kept_left ps qs n (b ∷ bs) e (f, s, r) =
    let rest = kept_left ps qs n bs e r in
    let i = index_left ps qs b.first (omega (arith, f, e)) in let j = index_left ps qs b.second (omega (arith, s, e)) in
    (λ (h, k). (omega (arith, h, i, j), rest.0 k), λ (h, k). (omega (arith, h, i, j), rest.1 k))

kept_right : (ps qs : List ℕ) (n : ℕ) (bs : List Bound) → n ≡ length ps → AreKept (ps ++ qs) (map (shifted n) bs) ↔ AreKept qs bs
kept_right ps qs n [] e = (λ h. h, λ h. h)
kept_right ps qs n (b ∷ bs) e =
    let rest = kept_right ps qs n bs e in
    let i = index_right ps qs b.first (n + b.first) (omega (arith, e)) in let j = index_right ps qs b.second (n + b.second) (omega (arith, e)) in
    (λ (h, k). (omega (arith, h, i, j), rest.0 k), λ (h, k). (omega (arith, h, i, j), rest.1 k))

-- each pattern's bounds name its own tests
abbrev pub EachNamed : List Pattern → Type 0
EachNamed [] = Unit {0}
EachNamed (p ∷ ps) = AreNamed (length p.tests) p.bounds × EachNamed ps

-- what a pattern asks for, by recursion
abbrev pub Meets : Cells → Pattern → Type 0
Meets cs p = (places : List ℕ) × AreMet cs p.tests places × AreKept places p.bounds

pub meets_satisfies : (cs : Cells) (p : Pattern) → Satisfies cs p ↔ Meets cs p
meets_satisfies cs p = (
  λ (ps, a). (ps, a.met, kept_all ps p.bounds a.kept),
  λ (ps, m, k). (ps, record { met = m; kept = all_kept ps p.bounds k }),
)

pub joined_satisfies : (qs : List Pattern) (cs : Cells) → EachNamed qs → Satisfies cs (joint_pattern qs) ↔ SatisfiesEach cs qs
joined_satisfies [] cs n = (λ h. tt, λ h. ([], record { met = tt; kept = All-nil (IsKept []) }))
joined_satisfies (q ∷ qs) cs (n, r) =
    let rest = joined_satisfies qs cs r in let whole = meets_satisfies cs (joint_pattern (q ∷ qs)) in
    let first = meets_satisfies cs q in let others = meets_satisfies cs (joint_pattern qs) in (
      λ h.
          let (ps, a, l) = whole.0 h in
          let (us, vs, e, k, b, c) = met_split q.tests (joint_pattern qs).tests cs ps a in
          let (f, g) = kept_split (us ++ vs) q.bounds (map (shifted (length q.tests)) (joint_pattern qs).bounds)
          (subst (λ x. AreKept x (q.bounds ++ map (shifted (length q.tests)) (joint_pattern qs).bounds)) e l) in (
            first.1 (us, b, (kept_left us vs (length q.tests) q.bounds (sym k) n).0 f),
            rest.0 (others.1 (vs, c, (kept_right us vs (length q.tests) (joint_pattern qs).bounds (sym k)).0 g)),
          ),
      λ (s, h).
          let (us, b, f) = first.0 s in
          let (vs, c, g) = others.0 (rest.1 h) in
          let k : length q.tests ≡ length us = sym (met_length q.tests cs us b) in
          whole.1 (
            us ++ vs,
            met_join q.tests (joint_pattern qs).tests cs us vs b c,
            kept_join (us ++ vs) q.bounds (map (shifted (length q.tests)) (joint_pattern qs).bounds)
                ((kept_left us vs (length q.tests) q.bounds k n).1 f) ((kept_right us vs (length q.tests) (joint_pattern qs).bounds k).1 g),
          ),
    )

-- the bounds of each pattern name its own tests
named_more : (n m : ℕ) (bs : List Bound) → n ≤ m → AreNamed n bs → AreNamed m bs
named_more n m [] h a = tt
named_more n m (b ∷ bs) h (f, s, r) = (omega arith, omega arith, named_more n m bs h r)

named_join : (n : ℕ) (bs cs : List Bound) → AreNamed n bs → AreNamed n cs → AreNamed n (bs ++ cs)
named_join n [] cs a b = b
named_join n (b ∷ bs) cs (x, y, a) r = (x, y, named_join n bs cs a r)

named_shifted : (n k m : ℕ) (bs : List Bound) → AreNamed n bs → k + n ≤ m → AreNamed m (map (shifted k) bs)
named_shifted n k m [] a h = tt
named_shifted n k m (b ∷ bs) (x, y, a) h = (omega arith, omega arith, named_shifted n k m bs a h)

length_join : {X : Type 0} (xs ys : List X) → length (xs ++ ys) ≡ length xs + length ys
length_join [] ys = omega arith
length_join (x ∷ xs) ys = omega (arith, length_join xs ys)

pub joined_named : (qs : List Pattern) → EachNamed qs → AreNamed (length (joint_pattern qs).tests) (joint_pattern qs).bounds
joined_named [] n = tt
joined_named (q ∷ qs) (n, r) =
    let size = length_join q.tests (joint_pattern qs).tests in
    named_join (length (q.tests ++ (joint_pattern qs).tests)) q.bounds (map (shifted (length q.tests)) (joint_pattern qs).bounds)
    (named_more (length q.tests) (length (q.tests ++ (joint_pattern qs).tests)) q.bounds (omega (arith, size)) n)
    (named_shifted (length (joint_pattern qs).tests) (length q.tests) (length (q.tests ++ (joint_pattern qs).tests)) (joint_pattern qs).bounds (joined_named qs r) (omega (arith, size)))

neighbours_named : (i m : ℕ) (ts : List Test) → i + length ts ≤ m → AreNamed m (neighbours i ts)
neighbours_named i m [] h = tt
neighbours_named i m (t ∷ []) h = tt
neighbours_named i m (t ∷ u ∷ ts) h = (omega arith, omega arith, (omega arith, omega arith, neighbours_named (suc i) m (u ∷ ts) (omega (arith, h))))

before_named : (t n m : ℕ) → n ≤ m → t < m → AreNamed m (before_end t n)
before_named t zero m h l = tt
before_named t (suc n) m h l = named_join m (before_end t n) _ (before_named t n m (omega arith) l) (omega arith, l, tt)

titled_named : (title : Bool) (q : Pattern) → AreNamed (length q.tests) q.bounds → AreNamed (length (titled title q).tests) (titled title q).bounds
titled_named false q a = a
titled_named true q a =
    let size = length_join q.tests (title_end ∷ []) in
    named_join (length (q.tests ++ title_end ∷ [])) q.bounds (before_end (length q.tests) (length q.tests))
    (named_more (length q.tests) (length (q.tests ++ title_end ∷ [])) q.bounds (omega (arith, size)) a)
    (before_named (length q.tests) (length q.tests) (length (q.tests ++ title_end ∷ [])) (omega (arith, size)) (omega (arith, size)))

lone_named : (a : Lone) → AreNamed (length (lone_pattern a).tests) (lone_pattern a).bounds
lone_named (words title text ts) = titled_named title (phrase_pattern ts) (neighbours_named 0 (length ts) ts (omega arith))
lone_named (prefix title text t) = titled_named title (phrase_pattern (t ∷ [])) tt
lone_named (name text) = tt
lone_named (value low high) = tt

pub pattern_named : (a : Atom) → AreNamed (length (pattern_of a).tests) (pattern_of a).bounds
pattern_named (lone a) = lone_named a
pattern_named (near l k r) = (omega arith, omega arith, (omega arith, omega arith, tt))
