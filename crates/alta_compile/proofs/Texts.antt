-- The plan of a query whose terms are text is text.
use Rattle.std.proofs.Common.{◌≡◌, ℕ, zero, suc, ◌-◌, ◌/◌, ◌%◌, ◌^◌, ◌≤◌, ◌<◌, ◌==◌, List, [], ◌∷◌, ◌++◌, length, get_or, drop, map, refl, sym, ap, subst, ◌∙◌, Option, Some, None, arith, lit<, Bool, true, false, if◌then◌else◌, codes}
use Rattle.std.specs.Fmt.{decimal, digits, digits_onto, digit_glyph}
use Rattle.std.specs.Int.{w32, to_be_bytes, from_be_bytes}
use Rattle.std.specs.List.{All, list_all}
use Rattle.std.specs.Prelude.{nat_lt}
use Rattle.std.specs.Str.{IsUtf8}
use Rattle.std.proofs.lemmas.Grind.{common_steps}
use Rattle.std.proofs.lemmas.List.Elements.{All-nil, All-cons, All-append, All-head, All-tail, All-weaker}
use Rattle.std.proofs.lemmas.Nat.{mod_below, from_be_bytes-to_be_bytes_4}
use Rattle.std.proofs.Math.Pow.{pow_mono}
use Rattle.std.proofs.lemmas.Str.{IsUtf8-append, IsUtf8-from_ascii, IsUtf8-nil}
use Rattle.std.proofs.lemmas.Str.Ascii.{IsAscii-from_all}
use Rattle.alta_machine.specs.Patterns.{Pattern, pattern_of, numbers_in, range_test}
use Rattle.alta_machine.specs.Shape.{Shape, Shapes, atom, all, any, negated, none, more}
use Rattle.alta_query.specs.Texts.{HasTextTerm, HasTextTerms, HaveTextTerms}
use Rattle.alta_machine.specs.declared.test.Test.{Test}
use Rattle.alta_machine.specs.declared.test.Test.TheVariants.{Is, Begins}
use Rattle.alta_machine.specs.Covers.{IsRange, cover_of}
use Rattle.alta_machine.specs.Terms.{term_bytes}
use Rattle.alta_machine.specs.declared.range.Range.{Range}
use Rattle.alta_codec.specs.Inequality.{Inequality}
use Rattle.alta_codec.specs.declared.form.Form.{Form}
use Rattle.alta_codec.specs.declared.form.Form.TheVariants.{LocLoc, PrevLoc, LocPrev, PrevPrev}
use Rattle.alta_machine.specs.Explained.{low_letter, high_letter, constant, bound_line, bound_lines, is_range_term, range_text, test_text, tests_text, count, deeper, explained, explained_each}
use Rattle.alta_machine.specs.Joined.{joint_pattern}
use Rattle.alta_machine.specs.PlanOf.{range_plan, either_of, atom_plan, with_pattern, with_value, plan_of, plans_of, others_of, atoms_in, all_plan}
use Rattle.alta_machine.specs.Plans.{Tree, found, all_of, any_of, without, Trees, no_more, also, trees_of}

-- a number in digits is ASCII
glyph_low : (d : ℕ) → d < 10 → digit_glyph false d < 128
glyph_low d h = grind (arith, common_steps)

one_of : (b : Bool) (xs ys : List ℕ) → All (λ c. c < 128) xs → All (λ c. c < 128) ys → All (λ c. c < 128) (if b then xs else ys)
one_of true xs ys h k = h
one_of false xs ys h k = k

digits_low : (k n : ℕ) (behind : List ℕ) → All (λ c. c < 128) behind → All (λ c. c < 128) (digits_onto k 10 false n behind)
digits_low zero n behind h = h
digits_low (suc k) n behind h =
    let longer = All-cons (λ c. c < 128) (digit_glyph false (n % 10)) behind (glyph_low (n % 10) (mod_below n 10 (lit< tt))) h in
    one_of (n / 10 == 0) (digit_glyph false (n % 10) ∷ behind) (digits_onto k 10 false (n / 10) (digit_glyph false (n % 10) ∷ behind)) longer (digits_low k (n / 10) _ longer)

decimal_text : (n : ℕ) → IsUtf8 (decimal n)
unfolding digits
decimal_text n = IsUtf8-from_ascii (decimal n) (IsAscii-from_all (decimal n) (digits_low 64 n [] (All-nil _)))

-- so is a text that has nothing else
ascii : (bs : List ℕ) → list_all (λ b. nat_lt b 128) bs ≡ true → All (λ b. b < 128) bs
ascii [] h = All-nil _
ascii (b ∷ bs) h =
    let low : b < 128 = grind (arith, common_steps) in
    let rest : list_all (λ b. nat_lt b 128) bs ≡ true = grind (arith, common_steps) in
    All-cons (λ b. b < 128) b bs low (ascii bs rest)

plain : (bs : List ℕ) → list_all (λ b. nat_lt b 128) bs ≡ true → IsUtf8 bs
plain bs h = IsUtf8-from_ascii bs (IsAscii-from_all bs (ascii bs h))

low_letter_text : (f : Form) → IsUtf8 (low_letter f)
low_letter_text LocLoc = plain (codes "x") refl
low_letter_text PrevLoc = plain (codes "p") refl
low_letter_text LocPrev = plain (codes "x") refl
low_letter_text PrevPrev = plain (codes "p") refl

high_letter_text : (f : Form) → IsUtf8 (high_letter f)
high_letter_text LocLoc = plain (codes "x") refl
high_letter_text PrevLoc = plain (codes "x") refl
high_letter_text LocPrev = plain (codes "p") refl
high_letter_text PrevPrev = plain (codes "p") refl

both : {xs ys : List ℕ} → IsUtf8 xs → IsUtf8 ys → IsUtf8 (xs ++ ys)
both {xs = xs} {ys = ys} h k = IsUtf8-append xs ys h k

either_text : (b : Bool) (xs ys : List ℕ) → IsUtf8 xs → IsUtf8 ys → IsUtf8 (if b then xs else ys)
either_text true xs ys h k = h
either_text false xs ys h k = k

constant_text : (plus minus : ℕ) → IsUtf8 (constant plus minus)
constant_text plus minus =
    either_text (nat_lt minus plus) _ _ (both (plain (codes "+") refl) (decimal_text (plus - minus)))
    (either_text (nat_lt plus minus) _ _ (both (plain (codes "-") refl) (decimal_text (minus - plus))) IsUtf8-nil)

bound_text : (b : Inequality) → IsUtf8 (bound_line b)
bound_text b =
    both (both (both (both (both (both (low_letter_text b.form) (decimal_text b.i)) (plain (codes " <= ") refl)) (high_letter_text b.form)) (decimal_text b.j)) (constant_text b.plus b.minus)) (plain (codes "\n") refl)

bounds_text : (margin : List ℕ) → IsUtf8 margin → (bs : List Inequality) → IsUtf8 (bound_lines margin bs)
bounds_text margin m [] = IsUtf8-nil
bounds_text margin m (b ∷ bs) = both (both m (bound_text b)) (bounds_text margin m bs)

range_as_text : (term : List ℕ) → IsUtf8 (range_text term)
range_as_text term = both (both (both (plain (codes "#") refl) (decimal_text (get_or term 2 0))) (plain (codes ":") refl)) (decimal_text (from_be_bytes w32 (drop 3 term)))

one_test_text : (t : Test) → HasTextTerm t → IsUtf8 (test_text t)
one_test_text (Is term) h = either_text (is_range_term term) (range_text term) term (range_as_text term) h
one_test_text (Begins start) h = both h (plain (codes "*") refl)

-- the test is shown as UTF-8
abbrev ShowsText : Test → Type 0
ShowsText t = IsUtf8 (test_text t)

shows : (ts : List Test) → All HasTextTerm ts → All ShowsText ts
shows ts h = All-weaker HasTextTerm ShowsText one_test_text ts h

four : (n : ℕ) → length (to_be_bytes w32 n) ≡ 4
four n = refl

is_range : (level prefix : ℕ) → is_range_term (term_bytes level prefix) ≡ true
unfolding term_bytes
is_range level prefix = ap (λ (n : ℕ). suc (suc (suc n)) == 7) (four prefix)

range_shows : (r : Range) → ShowsText (range_test r)
range_shows r = subst (λ b. IsUtf8 (if b then range_text (term_bytes r.level r.prefix) else term_bytes r.level r.prefix)) (sym (is_range r.level r.prefix)) (range_as_text (term_bytes r.level r.prefix))

grown : (a b : ℕ) → a ≤ b → 2 ^ a ≤ 2 ^ b
grown a b h = pow_mono h

small_prefix : (level prefix : ℕ) → prefix < 2 ^ (32 - level) → prefix < 2 ^ 32
small_prefix level prefix small = let wide : 2 ^ (32 - level) ≤ 2 ^ 32 = grown (32 - level) 32 (omega arith) in omega arith

range_is : (level prefix : ℕ) → prefix < 2 ^ 32 → range_text (term_bytes level prefix) ≡ codes "#" ++ decimal level ++ codes ":" ++ decimal prefix
unfolding term_bytes
range_is level prefix small = ap (λ (n : ℕ). codes "#" ++ decimal level ++ codes ":" ++ decimal n) (from_be_bytes-to_be_bytes_4 prefix small)

-- a range is shown by its level and its prefix
pub range_shown : (r : Range) → IsRange r → test_text (range_test r) ≡ codes "#" ++ decimal r.level ++ codes ":" ++ decimal r.prefix
range_shown r is =
    ap (λ b. if b then range_text (term_bytes r.level r.prefix) else term_bytes r.level r.prefix) (is_range r.level r.prefix)
    ∙ range_is r.level r.prefix (small_prefix r.level r.prefix is.small)

each_test_text : (ts : List Test) → All ShowsText ts → IsUtf8 (tests_text ts)
each_test_text [] h = IsUtf8-nil
each_test_text (t ∷ ts) h =
    both (both (plain (codes " ") refl) (All-head ShowsText t ts h)) (each_test_text ts (All-tail ShowsText t ts h))

-- the tests of a plan are shown as UTF-8
abbrev mutual
  pub IsTextTree : Tree → Type 0
  IsTextTree (found f) = All ShowsText f.tests
  IsTextTree (all_of ts) = AreTextTrees ts
  IsTextTree (any_of ts) = AreTextTrees ts
  IsTextTree (without t) = IsTextTree t

  pub AreTextTrees : Trees → Type 0
  AreTextTrees no_more = Unit {0}
  AreTextTrees (also t ts) = IsTextTree t × AreTextTrees ts

abbrev pub AreTextPatterns : List Pattern → Type 0
AreTextPatterns [] = Unit {0}
AreTextPatterns (p ∷ ps) = All ShowsText p.tests × AreTextPatterns ps

joined_tests : (ps : List Pattern) → AreTextPatterns ps → All ShowsText (joint_pattern ps).tests
joined_tests [] h = All-nil _
joined_tests (p ∷ ps) h = All-append ShowsText p.tests (joint_pattern ps).tests h.0 (joined_tests ps h.1)

with_text : (p : Pattern) (numbers : Option (ℕ × ℕ)) (ps : List Pattern) → All ShowsText p.tests → AreTextPatterns ps → AreTextPatterns (with_pattern p numbers ps)
with_text p None ps h k = (h, k)
with_text p (Some n) ps h k = k

atoms_text : (qs : Shapes) → HaveTextTerms qs → AreTextPatterns (atoms_in qs)
atoms_text none h = tt
atoms_text (more (atom a) qs) h = with_text (pattern_of a) (numbers_in a) (atoms_in qs) (shows (pattern_of a).tests h.0) (atoms_text qs h.1)
atoms_text (more (all rs) qs) h = atoms_text qs h.1
atoms_text (more (any rs) qs) h = atoms_text qs h.1
atoms_text (more (negated r) qs) h = atoms_text qs h.1

all_plan_text : (ps : List Pattern) (ts : Trees) → AreTextPatterns ps → AreTextTrees ts → IsTextTree (all_plan ps ts)
all_plan_text ps no_more h k = joined_tests ps h
all_plan_text [] (also t ts) h k = k
all_plan_text (p ∷ ps) (also t ts) h k = (joined_tests (p ∷ ps) h, k)

-- a value's ranges
range_plan_text : (r : Range) → IsTextTree (range_plan r)
range_plan_text r = All-cons ShowsText (range_test r) [] (range_shows r) (All-nil ShowsText)

ranges_text : (ranges : List Range) → AreTextTrees (trees_of (map range_plan ranges))
ranges_text [] = tt
ranges_text (r ∷ ranges) = (range_plan_text r, ranges_text ranges)

either_plan_text : (ranges : List Range) → IsTextTree (either_of (map range_plan ranges))
either_plan_text [] = tt
either_plan_text (r ∷ []) = range_plan_text r
either_plan_text (r ∷ next ∷ ranges) = ranges_text (r ∷ next ∷ ranges)

atom_plan_text : (p : Pattern) (numbers : Option (ℕ × ℕ)) → All ShowsText p.tests → IsTextTree (atom_plan p numbers)
atom_plan_text p None h = h
atom_plan_text p (Some n) h = either_plan_text (cover_of n.0 n.1)

value_text : (p : Pattern) (numbers : Option (ℕ × ℕ)) (ts : Trees) → All ShowsText p.tests → AreTextTrees ts → AreTextTrees (with_value p numbers ts)
value_text p None ts h k = k
value_text p (Some n) ts h k = (atom_plan_text p (Some n) h, k)

mutual
  plan_text : (q : Shape) → HasTextTerms q → IsTextTree (plan_of q)
  plan_text (atom a) h = atom_plan_text (pattern_of a) (numbers_in a) (shows (pattern_of a).tests h)
  plan_text (all qs) h = all_plan_text (atoms_in qs) (others_of qs) (atoms_text qs h) (others_text qs h)
  plan_text (any qs) h = plans_text qs h
  plan_text (negated q) h = plan_text q h

  plans_text : (qs : Shapes) → HaveTextTerms qs → AreTextTrees (plans_of qs)
  plans_text none h = tt
  plans_text (more q qs) h = (plan_text q h.0, plans_text qs h.1)

  others_text : (qs : Shapes) → HaveTextTerms qs → AreTextTrees (others_of qs)
  others_text none h = tt
  others_text (more (atom a) qs) h = value_text (pattern_of a) (numbers_in a) (others_of qs) (shows (pattern_of a).tests h.0) (others_text qs h.1)
  others_text (more (all rs) qs) h = (plan_text (all rs) h.0, others_text qs h.1)
  others_text (more (any rs) qs) h = (plan_text (any rs) h.0, others_text qs h.1)
  others_text (more (negated r) qs) h = (plan_text (negated r) h.0, others_text qs h.1)

deeper_text : (margin : List ℕ) → IsUtf8 margin → IsUtf8 (deeper margin)
deeper_text margin m = both m (plain (codes "  ") refl)

-- a node's first line, and what stands below it
head_text : (margin word rest : List ℕ) (n : ℕ) → IsUtf8 margin → IsUtf8 word → IsUtf8 rest → IsUtf8 (margin ++ word ++ decimal n ++ codes "\n" ++ rest)
head_text margin word rest n m w r = both (both (both (both m w) (decimal_text n)) (plain (codes "\n") refl)) r

mutual
  lines_text : (margin : List ℕ) → IsUtf8 margin → (t : Tree) → IsTextTree t → IsUtf8 (explained margin t)
  lines_text margin m (found f) h =
      both (both (both (both m (plain (codes "found D") refl)) (each_test_text f.tests h)) (plain (codes "\n") refl)) (bounds_text (deeper margin) (deeper_text margin m) f.bounds)
  lines_text margin m (all_of ts) h =
      head_text margin (codes "all ") (explained_each (deeper margin) ts) (count ts) m (plain (codes "all ") refl) (each_lines_text (deeper margin) (deeper_text margin m) ts h)
  lines_text margin m (any_of ts) h =
      head_text margin (codes "any ") (explained_each (deeper margin) ts) (count ts) m (plain (codes "any ") refl) (each_lines_text (deeper margin) (deeper_text margin m) ts h)
  lines_text margin m (without t) h = both (both m (plain (codes "not\n") refl)) (lines_text (deeper margin) (deeper_text margin m) t h)

  each_lines_text : (margin : List ℕ) → IsUtf8 margin → (ts : Trees) → AreTextTrees ts → IsUtf8 (explained_each margin ts)
  each_lines_text margin m no_more h = IsUtf8-nil
  each_lines_text margin m (also t ts) h = both (lines_text margin m t h.0) (each_lines_text margin m ts h.1)

pub plan_is_text : (q : Shape) → HasTextTerms q → IsUtf8 (explained [] (plan_of q))
plan_is_text q h = lines_text [] IsUtf8-nil (plan_of q) (plan_text q h)
