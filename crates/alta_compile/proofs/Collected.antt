-- The loops over the members of a conjunction and of an or.
use Rattle.std.proofs.Common.{◌≡◌, ℕ, ◌+◌, ◌<◌, ◌≤◌, Bool, true, false, ◌&&◌, ◌||◌, cond, List, ◌++◌, length, drop, get_or, map, sym, subst, ap, ◌∙◌, append_assoc}
use Rattle.std.specs.Prelude.{Option, Some, None, is_some}
use Rattle.std.proofs.lemmas.List.{append-nil}
use Rattle.alta_machine.specs.Shape.{Shape, Shapes, more, none, shapes_of}
use Rattle.alta_query.specs.View.{shape}
use Rattle.alta_query.specs.declared.query.Query.{Query}
use Rattle.alta_machine.specs.declared.test.Test.{Test}
use Rattle.alta_compile.specs.Conjoined.{word_in, word_against, listed, words_in, words_against, are_words, is_some_word, conjunction_in, each_word}
use Rattle.alta_compile.specs.declared.asked.Conjunction.{Conjunction}
use Rattle.alta_compile.proofs.Gathered.{drop-next, drop-none}

-- the words that were found and those of the members that are left make the whole
pub record IsConjoining (ws ns : List Test) (rest whole : Shapes) : Type 0 where
  pub words : ws ++ words_in rest ≡ words_in whole
  pub negated : ns ++ words_against rest ≡ words_against whole
  pub each : are_words rest ≡ are_words whole

next_list : (xs ys zs rest whole : List Test) → xs ++ (ys ++ rest) ≡ whole → zs ≡ xs ++ ys → zs ++ rest ≡ whole
next_list xs ys zs rest whole e f = ap (λ l. l ++ rest) f ∙ append_assoc xs ys rest ∙ e

conjoining_next : (ws ns vs ms : List Test) (q : Shape) (rest whole : Shapes) → IsConjoining ws ns (more q rest) whole → (is_some (word_in q) || is_some (word_against q)) ≡ true
    → vs ≡ ws ++ listed (word_in q) → ms ≡ ns ++ listed (word_against q) → IsConjoining vs ms rest whole
conjoining_next ws ns vs ms q rest whole c found v m = record {
  words = next_list ws (listed (word_in q)) vs (words_in rest) (words_in whole) c.words v;
  negated = next_list ns (listed (word_against q)) ms (words_against rest) (words_against whole) c.negated m;
  each = sym (ap (λ b. b && are_words rest) found) ∙ c.each;
}

pub conjoining_step : (items : List Query) (i : ℕ) (q : Query) (ws ns vs ms : List Test) (whole : Shapes) → i < length items → get_or items i q ≡ q
    → (is_some (word_in (shape q)) || is_some (word_against (shape q))) ≡ true
    → vs ≡ ws ++ listed (word_in (shape q)) → ms ≡ ns ++ listed (word_against (shape q))
    → IsConjoining ws ns (shapes_of (map shape (drop i items))) whole → IsConjoining vs ms (shapes_of (map shape (drop (i + 1) items))) whole
conjoining_step items i q ws ns vs ms whole within is found v m c =
    conjoining_next ws ns vs ms (shape q) (shapes_of (map shape (drop (i + 1) items))) whole
    (subst (λ qs. IsConjoining ws ns (shapes_of (map shape qs)) whole) (drop-next items i q within is) c) found v m

abbrev some_conjunction : List Test → List Test → Option Conjunction
some_conjunction ws ns = Some (record { words = ws; negated = ns })

-- a member that is neither leaves nothing
pub conjoining_stops : (items : List Query) (i : ℕ) (q : Query) (ws ns : List Test) (whole : Shapes) → i < length items → get_or items i q ≡ q
    → (is_some (word_in (shape q)) || is_some (word_against (shape q))) ≡ false
    → IsConjoining ws ns (shapes_of (map shape (drop i items))) whole → None ≡ conjunction_in whole
conjoining_stops items i q ws ns whole within is missing c =
    let d : IsConjoining ws ns (more (shape q) (shapes_of (map shape (drop (i + 1) items)))) whole =
    subst (λ qs. IsConjoining ws ns (shapes_of (map shape qs)) whole) (drop-next items i q within is) c in
    let none : are_words whole ≡ false = sym d.each ∙ ap (λ b. b && are_words (shapes_of (map shape (drop (i + 1) items)))) missing in
    sym (ap (λ b. cond (b && is_some_word (words_in whole)) (some_conjunction (words_in whole) (words_against whole)) None) none)

whole_of : (ws ns vs ms : List Test) (b : Bool) → ws ≡ vs → ns ≡ ms → true ≡ b
    → cond (is_some_word ws) (some_conjunction ws ns) None ≡ cond (b && is_some_word vs) (some_conjunction vs ms) None
whole_of ws ns vs ms b w n e =
    ap (λ xs. cond (is_some_word xs) (some_conjunction xs ns) None) w
    ∙ ap (λ xs. cond (is_some_word vs) (some_conjunction vs xs) None) n
    ∙ ap (λ t. cond (t && is_some_word vs) (some_conjunction vs ms) None) e

pub conjoining_ends : (items : List Query) (i : ℕ) (ws ns : List Test) (whole : Shapes) → length items ≤ i
    → IsConjoining ws ns (shapes_of (map shape (drop i items))) whole
    → cond (is_some_word ws) (Some (record { words = ws; negated = ns })) None ≡ conjunction_in whole
conjoining_ends items i ws ns whole past c =
    let d : IsConjoining ws ns none whole = subst (λ qs. IsConjoining ws ns (shapes_of (map shape qs)) whole) (drop-none items i past) c in
    let w : ws ≡ words_in whole = sym (append-nil ws) ∙ d.words in
    let n : ns ≡ words_against whole = sym (append-nil ns) ∙ d.negated in
    let e : true ≡ are_words whole = d.each in
    whole_of ws ns (words_in whole) (words_against whole) (are_words whole) w n e

-- ---- whether each member is a word

module _ (items : List Query) (i : ℕ) (whole : Bool) where
  abbrev IsAsking : ℕ → Type 0
  IsAsking k = each_word (shapes_of (map shape (drop k items))) ≡ whole

  opened : (q : Query) → i < length items → get_or items i q ≡ q → IsAsking i
      → (is_some (word_in (shape q)) && each_word (shapes_of (map shape (drop (i + 1) items)))) ≡ whole
  opened q within is h = subst (λ qs. each_word (shapes_of (map shape qs)) ≡ whole) (drop-next items i q within is) h

  pub asking_step : (q : Query) → i < length items → get_or items i q ≡ q → is_some (word_in (shape q)) ≡ true → IsAsking i → IsAsking (i + 1)
  asking_step q within is found h = sym (ap (λ b. b && each_word (shapes_of (map shape (drop (i + 1) items)))) found) ∙ opened q within is h

  pub asking_stops : (q : Query) → i < length items → get_or items i q ≡ q → is_some (word_in (shape q)) ≡ false → IsAsking i → false ≡ whole
  asking_stops q within is missing h = sym (ap (λ b. b && each_word (shapes_of (map shape (drop (i + 1) items)))) missing) ∙ opened q within is h

  pub asking_ends : length items ≤ i → IsAsking i → true ≡ whole
  asking_ends past h = subst (λ qs. each_word (shapes_of (map shape qs)) ≡ whole) (drop-none items i past) h
