-- The words of a UTF-8 text are UTF-8, and so are the terms that they ask for.
use Rattle.std.proofs.Common.{◌≡◌, ℕ, List, [], ◌∷◌, ◌++◌, map, Bool, true, false, ◌&&◌, if◌then◌else◌, refl, subst, lit<}
use Rattle.std.specs.Prelude.{encode_utf8_all}
use Rattle.std.specs.List.{All}
use Rattle.std.specs.Str.{IsUtf8, all_scalars, bytes_eq, chars}
use Rattle.std.proofs.lemmas.List.Elements.{All-nil, All-cons, All-head, All-tail, All-map, All-weaker, All-filter}
use Rattle.std.proofs.lemmas.Slice.Eq.{bytes_eq-Decides}
use Rattle.std.proofs.lemmas.Str.{scalars-chars}
use Rattle.alta_machine.specs.declared.kinds.TheConstants.{WORD, WRITTEN}
use Rattle.alta_query.specs.Texts.{HasTextTerm}
use Rattle.alta_machine.specs.Words.{word_term, word_test, tests_of}
use Rattle.alta_query.proofs.Texts.{term_text}
use Rattle.alta_text.specs.Words.{folded_of}
use Rattle.unicode_segmentation.specs.Segments.{Rule, prepend, cut, segments, has_alphanumeric}
use Rattle.unicode_segmentation.specs.Word.{is_word_break, words}

-- what both values of a choice have
pub if_has : {X : Type 0} (P : X → Type 0) (c : Bool) (x y : X) → (c ≡ true → P x) → (c ≡ false → P y) → P (if c then x else y)
if_has P true x y first second = first refl
if_has P false x y first second = second refl

abbrev AreScalars : List ℕ → Type 0
AreScalars cs = all_scalars cs ≡ true

-- the first of two tests that pass, and the second
first_of : (a b : Bool) → (a && b) ≡ true → (a && true) ≡ true
first_of true b h = refl
first_of false b h = absurd (cc)

second_of : (a b : Bool) → (a && b) ≡ true → b ≡ true
second_of true b h = h
second_of false b h = absurd (cc)

and_too : (a b : Bool) → (a && true) ≡ true → b ≡ true → (a && b) ≡ true
and_too true b h k = k
and_too false b h k = absurd (cc)

prepend_scalars : (c : ℕ) (pieces : List (List ℕ)) → AreScalars (c ∷ []) → All AreScalars pieces → All AreScalars (prepend (c ∷ []) pieces)
prepend_scalars c [] one all = All-cons AreScalars (c ∷ []) [] one (All-nil AreScalars)
prepend_scalars c (piece ∷ pieces) one all =
    All-cons AreScalars (c ∷ piece) pieces (and_too _ (all_scalars piece) one (All-head AreScalars piece pieces all)) (All-tail AreScalars piece pieces all)

-- characters that are cut are characters
cut_scalars : (rule : Rule) (before cs after : List ℕ) → AreScalars cs → All AreScalars (cut rule before cs after)
unfolding cut
cut_scalars rule before [] after h = All-nil AreScalars
cut_scalars rule before (c ∷ cs) after h =
    let rest : All AreScalars (cut rule (c ∷ before) cs after) = cut_scalars rule (c ∷ before) cs after (second_of _ (all_scalars cs) h) in
    let one : AreScalars (c ∷ []) = first_of _ (all_scalars cs) h in
    if_has (All AreScalars) (rule (c ∷ before) (cs ++ after)) ((c ∷ []) ∷ cut rule (c ∷ before) cs after) (prepend (c ∷ []) (cut rule (c ∷ before) cs after))
    (λ broken. All-cons AreScalars (c ∷ []) (cut rule (c ∷ before) cs after) one rest)
    (λ whole. prepend_scalars c (cut rule (c ∷ before) cs after) one rest)

pub words_text : (text : List ℕ) → IsUtf8 text → All IsUtf8 (words text)
unfolding segments
words_text text u =
    let pieces = cut is_word_break [] (chars text) [] in
    All-filter has_alphanumeric IsUtf8 (map encode_utf8_all pieces)
    (All-map IsUtf8 encode_utf8_all pieces
    (All-weaker AreScalars (λ cs. IsUtf8 (encode_utf8_all cs)) (λ cs h. (cs, (h, refl))) pieces (cut_scalars is_word_break [] (chars text) [] (scalars-chars text u))))

-- the term of a word that is UTF-8 as written
pub word_term_text : (written folded : List ℕ) → IsUtf8 written → IsUtf8 (word_term (written, folded))
unfolding word_term
word_term_text written folded u =
    if_has IsUtf8 (bytes_eq written folded) (WORD ∷ folded) (WRITTEN ∷ written)
    (λ same. term_text WORD folded (lit< tt) (subst IsUtf8 ((bytes_eq-Decides written folded).0 same) u))
    (λ other. term_text WRITTEN written (lit< tt) u)

pub tests_text : (text : List ℕ) → IsUtf8 text → All HasTextTerm (tests_of text)
unfolding tests_of
tests_text text u =
    All-map HasTextTerm word_test (map (λ written. (written, folded_of written)) (words text))
    (All-map (λ word. HasTextTerm (word_test word)) (λ written. (written, folded_of written)) (words text)
    (All-weaker IsUtf8 (λ written. HasTextTerm (word_test (written, folded_of written))) (λ written h. word_term_text written (folded_of written) h) (words text) (words_text text u)))
