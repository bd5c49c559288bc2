-- A text of words, one word more at a time.
use Rattle.std.proofs.Common.{◌≡◌, ℕ, zero, suc, ◌+◌, ◌<◌, List, [], ◌∷◌, ◌++◌, append_assoc, length, get_or, map, take, Bool, true, false, refl, sym, ap, subst, ◌∙◌, arith}
use Rattle.std.specs.Prelude.{◌==◌, if◌then◌else◌}
use Rattle.std.specs.List.{list_all, join_with_byte}
use Rattle.std.proofs.lemmas.Bool.{and_parts, ne_eqb}
use Rattle.std.proofs.lemmas.List.{length-map, length-take-le, map-append, take_more}
use Rattle.alta_gather.specs.declared.held.Held.{Held}
use Rattle.alta_dump.specs.Seen.{word_at, is_word, text_seen}

-- behind the first word each has a space before it
abbrev pub spaced : Bool → List ℕ → List ℕ
spaced first word = if first then word else 32 ∷ word

not_none : (n : ℕ) → (suc n == 0) ≡ false
not_none n = ne_eqb (suc n) 0 (λ e. omega (arith, e))

join_push : (words : List (List ℕ)) (word : List ℕ) → join_with_byte 32 (words ++ word ∷ []) ≡ join_with_byte 32 words ++ spaced (length words == 0) word
join_push [] word = refl
join_push (first ∷ []) word = refl
join_push (first ∷ next ∷ words) word =
    ap (λ (rest : List ℕ). first ++ (32 ∷ rest)) (join_push (next ∷ words) word ∙ ap (λ (b : Bool). join_with_byte 32 (next ∷ words) ++ spaced b word) (not_none (length words)))
    ∙ sym (append_assoc first (32 ∷ join_with_byte 32 (next ∷ words)) (32 ∷ word))
    ∙ ap (λ (b : Bool). join_with_byte 32 (first ∷ next ∷ words) ++ spaced b word) (sym (not_none (suc (length words))))

pub text_more : (terms : List (List ℕ)) (words : List Held) (i : ℕ) (d : Held) → i < length words
    → text_seen terms (take (i + 1) words) ≡ text_seen terms (take i words) ++ spaced (i == 0) (word_at terms (get_or words i d))
text_more terms words i d lt =
    let long : length (map (word_at terms) (take i words)) ≡ i = length-map (take i words) (word_at terms) ∙ length-take-le i words (omega arith) in
    ap (λ (ws : List Held). join_with_byte 32 (map (word_at terms) ws)) (take_more words i d lt)
    ∙ ap (join_with_byte 32) (map-append (word_at terms) (take i words) (get_or words i d ∷ []))
    ∙ join_push (map (word_at terms) (take i words)) (word_at terms (get_or words i d))
    ∙ ap (λ (n : ℕ). text_seen terms (take i words) ++ spaced (n == 0) (word_at terms (get_or words i d))) long

pub word_there : (p : Held → Bool) (words : List Held) (i : ℕ) (d : Held) → i < length words → list_all p words ≡ true → p (get_or words i d) ≡ true
word_there p [] i d lt all = absurd (omega (arith, lt))
word_there p (word ∷ words) zero d lt all = (and_parts (p word) (list_all p words) all).0
word_there p (word ∷ words) (suc i) d lt all = word_there p words i d (omega (arith, lt)) (and_parts (p word) (list_all p words) all).1

pub text_step : (terms : List (List ℕ)) (words : List Held) (i : ℕ) (d h : Held) (old new : List ℕ) → i < length words → h ≡ get_or words i d
    → (list_all (is_word terms) words ≡ true → old ≡ text_seen terms (take i words)) → (is_word terms h ≡ true → new ≡ old ++ (if i == 0 then word_at terms h else 32 ∷ word_at terms h))
    → list_all (is_word terms) words ≡ true → new ≡ text_seen terms (take (i + 1) words)
text_step terms words i d h old new lt is so_far more fine =
    subst (λ (k : Held). is_word terms k ≡ true → new ≡ old ++ (if i == 0 then word_at terms k else 32 ∷ word_at terms k)) is more (word_there (is_word terms) words i d lt fine)
    ∙ ap (λ (bytes : List ℕ). bytes ++ spaced (i == 0) (word_at terms (get_or words i d))) (so_far fine)
    ∙ sym (text_more terms words i d lt)
