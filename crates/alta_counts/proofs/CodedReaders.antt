-- Readers of coded lists, and a walk over readers that read the same and stand at the same places.
use Rattle.std.proofs.Common.{◌≡◌, ⊎_elim, ℕ, ◌<◌, List, [], ◌∷◌, ◌++◌, map, drop, length, get_or, refl, sym, subst, ap, ◌∙◌, arith}
use Rattle.std.specs.Prelude.{All, sum_by}
use Rattle.std.proofs.lemmas.List.{length-map}
use Rattle.std.proofs.lemmas.List.Elements.{All-nil, All-cons, All-head, All-tail}
use Rattle.std.proofs.lemmas.List.Sums.{sum_by-cons}
use Rattle.alta_codec.specs.declared.location.TheConstants.{TOP}
use Rattle.alta_codec.specs.Rising.{first_from}
use Rattle.alta_counts.specs.Walking.{CanWalk, Tallies}
use Rattle.alta_counts.specs.declared.walk.Asking.{Asking}
use Rattle.alta_counts.specs.declared.walk.Asking.TheVariants.{Led}
use Rattle.alta_lead.specs.declared.reader.LeadReader.{LeadReader}
use Rattle.alta_search.specs.Leads.{IsSoundLed}
use Rattle.alta_search.specs.Words.{IsSoundSingle, single_list, single_place}
use Rattle.alta_search.specs.declared.single_reader.SingleReader.{SingleReader}
use Rattle.alta_search.specs.declared.single_reader.SingleReader.TheVariants.{Coded}
use Rattle.alta_words.specs.Held.{IsSoundWord}
use Rattle.alta_words.specs.declared.word.WordReader.{WordReader}

pub after_front : {X : Type 0} (P : X → Type 0) (xs ys : List X) → All P (xs ++ ys) → All P ys
after_front P [] ys h = h
after_front P (x ∷ xs) ys h = after_front P xs ys (All-tail P x (xs ++ ys) h)

pub nothing_left : {X : Type 0} (xs : List X) → length xs ≡ 0 → xs ≡ []
nothing_left [] h = refl
nothing_left (x ∷ xs) h = absurd (omega (arith, h))

coded_map : {X : Type 0} (f : SingleReader → X) (ws : List WordReader) → map f (map Coded ws) ≡ map (λ w. f (Coded w)) ws
coded_map f [] = refl
coded_map f (w ∷ ws) = ap (λ xs. f (Coded w) ∷ xs) (coded_map f ws)

pub coded_sum : (f : SingleReader → ℕ) (ws : List WordReader) → sum_by f (map Coded ws) ≡ sum_by (λ w. f (Coded w)) ws
coded_sum f [] = refl
coded_sum f (w ∷ ws) = omega (arith, sum_by-cons f (Coded w) (map Coded ws), sum_by-cons (λ v. f (Coded v)) w ws, coded_sum f ws)

pub coded_sound : (ws : List WordReader) → All IsSoundSingle (map Coded ws) → All IsSoundWord ws
coded_sound [] h = All-nil IsSoundWord
coded_sound (w ∷ ws) h =
    All-cons IsSoundWord w ws (All-head IsSoundSingle (Coded w) (map Coded ws) h) (coded_sound ws (All-tail IsSoundSingle (Coded w) (map Coded ws) h))

-- what holds of the readers of coded lists that these readers are
pub as_coded : {X : Type 0} (f : SingleReader → X) (ws : List WordReader) (rs : List SingleReader) → map Coded ws ≡ rs → map (λ w. f (Coded w)) ws ≡ map f rs
as_coded f ws rs is = sym (coded_map f ws) ∙ ap (map f) is

-- ---- readers that were not moved

pub places_are : {R : Type 0} (list : R → List ℕ) (place : R → ℕ) (rs : List R) → All (λ r. place r ≡ first_from (list r) 0) rs
    → map place rs ≡ map (λ l. first_from l 0) (map list rs)
places_are list place [] h = refl
places_are list place (r ∷ rs) h =
    ap (λ p. p ∷ map place rs) (All-head (λ x. place x ≡ first_from (list x) 0) r rs h)
    ∙ ap (λ ps. first_from (list r) 0 ∷ ps) (places_are list place rs (All-tail (λ x. place x ≡ first_from (list x) 0) r rs h))

heads : (x y : ℕ) (xs ys : List ℕ) → x ∷ xs ≡ y ∷ ys → x ≡ y
heads x y xs ys h = ap (λ l. get_or l 0 0) h

tails : (x y : ℕ) (xs ys : List ℕ) → x ∷ xs ≡ y ∷ ys → xs ≡ ys
tails x y xs ys h = ap (drop 1) h

pub each_unmoved : {R : Type 0} (list : R → List ℕ) (place : R → ℕ) (rs : List R) → map place rs ≡ map (λ l. first_from l 0) (map list rs)
    → All (λ r. place r ≡ first_from (list r) 0) rs
each_unmoved list place [] h = All-nil (λ r. place r ≡ first_from (list r) 0)
each_unmoved list place (r ∷ rs) h =
    All-cons (λ x. place x ≡ first_from (list x) 0) r rs (heads (place r) (first_from (list r) 0) (map place rs) (map (λ l. first_from l 0) (map list rs)) h)
    (each_unmoved list place rs (tails (place r) (first_from (list r) 0) (map place rs) (map (λ l. first_from l 0) (map list rs)) h))

-- ---- readers that read the same and stand at the same places

pub can_same : (asking : Asking) (es es' : List ℕ) (ws ws' ns ns' : List (List ℕ)) (at e e' : ℕ) (ps ps' os os' : List ℕ) → es' ≡ es → ws' ≡ ws → ns' ≡ ns → e' ≡ e → ps' ≡ ps → os' ≡ os
    → CanWalk asking es ws ns at e ps os → CanWalk asking es' ws' ns' at e' ps' os'
can_same asking es es' ws ws' ns ns' at e e' ps ps' os os' a b c d f g h =
    subst (λ x. CanWalk asking x ws' ns' at e' ps' os') (sym a)
    (subst (λ x. CanWalk asking es x ns' at e' ps' os') (sym b)
    (subst (λ x. CanWalk asking es ws x at e' ps' os') (sym c)
    (subst (λ x. CanWalk asking es ws ns at x ps' os') (sym d)
    (subst (λ x. CanWalk asking es ws ns at e x os') (sym f)
    (subst (λ x. CanWalk asking es ws ns at e ps x) (sym g) h)))))

pub tallies_same : (asking : Asking) (es es' : List ℕ) (ws ws' ns ns' : List (List ℕ)) (at : ℕ) (gone : List ℕ) (left left' before after : ℕ) (Counts : (ℕ → Type 0) → Type 0)
    → es' ≡ es → ws' ≡ ws → ns' ≡ ns → left' ≡ left
    → Tallies asking es' ws' ns' at gone left' before after Counts → Tallies asking es ws ns at gone left before after Counts
tallies_same asking es es' ws ws' ns ns' at gone left left' before after Counts a b c d h =
    subst (λ x. Tallies asking x ws ns at gone left before after Counts) a
    (subst (λ x. Tallies asking es' x ns at gone left before after Counts) b
    (subst (λ x. Tallies asking es' ws' x at gone left before after Counts) c
    (subst (λ x. Tallies asking es' ws' ns' at gone x before after Counts) d h)))

-- a reader that a word leads stands at an answer below TOP
pub led_can : (r : LeadReader SingleReader) → IsSoundLed r → r.at < TOP
    → CanWalk (Led r.lead) (single_list r.ends.inner) (map single_list r.words.items) (map single_list r.negated.items) r.at
    (single_place r.ends.inner) (map single_place r.words.items) (map single_place r.negated.items)
led_can r s below =
    let u = s.unpassed below in (
      omega (arith, s.lead, length-map r.words.items single_list),
      record {
        answer = ⊎_elim (λ m. m) (λ t. absurd (omega (arith, t, below))) s.stands;
        ends_ahead = u.ends;
        words_ahead = u.words;
        negated_ahead = u.negated;
      },
    )
