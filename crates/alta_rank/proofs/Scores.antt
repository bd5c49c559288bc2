-- Scores of ranges by the lists of uses.
use Rattle.std.proofs.Common.{◌≡◌, ⊎_elim, ℕ, suc, ◌+◌, ◌-◌, ◌*◌, ◌<◌, ◌≤◌, ltb, leb, Bool, true, false, List, [], ◌∷◌, length, get_or, drop, refl, sym, ap, ◌∙◌, arith, add-one}
use Rattle.std.proofs.Math.Seq.{drop-cons}
use Rattle.std.specs.Prelude.{Contains, ◌&&◌, All, filter, sum_by}
use Rattle.std.specs.List.{zip}
use Rattle.std.proofs.lemmas.List.{drop_all}
use Rattle.std.proofs.lemmas.List.Elements.{All-head, All-tail}
use Rattle.std.proofs.lemmas.List.Sums.{sum_by-cons}
use Rattle.alta_codec.specs.declared.location.TheConstants.{TOP}
use Rattle.alta_codec.specs.Rising.{IsRising, IsPlace, first_from, pred_of}
use Rattle.alta_compound.specs.Unions.{above_from_rising}
use Rattle.alta_machine.specs.Scores.{weight}
use Rattle.alta_rank.specs.Counted.{counted, counted_each}
use Rattle.alta_rank.specs.Locations.{ends_behind, list_score, range_score}
use Rattle.alta_machine.specs.declared.usage.Use.{Use}
use Rattle.alta_rank.proofs.Counting.{within, within-past, within-first, within-step, within-bound}

-- what each location counts
abbrev weigh : Bool → ℕ → ℕ → ℕ
weigh title last = λ at. weight title (ltb at last)

pub counted-is : (title : Bool) (last end : ℕ) (list : List ℕ) (first : ℕ) → counted title last end list first ≡ within (weigh title last) end list first
unfolding counted within
counted-is title last end list first = refl

pub weight-le : (title before : Bool) → weight title before ≤ 4
weight-le title true = omega arith
weight-le true false = omega arith
weight-le false false = omega arith

-- a location in the range, which counts w, and the rest
pub counted-next : (title : Bool) (last end : ℕ) (list : List ℕ) (at w : ℕ) → IsRising list → IsPlace list at → at ≤ end → end < TOP
    → w ≡ weight title (ltb at last)
    → counted title last end list at ≡ w + counted title last end list (first_from list (at + 1))
counted-next title last end list at w r p le top is =
    let has : Contains list at = ⊎_elim (λ m. m) (λ t. absurd (omega (arith, t, le, top))) p in
    counted-is title last end list at
    ∙ within-step (weigh title last) end 0 list at (above_from_rising list r) has le
    ∙ ap (λ n. n + within (weigh title last) end list (at + 1)) (sym is)
    ∙ ap (λ n. w + n) (within-first (weigh title last) end list (at + 1) (omega (arith, le, top)) ∙ sym (counted-is title last end list (first_from list (at + 1))))

pub counted-first : (title : Bool) (last end : ℕ) (list : List ℕ) (first : ℕ) → first ≤ TOP
    → counted title last end list (first_from list first) ≡ counted title last end list first
counted-first title last end list first top =
    counted-is title last end list (first_from list first) ∙ sym (within-first (weigh title last) end list first top) ∙ sym (counted-is title last end list first)

pub counted-past : (title : Bool) (last end : ℕ) (list : List ℕ) (at : ℕ) → end < at → counted title last end list at ≡ 0
counted-past title last end list at h = counted-is title last end list at ∙ within-past (weigh title last) end list at h

pub counted-bound : (title : Bool) (last end : ℕ) (list : List ℕ) (first : ℕ) → IsRising list → counted title last end list first ≤ (end + 1 - first) * 4
counted-bound title last end list first r =
    omega (arith, counted-is title last end list first, within-bound (weigh title last) end 4 0 list first (λ x. weight-le title (ltb x last)) (above_from_rising list r))

-- one use more
pub each-cons : (u : Use) (us : List Use) (l : List ℕ) (ls : List (List ℕ)) (last end first : ℕ)
    → counted_each (u ∷ us) (l ∷ ls) last end first ≡ counted u.title last end l first + counted_each us ls last end first
unfolding counted_each
each-cons u us l ls last end first = sum_by-cons (λ (v, list). counted v.title last end list first) (u, l) (zip us ls)

pub each-nil : (ls : List (List ℕ)) (last end first : ℕ) → counted_each [] ls last end first ≡ 0
unfolding counted_each
each-nil ls last end first = refl

each-none : (us : List Use) (last end first : ℕ) → counted_each us [] last end first ≡ 0
unfolding counted_each
each-none [] last end first = refl
each-none (u ∷ us) last end first = refl

one_more : (s v w n room : ℕ) → s ≡ v + w → v ≤ room → w ≤ n * room → s ≤ suc n * room
one_more s v w n room e a b = omega arith

regrouped : (n m : ℕ) → n * (m * 4) ≡ 4 * n * m
regrouped n m = omega arith

-- each use counts so much at most
pub each-bound : (us : List Use) (ls : List (List ℕ)) (last end first : ℕ) → All IsRising ls
    → counted_each us ls last end first ≤ length us * ((end + 1 - first) * 4)
each-bound [] ls last end first r = omega (arith, each-nil ls last end first)
each-bound (u ∷ us) [] last end first r = omega (arith, each-none (u ∷ us) last end first)
each-bound (u ∷ us) (l ∷ ls) last end first r =
    let room = (end + 1 - first) * 4 in
    let here : counted u.title last end l first ≤ room = counted-bound u.title last end l first (All-head IsRising l ls r) in
    let rest : counted_each us ls last end first ≤ length us * room = each-bound us ls last end first (All-tail IsRising l ls r) in
    one_more (counted_each (u ∷ us) (l ∷ ls) last end first) (counted u.title last end l first) (counted_each us ls last end first) (length us) room (each-cons u us l ls last end first) here rest

-- the same bound by the length of the range
pub each-fits : (us : List Use) (ls : List (List ℕ)) (last end first limit : ℕ) → All IsRising ls → first ≤ end
    → 4 * length us * (end - first + 1) < limit → counted_each us ls last end first < limit
each-fits us ls last end first limit r le fits =
    let span : end + 1 - first ≡ end - first + 1 = omega arith in
    let product : length us * ((end + 1 - first) * 4) ≡ 4 * length us * (end - first + 1) = ap (λ n. length us * (n * 4)) span ∙ regrouped (length us) (end - first + 1) in
    omega (arith, each-bound us ls last end first r, product, fits)

-- the use at an index, which counts w, and those behind it
pub each-next : (us : List Use) (ls ms : List (List ℕ)) (i : ℕ) (d : Use) (last end first w : ℕ) → i < length us → length us ≡ length ls → ms ≡ ls
    → w ≡ counted (get_or us i d).title last end (get_or ms i []) first
    → counted_each (drop i us) (drop i ls) last end first ≡ w + counted_each (drop (i + 1) us) (drop (i + 1) ls) last end first
each-next us ls ms i d last end first w within same still is =
    let e : drop i us ≡ get_or us i d ∷ drop (i + 1) us = rw add-one (drop-cons us i d within) in
    let f : drop i ls ≡ get_or ls i [] ∷ drop (i + 1) ls = rw add-one (drop-cons ls i [] (omega (arith, within, same))) in
    let rest = counted_each (drop (i + 1) us) (drop (i + 1) ls) last end first in
    ap (λ x. counted_each x (drop i ls) last end first) e
    ∙ ap (λ y. counted_each (get_or us i d ∷ drop (i + 1) us) y last end first) f
    ∙ each-cons (get_or us i d) (drop (i + 1) us) (get_or ls i []) (drop (i + 1) ls) last end first
    ∙ ap (λ n. n + rest) (ap (λ l. counted (get_or us i d).title last end (get_or l i []) first) (sym still) ∙ sym is)

pub each-end : (us : List Use) (ls : List (List ℕ)) (i last end first : ℕ) → length us ≤ i → counted_each (drop i us) (drop i ls) last end first ≡ 0
each-end us ls i last end first past =
    ap (λ x. counted_each x (drop i ls) last end first) (drop_all i us past) ∙ each-nil (drop i ls) last end first

-- a title ends behind a location exactly where the last end of a title in the range lies behind it

pub behind-last : (titles : List ℕ) (end at : ℕ) → ends_behind titles end at ≡ ltb at (pred_of titles (end + 1))
unfolding pred_of
behind-last [] end at = grind arith
behind-last (t ∷ ts) end at = grind (arith, behind-last ts end at)

weights : (title : Bool) (titles : List ℕ) (end at : ℕ) → weight title (ends_behind titles end at) ≡ weight title (ltb at (pred_of titles (end + 1)))
weights title titles end at = ap (weight title) (behind-last titles end at)

sum-same : (f h : ℕ → ℕ) (xs : List ℕ) → ((x : ℕ) → f x ≡ h x) → sum_by f xs ≡ sum_by h xs
sum-same f h [] e = refl
sum-same f h (x ∷ xs) e = sum_by-cons f x xs ∙ ap (λ n. n + sum_by f xs) (e x) ∙ ap (λ n. h x + n) (sum-same f h xs e) ∙ sym (sum_by-cons h x xs)

pub list-counted : (title : Bool) (list titles : List ℕ) (first end : ℕ)
    → list_score title list titles first end ≡ counted title (pred_of titles (end + 1)) end list first
unfolding counted
list-counted title list titles first end =
    sum-same (λ at. weight title (ends_behind titles end at)) (λ at. weight title (ltb at (pred_of titles (end + 1))))
    (filter (λ at. leb first at && leb at end) list) (weights title titles end)

pub range-cons : (u : Use) (us : List Use) (l : List ℕ) (ls : List (List ℕ)) (titles : List ℕ) (first end : ℕ)
    → range_score (u ∷ us) (l ∷ ls) titles first end ≡ list_score u.title l titles first end + range_score us ls titles first end
range-cons u us l ls titles first end = sum_by-cons (λ (v, list). list_score v.title list titles first end) (u, l) (zip us ls)

-- the score of a range is what all uses count
pub range-counted : (us : List Use) (ls : List (List ℕ)) (titles : List ℕ) (first end : ℕ)
    → range_score us ls titles first end ≡ counted_each us ls (pred_of titles (end + 1)) end first
range-counted [] ls titles first end = sym (each-nil ls (pred_of titles (end + 1)) end first)
range-counted (u ∷ us) [] titles first end = sym (each-none (u ∷ us) (pred_of titles (end + 1)) end first)
range-counted (u ∷ us) (l ∷ ls) titles first end =
    range-cons u us l ls titles first end
    ∙ ap (λ n. n + range_score us ls titles first end) (list-counted u.title l titles first end)
    ∙ ap (λ n. counted u.title (pred_of titles (end + 1)) end l first + n) (range-counted us ls titles first end)
    ∙ sym (each-cons u us l ls (pred_of titles (end + 1)) end first)
