-- Where a term stands in a join, and which terms it has.
use Rattle.std.proofs.Common.{◌≡◌, ⊎_elim, ℕ, false, cond, List, [], ◌∷◌, ◌++◌, map, refl, sym, ap, subst, ◌∙◌}
use Rattle.std.specs.List.{flat_map}
use Rattle.std.specs.Str.{bytes_eq}
use Rattle.std.proofs.lemmas.Bool.{cases_Bool, or_parts}
use Rattle.alta_content.specs.TermList.{TermList}
use Rattle.alta_content.specs.Joining.{gathered, locations_among, terms_among}
use Rattle.alta_content.specs.Lists.{TermsRise, locations_of, terms_of}
use Rattle.alta_content.specs.Spans.{lists_outside, outside_of}
use Rattle.alta_content.specs.declared.spans.Span.{Span}
use Rattle.alta_content.proofs.Outside.{locations_outside, sorted_outside}
use Rattle.alta_content.proofs.Order.{After, Sorted, has, has_append, has_in_order, in_order_sorted, less_differs, same_term}

-- nothing stands at a term before all of a part
pub nowhere : (t : List ℕ) (lists : List TermList) → After t (terms_of lists) → locations_of lists t ≡ []
nowhere t [] a = refl
nowhere t (l ∷ ls) a = rw (less_differs t l.term a.0) (nowhere t ls a.1)

abbrev pub all_terms : List (List TermList) → List (List ℕ)
all_terms parts = flat_map terms_of parts

abbrev pub list_at : List (List TermList) → List ℕ → TermList
list_at parts t = record { term = t; locations = locations_among parts t }

terms_are : (parts : List (List TermList)) (ts : List (List ℕ)) → terms_of (map (list_at parts) ts) ≡ ts
terms_are parts [] = refl
terms_are parts (t ∷ ts) = ap (λ l. t ∷ l) (terms_are parts ts)

pub gathered_terms : (parts : List (List TermList)) → terms_of (gathered parts) ≡ terms_among parts
gathered_terms parts = terms_are parts (terms_among parts)

pub gathered_rise : (parts : List (List TermList)) → TermsRise (gathered parts)
gathered_rise parts = subst Sorted (sym (gathered_terms parts)) (in_order_sorted (all_terms parts))

absent : (t : List ℕ) (lists : List TermList) → has t (terms_of lists) ≡ false → locations_of lists t ≡ []
absent t [] h = refl
absent t (l ∷ ls) h = let p = or_parts (bytes_eq t l.term) (has t (terms_of ls)) h in rw (p.0) (absent t ls p.1)

absent_among : (t : List ℕ) (parts : List (List TermList)) → has t (all_terms parts) ≡ false → locations_among parts t ≡ []
absent_among t [] h = refl
absent_among t (p ∷ ps) h =
    let q = or_parts (has t (terms_of p)) (has t (all_terms ps)) (sym (has_append t (terms_of p) (all_terms ps)) ∙ h) in
    ap (λ l. l ++ locations_among ps t) (absent t p q.0) ∙ absent_among t ps q.1

locations_at : (parts : List (List TermList)) (t : List ℕ) (ts : List (List ℕ)) → locations_of (map (list_at parts) ts) t ≡ cond (has t ts) (locations_among parts t) []
locations_at parts t [] = refl
locations_at parts t (u ∷ us) =
    ⊎_elim
    (λ e. rw e (ap (locations_among parts) (sym (same_term t u e))))
    (λ n. rw n (locations_at parts t us))
    (cases_Bool (bytes_eq t u))

pub gathered_locations : (parts : List (List TermList)) (t : List ℕ) → locations_of (gathered parts) t ≡ locations_among parts t
gathered_locations parts t =
    locations_at parts t (terms_among parts)
    ∙ ap (λ b. cond b (locations_among parts t) []) (has_in_order t (all_terms parts))
    ∙ ⊎_elim
    (λ y. ap (λ b. cond b (locations_among parts t) []) y)
    (λ n. ap (λ b. cond b (locations_among parts t) []) n ∙ sym (absent_among t parts n))
    (cases_Bool (has t (all_terms parts)))

-- ---- outside of spans

pub outside_rise : (spans : List Span) (parts : List (List TermList)) → TermsRise (lists_outside spans (gathered parts))
outside_rise spans parts = sorted_outside spans (gathered parts) (gathered_rise parts)

pub outside_locations : (spans : List Span) (parts : List (List TermList)) (t : List ℕ) → locations_of (lists_outside spans (gathered parts)) t ≡ outside_of spans (locations_among parts t)
outside_locations spans parts t = locations_outside spans (gathered parts) t (gathered_rise parts) ∙ ap (outside_of spans) (gathered_locations parts t)
