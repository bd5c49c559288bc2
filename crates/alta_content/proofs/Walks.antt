-- A walk along spans beside locations.
use Rattle.std.proofs.Common.{◌≡◌, ℕ, ◌+◌, ◌<◌, ◌≤◌, Bool, true, false, not, cond, List, [], ◌∷◌, ◌++◌, length, take, drop, set, get_or, refl, sym, ap, ◌∙◌, arith}
use Rattle.std.specs.Prelude.{nat_le}
use Rattle.std.proofs.lemmas.List.{get_or-map, append-nil, length-set, take_more_set, drop-set-lt, drop_more, get_or-drop}
use Rattle.std.proofs.lemmas.List.Elements.{filter_more}
use Rattle.alta_content.specs.declared.spans.Span.{Span}
use Rattle.alta_content.specs.Spans.{SpansRise, is_within, lasts_of, outside_of}
use Rattle.alta_content.proofs.Outside.{last_rises, within_at, within_none}

abbrev no_span : Span
no_span = record { first = 0; last = 0 }

last_is : (spans : List Span) (k : ℕ) (d : Span) → k < length spans → get_or (lasts_of spans) k 0 ≡ (get_or spans k d).last
last_is spans k d l = get_or-map (λ s. s.last) spans k d 0 l

-- where a span ends before the location, so do all before it
pub ends_before : (spans : List Span) (j x : ℕ) → SpansRise spans → j < length spans → get_or (lasts_of spans) j 0 < x → (k : ℕ) → k < j + 1 → get_or (lasts_of spans) k 0 < x
ends_before spans j x rises l lt k m =
    let at_j = last_is spans j no_span l in
    let at_k = last_is spans k no_span (omega (arith, l, m)) in
    let le : (get_or spans k no_span).last ≤ (get_or spans j no_span).last = last_rises spans rises k j no_span (omega (arith, m)) l in
    omega (arith, at_j, at_k, le, lt)

-- the span at which the walk stands is the only one that may have the location
pub has_there : (spans : List Span) (at x : ℕ) (d : Span) → SpansRise spans → at < length spans → ((k : ℕ) → k < at → get_or (lasts_of spans) k 0 < x) → x ≤ get_or (lasts_of spans) at 0
    → nat_le (get_or spans at d).first x ≡ is_within spans x
has_there spans at x d rises l before found =
    sym (within_at spans at x d rises l
    (λ k m. let e = last_is spans k d (omega (arith, l, m)) in let lt = before k m in omega (arith, e, lt))
    (let e = last_is spans at d l in omega (arith, e, found)))

pub has_none : (spans : List Span) (x : ℕ) → ((k : ℕ) → k < length spans → get_or (lasts_of spans) k 0 < x) → false ≡ is_within spans x
has_none spans x before = sym (within_none spans x no_span (λ k m. let e = last_is spans k no_span m in let lt = before k m in omega (arith, e, lt)))

-- ---- what a walk leaves in place

-- one location more
outside_more : (spans : List Span) (old : List ℕ) (i x : ℕ) (b : Bool) → i < length old → x ≡ get_or old i 0 → b ≡ is_within spans x
    → outside_of spans (take (i + 1) old) ≡ outside_of spans (take i old) ++ cond b [] (x ∷ [])
outside_more spans old i x b l at is =
    filter_more (λ y. not (is_within spans y)) old i 0 l
    ∙ ap (λ (tail : List ℕ). outside_of spans (take i old) ++ tail) (ap (λ (y : ℕ). cond (not (is_within spans y)) (y ∷ []) []) (sym at) ∙ ap (λ (c : Bool). cond (not c) (x ∷ []) []) (sym is) ∙ turned b)
  where
    turned : (c : Bool) → cond (not c) (x ∷ []) [] ≡ cond c [] (x ∷ [])
    turned true = refl
    turned false = refl

-- so many locations are kept in front, of those before the index, and from there on all stand as they did
pub record IsKept (spans : List Span) (old now : List ℕ) (kept i : ℕ) : Type 0 where
  pub few : kept ≤ i
  pub long : length now ≡ length old
  pub front : take kept now ≡ outside_of spans (take i old)
  pub back : drop i now ≡ drop i old

-- the location at the index is the one that stood there
there : (spans : List Span) (old now : List ℕ) (kept i x : ℕ) → IsKept spans old now kept i → x ≡ get_or now i 0 → x ≡ get_or old i 0
there spans old now kept i x h at =
    at ∙ ap (λ (k : ℕ). get_or now k 0) (omega arith) ∙ sym (get_or-drop i now 0 0) ∙ ap (λ (l : List ℕ). get_or l 0 0) h.back ∙ get_or-drop i old 0 0 ∙ ap (λ (k : ℕ). get_or old k 0) (omega arith)

back_more : (old now : List ℕ) (i : ℕ) → i < length now → length now ≡ length old → drop i now ≡ drop i old → drop (i + 1) now ≡ drop (i + 1) old
back_more old now i l long back = ap (λ (xs : List ℕ). drop 1 xs) (sym (drop_more now i 0 l) ∙ back ∙ drop_more old i 0 (omega (arith, l, long)))

pub left_out : (spans : List Span) (old now : List ℕ) (kept i x : ℕ) → IsKept spans old now kept i → i < length now → x ≡ get_or now i 0 → true ≡ is_within spans x → IsKept spans old now kept (i + 1)
left_out spans old now kept i x h l at is = record {
  few = omega (arith, h.few);
  long = h.long;
  front = h.front ∙ sym (append-nil (outside_of spans (take i old))) ∙ sym (outside_more spans old i x true (omega (arith, l, h.long)) (there spans old now kept i x h at) is);
  back = back_more old now i l h.long h.back;
}

pub taken_on : (spans : List Span) (old now : List ℕ) (kept i x : ℕ) → IsKept spans old now kept i → i < length now → x ≡ get_or now i 0 → false ≡ is_within spans x → IsKept spans old (set now kept x) (kept + 1) (i + 1)
taken_on spans old now kept i x h l at is = record {
  few = omega (arith, h.few);
  long = length-set now kept x ∙ h.long;
  front = take_more_set now kept x (omega (arith, h.few, l)) ∙ ap (λ (xs : List ℕ). xs ++ x ∷ []) h.front
      ∙ sym (outside_more spans old i x false (omega (arith, l, h.long)) (there spans old now kept i x h at) is);
  back = drop-set-lt (i + 1) now kept x (omega (arith, h.few)) ∙ back_more old now i l h.long h.back;
}
