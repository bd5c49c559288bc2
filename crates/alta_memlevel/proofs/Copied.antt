-- What the loop over the terms leaves.
use Rattle.std.proofs.Common.{◌≡◌, ℕ, ◌<◌, ◌==◌, zero, suc, true, false, ◌+◌, List, [], ◌∷◌, ◌++◌, drop, get_or, length, sym, ap, subst, ◌∙◌, append-nil, append_assoc, arith}
use mathlib.Core.Bool.{true≢false}
use Rattle.std.specs.Prelude.{nat_lt}
use Rattle.std.specs.Borrow.{Bor}
use Rattle.std.specs.Vec.{vec_len}
use Rattle.std.proofs.lemmas.Bool.{eqb-true, le-ltb, lt-ltb}
use Rattle.alta_content.specs.TermList.{TermList}
use Rattle.alta_content.specs.declared.spans.Span.{Span}
use Rattle.alta_content.specs.Joining.{in_order}
use Rattle.alta_content.specs.Spans.{outside_of, lists_outside}
use Rattle.alta_content.proofs.Outside.{left_of, outside_some, outside_none}
use Rattle.alta_memlevel.proofs.Prefixes.{left_more}
use Rattle.alta_memlevel.specs.Lists.{Entries, Numbers, bytes_in, keys_in, list_in, lists_at, term_lists}

-- the lists that were copied, and those of the terms still to copy
abbrev pub Copying : List Span → List TermList → List (List ℕ) → Entries → Type 0
Copying spans kept left es = kept ++ lists_outside spans (lists_at es left) ≡ lists_outside spans (term_lists es)

abbrev list_of_term : Entries → List ℕ → TermList
list_of_term es t = record { term = t; locations = list_in es t }

none_left : (n : ℕ) (xs : List ℕ) → length xs ≡ n → (n == 0) ≡ true → nat_lt 0 (length xs) ≡ false
none_left n xs e h = le-ltb 0 (length xs) (omega (arith, e, eqb-true n 0 h))

positive : (n m : ℕ) → m ≡ n → (n == 0) ≡ false → 0 < m
positive zero m e h = absurd (true≢false h)
positive (suc n) m e h = omega (arith, e)

some_left : (n : ℕ) (xs : List ℕ) → length xs ≡ n → (n == 0) ≡ false → nat_lt 0 (length xs) ≡ true
some_left n xs e h = lt-ltb 0 (length xs) (positive n (length xs) e h)

-- the next slice's term is copied, or left out where it keeps no location
module _ (spans : List Span) (kept : List TermList) (es : Entries) (out : Numbers) (slices : List (Bor (List ℕ))) (i : ℕ) (d : Bor (List ℕ)) where
  abbrev here : List ℕ
  here = (get_or slices i d).now

  abbrev behind : List (List ℕ)
  behind = bytes_in (drop (i + 1) slices)

  next : i < length slices → Copying spans kept (bytes_in (drop i slices)) es → Copying spans kept (here ∷ behind) es
  next l m = subst (λ ts. Copying spans kept ts es) (left_more slices i d l) m

  pub copying-skip : i < length slices → Copying spans kept (bytes_in (drop i slices)) es → out.items ≡ outside_of spans (list_in es here) → (vec_len out == 0) ≡ true
      → Copying spans kept behind es
  copying-skip l m is none =
      let gone : nat_lt 0 (length (outside_of spans (list_in es here))) ≡ false = subst (λ xs. nat_lt 0 (length xs) ≡ false) is (none_left (vec_len out) out.items (sym out.ok.0) none) in
      subst (λ ls. kept ++ ls ≡ lists_outside spans (term_lists es)) (outside_none spans (list_of_term es here) (lists_at es behind) gone) (next l m)

  pub copying-more : (new : List TermList) (shown : List ℕ) → i < length slices → Copying spans kept (bytes_in (drop i slices)) es → out.items ≡ outside_of spans (list_in es here)
      → (vec_len out == 0) ≡ false → shown ≡ out.items → new ≡ kept ++ record { term = here; locations = shown } ∷ [] → Copying spans new behind es
  copying-more new shown l m is some same put =
      let stays : nat_lt 0 (length (outside_of spans (list_in es here))) ≡ true = subst (λ xs. nat_lt 0 (length xs) ≡ true) is (some_left (vec_len out) out.items (sym out.ok.0) some) in
      let added : new ≡ kept ++ left_of spans (list_of_term es here) ∷ [] = put ∙ ap (λ xs. kept ++ record { term = here; locations = xs } ∷ []) (same ∙ is) in
      let rest = lists_outside spans (lists_at es behind) in
      ap (λ ls. ls ++ rest) added ∙ append_assoc kept (left_of spans (list_of_term es here) ∷ []) rest
      ∙ subst (λ ls. kept ++ ls ≡ lists_outside spans (term_lists es)) (outside_some spans (list_of_term es here) (lists_at es behind) stays) (next l m)

pub copying-start : (spans : List Span) (kept : List TermList) (left : List (List ℕ)) (es : Entries) → kept ≡ [] → left ≡ in_order (keys_in es) → Copying spans kept left es
copying-start spans kept left es empty is = ap (λ l. l ++ lists_outside spans (lists_at es left)) empty ∙ ap (λ ts. lists_outside spans (lists_at es ts)) is

pub copying-end : (spans : List Span) (kept : List TermList) (left : List (List ℕ)) (es : Entries) → Copying spans kept left es → left ≡ []
    → kept ≡ lists_outside spans (term_lists es)
copying-end spans kept left es m is = sym (append-nil kept) ∙ subst (λ l. kept ++ lists_outside spans (lists_at es l) ≡ lists_outside spans (term_lists es)) is m
