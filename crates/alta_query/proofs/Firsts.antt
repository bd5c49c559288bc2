-- What stands at the front of a text, by the bytes with which it begins.
use Rattle.std.proofs.Common.{◌≡◌, ℕ, ◌+◌, ◌<◌, List, [], ◌∷◌, length, drop, get_or, refl, sym, subst, ◌∙◌, arith, Bool, true, false, ◌||◌}
use Rattle.std.specs.Prelude.{nat_eq, ◌==◌, if◌then◌else◌, codes}
use Rattle.std.specs.List.{prefix_len, take_while, starts_with}
use Rattle.std.proofs.lemmas.Bool.Decides.{nat_tests}
use Rattle.alta_machine.specs.Spots.{is_blank, is_quote, is_solid, is_run, first_token, first_len, quoted_token, quoted_len, name_token, run_token, is_quoted_title}
use Rattle.alta_machine.specs.Token.{Token, open_paren, close_paren}

pub if_no : {A : Type 0} (b : Bool) (x y : A) → b ≡ false → (if b then x else y) ≡ y
if_no true x y h = absurd (cc)
if_no false x y h = refl

pub if_yes : {A : Type 0} (b : Bool) (x y : A) → b ≡ true → (if b then x else y) ≡ x
if_yes true x y h = refl
if_yes false x y h = absurd (cc)

pub either_no : (a b : Bool) → a ≡ false → b ≡ false → (a || b) ≡ false
either_no a b h k = rw (h, k) refl

-- the first token and its length
pub record IsFirst (text : List ℕ) (t : Token) (n : ℕ) : Type 0 where
  pub token : t ≡ first_token text
  pub len : n ≡ first_len text

pub open_first : (text : List ℕ) → 0 < length text → get_or text 0 0 ≡ 40 → IsFirst text open_paren 1
open_first [] some e = absurd (omega arith)
open_first (b ∷ bs) some e = subst (λ x. IsFirst (x ∷ bs) open_paren 1) (sym e) (record { token = refl; len = refl })

pub close_first : (text : List ℕ) → 0 < length text → get_or text 0 0 ≡ 41 → IsFirst text close_paren 1
close_first [] some e = absurd (omega arith)
close_first (b ∷ bs) some e = subst (λ x. IsFirst (x ∷ bs) close_paren 1) (sym e) (record { token = refl; len = refl })

pub quote_first : (text : List ℕ) → 0 < length text → get_or text 0 0 ≡ 34 → IsFirst text (quoted_token false (drop 1 text)) (1 + quoted_len (drop 1 text))
quote_first [] some e = absurd (omega arith)
quote_first (b ∷ bs) some e = subst (λ x. IsFirst (x ∷ bs) (quoted_token false bs) (1 + quoted_len bs)) (sym e) (record { token = refl; len = refl })

-- a byte that is no parenthesis and no quote
pub record IsOther (b : ℕ) : Type 0 where
  pub opens : b ≡ 40 → ⊥
  pub closes : b ≡ 41 → ⊥
  pub quotes : b ≡ 34 → ⊥

pub other_byte : (a b : ℕ) → (a ≡ b → ⊥) → (a == b) ≡ false
other_byte a b h = grind (arith, nat_tests)

other_token : {A : Type 0} (b : ℕ) (x y z w : A) → IsOther b → (if b == 40 then x else (if b == 41 then y else (if is_quote b then z else w))) ≡ w
other_token b x y z w is = if_no (b == 40) _ _ (other_byte b 40 is.opens) ∙ if_no (b == 41) _ _ (other_byte b 41 is.closes) ∙ if_no (is_quote b) _ _ (other_byte b 34 is.quotes)

other_len : {A : Type 0} (b : ℕ) (x y z : A) → IsOther b → (if b == 40 || b == 41 then x else (if is_quote b then y else z)) ≡ z
other_len b x y z is = if_no (b == 40 || b == 41) _ _ (either_no (b == 40) (b == 41) (other_byte b 40 is.opens) (other_byte b 41 is.closes)) ∙ if_no (is_quote b) _ _ (other_byte b 34 is.quotes)

pub name_first : (text : List ℕ) → 0 < length text → IsOther (get_or text 0 0) → starts_with nat_eq text (codes "name:") ≡ true → IsFirst text (name_token (take_while is_solid (drop 5 text))) (5 + prefix_len is_solid (drop 5 text))
name_first [] some is name = absurd (omega arith)
name_first (b ∷ bs) some is name = record {
  token = sym (other_token b _ _ _ _ is ∙ if_yes (starts_with nat_eq (b ∷ bs) (codes "name:")) _ _ name);
  len = sym (other_len b _ _ _ is ∙ if_yes (starts_with nat_eq (b ∷ bs) (codes "name:")) _ _ name);
}

pub title_first : (text : List ℕ) → 0 < length text → IsOther (get_or text 0 0) → starts_with nat_eq text (codes "name:") ≡ false → starts_with nat_eq text (codes "title:\"") ≡ true → IsFirst text (quoted_token true (drop 7 text)) (7 + quoted_len (drop 7 text))
unfolding is_quoted_title
title_first [] some is name title = absurd (omega arith)
title_first (b ∷ bs) some is name title = record {
  token = sym (other_token b _ _ _ _ is ∙ if_no (starts_with nat_eq (b ∷ bs) (codes "name:")) _ _ name ∙ if_yes (is_quoted_title (b ∷ bs)) _ _ title);
  len = sym (other_len b _ _ _ is ∙ if_no (starts_with nat_eq (b ∷ bs) (codes "name:")) _ _ name ∙ if_yes (is_quoted_title (b ∷ bs)) _ _ title);
}

pub run_first : (text : List ℕ) → 0 < length text → IsOther (get_or text 0 0) → starts_with nat_eq text (codes "name:") ≡ false → starts_with nat_eq text (codes "title:\"") ≡ false → IsFirst text (run_token (take_while is_run text)) (prefix_len is_run text)
unfolding is_quoted_title
run_first [] some is name title = absurd (omega arith)
run_first (b ∷ bs) some is name title = record {
  token = sym (other_token b _ _ _ _ is ∙ if_no (starts_with nat_eq (b ∷ bs) (codes "name:")) _ _ name ∙ if_no (is_quoted_title (b ∷ bs)) _ _ title);
  len = sym (other_len b _ _ _ is ∙ if_no (starts_with nat_eq (b ∷ bs) (codes "name:")) _ _ name ∙ if_no (is_quoted_title (b ∷ bs)) _ _ title);
}

-- a run is not empty
pub run_some : (text : List ℕ) → 0 < length text → is_run (get_or text 0 0) ≡ true → 0 < prefix_len is_run text
run_some [] some e = absurd (omega arith)
run_some (b ∷ bs) some e = rw e (omega arith)

pub run_byte : (b : ℕ) → is_blank b ≡ false → IsOther b → is_run b ≡ true
run_byte b solid is = rw (solid, other_byte b 40 is.opens, other_byte b 41 is.closes, other_byte b 34 is.quotes) refl
