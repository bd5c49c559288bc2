-- What a run is, by the words that it equals and the bytes with which it begins.
use Rattle.std.proofs.Common.{◌≡◌, ℕ, List, drop, sym, ◌∙◌, true, false}
use Rattle.std.specs.Prelude.{nat_eq, if◌then◌else◌, codes}
use Rattle.std.specs.List.{starts_with}
use Rattle.std.specs.Str.{bytes_eq}
use Rattle.alta_machine.specs.Spots.{run_token, near_token, value_token, plain_token}
use Rattle.alta_machine.specs.Token.{and_word, or_word, not_word}
use Rattle.alta_query.proofs.Firsts.{if_no, if_yes}

-- no AND, OR and NOT
pub record IsNoWord (text : List ℕ) : Type 0 where
  pub no_and : bytes_eq text (codes "AND") ≡ false
  pub no_or : bytes_eq text (codes "OR") ≡ false
  pub no_not : bytes_eq text (codes "NOT") ≡ false

module _ (text : List ℕ) where
  pub run_and : bytes_eq text (codes "AND") ≡ true → and_word ≡ run_token text
  unfolding run_token
  run_and h = sym (if_yes _ _ _ h)

  pub run_or : bytes_eq text (codes "AND") ≡ false → bytes_eq text (codes "OR") ≡ true → or_word ≡ run_token text
  unfolding run_token
  run_or h k = sym (if_no _ _ _ h ∙ if_yes _ _ _ k)

  pub run_not : bytes_eq text (codes "AND") ≡ false → bytes_eq text (codes "OR") ≡ false → bytes_eq text (codes "NOT") ≡ true → not_word ≡ run_token text
  unfolding run_token
  run_not h k l = sym (if_no _ _ _ h ∙ if_no _ _ _ k ∙ if_yes _ _ _ l)

  no_word : {A : Type 0} (x y z w : A) → IsNoWord text → (if bytes_eq text (codes "AND") then x else (if bytes_eq text (codes "OR") then y else (if bytes_eq text (codes "NOT") then z else w))) ≡ w
  no_word x y z w is = if_no _ _ _ is.no_and ∙ if_no _ _ _ is.no_or ∙ if_no _ _ _ is.no_not

  pub run_near : IsNoWord text → starts_with nat_eq text (codes "NEAR/") ≡ true → near_token (drop 5 text) ≡ run_token text
  unfolding run_token
  run_near is h = sym (no_word _ _ _ _ is ∙ if_yes _ _ _ h)

  pub run_value : IsNoWord text → starts_with nat_eq text (codes "NEAR/") ≡ false → starts_with nat_eq text (codes "value:") ≡ true → value_token (drop 6 text) ≡ run_token text
  unfolding run_token
  run_value is h k = sym (no_word _ _ _ _ is ∙ if_no _ _ _ h ∙ if_yes _ _ _ k)

  pub run_title : IsNoWord text → starts_with nat_eq text (codes "NEAR/") ≡ false → starts_with nat_eq text (codes "value:") ≡ false → starts_with nat_eq text (codes "title:") ≡ true → plain_token true (drop 6 text) ≡ run_token text
  unfolding run_token
  run_title is h v k = sym (no_word _ _ _ _ is ∙ if_no _ _ _ h ∙ if_no _ _ _ v ∙ if_yes _ _ _ k)

  pub run_plain : IsNoWord text → starts_with nat_eq text (codes "NEAR/") ≡ false → starts_with nat_eq text (codes "value:") ≡ false → starts_with nat_eq text (codes "title:") ≡ false → plain_token false text ≡ run_token text
  unfolding run_token
  run_plain is h v k = sym (no_word _ _ _ _ is ∙ if_no _ _ _ h ∙ if_no _ _ _ v ∙ if_no _ _ _ k)
