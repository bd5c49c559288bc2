-- What is a name is tested.
use Rattle.std.proofs.Common.{◌≡◌, ℕ, List, refl, Bool, true, false}
use Rattle.std.specs.Prelude.{◌↔◌, IsTrue}
use Rattle.alta_codec.specs.Name.{IsName, is_name}
use Rattle.alta_codec.proofs.NameLaws.{is_name-Decides}
use Rattle.alta_machine.specs.Spots.{name_token}
use Rattle.alta_machine.specs.Token.{operand, faulty}
use Rattle.alta_machine.specs.Shape.{name}
use Rattle.alta_machine.specs.declared.cause.Cause.TheVariants as cause

pub name_is : (text : List ℕ) (r : Bool) → IsTrue r ↔ IsName text → r ≡ true → operand (name text) ≡ name_token text
unfolding name_token
name_is text r tells h = rw ((is_name-Decides text).1 (tells.0 h)) refl

if_no_name : (text : List ℕ) (b : Bool) → is_name text ≡ b → ¬ (IsName text) → b ≡ false
if_no_name text true e not_name = absurd (not_name ((is_name-Decides text).0 e))
if_no_name text false e not_name = refl

pub name_not : (text : List ℕ) (r : Bool) → IsTrue r ↔ IsName text → r ≡ false → faulty cause.Name ≡ name_token text
unfolding name_token
name_not text r tells h = rw (if_no_name text (is_name text) refl (λ n. cc (tells.1 n, h))) refl
