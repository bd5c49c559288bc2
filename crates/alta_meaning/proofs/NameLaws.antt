-- Names in a map and in a state.
use Rattle.std.proofs.Common.{◌≡◌, ℕ, Bool, true, false, cond, List, refl, ◌∙◌, rules}
use Rattle.std.specs.Prelude.{◌||◌, Some, Option, is_some}
use Rattle.std.specs.Str.{bytes_eq}
use Rattle.std.proofs.lemmas.List.Folds.{list_any-append}
use Rattle.std.proofs.lemmas.Slice.Eq.{bytes_eq-Decides}
use Rattle.alta_machine.specs.declared.document.Document.{Document}
use Rattle.alta_machine.specs.declared.document.State.{State}
use Rattle.alta_machine.specs.Changes.{has_name, with_added}
use Rattle.alta_content.proofs.Order.{iff_same}

pub bytes_eq-swap : (xs ys : List ℕ) → bytes_eq xs ys ≡ bytes_eq ys xs
bytes_eq-swap xs ys =
    iff_same (bytes_eq xs ys) (bytes_eq ys xs)
    (λ e. search (rules, bytes_eq-Decides xs ys, bytes_eq-Decides ys xs))
    (λ e. search (rules, bytes_eq-Decides xs ys, bytes_eq-Decides ys xs))

found : {X : Type 0} (b : Bool) (v : X) (o : Option X) → is_some (cond b (Some v) o) ≡ (b || is_some o)
found true v o = refl
found false v o = refl

or_swap : (a b : Bool) → (a || (b || false)) ≡ (b || a)
or_swap true true = refl
or_swap true false = refl
or_swap false true = refl
or_swap false false = refl

-- one document more has its name, and the others have theirs
pub has_name-with_added : (q name title body : List ℕ) (s : State) → has_name q (with_added name title body s) ≡ (bytes_eq q name || has_name q s)
has_name-with_added q name title body s =
    list_any-append (λ (d : Document). bytes_eq q d.name) s.documents _
    ∙ or_swap (has_name q s) (bytes_eq q name)
