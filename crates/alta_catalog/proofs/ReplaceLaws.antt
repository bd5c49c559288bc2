-- A live document with a name and a number, beside the number of the name.
use Rattle.std.proofs.Common.{◌≡◌, ℕ, Bool, true, false, cond, List, [], ◌∷◌, Option, Some, None, map, refl, sym, ap, ◌∙◌}
use Rattle.std.specs.Prelude.{◌&&◌, ◌||◌, ◌==◌, option_map}
use Rattle.std.specs.List.{All, find, list_any}
use Rattle.std.specs.Str.{bytes_eq}
use Rattle.std.proofs.lemmas.List.Elements.{All-head, All-tail}
use Rattle.alta_meaning.proofs.Tests.{by_test, bytes_from, and_left, or_neither}
use Rattle.alta_meaning.specs.Known.{known_of, named_of}
use Rattle.alta_meaning.specs.Ordered.{AreOrdered, IsBefore, IsOrdered}
use Rattle.alta_machine.specs.Changes.{has_named, number_of}
use Rattle.alta_machine.specs.declared.document.Document.{Document}
use Rattle.alta_machine.specs.declared.document.State.{State}

-- the number of a name is this one
abbrev pub is_number : Option ℕ → ℕ → Bool
is_number None number = false
is_number (Some known) number = known == number

abbrev found_in : List ℕ → List Document → Option ℕ
found_in name ds = option_map (λ (d : Document). d.number) (find (λ (d : Document). bytes_eq name d.name) ds)

abbrev named_in : List ℕ → ℕ → List Document → Bool
named_in name number ds = list_any (λ (d : Document). bytes_eq name d.name && d.number == number) ds

-- of documents with other names none is of the name
none_named : (name : List ℕ) (number : ℕ) (first : Document) (ds : List Document) → bytes_eq name first.name ≡ true → All (IsBefore (named_of first)) (map named_of ds) → named_in name number ds ≡ false
none_named name number first [] same before = refl
none_named name number first (d ∷ ds) same before =
    or_neither (bytes_eq name d.name && d.number == number) (named_in name number ds)
    (by_test (bytes_eq name d.name && d.number == number)
    (λ here. absurd ((All-head (IsBefore (named_of first)) (named_of d) (map named_of ds) before).1 (sym (bytes_from name first.name same) ∙ bytes_from name d.name (and_left (bytes_eq name d.name) (d.number == number) here))))
    (λ there. there))
    (none_named name number first ds same (All-tail (IsBefore (named_of first)) (named_of d) (map named_of ds) before))

named_among : (name : List ℕ) (number : ℕ) (ds : List Document) → AreOrdered (map named_of ds) → is_number (found_in name ds) number ≡ named_in name number ds
named_among name number [] ordered = refl
named_among name number (d ∷ ds) ordered =
    by_test (bytes_eq name d.name)
    (λ same. ap (λ (b : Bool). is_number (option_map (λ (e : Document). e.number) (cond b (Some d) (find (λ (e : Document). bytes_eq name e.name) ds))) number) same
    ∙ sym (ap (λ (b : Bool). (b && d.number == number) || named_in name number ds) same ∙ or_none (d.number == number) (named_in name number ds) (none_named name number d ds same ordered.0)))
    (λ other. ap (λ (b : Bool). is_number (option_map (λ (e : Document). e.number) (cond b (Some d) (find (λ (e : Document). bytes_eq name e.name) ds))) number) other
    ∙ named_among name number ds ordered.1
    ∙ sym (ap (λ (b : Bool). (b && d.number == number) || named_in name number ds) other))
  where
    or_none : (a b : Bool) → b ≡ false → (a || b) ≡ a
    or_none true b none = refl
    or_none false b none = none

-- the name has this number exactly where a live document has both
pub named_is : (name : List ℕ) (number : ℕ) (s : State) → IsOrdered (known_of s) → is_number (number_of name s) number ≡ has_named name number s
named_is name number s ordered = named_among name number s.documents ordered.ordered
