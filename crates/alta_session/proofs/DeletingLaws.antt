-- Laws of lines that delete, and of the counts.
use Rattle.std.proofs.Common.{◌≡◌, ℕ, ◌<◌, lit<, Bool, true, false, cond, ◌||◌, List, [], ◌∷◌, ◌++◌, length, refl, ap, sym, subst, ◌∙◌, codes, decimal, if◌then◌else◌}
use Rattle.std.specs.Prelude.{Option, Some, None, option_map}
use Rattle.std.specs.List.{list_any, find}
use Rattle.std.specs.Str.{bytes_eq}
use Rattle.std.proofs.lemmas.Bool.{false≢true}
use Rattle.alta_codec.specs.Name.{IsName, is_name}
use Rattle.alta_disk.specs.Disk.{DiskState, LeavesOnly}
use Rattle.alta_machine.specs.declared.document.Document.{Document}
use Rattle.alta_machine.specs.declared.document.State.{State}
use Rattle.alta_codec.proofs.NameLaws.{name_is, name_is_not}
use Rattle.alta_machine.specs.Machine.{deleted_as, deleting, stats_of, IsRefusal}
use Rattle.alta_machine.specs.Changes.{has_name, number_of, words_in, with_deleted}
use Rattle.alta_replies.proofs.SearchLaws.{some_behind}

-- what is found, and what is left out, in a list
none_found : {X : Type 0} (b : X → Bool) (xs : List X) → list_any b xs ≡ false → find b xs ≡ None
none_found b [] none = refl
none_found b (x ∷ xs) none = elim (b x) as (λ t. (t || list_any b xs) ≡ false → cond t (Some x) (find b xs) ≡ None) [
  | true ↦ λ e. absurd (false≢true (sym e))
  | false ↦ λ e. none_found b xs e
] none

some_found : {X : Type 0} (b : X → Bool) (xs : List X) → list_any b xs ≡ true → (x : X) × (find b xs ≡ Some x)
some_found b [] some = absurd (false≢true some)
some_found {X = X} b (x ∷ xs) some = elim (b x) as (λ t. (t || list_any b xs) ≡ true → (y : X) × (cond t (Some x) (find b xs) ≡ Some y)) [
  | true ↦ λ e. (x, refl)
  | false ↦ λ e. some_found b xs e
] some

-- the number of a name
pub not_numbered : (name : List ℕ) (s : State) → has_name name s ≡ false → number_of name s ≡ None
not_numbered name s none = ap (option_map (λ (d : Document). d.number)) (none_found (λ (d : Document). bytes_eq name d.name) s.documents none)

pub numbered : (name : List ℕ) (s : State) → has_name name s ≡ true → (n : ℕ) × (number_of name s ≡ Some n)
numbered name s some =
    let found = some_found (λ (d : Document). bytes_eq name d.name) s.documents some in
    (found.0.number, ap (option_map (λ (d : Document). d.number)) found.1)

pub unnamed : (name : List ℕ) (s : State) → number_of name s ≡ None → has_name name s ≡ false
unnamed name s none = elim (has_name name s) as (λ b. has_name name s ≡ b → has_name name s ≡ false) [
  | true ↦ λ some. let n = numbered name s some in let clash : None ≡ Some n.0 = sym none ∙ n.1 in absurd cc
  | false ↦ λ free. free
] refl

-- what deleting answers
pub deleting_bad : (name : List ℕ) (s : State) → (IsName name → ⊥) → deleting name s ≡ (s, codes "! bad name\n")
unfolding deleting
deleting_bad name s other =
    ap (λ (b : Bool). if b then deleted_as (number_of name s) name s else (s, codes "! bad name\n")) (name_is_not name other)

deleting_named : (name : List ℕ) (s : State) → IsName name → deleting name s ≡ deleted_as (number_of name s) name s
unfolding deleting
deleting_named name s named = ap (λ (b : Bool). if b then deleted_as (number_of name s) name s else (s, codes "! bad name\n")) (name_is name named)

pub deleting_missing : (name : List ℕ) (s : State) → IsName name → has_name name s ≡ false → deleting name s ≡ (s, codes "! no such document\n")
deleting_missing name s named none = deleting_named name s named ∙ ap (λ (o : Option ℕ). deleted_as o name s) (not_numbered name s none)

pub deleting_deleted : (name : List ℕ) (s : State) (n : ℕ) → IsName name → number_of name s ≡ Some n → deleting name s ≡ (with_deleted name s, codes "deleted " ++ decimal n ++ codes "\n")
deleting_deleted name s n named is = deleting_named name s named ∙ ap (λ (o : Option ℕ). deleted_as o name s) is

-- At no moment was there another image than those of the states before and after, where the disk stays as it is for a name
-- that no document has.
pub leaves_deleting : (Either : State → State → List ℕ → Type 0) (d d_now : DiskState) (name : List ℕ) (s : State) → IsName name → LeavesOnly (Either s (with_deleted name s)) d d_now
    → (has_name name s ≡ false → LeavesOnly (Either s s) d d_now) → LeavesOnly (Either s (deleting name s).0) d d_now
leaves_deleting Either d d_now name s named leaves same =
    let P : State → Type 0 = λ t. LeavesOnly (Either s t) d d_now in
    let by : (t : State) (reply : List ℕ) → deleting name s ≡ (t, reply) → P t → P (deleting name s).0 = λ t reply is here. subst P (sym (ap (λ (p : State × List ℕ). p.0) is)) here in
    elim (has_name name s) as (λ b. has_name name s ≡ b → P (deleting name s).0) [
      | true ↦ λ some. let n = numbered name s some in by (with_deleted name s) _ (deleting_deleted name s n.0 named n.1) leaves
      | false ↦ λ none. by s _ (deleting_missing name s named none) (same none)
    ] refl

-- a refusal comes from a name that no document has
pub deleted_is_none : (n : ℕ) → IsRefusal (codes "deleted " ++ decimal n ++ codes "\n") → ⊥
deleted_is_none n refusal = cc

pub missing_for : (P : Type 0) (name : List ℕ) (s : State) → IsName name → (has_name name s ≡ false → P) → IsRefusal (deleting name s).1 → P
missing_for P name s named missing refusal =
    elim (has_name name s) as (λ b. has_name name s ≡ b → P) [
      | true ↦ λ some. let n = numbered name s some in
          absurd (deleted_is_none n.0 (subst (λ (p : State × List ℕ). IsRefusal p.1) (deleting_deleted name s n.0 named n.1) refusal))
      | false ↦ missing
    ] refl

-- where it is not refused, a document has the name
pub deleted_where : (name : List ℕ) (s : State) → (has_name name s ≡ false → ⊥) → (n : ℕ) × (number_of name s ≡ Some n)
deleted_where name s some = elim (has_name name s) as (λ b. has_name name s ≡ b → (n : ℕ) × (number_of name s ≡ Some n)) [
  | true ↦ λ here. numbered name s here
  | false ↦ λ none. absurd (some none)
] refl

-- a reply has at least its newline
deleted_some : (o : Option ℕ) (name : List ℕ) (s : State) → 0 < length (deleted_as o name s).1
deleted_some None name s = lit< tt
deleted_some (Some n) name s = some_behind (codes "deleted " ++ decimal n) (codes "\n") (lit< tt)

pub if_some : (b : Bool) (p q : State × List ℕ) → 0 < length p.1 → 0 < length q.1 → 0 < length (if b then p else q).1
if_some true p q h k = h
if_some false p q h k = k

pub deleting_some : (name : List ℕ) (s : State) → 0 < length (deleting name s).1
unfolding deleting
deleting_some name s = if_some (is_name name) (deleted_as (number_of name s) name s) (s, codes "! bad name\n") (deleted_some (number_of name s) name s) (lit< tt)

pub stats_some : (s : State) → 0 < length (stats_of s)
unfolding stats_of
stats_some s =
    some_behind (codes "documents " ++ decimal (length s.documents) ++ codes " words " ++ decimal (words_in s) ++ codes " next " ++ decimal s.next) (codes "\n") (lit< tt)
