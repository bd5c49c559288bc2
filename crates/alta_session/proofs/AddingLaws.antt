-- Laws of lines that add.
use Rattle.std.proofs.Common.{◌≡◌, ◌≢◌, ℕ, ◌<◌, ◌≤◌, inl, inr, Bool, true, false, ◌||◌, ◌==◌, nat_le, Option, Some, None, List, [], ◌∷◌, ◌++◌, length, refl, ap, sym, subst, ◌∙◌, arith, codes, decimal, if◌then◌else◌, length-append}
use Rattle.std.proofs.lemmas.Bool.{cases_lt}
use Rattle.std.proofs.lemmas.Grind.{common_steps}
use Rattle.std.specs.List.{list_any}
use Rattle.std.proofs.lemmas.List.Elements.{All-nil, All-cons, All-head, All-tail}
use Rattle.alta_codec.specs.Name.{IsName}
use Rattle.alta_codec.specs.Bytes.{Lacks}
use Rattle.alta_disk.specs.Disk.{DiskState, LeavesOnly}
use Rattle.alta_machine.specs.declared.document.State.{State}
use Rattle.alta_machine.specs.Command.{ReadsLine, adds}
use Rattle.alta_machine.specs.LineFaults.{IsText}
use Rattle.alta_codec.proofs.NameLaws.{name_is, name_is_not}
use Rattle.alta_machine.specs.Machine.{adding, put_as, IsRefusal}
use Rattle.alta_session.proofs.DeletingLaws.{not_numbered}
use Rattle.alta_session.specs.Tasks.{reply_to_put}
use Rattle.alta_store.specs.Calls.{with_put}
use Rattle.alta_machine.specs.Changes.{has_name, number_of, with_added}
use Rattle.alta_meaning.specs.Entries.{IsDocument}

-- what adding answers
pub adding_bad : (name title body : List ℕ) (s : State) → (IsName name → ⊥) → adding name title body s ≡ (s, codes "! bad name\n")
unfolding adding
adding_bad name title body s other =
    ap (λ (b : Bool). if b then (if nat_le 4294967296 s.next then (s, codes "! no numbers left\n") else put_as (number_of name s) name title body s) else (s, codes "! bad name\n"))
    (name_is_not name other)

adding_named : (name title body : List ℕ) (s : State) → IsName name → adding name title body s ≡ (if nat_le 4294967296 s.next then (s, codes "! no numbers left\n") else put_as (number_of name s) name title body s)
unfolding adding
adding_named name title body s named =
    ap (λ (b : Bool). if b then (if nat_le 4294967296 s.next then (s, codes "! no numbers left\n") else put_as (number_of name s) name title body s) else (s, codes "! bad name\n"))
    (name_is name named)

le_true : (a b : ℕ) → a ≤ b → nat_le a b ≡ true
le_true a b l = grind (arith, common_steps)

le_false : (a b : ℕ) → b < a → nat_le a b ≡ false
le_false a b l = grind (arith, common_steps)

pub adding_full : (name title body : List ℕ) (s : State) → IsName name → 4294967296 ≤ s.next → adding name title body s ≡ (s, codes "! no numbers left\n")
adding_full name title body s named full =
    adding_named name title body s named
    ∙ ap (λ (b : Bool). if b then (s, codes "! no numbers left\n") else put_as (number_of name s) name title body s) (le_true 4294967296 s.next full)

adding_puts : (name title body : List ℕ) (s : State) (o : Option ℕ) → IsName name → number_of name s ≡ o → s.next < 4294967296 → adding name title body s ≡ put_as o name title body s
adding_puts name title body s o named is room =
    adding_named name title body s named
    ∙ ap (λ (b : Bool). if b then (s, codes "! no numbers left\n") else put_as (number_of name s) name title body s) (le_false 4294967296 s.next room)
    ∙ ap (λ (p : Option ℕ). put_as p name title body s) is

pub adding_added : (name title body : List ℕ) (s : State) → IsName name → has_name name s ≡ false → s.next < 4294967296 → adding name title body s ≡ (with_added name title body s, codes "added " ++ decimal s.next ++ codes "\n")
adding_added name title body s named free room = adding_puts name title body s None named (not_numbered name s free) room

pub adding_put : (name title body : List ℕ) (s : State) (o : Option ℕ) → IsName name → number_of name s ≡ o → s.next < 4294967296 → adding name title body s ≡ (with_put o name title body s, reply_to_put o s.next)
adding_put name title body s None named is room = adding_puts name title body s None named is room
adding_put name title body s (Some n) named is room = adding_puts name title body s (Some n) named is room

-- at no moment was there another image than those of the states before and after
pub leaves_adding : (Either : State → State → List ℕ → Type 0) (d d_now : DiskState) (s t : State) (change : State × List ℕ) (reply : List ℕ) → change ≡ (t, reply) → LeavesOnly (Either s t) d d_now → LeavesOnly (Either s change.0) d d_now
leaves_adding Either d d_now s t change reply is leaves = subst (λ (u : State). LeavesOnly (Either s u) d d_now) (sym (ap (λ (p : State × List ℕ). p.0) is)) leaves

-- what was added is no refusal
added_is_none : (n : ℕ) → IsRefusal (codes "added " ++ decimal n ++ codes "\n") → ⊥
added_is_none n refusal = cc

replaced_is_none : (m n : ℕ) → IsRefusal (codes "replaced " ++ decimal m ++ codes " by " ++ decimal n ++ codes "\n") → ⊥
replaced_is_none m n refusal = cc

pub put_is_none : (o : Option ℕ) (n : ℕ) → IsRefusal (reply_to_put o n) → ⊥
put_is_none None n refusal = added_is_none n refusal
put_is_none (Some m) n refusal = replaced_is_none m n refusal

pub not_refused : (change : State × List ℕ) (t : State) (reply : List ℕ) → change ≡ (t, reply) → (IsRefusal reply → ⊥) → IsRefusal change.1 → ⊥
not_refused change t reply is none refusal = none (subst (λ (p : State × List ℕ). IsRefusal p.1) is refusal)

-- where nothing refuses it
pub room_left : (s : State) → (4294967296 ≤ s.next → ⊥) → s.next < 4294967296
room_left s not_full = elim (cases_lt s.next 4294967296) [ inl room ↦ room | inr none ↦ absurd (not_full none) ]

-- the parts of a line that adds
abbrev IsOther : ℕ → Type 0
IsOther byte = byte ≢ 10

free_left : (xs ys : List ℕ) → Lacks 10 (xs ++ ys) → Lacks 10 xs
free_left [] ys free = All-nil IsOther
free_left (x ∷ xs) ys free = All-cons IsOther x xs (All-head IsOther x (xs ++ ys) free) (free_left xs ys (All-tail IsOther x (xs ++ ys) free))

free_right : (xs ys : List ℕ) → Lacks 10 (xs ++ ys) → Lacks 10 ys
free_right [] ys free = free
free_right (x ∷ xs) ys free = free_right xs ys (All-tail IsOther x (xs ++ ys) free)

not_ten : (x : ℕ) → x ≢ 10 → (x == 10) ≡ false
not_ten x other = grind (arith, common_steps)

free_any : (xs : List ℕ) → Lacks 10 xs → list_any (λ b. b == 10) xs ≡ false
free_any [] free = refl
free_any (x ∷ xs) free = ap (λ (b : Bool). b || list_any (λ b. b == 10) xs) (not_ten x (All-head IsOther x xs free)) ∙ free_any xs (All-tail IsOther x xs free)

pub line_is_document : (line name title body : List ℕ) → Lacks 10 line → IsText line → ReadsLine line (adds name title body) → IsName name → IsDocument name title body
line_is_document line name title body free text reads named =
    let spells : codes "add " ++ (name ++ 9 ∷ (title ++ 9 ∷ body)) ≡ line = reads.spells in
    let all : Lacks 10 (codes "add " ++ (name ++ 9 ∷ (title ++ 9 ∷ body))) = subst (Lacks 10) (sym spells) free in
    let rest : Lacks 10 (title ++ 9 ∷ body) = All-tail IsOther 9 (title ++ 9 ∷ body) (free_right name (9 ∷ (title ++ 9 ∷ body)) (free_right (codes "add ") (name ++ 9 ∷ (title ++ 9 ∷ body)) all)) in
    record {
      named = named;
      title_is_a_line = free_any title (free_left title (9 ∷ body) rest);
      title_is_a_field = reads.fine.1;
      body_is_a_line = free_any body (All-tail IsOther 9 body (free_right title (9 ∷ body) rest));
      short = omega (arith, ap length spells, length-append (codes "add ") (name ++ 9 ∷ (title ++ 9 ∷ body)), length-append name (9 ∷ (title ++ 9 ∷ body)), length-append title (9 ∷ body), text.0);
    }
