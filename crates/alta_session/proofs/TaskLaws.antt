-- Laws of what lines ask of the store, and of what their work makes of what is held.
use Rattle.std.proofs.Common.{◌≡◌, ℕ, ◌<◌, ◌≤◌, Bool, true, false, ◌&&◌, if◌then◌else◌, nat_lt, List, [], ◌∷◌, ◌++◌, take, map, refl, ap, sym, subst, ◌∙◌, arith, Option, Some, None, Result, Ok, Err}
use Rattle.std.specs.Prelude.{option_map}
use Rattle.std.proofs.lemmas.Grind.{common_steps}
use Rattle.std.proofs.lemmas.List.{take-map}
use Rattle.alta_codec.specs.Name.{IsName, is_name}
use Rattle.alta_codec.proofs.NameLaws.{name_is, name_is_not}
use Rattle.alta_meaning.specs.Chain.{◌>>=◌}
use Rattle.alta_meaning.specs.Holding.{Holding}
use Rattle.alta_machine.specs.Changes.{has_name, number_of}
use Rattle.alta_meaning.specs.Work.{Task, enters}
use Rattle.alta_meaning.specs.Working.{Full}
use Rattle.alta_journal.specs.declared.entry.Entry.TheVariants.{Delete}
use Rattle.alta_machine.specs.declared.document.State.{State}
use Rattle.alta_machine.specs.Lines.{Reading, reading_of}
use Rattle.alta_session.specs.Keeping.{clip}
use Rattle.alta_machine.specs.Machine.{Machine, step, machine_after}
use Rattle.alta_store.specs.Calls.{entry_for}
use Rattle.alta_session.specs.Tasks.{task_of_add, task_of_delete, task_in, task_of, worked_where, worked_line, worked_lines, IsBy, IsOn, IsWorked}
use Rattle.alta_session.specs.declared.session.Session.{Session}
use Rattle.alta_session.proofs.DeletingLaws.{not_numbered}
use Rattle.alta_session.proofs.MachineLaws.{reading_clip, step_clip}

-- ---- the task of a line that adds
where_true : (task : Task) (b : Bool) → b ≡ true → (if b then Some task else None) ≡ Some task
where_true task true is = refl
where_true task false is = absurd cc

where_false : (task : Task) (b : Bool) → b ≡ false → (if b then Some task else None) ≡ None
where_false task true is = absurd cc
where_false task false is = refl

none_first : (a b : Bool) → a ≡ false → (a && b) ≡ false
none_first false b is = refl
none_first true b is = absurd cc

none_second : (a b : Bool) → b ≡ false → (a && b) ≡ false
none_second false b is = refl
none_second true b is = is

both : (a b : Bool) → a ≡ true → b ≡ true → (a && b) ≡ true
both true b one two = two
both false b one two = absurd cc

not_less : (a b : ℕ) → b ≤ a → nat_lt a b ≡ false
not_less a b l = grind (arith, common_steps)

is_less : (a b : ℕ) → a < b → nat_lt a b ≡ true
is_less a b l = grind (arith, common_steps)

pub add_bad : (name title body : List ℕ) (s : State) → (IsName name → ⊥) → task_of_add name title body s ≡ None
unfolding task_of_add
add_bad name title body s other = where_false (enters (entry_for (number_of name s) name title body)) _ (none_first (is_name name) (nat_lt s.next 4294967296) (name_is_not name other))

pub add_full : (name title body : List ℕ) (s : State) → 4294967296 ≤ s.next → task_of_add name title body s ≡ None
unfolding task_of_add
add_full name title body s full = where_false (enters (entry_for (number_of name s) name title body)) _ (none_second (is_name name) (nat_lt s.next 4294967296) (not_less s.next 4294967296 full))

pub add_puts : (name title body : List ℕ) (s : State) (o : Option ℕ) → IsName name → number_of name s ≡ o → s.next < 4294967296 → task_of_add name title body s ≡ Some (enters (entry_for o name title body))
unfolding task_of_add
add_puts name title body s o named is room =
    where_true (enters (entry_for (number_of name s) name title body)) _ (both (is_name name) (nat_lt s.next 4294967296) (name_is name named) (is_less s.next 4294967296 room))
    ∙ ap (λ (p : Option ℕ). Some (enters (entry_for p name title body))) is

-- ---- the task of a line that deletes
abbrev of_number : Option ℕ → Option Task
of_number numbered = option_map (λ (number : ℕ). enters (Delete number)) numbered

pub delete_bad : (name : List ℕ) (s : State) → (IsName name → ⊥) → task_of_delete name s ≡ None
unfolding task_of_delete
delete_bad name s other = ap (λ (b : Bool). if b then of_number (number_of name s) else None) (name_is_not name other)

pub delete_missing : (name : List ℕ) (s : State) → IsName name → has_name name s ≡ false → task_of_delete name s ≡ None
unfolding task_of_delete
delete_missing name s named none = ap (λ (b : Bool). if b then of_number (number_of name s) else None) (name_is name named) ∙ ap of_number (not_numbered name s none)

pub delete_enters : (name : List ℕ) (s : State) (number : ℕ) → IsName name → number_of name s ≡ Some number → task_of_delete name s ≡ Some (enters (Delete number))
unfolding task_of_delete
delete_enters name s number named is = ap (λ (b : Bool). if b then of_number (number_of name s) else None) (name_is name named) ∙ ap of_number is

-- ---- the task of a reading
pub task_reads : (m : Machine) (line : List ℕ) (reading : Reading) → reading_of line ≡ reading → task_of m line ≡ task_in m reading
unfolding task_of
task_reads m line reading is = ap (λ (r : Reading). task_in m r) is

task_clip : (m : Machine) (line : List ℕ) → task_of m (clip line) ≡ task_of m line
unfolding task_of
task_clip m line = ap (λ (r : Reading). task_in m r) (reading_clip line)

-- ---- work
-- what is held stays where nothing is asked
pub worked_none : (limit : ℕ) (held : Holding) (task : Option Task) (Here : Holding → Type 0) → task ≡ None → Here held → IsWorked (worked_where limit held task) Here
worked_none limit held task Here none here = record { now = held; is = ap (λ (t : Option Task). worked_where limit held t) none; held = here }

pub worked_by : (limit : ℕ) (held : Holding) (task other : Option Task) (Here : Holding → Type 0) → task ≡ other → IsWorked (worked_where limit held task) Here → IsWorked (worked_where limit held other) Here
worked_by limit held task other Here is work = subst (λ (t : Option Task). IsWorked (worked_where limit held t) Here) is work

-- the work of a line
pub line_works : (limit : ℕ) (m : Machine) (held : Holding) (line : List ℕ) → worked_line limit m held line ≡ worked_where limit held (task_of m line)
unfolding worked_line
line_works limit m held line = refl

line_clip : (limit : ℕ) (m : Machine) (held : Holding) (line : List ℕ) → worked_line limit m held (clip line) ≡ worked_line limit m held line
line_clip limit m held line = line_works limit m held (clip line) ∙ ap (λ (t : Option Task). worked_where limit held t) (task_clip m line) ∙ sym (line_works limit m held line)

-- steps one behind the other
chain_same : {A B E : Type 0} (r : Result A E) (f g : A → Result B E) → ((x : A) → f x ≡ g x) → (r >>= f) ≡ (r >>= g)
chain_same (Ok x) f g same = same x
chain_same (Err e) f g same = refl

chain_chain : {A B C E : Type 0} (r : Result A E) (f : A → Result B E) (g : B → Result C E) → (r >>= λ x. f x >>= g) ≡ ((r >>= f) >>= g)
chain_chain (Ok x) f g = refl
chain_chain (Err e) f g = refl

chain_ok : {A E : Type 0} (r : Result A E) → (r >>= λ x. Ok x) ≡ r
chain_ok (Ok x) = refl
chain_ok (Err e) = refl

-- of one line
pub one_worked : (limit : ℕ) (m : Machine) (held : Holding) (line : List ℕ) → worked_lines limit m held (line ∷ []) ≡ worked_where limit held (task_of m line)
one_worked limit m held line = chain_ok (worked_line limit m held line) ∙ line_works limit m held line

-- lines, and then more
worked_append : (limit : ℕ) (m : Machine) (held : Holding) (xs ys : List (List ℕ)) → worked_lines limit m held (xs ++ ys) ≡ (worked_lines limit m held xs >>= λ now. worked_lines limit (machine_after m xs) now ys)
worked_append limit m held [] ys = refl
worked_append limit m held (x ∷ xs) ys =
    chain_same (worked_line limit m held x) (λ now. worked_lines limit (step m x).0 now (xs ++ ys)) (λ now. worked_lines limit (step m x).0 now xs >>= λ z. worked_lines limit (machine_after (step m x).0 xs) z ys)
    (λ now. worked_append limit (step m x).0 now xs ys)
    ∙ chain_chain (worked_line limit m held x) (λ now. worked_lines limit (step m x).0 now xs) (λ z. worked_lines limit (machine_after (step m x).0 xs) z ys)

-- where the first are done, and where they find no place
pub worked_on : (limit : ℕ) (m : Machine) (held now : Holding) (xs ys : List (List ℕ)) → worked_lines limit m held xs ≡ Ok now → worked_lines limit m held (xs ++ ys) ≡ worked_lines limit (machine_after m xs) now ys
worked_on limit m held now xs ys done = worked_append limit m held xs ys ∙ ap (λ (r : Result Holding Full). r >>= λ z. worked_lines limit (machine_after m xs) z ys) done

pub wanting_on : (limit : ℕ) (m : Machine) (held : Holding) (full : Full) (xs ys : List (List ℕ)) → worked_lines limit m held xs ≡ Err full → worked_lines limit m held (xs ++ ys) ≡ Err full
wanting_on limit m held full xs ys wanting = worked_append limit m held xs ys ∙ ap (λ (r : Result Holding Full). r >>= λ z. worked_lines limit (machine_after m xs) z ys) wanting

-- lines that are the same up to a clip
worked_clip : (limit : ℕ) (m : Machine) (held : Holding) (lines : List (List ℕ)) → worked_lines limit m held (map clip lines) ≡ worked_lines limit m held lines
worked_clip limit m held [] = refl
worked_clip limit m held (x ∷ xs) =
    ap (λ (p : Machine × List ℕ). worked_line limit m held (clip x) >>= λ z. worked_lines limit p.0 z (map clip xs)) (step_clip m x)
    ∙ ap (λ (r : Result Holding Full). r >>= λ z. worked_lines limit (step m x).0 z (map clip xs)) (line_clip limit m held x)
    ∙ chain_same (worked_line limit m held x) (λ z. worked_lines limit (step m x).0 z (map clip xs)) (λ z. worked_lines limit (step m x).0 z xs) (λ z. worked_clip limit (step m x).0 z xs)

pub worked_same : (limit : ℕ) (m : Machine) (held : Holding) (xs ys : List (List ℕ)) → map clip xs ≡ map clip ys → worked_lines limit m held xs ≡ worked_lines limit m held ys
worked_same limit m held xs ys same = sym (worked_clip limit m held xs) ∙ ap (λ (l : List (List ℕ)). worked_lines limit m held l) same ∙ worked_clip limit m held ys

pub worked_take : (limit : ℕ) (m : Machine) (held : Holding) (k : ℕ) (xs ys : List (List ℕ)) → map clip xs ≡ map clip ys → worked_lines limit m held (take k xs) ≡ worked_lines limit m held (take k ys)
worked_take limit m held k xs ys same = worked_same limit m held (take k xs) (take k ys) (sym (take-map clip k xs) ∙ ap (λ (l : List (List ℕ)). take k l) same ∙ take-map clip k ys)

-- what an image has then
pub worked_as : (work other : Result Holding Full) (Here : Holding → Type 0) → work ≡ other → IsWorked work Here → IsWorked other Here
worked_as work other Here is done = record { now = done.now; is = sym is ∙ done.is; held = done.held }

pub lines_on : (limit later : ℕ) (m : Machine) (held now : Holding) (xs ys : List (List ℕ)) (Here : Holding → Type 0) → later ≡ limit → worked_lines limit m held xs ≡ Ok now → IsWorked (worked_lines later (machine_after m xs) now ys) Here
    → IsWorked (worked_lines limit m held (xs ++ ys)) Here
lines_on limit later m held now xs ys Here same done more =
    worked_as _ _ Here (ap (λ (n : ℕ). worked_lines n (machine_after m xs) now ys) same ∙ sym (worked_on limit m held now xs ys done)) more

-- what a session holds then the image has
pub worked_on_image : (work : Result Holding Full) (session : Session) (image : List ℕ) → IsWorked work (IsBy session image) → IsWorked work (IsOn image)
worked_on_image work session image done = record { now = done.now; is = done.is; held = done.held.is }
