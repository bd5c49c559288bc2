-- Laws of the machine.
use Rattle.std.proofs.Common.{◌≡◌, ℕ, ◌+◌, ◌<◌, inl, inr, Option, Some, None, List, [], ◌∷◌, ◌++◌, length, take, suc, lit<, refl, ap, sym, ◌∙◌, arith, map, nat_le, codes, decimal, if◌then◌else◌}
use Rattle.std.proofs.lemmas.List.{length-map, length-take, take_all, take-map}
use Rattle.std.proofs.lemmas.Bool.{cases_lt}
use Rattle.alta_codec.specs.Name.{is_name}
use Rattle.alta_machine.specs.Changes.{number_of}
use Rattle.alta_machine.specs.declared.document.State.{State}
use Rattle.alta_machine.specs.Command.{Command, adds, deletes, searches, counts, explains, opens, fetches, closes, ranks, flushes, merges, steps, asks_stats, dumps}
use Rattle.alta_machine.specs.Lines.{Reading, asks, refuses, reading_of}
use Rattle.alta_machine.specs.declared.line.TheConstants.{LINE_LIMIT}
use Rattle.alta_machine.specs.declared.line.LineFault.{LineFault}
use Rattle.alta_machine.specs.declared.line.LineFault.TheVariants.{TooLong, NotUtf8, Unknown, Bad}
use Rattle.alta_model.proofs.Readings.{reading_long}
use Rattle.alta_session.specs.Keeping.{clip}
use Rattle.alta_machine.specs.Machine.{Machine, refusal, adding, put_as, obeyed, answered, step, machine_after, replies}
use Rattle.alta_replies.proofs.CursorLaws.{opening_some, fetching_some, closing_some}
use Rattle.alta_session.proofs.DeletingLaws.{deleting_some, if_some, stats_some}
use Rattle.alta_session.proofs.DumpLaws.{dumped_some}
use Rattle.alta_replies.proofs.SearchLaws.{searching_some, counting_some, explaining_some, ranking_some, some_behind}

pub after_append : (m : Machine) (xs ys : List (List ℕ)) → machine_after m (xs ++ ys) ≡ machine_after (machine_after m xs) ys
after_append m [] ys = refl
after_append m (x ∷ xs) ys = after_append (step m x).0 xs ys

pub replies_append : (m : Machine) (xs ys : List (List ℕ)) → replies m (xs ++ ys) ≡ replies m xs ++ replies (machine_after m xs) ys
replies_append m [] ys = refl
replies_append m (x ∷ xs) ys = ap (λ (l : List (List ℕ)). (step m x).1 ∷ l) (replies_append (step m x).0 xs ys)

pub length_replies : (m : Machine) (xs : List (List ℕ)) → length (replies m xs) ≡ length xs
length_replies m [] = refl
length_replies m (x ∷ xs) = ap suc (length_replies (step m x).0 xs)

-- a line is answered by its reading
pub step_reads : (m : Machine) (line : List ℕ) (reading : Reading) → reading_of line ≡ reading → step m line ≡ answered m reading
unfolding step
step_reads m line reading is = ap (λ (r : Reading). answered m r) is

-- a reply has at least its newline
refusal_some : (fault : LineFault) → 0 < length (refusal fault)
refusal_some TooLong = lit< tt
refusal_some NotUtf8 = lit< tt
refusal_some Unknown = lit< tt
refusal_some Bad = lit< tt

put_as_some : (o : Option ℕ) (name title body : List ℕ) (s : State) → 0 < length (put_as o name title body s).1
put_as_some None name title body s = some_behind (codes "added " ++ decimal s.next) (codes "\n") (lit< tt)
put_as_some (Some n) name title body s = some_behind (codes "replaced " ++ decimal n ++ codes " by " ++ decimal s.next) (codes "\n") (lit< tt)

adding_some : (name title body : List ℕ) (s : State) → 0 < length (adding name title body s).1
unfolding adding
adding_some name title body s =
    if_some (is_name name) (if nat_le 4294967296 s.next then (s, codes "! no numbers left\n") else put_as (number_of name s) name title body s) (s, codes "! bad name\n")
    (if_some (nat_le 4294967296 s.next) (s, codes "! no numbers left\n") (put_as (number_of name s) name title body s) (lit< tt) (put_as_some (number_of name s) name title body s)) (lit< tt)

obeyed_some : (m : Machine) (command : Command) → 0 < length (obeyed m command).1
obeyed_some m (adds name title body) = adding_some name title body m.state
obeyed_some m (deletes name) = deleting_some name m.state
obeyed_some m (searches query) = searching_some query m.state.documents
obeyed_some m (counts query) = counting_some query m.state.documents
obeyed_some m (explains query) = explaining_some query
obeyed_some m (opens query) = opening_some query m.state.documents m.cursors
obeyed_some m (fetches cursor count) = fetching_some cursor count m.cursors
obeyed_some m (closes cursor) = closing_some cursor m.cursors
obeyed_some m (ranks count query) = ranking_some count query m.state.documents
obeyed_some m flushes = lit< tt
obeyed_some m merges = lit< tt
obeyed_some m (steps count) = lit< tt
obeyed_some m asks_stats = stats_some m.state
obeyed_some m dumps = dumped_some m.state.documents

answered_some : (m : Machine) (reading : Reading) → 0 < length (answered m reading).1
answered_some m (asks command) = obeyed_some m command
answered_some m (refuses fault) = refusal_some fault

pub reply_some : (m : Machine) (line : List ℕ) → 0 < length (step m line).1
unfolding step
reply_some m line = answered_some m (reading_of line)

-- the machine does not see past the first bytes of a line, one more than a line may have
reading_take : (n : ℕ) (line : List ℕ) → LINE_LIMIT < n → reading_of (take n line) ≡ reading_of line
reading_take n line l =
    elim (cases_lt n (length line)) [
      | inl long ↦ reading_long (take n line) (omega (arith, length-take n line)) ∙ sym (reading_long line (omega arith))
      | inr short ↦ ap reading_of (take_all n line short)
    ]

pub reading_clip : (line : List ℕ) → reading_of (clip line) ≡ reading_of line
unfolding clip
reading_clip line = reading_take (LINE_LIMIT + 1) line (omega arith)

pub step_clip : (m : Machine) (line : List ℕ) → step m (clip line) ≡ step m line
unfolding step
step_clip m line = ap (λ (r : Reading). answered m r) (reading_clip line)

abbrev pub first_or : List ℕ → List (List ℕ) → List ℕ
first_or line [] = line
first_or line (x ∷ xs) = x

abbrev pub rest_of : List (List ℕ) → List (List ℕ)
rest_of [] = []
rest_of (x ∷ xs) = xs

-- the first of lines that are the same up to a clip
pub clip_first : (x y : List ℕ) (xs ys : List (List ℕ)) → map clip (x ∷ xs) ≡ map clip (y ∷ ys) → clip x ≡ clip y
clip_first x y xs ys same = ap (first_or []) same

pub step_same : (m : Machine) (x y : List ℕ) → clip x ≡ clip y → step m x ≡ step m y
step_same m x y same = sym (step_clip m x) ∙ ap (λ (l : List ℕ). step m l) same ∙ step_clip m y

pub replies_clip : (m : Machine) (lines : List (List ℕ)) → replies m (map clip lines) ≡ replies m lines
replies_clip m [] = refl
replies_clip m (x ∷ xs) =
    ap (λ (p : Machine × List ℕ). p.1 ∷ replies p.0 (map clip xs)) (step_clip m x) ∙ ap (λ (l : List (List ℕ)). (step m x).1 ∷ l) (replies_clip (step m x).0 xs)

pub after_clip : (m : Machine) (lines : List (List ℕ)) → machine_after m (map clip lines) ≡ machine_after m lines
after_clip m [] = refl
after_clip m (x ∷ xs) = ap (λ (t : Machine). machine_after t (map clip xs)) (ap (λ (p : Machine × List ℕ). p.0) (step_clip m x)) ∙ after_clip (step m x).0 xs

-- lines that are the same up to a clip have the same replies, and leave the same state
pub replies_same : (m : Machine) (xs ys : List (List ℕ)) → map clip xs ≡ map clip ys → replies m xs ≡ replies m ys
replies_same m xs ys same = sym (replies_clip m xs) ∙ ap (λ (l : List (List ℕ)). replies m l) same ∙ replies_clip m ys

pub after_same : (m : Machine) (xs ys : List (List ℕ)) → map clip xs ≡ map clip ys → machine_after m xs ≡ machine_after m ys
after_same m xs ys same = sym (after_clip m xs) ∙ ap (λ (l : List (List ℕ)). machine_after m l) same ∙ after_clip m ys

-- the states after the first of lines that are the same up to a clip
pub after_take : (m : Machine) (k : ℕ) (xs ys : List (List ℕ)) → map clip xs ≡ map clip ys → machine_after m (take k xs) ≡ machine_after m (take k ys)
after_take m k xs ys same =
    sym (after_clip m (take k xs)) ∙ ap (λ (l : List (List ℕ)). machine_after m l) (sym (take-map clip k xs) ∙ ap (λ (l : List (List ℕ)). take k l) same ∙ take-map clip k ys) ∙ after_clip m (take k ys)

pub length_same : (xs ys : List (List ℕ)) → map clip xs ≡ map clip ys → length xs ≡ length ys
length_same xs ys same = sym (length-map xs clip) ∙ ap length same ∙ length-map ys clip
