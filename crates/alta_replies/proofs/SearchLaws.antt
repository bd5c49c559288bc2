-- Laws of the replies to queries.
use Rattle.std.proofs.Common.{Global, ◌≡◌, ◌⊎◌, ℕ, ◌<◌, List, [], ◌∷◌, ◌++◌, length, get_or, map, take, zero, suc, ◌+◌, append-nil, append_assoc, lit<, inl, inr, refl, ap, sym, subst, ◌∙◌, arith, Result, Ok, Err, IfOk, length-append, codes, decimal}
use Rattle.std.specs.Prelude.{String, string_bytes, Some, slice_get}
use Rattle.std.proofs.lemmas.List.{length-map}
use Rattle.std.specs.Str.{IsUtf8}
use Rattle.alta_machine.specs.declared.document.Document.{Document}
use Rattle.alta_query.specs.Answer.{Gives, IsMemory, fault_in}
use Rattle.alta_machine.specs.Queries.{query_of}
use Rattle.alta_machine.specs.QueryFaults.{Fault, fault}
use Rattle.alta_machine.specs.Shape.{Shape}
use Rattle.alta_machine.specs.Spelling.{canonical}
use Rattle.alta_query.specs.View.{shape}
use Rattle.alta_machine.specs.declared.cause.Cause.TheVariants.{Memory}
use Rattle.alta_query.specs.declared.fault.QueryFault.{QueryFault}
use Rattle.alta_query.specs.declared.query.Query.{Query}
use Rattle.alta_machine.specs.Deciding.{answers}
use Rattle.alta_machine.specs.Explained.{explained}
use Rattle.alta_machine.specs.PlanOf.{plan_of}
use Rattle.alta_machine.specs.Plans.{Tree}
use Rattle.alta_machine.specs.Ranked.{ranked}
use Rattle.alta_machine.specs.Uses.{uses_of}
use Rattle.alta_machine.specs.declared.scored.Scored.{Scored}
use Rattle.alta_machine.specs.declared.usage.Use.{Use}
use Rattle.alta_machine.specs.Searching.{told, AnswerRow, answer_lines, row_lines, score_line, score_lines, cause_name, found_line, found_by, counted_by, ranked_by, explained_by, searching, counting, explaining, ranking, query_refusal}
use Rattle.alta_content.specs.declared.document.DocRow.{DocRow}
use Rattle.alta_search.specs.Told.{answer_of}
use Rattle.alta_top.specs.Best.{AreBest}
use Rattle.alta_machine.specs.Scores.{scored}
use Rattle.alta_top.specs.declared.best.Top.{Top}
use Rattle.alta_machine.specs.Machine.{IsRefusal}

-- what was written is the reply
pub is_written : {E F : Type 0} (text : Result (List ℕ) E) (reply : Result (String Global) F) (l : List ℕ)
    → IfOk text (λ t. (r : String Global) × (reply ≡ Ok r) × (t ≡ string_bytes r)) → IfOk reply (λ r. string_bytes r ≡ l) → IfOk text (λ t. t ≡ l)
is_written (Err e) reply l h k = tt
is_written {F = F} (Ok t) reply l (r, is, written) k = written ∙ subst (λ (x : Result (String Global) F). IfOk x (λ r. string_bytes r ≡ l)) is k

pub parsed : (r : Result Query QueryFault) (q : Query) (text : List ℕ) → r ≡ Ok q → Gives r (query_of text) → query_of text ≡ Ok (shape q)
parsed r q text is gives = subst (λ x. Gives x (query_of text)) is gives

pub not_parsed : (r : Result Query QueryFault) (e : QueryFault) (text : List ℕ) → r ≡ Err e → Gives r (query_of text) → IsMemory e ⊎ (query_of text ≡ Err (fault_in e))
not_parsed r e text is gives = subst (λ x. Gives x (query_of text)) is gives

-- the reply to the reading of a text, where it is a query and where it is none
reply_found : {E : Type 0} (r : Result (List ℕ) E) (text : List ℕ) (reply : Result Shape Fault → List ℕ) (q : Shape) → query_of text ≡ Ok q → IfOk r (λ t. t ≡ reply (Ok q)) → IfOk r (λ t. t ≡ reply (query_of text))
reply_found (Err e) text reply q is h = tt
reply_found (Ok t) text reply q is h = h ∙ ap reply (sym is)

reply_refused : {E : Type 0} (r : Result (List ℕ) E) (text : List ℕ) (reply : Result Shape Fault → List ℕ) (e : QueryFault) → reply (Err (fault_in e)) ≡ query_refusal (fault_in e) → IsMemory e ⊎ (query_of text ≡ Err (fault_in e))
    → IfOk r (λ t. t ≡ query_refusal (fault_in e)) → IfOk r (λ t. e.cause ≡ Memory → ⊥) → IfOk r (λ t. t ≡ reply (query_of text))
reply_refused (Err x) text reply e refuses why h other = tt
reply_refused (Ok t) text reply e refuses (inl wanting) h other = absurd (other (ap (λ (f : QueryFault). f.cause) wanting))
reply_refused (Ok t) text reply e refuses (inr is) h other = h ∙ sym refuses ∙ ap reply (sym is)

pub search_found : {E : Type 0} (r : Result (List ℕ) E) (text : List ℕ) (documents : List Document) (q : Shape) → query_of text ≡ Ok q → IfOk r (λ t. t ≡ found_by documents (Ok q)) → IfOk r (λ t. t ≡ searching text documents)
unfolding searching
search_found r text documents q is h = reply_found r text (found_by documents) q is h

pub count_found : {E : Type 0} (r : Result (List ℕ) E) (text : List ℕ) (documents : List Document) (q : Shape) → query_of text ≡ Ok q → IfOk r (λ t. t ≡ counted_by documents (Ok q)) → IfOk r (λ t. t ≡ counting text documents)
unfolding counting
count_found r text documents q is h = reply_found r text (counted_by documents) q is h

pub rank_found : {E : Type 0} (r : Result (List ℕ) E) (count : ℕ) (text : List ℕ) (documents : List Document) (q : Shape) → query_of text ≡ Ok q → IfOk r (λ t. t ≡ ranked_by count documents (Ok q)) → IfOk r (λ t. t ≡ ranking count text documents)
unfolding ranking
rank_found r count text documents q is h = reply_found r text (ranked_by count documents) q is h

pub search_refused : {E : Type 0} (r : Result (List ℕ) E) (text : List ℕ) (documents : List Document) (e : QueryFault) → IsMemory e ⊎ (query_of text ≡ Err (fault_in e))
    → IfOk r (λ t. t ≡ query_refusal (fault_in e)) → IfOk r (λ t. e.cause ≡ Memory → ⊥) → IfOk r (λ t. t ≡ searching text documents)
unfolding searching
search_refused r text documents e why h other = reply_refused r text (found_by documents) e refl why h other

pub count_refused : {E : Type 0} (r : Result (List ℕ) E) (text : List ℕ) (documents : List Document) (e : QueryFault) → IsMemory e ⊎ (query_of text ≡ Err (fault_in e))
    → IfOk r (λ t. t ≡ query_refusal (fault_in e)) → IfOk r (λ t. e.cause ≡ Memory → ⊥) → IfOk r (λ t. t ≡ counting text documents)
unfolding counting
count_refused r text documents e why h other = reply_refused r text (counted_by documents) e refl why h other

pub rank_refused : {E : Type 0} (r : Result (List ℕ) E) (count : ℕ) (text : List ℕ) (documents : List Document) (e : QueryFault) → IsMemory e ⊎ (query_of text ≡ Err (fault_in e))
    → IfOk r (λ t. t ≡ query_refusal (fault_in e)) → IfOk r (λ t. e.cause ≡ Memory → ⊥) → IfOk r (λ t. t ≡ ranking count text documents)
unfolding ranking
rank_refused r count text documents e why h other = reply_refused r text (ranked_by count documents) e refl why h other

pub explain_found : {E : Type 0} (r : Result (List ℕ) E) (text : List ℕ) (q : Shape) → query_of text ≡ Ok q → IfOk r (λ t. t ≡ explained_by (Ok q)) → IfOk r (λ t. t ≡ explaining text)
unfolding explaining
explain_found r text q is h = reply_found r text explained_by q is h

pub explain_refused : {E : Type 0} (r : Result (List ℕ) E) (text : List ℕ) (e : QueryFault) → IsMemory e ⊎ (query_of text ≡ Err (fault_in e))
    → IfOk r (λ t. t ≡ query_refusal (fault_in e)) → IfOk r (λ t. e.cause ≡ Memory → ⊥) → IfOk r (λ t. t ≡ explaining text)
unfolding explaining
explain_refused r text e why h other = reply_refused r text explained_by e refl why h other

-- the lines of the plan of a query whose terms are text
pub plan_lines : (q : Shape) (t : Tree) (lines : List ℕ) → t ≡ plan_of q → IsUtf8 (explained [] (plan_of q)) → (IsUtf8 (explained [] t) → lines ≡ explained [] t) → lines ≡ explained [] (plan_of q)
plan_lines q t lines is text exact = exact (subst (λ u. IsUtf8 (explained [] u)) (sym is) text) ∙ ap (explained []) is

pub some_behind : (xs ys : List ℕ) → 0 < length ys → 0 < length (xs ++ ys)
some_behind xs ys h = omega (arith, length-append xs ys, h)

-- a reply has at least its newline
pub refusal_some : (f : Fault) → 0 < length (query_refusal f)
refusal_some (fault place cause) = some_behind (codes "! query " ++ decimal place ++ codes " " ++ cause_name cause) (codes "\n") (lit< tt)

pub found_some : (n : ℕ) → 0 < length (found_line n)
found_some n = some_behind (codes "found " ++ decimal n) (codes "\n") (lit< tt)

found_by_some : (documents : List Document) (r : Result Shape Fault) → 0 < length (found_by documents r)
found_by_some documents (Ok q) =
    omega (arith, length-append (answer_lines (answers documents q)) (found_line (length (answers documents q))), found_some (length (answers documents q)))
found_by_some documents (Err f) = refusal_some f

counted_by_some : (documents : List Document) (r : Result Shape Fault) → 0 < length (counted_by documents r)
counted_by_some documents (Ok q) = found_some (length (answers documents q))
counted_by_some documents (Err f) = refusal_some f

ranked_by_some : (count : ℕ) (documents : List Document) (r : Result Shape Fault) → 0 < length (ranked_by count documents r)
ranked_by_some count documents (Ok q) =
    let best = score_lines (take count (ranked (map (scored (uses_of q)) (answers documents q)))) in
    some_behind best (found_line (length (answers documents q))) (found_some (length (answers documents q)))
ranked_by_some count documents (Err f) = refusal_some f

pub ranking_some : (count : ℕ) (text : List ℕ) (documents : List Document) → 0 < length (ranking count text documents)
unfolding ranking
ranking_some count text documents = ranked_by_some count documents (query_of text)

pub searching_some : (text : List ℕ) (documents : List Document) → 0 < length (searching text documents)
unfolding searching
searching_some text documents = found_by_some documents (query_of text)

pub counting_some : (text : List ℕ) (documents : List Document) → 0 < length (counting text documents)
unfolding counting
counting_some text documents = counted_by_some documents (query_of text)

explained_by_some : (r : Result Shape Fault) → 0 < length (explained_by r)
explained_by_some (Ok q) =
    omega (arith, length-append (canonical q ++ codes "\n") (explained [] (plan_of q)), some_behind (canonical q) (codes "\n") (lit< tt))
explained_by_some (Err f) = refusal_some f

pub explaining_some : (text : List ℕ) → 0 < length (explaining text)
unfolding explaining
explaining_some text = explained_by_some (query_of text)

-- what was written for a state is the reply
pub is_written_for : {E F S : Type 0} (P : S → Type 0) (text : Result (List ℕ) E) (reply : Result (String Global) F) (l : S → List ℕ)
    → IfOk text (λ t. (r : String Global) × (reply ≡ Ok r) × (t ≡ string_bytes r)) → IfOk reply (λ r. (s : S) → P s → string_bytes r ≡ l s) → (s : S) → P s → IfOk text (λ t. t ≡ l s)
is_written_for P (Err e) reply l h k s p = tt
is_written_for {F = F} {S = S} P (Ok t) reply l (r, is, written) k s p = written ∙ subst (λ (x : Result (String Global) F). IfOk x (λ r. (s : S) → P s → string_bytes r ≡ l s)) is k s p

-- one line more
abbrev line_of : AnswerRow → List ℕ
line_of row = decimal row.number ++ codes " " ++ row.name ++ codes "\n"

lines_more : (rows : List AnswerRow) (i : ℕ) (row : AnswerRow) → slice_get rows i ≡ Some row → row_lines (take (suc i) rows) ≡ row_lines (take i rows) ++ line_of row
lines_more [] i row is = absurd (cc is)
lines_more (r ∷ rows) zero row is = let same : r ≡ row = cc is in append-nil (line_of r) ∙ ap line_of same
lines_more (r ∷ rows) (suc i) row is = ap (λ (l : List ℕ). line_of r ++ l) (lines_more rows i row is) ∙ sym (append_assoc (line_of r) (row_lines (take i rows)) (line_of row))

one_more : (i : ℕ) → suc i ≡ i + 1
one_more i = omega arith

in_front : (a b c d e : List ℕ) → a ++ b ++ c ++ d ++ e ≡ a ++ (b ++ c ++ d ++ e)
in_front a b c d e = ap (λ (l : List ℕ). l ++ d ++ e) (append_assoc a b c) ∙ ap (λ (l : List ℕ). l ++ e) (append_assoc a (b ++ c) d) ∙ append_assoc a (b ++ c ++ d) e

pub written_more : (start before now name : List ℕ) (rows : List AnswerRow) (i : ℕ) (row : AnswerRow) → slice_get rows i ≡ Some row → before ≡ start ++ row_lines (take i rows) → name ≡ row.name
    → now ≡ before ++ decimal row.number ++ codes " " ++ name ++ codes "\n" → now ≡ start ++ row_lines (take (i + 1) rows)
written_more start before now name rows i row at so_far named is =
    is ∙ ap (λ (n : List ℕ). before ++ decimal row.number ++ codes " " ++ n ++ codes "\n") named
    ∙ in_front before (decimal row.number) (codes " ") row.name (codes "\n")
    ∙ ap (λ (l : List ℕ). l ++ line_of row) so_far ∙ append_assoc start (row_lines (take i rows)) (line_of row) ∙ ap (λ (l : List ℕ). start ++ l) (sym (lines_more rows i row at))
    ∙ ap (λ (n : ℕ). start ++ row_lines (take n rows)) (one_more i)

-- all answers, and how many they are
pub listed_are : (before now : List ℕ) (rows : List AnswerRow) (count : ℕ) (documents : List Document) → rows ≡ map told documents → before ≡ [] ++ row_lines rows → count ≡ length rows
    → now ≡ before ++ found_line count → now ≡ answer_lines documents ++ found_line (length documents)
listed_are before now rows count documents are written counted is =
    is ∙ ap (λ (l : List ℕ). l ++ found_line count) (written ∙ ap row_lines are)
    ∙ ap (λ (n : ℕ). answer_lines documents ++ found_line n) (counted ∙ ap (λ (l : List AnswerRow). length l) are ∙ length-map documents told)

-- one line more, with a score
scores_more : (answers : List Scored) (i : ℕ) (answer : Scored) → i < length answers → answer ≡ get_or answers i answer → score_lines (take (suc i) answers) ≡ score_lines (take i answers) ++ score_line answer
scores_more [] i answer l is = absurd (omega (arith, l))
scores_more (a ∷ more) zero answer l is = append-nil (score_line a) ∙ ap score_line (sym is)
scores_more (a ∷ more) (suc i) answer l is =
    ap (λ (t : List ℕ). score_line a ++ t) (scores_more more i answer (omega (arith, l)) is) ∙ sym (append_assoc (score_line a) (score_lines (take i more)) (score_line answer))

score_in_front : (before number name score : List ℕ)
    → before ++ number ++ codes " " ++ name ++ codes " " ++ score ++ codes "\n" ≡ before ++ (number ++ codes " " ++ name ++ codes " " ++ score ++ codes "\n")
score_in_front before number name score = simp append_assoc

pub score_written : (start before now name : List ℕ) (answers : List Scored) (i : ℕ) (answer : Scored) → i < length answers → answer ≡ get_or answers i answer → before ≡ start ++ score_lines (take i answers) → name ≡ answer.name
    → now ≡ before ++ decimal answer.number ++ codes " " ++ name ++ codes " " ++ decimal answer.score ++ codes "\n" → now ≡ start ++ score_lines (take (i + 1) answers)
score_written start before now name answers i answer l at so_far named is =
    is ∙ ap (λ (n : List ℕ). before ++ decimal answer.number ++ codes " " ++ n ++ codes " " ++ decimal answer.score ++ codes "\n") named
    ∙ score_in_front before (decimal answer.number) answer.name (decimal answer.score)
    ∙ ap (λ (t : List ℕ). t ++ score_line answer) so_far ∙ append_assoc start (score_lines (take i answers)) (score_line answer)
    ∙ ap (λ (t : List ℕ). start ++ t) (sym (scores_more answers i answer l at))
    ∙ ap (λ (n : ℕ). start ++ score_lines (take n answers)) (one_more i)

-- the best answers, and how many there are
pub best_are : (before now : List ℕ) (top : Top) (uses : List Use) (documents : List Document) (count : ℕ) → AreBest uses documents count top → before ≡ [] ++ score_lines top.answers → now ≡ before ++ found_line top.total
    → now ≡ score_lines (take count (ranked (map (scored uses) documents))) ++ found_line (length documents)
best_are before now top uses documents count best written is =
    is ∙ ap (λ (l : List ℕ). l ++ found_line top.total) (written ∙ ap score_lines best.answers)
    ∙ ap (λ (n : ℕ). score_lines (take count (ranked (map (scored uses) documents))) ++ found_line n) best.total

-- how many they are
pub counted_are : (now : List ℕ) (count : ℕ) (rows : List DocRow) (documents : List Document) → count ≡ length rows → map answer_of rows ≡ map told documents → now ≡ [] ++ found_line count
    → now ≡ found_line (length documents)
counted_are now count rows documents counted are is =
    is ∙ ap found_line (counted ∙ sym (length-map rows answer_of) ∙ ap (λ (l : List AnswerRow). length l) are ∙ length-map documents told)

-- what was written is no refusal
pub other_written : {E F : Type 0} (text : Result (List ℕ) E) (reply : Result (String Global) F) → IfOk text (λ t. (r : String Global) × (reply ≡ Ok r) × (t ≡ string_bytes r))
    → IfOk reply (λ r. IsRefusal (string_bytes r) → ⊥) → IfOk text (λ t. IsRefusal t → ⊥)
other_written (Err e) reply h k = tt
other_written {F = F} (Ok t) reply (r, is, written) k = λ refusal. subst (λ (x : Result (String Global) F). IfOk x (λ r. IsRefusal (string_bytes r) → ⊥)) is k (subst IsRefusal written refusal)
