-- Laws of the replies on cursors.
use Rattle.std.proofs.Common.{◌≡◌, ◌≢◌, ◌⊎◌, inl, inr, ℕ, zero, suc, ◌+◌, ◌<◌, ◌≤◌, ◌/◌, ◌%◌, Bool, true, false, cond, List, [], ◌∷◌, ◌++◌, length, map, take, drop, lit<, refl, ap, sym, subst, ◌∙◌, arith, Result, Ok, Err, IfOk, OnOk, codes, decimal}
use Rattle.std.specs.Prelude.{◌==◌, ◌&&◌, ◌↔◌, IsSome, IsTrue, nat_le, nat_lt, Option, Some, None}
use Rattle.std.specs.Fmt.{digits, digits_onto, digit_glyph}
use Rattle.std.proofs.lemmas.Bool.{false≢true}
use Rattle.std.proofs.lemmas.Bool.Decides.{nat_tests}
use Rattle.std.proofs.lemmas.Result.{IfOk-weaker}
use Rattle.alta_machine.specs.declared.document.Document.{Document}
use Rattle.alta_machine.specs.Deciding.{answers}
use Rattle.alta_query.specs.Answer.{IsMemory, fault_in}
use Rattle.alta_machine.specs.QueryFaults.{Fault}
use Rattle.alta_machine.specs.Queries.{query_of}
use Rattle.alta_machine.specs.Shape.{Shape}
use Rattle.alta_machine.specs.declared.cause.Cause.TheVariants.{Memory as WantsMemory}
use Rattle.alta_query.specs.declared.fault.QueryFault.{QueryFault}
use Rattle.alta_machine.specs.declared.scored.Scored.{Scored}
use Rattle.alta_cursors.specs.Open.{AreOpen, IsFetched}
use Rattle.alta_machine.specs.OpenAnswers.{OpenAnswers, least_free, left_of, with_fetched, with_opened, without_cursor}
use Rattle.alta_cursors.specs.declared.cursors.OpenCursor.{OpenCursor}
use Rattle.alta_machine.specs.declared.cursors.TheConstants.{CURSORS}
use Rattle.alta_search.specs.declared.page.Page.{Page}
use Rattle.alta_machine.specs.Searching.{told, AnswerRow, answer_lines, found_line, row_lines, score_line, score_lines, query_refusal}
use Rattle.alta_replies.specs.Turns.{Turns}
use Rattle.alta_machine.specs.Cursors.{opening, opened_by, opened_over, fetching, fetched_as, closing, closed_as, page_lines}
use Rattle.alta_machine.specs.Machine.{IsRefusal}
use Rattle.alta_replies.proofs.SearchLaws.{refusal_some, some_behind}
use Rattle.alta_store.specs.declared.fault.StoreFault.{StoreFault}
use Rattle.alta_meaning.proofs.Tests.{apart_test}

-- ---- a reply has at least its newline
either_some : (b : Bool) (xs ys : List ℕ) → 0 < length xs → 0 < length ys → 0 < length (cond b xs ys)
either_some true xs ys first second = first
either_some false xs ys first second = second

opened_by_some : (documents : List Document) (cursors : List OpenAnswers) (r : Result Shape Fault) → 0 < length (opened_by documents cursors r).1
opened_by_some documents cursors (Ok q) =
    elim (nat_le CURSORS (length cursors)) as
    (λ (b : Bool). 0 < length (cond {A = List OpenAnswers × List ℕ} b (cursors, codes "! too many cursors\n") (with_opened (answers documents q) cursors, codes "cursor " ++ decimal (least_free cursors) ++ codes "\n")).1) [
      | true ↦ lit< tt
      | false ↦ some_behind (codes "cursor " ++ decimal (least_free cursors)) (codes "\n") (lit< tt)
    ]
opened_by_some documents cursors (Err f) = refusal_some f

pub opening_some : (text : List ℕ) (documents : List Document) (cursors : List OpenAnswers) → 0 < length (opening text documents cursors).1
unfolding opening
opening_some text documents cursors = opened_by_some documents cursors (query_of text)

fetched_some : (number count : ℕ) (cursors : List OpenAnswers) (o : Option (List Document)) → 0 < length (fetched_as number count cursors o).1
fetched_some number count cursors None = lit< tt
fetched_some number count cursors (Some left) =
    some_behind (answer_lines (take count left)) _ (either_some (nat_lt 0 (length (drop count left))) (codes "more\n") (codes "end\n") (lit< tt) (lit< tt))

pub fetching_some : (number count : ℕ) (cursors : List OpenAnswers) → 0 < length (fetching number count cursors).1
unfolding fetching
fetching_some number count cursors = fetched_some number count cursors (left_of number cursors)

closed_some : (number : ℕ) (cursors : List OpenAnswers) (o : Option (List Document)) → 0 < length (closed_as number cursors o).1
closed_some number cursors None = lit< tt
closed_some number cursors (Some left) = some_behind (codes "closed " ++ decimal number) (codes "\n") (lit< tt)

pub closing_some : (number : ℕ) (cursors : List OpenAnswers) → 0 < length (closing number cursors).1
unfolding closing
closing_some number cursors = closed_some number cursors (left_of number cursors)

-- ---- a page is no refusal
-- the text begins with another byte than an exclamation mark
abbrev pub BeginsOther : List ℕ → Type 0
BeginsOther [] = ⊥
BeginsOther (x ∷ xs) = x ≢ 33

-- so far: what stands in front, if something does, begins so
abbrev Leads : List ℕ → Type 0
Leads [] = Unit {0}
Leads (x ∷ xs) = x ≢ 33

and_left : (a b : Bool) → (a && b) ≡ true → a ≡ true
and_left true b is = refl
and_left false b is = is

pub no_refusal : (text : List ℕ) → BeginsOther text → IsRefusal text → ⊥
no_refusal [] other is = absurd other
no_refusal (x ∷ xs) other is = false≢true (sym (apart_test 33 x (λ e. other (sym e))) ∙ and_left (33 == x) _ is)

glyph_leads : (d : ℕ) (acc : List ℕ) → Leads (digit_glyph false d ∷ acc)
glyph_leads d acc = elim (nat_lt d 10) as (λ (b : Bool). cond b (48 + d) (87 + d) ≡ 33 → ⊥) [
  | true ↦ λ e. absurd (omega (arith, e))
  | false ↦ λ e. absurd (omega (arith, e))
]

digits_lead : (k n : ℕ) (acc : List ℕ) → Leads acc → Leads (digits_onto k 10 false n acc)
digits_lead zero n acc leads = leads
digits_lead (suc k) n acc leads =
    let more = digits_lead k (n / 10) (digit_glyph false (n % 10) ∷ acc) (glyph_leads (n % 10) acc) in
    elim (n / 10 == 0) as (λ (b : Bool). Leads (cond b (digit_glyph false (n % 10) ∷ acc) (digits_onto k 10 false (n / 10) (digit_glyph false (n % 10) ∷ acc)))) [
      | true ↦ glyph_leads (n % 10) acc
      | false ↦ more
    ]

decimal_leads : (n : ℕ) → Leads (decimal n)
unfolding digits
decimal_leads n = digits_lead 64 n [] tt

front_other : (front rest : List ℕ) → Leads front → BeginsOther rest → BeginsOther (front ++ rest)
front_other [] rest leads other = other
front_other (x ∷ front) rest leads other = leads

pub left_other : (xs ys : List ℕ) → BeginsOther xs → BeginsOther (xs ++ ys)
left_other [] ys other = absurd other
left_other (x ∷ xs) ys other = other

pub found_other : (n : ℕ) → BeginsOther (found_line n)
found_other n = λ e. absurd (omega (arith, e))

pub cursor_other : (n : ℕ) → BeginsOther (codes "cursor " ++ decimal n ++ codes "\n")
cursor_other n = λ e. absurd (omega (arith, e))

front_row : (row : AnswerRow) (rows : List AnswerRow) (rest : List ℕ) → BeginsOther (row_lines (row ∷ rows) ++ rest)
front_row row rows rest =
    left_other (row_lines (row ∷ rows)) rest
    (left_other (decimal row.number ++ codes " " ++ row.name ++ codes "\n") (row_lines rows)
    (left_other (decimal row.number ++ codes " " ++ row.name) (codes "\n")
    (left_other (decimal row.number ++ codes " ") row.name
    (front_other (decimal row.number) (codes " ") (decimal_leads row.number) (λ e. absurd (omega (arith, e)))))))

pub rows_other : (rows : List AnswerRow) (n : ℕ) → BeginsOther (row_lines rows ++ found_line n)
rows_other [] n = found_other n
rows_other (row ∷ rows) n = front_row row rows (found_line n)

pub lines_other : (documents : List Document) (n : ℕ) → BeginsOther (answer_lines documents ++ found_line n)
lines_other documents n = rows_other (map told documents) n

front_score : (answer : Scored) (more : List Scored) (rest : List ℕ) → BeginsOther (score_lines (answer ∷ more) ++ rest)
front_score answer more rest =
    left_other (score_lines (answer ∷ more)) rest
    (left_other (score_line answer) (score_lines more)
    (left_other (decimal answer.number ++ codes " " ++ answer.name ++ codes " " ++ decimal answer.score) (codes "\n")
    (left_other (decimal answer.number ++ codes " " ++ answer.name ++ codes " ") (decimal answer.score)
    (left_other (decimal answer.number ++ codes " " ++ answer.name) (codes " ")
    (left_other (decimal answer.number ++ codes " ") answer.name
    (front_other (decimal answer.number) (codes " ") (decimal_leads answer.number) (λ e. absurd (omega (arith, e)))))))))

pub scores_other : (best : List Scored) (n : ℕ) → BeginsOther (score_lines best ++ found_line n)
scores_other [] n = found_other n
scores_other (answer ∷ more) n = front_score answer more (found_line n)

pub page_other : (rows : List AnswerRow) (more : Bool) → BeginsOther (row_lines rows ++ cond more (codes "more\n") (codes "end\n"))
page_other [] true = λ e. absurd (omega (arith, e))
page_other [] false = λ e. absurd (omega (arith, e))
page_other (row ∷ rows) more = front_row row rows (cond more (codes "more\n") (codes "end\n"))

-- ---- a call comes to a turn
on_ok : {T E : Type 0} (r : Result T E) (P : Type 0) → P → OnOk r P
on_ok (Ok x) P here = here
on_ok (Err e) P here = tt

pub open_found : (text : List ℕ) (documents : List Document) (all : List OpenAnswers) (cursors : List OpenCursor) (r : Result (List ℕ) StoreFault) (q : Shape) → query_of text ≡ Ok q
    → Turns (opened_over (answers documents q) all) cursors r → Turns (opening text documents all) cursors r
unfolding opening
open_found text documents all cursors r q is turns = subst (λ (x : Result Shape Fault). Turns (opened_by documents all x) cursors r) (sym is) turns

pub open_refused : (text : List ℕ) (documents : List Document) (all : List OpenAnswers) (cursors : List OpenCursor) (r : Result (List ℕ) StoreFault) (e : QueryFault) → IsMemory e ⊎ (query_of text ≡ Err (fault_in e))
    → IfOk r (λ t. t ≡ query_refusal (fault_in e)) → IfOk r (λ t. e.cause ≡ WantsMemory → ⊥) → AreOpen cursors all → Turns (opening text documents all) cursors r
unfolding opening
open_refused text documents all cursors (Err x) e why reply other open_still = record { reply = tt; open_now = tt }
open_refused text documents all cursors (Ok t) e (inl wanting) reply other open_still = absurd (other (ap (λ (f : QueryFault). f.cause) wanting))
open_refused text documents all cursors (Ok t) e (inr is) reply other open_still =
    subst (λ (x : Result Shape Fault). Turns (opened_by documents all x) cursors (Ok t)) (sym is) (record { reply = reply; open_now = open_still })

-- where fewer are open than may be, or as many
pub opened_turn : (documents : List Document) (all : List OpenAnswers) (cursors : List OpenCursor) (r : Result (List ℕ) StoreFault) → length all < CURSORS
    → IfOk r (λ t. t ≡ codes "cursor " ++ decimal (least_free all) ++ codes "\n") → AreOpen cursors (with_opened documents all) → Turns (opened_over documents all) cursors r
opened_turn documents all cursors r fewer reply open_now =
    subst (λ (b : Bool). Turns (cond b (all, codes "! too many cursors\n") (with_opened documents all, codes "cursor " ++ decimal (least_free all) ++ codes "\n")) cursors r)
    (sym (fewer_test (length all) fewer)) (record { reply = reply; open_now = on_ok r _ open_now })
  where
    fewer_test : (n : ℕ) → n < CURSORS → nat_le CURSORS n ≡ false
    fewer_test n less = grind (arith, nat_tests)

pub full_turn : (documents : List Document) (all : List OpenAnswers) (cursors : List OpenCursor) (r : Result (List ℕ) StoreFault) → CURSORS ≤ length all
    → IfOk r (λ t. t ≡ codes "! too many cursors\n") → AreOpen cursors all → Turns (opened_over documents all) cursors r
full_turn documents all cursors r full reply open_still =
    subst (λ (b : Bool). Turns (cond b (all, codes "! too many cursors\n") (with_opened documents all, codes "cursor " ++ decimal (least_free all) ++ codes "\n")) cursors r)
    (sym (full_test (length all) full)) (record { reply = reply; open_now = on_ok r _ open_still })
  where
    full_test : (n : ℕ) → CURSORS ≤ n → nat_le CURSORS n ≡ true
    full_test n le = grind (arith, nat_tests)

closed_turn : (number : ℕ) (all : List OpenAnswers) (cursors : List OpenCursor) (r : Result (List ℕ) StoreFault) (o : Option (List Document)) → IsSome o
    → IfOk r (λ t. t ≡ codes "closed " ++ decimal number ++ codes "\n") → AreOpen cursors (without_cursor number all) → Turns (closed_as number all o) cursors r
closed_turn number all cursors r None some reply open_now = absurd (false≢true some)
closed_turn number all cursors r (Some left) some reply open_now = record { reply = reply; open_now = on_ok r _ open_now }

pub close_had : (number : ℕ) (all : List OpenAnswers) (cursors : List OpenCursor) (r : Result (List ℕ) StoreFault) → IsSome (left_of number all)
    → IfOk r (λ t. t ≡ codes "closed " ++ decimal number ++ codes "\n") → AreOpen cursors (without_cursor number all) → Turns (closing number all) cursors r
unfolding closing
close_had number all cursors r some reply open_now = closed_turn number all cursors r (left_of number all) some reply open_now

none_closed : (number : ℕ) (all : List OpenAnswers) (cursors : List OpenCursor) (r : Result (List ℕ) StoreFault) (o : Option (List Document)) → (IsSome o → ⊥)
    → IfOk r (λ t. t ≡ codes "! no such cursor\n") → AreOpen cursors all → Turns (closed_as number all o) cursors r
none_closed number all cursors r None none reply open_still = record { reply = reply; open_now = on_ok r _ open_still }
none_closed number all cursors r (Some left) none reply open_still = absurd (none refl)

pub close_none : (number : ℕ) (all : List OpenAnswers) (cursors : List OpenCursor) (r : Result (List ℕ) StoreFault) → (IsSome (left_of number all) → ⊥)
    → IfOk r (λ t. t ≡ codes "! no such cursor\n") → AreOpen cursors all → Turns (closing number all) cursors r
unfolding closing
close_none number all cursors r none reply open_still = none_closed number all cursors r (left_of number all) none reply open_still

some_test : (n : ℕ) → 0 < n → nat_lt 0 n ≡ true
some_test n some = grind (arith, nat_tests)

none_test : (n : ℕ) → n ≡ 0 → nat_lt 0 n ≡ false
none_test n none = grind (arith, nat_tests)

more_is : (b : Bool) (n : ℕ) → IsTrue b ↔ (0 < n) → b ≡ nat_lt 0 n
more_is true n iff = sym (some_test n (iff.0 refl))
more_is false zero iff = sym (none_test 0 refl)
more_is false (suc n) iff = absurd (false≢true (iff.1 (omega arith)))

paged_turn : (number count : ℕ) (all : List OpenAnswers) (cursors : List OpenCursor) (r : Result (List ℕ) StoreFault) (page : Page) (o : Option (List Document)) → IsFetched count o (Some page)
    → IfOk r (λ t. t ≡ row_lines page.answers ++ cond page.more (codes "more\n") (codes "end\n")) → AreOpen cursors (with_fetched number count all) → Turns (fetched_as number count all o) cursors r
paged_turn number count all cursors r page None found reply open_now = absurd found
paged_turn number count all cursors r page (Some left) found reply open_now = record {
  reply = IfOk-weaker r (λ t. t ≡ row_lines page.answers ++ cond page.more (codes "more\n") (codes "end\n")) (λ t. t ≡ page_lines count left) (λ t is.
      is ∙ ap (λ (rows : List AnswerRow). row_lines rows ++ cond page.more (codes "more\n") (codes "end\n")) found.answers
      ∙ ap (λ (b : Bool). answer_lines (take count left) ++ cond b (codes "more\n") (codes "end\n")) (more_is page.more (length (drop count left)) found.more)) reply;
  open_now = on_ok r _ open_now;
}

pub fetch_page : (number count : ℕ) (all : List OpenAnswers) (cursors : List OpenCursor) (r : Result (List ℕ) StoreFault) (page : Page) → IsFetched count (left_of number all) (Some page)
    → IfOk r (λ t. t ≡ row_lines page.answers ++ cond page.more (codes "more\n") (codes "end\n")) → AreOpen cursors (with_fetched number count all) → Turns (fetching number count all) cursors r
unfolding fetching
fetch_page number count all cursors r page found reply open_now = paged_turn number count all cursors r page (left_of number all) found reply open_now

none_fetched : (number count : ℕ) (all : List OpenAnswers) (cursors : List OpenCursor) (r : Result (List ℕ) StoreFault) (o : Option (List Document)) → IsFetched count o None
    → IfOk r (λ t. t ≡ codes "! no such cursor\n") → AreOpen cursors all → Turns (fetched_as number count all o) cursors r
none_fetched number count all cursors r None found reply open_still = record { reply = reply; open_now = on_ok r _ open_still }
none_fetched number count all cursors r (Some left) found reply open_still = absurd found

pub fetch_none : (number count : ℕ) (all : List OpenAnswers) (cursors : List OpenCursor) (r : Result (List ℕ) StoreFault) → IsFetched count (left_of number all) None
    → IfOk r (λ t. t ≡ codes "! no such cursor\n") → AreOpen cursors all → Turns (fetching number count all) cursors r
unfolding fetching
fetch_none number count all cursors r found reply open_still = none_fetched number count all cursors r (left_of number all) found reply open_still
