-- Laws of what is asked of queries.
use Rattle.std.proofs.Common.{◌≡◌, ◌⊎◌, List, ℕ, Result, Ok, Err, IfOk, [], Global, sym, subst, ap, ◌∙◌}
use Rattle.std.specs.Prelude.{String}
use Rattle.alta_disk.specs.Disk.{DiskState}
use Rattle.alta_machine.specs.Deciding.{answers}
use Rattle.alta_loading.specs.declared.kept.KeptLists.{KeptLists}
use Rattle.alta_machine.specs.PlanOf.{plan_of}
use Rattle.alta_machine.specs.Plans.{Tree}
use Rattle.alta_machine.specs.Queries.{query_of}
use Rattle.alta_machine.specs.Searching.{query_refusal}
use Rattle.alta_machine.specs.Shape.{Shape}
use Rattle.alta_machine.specs.declared.cause.Cause.TheVariants.{Memory as WantsMemory}
use Rattle.alta_machine.specs.declared.document.Document.{Document}
use Rattle.alta_machine.specs.declared.test.Test.{Test}
use Rattle.alta_query.specs.Answer.{IsMemory, fault_in}
use Rattle.alta_query.specs.declared.fault.QueryFault.{QueryFault}
use Rattle.alta_replies.proofs.LoadingLaws.{none_loaded, none_ranked, text_found, top_found}
use Rattle.alta_replies.proofs.SearchLaws.{count_found, count_refused, rank_found, rank_refused, search_found, search_refused}
use Rattle.alta_replies.specs.Asks.{WritesLines, asked_lines, asked_loads, asked_reply, asked_tests}
use Rattle.alta_replies.specs.Loading.{LoadsKept, order_loads}
use Rattle.alta_replies.specs.declared.searching.Ask.{Ask}
use Rattle.alta_replies.specs.declared.searching.Ask.TheVariants.{Answers, Best, Count}
use Rattle.alta_store.specs.declared.fault.StoreFault.{StoreFault}
use Rattle.alta_store.specs.declared.store.Store.{Store}

-- the text is this query
pub asked_found : {E : Type 0} (ask : Ask) (r : Result (List ℕ) E) (text : List ℕ) (documents : List Document) (q : Shape) → query_of text ≡ Ok q → IfOk r (λ t. t ≡ asked_lines ask q (answers documents q)) → IfOk r (λ t. t ≡ asked_reply ask text documents)
asked_found Answers r text documents q is h = search_found r text documents q is h
asked_found Count r text documents q is h = count_found r text documents q is h
asked_found (Best count) r text documents q is h = rank_found r count text documents q is h

pub loads_found : (ask : Ask) (store : Store) (text : List ℕ) (q : Shape) → query_of text ≡ Ok q → asked_loads ask store text ≡ order_loads store (asked_tests ask (plan_of q))
loads_found Answers store text q is = text_found store text q is
loads_found Count store text q is = text_found store text q is
loads_found (Best count) store text q is = top_found store text q is

-- it is none
pub asked_refused : {E : Type 0} (ask : Ask) (r : Result (List ℕ) E) (text : List ℕ) (documents : List Document) (e : QueryFault) → IsMemory e ⊎ (query_of text ≡ Err (fault_in e))
    → IfOk r (λ t. t ≡ query_refusal (fault_in e)) → IfOk r (λ t. e.cause ≡ WantsMemory → ⊥) → IfOk r (λ t. t ≡ asked_reply ask text documents)
asked_refused Answers r text documents e why h other = search_refused r text documents e why h other
asked_refused Count r text documents e why h other = count_refused r text documents e why h other
asked_refused (Best count) r text documents e why h other = rank_refused r count text documents e why h other

pub loads_refused : (ask : Ask) (store : Store) (text : List ℕ) (e : QueryFault) (result : Result (List ℕ) StoreFault) → IsMemory e ⊎ (query_of text ≡ Err (fault_in e)) → IfOk result (λ t. e.cause ≡ WantsMemory → ⊥) → IfOk result (λ x. asked_loads ask store text ≡ [])
loads_refused Answers store text e result why other = none_loaded store text e result why other
loads_refused Count store text e result why other = none_loaded store text e result why other
loads_refused (Best count) store text e result why other = none_ranked store text e result why other

-- the lists of an order are those of what is asked of the plan
pub loaded_for : {X : Type 0} (tells : Type 0) (store : Store) (kept : KeptLists) (before after : DiskState) (ask : Ask) (plan query : Tree) (tests : List Test) (result : Result X StoreFault) → tests ≡ asked_tests ask plan → plan ≡ query
    → LoadsKept tells store kept (order_loads store tests) before after result → LoadsKept tells store kept (order_loads store (asked_tests ask query)) before after result
loaded_for tells store kept before after ask plan query tests result ordered planned loaded =
    subst (λ (ts : List Test). LoadsKept tells store kept (order_loads store ts) before after result) (ordered ∙ ap (asked_tests ask) planned) loaded

-- ---- what is written

-- documents that are more are also so
pub writes_weaker : {E : Type 0} (P Q : List Document → Type 0) (lines : List Document → List ℕ) (result : Result (String Global) E) → ((documents : List Document) → Q documents → P documents) → WritesLines P lines result → WritesLines Q lines result
writes_weaker P Q lines (Ok reply) weaker here = record { lines = λ documents are. here.lines documents (weaker documents are); other = here.other }
writes_weaker P Q lines (Err e) weaker here = record { lines = tt; other = tt }

pub writes_of : {E : Type 0} (P : List Document → Type 0) (ask was : Ask) (q : Shape) (result : Result (String Global) E) → ask ≡ was → WritesLines P (asked_lines was q) result → WritesLines P (asked_lines ask q) result
writes_of P ask was q result is here = subst (λ (a : Ask). WritesLines P (asked_lines a q) result) (sym is) here
