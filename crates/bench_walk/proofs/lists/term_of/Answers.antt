use Rattle.std.proofs.Common.{◌≡◌, ℕ, ◌<◌, List, ◌∷◌, [], length, sym, subst}
use Rattle.std.specs.Prelude.{Result, Ok, Err, IfOk}
use Rattle.alta_codec.specs.Rising.{IsRising}
use Rattle.alta_search.specs.Lists.{stored_list, term_lists, IsCut}
use Rattle.alta_search.specs.declared.lists.TermLists.{TermLists}
use Rattle.alta_search.proofs.Cuts.{cut_one}
use Rattle.bench_walk.proofs.lists.term_of.Goals as goal

if_ok : {T E : Type 0} (P Q : T → Type 0) (r : Result T E) → ((t : T) → P t → Q t) → IfOk r P → IfOk r Q
if_ok P Q (Ok t) f h = f t h
if_ok P Q (Err e) f h = tt

-- one list that rises and is not empty
one_list : {E : Type 0} (list : List ℕ) (r : Result TermLists E) → 0 < length list → IsRising list → IfOk r (λ t. term_lists t ≡ list ∷ []) → IfOk r (λ t. IsCut (term_lists t ∷ []))
one_list list r some rising h =
    if_ok (λ t. term_lists t ≡ list ∷ []) (λ t. IsCut (term_lists t ∷ [])) r
    (λ t e. subst (λ ls. IsCut (ls ∷ [])) (sym e) (cut_one list some rising)) h

pub returns-then-eq-clause-cut : goal.returns-then-eq-clause-cut
returns-then-eq-clause-cut c =
    let e = c.in_ok-stored.ensures in one_list (stored_list c.in_ok-stored.stored) c.one.result e.some e.rising c.one.ensures.lists

pub returns-clause-cut : goal.returns-clause-cut
returns-clause-cut c =
    let e = c.in_ok-stored-2.ensures in one_list (stored_list c.in_ok-stored-2.stored) c.one-2.result e.some e.rising c.one-2.ensures.lists
