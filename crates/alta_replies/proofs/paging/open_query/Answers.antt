use Rattle.std.proofs.Common.{◌≡◌, ◌≤◌, ◌++◌, ℕ, List, [], codes, decimal, length, false, true, sym, subst, ap, ◌∙◌, arith, Bool}
use Rattle.std.specs.Prelude.{nat_le, if◌then◌else◌, Result, Ok, Err, IfOk}
use Rattle.std.proofs.lemmas.Bool.{false≢true}
use Rattle.alta_machine.specs.PlanOf.{plan_of}
use Rattle.alta_loading.specs.Loads.{Load}
use Rattle.alta_machine.specs.Machine.{IsRefusal}
use Rattle.alta_machine.specs.declared.cursors.TheConstants.{CURSORS}
use Rattle.alta_meaning.proofs.Tests.{by_test}
use Rattle.alta_query.specs.View.{shape}
use Rattle.alta_replies.specs.Loading.{search_loads}
use Rattle.alta_replies.proofs.CursorLaws.{no_refusal}
use Rattle.alta_replies.proofs.LoadingLaws.{queries_found, queries_loaded}
use Rattle.alta_store.specs.declared.fault.StoreFault.{StoreFault}
use Rattle.alta_replies.proofs.paging.open_query.Goals as goal

le_of : (m n : ℕ) → nat_le m n ≡ true → m ≤ n
le_of m n e = grind (arith, e)

-- fewer cursors are open than may be
loads_are : (n : ℕ) (loads : List Load) → (CURSORS ≤ n → ⊥) → (if nat_le CURSORS n then [] else loads) ≡ loads
loads_are n loads free =
    let few : nat_le CURSORS n ≡ false = by_test (nat_le CURSORS n) (λ full. absurd (free (le_of CURSORS n full))) (λ few. few) in
    ap (λ (b : Bool). if b then [] else loads) few

-- the reply with a cursor's number is no refusal
no_cursor_refuses : (number : ℕ) (result : Result (List ℕ) StoreFault) → IfOk result (λ reply. reply ≡ codes "cursor" ++ codes " " ++ decimal number ++ codes "\n") → IfOk result (λ reply. IsRefusal reply → ⊥)
no_cursor_refuses number (Ok reply) is = λ refusal. no_refusal (codes "cursor" ++ codes " " ++ decimal number ++ codes "\n") (λ e. absurd (omega (arith, e))) (subst IsRefusal is refusal)
no_cursor_refuses number (Err e) is = tt

pub returns-in-Ok-clause-queries : goal.returns-in-Ok-clause-queries
returns-in-Ok-clause-queries g c =
    let loads = search_loads c.args.store.now (plan_of (shape c.args.query.now)) in
    let free : CURSORS ≤ length c.args.cursors.now → ⊥ = λ full. false≢true (sym c.if-is_full.false ∙ c.is_full.ensures.full.1 full) in
    queries_found g.D.Disk.tells g.D.Disk.state c.args.disk.now c.put_cursor.new.disk c.args.store.now c.args.kept.now c.put_cursor.new.kept loads _ (CURSORS ≤ length c.args.cursors.now) c.numbered.result
    (loads_are (length c.args.cursors.now) loads free) free
    (queries_loaded g.D.Disk.tells g.D.Disk.state c.args.disk.now c.put_cursor.new.disk c.args.store.now c.args.kept.now c.put_cursor.new.kept loads c.in-Ok.number c.numbered.result c.in-Ok.ensures.loads c.numbered.ensures.memory
    (no_cursor_refuses c.in-Ok.number c.numbered.result c.numbered.ensures.reply))
