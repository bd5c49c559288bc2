use Rattle.std.proofs.Common.{◌≡◌, sym, ap, subst, true, ◌∙◌, IfOk}
use Rattle.alta_query.specs.Pieces.{token_of}
use Rattle.alta_machine.specs.Spots.{near_token, value_token, plain_token}
use Rattle.alta_query.proofs.Runs.{IsNoWord, run_and, run_or, run_not, run_near, run_value, run_title, run_plain}
use Rattle.alta_query.proofs.scan.run.Goals as goal

pub returns-then-eq : goal.returns-then-eq
returns-then-eq c = run_and c.args.text.now (sym c.eq.ensures ∙ c.if-eq.true)

pub returns-then-eq-2 : goal.returns-then-eq-2
returns-then-eq-2 c = run_or c.args.text.now (sym c.eq.ensures ∙ c.if-eq.false) (sym c.eq-else-eq.ensures ∙ c.if-eq-2.true)

pub returns-then-eq-3 : goal.returns-then-eq-3
returns-then-eq-3 c =
    run_not c.args.text.now (sym c.eq.ensures ∙ c.if-eq.false) (sym c.eq-else-eq.ensures ∙ c.if-eq-2.false) (sym c.eq-else-eq-2.ensures ∙ c.if-eq-3.true)

pub returns-then-begins : goal.returns-then-begins
returns-then-begins c =
    let other : IsNoWord c.args.text.now = record {
      no_and = sym c.eq.ensures ∙ c.if-eq.false;
      no_or = sym c.eq-else-eq.ensures ∙ c.if-eq-2.false;
      no_not = sym c.eq-else-eq-2.ensures ∙ c.if-eq-3.false;
    } in
    c.near.ensures ∙ ap near_token (c.as_bytes.ensures.value ∙ c.behind.ensures) ∙ run_near c.args.text.now other (sym c.begins.ensures.value ∙ c.if-begins.true)

pub returns-then-begins-2 : goal.returns-then-begins-2
returns-then-begins-2 c =
    let other : IsNoWord c.args.text.now = record {
      no_and = sym c.eq.ensures ∙ c.if-eq.false;
      no_or = sym c.eq-else-eq.ensures ∙ c.if-eq-2.false;
      no_not = sym c.eq-else-eq-2.ensures ∙ c.if-eq-3.false;
    } in
    c.value.ensures ∙ ap value_token c.behind-then-begins-2.ensures ∙ run_value c.args.text.now other (sym c.begins.ensures.value ∙ c.if-begins.false) (sym c.begins-else-begins.ensures.value ∙ c.if-begins-2.true)

pub returns-then-begins-3 : goal.returns-then-begins-3
returns-then-begins-3 c =
    let other : IsNoWord c.args.text.now = record {
      no_and = sym c.eq.ensures ∙ c.if-eq.false;
      no_or = sym c.eq-else-eq.ensures ∙ c.if-eq-2.false;
      no_not = sym c.eq-else-eq-2.ensures ∙ c.if-eq-3.false;
    } in
    let same = ap (plain_token true) c.behind-then-begins-3.ensures ∙ run_title c.args.text.now other (sym c.begins.ensures.value ∙ c.if-begins.false) (sym c.begins-else-begins.ensures.value ∙ c.if-begins-2.false) (sym c.begins-else-begins-2.ensures.value ∙ c.if-begins-3.true) in
    subst (λ t. IfOk c.plain.result (λ kind. token_of kind ≡ t)) same c.plain.ensures

pub returns-else-begins-3 : goal.returns-else-begins-3
returns-else-begins-3 c =
    let other : IsNoWord c.args.text.now = record {
      no_and = sym c.eq.ensures ∙ c.if-eq.false;
      no_or = sym c.eq-else-eq.ensures ∙ c.if-eq-2.false;
      no_not = sym c.eq-else-eq-2.ensures ∙ c.if-eq-3.false;
    } in
    let same = run_plain c.args.text.now other (sym c.begins.ensures.value ∙ c.if-begins.false) (sym c.begins-else-begins.ensures.value ∙ c.if-begins-2.false) (sym c.begins-else-begins-2.ensures.value ∙ c.if-begins-3.false) in
    subst (λ t. IfOk c.plain-else-begins-3.result (λ kind. token_of kind ≡ t)) same c.plain-else-begins-3.ensures
