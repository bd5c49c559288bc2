use Rattle.std.proofs.Common.{sym, ◌∙◌}
use Rattle.alta_query.proofs.Singles.{only_same, only_other, only_none}
use Rattle.alta_query.proofs.word.is_only.Goals as goal

pub returns-then-eq : goal.returns-then-eq
returns-then-eq c =
    only_same c.args.found.now c.args.text.now _ _ c.in-len1.len_at_least c.in-len1.len_below c.word-item.is (rw c.as_str.ensures at (sym c.eq.ensures ∙ c.if-eq.true)) c.is_short.ensures

pub returns-else-eq : goal.returns-else-eq
returns-else-eq c =
    c.if-eq.false ∙ only_other c.args.found.now c.args.text.now _ c.in-len1.len_at_least c.in-len1.len_below c.word-item.is (rw c.as_str.ensures at (sym c.eq.ensures ∙ c.if-eq.false))

pub returns-in_default : goal.returns-in_default
returns-in_default c = only_none c.args.found.now c.args.text.now c.in_default.len_below
