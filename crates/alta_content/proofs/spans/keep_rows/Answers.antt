use Rattle.std.proofs.Common.{not, sym, ◌∙◌, rules}
use Rattle.std.proofs.lemmas.Fn.{filter_same}
use Rattle.alta_content.specs.Spans.{is_within}
use Rattle.alta_content.proofs.Searches.{nothing_out}
use Rattle.alta_content.proofs.spans.keep_rows.Goals as goal

pub returns-then-is_empty : goal.returns-then-is_empty
returns-then-is_empty c = nothing_out (λ r. r.first) c.args.spans.now c.args.rows.now.items (sym c.is_empty.ensures ∙ c.if-is_empty.true)

pub returns : goal.returns
returns c = filter_same _ (λ r. not (is_within c.args.spans.now r.first)) _ (λ x b f' k. search rules) _ _ c.retain.ensures.filtered
