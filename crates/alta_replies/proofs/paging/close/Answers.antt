use Rattle.std.proofs.Common.{sym, subst, ◌∙◌, List, rules}
use Rattle.std.proofs.lemmas.Bool.{false≢true}
use Rattle.alta_cursors.specs.Open.{AreOpen}
use Rattle.alta_cursors.specs.declared.cursors.OpenCursor.{OpenCursor}
use Rattle.alta_replies.proofs.CursorLaws.{close_had, close_none}
use Rattle.alta_replies.proofs.paging.close.Goals as goal

pub returns-then-close : goal.returns-then-close
returns-then-close c = record {
  turned = λ all h.
      close_had c.args.number all c.close.new.self c.numbered.result ((c.close.ensures.had all h).0 c.if-close.true) c.numbered.ensures.reply (c.close.ensures.closed all h);
  memory = c.numbered.ensures.memory;
  refused = search rules;
}

pub returns-else-close : goal.returns-else-close
returns-else-close c = record {
  turned = λ all h.
      close_none c.args.number all c.close.new.self c.text.result (λ some. false≢true (sym c.if-close.false ∙ (c.close.ensures.had all h).1 some)) c.text.ensures.reply
      (subst (λ (l : List OpenCursor). AreOpen l all) (sym (c.close.ensures.kept c.if-close.false)) h);
  memory = c.text.ensures.memory;
  refused = search rules;
}
