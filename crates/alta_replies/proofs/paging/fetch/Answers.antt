use Rattle.std.proofs.Common.{List, refl, sym, subst, rules}
use Rattle.std.specs.Prelude.{Option, IsNone}
use Rattle.std.proofs.lemmas.Result.{IfOk-weaker}
use Rattle.alta_cursors.specs.Open.{AreOpen, IsFetched}
use Rattle.alta_machine.specs.OpenAnswers.{left_of}
use Rattle.alta_search.specs.declared.page.Page.{Page}
use Rattle.alta_cursors.specs.declared.cursors.OpenCursor.{OpenCursor}
use Rattle.alta_machine.specs.Machine.{IsRefusal}
use Rattle.alta_replies.proofs.CursorLaws.{fetch_none, fetch_page, no_refusal, page_other}
use Rattle.alta_replies.proofs.SearchLaws.{is_written}
use Rattle.alta_replies.proofs.paging.fetch.Goals as goal

pub returns-in-Ok-Some : goal.returns-in-Ok-Some
returns-in-Ok-Some c = record {
  turned = λ all h.
      fetch_page c.args.number c.args.count all c.next_page.new.cursors c.written.result c.in-Ok-Some.page (subst (λ (o : Option Page). IsFetched c.args.count (left_of c.args.number all) o) c.in-Ok-Some.field-0-is (c.in-Ok-Some.ensures.page all h))
      (is_written c.written.result c.listed.result _ c.written.ensures.reply c.listed.ensures) (c.in-Ok-Some.ensures.left all h);
  memory = c.written.ensures.memory;
  refused =
      IfOk-weaker c.written.result _ _ (λ t is refusal. absurd (no_refusal _ (page_other c.in-Ok-Some.page.answers c.in-Ok-Some.page.more) (subst IsRefusal is refusal))) (is_written c.written.result c.listed.result _ c.written.ensures.reply c.listed.ensures);
}

pub returns-in-Ok-None : goal.returns-in-Ok-None
returns-in-Ok-None c = record {
  turned = λ all h.
      fetch_none c.args.number c.args.count all c.next_page.new.cursors c.text.result (subst (λ (o : Option Page). IsFetched c.args.count (left_of c.args.number all) o) c.in-Ok-None.field-0-is (c.in-Ok-None.ensures.page all h)) c.text.ensures.reply
      (subst (λ (l : List OpenCursor). AreOpen l all) (sym (c.in-Ok-None.ensures.none (subst (λ (o : Option Page). IsNone o) (sym c.in-Ok-None.field-0-is) refl))) h);
  memory = c.text.ensures.memory;
  refused = search rules;
}
