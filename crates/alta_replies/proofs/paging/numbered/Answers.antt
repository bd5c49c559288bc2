use Rattle.std.proofs.Common.{◌∷◌, ◌++◌, [], sym, ◌∙◌, append_assoc, decimal}
use Rattle.alta_replies.proofs.paging.numbered.Goals as goal

pub returns-in-Ok : goal.returns-in-Ok
returns-in-Ok c = record {
  reply = c.from_string.ensures ∙ c.in-Ok.ensures.ok
      ∙ sym (append_assoc (c.args.done.now ++ 32 ∷ []) (decimal c.args.number) (10 ∷ []) ∙ append_assoc c.args.done.now (32 ∷ []) (decimal c.args.number ++ 10 ∷ []));
  memory = tt;
}
