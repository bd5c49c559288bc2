use Rattle.std.proofs.Common.{ℕ, sym, subst}
use Rattle.std.specs.Prelude.{Option}
use Rattle.alta_replies.specs.Replies.{IsReply}
use Rattle.alta_session.specs.Tasks.{reply_to_put}
use Rattle.alta_session.proofs.session.put_reply.Goals as goal

pub returns-in-None : goal.returns-in-None
returns-in-None c = subst (λ (o : Option ℕ). IsReply (reply_to_put o c.args.put.number) c.added.result) (sym c.in-None.is) c.added.ensures

pub returns-in-Some : goal.returns-in-Some
returns-in-Some c = subst (λ (o : Option ℕ). IsReply (reply_to_put o c.args.put.number) c.replaced.result) (sym c.in-Some.is) c.replaced.ensures
