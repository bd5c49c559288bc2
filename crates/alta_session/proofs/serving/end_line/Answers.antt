use Rattle.std.proofs.Common.{◌≡◌, List, ℕ, [], ◌∷◌, ◌++◌, ap, sym, subst, ◌∙◌}
use Rattle.alta_codec.specs.Bytes.{Lacks}
use Rattle.alta_session.specs.Keeping.{clip}
use Rattle.alta_session.specs.declared.status.Status.TheVariants.{Memory}
use Rattle.alta_session.proofs.EndingLaws.{accounts_memory}
use Rattle.alta_session.proofs.FedLaws.{fed_clip, stops_clip, stops_none}
use Rattle.alta_session.proofs.KeepingLaws.{clip_clip, free_clip, free_append}
use Rattle.alta_session.proofs.serving.end_line.Goals as goal

pub returns-in-Err-clause-answers : goal.returns-in-Err-clause-answers
returns-in-Err-clause-answers g c = record {
  feeds = record {
    ok = tt;
    err = stops_none g.D.Disk.tells (g.C.Console.told c.args.console.now) (g.D.Disk.state c.args.disk.now) c.args.session.now _ c.in-Err.status (g.met.D.Disk.lawful c.args.disk.now) (λ need gap is. let memory : c.in-Err.status ≡ Memory = c.in-Err.ensures.memory in cc)
        (λ place is. let memory : c.in-Err.status ≡ Memory = c.in-Err.ensures.memory in cc);
  };
  can = tt;
  accounts = accounts_memory g.D.Disk.tells g.C.Console.left g.C.Console.take_faults g.C.Console.give_faults c.args.console.now (g.D.Disk.state c.args.disk.now) c.in-Err.status c.in-Err.ensures.memory;
}

pub answer-requires-2-clause-one_line : goal.answer-requires-2-clause-one_line
answer-requires-2-clause-one_line g c =
    subst (Lacks 10) (sym (c.deref.ensures.value ∙ c.in-Ok.ensures.kept)) (free_clip (c.args.begun.now.items ++ c.args.rest.now) (free_append c.args.begun.now.items c.args.rest.now c.requires.begun_free c.requires.rest_free))

pub returns-in-Ok-answer-clause-answers : goal.returns-in-Ok-answer-clause-answers
returns-in-Ok-answer-clause-answers g c = record {
  feeds = record {
    ok = let line : List ℕ = c.args.begun.now.items ++ c.args.rest.now in
        fed_clip g.D.Disk.tells _ _ _ _ _ _ (c.deref.result.now ∷ []) (line ∷ []) (ap (λ (l : List ℕ). l ∷ []) (ap clip (c.deref.ensures.value ∙ c.in-Ok.ensures.kept) ∙ clip_clip line)) c.in-Ok-answer.ensures.feeds.ok;
    err = tt;
  };
  can = c.in-Ok-answer.ensures.can;
  accounts = c.in-Ok-answer.ensures.accounts;
}

pub returns-in-Err-answer-clause-answers : goal.returns-in-Err-answer-clause-answers
returns-in-Err-answer-clause-answers g c = record {
  feeds = record {
    ok = tt;
    err = let line : List ℕ = c.args.begun.now.items ++ c.args.rest.now in
        stops_clip g.D.Disk.tells _ _ _ _ _ (c.deref.result.now ∷ []) (line ∷ []) c.in-Err-answer.status (ap (λ (l : List ℕ). l ∷ []) (ap clip (c.deref.ensures.value ∙ c.in-Ok.ensures.kept) ∙ clip_clip line)) c.in-Err-answer.ensures.feeds.err;
  };
  can = tt;
  accounts = c.in-Err-answer.ensures.accounts;
}
