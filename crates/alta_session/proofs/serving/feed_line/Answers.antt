use Rattle.std.proofs.Common.{◌≡◌, [], ◌∷◌, ◌++◌, length, take, refl, ap, sym, subst, arith}
use Rattle.alta_codec.specs.Bytes.{Lacks}
use Rattle.alta_session.specs.declared.status.Status.TheVariants.{Memory}
use Rattle.alta_session.proofs.EndingLaws.{accounts_memory, counts_none}
use Rattle.alta_session.proofs.FedLaws.{stops_none}
use Rattle.alta_session.proofs.FeedLaws.{fed_free, kept_free, fed_ended, kept_ended, stops_ended}
use Rattle.alta_session.proofs.KeepingLaws.{clip_short, free_clip, free_append, no_newline_found, newline_found}
use Rattle.alta_session.specs.Answering.{CanAnswer}
use Rattle.alta_session.specs.Fed.{Fed}
use Rattle.alta_session.specs.Progress.{StopsWithin}
use Rattle.alta_session.specs.declared.session.Session.{Session}
use Rattle.alta_session.proofs.serving.feed_line.Goals as goal

-- the look ahead leaves the session as it was
pub end_line-requires-clause-can : goal.end_line-requires-clause-can
end_line-requires-clause-can g c = subst (λ (s : Session). CanAnswer g.D.Disk.tells (g.D.Disk.state c.args.disk.now) s) (sym c.look_ahead.ensures.kept) c.requires.can

pub end_line-requires-clause-rest_free : goal.end_line-requires-clause-rest_free
end_line-requires-clause-rest_free g c = (newline_found c.in-Some.n c.args.bytes.now c.in-Some.ensures).free

pub returns-in-Ok-clause-ok : goal.returns-in-Ok-clause-ok
returns-in-Ok-clause-ok g c = fed_free g.D.Disk.tells _ _ _ c.args.begun.now.items c.args.bytes.now (g.met.D.Disk.lawful c.args.disk.now) (no_newline_found c.args.bytes.now c.in-None.ensures)

pub returns-in-Ok-clause-begun : goal.returns-in-Ok-clause-begun
returns-in-Ok-clause-begun g c = kept_free c.args.begun.now.items c.keep.new.begun.items c.args.bytes.now c.in-Ok.ensures.kept (no_newline_found c.args.bytes.now c.in-None.ensures)

pub returns-in-Ok-clause-short : goal.returns-in-Ok-clause-short
returns-in-Ok-clause-short g c = omega (arith, ap length c.in-Ok.ensures.kept, clip_short (c.args.begun.now.items ++ c.args.bytes.now))

pub returns-in-Ok-clause-free : goal.returns-in-Ok-clause-free
returns-in-Ok-clause-free g c =
    subst (Lacks 10) (sym c.in-Ok.ensures.kept) (free_clip (c.args.begun.now.items ++ c.args.bytes.now) (free_append c.args.begun.now.items c.args.bytes.now c.requires.free (no_newline_found c.args.bytes.now c.in-None.ensures)))

pub returns-in-Err-clause-err : goal.returns-in-Err-clause-err
returns-in-Err-clause-err g c = stops_none g.D.Disk.tells (g.C.Console.told c.args.console.now) (g.D.Disk.state c.args.disk.now) c.args.session.now _ c.in-Err.status (g.met.D.Disk.lawful c.args.disk.now) (λ need gap is. let memory : c.in-Err.status ≡ Memory = c.in-Err.ensures.memory in cc)
    (λ place is. let memory : c.in-Err.status ≡ Memory = c.in-Err.ensures.memory in cc)

pub returns-in-Ok-end_line-clause-ok : goal.returns-in-Ok-end_line-clause-ok
returns-in-Ok-end_line-clause-ok g c = fed_ended g.D.Disk.tells _ _ _ _ _ _ c.args.begun.now.items c.args.bytes.now c.in-Some.n (newline_found c.in-Some.n c.args.bytes.now c.in-Some.ensures)
    (subst (λ (s : Session). Fed g.D.Disk.tells (g.C.Console.told c.args.console.now) (g.C.Console.told c.end_line.new.console) (g.D.Disk.state c.args.disk.now) (g.D.Disk.state c.end_line.new.disk) s c.end_line.new.session ((c.args.begun.now.items ++ take c.in-Some.n c.args.bytes.now) ∷ [])) c.look_ahead.ensures.kept
    c.in-Ok-end_line.ensures.answers.feeds.ok)

pub returns-in-Ok-end_line-clause-begun : goal.returns-in-Ok-end_line-clause-begun
returns-in-Ok-end_line-clause-begun g c = kept_ended c.args.begun.now.items c.end_line.new.begun.items c.args.bytes.now c.in-Some.n c.in-Ok-end_line.ensures.none_begun (newline_found c.in-Some.n c.args.bytes.now c.in-Some.ensures)

pub returns-in-Err-end_line-clause-err : goal.returns-in-Err-end_line-clause-err
returns-in-Err-end_line-clause-err g c = stops_ended g.D.Disk.tells _ _ _ _ _ c.args.begun.now.items c.args.bytes.now c.in-Some.n c.in-Err-end_line.status (newline_found c.in-Some.n c.args.bytes.now c.in-Some.ensures)
    (subst (λ (s : Session). StopsWithin g.D.Disk.tells (g.C.Console.told c.args.console.now) (g.C.Console.told c.end_line.new.console) (g.D.Disk.state c.args.disk.now) (g.D.Disk.state c.end_line.new.disk) s ((c.args.begun.now.items ++ take c.in-Some.n c.args.bytes.now) ∷ []) c.in-Err-end_line.status) c.look_ahead.ensures.kept
    c.in-Err-end_line.ensures.answers.feeds.err)

pub returns-in-Ok-clause-accounts : goal.returns-in-Ok-clause-accounts
returns-in-Ok-clause-accounts g c = record { ends = tt; caused = tt; input_kept = refl; counts = counts_none g.C.Console.take_faults g.C.Console.give_faults c.args.console.now (g.D.Disk.state c.args.disk.now) }

pub returns-in-Err-clause-accounts : goal.returns-in-Err-clause-accounts
returns-in-Err-clause-accounts g c = accounts_memory g.D.Disk.tells g.C.Console.left g.C.Console.take_faults g.C.Console.give_faults c.args.console.now (g.D.Disk.state c.args.disk.now) c.in-Err.status c.in-Err.ensures.memory

pub returns-in-Ok-end_line-clause-accounts : goal.returns-in-Ok-end_line-clause-accounts
returns-in-Ok-end_line-clause-accounts g c = record { ends = tt; caused = tt; input_kept = c.end_line.ensures.answers.accounts.input_kept; counts = c.end_line.ensures.answers.accounts.counts }

pub returns-in-Err-end_line-clause-accounts : goal.returns-in-Err-end_line-clause-accounts
returns-in-Err-end_line-clause-accounts g c = record {
  ends = c.in-Err-end_line.ensures.answers.accounts.ends;
  caused = c.in-Err-end_line.ensures.answers.accounts.caused;
  input_kept = c.end_line.ensures.answers.accounts.input_kept;
  counts = c.end_line.ensures.answers.accounts.counts;
}
