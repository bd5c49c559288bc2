use Rattle.std.proofs.Common.{◌≡◌, ℕ, ◌<◌, List, ◌∷◌, [], Some, length, refl, sym, subst, ◌∙◌, Err, arith}
use Rattle.std.specs.Prelude.{slice_get}
use Rattle.std.proofs.lemmas.Option.{slice_get_within}
use Rattle.alta_codec.specs.Bytes.{Lacks}
use Rattle.alta_make.specs.Script.{report}
use Rattle.alta_session.specs.Fed.{Fed}
use Rattle.alta_session.specs.Progress.{StopsWithin}
use Rattle.alta_session.proofs.EndingLaws.{accounts_on, counts_none, counts_on}
use Rattle.alta_session.proofs.FedLaws.{fed_none}
use Rattle.alta_session.proofs.ScriptLaws.{fed_all, fed_next, stops_next, report_line_free}
use Rattle.alta_session.proofs.demo.report.Goals as goal

pub lines-init : goal.lines-init
lines-init g c = record {
  within = omega arith;
  fed = fed_none g.D.Disk.tells (g.C.Console.told c.args.console.now) (g.D.Disk.state c.args.disk.now) c.args.session.now (g.met.D.Disk.lawful c.args.disk.now);
  can = c.requires;
  input_kept = refl;
  counts = counts_none g.C.Console.take_faults g.C.Console.give_faults c.args.console.now (g.D.Disk.state c.args.disk.now);
}

pub lines-preserved : goal.lines-preserved
lines-preserved g c =
    let at : slice_get report c.lines.index ≡ Some c.in-Some.line.now = sym c.in-Some.ensures in
    let less : c.lines.index < length report = slice_get_within report c.lines.index c.in-Some.line.now at in
    record {
      within = omega arith;
      fed = fed_next g.D.Disk.tells _ _ _ _ _ _ _ _ _ report c.lines.index c.in-Some.line.now at c.lines.invariant.fed
          (subst (λ (l : List ℕ). Fed g.D.Disk.tells (g.C.Console.told c.lines.console) (g.C.Console.told c.answer.new.console) (g.D.Disk.state c.lines.disk) (g.D.Disk.state c.answer.new.disk) c.lines.session c.answer.new.session (l ∷ [])) c.as_bytes.ensures.value c.in-Ok.ensures.feeds.ok);
      can = c.in-Ok.ensures.can;
      input_kept = c.answer.ensures.accounts.input_kept ∙ c.lines.invariant.input_kept;
      counts = counts_on g.C.Console.take_faults g.C.Console.give_faults c.args.console.now c.lines.console c.answer.new.console (g.D.Disk.state c.args.disk.now) (g.D.Disk.state c.lines.disk) (g.D.Disk.state c.answer.new.disk) c.lines.invariant.counts c.answer.ensures.accounts.counts;
    }

-- behind the last line
pub returns-in-None : goal.returns-in-None
returns-in-None g c = record {
  feeds = record {
    ok = fed_all g.D.Disk.tells _ _ _ _ _ _ report c.lines.index (sym c.in-None.ensures) c.lines.invariant.fed;
    err = tt;
  };
  can = c.lines.invariant.can;
  accounts = record { ends = tt; caused = tt; input_kept = c.lines.invariant.input_kept; counts = c.lines.invariant.counts };
}

-- a line was not answered
pub returns-in-Err : goal.returns-in-Err
returns-in-Err g c = record {
  feeds = record {
    ok = tt;
    err = let at : slice_get report c.lines.index ≡ Some c.in-Some.line.now = sym c.in-Some.ensures in
        stops_next g.D.Disk.tells _ _ _ _ _ _ _ _ report c.lines.index c.in-Some.line.now c.in-Err.status at c.lines.invariant.fed
        (subst (λ (l : List ℕ). StopsWithin g.D.Disk.tells (g.C.Console.told c.lines.console) (g.C.Console.told c.answer.new.console) (g.D.Disk.state c.lines.disk) (g.D.Disk.state c.answer.new.disk) c.lines.session (l ∷ []) c.in-Err.status) c.as_bytes.ensures.value c.in-Err.ensures.feeds.err);
  };
  can = tt;
  accounts =
      accounts_on g.D.Disk.tells g.C.Console.left g.C.Console.take_faults g.C.Console.give_faults c.args.console.now c.lines.console c.answer.new.console (g.D.Disk.state c.args.disk.now) (g.D.Disk.state c.lines.disk) (g.D.Disk.state c.answer.new.disk) (Err c.in-Err.status) c.lines.invariant.input_kept c.lines.invariant.counts
      c.in-Err.ensures.accounts;
}

pub answer-requires-clause-one_line : goal.answer-requires-clause-one_line
answer-requires-clause-one_line g c = subst (Lacks 10) (sym c.as_bytes.ensures.value) (report_line_free c.lines.index c.in-Some.line.now (sym c.in-Some.ensures))
