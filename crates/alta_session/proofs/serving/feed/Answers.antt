use Rattle.std.proofs.Common.{refl, ◌∙◌, ℕ, List, subst, rules, arith}
use Rattle.std.proofs.lemmas.List.{take_all}
use Rattle.alta_console.specs.Lines.{whole_from}
use Rattle.alta_session.specs.Fed.{Fed}
use Rattle.alta_session.proofs.EndingLaws.{caused_on, counts_none, counts_on}
use Rattle.alta_session.proofs.FedLaws.{fed_none}
use Rattle.alta_session.proofs.FeedLaws.{feed_on, kept_on, feed_stops}
use Rattle.alta_session.proofs.serving.feed.Goals as goal

pub lines-init : goal.lines-init
lines-init g c = record {
  within = search rules;
  fed = fed_none g.D.Disk.tells (g.C.Console.told c.args.console.now) (g.D.Disk.state c.args.disk.now) c.args.session.now (g.met.D.Disk.lawful c.args.disk.now);
  begun = refl;
  short = c.requires.short;
  free = c.requires.free;
  can = c.requires.can;
  input_kept = refl;
  counts = counts_none g.C.Console.take_faults g.C.Console.give_faults c.args.console.now (g.D.Disk.state c.args.disk.now);
}

pub lines-preserved : goal.lines-preserved
lines-preserved g c = record {
  within = omega (arith, c.in-Ok.ensures.within);
  fed = feed_on g.D.Disk.tells _ _ _ _ _ _ _ _ _ c.args.begun.now.items c.lines.begun.items c.args.piece.now c.lines.at c.in-Ok.n c.lines.invariant.fed c.lines.invariant.begun c.in-Ok.ensures.ok;
  begun = kept_on c.args.begun.now.items c.lines.begun.items c.feed_line.new.begun.items c.args.piece.now c.lines.at c.in-Ok.n c.lines.invariant.begun c.in-Ok.ensures.begun;
  short = c.in-Ok.ensures.short;
  free = c.in-Ok.ensures.free;
  can = c.in-Ok.ensures.can;
  input_kept = c.feed_line.ensures.accounts.input_kept ∙ c.lines.invariant.input_kept;
  counts = counts_on g.C.Console.take_faults g.C.Console.give_faults c.args.console.now c.lines.console c.feed_line.new.console (g.D.Disk.state c.args.disk.now) (g.D.Disk.state c.lines.disk) (g.D.Disk.state c.feed_line.new.disk) c.lines.invariant.counts c.feed_line.ensures.accounts.counts;
}

pub returns-in-Err-clause-answers : goal.returns-in-Err-clause-answers
returns-in-Err-clause-answers g c = record {
  feeds = record {
    ok = tt;
    err = feed_stops g.D.Disk.tells _ _ _ _ _ _ _ _ c.args.begun.now.items c.lines.begun.items c.args.piece.now c.lines.at c.in-Err.status c.lines.invariant.fed c.lines.invariant.begun c.in-Err.ensures.err;
  };
  can = tt;
  accounts = record {
    ends = c.in-Err.ensures.accounts.ends;
    caused = caused_on g.C.Console.take_faults g.C.Console.give_faults g.D.Disk.tells c.args.console.now c.lines.console c.feed_line.new.console (g.D.Disk.state c.args.disk.now) (g.D.Disk.state c.lines.disk) (g.D.Disk.state c.feed_line.new.disk) c.in-Err.status c.lines.invariant.counts c.in-Err.ensures.accounts.caused;
    input_kept = c.feed_line.ensures.accounts.input_kept ∙ c.lines.invariant.input_kept;
    counts = counts_on g.C.Console.take_faults g.C.Console.give_faults c.args.console.now c.lines.console c.feed_line.new.console (g.D.Disk.state c.args.disk.now) (g.D.Disk.state c.lines.disk) (g.D.Disk.state c.feed_line.new.disk) c.lines.invariant.counts c.feed_line.ensures.accounts.counts;
  };
}

pub returns-clause-answers : goal.returns-clause-answers
returns-clause-answers g c = record {
  feeds = record {
    ok = subst
        (λ (l : List ℕ). Fed g.D.Disk.tells (g.C.Console.told c.args.console.now) (g.C.Console.told c.lines.console) (g.D.Disk.state c.args.disk.now) (g.D.Disk.state c.lines.disk) c.args.session.now c.lines.session (whole_from c.args.begun.now.items l))
        (take_all c.lines.at c.args.piece.now (omega (arith, c.lines-test.false))) c.lines.invariant.fed;
    err = tt;
  };
  can = c.lines.invariant.can;
  accounts = record { ends = tt; caused = tt; input_kept = c.lines.invariant.input_kept; counts = c.lines.invariant.counts };
}
