use Rattle.std.proofs.Common.{inl, refl, ◌∙◌}
use Rattle.std.proofs.lemmas.Result.{IfOk-weaker}
use Rattle.alta_dump.specs.Shown.{dump_tests}
use Rattle.alta_replies.specs.Loading.{order_loads}
use Rattle.alta_replies.proofs.LoadingLaws.{loads_memory, loads_same, queries_failed, queries_loaded}
use Rattle.alta_replies.proofs.dumping.dump.Goals as goal

pub dumped-requires : goal.dumped-requires
dumped-requires g c = c.in-Ok-load.ensures.tests ∙ c.in-Ok.ensures

pub returns-in-Ok-load-clause-reply : goal.returns-in-Ok-load-clause-reply
returns-in-Ok-load-clause-reply g c = λ s tell stands.
    IfOk-weaker c.dumped.result _ _ (λ text is. is s (c.in-Ok-load.ensures.shown s tell stands)) c.dumped.ensures.text

pub returns-in-Ok-load-clause-queries : goal.returns-in-Ok-load-clause-queries
returns-in-Ok-load-clause-queries g c =
    queries_loaded g.D.Disk.tells g.D.Disk.state c.args.disk.now c.load.new.disk c.args.store.now c.args.kept.now c.load.new.kept (order_loads c.args.store.now dump_tests) c.in-Ok-load.snapshot c.dumped.result
    (loads_same g.D.Disk.tells c.args.store.now c.load.new.kept (g.D.Disk.state c.args.disk.now) (g.D.Disk.state c.load.new.disk) (order_loads c.args.store.now) _ _ dump_tests c.in-Ok.ensures c.in-Ok-load.ensures.loads)
    c.dumped.ensures.memory c.dumped.ensures.other

pub returns-in-Err-clause-queries : goal.returns-in-Err-clause-queries
returns-in-Err-clause-queries g c =
    queries_failed g.D.Disk.tells g.D.Disk.state c.args.disk.now c.load.new.disk c.args.store.now c.args.kept.now c.load.new.kept (order_loads c.args.store.now dump_tests) c.in-Err.fault
    (loads_same g.D.Disk.tells c.args.store.now c.load.new.kept (g.D.Disk.state c.args.disk.now) (g.D.Disk.state c.load.new.disk) (order_loads c.args.store.now) _ _ dump_tests c.in-Ok.ensures c.in-Err.ensures.loads)

pub returns-in_default-clause-queries : goal.returns-in_default-clause-queries
returns-in_default-clause-queries g c = record {
  loading = record {
    loaded = loads_memory g.D.Disk.tells (order_loads c.args.store.now dump_tests) (g.D.Disk.state c.args.disk.now);
    undamaged = λ s tell stands. inl refl;
    known = c.requires.known;
  };
  refused = tt;
  idles = λ none. absurd none;
}
