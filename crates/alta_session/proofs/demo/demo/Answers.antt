use Rattle.std.proofs.Common.{refl, ap, sym, subst, ◌∙◌, Err}
use Rattle.alta_meaning.specs.Switching.{empty_held}
use Rattle.alta_meaning.specs.Standing.{StandsFor}
use Rattle.alta_machine.specs.States.{empty_state}
use Rattle.alta_make.specs.Script.{script, report}
use Rattle.alta_session.specs.declared.status.Status.TheVariants.{Exists}
use Rattle.alta_session.proofs.DemoLaws.{IsMade, IsNew, is_made, demo_unmade, demo_unopened, demo_early, demo_late, demo_done, start_ends, start_interrupted}
use Rattle.alta_session.proofs.StatusLaws.{init_never, opening_not_full, status_not}
use Rattle.alta_store.proofs.Agreements.{opened_of}
use Rattle.alta_session.proofs.ServeLaws.{opened_by}
use Rattle.alta_session.proofs.demo.demo.Goals as goal

-- no index was made
pub returns-in_default : goal.returns-in_default
returns-in_default g c = record {
  demo = demo_unmade g.D.Disk.tells (script c.args.n) report (g.C.Console.told c.args.console.now) (g.D.Disk.state c.args.disk.now) (g.D.Disk.state c.init.new.disk) c.init.result c.init.ensures.makes.ends c.in_default.not-Done c.init.ensures.makes.exists c.init.ensures.makes.found
      (λ need gap is. (c.init.ensures.makes.too_small need gap is).2) c.init.ensures.makes.small c.init.ensures.makes.kept;
  input_kept = refl;
  give_fault = λ is. absurd ((init_never c.init.result c.init.ensures.makes.ends).give is);
  disk_fault = c.init.ensures.disk_fault;
}

-- it was not opened
pub returns-in-Err-clause-demo : goal.returns-in-Err-clause-demo
returns-in-Err-clause-demo g c =
    let made : IsMade g.D.Disk.tells (g.D.Disk.state c.args.disk.now) = is_made g.D.Disk.tells (g.D.Disk.state c.args.disk.now) c.init.result c.in-Done.is c.init.ensures.makes.found c.init.ensures.makes.small in
    demo_unopened g.D.Disk.tells (script c.args.n) report (g.C.Console.told c.args.console.now) (g.D.Disk.state c.args.disk.now) (g.D.Disk.state c.start.new.disk) c.status_of.result (g.met.D.Disk.lawful c.start.new.disk) made
    (start_ends c.status_of.result c.in-Err.fault c.status_of.ensures c.in-Err.ensures.opens.only) (status_not c.status_of.result c.in-Err.fault c.status_of.ensures Exists tt)
    (λ tell.
    let stands : StandsFor empty_state (g.D.Disk.state c.init.new.disk).content = (c.init.ensures.makes.made c.in-Done.is).content tell in
    start_interrupted c.status_of.result c.in-Err.fault c.status_of.ensures (c.in-Err.ensures.opens.opened stands.opened tell (opened_of empty_state (g.D.Disk.state c.init.new.disk).content stands)))
    (λ need gap is. opening_not_full c.in-Err.fault c.status_of.result need gap c.in-Err.ensures.opens.only c.status_of.ensures is)

-- a line of the script was not answered
pub returns-in-Err-obey_script-clause-demo : goal.returns-in-Err-obey_script-clause-demo
returns-in-Err-obey_script-clause-demo g c =
    let made : IsMade g.D.Disk.tells (g.D.Disk.state c.args.disk.now) = is_made g.D.Disk.tells (g.D.Disk.state c.args.disk.now) c.init.result c.in-Done.is c.init.ensures.makes.found c.init.ensures.makes.small in
    let new : IsNew g.D.Disk.tells (g.D.Disk.state c.args.disk.now) (g.D.Disk.state c.start.new.disk) c.in-Ok.session = record {
      stands = λ tell. subst (StandsFor empty_state) (sym (c.start.ensures.opens.content tell)) ((c.init.ensures.makes.made c.in-Done.is).content tell);
      agrees = λ tell. c.in-Ok.ensures.agrees empty_state (λ t. (c.init.ensures.makes.made c.in-Done.is).content t);
      held = λ tell. opened_by g.D.Disk.tells (g.D.Disk.state c.init.new.disk) (g.D.Disk.state c.start.new.disk) c.in-Ok.session empty_held (g.met.D.Disk.lawful c.start.new.disk) tell c.in-Ok.ensures.job (c.start.ensures.opens.content tell)
          (record { is = (c.init.ensures.holds c.in-Done.is).content tell; none = refl });
      same_limit = c.start.ensures.opens.same_limit ∙ c.init.ensures.counts.limit;
    } in
    demo_early g.D.Disk.tells (script c.args.n) report (g.C.Console.told c.args.console.now) (g.D.Disk.state c.args.disk.now) (g.D.Disk.state c.start.new.disk) (g.D.Disk.state c.obey_script.new.disk) c.in-Ok.session c.in-Err-obey_script.status (g.met.D.Disk.lawful c.obey_script.new.disk)
    made new c.in-Err-obey_script.ensures.feeds.err c.in-Err-obey_script.ensures.accounts.ends (λ need gap tell is. c.obey_script.ensures.accounts.full need gap tell (c.in-Err-obey_script.is ∙ ap Err is))

-- all was reported
pub returns-in-Ok-report-clause-demo : goal.returns-in-Ok-report-clause-demo
returns-in-Ok-report-clause-demo g c =
    let made : IsMade g.D.Disk.tells (g.D.Disk.state c.args.disk.now) = is_made g.D.Disk.tells (g.D.Disk.state c.args.disk.now) c.init.result c.in-Done.is c.init.ensures.makes.found c.init.ensures.makes.small in
    let new : IsNew g.D.Disk.tells (g.D.Disk.state c.args.disk.now) (g.D.Disk.state c.start.new.disk) c.in-Ok.session = record {
      stands = λ tell. subst (StandsFor empty_state) (sym (c.start.ensures.opens.content tell)) ((c.init.ensures.makes.made c.in-Done.is).content tell);
      agrees = λ tell. c.in-Ok.ensures.agrees empty_state (λ t. (c.init.ensures.makes.made c.in-Done.is).content t);
      held = λ tell. opened_by g.D.Disk.tells (g.D.Disk.state c.init.new.disk) (g.D.Disk.state c.start.new.disk) c.in-Ok.session empty_held (g.met.D.Disk.lawful c.start.new.disk) tell c.in-Ok.ensures.job (c.start.ensures.opens.content tell)
          (record { is = (c.init.ensures.holds c.in-Done.is).content tell; none = refl });
      same_limit = c.start.ensures.opens.same_limit ∙ c.init.ensures.counts.limit;
    } in
    demo_done g.D.Disk.tells (script c.args.n) report (g.C.Console.told c.args.console.now) (g.C.Console.told c.report.new.console) (g.D.Disk.state c.args.disk.now) (g.D.Disk.state c.start.new.disk) (g.D.Disk.state c.obey_script.new.disk) (g.D.Disk.state c.report.new.disk)
    c.in-Ok.session c.obey_script.new.session c.report.new.session (g.met.D.Disk.lawful c.report.new.disk) made new c.in-Ok-obey_script.ensures.feeds.ok c.in-Ok-report.ensures.feeds.ok

-- a line of the report was not answered
pub returns-clause-demo : goal.returns-clause-demo
returns-clause-demo g c =
    let made : IsMade g.D.Disk.tells (g.D.Disk.state c.args.disk.now) = is_made g.D.Disk.tells (g.D.Disk.state c.args.disk.now) c.init.result c.in-Done.is c.init.ensures.makes.found c.init.ensures.makes.small in
    let new : IsNew g.D.Disk.tells (g.D.Disk.state c.args.disk.now) (g.D.Disk.state c.start.new.disk) c.in-Ok.session = record {
      stands = λ tell. subst (StandsFor empty_state) (sym (c.start.ensures.opens.content tell)) ((c.init.ensures.makes.made c.in-Done.is).content tell);
      agrees = λ tell. c.in-Ok.ensures.agrees empty_state (λ t. (c.init.ensures.makes.made c.in-Done.is).content t);
      held = λ tell. opened_by g.D.Disk.tells (g.D.Disk.state c.init.new.disk) (g.D.Disk.state c.start.new.disk) c.in-Ok.session empty_held (g.met.D.Disk.lawful c.start.new.disk) tell c.in-Ok.ensures.job (c.start.ensures.opens.content tell)
          (record { is = (c.init.ensures.holds c.in-Done.is).content tell; none = refl });
      same_limit = c.start.ensures.opens.same_limit ∙ c.init.ensures.counts.limit;
    } in
    demo_late g.D.Disk.tells (script c.args.n) report (g.C.Console.told c.args.console.now) (g.C.Console.told c.report.new.console) (g.D.Disk.state c.args.disk.now) (g.D.Disk.state c.start.new.disk) (g.D.Disk.state c.obey_script.new.disk) (g.D.Disk.state c.report.new.disk)
    c.in-Ok.session c.obey_script.new.session c.in-Err-report.status (g.met.D.Disk.lawful c.report.new.disk) made new c.in-Ok-obey_script.ensures.feeds.ok c.in-Err-report.ensures.feeds.err c.in-Err-report.ensures.accounts.ends
    c.in-Err-report.ensures.accounts.caused.full
