use Rattle.std.proofs.Common.{refl, subst, sym}
use Rattle.alta_loading.proofs.KeptLaws.{none_kept}
use Rattle.alta_meaning.specs.Standing.{StandsFor}
use Rattle.alta_session.proofs.AgreementLaws.{agrees_started}
use Rattle.alta_session.proofs.OpeningLaws.{opens_err, opens_ok}
use Rattle.alta_session.proofs.session.Session.start.Goals as goal

pub returns-in-Ok-clause-agrees : goal.returns-in-Ok-clause-agrees
returns-in-Ok-clause-agrees g c = λ s stands. agrees_started _ _ _ s c.new-in-Ok.ensures c.in-Ok.ensures.agrees (λ told. subst (StandsFor s) (sym (c.open.ensures.opens.content told)) (stands told))

pub returns-in-Ok-clause-can : goal.returns-in-Ok-clause-can
returns-in-Ok-clause-can g c = record {
  sound = (refl, c.in-Ok.ensures.sound);
  agrees = c.in-Ok.ensures.agrees;
  known = none_kept g.D.Disk.tells _ _ _ c.new.ensures;
  limit = c.in-Ok.ensures.opens.limit;
}

pub returns-in-Ok-clause-opens : goal.returns-in-Ok-clause-opens
returns-in-Ok-clause-opens g c = opens_ok g.D.Disk.tells (g.D.Disk.state c.args.disk.now) (g.D.Disk.state c.open.new.disk) c.in-Ok.store _ c.in-Ok.ensures.opens

pub returns-in-Err-clause-opens : goal.returns-in-Err-clause-opens
returns-in-Err-clause-opens g c = opens_err g.D.Disk.tells (g.D.Disk.state c.args.disk.now) (g.D.Disk.state c.open.new.disk) c.in-Err.fault c.in-Err.ensures.opens
