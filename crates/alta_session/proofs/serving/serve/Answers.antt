use Rattle.std.proofs.Common.{◌≡◌, refl, ◌∙◌, ap, sym, Err, arith}
use Rattle.alta_codec.specs.Faults.{Rose}
use Rattle.alta_machine.specs.Machine.{started_at}
use Rattle.alta_session.specs.declared.status.Status.TheVariants.{Done, Usage, TakeFault, GiveFault, TooLong, Exists}
use Rattle.alta_session.proofs.EndingLaws.{counts_disk, counts_on}
use Rattle.alta_session.proofs.ObeyingLaws.{narrow_at}
use Rattle.alta_session.proofs.ServeLaws.{serves_none, serves_opened}
use Rattle.alta_session.proofs.StatusLaws.{running_rooted, running_never, running_completes, opening_ends, opening_not_full, status_not, status_rooted, status_damaged, status_disk, answers_status, outside_opened, outside_completes, start_settled}
use Rattle.alta_replies.proofs.LoadingLaws.{ok_answers}
use Rattle.alta_store.proofs.Agreements.{opened_of}
use Rattle.alta_store.specs.declared.fault.StoreFault.TheVariants.{NoRoot as StoreNoRoot, Damaged as StoreDamaged}
use Rattle.alta_session.proofs.serving.serve.Goals as goal

pub status_of-requires : goal.status_of-requires
status_of-requires g c = opening_ends c.in-Err.fault c.in-Err.ensures.opens.only

-- it could not be opened
pub returns-in-Err : goal.returns-in-Err
returns-in-Err g c = record {
  run = serves_none g.D.Disk.tells c.args.limit (g.C.Console.told c.args.console.now) (g.C.Console.left c.args.console.now) (g.D.Disk.state c.args.disk.now) (g.D.Disk.state c.start.new.disk) c.status_of.result (g.met.D.Disk.lawful c.args.disk.now) (g.met.D.Disk.lawful c.start.new.disk)
      c.start.ensures.opens.images c.start.ensures.opens.content (start_settled c.status_of.result c.in-Err.fault _ c.status_of.ensures c.in-Err.ensures.settled) c.start.ensures.opens.read (status_not _ c.in-Err.fault c.status_of.ensures Done tt) (status_not _ c.in-Err.fault c.status_of.ensures TooLong tt)
      (λ need gap is. opening_not_full c.in-Err.fault c.status_of.result need gap c.in-Err.ensures.opens.only c.status_of.ensures is)
      (λ place tell is. c.start.ensures.opens.damaged place tell (c.in-Err.is ∙ ap Err (status_damaged _ c.in-Err.fault place c.status_of.ensures is)));
  finishes = record {
    read_all = λ is. absurd (status_not _ c.in-Err.fault c.status_of.ensures Done tt is);
    never = (status_not _ c.in-Err.fault c.status_of.ensures Usage tt, status_not _ c.in-Err.fault c.status_of.ensures Exists tt);
    full = λ need gap tell is. absurd (opening_not_full c.in-Err.fault c.status_of.result need gap c.in-Err.ensures.opens.only c.status_of.ensures is);
    complete = λ s tell stands takes gives disk. outside_completes _ c.in-Err.fault _ c.status_of.ensures (c.in-Err.ensures.opens.opened stands.opened tell (opened_of s (g.D.Disk.state c.args.disk.now).content stands)) (λ is. c.start.ensures.opens.cause (c.in-Err.is ∙ ap Err is)) disk;
  };
  refuses = record {
    rooted = λ tell none. answers_status _ c.in-Err.fault StoreNoRoot c.status_of.ensures c.start.result c.in-Err.is (c.start.ensures.opens.rooted tell none);
    undamaged = λ place tell broken. (
      refl,
      record { content = c.start.ensures.opens.content; images = c.start.ensures.opens.images },
      answers_status _ c.in-Err.fault (StoreDamaged place) c.status_of.ensures c.start.result c.in-Err.is (c.start.ensures.opens.undamaged place tell broken),
    );
    unopened = λ is. (refl, record { content = c.start.ensures.opens.content; images = c.start.ensures.opens.images });
  };
  reason = record {
    exists = λ tell is. absurd (status_not _ c.in-Err.fault c.status_of.ensures Exists tt is);
    no_root = λ tell is. c.start.ensures.opens.no_root tell (c.in-Err.is ∙ ap Err (status_rooted _ c.in-Err.fault c.status_of.ensures is));
    stands = λ s tell stands. outside_opened _ c.in-Err.fault c.status_of.ensures (c.in-Err.ensures.opens.opened stands.opened tell (opened_of s (g.D.Disk.state c.args.disk.now).content stands));
    take_fault = λ is. absurd (status_not _ c.in-Err.fault c.status_of.ensures TakeFault tt is);
    give_fault = λ is. absurd (status_not _ c.in-Err.fault c.status_of.ensures GiveFault tt is);
    disk_fault = λ is. c.start.ensures.opens.cause (c.in-Err.is ∙ ap Err (status_disk _ c.in-Err.fault c.status_of.ensures is));
  };
  counts = counts_disk g.C.Console.take_faults g.C.Console.give_faults c.args.console.now (g.D.Disk.state c.args.disk.now) (g.D.Disk.state c.start.new.disk) c.start.ensures.opens.faults c.start.ensures.opens.same_limit;
}

pub answer_lines-requires : goal.answer_lines-requires
answer_lines-requires g c = record { can = c.in-Ok.ensures.can }

-- it was opened
pub returns : goal.returns
returns g c =
    let same_limit : (g.D.Disk.state c.answer_lines.new.disk).limit ≡ (g.D.Disk.state c.args.disk.now).limit = c.answer_lines.ensures.accounts.counts.kept.limit ∙ c.start.ensures.opens.same_limit in
    record {
      run = serves_opened g.D.Disk.tells c.args.limit (g.C.Console.told c.args.console.now) (g.C.Console.told c.answer_lines.new.console) (g.C.Console.left c.args.console.now) (g.C.Console.left c.answer_lines.new.console) (g.D.Disk.state c.args.disk.now) (g.D.Disk.state c.start.new.disk)
          (g.D.Disk.state c.answer_lines.new.disk) c.in-Ok.session c.answer_lines.result (g.met.D.Disk.lawful c.args.disk.now) (g.met.D.Disk.lawful c.start.new.disk) c.in-Ok.ensures.job c.start.ensures.opens.images (λ s tell stands. c.in-Ok.ensures.agrees s (λ t. stands)) c.in-Ok.ensures.can.agrees c.start.ensures.opens.content c.start.ensures.opens.same_limit c.in-Ok.ensures.keeps c.start.ensures.opens.read c.answer_lines.ensures.run;
      finishes = record {
        read_all = c.answer_lines.ensures.accounts.read_all;
        never = running_never c.answer_lines.result c.answer_lines.ensures.accounts.ends;
        full = λ need gap tell is. narrow_at _ _ _ need gap (sym same_limit) (c.answer_lines.ensures.accounts.caused.full need gap tell is);
        complete = λ s tell stands takes gives disk.
            running_completes c.answer_lines.result _ _ (Rose (g.D.Disk.state c.args.disk.now).faults (g.D.Disk.state c.answer_lines.new.disk).faults) c.answer_lines.ensures.accounts.ends c.answer_lines.ensures.accounts.take_fault c.answer_lines.ensures.accounts.caused.give_fault
            (λ is. omega (arith, c.answer_lines.ensures.accounts.caused.disk_fault is, c.start.ensures.opens.faults)) takes gives disk
            (c.answer_lines.ensures.run.each (started_at s) tell (c.in-Ok.ensures.agrees s (λ t. stands))).undamaged;
      };
      refuses = record {
        rooted = λ tell none. absurd (ok_answers c.in-Ok.session StoreNoRoot c.start.result c.in-Ok.is (c.start.ensures.opens.rooted tell none));
        undamaged = λ place tell broken. absurd (ok_answers c.in-Ok.session (StoreDamaged place) c.start.result c.in-Ok.is (c.start.ensures.opens.undamaged place tell broken));
        unopened = λ is. absurd (running_rooted c.answer_lines.result c.answer_lines.ensures.accounts.ends is);
      };
      reason = record {
        exists = λ tell is. absurd ((running_never c.answer_lines.result c.answer_lines.ensures.accounts.ends).1 is);
        no_root = λ tell is. absurd (running_rooted c.answer_lines.result c.answer_lines.ensures.accounts.ends is);
        stands = λ s tell stands. record {
          rooted = running_rooted c.answer_lines.result c.answer_lines.ensures.accounts.ends;
          whole = (c.answer_lines.ensures.run.each (started_at s) tell (c.in-Ok.ensures.agrees s (λ t. stands))).undamaged;
        };
        take_fault = c.answer_lines.ensures.accounts.take_fault;
        give_fault = c.answer_lines.ensures.accounts.caused.give_fault;
        disk_fault = λ is. omega (arith, c.answer_lines.ensures.accounts.caused.disk_fault is, c.start.ensures.opens.faults);
      };
      counts = counts_on g.C.Console.take_faults g.C.Console.give_faults c.args.console.now c.args.console.now c.answer_lines.new.console (g.D.Disk.state c.args.disk.now) (g.D.Disk.state c.start.new.disk) (g.D.Disk.state c.answer_lines.new.disk)
          (counts_disk g.C.Console.take_faults g.C.Console.give_faults c.args.console.now (g.D.Disk.state c.args.disk.now) (g.D.Disk.state c.start.new.disk) c.start.ensures.opens.faults c.start.ensures.opens.same_limit) c.answer_lines.ensures.accounts.counts;
    }
