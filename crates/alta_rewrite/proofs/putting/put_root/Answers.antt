use Rattle.std.proofs.Common.{rules}
use Rattle.alta_rewrite.proofs.PutLaws.{put_follows}
use Rattle.alta_rewrite.proofs.RunLaws.{done_as, held_put, leaves_opened, leaves_stands, opened_put, run_all, run_first, run_pending, stands_put}
use Rattle.alta_rewrite.proofs.putting.put_root.Goals as goal

pub returns-in_err-put-clause-syncs : goal.returns-in_err-put-clause-syncs
returns-in_err-put-clause-syncs g c = record {
  images =
      run_first g.D.Disk.tells c.args.slot c.args.root.now c.args.pieces.now _ (g.met.D.Disk.lawful c.args.disk.now) c.requires.settled c.requires.follows _ c.put.ensures.images;
  durable = search rules;
  charges = search rules;
}

pub returns-in_err-put-clause-opened : goal.returns-in_err-put-clause-opened
returns-in_err-put-clause-opened g c =
    leaves_opened g.D.Disk.tells c.args.slot c.args.root.now c.args.pieces.now _ (g.met.D.Disk.lawful c.args.disk.now) c.requires.settled c.requires.follows _
    (returns-in_err-put-clause-syncs g c).images

pub returns-in_err-put-clause-stands : goal.returns-in_err-put-clause-stands
returns-in_err-put-clause-stands g c =
    leaves_stands g.D.Disk.tells c.args.slot c.args.root.now c.args.pieces.now _ (g.met.D.Disk.lawful c.args.disk.now) c.requires.settled c.requires.follows _
    (returns-in_err-put-clause-syncs g c).images

pub switch-requires-clause-pending : goal.switch-requires-clause-pending
switch-requires-clause-pending g c =
    run_pending g.D.Disk.tells c.args.slot c.args.root.now c.args.pieces.now _ (g.met.D.Disk.lawful c.args.disk.now) c.requires.settled c.requires.follows _ c.put.ensures.images c.in_ok-put.ensures.put

pub switch-requires-clause-follows : goal.switch-requires-clause-follows
switch-requires-clause-follows g c = λ told. put_follows c.args.slot c.args.root.now c.args.pieces.now _ _ (c.requires.follows told) _ (c.in_ok-put.ensures.put told)

pub returns-clause-syncs : goal.returns-clause-syncs
returns-clause-syncs g c = record {
  images =
      run_all g.D.Disk.tells c.args.slot c.args.root.now c.args.pieces.now _ (g.met.D.Disk.lawful c.args.disk.now) c.requires.settled c.requires.follows _ c.put.ensures.images _ c.in_ok-put.ensures.put
      c.switch.ensures.syncs.images;
  durable = c.switch.ensures.syncs.durable;
  charges = search rules;
}

pub returns-clause-opened : goal.returns-clause-opened
returns-clause-opened g c =
    leaves_opened g.D.Disk.tells c.args.slot c.args.root.now c.args.pieces.now _ (g.met.D.Disk.lawful c.args.disk.now) c.requires.settled c.requires.follows _ (returns-clause-syncs g c).images

pub returns-clause-opened_then : goal.returns-clause-opened_then
returns-clause-opened_then g c = λ coming told names.
    done_as c.switch.result _ _ (λ switched. opened_put c.args.slot c.args.root.now c.args.pieces.now _ _ (c.requires.follows told) _ _ (c.in_ok-put.ensures.put told) switched coming names) (c.switch.ensures.switched told)

pub returns-clause-stands : goal.returns-clause-stands
returns-clause-stands g c =
    leaves_stands g.D.Disk.tells c.args.slot c.args.root.now c.args.pieces.now _ (g.met.D.Disk.lawful c.args.disk.now) c.requires.settled c.requires.follows _ (returns-clause-syncs g c).images

pub returns-clause-stands_then : goal.returns-clause-stands_then
returns-clause-stands_then g c = λ t coming levels told brings.
    done_as c.switch.result _ _ (λ switched. stands_put c.args.slot c.args.root.now c.args.pieces.now _ _ (c.requires.follows told) _ _ (c.in_ok-put.ensures.put told) switched t coming levels brings)
    (c.switch.ensures.switched told)

pub returns-clause-held : goal.returns-clause-held
returns-clause-held g c = λ then coming told brings view_is list_is.
    done_as c.switch.result _ _
    (λ switched. held_put c.args.slot c.args.root.now c.args.pieces.now _ _ (c.requires.follows told) _ _ (c.in_ok-put.ensures.put told) switched then coming brings view_is list_is) (c.switch.ensures.switched told)
