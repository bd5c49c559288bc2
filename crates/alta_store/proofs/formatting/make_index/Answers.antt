use Rattle.std.proofs.Common.{sym, ◌∙◌, ap, subst, List, ℕ, drop}
use Rattle.alta_layout.specs.declared.places.TheConstants.{HEAD_BYTES}
use Rattle.alta_disk.proofs.Moments.{stands_only}
use Rattle.alta_meaning.specs.Holding.{IsHeld}
use Rattle.alta_meaning.specs.Opened.{IsOpened}
use Rattle.alta_meaning.specs.Standing.{StandsFor}
use Rattle.alta_machine.specs.States.{empty_state}
use Rattle.alta_meaning.specs.Switching.{empty_held, empty_opened}
use Rattle.alta_meaning.proofs.FormattedLaws.{formatted_held, formatted_opened, formatted_stands}
use Rattle.alta_store.specs.Clearing.{IsClear}
use Rattle.alta_store.proofs.Formatted.{is_formatted, whole_written}
use Rattle.alta_store.proofs.formatting.make_index.Goals as goal

pub returns-clause-formatted : goal.returns-clause-formatted
returns-clause-formatted g c =
    stands_only g.D.Disk.tells (g.D.Disk.state c.write_synced-2.new.disk) (StandsFor empty_state) (g.met.D.Disk.lawful c.write_synced-2.new.disk) c.in_ok-write_synced-2.ensures.syncs.durable
    (λ told. formatted_stands _ (is_formatted _ _ _ (subst (IsClear HEAD_BYTES) (sym (c.sync.ensures.content told)) (c.in_ok-clear_head.ensures.clear told)) (c.in_ok-write_synced.ensures.written told) (c.in_ok-write_synced-2.ensures.written told)))

pub returns-clause-opened : goal.returns-clause-opened
returns-clause-opened g c =
    stands_only g.D.Disk.tells (g.D.Disk.state c.write_synced-2.new.disk) (IsOpened empty_opened) (g.met.D.Disk.lawful c.write_synced-2.new.disk) c.in_ok-write_synced-2.ensures.syncs.durable
    (λ told. formatted_opened _ (is_formatted _ _ _ (subst (IsClear HEAD_BYTES) (sym (c.sync.ensures.content told)) (c.in_ok-clear_head.ensures.clear told)) (c.in_ok-write_synced.ensures.written told) (c.in_ok-write_synced-2.ensures.written told)))

pub returns-clause-holds : goal.returns-clause-holds
returns-clause-holds g c =
    stands_only g.D.Disk.tells (g.D.Disk.state c.write_synced-2.new.disk) (IsHeld empty_held) (g.met.D.Disk.lawful c.write_synced-2.new.disk) c.in_ok-write_synced-2.ensures.syncs.durable
    (λ told. formatted_held _ (is_formatted _ _ _ (subst (IsClear HEAD_BYTES) (sym (c.sync.ensures.content told)) (c.in_ok-clear_head.ensures.clear told)) (c.in_ok-write_synced.ensures.written told) (c.in_ok-write_synced-2.ensures.written told)))

pub returns-clause-written : goal.returns-clause-written
returns-clause-written g c = λ told.
    whole_written (g.D.Disk.state c.args.disk.now).content _ _ _ (subst (IsClear HEAD_BYTES) (sym (c.sync.ensures.content told)) (c.in_ok-clear_head.ensures.clear told))
    (ap (λ (image : List ℕ). drop HEAD_BYTES image) (c.sync.ensures.content told) ∙ c.in_ok-clear_head.ensures.behind told) (c.in_ok-write_synced.ensures.written told) (c.in_ok-write_synced-2.ensures.written told)
