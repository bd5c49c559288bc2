use Rattle.std.proofs.Common.{◌≡◌, None, List, ℕ, inr, refl, subst, sym, ap, arith, ◌∙◌, ◌≤◌}
use Rattle.std.specs.Prelude.{Option}
use Rattle.alta_journal.specs.Journal.{StandsAhead}
use Rattle.alta_journal.specs.Record.{Record}
use Rattle.alta_layout.specs.declared.places.TheConstants.{HEAD_BYTES}
use Rattle.alta_catalog.specs.Knowing.{gone_of}
use Rattle.alta_opening.specs.Costs.{named_bytes}
use Rattle.alta_root.specs.Slots.{Counts}
use Rattle.std.proofs.lemmas.Result.{IfOk-at_ok}
use Rattle.alta_disk.proofs.Moments.{only_same, passes_same}
use Rattle.alta_store.specs.Agreement.{Agrees, KeepsOpened, IsIntact, Keeps, levels_of}
use Rattle.alta_meaning.specs.Opened.{IsOpened}
use Rattle.alta_store.specs.declared.store.Store.{Store}
use Rattle.alta_store.proofs.Agreements.{kept}
use Rattle.alta_store.proofs.GoingOn.{none_goes_on}
use Rattle.alta_store.proofs.Loads.{if_ok, if_err, only_synced, held, opens_by}
use Rattle.alta_rewrite.proofs.RunLaws.{done_as}
use Rattle.alta_disk.specs.Disk.{Same}
use Rattle.alta_store.proofs.store.Store.open.Goals as goal

pub returns-clause-agrees : goal.returns-clause-agrees
returns-clause-agrees g c =
    if_ok c.load.result (λ (store : Store). Agrees g.D.Disk.tells (g.D.Disk.state c.load.new.disk) store) (λ store is. record {
      settled = only_same g.D.Disk.tells (g.D.Disk.state c.sync.new.self) (g.met.D.Disk.lawful c.sync.new.self)
          (only_synced g.D.Disk.tells (g.D.Disk.state c.args.disk.now) (g.D.Disk.state c.sync.new.self) (g.met.D.Disk.lawful c.sync.new.self) c.in-Ok.ensures.durable c.sync.ensures.content)
          (g.D.Disk.state c.load.new.disk) c.load.ensures.images c.load.ensures.content;
      content = λ told. subst (KeepsOpened store) (sym (c.load.ensures.content told))
          (held g.D.Disk.tells (g.D.Disk.state c.sync.new.self).content c.load.result c.load.ensures.loaded c.load.ensures.no_root c.load.ensures.damaged c.load.ensures.only store is told);
      intact = IfOk-at_ok IsIntact is c.load.ensures.intact;
      joins = λ told.
          none_goes_on (g.D.Disk.state c.load.new.disk).content (levels_of store) (gone_of store.catalog) store.job (IfOk-at_ok IsIntact is c.load.ensures.intact).joining (IfOk-at_ok (λ (s : Store). s.job ≡ None) is c.load.ensures.job);
      ahead = λ told. subst (λ (o : Option Record). StandsAhead store.tail.place o (g.D.Disk.state c.load.new.disk).content) (sym (IfOk-at_ok (λ (s : Store). s.ahead ≡ None) is c.load.ensures.ahead)) refl;
    })

pub returns-clause-keeps : goal.returns-clause-keeps
returns-clause-keeps g c = λ opened told there.
    if_ok c.load.result (λ (store : Store). Keeps store opened) (λ store is.
    kept store (g.D.Disk.state c.sync.new.self).content
    (held g.D.Disk.tells (g.D.Disk.state c.sync.new.self).content c.load.result c.load.ensures.loaded c.load.ensures.no_root c.load.ensures.damaged c.load.ensures.only store is told)
    opened (subst (IsOpened opened) (sym (c.sync.ensures.content told)) there))

pub returns-clause-settled : goal.returns-clause-settled
returns-clause-settled g c =
    if_err c.load.result _ (λ e is. inr (
    only_same g.D.Disk.tells (g.D.Disk.state c.sync.new.self) (g.met.D.Disk.lawful c.sync.new.self)
    (only_synced g.D.Disk.tells (g.D.Disk.state c.args.disk.now) (g.D.Disk.state c.sync.new.self) (g.met.D.Disk.lawful c.sync.new.self) c.in-Ok.ensures.durable c.sync.ensures.content)
    (g.D.Disk.state c.load.new.disk) c.load.ensures.images c.load.ensures.content))

pub returns-clause-opens : goal.returns-clause-opens
returns-clause-opens g c =
    let before = g.D.Disk.state c.args.disk.now in
    let middle = g.D.Disk.state c.sync.new.self in
    let after = g.D.Disk.state c.load.new.disk in
    opens_by g.D.Disk.tells middle.content c.load.result c.load.ensures.loaded c.load.ensures.no_root c.load.ensures.damaged c.load.ensures.only before after c.sync.ensures.content
    (done_as c.load.result (HEAD_BYTES ≤ middle.limit) (HEAD_BYTES ≤ after.limit) (λ le. omega (arith, le, c.load.ensures.same_limit)) c.load.ensures.limit) (λ told. c.load.ensures.content told ∙ c.sync.ensures.content told) (passes_same before middle after Same c.sync.ensures.images c.load.ensures.images)
    (λ e. omega (arith, c.load.ensures.cause e, c.sync.ensures.charges.cause.later)) (omega (arith, c.sync.ensures.charges.cause.later, c.load.ensures.faults))
    (λ told slot root counts.
    let same = c.sync.ensures.content told in
    let read = c.load.ensures.read told slot root (subst (Counts slot root) (sym same) counts) in
    omega (arith, read, ap (λ (image : List ℕ). named_bytes root image) same, c.sync.ensures.charges.costs.taken))
    (c.load.ensures.same_limit ∙ c.sync.ensures.charges.costs.limit)
