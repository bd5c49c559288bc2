use Rattle.std.proofs.Common.{◌≡◌, ◌≤◌, ◌∙◌, false, length, List, ℕ, Ok, sym, ap, subst, arith}
use Rattle.std.specs.List.{All}
use Rattle.alta_meaning.specs.Broken.{IsBrokenAt, in_list, without_end}
use Rattle.alta_meaning.specs.Opened.{deleted_in, have_ends, levels_in}
use Rattle.alta_meaning.proofs.OneReading.{opened_unbroken}
use Rattle.alta_table.specs.Tables.{Tables}
use Rattle.alta_disk.specs.declared.fault.LoadFault.TheVariants.{Damaged}
use Rattle.alta_opening.proofs.BrokenLevels.{broken_level}
use Rattle.alta_opening.proofs.OpeningLaws.{IsFit, fault_found, levels_within, list_within}
use Rattle.alta_opening.proofs.opening.open_levels.Goals as goal

pub read_list-requires : goal.read_list-requires
read_list-requires g c = λ told.
    let lawful = g.met.D.Disk.lawful c.args.disk.now in
    list_within c.args.root.now (g.D.Disk.state c.args.disk.now).content c.limit-limit.result (c.requires told) (omega (arith, c.limit-limit.ensures, lawful.fits told))

pub read_levels-requires-clause-inside : goal.read_levels-requires-clause-inside
read_levels-requires-clause-inside g c = λ told.
    let lawful = g.met.D.Disk.lawful c.args.disk.now in
    let fits : length (g.D.Disk.state c.args.disk.now).content ≤ c.limit-limit.result = omega (arith, c.limit-limit.ensures, lawful.fits told) in
    subst (λ (image : List ℕ). All (IsFit (length image) c.limit-limit.result) c.args.root.now.levels.items) (sym (c.read_list.ensures.retrieves.reads.content told))
    (levels_within c.args.root.now (g.D.Disk.state c.args.disk.now).content c.limit-limit.result (c.requires told) fits)

pub returns-in-Err-clause-damaged : goal.returns-in-Err-clause-damaged
returns-in-Err-clause-damaged g c = λ told slot counts place is.
    let image = (g.D.Disk.state c.args.disk.now).content in
    let fault : c.in-Err.fault ≡ Damaged place = cc (is) in
    in_list slot c.args.root.now place counts (fault_found c.in-Err.fault (deleted_in c.args.root.now image) place (c.in-Err.ensures.exact told) fault)

pub returns-in-Err-clause-opened : goal.returns-in-Err-clause-opened
returns-in-Err-clause-opened g c = λ told o opened place is.
    let counted = c.requires told in
    opened_unbroken (g.D.Disk.state c.args.disk.now).content o place opened (returns-in-Err-clause-damaged g c told counted.0 counted.1 place is)

pub returns-in-Err-read_levels-clause-damaged : goal.returns-in-Err-read_levels-clause-damaged
returns-in-Err-read_levels-clause-damaged g c = λ told slot counts place is.
    let image = (g.D.Disk.state c.args.disk.now).content in
    let fault : c.in-Err-read_levels.fault ≡ Damaged place = cc (is) in
    let found = fault_found c.in-Err-read_levels.fault (levels_in c.args.root.now c.deref.result.now (g.D.Disk.state c.read_list.new.disk).content) place (c.in-Err-read_levels.ensures.exact told) fault in
    broken_level image slot c.args.root.now counts c.in-Ok.deleted.items (c.in-Ok.ensures.exact told) place
    (ap (λ (deleted : List ℕ). levels_in c.args.root.now deleted image) (sym c.deref.ensures.value) ∙ ap (levels_in c.args.root.now c.deref.result.now) (sym (c.read_list.ensures.retrieves.reads.content told)) ∙ found)

pub returns-in-Err-read_levels-clause-opened : goal.returns-in-Err-read_levels-clause-opened
returns-in-Err-read_levels-clause-opened g c = λ told o opened place is.
    let counted = c.requires told in
    opened_unbroken (g.D.Disk.state c.args.disk.now).content o place opened (returns-in-Err-read_levels-clause-damaged g c told counted.0 counted.1 place is)

pub returns-then-not-have_all-clause-damaged : goal.returns-then-not-have_all-clause-damaged
returns-then-not-have_all-clause-damaged g c = λ told slot counts place is.
    let image = (g.D.Disk.state c.args.disk.now).content in
    let at : c.args.root.now.deletions.place ≡ place = cc (is) in
    let levels = c.in-Ok-read_levels.found.levels.items in
    let tables : levels_in c.args.root.now c.in-Ok.deleted.items image ≡ Ok levels =
    ap (λ (deleted : List ℕ). levels_in c.args.root.now deleted image) (sym c.deref.ensures.value) ∙ ap (levels_in c.args.root.now c.deref.result.now) (sym (c.read_list.ensures.retrieves.reads.content told))
    ∙ c.in-Ok-read_levels.ensures.exact told in
    let none : have_ends levels c.in-Ok.deleted.items ≡ false =
    ap (λ (ls : List Tables). have_ends ls c.in-Ok.deleted.items) (sym c.deref-2.ensures.value) ∙ ap (have_ends c.deref-2.result.now) (sym c.deref-3.ensures.value) ∙ sym c.have_all.ensures ∙ c.if-not-have_all.true in
    subst (IsBrokenAt image) at (without_end slot c.args.root.now c.in-Ok.deleted.items levels (record { counts = counts; list = c.in-Ok.ensures.exact told; tables = tables }) none)

pub returns-then-not-have_all-clause-opened : goal.returns-then-not-have_all-clause-opened
returns-then-not-have_all-clause-opened g c = λ told o opened place is.
    let counted = c.requires told in
    opened_unbroken (g.D.Disk.state c.args.disk.now).content o place opened (returns-then-not-have_all-clause-damaged g c told counted.0 counted.1 place is)
