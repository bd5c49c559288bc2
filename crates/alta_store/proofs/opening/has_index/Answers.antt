use Rattle.alta_store.proofs.Reading.{counts_rooted, damaged_rooted, is_none, is_there, shown_none}
use Rattle.alta_store.proofs.opening.has_index.Goals as goal

pub returns-in-Ok-clause-found : goal.returns-in-Ok-clause-found
returns-in-Ok-clause-found g c = λ told. (is_there (g.D.Disk.state c.args.disk.now).content (counts_rooted _ _ (g.D.Disk.state c.args.disk.now).content (c.in-Ok.ensures.counts told))).0

pub returns-in-Ok-clause-none : goal.returns-in-Ok-clause-none
returns-in-Ok-clause-none g c = λ told. (is_there (g.D.Disk.state c.args.disk.now).content (counts_rooted _ _ (g.D.Disk.state c.args.disk.now).content (c.in-Ok.ensures.counts told))).1

pub returns-in-Err-Damaged-clause-found : goal.returns-in-Err-Damaged-clause-found
returns-in-Err-Damaged-clause-found g c = λ told. (is_there (g.D.Disk.state c.args.disk.now).content (damaged_rooted (g.D.Disk.state c.args.disk.now).content _ _ c.in-Err-Damaged.field-0-is (c.in-Err-Damaged.ensures.answer told))).0

pub returns-in-Err-Damaged-clause-none : goal.returns-in-Err-Damaged-clause-none
returns-in-Err-Damaged-clause-none g c = λ told. (is_there (g.D.Disk.state c.args.disk.now).content (damaged_rooted (g.D.Disk.state c.args.disk.now).content _ _ c.in-Err-Damaged.field-0-is (c.in-Err-Damaged.ensures.answer told))).1

pub returns-in-Err-NoRoot-clause-found : goal.returns-in-Err-NoRoot-clause-found
returns-in-Err-NoRoot-clause-found g c = λ told. (is_none (g.D.Disk.state c.args.disk.now).content (shown_none (g.D.Disk.state c.args.disk.now).content _ c.in-Err-NoRoot.field-0-is (c.in-Err-NoRoot.ensures.answer told))).0

pub returns-in-Err-NoRoot-clause-none : goal.returns-in-Err-NoRoot-clause-none
returns-in-Err-NoRoot-clause-none g c = λ told. (is_none (g.D.Disk.state c.args.disk.now).content (shown_none (g.D.Disk.state c.args.disk.now).content _ c.in-Err-NoRoot.field-0-is (c.in-Err-NoRoot.ensures.answer told))).1
