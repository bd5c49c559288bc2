use Rattle.std.proofs.Common.{ℕ, List, sym, subst}
use Rattle.alta_postings.specs.Deltas.{Spells}
use Rattle.alta_postings.proofs.Reading.{spelling_reads}
use Rattle.alta_level.proofs.checking.read_coded.Goals as goal

pub returns-in-Ok-compare-clause-coded : goal.returns-in-Ok-compare-clause-coded
returns-in-Ok-compare-clause-coded c =
    c.in-Ok-compare.ensures.coded c.args.list.now.stream.now (subst (λ (l : List ℕ). Spells c.args.list.now.stream.now l) (sym c.deref.ensures.value) c.in-Ok.ensures.spelled)

pub returns-in-Ok-compare-clause-read : goal.returns-in-Ok-compare-clause-read
returns-in-Ok-compare-clause-read c = sym (spelling_reads c.args.list.now.stream.now c.decode.new.locations.items c.in-Ok.ensures.spelled).1
