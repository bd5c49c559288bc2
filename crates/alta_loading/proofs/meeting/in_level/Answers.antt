use Rattle.std.proofs.Common.{sym}
use Rattle.alta_loading.specs.Met.{level_terms}
use Rattle.alta_loading.proofs.PrefixRows.{absent_is, found_is}
use Rattle.alta_loading.proofs.meeting.in_level.Goals as goal

pub returns-in-Some : goal.returns-in-Some
returns-in-Some c = sym (found_is (level_terms c.args.level.now) c.args.term.now c.in-Some._row c.in-Some.ensures)

pub returns-in-None : goal.returns-in-None
returns-in-None c = sym (absent_is (level_terms c.args.level.now) c.args.term.now c.in-None.ensures)
