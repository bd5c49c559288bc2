use Rattle.std.proofs.Math.Seq.{map-set_same}
use Rattle.alta_rank.proofs.Passed.{behind_more}
use Rattle.alta_rank.proofs.scoring.score_at.Goals as goal

pub returns-clause-lists : goal.returns-clause-lists
returns-clause-lists g c =
    map-set_same g.R.Reader.list c.args.readers.now c.args.i c.score_list.new.reader c.index-readers-i.result c.score_list.ensures.reads.same_list

pub returns-clause-behind : goal.returns-clause-behind
returns-clause-behind g c =
    behind_more g.R.Reader.list g.R.Reader.location c.args.readers.now c.args.i c.args.first c.args.end c.score_list.new.reader c.requires.behind c.score_list.ensures.reads.is
