use Rattle.alta_joins.specs.Contents.{StandsOn}
use Rattle.alta_joins.proofs.OldestLaws.{begins, front_all, front_documents}
use Rattle.alta_joins.proofs.oldest.begin_oldest.Goals as goal

pub read_levels-requires : goal.read_levels-requires
read_levels-requires g c = λ told. front_all (StandsOn (g.D.Disk.state c.args.disk.now).content) 2 c.args.levels.now (c.requires.stands told)

pub begin_job-requires : goal.begin_job-requires
begin_job-requires g c = c.in_ok-contents.ensures.joined (front_documents 2 c.args.levels.now c.requires.documents)

pub returns-clause-begun : goal.returns-clause-begun
returns-clause-begun g c =
    begins c.args.levels.now c.args.gone.now c.in_ok-begin_job.field-0 c.in_ok-contents.contents.items g.D.Disk.tells (g.D.Disk.state c.args.disk.now).content c.requires.two c.in_ok-contents.ensures.kept
    (c.in_ok-contents.ensures.joined (front_documents 2 c.args.levels.now c.requires.documents)) (λ told. (c.in_ok-contents.ensures.tells told).segments)
    (λ older newer e. c.in_ok-begin_job.ensures.merging older newer e)
