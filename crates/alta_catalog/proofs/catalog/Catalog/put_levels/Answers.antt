use Rattle.std.proofs.Common.{refl}
use Rattle.alta_catalog.proofs.LevelLaws.{put_is, put_knows, put_same}
use Rattle.alta_catalog.proofs.catalog.Catalog.put_levels.Goals as goal

pub returns-clause-knows : goal.returns-clause-knows
returns-clause-knows c = λ before emptied s n olds was f left is may of.
    put_knows before s f c.args.oldest n c.args.newest may _
    (put_is before emptied c.args.self.now _ s c.args.prepared c.args.oldest n c.args.newest was f left is
    (record { levels = c.put_between.ensures; gone = refl })
    (record { memory = refl; first = refl; next = refl; location = refl; count = refl; words = refl; names = refl }))
    olds of

pub returns-clause-same : goal.returns-clause-same
returns-clause-same c = λ before emptied s n was f left is may.
    put_same before s f c.args.oldest n c.args.newest may _
    (put_is before emptied c.args.self.now _ s c.args.prepared c.args.oldest n c.args.newest was f left is
    (record { levels = c.put_between.ensures; gone = refl })
    (record { memory = refl; first = refl; next = refl; location = refl; count = refl; words = refl; names = refl }))
