use Rattle.std.proofs.Common.{not, subst, sym}
use Rattle.std.proofs.lemmas.List.Elements.{All-filter}
use Rattle.alta_content.specs.Rows.{ends_among}
use Rattle.alta_memlevel.specs.Added.{Added, HasContent, LevelView, live_of}
use Rattle.alta_memlevel.specs.Documents.{IsMade}
use Rattle.alta_store.proofs.store.Store.drain.Goals as goal

pub returns-in-Ok-clause-part : goal.returns-in-Ok-clause-part
returns-in-Ok-clause-part c =
    let added = c.requires.added.0 in
    c.drained_documents_are_kept.ensures.part (live_of c.gone.result.now added) c.in-Ok.content
    (c.in-Ok.ensures.content added (subst (λ (l : LevelView). HasContent added l.content) (sym c.take_newest-newest.ensures.memory) c.requires.added.1))
    (All-filter (λ (a : Added). not (ends_among c.gone.result.now a.row)) IsMade added c.requires.added.2)
