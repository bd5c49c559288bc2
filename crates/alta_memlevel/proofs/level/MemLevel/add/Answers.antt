use Rattle.std.proofs.Common.{◌≡◌, ◌∷◌, [], ◌++◌, ◌<◌, sym, ap, subst, ◌∙◌, IsTrue}
use Rattle.std.specs.List.{All}
use Rattle.alta_content.specs.Rows.{RowsRise, end_of}
use Rattle.alta_content.specs.declared.content.Content.{Content}
use Rattle.alta_memlevel.proofs.Contents.{locations_of-term_lists, some-term_lists, terms_rise, content-push}
use Rattle.alta_memlevel.proofs.Ends.{ends_rise}
use Rattle.alta_memlevel.specs.Added.{Added, places_of, HasContent}
use Rattle.alta_memlevel.specs.Lists.{term_lists}
use Rattle.alta_content.proofs.Outside.{rows_push}
use Rattle.alta_memlevel.proofs.level.MemLevel.add.Goals as goal

pub returns-clause-added : goal.returns-clause-added
returns-clause-added c =
    let a : Added = record { row = c.args.row; cells = c.args.cells.now } in
    let old : Content = record { documents = c.self.inside.rows; lists = term_lists c.self.inside.lists.entries } in
    let new : Content = record { documents = c.push.new.self; lists = term_lists c.put_cells.new.lists.entries } in
    let same : old ≡ c.args.self.now.content = ap (λ v. v.content) c.self.view_is in
    λ added h.
    content-push added a old new (subst (λ v. HasContent added v) (sym same) h)
    (record { positive = c.requires.first; some = c.requires.some; counted = c.requires.counted; below = c.requires.below })
    (subst (λ v. All (λ r. r.number < c.args.row.number) v.documents) (sym same) c.requires.number)
    (subst (λ v. All (λ r. end_of r < c.args.row.first) v.documents) (sym same) c.requires.place)
    c.in_ok-push.ensures.pushed
    (λ t. locations_of-term_lists c.put_cells.new.lists.entries t ∙ c.in_ok-put_cells.ensures.added t
    ∙ ap (λ l. l ++ places_of c.args.row.first t c.args.cells.now) (sym (locations_of-term_lists c.self.inside.lists.entries t)))
    (some-term_lists c.put_cells.new.lists.entries c.in_ok-put_cells.ensures.index.none_empty)
    (terms_rise c.put_cells.new.lists.entries)

pub push-requires : goal.push-requires
push-requires c =
    let row = c.args.row in
    let whole : IsTrue c.self.inside.whole = subst (λ v. IsTrue v.sound) (sym c.self.view_is) c.requires.sound in
    let later : All (λ r. end_of r < row.first) c.self.inside.rows = subst (λ v. All (λ r. end_of r < row.first) v.content.documents) (sym c.self.view_is) c.requires.place in
    ends_rise (c.self.inside.rows ++ row ∷ [])
    (rows_push c.self.inside.rows row (c.self.invariant whole).1
    (record { positive = c.requires.first; some = c.requires.some; below = c.requires.below }) later)

pub invariant_of-self-2 : goal.invariant_of-self-2
invariant_of-self-2 c =
    let row = c.args.row in
    let whole : IsTrue c.self.inside.whole = subst (λ v. IsTrue v.sound) (sym c.self.view_is) c.requires.sound in
    let later : All (λ r. end_of r < row.first) c.self.inside.rows = subst (λ v. All (λ r. end_of r < row.first) v.content.documents) (sym c.self.view_is) c.requires.place in
    let rise : RowsRise c.push.new.self =
    subst RowsRise (sym c.in_ok-push.ensures.pushed)
    (rows_push c.self.inside.rows row (c.self.invariant whole).1
    (record { positive = c.requires.first; some = c.requires.some; below = c.requires.below }) later) in
    λ _. (c.in_ok-put_cells.ensures.index, rise)
