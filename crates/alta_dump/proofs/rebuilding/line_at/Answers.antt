use Rattle.std.proofs.Common.{◌+◌, ◌-◌, length, ◌∙◌}
use Rattle.alta_dump.specs.Seen.{terms_of}
use Rattle.alta_dump.proofs.Rebuilt.{IsLaidOut, all_within, body_seen, fine_words, title_seen}
use Rattle.alta_dump.proofs.rebuilding.line_at.Goals as goal

pub returns-clause-line : goal.returns-clause-line
returns-clause-line c = λ d from place.
    let terms = terms_of c.args.terms.now in let words = c.args.words.now in
    let fine = fine_words terms words d.cells from.seen.folded from.plain in
    let laid : IsLaidOut terms words c.args.titles.now d.cells = record { folded = from.seen.folded; title_ends = from.seen.title_ends } in
    c.line_with.ensures.line d from
    (c.deref.ensures ∙ c.in_ok-title.ensures (all_within _ 1 c.args.place words fine) ∙ title_seen terms words c.args.titles.now d.cells c.args.place laid fine place)
    (c.deref-2.ensures ∙ c.in_ok-body.ensures (all_within _ (c.args.place + 1) (length words - 1) words fine) ∙ body_seen terms words c.args.titles.now d.cells c.args.place laid fine place)
