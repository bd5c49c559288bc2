use Rattle.std.proofs.Common.{◌≡◌, List, ℕ, sym, ap, ◌∙◌}
use Rattle.std.specs.Str.{bytes_eq}
use Rattle.std.proofs.lemmas.Bool.{false≢true}
use Rattle.alta_machine.specs.Changes.{number_of}
use Rattle.alta_meaning.proofs.Tests.{bytes_from, bytes_same}
use Rattle.alta_catalog.proofs.KnowingLaws.{follow_on, one_name, outside_read, row_named}
use Rattle.alta_catalog.proofs.catalog.Catalog.is_named.Goals as goal

pub returns-in_default-clause-yes : goal.returns-in_default-clause-yes
returns-in_default-clause-yes c = λ s knows has e. absurd (false≢true e)

pub returns-in_default-clause-no : goal.returns-in_default-clause-no
returns-in_default-clause-no c = λ s knows has e found.
    let none = outside_read c.args.self.now s knows c.deref.result.now c.deref.ensures.value c.args.number (c.in_default.ensures.none (follow_on c.args.self.now s knows)) in
    false≢true (sym none ∙ has)

pub returns-clause-yes : goal.returns-clause-yes
returns-clause-yes c = λ s knows has e.
    let row = c.in-Some.row.now in
    let is : row.name ≡ c.args.name.now = sym c.as_str.ensures ∙ bytes_from c.as_str.result.now c.args.name.now (sym c.eq.ensures ∙ e) in
    ap (λ (name : List ℕ). number_of name s) (sym is)
    ∙ row_named c.args.self.now s knows c.deref.result.now c.deref.ensures.value c.args.number row (c.in-Some.ensures.some (follow_on c.args.self.now s knows)) has

pub returns-clause-no : goal.returns-clause-no
returns-clause-no c = λ s knows has e found.
    let row = c.in-Some.row.now in
    let its = row_named c.args.self.now s knows c.deref.result.now c.deref.ensures.value c.args.number row (c.in-Some.ensures.some (follow_on c.args.self.now s knows)) has in
    let is : row.name ≡ c.args.name.now = one_name c.args.self.now s knows row.name c.args.name.now c.args.number its found in
    false≢true (sym e ∙ c.eq.ensures ∙ ap (λ (name : List ℕ). bytes_eq name c.args.name.now) (c.as_str.ensures ∙ is) ∙ bytes_same c.args.name.now)
