use Rattle.std.proofs.Common.{◌≡◌, ◌+◌, ◌-◌, ℕ, List, length, refl, ap, arith, ◌∙◌, sym}
use Rattle.alta_content.specs.declared.document.DocRow.{DocRow}
use Rattle.alta_catalog.specs.Knowing.{numbers_in}
use Rattle.alta_catalog.proofs.FollowLaws.{follows_added}
use Rattle.alta_catalog.proofs.NotingLaws.{no_number}
use Rattle.alta_catalog.proofs.KnowingLaws.{bounded, ends_before, knows_added, made_added, numbers_before}
use Rattle.alta_catalog.proofs.catalog.Catalog.add.Goals as goal

pub add-requires-clause-number : goal.add-requires-clause-number
add-requires-clause-number c = numbers_before c.args.self.now c.requires.knows.0 c.requires.knows.1

pub add-requires-clause-place : goal.add-requires-clause-place
add-requires-clause-place c = ends_before c.args.self.now c.requires.knows.0 c.requires.knows.1

pub overflow_add-self-3 : goal.overflow_add-self-3
overflow_add-self-3 c = omega (arith, bounded c.args.self.now c.requires.knows.0 c.requires.knows.1, c.requires.knows.1.fits)

pub overflow_add-self-4 : goal.overflow_add-self-4
overflow_add-self-4 c = omega (arith, bounded c.args.self.now c.requires.knows.0 c.requires.knows.1, c.requires.knows.1.fits)

pub returns-clause-added : goal.returns-clause-added
returns-clause-added c = λ s knows.
    let long : c.len-count.result ≡ length c.deref.result.now = c.len-count.ensures ∙ sym c.deref.ensures.len in
    let made : ℕ → List ℕ → DocRow = λ count name. record { number = c.args.self.now.next; first = c.args.self.now.location; cells = count; name = name } in
    let row_is : made c.len-count.result c.in_ok-of.field-0 ≡ made (length c.deref.result.now) c.args.name.now =
    ap (λ (n : ℕ). made n c.in_ok-of.field-0) long
    ∙ ap (made (length c.deref.result.now)) c.in_ok-of.ensures in
    knows_added c.args.self.now s knows _ c.args.name.now c.args.title.now c.args.body.now c.requires.named c.utf8.title c.utf8.body c.requires.short (c.requires.free s knows) (c.requires.left s knows)
    c.deref.result.now (c.deref.ensures.value ∙ c.in_ok-cells.ensures.value) _ row_is c.in_ok-add.ensures.sound c.in_ok-add.ensures.added
    (c.in_ok-note.ensures (numbers_in s) knows.notes.names (no_number s c.args.name.now (c.requires.free s knows))) refl refl refl refl
    (ap (λ (n : ℕ). c.args.self.now.location + n) long) refl (ap (λ (n : ℕ). c.args.self.now.words + (n - 3)) long)

pub returns-clause-follows : goal.returns-clause-follows
returns-clause-follows c = λ root entries follows.
    let long : c.len-count.result ≡ length c.deref.result.now = c.len-count.ensures ∙ sym c.deref.ensures.len in
    let made : ℕ → List ℕ → DocRow = λ count name. record { number = c.args.self.now.next; first = c.args.self.now.location; cells = count; name = name } in
    let row_is : made c.len-count.result c.in_ok-of.field-0 ≡ made (length c.deref.result.now) c.args.name.now =
    ap (λ (n : ℕ). made n c.in_ok-of.field-0) long
    ∙ ap (made (length c.deref.result.now)) c.in_ok-of.ensures in
    let (s, knows) = c.requires.knows in
    follows_added c.args.self.now root entries follows _ refl c.args.name.now c.args.title.now c.args.body.now c.deref.result.now (c.deref.ensures.value ∙ c.in_ok-cells.ensures.value) _ row_is
    (made_added c.args.self.now s knows c.args.self.now c.args.name.now c.args.title.now c.args.body.now c.requires.named c.utf8.title c.utf8.body c.requires.short (c.requires.free s knows) (c.requires.left s knows)
    c.deref.result.now (c.deref.ensures.value ∙ c.in_ok-cells.ensures.value) _ row_is)
    c.in_ok-add.ensures.added refl (ap (λ (n : ℕ). c.args.self.now.location + n) long)
