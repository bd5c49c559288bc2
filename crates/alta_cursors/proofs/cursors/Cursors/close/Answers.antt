use Rattle.std.proofs.Common.{◌≡◌, ◌||◌, ℕ, Bool, true, false, cond, not, List, [], ◌∷◌, IsTrue, refl, ap, sym, subst, rules, ◌∙◌}
use Rattle.std.specs.Prelude.{◌↔◌, IsSome, filter, ◌==◌}
use Rattle.std.specs.List.{list_any}
use Rattle.std.proofs.lemmas.Fn.{filter_same}
use Rattle.alta_machine.specs.OpenAnswers.{left_of}
use Rattle.alta_cursors.specs.declared.cursors.OpenCursor.{OpenCursor}
use Rattle.alta_cursors.proofs.CursorAnswers.{had_is, numbers_kept, open_kept}
use Rattle.alta_cursors.proofs.cursors.Cursors.close.Goals as goal

kept : (c : goal.After-retain) → c.retain.new.self.items ≡ filter (λ o. not (o.number == c.args.number)) c.self.inside.cursors.items
kept c = filter_same _ (λ (o : OpenCursor). not (o.number == c.args.number)) _ (λ x b f' k. search rules) _ _ c.retain.ensures.filtered

-- where no cursor has the number, all are kept
keep_one : (number : ℕ) (o : OpenCursor) (cursors : List OpenCursor) (b : Bool) → (o.number == number) ≡ b → list_any (λ (p : OpenCursor). p.number == number) (o ∷ cursors) ≡ false
    → (list_any (λ (p : OpenCursor). p.number == number) cursors ≡ false → cursors ≡ filter (λ (p : OpenCursor). not (p.number == number)) cursors)
    → (o ∷ cursors) ≡ filter (λ (p : OpenCursor). not (p.number == number)) (o ∷ cursors)
keep_one number o cursors true is none rest =
    let has : true ≡ false = sym (ap (λ (t : Bool). t || list_any (λ (p : OpenCursor). p.number == number) cursors) is) ∙ none in absurd (cc has)
keep_one number o cursors false is none rest =
    ap (λ (l : List OpenCursor). o ∷ l) (rest (sym (ap (λ (t : Bool). t || list_any (λ (p : OpenCursor). p.number == number) cursors) is) ∙ none))
    ∙ sym (ap (λ (t : Bool). cond (not t) (o ∷ filter (λ (p : OpenCursor). not (p.number == number)) cursors) (filter (λ (p : OpenCursor). not (p.number == number)) cursors)) is)

none_has : (number : ℕ) (cursors : List OpenCursor) → list_any (λ (o : OpenCursor). o.number == number) cursors ≡ false → cursors ≡ filter (λ (o : OpenCursor). not (o.number == number)) cursors
none_has number [] none = refl
none_has number (o ∷ cursors) none = keep_one number o cursors (o.number == number) refl none (none_has number cursors)

pub returns-then-not-has-clause-had : goal.returns-then-not-has-clause-had
returns-then-not-has-clause-had c = λ all h.
    subst (λ (b : Bool). IsTrue b ↔ IsSome (left_of c.args.number all)) c.if-not-has.true
    (had_is c.args.number c.deref.result.now c.args.self.now all c.has.result c.has.ensures (c.deref.ensures.value ∙ c.self.view_is) h)

pub returns-then-not-has-clause-closed : goal.returns-then-not-has-clause-closed
returns-then-not-has-clause-closed c = λ all h.
    let held = c.deref.ensures.value ∙ c.self.view_is in
    let none : list_any (λ (o : OpenCursor). o.number == c.args.number) c.deref.result.now ≡ false = sym c.has.ensures ∙ c.if-not-has.true in
    open_kept c.args.number c.deref.result.now c.args.self.now c.args.self.now all (sym held ∙ none_has c.args.number c.deref.result.now none) held h

pub invariant_of-self : goal.invariant_of-self
invariant_of-self c = numbers_kept c.args.number c.self.inside.cursors.items c.retain.new.self.items (kept c) c.self.invariant

pub returns-clause-had : goal.returns-clause-had
returns-clause-had c = λ all h.
    subst (λ (b : Bool). IsTrue b ↔ IsSome (left_of c.args.number all)) c.if-not-has.false
    (had_is c.args.number c.deref.result.now c.args.self.now all c.has.result c.has.ensures (c.deref.ensures.value ∙ c.self.view_is) h)

pub returns-clause-closed : goal.returns-clause-closed
returns-clause-closed c = λ all h. open_kept c.args.number c.self.inside.cursors.items c.args.self.now c.retain.new.self.items all (kept c) c.self.view_is h

has_is : (number : ℕ) (cursors now : List OpenCursor) (b : Bool) → b ≡ list_any (λ (o : OpenCursor). o.number == number) cursors → cursors ≡ now
    → b ≡ list_any (λ (o : OpenCursor). o.number == number) now
has_is number cursors now b is same = is ∙ ap (λ l. list_any (λ (o : OpenCursor). o.number == number) l) same

pub returns-then-not-has-clause-has : goal.returns-then-not-has-clause-has
returns-then-not-has-clause-has c =
    sym c.if-not-has.true ∙ has_is c.args.number c.deref.result.now c.args.self.now c.has.result c.has.ensures (c.deref.ensures.value ∙ c.self.view_is)

pub returns-then-not-has-clause-rest : goal.returns-then-not-has-clause-rest
returns-then-not-has-clause-rest c =
    none_has c.args.number c.args.self.now
    (sym (has_is c.args.number c.deref.result.now c.args.self.now c.has.result c.has.ensures (c.deref.ensures.value ∙ c.self.view_is)) ∙ c.if-not-has.true)

pub returns-clause-has : goal.returns-clause-has
returns-clause-has c =
    sym c.if-not-has.false ∙ has_is c.args.number c.deref.result.now c.args.self.now c.has.result c.has.ensures (c.deref.ensures.value ∙ c.self.view_is)

pub returns-clause-rest : goal.returns-clause-rest
returns-clause-rest c = kept c ∙ ap (λ l. filter (λ (o : OpenCursor). not (o.number == c.args.number)) l) c.self.view_is
