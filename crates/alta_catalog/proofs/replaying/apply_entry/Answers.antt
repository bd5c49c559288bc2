use Rattle.std.proofs.Common.{◌≡◌, List, ℕ, ap, subst, sym, ◌∙◌, Ok}
use Rattle.alta_journal.specs.declared.entry.Entry.{Entry}
use Rattle.alta_journal.specs.declared.entry.Entry.TheVariants.{Add, Replace}
use Rattle.alta_catalog.specs.Applying.{Applies}
use Rattle.alta_catalog.proofs.EntryLaws.{deleted}
use Rattle.alta_catalog.proofs.replaying.apply_entry.Goals as goal

pub returns-in-Add : goal.returns-in-Add
returns-in-Add c =
    let is : Add c.as_str.result.now c.as_str-in-Add.result.now c.as_str-in-Add-2.result.now ≡ c.args.entry.now =
    ap (λ (name : List ℕ). Add name c.as_str-in-Add.result.now c.as_str-in-Add-2.result.now) c.as_str.ensures
    ∙ ap (λ (title : List ℕ). Add c.in-Add.name title c.as_str-in-Add-2.result.now) c.as_str-in-Add.ensures
    ∙ ap (λ (body : List ℕ). Add c.in-Add.name c.in-Add.title body) c.as_str-in-Add-2.ensures ∙ sym c.in-Add.is in
    subst (λ (e : Entry). Applies e c.args.catalog.now c.add.new.catalog c.add.result) is c.add.ensures.applies

pub returns-in_ok-delete-in-Delete : goal.returns-in_ok-delete-in-Delete
returns-in_ok-delete-in-Delete c =
    let clauses = c.in_ok-delete-in-Delete.ensures in
    subst (λ (e : Entry). Applies e c.args.catalog.now c.delete.new.self (Ok c.in_ok-delete-in-Delete.field-0)) (sym c.in-Delete.is)
    (deleted c.in-Delete.number c.args.catalog.now c.delete.new.self c.in_ok-delete-in-Delete.field-0 clauses.deleted clauses.missing clauses.unchanged clauses.still clauses.levels clauses.follows)

-- the texts of a replace are those of the entry
replace_is : (number : ℕ) (n t b name title body : List ℕ) (entry : Entry) → n ≡ name → t ≡ title → b ≡ body → entry ≡ Replace number name title body → Replace number n t b ≡ entry
replace_is number n t b name title body entry name_is title_is body_is is =
    ap (λ (x : List ℕ). Replace number x t b) name_is ∙ ap (λ (x : List ℕ). Replace number name x b) title_is ∙ ap (λ (x : List ℕ). Replace number name title x) body_is ∙ sym is

pub returns-in-Replace : goal.returns-in-Replace
returns-in-Replace c =
    subst (λ (e : Entry). Applies e c.args.catalog.now c.replace.new.catalog c.replace.result)
    (replace_is c.in-Replace.number _ _ _ c.in-Replace.name c.in-Replace.title c.in-Replace.body c.args.entry.now c.as_str-in-Replace.ensures c.as_str-in-Replace-2.ensures c.as_str-in-Replace-3.ensures c.in-Replace.is) c.replace.ensures
