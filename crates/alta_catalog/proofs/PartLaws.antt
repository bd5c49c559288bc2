-- Documents that are known by their rows.
use Rattle.std.proofs.Common.{◌≡◌, ℕ, List, map, refl, sym, ◌∙◌, ap, subst}
use Rattle.alta_meaning.specs.Known.{Named, named_of}
use Rattle.alta_machine.specs.declared.document.Document.{Document}
use Rattle.alta_machine.specs.declared.document.State.{State}
use Rattle.alta_catalog.specs.Knowing.{Notes}
use Rattle.alta_catalog.proofs.NotingLaws.{number_named}
use Rattle.alta_meaning.specs.Names.{number_of}
use Rattle.alta_names.specs.declared.table.NameTable.{NameTable}
use Rattle.alta_names.proofs.Fitting.{same_numbers}
use Rattle.alta_meaning.specs.Ordered.{IsOrdered}

-- ---- documents with the same names and numbers

-- what is noted of documents is noted of others with their names and numbers
pub notes_same : (number : ℕ) (table : NameTable) (kept : List Document) (s : State) → Notes number table kept s → (others : List Document) → map named_of kept ≡ map named_of others
    → Notes number table others (record { next = s.next; documents = others })
notes_same number table kept s notes others same =
    let alike : map named_of s.documents ≡ map named_of others = ap (map named_of) (sym notes.documents) ∙ same in
    record {
      next = notes.next;
      documents = refl;
      names = same_numbers table _ _ (λ name. number_named name s.documents ∙ ap (number_of name) alike ∙ sym (number_named name others)) notes.names;
      ordered = subst (λ (rows : List Named). IsOrdered (record { next = s.next; live = rows })) alike notes.ordered;
    }
