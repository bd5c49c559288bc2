-- What a store knows of names, once a flush has made room.
use Rattle.std.proofs.Common.{◌≡◌, ℕ, true, List, sym, subst}
use Rattle.std.specs.Prelude.{Some}
use Rattle.alta_catalog.proofs.KnowingLaws.{named_some}
use Rattle.alta_catalog.proofs.KnownLaws.{number_alike as same_number, one_known}
use Rattle.alta_meaning.specs.Entries.{Allows}
use Rattle.alta_meaning.specs.Known.{Known, admits}
use Rattle.alta_machine.specs.Changes.{has_number, number_of, with_deleted, without}
use Rattle.alta_meaning.proofs.KnownLaws.{admitted_from, allowed_from}
use Rattle.alta_journal.specs.declared.entry.Entry.{Entry}
use Rattle.alta_machine.specs.declared.document.State.{State}
use Rattle.alta_store.specs.Agreement.{Knows}
use Rattle.alta_store.specs.declared.store.Store.{Store}

module _ (store : Store) (t : State) (known : Knows store t) (s : State) (knows : Knows store s) where
  -- what one of the states that a store knows allows, each does
  pub allowed_alike : (entry : Entry) → Allows t entry → Allows s entry
  allowed_alike entry allowed = allowed_from s entry (subst (λ (k : Known). admits k entry ≡ true) (one_known store.catalog t s known knows) (admitted_from t entry allowed))

  -- a name has the same number in each
  pub number_alike : (name : List ℕ) → number_of name s ≡ number_of name t
  number_alike = same_number store.catalog s t knows known

-- a document with this name is live by its number, and left out by it
pub named_at : (store : Store) (s : State) → Knows store s → (name : List ℕ) (number : ℕ) → number_of name s ≡ Some number → (has_number number s ≡ true) × (without number s ≡ with_deleted name s)
named_at store s knows name number is =
    let both = named_some store.catalog s knows name (Some number) (sym is) in
    (both.1, both.2)
