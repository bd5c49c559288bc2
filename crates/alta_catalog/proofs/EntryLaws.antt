-- Entries as they are applied, each by itself and one after the other.
use Rattle.std.proofs.Common.{◌≡◌, Bool, true, false, ℕ, ◌+◌, ◌<◌, List, [], ◌∷◌, ◌++◌, length, get_or, take, drop, append_assoc, refl, sym, ◌∙◌, ap, subst, take-append-drop}
use Rattle.std.specs.Prelude.{Result, Ok, Err, OnOk}
use Rattle.std.proofs.lemmas.Bool.{false≢true, true≢false}
use Rattle.std.proofs.lemmas.List.{take_more, drop_more, map-append}
use Rattle.alta_journal.specs.declared.entry.Entry.{Entry}
use Rattle.alta_journal.specs.declared.entry.Entry.TheVariants.{Add, Delete}
use Rattle.alta_journal.specs.declared.placed.Placed.{Placed}
use Rattle.alta_content.specs.Rows.{ends_among}
use Rattle.alta_content.specs.declared.document.DocRow.{DocRow}
use Rattle.alta_machine.specs.Changes.{has_number, with_added, without}
use Rattle.alta_machine.specs.declared.build.MetaFault.{MetaFault}
use Rattle.alta_machine.specs.declared.document.State.{State}
use Rattle.alta_root.specs.declared.root.Root.{Root}
use Rattle.alta_catalog.specs.Applying.{Applies, IsEntered}
use Rattle.alta_catalog.specs.Knowing.{Follows, Knows, KnowsBy, gone_of, levels_of}
use Rattle.alta_memlevel.specs.Added.{Added}
use Rattle.alta_catalog.specs.declared.catalog.Catalog.{Catalog}
use Rattle.alta_meaning.specs.Entries.{Allows, AllowsAll, after_entry, after_entries, entries_in, IsRefusedAt}
use Rattle.alta_catalog.specs.declared.fault.CatalogFault.{CatalogFault}
use Rattle.alta_catalog.specs.declared.fault.CatalogFault.TheVariants.{Damaged}
use Rattle.alta_meaning.proofs.Entering.{after_more, allows_more}

-- ---- one entry

pub not_applied : (entry : Entry) (catalog : Catalog) → ((s : State) → Knows catalog s → Allows s entry → ⊥) → Applies entry catalog catalog (Ok false)
not_applied entry catalog refused = record {
  allowed = λ s knows yes. absurd (false≢true yes);
  refused = λ s knows no allows. refused s knows allows;
  unchanged = λ no. refl;
  still = λ row gone. gone;
  levels = refl;
  follows = λ root entries follows yes. absurd (false≢true yes);
}

pub applied : (entry : Entry) (old new : Catalog) → ((s : State) → (knows : Knows old s) → Allows s entry × KnowsBy new knows.olds (after_entry s entry))
    → ((row : DocRow) → ends_among (gone_of old) row ≡ true → ends_among (gone_of new) row ≡ true) → levels_of new ≡ levels_of old
    → ((root : Root) (entries : List Entry) → Follows old root entries → Follows new root (entries ++ entry ∷ [])) → Applies entry old new (Ok true)
applied entry old new allowed still levels follows = record {
  allowed = λ s knows yes. allowed s knows;
  refused = λ s knows no allows. true≢false no;
  unchanged = λ no. absurd (true≢false no);
  still = still;
  levels = levels;
  follows = λ root entries was yes. follows root entries was;
}

-- the document of a number is deleted, if there is one
pub deleted : (number : ℕ) (old new : Catalog) (there : Bool) → (there ≡ true → (s : State) → (knows : Knows old s) → (has_number number s ≡ true) × KnowsBy new knows.olds (without number s))
    → (there ≡ false → (s : State) → Knows old s → has_number number s ≡ false) → (there ≡ false → new ≡ old) → ((row : DocRow) → ends_among (gone_of old) row ≡ true → ends_among (gone_of new) row ≡ true)
    → levels_of new ≡ levels_of old → ((root : Root) (entries : List Entry) → Follows old root entries → there ≡ true → Follows new root (entries ++ Delete number ∷ [])) → Applies (Delete number) old new (Ok there)
deleted number old new there found missing unchanged still levels follows = record {
  allowed = λ s knows yes. found yes s knows;
  refused = λ s knows no allows. false≢true (sym (missing no s knows) ∙ allows);
  unchanged = unchanged;
  still = still;
  levels = levels;
  follows = follows;
}

-- ---- one that is allowed

-- a document with a number that is there was there when it was deleted
pub was_there : (number : ℕ) (s : State) (there : Bool) → has_number number s ≡ true → (there ≡ false → has_number number s ≡ false) → there ≡ true
was_there number s true has missing = refl
was_there number s false has missing = absurd (false≢true (sym (missing refl) ∙ has))

pub add_entered : (name title body : List ℕ) (old new : Catalog) (result : Result (Unit {0}) MetaFault)
    → OnOk result ((s : State) → (knows : Knows old s) → KnowsBy new knows.olds (with_added name title body s)) → levels_of new ≡ levels_of old → gone_of new ≡ gone_of old
    → ((root : Root) (entries : List Entry) → Follows old root entries → OnOk result (Follows new root (entries ++ Add name title body ∷ []))) → IsEntered (Add name title body) old new result
add_entered name title body old new (Ok x) added levels gone follows = record {
  knows = added;
  still = λ row was. subst (λ (ends : List ℕ). ends_among ends row ≡ true) (sym gone) was;
  levels = levels;
  follows = follows;
}
add_entered name title body old new (Err fault) added levels gone follows = record { knows = λ s knows. tt; still = tt; levels = levels; follows = follows }

-- ---- one behind the other

module _ (found : List Placed) (i : ℕ) (p : Placed) (inside : i < length found) (is : p ≡ get_or found i p) where
  entries_more : entries_in (take (i + 1) found) ≡ entries_in (take i found) ++ p.entry ∷ []
  entries_more =
      ap entries_in (take_more found i p inside ∙ ap (λ (x : Placed). take i found ++ x ∷ []) (sym is))
      ∙ map-append (λ (x : Placed). x.entry) (take i found) (p ∷ [])

module _ (s : State) (found : List Placed) (i : ℕ) (p : Placed) (inside : i < length found) (is : p ≡ get_or found i p) where
  pub applied_step : (catalog : Catalog) (olds : List Added) → AllowsAll s (entries_in (take i found)) → Allows (after_entries s (entries_in (take i found))) p.entry
      → KnowsBy catalog olds (after_entry (after_entries s (entries_in (take i found))) p.entry)
      → AllowsAll s (entries_in (take (i + 1) found)) × KnowsBy catalog olds (after_entries s (entries_in (take (i + 1) found)))
  applied_step catalog olds all allowed knows =
      subst (λ (es : List Entry). AllowsAll s es × KnowsBy catalog olds (after_entries s es)) (sym (entries_more found i p inside is))
      (allows_more s (entries_in (take i found)) p.entry all allowed, subst (KnowsBy catalog olds) (sym (after_more s (entries_in (take i found)) p.entry)) knows)

  pub refused_step : (place : ℕ) → AllowsAll s (entries_in (take i found)) → (Allows (after_entries s (entries_in (take i found))) p.entry → ⊥) → place ≡ p.place + 5 → IsRefusedAt s found place
  refused_step place all not_allowed place_is = record {
    before = take i found;
    refused = p;
    behind = drop (i + 1) found;
    split = sym (take-append-drop i found) ∙ ap (λ (xs : List Placed). take i found ++ xs) (drop_more found i p inside ∙ ap (λ (x : Placed). x ∷ drop (i + 1) found) (sym is));
    allowed = all;
    not_allowed = not_allowed;
    place_is = place_is;
  }

module _ (found : List Placed) (i : ℕ) (p : Placed) (inside : i < length found) (is : p ≡ get_or found i p) where
  pub follows_step : (catalog : Catalog) (root : Root) (entries : List Entry) → Follows catalog root ((entries ++ entries_in (take i found)) ++ p.entry ∷ []) → Follows catalog root (entries ++ entries_in (take (i + 1) found))
  follows_step catalog root entries follows =
      subst (Follows catalog root) (append_assoc entries (entries_in (take i found)) (p.entry ∷ []) ∙ ap (λ (es : List Entry). entries ++ es) (sym (entries_more found i p inside is))) follows

damaged_in : {T : Type 0} → ℕ → Result T CatalogFault → ℕ
damaged_in d (Err (Damaged place)) = place
damaged_in d other = d

pub same_place : {T : Type 0} (p q : ℕ) → ◌≡◌ {A = Result T CatalogFault} (Err (Damaged p)) (Err (Damaged q)) → p ≡ q
unfolding damaged_in
same_place p q e = ap (damaged_in 0) e
