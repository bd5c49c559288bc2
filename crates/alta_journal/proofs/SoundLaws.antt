-- Entries that were read keep the rules of records.
use Rattle.std.proofs.Common.{ℕ, ◌+◌, List, [], ◌∷◌, length, sym, subst}
use Rattle.std.specs.List.{All}
use Rattle.std.proofs.lemmas.List.Elements.{All-nil, All-cons, All-head, All-tail}
use Rattle.alta_journal.specs.Entry.{MayBeRecorded}
use Rattle.alta_journal.specs.Placed.{placed, IsReading}
use Rattle.alta_journal.specs.Record.{record_of}
use Rattle.alta_journal.specs.declared.entry.Entry.{Entry}
use Rattle.alta_journal.specs.declared.placed.Placed.{Placed}

module _ (version : ℕ) where
  -- entries with places keep the rules that the entries keep
  placed_sound : (place : ℕ) (entries : List Entry) → All (MayBeRecorded version) entries → All (λ (p : Placed). MayBeRecorded version p.entry) (placed place entries)
  placed_sound place [] sound = All-nil (λ (p : Placed). MayBeRecorded version p.entry)
  placed_sound place (entry ∷ entries) sound =
      All-cons (λ (p : Placed). MayBeRecorded version p.entry) (record { place = place; entry = entry }) (placed (place + length (record_of entry)) entries)
      (All-head (MayBeRecorded version) entry entries sound) (placed_sound (place + length (record_of entry)) entries (All-tail (MayBeRecorded version) entry entries sound))

  pub reading_sound : (start at : ℕ) (found : List Placed) (half : List ℕ) → IsReading version start found at half → All (λ (p : Placed). MayBeRecorded version p.entry) found
  reading_sound start at found half (entries, is, begins) = subst (All (λ (p : Placed). MayBeRecorded version p.entry)) (sym is) (placed_sound start entries begins.sound)
