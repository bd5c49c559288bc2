-- What a reader of entries answers.
use Rattle.std.specs.Prelude.{◌≡◌, ℕ, List, Option, Some, None, IsUtf8}
use Rattle.alta_journal.specs.Entry.{KeepTexts, MayBeRecorded}
use Rattle.alta_journal.specs.declared.entry.Entry.{Entry}

-- it is what reading finds, where that is sound under a root of this version
abbrev pub IsFound : ℕ → Option Entry → Option Entry → Type 0
IsFound version found None = (entry : Entry) → MayBeRecorded version entry → found ≡ Some entry → ⊥
IsFound version found (Some entry) = MayBeRecorded version entry × (found ≡ Some entry)

-- texts that a document may have
abbrev pub AreTexts : List ℕ → List ℕ → List ℕ → Type 0
AreTexts name title body = KeepTexts name title body × IsUtf8 title × IsUtf8 body

-- they are the texts that reading finds, where those are sound
abbrev pub AreFound : Option (List ℕ × List ℕ × List ℕ) → Option (List ℕ × List ℕ × List ℕ) → Type 0
AreFound found None = (name title body : List ℕ) → AreTexts name title body → found ≡ Some (name, title, body) → ⊥
AreFound found (Some t) = AreTexts t.0 t.1 t.2 × (found ≡ Some t)
