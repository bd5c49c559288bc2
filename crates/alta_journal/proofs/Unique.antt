-- A half is read in one way, under a root of one version.
use Rattle.std.proofs.Common.{◌≡◌, ⊎_elim, ℕ, ◌+◌, ◌-◌, ◌<◌, ◌^◌, List, [], ◌∷◌, ◌++◌, length, get_or, take, drop, Option, Some, None, refl, sym, ◌∙◌, ap, subst, arith, append_assoc, length-append, length-drop, take-append-drop}
use Rattle.std.specs.List.{All, flat_map}
use Rattle.std.proofs.lemmas.List.{take_at, drop_more, drop-drop, length-take-le}
use Rattle.std.proofs.lemmas.List.Elements.{All-head, All-tail}
use Rattle.alta_layout.specs.declared.places.TheConstants.{GATE_OPEN}
use Rattle.alta_disk.specs.Parts.{part}
use Rattle.alta_journal.specs.Entry.{KeepsRules, MayBeRecorded, four_bytes, measured, payload_of}
use Rattle.alta_journal.specs.Journal.{Begins, EndsAt, HasBrokenRecord, HasBrokenHalf, BreaksAt}
use Rattle.alta_journal.specs.Places.{half_at, HasClosedGate}
use Rattle.alta_journal.specs.Reading.{or_none, of_four, text_in, entry_in}
use Rattle.alta_journal.specs.Record.{record_of}
use Rattle.alta_journal.specs.declared.entry.Entry.{Entry}
use Rattle.alta_journal.specs.declared.entry.Entry.TheVariants.{Add, Delete, Replace}
use Rattle.alta_journal.proofs.ReadingLaws.{text_back, entry_back}
use Rattle.alta_journal.proofs.Spelling.{four_long, add_long, delete_long, replace_long, record_long, of_four-four}

-- a payload's length fits its four bytes
pub payload_short : (entry : Entry) → KeepsRules entry → length (payload_of entry) < 2 ^ 32
payload_short (Add name title body) keeps = omega (arith, add_long name title body, keeps.4)
payload_short (Delete number) keeps = omega (arith, delete_long number)
payload_short (Replace number name title body) keeps = omega (arith, replace_long number name title body, keeps.4)

-- the parts of what was read
abbrev text_of : Option (List ℕ × List ℕ) → List ℕ
text_of None = []
text_of (Some x) = x.0

abbrev rest_of : Option (List ℕ × List ℕ) → List ℕ
rest_of None = []
rest_of (Some x) = x.1

module _ (version : ℕ) where
  -- one record, and what follows
  record_same : (x y : Entry) (r s : List ℕ) → MayBeRecorded version x → MayBeRecorded version y → record_of x ++ r ≡ record_of y ++ s → (x ≡ y) × (r ≡ s)
  record_same x y r s sound_x sound_y same =
      let inner : measured (payload_of x) ++ r ≡ measured (payload_of y) ++ s = ap (λ (l : List ℕ). drop 1 l) same in
      let read : Some (payload_of x, r) ≡ Some (payload_of y, s) =
      sym (text_back (payload_of x) r (payload_short x sound_x.0)) ∙ ap text_in inner ∙ text_back (payload_of y) s (payload_short y sound_y.0) in
      let payloads : payload_of x ≡ payload_of y = ap text_of read in
      let entries : Some x ≡ Some y = sym (entry_back x sound_x.0 sound_x.1) ∙ ap entry_in payloads ∙ entry_back y sound_y.0 sound_y.1 in
      (ap or_none entries, ap rest_of read)

  -- no record that leaves a gate behind it begins here
  abbrev pub Ended : List ℕ → Type 0
  Ended rest = (entry : Entry) (after : List ℕ) → MayBeRecorded version entry → rest ≡ record_of entry ++ after → 0 < length after → ⊥

  records_same : (xs ys : List Entry) (u v : List ℕ) → All (MayBeRecorded version) xs → All (MayBeRecorded version) ys → Ended u → Ended v → 0 < length u → 0 < length v
      → flat_map record_of xs ++ u ≡ flat_map record_of ys ++ v → (xs ≡ ys) × (u ≡ v)
  records_same [] [] u v sx sy eu ev nu nv same = (refl, same)
  records_same [] (y ∷ ys) u v sx sy eu ev nu nv same =
      absurd (eu y (flat_map record_of ys ++ v) (All-head (MayBeRecorded version) y ys sy) (same ∙ append_assoc (record_of y) (flat_map record_of ys) v) (omega (arith, length-append (flat_map record_of ys) v)))
  records_same (x ∷ xs) [] u v sx sy eu ev nu nv same =
      absurd (ev x (flat_map record_of xs ++ u) (All-head (MayBeRecorded version) x xs sx) (sym same ∙ append_assoc (record_of x) (flat_map record_of xs) u) (omega (arith, length-append (flat_map record_of xs) u)))
  records_same (x ∷ xs) (y ∷ ys) u v sx sy eu ev nu nv same =
      let one = record_same x y (flat_map record_of xs ++ u) (flat_map record_of ys ++ v) (All-head (MayBeRecorded version) x xs sx) (All-head (MayBeRecorded version) y ys sy)
      (sym (append_assoc (record_of x) (flat_map record_of xs) u) ∙ same ∙ append_assoc (record_of y) (flat_map record_of ys) v) in
      let rest = records_same xs ys u v (All-tail (MayBeRecorded version) x xs sx) (All-tail (MayBeRecorded version) y ys sy) eu ev nu nv one.1 in
      (ap (λ (e : Entry). e ∷ xs) one.0 ∙ ap (λ (l : List Entry). y ∷ l) rest.0, rest.1)

  -- two readings that have both ended are one
  pub same_reading : (xs ys : List Entry) (a b : ℕ) (half : List ℕ) → Begins version xs a half → Begins version ys b half → Ended (drop a half) → Ended (drop b half) → (xs ≡ ys) × (a ≡ b)
  same_reading xs ys a b half x y ended_x ended_y =
      let at : length (flat_map record_of xs) ≡ a = ap length (sym x.records) ∙ length-take-le a half (omega (arith, x.gate)) in
      let bt : length (flat_map record_of ys) ≡ b = ap length (sym y.records) ∙ length-take-le b half (omega (arith, y.gate)) in
      let left : half ≡ flat_map record_of xs ++ drop a half = sym (take-append-drop a half) ∙ ap (λ (l : List ℕ). l ++ drop a half) x.records in
      let right : half ≡ flat_map record_of ys ++ drop b half = sym (take-append-drop b half) ∙ ap (λ (l : List ℕ). l ++ drop b half) y.records in
      let same = records_same xs ys (drop a half) (drop b half) x.sound y.sound ended_x ended_y (omega (arith, length-drop a half, x.gate)) (omega (arith, length-drop b half, y.gate)) (sym left ∙ right) in
      (same.0, sym at ∙ ap (λ (l : List Entry). length (flat_map record_of l)) same.0 ∙ bt)

  -- ---- where a reading ends

  -- at a closed gate
  pub ended_closed : (at : ℕ) (half : List ℕ) → HasClosedGate at half → Ended (drop at half)
  ended_closed at half closed = λ entry after sound is more.
      let first : get_or half at 0 ∷ drop (at + 1) half ≡ GATE_OPEN ∷ (measured (payload_of entry) ++ after) = sym (drop_more half at 0 closed.0) ∙ is in
      closed.1 (cc (first))

  -- the length of a record that stands here
  pub length_here : (at : ℕ) (half : List ℕ) (entry : Entry) (after : List ℕ) → MayBeRecorded version entry → drop at half ≡ record_of entry ++ after → of_four (part (at + 1) 4 half) ≡ length (payload_of entry)
  length_here at half entry after sound is =
      let payload = payload_of entry in
      let behind : drop (at + 1) half ≡ four_bytes (length payload) ++ (payload ++ after) =
      sym (drop-drop 1 at half) ∙ ap (λ (l : List ℕ). drop 1 l) is ∙ append_assoc (four_bytes (length payload)) payload after in
      ap of_four (ap (λ (l : List ℕ). take 4 l) behind ∙ take_at (four_bytes (length payload)) (payload ++ after) 4 (four_long (length payload))) ∙ of_four-four (length payload) (payload_short entry sound.0)

  -- and where the record breaks a rule
  pub ended_broken : (at place : ℕ) (half : List ℕ) → at < length half → BreaksAt version at place half → Ended (drop at half)
  ended_broken at place half inside breaks = λ entry after sound is more.
      let long : length half - at ≡ length (record_of entry) + length after = sym (length-drop at half) ∙ ap length is ∙ length-append (record_of entry) after in
      ⊎_elim (λ no_room. omega (arith, no_room.0, length_here at half entry after sound is, long, record_long entry))
      (λ no_record. no_record.1 entry sound (ap (λ (l : List ℕ). take (length (record_of entry)) l) is ∙ take_at (record_of entry) after (length (record_of entry)) refl)) breaks

  -- ---- the laws

  pub one_reading : (start p q : ℕ) (xs ys : List Entry) (image : List ℕ) → EndsAt version start p xs image → EndsAt version start q ys image → (p ≡ q) × (xs ≡ ys)
  one_reading start p q xs ys image x y =
      let same = same_reading xs ys (p - start) (q - start) (half_at start image) x.begins y.begins (ended_closed (p - start) (half_at start image) x.closed) (ended_closed (q - start) (half_at start image) y.closed) in
      (omega (arith, same.1, x.starts, y.starts), same.0)

  -- a half is damaged at one place
  pub one_damage : (p q : ℕ) (half : List ℕ) → HasBrokenRecord version p half → HasBrokenRecord version q half → p ≡ q
  one_damage p q half x y =
      let same = same_reading x.entries y.entries x.at y.at half x.begins y.begins (ended_broken x.at p half x.begins.gate x.breaks) (ended_broken y.at q half y.begins.gate y.breaks) in
      let moved = subst (λ (k : ℕ). BreaksAt version k p half) same.1 x.breaks in
      ⊎_elim
      (λ a. ⊎_elim (λ b. omega (arith, a.1, b.1)) (λ b. absurd (b.0 a.0)) y.breaks)
      (λ a. ⊎_elim (λ b. absurd (a.0 b.0)) (λ b. omega (arith, a.2, b.2)) y.breaks) moved

  -- and not where it has been read to a closed gate
  pub not_damaged : (at q : ℕ) (xs : List Entry) (half : List ℕ) → Begins version xs at half → HasClosedGate at half → HasBrokenRecord version q half → ⊥
  not_damaged at q xs half begins closed y =
      let same = same_reading xs y.entries at y.at half begins y.begins (ended_closed at half closed) (ended_broken y.at q half y.begins.gate y.breaks) in
      closed.1 (ap (λ (k : ℕ). get_or half k 0) same.1 ∙ y.is_open)

  pub one_fault : (start p q : ℕ) (image : List ℕ) → HasBrokenHalf version start p image → HasBrokenHalf version start q image → p ≡ q
  one_fault start p q image x y = omega (arith, one_damage (p - start) (q - start) (half_at start image) x.damaged y.damaged, x.starts, y.starts)

  pub not_both : (start p q : ℕ) (xs : List Entry) (image : List ℕ) → EndsAt version start p xs image → HasBrokenHalf version start q image → ⊥
  not_both start p q xs image x y = not_damaged (p - start) (q - start) xs (half_at start image) x.begins x.closed y.damaged
