-- Each half is read to a closed gate, or has a first record that breaks a rule.
use Rattle.std.proofs.Common.{◌≡◌, ◌⊎◌, ⊎_elim, inl, inr, ℕ, zero, suc, ◌+◌, ◌-◌, ◌<◌, ◌≤◌, ◌^◌, Bool, true, false, List, [], ◌∷◌, ◌++◌, length, get_or, drop, Option, Some, None, refl, sym, ◌∙◌, ap, subst, arith, length-drop, take-append-drop}
use Rattle.std.specs.Prelude.{IsUtf8}
use Rattle.std.specs.Str.{is_utf8}
use Rattle.std.specs.List.{All}
use Rattle.std.proofs.lemmas.Bool.{cases_lt, cases_eq}
use Rattle.std.proofs.lemmas.List.{length-take-le}
use Rattle.std.proofs.lemmas.List.Elements.{All-nil, All-cons, All-head, All-tail}
use Rattle.std.proofs.lemmas.Str.{IsUtf8-from_is_utf8, is_utf8-from_IsUtf8}
use Rattle.alta_layout.specs.declared.places.TheConstants.{GATE_OPEN, HALF_BYTES, HEAD_BYTES}
use Rattle.alta_layout.specs.Places.{half_start}
use Rattle.alta_layout.specs.declared.slot.Slot.{Slot}
use Rattle.alta_disk.specs.Parts.{part}
use Rattle.alta_codec.specs.Name.{IsGraphic}
use Rattle.alta_journal.specs.Entry.{KeepTexts, KeepsRules, IsTyped, is_old, MayBeRecorded, Lacks}
use Rattle.alta_journal.specs.Journal.{Begins, EndsAt, HasBrokenRecord, HasBrokenHalf, LeavesNoRoom, HasNoRecord}
use Rattle.alta_journal.specs.Places.{half_at, HasClosedGate}
use Rattle.alta_journal.specs.Reading.{of_four, or_none, entry_in}
use Rattle.alta_journal.specs.Record.{record_of}
use Rattle.alta_journal.specs.declared.entry.Entry.{Entry}
use Rattle.alta_journal.specs.declared.entry.Entry.TheVariants.{Add, Delete, Replace}
use Rattle.alta_journal.specs.declared.places.TheConstants.{TEXTS_BYTES}
use Rattle.alta_journal.proofs.HalfLaws.{start_fits, half_long}
use Rattle.alta_journal.proofs.ReadingSteps.{Stands, reads_here}
use Rattle.alta_journal.proofs.Spelling.{record_long}
use Rattle.alta_journal.proofs.Steps.{begins_more}
use Rattle.alta_journal.proofs.Unique.{length_here}

-- ---- each rule holds or does not

abbrev pub Decided : Type 0 → Type 0
Decided P = P ⊎ (P → ⊥)

both : (P Q : Type 0) → Decided P → Decided Q → Decided (P × Q)
both P Q p q = ⊎_elim (λ yes. ⊎_elim (λ also. inl (yes, also)) (λ no. inr (λ pair. no pair.1)) q) (λ no. inr (λ pair. no pair.0)) p

less : (a b : ℕ) → Decided (a ≤ b)
less a b = ⊎_elim (λ more. inr (λ le. omega arith)) (λ le. inl le) (cases_lt b a)

every : (P : ℕ → Type 0) → ((b : ℕ) → Decided (P b)) → (xs : List ℕ) → Decided (All P xs)
every P decide [] = inl (All-nil P)
every P decide (x ∷ xs) =
    ⊎_elim (λ head. ⊎_elim (λ tail. inl (All-cons P x xs head tail)) (λ no. inr (λ all. no (All-tail P x xs all))) (every P decide xs))
    (λ no. inr (λ all. no (All-head P x xs all))) (decide x)

lacks : (value : ℕ) (xs : List ℕ) → Decided (Lacks value xs)
lacks value xs = every (λ b. b ≡ value → ⊥) (λ b. ⊎_elim (λ same. inr (λ differs. differs same)) (λ differs. inl differs) (cases_eq b value)) xs

graphic : (b : ℕ) → Decided (IsGraphic b)
graphic b = both (33 ≤ b) (b ≤ 126) (less 33 b) (less b 126)

utf8_by : (b : Bool) (xs : List ℕ) → is_utf8 xs ≡ b → Decided (IsUtf8 xs)
utf8_by true xs is = inl (IsUtf8-from_is_utf8 xs is)
utf8_by false xs is = inr (λ good. let clash : false ≡ true = sym is ∙ is_utf8-from_IsUtf8 xs good in absurd (cc (clash)))

utf8 : (xs : List ℕ) → Decided (IsUtf8 xs)
utf8 xs = utf8_by (is_utf8 xs) xs refl

same_list : (xs ys : List ℕ) → Decided (xs ≡ ys)
same_list [] [] = inl refl
same_list [] (y ∷ ys) = inr (λ e. absurd (cc (e)))
same_list (x ∷ xs) [] = inr (λ e. absurd (cc (e)))
same_list (x ∷ xs) (y ∷ ys) =
    ⊎_elim (λ head. ⊎_elim (λ tail. inl (ap (λ (k : ℕ). k ∷ xs) head ∙ ap (λ (l : List ℕ). y ∷ l) tail)) (λ no. inr (λ e. no (cc (e)))) (same_list xs ys))
    (λ no. inr (λ e. no (cc (e)))) (cases_eq x y)

three : (P Q R : Type 0) → Decided P → Decided Q → Decided R → Decided (P × Q × R)
three P Q R p q r =
    ⊎_elim
    (λ one. ⊎_elim (λ two. ⊎_elim (λ last. inl (one, two, last)) (λ no. inr (λ all. no all.2)) r) (λ no. inr (λ all. no all.1)) q)
    (λ no. inr (λ all. no all.0)) p

texts_or_not : (name title body : List ℕ) → Decided (KeepTexts name title body)
texts_or_not name title body =
    let short = less (length name + length title + length body) TEXTS_BYTES in
    let named = both (1 ≤ length name) ((length name ≤ 64) × All IsGraphic name) (less 1 (length name)) (both (length name ≤ 64) (All IsGraphic name) (less (length name) 64) (every IsGraphic graphic name)) in
    let lines = both (Lacks 9 title) (Lacks 10 title × Lacks 10 body) (lacks 9 title) (both (Lacks 10 title) (Lacks 10 body) (lacks 10 title) (lacks 10 body)) in
    ⊎_elim
    (λ is_short. ⊎_elim
    (λ is_named. ⊎_elim
    (λ are_lines. inl ((is_named.0, is_named.1.0, is_named.1.1), are_lines.0, are_lines.1.0, are_lines.1.1, is_short))
    (λ no. inr (λ keep. no (keep.1, (keep.2, keep.3)))) lines)
    (λ no. inr (λ keep. no (keep.0.0, (keep.0.1, keep.0.2)))) named)
    (λ no. inr (λ keep. no keep.4)) short

old_by : (version : ℕ) (b : Bool) → version ≡ 1 → Decided (version ≡ 1 → b ≡ true)
old_by version true one = inl (λ _. refl)
old_by version false one = inr (λ all. let clash : false ≡ true = all one in absurd (cc (clash)))

old_or_not : (version : ℕ) (entry : Entry) → Decided (version ≡ 1 → is_old entry ≡ true)
old_or_not version entry = ⊎_elim (λ one. old_by version (is_old entry) one) (λ other. inl (λ one. absurd (other one))) (cases_eq version 1)

small_or_not : (number : ℕ) → Decided (number < 2 ^ 64)
small_or_not number = ⊎_elim (λ small. inl small) (λ large. inr (λ small. absurd (omega arith))) (cases_lt number (2 ^ 64))

sound_or_not : (version : ℕ) (entry : Entry) → Decided (MayBeRecorded version entry)
sound_or_not version (Delete number) =
    three (KeepsRules (Delete number)) (IsTyped (Delete number)) (version ≡ 1 → is_old (Delete number) ≡ true) (inl tt) (small_or_not number) (old_or_not version (Delete number))
sound_or_not version (Add name title body) =
    let typed = both (IsUtf8 title) (IsUtf8 body) (utf8 title) (utf8 body) in
    three (KeepsRules (Add name title body)) (IsTyped (Add name title body)) (version ≡ 1 → is_old (Add name title body) ≡ true) (texts_or_not name title body) typed (old_or_not version (Add name title body))
sound_or_not version (Replace number name title body) =
    let typed = three (number < 2 ^ 64) (IsUtf8 title) (IsUtf8 body) (small_or_not number) (utf8 title) (utf8 body) in
    three (KeepsRules (Replace number name title body)) (IsTyped (Replace number name title body)) (version ≡ 1 → is_old (Replace number name title body) ≡ true) (texts_or_not name title body) typed
    (old_or_not version (Replace number name title body))

module _ (version : ℕ) where
  -- ---- a record that stands at a gate

  -- a sound entry whose record stands there, or none
  module _ (at : ℕ) (half payload : List ℕ) (here : Stands at half payload) where
    record_of_found : (entry : Entry) → entry_in payload ≡ Some entry → ((found : Entry) × MayBeRecorded version found × (part at (length (record_of found)) half ≡ record_of found)) ⊎ HasNoRecord version at half
    record_of_found entry is =
        ⊎_elim
        (λ sound. ⊎_elim (λ stands_here. inl (entry, sound, stands_here))
        (λ other. inr (λ e good stands_e. other (subst (λ (x : Entry). part at (length (record_of x)) half ≡ record_of x) (same e good stands_e) stands_e))) (same_list (part at (length (record_of entry)) half) (record_of entry)))
        (λ bad. inr (λ e good stands_e. bad (subst (MayBeRecorded version) (same e good stands_e) good))) (sound_or_not version entry)
      where
        same : (e : Entry) → MayBeRecorded version e → part at (length (record_of e)) half ≡ record_of e → e ≡ entry
        same e good stands_e = ap or_none (sym (reads_here version at half payload here e good stands_e) ∙ is)

    record_by : (o : Option Entry) → entry_in payload ≡ o → ((found : Entry) × MayBeRecorded version found × (part at (length (record_of found)) half ≡ record_of found)) ⊎ HasNoRecord version at half
    record_by None is = inr (λ e good stands_e. let clash : None ≡ Some e = sym is ∙ reads_here version at half payload here e good stands_e in absurd (cc (clash)))
    record_by (Some entry) is = record_of_found entry is

    record_here : ((found : Entry) × MayBeRecorded version found × (part at (length (record_of found)) half ≡ record_of found)) ⊎ HasNoRecord version at half
    record_here = record_by (entry_in payload) refl

  -- ---- the half, record by record

  -- the half has been read to a closed gate
  pub record IsEnded (half : List ℕ) : Type 0 where
    pub at : ℕ
    pub entries : List Entry
    pub begins : Begins version entries at half
    pub closed : HasClosedGate at half

  -- what is known of a half: its entries, or a place of damage
  abbrev pub IsKnown : List ℕ → Type 0
  IsKnown half = IsEnded half ⊎ ((place : ℕ) × HasBrokenRecord version place half)

  -- how long a record is that stands here
  size_here : (at : ℕ) (half : List ℕ) (entry : Entry) → MayBeRecorded version entry → part at (length (record_of entry)) half ≡ record_of entry → length (record_of entry) ≡ 5 + of_four (part (at + 1) 4 half)
  size_here at half entry sound stands_here =
      let after = drop (length (record_of entry)) (drop at half) in
      let whole : drop at half ≡ record_of entry ++ after = sym (take-append-drop (length (record_of entry)) (drop at half)) ∙ ap (λ (l : List ℕ). l ++ after) stands_here in
      omega (arith, record_long entry, length_here version at half entry after sound whole)

  -- an open gate with room behind it, by what is known from the next gate on
  known_with : (fuel : ℕ) (entries : List Entry) (at : ℕ) (half : List ℕ) → Begins version entries at half → length half ≤ at + suc fuel → get_or half at 0 ≡ GATE_OPEN → (LeavesNoRoom at half → ⊥)
      → ((more : List Entry) (next : ℕ) → Begins version more next half → length half ≤ next + fuel → IsKnown half) → IsKnown half
  known_with fuel entries at half begins short is_open room goes_on =
      let n = of_four (part (at + 1) 4 half) in
      let inside : at + 5 + n < length half = ⊎_elim (λ lt. lt) (λ ge. absurd (room ge)) (cases_lt (at + 5 + n) (length half)) in
      let long : length (part (at + 5) n half) ≡ n = length-take-le n (drop (at + 5) half) (omega (arith, length-drop (at + 5) half)) in
      let here : Stands at half (part (at + 5) n half) = record { is = refl; long = long; room = omega (arith, long) } in
      ⊎_elim
      (λ (entry, sound, stands_here).
      let size : length (record_of entry) ≡ 5 + n = size_here at half entry sound stands_here in
      goes_on (entries ++ entry ∷ []) (at + length (record_of entry))
      (begins_more version entries entry at (at + length (record_of entry)) half begins sound stands_here refl (omega (arith, size))) (omega (arith, size)))
      (λ none. inr (at + 5, record { at = at; entries = entries; begins = begins; is_open = is_open; breaks = inr (room, none, refl) }))
      (record_here at half (part (at + 5) n half) here)

  known_from : (fuel : ℕ) (entries : List Entry) (at : ℕ) (half : List ℕ) → Begins version entries at half → length half ≤ at + fuel → IsKnown half
  known_from zero entries at half begins short = absurd (omega (arith, begins.gate))
  known_from (suc fuel) entries at half begins short =
      ⊎_elim
      (λ is_open. ⊎_elim
      (λ no_room. inr (at + 1, record { at = at; entries = entries; begins = begins; is_open = is_open; breaks = inl (no_room, refl) }))
      (λ room. known_with fuel entries at half begins short is_open room (λ more next begun shorter. known_from fuel more next half begun shorter))
      (less (length half) (at + 5 + of_four (part (at + 1) 4 half))))
      (λ shut. inl (record { at = at; entries = entries; begins = begins; closed = (begins.gate, shut) })) (cases_eq (get_or half at 0) GATE_OPEN)

  -- the half of a whole image
  pub read_or_broken : (half : Slot) (image : List ℕ) → HEAD_BYTES ≤ length image
      → ((place : ℕ) × (entries : List Entry) × EndsAt version (half_start half) place entries image) ⊎ ((place : ℕ) × HasBrokenHalf version (half_start half) place image)
  read_or_broken half image whole =
      let start = half_start half in
      let bytes = half_at start image in
      let long : length bytes ≡ HALF_BYTES = half_long start image (omega (arith, start_fits half)) in
      let empty : Begins version [] 0 bytes = record { records = refl; sound = All-nil (MayBeRecorded version); gate = omega arith } in
      ⊎_elim
      (λ ended. inl (start + ended.at, ended.entries, ends ended))
      (λ (place, damaged). inr (start + place, broken place damaged))
      (known_from (length bytes) [] 0 bytes empty (omega arith))
    where
      ends : (ended : IsEnded (half_at (half_start half) image)) → EndsAt version (half_start half) (half_start half + ended.at) ended.entries image
      ends ended =
          let at : ended.at ≡ half_start half + ended.at - half_start half = omega arith in
          record {
            starts = omega arith;
            begins = subst (λ (k : ℕ). Begins version ended.entries k (half_at (half_start half) image)) at ended.begins;
            closed = subst (λ (k : ℕ). HasClosedGate k (half_at (half_start half) image)) at ended.closed;
            whole = whole;
          }

      broken : (place : ℕ) → HasBrokenRecord version place (half_at (half_start half) image) → HasBrokenHalf version (half_start half) (half_start half + place) image
      broken place damaged =
          let at : place ≡ half_start half + place - half_start half = omega arith in
          record { starts = omega arith; damaged = subst (λ (k : ℕ). HasBrokenRecord version k (half_at (half_start half) image)) at damaged; whole = whole }
