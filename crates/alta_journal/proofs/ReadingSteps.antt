-- The loop over the records of a half.
use Rattle.std.proofs.Common.{◌≡◌, inr, ℕ, suc, ◌+◌, ◌-◌, ◌<◌, ◌≤◌, List, [], ◌∷◌, ◌++◌, length, get_or, take, drop, Some, None, Result, Ok, Err, refl, sym, ◌∙◌, ap, subst, arith, append_assoc, length-append, length-drop, take-append-drop}
use Rattle.std.specs.List.{flat_map}
use Rattle.std.specs.Result.{MatchResult, IfOk, IfErr}
use Rattle.std.proofs.lemmas.List.{drop_more, drop-drop, take_at, take-append-le, get_or_append_left, drop_at, length-take-le}
use Rattle.alta_layout.specs.declared.places.TheConstants.{GATE_OPEN, HALF_BYTES, HEAD_BYTES}
use Rattle.alta_disk.specs.Parts.{part}
use Rattle.alta_journal.specs.Entry.{MayBeRecorded, four_bytes, measured, payload_of}
use Rattle.alta_journal.specs.Found.{IsFound}
use Rattle.alta_journal.specs.Journal.{Begins, EndsAt, HasBrokenRecord, HasBrokenHalf}
use Rattle.alta_journal.specs.Placed.{placed, IsReading, IsReplay, IsWhole}
use Rattle.alta_journal.specs.Places.{half_at, HasClosedGate}
use Rattle.alta_journal.specs.Reading.{of_four, entry_in}
use Rattle.alta_journal.specs.Record.{record_of}
use Rattle.alta_journal.specs.declared.entry.Entry.{Entry}
use Rattle.alta_journal.specs.declared.placed.Placed.{Placed}
use Rattle.alta_disk.specs.declared.fault.LoadFault.TheVariants as faults
use Rattle.alta_disk.specs.declared.fault.LoadFault.{LoadFault}
use Rattle.alta_disk.specs.Answers.{IsNoDamage}
use Rattle.alta_journal.proofs.ReadingLaws.{Small, small_take, small_drop, entry_is, entry_back}
use Rattle.alta_journal.proofs.Spelling.{four_long, record_long, four-of_four}
use Rattle.alta_journal.proofs.Steps.{take_sum, begins_more}
use Rattle.alta_journal.proofs.Unique.{length_here, one_reading, not_both}

placed-push : (place : ℕ) (entries : List Entry) (entry : Entry)
    → placed place (entries ++ entry ∷ []) ≡ placed place entries ++ (record { place = place + length (flat_map record_of entries); entry = entry }) ∷ []
placed-push place [] entry = let same : place ≡ place + 0 = omega arith in ap (λ (k : ℕ). placed k (entry ∷ [])) same
placed-push place (x ∷ entries) entry =
    let n : place + length (record_of x) + length (flat_map record_of entries) ≡ place + length (flat_map record_of (x ∷ entries)) =
    omega (arith, length-append (record_of x) (flat_map record_of entries)) in
    ap (λ (l : List Placed). (record { place = place; entry = x }) ∷ l)
    (placed-push (place + length (record_of x)) entries entry
    ∙ ap (λ (k : ℕ). placed (place + length (record_of x)) entries ++ (record { place = k; entry = entry }) ∷ []) n)

-- the payload of the record whose gate stands at `at`, and room for the next gate
pub record Stands (at : ℕ) (bytes payload : List ℕ) : Type 0 where
  pub is : payload ≡ part (at + 5) (of_four (part (at + 1) 4 bytes)) bytes
  pub long : length payload ≡ of_four (part (at + 1) 4 bytes)
  pub room : at + 5 + length payload < length bytes

pub stands : (at : ℕ) (bytes payload : List ℕ) → payload ≡ part 5 (of_four (part 1 4 (drop at bytes))) (drop at bytes) → length payload ≡ of_four (part 1 4 (drop at bytes))
    → 5 + length payload < length (drop at bytes) → Stands at bytes payload
stands at bytes payload is long room =
    let one : drop 1 (drop at bytes) ≡ drop (at + 1) bytes = drop-drop 1 at bytes in
    let five : drop 5 (drop at bytes) ≡ drop (at + 5) bytes = drop-drop 5 at bytes in
    let n : of_four (part 1 4 (drop at bytes)) ≡ of_four (part (at + 1) 4 bytes) = ap (λ (l : List ℕ). of_four (take 4 l)) one in
    record {
      is = is ∙ ap (λ (l : List ℕ). take (of_four (part 1 4 (drop at bytes))) l) five ∙ ap (λ (k : ℕ). part (at + 5) k bytes) n;
      long = long ∙ n;
      room = omega (arith, length-drop at bytes);
    }

-- a sound record that stands here is what its payload reads as
pub reads_here : (version at : ℕ) (bytes payload : List ℕ) → Stands at bytes payload → (entry : Entry) → MayBeRecorded version entry → part at (length (record_of entry)) bytes ≡ record_of entry → entry_in payload ≡ Some entry
reads_here version at bytes payload here entry sound stands_here =
    let after = drop (length (record_of entry)) (drop at bytes) in
    let whole : drop at bytes ≡ record_of entry ++ after = sym (take-append-drop (length (record_of entry)) (drop at bytes)) ∙ ap (λ (l : List ℕ). l ++ after) stands_here in
    let n : of_four (part (at + 1) 4 bytes) ≡ length (payload_of entry) = length_here version at bytes entry after sound whole in
    let behind : drop (at + 5) bytes ≡ payload_of entry ++ after =
    sym (drop-drop 5 at bytes) ∙ ap (λ (l : List ℕ). drop 5 l) whole ∙ ap (λ (l : List ℕ). drop 4 l) (append_assoc (four_bytes (length (payload_of entry))) (payload_of entry) after)
    ∙ drop_at (four_bytes (length (payload_of entry))) (payload_of entry ++ after) 4 (four_long (length (payload_of entry))) in
    let says : payload ≡ payload_of entry =
    here.is ∙ ap (λ (k : ℕ). part (at + 5) k bytes) n ∙ ap (λ (l : List ℕ). take (length (payload_of entry)) l) behind ∙ take_at (payload_of entry) after (length (payload_of entry)) refl in
    ap entry_in says ∙ entry_back entry sound.0 sound.1

module _ (version start at : ℕ) (bytes payload : List ℕ) (found : List Placed) (reading : IsReading version start found at bytes) (is_open : get_or bytes at 0 ≡ GATE_OPEN) (small : Small bytes) (here : Stands at bytes payload) where
  -- a sound record
  pub read_more : (entry : Entry) → IsFound version (entry_in payload) (Some entry) → IsReading version start (found ++ (record { place = start + at; entry = entry }) ∷ []) (at + 5 + length payload) bytes
  read_more entry is_found =
      let (entries, found_is, begins) = reading in
      let n = of_four (part (at + 1) 4 bytes) in
      let X = drop (at + 1) bytes in
      let four : take 4 X ≡ four_bytes n = sym (four-of_four (take 4 X) (length-take-le 4 X (omega (arith, here.room, length-drop (at + 1) bytes))) (small_take 4 X (small_drop (at + 1) bytes small))) in
      let five : at + 1 + 4 ≡ at + 5 = omega arith in
      let rest : take n (drop 4 X) ≡ payload = ap (λ (l : List ℕ). take n l) (drop-drop 4 (at + 1) bytes ∙ ap (λ (k : ℕ). drop k bytes) five) ∙ sym here.is in
      let small_payload : Small payload = subst Small (sym here.is) (small_take n (drop (at + 5) bytes) (small_drop (at + 5) bytes small)) in
      let says : payload_of entry ≡ payload = entry_is payload entry is_found.1 small_payload in
      let spells : four_bytes n ++ payload ≡ measured (payload_of entry) =
      ap (λ (k : ℕ). four_bytes k ++ payload) (sym here.long) ∙ ap (λ (p : List ℕ). measured p) (sym says) in
      let long : length (record_of entry) ≡ suc (4 + n) = omega (arith, record_long entry, ap length says, here.long) in
      let stands_here : take (length (record_of entry)) (drop at bytes) ≡ record_of entry =
      ap (λ (k : ℕ). take k (drop at bytes)) long ∙ ap (λ (l : List ℕ). take (suc (4 + n)) l) (drop_more bytes at 0 (omega (arith, here.room)) ∙ ap (λ (b : ℕ). b ∷ X) is_open)
      ∙ ap (λ (l : List ℕ). GATE_OPEN ∷ l) (take_sum 4 n X ∙ ap (λ (l : List ℕ). l ++ take n (drop 4 X)) four ∙ ap (λ (l : List ℕ). four_bytes n ++ l) rest ∙ spells) in
      let at_is : length (flat_map record_of entries) ≡ at = ap length (sym begins.records) ∙ length-take-le at bytes (omega (arith, begins.gate)) in (
        entries ++ entry ∷ [],
        ap (λ (l : List Placed). l ++ (record { place = start + at; entry = entry }) ∷ []) found_is
            ∙ ap (λ (k : ℕ). placed start entries ++ (record { place = start + k; entry = entry }) ∷ []) (sym at_is)
            ∙ sym (placed-push start entries entry),
        begins_more version entries entry at (at + 5 + length payload) bytes begins is_found.0 stands_here (omega (arith, long, here.long)) here.room,
      )

  -- a record that is none
  pub damaged_here : IsFound version (entry_in payload) None → HasBrokenRecord version (at + 5) bytes
  damaged_here none =
      let (entries, found_is, begins) = reading in
      record {
        at = at;
        entries = entries;
        begins = begins;
        is_open = is_open;
        breaks = inr (λ no_room. omega (arith, no_room, here.long, here.room), λ entry sound stands_here. none entry sound (reads_here version at bytes payload here entry sound stands_here), refl);
      }

-- the place that a fault names
pub damage_at : (version start from at place : ℕ) (bytes : List ℕ) → from ≡ start → HasBrokenRecord version (at + 5) bytes → faults.Damaged (from + at + 5) ≡ faults.Damaged place
    → (start ≤ place) × HasBrokenRecord version (place - start) bytes
damage_at version start from at place bytes from_is damaged is =
    let place_is : from + at + 5 ≡ place = cc (is) in
    let offset : at + 5 ≡ place - start = omega (arith, place_is, from_is) in
    (omega (arith, place_is, from_is), subst (λ (k : ℕ). HasBrokenRecord version k bytes) offset damaged)

-- the half whose bytes were read
pub broken_half : (version start place : ℕ) (bytes image : List ℕ) → bytes ≡ half_at start image → HEAD_BYTES ≤ length image → (start ≤ place) × HasBrokenRecord version (place - start) bytes → HasBrokenHalf version start place image
broken_half version start place bytes image is whole damaged = record {
  starts = damaged.0;
  damaged = subst (λ (h : List ℕ). HasBrokenRecord version (place - start) h) is damaged.1;
  whole = whole;
}

-- the first bytes of a half, and the others behind them
pub half_in_two : (start first : ℕ) (image : List ℕ) → first ≤ HALF_BYTES → part start first image ++ part (start + first) (HALF_BYTES - first) image ≡ half_at start image
unfolding half_at
half_in_two start first image inside =
    let all : first + (HALF_BYTES - first) ≡ HALF_BYTES = omega (arith, inside) in
    ap (λ (l : List ℕ). part start first image ++ take (HALF_BYTES - first) l) (sym (drop-drop first start image)) ∙ sym (take_sum first (HALF_BYTES - first) (drop start image))
    ∙ ap (λ (k : ℕ). take k (drop start image)) all

-- what ends among the first bytes ends so in all
pub whole_more : (version start tail : ℕ) (found : List Placed) (front rest : List ℕ) → IsWhole version start found tail front → IsWhole version start found tail (front ++ rest)
whole_more version start tail found front rest (starts, (entries, found_is, begins), closed) = (
  starts,
  (
    entries,
    found_is,
    record {
      records = take-append-le (tail - start) front rest (omega (arith, begins.gate)) ∙ begins.records;
      sound = begins.sound;
      gate = omega (arith, begins.gate, length-append front rest);
    },
  ),
  (
    omega (arith, closed.0, length-append front rest),
    λ is_open. closed.1 (sym (get_or_append_left front rest 0 (tail - start) closed.0) ∙ is_open),
  ),
)

module _ (start first : ℕ) (front content : List ℕ) (inside : first ≤ HALF_BYTES) (front_is : front ≡ part start first content) where
  -- the half, once the others were read behind its first bytes
  pub read_in_two : (bytes later : List ℕ) → later ≡ content → bytes ≡ front ++ part (start + first) (HALF_BYTES - first) later → bytes ≡ half_at start content
  read_in_two bytes later same is =
      is ∙ ap (λ (l : List ℕ). l ++ part (start + first) (HALF_BYTES - first) later) front_is
      ∙ ap (λ (l : List ℕ). part start first content ++ part (start + first) (HALF_BYTES - first) l) same ∙ half_in_two start first content inside

  -- what ends among its first bytes
  pub read_at_once : (version tail : ℕ) (found : List Placed) → IsWhole version start found tail front → IsWhole version start found tail (half_at start content)
  read_at_once version tail found read =
      subst (λ (l : List ℕ). IsWhole version start found tail l) (ap (λ (l : List ℕ). l ++ part (start + first) (HALF_BYTES - first) content) front_is ∙ half_in_two start first content inside)
      (whole_more version start tail found front (part (start + first) (HALF_BYTES - first) content) read)

-- an answer, by what is known of each of its variants
pub match_both : {T E : Type 0} (r : Result T E) (P P' : T → Type 0) (Q Q' : E → Type 0) → IfOk r P → IfErr r Q → ((x : T) → P x → P' x) → ((e : E) → Q e → Q' e) → MatchResult r P' Q'
match_both (Ok x) P P' Q Q' ok err from_ok from_err = from_ok x ok
match_both (Err e) P P' Q Q' ok err from_ok from_err = from_err e err

-- ---- what the answer is, by what the half says

module _ (version start : ℕ) (bytes image : List ℕ) (is : bytes ≡ half_at start image) (whole : HEAD_BYTES ≤ length image) where
  -- a reading that ends at a closed gate is that of the half
  pub replay_is : (found : List Placed) (tail : ℕ) → IsWhole version start found tail bytes → IsReplay version start found tail image
  replay_is found tail (starts, reading, closed) = (
    reading.0,
    reading.1,
    record {
      starts = starts;
      begins = subst (λ (h : List ℕ). Begins version reading.0 (tail - start) h) is reading.2;
      closed = subst (λ (h : List ℕ). HasClosedGate (tail - start) h) is closed;
      whole = whole;
    },
  )

-- the entries and the tail are those that the half has
pub same_replay : (version start tail q : ℕ) (found : List Placed) (entries : List Entry) (image : List ℕ) → IsReplay version start found tail image → EndsAt version start q entries image
    → (found ≡ placed start entries) × (tail ≡ q)
same_replay version start tail q found entries image (ys, found_is, ends) other =
    let same = one_reading version start tail q ys entries image ends other in
    (found_is ∙ ap (λ (l : List Entry). placed start l) same.1, same.0)

-- no damage where the half is sound
pub no_damage : (version start q : ℕ) (entries : List Entry) (image : List ℕ) → EndsAt version start q entries image → (fault : LoadFault) → ((place : ℕ) → fault ≡ faults.Damaged place → HasBrokenHalf version start place image)
    → IsNoDamage fault
no_damage version start q entries image ends (faults.Damaged place) damaged = not_both version start q place entries image ends (damaged place refl)
no_damage version start q entries image ends faults.Disk damaged = tt
no_damage version start q entries image ends faults.Memory damaged = tt
