-- What the steps of an append leave in a half.
use Rattle.std.proofs.Common.{◌≡◌, ◌≢◌, inl, inr, ⊎_elim, ℕ, ◌+◌, ◌-◌, ◌<◌, ◌≤◌, List, [], ◌∷◌, ◌++◌, length, get_or, take, drop, refl, sym, ◌∙◌, ap, arith, append_assoc, length-append, length-drop, take-append-drop}
use Rattle.std.specs.List.{flat_map}
use Rattle.std.proofs.lemmas.Bool.{cases_eq}
use Rattle.std.proofs.lemmas.List.{take_at, drop_at, drop_more, take-take, drop-take, flat_map_more, get_or-take, get_or-drop, get_or_at, length-take, length-take-le}
use Rattle.std.proofs.lemmas.List.Elements.{All-nil, All-push}
use Rattle.alta_layout.specs.declared.places.TheConstants.{GATE_OPEN, HALF_BYTES, HEAD_BYTES}
use Rattle.alta_disk.specs.Disk.{Holds, Torn}
use Rattle.alta_disk.specs.Parts.{part}
use Rattle.alta_disk.specs.Writes.{holds_torn, take_less, drop_less}
use Rattle.alta_disk.proofs.PartLaws.{part_torn}
use Rattle.alta_journal.specs.Entry.{MayBeRecorded, measured, payload_of}
use Rattle.alta_journal.specs.Journal.{Begins, EndsAt, Appended, Appends, HasBody}
use Rattle.alta_journal.specs.Places.{half_at, left_behind, HasClosedGate}
use Rattle.alta_journal.specs.Record.{record_of, body_of}
use Rattle.alta_journal.specs.declared.entry.Entry.{Entry}
use Rattle.alta_journal.proofs.HalfLaws.{half_long, half_take, half_part, half_byte}
use Rattle.alta_journal.proofs.Spelling.{record_long, body_long}

pub take_sum : (m n : ℕ) (xs : List ℕ) → take (m + n) xs ≡ take m xs ++ take n (drop m xs)
take_sum m n xs =
    sym (take-append-drop m (take (m + n) xs)) ∙ ap (λ (l : List ℕ). l ++ drop m (take (m + n) xs)) (take-take m (m + n) xs (omega arith)) ∙ ap (λ (l : List ℕ). take m xs ++ l) (drop-take m n xs)

-- one record more
pub begins_more : (version : ℕ) (entries : List Entry) (entry : Entry) (at next : ℕ) (half : List ℕ) → Begins version entries at half → MayBeRecorded version entry
    → take (length (record_of entry)) (drop at half) ≡ record_of entry → next ≡ at + length (record_of entry) → next < length half
    → Begins version (entries ++ entry ∷ []) next half
begins_more version entries entry at next half begins sound here next_is inside = record {
  records = ap (λ (n : ℕ). take n half) next_is ∙ take_sum at (length (record_of entry)) half
      ∙ ap (λ (l : List ℕ). l ++ take (length (record_of entry)) (drop at half)) begins.records
      ∙ ap (λ (l : List ℕ). flat_map record_of entries ++ l) here
      ∙ flat_map_more record_of [] entries entry;
  sound = All-push (MayBeRecorded version) entries entry begins.sound sound;
  gate = inside;
}

-- a range inside another
pub torn_wide : (at n wide_at wide : ℕ) (old new : List ℕ) → wide_at ≤ at → at + n ≤ wide_at + wide → Torn at n old new → Torn wide_at wide old new
torn_wide at n wide_at wide old new from to torn = record {
  before = take_less wide_at at new old from torn.before;
  after = drop_less (at + n) (wide_at + wide) new old to torn.after;
  no_shorter = torn.no_shorter;
  no_longer = omega (arith, torn.no_longer);
}

pub torn_then : (at n : ℕ) (a b c : List ℕ) → Torn at n a b → Torn at n b c → Torn at n a c
torn_then at n a b c one two = record {
  before = two.before ∙ one.before;
  after = two.after ∙ one.after;
  no_shorter = omega (arith, one.no_shorter, two.no_shorter);
  no_longer = omega (arith, one.no_longer, two.no_longer);
}

-- a byte before a torn range
byte_before : (at i : ℕ) (old new : List ℕ) → i < at → take at new ≡ take at old → get_or new i 0 ≡ get_or old i 0
byte_before at i old new inside same = sym (get_or-take at new i 0 inside) ∙ ap (λ (l : List ℕ). get_or l i 0) same ∙ get_or-take at old i 0 inside

module _ (version start place : ℕ) (entry : Entry) (sound : MayBeRecorded version entry) (from : start ≤ place) (to : place + 1 + length (body_of entry) ≤ start + HALF_BYTES) (disk : start + HALF_BYTES ≤ HEAD_BYTES) where
  -- the record from here up to the next gate, and the half's bytes before it
  sizes : (length (body_of entry) ≡ length (record_of entry)) × (start + (place - start) ≡ place) × (place - start + length (record_of entry) < HALF_BYTES)
  sizes = let same : length (body_of entry) ≡ length (record_of entry) = omega (arith, record_long entry, body_long entry) in (same, omega arith, omega arith)

  -- what stands before the gate has stayed
  front : (entries : List Entry) (d z : List ℕ) → EndsAt version start place entries d → part start (place - start) z ≡ part start (place - start) d → length d ≤ length z
      → Begins version entries (place - start) (half_at start z)
  front entries d z e same longer = record {
    records = half_take start (place - start) z (omega (arith, sizes.2)) ∙ same ∙ sym (half_take start (place - start) d (omega (arith, sizes.2))) ∙ e.begins.records;
    sound = e.begins.sound;
    gate = omega (arith, sizes.2, half_long start z (omega (arith, e.whole)));
  }

  gate_byte : (z : List ℕ) → get_or (half_at start z) (place - start) 0 ≡ get_or z place 0
  gate_byte z = half_byte start (place - start) z (omega (arith, sizes.2)) ∙ ap (λ (k : ℕ). get_or z k 0) sizes.1

  -- behind a closed gate stands no record
  keeps : (entries : List Entry) (d z : List ℕ) → EndsAt version start place entries d → part start (place - start) z ≡ part start (place - start) d → length d ≤ length z
      → get_or z place 0 ≢ GATE_OPEN → EndsAt version start place entries z
  keeps entries d z e same longer shut =
      let begins = front entries d z e same longer in
      record {
        starts = from;
        begins = begins;
        closed = (begins.gate, λ is_open. shut (sym (gate_byte z) ∙ is_open));
        whole = omega (arith, e.whole);
      }

  body_inside : (z : List ℕ) → HasBody place entry z → place + 1 + length (body_of entry) ≤ length z
  body_inside z here =
      omega (arith, ap length here, length-take (length (body_of entry)) (drop (place + 1) z), length-drop (place + 1) z, body_long entry)

  next_gate : (z : List ℕ) → HasBody place entry z → get_or z (place + length (record_of entry)) 0 ≡ 0
  next_gate z here =
      let n = length (measured (payload_of entry)) in
      let last : n < length (body_of entry) = omega (arith, length-append (measured (payload_of entry)) (0 ∷ [])) in
      let at : place + length (record_of entry) ≡ place + 1 + n = omega arith in
      ap (λ (k : ℕ). get_or z k 0) at ∙ sym (get_or-drop (place + 1) z n 0)
      ∙ sym (get_or-take (length (body_of entry)) (drop (place + 1) z) n 0 last) ∙ ap (λ (l : List ℕ). get_or l n 0) here
      ∙ get_or_at (measured (payload_of entry)) 0 [] 0 n refl

  -- the gate behind the new record is closed
  pub next_closed : (z : List ℕ) → HasBody place entry z → HasClosedGate (place + length (record_of entry)) z
  next_closed z here = (omega (arith, body_inside z here, sizes.0), λ is_open. absurd (omega (arith, next_gate z here, is_open)))

  -- the new record, its gate open
  here : (z : List ℕ) → HasBody place entry z → get_or z place 0 ≡ GATE_OPEN → part place (length (record_of entry)) z ≡ record_of entry
  here z has_body is_open =
      let X = drop (place + 1) z in
      let n = length (measured (payload_of entry)) in
      let within : place < length z = omega (arith, body_inside z has_body) in
      let less : n ≤ length (body_of entry) = omega (arith, length-append (measured (payload_of entry)) (0 ∷ [])) in
      ap (λ (l : List ℕ). take (length (record_of entry)) l) (drop_more z place 0 within ∙ ap (λ (b : ℕ). b ∷ X) is_open)
      ∙ ap (λ (l : List ℕ). GATE_OPEN ∷ l) (sym (take-take n (length (body_of entry)) X less) ∙ ap (λ (l : List ℕ). take n l) has_body ∙ take_at (measured (payload_of entry)) (0 ∷ []) n refl)

  -- behind an open gate stands the new record
  grows : (entries : List Entry) (d z : List ℕ) → EndsAt version start place entries d → part start (place - start) z ≡ part start (place - start) d → length d ≤ length z
      → get_or z place 0 ≡ GATE_OPEN → HasBody place entry z → EndsAt version start (place + length (record_of entry)) (entries ++ entry ∷ []) z
  grows entries d z e same longer is_open has_body =
      let at = place - start in
      let R = length (record_of entry) in
      let next : place + R - start ≡ at + R = omega arith in
      let inside : at + R < HALF_BYTES = sizes.2 in
      let long : length (half_at start z) ≡ HALF_BYTES = half_long start z (omega (arith, e.whole)) in
      let record_here : take R (drop at (half_at start z)) ≡ record_of entry =
      half_part start at R z (omega arith) ∙ ap (λ (k : ℕ). part k R z) sizes.1 ∙ here z has_body is_open in
      let byte : get_or (half_at start z) (place + R - start) 0 ≡ 0 =
      let there : start + (place + R - start) ≡ place + R = omega arith in
      half_byte start (place + R - start) z (omega arith) ∙ ap (λ (k : ℕ). get_or z k 0) there ∙ next_gate z has_body in
      record {
        starts = omega arith;
        begins = begins_more version entries entry at (place + R - start) (half_at start z) (front entries d z e same longer) sound record_here next (omega arith);
        closed = (omega arith, λ is_open. absurd (omega (arith, byte, is_open)));
        whole = omega (arith, e.whole);
      }

  -- while bytes are written behind the closed gate
  pub quiet_step : (n : ℕ) → place + 1 + n ≤ start + HALF_BYTES → (d z : List ℕ) → HasClosedGate place d → Torn (place + 1) n d z → Appends version start place entry d z
  quiet_step n fits d z closed torn = record {
    outside = torn_wide (place + 1) n place (1 + left_behind start place) d z (omega arith) (omega arith) torn;
    entries = λ entries e. inl (keeps entries d z e (part_torn (place + 1) n start (place - start) d z torn (inl (omega (arith, sizes.1)))) torn.no_shorter
        (λ is_open. closed.1 (sym (byte_before (place + 1) place d z (omega arith) torn.before) ∙ is_open)));
  }

  -- the gate, whatever it holds, with the body behind it, and behind that what is written ahead
  module _ (n : ℕ) (fits : place + 1 + n ≤ start + HALF_BYTES) (d b z : List ℕ) (done : Torn (place + 1) n d b) (stands : HasBody place entry b) (torn : Torn place 1 b z) where
    pub has_body : HasBody place entry z
    has_body = part_torn place 1 (place + 1) (length (body_of entry)) b z torn (inr (omega arith)) ∙ stands

    same_front : part start (place - start) z ≡ part start (place - start) d
    same_front =
        part_torn place 1 start (place - start) b z torn (inl (omega (arith, sizes.1)))
        ∙ part_torn (place + 1) n start (place - start) d b done (inl (omega (arith, sizes.1)))

    longer : length d ≤ length z
    longer = omega (arith, done.no_shorter, torn.no_shorter)

    -- at each moment of the gate's write
    pub gate_step : Appends version start place entry d z
    gate_step = record {
      outside = torn_then place (1 + left_behind start place) d b z
          (torn_wide (place + 1) n place (1 + left_behind start place) d b (omega arith) (omega arith) done)
          (torn_wide place 1 place (1 + left_behind start place) b z (omega arith) (omega arith) torn);
      entries = λ entries e. ⊎_elim (λ is_open. inr (grows entries d z e same_front longer is_open has_body)) (λ shut. inl (keeps entries d z e same_front longer shut)) (cases_eq (get_or z place 0) GATE_OPEN);
    }

    -- and after it, when the gate is open
    pub opened : get_or z place 0 ≡ GATE_OPEN → Appended version start place entry d z
    opened is_open = λ entries e. grows entries d z e same_front longer is_open has_body

-- the one byte that was written
pub byte_written : (at byte : ℕ) (old new : List ℕ) → at ≤ length old → Holds old at (byte ∷ []) new → get_or new at 0 ≡ byte
byte_written at byte old new inside holds =
    ap (λ (l : List ℕ). get_or l at 0) (holds ∙ append_assoc (take at old) (byte ∷ []) (drop (at + 1) old))
    ∙ get_or_at (take at old) byte (drop (at + 1) old) 0 at (length-take-le at old inside)

-- bytes behind a byte, and then that byte
pub byte_and_more : (at byte : ℕ) (more old middle new : List ℕ) → at + 1 ≤ length old → Holds old (at + 1) more middle → Holds middle at (byte ∷ []) new → Holds old at (byte ∷ more) new
byte_and_more at byte more old middle new inside one two =
    let torn = holds_torn old (at + 1) more middle inside one in
    let front : take at middle ≡ take at old = take_less at (at + 1) middle old (omega arith) torn.before in
    let rest = drop (at + 1 + length more) old in
    let behind : drop (at + 1) middle ≡ more ++ rest =
    ap (λ (l : List ℕ). drop (at + 1) l) (one ∙ append_assoc (take (at + 1) old) more rest) ∙ drop_at (take (at + 1) old) (more ++ rest) (at + 1) (length-take-le (at + 1) old inside) in
    let end : at + 1 + length more ≡ at + length (byte ∷ more) = omega arith in
    two ∙ ap (λ (l : List ℕ). (l ++ byte ∷ []) ++ drop (at + 1) middle) front ∙ ap (λ (l : List ℕ). (take at old ++ byte ∷ []) ++ l) behind
    ∙ append_assoc (take at old) (byte ∷ []) (more ++ rest) ∙ sym (append_assoc (take at old) (byte ∷ more) rest) ∙ ap (λ (n : ℕ). (take at old ++ byte ∷ more) ++ drop n old) end

-- the half behind a first gate that was closed
pub formatted : (version start : ℕ) (d c : List ℕ) → start + HALF_BYTES ≤ HEAD_BYTES → HEAD_BYTES ≤ length d → Holds d start (0 ∷ []) c → EndsAt version start start [] c
formatted version start d c inside whole holds =
    let torn = holds_torn d start (0 ∷ []) c (omega arith) holds in
    let none : start - start ≡ 0 = omega arith in
    let long : length (half_at start c) ≡ HALF_BYTES = half_long start c (omega (arith, torn.no_shorter)) in
    let same : start + (start - start) ≡ start = omega arith in
    let byte : get_or (half_at start c) (start - start) 0 ≡ 0 =
    half_byte start (start - start) c (omega arith) ∙ ap (λ (k : ℕ). get_or c k 0) same ∙ byte_written start 0 d c (omega arith) holds in
    record {
      starts = omega arith;
      begins = record {
        records = ap (λ (n : ℕ). take n (half_at start c)) none;
        sound = All-nil (MayBeRecorded version);
        gate = omega arith;
      };
      closed = (omega arith, λ is_open. absurd (omega (arith, byte, is_open)));
      whole = omega (arith, torn.no_shorter);
    }
