use Rattle.std.proofs.Common.{◌≡◌, ◌⊎◌, ◌+◌, ◌≤◌, List, ℕ, ◌++◌, length, ap, subst, ⊎_elim, arith, length-append}
use Rattle.std.specs.Prelude.{Option, None}
use Rattle.alta_layout.specs.declared.places.TheConstants.{HALF_BYTES}
use Rattle.alta_layout.specs.Places.{half_start}
use Rattle.alta_disk.specs.Disk.{Holds, Stands}
use Rattle.alta_disk.proofs.Moments.{stands_only}
use Rattle.alta_journal.specs.Journal.{HasBytes, StandsAhead, bytes_ahead}
use Rattle.alta_journal.specs.Places.{HasClosedGate}
use Rattle.alta_journal.specs.Record.{Record, record_of, body_of}
use Rattle.alta_journal.proofs.Ahead.{passes_wide}
use Rattle.alta_journal.proofs.HalfLaws.{start_fits}
use Rattle.alta_journal.proofs.Moments.{bodies_outside, bodies_pass, gate_outside, gate_passes, record_done, record_closed, record_written, ahead_stands}
use Rattle.alta_journal.proofs.Spelling.{record_long, body_long}
use Rattle.alta_journal.proofs.appending.append_ahead.Goals as goal

-- what is written ahead is no longer than what is to come
no_longer : (coming next : Option Record) → (coming ≡ None) ⊎ (coming ≡ next) → length (bytes_ahead coming) ≤ length (bytes_ahead next)
no_longer coming next is = ⊎_elim (λ none. omega (arith, ap (λ (o : Option Record). length (bytes_ahead o)) none)) (λ same. omega (arith, ap (λ (o : Option Record). length (bytes_ahead o)) same)) is

-- the first writes leave the records as they were
pub returns-in_err-put_bodies-clause-images : goal.returns-in_err-put_bodies-clause-images
returns-in_err-put_bodies-clause-images g c = λ version sound.
    let same = c.bytes-bytes.ensures.bytes in
    let n = length c.bytes-bytes.result.now + length (bytes_ahead c.fitting-coming.result) in
    let to : c.args.tail.now.place + 1 + length (body_of c.args.ready.now.entry) ≤ half_start c.args.tail.now.slot + HALF_BYTES = omega (arith, ap length same) in
    let fits : c.args.tail.now.place + 1 + n ≤ half_start c.args.tail.now.slot + HALF_BYTES = omega (arith, c.fitting-coming.ensures.fits) in
    bodies_pass version _ _ _ sound c.args.tail.now.starts to (start_fits _) n fits _ _ c.requires.closed.images c.put_bodies.ensures.puts.images

pub returns-in_err-put_bodies-clause-outside : goal.returns-in_err-put_bodies-clause-outside
returns-in_err-put_bodies-clause-outside g c =
    let n = length c.bytes-bytes.result.now + length (bytes_ahead c.fitting-coming.result) in
    let wide : 1 + n ≤ 1 + (length (body_of c.args.ready.now.entry) + length (bytes_ahead c.args.next)) = omega (arith, ap length c.bytes-bytes.ensures.bytes, no_longer _ _ c.fitting-coming.ensures.is) in
    passes_wide _ (1 + n) _ _ _ wide (bodies_outside _ n _ _ c.put_bodies.ensures.puts.images)

-- the gate leaves them with the new one or without
pub returns-in_err-write_synced-clause-images : goal.returns-in_err-write_synced-clause-images
returns-in_err-write_synced-clause-images g c = λ version sound.
    let same = c.bytes-bytes.ensures.bytes in
    let n = length c.bytes-bytes.result.now + length (bytes_ahead c.fitting-coming.result) in
    let to : c.args.tail.now.place + 1 + length (body_of c.args.ready.now.entry) ≤ half_start c.args.tail.now.slot + HALF_BYTES = omega (arith, ap length same) in
    let fits : c.args.tail.now.place + 1 + n ≤ half_start c.args.tail.now.slot + HALF_BYTES = omega (arith, c.fitting-coming.ensures.fits) in
    let stands = subst (λ (l : List ℕ). Stands g.D.Disk.tells (g.D.Disk.state c.put_bodies.new.disk) (HasBytes (c.args.tail.now.place + 1) l)) same c.in_ok-put_bodies.ensures.stands in
    gate_passes version _ _ _ sound c.args.tail.now.starts to (start_fits _) n fits _ _ c.requires.closed.images c.put_bodies.ensures.puts.images _ stands.images c.write_synced.ensures.syncs.images

pub returns-in_err-write_synced-clause-outside : goal.returns-in_err-write_synced-clause-outside
returns-in_err-write_synced-clause-outside g c =
    let n = length c.bytes-bytes.result.now + length (bytes_ahead c.fitting-coming.result) in
    let wide : 1 + n ≤ 1 + (length (body_of c.args.ready.now.entry) + length (bytes_ahead c.args.next)) = omega (arith, ap length c.bytes-bytes.ensures.bytes, no_longer _ _ c.fitting-coming.ensures.is) in
    passes_wide _ (1 + n) _ _ _ wide (gate_outside _ n _ _ c.put_bodies.ensures.puts.images _ c.write_synced.ensures.syncs.images)

pub returns-clause-images : goal.returns-clause-images
returns-clause-images g c = λ version sound.
    let same = c.bytes-bytes.ensures.bytes in
    let n = length c.bytes-bytes.result.now + length (bytes_ahead c.fitting-coming.result) in
    let to : c.args.tail.now.place + 1 + length (body_of c.args.ready.now.entry) ≤ half_start c.args.tail.now.slot + HALF_BYTES = omega (arith, ap length same) in
    let fits : c.args.tail.now.place + 1 + n ≤ half_start c.args.tail.now.slot + HALF_BYTES = omega (arith, c.fitting-coming.ensures.fits) in
    let stands = subst (λ (l : List ℕ). Stands g.D.Disk.tells (g.D.Disk.state c.put_bodies.new.disk) (HasBytes (c.args.tail.now.place + 1) l)) same c.in_ok-put_bodies.ensures.stands in
    gate_passes version _ _ _ sound c.args.tail.now.starts to (start_fits _) n fits _ _ c.requires.closed.images c.put_bodies.ensures.puts.images _ stands.images c.write_synced.ensures.syncs.images

pub returns-clause-outside : goal.returns-clause-outside
returns-clause-outside g c =
    let n = length c.bytes-bytes.result.now + length (bytes_ahead c.fitting-coming.result) in
    let wide : 1 + n ≤ 1 + (length (body_of c.args.ready.now.entry) + length (bytes_ahead c.args.next)) = omega (arith, ap length c.bytes-bytes.ensures.bytes, no_longer _ _ c.fitting-coming.ensures.is) in
    passes_wide _ (1 + n) _ _ _ wide (gate_outside _ n _ _ c.put_bodies.ensures.puts.images _ c.write_synced.ensures.syncs.images)

-- and then the gate is open
pub returns-clause-appended : goal.returns-clause-appended
returns-clause-appended g c = λ version sound told.
    let same = c.bytes-bytes.ensures.bytes in
    let ahead = bytes_ahead c.fitting-coming.result in
    let to : c.args.tail.now.place + 1 + length (body_of c.args.ready.now.entry) ≤ half_start c.args.tail.now.slot + HALF_BYTES = omega (arith, ap length same) in
    let fits : c.args.tail.now.place + 1 + length (body_of c.args.ready.now.entry ++ ahead) ≤ half_start c.args.tail.now.slot + HALF_BYTES =
    omega (arith, ap length same, length-append (body_of c.args.ready.now.entry) ahead, c.fitting-coming.ensures.fits) in
    let a = (g.D.Disk.state c.args.disk.now).content in
    let b = (g.D.Disk.state c.put_bodies.new.disk).content in
    let inside : (told : g.D.Disk.tells) → c.args.tail.now.place + 1 ≤ length a = λ (told : g.D.Disk.tells). omega (arith, (c.requires.closed.content told).0) in
    let written = λ (told : g.D.Disk.tells). subst (λ (l : List ℕ). Holds a (c.args.tail.now.place + 1) (l ++ ahead) b) same (c.in_ok-put_bodies.ensures.written told) in
    let stands = λ (told : g.D.Disk.tells). subst (λ (l : List ℕ). HasBytes (c.args.tail.now.place + 1) l b) same (c.in_ok-put_bodies.ensures.stands.content told) in
    let gate = c.in_ok-write_synced.ensures.written in
    record_done version _ _ c.args.ready.now.entry sound c.args.tail.now.starts to (start_fits _) ahead fits a b _ (inside told) (written told) (stands told) (gate told)

-- the record, the next gate and what is ahead stand there, and all else is as it was
pub returns-clause-written : goal.returns-clause-written
returns-clause-written g c = λ told.
    let same = c.bytes-bytes.ensures.bytes in
    let ahead = bytes_ahead c.fitting-coming.result in
    let to : c.args.tail.now.place + 1 + length (body_of c.args.ready.now.entry) ≤ half_start c.args.tail.now.slot + HALF_BYTES = omega (arith, ap length same) in
    let fits : c.args.tail.now.place + 1 + length (body_of c.args.ready.now.entry ++ ahead) ≤ half_start c.args.tail.now.slot + HALF_BYTES =
    omega (arith, ap length same, length-append (body_of c.args.ready.now.entry) ahead, c.fitting-coming.ensures.fits) in
    let a = (g.D.Disk.state c.args.disk.now).content in
    let b = (g.D.Disk.state c.put_bodies.new.disk).content in
    let inside : (told : g.D.Disk.tells) → c.args.tail.now.place + 1 ≤ length a = λ (told : g.D.Disk.tells). omega (arith, (c.requires.closed.content told).0) in
    let written = λ (told : g.D.Disk.tells). subst (λ (l : List ℕ). Holds a (c.args.tail.now.place + 1) (l ++ ahead) b) same (c.in_ok-put_bodies.ensures.written told) in
    let stands = λ (told : g.D.Disk.tells). subst (λ (l : List ℕ). HasBytes (c.args.tail.now.place + 1) l b) same (c.in_ok-put_bodies.ensures.stands.content told) in
    let gate = c.in_ok-write_synced.ensures.written in
    record_written 2 _ _ c.args.ready.now.entry c.bytes-bytes.ensures.sound c.args.tail.now.starts to (start_fits _) ahead fits a b _ (inside told) (written told) (stands told) (gate told)

-- the next record may follow
pub returns-clause-closed : goal.returns-clause-closed
returns-clause-closed g c =
    let same = c.bytes-bytes.ensures.bytes in
    let ahead = bytes_ahead c.fitting-coming.result in
    let to : c.args.tail.now.place + 1 + length (body_of c.args.ready.now.entry) ≤ half_start c.args.tail.now.slot + HALF_BYTES = omega (arith, ap length same) in
    let fits : c.args.tail.now.place + 1 + length (body_of c.args.ready.now.entry ++ ahead) ≤ half_start c.args.tail.now.slot + HALF_BYTES =
    omega (arith, ap length same, length-append (body_of c.args.ready.now.entry) ahead, c.fitting-coming.ensures.fits) in
    let a = (g.D.Disk.state c.args.disk.now).content in
    let b = (g.D.Disk.state c.put_bodies.new.disk).content in
    let inside : (told : g.D.Disk.tells) → c.args.tail.now.place + 1 ≤ length a = λ (told : g.D.Disk.tells). omega (arith, (c.requires.closed.content told).0) in
    let written = λ (told : g.D.Disk.tells). subst (λ (l : List ℕ). Holds a (c.args.tail.now.place + 1) (l ++ ahead) b) same (c.in_ok-put_bodies.ensures.written told) in
    let stands = λ (told : g.D.Disk.tells). subst (λ (l : List ℕ). HasBytes (c.args.tail.now.place + 1) l b) same (c.in_ok-put_bodies.ensures.stands.content told) in
    let gate = c.in_ok-write_synced.ensures.written in
    let next : c.args.tail.now.place + length (record_of c.args.ready.now.entry) ≡ c.args.tail.now.place + length c.bytes-bytes.result.now =
    omega (arith, ap length same, record_long c.args.ready.now.entry, body_long c.args.ready.now.entry) in
    stands_only g.D.Disk.tells _ (HasClosedGate (c.args.tail.now.place + length c.bytes-bytes.result.now)) (g.met.D.Disk.lawful c.write_synced.new.disk) c.in_ok-write_synced.ensures.syncs.durable
    (λ told. subst (λ n. HasClosedGate n (g.D.Disk.state c.write_synced.new.disk).content) next (record_closed 2 _ _ c.args.ready.now.entry c.bytes-bytes.ensures.sound c.args.tail.now.starts to (start_fits _) ahead fits a b _ (inside told) (written told) (stands told) (gate told)))

-- of which the body may stand there
pub returns-clause-stands : goal.returns-clause-stands
returns-clause-stands g c =
    let same = c.bytes-bytes.ensures.bytes in
    let ahead = bytes_ahead c.fitting-coming.result in
    let to : c.args.tail.now.place + 1 + length (body_of c.args.ready.now.entry) ≤ half_start c.args.tail.now.slot + HALF_BYTES = omega (arith, ap length same) in
    let fits : c.args.tail.now.place + 1 + length (body_of c.args.ready.now.entry ++ ahead) ≤ half_start c.args.tail.now.slot + HALF_BYTES =
    omega (arith, ap length same, length-append (body_of c.args.ready.now.entry) ahead, c.fitting-coming.ensures.fits) in
    let a = (g.D.Disk.state c.args.disk.now).content in
    let b = (g.D.Disk.state c.put_bodies.new.disk).content in
    let inside : (told : g.D.Disk.tells) → c.args.tail.now.place + 1 ≤ length a = λ (told : g.D.Disk.tells). omega (arith, (c.requires.closed.content told).0) in
    let written = λ (told : g.D.Disk.tells). subst (λ (l : List ℕ). Holds a (c.args.tail.now.place + 1) (l ++ ahead) b) same (c.in_ok-put_bodies.ensures.written told) in
    let stands = λ (told : g.D.Disk.tells). subst (λ (l : List ℕ). HasBytes (c.args.tail.now.place + 1) l b) same (c.in_ok-put_bodies.ensures.stands.content told) in
    let gate = c.in_ok-write_synced.ensures.written in
    let next : c.args.tail.now.place + length c.bytes-bytes.result.now ≡ c.args.tail.now.place + length (body_of c.args.ready.now.entry) = omega (arith, ap length same) in
    let before = λ (told : g.D.Disk.tells). subst (λ (l : List ℕ). HasBytes (c.args.tail.now.place + 1 + length l) ahead b) same (c.in_ok-put_bodies.ensures.next told) in
    stands_only g.D.Disk.tells _ (StandsAhead (c.args.tail.now.place + length c.bytes-bytes.result.now) c.fitting-coming.result) (g.met.D.Disk.lawful c.write_synced.new.disk) c.in_ok-write_synced.ensures.syncs.durable
    (λ told. ahead_stands 2 _ _ c.args.ready.now.entry c.bytes-bytes.ensures.sound c.args.tail.now.starts to (start_fits _) ahead fits a b _ (inside told) (written told) (stands told) (gate told) _ next (before told))
