use Rattle.std.proofs.Common.{◌≡◌, ◌⊎◌, inl, inr, ℕ, ◌+◌, ◌-◌, ◌*◌, ◌<◌, ◌≤◌, drop, get_or, ap, ◌∙◌, sym, arith}
use Rattle.std.specs.Prelude.{Ok}
use Rattle.alta_codec.specs.Numbers.{number_from}
use Rattle.alta_codec.proofs.Numerals.{raised, raised_low, number_long, number_end, number_wide, number_last, number_more, number_cut, gain_fits, room_step}
use Rattle.alta_codec.proofs.number.get_long.Goals as goal
use Rattle.alta_codec.proofs.number.get_long.Goals.{else-byte-eq0-via-then-byte-eq0+else-left-lt9, else-byte-eq0-via-else-byte-eq0}

pub returns-then-left-lt9 : goal.returns-then-left-lt9
returns-then-left-lt9 c =
    sym (c.bytes.invariant.whole ∙ ap (raised c.bytes.value c.bytes.scale) (sym (number_long c.args.bytes.now c.bytes.at c.bytes.left c.bytes-test.true c.if-byte-eq0.true c.if-left-lt9.true)))

pub returns-then-byte-eq1 : goal.returns-then-byte-eq1
returns-then-byte-eq1 c =
    let one : c.bytes.value + c.bytes.scale ≡ c.bytes.value + c.bytes.scale * 1 = omega arith in
    ap (λ (v : ℕ). Ok (v, c.bytes.at + 1)) one
    ∙ sym (c.bytes.invariant.whole ∙ ap (raised c.bytes.value c.bytes.scale) (sym (number_end c.args.bytes.now c.bytes.at c.bytes.left c.bytes-test.true c.if-left-eq0.true c.if-byte-eq1.true)))

pub returns-then-left-eq0 : goal.returns-then-left-eq0
returns-then-left-eq0 c =
    let some : (0 < get_or c.args.bytes.now c.bytes.at 0) ⊎ (9 ≤ c.bytes.left) =
    elim c.else-byte-eq0.branch [ else-byte-eq0-via-then-byte-eq0+else-left-lt9 w ↦ inr (omega arith) | else-byte-eq0-via-else-byte-eq0 w ↦ inl (omega arith) ] in
    sym (c.bytes.invariant.whole ∙ ap (raised c.bytes.value c.bytes.scale) (sym (number_wide c.args.bytes.now c.bytes.at c.bytes.left c.bytes-test.true c.if-left-eq0.true (elim some [ inl p ↦ omega arith | inr p ↦ omega arith ]))))

pub overflow_mul-result : goal.overflow_mul-result
overflow_mul-result c =
    let gain = gain_fits c.bytes.value c.bytes.scale (get_or c.args.bytes.now c.bytes.at 0) c.bytes.left c.bytes.invariant.low c.bytes.invariant.room (omega arith) c.if-byte-lt128.true in
    omega (arith, gain.0, gain.1, c.from.ensures, ap (λ (x : ℕ). c.bytes.scale * x) c.from.ensures)

pub overflow_add-result-then-byte-lt128 : goal.overflow_add-result-then-byte-lt128
overflow_add-result-then-byte-lt128 c =
    let gain = gain_fits c.bytes.value c.bytes.scale (get_or c.args.bytes.now c.bytes.at 0) c.bytes.left c.bytes.invariant.low c.bytes.invariant.room (omega arith) c.if-byte-lt128.true in
    omega (arith, gain.0, gain.1, ap (λ (x : ℕ). c.bytes.scale * x) c.from.ensures)

pub returns-then-byte-lt128 : goal.returns-then-byte-lt128
returns-then-byte-lt128 c =
    let some : (0 < get_or c.args.bytes.now c.bytes.at 0) ⊎ (9 ≤ c.bytes.left) =
    elim c.else-byte-eq0.branch [ else-byte-eq0-via-then-byte-eq0+else-left-lt9 w ↦ inr (omega arith) | else-byte-eq0-via-else-byte-eq0 w ↦ inl (omega arith) ] in
    ap (λ (x : ℕ). Ok (c.bytes.value + c.bytes.scale * x, c.bytes.at + 1)) c.from.ensures
    ∙ sym (c.bytes.invariant.whole ∙ ap (raised c.bytes.value c.bytes.scale) (sym (number_last c.args.bytes.now c.bytes.at c.bytes.left c.bytes-test.true (omega arith) c.if-byte-lt128.true some)))

pub overflow_mul-value : goal.overflow_mul-value
overflow_mul-value c =
    let byte : get_or c.args.bytes.now c.bytes.at 0 - 128 < 128 = omega (arith, c.type_inv.bytes c.bytes.at) in
    let gain = gain_fits c.bytes.value c.bytes.scale (get_or c.args.bytes.now c.bytes.at 0 - 128) c.bytes.left c.bytes.invariant.low c.bytes.invariant.room (omega arith) byte in
    omega (arith, gain.0, gain.1, ap (λ (x : ℕ). c.bytes.scale * x) c.from-in-bytes.ensures)

pub overflow_add-value : goal.overflow_add-value
overflow_add-value c =
    let byte : get_or c.args.bytes.now c.bytes.at 0 - 128 < 128 = omega (arith, c.type_inv.bytes c.bytes.at) in
    let gain = gain_fits c.bytes.value c.bytes.scale (get_or c.args.bytes.now c.bytes.at 0 - 128) c.bytes.left c.bytes.invariant.low c.bytes.invariant.room (omega arith) byte in
    omega (arith, gain.0, gain.1, ap (λ (x : ℕ). c.bytes.scale * x) c.from-in-bytes.ensures)

pub overflow_mul-scale : goal.overflow_mul-scale
overflow_mul-scale c =
    let gain = gain_fits c.bytes.value c.bytes.scale 0 c.bytes.left c.bytes.invariant.low c.bytes.invariant.room (omega arith) (omega arith) in
    omega (arith, gain.1)

pub bytes-preserved : goal.bytes-preserved
bytes-preserved c =
    let low = get_or c.args.bytes.now c.bytes.at 0 - 128 in
    let byte : low < 128 = omega (arith, c.type_inv.bytes c.bytes.at) in
    let gain = gain_fits c.bytes.value c.bytes.scale low c.bytes.left c.bytes.invariant.low c.bytes.invariant.room (omega arith) byte in
    record {
      whole = c.bytes.invariant.whole
          ∙ ap (raised c.bytes.value c.bytes.scale) (number_more c.args.bytes.now c.bytes.at c.bytes.left c.bytes-test.true (omega arith) (omega arith))
          ∙ raised_low c.bytes.value c.bytes.scale low (number_from (c.bytes.left - 1) (c.bytes.at + 1) (drop (c.bytes.at + 1) c.args.bytes.now))
          ∙ ap (λ (x : ℕ). raised (c.bytes.value + c.bytes.scale * x) (c.bytes.scale * 128) (number_from (c.bytes.left - 1) (c.bytes.at + 1) (drop (c.bytes.at + 1) c.args.bytes.now))) (sym c.from-in-bytes.ensures);
      within = omega arith;
      low = omega (arith, gain.0, ap (λ (x : ℕ). c.bytes.scale * x) c.from-in-bytes.ensures);
      room = room_step c.bytes.scale c.bytes.left c.bytes.invariant.room (omega arith);
      few = omega arith;
    }

pub returns : goal.returns
returns c =
    sym (c.bytes.invariant.whole ∙ ap (raised c.bytes.value c.bytes.scale) (sym (number_cut c.args.bytes.now c.bytes.at c.bytes.left (omega arith))))
