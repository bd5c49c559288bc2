use Rattle.std.proofs.Common.{◌≡◌, ◌≢◌, ℕ, List, length, get_or, sym, subst, ◌∙◌, arith}
use Rattle.std.proofs.lemmas.Bool.{false≢true}
use Rattle.alta_machine.proofs.Numerals.{no_number, is_number, read_is_spelled, spelled_is_plain, spelled_is_read, is_no_error}
use Rattle.alta_machine.proofs.numeral.number.Goals as goal

pub returns-in-Ok-clause-number : goal.returns-in-Ok-clause-number
returns-in-Ok-clause-number c =
    let plain : (get_or c.args.word.now 0 0 ≢ 43) × (get_or c.args.word.now 0 0 ≡ 48 → length c.args.word.now ≡ 1) = rw (sym c.as_bytes.ensures.value) (c.is_plain.ensures.0 c.if-is_plain.true) in
    read_is_spelled c.args.word.now c.parse.result c.in-Ok.n c.parse.ensures.value.0 c.in-Ok.is plain.0 plain.1

pub returns-in-Ok-clause-value : goal.returns-in-Ok-clause-value
returns-in-Ok-clause-value c = is_number c.args.word.now c.in-Ok.n (returns-in-Ok-clause-number c) (omega arith)

-- a word that is not plain spells none
pub returns-in_default-clause-number : goal.returns-in_default-clause-number
returns-in_default-clause-number c n small e =
    let plain : (get_or c.as_bytes.result.now 0 0 ≢ 43) × (get_or c.as_bytes.result.now 0 0 ≡ 48 → length c.as_bytes.result.now ≡ 1) =
    subst (λ (word : List ℕ). (get_or word 0 0 ≢ 43) × (get_or word 0 0 ≡ 48 → length word ≡ 1)) (e ∙ sym c.as_bytes.ensures.value) (spelled_is_plain n small) in
    absurd (false≢true (sym c.if-is_plain.false ∙ c.is_plain.ensures.1 plain))

pub returns-in_default-clause-value : goal.returns-in_default-clause-value
returns-in_default-clause-value c = no_number c.args.word.now (returns-in_default-clause-number c)

-- nor does one that is not read
pub returns-in_default-2-clause-number : goal.returns-in_default-2-clause-number
returns-in_default-2-clause-number c n small e =
    let read = spelled_is_read c.args.word.now c.parse.result n small e c.parse.ensures.value.0 in
    absurd (is_no_error c.parse.result n c.in_default.field-0 read c.in_default.is)

pub returns-in_default-2-clause-value : goal.returns-in_default-2-clause-value
returns-in_default-2-clause-value c = no_number c.args.word.now (returns-in_default-2-clause-number c)
