use Rattle.std.proofs.Common.{◌≡◌, List, ℕ, refl, sym, ◌∙◌, ap, subst, arith}
use Rattle.std.proofs.lemmas.Grind.{common_steps}
use Rattle.alta_journal.specs.Entry.{four_bytes, KeepsRules, IsTyped, MayBeRecorded}
use Rattle.alta_journal.specs.Lent.{entry_of}
use Rattle.alta_journal.specs.Reading.{entry_of_body}
use Rattle.alta_journal.specs.Record.{body_of}
use Rattle.alta_journal.specs.declared.entry.Entry.{Entry}
use Rattle.alta_journal.proofs.ReadingLaws.{body_back}
use Rattle.alta_journal.proofs.preparing.ready.Goals as goal

-- the bytes of a sound entry's record are read back
read_back : (bytes : List ℕ) (entry : Entry) → KeepsRules entry → IsTyped entry → bytes ≡ body_of entry → entry_of_body bytes ≡ entry
read_back bytes entry keeps typed made = ap entry_of_body made ∙ body_back entry keeps typed

sound_back : (bytes : List ℕ) (entry : Entry) → KeepsRules entry → IsTyped entry → bytes ≡ body_of entry → MayBeRecorded 2 (entry_of_body bytes)
sound_back bytes entry keeps typed made = subst (MayBeRecorded 2) (sym (read_back bytes entry keeps typed made)) (keeps, typed, λ one. absurd (omega (arith, one)))

spells_back : (bytes : List ℕ) (entry : Entry) → KeepsRules entry → IsTyped entry → bytes ≡ body_of entry → bytes ≡ body_of (entry_of_body bytes)
spells_back bytes entry keeps typed made = made ∙ ap body_of (sym (read_back bytes entry keeps typed made))

-- all was written
pub invariant_of-result : goal.invariant_of-result
unfolding four_bytes
invariant_of-result c =
    let made : c.push.new.self.items ≡ body_of (entry_of c.args.entry.now) = grind (arith, common_steps) in
    (sound_back _ (entry_of c.args.entry.now) c.requires c.payload_len-payload.ensures.typed made, spells_back _ (entry_of c.args.entry.now) c.requires c.payload_len-payload.ensures.typed made)

pub returns : goal.returns
unfolding four_bytes
returns c =
    let made : c.push.new.self.items ≡ body_of (entry_of c.args.entry.now) = grind (arith, common_steps) in
    rw (read_back _ (entry_of c.args.entry.now) c.requires c.payload_len-payload.ensures.typed made, made) refl
