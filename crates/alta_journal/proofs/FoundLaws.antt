-- What a reader of entries finds.
use Rattle.std.proofs.Common.{◌≡◌, ℕ, ◌<◌, ◌^◌, List, Some, None, refl, sym, ◌∙◌, ap, subst, arith}
use Rattle.std.specs.Prelude.{IsUtf8}
use Rattle.std.proofs.lemmas.Str.{IsUtf8-from_ascii}
use Rattle.std.proofs.lemmas.Str.Ascii.{IsAscii-from_all}
use Rattle.std.proofs.lemmas.List.Elements.{All-weaker}
use Rattle.alta_codec.specs.Name.{IsGraphic, IsName}
use Rattle.alta_journal.specs.Entry.{MayBeRecorded}
use Rattle.alta_journal.specs.Found.{IsFound, AreFound}
use Rattle.alta_layout.specs.Wide.{of_eight}
use Rattle.alta_journal.specs.Reading.{cut, texts_in, add_in, replace_in}
use Rattle.alta_journal.specs.declared.entry.Entry.TheVariants.{Add, Replace}
use Rattle.alta_journal.proofs.ReadingLaws.{bind_is}

-- a name is UTF-8
pub name_utf8 : (name : List ℕ) → IsName name → IsUtf8 name
name_utf8 name is_name = IsUtf8-from_ascii name (IsAscii-from_all name (All-weaker IsGraphic (λ b. b < 128) (λ b graphic. omega (arith, graphic.1)) name is_name.2))

-- no add, where no texts are found
pub no_add : (bytes : List ℕ) → AreFound (texts_in bytes) None → IsFound 2 (add_in bytes) None
unfolding add_in
no_add bytes none = λ entry sound is.
    let t = bind_is (texts_in bytes) _ entry is in
    let made : Some (Add t.0.0 t.0.1 t.0.2) ≡ Some entry = t.2 in
    let entry_is : entry ≡ Add t.0.0 t.0.1 t.0.2 = cc (made) in
    let good : MayBeRecorded 2 (Add t.0.0 t.0.1 t.0.2) = subst (MayBeRecorded 2) entry_is sound in
    none t.0.0 t.0.1 t.0.2 (good.0, good.1.0, good.1.1) t.1

-- the add of the texts that are found
pub add_found : (bytes : List ℕ) (t : List ℕ × List ℕ × List ℕ) → AreFound (texts_in bytes) (Some t) → IsFound 2 (add_in bytes) (Some (Add t.0 t.1 t.2))
unfolding add_in
add_found bytes t found = ((found.0.0, (found.0.1, found.0.2), λ one. absurd (omega (arith, one))), rw found.1 refl)

-- no replace, where no number or no texts are found
pub no_number : (bytes : List ℕ) → cut 8 bytes ≡ None → IsFound 2 (replace_in bytes) None
unfolding replace_in
no_number bytes none = λ entry sound is. let n = bind_is (cut 8 bytes) _ entry is in let clash : None ≡ Some n.0 = sym none ∙ n.1 in absurd (cc (clash))

pub no_replace : (bytes number rest : List ℕ) → cut 8 bytes ≡ Some (number, rest) → AreFound (texts_in rest) None → IsFound 2 (replace_in bytes) None
unfolding replace_in
no_replace bytes number rest cut_is none = λ entry sound is.
    let n = bind_is (cut 8 bytes) _ entry is in
    let same : Some n.0 ≡ Some (number, rest) = sym n.1 ∙ cut_is in
    let rest_is : n.0.1 ≡ rest = cc (same) in
    let t = bind_is (texts_in n.0.1) _ entry n.2 in
    let made : Some (Replace (of_eight n.0.0) t.0.0 t.0.1 t.0.2) ≡ Some entry = t.2 in
    let entry_is : entry ≡ Replace (of_eight n.0.0) t.0.0 t.0.1 t.0.2 = cc (made) in
    let good : MayBeRecorded 2 (Replace (of_eight n.0.0) t.0.0 t.0.1 t.0.2) = subst (MayBeRecorded 2) entry_is sound in
    none t.0.0 t.0.1 t.0.2 (good.0, good.1.1, good.1.2) (ap texts_in (sym rest_is) ∙ t.1)

-- the replace of the number and the texts that are found
pub replace_found : (bytes number rest : List ℕ) (n : ℕ) (t : List ℕ × List ℕ × List ℕ) → cut 8 bytes ≡ Some (number, rest) → n ≡ of_eight number → n < 2 ^ 64 → AreFound (texts_in rest) (Some t)
    → IsFound 2 (replace_in bytes) (Some (Replace n t.0 t.1 t.2))
unfolding replace_in
replace_found bytes number rest n t cut_is n_is small found =
    ((found.0.0, (small, found.0.1, found.0.2), λ one. absurd (omega (arith, one))), rw (cut_is, found.1) (ap (λ (k : ℕ). Some (Replace k t.0 t.1 t.2)) (sym n_is)))
