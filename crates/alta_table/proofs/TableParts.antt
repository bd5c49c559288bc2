-- The tables that are found are those that the fields of the bytes spell, and the damage is the first.
use Rattle.std.proofs.Common.{◌≡◌, ◌⊎◌, ⊎_elim, inl, inr, ℕ, ◌+◌, ◌-◌, ◌<◌, min, true, false, cond, ltb, List, drop, Result, Ok, Err, refl, sym, ap, subst, ◌∙◌, arith}
use Rattle.std.specs.List.{list_any}
use Rattle.std.proofs.lemmas.Bool.{lt-ltb, ltb-true, ltb-false}
use Rattle.alta_format.specs.Format.{◌>>=◌, AreBytes, part}
use Rattle.alta_format.proofs.FormatLaws.{done, failed, ok_is, err_is, if_yes, if_no, tested, AreBytes-take, AreBytes-drop, part_found, part_spelled, part_first, part_broken}
use Rattle.alta_content.specs.declared.document.DocRow.{DocRow}
use Rattle.alta_table.specs.declared.sizes.Head.{Head}
use Rattle.alta_table.specs.declared.term.TermRow.{TermRow}
use Rattle.alta_table.specs.Documents.{documents_format}
use Rattle.alta_table.specs.Terms.{terms_format, is_end}
use Rattle.alta_table.specs.Tables.{head_format, Tables, read_head, tables_of, head_part, document_part, term_part, room, HasHead, HasDocuments, HasTerms, IsDamage, in_head, in_documents, in_terms, behind_streams, no_end}

bind_ok : {A B : Type 0} (r : Result A ℕ) (f : A → Result B ℕ) (y : B) → (r >>= f) ≡ done y → (x : A) × (r ≡ done x) × (f x ≡ done y)
bind_ok (Ok x) f y e = (x, refl, e)
bind_ok (Err d) f y e = absurd cc

bind_err : {A B : Type 0} (r : Result A ℕ) (f : A → Result B ℕ) (p : ℕ) → (r >>= f) ≡ failed p → (r ≡ failed p) ⊎ ((x : A) × (r ≡ done x) × (f x ≡ failed p))
bind_err (Ok x) f p e = inr (x, refl, e)
bind_err {A = A} {B = B} (Err d) f p e = inl (ap (λ (k : ℕ). failed {A = A} k) (err_is {A = B} d p e))

ok_bind : {A B : Type 0} (r : Result A ℕ) (f : A → Result B ℕ) (x : A) → r ≡ done x → (r >>= f) ≡ f x
ok_bind r f x e = ap (λ q. q >>= f) e

err_bind : {A B : Type 0} (r : Result A ℕ) (f : A → Result B ℕ) (p : ℕ) → r ≡ failed p → (r >>= f) ≡ failed p
err_bind r f p e = ap (λ q. q >>= f) e

-- the steps by name
abbrev pub last_tests : ℕ → ℕ → List DocRow → List TermRow × ℕ → Result Tables ℕ
last_tests place total rs found = cond (ltb 0 found.1) (Err (place + (total - found.1))) (cond (list_any is_end found.0) (Ok (record { place = place; documents = rs; terms = found.0 })) (Err (place + 8)))

abbrev terms_of : List ℕ → ℕ → ℕ → Head → Result (List TermRow × ℕ) ℕ
terms_of bytes place total h = part (terms_format h.terms (room total h)) (term_part bytes h) (place + 32 + h.document_bytes)

abbrev documents_of : List ℕ → ℕ → Head → Result (List DocRow) ℕ
documents_of bytes place h = part (documents_format h.documents) (document_part bytes h) (place + 32)

abbrev behind_documents : List ℕ → ℕ → ℕ → Head → List DocRow → Result Tables ℕ
behind_documents bytes place total h rs = terms_of bytes place total h >>= λ found. last_tests place total rs found

abbrev behind_head : List ℕ → ℕ → ℕ → Head → Result Tables ℕ
behind_head bytes place total h = documents_of bytes place h >>= λ rs. behind_documents bytes place total h rs

steps : (bytes : List ℕ) (place total : ℕ) → tables_of bytes place total ≡ (part (head_format total) (head_part bytes total) place >>= λ h. behind_head bytes place total h)
unfolding tables_of
steps bytes place total = refl

bytes1 : (bytes : List ℕ) (h : Head) → AreBytes bytes → AreBytes (document_part bytes h)
bytes1 bytes h fits = AreBytes-take h.document_bytes (drop 32 bytes) (AreBytes-drop 32 bytes fits)

bytes2 : (bytes : List ℕ) (h : Head) → AreBytes bytes → AreBytes (term_part bytes h)
bytes2 bytes h fits = AreBytes-take h.term_bytes (drop h.document_bytes (drop 32 bytes)) (AreBytes-drop h.document_bytes (drop 32 bytes) (AreBytes-drop 32 bytes fits))

-- ---- the last tests

abbrev pub made : ℕ → List DocRow → List TermRow → Tables
made place rs ts = record { place = place; documents = rs; terms = ts }

abbrev inner : ℕ → List DocRow → List TermRow → Result Tables ℕ
inner place rs ts = cond (list_any is_end ts) (Ok (made place rs ts)) (Err (place + 8))

last_ok : (place total : ℕ) (rs : List DocRow) (ts : List TermRow) (left : ℕ) (t : Tables) → last_tests place total rs (ts, left) ≡ done t
    → (left ≡ 0) × (list_any is_end ts ≡ true) × (made place rs ts ≡ t)
last_ok place total rs ts left t e =
    ⊎_elim (λ more. let f = sym (if_yes (ltb 0 left) (failed (place + (total - left))) (inner place rs ts) more) ∙ e in absurd cc)
    (λ none. let f = sym (if_no (ltb 0 left) (failed (place + (total - left))) (inner place rs ts) none) ∙ e in
    ⊎_elim (λ there. (omega (arith, ltb-false 0 left none), there, ok_is (made place rs ts) t (sym (if_yes (list_any is_end ts) (done (made place rs ts)) (failed (place + 8)) there) ∙ f)))
    (λ missing. let g = sym (if_no (list_any is_end ts) (done (made place rs ts)) (failed (place + 8)) missing) ∙ f in absurd cc)
    (tested (list_any is_end ts)))
    (tested (ltb 0 left))

last_err : (place total : ℕ) (rs : List DocRow) (ts : List TermRow) (left p : ℕ) → last_tests place total rs (ts, left) ≡ failed p
    → ((0 < left) × (place + (total - left) ≡ p)) ⊎ ((left ≡ 0) × (list_any is_end ts ≡ false) × (place + 8 ≡ p))
last_err place total rs ts left p e =
    ⊎_elim (λ more. inl (ltb-true 0 left more, err_is {A = Tables} (place + (total - left)) p (sym (if_yes (ltb 0 left) (failed (place + (total - left))) (inner place rs ts) more) ∙ e)))
    (λ none. let f = sym (if_no (ltb 0 left) (failed (place + (total - left))) (inner place rs ts) none) ∙ e in
    ⊎_elim (λ there. let g = sym (if_yes (list_any is_end ts) (done (made place rs ts)) (failed (place + 8)) there) ∙ f in absurd cc)
    (λ missing. inr (omega (arith, ltb-false 0 left none), missing, err_is {A = Tables} (place + 8) p (sym (if_no (list_any is_end ts) (done (made place rs ts)) (failed (place + 8)) missing) ∙ f)))
    (tested (list_any is_end ts)))
    (tested (ltb 0 left))

-- ---- whole

-- the parts that the fields of the bytes spell
pub record HasTables (bytes : List ℕ) (total : ℕ) (rs : List DocRow) (ts : List TermRow) : Type 0 where
  pub head : Head
  pub has_head : HasHead bytes total head
  pub has_documents : HasDocuments bytes head rs
  pub has_terms : HasTerms bytes total head (ts, 0)
  pub has_end : list_any is_end ts ≡ true

pub record Found (bytes : List ℕ) (place total : ℕ) (t : Tables) : Type 0 where
  pub at : t.place ≡ place
  pub has : HasTables bytes total t.documents t.terms
  pub read : read_head bytes place total ≡ done has.head

pub tables_found : (bytes : List ℕ) (place total : ℕ) (t : Tables) → AreBytes bytes → tables_of bytes place total ≡ done t → Found bytes place total t
tables_found bytes place total t fits e =
    let (h, e1, f1) = bind_ok (part (head_format total) (head_part bytes total) place) (λ h. behind_head bytes place total h) t (sym (steps bytes place total) ∙ e) in
    let (rs, e2, f2) = bind_ok (documents_of bytes place h) (λ rs. behind_documents bytes place total h rs) t f1 in
    let (found, e3, f3) = bind_ok (terms_of bytes place total h) (λ found. last_tests place total rs found) t f2 in
    let (none, there, is) = last_ok place total rs found.0 found.1 t f3 in
    let terms : HasTerms bytes total h (found.0, found.1) = part_found (terms_format h.terms (room total h)) (term_part bytes h) (place + 32 + h.document_bytes) found (bytes2 bytes h fits) e3 in
    subst (Found bytes place total) is (record {
      at = refl;
      has = record {
        head = h;
        has_head = part_found (head_format total) (head_part bytes total) place h (AreBytes-take (min 32 total) bytes fits) e1;
        has_documents = part_found (documents_format h.documents) (document_part bytes h) (place + 32) rs (bytes1 bytes h fits) e2;
        has_terms = subst (λ (left : ℕ). HasTerms bytes total h (found.0, left)) none terms;
        has_end = there;
      };
      read = e1;
    })

to_head : (bytes : List ℕ) (place total : ℕ) (h : Head) → AreBytes bytes → HasHead bytes total h → tables_of bytes place total ≡ behind_head bytes place total h
to_head bytes place total h fits (rest, s) =
    steps bytes place total ∙ ok_bind (part (head_format total) (head_part bytes total) place) (λ h. behind_head bytes place total h) h (part_spelled (head_format total) (head_part bytes total) place h rest (AreBytes-take (min 32 total) bytes fits) s)

to_documents : (bytes : List ℕ) (place total : ℕ) (h : Head) (rs : List DocRow) → AreBytes bytes → HasHead bytes total h → HasDocuments bytes h rs → tables_of bytes place total ≡ behind_documents bytes place total h rs
to_documents bytes place total h rs fits head (rest, s) =
    to_head bytes place total h fits head
    ∙ ok_bind (documents_of bytes place h) (λ rs. behind_documents bytes place total h rs) rs (part_spelled (documents_format h.documents) (document_part bytes h) (place + 32) rs rest (bytes1 bytes h fits) s)

to_terms : (bytes : List ℕ) (place total : ℕ) (h : Head) (rs : List DocRow) (found : List TermRow × ℕ) → AreBytes bytes → HasHead bytes total h → HasDocuments bytes h rs → HasTerms bytes total h found
    → tables_of bytes place total ≡ last_tests place total rs found
to_terms bytes place total h rs found fits head documents (rest, s) =
    to_documents bytes place total h rs fits head documents
    ∙ ok_bind (terms_of bytes place total h) (λ found. last_tests place total rs found) found (part_spelled (terms_format h.terms (room total h)) (term_part bytes h) (place + 32 + h.document_bytes) found rest (bytes2 bytes h fits) s)

pub tables_again : (bytes : List ℕ) (place total : ℕ) (rs : List DocRow) (ts : List TermRow) → AreBytes bytes → HasTables bytes total rs ts → tables_of bytes place total ≡ done (made place rs ts)
tables_again bytes place total rs ts fits a =
    to_terms bytes place total a.head rs (ts, 0) fits a.has_head a.has_documents a.has_terms
    ∙ if_yes (list_any is_end ts) (done (made place rs ts)) (failed (place + 8)) a.has_end

pub tables_first : (bytes : List ℕ) (place total p : ℕ) → AreBytes bytes → tables_of bytes place total ≡ failed p → IsDamage bytes place total p
tables_first bytes place total p fits e =
    ⊎_elim (λ e1. in_head p (part_first (head_format total) (head_part bytes total) place p (AreBytes-take (min 32 total) bytes fits) e1))
    (λ (h, e1, f1).
    let head : HasHead bytes total h = part_found (head_format total) (head_part bytes total) place h (AreBytes-take (min 32 total) bytes fits) e1 in
    ⊎_elim (λ e2. in_documents h p head (part_first (documents_format h.documents) (document_part bytes h) (place + 32) p (bytes1 bytes h fits) e2))
    (λ (rs, e2, f2).
    let documents : HasDocuments bytes h rs = part_found (documents_format h.documents) (document_part bytes h) (place + 32) rs (bytes1 bytes h fits) e2 in
    ⊎_elim (λ e3. in_terms h rs p head documents (part_first (terms_format h.terms (room total h)) (term_part bytes h) (place + 32 + h.document_bytes) p (bytes2 bytes h fits) e3))
    (λ (found, e3, f3).
    let terms : HasTerms bytes total h (found.0, found.1) = part_found (terms_format h.terms (room total h)) (term_part bytes h) (place + 32 + h.document_bytes) found (bytes2 bytes h fits) e3 in
    ⊎_elim (λ (more, is). subst (IsDamage bytes place total) is (behind_streams h rs found.0 found.1 head documents terms more))
    (λ (none, missing, is). subst (IsDamage bytes place total) is (no_end h rs found.0 head documents (subst (λ (left : ℕ). HasTerms bytes total h (found.0, left)) none terms) missing))
    (last_err place total rs found.0 found.1 p f3))
    (bind_err (terms_of bytes place total h) (λ found. last_tests place total rs found) p f2))
    (bind_err (documents_of bytes place h) (λ rs. behind_documents bytes place total h rs) p f1))
    (bind_err (part (head_format total) (head_part bytes total) place) (λ h. behind_head bytes place total h) p (sym (steps bytes place total) ∙ e))

pub tables_broken : (bytes : List ℕ) (place total p : ℕ) → AreBytes bytes → IsDamage bytes place total p → tables_of bytes place total ≡ failed p
tables_broken bytes place total _ fits (in_head p broken) =
    steps bytes place total ∙ err_bind (part (head_format total) (head_part bytes total) place) (λ h. behind_head bytes place total h) p (part_broken (head_format total) (head_part bytes total) place p (AreBytes-take (min 32 total) bytes fits) broken)
tables_broken bytes place total _ fits (in_documents h p head broken) =
    to_head bytes place total h fits head
    ∙ err_bind (documents_of bytes place h) (λ rs. behind_documents bytes place total h rs) p (part_broken (documents_format h.documents) (document_part bytes h) (place + 32) p (bytes1 bytes h fits) broken)
tables_broken bytes place total _ fits (in_terms h rs p head documents broken) =
    to_documents bytes place total h rs fits head documents
    ∙ err_bind (terms_of bytes place total h) (λ found. last_tests place total rs found) p (part_broken (terms_format h.terms (room total h)) (term_part bytes h) (place + 32 + h.document_bytes) p (bytes2 bytes h fits) broken)
tables_broken bytes place total _ fits (behind_streams h rs ts left head documents terms more) =
    to_terms bytes place total h rs (ts, left) fits head documents terms ∙ if_yes (ltb 0 left) (failed (place + (total - left))) (inner place rs ts) (lt-ltb 0 left more)
tables_broken bytes place total _ fits (no_end h rs ts head documents terms missing) =
    to_terms bytes place total h rs (ts, 0) fits head documents terms ∙ if_no (list_any is_end ts) (done (made place rs ts)) (failed (place + 8)) missing

-- what is read goes by the head and the two parts
abbrev pub by_parts : ℕ → ℕ → Head → List ℕ → List ℕ → Result Tables ℕ
by_parts place total h first second =
    part (documents_format h.documents) first (place + 32) >>= λ rs.
    part (terms_format h.terms (room total h)) second (place + 32 + h.document_bytes) >>= λ found. last_tests place total rs found

pub to_parts : (bytes : List ℕ) (place total : ℕ) (h : Head) → read_head bytes place total ≡ done h → tables_of bytes place total ≡ by_parts place total h (document_part bytes h) (term_part bytes h)
to_parts bytes place total h read = steps bytes place total ∙ ok_bind (part (head_format total) (head_part bytes total) place) (λ h. behind_head bytes place total h) h read
