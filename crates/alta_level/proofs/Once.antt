-- A segment is of one content, a damaged one has one first fault, and no bytes are both.
use Rattle.std.proofs.Common.{◌≡◌, inl, inr, ℕ, ◌+◌, ◌^◌, ◌<◌, List, [], ◌∷◌, length, drop, sym, subst, ap, ◌∙◌, arith, length-drop}
use Rattle.std.proofs.lemmas.List.{length-take}
use Rattle.alta_format.proofs.FormatLaws.{done, failed}
use Rattle.alta_content.specs.declared.document.DocRow.{DocRow}
use Rattle.alta_table.specs.declared.term.TermRow.{TermRow}
use Rattle.alta_table.specs.Tables.{Tables, AreTables, IsDamage, tables_bytes, tables_of}
use Rattle.alta_table.specs.Terms.{data_of}
use Rattle.alta_content.specs.declared.content.Content.{Content}
use Rattle.alta_content.specs.TermList.{TermList}
use Rattle.alta_level.specs.Segments.{IsSegment, rows_of}
use Rattle.alta_level.specs.Damage.{stored_at, AreListsOf, IsFaultInLists, IsSegmentFault, data_in, data_place}
use Rattle.alta_level.specs.Damage.IsSegmentFault.{in_tables, in_lists}
use Rattle.alta_level.proofs.Faults.{list_once, list_or_fault, list_fault_once}
use Rattle.alta_level.proofs.Spelled.{tables_at, segment_tables, segment_lists}

-- ---- the lists

same_list : (l m : TermList) → l.term ≡ m.term → l.locations ≡ m.locations → l ≡ m
same_list l m a b =
    let f : List ℕ → TermList = λ x. record { term = x; locations = l.locations } in
    let g : List ℕ → TermList = λ x. record { term = m.term; locations = x } in
    ap f a ∙ ap g b

lists_once : (documents : List DocRow) (rows : List TermRow) (bytes : List ℕ) (place : ℕ) (xs ys : List TermList) → AreListsOf documents rows bytes place xs → AreListsOf documents rows bytes place ys → xs ≡ ys
unfolding AreListsOf
lists_once documents [] bytes place xs ys h k = h ∙ sym k
lists_once documents (row ∷ rows) bytes place [] ys h k = absurd h
lists_once documents (row ∷ rows) bytes place (x ∷ xs) [] h k = absurd k
lists_once documents (row ∷ rows) bytes place (x ∷ xs) (y ∷ ys) (t, is, more) (u, as_, others) =
    ap (λ z. z ∷ xs) (same_list x y (t ∙ sym u) (list_once documents (stored_at row bytes place) x.locations y.locations is as_))
    ∙ ap (λ z. y ∷ z) (lists_once documents rows (drop (data_of row) bytes) (place + data_of row) xs ys more others)

lists_or_fault : (documents : List DocRow) (rows : List TermRow) (bytes : List ℕ) (place : ℕ) (lists : List TermList) (p : ℕ) → length bytes < 2 ^ 64
    → AreListsOf documents rows bytes place lists → IsFaultInLists documents rows bytes place p → ⊥
unfolding AreListsOf IsFaultInLists
lists_or_fault documents [] bytes place lists p small h f = f
lists_or_fault documents (row ∷ rows) bytes place [] p small h f = h
lists_or_fault documents (row ∷ rows) bytes place (l ∷ ls) p small (t, is, more) (inl f) =
    list_or_fault documents (stored_at row bytes place) l.locations p (omega (arith, length-take row.stream bytes)) is f
lists_or_fault documents (row ∷ rows) bytes place (l ∷ ls) p small (t, is, more) (inr (w, f)) =
    lists_or_fault documents rows (drop (data_of row) bytes) (place + data_of row) ls p (omega (arith, length-drop (data_of row) bytes)) more f

fault_once : (documents : List DocRow) (rows : List TermRow) (bytes : List ℕ) (place p q : ℕ) → length bytes < 2 ^ 64
    → IsFaultInLists documents rows bytes place p → IsFaultInLists documents rows bytes place q → p ≡ q
unfolding IsFaultInLists
fault_once documents [] bytes place p q small f g = absurd f
fault_once documents (row ∷ rows) bytes place p q small (inl f) (inl g) = list_fault_once documents (stored_at row bytes place) p q f g
fault_once documents (row ∷ rows) bytes place p q small (inl f) (inr (w, g)) =
    absurd (list_or_fault documents (stored_at row bytes place) w.0 p (omega (arith, length-take row.stream bytes)) w.1 f)
fault_once documents (row ∷ rows) bytes place p q small (inr (w, f)) (inl g) =
    absurd (list_or_fault documents (stored_at row bytes place) w.0 q (omega (arith, length-take row.stream bytes)) w.1 g)
fault_once documents (row ∷ rows) bytes place p q small (inr (w, f)) (inr (v, g)) =
    fault_once documents rows (drop (data_of row) bytes) (place + data_of row) p q (omega (arith, length-drop (data_of row) bytes)) f g

-- ---- the segment

abbrev Listed : List ℕ → Tables → List TermList → Type 0
Listed bytes t lists = AreListsOf t.documents t.terms (data_in bytes t) (data_place t) lists

-- what the laws of tables say of these bytes
pub record HasTableLaws (bytes : List ℕ) (place : ℕ) : Type 0 where
  pub small : length bytes < 2 ^ 64
  pub read : (t : Tables) → AreTables bytes place (length bytes) t → tables_of bytes place (length bytes) ≡ done t
  pub broken : (p : ℕ) → IsDamage bytes place (length bytes) p → tables_of bytes place (length bytes) ≡ failed p

module _ (bytes : List ℕ) (place : ℕ) (laws : HasTableLaws bytes place) where
  tables_once : (t u : Tables) → AreTables bytes place (length bytes) t → AreTables bytes place (length bytes) u → t ≡ u
  tables_once t u a b =
      let e : done {A = Tables} t ≡ done u = sym (laws.read t a) ∙ laws.read u b in cc

  tables_or_damage : (t : Tables) (p : ℕ) → AreTables bytes place (length bytes) t → IsDamage bytes place (length bytes) p → ⊥
  tables_or_damage t p a d =
      let e : done {A = Tables} t ≡ failed p = sym (laws.read t a) ∙ laws.broken p d in cc

  damage_once : (p q : ℕ) → IsDamage bytes place (length bytes) p → IsDamage bytes place (length bytes) q → p ≡ q
  damage_once p q d e =
      let f : failed {A = Tables} p ≡ failed q = sym (laws.broken p d) ∙ laws.broken q e in cc

  rest_small : (t : Tables) → length (data_in bytes t) < 2 ^ 64
  rest_small t = omega (arith, laws.small, length-drop (length (tables_bytes t.documents t.terms)) bytes)

  pub segment_once : (c d : Content) → IsSegment bytes c → IsSegment bytes d → c ≡ d
  segment_once c d s r =
      let e = tables_once (tables_at place c) (tables_at place d) (segment_tables bytes place c laws.small s) (segment_tables bytes place d laws.small r) in
      let here : Listed bytes (tables_at place d) c.lists = subst (λ (t : Tables). Listed bytes t c.lists) e (segment_lists bytes place c s) in
      let lists = lists_once d.documents (rows_of d.lists) (data_in bytes (tables_at place d)) (data_place (tables_at place d)) c.lists d.lists here (segment_lists bytes place d r) in
      let f : List DocRow → Content = λ x. record { documents = x; lists = c.lists } in
      let g : List TermList → Content = λ x. record { documents = d.documents; lists = x } in
      ap f (ap (λ t. t.documents) e) ∙ ap g lists

  pub segment_or_fault : (c : Content) (p : ℕ) → IsSegment bytes c → IsSegmentFault bytes place p → ⊥
  segment_or_fault c p s (in_tables q d) = tables_or_damage (tables_at place c) q (segment_tables bytes place c laws.small s) d
  segment_or_fault c p s (in_lists t q a f) =
      let e = tables_once (tables_at place c) t (segment_tables bytes place c laws.small s) a in
      lists_or_fault t.documents t.terms (data_in bytes t) (data_place t) c.lists q (rest_small t) (subst (λ (t : Tables). Listed bytes t c.lists) e (segment_lists bytes place c s)) f

  pub segment_fault_once : (p q : ℕ) → IsSegmentFault bytes place p → IsSegmentFault bytes place q → p ≡ q
  segment_fault_once p q (in_tables x d) (in_tables y e) = damage_once x y d e
  segment_fault_once p q (in_tables x d) (in_lists t y a f) = absurd (tables_or_damage t x a d)
  segment_fault_once p q (in_lists t x a f) (in_tables y e) = absurd (tables_or_damage t y a e)
  segment_fault_once p q (in_lists t x a f) (in_lists u y b g) =
      let e = tables_once u t b a in
      fault_once t.documents t.terms (data_in bytes t) (data_place t) x y (rest_small t) f (subst (λ (v : Tables). IsFaultInLists v.documents v.terms (data_in bytes v) (data_place v) y) e g)

-- ---- the parts by other names

pub moved : (P : List DocRow → List TermRow → List ℕ → ℕ → Type 0) (a x : List DocRow) (b y : List TermRow) (c z : List ℕ) (d w : ℕ) → a ≡ x → b ≡ y → c ≡ z → d ≡ w → P a b c d → P x y z w
moved P a x b y c z d w e f g h p = subst (λ (n : ℕ). P x y z n) h (subst (λ (s : List ℕ). P x y s d) g (subst (λ (r : List TermRow). P x r c d) f (subst (λ (r : List DocRow). P r b c d) e p)))
