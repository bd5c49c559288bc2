-- The segment of a level on an image: its tables, and behind them the lists that are read.
use Rattle.std.proofs.Common.{◌≡◌, inl, inr, ℕ, ◌+◌, ◌-◌, ◌≤◌, List, [], ◌∷◌, ◌++◌, length, take, drop, refl, sym, subst, ap, ap₂, ◌∙◌, ◌<◌, ◌^◌, arith, length-append, length-drop}
use Rattle.std.proofs.Math.Seq.{drop-append_seam}
use Rattle.std.proofs.lemmas.List.{drop-drop, drop-take, length-take, take-take}
use Rattle.std.proofs.lemmas.List.Sums.{sum_by-cons}
use Rattle.alta_codec.proofs.ByteLaws.{AreBytes-drop, AreBytes-take}
use Rattle.alta_codec.specs.Bytes.{AreBytes}
use Rattle.alta_content.specs.declared.content.Content.{Content}
use Rattle.alta_content.specs.declared.document.DocRow.{DocRow}
use Rattle.alta_codec.specs.declared.extent.Extent.{Extent}
use Rattle.alta_disk.specs.Disk.{DiskState, IsLawful}
use Rattle.alta_disk.specs.Parts.{part}
use Rattle.alta_meaning.specs.Broken.{IsBrokenIn, IsFaultAmong}
use Rattle.alta_meaning.specs.Opened.{bytes_at, tables_at, extent_of}
use Rattle.std.specs.Prelude.{Result, IfOk}
use Rattle.alta_disk.specs.Answers.{IfDamaged}
use Rattle.alta_disk.specs.declared.fault.LoadFault.{LoadFault}
use Rattle.alta_joins.proofs.FaultLaws.{damaged_goes, damaged_of, ok_goes, only_of}
use Rattle.alta_joins.proofs.LevelRuns.{TellsOne}
use Rattle.alta_joins.specs.Contents.{IsContentOf, IsSegmentOn, StandsOn}
use Rattle.alta_joins.specs.Damages.{IsDamageOn}
use Rattle.alta_level.specs.Damage.{AreListsOf, IsFaultInLists, IsSegmentFault, data_in, data_place, stored_at}
use Rattle.alta_level.specs.Damage.IsSegmentFault.{in_lists}
use Rattle.alta_level.specs.Segments.{IsSegment, rows_of}
use Rattle.alta_level.specs.Stored.{IsListFault, Stored}
use Rattle.alta_level.proofs.Spelled.{lists_spell, segment_found}
use Rattle.alta_table.specs.Tables.{AreTables, KeepRules, Tables, tables_bytes, tables_of, total_of}
use Rattle.alta_table.specs.Terms.{data_bytes, data_of}
use Rattle.alta_table.specs.declared.term.TermRow.{TermRow}
use Rattle.alta_table.proofs.FrontLaws.{whole_has_parts}
use Rattle.alta_table.proofs.TableLaws.{tables_are}

-- ---- bytes that stand behind others

-- the part behind the first bytes of a part
pub part_behind : (a b place : ℕ) (image : List ℕ) → drop a (part place (a + b) image) ≡ part (place + a) b image
part_behind a b place image = drop-take a b (drop place image) ∙ ap (take b) (drop-drop a place image)

-- ---- a content, by its lists

same_tables : (place : ℕ) (d e : List DocRow) (s t : List TermRow) → d ≡ e → s ≡ t → ◌≡◌ {A = Tables} (record { place = place; documents = d; terms = s }) (record { place = place; documents = e; terms = t })
same_tables place d e s t a b =
    ap (λ (x : List DocRow). record { place = place; documents = x; terms = s }) a ∙ ap (λ (x : List TermRow). record { place = place; documents = e; terms = x }) b

module _ (level : Tables) (tail : List ℕ) (content : Content) (keeps : KeepRules (total_of level.documents level.terms) level.documents level.terms) (long : length tail ≡ data_bytes level.terms)
    (rows : content.documents ≡ level.documents) (lists : AreListsOf level.documents level.terms tail (data_place level) content.lists) where
  pub content_segment : IsSegment (tables_bytes level.documents level.terms ++ tail) content
  content_segment =
      let front = tables_bytes level.documents level.terms in
      let size : length (front ++ tail) ≡ total_of level.documents level.terms = length-append front tail ∙ ap (λ (n : ℕ). length front + n) long in
      let tables : AreTables (front ++ tail) level.place (length (front ++ tail)) level = record {
        at = refl;
        keeps = subst (λ (n : ℕ). KeepRules n level.documents level.terms) (sym size) keeps;
        behind = tail;
        spelled = refl;
      } in
      segment_found (front ++ tail) level.place level content tables rows
      (subst (λ (d : List ℕ). AreListsOf level.documents level.terms d (data_place level) content.lists) (sym (drop-append_seam front tail)) lists)

  pub content_kept : IsContentOf level content
  content_kept = record {
    stands = content_segment.stands;
    tables = same_tables level.place content.documents level.documents (rows_of content.lists) level.terms rows (sym (lists_spell level.documents level.terms tail (data_place level) content.lists lists (sym long)).rows_are);
  }

-- ---- on an image

module _ (level : Tables) (image : List ℕ) (are : AreBytes image) (stands : StandsOn image level) where
  pub segment_size : length (bytes_at (extent_of level) image) ≡ total_of level.documents level.terms
  segment_size = omega (arith, stands.whole, length-take (total_of level.documents level.terms) (drop level.place image), length-drop level.place image)

  pub segment_bytes : AreBytes (bytes_at (extent_of level) image)
  segment_bytes = AreBytes-take (total_of level.documents level.terms) (drop level.place image) (AreBytes-drop level.place image are)

  pub tables_stand : AreTables (bytes_at (extent_of level) image) level.place (length (bytes_at (extent_of level) image)) level
  unfolding tables_at
  tables_stand =
      let bs = bytes_at (extent_of level) image in
      tables_are bs level.place (length bs) level segment_bytes (whole_has_parts bs level.place (length bs) segment_bytes (omega arith))
      (ap (λ (n : ℕ). tables_of bs level.place n) segment_size ∙ stands.tables)

  -- the bytes behind the tables
  pub data_stands : data_in (bytes_at (extent_of level) image) level ≡ part (data_place level) (data_bytes level.terms) image
  data_stands = part_behind (length (tables_bytes level.documents level.terms)) (data_bytes level.terms) level.place image

  pub segment_is : bytes_at (extent_of level) image ≡ tables_bytes level.documents level.terms ++ part (data_place level) (data_bytes level.terms) image
  segment_is =
      let front = tables_bytes level.documents level.terms in
      let tables = tables_stand in
      let behind : tables.behind ≡ part (data_place level) (data_bytes level.terms) image = sym (drop-append_seam front tables.behind) ∙ ap (drop (length front)) (sym tables.spelled) ∙ data_stands in
      tables.spelled ∙ ap (λ (l : List ℕ). front ++ l) behind

  -- what is a content's behind the tables is its segment on the image
  pub segment_on : (tail : List ℕ) (content : Content) → tail ≡ part (data_place level) (data_bytes level.terms) image → IsSegment (tables_bytes level.documents level.terms ++ tail) content
      → IsSegmentOn image level content
  segment_on tail content read is =
      subst (λ (b : List ℕ). IsSegment b content) (ap (λ (d : List ℕ). tables_bytes level.documents level.terms ++ d) read ∙ sym segment_is) is

  -- the first fault of the lists is the first damage
  pub damage_on : (tail : List ℕ) (p : ℕ) → tail ≡ part (data_place level) (data_bytes level.terms) image → IsFaultInLists level.documents level.terms tail (data_place level) p → IsDamageOn image level p
  damage_on tail p read fault =
      in_lists level p tables_stand (subst (λ (d : List ℕ). IsFaultInLists level.documents level.terms d (data_place level) p) (read ∙ sym data_stands) fault)

-- ---- a fault of lists is one among those of the level

pub same_stored : (row : TermRow) (bytes : List ℕ) (n at : ℕ) → data_of row ≤ n → stored_at row (take n bytes) at ≡ stored_at row bytes at
same_stored row bytes n at le =
    let f : List ℕ → List ℕ → Stored = λ s t. record { stream = s; stream_place = at; summary = t; summary_place = at + row.stream; term = row.term; count = row.count } in
    let size : n ≡ row.stream + (n - row.stream) = omega (arith, le) in
    let first : take row.stream (take n bytes) ≡ take row.stream bytes = take-take row.stream n bytes (omega (arith, le)) in
    let behind : drop row.stream (take n bytes) ≡ take (n - row.stream) (drop row.stream bytes) = ap (λ (k : ℕ). drop row.stream (take k bytes)) size ∙ drop-take row.stream (n - row.stream) bytes in
    let second : take row.summary (drop row.stream (take n bytes)) ≡ take row.summary (drop row.stream bytes) =
    ap (take row.summary) behind ∙ take-take row.summary (n - row.stream) (drop row.stream bytes) (omega (arith, le)) in
    ap (λ (s : List ℕ). f s (take row.summary (drop row.stream (take n bytes)))) first ∙ ap (λ (t : List ℕ). f (take row.stream bytes) t) second

among : (documents : List DocRow) (rows : List TermRow) (n at p : ℕ) (image : List ℕ) → data_bytes rows ≤ n → IsFaultInLists documents rows (part at n image) at p → IsFaultAmong documents rows at image p
unfolding IsFaultInLists
among documents [] n at p image le fault = fault
among documents (row ∷ rows) n at p image le (inl fault) =
    inl (subst (λ (s : Stored). IsListFault documents s p) (same_stored row (drop at image) n at (omega (arith, le, sum_by-cons data_of row rows))) fault)
among documents (row ∷ rows) n at p image le (inr (whole, fault)) =
    let size : n ≡ data_of row + (n - data_of row) = omega (arith, le, sum_by-cons data_of row rows) in
    let behind : drop (data_of row) (part at n image) ≡ part (at + data_of row) (n - data_of row) image =
    ap (λ (k : ℕ). drop (data_of row) (part at k image)) size ∙ part_behind (data_of row) (n - data_of row) at image in
    inr (among documents rows (n - data_of row) (at + data_of row) p image (omega (arith, le, sum_by-cons data_of row rows))
    (subst (λ (b : List ℕ). IsFaultInLists documents rows b (at + data_of row) p) behind fault))

pub broken_in : (level : Tables) (image tail : List ℕ) (p : ℕ) → tail ≡ part (data_place level) (data_bytes level.terms) image → IsFaultInLists level.documents level.terms tail (data_place level) p
    → IsBrokenIn level image p
broken_in level image tail p read fault =
    among level.documents level.terms (data_bytes level.terms) (data_place level) p image (omega arith) (subst (λ (d : List ℕ). IsFaultInLists level.documents level.terms d (data_place level) p) read fault)

-- ---- what a call that reads the bytes behind the tables tells of the level

module _ (level : Tables) (image : List ℕ) (are : AreBytes image) (stands : StandsOn image level) (tail : List ℕ) (read : tail ≡ part (data_place level) (data_bytes level.terms) image)
    (result : Result Content LoadFault) (found : IfOk result (λ content. IsSegment (tables_bytes level.documents level.terms ++ tail) content))
    (first : IfDamaged result (IsFaultInLists level.documents level.terms tail (data_place level))) where
  pub tells_one : ((c d : Content) → IsSegmentOn image level c → IsSegmentOn image level d → c ≡ d) → ((c : Content) (p : ℕ) → IsSegmentOn image level c → IsDamageOn image level p → ⊥)
      → ((p q : ℕ) → IsDamageOn image level p → IsDamageOn image level q → p ≡ q) → TellsOne {X = Content} (λ x. x) image level result
  tells_one once apart alone =
      let segment = ok_goes result (λ c. IsSegment (tables_bytes level.documents level.terms ++ tail) c) (IsSegmentOn image level) (λ c is. segment_on level image are stands tail c read is) found in
      let damage = damaged_goes result (IsFaultInLists level.documents level.terms tail (data_place level)) (IsDamageOn image level) (λ p fault. damage_on level image are stands tail p read fault) first in
      record {
        segment = segment;
        only = λ c is. only_of {X = Content} (λ x. x) (IsSegmentOn image level) (IsDamageOn image level) result segment damage once apart c is;
        first = damage;
        damaged = λ p d. damaged_of {X = Content} (λ x. x) (IsSegmentOn image level) (IsDamageOn image level) result segment damage alone apart p d;
      }

  pub tells_broken : IfDamaged result (IsBrokenIn level image)
  tells_broken = damaged_goes result (IsFaultInLists level.documents level.terms tail (data_place level)) (IsBrokenIn level image) (λ p fault. broken_in level image tail p read fault) first

-- the same of a disk
module _ (tells : Type 0) (a : DiskState) (lawful : IsLawful tells a) (level : Tables) (stands : tells → StandsOn a.content level) (extent : Extent) (place : extent.place ≡ data_place level)
    (size : extent.bytes ≡ data_bytes level.terms) (below : extent.place + extent.bytes < 2 ^ 64) (bytes : List ℕ) (read : tells → bytes ≡ bytes_at extent a.content)
    (result : Result Content LoadFault) (found : IfOk result (λ content. IsSegment (tables_bytes level.documents level.terms ++ bytes) content))
    (first : IfDamaged result (IsFaultInLists level.documents level.terms bytes (data_place level))) where
  told_bytes : tells → AreBytes a.content
  told_bytes told = lawful.bytes a.clock a.content (lawful.counts_now a.clock a.content (omega arith) (lawful.present told))

  told_read : tells → bytes ≡ part (data_place level) (data_bytes level.terms) a.content
  told_read told = read told ∙ ap₂ (λ (p n : ℕ). part p n a.content) place size

  pub call_tells : ((b : List ℕ) → (c d : Content) → AreBytes b → length b < 2 ^ 64 → IsSegment b c → IsSegment b d → c ≡ d)
      → ((b : List ℕ) → (p q : ℕ) → (c : Content) → AreBytes b → length b < 2 ^ 64 → IsSegment b c → IsSegmentFault b p q → ⊥)
      → ((b : List ℕ) → (p q r : ℕ) → AreBytes b → length b < 2 ^ 64 → IsSegmentFault b p q → IsSegmentFault b p r → q ≡ r) → tells → TellsOne {X = Content} (λ x. x) a.content level result
  call_tells once apart alone told =
      let are = told_bytes told in
      let b = bytes_at (extent_of level) a.content in
      let fit = segment_bytes level a.content are (stands told) in
      let small : length b < 2 ^ 64 = omega (arith, segment_size level a.content are (stands told), below, place, size) in
      tells_one level a.content are (stands told) bytes (told_read told) result found first (λ x y. once b x y fit small) (λ x p. apart b level.place p x fit small) (λ p q. alone b level.place p q fit small)

  pub call_broken : tells → IfDamaged result (IsBrokenIn level a.content)
  call_broken told = tells_broken level a.content (told_bytes told) (stands told) bytes (told_read told) result found first
