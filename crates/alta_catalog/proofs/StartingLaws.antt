-- A catalog of what opening found stands at each state of which its root may speak.
use Rattle.std.proofs.Common.{◌≡◌, ℕ, ◌+◌, ◌-◌, ◌*◌, ◌<◌, ◌≤◌, true, IsTrue, List, [], length, map, sym, ◌∙◌, ap, subst, arith}
use Rattle.std.specs.Prelude.{Contains, not}
use Rattle.std.specs.List.{All, sum_by}
use Rattle.alta_codec.specs.Rising.{IsRising}
use Rattle.alta_content.specs.Rows.{AreDocuments, end_of, live_rows, start, ends_among}
use Rattle.alta_content.specs.declared.document.DocRow.{DocRow}
use Rattle.alta_meaning.specs.Known.{named_of}
use Rattle.alta_meaning.specs.Opened.{have_ends, live_in, table_rows}
use Rattle.alta_meaning.specs.Ordered.{AreBelow, AreOrdered}
use Rattle.alta_memlevel.specs.Added.{Added, HasContent, IsSpace, live_of}
use Rattle.alta_machine.specs.declared.document.Document.{Document}
use Rattle.alta_machine.specs.declared.document.State.{State}
use Rattle.alta_root.specs.Root.{IsSound}
use Rattle.alta_root.specs.declared.root.Root.{Root}
use Rattle.alta_catalog.specs.Counting.{cells_in, row_words}
use Rattle.alta_catalog.specs.Knowing.{KnowsBy}
use Rattle.alta_meaning.specs.Names.{AreNames}
use Rattle.alta_catalog.specs.Rows.{MayStart, documents_left}
use Rattle.alta_catalog.specs.declared.catalog.Catalog.{Catalog}
use Rattle.alta_catalog.proofs.SettledLaws.{IsSettled, settled_knows}
use Rattle.alta_catalog.proofs.StartLaws.{all_rows, cells_fit, ends_there, filled_of, lies_behind, live_long, live_named, live_words, space_of}
use Rattle.alta_catalog.proofs.NotingLaws.{number_named}
use Rattle.alta_names.proofs.Fitting.{same_numbers}
use Rattle.alta_meaning.proofs.KnownLaws.{IsWithin}
use Rattle.std.proofs.lemmas.List.Elements.{All-filter, All-map}
use Rattle.alta_memlevel.specs.Documents.{document_in}

-- the cells of the rows below a root are few
pub cells_below : (root : Root) (size : ℕ) → IsSound size root → (rows : List DocRow) → AreDocuments rows → AreBelow root rows → cells_in rows < 18446744073709551616
cells_below root size sound rows are below =
    let fits : 0 + cells_in rows < root.next_location = cells_fit start rows root.next_location are (λ k d inside. (below k d inside).1) (omega (arith, sound.location)) in
    omega (arith, fits, sound.location, sound.number)

module _ (c : Catalog) (root : Root) (size : ℕ) (sound : IsSound size root) (gone : List ℕ) (gone_is : c.gone ≡ gone) (rows : AreDocuments (table_rows c.levels.items)) (below : AreBelow root (table_rows c.levels.items))
    (rising : IsRising gone) (ends : have_ends c.levels.items gone ≡ true) (ordered : AreOrdered (live_in gone (table_rows c.levels.items))) (names : AreNames c.names (live_in gone (table_rows c.levels.items)))
    (next_is : c.next ≡ root.next_number) (location_is : c.location ≡ root.next_location) (first_is : c.first ≡ root.next_number)
    (count_is : c.count ≡ length (live_rows c.gone (table_rows c.levels.items))) (words_are : c.words ≡ sum_by row_words (live_rows c.gone (table_rows c.levels.items)))
    (usable : IsTrue c.memory.sound) (content : HasContent [] c.memory.content)
    (s : State) (may : MayStart s root gone c.levels.items) where
  abbrev olds : List Added
  olds = may.olds

  abbrev left : List Document
  left = documents_left gone olds

  space : IsSpace olds
  space = space_of (table_rows c.levels.items) rows olds may.rows

  live_is : live_in gone (table_rows c.levels.items) ≡ map named_of left
  live_is = ap (live_in gone) (sym may.rows.rows_are) ∙ live_named gone olds

  are_names : AreNames c.names (map named_of left)
  are_names = subst (AreNames c.names) live_is names

  all_below : All (λ (a : Added). (a.row.number < root.next_number) × (end_of a.row < root.next_location)) olds
  all_below =
      all_rows (λ (r : DocRow). (r.number < root.next_number) × (end_of r < root.next_location)) olds
      (subst (AreBelow root) (sym may.rows.rows_are) below)

  positive : All (λ (a : Added). 0 < a.row.number) olds
  positive = lies_behind start olds (subst AreDocuments (sym may.rows.rows_are) rows)

  within : All (IsWithin root.next_number) (map named_of left)
  within =
      All-map (IsWithin root.next_number) named_of left
      (All-map (λ (d : Document). IsWithin root.next_number (named_of d)) document_in (live_of gone olds)
      (All-filter (λ (a : Added). not (ends_among gone a.row)) (λ (a : Added). (1 ≤ a.row.number) × (a.row.number < root.next_number)) olds
      (λ k d inside. (omega (arith, positive k d inside), (all_below k d inside).0))))

  settled : IsSettled c olds (record { next = root.next_number; documents = left })
  settled = record {
    rows = may.rows;
    sound = usable;
    content = content;
    space = space;
    filled = filled_of (table_rows c.levels.items) rows olds may.rows;
    behind = λ k d inside. (omega (arith, (all_below k d inside).0, next_is), omega (arith, (all_below k d inside).1, location_is));
    rising = subst IsRising (sym gone_is) rising;
    ends = λ end has. ends_there c.levels.items olds may.rows.rows_are gone ends end (subst (λ (g : List ℕ). Contains g end) gone_is has);
    notes = record {
      next = next_is;
      documents = ap (λ (g : List ℕ). documents_left g olds) gone_is;
      names = same_numbers c.names _ _ (λ q. sym (number_named q left)) are_names;
      ordered = record { ordered = subst AreOrdered live_is ordered; within = within };
    };
    first = first_is ∙ sym next_is;
    from = (omega (arith, next_is, sound.number), omega (arith, location_is, sound.location));
    fits = (omega (arith, next_is, sound.number), subst (λ (n : ℕ). c.location ≤ 1 + (n - 1) * 262146) (sym next_is) (omega (arith, location_is, sound.location)));
    count =
        count_is ∙ ap (λ (g : List ℕ). length (live_rows g (table_rows c.levels.items))) gone_is
        ∙ ap (λ (rs : List DocRow). length (live_rows gone rs)) (sym may.rows.rows_are) ∙ live_long gone olds;
    words =
        words_are ∙ ap (λ (g : List ℕ). sum_by row_words (live_rows g (table_rows c.levels.items))) gone_is
        ∙ ap (λ (rs : List DocRow). sum_by row_words (live_rows gone rs)) (sym may.rows.rows_are) ∙ live_words gone olds may.rows.counted;
  }

  pub starts : KnowsBy c may.olds s
  starts = subst (KnowsBy c may.olds) (sym may.state_is) (settled_knows c olds (record { next = root.next_number; documents = left }) settled)
