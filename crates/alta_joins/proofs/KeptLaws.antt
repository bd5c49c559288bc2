-- Joins of the contents of levels and of the newest documents keep documents.
use Rattle.std.specs.Prelude.{IsUtf8}
use Rattle.std.proofs.Common.{◌≡◌, inl, ℕ, suc, ◌+◌, ◌-◌, ◌*◌, ◌<◌, ◌≤◌, List, [], ◌∷◌, ◌++◌, length, map, take, drop, refl, sym, subst, ap, ◌∙◌, arith, take-append-drop, Ok}
use Rattle.std.specs.List.{All, flat_map}
use Rattle.std.proofs.lemmas.Grind.{flat_map-append}
use Rattle.std.proofs.lemmas.List.{map-append}
use Rattle.std.proofs.lemmas.List.Elements.{All-nil, All-cons, All-head, All-tail, All-map, All-weaker}
use Rattle.alta_layout.specs.Places.{half_start}
use Rattle.alta_content.specs.Cells.{with_cells}
use Rattle.alta_content.specs.Joining.{joined_in}
use Rattle.alta_content.specs.Parts.{IsPart, MayJoin}
use Rattle.alta_content.specs.Rows.{end_of, live_rows}
use Rattle.alta_content.specs.declared.content.Content.{Content}
use Rattle.alta_content.specs.TermList.{TermList}
use Rattle.alta_content.specs.declared.document.DocRow.{DocRow}
use Rattle.alta_content.proofs.Documents.{states_kept}
use Rattle.alta_content.proofs.Folds.{join_of_join}
use Rattle.alta_content.proofs.Kept.{join_may_join}
use Rattle.alta_meaning.specs.Entries.{AllowsAll, after_entry}
use Rattle.alta_meaning.specs.Holding.{Holding, IsHeld, IsSpaced, IsWell}
use Rattle.alta_meaning.specs.Known.{Known, replayed}
use Rattle.alta_meaning.specs.Levels.{Level, document_of}
use Rattle.alta_meaning.specs.Opened.{Opened, IsNamed, bytes_at}
use Rattle.alta_meaning.specs.Ordered.{RowsPrecede}
use Rattle.alta_meaning.specs.Standing.{AreLevels, view_of}
use Rattle.alta_meaning.specs.Views.{View, rooted}
use Rattle.alta_meaning.specs.Work.{added_at, added_from, newest, level_rows}
use Rattle.alta_meaning.specs.Working.{AreJoins, JoinsKeep, all_contents, documents_in, oldest_contents}
use Rattle.alta_meaning.proofs.KeptStates.{added_behind, added_high, contents_of, rows_by_levels}
use Rattle.alta_meaning.proofs.KnownLaws.{all_both, all_weaker, allows_replayed}
use Rattle.alta_meaning.proofs.MergeLaws.{joins_are}
use Rattle.alta_meaning.proofs.OrderLaws.{rooted_known}
use Rattle.alta_meaning.proofs.SpacedLaws.{held_spaced}
use Rattle.alta_joins.proofs.SpaceLaws.{rise_front, rising_join}
use Rattle.alta_journal.specs.Entry.{KeepTexts, MayBeRecorded}
use Rattle.alta_journal.specs.Placed.{placed}
use Rattle.alta_journal.specs.declared.entry.Entry.{Entry}
use Rattle.alta_journal.specs.declared.entry.Entry.TheVariants.{Add, Delete, Replace}
use Rattle.alta_level.specs.Segments.{IsSegment}
use Rattle.alta_memlevel.specs.Added.{Added, HasContent, IsSpace, live_of}
use Rattle.alta_memlevel.specs.Documents.{AreAdded, AreMade, IsBefore, IsFrom, IsMade, content_of}
use Rattle.alta_memlevel.proofs.Behind.{may_join_behind}
use Rattle.alta_memlevel.proofs.Cells.{cells_few, cells_long}
use Rattle.alta_memlevel.proofs.Live.{live_joined}
use Rattle.alta_memlevel.proofs.One as one
use Rattle.alta_machine.specs.Cells.{cells_of}
use Rattle.alta_machine.specs.declared.document.Document.{Document}
use Rattle.alta_machine.specs.declared.document.State.{State}
use Rattle.alta_root.specs.Root.{IsSound}
use Rattle.alta_root.proofs.Frames.{counts_sound}

-- ---- joins keep documents

-- the document of a row with its cells
abbrev document_with : DocRow × List (List (List ℕ)) → Document
document_with (row, cells) = record { number = row.number; name = row.name; cells = cells }

map_rows : (lists : List TermList) (rows : List DocRow) → map document_with (map (with_cells lists) rows) ≡ map (document_of lists) rows
map_rows lists [] = refl
map_rows lists (row ∷ rows) = ap (λ (ds : List Document). document_of lists row ∷ ds) (map_rows lists rows)

map_contents : (deleted : List ℕ) (contents : List Content)
    → map document_with (flat_map (λ (c : Content). map (with_cells c.lists) (live_rows deleted c.documents)) contents) ≡ flat_map (documents_in deleted) contents
map_contents deleted [] = refl
map_contents deleted (c ∷ cs) =
    map-append document_with (map (with_cells c.lists) (live_rows deleted c.documents)) (flat_map (λ (c : Content). map (with_cells c.lists) (live_rows deleted c.documents)) cs)
    ∙ ap (λ (ds : List Document). ds ++ map document_with (flat_map (λ (c : Content). map (with_cells c.lists) (live_rows deleted c.documents)) cs)) (map_rows c.lists (live_rows deleted c.documents))
    ∙ ap (λ (ds : List Document). documents_in deleted c ++ ds) (map_contents deleted cs)

pub joins_keep : (contents : List Content) → MayJoin contents → JoinsKeep contents
joins_keep contents may = λ dead deleted all.
    let join = joined_in contents dead in
    sym (map_rows join.lists (live_rows deleted join.documents))
    ∙ ap (map document_with) (states_kept contents dead deleted may all)
    ∙ map_contents deleted contents

-- ---- joins of joins

module _ (contents : List Content) (added : List Added) (gone : List ℕ) (space : IsSpace added) (may : MayJoin (contents ++ content_of added ∷ [])) where
  pub live_may_join : MayJoin (contents ++ content_of (live_of gone added) ∷ [])
  live_may_join = subst (λ (c : Content). MayJoin (contents ++ c ∷ [])) (sym (live_joined added gone space)) (join_may_join contents (content_of added ∷ []) [] gone may)

  pub live_same : joined_in (contents ++ content_of (live_of gone added) ∷ []) gone ≡ joined_in (contents ++ content_of added ∷ []) gone
  live_same = ap (λ (c : Content). joined_in (contents ++ c ∷ []) gone) (live_joined added gone space) ∙ join_of_join contents (content_of added ∷ []) [] gone may

-- ---- the documents that entries add

few_cells : (name title body : List ℕ) → KeepTexts name title body → IsUtf8 title → IsUtf8 body → length (cells_of name title body) ≤ 262146
few_cells name title body keep text_title text_body = omega (arith, cells_few name title body text_title text_body, keep.4)

-- no more are added than numbers are left
added_room : (s : State) (location : ℕ) (entries : List Entry) → s.next ≤ 4294967296 → AllowsAll s entries → s.next + length (added_from s.next location entries) ≤ 4294967296
added_room s location [] le allowed = omega (arith, le)
added_room s location (Add name title body ∷ entries) le (allows, allowed) =
    omega (arith, added_room (after_entry s (Add name title body)) (location + length (cells_of name title body)) entries (omega (arith, allows.1)) allowed)
added_room s location (Delete n ∷ entries) le (allows, allowed) = added_room (after_entry s (Delete n)) location entries le allowed
added_room s location (Replace n name title body ∷ entries) le (allows, allowed) =
    omega (arith, added_room (after_entry s (Replace n name title body)) (location + length (cells_of name title body)) entries (omega (arith, allows.1)) allowed)

added_from_here : (number location : ℕ) (entries : List Entry) → All (IsFrom number location) (added_from number location entries)
added_from_here number location entries =
    all_both (λ (a : Added). number ≤ a.row.number) (λ (a : Added). location ≤ a.row.first) (added_from number location entries) (added_high number location entries) (added_behind number location entries)

-- a document in front of those behind it
space_more : (number location : ℕ) (entries : List Entry) (name title body : List ℕ) → KeepTexts name title body → IsUtf8 title → IsUtf8 body → 1 ≤ location → location ≤ 1 + (number - 1) * 262146
    → number + suc (length (added_from (number + 1) (location + length (cells_of name title body)) entries)) ≤ 4294967296 → IsSpace (added_from (number + 1) (location + length (cells_of name title body)) entries)
    → IsSpace (added_at number location name (cells_of name title body) ∷ added_from (number + 1) (location + length (cells_of name title body)) entries)
space_more number location entries name title body keep text_title text_body l r fits space =
    let cells = cells_of name title body in
    let few = few_cells name title body keep text_title text_body in
    let long = cells_long name title body in
    let later = added_from (number + 1) (location + length cells) entries in
    let behind = added_from_here (number + 1) (location + length cells) entries in (
      record { positive = l; some = omega (arith, long); counted = refl; below = omega (arith, few, long, r, fits) },
      All-weaker (IsFrom (number + 1) (location + length cells)) (λ (b : Added). number < b.row.number) (λ b h. omega (arith, h.0)) later behind,
      All-weaker (IsFrom (number + 1) (location + length cells)) (λ (b : Added). end_of (added_at number location name cells).row < b.row.first) (λ b h. omega (arith, h.1, long)) later behind,
      space,
    )

added_space : (version number location : ℕ) (entries : List Entry) → All (MayBeRecorded version) entries → 1 ≤ location → location ≤ 1 + (number - 1) * 262146 → 1 ≤ number
    → number + length (added_from number location entries) ≤ 4294967296 → IsSpace (added_from number location entries)
added_space version number location [] s l r p fits = tt
added_space version number location (Add name title body ∷ entries) s l r p fits =
    let own = All-head (MayBeRecorded version) (Add name title body) entries s in
    let few = few_cells name title body own.0 own.1.0 own.1.1 in
    space_more number location entries name title body own.0 own.1.0 own.1.1 l r fits
    (added_space version (number + 1) (location + length (cells_of name title body)) entries (All-tail (MayBeRecorded version) (Add name title body) entries s) (omega (arith, l)) (omega (arith, r, few, p)) (omega arith) (omega (arith, fits)))
added_space version number location (Delete n ∷ entries) s l r p fits = added_space version number location entries (All-tail (MayBeRecorded version) (Delete n) entries s) l r p fits
added_space version number location (Replace n name title body ∷ entries) s l r p fits =
    let own = All-head (MayBeRecorded version) (Replace n name title body) entries s in
    let few = few_cells name title body own.0 own.1.1 own.1.2 in
    space_more number location entries name title body own.0 own.1.1 own.1.2 l r fits
    (added_space version (number + 1) (location + length (cells_of name title body)) entries (All-tail (MayBeRecorded version) (Replace n name title body) entries s) (omega (arith, l)) (omega (arith, r, few, p)) (omega arith) (omega (arith, fits)))

made_more : (number location : ℕ) (name title body : List ℕ) → KeepTexts name title body → IsUtf8 title → IsUtf8 body → 1 ≤ number → number < 4294967296 → IsMade (added_at number location name (cells_of name title body))
made_more number location name title body keep text_title text_body p below = record {
  title = title;
  body = body;
  named = keep.0;
  made = refl;
  few = few_cells name title body keep text_title text_body;
  numbered = p;
  number_below = omega (arith, below);
}

added_made : (version number location : ℕ) (entries : List Entry) → All (MayBeRecorded version) entries → 1 ≤ number → number + length (added_from number location entries) ≤ 4294967296 → AreMade (added_from number location entries)
added_made version number location [] s p fits = All-nil IsMade
added_made version number location (Add name title body ∷ entries) s p fits =
    let cells = cells_of name title body in
    let own = All-head (MayBeRecorded version) (Add name title body) entries s in
    All-cons IsMade (added_at number location name cells) (added_from (number + 1) (location + length cells) entries)
    (made_more number location name title body own.0 own.1.0 own.1.1 p (omega (arith, fits)))
    (added_made version (number + 1) (location + length cells) entries (All-tail (MayBeRecorded version) (Add name title body) entries s) (omega arith) (omega (arith, fits)))
added_made version number location (Delete n ∷ entries) s p fits = added_made version number location entries (All-tail (MayBeRecorded version) (Delete n) entries s) p fits
added_made version number location (Replace n name title body ∷ entries) s p fits =
    let cells = cells_of name title body in
    let own = All-head (MayBeRecorded version) (Replace n name title body) entries s in
    All-cons IsMade (added_at number location name cells) (added_from (number + 1) (location + length cells) entries)
    (made_more number location name title body own.0 own.1.1 own.1.2 p (omega (arith, fits)))
    (added_made version (number + 1) (location + length cells) entries (All-tail (MayBeRecorded version) (Replace n name title body) entries s) (omega arith) (omega (arith, fits)))

-- the documents that the entries of an image add stand behind its levels
module _ (o : Opened) (levels : List Level) (image : List ℕ) (sound : IsSound (length image) o.root) (named : IsNamed o image) (are : AreLevels o levels image) where
  opened_room : o.root.next_number + length (newest (view_of o levels)) ≤ 4294967296
  opened_room =
      let known = rooted_known o levels are.tables in
      added_room (rooted (view_of o levels)) o.root.next_location o.entries (omega (arith, sound.number.1))
      (allows_replayed (rooted (view_of o levels)) (half_start o.slot) o.entries named.known (subst (λ (k : Known). replayed k (placed (half_start o.slot) o.entries) ≡ Ok named.known) known named.admitted)).0

  pub opened_added : AreAdded o.root.next_number o.root.next_location (newest (view_of o levels))
  opened_added = record {
    space = added_space o.root.version o.root.next_number o.root.next_location o.entries named.journal.begins.sound sound.location.0 sound.location.1 sound.number.0 opened_room;
    made = added_made o.root.version o.root.next_number o.root.next_location o.entries named.journal.begins.sound sound.number.0 opened_room;
    behind = added_from_here o.root.next_number o.root.next_location o.entries;
  }

-- ---- what is held

parts_of_levels : (levels : List Level) (image : List ℕ) → All (λ (l : Level). IsSegment (bytes_at l.extent image) l.content) levels → All IsPart (contents_of levels)
parts_of_levels levels image all =
    All-map IsPart (λ (l : Level). l.content) levels (all_weaker (λ (l : Level). IsSegment (bytes_at l.extent image) l.content) (λ (l : Level). IsPart l.content) levels (λ l is. inl is.stands) all)

module _ (held : Holding) (image : List ℕ) (is : IsHeld held image) where
  held_sound : IsSound (length image) is.opened.root
  held_sound = counts_sound is.opened.slot is.opened.root image is.is.counts

  pub held_added : AreAdded held.view.next held.view.location (newest held.view)
  held_added =
      subst (λ (v : View). AreAdded v.next v.location (newest v)) (sym is.view_is) (opened_added is.opened held.view.levels image held_sound is.is.named is.are)

  pub held_is_spaced : IsSpaced held.view
  held_is_spaced = held_spaced held image is held_added.space

  -- all levels may be joined
  held_levels : MayJoin (contents_of held.view.levels)
  held_levels =
      rising_join (contents_of held.view.levels) (parts_of_levels held.view.levels image is.are.segments)
      (subst RowsPrecede (sym (rows_by_levels held.view.levels)) (rise_front (level_rows held.view.levels) (map (λ (a : Added). a.row) (newest held.view)) held_is_spaced.rise))

  -- and so may the newest documents behind them
  pub all_join : MayJoin (all_contents held.view)
  all_join =
      let view = held.view in
      let number : 1 ≤ view.next = subst (λ (v : View). 1 ≤ v.next) (sym is.view_is) held_sound.number.0 in
      let location : 1 ≤ view.location = subst (λ (v : View). 1 ≤ v.location) (sym is.view_is) held_sound.location.0 in
      let has : HasContent (newest view) (content_of (newest view)) = one.content_has (newest view) held_added.space in
      may_join_behind view.next view.location (contents_of view.levels) (newest view) (content_of (newest view)) number location held_levels
      (subst (All (IsBefore view.next view.location)) (sym (rows_by_levels view.levels)) held_is_spaced.below) held_added has

  -- and the two oldest
  pub oldest_join : MayJoin (oldest_contents held.view)
  oldest_join =
      let oldest = take 2 held.view.levels in
      let others = drop 2 held.view.levels in
      let split : level_rows held.view.levels ≡ level_rows oldest ++ level_rows others =
      ap level_rows (sym (take-append-drop 2 held.view.levels)) ∙ flat_map-append (λ (l : Level). l.content.documents) oldest others in
      let whole : RowsPrecede (level_rows held.view.levels) = rise_front (level_rows held.view.levels) (map (λ (a : Added). a.row) (newest held.view)) held_is_spaced.rise in
      rising_join (contents_of oldest) (parts_of_oldest is.are.segments)
      (subst RowsPrecede (sym (rows_by_levels oldest)) (rise_front (level_rows oldest) (level_rows others) (subst RowsPrecede split whole)))
    where
      parts_of_oldest : All (λ (l : Level). IsSegment (bytes_at l.extent image) l.content) held.view.levels → All IsPart (contents_of (take 2 held.view.levels))
      parts_of_oldest all = parts_of_levels (take 2 held.view.levels) image (all_take 2 held.view.levels all)
        where
          all_take : (n : ℕ) (ls : List Level) → All (λ (l : Level). IsSegment (bytes_at l.extent image) l.content) ls → All (λ (l : Level). IsSegment (bytes_at l.extent image) l.content) (take n ls)
          all_take n ls all = all_front (take n ls) (drop n ls) (subst (All (λ (l : Level). IsSegment (bytes_at l.extent image) l.content)) (sym (take-append-drop n ls)) all)
            where
              all_front : (xs ys : List Level) → All (λ (l : Level). IsSegment (bytes_at l.extent image) l.content) (xs ++ ys) → All (λ (l : Level). IsSegment (bytes_at l.extent image) l.content) xs
              all_front [] ys all = All-nil (λ (l : Level). IsSegment (bytes_at l.extent image) l.content)
              all_front (x ∷ xs) ys all =
                  All-cons (λ (l : Level). IsSegment (bytes_at l.extent image) l.content) x xs (All-head (λ (l : Level). IsSegment (bytes_at l.extent image) l.content) x (xs ++ ys) all)
                  (all_front xs ys (All-tail (λ (l : Level). IsSegment (bytes_at l.extent image) l.content) x (xs ++ ys) all))

  -- what a task may put in place of levels are joins of them
  pub held_joins : IsWell held → AreJoins held
  held_joins well = joins_are held held_is_spaced well (joins_keep (oldest_contents held.view) oldest_join) (joins_keep (all_contents held.view) all_join)
