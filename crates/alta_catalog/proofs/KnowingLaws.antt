-- What a catalog keeps, as documents come and go.
use Rattle.std.proofs.Common.{◌≡◌, ◌⊎◌, ⊎_elim, ℕ, ◌+◌, ◌-◌, ◌<◌, ◌≤◌, true, false, IsTrue, Global, List, [], ◌∷◌, ◌++◌, length, get_or, map, append_assoc, not, refl, sym, ◌∙◌, ap, subst, arith, length-append}
use Rattle.std.specs.Prelude.{◌==◌, ◌↔◌, Contains, IsUtf8, IfSome, IfNone, Option, Some, None, Vec, is_some}
use Rattle.std.specs.List.{All, filter, sum_by}
use Rattle.std.specs.Map.{update}
use Rattle.std.specs.Str.{bytes_eq}
use Rattle.std.proofs.lemmas.Bool.{false≢true}
use Rattle.std.proofs.lemmas.List.{map-append}
use Rattle.std.proofs.lemmas.List.Elements.{All-push, All-map, All-contains, Contains-append_left, Contains-get_or}
use Rattle.std.proofs.lemmas.List.Folds.{flat_map-map}
use Rattle.std.proofs.lemmas.List.Sums.{sum_by_push}
use Rattle.alta_codec.specs.Name.{IsName}
use Rattle.alta_codec.specs.Rising.{IsRising}
use Rattle.alta_codec.specs.declared.location.TheConstants.{TOP}
use Rattle.alta_content.specs.Rows.{end_of, ends_among}
use Rattle.alta_content.specs.declared.document.DocRow.{DocRow}
use Rattle.alta_memlevel.specs.Added.{Added, HasContent, IsInSpace, IsSpace, LevelView}
use Rattle.alta_memlevel.specs.Documents.{IsBefore, IsMade, document_in}
use Rattle.alta_machine.specs.Cells.{cells_of}
use Rattle.alta_machine.specs.declared.document.Document.{Document}
use Rattle.alta_machine.specs.declared.document.State.{State}
use Rattle.alta_catalog.specs.Knowing.{AreFound, AreNumbered, AreParts, Knows, KnowsBy, Notes, documents_of, numbers_in}
use Rattle.alta_names.specs.Names.{Fits, Numbers, likely_of}
use Rattle.alta_catalog.specs.Rows.{AreRowsOf, documents_left}
use Rattle.alta_catalog.specs.Finding.{AreOther, FollowOn}
use Rattle.alta_meaning.specs.Opened.{table_rows}
use Rattle.alta_content.specs.All.{rows_of_levels, shared_rows}
use Rattle.alta_content.specs.declared.level.LevelRows.{LevelRows}
use Rattle.std.specs.declared.rc.Rc.{Rc}
use Rattle.alta_meaning.specs.Ordered.{RowsPrecede, IsOrdered}
use Rattle.alta_catalog.proofs.SharingLaws.{space_ends, space_precedes}
use Rattle.alta_catalog.proofs.StartLaws.{row_of}
use Rattle.alta_table.specs.Tables.{Tables}
use Rattle.alta_catalog.proofs.SpaceLaws.{left_append, ordered_long, space_push, words_fit}
use Rattle.alta_machine.specs.Changes.{has_name, has_number, has_number_in, number_of, with_added, with_deleted, without, word_count, words_in}
use Rattle.alta_catalog.specs.declared.catalog.Catalog.{Catalog}
use Rattle.alta_meaning.proofs.Tests.{by_test, equal_from}
use Rattle.alta_catalog.proofs.EndLaws.{IsSame, all_same, among, among_more, has_number_of, here_or_there, is_left, left_more, left_out, no_member, none_with, not_among, there, numbered_more, one_fewer, one_less, space_all}
use Rattle.alta_catalog.proofs.NotingLaws.{deleted_is, found_in, is_named, is_numbered, names_there, notes_deleted, notes_more, only_name}
use Rattle.alta_content.proofs.Elements.{all_right}
use Rattle.alta_meaning.specs.Known.{known_of}
use Rattle.alta_meaning.proofs.KnownLaws.{ordered_allowed}
use Rattle.alta_journal.specs.declared.entry.Entry.TheVariants.{Add}
use Rattle.alta_journal.specs.declared.places.TheConstants.{TEXTS_BYTES}
use Rattle.alta_memlevel.proofs.Cells.{cells_few, cells_long}

-- the rows of the levels and of the level in memory are those of the documents
pub rows_of_all : (c : Catalog) (s : State) (f : Knows c s) → map row_of (f.olds ++ f.added) ≡ table_rows c.levels.items ++ c.memory.content.documents
rows_of_all c s f =
    map-append row_of f.olds f.added ∙ ap (λ (rs : List DocRow). rs ++ map row_of f.added) f.rows.rows_are
    ∙ ap (λ (rs : List DocRow). table_rows c.levels.items ++ rs) (sym f.content.documents)

-- the shared rows of the levels, and more behind them, are all rows
pub shared_behind : (c : Catalog) (rows more : List (Rc LevelRows Global)) → map shared_rows rows ≡ map documents_of c.levels.items → rows_of_levels (map shared_rows more) ≡ c.memory.content.documents
    → rows_of_levels (map shared_rows rows) ++ rows_of_levels (map shared_rows more) ≡ table_rows c.levels.items ++ c.memory.content.documents
shared_behind c rows more shared newest =
    ap (λ (rs : List DocRow). rs ++ rows_of_levels (map shared_rows more)) (ap rows_of_levels shared ∙ flat_map-map (λ (rs : List DocRow). rs) documents_of c.levels.items)
    ∙ ap (λ (rs : List DocRow). table_rows c.levels.items ++ rs) newest

-- and rise, and so do their ends
pub all_rise : (c : Catalog) (s : State) (f : Knows c s) → IsRising (map end_of (table_rows c.levels.items ++ c.memory.content.documents))
all_rise c s f = subst (λ (rs : List DocRow). IsRising (map end_of rs)) (rows_of_all c s f) (space_ends (f.olds ++ f.added) f.space)

pub all_precede : (c : Catalog) (s : State) (f : Knows c s) → RowsPrecede (table_rows c.levels.items ++ c.memory.content.documents)
all_precede c s f = subst RowsPrecede (rows_of_all c s f) (space_precedes (f.olds ++ f.added) f.space)

-- what the levels and the level in memory have
pub parts_are : (c : Catalog) (s : State) (f : Knows c s) → AreParts c.levels.items c.gone c.memory f.olds s
parts_are c s f = record {
  rows = f.rows;
  newest = documents_left c.gone f.added;
  has = record { added = f.added; sound = f.sound; content = f.content; made = f.made; rising = f.rising; live = refl };
  split = sym f.notes.documents ∙ left_append c.gone f.olds f.added;
}

-- each document is found by its name
found_by : (known : Numbers) (ds : List Document) (d : Document) → AreFound known ds → Contains ds d → known d.name ≡ Some d.number
found_by known [] d found has = absurd (no_member d has)
found_by known (e ∷ ds) d found has =
    ⊎_elim (λ (same : e ≡ d). subst (λ (x : Document). known x.name ≡ Some x.number) same found.0)
    (λ behind. found_by known ds d found.1 behind)
    (here_or_there e ds d has)

-- ---- a document more
-- how many cells a document has that an entry holds
pub few_cells : (name title body : List ℕ) → IsUtf8 title → IsUtf8 body → length title + length body ≤ TEXTS_BYTES → (3 ≤ length (cells_of name title body)) × (length (cells_of name title body) ≤ 262140)
few_cells name title body text_title text_body short = (
  omega (arith, cells_long name title body),
  omega (arith, cells_few name title body text_title text_body, short),
)

-- ---- rows of documents
pub row_among : (xs : List Added) (b : Added) → Contains xs b → Contains (map (λ (a : Added). a.row) xs) b.row
row_among [] b has = absurd (no_member b has)
row_among (x ∷ xs) b has =
    ⊎_elim (λ (same : x ≡ b). (0, omega arith, ap (λ (a : Added). a.row) same))
    (λ more. there x.row (map (λ (a : Added). a.row) xs) b.row (row_among xs b more))
    (here_or_there x xs b has)

pub document_among : (xs : List Added) (row : DocRow) → Contains (map (λ (a : Added). a.row) xs) row → (a : Added) × Contains xs a × (a.row ≡ row)
document_among [] row has = absurd (no_member row has)
document_among (x ∷ xs) row has =
    ⊎_elim (λ (same : x.row ≡ row). (x, (0, omega arith, refl), same))
    (λ more. let (a, member, is) = document_among xs row more in (a, there x xs a member, is))
    (here_or_there x.row (map (λ (a : Added). a.row) xs) row has)

rows_follow : (n : ℕ) (xs : List Added) → AreNumbered n xs → FollowOn n (map (λ (a : Added). a.row) xs)
rows_follow n [] numbered = tt
rows_follow n (x ∷ xs) numbered = (numbered.0, rows_follow (n + 1) xs numbered.1)

module _ (c : Catalog) (s : State) (f : Knows c s) where
  -- the documents of the levels, and behind them those that were added
  abbrev all : List Added
  all = f.olds ++ f.added

  abbrev behind : All (λ (a : Added). IsBefore c.next c.location a.row) f.added
  behind = all_right (λ (a : Added). IsBefore c.next c.location a.row) f.olds f.added f.behind

  -- numbers and ends of the rows lie before those of the next document
  pub numbers_before : All (λ (r : DocRow). r.number < c.next) c.memory.content.documents
  numbers_before =
      subst (All (λ (r : DocRow). r.number < c.next)) (sym f.content.documents)
      (All-map (λ (r : DocRow). r.number < c.next) (λ (a : Added). a.row) f.added (λ k d inside. (behind k d inside).0))

  pub ends_before : All (λ (r : DocRow). end_of r < c.location) c.memory.content.documents
  ends_before =
      subst (All (λ (r : DocRow). end_of r < c.location)) (sym f.content.documents)
      (All-map (λ (r : DocRow). end_of r < c.location) (λ (a : Added). a.row) f.added (λ k d inside. (behind k d inside).1))

  positive : 1 ≤ s.next
  positive = omega (arith, f.notes.next, f.next, f.from.0)

  -- what is counted fits
  pub bounded : (c.count ≤ c.next) × (c.words ≤ c.location)
  bounded = (
    omega (arith, f.count, f.notes.next, ordered_long 1 s.documents s.next f.notes.ordered.ordered f.notes.ordered.within positive),
    omega (
      arith,
      f.words,
      f.from.1,
      subst (λ (ds : List Document). 0 + sum_by word_count ds ≤ c.location) f.notes.documents
          (words_fit c.gone 0 c.location all f.space (λ k d inside. omega arith) (λ k d inside. (f.behind k d inside).1) (omega arith)),
    ),
  )

  module _ (new : Catalog) (name title body : List ℕ) (named : IsName name) (text_title : IsUtf8 title) (text_body : IsUtf8 body) (short : length title + length body ≤ TEXTS_BYTES)
      (free : has_name name s ≡ false) (left : s.next < 4294967296)
      (cells : List (List (List ℕ))) (cells_are : cells ≡ cells_of name title body)
      (row : DocRow) (row_is : row ≡ record { number = c.next; first = c.location; cells = length cells; name = name }) where
    long : (3 ≤ length cells) × (length cells ≤ 262140)
    long = let few = few_cells name title body text_title text_body short in (omega (arith, few.0, ap (λ (l : List (List (List ℕ))). length l) cells_are), omega (arith, few.1, ap (λ (l : List (List (List ℕ))). length l) cells_are))

    abbrev a : Added
    a = record { row = row; cells = cells }

    row_end : end_of row ≡ c.location + length cells - 1
    row_end = ap end_of row_is

    number_is_next : row.number ≡ c.next
    number_is_next = ap (λ (r : DocRow). r.number) row_is

    first_is : row.first ≡ c.location
    first_is = ap (λ (r : DocRow). r.first) row_is

    cells_count : row.cells ≡ length cells
    cells_count = ap (λ (r : DocRow). r.cells) row_is

    pub made_added : IsMade (record { row = row; cells = cells })
    made_added = record {
      title = title;
      body = body;
      named = subst IsName (sym (ap (λ (r : DocRow). r.name) row_is)) named;
      made = cells_are ∙ ap (λ (n : List ℕ). cells_of n title body) (sym (ap (λ (r : DocRow). r.name) row_is));
      few = omega (arith, long.1);
      numbered = omega (arith, number_is_next, f.next, f.from.0);
      number_below = omega (arith, number_is_next, left, f.notes.next);
    }

    document : IsInSpace a
    document = record {
      positive = omega (arith, first_is, f.from.1);
      some = omega (arith, cells_count, long.0);
      counted = cells_count;
      below = omega (arith, row_end, long.1, f.fits.1, left, f.notes.next);
    }

    -- each gone end lies before the next location
    before : (end : ℕ) → Contains c.gone end → end < c.location
    before end has =
        let (b, member, is) = f.ends end has in
        omega (arith, is, (All-contains (λ (d : Added). IsBefore c.next c.location d.row) all b f.behind member).1)

    alive : ends_among c.gone row ≡ false
    alive = not_among c.gone (end_of row) (λ has. absurd (omega (arith, before (end_of row) has, row_end, long.0)))

    document_is : document_in a ≡ record { number = c.next; name = name; cells = cells_of name title body }
    document_is = ap (λ (r : DocRow). record { number = r.number; name = r.name; cells = cells }) row_is ∙ ap (λ (l : List (List (List ℕ))). record { number = c.next; name = name; cells = l }) cells_are

    ordered_then : IsOrdered (known_of (with_added name title body s))
    ordered_then = ordered_allowed s (Add name title body) f.notes.ordered positive (free, left)

    abbrev more : List Added
    more = all ++ a ∷ []

    same : more ≡ f.olds ++ (f.added ++ a ∷ [])
    same = append_assoc f.olds f.added (a ∷ [])

    pub knows_added : IsTrue new.memory.sound
        → ((added : List Added) → HasContent added c.memory.content → HasContent (added ++ record { row = row; cells = cells } ∷ []) new.memory.content)
        → Fits new.names (update bytes_eq (numbers_in s) name (Some c.next))
        → new.levels ≡ c.levels → new.gone ≡ c.gone → new.first ≡ c.first → new.next ≡ c.next + 1 → new.location ≡ c.location + length cells → new.count ≡ c.count + 1 → new.words ≡ c.words + (length cells - 3)
        → KnowsBy new f.olds (with_added name title body s)
    knows_added sound content noted levels gone first next location count words = (
      record {
        olds = f.olds;
        added = f.added ++ a ∷ [];
        rows = subst (λ (ls : List Tables). AreRowsOf (table_rows ls) f.olds) (sym (ap (λ (v : Vec Tables Global). v.items) levels)) f.rows;
        sound = sound;
        content = content f.added f.content;
        made = All-push IsMade f.added a f.made made_added;
        space = subst IsSpace same (space_push all a f.space document
            (λ k d inside. omega (arith, (f.behind k d inside).0, number_is_next)) (λ k d inside. omega (arith, (f.behind k d inside).1, first_is)));
        filled = subst (All (λ (b : Added). 3 ≤ b.row.cells)) same (All-push (λ (b : Added). 3 ≤ b.row.cells) all a f.filled (omega (arith, cells_count, long.0)));
        behind = subst (All (λ (b : Added). IsBefore new.next new.location b.row)) same (All-push (λ (b : Added). IsBefore new.next new.location b.row) all a
            (λ k d inside. (omega (arith, (f.behind k d inside).0, next), omega (arith, (f.behind k d inside).1, location)))
            (omega (arith, number_is_next, next), omega (arith, row_end, location, long.0)));
        rising = subst IsRising (sym gone) f.rising;
        ends = λ end has.
            let (b, member, is) = f.ends end (subst (λ (g : List ℕ). Contains g end) gone has) in
            (b, subst (λ (xs : List Added). Contains xs b) same (Contains-append_left all (a ∷ []) b member), is);
        notes = subst (λ (n : ℕ). Notes n new.names (documents_left new.gone (f.olds ++ (f.added ++ a ∷ []))) (with_added name title body s)) (sym next)
            (notes_more c.next c.names (documents_left c.gone all) s f.notes new.names name title body free noted (document_in a) document_is ordered_then
            (documents_left new.gone (f.olds ++ (f.added ++ a ∷ [])))
            (ap (λ (g : List ℕ). documents_left g (f.olds ++ (f.added ++ a ∷ []))) gone ∙ ap (documents_left c.gone) (sym same) ∙ left_more c.gone all a alive));
        numbered = subst (λ (n : ℕ). AreNumbered n (f.added ++ a ∷ [])) (sym first) (numbered_more c.first f.added a (number_is_next ∙ f.next) f.numbered);
        next = omega (arith, next, first, f.next, length-append f.added (a ∷ []));
        from = (omega (arith, first, f.from.0), omega (arith, location, f.from.1));
        fits = (omega (arith, next, left, f.notes.next), omega (arith, next, location, f.fits.1, long.1, f.next, f.from.0));
        count = omega (arith, count, f.count, length-append s.documents (record { number = s.next; name = name; cells = cells_of name title body } ∷ []));
        words = words ∙ words_more;
      },
      refl,
    )
      where
        words_more : c.words + (length cells - 3) ≡ sum_by word_count (s.documents ++ record { number = s.next; name = name; cells = cells_of name title body } ∷ [])
        words_more = omega (arith, f.words, ap (λ (l : List (List (List ℕ))). length l) cells_are, sum_by_push word_count s.documents (record { number = s.next; name = name; cells = cells_of name title body }))

  -- ---- a document less
  -- a number that no row has, or whose row's end is deleted, is that of no document
  pub not_there : (number : ℕ) → ((b : Added) → Contains all b → (b.row.number == number) ≡ true → ends_among c.gone b.row ≡ true) → has_number number s ≡ false
  not_there number dead =
      subst (λ (ds : List Document). has_number_in number ds ≡ false) f.notes.documents
      (none_with number c.gone all (all_of all (λ b has. dead b has)))
    where
      all_of : (bs : List Added) → ((b : Added) → Contains bs b → (b.row.number == number) ≡ true → ends_among c.gone b.row ≡ true)
          → All (λ (b : Added). (b.row.number == number) ≡ true → ends_among c.gone b.row ≡ true) bs
      all_of bs holds = λ k d inside. holds (get_or bs k d) (Contains-get_or bs k d inside)

  -- the rows of all documents
  rows_are : map (λ (b : Added). b.row) all ≡ table_rows c.levels.items ++ c.memory.content.documents
  rows_are =
      map-append (λ (b : Added). b.row) f.olds f.added
      ∙ ap (λ (rs : List DocRow). rs ++ map (λ (b : Added). b.row) f.added) f.rows.rows_are
      ∙ ap (λ (rs : List DocRow). table_rows c.levels.items ++ rs) (sym f.content.documents)

  pub follow_on : FollowOn c.first c.memory.content.documents
  follow_on = subst (FollowOn c.first) (sym f.content.documents) (rows_follow c.first f.added f.numbered)

  -- a number that no row has
  pub outside : (number : ℕ) → AreOther number (table_rows c.levels.items ++ c.memory.content.documents) → has_number number s ≡ false
  outside number others =
      not_there number (λ b has is.
      let row_other : (b.row.number == number) ≡ false =
      All-contains (λ (r : DocRow). (r.number == number) ≡ false) (table_rows c.levels.items ++ c.memory.content.documents) b.row others (subst (λ (rs : List DocRow). Contains rs b.row) rows_are (row_among all b has)) in
      absurd (false≢true (sym row_other ∙ is)))

  -- the document of a row
  pub row_of_number : (number : ℕ) (row : DocRow) → Contains (table_rows c.levels.items ++ c.memory.content.documents) row → row.number ≡ number
      → (a : Added) × Contains all a × (a.row.number ≡ number) × (a.row ≡ row)
  row_of_number number row has is =
      let (a, member, same) = document_among all row (subst (λ (rs : List DocRow). Contains rs row) (sym rows_are) has) in
      (a, member, ap (λ (r : DocRow). r.number) same ∙ is, same)

  -- by the levels as they are read
  module _ (levels : List Tables) (same : levels ≡ c.levels.items) (number : ℕ) where
    pub outside_read : AreOther number (table_rows levels ++ c.memory.content.documents) → has_number number s ≡ false
    outside_read others = outside number (subst (λ (ls : List Tables). AreOther number (table_rows ls ++ c.memory.content.documents)) same others)

    pub row_read : (row : DocRow) → Contains (table_rows levels ++ c.memory.content.documents) row × (row.number ≡ number) → (a : Added) × Contains all a × (a.row.number ≡ number) × (a.row ≡ row)
    row_read row found = row_of_number number row (subst (λ (ls : List Tables). Contains (table_rows ls ++ c.memory.content.documents) row) same found.0) found.1

  module _ (number : ℕ) (a : Added) (has : Contains all a) (number_is : a.row.number ≡ number) (row : DocRow) (is_row : a.row ≡ row) where
    pub deleted_already : Contains c.gone (end_of row) → has_number number s ≡ false
    deleted_already deleted =
        not_there number (λ b member is.
        let same = All-contains (IsSame a.row.number (end_of a.row)) all b (all_same all a f.space has) member in
        let is_number : (b.row.number == a.row.number) ≡ true = ap (λ (n : ℕ). b.row.number == n) number_is ∙ is in
        let end_is : end_of a.row ≡ end_of b.row = equal_from (end_of a.row) (end_of b.row) (same ∙ is_number) in
        among c.gone (end_of b.row) (subst (λ (x : ℕ). Contains c.gone x) (sym (ap end_of is_row) ∙ end_is) deleted))

    -- the row has a document's place
    pub row_fits : (3 ≤ row.cells) × (1 ≤ end_of row) × (end_of row < TOP) × (end_of row < c.location)
    row_fits =
        let space = All-contains IsInSpace all a (space_all all f.space) has in
        subst (λ (r : DocRow). (3 ≤ r.cells) × (1 ≤ end_of r) × (end_of r < TOP) × (end_of r < c.location)) is_row (
          All-contains (λ (b : Added). 3 ≤ b.row.cells) all a f.filled has,
          omega (arith, space.positive, space.some),
          space.below,
          (All-contains (λ (b : Added). IsBefore c.next c.location b.row) all a f.behind has).1,
        )

    module _ (alive : Contains c.gone (end_of row) → ⊥) where
      -- the document
      abbrev d : Document
      d = document_in a

      member_left : Contains (documents_left c.gone all) d
      member_left = is_left c.gone all a has (not_among c.gone (end_of a.row) (λ deleted. alive (subst (λ (r : DocRow). Contains c.gone (end_of r)) is_row deleted)))

      is_member : Contains s.documents d
      is_member = subst (λ (ds : List Document). Contains ds d) f.notes.documents member_left

      pub named : number_of row.name s ≡ Some number
      named = ap (λ (r : DocRow). number_of r.name s) (sym is_row) ∙ found_by (numbers_in s) s.documents d (found_in s f.notes.ordered) is_member ∙ ap (λ (n : ℕ). Some n) number_is

      word_count_is : word_count d ≡ row.cells - 3
      word_count_is =
          let space = All-contains IsInSpace all a (space_all all f.space) has in
          omega (arith, space.counted, ap (λ (r : DocRow). r.cells) is_row)

      fewer : length (filter (λ (e : Document). not (e.number == number)) s.documents) + 1 ≡ length s.documents
      fewer = subst (λ (n : ℕ). length (filter (λ (e : Document). not (e.number == n)) s.documents) + 1 ≡ length s.documents) number_is
          (one_fewer s.documents f.notes.ordered.ordered d is_member)

      less : sum_by word_count (filter (λ (e : Document). not (e.number == number)) s.documents) + word_count d ≡ sum_by word_count s.documents
      less = subst (λ (n : ℕ). sum_by word_count (filter (λ (e : Document). not (e.number == n)) s.documents) + word_count d ≡ sum_by word_count s.documents) number_is
          (one_less word_count s.documents f.notes.ordered.ordered d is_member)

      pub counted : (1 ≤ c.count) × (row.cells - 3 ≤ c.words)
      counted = (omega (arith, fewer, f.count), omega (arith, less, f.words, word_count_is))

      pub there_is : has_number number s ≡ true
      there_is = subst (λ (n : ℕ). has_number n s ≡ true) number_is (has_number_of s.documents d is_member)

      pub knows_deleted : (new : Catalog) → new.levels ≡ c.levels → new.memory ≡ c.memory → new.first ≡ c.first → new.next ≡ c.next → new.location ≡ c.location
          → ((x : ℕ) → Contains new.gone x ↔ (Contains c.gone x ⊎ (x ≡ end_of row))) → IsRising new.gone
          → Fits new.names (update bytes_eq (numbers_in s) row.name None)
          → new.count + 1 ≡ c.count → new.words + (row.cells - 3) ≡ c.words → KnowsBy new f.olds (without number s)
      knows_deleted new levels memory first next location members rising forgot count words = (
        record {
          olds = f.olds;
          added = f.added;
          rows = subst (λ (ls : List Tables). AreRowsOf (table_rows ls) f.olds) (sym (ap (λ (v : Vec Tables Global). v.items) levels)) f.rows;
          sound = subst (λ (m : LevelView). IsTrue m.sound) (sym memory) f.sound;
          content = subst (λ (m : LevelView). HasContent f.added m.content) (sym memory) f.content;
          made = f.made;
          space = f.space;
          filled = f.filled;
          behind = λ k d inside. (omega (arith, (f.behind k d inside).0, next), omega (arith, (f.behind k d inside).1, location));
          rising = rising;
          ends = λ end deleted. ⊎_elim (λ old. f.ends end old) (λ same. (a, has, ap end_of is_row ∙ sym same)) ((members end).0 deleted);
          notes = subst (λ (n : ℕ). Notes n new.names (documents_left new.gone all) (without number s)) (sym next)
              (notes_deleted c.next c.names (documents_left c.gone all) s f.notes new.names row.name number named forgot (documents_left new.gone all) left_is);
          numbered = subst (λ (n : ℕ). AreNumbered n f.added) (sym first) f.numbered;
          next = omega (arith, next, first, f.next);
          from = (omega (arith, first, f.from.0), omega (arith, location, f.from.1));
          fits = (omega (arith, next, f.fits.0), omega (arith, next, location, f.fits.1));
          count = omega (arith, count, f.count, fewer);
          words = omega (arith, words, f.words, less, word_count_is);
        },
        refl,
      )
        where
          left_is : documents_left new.gone all ≡ filter (λ (e : Document). not (e.number == number)) (documents_left c.gone all)
          left_is = left_out c.gone new.gone number (end_of row) (among_more c.gone new.gone (end_of row) members) all
              (subst (λ (n : ℕ). All (IsSame n (end_of row)) all) number_is (subst (λ (r : DocRow). All (IsSame a.row.number (end_of r)) all) is_row
              (all_same all a f.space has)))

-- what is counted is the state's
pub counts_are : (c : Catalog) (s : State) → Knows c s → ◌≡◌ {A = ℕ × ℕ × ℕ} (c.count, c.words, c.next) (length s.documents, words_in s, s.next)
counts_are c s f =
    ap {B = ℕ × ℕ × ℕ} (λ (n : ℕ). (n, c.words, c.next)) f.count
    ∙ ap {B = ℕ × ℕ × ℕ} (λ (n : ℕ). (length s.documents, n, c.next)) f.words
    ∙ ap {B = ℕ × ℕ × ℕ} (λ (n : ℕ). (length s.documents, words_in s, n)) f.notes.next

-- ---- a name that stands for a number
module _ (c : Catalog) (s : State) (f : Knows c s) (name : List ℕ) (number : ℕ) (named : number_of name s ≡ Some number) where
  pub live_number : has_number number s ≡ true
  live_number = is_numbered c.next c.names (documents_left c.gone (f.olds ++ f.added)) s f.notes name number named

  pub same_deleted : without number s ≡ with_deleted name s
  same_deleted = deleted_is c.next c.names (documents_left c.gone (f.olds ++ f.added)) s f.notes name number named

-- the document of a name
pub named_some : (c : Catalog) (s : State) → Knows c s → (name : List ℕ) (o : Option ℕ) → o ≡ number_of name s
    → IfSome o (λ n. (has_name name s ≡ true) × (has_number n s ≡ true) × (without n s ≡ with_deleted name s))
named_some c s f name None is = tt
named_some c s f name (Some n) is = (
  is_named c.next c.names (documents_left c.gone (f.olds ++ f.added)) s f.notes name n (sym is),
  live_number c s f name n (sym is),
  same_deleted c s f name n (sym is),
)

-- one for which there is none is no live document's
pub named_none : (c : Catalog) (s : State) → Knows c s → (name : List ℕ) (o : Option ℕ) → o ≡ number_of name s → IfNone o (has_name name s ≡ false)
named_none c s f name (Some n) is = tt
named_none c s f name None is =
    by_test (has_name name s)
    (λ has. absurd (false≢true (ap is_some is ∙ names_there c.next c.names (documents_left c.gone (f.olds ++ f.added)) s f.notes name ∙ has)))
    (λ none. none)

-- the number of a hash is that of a live document
pub likely_live : (c : Catalog) (s : State) → Knows c s → (name : List ℕ) (number : ℕ) → likely_of c.names name ≡ Some number → has_number number s ≡ true
likely_live c s f name number is =
    let (q, hash, has) = f.notes.names.firsts _ number is in
    is_numbered c.next c.names (documents_left c.gone (f.olds ++ f.added)) s f.notes q number has

-- no other name has the number of one that has it
pub one_name : (c : Catalog) (s : State) → Knows c s → (a b : List ℕ) (number : ℕ) → number_of a s ≡ Some number → number_of b s ≡ Some number → a ≡ b
one_name c s f = only_name s f.notes.ordered

-- the name of the row that has the number of a live document
pub row_named : (c : Catalog) (s : State) → Knows c s → (levels : List Tables) → levels ≡ c.levels.items → (number : ℕ) (row : DocRow)
    → Contains (table_rows levels ++ c.memory.content.documents) row × (row.number ≡ number) → has_number number s ≡ true → number_of row.name s ≡ Some number
row_named c s f levels same number row found has =
    let at = row_read c s f levels same number row found in
    named c s f number at.0 at.1 at.2 row at.3 (λ deleted. absurd (false≢true (sym (deleted_already c s f number at.0 at.1 at.2 row at.3 deleted) ∙ has)))
