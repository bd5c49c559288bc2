-- What a rewrite is of what is held, and of what is opened.
use Rattle.std.specs.Prelude.{◌≡◌, ◌⊎◌, ◌+◌, ◌<◌, ◌++◌, ℕ, List, [], ◌∷◌, length, drop, map, Option, Some, None, Ok}
use Rattle.std.specs.List.{All, sum_by}
use Rattle.alta_layout.specs.Places.{half_start, other}
use Rattle.alta_layout.specs.declared.slot.Slot.{Slot}
use Rattle.alta_content.specs.Rows.{end_of}
use Rattle.alta_content.specs.declared.content.Content.{Content}
use Rattle.alta_content.specs.declared.document.DocRow.{DocRow}
use Rattle.alta_meaning.specs.Holding.{Holding, IsHeld}
use Rattle.alta_meaning.specs.Levels.{Level}
use Rattle.alta_meaning.specs.Opened.{Opened, IsOpened}
use Rattle.alta_meaning.specs.Ordered.{RowsPrecede}
use Rattle.alta_meaning.specs.Standing.{tables_by, view_of}
use Rattle.alta_meaning.specs.Views.{View, state_of}
use Rattle.alta_meaning.specs.Work.{Coming, Job, coming, gone_among, newest, stays}
use Rattle.alta_meaning.specs.Working.{content_to_come, documents_left, switched}
use Rattle.alta_content.specs.Joining.{rows_in}
use Rattle.alta_memlevel.specs.Added.{Added}
use Rattle.alta_root.specs.Slots.{Counts}
use Rattle.alta_table.specs.Tables.{Tables}
use Rattle.alta_rewrite.specs.Drafts.{rewrite_places, root_to_come, table_to_come}
use Rattle.alta_rewrite.specs.declared.ends.Ends.{Ends}
use Rattle.alta_rewrite.specs.declared.levels.NextLevels.{NextLevels}
use Rattle.alta_rewrite.specs.declared.places.Places.{Places}
use Rattle.alta_rewrite.specs.declared.rewriting.Rewritten.{Rewritten}

-- ---- what is given

-- the levels to come of a view: those from an index on stay, one content comes in place of those before, and one behind all
abbrev pub levels_to_come : NextLevels → View → List Coming
levels_to_come levels view = coming levels.oldest
    ++ (map stays (drop levels.stay_from view.levels) ++ coming levels.newest)

abbrev pub contents_to_come : NextLevels → View → List Content
contents_to_come levels view = map content_to_come (levels_to_come levels view)

abbrev pub rows_to_come : NextLevels → View → List DocRow
rows_to_come levels view = rows_in (contents_to_come levels view)

-- The ends, the number and the location of a rewrite are those of a view: the ends that are deleted, those of the levels to come that are
-- gone, and what stands behind the newest documents.
pub record AgreesWith (view : View) (levels : NextLevels) (ends : Ends) (next location : ℕ) : Type 0 where
  pub listed : ends.listed.now ≡ view.deleted
  pub deleted : ends.deleted.now ≡ gone_among view (rows_to_come levels view)
  pub next_is : next ≡ view.next + length (newest view)
  pub location_is : location ≡ view.location + sum_by (λ (a : Added). a.row.cells) (newest view)

-- A rewrite agrees with a view, the rows of the levels to come rise and lie below that number and location, and their documents that
-- are not gone are those of the state.
pub record IsGiven (view : View) (levels : NextLevels) (ends : Ends) (next location : ℕ) : Type 0 where
  pub agrees : AgreesWith view levels ends next location
  pub rise : RowsPrecede (rows_to_come levels view)
  pub below : All (λ (row : DocRow). (row.number < next) × (end_of row < location)) (rows_to_come levels view)
  pub documents : documents_left view (contents_to_come levels view) ≡ (state_of view).documents

-- An image has what is held, and a rewrite is given what its view says.
pub record MayRewrite (held : Holding) (levels : NextLevels) (ends : Ends) (next location : ℕ)
    (image : List ℕ) : Type 0 where
  pub is : IsHeld held image
  pub given : IsGiven held.view levels ends next location

abbrev pub tables_in : Option Tables → List Tables
tables_in None = []
tables_in (Some tables) = tables ∷ []

-- tables that stay, between new ones
abbrev pub tables_between : Option Tables → ℕ → List Tables → Option Tables → List Tables
tables_between oldest stay_from tables newest = tables_in oldest ++ (drop stay_from tables ++ tables_in newest)

-- A rewrite gives this, and the image has it then: in the other slot counts the answered root, whose new levels have the answered
-- tables.
pub record IsRewritten (limit : ℕ) (slot : Slot) (held : Holding) (levels : NextLevels) (job : Option Job)
    (then : Holding) (done : Rewritten) (image : List ℕ) : Type 0 where
  pub switched_is : switched limit held (levels_to_come levels held.view) job ≡ Ok then
  pub is : IsHeld then image
  pub slot_is : done.slot ≡ other slot
  pub counts : Counts done.slot done.root image
  pub tables : map tables_by then.view.levels
      ≡ tables_between done.oldest levels.stay_from (map tables_by held.view.levels) done.newest

-- ---- levels in place of others

abbrev pub no_content : Content
no_content = record { documents = []; lists = [] }

-- these levels put a content in place of the n oldest, and another behind all
pub record Replaces (levels : NextLevels) (n : ℕ) (oldest newest : Content) : Type 0 where
  pub stay_from_is : levels.stay_from ≡ n
  pub oldest_is : levels.oldest ≡ oldest
  pub newest_is : levels.newest ≡ newest

-- ---- what is opened, whatever the streams of levels that stay are

-- levels at the extents of what is opened and with its rows, whatever their lists are
pub record HaveRows (o : Opened) (there : List Level) : Type 0 where
  pub extents : o.root.levels.items ≡ map (λ (l : Level). l.extent) there
  pub rows : map (λ (t : Tables). t.documents) o.levels ≡ map (λ (l : Level). l.content.documents) there

-- An image is opened as this, and a rewrite is given what its rows and entries say.
pub record MayRewriteOpened (o : Opened) (there : List Level) (levels : NextLevels) (ends : Ends) (next location : ℕ)
    (image : List ℕ) : Type 0 where
  pub is : IsOpened o image
  pub have : HaveRows o there
  pub given : IsGiven (view_of o there) levels ends next location

-- What is opened once a rewrite is done: the other slot counts, with the root to come; its list has the deleted ends, its levels are
-- those that stay between the new ones, and its journal is empty.
pub record IsComing (limit : ℕ) (o coming : Opened) (levels : NextLevels) (ends : Ends)
    (next location : ℕ) : Type 0 where
  pub places : Places
  pub places_are : rewrite_places limit o.root levels ends ≡ Ok places
  pub slot_is : coming.slot ≡ other o.slot
  pub root_is : coming.root ≡ root_to_come o.root ends levels.stay_from next location places
  pub deleted_are : coming.deleted ≡ ends.deleted.now
  pub levels_are : coming.levels ≡ tables_between (table_to_come places.oldest levels.oldest) levels.stay_from o.levels
      (table_to_come places.newest levels.newest)
  pub entries_are : coming.entries ≡ []
  pub tail_is : coming.tail ≡ half_start coming.slot

-- the image is opened as before, or as once the rewrite is done
abbrev pub MayBecome : ℕ → Opened → NextLevels → Ends → ℕ → ℕ → List ℕ → Type 0
MayBecome limit o levels ends next location image = IsOpened o image
    ⊎ ((coming : Opened) × IsComing limit o coming levels ends next location × IsOpened coming image)

-- A rewrite gives this, and the image is opened as what comes.
pub record IsRewrittenOpened (limit : ℕ) (o coming : Opened) (levels : NextLevels) (ends : Ends) (next location : ℕ)
    (done : Rewritten) (image : List ℕ) : Type 0 where
  pub coming_is : IsComing limit o coming levels ends next location
  pub is : IsOpened coming image
  pub slot_is : done.slot ≡ coming.slot
  pub root_is : done.root ≡ coming.root
  pub levels_are : coming.levels ≡ tables_between done.oldest levels.stay_from o.levels done.newest
