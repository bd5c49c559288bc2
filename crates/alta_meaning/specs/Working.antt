-- What the work on levels makes of what a store holds: what it holds then, or why no place is left.
-- It is one function of what is held, the limit and the task. Places are the first gaps beside the extents that stay and those
-- placed before, in the order in which a switch writes, over the length of the one spelling; so no parameter stands for places.
use Rattle.std.specs.Prelude.{◌≡◌, ◌<◌, ◌≤◌, true, ℕ, ◌+◌, ◌==◌, nat_le, ◌&&◌, Bool, cond, List, [], ◌∷◌, ◌++◌, length, take, map, Option, Some, None, Result, Ok, Err}
use Rattle.std.specs.List.{All, filter, flat_map, sum_by}
use Rattle.std.specs.Str.{bytes_eq}
use Rattle.alta_layout.specs.declared.places.TheConstants.{HEAD_BYTES}
use Rattle.alta_codec.specs.declared.extent.Extent.{Extent}
use Rattle.alta_journal.specs.declared.entry.Entry.{Entry}
use Rattle.alta_level.specs.Segments.{segment_bytes}
use Rattle.alta_content.specs.declared.content.Content.{Content}
use Rattle.alta_memlevel.specs.Added.{Added}
use Rattle.alta_content.specs.Rows.{ends_among}
use Rattle.alta_machine.specs.declared.document.Document.{Document}
use Rattle.alta_machine.specs.declared.document.State.{State}
use Rattle.alta_postings.specs.Deltas.{stream_bytes}
use Rattle.alta_root.specs.Gaps.{IsFirstGap, IsLongestGap, first_gap, greatest_gap}
use Rattle.alta_root.specs.Root.{AreApart, no_extent}
use Rattle.alta_root.specs.declared.places.TheConstants.{VERSION}
use Rattle.alta_meaning.specs.Entries.{after_entry}
use Rattle.alta_meaning.specs.Levels.{Level, document_of, live_rows}
use Rattle.alta_meaning.specs.Views.{View, with_entry}
use Rattle.alta_meaning.specs.Work.{Job, Coming, stays, anew, coming, newest, newest_content, gone, gone_among, level_rows, whole_of, oldest_joined, with_oldest, is_merged, job_of, fits, needs_raise, Task, enters, flushes, merges, steps}
use Rattle.alta_content.specs.declared.document.DocRow.{DocRow}
use Rattle.alta_meaning.specs.Chain.{◌>>=◌}
use Rattle.alta_meaning.specs.Holding.{Holding, taken_by_held}
use Rattle.alta_content.specs.Joining.{joined_in, terms_in, rows_in}
use Rattle.alta_memlevel.specs.Documents.{content_of}

-- no gap holds so many bytes, and this many are the most that have one
pub record Full : Type 0 where
  pub need : ℕ
  pub gap : ℕ

-- ---- places

abbrev pub placed_at : List Extent → ℕ → ℕ → Option ℕ → Result Extent Full
placed_at taken bytes limit None = Err (record { need = bytes; gap = greatest_gap taken limit })
placed_at taken bytes limit (Some at) = Ok (record { place = at; bytes = bytes })

-- so many bytes in the first gap beside what is taken
abbrev pub placed : List Extent → ℕ → ℕ → Result Extent Full
placed taken bytes limit = placed_at taken bytes limit (first_gap taken bytes limit)

-- levels that are placed, and what is taken then
pub record Placed : Type 0 where
  pub levels : List Level
  pub taken : List Extent

abbrev pub in_front : Level → Placed → Placed
in_front level rest = record { levels = level ∷ rest.levels; taken = rest.taken }

-- A level that stays keeps its extent; one that is written anew is placed in order, beside those before it too.
abbrev pub placed_levels : ℕ → List Extent → List Coming → Result Placed Full
placed_levels limit taken [] = Ok (record { levels = []; taken = taken })
placed_levels limit taken (stays level ∷ more) = placed_levels limit taken more >>= λ rest. Ok (in_front level rest)
placed_levels limit taken (anew content ∷ more) =
    placed taken (length (segment_bytes content)) limit >>= λ extent.
    placed_levels limit (taken ++ extent ∷ []) more >>= λ rest.
    Ok (in_front (record { extent = extent; content = content }) rest)

-- A deletion list that stays the same keeps its extent; else it is written anew, beside the levels too. An empty one has none.
abbrev pub placed_list : ℕ → Holding → List Extent → List ℕ → Result Extent Full
placed_list limit held taken deleted =
    cond (bytes_eq deleted held.view.deleted) (Ok held.list)
    (cond (length deleted == 0) (Ok no_extent) (placed taken (length (stream_bytes 0 deleted)) limit))

-- ---- a switch of the root

-- what is held behind a switch: the root has the last version, the journal is empty, and the next number and location are those behind all newest documents
abbrev pub held_then : Holding → List Level → List ℕ → Extent → Option Job → Holding
held_then held levels deleted list job = record {
  view = record {
    version = VERSION;
    next = held.view.next + length (newest held.view);
    location = held.view.location + sum_by (λ (a : Added). a.row.cells) (newest held.view);
    levels = levels;
    deleted = deleted;
    entries = [];
  };
  list = list;
  job = job;
}

-- The root to come has these levels, and deleted are the gone ends whose row stays in one of them.
abbrev pub switched : ℕ → Holding → List Coming → Option Job → Result Holding Full
switched limit held levels job =
    placed_levels limit (taken_by_held held) levels >>= λ now.
    let deleted = gone_among held.view (level_rows now.levels) in
    placed_list limit held now.taken deleted >>= λ list.
    Ok (held_then held now.levels deleted list job)

-- ---- flush, merge and step

-- The live newest documents become the last level, and the journal is empty. Where there are 16 levels already, the two
-- oldest are joined first, which ends the job.
abbrev pub written : ℕ → Holding → Result Holding Full
written limit held =
    let view = held.view in
    cond (length view.levels == 16 && nat_le 1 (length (newest_content view).documents))
    (switched limit held (with_oldest (oldest_joined held.job view) view) None)
    (switched limit held (map stays view.levels ++ coming (newest_content view)) held.job)

-- A flush writes so. With an empty journal nothing is done.
abbrev pub flushed : ℕ → Holding → Result Holding Full
flushed limit held = cond (length held.view.entries == 0) (Ok held) (written limit held)

-- All levels and the newest documents become one level without what is gone, or none where nothing is left. There is no job.
-- At most one level, no deleted end and no entry stay as they are.
abbrev pub merged : ℕ → Holding → Result Holding Full
merged limit held =
    let view = held.view in
    cond (is_merged view) (Ok held)
    (switched limit held
    (coming (joined_in (map (λ (l : Level). l.content) view.levels ++ content_of (newest view) ∷ []) (gone view)))
    None)

-- The job is moved on by n terms. Where no term is left, its content takes the place of the two oldest levels, and the newest
-- documents are flushed. Without a job nothing is done.
abbrev pub moved : ℕ → Holding → ℕ → Option Job → Result Holding Full
moved limit held n None = Ok held
moved limit held n (Some job) =
    cond (nat_le (length (terms_in (job.older ∷ job.newer ∷ []))) (job.merged + n))
    (switched limit held (with_oldest (whole_of job) held.view) None)
    (Ok (record {
      view = held.view;
      list = held.list;
      job =
          Some (record { older = job.older; newer = job.newer; dead = job.dead; merged = job.merged + n });
    }))

-- a step of n terms, which begins a job where none goes on and there are two levels
abbrev pub stepped : ℕ → Holding → ℕ → Result Holding Full
stepped limit held n = moved limit held n (job_of held.job held.view)

-- ---- by command

-- one entry more in the journal
abbrev pub entered : Holding → Entry → Holding
entered held entry = record { view = with_entry held.view entry; list = held.list; job = held.job }

-- What a task makes of what the store holds. An entry that the root's version can't have finds a root of the last version, also
-- where the journal is empty; one that does not fit in the journal finds it flushed.
abbrev pub worked : ℕ → Holding → Task → Result Holding Full
worked limit held (enters entry) =
    cond (needs_raise held.view.version entry) (written limit held >>= λ then. Ok (entered then entry))
    (cond (fits held.view.entries entry) (Ok (entered held entry)) (flushed limit held
    >>= λ then. Ok (entered then entry)))
worked limit held flushes = flushed limit held
worked limit held merges = merged limit held
worked limit held (steps n) = stepped limit held n

-- ---- what a switch has

-- the content of a level to come
abbrev pub content_to_come : Coming → Content
content_to_come (stays level) = level.content
content_to_come (anew content) = content

-- the documents of a content, without those whose end is one of these
abbrev pub documents_in : List ℕ → Content → List Document
documents_in ends c = map (document_of c.lists) (live_rows ends c.documents)

-- the documents of contents, without those that are gone from a view
abbrev pub documents_left : View → List Content → List Document
documents_left view contents = flat_map (documents_in (gone_among view (rows_in contents))) contents

-- ---- what joins have

-- a content in place of others, with some of their rows, and with their documents that are not gone
pub record IsJoin (view : View) (contents : List Content) (c : Content) : Type 0 where
  pub keeps : DocRow → Bool
  pub rows : c.documents ≡ filter keeps (rows_in contents)
  pub documents : documents_in (gone view) c ≡ flat_map (documents_in (gone view)) contents

abbrev pub oldest_contents : View → List Content
oldest_contents view = map (λ (l : Level). l.content) (take 2 view.levels)

abbrev pub all_contents : View → List Content
all_contents view = map (λ (l : Level). l.content) view.levels ++ content_of (newest view) ∷ []

-- Joins of these contents keep documents: a join has those that are not deleted, where all that is dead is.
abbrev pub JoinsKeep : List Content → Type 0
JoinsKeep contents =
    (dead deleted : List ℕ) → All (λ (row : DocRow). ends_among dead row ≡ true
    → ends_among deleted row ≡ true) (rows_in contents)
    → documents_in deleted (joined_in contents dead) ≡ flat_map (documents_in deleted) contents

-- The joins that a task may put in place of levels are joins of them.
pub record AreJoins (held : Holding) : Type 0 where
  pub oldest : IsJoin held.view (oldest_contents held.view) (oldest_joined held.job held.view)
  pub whole : (job : Job) → job_of held.job held.view ≡ Some job
      → IsJoin held.view (oldest_contents held.view) (whole_of job)
  pub all : IsJoin held.view (all_contents held.view) (joined_in (all_contents held.view) (gone held.view))

-- what a task makes of a state
abbrev pub state_behind : Task → State → State
state_behind (enters entry) s = after_entry s entry
state_behind flushes s = s
state_behind merges s = s
state_behind (steps n) s = s

-- ---- where no place is left

-- each of these is the first gap of its length, beside what was taken and those before it
abbrev pub AreFirstGaps : ℕ → List Extent → List Extent → Type 0
AreFirstGaps limit taken [] = Unit {0}
AreFirstGaps limit taken (extent ∷ more) = IsFirstGap taken extent.bytes limit extent.place
    × AreFirstGaps limit (taken ++ extent ∷ []) more

-- A place is wanting: the gap is the greatest beside what was taken and what was placed before, each at the first gap, and the need
-- is above it.
pub record IsWanting (taken : List Extent) (limit : ℕ) (full : Full) : Type 0 where
  pub extra : List Extent
  pub first : AreFirstGaps limit taken extra
  pub longest : IsLongestGap (taken ++ extra) limit full.gap
  pub short : full.gap < full.need

-- ---- what is placed meets nothing

-- no two of these meet
abbrev pub AllApart : List Extent → Type 0
AllApart [] = Unit {0}
AllApart (extent ∷ more) = All (AreApart extent) more × AllApart more

-- the extents of the levels that stay
abbrev pub staying : List Coming → List Extent
staying [] = []
staying (stays level ∷ more) = level.extent ∷ staying more
staying (anew content ∷ more) = staying more

-- an extent behind the head, that ends at the limit or before
abbrev pub LiesWithin : ℕ → Extent → Type 0
LiesWithin limit extent = (HEAD_BYTES ≤ extent.place) × (extent.place + extent.bytes ≤ limit)
