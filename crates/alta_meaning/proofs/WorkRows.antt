-- What the work on levels does, worked out on small contents.
use Rattle.std.proofs.Common.{◌≡◌, ℕ, ◌+◌, ◌-◌, ◌*◌, Bool, true, false, List, [], ◌∷◌, ◌++◌, length, map, refl, ap, Ok, Err, Result}
use Rattle.std.specs.Prelude.{◌==◌, ◌&&◌, Some, None, Option, nat_le}
use Rattle.std.specs.List.{flat_map}
use Rattle.std.specs.Str.{chars}
use Rattle.alta_codec.specs.Numbers.{spelling, number_bytes}
use Rattle.alta_codec.specs.declared.extent.Extent.{Extent}
use Rattle.alta_format.specs.Format.{entries_bytes}
use Rattle.alta_layout.specs.Wide.{eight_bytes}
use Rattle.alta_journal.specs.Entry.{four_bytes}
use Rattle.alta_journal.specs.Record.{record_of}
use Rattle.alta_journal.specs.declared.entry.Entry.{Entry}
use Rattle.alta_journal.specs.declared.entry.Entry.TheVariants.{Add, Delete, Replace}
use Rattle.alta_level.specs.Coded.{summary_bytes, table_fields}
use Rattle.alta_level.specs.Segments.{segment_bytes}
use Rattle.alta_content.specs.declared.content.Content.{Content}
use Rattle.alta_content.specs.TermList.{TermList}
use Rattle.alta_machine.specs.declared.document.State.{State}
use Rattle.alta_postings.specs.Deltas.{stream_bytes}
use Rattle.alta_root.specs.Root.{no_extent}
use Rattle.alta_meaning.specs.Levels.{Level, locations_from}
use Rattle.alta_meaning.specs.Views.{state_of}
use Rattle.alta_root.specs.declared.places.TheConstants.{VERSION}
use Rattle.alta_meaning.specs.Work.{Job, enters, flushes, merges, steps, fits, needs_raise}
use Rattle.alta_table.specs.Terms.{terms_bytes_behind}
use Rattle.alta_content.specs.declared.document.DocRow.{DocRow}
use Rattle.unicode_segmentation.specs.Segments.{segments, cut}
use Rattle.alta_meaning.specs.Holding.{Holding}
use Rattle.alta_meaning.specs.Working.{Full, worked, flushed, entered}
use Rattle.alta_content.specs.Joining.{joined}

-- ---- contents of documents of two cells, the second of which is the end

abbrev end_term : List ℕ
end_term = 68 ∷ []

abbrev word : ℕ → List ℕ
word letter = 87 ∷ letter ∷ []

abbrev list_of : List ℕ → List ℕ → TermList
list_of term locations = record { term = term; locations = locations }

abbrev row : ℕ → ℕ → DocRow
row number first = record { number = number; first = first; cells = 2; name = number ∷ [] }

abbrev one : Content
one = record { documents = row 1 1 ∷ []; lists = list_of end_term (2 ∷ []) ∷ list_of (word 120) (1 ∷ []) ∷ [] }

abbrev two : Content
two = record { documents = row 2 3 ∷ []; lists = list_of end_term (4 ∷ []) ∷ list_of (word 120) (3 ∷ []) ∷ list_of (word 121) (3 ∷ []) ∷ [] }

abbrev third : Content
third = record { documents = row 4 7 ∷ []; lists = list_of end_term (8 ∷ []) ∷ list_of (word 122) (7 ∷ []) ∷ [] }

-- ---- joins

abbrev both : Content
both = record {
  documents = row 1 1 ∷ row 2 3 ∷ [];
  lists = list_of end_term (2 ∷ 4 ∷ []) ∷ list_of (word 120) (1 ∷ 3 ∷ []) ∷ list_of (word 121) (3 ∷ []) ∷ [];
}

-- a join has the rows and the locations of both
join_of_live : joined one two [] ≡ both
join_of_live = refl

-- a row that is dead is dropped with its locations, and so is a term that keeps none
join_without_second : joined one two (4 ∷ []) ≡ one
join_without_second = refl

join_without_first : joined one two (2 ∷ []) ≡ two
join_without_first = refl

-- where no row is left there is no term
join_of_dead : joined one two (2 ∷ 4 ∷ []) ≡ record { documents = []; lists = [] }
join_of_dead = refl

-- a segment has 32 bytes of head, the rows of its tables, and its streams
segment_of_one : length (segment_bytes one) ≡ 52
unfolding segment_bytes entries_bytes terms_bytes_behind number_bytes spelling stream_bytes summary_bytes table_fields
segment_of_one = refl

-- ---- places on the disk, by how far behind the head

abbrev at : ℕ → ℕ → Extent
at offset bytes = record { place = 2105344 + offset; bytes = bytes }

abbrev level_at : ℕ → Content → Level
level_at offset content = record { extent = at offset 50; content = content }

-- a level that is written anew, of so many bytes
abbrev new_level : ℕ → ℕ → Content → Level
new_level offset bytes content = record { extent = at offset bytes; content = content }

abbrev held_with : List Level → List ℕ → Extent → List Entry → Option Job → Holding
held_with levels deleted list entries job = record {
  view = record { version = VERSION; next = 5; location = 9; levels = levels; deleted = deleted; entries = entries };
  list = list;
  job = job;
}

-- where there is room
abbrev wide : ℕ
wide = 4000000

abbrev state_in : Holding → State
state_in held = state_of held.view

abbrev job_at : List ℕ → ℕ → Job
job_at dead merged = record { older = one; newer = two; dead = dead; merged = merged }

-- three levels with 100, 100 and 50 bytes between them and the list, and the document numbered 2 deleted in the second
abbrev three_levels : List Entry → Option Job → Holding
three_levels entries job = held_with (level_at 0 one ∷ level_at 150 two ∷ level_at 300 third ∷ []) (4 ∷ []) (at 400 50) entries job

-- the content of a document that is called a, with neither title nor body
abbrev named_at : ℕ → ℕ → Content
named_at number first = record {
  documents = record { number = number; first = first; cells = 3; name = 97 ∷ [] } ∷ [];
  lists = list_of end_term ((first + 2) ∷ []) ∷ list_of (78 ∷ 97 ∷ []) (first ∷ []) ∷ list_of (83 ∷ []) (first ∷ []) ∷ list_of (84 ∷ []) ((first + 1) ∷ []) ∷ [];
}

abbrev add_a : Entry
add_a = Add (97 ∷ []) [] []

-- ---- step

-- a step that ends a job puts its content, without what was dead, in place of the two oldest levels, in the first gap that holds
-- it, and the deletion list that is left empty has no extent
step_ends : worked wide (three_levels [] None) (steps 3) ≡ Ok (held_with (new_level 50 52 one ∷ level_at 300 third ∷ []) [] no_extent [] None)
unfolding segment_bytes entries_bytes terms_bytes_behind number_bytes spelling stream_bytes summary_bytes table_fields
step_ends = refl

-- one that leaves a term only moves its job on
step_goes_on : worked wide (three_levels [] None) (steps 2) ≡ Ok (three_levels [] (Some (job_at (4 ∷ []) 2)))
step_goes_on = refl

-- the next takes it up: what was deleted since the job began stays deleted, in a list that is written anew behind the level
step_ends_later : worked wide (held_with (level_at 0 one ∷ level_at 150 two ∷ []) (2 ∷ 4 ∷ []) (at 400 2) [] (Some (job_at (4 ∷ []) 2))) (steps 1)
    ≡ Ok (held_with (new_level 50 52 one ∷ []) (2 ∷ []) (at 102 1) [] None)
unfolding segment_bytes entries_bytes terms_bytes_behind number_bytes spelling stream_bytes summary_bytes table_fields
step_ends_later = refl

-- one that ends while documents are in the journal flushes them too: the last level stands behind the first that is written
step_ends_with_newest : worked wide (three_levels (add_a ∷ []) None) (steps 3)
    ≡ Ok (record {
      view = record { version = VERSION; next = 6; location = 12; levels = new_level 50 52 one ∷ level_at 300 third ∷ new_level 200 66 (named_at 5 9) ∷ []; deleted = []; entries = [] };
      list = no_extent;
      job = None;
    })
unfolding segments cut chars segment_bytes entries_bytes terms_bytes_behind number_bytes spelling stream_bytes summary_bytes table_fields
step_ends_with_newest = refl

-- a job all of whose rows are dead leaves no level
step_of_dead : worked wide (held_with (level_at 0 one ∷ level_at 150 two ∷ level_at 300 third ∷ []) (2 ∷ 4 ∷ []) (at 400 2) [] None) (steps 3)
    ≡ Ok (held_with (level_at 300 third ∷ []) [] no_extent [] None)
step_of_dead = refl

-- without two levels it does nothing
step_of_one : worked wide (held_with (level_at 0 one ∷ []) (2 ∷ []) (at 400 1) [] None) (steps 7) ≡ Ok (held_with (level_at 0 one ∷ []) (2 ∷ []) (at 400 1) [] None)
step_of_one = refl

-- ---- merge

-- all becomes one level without what is gone, by the deletion list and by the journal
merge_of_gone : worked wide (held_with (level_at 0 one ∷ level_at 150 two ∷ []) (4 ∷ []) (at 400 1) (Delete 1 ∷ []) None) merges ≡ Ok (held_with [] [] no_extent [] None)
merge_of_gone = refl

merge_of_three : worked wide (three_levels [] None) merges ≡ Ok (held_with (new_level 50 65 (joined one third []) ∷ []) [] no_extent [] None)
unfolding segment_bytes entries_bytes terms_bytes_behind number_bytes spelling stream_bytes summary_bytes table_fields
merge_of_three = refl

-- a job that goes on is given up
merge_gives_up_the_job : worked wide (three_levels [] (Some (job_at (4 ∷ []) 2))) merges ≡ Ok (held_with (new_level 50 65 (joined one third []) ∷ []) [] no_extent [] None)
unfolding segment_bytes entries_bytes terms_bytes_behind number_bytes spelling stream_bytes summary_bytes table_fields
merge_gives_up_the_job = refl

-- the newest documents are in the one level, and it is written anew where it is the only one that is left
merge_of_newest : worked wide (held_with (level_at 0 one ∷ []) [] no_extent (Delete 1 ∷ add_a ∷ []) None) merges
    ≡ Ok (record { view = record { version = VERSION; next = 6; location = 12; levels = new_level 50 66 (named_at 5 9) ∷ []; deleted = []; entries = [] }; list = no_extent; job = None })
unfolding segments cut chars segment_bytes entries_bytes terms_bytes_behind number_bytes spelling stream_bytes summary_bytes table_fields
merge_of_newest = refl

-- a level of its own with a deleted end is written anew; one without stays as it is
merge_of_one : worked wide (held_with (level_at 0 one ∷ []) [] no_extent [] None) merges ≡ Ok (held_with (level_at 0 one ∷ []) [] no_extent [] None)
merge_of_one = refl

-- ---- flush

-- a journal of deletes alone adds no level: the gone ends that stay in a level are deleted there, in a list in the first gap
flush_of_deletes : worked wide (held_with (level_at 0 one ∷ level_at 150 two ∷ []) [] no_extent (Delete 2 ∷ []) None) flushes
    ≡ Ok (held_with (level_at 0 one ∷ level_at 150 two ∷ []) (4 ∷ []) (at 50 1) [] None)
unfolding number_bytes spelling stream_bytes
flush_of_deletes = refl

-- a list that stays the same keeps its extent, and below 16 levels the job goes on
flush_keeps_list_and_job : worked wide (three_levels (add_a ∷ []) (Some (job_at (4 ∷ []) 2))) flushes
    ≡ Ok (record {
      view = record { version = VERSION; next = 6; location = 12; levels = level_at 0 one ∷ level_at 150 two ∷ level_at 300 third ∷ new_level 50 66 (named_at 5 9) ∷ []; deleted = 4 ∷ []; entries = [] };
      list = at 400 50;
      job = Some (job_at (4 ∷ []) 2);
    })
unfolding segments cut chars segment_bytes entries_bytes terms_bytes_behind number_bytes spelling stream_bytes summary_bytes table_fields
flush_keeps_list_and_job = refl

-- the newest documents that are left become the last level, behind all numbers and locations of the journal
flush_of_documents : worked wide (held_with (level_at 0 one ∷ []) [] no_extent (add_a ∷ Add (98 ∷ []) [] [] ∷ Delete 6 ∷ []) None) flushes
    ≡ Ok (record { view = record { version = VERSION; next = 7; location = 15; levels = level_at 0 one ∷ new_level 50 66 (named_at 5 9) ∷ []; deleted = []; entries = [] }; list = no_extent; job = None })
unfolding segments cut chars segment_bytes entries_bytes terms_bytes_behind number_bytes spelling stream_bytes summary_bytes table_fields
flush_of_documents = refl

-- an empty journal is left as it is
flush_of_none : worked wide (three_levels [] None) flushes ≡ Ok (three_levels [] None)
flush_of_none = refl

-- ---- flush behind 16 levels

-- a level of the document n
abbrev small : ℕ → Content
small n = record { documents = row n (2 * n - 1) ∷ []; lists = list_of end_term ((2 * n) ∷ []) ∷ list_of (word 120) ((2 * n - 1) ∷ []) ∷ [] }

abbrev small_level : ℕ → Level
small_level n = level_at (50 * n) (small n)

abbrev sixteen : List ℕ → Extent → List Entry → Option Job → Holding
sixteen deleted list entries job = record {
  view = record { version = VERSION; next = 17; location = 33; levels = map small_level (locations_from 1 16); deleted = deleted; entries = entries };
  list = list;
  job = job;
}

abbrev job_of_small : List ℕ → Job
job_of_small dead = record { older = small 1; newer = small 2; dead = dead; merged = 1 }

abbrev behind_two : List Level
behind_two = map small_level (locations_from 3 14)

-- a live newest document makes the two oldest one, with what is gone left out
flush_of_sixteen : worked wide (sixteen [] no_extent (add_a ∷ []) None) flushes
    ≡ Ok (record { view = record { version = VERSION; next = 18; location = 36; levels = new_level 850 59 (joined (small 1) (small 2) []) ∷ behind_two ++ new_level 909 66 (named_at 17 33) ∷ []; deleted = []; entries = [] }; list = no_extent; job = None })
unfolding segments cut chars locations_from segment_bytes entries_bytes terms_bytes_behind number_bytes spelling stream_bytes summary_bytes table_fields
flush_of_sixteen = refl

-- with a job they become the job's content: what is gone since it began stays deleted, beside what was dead
flush_of_sixteen_with_a_job : worked wide (sixteen (2 ∷ []) (at 5000 1) (Delete 2 ∷ add_a ∷ []) (Some (job_of_small (2 ∷ [])))) flushes
    ≡ Ok (record { view = record { version = VERSION; next = 18; location = 36; levels = new_level 850 52 (small 2) ∷ behind_two ++ new_level 902 66 (named_at 17 33) ∷ []; deleted = 4 ∷ []; entries = [] }; list = at 0 1; job = None })
unfolding segments cut chars locations_from segment_bytes entries_bytes terms_bytes_behind number_bytes spelling stream_bytes summary_bytes table_fields
flush_of_sixteen_with_a_job = refl

-- and without a live newest document all stay
flush_of_sixteen_as_they_are : worked wide (sixteen [] no_extent (Delete 1 ∷ []) None) flushes
    ≡ Ok (record { view = record { version = VERSION; next = 17; location = 33; levels = map small_level (locations_from 1 16); deleted = 2 ∷ []; entries = [] }; list = at 0 1; job = None })
unfolding locations_from number_bytes spelling stream_bytes
flush_of_sixteen_as_they_are = refl

-- ---- states

abbrev state_then : Result Holding Full → Option State
state_then (Ok held) = Some (state_in held)
state_then (Err full) = None

step_keeps_the_newest : state_then (worked wide (three_levels (add_a ∷ []) None) (steps 3)) ≡ Some (state_in (three_levels (add_a ∷ []) None))
unfolding segments cut chars locations_from segment_bytes entries_bytes terms_bytes_behind number_bytes spelling stream_bytes summary_bytes table_fields
step_keeps_the_newest = refl

step_keeps_what_is_deleted : state_then (worked wide (held_with (level_at 0 one ∷ level_at 150 two ∷ []) (2 ∷ 4 ∷ []) (at 400 2) [] (Some (job_at (4 ∷ []) 2))) (steps 1))
    ≡ Some (state_in (held_with (level_at 0 one ∷ level_at 150 two ∷ []) (2 ∷ 4 ∷ []) (at 400 2) [] None))
unfolding locations_from segment_bytes entries_bytes terms_bytes_behind number_bytes spelling stream_bytes summary_bytes table_fields
step_keeps_what_is_deleted = refl

flush_keeps_the_documents : state_then (worked wide (held_with (level_at 0 one ∷ []) [] no_extent (add_a ∷ Add (98 ∷ []) [] [] ∷ Delete 6 ∷ []) None) flushes)
    ≡ Some (state_in (held_with (level_at 0 one ∷ []) [] no_extent (add_a ∷ Add (98 ∷ []) [] [] ∷ Delete 6 ∷ []) None))
unfolding segments cut chars locations_from segment_bytes entries_bytes terms_bytes_behind number_bytes spelling stream_bytes summary_bytes table_fields
flush_keeps_the_documents = refl

flush_keeps_what_is_deleted : state_then (worked wide (held_with (level_at 0 one ∷ level_at 150 two ∷ []) [] no_extent (Delete 2 ∷ []) None) flushes)
    ≡ Some (state_in (held_with (level_at 0 one ∷ level_at 150 two ∷ []) [] no_extent (Delete 2 ∷ []) None))
unfolding locations_from number_bytes spelling stream_bytes
flush_keeps_what_is_deleted = refl

merge_keeps_the_gone : state_then (worked wide (held_with (level_at 0 one ∷ level_at 150 two ∷ []) (4 ∷ []) (at 400 1) (Delete 1 ∷ []) None) merges)
    ≡ Some (state_in (held_with (level_at 0 one ∷ level_at 150 two ∷ []) (4 ∷ []) (at 400 1) (Delete 1 ∷ []) None))
unfolding locations_from
merge_keeps_the_gone = refl

merge_keeps_the_newest : state_then (worked wide (held_with (level_at 0 one ∷ []) [] no_extent (Delete 1 ∷ add_a ∷ []) None) merges) ≡ Some (state_in (held_with (level_at 0 one ∷ []) [] no_extent (Delete 1 ∷ add_a ∷ []) None))
unfolding segments cut chars locations_from segment_bytes entries_bytes terms_bytes_behind number_bytes spelling stream_bytes summary_bytes table_fields
merge_keeps_the_newest = refl

merge_with_a_job_keeps : state_then (worked wide (three_levels [] (Some (job_at (4 ∷ []) 2))) merges) ≡ Some (state_in (three_levels [] None))
unfolding locations_from segment_bytes entries_bytes terms_bytes_behind number_bytes spelling stream_bytes summary_bytes table_fields
merge_with_a_job_keeps = refl

flush_of_sixteen_keeps : state_then (worked wide (sixteen (2 ∷ []) (at 5000 1) (Delete 2 ∷ add_a ∷ []) (Some (job_of_small (2 ∷ [])))) flushes) ≡ Some (state_in (sixteen (2 ∷ []) (at 5000 1) (Delete 2 ∷ add_a ∷ []) None))
unfolding segments cut chars locations_from segment_bytes entries_bytes terms_bytes_behind number_bytes spelling stream_bytes summary_bytes table_fields
flush_of_sixteen_keeps = refl

-- ---- no place

-- the first thing that fits nowhere is needed, and the greatest gap is that beside what is placed before it
no_place_for_a_level : worked (2105344 + 110) (held_with (level_at 0 one ∷ []) [] no_extent (add_a ∷ []) None) flushes ≡ Err (record { need = 66; gap = 60 })
unfolding segments cut chars segment_bytes entries_bytes terms_bytes_behind number_bytes spelling stream_bytes summary_bytes table_fields
no_place_for_a_level = refl

no_place_for_the_second : worked (2105344 + 260) (three_levels (add_a ∷ []) None) (steps 3) ≡ Err (record { need = 66; gap = 60 })
unfolding segments cut chars segment_bytes entries_bytes terms_bytes_behind number_bytes spelling stream_bytes summary_bytes table_fields
no_place_for_the_second = refl

no_place_for_the_list : worked (2105344 + 50) (held_with (level_at 0 one ∷ []) [] no_extent (Delete 1 ∷ []) None) flushes ≡ Err (record { need = 1; gap = 0 })
unfolding number_bytes spelling stream_bytes
no_place_for_the_list = refl

-- ---- entries

-- a record is 5 bytes and its payload; it fits where one byte is left behind it for the next gate
delete_fits : (entries : List Entry) (n : ℕ) → length (flat_map record_of entries) ≡ 1048561 → fits entries (Delete n) ≡ true
unfolding four_bytes eight_bytes
delete_fits entries n used = ap (λ u. nat_le (u + 14 + 1) 1048576) used

delete_does_not : (entries : List Entry) (n : ℕ) → length (flat_map record_of entries) ≡ 1048562 → fits entries (Delete n) ≡ false
unfolding four_bytes eight_bytes
delete_does_not entries n used = ap (λ u. nat_le (u + 14 + 1) 1048576) used

-- a root of any version may have a delete
delete_raises_none : (version n : ℕ) → needs_raise version (Delete n) ≡ false
delete_raises_none version n = and_false (version == 1)
  where
    and_false : (b : Bool) → (b && false) ≡ false
    and_false true = refl
    and_false false = refl

-- one that fits is the last of the journal, and one that does not finds it flushed
entry_that_fits : (held : Holding) (n : ℕ) → length (flat_map record_of held.view.entries) ≡ 1048561 → worked wide held (enters (Delete n)) ≡ Ok (entered held (Delete n))
entry_that_fits held n used = rw (delete_raises_none held.view.version n, delete_fits held.view.entries n used) refl

entry_that_does_not : (held then : Holding) (n : ℕ) → length (flat_map record_of held.view.entries) ≡ 1048562 → flushed wide held ≡ Ok then → worked wide held (enters (Delete n)) ≡ Ok (entered then (Delete n))
entry_that_does_not held then n used flush = rw (delete_raises_none held.view.version n, delete_does_not held.view.entries n used) rw flush refl

entry_without_a_place : (held : Holding) (full : Full) (n : ℕ) → length (flat_map record_of held.view.entries) ≡ 1048562 → flushed wide held ≡ Err full → worked wide held (enters (Delete n)) ≡ Err full
entry_without_a_place held full n used flush = rw (delete_raises_none held.view.version n, delete_does_not held.view.entries n used) rw flush refl

-- ---- a root of version 1

abbrev old_with : List Level → List ℕ → Extent → Holding
old_with levels deleted list = record { view = record { version = 1; next = 5; location = 9; levels = levels; deleted = deleted; entries = [] }; list = list; job = None }

-- a replace finds it raised to the last version, where the journal is empty too: the levels and the list stay
raise_of_none : worked wide (old_with (level_at 0 one ∷ level_at 150 two ∷ []) (4 ∷ []) (at 400 1)) (enters (Replace 1 (97 ∷ []) [] []))
    ≡ Ok (held_with (level_at 0 one ∷ level_at 150 two ∷ []) (4 ∷ []) (at 400 1) (Replace 1 (97 ∷ []) [] [] ∷ []) None)
raise_of_none = refl

-- an add that is short stays behind the others
short_stays : worked wide (old_with (level_at 0 one ∷ []) [] no_extent) (enters add_a)
    ≡ Ok (record { view = record { version = 1; next = 5; location = 9; levels = level_at 0 one ∷ []; deleted = []; entries = add_a ∷ [] }; list = no_extent; job = None })
unfolding four_bytes
short_stays = refl
