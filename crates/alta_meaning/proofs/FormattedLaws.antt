-- A disk that was formatted stands for the state without documents.
use Rattle.std.proofs.Common.{inl, ℕ, List, [], length, take, refl, ap, ◌∙◌, arith}
use Rattle.std.proofs.lemmas.List.Elements.{All-nil, All-cons}
use Rattle.alta_layout.specs.declared.slot.Slot.TheVariants.{A}
use Rattle.alta_journal.specs.Entry.{MayBeRecorded}
use Rattle.alta_level.specs.Segments.{IsSegment}
use Rattle.alta_postings.specs.Deltas.{fault_from, first_fault, list_from, decoded_list}
use Rattle.alta_root.specs.Places.{fields_at}
use Rattle.alta_root.specs.Root.{body_of, IsSound, IsWord, no_extent}
use Rattle.alta_root.specs.Slots.{Counts}
use Rattle.alta_root.specs.declared.places.TheConstants.{VERSION}
use Rattle.alta_root.proofs.SpellLaws.{body_says}
use Rattle.alta_meaning.specs.Levels.{Level}
use Rattle.alta_machine.specs.States.{empty_state}
use Rattle.alta_meaning.specs.Holding.{IsHeld}
use Rattle.alta_meaning.specs.Opened.{IsNamed, IsOpened, bytes_at, deleted_in}
use Rattle.alta_meaning.specs.Standing.{AreLevels, StandsFor}
use Rattle.alta_meaning.specs.Switching.{empty_held, empty_opened, empty_root, IsFormatted}

empty_sound : (size : ℕ) → IsSound size empty_root
empty_sound size = record { version = (omega arith, omega arith); few = omega arith; number = (omega arith, omega arith); location = (omega arith, omega arith); deletions = inl refl; levels = tt }

pub formatted_counts : (image : List ℕ) → IsFormatted image → Counts A empty_root image
formatted_counts image is = record {
  whole = is.whole;
  is_open = is.first;
  says =
      body_says (length image) 1 empty_root (body_of empty_root) (fields_at A image) (empty_sound (length image)) (omega arith) (All-cons IsWord no_extent [] (omega arith, omega arith) (All-nil IsWord)) refl
      (is.fields ∙ ap (λ n. take n (body_of empty_root)) is.long);
  later = λ second. absurd (is.second second);
}

pub formatted_named : (image : List ℕ) → IsFormatted image → IsNamed empty_opened image
unfolding deleted_in first_fault fault_from list_from decoded_list
formatted_named image is = record {
  list = refl;
  tables = refl;
  ends = refl;
  journal = record {
    starts = omega arith;
    begins = record { records = refl; sound = All-nil (MayBeRecorded VERSION); gate = is.closed.0 };
    closed = is.closed;
    whole = is.whole;
  };
  known = record { next = 1; live = [] };
  admitted = refl;
}

pub formatted_opened : (image : List ℕ) → IsFormatted image → IsOpened empty_opened image
formatted_opened image is = record { counts = formatted_counts image is; named = formatted_named image is }

are_none : (image : List ℕ) → AreLevels empty_opened [] image
are_none image = record { extents = refl; tables = refl; segments = All-nil (λ (l : Level). IsSegment (bytes_at l.extent image) l.content) }

pub formatted_held : (image : List ℕ) → IsFormatted image → IsHeld empty_held image
formatted_held image is = record { opened = empty_opened; is = formatted_opened image is; are = are_none image; view_is = refl; list_is = refl }

pub formatted_stands : (image : List ℕ) → IsFormatted image → StandsFor empty_state image
formatted_stands image is = record {
  opened = empty_opened;
  counts = formatted_counts image is;
  means = record { named = formatted_named image is; levels = []; are = are_none image; state_is = refl };
}
