use Rattle.std.proofs.Common.{◌≡◌, ◌≤◌, ℕ, List, length, map, take, get_or}
use Rattle.std.specs.Prelude.{string_bytes}
use Rattle.std.specs.List.{All}
use Rattle.alta_gather.specs.declared.held.Held.{Held}
use Rattle.alta_memlevel.specs.Added.{Added}
use Rattle.alta_memlevel.specs.Documents.{document_in}
use Rattle.alta_search.specs.Told.{rows_at}
use Rattle.alta_machine.specs.Dumps.{count_lines, lines_for}
use Rattle.alta_dump.specs.Seen.{IsRowSeen, terms_of}
use Rattle.alta_dump.specs.Shown.{places_of, row_in}
use Rattle.alta_dump.proofs.dumping.put_documents.Given as goal

abbrev pub invariant-live : goal.invariant-live
invariant-live l =
    record {
      from : l.from ≤ length l.words;
      count : l.count ≤ l.i;
      lines : (documents : List Added) (f g : ℕ → Held) → rows_at l.rows l.live ≡ map row_in documents → l.words ≡ map f (places_of (rows_at l.rows l.live))
          → l.titles ≡ map g (places_of (rows_at l.rows l.live)) → All (IsRowSeen (terms_of l.terms) f g) documents
          → (string_bytes l.text ≡ lines_for (map document_in (take l.i documents))) × (l.count ≡ count_lines (map document_in (take l.i documents)))
          × (l.from ≡ length (places_of (take l.i (rows_at l.rows l.live))));
      other : get_or (string_bytes l.text) 0 0 ≡ 33 → ⊥;
    }
