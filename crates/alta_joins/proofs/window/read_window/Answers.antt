use Rattle.std.proofs.Common.{◌≡◌, ℕ, List, length, drop, sym, subst, ap₂, ◌∙◌, arith, rules}
use Rattle.std.proofs.lemmas.List.Sums.{sum_by-take-le}
use Rattle.alta_content.specs.TermList.{TermList}
use Rattle.alta_disk.specs.Calls.{Reads}
use Rattle.alta_disk.specs.Parts.{part}
use Rattle.alta_joins.proofs.FaultLaws.{fault_goes}
use Rattle.alta_joins.proofs.ReadRows.{fault_within, place_behind, rest_size}
use Rattle.alta_joins.specs.Reading.{IsFaultFrom, rows_between}
use Rattle.alta_joins.specs.declared.window.Window.{Window}
use Rattle.alta_level.specs.Damage.{AreListsOf, IsFaultInLists}
use Rattle.alta_meaning.proofs.DiskReads.{reads_within}
use Rattle.alta_table.specs.Places.{stream_place}
use Rattle.alta_table.specs.Tables.{Tables}
use Rattle.alta_table.specs.Terms.{data_bytes, data_of}
use Rattle.alta_joins.proofs.window.read_window.Goals as goal

pub read_part-requires : goal.read_part-requires
read_part-requires g c = λ told.
    let level : Tables = c.args.level.now in let from = c.args.from in let end = c.window_end-end.result in
    let stands = c.requires.stands told in
    omega (arith, stands.whole, place_behind level from end (omega (arith, c.window_end-end.ensures.some)), sum_by-take-le data_of level.terms end, c.in_ok-extent.ensures.place, c.in_ok-extent.ensures.bytes)

pub returns-in-Ok-clause-read : goal.returns-in-Ok-clause-read
returns-in-Ok-clause-read g c =
    let level : Tables = c.args.level.now in let from = c.args.from in let end = c.window_end-end.result in
    let image = (g.D.Disk.state c.args.disk.now).content in
    let bytes : List ℕ = c.in_ok-bytes.bytes.items in
    let place : c.in_ok-extent.extent.place ≡ stream_place level from = c.in_ok-extent.ensures.place in
    record {
      bytes = bytes;
      long = c.in_ok-bytes.ensures.long ∙ c.in_ok-extent.ensures.bytes;
      are = subst (λ (p : ℕ). AreListsOf level.documents (rows_between level from end) bytes p c.in-Ok.lists) place c.in-Ok.ensures.found;
      told = λ told. c.in_ok-bytes.ensures.read told ∙ ap₂ (λ (p n : ℕ). part p n image) place (sym c.in_ok-bytes.ensures.long);
    }

pub returns-in-Ok-clause-cost : goal.returns-in-Ok-clause-cost
returns-in-Ok-clause-cost g c =
    let old = g.D.Disk.state c.args.disk.now in
    let new = g.D.Disk.state c.read_part.new.disk in
    subst (λ (n : ℕ). Reads g.D.Disk.tells n old new) c.in_ok-extent.ensures.bytes c.read_part.ensures.retrieves.reads

pub returns-in-Ok-clause-retrieves : goal.returns-in-Ok-clause-retrieves
returns-in-Ok-clause-retrieves g c =
    let level : Tables = c.args.level.now in let from = c.args.from in let end = c.window_end-end.result in
    let old = g.D.Disk.state c.args.disk.now in
    let new = g.D.Disk.state c.read_part.new.disk in
    let size = rest_size g.D.Disk.tells old.content level from end (omega (arith, c.window_end-end.ensures.some)) c.window_end-end.ensures.within in
    record {
      reads = reads_within g.D.Disk.tells c.in_ok-extent.extent.bytes (data_bytes (drop from level.terms)) old new (omega (arith, size, c.in_ok-extent.ensures.bytes)) c.read_part.ensures.retrieves.reads;
      cause = search rules;
    }

pub returns-in-Err-clause-first : goal.returns-in-Err-clause-first
returns-in-Err-clause-first g c = λ told.
    let level : Tables = c.args.level.now in let from = c.args.from in let end = c.window_end-end.result in
    let image = (g.D.Disk.state c.args.disk.now).content in
    let bytes : List ℕ = c.in_ok-bytes.bytes.items in
    let place : c.in_ok-extent.extent.place ≡ stream_place level from = c.in_ok-extent.ensures.place in
    let size : length bytes ≡ data_bytes (rows_between level from end) = c.in_ok-bytes.ensures.long ∙ c.in_ok-extent.ensures.bytes in
    let is : bytes ≡ part (stream_place level from) (length bytes) image = c.in_ok-bytes.ensures.read told ∙ ap₂ (λ (p n : ℕ). part p n image) place (sym c.in_ok-bytes.ensures.long) in
    fault_goes (List TermList) Window c.in-Err.fault (IsFaultInLists level.documents (rows_between level from end) bytes c.in_ok-extent.extent.place) (IsFaultFrom image level from)
    (λ p f. fault_within g.D.Disk.tells image level from end p bytes (omega (arith, c.window_end-end.ensures.some)) c.window_end-end.ensures.within size is
    (subst (λ (q : ℕ). IsFaultInLists level.documents (rows_between level from end) bytes q p) place f))
    c.in-Err.ensures.first

pub returns-in-Err-clause-retrieves : goal.returns-in-Err-clause-retrieves
returns-in-Err-clause-retrieves g c =
    let level : Tables = c.args.level.now in let from = c.args.from in let end = c.window_end-end.result in
    let old = g.D.Disk.state c.args.disk.now in
    let new = g.D.Disk.state c.read_part.new.disk in
    let size = rest_size g.D.Disk.tells old.content level from end (omega (arith, c.window_end-end.ensures.some)) c.window_end-end.ensures.within in
    record {
      reads = reads_within g.D.Disk.tells c.in_ok-extent.extent.bytes (data_bytes (drop from level.terms)) old new (omega (arith, size, c.in_ok-extent.ensures.bytes)) c.read_part.ensures.retrieves.reads;
      cause = search rules;
    }

pub returns-in_err-bytes-clause-retrieves : goal.returns-in_err-bytes-clause-retrieves
returns-in_err-bytes-clause-retrieves g c =
    let level : Tables = c.args.level.now in let from = c.args.from in let end = c.window_end-end.result in
    let old = g.D.Disk.state c.args.disk.now in
    let new = g.D.Disk.state c.read_part.new.disk in
    let size = rest_size g.D.Disk.tells old.content level from end (omega (arith, c.window_end-end.ensures.some)) c.window_end-end.ensures.within in
    record {
      reads = reads_within g.D.Disk.tells c.in_ok-extent.extent.bytes (data_bytes (drop from level.terms)) old new (omega (arith, size, c.in_ok-extent.ensures.bytes)) c.read_part.ensures.retrieves.reads;
      cause = search rules;
    }
