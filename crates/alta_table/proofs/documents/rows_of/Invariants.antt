use Rattle.std.proofs.Common.{◌≡◌, ◌<◌}
use Rattle.alta_format.specs.Format.{read}
use Rattle.alta_format.proofs.EntryLaws.{from_here}
use Rattle.alta_codec.specs.declared.location.TheConstants.{TOP}
use Rattle.alta_table.specs.Documents.{documents_format, documents_table}
use Rattle.alta_table.proofs.PlaceLaws.{AreRead}
use Rattle.alta_table.proofs.documents.rows_of.Given as goal

abbrev pub invariant-loop : goal.invariant-loop
invariant-loop l = record {
  reads : from_here documents_table l.count l.counter (record { number = l.number; end = l.end }) l.rows.items l.rest ≡ read (documents_format l.count) l.bytes;
  number : l.number < TOP;
  end : l.end < TOP;
  are : AreRead l.bytes l.rows.items (record { number = l.number; end = l.end }) l.rest;
}
