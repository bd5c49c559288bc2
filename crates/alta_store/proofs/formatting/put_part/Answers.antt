use Rattle.std.proofs.Common.{rules}
use Rattle.alta_layout.specs.declared.places.TheConstants.{HEAD_BYTES}
use Rattle.alta_store.proofs.Formatted.{behind_write, clear_write}
use Rattle.alta_store.proofs.formatting.put_part.Goals as goal

pub returns : goal.returns
returns g c = record {
  clear = λ told. clear_write c.args.at c.args.zeros.now _ _ c.requires.zeros (c.requires.clear told) (c.in_ok-write.ensures.written told);
  behind = λ told. behind_write c.args.at HEAD_BYTES c.args.zeros.now _ _ (c.requires.clear told).long (c.in_ok-write.ensures.written told) c.requires.fits;
  cause = search rules;
  taken = search rules;
  same_limit = search rules;
}
