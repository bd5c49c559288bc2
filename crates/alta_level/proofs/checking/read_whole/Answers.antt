use Rattle.std.proofs.Common.{ℕ, List, Err, sym, subst}
use Rattle.alta_table.specs.declared.fault.LevelFault.{LevelFault}
use Rattle.alta_table.specs.Answers.{IfDamaged}
use Rattle.alta_level.specs.Stored.{Fits, IsListFault, stored_of}
use Rattle.alta_level.proofs.Faults.{list_found, list_misfits}
use Rattle.alta_level.proofs.checking.read_whole.Goals as goal

pub returns-then-fits : goal.returns-then-fits
returns-then-fits c =
    let s = stored_of c.args.list.now in
    record {
      found = list_found c.args.documents.now s c.read_coded.new.locations.items c.in_ok-read_coded.ensures.coded c.in_ok-read_coded.ensures.read
          (subst (λ (l : List ℕ). Fits c.args.documents.now s.term s.count l) c.deref.ensures.value (c.fits.ensures.0 c.if-fits.true));
      first = tt;
    }

pub returns-else-fits : goal.returns-else-fits
returns-else-fits c =
    let s = stored_of c.args.list.now in
    record {
      found = tt;
      first = subst (λ (e : LevelFault). IfDamaged {X = Unit} (Err e) (IsListFault c.args.documents.now s)) (sym c.misfit.ensures)
          (list_misfits c.args.documents.now s c.read_coded.new.locations.items c.in_ok-read_coded.ensures.posting c.in_ok-read_coded.ensures.read
          (λ f. let t = c.fits.ensures.1 (subst (λ (l : List ℕ). Fits c.args.documents.now s.term s.count l) (sym c.deref.ensures.value) f) in cc (t, c.if-fits.false)));
    }
