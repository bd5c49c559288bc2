-- Laws of calls that open an index: the same of another value.
use Rattle.std.proofs.Common.{◌≡◌, Ok, Err, refl, ap}
use Rattle.alta_disk.specs.Disk.{DiskState}
use Rattle.alta_replies.proofs.LoadingLaws.{err_answers}
use Rattle.alta_replies.proofs.LoadingLaws.{ok_answers}
use Rattle.alta_store.specs.Opening.{Opens}
use Rattle.alta_store.specs.declared.fault.StoreFault.{StoreFault}
use Rattle.alta_store.specs.declared.fault.StoreFault.TheVariants.{Damaged, Disk, NoRoot}

pub opens_ok : {T U : Type 0} (tells : Type 0) (d e : DiskState) (x : T) (y : U) → Opens {T = T} tells d e (Ok x) → Opens {T = U} tells d e (Ok y)
opens_ok tells d e x y one = record {
  opened = λ o tell is. tt;
  no_root = λ tell is. absurd cc;
  rooted = λ tell none. absurd (ok_answers x NoRoot (Ok x) refl (one.rooted tell none));
  damaged = λ place tell is. absurd cc;
  undamaged = λ place tell broken. absurd (ok_answers x (Damaged place) (Ok x) refl (one.undamaged place tell broken));
  only = tt;
  cause = λ is. absurd cc;
  limit = one.limit;
  content = one.content;
  images = one.images;
  faults = one.faults;
  read = one.read;
  same_limit = one.same_limit;
}

pub opens_err : {T U : Type 0} (tells : Type 0) (d e : DiskState) (f : StoreFault) → Opens {T = T} tells d e (Err f) → Opens {T = U} tells d e (Err f)
opens_err tells d e f one = record {
  opened = one.opened;
  no_root = λ tell is. let same : f ≡ NoRoot = cc in one.no_root tell (ap Err same);
  rooted = λ tell none. err_answers f NoRoot (Err f) refl (one.rooted tell none);
  damaged = λ place tell is. let same : f ≡ Damaged place = cc in one.damaged place tell (ap Err same);
  undamaged = λ place tell broken. err_answers f (Damaged place) (Err f) refl (one.undamaged place tell broken);
  only = one.only;
  cause = λ is. let same : f ≡ Disk = cc in one.cause (ap Err same);
  limit = one.limit;
  content = one.content;
  images = one.images;
  faults = one.faults;
  read = one.read;
  same_limit = one.same_limit;
}
