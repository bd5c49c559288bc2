-- A level whose documents are taken out.
use Rattle.std.specs.Prelude.{◌≡◌, [], Result, OnOk, OnErr}
use Rattle.alta_memlevel.specs.Added.{HasContent, LevelView}

-- on Ok the level has no documents, on Err it is as it was
pub record TakesAll {T E : Type 0} (old new : LevelView) (result : Result T E) : Type 0 where
  pub empty : OnOk result (HasContent [] new.content)
  pub documents : OnOk result (new.content.documents ≡ [])
  pub kept : OnErr result (new ≡ old)
