use Rattle.std.proofs.Common.{refl, ap, ◌∙◌}
use Rattle.std.specs.Prelude.{Some}
use Rattle.std.specs.HashMap.{get_by_text}
use Rattle.std.specs.Map.{update}
use Rattle.std.specs.Str.{bytes_eq}
use Rattle.std.specs.String.{string_bytes}
use Rattle.std.proofs.lemmas.Map.Text.{hash_map_updates_text}
use Rattle.alta_names.proofs.Fitting.{noted_other}
use Rattle.alta_names.proofs.table.NameTable.note.Goals as goal

pub returns-in_ok-insert : goal.returns-in_ok-insert
returns-in_ok-insert c = λ numbers fits free.
    noted_other c.args.self.now _ numbers fits c.args.name.now c.args.number free (λ h. refl)
    (λ q. hash_map_updates_text (string_bytes c.in_ok-key.key) c.args.self.now.others c.insert.new.self _ c.in_ok-insert.ensures.updates q
    ∙ ap (λ bytes. update bytes_eq (get_by_text c.args.self.now.others) bytes (Some c.args.number) q) c.in_ok-key.ensures.ok)
