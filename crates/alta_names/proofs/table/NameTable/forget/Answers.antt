use Rattle.std.proofs.Common.{ℕ, subst, sym, ◌∙◌}
use Rattle.std.specs.Prelude.{◌≢◌, Some, nat_eq}
use Rattle.std.specs.HashMap.{get}
use Rattle.std.proofs.lemmas.Map.Text.{hash_map_updates_text}
use Rattle.alta_names.proofs.Fitting.{forgotten}
use Rattle.alta_names.proofs.table.NameTable.forget.Goals as goal

pub returns : goal.returns
returns c = λ numbers fits is only.
    forgotten c.args.self.now _ numbers fits c.args.name.now c.args.number is only c.forget_first.ensures.less c.forget_first.ensures.kept
    (λ h is_hash. subst (λ (x : ℕ). get nat_eq c.forget_first.new.firsts x ≢ Some c.args.number) (c.hash_of.ensures ∙ sym is_hash) c.forget_first.ensures.gone)
    (hash_map_updates_text c.args.name.now c.args.self.now.others c.remove.new.self _ c.remove.ensures.updates)
