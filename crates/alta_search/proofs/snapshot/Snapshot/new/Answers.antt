use Rattle.std.specs.Prelude.{All}
use Rattle.std.proofs.Common.{[], ℕ, List, ◌<◌, length, map}
use Rattle.std.proofs.lemmas.List.Elements.{All-nil}
use Rattle.alta_codec.specs.Rising.{IsRising}
use Rattle.std.specs.List.{concat}
use Rattle.alta_search.specs.Lists.{IsCut, AreKeys, test_lists, test_keys}
use Rattle.alta_search.proofs.Cuts.{keys_none}
use Rattle.alta_search.proofs.Single.{met_uses}
use Rattle.alta_search.proofs.Uses.{all_at}
use Rattle.alta_search.proofs.snapshot.Snapshot.new.Goals as goal

pub invariant_of-result : goal.invariant_of-result
invariant_of-result c = record {
  keyed = all_at AreKeys (map test_keys c.args.tests.items) [] c.args.uses.items keys_none c.requires.keyed;
  cut = all_at IsCut (map test_lists c.args.tests.items) [] c.args.uses.items
      (All-nil (λ (levels : List (List ℕ)). All (λ (list : List ℕ). 0 < length list) levels × IsRising (concat levels))) c.requires.cut;
  met = met_uses c.args.tests.items c.args.uses.items c.requires.met;
  rows = c.requires.rows;
  gone = c.requires.gone;
}
