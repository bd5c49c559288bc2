-- What a snapshot holds that was loaded, and that whole levels are loaded whole.
use Rattle.std.proofs.Common.{◌≡◌, ℕ, List, [], ◌∷◌, get_or, map, ap, ◌∙◌}
use Rattle.std.specs.Prelude.{All}
use Rattle.std.proofs.lemmas.List.Elements.{All-nil}
use Rattle.alta_compile.specs.Space.{document_end}
use Rattle.alta_content.specs.declared.content.Content.{Content}
use Rattle.alta_content.specs.declared.document.DocRow.{DocRow}
use Rattle.alta_meaning.specs.Levels.{Level}
use Rattle.alta_meaning.specs.Standing.{tables_by}
use Rattle.alta_loading.specs.Loads.{IsWhole, loads_from}
use Rattle.alta_loading.specs.Met.{each_once, keys_met, lists_met, loads_met, loads_of_tests, terms_met}
use Rattle.alta_loading.specs.Snapshots.{all_rows, loaded_view}
use Rattle.alta_loading.specs.Terms.{loads_of}
use Rattle.alta_loading.proofs.Contents.{levels_loaded}
use Rattle.alta_loading.proofs.FirstUses.{once_used}
use Rattle.alta_loading.proofs.LevelSpaces.{IsWritten}
use Rattle.alta_loading.proofs.Runs.{all_join}
use Rattle.alta_machine.specs.declared.test.Test.{Test}
use Rattle.alta_search.specs.Lists.{TermKey, keys_at, lists_at, test_at, test_in, test_keys, test_lists}
use Rattle.alta_search.specs.Order.{IsOrder, Order, used}
use Rattle.alta_search.specs.View.{View}
use Rattle.alta_search.specs.declared.lists.TestLists.{TestLists}
use Rattle.alta_search.proofs.Loads.{at-uses}
use Rattle.alta_table.specs.Tables.{Tables}

-- the tests that are loaded are those that are used, each once
pub once_loaded : (order : Order) (items all : List Test) → items ≡ order.tests → IsOrder order → used order ≡ all → items ≡ each_once all
once_loaded order items all same is uses = same ∙ once_used order all is uses

-- ---- the snapshot

same_view : (v : View) (tests : List Test) (keys : List (List TermKey)) (cuts : List (List (List (List ℕ)))) (rows : List DocRow) (gone : List ℕ)
    → v.tests ≡ tests → v.keys ≡ keys → v.cuts ≡ cuts → v.rows ≡ rows → v.gone ≡ gone
    → v ≡ record { tests = tests; keys = keys; cuts = cuts; rows = rows; gone = gone }
same_view v tests keys cuts rows gone t k c r g =
    ap (λ x. record { tests = x; keys = v.keys; cuts = v.cuts; rows = v.rows; gone = v.gone }) t
    ∙ ap (λ x. record { tests = tests; keys = x; cuts = v.cuts; rows = v.rows; gone = v.gone }) k
    ∙ ap (λ x. record { tests = tests; keys = keys; cuts = x; rows = v.rows; gone = v.gone }) c
    ∙ ap (λ x. record { tests = tests; keys = keys; cuts = cuts; rows = x; gone = v.gone }) r
    ∙ ap (λ x. record { tests = tests; keys = keys; cuts = cuts; rows = rows; gone = x }) g

pub view_is : (levels : List Tables) (newest : Content) (image gone : List ℕ) (order : Order) (items : List TestLists) (uses : List ℕ) (all : List Test) (v : View)
    → IsOrder order → uses ≡ order.uses → used order ≡ all → map test_in items ≡ order.tests → map test_keys items ≡ map (keys_met levels newest) order.tests
    → map test_lists items ≡ map (lists_met levels newest image) order.tests
    → v.tests ≡ map (test_at items) uses → v.keys ≡ map (keys_at items) uses → v.cuts ≡ map (lists_at items) uses → v.rows ≡ all_rows levels newest → v.gone ≡ gone
    → v ≡ loaded_view levels newest image all gone
view_is levels newest image gone order items uses all v is same used_all tests keys lists t k c r g =
    same_view v all (map (keys_met levels newest) all) (map (lists_met levels newest image) all) (all_rows levels newest) gone
    (t ∙ ap (map (test_at items)) same ∙ ap (λ ts. map (λ i. get_or ts i document_end) order.uses) tests ∙ used_all)
    (k ∙ ap (map (keys_at items)) same ∙ at-uses (keys_met levels newest) order.tests (map test_keys items) document_end [] order.uses keys is.inside ∙ ap (map (keys_met levels newest)) used_all)
    (c ∙ ap (map (lists_at items)) same ∙ at-uses (lists_met levels newest image) order.tests (map test_lists items) document_end [] order.uses lists is.inside ∙ ap (map (lists_met levels newest image)) used_all)
    r g

-- ---- whole levels

module _ (levels : List Level) (image : List ℕ) (s : All (IsWritten image) levels) where
  terms_whole : (terms : List (List ℕ)) → All (IsWhole image) (loads_of (map tables_by levels) terms)
  terms_whole [] = All-nil (IsWhole image)
  terms_whole (t ∷ ts) = all_join image (loads_from 0 (map tables_by levels) t) (loads_of (map tables_by levels) ts) (levels_loaded levels image t s).whole (terms_whole ts)

  pub tests_whole : (newest : Content) (tests : List Test) → All (IsWhole image) (loads_of_tests (map tables_by levels) newest tests)
  tests_whole newest [] = All-nil (IsWhole image)
  tests_whole newest (t ∷ ts) =
      all_join image (loads_met (map tables_by levels) newest t) (loads_of_tests (map tables_by levels) newest ts) (terms_whole (terms_met (map tables_by levels) newest t)) (tests_whole newest ts)
