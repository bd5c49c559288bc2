-- The terms of levels and of the newest documents that meet a test, and what is loaded of tests.
use Rattle.std.specs.Prelude.{Bool, if◌then◌else◌, ℕ, List, [], ◌∷◌, ◌++◌, map, flat_map}
use Rattle.std.specs.List.{filter, list_any}
use Rattle.std.specs.Str.{bytes_eq}
use Rattle.alta_content.specs.Joining.{in_order}
use Rattle.alta_content.specs.Lists as content
use Rattle.alta_content.specs.declared.content.Content.{Content}
use Rattle.alta_loading.specs.Loads.{Load}
use Rattle.alta_loading.specs.Terms.{lists_of_term, loads_of, term_key}
use Rattle.alta_machine.specs.declared.test.Test.{Test}
use Rattle.alta_search.specs.Lists.{TermKey}
use Rattle.alta_search.specs.Newest.{term_meets}
use Rattle.alta_search.specs.Tops.{same_test}
use Rattle.alta_table.specs.Tables.{Tables}
use Rattle.alta_table.specs.Terms.{terms_of}

-- ---- terms

-- the terms of a level
abbrev pub level_terms : Tables → List (List ℕ)
level_terms level = terms_of level.terms

-- those of levels, and behind them those of the newest documents
abbrev pub all_terms : List Tables → Content → List (List ℕ)
all_terms levels newest = flat_map level_terms levels ++ content.terms_of newest.lists

-- the terms that meet a test, in collating order, each once
abbrev pub terms_met : List Tables → Content → Test → List (List ℕ)
terms_met levels newest test = filter (term_meets test) (in_order (all_terms levels newest))

-- those of a level, in its order
abbrev pub level_terms_met : Test → Tables → List (List ℕ)
level_terms_met test level = filter (term_meets test) (level_terms level)

-- the term is one of these
abbrev pub is_among : List ℕ → List (List ℕ) → Bool
is_among term terms = list_any (bytes_eq term) terms

-- ---- what is loaded of tests

-- the terms that meet a test, each with its levels
abbrev pub keys_met : List Tables → Content → Test → List TermKey
keys_met levels newest test = map (term_key levels newest) (terms_met levels newest test)

-- their lists, as they stand on the image and in the newest documents
abbrev pub lists_met : List Tables → Content → List ℕ → Test → List (List (List ℕ))
lists_met levels newest image test = map (lists_of_term levels newest image) (terms_met levels newest test)

-- the lists in levels, in the order of loading: those of a test are those of the terms that meet it
abbrev pub loads_met : List Tables → Content → Test → List Load
loads_met levels newest test = loads_of levels (terms_met levels newest test)

-- those of tests, one test after the other
abbrev pub loads_of_tests : List Tables → Content → List Test → List Load
loads_of_tests levels newest tests = flat_map (loads_met levels newest) tests

-- ---- tests, each once

-- the tests that are none of those before, each once, in the order in which they first come
abbrev pub first_uses : List Test → List Test → List Test
first_uses before [] = []
first_uses before (test ∷ tests) = if list_any (same_test test) before then first_uses before tests
    else test ∷ first_uses (test ∷ before) tests

abbrev pub each_once : List Test → List Test
each_once tests = first_uses [] tests
