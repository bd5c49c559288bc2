-- The terms of the newest documents, which are one level in memory, and their lists.
use Rattle.std.specs.Prelude.{ℕ, Bool, IsTrue, nat_eq, List, [], ◌∷◌, map}
use Rattle.std.specs.List.{filter, starts_with}
use Rattle.std.specs.Str.{bytes_eq}
use Rattle.alta_content.specs.Lists.{locations_of, terms_of}
use Rattle.alta_content.specs.TermList.{TermList}
use Rattle.alta_memlevel.specs.Added.{Added, HasContent, LevelView}
use Rattle.alta_machine.specs.declared.test.Test.{Test}
use Rattle.alta_machine.specs.declared.test.Test.TheVariants.{Is, Begins}

-- whether a term meets a test
abbrev pub term_meets : Test → List ℕ → Bool
term_meets (Is wanted) term = bytes_eq term wanted
term_meets (Begins start) term = starts_with nat_eq term start

-- the terms of lists that meet a test, in the order of the lists
abbrev pub terms_met : List TermList → Test → List (List ℕ)
terms_met lists test = filter (term_meets test) (terms_of lists)

-- the one list of a term
abbrev pub newest_list : List TermList → List ℕ → List (List ℕ)
newest_list lists term = locations_of lists term ∷ []

-- the lists of the terms that meet a test
abbrev pub newest_lists : List TermList → Test → List (List (List ℕ))
newest_lists lists test = map (newest_list lists) (terms_met lists test)

-- the level can be used, and its content is that of some documents
pub record HasAdded (level : LevelView) : Type 0 where
  pub added : List Added
  pub sound : IsTrue level.sound
  pub content : HasContent added level.content
