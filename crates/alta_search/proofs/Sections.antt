-- The first uses of a snapshot make a snapshot too.
use Rattle.std.proofs.Common.{◌≡◌, ℕ, zero, suc, List, [], ◌∷◌, map, take, sym, ap, ◌∙◌}
use Rattle.std.specs.Prelude.{All}
use Rattle.std.proofs.lemmas.List.{take-map}
use Rattle.std.proofs.lemmas.List.Elements.{All-nil, All-cons, All-head, All-tail}
use Rattle.alta_compile.specs.Space.{Placed, list_of}
use Rattle.alta_content.specs.declared.document.DocRow.{DocRow}
use Rattle.alta_machine.specs.declared.test.Test.{Test}
use Rattle.alta_search.specs.Lists.{AreKeys, IsCut, TermKey, keys_at, lists_at, test_at, test_list}
use Rattle.alta_search.specs.declared.lists.TestLists.{TestLists}
use Rattle.alta_search.specs.Met.{MeetTest}
use Rattle.alta_search.specs.Readers.{Each}
use Rattle.alta_search.specs.Sections.{first_uses}
use Rattle.alta_search.specs.View.{IsView, Shows, View}

pub map_taken : {X Y Z : Type 0} (f : X → Z) (g : Y → Z) (n : ℕ) (xs : List X) (ys : List Y) → map f xs ≡ map g ys → map f (take n xs) ≡ map g (take n ys)
map_taken f g n xs ys h = sym (take-map f n xs) ∙ ap (take n) h ∙ take-map g n ys

all_taken : {X : Type 0} (P : X → Type 0) (n : ℕ) (xs : List X) → All P xs → All P (take n xs)
all_taken P zero [] h = h
all_taken P zero (x ∷ xs) h = All-nil P
all_taken P (suc n) [] h = h
all_taken P (suc n) (x ∷ xs) h = All-cons P x (take n xs) (All-head P x xs h) (all_taken P n xs (All-tail P x xs h))

each_taken : {X R : Type 0} (P : X → R → Type 0) (n : ℕ) (xs : List X) (rs : List R) → Each P xs rs → Each P (take n xs) (take n rs)
each_taken P zero [] [] h = tt
each_taken P zero [] (r ∷ rs) h = absurd h
each_taken P zero (x ∷ xs) [] h = absurd h
each_taken P zero (x ∷ xs) (r ∷ rs) h = tt
each_taken P (suc n) [] [] h = tt
each_taken P (suc n) [] (r ∷ rs) h = absurd h
each_taken P (suc n) (x ∷ xs) [] h = absurd h
each_taken P (suc n) (x ∷ xs) (r ∷ rs) (p, h) = (p, each_taken P n xs rs h)

pub first_is_view : (n : ℕ) (v : View) → IsView v → IsView (first_uses n v)
first_is_view n v is = record {
  keyed = all_taken AreKeys n v.keys is.keyed;
  met = each_taken MeetTest n v.tests v.keys is.met;
  cut = all_taken IsCut n v.cuts is.cut;
  rows = is.rows;
  gone = is.gone;
}

-- what is seen of tests and their uses
abbrev pub seen : List TestLists → List ℕ → List DocRow → List ℕ → View
seen tests uses rows gone = record { tests = map (test_at tests) uses; keys = map (keys_at tests) uses; cuts = map (lists_at tests) uses; rows = rows; gone = gone }

pub first_seen : (tests : List TestLists) (uses : List ℕ) (rows : List DocRow) (gone : List ℕ) (n : ℕ) → first_uses n (seen tests uses rows gone) ≡ seen tests (take n uses) rows gone
first_seen tests uses rows gone n =
    ap (λ (ts : List Test). record { tests = ts; keys = take n (map (keys_at tests) uses); cuts = take n (map (lists_at tests) uses); rows = rows; gone = gone }) (take-map (test_at tests) n uses)
    ∙ ap (λ (ks : List (List TermKey)). record { tests = map (test_at tests) (take n uses); keys = ks; cuts = take n (map (lists_at tests) uses); rows = rows; gone = gone }) (take-map (keys_at tests) n uses)
    ∙ ap (λ (cs : List (List (List (List ℕ)))). record { tests = map (test_at tests) (take n uses); keys = map (keys_at tests) (take n uses); cuts = cs; rows = rows; gone = gone }) (take-map (lists_at tests) n uses)

-- and show what it shows
pub first_shows : (n : ℕ) (space : List Placed) (v : View) → Shows space v → Shows space (first_uses n v)
first_shows n space v shows = record {
  lawful = shows.lawful;
  lists = map_taken test_list (list_of space) n v.cuts v.tests shows.lists;
  rows = shows.rows;
}
