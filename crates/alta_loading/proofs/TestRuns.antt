-- The lists of tests, loaded one test after the other.
use Rattle.std.proofs.Common.{◌≡◌, ℕ, List, [], ◌∷◌, ◌++◌, map, refl, sym, subst, ap, ◌∙◌, arith, append-nil, append_assoc}
use Rattle.std.specs.Prelude.{All, Ok, Err}
use Rattle.std.proofs.lemmas.List.{map_push}
use Rattle.std.proofs.lemmas.List.Elements.{All-nil, All-push}
use Rattle.std.proofs.lemmas.List.Sums.{sum_by-append}
use Rattle.std.proofs.lemmas.Grind.{flat_map-append}
use Rattle.alta_content.specs.declared.content.Content.{Content}
use Rattle.alta_disk.specs.Calls.{Reads}
use Rattle.alta_disk.specs.Disk.{DiskState}
use Rattle.alta_loading.proofs.Runs.{loads_ended, reads_most, reads_none, reads_then, tells_none, tells_then, tells_value}
use Rattle.alta_loading.specs.Loads.{Load, ReadsLists, Tells, load_size, load_sizes}
use Rattle.alta_loading.specs.Met.{keys_met, lists_met, loads_met, loads_of_tests, terms_met}
use Rattle.alta_loading.specs.Terms.{loads_of}
use Rattle.alta_disk.specs.declared.fault.LoadFault.{LoadFault}
use Rattle.alta_machine.specs.declared.test.Test.{Test}
use Rattle.alta_search.specs.Lists.{IsCut, TermKey}
use Rattle.alta_table.specs.Tables.{Tables}

-- The lists of these tests were loaded, all whole, between two states of the disk.
pub record TestsRun (tells : Type 0) (levels : List Tables) (newest : Content) (done : List Test) (keys : List (List TermKey)) (lists : List (List (List (List ℕ)))) (old new : DiskState) : Type 0 where
  pub keys_are : keys ≡ map (keys_met levels newest) done
  pub lists_are : tells → lists ≡ map (lists_met levels newest old.content) done
  pub told : tells → Tells {X = Unit {0}} old.content (loads_of_tests levels newest done) (Ok tt)
  pub cut : All IsCut lists
  pub reads : Reads tells (load_sizes (loads_of_tests levels newest done)) old new

pub tests_none : (tells : Type 0) (levels : List Tables) (newest : Content) (s : DiskState) → TestsRun tells levels newest [] [] [] s s
tests_none tells levels newest s = record {
  keys_are = refl;
  lists_are = λ t. refl;
  told = λ t. tells_none s.content tt;
  cut = All-nil IsCut;
  reads = reads_none tells s;
}

module _ (tells : Type 0) (levels : List Tables) (newest : Content) (done : List Test) (keys : List (List TermKey)) (lists : List (List (List (List ℕ)))) (old mid : DiskState)
    (run : TestsRun tells levels newest done keys lists old mid) (test : Test) (new : DiskState) (reads : Reads tells (load_sizes (loads_met levels newest test)) mid new) where
  abbrev loads : List Test → List Load
  loads tests = loads_of_tests levels newest tests

  abbrev more : List Load
  more = loads_met levels newest test

  loads_one : loads (done ++ test ∷ []) ≡ loads done ++ more
  loads_one = flat_map-append (loads_met levels newest) done (test ∷ []) ∙ ap (λ l. loads done ++ l) (append-nil more)

  loads_rest : (rest : List Test) → loads (done ++ test ∷ rest) ≡ (loads done ++ more) ++ loads rest
  loads_rest rest = flat_map-append (loads_met levels newest) done (test ∷ rest) ∙ sym (append_assoc (loads done) more (loads rest))

  both : Reads tells (load_sizes (loads done ++ more)) old new
  both = reads_then tells (load_sizes (loads done)) (load_sizes more) (load_sizes (loads done ++ more)) old mid new (sym (sum_by-append load_size (loads done) more)) run.reads reads

  -- one test more
  pub tests_on : (ks : List (List TermKey)) (ls : List (List (List (List ℕ)))) (now : List Test) (k : List TermKey) (l : List (List (List ℕ))) → now ≡ done ++ test ∷ [] → ks ≡ keys ++ k ∷ [] → ls ≡ lists ++ l ∷ []
      → k ≡ keys_met levels newest test → (tells → l ≡ lists_met levels newest mid.content test) → (tells → Tells {X = Unit {0}} mid.content (loads_met levels newest test) (Ok tt))
      → IsCut l → TestsRun tells levels newest now ks ls old new
  tests_on ks ls now k l n a b key list told cut =
      subst (λ (d : List Test). TestsRun tells levels newest d ks ls old new) (sym n)
      (record {
        keys_are = a ∙ ap (λ x. x ++ k ∷ []) run.keys_are ∙ ap (λ x. map (keys_met levels newest) done ++ x ∷ []) key ∙ sym (map_push (keys_met levels newest) done test);
        lists_are = λ h. b ∙ ap (λ x. x ++ l ∷ []) (run.lists_are h) ∙ ap (λ x. map (lists_met levels newest old.content) done ++ x ∷ []) (list h ∙ ap (λ (i : List ℕ). lists_met levels newest i test) (run.reads.content h))
            ∙ sym (map_push (lists_met levels newest old.content) done test);
        told = λ h. subst (λ (x : List Load). Tells {X = Unit {0}} old.content x (Ok tt)) (sym loads_one)
            (tells_then old.content (loads done) more tt (Ok tt) (run.told h) (subst (λ (i : List ℕ). Tells {X = Unit {0}} i more (Ok tt)) (run.reads.content h) (told h)));
        cut = subst (All IsCut) (sym b) (All-push IsCut lists l run.cut cut);
        reads = subst (λ (x : List Load). Reads tells (load_sizes x) old new) (sym loads_one) both;
      })

  -- it ends with a fault, before the rest
  pub tests_ended : {X Y : Type 0} (rest all : List Test) (e : LoadFault) → done ++ test ∷ rest ≡ all → ReadsLists {X = X} tells more mid new (Err e)
      → ReadsLists {X = Y} tells (loads all) old new (Err e)
  tests_ended rest all e a last = loads_ended tells (loads done) more (loads rest) (loads all) old mid new e (sym (loads_rest rest) ∙ ap loads a) run.reads run.told last

  pub tests_cost : (rest all : List Test) → done ++ test ∷ rest ≡ all → Reads tells (load_sizes (loads_of_tests levels newest all)) old new
  tests_cost rest all a =
      reads_most tells (load_sizes (loads done ++ more)) (load_sizes (loads all)) old new
      (omega (arith, ap load_sizes (sym (loads_rest rest) ∙ ap loads a), sum_by-append load_size (loads done ++ more) (loads rest))) both

-- what was read of the first tests alone
pub tests_before : (tells : Type 0) (levels : List Tables) (newest : Content) (done : List Test) (keys : List (List TermKey)) (lists : List (List (List (List ℕ)))) (old mid : DiskState)
    → TestsRun tells levels newest done keys lists old mid → (rest all : List Test) → done ++ rest ≡ all → Reads tells (load_sizes (loads_of_tests levels newest all)) old mid
tests_before tells levels newest done keys lists old mid run rest all a =
    let parts = flat_map-append (loads_met levels newest) done rest in
    reads_most tells (load_sizes (loads_of_tests levels newest done)) (load_sizes (loads_of_tests levels newest all)) old mid
    (omega (arith, ap load_sizes (sym parts ∙ ap (loads_of_tests levels newest) a), sum_by-append load_size (loads_of_tests levels newest done) (loads_of_tests levels newest rest))) run.reads

-- the lists of the terms that meet a test are those of the test
pub reads_met : (tells : Type 0) (levels : List Tables) (newest : Content) (test : Test) (terms : List (List ℕ)) → terms ≡ terms_met levels newest test → (old new : DiskState)
    → Reads tells (load_sizes (loads_of levels terms)) old new → Reads tells (load_sizes (loads_met levels newest test)) old new
reads_met tells levels newest test terms met old new reads = subst (λ (ts : List (List ℕ)). Reads tells (load_sizes (loads_of levels ts)) old new) met reads

pub told_met : {X : Type 0} (levels : List Tables) (newest : Content) (test : Test) (terms : List (List ℕ)) → terms ≡ terms_met levels newest test → (image : List ℕ) (x : X)
    → Tells {X = X} image (loads_of levels terms) (Ok x) → Tells {X = Unit {0}} image (loads_met levels newest test) (Ok tt)
told_met {X} levels newest test terms met image x told =
    subst (λ (ts : List (List ℕ)). Tells {X = Unit {0}} image (loads_of levels ts) (Ok tt)) met (tells_value {X = X} {Y = Unit {0}} image (loads_of levels terms) x tt told)
