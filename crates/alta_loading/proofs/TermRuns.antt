-- The lists of terms, loaded one term after the other.
use Rattle.std.proofs.Common.{◌≡◌, ℕ, List, [], ◌∷◌, ◌++◌, length, map, refl, sym, subst, ap, ◌∙◌, arith, append-nil, append_assoc}
use Rattle.std.specs.Prelude.{Ok, Err}
use Rattle.std.proofs.lemmas.List.{map_push}
use Rattle.std.proofs.lemmas.List.Sums.{sum_by-append}
use Rattle.std.proofs.lemmas.Grind.{flat_map-append}
use Rattle.alta_content.specs.Lists.{locations_of}
use Rattle.alta_content.specs.declared.content.Content.{Content}
use Rattle.alta_disk.specs.Calls.{Reads}
use Rattle.alta_disk.specs.Disk.{DiskState}
use Rattle.alta_loading.proofs.Runs.{loads_ended, reads_most, reads_none, reads_then, tells_none, tells_then, tells_value}
use Rattle.alta_loading.specs.Loads.{Load, ReadsLists, Tells, load_size, load_sizes, loads_from, number_of}
use Rattle.alta_loading.specs.Terms.{KeepTerm, KeepTerms, lists_of_term, loads_of, number_if_some, term_key}
use Rattle.alta_disk.specs.declared.fault.LoadFault.{LoadFault}
use Rattle.alta_search.specs.Lists.{TermKey, key_of, level_in}
use Rattle.alta_search.specs.declared.lists.LevelList.{LevelList}
use Rattle.alta_search.specs.declared.lists.TermLists.{TermLists}
use Rattle.alta_table.specs.Tables.{Tables}

-- The lists of these terms were loaded, all whole, between two states of the disk.
pub record TermsRun (tells : Type 0) (levels : List Tables) (newest : Content) (done : List (List ℕ)) (keys : List TermKey) (lists : List (List (List ℕ))) (old new : DiskState) : Type 0 where
  pub keys_are : keys ≡ map (term_key levels newest) done
  pub lists_are : tells → lists ≡ map (lists_of_term levels newest old.content) done
  pub told : tells → Tells {X = Unit {0}} old.content (loads_of levels done) (Ok tt)
  pub kept : KeepTerms levels newest done lists
  pub reads : Reads tells (load_sizes (loads_of levels done)) old new

pub terms_none : (tells : Type 0) (levels : List Tables) (newest : Content) (s : DiskState) → TermsRun tells levels newest [] [] [] s s
terms_none tells levels newest s = record {
  keys_are = refl;
  lists_are = λ t. refl;
  told = λ t. tells_none s.content tt;
  kept = tt;
  reads = reads_none tells s;
}

keep_push : (levels : List Tables) (newest : Content) (ts : List (List ℕ)) (ls : List (List (List ℕ))) (t : List ℕ) (l : List (List ℕ))
    → KeepTerms levels newest ts ls → KeepTerm levels newest t l → KeepTerms levels newest (ts ++ t ∷ []) (ls ++ l ∷ [])
keep_push levels newest [] [] t l h k = (k, tt)
keep_push levels newest [] (x ∷ xs) t l h k = absurd h
keep_push levels newest (u ∷ us) [] t l h k = absurd h
keep_push levels newest (u ∷ us) (x ∷ xs) t l (h, hs) k = (h, keep_push levels newest us xs t l hs k)

module _ (tells : Type 0) (levels : List Tables) (newest : Content) (done : List (List ℕ)) (keys : List TermKey) (lists : List (List (List ℕ))) (old mid : DiskState)
    (run : TermsRun tells levels newest done keys lists old mid) (term : List ℕ) (new : DiskState) (reads : Reads tells (load_sizes (loads_from 0 levels term)) mid new) where
  loads_one : loads_of levels (done ++ term ∷ []) ≡ loads_of levels done ++ loads_from 0 levels term
  loads_one = flat_map-append (loads_from 0 levels) done (term ∷ []) ∙ ap (λ l. loads_of levels done ++ l) (append-nil (loads_from 0 levels term))

  loads_rest : (rest : List (List ℕ)) → loads_of levels (done ++ term ∷ rest) ≡ (loads_of levels done ++ loads_from 0 levels term) ++ loads_of levels rest
  loads_rest rest = flat_map-append (loads_from 0 levels) done (term ∷ rest) ∙ sym (append_assoc (loads_of levels done) (loads_from 0 levels term) (loads_of levels rest))

  both : Reads tells (load_sizes (loads_of levels done ++ loads_from 0 levels term)) old new
  both = reads_then tells (load_sizes (loads_of levels done)) (load_sizes (loads_from 0 levels term)) (load_sizes (loads_of levels done ++ loads_from 0 levels term)) old mid new
      (sym (sum_by-append load_size (loads_of levels done) (loads_from 0 levels term))) run.reads reads

  -- one term more
  pub terms_on : (ks : List TermKey) (ls : List (List (List ℕ))) (now : List (List ℕ)) (k : TermKey) (l : List (List ℕ)) → now ≡ done ++ term ∷ [] → ks ≡ keys ++ k ∷ [] → ls ≡ lists ++ l ∷ []
      → k ≡ term_key levels newest term → (tells → l ≡ lists_of_term levels newest mid.content term) → (tells → Tells {X = Unit {0}} mid.content (loads_from 0 levels term) (Ok tt))
      → KeepTerm levels newest term l → TermsRun tells levels newest now ks ls old new
  terms_on ks ls now k l n a b key list told keep =
      subst (λ (d : List (List ℕ)). TermsRun tells levels newest d ks ls old new) (sym n)
      (record {
        keys_are = a ∙ ap (λ x. x ++ k ∷ []) run.keys_are ∙ ap (λ x. map (term_key levels newest) done ++ x ∷ []) key ∙ sym (map_push (term_key levels newest) done term);
        lists_are = λ h. b ∙ ap (λ x. x ++ l ∷ []) (run.lists_are h) ∙ ap (λ x. map (lists_of_term levels newest old.content) done ++ x ∷ []) (list h ∙ ap (λ (i : List ℕ). lists_of_term levels newest i term) (run.reads.content h))
            ∙ sym (map_push (lists_of_term levels newest old.content) done term);
        told = λ h. subst (λ (x : List Load). Tells {X = Unit {0}} old.content x (Ok tt)) (sym loads_one)
            (tells_then old.content (loads_of levels done) (loads_from 0 levels term) tt (Ok tt) (run.told h) (subst (λ (i : List ℕ). Tells {X = Unit {0}} i (loads_from 0 levels term) (Ok tt)) (run.reads.content h) (told h)));
        kept = subst (KeepTerms levels newest (done ++ term ∷ [])) (sym b) (keep_push levels newest done lists term l run.kept keep);
        reads = subst (λ (x : List Load). Reads tells (load_sizes x) old new) (sym loads_one) both;
      })

  -- it ends with a fault, before the rest
  pub terms_ended : {X Y : Type 0} (rest all : List (List ℕ)) (e : LoadFault) → done ++ term ∷ rest ≡ all → ReadsLists {X = X} tells (loads_from 0 levels term) mid new (Err e)
      → ReadsLists {X = Y} tells (loads_of levels all) old new (Err e)
  terms_ended rest all e a last =
      loads_ended tells (loads_of levels done) (loads_from 0 levels term) (loads_of levels rest) (loads_of levels all) old mid new e (sym (loads_rest rest) ∙ ap (loads_of levels) a) run.reads run.told last

  pub terms_cost : (rest all : List (List ℕ)) → done ++ term ∷ rest ≡ all → Reads tells (load_sizes (loads_of levels all)) old new
  terms_cost rest all a =
      reads_most tells (load_sizes (loads_of levels done ++ loads_from 0 levels term)) (load_sizes (loads_of levels all)) old new
      (omega (arith, ap load_sizes (sym (loads_rest rest) ∙ ap (loads_of levels) a), sum_by-append load_size (loads_of levels done ++ loads_from 0 levels term) (loads_of levels rest))) both

-- ---- the lists of a term that is given as a slice

pub reads_of : (tells : Type 0) (levels : List Tables) (slice term : List ℕ) → slice ≡ term → (old new : DiskState) → Reads tells (load_sizes (loads_from 0 levels slice)) old new → Reads tells (load_sizes (loads_from 0 levels term)) old new
reads_of tells levels slice term same old new reads = subst (λ (t : List ℕ). Reads tells (load_sizes (loads_from 0 levels t)) old new) same reads

pub told_of : {X : Type 0} (levels : List Tables) (slice term : List ℕ) → slice ≡ term → (image : List ℕ) (x : X) → Tells {X = X} image (loads_from 0 levels slice) (Ok x) → Tells {X = Unit {0}} image (loads_from 0 levels term) (Ok tt)
told_of {X} levels slice term same image x told =
    subst (λ (t : List ℕ). Tells {X = Unit {0}} image (loads_from 0 levels t) (Ok tt)) same (tells_value {X = X} {Y = Unit {0}} image (loads_from 0 levels slice) x tt told)

-- the term and its levels
pub key_is : (levels : List Tables) (newest : Content) (slice term : List ℕ) → slice ≡ term → (lists : TermLists) (coded : List LevelList) (number : ℕ) → lists.term ≡ term → map level_in coded ≡ map number_of (loads_from 0 levels slice)
    → number ≡ length levels → map level_in lists.levels.items ≡ map level_in coded ++ number_if_some number (locations_of newest.lists term) → key_of lists ≡ term_key levels newest term
key_is levels newest slice term same lists coded number here numbers many all =
    let f : List ℕ → List ℕ → TermKey = λ t ns. record { term = t; levels = ns } in
    let behind = locations_of newest.lists term in
    ap (λ (t : List ℕ). f t (map level_in lists.levels.items)) here
    ∙ ap (f term) (all ∙ ap (λ (ns : List ℕ). ns ++ number_if_some number behind) (numbers ∙ ap (λ (t : List ℕ). map number_of (loads_from 0 levels t)) same)
    ∙ ap (λ (n : ℕ). map number_of (loads_from 0 levels term) ++ number_if_some n behind) many)
