use Rattle.std.proofs.Common.{◌≡◌, ◌<◌, List, ℕ, [], true, length, map, get_or, sym, ap, subst, ◌∙◌}
use Rattle.std.specs.Prelude.{All}
use Rattle.std.specs.List.{concat}
use Rattle.std.proofs.lemmas.List.Elements.{All-nil}
use Rattle.alta_codec.specs.Rising.{IsRising}
use Rattle.alta_compile.specs.Space.{document_end}
use Rattle.alta_search.specs.Lists.{AreKeys, IsCut, TermKey, key_of, keys_at, lists_at, term_in, term_lists, test_keys, test_lists}
use Rattle.alta_search.specs.Met.{MeetTest}
use Rattle.alta_search.specs.Newest.{term_meets}
use Rattle.alta_search.specs.View.{IsView, View}
use Rattle.alta_search.specs.declared.lists.TermLists.{TermLists}
use Rattle.alta_search.specs.declared.lists.TestLists.{TestLists}
use Rattle.alta_search.proofs.Cuts.{keys_none}
use Rattle.alta_search.proofs.Uses.{at_index, each_at, read_past, read_used}
use Rattle.alta_search.proofs.snapshot.Snapshot.terms.Goals as goal

module _ (tests : List TestLists) (uses : List ℕ) (at index : ℕ) (v : View) (result : List TermLists) (index_is : index ≡ get_or uses at (length tests)) where
  keys_are : map key_of result ≡ keys_at tests index → map (keys_at tests) uses ≡ v.keys → map key_of result ≡ get_or v.keys at []
  keys_are given view =
      given ∙ ap (keys_at tests) index_is ∙ sym (read_used (keys_at tests) (length tests) [] (read_past test_keys tests []) uses at)
      ∙ ap (λ (ks : List (List TermKey)). get_or ks at []) view

  cuts_are : map term_lists result ≡ lists_at tests index → map (lists_at tests) uses ≡ v.cuts → map term_lists result ≡ get_or v.cuts at []
  cuts_are given view =
      given ∙ ap (lists_at tests) index_is ∙ sym (read_used (lists_at tests) (length tests) [] (read_past test_lists tests []) uses at)
      ∙ ap (λ (cs : List (List (List (List ℕ)))). get_or cs at []) view

none_cut : IsCut []
none_cut = All-nil (λ (levels : List (List ℕ)). All (λ (list : List ℕ). 0 < length list) levels × IsRising (concat levels))

pub returns : goal.returns
returns c =
    let s = c.self.inside in let v = c.args.self.now in let at = c.args.at in let result = c.keyed_terms_at.result.now in
    let is : IsView v = subst IsView c.self.view_is c.self.invariant in
    let index = c.index_at-index.result in let tests = s.tests.items in let uses = s.uses.items in
    let index_is : index ≡ get_or uses at (length tests) =
    c.index_at-index.ensures ∙ ap (λ (us : List ℕ). get_or us at c.len.result) c.deref.ensures.value ∙ ap (λ (n : ℕ). get_or uses at n) (c.len.ensures ∙ sym c.deref-2.ensures.len ∙ ap length c.deref-2.ensures.value) in
    let keys : map key_of result ≡ get_or v.keys at [] =
    keys_are tests uses at index v result index_is (c.keyed_terms_at.ensures.keys ∙ ap (λ (ts : List TestLists). keys_at ts index) c.deref-2.ensures.value) (ap (λ (w : View). w.keys) c.self.view_is) in
    let cuts : map term_lists result ≡ get_or v.cuts at [] =
    cuts_are tests uses at index v result index_is (c.keyed_terms_at.ensures.lists ∙ ap (λ (ts : List TestLists). lists_at ts index) c.deref-2.ensures.value) (ap (λ (w : View). w.cuts) c.self.view_is) in
    record {
      keys = keys;
      cuts = cuts;
      cut = subst IsCut (sym cuts) (at_index IsCut v.cuts [] at none_cut is.cut);
      keyed = subst AreKeys (sym keys) (at_index AreKeys v.keys [] at keys_none is.keyed);
      met = subst (MeetTest (get_or v.tests at document_end)) (sym keys) (each_at MeetTest document_end [] v.tests v.keys at (All-nil (λ (key : TermKey). term_meets document_end (term_in key) ≡ true)) is.met);
    }
