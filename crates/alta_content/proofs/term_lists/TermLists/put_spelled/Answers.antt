use Rattle.std.proofs.Common.{◌≡◌, ℕ, Bool, not, if◌then◌else◌, List, [], ◌∷◌, ◌++◌, length, drop, sym, ap, ◌∙◌, arith}
use Rattle.std.proofs.lemmas.List.{length-drop}
use Rattle.alta_codec.specs.Numbers.{number_bytes}
use Rattle.alta_content.specs.TermList.{TermList}
use Rattle.alta_content.specs.Packed.{AreGaps, Fits, list_gaps, row_bytes}
use Rattle.alta_content.proofs.Packs.{few_lists, put_behind}
use Rattle.alta_content.proofs.term_lists.TermLists.put_spelled.Goals as goal

pub overflow_add-self : goal.overflow_add-self
overflow_add-self c =
    let s = c.self.inside in
    let few = few_lists s.count (drop s.row s.rows.items) (drop s.gap s.gaps.items) c.self.invariant.0 in
    omega (arith, few, length-drop s.row s.rows.items)

-- the list that is put
abbrev list : goal.After-self-1 → List ℕ → TermList
list c locations = record { term = c.args.term.now; locations = locations }

module _ (c : goal.After-self-1) (locations : List ℕ) (are : AreGaps c.args.gaps.now c.args.count locations) where
  -- its gaps are behind those of before
  gaps_then : c.extend_from_slice.new.self.items ≡ c.self.inside.gaps.items ++ list_gaps (list c locations)
  gaps_then = c.in_ok-extend_from_slice.ensures.items ∙ ap (λ (x : List ℕ). c.self.inside.gaps.items ++ x) are.spelled

  -- and its row behind the others
  rows_then : c.put_row.new.rows.items ≡ c.self.inside.rows.items ++ row_bytes (list c locations)
  rows_then =
      let rows = c.self.inside.rows.items in
      let front = number_bytes (length c.args.term.now) in
      let bytes = number_bytes (length c.args.gaps.now) in
      c.put_row.ensures
      ∙ ap (λ (b : Bool). if b then rows ++ (front ++ (c.args.term.now ++ (number_bytes c.args.count ++ bytes))) else rows) (c.is_err.ensures.negation ∙ ap not c.if-is_err.false)
      ∙ ap (λ (n : ℕ). rows ++ (front ++ (c.args.term.now ++ (number_bytes n ++ bytes)))) (sym are.counted)
      ∙ ap (λ (x : List ℕ). rows ++ (front ++ (c.args.term.now ++ (number_bytes (length locations) ++ number_bytes (length x))))) are.spelled

  fits : Fits (list c locations)
  fits = record {
    term = omega arith;
    count = omega (arith, are.counted, c.ranges.count.fits);
    gaps = omega (arith, ap (λ (x : List ℕ). length x) are.spelled);
    locations = are.small;
  }

pub invariant_of-self-2 : goal.invariant_of-self-2
invariant_of-self-2 c =
    let s = c.self.inside in
    (put_behind s.count s.row s.gap s.rows.items c.put_row.new.rows.items s.gaps.items c.extend_from_slice.new.self.items (list c c.requires.0) c.self.invariant.0 c.self.invariant.1 c.self.invariant.2 (rows_then c c.requires.0 c.requires.1) (gaps_then c c.requires.0 c.requires.1) (fits c c.requires.0 c.requires.1)).1

pub returns : goal.returns
returns c = λ locations are. let s = c.self.inside in record {
  pushed =
      (put_behind s.count s.row s.gap s.rows.items c.put_row.new.rows.items s.gaps.items c.extend_from_slice.new.self.items (list c locations) c.self.invariant.0 c.self.invariant.1 c.self.invariant.2 (rows_then c locations are) (gaps_then c locations are) (fits c locations are)).0
      ∙ ap (λ (ls : List TermList). ls ++ list c locations ∷ []) c.self.view_is;
  kept = tt;
}
