use Rattle.std.proofs.Common.{◌≡◌, ℕ, ◌-◌, ◌<◌, ◌^◌, Bool, not, if◌then◌else◌, List, [], ◌∷◌, ◌++◌, length, drop, ap, ◌∙◌, arith}
use Rattle.std.proofs.lemmas.List.{length-append, length-drop}
use Rattle.std.proofs.lemmas.List.Elements.{All-from_get_or}
use Rattle.alta_codec.specs.Numbers.{number_bytes}
use Rattle.alta_content.specs.TermList.{TermList}
use Rattle.alta_content.specs.Packed.{Fits, list_gaps, row_bytes}
use Rattle.alta_content.proofs.Packs.{few_lists, put_behind}
use Rattle.alta_content.proofs.term_lists.TermLists.put.Goals as goal

pub overflow_add-self : goal.overflow_add-self
overflow_add-self c =
    let s = c.self.inside in
    let few = few_lists s.count (drop s.row s.rows.items) (drop s.gap s.gaps.items) c.self.invariant.0 in
    omega (arith, few, length-drop s.row s.rows.items)

-- the list that is put
abbrev list : goal.After-self-1 → TermList
list c = record { term = c.args.term.now; locations = c.args.locations.now }

-- its gaps are behind those of before
gaps_then : (c : goal.After-self-1) → c.put_gaps.new.gaps.items ≡ c.self.inside.gaps.items ++ list_gaps (list c)
gaps_then c = c.in_ok-put_gaps.ensures

-- and its row behind the others
rows_then : (c : goal.After-self-1) → c.put_row.new.rows.items ≡ c.self.inside.rows.items ++ row_bytes (list c)
rows_then c =
    let s = c.self.inside in
    let bytes : c.len.result - c.len-gaps.result ≡ length (list_gaps (list c)) =
    omega (arith, c.len.ensures, c.len-gaps.ensures, ap (λ (x : List ℕ). length x) (gaps_then c), length-append s.gaps.items (list_gaps (list c))) in
    let front = number_bytes (length c.args.term.now) in
    let count = number_bytes (length c.args.locations.now) in
    c.put_row.ensures
    ∙ ap (λ (b : Bool). if b then s.rows.items ++ (front ++ (c.args.term.now ++ (count ++ number_bytes (c.len.result - c.len-gaps.result)))) else s.rows.items) (c.is_err.ensures.negation ∙ ap not c.if-is_err.false)
    ∙ ap (λ (n : ℕ). s.rows.items ++ (front ++ (c.args.term.now ++ (count ++ number_bytes n)))) bytes

fits : (c : goal.After-self-1) → Fits (list c)
fits c =
    record {
      term = omega arith;
      count = omega arith;
      gaps = omega (arith, ap (λ (x : List ℕ). length x) (gaps_then c), length-append c.self.inside.gaps.items (list_gaps (list c)));
      locations = All-from_get_or (λ x. x < 2 ^ 64) c.args.locations.now 0 (λ i l. omega (arith, c.type_inv.locations i));
    }

pub invariant_of-self-2 : goal.invariant_of-self-2
invariant_of-self-2 c =
    let s = c.self.inside in
    (put_behind s.count s.row s.gap s.rows.items c.put_row.new.rows.items s.gaps.items c.put_gaps.new.gaps.items (list c) c.self.invariant.0 c.self.invariant.1 c.self.invariant.2 (rows_then c) (gaps_then c) (fits c)).1

pub returns : goal.returns
returns c =
    let s = c.self.inside in
    record {
      pushed = (put_behind s.count s.row s.gap s.rows.items c.put_row.new.rows.items s.gaps.items c.put_gaps.new.gaps.items (list c) c.self.invariant.0 c.self.invariant.1 c.self.invariant.2 (rows_then c) (gaps_then c) (fits c)).0
          ∙ ap (λ (ls : List TermList). ls ++ list c ∷ []) c.self.view_is;
      kept = tt;
    }
