use Rattle.std.proofs.Common.{◌≡◌, ℕ, List, ◌++◌, drop, refl, sym, subst, ap, ◌∙◌}
use Rattle.alta_content.specs.Fronts.{front_locations, front_term}
use Rattle.alta_content.specs.TermList.{TermList}
use Rattle.alta_level.specs.Segments.{list_bytes, row_of}
use Rattle.alta_table.specs.Terms.{entry_bytes}
use Rattle.alta_level.proofs.Entries.{Leaves, first_rises, front_same, leaves_none, leaves_rest}
use Rattle.alta_level.proofs.building.put_lists.Goals as goal

pub put_one-requires : goal.put_one-requires
put_one-requires c =
    let left = c.loop-term.left in (
      front_locations left,
      first_rises c.args.lists c.args.terms.now.items c.args.streams.now.items c.loop-term.terms.items c.loop-term.streams.items c.loop-term.before.items left c.loop-term.invariant c.in-Some.ensures.0,
      c.first_packed-list.ensures,
    )

pub loop-term-preserved : goal.loop-term-preserved
loop-term-preserved c =
    let left = c.loop-term.left in
    let terms = c.loop-term.terms.items in
    let streams = c.loop-term.streams.items in
    let before = c.loop-term.before.items in
    let locations = front_locations left in
    let rises = first_rises c.args.lists c.args.terms.now.items c.args.streams.now.items terms streams before left c.loop-term.invariant c.in-Some.ensures.0 in
    let list : TermList = record { term = c.in-Some.term.now; locations = locations } in
    let same = front_same c.in-Some.term.now locations left c.in-Some.ensures.1 refl in
    let next : c.extend_from_slice.new.self.items ≡ front_term left =
    c.in_ok-extend_from_slice.ensures.items ∙ ap (λ (x : List ℕ). x ++ c.in-Some.term.now) c.clear.ensures.items ∙ c.in-Some.ensures.1 in
    let spelled = leaves_rest c.args.lists c.args.terms.now.items c.args.streams.now.items terms streams before left c.put_one.new.terms.items c.put_one.new.streams.items c.loop-term.invariant c.in-Some.ensures.0
    (c.in_ok-put_one.ensures.terms locations rises c.first_packed-list.ensures
    ∙ ap (λ (x : List ℕ). terms ++ entry_bytes x (row_of list)) c.deref.ensures.value ∙ ap (λ (l : TermList). terms ++ entry_bytes before (row_of l)) same)
    (c.in_ok-put_one.ensures.streams locations rises c.first_packed-list.ensures ∙ ap (λ (l : TermList). streams ++ list_bytes l) same) in
    subst (λ (x : List TermList). Leaves c.args.lists c.args.terms.now.items c.args.streams.now.items c.put_one.new.terms.items c.put_one.new.streams.items c.extend_from_slice.new.self.items x) (sym c.skip.ensures)
    (subst (λ (x : List ℕ). Leaves c.args.lists c.args.terms.now.items c.args.streams.now.items c.put_one.new.terms.items c.put_one.new.streams.items x (drop 1 left)) (sym next) spelled)

pub returns-clause-terms : goal.returns-clause-terms
returns-clause-terms c =
    (leaves_none c.args.lists c.args.terms.now.items c.args.streams.now.items c.loop-term.terms.items c.loop-term.streams.items c.loop-term.before.items
    (subst (λ (x : List TermList). Leaves c.args.lists c.args.terms.now.items c.args.streams.now.items c.loop-term.terms.items c.loop-term.streams.items c.loop-term.before.items x) c.in_default.ensures c.loop-term.invariant)).0

pub returns-clause-streams : goal.returns-clause-streams
returns-clause-streams c =
    (leaves_none c.args.lists c.args.terms.now.items c.args.streams.now.items c.loop-term.terms.items c.loop-term.streams.items c.loop-term.before.items
    (subst (λ (x : List TermList). Leaves c.args.lists c.args.terms.now.items c.args.streams.now.items c.loop-term.terms.items c.loop-term.streams.items c.loop-term.before.items x) c.in_default.ensures c.loop-term.invariant)).1
