use Rattle.std.proofs.Common.{◌≡◌, ◌∷◌, [], ◌++◌, Some, None, ap, sym, ◌∙◌, arith, rules, length, ◌<◌}
use Rattle.std.proofs.lemmas.Map.Views.{All-values-set_value, All-values-PutsEntry}
use Rattle.std.specs.Map.{lookup}
use Rattle.alta_memlevel.proofs.Keyed.{is_term, list_in-updates, list_in-found}
use Rattle.alta_memlevel.specs.Lists.{list_in, same_key}
use Rattle.alta_memlevel.proofs.lists.put.Goals as goal

pub returns-in-Some : goal.returns-in-Some
returns-in-Some c =
    let v = c.push.new.self in
    let one : 0 < length v.items = rw c.in_ok-push.ensures.items (grind arith) in
    let found : Some c.in-Some.list.now ≡ lookup (is_term c.args.term.now) c.args.lists.now.entries = search rules in
    let grown : v.items ≡ list_in c.args.lists.now.entries c.args.term.now ++ c.args.location ∷ [] =
    c.in_ok-push.ensures.items ∙ ap (λ l. l ++ c.args.location ∷ []) (sym (list_in-found c.args.term.now c.args.lists.now.entries (Some c.in-Some.list.now) found)) in
    record {
      index = record {
        apart = (c.get_mut.follows.holds v).4;
        none_empty = rw (c.get_mut.follows.holds v).0
            (All-values-set_value (is_term c.args.term.now) (λ xs. 0 < length xs.items) c.args.lists.now.entries v c.requires.none_empty one);
      };
      added = list_in-updates c.args.term.now c.args.lists.now (c.get_mut.follows.lender v) v c.args.location ((c.get_mut.follows.holds v).3 (search rules)) grown;
    }

-- a term that is new has its first location
pub returns : goal.returns
returns c =
    let found : None ≡ lookup (is_term c.args.term.now) c.args.lists.now.entries = search rules in
    let new : list_in c.args.lists.now.entries c.args.term.now ≡ [] = list_in-found c.args.term.now c.args.lists.now.entries None found in
    let one : 0 < length c.in_ok-list.list.items = rw c.in_ok-list.ensures.items (omega arith) in
    let e : c.in_ok-key.key.items ≡ c.args.term.now = c.in_ok-key.ensures.items in
    let at : list_in c.args.lists.now.entries c.in_ok-key.key.items ≡ [] = ap (λ t. list_in c.args.lists.now.entries t) e ∙ new in
    let grown : c.in_ok-list.list.items ≡ list_in c.args.lists.now.entries c.in_ok-key.key.items ++ c.args.location ∷ [] = rw at c.in_ok-list.ensures.items in
    let before = c.get_mut.follows.holds-at-none in
    record {
      index = record {
        apart = c.in_ok-insert.ensures.unique;
        none_empty = All-values-PutsEntry same_key (λ xs. 0 < length xs.items) c.args.lists.now c.insert.new.self c.in_ok-key.key c.in_ok-list.list
            c.in_ok-insert.field-0 (rw (sym before) c.in_ok-insert.ensures.entries) c.requires.none_empty one;
      };
      added = λ other. rw (← e) (list_in-updates c.in_ok-key.key.items c.args.lists.now c.insert.new.self c.in_ok-list.list c.args.location (rw (sym before) c.in_ok-insert.ensures.updates) grown other);
    }
