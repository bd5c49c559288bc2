use Rattle.std.proofs.Common.{◌≡◌, ◌+◌, ◌<◌, ◌≤◌, ℕ, List, [], ◌∷◌, ◌++◌, drop, length, take, refl, sym, subst, ap, ◌∙◌, arith, length-drop}
use Rattle.std.proofs.lemmas.List.{drop-drop, length-take}
use Rattle.alta_codec.specs.declared.extent.Extent.{Extent}
use Rattle.alta_content.specs.TermList.{TermList}
use Rattle.alta_level.specs.Damage.{IsFaultInLists, stored_at}
use Rattle.alta_level.specs.Stored.{IsListFault, IsListOf}
use Rattle.alta_level.proofs.Progress.{Progress, ends_read, faulty, fits, goes_on}
use Rattle.alta_table.specs.Tables.{Tables}
use Rattle.alta_table.specs.Terms.{data_of}
use Rattle.alta_table.specs.declared.term.TermRow.{TermRow}
use Rattle.alta_joins.specs.Contents.{list_at}
use Rattle.alta_joins.specs.Reading.{rows_between}
use Rattle.alta_joins.proofs.FaultLaws.{fault_goes}
use Rattle.alta_joins.proofs.RowSteps.{cursor_row, drop-all, next_row, row_of}
use Rattle.alta_joins.proofs.level.lists_in.Goals as goal

-- the list of the next row stands in front of the bytes that are left
next_here : (level : Tables) (from to : ℕ) → to ≤ length level.terms → (bytes : List ℕ) (place : ℕ) (read : List TermList) (i front : ℕ) (all rest : List ℕ) (at : ℕ) → rest ≡ drop front all
    → Progress level.documents (rows_between level from to) bytes place read (rows_between level i to) (drop front all) at → i < to
    → Progress level.documents (rows_between level from to) bytes place read (row_of level.terms i ∷ rows_between level (i + 1) to) rest at
next_here level from to within bytes place read i front all rest at here h some =
    next_row level.documents level.terms (rows_between level from to) to within bytes place read i rest at
    (subst (λ (b : List ℕ). Progress level.documents (rows_between level from to) bytes place read (rows_between level i to) b at) (sym here) h) some

pub put_row-requires-clause-whole : goal.put_row-requires-clause-whole
put_row-requires-clause-whole c =
    let level : Tables = c.args.level.now in let i = c.loop-row.row in let read = c.loop-row.lists in let at = c.loop-row.at in let rest = c.split_at.result.1.now in
    let to = c.args.to in let rows : List TermRow = rows_between level c.args.from to in
    let some : i < to = omega arith in
    let row : TermRow = row_of level.terms i in
    let behind : List TermRow = rows_between level (i + 1) to in
    let here = c.split_at.ensures.back ∙ ap (λ (b : List ℕ). drop c.loop-row.front b) c.deref.ensures.value in
    let next = next_here level c.args.from to c.requires.within c.args.bytes.items c.args.place read i c.loop-row.front c.loop-row.rest.items rest at here c.loop-row.invariant.read some in
    let same = cursor_row c.loop-row.cursor level i c.loop-row.invariant.tables (c.loop-row.invariant.here some) in
    let long = fits level.documents rows c.args.bytes.items c.args.place read row behind rest at next in
    subst (λ (r : TermRow). r.stream + r.summary ≤ length rest) (sym same) long

pub put_row-requires-clause-below : goal.put_row-requires-clause-below
put_row-requires-clause-below c =
    let level : Tables = c.args.level.now in let i = c.loop-row.row in let read = c.loop-row.lists in let at = c.loop-row.at in let rest = c.split_at.result.1.now in
    let to = c.args.to in let rows : List TermRow = rows_between level c.args.from to in
    let some : i < to = omega arith in
    let row : TermRow = row_of level.terms i in
    let behind : List TermRow = rows_between level (i + 1) to in
    let here = c.split_at.ensures.back ∙ ap (λ (b : List ℕ). drop c.loop-row.front b) c.deref.ensures.value in
    let next = next_here level c.args.from to c.requires.within c.args.bytes.items c.args.place read i c.loop-row.front c.loop-row.rest.items rest at here c.loop-row.invariant.read some in
    next.below

pub returns-in-Err-clause-first : goal.returns-in-Err-clause-first
returns-in-Err-clause-first c =
    let level : Tables = c.args.level.now in let i = c.loop-row.row in let read = c.loop-row.lists in let at = c.loop-row.at in let rest = c.split_at.result.1.now in
    let to = c.args.to in let rows : List TermRow = rows_between level c.args.from to in
    let some : i < to = omega arith in
    let row : TermRow = row_of level.terms i in
    let behind : List TermRow = rows_between level (i + 1) to in
    let here = c.split_at.ensures.back ∙ ap (λ (b : List ℕ). drop c.loop-row.front b) c.deref.ensures.value in
    let next = next_here level c.args.from to c.requires.within c.args.bytes.items c.args.place read i c.loop-row.front c.loop-row.rest.items rest at here c.loop-row.invariant.read some in
    let same = cursor_row c.loop-row.cursor level i c.loop-row.invariant.tables (c.loop-row.invariant.here some) in
    fault_goes Unit (List TermList) c.in-Err.fault (IsListFault level.documents (stored_at (row_of c.loop-row.cursor.tables.terms c.loop-row.cursor.row) rest at)) (IsFaultInLists level.documents rows c.args.bytes.items c.args.place)
    (λ p f. faulty level.documents rows c.args.bytes.items c.args.place read row behind rest at next p (subst (λ (r : TermRow). IsListFault level.documents (stored_at r rest at) p) same f))
    c.in-Err.ensures.first

pub overflow_add-front : goal.overflow_add-front
overflow_add-front c =
    let level : Tables = c.args.level.now in let i = c.loop-row.row in let read = c.loop-row.lists in let at = c.loop-row.at in let rest = c.split_at.result.1.now in
    let to = c.args.to in let rows : List TermRow = rows_between level c.args.from to in
    let some : i < to = omega arith in
    let row : TermRow = row_of level.terms i in
    let behind : List TermRow = rows_between level (i + 1) to in
    let here = c.split_at.ensures.back ∙ ap (λ (b : List ℕ). drop c.loop-row.front b) c.deref.ensures.value in
    let next = next_here level c.args.from to c.requires.within c.args.bytes.items c.args.place read i c.loop-row.front c.loop-row.rest.items rest at here c.loop-row.invariant.read some in
    let same = cursor_row c.loop-row.cursor level i c.loop-row.invariant.tables (c.loop-row.invariant.here some) in
    let len : c.stream_place.result.0.bytes + c.stream_place.result.1.bytes ≡ data_of row = omega (arith, ap (λ (e : Extent). e.bytes) c.stream_place.ensures.stream, ap (λ (e : Extent). e.bytes) c.stream_place.ensures.summary, ap data_of same) in
    let long = fits level.documents rows c.args.bytes.items c.args.place read row behind rest at next in
    omega (arith, len, long, ap (λ (b : List ℕ). length b) here, length-drop c.loop-row.front c.loop-row.rest.items, c.loop-row.invariant.within, c.loop-row.rest.small, c.loop-row.rest.ok)

pub give_back-front-requires : goal.give_back-front-requires
give_back-front-requires c =
    let level : Tables = c.args.level.now in let i = c.loop-row.row in let read = c.loop-row.lists in let at = c.loop-row.at in let rest = c.split_at.result.1.now in
    let to = c.args.to in let rows : List TermRow = rows_between level c.args.from to in
    let some : i < to = omega arith in
    let row : TermRow = row_of level.terms i in
    let behind : List TermRow = rows_between level (i + 1) to in
    let here = c.split_at.ensures.back ∙ ap (λ (b : List ℕ). drop c.loop-row.front b) c.deref.ensures.value in
    let next = next_here level c.args.from to c.requires.within c.args.bytes.items c.args.place read i c.loop-row.front c.loop-row.rest.items rest at here c.loop-row.invariant.read some in
    let same = cursor_row c.loop-row.cursor level i c.loop-row.invariant.tables (c.loop-row.invariant.here some) in
    let len : c.stream_place.result.0.bytes + c.stream_place.result.1.bytes ≡ data_of row = omega (arith, ap (λ (e : Extent). e.bytes) c.stream_place.ensures.stream, ap (λ (e : Extent). e.bytes) c.stream_place.ensures.summary, ap data_of same) in
    let long = fits level.documents rows c.args.bytes.items c.args.place read row behind rest at next in
    omega (arith, len, long, ap (λ (b : List ℕ). length b) here, length-drop c.loop-row.front c.loop-row.rest.items, c.loop-row.invariant.within)

pub overflow_add-at : goal.overflow_add-at
overflow_add-at c =
    let level : Tables = c.args.level.now in let i = c.loop-row.row in let read = c.loop-row.lists in let at = c.loop-row.at in let rest = c.split_at.result.1.now in
    let to = c.args.to in let rows : List TermRow = rows_between level c.args.from to in
    let some : i < to = omega arith in
    let row : TermRow = row_of level.terms i in
    let behind : List TermRow = rows_between level (i + 1) to in
    let here = c.split_at.ensures.back ∙ ap (λ (b : List ℕ). drop c.loop-row.front b) c.deref.ensures.value in
    let next = next_here level c.args.from to c.requires.within c.args.bytes.items c.args.place read i c.loop-row.front c.loop-row.rest.items rest at here c.loop-row.invariant.read some in
    let same = cursor_row c.loop-row.cursor level i c.loop-row.invariant.tables (c.loop-row.invariant.here some) in
    let len : c.stream_place.result.0.bytes + c.stream_place.result.1.bytes ≡ data_of row = omega (arith, ap (λ (e : Extent). e.bytes) c.stream_place.ensures.stream, ap (λ (e : Extent). e.bytes) c.stream_place.ensures.summary, ap data_of same) in
    let long = fits level.documents rows c.args.bytes.items c.args.place read row behind rest at next in
    omega (arith, len, long, next.below)

pub loop-row-preserved : goal.loop-row-preserved
loop-row-preserved c =
    let level : Tables = c.args.level.now in let i = c.loop-row.row in let read = c.loop-row.lists in let at = c.loop-row.at in let rest = c.split_at.result.1.now in
    let to = c.args.to in let rows : List TermRow = rows_between level c.args.from to in
    let some : i < to = omega arith in
    let row : TermRow = row_of level.terms i in
    let behind : List TermRow = rows_between level (i + 1) to in
    let here = c.split_at.ensures.back ∙ ap (λ (b : List ℕ). drop c.loop-row.front b) c.deref.ensures.value in
    let next = next_here level c.args.from to c.requires.within c.args.bytes.items c.args.place read i c.loop-row.front c.loop-row.rest.items rest at here c.loop-row.invariant.read some in
    let same = cursor_row c.loop-row.cursor level i c.loop-row.invariant.tables (c.loop-row.invariant.here some) in
    let len : c.stream_place.result.0.bytes + c.stream_place.result.1.bytes ≡ data_of row = omega (arith, ap (λ (e : Extent). e.bytes) c.stream_place.ensures.stream, ap (λ (e : Extent). e.bytes) c.stream_place.ensures.summary, ap data_of same) in
    let list : TermList = list_at row rest in
    let put : c.put_row.new.lists ≡ read ++ list ∷ [] = c.in-Ok.ensures.put ∙ ap (λ (r : TermRow). read ++ list_at r rest ∷ []) same in
    let left : drop c.give_back-front.result c.give_back-front.new.bytes.items ≡ drop (data_of row) rest =
    c.give_back-front.ensures.left
    ∙ ap (λ (k : ℕ). drop (c.loop-row.front + k) c.loop-row.rest.items) len
    ∙ sym (drop-drop (data_of row) c.loop-row.front c.loop-row.rest.items)
    ∙ ap (λ (b : List ℕ). drop (data_of row) b) (sym here) in
    record {
      read =
          goes_on level.documents rows c.args.bytes.items c.args.place read row behind rest at next
          list c.put_row.new.lists (drop c.give_back-front.result c.give_back-front.new.bytes.items) _ refl
          (subst (λ (r : TermRow). IsListOf level.documents (stored_at r rest at) (list_at r rest).locations) same c.in-Ok.ensures.found) put
          left (ap (λ (k : ℕ). at + k) len);
      within = c.give_back-front.ensures.within;
      tables = c.next.ensures.tables ∙ c.loop-row.invariant.tables;
      here = λ more.
          let size : length c.loop-row.cursor.tables.terms ≡ length level.terms = ap (λ (t : Tables). length t.terms) c.loop-row.invariant.tables in
          omega (arith, c.loop-row.invariant.here some, c.next.ensures.row (omega (arith, more, c.loop-row.invariant.here some, size)));
    }

pub returns-clause-found : goal.returns-clause-found
returns-clause-found c =
    let level : Tables = c.args.level.now in let i = c.loop-row.row in let rest = drop c.loop-row.front c.loop-row.rest.items in
    let to = c.args.to in let rows : List TermRow = rows_between level c.args.from to in
    ends_read level.documents rows c.args.bytes.items c.args.place c.loop-row.lists rest c.loop-row.at
    (subst (λ (left : List TermRow). Progress level.documents rows c.args.bytes.items c.args.place c.loop-row.lists left rest c.loop-row.at)
    (drop-all i (take to level.terms) (omega (arith, length-take to level.terms))) c.loop-row.invariant.read)
