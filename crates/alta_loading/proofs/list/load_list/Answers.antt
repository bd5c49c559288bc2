use Rattle.std.proofs.Common.{◌≡◌, ℕ, ◌+◌, ◌-◌, List, sym, subst, arith}
use Rattle.std.specs.Prelude.{IfOk}
use Rattle.alta_disk.specs.Answers.{IfDamaged, IsDamaged, IsFound}
use Rattle.alta_meaning.specs.Broken.{IsBrokenIn}
use Rattle.alta_level.specs.Stored.{IsListFault, IsListOf, Stored}
use Rattle.alta_loading.proofs.Faults.{damaged_goes}
use Rattle.alta_loading.proofs.Places.{fault_of_level, stored_read}
use Rattle.alta_loading.specs.Lists.{stored_as, stored_in}
use Rattle.alta_words.specs.declared.posting.Posting.{Posting}
use Rattle.alta_loading.proofs.list.load_list.Goals as goal

pub returns-clause-list : goal.returns-clause-list
returns-clause-list g c = λ told.
    let level = c.args.table.now in let row = c.args.row.now.row in let image = (g.D.Disk.state c.args.disk.now).content in
    let size : c.in-Some.end - c.places.result.0.place ≡ c.places.result.0.bytes + c.places.result.1.bytes = omega arith in
    subst (λ (s : Stored). IfOk c.checked.result (λ posting. IsListOf level.documents s posting))
    (stored_read level row _ _ _ image _ _ _ c.places.ensures.stream c.places.ensures.summary size (c.in_ok-bytes.ensures.read told) c.in_ok-behind.ensures.items c.in_ok-behind.ensures.tail)
    c.checked.ensures.list

pub returns-clause-only : goal.returns-clause-only
returns-clause-only g c = λ told.
    let level = c.args.table.now in let row = c.args.row.now.row in let image = (g.D.Disk.state c.args.disk.now).content in
    let size : c.in-Some.end - c.places.result.0.place ≡ c.places.result.0.bytes + c.places.result.1.bytes = omega arith in
    subst (λ (s : Stored). (list : List ℕ) → IsListOf level.documents s list → IsFound (λ (posting : Posting). posting) c.checked.result list)
    (stored_read level row _ _ _ image _ _ _ c.places.ensures.stream c.places.ensures.summary size (c.in_ok-bytes.ensures.read told) c.in_ok-behind.ensures.items c.in_ok-behind.ensures.tail)
    c.checked.ensures.only

pub returns-clause-first : goal.returns-clause-first
returns-clause-first g c = λ told.
    let level = c.args.table.now in let row = c.args.row.now.row in let image = (g.D.Disk.state c.args.disk.now).content in
    let size : c.in-Some.end - c.places.result.0.place ≡ c.places.result.0.bytes + c.places.result.1.bytes = omega arith in
    subst (λ (s : Stored). IfDamaged c.checked.result (IsListFault level.documents s))
    (stored_read level row _ _ _ image _ _ _ c.places.ensures.stream c.places.ensures.summary size (c.in_ok-bytes.ensures.read told) c.in_ok-behind.ensures.items c.in_ok-behind.ensures.tail)
    c.checked.ensures.first

pub returns-clause-damaged : goal.returns-clause-damaged
returns-clause-damaged g c = λ told.
    let level = c.args.table.now in let row = c.args.row.now.row in let image = (g.D.Disk.state c.args.disk.now).content in
    let size : c.in-Some.end - c.places.result.0.place ≡ c.places.result.0.bytes + c.places.result.1.bytes = omega arith in
    subst (λ (s : Stored). (p : ℕ) → IsListFault level.documents s p → IsDamaged c.checked.result p)
    (stored_read level row _ _ _ image _ _ _ c.places.ensures.stream c.places.ensures.summary size (c.in_ok-bytes.ensures.read told) c.in_ok-behind.ensures.items c.in_ok-behind.ensures.tail)
    c.checked.ensures.damaged

pub returns-clause-broken : goal.returns-clause-broken
returns-clause-broken g c = λ told.
    let level = c.args.table.now in let row = c.args.row.now.row in let image = (g.D.Disk.state c.args.disk.now).content in
    damaged_goes c.checked.result (IsListFault level.documents (stored_in level row image)) (IsBrokenIn level image)
    (λ p f. fault_of_level level image row p c.requires.row f) (returns-clause-first g c told)
