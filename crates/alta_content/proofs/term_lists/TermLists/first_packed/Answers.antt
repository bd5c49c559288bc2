use Rattle.std.proofs.Common.{◌≡◌, ℕ, List, length, drop, take, subst, sym, ap, ◌∙◌, arith}
use Rattle.alta_content.specs.Fronts.{front_locations}
use Rattle.alta_content.specs.TermList.{TermList}
use Rattle.alta_content.specs.Packed.{AreGaps, lists_in, row_in}
use Rattle.alta_content.proofs.Packs.{first_packed}
use Rattle.alta_content.proofs.term_lists.TermLists.first_packed.Goals as goal

pub split_at-requires-2 : goal.split_at-requires-2
split_at-requires-2 c =
    let s = c.self.inside in
    let front = first_packed s.count (drop s.row s.rows.items) (drop s.gap s.gaps.items) (omega arith) c.self.invariant.0 in
    let size : c.row_at-row.result.gaps ≡ (row_in (drop s.row s.rows.items)).gaps = c.row_at-row.ensures.gaps ∙ ap (λ (rows : List ℕ). (row_in (drop s.row rows)).gaps) c.deref.ensures.value in
    let left : c.split_at.result.1.now ≡ drop s.gap s.gaps.items = c.split_at.ensures.back ∙ ap (λ (gaps : List ℕ). drop s.gap gaps) c.deref-2.ensures.value in
    omega (arith, front.0, size, ap (λ (x : List ℕ). length x) left)

pub returns : goal.returns
returns c =
    let s = c.self.inside in
    let rows = drop s.row s.rows.items in
    let front = first_packed s.count rows (drop s.gap s.gaps.items) (omega arith) c.self.invariant.0 in
    let size : c.row_at-row.result.gaps ≡ (row_in rows).gaps = c.row_at-row.ensures.gaps ∙ ap (λ (rows : List ℕ). (row_in (drop s.row rows)).gaps) c.deref.ensures.value in
    let count : c.row_at-row.result.count ≡ (row_in rows).count = c.row_at-row.ensures.count ∙ ap (λ (rows : List ℕ). (row_in (drop s.row rows)).count) c.deref.ensures.value in
    let left : c.split_at.result.1.now ≡ drop s.gap s.gaps.items = c.split_at.ensures.back ∙ ap (λ (gaps : List ℕ). drop s.gap gaps) c.deref-2.ensures.value in
    let gaps : c.split_at-2.result.0.now ≡ take (row_in rows).gaps (drop s.gap s.gaps.items) =
    c.split_at-2.ensures.front ∙ ap (λ (n : ℕ). take n c.split_at.result.1.now) size ∙ ap (λ (x : List ℕ). take (row_in rows).gaps x) left in
    let locations = front_locations (lists_in s.count rows (drop s.gap s.gaps.items)) in
    subst (λ (ls : List TermList). AreGaps c.split_at-2.result.0.now c.row_at-row.result.count (front_locations ls)) c.self.view_is
    (subst (λ (n : ℕ). AreGaps c.split_at-2.result.0.now n locations) (sym count)
    (subst (λ (x : List ℕ). AreGaps x (row_in rows).count locations) (sym gaps) front.1))
