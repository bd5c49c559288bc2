use Rattle.std.proofs.Common.{◌≡◌, ℕ, ◌-◌, List, drop, subst, ap, ◌∙◌, arith}
use Rattle.alta_content.specs.TermList.{TermList}
use Rattle.alta_content.specs.Packed.{Packs, lists_in, row_in}
use Rattle.alta_content.proofs.Packs.{drop_again, skipped}
use Rattle.alta_content.proofs.term_lists.TermLists.skip.Goals as goal

-- the rows that are left
abbrev rows : goal.After-self-3-1 → List ℕ
rows c = drop c.give_back-self-inside.result c.give_back-self-inside.new.bytes.items

-- and the gaps
abbrev gaps : goal.After-self-3-1 → List ℕ
gaps c = drop c.give_back-self-inside-2.result c.give_back-self-inside-2.new.bytes.items

-- the rows stand behind the first
rows_behind : (c : goal.After-self-3-1) → rows c ≡ (row_in (drop c.self.inside.row c.self.inside.rows.items)).behind
rows_behind c =
    c.give_back-self-inside.ensures.left
    ∙ subst (λ (rows : List ℕ). drop c.row_at-row.result.behind rows ≡ (row_in (drop c.self.inside.row rows)).behind) c.deref.ensures.value c.row_at-row.ensures.behind

-- the gaps stand behind those of the first list
gaps_behind : (c : goal.After-self-3-1) → gaps c ≡ drop (row_in (drop c.self.inside.row c.self.inside.rows.items)).gaps (drop c.self.inside.gap c.self.inside.gaps.items)
gaps_behind c =
    let s = c.self.inside in
    c.give_back-self-inside-2.ensures.left
    ∙ drop_again s.gap c.row_at-row.result.gaps c.min-behind.result s.gaps.items (omega (arith, c.min-behind.ensures, c.saturating_add-behind.ensures, c.len.ensures))
    ∙ ap (λ (n : ℕ). drop n (drop s.gap s.gaps.items)) (c.row_at-row.ensures.gaps ∙ ap (λ (rows : List ℕ). (row_in (drop s.row rows)).gaps) c.deref.ensures.value)

left : (c : goal.After-self-3-1) → (lists_in (c.self.inside.count - 1) (rows c) (gaps c) ≡ drop 1 (lists_in c.self.inside.count (drop c.self.inside.row c.self.inside.rows.items) (drop c.self.inside.gap c.self.inside.gaps.items)))
    × Packs (rows c) (gaps c) (lists_in (c.self.inside.count - 1) (rows c) (gaps c))
left c =
    let s = c.self.inside in
    skipped s.count (drop s.row s.rows.items) (drop s.gap s.gaps.items) (rows c) (gaps c) (omega arith) c.self.invariant.0 (rows_behind c) (gaps_behind c)

pub invariant_of-self : goal.invariant_of-self
invariant_of-self c = ((left c).1, c.give_back-self-inside.ensures.within, c.give_back-self-inside-2.ensures.within)

pub returns : goal.returns
returns c = (left c).0 ∙ ap (λ (ls : List TermList). drop 1 ls) c.self.view_is
