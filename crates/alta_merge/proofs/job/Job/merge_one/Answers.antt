use Rattle.std.proofs.Common.{◌≡◌, ℕ, ◌<◌, ◌++◌, [], List, length, drop, take, refl, sym, ap, subst, ◌∙◌, append_assoc, arith}
use Rattle.std.proofs.lemmas.Bool.{true≢false}
use Rattle.std.proofs.lemmas.List.{length-map}
use Rattle.alta_content.specs.declared.content.Content.{Content}
use Rattle.alta_content.specs.TermList.{TermList}
use Rattle.alta_content.specs.Joining.{gathered, terms_among}
use Rattle.alta_content.specs.Spans.{lists_outside}
use Rattle.alta_merge.specs.Fronts.{AreNext, AreSorted, NoneLeft, behind, behind_next, if_some, next_list, next_term}
use Rattle.alta_merge.proofs.Taken.{IsLeast, outside_next, rises_next, terms_next}
use Rattle.alta_merge.proofs.Takes.{least_of, no_terms, on_error, written}
use Rattle.alta_merge.proofs.job.Job.merge_one.Goals as goal

-- ---- where no list is left

none_left : (c : goal.In_default) → c.args.self.now.left ≡ []
none_left c =
    sym (ap (λ v. v.left) c.self.view_is) ∙ no_terms c.self.inside.rests.items (subst (λ p. NoneLeft p (length p)) c.deref.ensures.value c.in_default.ensures)

pub returns-in_default-clause-left : goal.returns-in_default-clause-left
returns-in_default-clause-left c = subst (λ (l : List (List ℕ)). l ≡ drop 1 l) (sym (none_left c)) refl

pub returns-in_default-clause-some : goal.returns-in_default-clause-some
returns-in_default-clause-some c =
    (λ h. absurd (true≢false (sym h)), λ h. absurd (omega (arith, subst (λ (l : List (List ℕ)). 0 < length l) (none_left c) h)))

-- ---- where there is a next term

pub returns-in_err-merge_next-clause-failed : goal.returns-in_err-merge_next-clause-failed
returns-in_err-merge_next-clause-failed c =
    let parts = c.self.inside.rests.items in
    let next = c.in-Some.next in
    let is : AreNext parts (length parts) next.first next.last = subst (λ p. AreNext p (length p) next.first next.last) c.deref.ensures.value c.in-Some.ensures in
    let more = terms_next (next_term parts next.first) parts (least_of parts next.first c.self.invariant.terms_rise is.next) in
    on_error (0 < length c.args.self.now.left) c.from_residual.result
    (subst (λ (l : List (List ℕ)). 0 < length l) (sym more ∙ ap (λ v. v.left) c.self.view_is) (omega arith))

least : (c : goal.In_ok-merge_next) → IsLeast (next_term c.self.inside.rests.items c.in-Some.next.first) c.self.inside.rests.items
least c =
    let parts = c.self.inside.rests.items in
    let next = c.in-Some.next in
    let is : AreNext parts (length parts) next.first next.last = subst (λ p. AreNext p (length p) next.first next.last) c.deref.ensures.value c.in-Some.ensures in
    least_of parts next.first c.self.invariant.terms_rise is.next

-- what is left is written back
now : (c : goal.In_ok-merge_next) → take c.self.inside.rests.len (c.merge_next.new.rests ++ drop (length c.merge_next.new.rests) c.self.inside.rests.items) ≡ behind_next c.self.inside.rests.items c.in-Some.next.first
now c =
    let parts = c.self.inside.rests.items in
    let next = c.in-Some.next.first in
    let n = c.self.inside.rests.len in
    let is : c.merge_next.new.rests ≡ behind_next parts next = c.in_ok-merge_next.ensures.left ∙ ap (λ p. behind_next p next) c.deref_mut.ensures.value in
    let old : length parts ≡ n = sym c.self.inside.rests.ok.0 in
    let many : length c.merge_next.new.rests ≡ n = ap length is ∙ length-map parts (behind (next_term parts next)) ∙ old in
    written n c.merge_next.new.rests parts many old ∙ is

pub invariant_of-self-2 : goal.invariant_of-self-2
invariant_of-self-2 c =
    let parts = c.self.inside.rests.items in
    subst (AreSorted c.self.inside.spans.items) (sym (now c)) record {
      spans_rise = c.self.invariant.spans_rise;
      terms_rise = rises_next (next_term parts c.in-Some.next.first) parts c.self.invariant.terms_rise;
    }

pub returns-clause-whole : goal.returns-clause-whole
returns-clause-whole c =
    let parts = c.self.inside.rests.items in
    let next = c.in-Some.next.first in
    let spans = c.self.inside.spans.items in
    let made = c.self.inside.made in
    let list = if_some (next_list spans parts next) in
    let rest = lists_outside spans (gathered (behind_next parts next)) in
    let build : List TermList → Content = λ l. record { documents = c.self.inside.rows; lists = l } in
    let pushed : c.merge_next.new.made ≡ made ++ list =
    c.in_ok-merge_next.ensures.made
    ∙ ap (λ s. made ++ if_some (next_list s c.deref_mut.result.now next)) c.deref-2.ensures.value
    ∙ ap (λ p. made ++ if_some (next_list spans p next)) c.deref_mut.ensures.value in
    ap (λ p. build (c.merge_next.new.made ++ lists_outside spans (gathered p))) (now c)
    ∙ ap (λ m. build (m ++ rest)) pushed
    ∙ ap build (append_assoc made list rest)
    ∙ ap (λ l. build (made ++ l)) (sym (outside_next spans (next_term parts next) parts (least c)))
    ∙ ap (λ v. v.whole) c.self.view_is

pub returns-clause-left : goal.returns-clause-left
returns-clause-left c =
    let parts = c.self.inside.rests.items in
    ap terms_among (now c)
    ∙ sym (ap (drop 1) (terms_next (next_term parts c.in-Some.next.first) parts (least c)))
    ∙ ap (λ v. drop 1 v.left) c.self.view_is

pub returns-clause-some : goal.returns-clause-some
returns-clause-some c =
    let parts = c.self.inside.rests.items in
    let more = terms_next (next_term parts c.in-Some.next.first) parts (least c) in
    (λ _. subst (λ (l : List (List ℕ)). 0 < length l) (sym more ∙ ap (λ v. v.left) c.self.view_is) (omega arith), λ _. refl)
