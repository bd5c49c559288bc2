use Rattle.std.proofs.Common.{rules, ◌≡◌, ◌∙◌, ◌-◌, ◌<◌, length, get_or, refl, ap, arith}
use Rattle.alta_content.specs.Rows.{ends_of}
use Rattle.alta_level.proofs.Joined.{between_fits, from_first, to_last}
use Rattle.alta_level.proofs.Walks.{ends_many}
use Rattle.alta_level.proofs.walking.are_within.Goals as goal

pub returns-then-bounds-first_at : goal.returns-then-bounds-first_at
returns-then-bounds-first_at c = λ list rises b. (
  λ t. absurd cc,
  λ f.
      let bounds = c.args.bounds.now in
      let least = from_first c.args.documents.now c.requires.documents list bounds.count bounds.first bounds.last rises b (omega (arith, c.if-bounds-eq0.false)) f in
      absurd (omega (arith, least, c.if-bounds-first_at.true, c.first_at.ensures)),
)

pub returns-then-ends-bounds : goal.returns-then-ends-bounds
returns-then-ends-bounds c = λ list rises b. (
  λ t. absurd cc,
  λ f.
      let documents = c.args.documents.now in
      let bounds = c.args.bounds.now in
      let most = to_last documents c.requires.documents list bounds.count bounds.first bounds.last rises b (omega (arith, c.if-bounds-eq0.false)) f in
      let many : length (ends_of documents) - 1 ≡ length documents - 1 = omega (arith, ends_many documents) in
      let end = ap (λ ends. get_or ends (length ends - 1) 0) c.ends-ends.ensures.value ∙ ap (λ i. get_or (ends_of documents) i 0) many in
      absurd (omega (arith, most, end, c.if-ends-bounds.true)),
)

pub returns : goal.returns
returns c = λ list rises b. (
  λ t.
      let documents = c.args.documents.now in
      let bounds = c.args.bounds.now in
      let many : length (ends_of documents) - 1 ≡ length documents - 1 = omega (arith, ends_many documents) in
      let end = ap (λ ends. get_or ends (length ends - 1) 0) c.ends-ends.ensures.value ∙ ap (λ i. get_or (ends_of documents) i 0) many in
      let some : 0 < length c.ends-ends.result.now = search rules in
      let any : 0 < length documents = omega (arith, some, ends_many documents, ap length c.ends-ends.ensures.value) in
      between_fits documents c.requires.documents list bounds.count bounds.first bounds.last rises b c.requires.joined any (omega (arith, c.if-bounds-first_at.false, c.first_at.ensures)) (omega (arith, end, c.if-ends-bounds.false)),
  λ f. refl,
)
