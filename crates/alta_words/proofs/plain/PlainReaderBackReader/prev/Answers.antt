use Rattle.std.proofs.Common.{◌≡◌, ◌+◌, ◌-◌, sym, ap, ◌∙◌, arith}
use Rattle.std.specs.Prelude.{slice_index_or}
use Rattle.alta_codec.specs.Rising.{pred_of}
use Rattle.alta_codec.specs.declared.location.TheConstants.{TOP}
use Rattle.alta_codec.proofs.ByIndex.{pred_of-at, pred_of-at_start}
use Rattle.alta_words.proofs.plain.PlainReaderBackReader.prev.Goals as goal

pub returns-then-self-eq0 : goal.returns-then-self-eq0
returns-then-self-eq0 c =
    sym (ap (λ i. pred_of c.args.self.now.list.now (slice_index_or c.args.self.now.list.now i TOP)) c.if-self-eq0.true
    ∙ pred_of-at_start c.args.self.now.list.now c.requires.0)

pub returns-else-self-eq0 : goal.returns-else-self-eq0
returns-else-self-eq0 c =
    let e : (c.args.self.now.at - 1) + 1 ≡ c.args.self.now.at = omega arith in
    sym (ap (λ i. pred_of c.args.self.now.list.now (slice_index_or c.args.self.now.list.now i TOP)) (sym e)
    ∙ pred_of-at c.args.self.now.list.now (c.args.self.now.at - 1) c.requires.0 (omega arith))
