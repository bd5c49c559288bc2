use Rattle.std.proofs.Common.{ℕ, List, ap, sym, ◌∙◌}
use Rattle.alta_codec.specs.Rising.{pred_of}
use Rattle.alta_codec.specs.declared.location.TheConstants.{TOP}
use Rattle.alta_postings.specs.Deltas.{decoded_list}
use Rattle.alta_words.proofs.Stands.{last_of}
use Rattle.alta_words.proofs.posting.Posting.reader.Goals as goal

pub new-requires-clause-end : goal.new-requires-clause-end
new-requires-clause-end g c =
    let s = c.self.inside in
    c.self.invariant.1.last_is ∙ last_of (decoded_list s.stream.items) c.self.invariant.0.spelled.rising
    ∙ ap (λ (bytes : List ℕ). pred_of (decoded_list bytes) TOP) (sym (c.of-stream.ensures ∙ c.deref.ensures.value))
