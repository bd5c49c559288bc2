use Rattle.std.proofs.Common.{ℕ, List, ap, ◌∙◌}
use Rattle.alta_codec.specs.Rising.{pred_of}
use Rattle.alta_codec.specs.declared.location.TheConstants.{TOP}
use Rattle.alta_postings.specs.Deltas.{decoded_list}
use Rattle.alta_words.proofs.Stands.{last_of}
use Rattle.alta_words.proofs.posting.Posting.last.Goals as goal

pub returns : goal.returns
returns c =
    let s = c.self.inside in
    c.self.invariant.1.last_is ∙ last_of (decoded_list s.stream.items) c.self.invariant.0.spelled.rising ∙ ap (λ (xs : List ℕ). pred_of xs TOP) c.self.view_is
