-- A stream that is read to its end, beside its summary and the documents.
use Rattle.std.specs.Prelude.{◌↔◌, ℕ, List, Result, IfOk, IfErr, IsTrue}
use Rattle.alta_postings.specs.Deltas.{decoded_list}
use Rattle.alta_words.specs.declared.checking.PostingFault.{PostingFault}
use Rattle.alta_words.specs.Fault.{IsPostingFault}
use Rattle.alta_words.specs.Word.{HasBounds, IsPosting}
use Rattle.alta_level.specs.declared.walking.Walked.{Walked}

-- On Ok stream and summary belong together, the list has these bounds, and it is told whether the list fits the documents; on Err it is
-- their first fault.
pub record Walks (stream summary : List ℕ) (Fits : Type 0) (result : Result Walked PostingFault) : Type 0 where
  pub posting : IfOk result (λ walked. IsPosting stream summary walked.bounds.rows)
  pub bounds : IfOk result (λ walked. HasBounds (decoded_list stream) walked.bounds.count
      walked.bounds.first walked.bounds.last)
  pub fits : IfOk result (λ walked. IsTrue walked.fits ↔ Fits)
  pub fault : IfErr result (IsPostingFault stream summary)
