use Rattle.std.proofs.Common.{ℕ, List, ◌++◌, length, ap, ◌∙◌, length-append, arith}
use Rattle.alta_level.specs.Coded.{summary_bytes}
use Rattle.alta_level.proofs.StreamGaps.{gaps_spell}
use Rattle.alta_level.proofs.writing.put_list.Goals as goal

pub returns-clause-bytes : goal.returns-clause-bytes
returns-clause-bytes c = λ locations rising are.
    let old = c.args.out.now.items in
    c.in_ok-put_summary.ensures locations rising are
    ∙ ap (λ (x : List ℕ). x ++ summary_bytes locations)
    (c.in_ok-extend_from_slice.ensures.items ∙ ap (λ (x : List ℕ). old ++ x) (gaps_spell c.args.list.gaps.now locations c.args.list.count rising are).spelled)

pub returns-clause-stream : goal.returns-clause-stream
returns-clause-stream c = λ locations rising are. ap length (gaps_spell c.args.list.gaps.now locations c.args.list.count rising are).spelled

pub returns-clause-summary : goal.returns-clause-summary
returns-clause-summary c = λ locations rising are.
    omega (arith, c.len.ensures, c.len-behind.ensures, ap length (c.in_ok-put_summary.ensures locations rising are), length-append c.extend_from_slice.new.self.items (summary_bytes locations))
