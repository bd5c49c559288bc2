use Rattle.std.proofs.Common.{◌≡◌, ℕ, ◌+◌, ◌≤◌, List, ◌++◌, length, sym, ◌∙◌, ap, subst, arith, rules}
use Rattle.std.specs.Prelude.{OnOk}
use Rattle.alta_disk.specs.Disk.{Holds, Passes, Torn}
use Rattle.alta_journal.proofs.Ahead.{holds_both, more_stands, passes_more, passes_wide, stands_before}
use Rattle.alta_journal.specs.Journal.{HasBytes, bytes_ahead}
use Rattle.alta_journal.proofs.appending.put_bodies.Goals as goal

pub returns-in_err-put_body-clause-puts : goal.returns-in_err-put_body-clause-puts
returns-in_err-put_body-clause-puts g c =
    let n = length c.args.bytes.now in
    let le : n ≤ n + length (bytes_ahead c.args.next.now) = omega arith in
    record { images = passes_wide c.args.at n (n + length (bytes_ahead c.args.next.now)) _ _ le c.put_body.ensures.puts.images; charges = search rules }

pub returns-in-Some-clause-puts : goal.returns-in-Some-clause-puts
returns-in-Some-clause-puts g c =
    let same : c.bytes.result.now ≡ bytes_ahead c.args.next.now = c.bytes.ensures.bytes ∙ ap bytes_ahead (sym c.in-Some.is) in
    record {
      images = subst (λ (n : ℕ). Passes (Torn c.args.at (length c.args.bytes.now + n)) (g.D.Disk.state c.args.disk.now) (g.D.Disk.state c.write.new.self)) (ap length same)
          (passes_more c.args.at (length c.args.bytes.now) (length c.bytes.result.now) _ _ _ c.put_body.ensures.puts.images c.write.ensures.images);
      charges = search rules;
    }

-- the body, and then what is ahead
pub returns-in-Some-clause-written : goal.returns-in-Some-clause-written
returns-in-Some-clause-written g c = λ told.
    let same : c.bytes.result.now ≡ bytes_ahead c.args.next.now = c.bytes.ensures.bytes ∙ ap bytes_ahead (sym c.in-Some.is) in
    subst (λ (l : List ℕ). OnOk c.write.result (Holds (g.D.Disk.state c.args.disk.now).content c.args.at (c.args.bytes.now ++ l) (g.D.Disk.state c.write.new.self).content)) same
    (holds_both c.args.at c.args.bytes.now c.bytes.result.now c.write.result _ _ _ (c.requires.inside told) (c.in_ok-put_body.ensures.written told) (c.write.ensures.written told))

pub returns-in-Some-clause-stands : goal.returns-in-Some-clause-stands
returns-in-Some-clause-stands g c =
    stands_before c.args.at c.args.bytes.now c.bytes.result.now c.write.result g.D.Disk.tells _ _ (g.met.D.Disk.lawful c.write.new.self) c.in_ok-put_body.ensures.stands c.write.ensures.images

pub returns-in-Some-clause-next : goal.returns-in-Some-clause-next
returns-in-Some-clause-next g c = λ told.
    let same : c.bytes.result.now ≡ bytes_ahead c.args.next.now = c.bytes.ensures.bytes ∙ ap bytes_ahead (sym c.in-Some.is) in
    subst (λ (l : List ℕ). OnOk c.write.result (HasBytes (c.args.at + length c.args.bytes.now) l (g.D.Disk.state c.write.new.self).content)) same
    (more_stands c.args.at c.args.bytes.now c.bytes.result.now c.write.result _ _ _ (c.requires.inside told) (c.in_ok-put_body.ensures.written told) (c.write.ensures.written told))
