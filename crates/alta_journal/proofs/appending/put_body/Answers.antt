use Rattle.std.proofs.Common.{◌≡◌, List, ℕ, sym, ◌∙◌, ap, subst, rules}
use Rattle.std.proofs.lemmas.Slice.Eq.{bytes_eq-Decides}
use Rattle.alta_journal.proofs.Ahead.{holds_there, stands_written}
use Rattle.alta_journal.specs.Journal.{HasBytes, bytes_ahead}
use Rattle.alta_journal.proofs.appending.put_body.Goals as goal

-- it stands there already
pub returns-in-Some-clause-written : goal.returns-in-Some-clause-written
returns-in-Some-clause-written g c = λ told.
    let image = (g.D.Disk.state c.args.disk.now).content in
    let equal : c.bytes.result.now ≡ c.args.bytes.now = search (rules, bytes_eq-Decides c.bytes.result.now c.args.bytes.now, c.eq.ensures, c.if-eq.true) in
    let same : bytes_ahead c.args.ahead ≡ c.args.bytes.now = ap bytes_ahead c.in-Some.is ∙ sym c.bytes.ensures.bytes ∙ equal in
    holds_there c.args.at c.args.bytes.now image (subst (λ (l : List ℕ). HasBytes c.args.at l image) same (c.requires.stands.content told))

pub returns-in_default-clause-stands : goal.returns-in_default-clause-stands
returns-in_default-clause-stands g c =
    stands_written g.D.Disk.tells _ (g.met.D.Disk.lawful c.write_synced.new.disk) c.args.at c.args.bytes.now _ c.write_synced.result c.requires.inside c.write_synced.ensures.syncs.durable c.write_synced.ensures.written
