use Rattle.std.proofs.Common.{◌≡◌, ℕ, refl}
use Rattle.std.proofs.lemmas.Result.{IfOk-weaker, MatchResult-weaker}
use Rattle.alta_layout.specs.Places.{half_start}
use Rattle.alta_disk.specs.Answers.{IsNoDamage}
use Rattle.alta_journal.specs.Placed.{IsReplay, placed}
use Rattle.alta_journal.specs.Places.{half_at}
use Rattle.alta_disk.specs.declared.fault.LoadFault.TheVariants.{Damaged}
use Rattle.alta_journal.proofs.ReadingSteps.{broken_half, replay_is, same_replay, no_damage, match_both}
use Rattle.alta_journal.proofs.Unique.{one_fault, not_both}
use Rattle.alta_journal.proofs.replaying.replay.Goals as goal

pub returns-clause-read : goal.returns-clause-read
returns-clause-read g c = λ told.
    let start = half_start c.args.slot in
    let content = (g.D.Disk.state c.args.disk.now).content in
    IfOk-weaker c.read_half.result _ (λ r. IsReplay c.args.version start r.0.items r.1.place content)
    (λ r read. replay_is c.args.version start (half_at start content) content refl (c.requires.size told) r.0.items r.1.place read) (c.read_half.ensures.read told)

pub returns-clause-damaged : goal.returns-clause-damaged
returns-clause-damaged g c = λ told.
    let start = half_start c.args.slot in
    let content = (g.D.Disk.state c.args.disk.now).content in
    MatchResult-weaker c.read_half.result (c.read_half.ensures.damaged told) (λ r nothing. nothing)
    (λ e damaged place is. broken_half c.args.version start place (half_at start content) content refl (c.requires.size told) (damaged place is))

pub returns-clause-sound : goal.returns-clause-sound
returns-clause-sound g c = λ told tail entries ends.
    let start = half_start c.args.slot in
    let content = (g.D.Disk.state c.args.disk.now).content in
    match_both c.read_half.result _ (λ r. (r.0.items ≡ placed start entries) × (r.1.place ≡ tail)) _ IsNoDamage (c.read_half.ensures.read told) (returns-clause-damaged g c told)
    (λ r read. same_replay c.args.version start r.1.place tail r.0.items entries content
    (replay_is c.args.version start (half_at start content) content refl (c.requires.size told) r.0.items r.1.place read) ends)
    (λ e damaged. no_damage c.args.version start tail entries content ends e damaged)

pub returns-clause-broken : goal.returns-clause-broken
returns-clause-broken g c = λ told place broken.
    let start = half_start c.args.slot in
    let content = (g.D.Disk.state c.args.disk.now).content in
    match_both c.read_half.result _ (λ r. ⊥) _ (λ e. (other : ℕ) → e ≡ Damaged other → other ≡ place) (c.read_half.ensures.read told) (returns-clause-damaged g c told)
    (λ r read. let replay = replay_is c.args.version start (half_at start content) content refl (c.requires.size told) r.0.items r.1.place read in
    not_both c.args.version start r.1.place place replay.0 content replay.2 broken)
    (λ e damaged other is. one_fault c.args.version start other place content (damaged other is) broken)
