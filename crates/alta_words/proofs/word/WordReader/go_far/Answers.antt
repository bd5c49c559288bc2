use Rattle.std.proofs.Common.{◌-◌, length, arith}
use Rattle.alta_codec.proofs.Places.{first_from-above}
use Rattle.alta_words.specs.Held.{word_list}
use Rattle.alta_words.proofs.Stands.{stands_behind, row_follows}
use Rattle.alta_words.proofs.word.WordReader.go_far.Goals as goal

pub returns-then-self-to-clause-sound : goal.returns-then-self-to-clause-sound
returns-then-self-to-clause-sound c =
    let s = c.args.self.now in
    let h = c.requires.sound in
    let x = stands_behind (word_list s) s.standing.place s.end c.args.to h.posting.spelled.rising h.ends c.if-self-to.true c.requires.top in
    record { posting = h.posting; stands = (length (word_list s), x.0); reaches = h.reaches; passed = λ some. omega (arith, h.passed some, c.requires.above, c.requires.top); ends = h.ends }

pub returns-then-self-to-clause-place : goal.returns-then-self-to-clause-place
returns-then-self-to-clause-place c =
    let s = c.args.self.now in
    let h = c.requires.sound in
    (stands_behind (word_list s) s.standing.place s.end c.args.to h.posting.spelled.rising h.ends c.if-self-to.true c.requires.top).1

pub find_after-row-requires : goal.find_after-row-requires
find_after-row-requires c =
    let s = c.args.self.now in
    let h = c.requires.sound in
    let (within, passed, there) =
    row_follows s.stream s.summary.bytes s.summary.count h.posting s.row s.reach s.end c.args.to h.reaches h.ends c.requires.far (omega (arith, c.if-self-to.false)) in
    record { within = within; passed = passed; there = there }

pub returns-clause-sound : goal.returns-clause-sound
returns-clause-sound c =
    let s = c.args.self.now in
    let h = c.requires.sound in
    let e = c.first_at-self.ensures in
    record {
      posting = h.posting;
      stands = e.stands;
      reaches = record { some = λ _. (c.find_after-row.ensures.within, c.last-self.ensures); none = λ none. absurd (omega (arith, c.find_after-row.ensures.within)) };
      passed = λ some. omega (arith, e.at, first_from-above (word_list s) c.args.to c.requires.top, c.find_after-row.ensures.before (c.find_after-row.result - 1) (omega (arith, some)));
      ends = h.ends;
    }
