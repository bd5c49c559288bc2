use Rattle.std.proofs.Common.{◌+◌, ◌-◌, ◌*◌, arith}
use Rattle.alta_words.specs.Held.{word_list}
use Rattle.alta_words.proofs.Near.{near_from}
use Rattle.alta_words.proofs.Stands.{behind_low, row_later, row_begins}
use Rattle.alta_words.proofs.word.WordReader.way_to.Goals as goal

pub returns-then-place-self-clause-behind : goal.returns-then-place-self-clause-behind
returns-then-place-self-clause-behind c =
    let s = c.args.self.now in
    let (i, x) = c.requires.sound.stands in
    (i + 1, behind_low (word_list s) i s.standing x (omega (arith, c.requires.above, c.requires.top)))

pub returns-then-place-self-clause-near : goal.returns-then-place-self-clause-near
returns-then-place-self-clause-near c =
    let s = c.args.self.now in
    near_from s.stream s.summary.bytes s.summary.count c.requires.sound.posting c.args.row c.args.to c.row-place.result.place s.standing.place s.standing.at
    c.requires.within c.requires.reached c.requires.top c.row-place.ensures.place (omega (arith, c.if-place-self.true))

pub overflow_sub-row : goal.overflow_sub-row
overflow_sub-row c =
    let s = c.args.self.now in
    let far = row_later s.stream s.summary.bytes s.summary.count c.requires.sound.posting c.args.row c.row-place.result.place s.standing.place in
    omega (arith, far c.requires.within c.row-place.ensures.place (omega (arith, c.if-place-self.false)))

pub returns-clause-behind : goal.returns-clause-behind
returns-clause-behind c =
    let s = c.args.self.now in
    let far = row_later s.stream s.summary.bytes s.summary.count c.requires.sound.posting c.args.row c.row-place.result.place s.standing.place in
    let some = far c.requires.within c.row-place.ensures.place (omega (arith, c.if-place-self.false)) in (
      64 * c.args.row,
      row_begins s.stream s.summary.bytes s.summary.count c.requires.sound.posting c.args.row c.row-place.result.place c.last.result c.requires.within some
          c.row-place.ensures.place c.last.ensures,
    )

pub returns-clause-near : goal.returns-clause-near
returns-clause-near c =
    let s = c.args.self.now in
    near_from s.stream s.summary.bytes s.summary.count c.requires.sound.posting c.args.row c.args.to c.row-place.result.place c.row-place.result.place c.last.result
    c.requires.within c.requires.reached c.requires.top c.row-place.ensures.place (omega arith)

pub returns-clause-low : goal.returns-clause-low
returns-clause-low c =
    let s = c.args.self.now in
    let far = row_later s.stream s.summary.bytes s.summary.count c.requires.sound.posting c.args.row c.row-place.result.place s.standing.place in
    let some = far c.requires.within c.row-place.ensures.place (omega (arith, c.if-place-self.false)) in
    omega (arith, c.last.ensures, c.requires.passed (c.args.row - 1) (omega (arith, some)))
