use Rattle.std.proofs.Common.{◌≡◌, ◌-◌, ◌≤◌, length, drop}
use Rattle.std.specs.Str.{IsCharBoundary}
use Rattle.alta_machine.specs.Spots.{spots, spots_from}
use Rattle.alta_machine.specs.Parser.{parse_of}
use Rattle.alta_query.specs.Kept.{state_of}
use Rattle.alta_query.specs.Texts.{IsTextState}
use Rattle.alta_query.proofs.Seen.{run_seen}
use Rattle.alta_query.proofs.reading.read.Given as goal

abbrev pub invariant-loop-at : goal.invariant-loop-at
invariant-loop-at l = record {
  within : l.at ≤ length l.text;
  boundary : IsCharBoundary l.text l.at;
  few : l.machine.words ≤ 64;
  texts : IsTextState (state_of l.machine);
  same : run_seen l.seen (state_of l.machine) (spots_from l.at 0 (drop l.at l.text)) (length l.text) ≡ parse_of (spots l.text) (length l.text);
}

abbrev pub decreases-loop-at : goal.decreases-loop-at
decreases-loop-at l = length l.text - l.at
