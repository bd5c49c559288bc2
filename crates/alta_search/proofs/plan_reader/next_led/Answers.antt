use Rattle.alta_search.proofs.LeadMoves.{led_onward}
use Rattle.alta_search.proofs.plan_reader.next_led.Goals as goal

pub returns-clause-moves : goal.returns-clause-moves
returns-clause-moves g c = led_onward c.args.reader.now c.next.new.self c.args.steps.now c.next.new.steps c.next.ensures.same c.next.ensures.moves
